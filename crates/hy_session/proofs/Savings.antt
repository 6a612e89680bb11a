-- What a session does at the core: for a statement that opens or closes savepoints, and for what closes a transaction.
use Rattle.std.proofs.Common.{◌≡◌, ℕ, zero, suc, List, [], ◌∷◌, Bool, true, false, Option, None, Some, ◌≤◌, length, refl, sym, ap, ◌∙◌, subst, arith}
use Rattle.std.specs.Prelude.{Result, Ok, Err, IfOk, OnErr, nat_lt, slice_get, if◌then◌else◌}
use Rattle.std.specs.Option.{option_map}
use Rattle.std.proofs.lemmas.Bool.{le-ltb}
use Rattle.hy_value.specs.declared.change.Change.{Change}
use Rattle.hy_bound.specs.declared.Bound.{Bound}
use Rattle.hy_bound.specs.declared.Bound.TheVariants.{Select, Group, Insert, Update, Delete, Savepoint, RollbackTo, Release}
use Rattle.hy_bound.specs.declared.Ending.{Ending}
use Rattle.hy_bound.specs.declared.Ending.TheVariants.{RolledBack, Committed}
use Rattle.hy_bound.specs.declared.Reply.{Reply}
use Rattle.hy_bound.specs.declared.Txn.{Txn}
use Rattle.hy_journal.specs.declared.CoreData.{CoreData}
use Rattle.hy_protocol.specs.Asking.{AtCore}
use Rattle.hy_protocol.specs.Closing.{closing_turn, commit_turn, stamp_turn, undo_turn}
use Rattle.hy_protocol.specs.Sessions as by_phase
use Rattle.hy_protocol.specs.Statements.{saving_turn}
use Rattle.hy_protocol.specs.Turns.{Turn, Done, Visits, Ends, unless_blocked}
use Rattle.hy_protocol.specs.declared.Progress.{Progress}
use Rattle.hy_protocol.specs.declared.Progress.TheVariants.{Answered, Ended}
use Rattle.hy_protocol.specs.declared.Phase.{Phase}
use Rattle.hy_protocol.specs.declared.Phase.TheVariants.{Working, Stamping, Undoing}
use Rattle.hy_event.specs.CoreTurns.{found_at_core, if_core, open_turn, phase_turn, statement_turn}
use Rattle.hy_event.specs.declared.Need.{Need}
use Rattle.hy_event.specs.declared.Need.TheVariants.{Core, Chunk}
use Rattle.hy_event.specs.Ended.{statements_in}
use Rattle.hy_event.specs.Needs.{checks_of, chunk_or_core, insert_need, phase_need, statement_need, working_need}
use Rattle.hy_event.specs.Sessions.{txn_at, written_chunks}
use Rattle.hy_event.specs.declared.Open.{Open}
use Rattle.hy_event.specs.declared.SessionData.{SessionData}
use Rattle.hy_event.specs.Turns.{Takes, after_saving, with_open}
use Rattle.hy_session.specs.Limits.{IsInOrder}
use Rattle.hy_session.proofs.OpenSavepoints.{saved_in_order}
use Rattle.hy_session.specs.CoreSteps.{open_after, reply_if, saved_turn, saving_if, saving_in, saving_of, saving_reply}

-- ---- what is needed is the core

if_needed : (need : Need) (turn : Turn Change) → need ≡ Core → if_core need turn ≡ Some turn
if_needed need turn needs = ap (λ (n : Need). if_core n turn) needs

-- where no chunk is left, all are visited
none_past : (chunks : List (ℕ × ℕ)) (visited : ℕ) → chunk_or_core (slice_get chunks visited) ≡ Core → length chunks ≤ visited
none_past [] visited e = omega arith
none_past (chunk ∷ chunks) zero e = absurd (cc e)
none_past (chunk ∷ chunks) (suc visited) e = let rest = none_past chunks visited e in omega (arith, rest)

none_left : (chunks : List (ℕ × ℕ)) (visited : ℕ) → chunk_or_core (slice_get chunks visited) ≡ Core → nat_lt visited (length chunks) ≡ false
none_left chunks visited e = le-ltb visited (length chunks) (none_past chunks visited e)

undone : (core : AtCore) (visited : ℕ) (ending : Ending) → nat_lt visited (length core.written) ≡ false
    → undo_turn {W = Change} core visited ending ≡ unless_blocked core.blocked (Ends ending)
undone core visited ending none =
    ap (λ (b : Bool). if b then Visits [] (Undoing (suc visited) ending) else unless_blocked core.blocked (Ends ending)) none

all_stamped : (core : AtCore) (visited : ℕ) → nat_lt visited (length core.written) ≡ false
    → stamp_turn {W = Change} core.written core.last visited ≡ Ends (Committed core.last)
all_stamped core visited none = ap (λ (b : Bool). if b then Visits [] (Stamping (suc visited)) else Ends (Committed core.last)) none

not_core : (first : Bool) (table one other : ℕ) → (if first then Chunk table one else Chunk table other) ≡ Core → ⊥
not_core true table one other e = absurd (cc e)
not_core false table one other e = absurd (cc e)

-- ---- the present statement of a session

pub saving_is : (session : SessionData) (txn : Txn) (now : Open) (statement : Bound) → txn_at session ≡ Some txn → session.now ≡ Some now
    → slice_get txn.statements (length now.replies) ≡ Some statement → saving_of session ≡ saved_turn statement (saving_reply statement)
saving_is session txn now statement there opened present =
    ap (saving_in session) opened
    ∙ ap saving_if (ap (λ (t : Option Txn). slice_get (statements_in t) (length now.replies)) there ∙ present)

present_saving : (session : SessionData) (txn : Txn) (now : Open) → txn_at session ≡ Some txn → session.now ≡ Some now
    → saving_of session ≡ saving_if (slice_get txn.statements (length now.replies))
present_saving session txn now there opened =
    ap (saving_in session) opened ∙ ap (λ (t : Option Txn). saving_if (slice_get (statements_in t) (length now.replies))) there

-- an open transaction that answers it is of a session that took its turn
module _ (session : SessionData) (now : Open) (opened : session.now ≡ Some now) where
  nothing_taken : (after : Open) (progress : Progress) → ◌≡◌ {A = Open × Progress} (after, progress) (now, Ended) → Takes session Done progress (with_open after session)
  nothing_taken after progress is =
      ap (λ (both : Open × Progress). (with_open both.0 session, both.1)) is
      ∙ ap (λ (one : Option Open). (record session { now = one }, Ended)) (sym opened)

  one_taken : (statement : Bound) (reply : Option Reply) (after : Open) (progress : Progress) → (after, progress) ≡ open_after (Some statement) reply now
      → Takes session (saved_turn statement reply) progress (with_open after session)
  one_taken statement None after progress is = nothing_taken after progress is
  one_taken statement (Some reply) after progress is =
      ap (λ (both : Open × Progress). (with_open both.0 session, both.1)) is
      ∙ ap (λ (one : Option Open). (record session { now = option_map (after_saving statement reply) one }, Answered)) (sym opened)

  pub saving_taken : (statement : Option Bound) (after : Open) (progress : Progress) → (after, progress) ≡ open_after statement (reply_if statement) now
      → Takes session (saving_if statement) progress (with_open after session)
  saving_taken None after progress is = nothing_taken after progress is
  saving_taken (Some statement) after progress is = one_taken statement (saving_reply statement) after progress is

pub takes_saving : (session : SessionData) (txn : Txn) (now after : Open) (progress : Progress) (statement : Option Bound) → txn_at session ≡ Some txn
    → session.now ≡ Some now → slice_get txn.statements (length now.replies) ≡ statement → (after, progress) ≡ open_after statement (reply_if statement) now
    → Takes session (saving_of session) progress (with_open after session)
takes_saving session txn now after progress statement there opened present is =
    subst (λ (turn : Turn Change). Takes session turn progress (with_open after session))
    (sym (present_saving session txn now there opened ∙ ap saving_if present))
    (saving_taken session now opened statement after progress is)

-- and what it notes stays in order
opened_in_order : (statement : Option Bound) (reply : Option Reply) (now : Open) → IsInOrder now → IsInOrder (open_after statement reply now).0
opened_in_order None reply now order = order
opened_in_order (Some statement) None now order = order
opened_in_order (Some statement) (Some reply) now order =
    record { notes = order.notes; saved = saved_in_order statement now.saved order.saved; wrote = order.wrote }

pub saving_in_order : {E : Type 0} (statement : Option Bound) (now after : Open) (result : Result Progress E) → IsInOrder now
    → IfOk result (λ progress. (after, progress) ≡ open_after statement (reply_if statement) now) → OnErr result (after ≡ now) → IsInOrder after
saving_in_order {E = E} statement now after (Ok progress) order is kept =
    subst IsInOrder (sym (ap (λ (both : Open × Progress). both.0) is)) (opened_in_order statement (reply_if statement) now order)
saving_in_order {E = E} statement now after (Err e) order is kept = subst IsInOrder (sym kept) order

-- ---- turns at the core

module _ (session : SessionData) (core : CoreData) (txn : Txn) (now : Open) where
  abbrev found : AtCore
  found = found_at_core session core now

  is_answered : (visited : ℕ) (statement : Bound) → statement_need session now visited statement ≡ Core
      → saving_turn {W = Change} found statement ≡ unless_blocked found.blocked (saved_turn statement (saving_reply statement))
  is_answered visited (Select tables ons pred items) needs = absurd (cc needs)
  is_answered visited (Group table pred key aggregate) needs = absurd (cc needs)
  is_answered visited (Insert table row) needs =
      absurd (not_core _ _ _ _ needs)
  is_answered visited (Update table sets pred) needs = absurd (cc needs)
  is_answered visited (Delete table pred) needs = absurd (cc needs)
  is_answered visited (Savepoint name) needs = refl
  is_answered visited (RollbackTo name) needs = refl
  is_answered visited (Release name) needs = refl

  module _ (needs : phase_need session txn now now.phase ≡ Core) where
    at_core : phase_turn session core txn now now.phase ≡ Some (open_turn session core txn now now.phase)
    at_core = if_needed (phase_need session txn now now.phase) (open_turn session core txn now now.phase) needs

    module _ (visited count : ℕ) (works : now.phase ≡ Working visited count) where
      pub saves : (statement : Bound) → txn_at session ≡ Some txn → session.now ≡ Some now → slice_get txn.statements (length now.replies) ≡ Some statement
          → phase_turn session core txn now now.phase ≡ Some (unless_blocked found.blocked (saving_of session))
      saves statement there opened present =
          let needed : statement_need session now visited statement ≡ Core =
          sym (ap (phase_need session txn now) works ∙ ap (working_need session txn now visited) present) ∙ needs in
          at_core
          ∙ ap Some (ap (open_turn session core txn now) works
          ∙ (ap (by_phase.working_turn (statement_turn session core now) found txn visited count) present
          ∙ (is_answered visited statement needed ∙ ap (unless_blocked found.blocked) (sym (saving_is session txn now statement there opened present)))))

      closes : slice_get txn.statements (length now.replies) ≡ None → phase_turn session core txn now now.phase ≡ Some (closing_turn found txn.commits)
      closes none =
          at_core
          ∙ ap Some (ap (open_turn session core txn now) works ∙ ap (by_phase.working_turn (statement_turn session core now) found txn visited count) none)

      pub commits : slice_get txn.statements (length now.replies) ≡ None → txn.commits ≡ true
          → phase_turn session core txn now now.phase ≡ Some (commit_turn found)
      commits none ends = closes none ∙ ap (λ (b : Bool). Some (closing_turn found b)) ends

      pub rolls_back : slice_get txn.statements (length now.replies) ≡ None → txn.commits ≡ false
          → phase_turn session core txn now now.phase ≡ Some (unless_blocked found.blocked (Ends RolledBack))
      rolls_back none ends =
          let needed : chunk_or_core (slice_get (written_chunks session now) 0) ≡ Core =
          sym (ap (phase_need session txn now) works ∙ (ap (working_need session txn now visited) none
          ∙ ap (λ (b : Bool). if b then Core else chunk_or_core (slice_get (written_chunks session now) 0)) ends)) ∙ needs in
          closes none
          ∙ (ap (λ (b : Bool). Some (closing_turn found b)) ends ∙ ap Some (undone found 0 RolledBack (none_left (written_chunks session now) 0 needed)))

    pub leaves_so : (visited : ℕ) → now.phase ≡ Stamping visited → phase_turn session core txn now now.phase ≡ Some (Ends (Committed found.last))
    leaves_so visited stands =
        let needed : chunk_or_core (slice_get (written_chunks session now) visited) ≡ Core = sym (ap (phase_need session txn now) stands) ∙ needs in
        at_core
        ∙ ap Some (ap (open_turn session core txn now) stands ∙ all_stamped found visited (none_left (written_chunks session now) visited needed))

    pub ends_so : (visited : ℕ) (cause : Ending) → now.phase ≡ Undoing visited cause
        → phase_turn session core txn now now.phase ≡ Some (unless_blocked found.blocked (Ends cause))
    ends_so visited cause stands =
        let needed : chunk_or_core (slice_get (written_chunks session now) visited) ≡ Core = sym (ap (phase_need session txn now) stands) ∙ needs in
        at_core
        ∙ ap Some (ap (open_turn session core txn now) stands ∙ undone found visited cause (none_left (written_chunks session now) visited needed))
