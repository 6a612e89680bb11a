-- What a session's turn makes of what its open transaction has run.
use Rattle.std.proofs.Common.{◌≡◌, ℕ, suc, ◌<◌, ◌≤◌, List, [], Option, None, Some, true, length, map, drop, refl, ap, sym, ◌∙◌, subst, arith}
use Rattle.std.specs.Prelude.{IfSome, slice_get, ◌&&◌, ◌==◌, is_none}
use Rattle.std.specs.Option.{option_map}
use Rattle.std.proofs.lemmas.Bool.{and_from, eq-eqb}
use Rattle.std.proofs.lemmas.List.{take_all}
use Rattle.hy_value.specs.declared.Value.{Value}
use Rattle.hy_bound.specs.declared.Assign.{Assign}
use Rattle.hy_bound.specs.Condition.{Condition}
use Rattle.hy_bound.specs.Predicate.{truth_of}
use Rattle.hy_bound.specs.Assignment.{assigned}
use Rattle.hy_bound.specs.declared.Txn.{Txn}
use Rattle.hy_bound.specs.declared.Bound.{Bound}
use Rattle.hy_bound.specs.declared.Bound.TheVariants.{Select, Group, Insert, Update, Delete, Savepoint, RollbackTo, Release}
use Rattle.hy_bound.specs.declared.Reply.TheVariants.{Saved as SaysSaved, Back, Released}
use Rattle.hy_bound.specs.Savepoints.{saved_after}
use Rattle.hy_bound.specs.SavedRelations.{AreAlike, saved_after_alike}
use Rattle.hy_bound.specs.declared.WriteKind.TheVariants as kind
use Rattle.hy_meaning.specs.Statement.{answer_of, grouped}
use Rattle.hy_bound.specs.declared.Reply.{Reply}
use Rattle.hy_bound.specs.declared.Ending.{Ending}
use Rattle.hy_bound.specs.declared.Ending.TheVariants.{RolledBack}
use Rattle.hy_machine.specs.declared.Setting.{Setting}
use Rattle.hy_protocol.specs.declared.Phase.{Phase}
use Rattle.hy_protocol.specs.declared.Phase.TheVariants.{Working, Stamping, Undoing}
use Rattle.hy_machine.specs.States.{State, Begun}
use Rattle.hy_protocol.specs.Turns.{Ends}
use Rattle.hy_machine.specs.Writes.{blank_own, with_writes}
use Rattle.hy_machine.specs.Kept.{TrailFits}
use Rattle.hy_machine.specs.Saving.{taken_back}
use Rattle.hy_machine.specs.Tables.{Cell, Tables, Own}
use Rattle.hy_machine.specs.Sessions.{session_at, blocker, snapshot, view}
use Rattle.hy_machine.specs.Visits.{swept}
use Rattle.hy_machine.specs.Turns.{rows_seen, statement_turn}
use Rattle.hy_machine.specs.Turns.{phase_turn}
use Rattle.hy_replay.specs.Ran.{Ran, one}
use Rattle.hy_lawful.proofs.Refusals.{is_invalid}
use Rattle.hy_lawful.proofs.RunAnswers.{OwnBehind, IsRun, SavesNext}
use Rattle.hy_lawful.proofs.RunBacks.{HasBacked, one_more_backed, all_backed}
use Rattle.hy_lawful.proofs.RunVisits.{At, Undone, Stands, RunTurn, IsNext, Writes, visits, read_run, write_run}
use Rattle.hy_lawful.proofs.RunInserts.{insert_run}
use Rattle.hy_machine.specs.TurnCases.{SaveCases, BackCases, UndoCases, CommitCases, statement_cases, undo_cases, stamp_cases, working_cases}

-- ---- statements

-- a transaction that works, of which so many visits of the present statement are done
record Works (setting : Setting) (state : State) (statements : List Bound) (number : ℕ) (begun : Begun) (given : Ran) (visited count : ℕ) : Type 0 where
  chunks : 0 < setting.chunks
  trail : TrailFits setting begun
  run : IsRun setting (snapshot setting state begun.prefix) statements begun given
  is : (session_at state number).now ≡ Some (record { begun = begun; phase = Working visited count })
  low : begun.low ≤ begun.prefix

abbrev made : Option (List Value) → Option Cell
made given = option_map Some given

none_assigned : (given : Option (List Value)) → made given ≡ None → is_none given ≡ true
none_assigned None e = refl
none_assigned (Some row) e = absurd cc

update_writes : (table : ℕ) (sets : List Assign) (pred : Condition) → Writes (Update table sets pred) (kind.Set sets) pred table
update_writes table sets pred = record {
  selects = λ row t. and_from (table == table) (truth_of pred row) (eq-eqb table table refl) t;
  goes_out = λ row t n. and_from (table == table && truth_of pred row) (is_none (assigned sets row))
      (and_from (table == table) (truth_of pred row) (eq-eqb table table refl) t) (none_assigned (assigned sets row) n);
}

delete_writes : (table : ℕ) (pred : Condition) → Writes (Delete table pred) kind.Delete pred table
delete_writes table pred = record {
  selects = λ row t. and_from (table == table) (truth_of pred row) (eq-eqb table table refl) t;
  goes_out = λ row t n. absurd cc;
}

-- ---- savepoints

-- a statement that makes savepoints, or leaves some
save_run : (setting : Setting) (state : State) (statements : List Bound) (number : ℕ) (begun : Begun) (given : Ran) (statement : Bound) (reply : Reply)
    → (blocker state number ≡ None → SavesNext setting (snapshot setting state begun.prefix) statements begun given statement reply)
    → SaveCases state number (RunTurn setting (snapshot setting state begun.prefix) statements begun given) statement reply
save_run setting state statements number begun given statement reply h = record { waits = λ by is. tt; saves = h }

-- savepoints that are left keep what they kept
left_saved : (setting : Setting) (begun : Begun) (given : Ran) (statement : Bound) → AreAlike (OwnBehind setting begun.trail) begun.saved given.saved
    → AreAlike (OwnBehind setting begun.trail) (saved_after statement begun.saved 0) (saved_after statement given.saved (blank_own setting))
left_saved setting begun given statement h =
    saved_after_alike (OwnBehind setting begun.trail) statement begun.saved given.saved 0 (blank_own setting) h
    (record { within = omega arith; own_is = refl })

-- a savepoint more keeps what is own
made_saved : (setting : Setting) (begun : Begun) (given : Ran) (name : List ℕ) → TrailFits setting begun → given.own ≡ begun.own
    → AreAlike (OwnBehind setting begun.trail) begun.saved given.saved
    → AreAlike (OwnBehind setting begun.trail) (saved_after (Savepoint name) begun.saved (length begun.trail))
    (saved_after (Savepoint name) given.saved given.own)
made_saved setting begun given name trail same h =
    saved_after_alike (OwnBehind setting begun.trail) (Savepoint name) begun.saved given.saved (length begun.trail) given.own h (record {
      within = omega arith;
      own_is = same ∙ (trail.own_is ∙ ap (with_writes (blank_own setting)) (sym (take_all (length begun.trail) begun.trail (omega arith))));
    })

-- a visit of a ROLLBACK TO
back_run : (setting : Setting) (state : State) (statements : List Bound) (number : ℕ) (begun : Begun) (given : Ran) (visited : ℕ) (name : List ℕ)
    → TrailFits setting begun → IsRun setting (snapshot setting state begun.prefix) statements begun given → IsNext statements begun (RollbackTo name)
    → HasBacked setting (snapshot setting state begun.prefix) begun given visited name
    → BackCases setting state number begun (RunTurn setting (snapshot setting state begun.prefix) statements begun given) visited name
back_run setting state statements number begun given visited name trail run n backed = record {
  goes = λ chunk here.
      visits setting (snapshot setting state begun.prefix) statements begun given (RollbackTo name) (taken_back setting state begun name chunk.0 chunk.1)
      (suc visited) 0 n (one_more_backed setting state begun given visited name chunk trail here backed);
  ends = λ none. save_run setting state statements number begun given (RollbackTo name) Back (λ free. record {
    here = n.here;
    gives = refl;
    own = all_backed setting (snapshot setting state begun.prefix) statements begun given visited name trail run none backed;
    saved = left_saved setting begun given (RollbackTo name) run.saved;
  });
}

-- ---- any statement

statement_run : (setting : Setting) (state : State) (statements : List Bound) (number : ℕ) (begun : Begun) (given : Ran) (visited count : ℕ)
    (statement : Bound) → Works setting state statements number begun given visited count → IsNext statements begun statement
    → At setting (snapshot setting state begun.prefix) begun given visited count (Some statement)
    → RunTurn setting (snapshot setting state begun.prefix) statements begun given (statement_turn setting state number begun visited count statement)
statement_run setting state statements number begun given visited count (Select from ons pred items) w n at =
    read_run setting (snapshot setting state begun.prefix) statements begun given visited (length from) (Select from ons pred items)
    (map (rows_seen (view setting state begun)) from) (answer_of ons pred items (map (rows_seen (view setting state begun)) from)) n
    (record { own = λ saved own. refl; saved = λ saved own. refl }) at
    (ap (λ (own : Own). one setting (snapshot setting state begun.prefix) own (suc (length begun.replies)) (Select from ons pred items) None) at)
statement_run setting state statements number begun given visited count (Group table pred key aggregate) w n at =
    read_run setting (snapshot setting state begun.prefix) statements begun given visited 1 (Group table pred key aggregate) []
    (grouped pred key aggregate (rows_seen (view setting state begun) table)) n (record { own = λ saved own. refl; saved = λ saved own. refl }) at
    (ap (λ (own : Own). one setting (snapshot setting state begun.prefix) own (suc (length begun.replies)) (Group table pred key aggregate) None) at)
statement_run setting state statements number begun given visited count (Insert table row) w n at =
    insert_run setting state statements number begun given visited count table row w.chunks w.is w.low n at
statement_run setting state statements number begun given visited count (Update table sets pred) w n at =
    write_run setting state statements number begun given visited count (Update table sets pred) (kind.Set sets) pred table n
    (record { own = λ saved own. refl; saved = λ saved own. refl }) (update_writes table sets pred) (λ later v c s. s) refl at
    (swept setting state number begun (kind.Set sets) pred table visited) refl
statement_run setting state statements number begun given visited count (Delete table pred) w n at =
    write_run setting state statements number begun given visited count (Delete table pred) kind.Delete pred table n
    (record { own = λ saved own. refl; saved = λ saved own. refl }) (delete_writes table pred) (λ later v c s. s) refl at
    (swept setting state number begun kind.Delete pred table visited) refl
statement_run setting state statements number begun given visited count (Savepoint name) w n at =
    let tables : Tables = snapshot setting state begun.prefix in
    statement_cases setting state number begun (RunTurn setting tables statements begun given) visited count (Savepoint name)
    (save_run setting state statements number begun given (Savepoint name) SaysSaved
    (λ free. record { here = n.here; gives = refl; own = at; saved = made_saved setting begun given name w.trail at w.run.saved }))
statement_run setting state statements number begun given visited count (RollbackTo name) w n at =
    let tables : Tables = snapshot setting state begun.prefix in
    statement_cases setting state number begun (RunTurn setting tables statements begun given) visited count (RollbackTo name)
    (back_run setting state statements number begun given visited name w.trail w.run n at)
statement_run setting state statements number begun given visited count (Release name) w n at =
    let tables : Tables = snapshot setting state begun.prefix in
    statement_cases setting state number begun (RunTurn setting tables statements begun given) visited count (Release name)
    (save_run setting state statements number begun given (Release name) Released
    (λ free. record { here = n.here; gives = refl; own = at; saved = left_saved setting begun given (Release name) w.run.saved }))

-- ---- what closes a transaction

-- what is undone has not committed
undone_run : (setting : Setting) (tables : Tables) (statements : List Bound) (begun : Begun) (given : Ran) (cause : Ending)
    → Undone setting tables begun given (slice_get statements (length begun.replies)) cause
    → RunTurn setting tables statements begun given (Ends cause)
undone_run setting tables statements begun given cause h =
    (subst (λ (rank : Option ℕ). IfSome rank (λ (rank : ℕ). given.own ≡ begun.own)) (sym h.0) tt, h.1)

undo_run : (setting : Setting) (state : State) (statements : List Bound) (number : ℕ) (begun : Begun) (given : Ran) (visited : ℕ) (cause : Ending)
    → Stands setting (snapshot setting state begun.prefix) statements begun given (Undoing visited cause)
    → UndoCases setting state number begun (RunTurn setting (snapshot setting state begun.prefix) statements begun given) visited cause
undo_run setting state statements number begun given visited cause h = record {
  goes = λ few. h;
  waits = λ by is. tt;
  ends = λ free. undone_run setting (snapshot setting state begun.prefix) statements begun given cause h;
}

commit_run : (setting : Setting) (state : State) (statements : List Bound) (number : ℕ) (begun : Begun) (given : Ran) → given.own ≡ begun.own
    → CommitCases state number begun (RunTurn setting (snapshot setting state begun.prefix) statements begun given)
commit_run setting state statements number begun given same = record {
  waits = λ by is. tt;
  reads = λ free nothing. (tt, tt);
  enters = λ free some e. same;
  out = λ some cause e.
      is_invalid (λ (one : Ending). Undone setting (snapshot setting state begun.prefix) begun given (slice_get statements (length begun.replies)) one)
      begun.records (drop begun.prefix state.order) cause (λ table pos label statement. (refl, tt)) e;
}

-- the turn of an open transaction
pub phase_run : (setting : Setting) (state : State) (number : ℕ) (txn : Txn) (begun : Begun) (given : Ran) → 0 < setting.chunks
    → begun.low ≤ begun.prefix → TrailFits setting begun
    → IsRun setting (snapshot setting state begun.prefix) txn.statements begun given
    → (phase : Phase) → (session_at state number).now ≡ Some (record { begun = begun; phase = phase })
    → Stands setting (snapshot setting state begun.prefix) txn.statements begun given phase
    → RunTurn setting (snapshot setting state begun.prefix) txn.statements begun given (phase_turn setting state number txn begun phase)
phase_run setting state number txn begun given chunks low trail run (Working visited count) is h =
    let tables : Tables = snapshot setting state begun.prefix in
    let same : slice_get txn.statements (length begun.replies) ≡ None → given.own ≡ begun.own =
    λ none. subst (At setting tables begun given visited count) none h in
    working_cases setting state number begun (RunTurn setting tables txn.statements begun given) txn visited count
    (λ statement e. statement_run setting state txn.statements number begun given visited count statement
    (record { chunks = chunks; trail = trail; run = run; is = is; low = low }) (record { here = e }) (subst (At setting tables begun given visited count) e h))
    (λ none commits. commit_run setting state txn.statements number begun given (same none))
    (λ none rolls. undo_run setting state txn.statements number begun given 0 RolledBack (refl, tt))
phase_run setting state number txn begun given chunks low trail run (Stamping visited) is h =
    stamp_cases setting state number begun (RunTurn setting (snapshot setting state begun.prefix) txn.statements begun given) visited (λ few. h) (h, tt)
phase_run setting state number txn begun given chunks low trail run (Undoing visited cause) is h =
    undo_cases setting state number begun (RunTurn setting (snapshot setting state begun.prefix) txn.statements begun given) visited cause
    (undo_run setting state txn.statements number begun given visited cause h)
