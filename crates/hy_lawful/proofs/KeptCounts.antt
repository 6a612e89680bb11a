-- In each state that the machine comes to, no more transactions have come into the commit order than have begun: each that
-- has is one that has ended, or an open one whose chunks are stamped.
use Rattle.std.proofs.Common.{◌≡◌, ℕ, ◌+◌, ◌<◌, ◌≤◌, List, [], ◌∷◌, ◌++◌, Option, None, Some, length, ltb, refl, ap, sym, subst, arith, inl, inr}
use Rattle.std.specs.Prelude.{sum_by}
use Rattle.std.specs.Option.{option_map}
use Rattle.std.specs.List.{AllByRecursion}
use Rattle.std.proofs.lemmas.Bool.{cases_Bool}
use Rattle.std.proofs.lemmas.List.{length-append}
use Rattle.std.proofs.lemmas.List.Sums.{sum_by-set}
use Rattle.hy_bound.specs.declared.Bound.{Bound}
use Rattle.hy_bound.specs.declared.Txn.{Txn}
use Rattle.hy_machine.specs.declared.Setting.{Setting}
use Rattle.hy_protocol.specs.declared.Phase.{Phase}
use Rattle.hy_protocol.specs.declared.Phase.TheVariants.{Working, Stamping, Undoing}
use Rattle.hy_machine.specs.States.{State, Session, Open, Begun}
use Rattle.hy_machine.specs.Tables.{Entry}
use Rattle.hy_protocol.specs.Turns.{Turn, Done, Waits, Begins, Visits, Answers, Saves, Enters, Ends}
use Rattle.hy_machine.specs.Turns.{phase_turn, stamp_turn}
use Rattle.hy_machine.specs.Sessions.{fresh, session_at, entry_of}
use Rattle.hy_machine.specs.Writes.{Write, written_chunks}
use Rattle.hy_machine.specs.Steps.{with_session, beginning, after_visit, after_answer, after_saving, done_with, order_with, after_turn}
use Rattle.hy_machine.specs.Runs.{IsReached}
use Rattle.hy_machine.specs.Begun.{count_open, count_begun}
use Rattle.hy_lawful.proofs.FullTables.{sum_less}
use Rattle.hy_lawful.proofs.Moves.{moved_to}
use Rattle.hy_lawful.proofs.ReachedBy.{reached_by}
use Rattle.hy_lawful.proofs.KeptStands.{TurnStands, phase_stands}

-- one where a transaction stands between its entry and its end
abbrev count_stamping : Phase → ℕ
count_stamping (Working visited count) = 0
count_stamping (Stamping visited) = 1
count_stamping (Undoing visited cause) = 0

at_most : (phase : Phase) → count_stamping phase ≤ 1
at_most (Working visited count) = omega arith
at_most (Stamping visited) = omega arith
at_most (Undoing visited cause) = omega arith

abbrev count_entered : Option Open → ℕ
count_entered None = 0
count_entered (Some current) = count_stamping current.phase

-- how many transactions of a session may have come into the commit order
abbrev may_have_entered : Session → ℕ
may_have_entered session = length session.done + count_entered session.now

-- no more have come into it than may have
abbrev FewEntered : State → Type 0
FewEntered state = length state.order ≤ sum_by may_have_entered state.sessions

-- ---- turns

-- a turn of a transaction that stands so, which counts for this much, lets it count for no less as it goes on
abbrev TurnCounts : ℕ → Turn Write → Type 0
TurnCounts many Done = Unit {0}
TurnCounts many (Waits by) = Unit {0}
TurnCounts many Begins = ⊥
TurnCounts many (Visits writes phase) = many ≤ count_stamping phase
TurnCounts many (Answers writes reply took records) = many ≡ 0
TurnCounts many (Saves statement reply) = many ≡ 0
TurnCounts many Enters = many ≡ 0
TurnCounts many (Ends ending) = Unit {0}

-- one that counts for nothing loses nothing
nothing_lost : (setting : Setting) (statements : List Bound) (begun : Begun) (turn : Turn Write) → TurnStands setting statements begun turn → TurnCounts 0 turn
nothing_lost setting statements begun Done h = tt
nothing_lost setting statements begun (Waits by) h = tt
nothing_lost setting statements begun Begins h = absurd h
nothing_lost setting statements begun (Visits writes phase) h = omega arith
nothing_lost setting statements begun (Answers writes reply took records) h = refl
nothing_lost setting statements begun (Saves statement reply) h = refl
nothing_lost setting statements begun Enters h = refl
nothing_lost setting statements begun (Ends ending) h = tt

stamp_counts : (setting : Setting) (state : State) (begun : Begun) (visited : ℕ) → TurnCounts 1 (stamp_turn setting state begun visited)
stamp_counts setting state begun visited = elim (cases_Bool (ltb visited (length (written_chunks setting begun.own)))) [
  | inl t ↦ rw t omega arith
  | inr f ↦ rw f tt
]

phase_counts : (setting : Setting) (state : State) (number : ℕ) (txn : Txn) (begun : Begun) (phase : Phase)
    → TurnCounts (count_stamping phase) (phase_turn setting state number txn begun phase)
phase_counts setting state number txn begun (Working visited count) =
    nothing_lost setting txn.statements begun (phase_turn setting state number txn begun (Working visited count))
    (phase_stands setting state number txn begun (Working visited count))
phase_counts setting state number txn begun (Stamping visited) = stamp_counts setting state begun visited
phase_counts setting state number txn begun (Undoing visited cause) =
    nothing_lost setting txn.statements begun (phase_turn setting state number txn begun (Undoing visited cause))
    (phase_stands setting state number txn begun (Undoing visited cause))

-- ---- what a turn makes of the state

-- the order grows by no more than what the session counts for
moves_few : (state : State) (order : List Entry) (mark : Option ℕ) (number : ℕ) (session : Session) → FewEntered state → number < length state.sessions
    → length order + may_have_entered (session_at state number) ≤ length state.order + may_have_entered session
    → FewEntered (moved_to state order mark number session)
moves_few state order mark number session few there grows = omega (arith, few, grows, sum_by-set may_have_entered state.sessions number session fresh there)

turn_few : (setting : Setting) (state : State) (number : ℕ) (current : Open) → FewEntered state → number < length state.sessions
    → (session_at state number).now ≡ Some current → (turn : Turn Write) → TurnCounts (count_stamping current.phase) turn
    → FewEntered (after_turn setting state number turn).0
turn_few setting state number current few there is = by_turn
  where
    counts : count_entered (session_at state number).now ≡ count_stamping current.phase
    counts = ap count_entered is

    by_turn : (turn : Turn Write) → TurnCounts (count_stamping current.phase) turn → FewEntered (after_turn setting state number turn).0
    by_turn Done h = few
    by_turn (Waits by) h = few
    by_turn Begins h = absurd h
    by_turn (Visits writes phase) h =
        subst (λ (now : Option Open). FewEntered
        (with_session state number (record { done = (session_at state number).done; now = option_map (after_visit writes phase) now })))
        (sym is)
        (moves_few state state.order state.mark number
        (record { done = (session_at state number).done; now = Some (after_visit writes phase current) }) few there (omega (arith, h, counts)))
    by_turn (Answers writes reply took records) h =
        subst (λ (now : Option Open). FewEntered
        (with_session state number (record { done = (session_at state number).done; now = option_map (after_answer writes reply took records) now })))
        (sym is)
        (moves_few state state.order state.mark number
        (record { done = (session_at state number).done; now = Some (after_answer writes reply took records current) }) few there
        (omega (arith, h, counts)))
    by_turn (Saves statement reply) h =
        subst (λ (now : Option Open). FewEntered
        (with_session state number (record { done = (session_at state number).done; now = option_map (after_saving statement reply) now })))
        (sym is)
        (moves_few state state.order state.mark number
        (record { done = (session_at state number).done; now = Some (after_saving statement reply current) }) few there (omega (arith, h, counts)))
    by_turn Enters h =
        subst (λ (now : Option Open). FewEntered (moved_to state (order_with setting state number now) (Some number) number
        (record { done = (session_at state number).done; now = option_map (after_visit [] (Stamping 0)) now })))
        (sym is)
        (moves_few state (order_with setting state number (Some current)) (Some number) number
        (record { done = (session_at state number).done; now = Some (after_visit [] (Stamping 0) current) }) few there
        (omega (arith, h, counts, length-append state.order (entry_of setting state number current.begun ∷ []))))
    by_turn (Ends ending) h =
        subst (λ (now : Option Open). FewEntered
        (moved_to state state.order None number (record { done = done_with ending (session_at state number).done now; now = None })))
        (sym is)
        (moves_few state state.order None number
        (record { done = (session_at state number).done ++ record { begun = current.begun; ending = ending } ∷ []; now = None }) few there
        (omega (arith, counts, at_most current.phase, length-append (session_at state number).done (record { begun = current.begun; ending = ending } ∷ []))))

-- ---- steps

reached_few : (setting : Setting) (state : State) → IsReached setting state → FewEntered state
reached_few setting = reached_by setting FewEntered (record {
  begins = λ state number txn few may.
      let counts : count_entered (session_at state number).now ≡ 0 = ap count_entered may.rests in
      moves_few state state.order state.mark number
      (record { done = (session_at state number).done; now = Some (record { begun = beginning setting state; phase = Working 0 0 }) }) few may.there
      (omega (arith, counts));
  turns = λ state number txn current few takes. turn_few setting state number current few takes.there takes.is
      (phase_turn setting state number txn current.begun current.phase) (phase_counts setting state number txn current.begun current.phase);
}) (omega arith)

-- ---- what has come into the order has begun

open_counts : (now : Option Open) → count_entered now ≤ count_open now
open_counts None = omega arith
open_counts (Some current) = at_most current.phase

all_begun : (sessions : List Session)
    → AllByRecursion (λ (session : Session). may_have_entered session ≤ length session.done + count_open session.now) sessions
all_begun [] = tt
all_begun (session ∷ sessions) = (omega (arith, open_counts session.now), all_begun sessions)

pub few_kept : (setting : Setting) (state : State) → IsReached setting state → length state.order ≤ count_begun state
few_kept setting state r = omega (
  arith,
  reached_few setting state r,
  sum_less may_have_entered (λ (session : Session). length session.done + count_open session.now) state.sessions (all_begun state.sessions),
)
