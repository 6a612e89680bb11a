-- Where a session stands after the answer to its line.
use Rattle.std.proofs.Common.{◌≡◌, ◌⊎◌, ℕ, ◌<◌, ◌≤◌, List, [], ◌∷◌, ◌++◌, length, refl, ap, ◌∙◌, sym, arith, suc, Option, None, Some, inl, inr, subst}
use Rattle.std.specs.Prelude.{slice_get}
use Rattle.std.proofs.lemmas.List.{length-append}
use Rattle.std.proofs.lemmas.Option.{slice_get_within}
use Rattle.hy_bound.specs.declared.Txn.{Txn}
use Rattle.hy_bound.specs.declared.Bound.{Bound}
use Rattle.hy_stamp.specs.declared.Label.{Label}
use Rattle.hy_machine.specs.declared.Setting.{Setting}
use Rattle.hy_machine.specs.States.{State, Session, Finished, Open, Begun}
use Rattle.hy_protocol.specs.declared.Phase.{Phase}
use Rattle.hy_protocol.specs.declared.Phase.TheVariants.{Working, Stamping, Undoing}
use Rattle.hy_protocol.specs.Turns.{Turn, Done, Waits, Begins, Visits, Answers, Saves, Enters, Ends, unless_blocked}
use Rattle.hy_protocol.specs.declared.Progress.TheVariants.{Moved, Answered}
use Rattle.hy_machine.specs.Sessions.{session_at, program_of, txn_at, blocker}
use Rattle.hy_machine.specs.Turns.{turn, session_turn, phase_turn, working_turn, closing_turn, statement_turn, undo_turn, stamp_turn}
use Rattle.hy_machine.specs.Steps.{after_turn}
use Rattle.hy_growing.specs.Growing.{IsAnswered, at_once, later}
use Rattle.hy_growing.proofs.Turning.{IsOfStatement, IsClosing, statement_is, undo_closes, stamp_closes, closing_closes}
use Rattle.hy_growing.proofs.Stands.{session_after}
use Rattle.hy_growing.proofs.Reaching.{own_after, step_within}
use Rattle.hy_machine.specs.Writes.{Write}

-- a session's open transaction has answered all its statements but the last one at least; one that has not begun has none
abbrev pub IsNear : Txn → Option Open → Type 0
IsNear txn None = length txn.statements ≡ 0
IsNear txn (Some current) = length txn.statements ≤ suc (length current.begun.replies)

-- it is between two transactions at its script's end, or waits in the last one
abbrev pub IsLeft : ℕ → Txn → Session → Type 0
IsLeft most txn session = ((session.now ≡ None) × (length session.done ≡ most))
    ⊎ ((begun : Begun) × (session.now ≡ Some (record { begun = begun; phase = Working 0 0 })) × (suc (length session.done) ≡ most) × (length begun.replies ≡ length txn.statements))

-- a turn that answers the last statement, if it answers one
abbrev pub IsLast : Txn → Begun → Turn Write → Type 0
IsLast txn begun Done = Unit {0}
IsLast txn begun (Waits by) = Unit {0}
IsLast txn begun Begins = ⊥
IsLast txn begun (Visits writes phase) = Unit {0}
IsLast txn begun (Answers writes reply took records) = suc (length begun.replies) ≡ length txn.statements
IsLast txn begun (Saves statement reply) = suc (length begun.replies) ≡ length txn.statements
IsLast txn begun Enters = Unit {0}
IsLast txn begun (Ends how) = Unit {0}

closing_last : (by : Option Label) (txn : Txn) (begun : Begun) (turn : Turn Write) → IsClosing by turn → IsLast txn begun turn
closing_last by txn begun Done c = absurd c
closing_last by txn begun (Waits other) c = tt
closing_last by txn begun Begins c = absurd c
closing_last by txn begun (Visits writes phase) c = tt
closing_last by txn begun (Answers writes reply took records) c = absurd c
closing_last by txn begun (Saves statement reply) c = absurd c
closing_last by txn begun Enters c = tt
closing_last by txn begun (Ends how) c = tt

stated_last : (by : Option Label) (txn : Txn) (begun : Begun) (turn : Turn Write) → suc (length begun.replies) ≡ length txn.statements → IsOfStatement by turn
    → IsLast txn begun turn
stated_last by txn begun Done e s = absurd s
stated_last by txn begun (Waits other) e s = tt
stated_last by txn begun Begins e s = absurd s
stated_last by txn begun (Visits writes phase) e s = tt
stated_last by txn begun (Answers writes reply took records) e s = e
stated_last by txn begun (Saves statement reply) e s = e
stated_last by txn begun Enters e s = tt
stated_last by txn begun (Ends how) e s = tt

working_last : (setting : Setting) (state : State) (number : ℕ) (txn : Txn) (begun : Begun) (visited count : ℕ) (statement : Option Bound) → slice_get txn.statements (length begun.replies) ≡ statement
    → length txn.statements ≤ suc (length begun.replies) → IsLast txn begun (working_turn setting state number txn begun visited count statement)
working_last setting state number txn begun visited count None e n =
    closing_last (blocker state number) txn begun (closing_turn setting state number begun txn.commits) (closing_closes setting state number begun txn.commits)
working_last setting state number txn begun visited count (Some statement) e n =
    stated_last (blocker state number) txn begun (statement_turn setting state number begun visited count statement)
    (omega (arith, n, slice_get_within txn.statements (length begun.replies) statement e)) (statement_is setting state number begun visited count statement)

phase_last : (setting : Setting) (state : State) (number : ℕ) (txn : Txn) (begun : Begun) (phase : Phase) → length txn.statements ≤ suc (length begun.replies)
    → IsLast txn begun (phase_turn setting state number txn begun phase)
phase_last setting state number txn begun (Working visited count) n =
    working_last setting state number txn begun visited count (slice_get txn.statements (length begun.replies)) refl n
phase_last setting state number txn begun (Stamping visited) n =
    closing_last (blocker state number) txn begun (stamp_turn setting state begun visited) (stamp_closes setting state number begun visited)
phase_last setting state number txn begun (Undoing visited cause) n =
    closing_last (blocker state number) txn begun (undo_turn setting state number begun visited cause) (undo_closes setting state number begun visited cause)

-- ---- after an answer

open_left : (setting : Setting) (state : State) (number most : ℕ) (txn : Txn) (done : List Finished) (current : Open) (turn : Turn Write) → suc (length done) ≡ most → IsLast txn current.begun turn
    → (after_turn setting state number turn).1 ≡ Answered → IsLeft most txn (session_after setting state turn (record { done = done; now = Some current }))
open_left setting state number most txn done current Done d l a = absurd (cc a)
open_left setting state number most txn done current (Waits by) d l a = absurd (cc a)
open_left setting state number most txn done current Begins d l a = absurd l
open_left setting state number most txn done current (Visits writes phase) d l a = absurd (cc a)
open_left setting state number most txn done current (Answers writes reply took records) d l a =
    let more : length (current.begun.replies ++ reply ∷ []) ≡ length txn.statements = omega (arith, l, length-append current.begun.replies (reply ∷ [])) in
    inr (_, refl, d, more)
open_left setting state number most txn done current (Saves statement reply) d l a =
    let more : length (current.begun.replies ++ reply ∷ []) ≡ length txn.statements = omega (arith, l, length-append current.begun.replies (reply ∷ [])) in
    inr (_, refl, d, more)
open_left setting state number most txn done current Enters d l a = absurd (cc a)
open_left setting state number most txn done current (Ends how) d l a =
    inl (refl, omega (arith, d, length-append done (record { begun = current.begun; ending = how } ∷ [])))

begun_left : (setting : Setting) (state : State) (number most : ℕ) (txn : Txn) (done : List Finished) (by : Option Label) → suc (length done) ≡ most → length txn.statements ≡ 0
    → (after_turn setting state number (unless_blocked by Begins)).1 ≡ Answered → IsLeft most txn (session_after setting state (unless_blocked by Begins) (record { done = done; now = None }))
begun_left setting state number most txn done None d n a = inr (_, refl, d, sym n)
begun_left setting state number most txn done (Some by) d n a = absurd (cc a)

now_left : (setting : Setting) (state : State) (number most : ℕ) (txn : Txn) (done : List Finished) (now : Option Open) → suc (length done) ≡ most → IsNear txn now
    → (after_turn setting state number (session_turn setting state number (Some txn) now)).1 ≡ Answered
    → IsLeft most txn (session_after setting state (session_turn setting state number (Some txn) now) (record { done = done; now = now }))
now_left setting state number most txn done None d n a = begun_left setting state number most txn done (blocker state number) d n a
now_left setting state number most txn done (Some current) d n a =
    open_left setting state number most txn done current (phase_turn setting state number txn current.begun current.phase) d
    (phase_last setting state number txn current.begun current.phase n) a

-- ---- along a turn that moves on

moved_near : (setting : Setting) (state : State) (number : ℕ) (txn : Txn) (done : List Finished) (now : Option Open) (turn : Turn Write) → IsNear txn now → (after_turn setting state number turn).1 ≡ Moved
    → (length (session_after setting state turn (record { done = done; now = now })).done ≡ length done) × IsNear txn (session_after setting state turn (record { done = done; now = now })).now
moved_near setting state number txn done now Done n m = absurd (cc m)
moved_near setting state number txn done now (Waits by) n m = absurd (cc m)
moved_near setting state number txn done now Begins n m = absurd (cc m)
moved_near setting state number txn done None (Visits writes phase) n m = (refl, n)
moved_near setting state number txn done (Some current) (Visits writes phase) n m = (refl, n)
moved_near setting state number txn done now (Answers writes reply took records) n m = absurd (cc m)
moved_near setting state number txn done now (Saves statement reply) n m = absurd (cc m)
moved_near setting state number txn done None Enters n m = (refl, n)
moved_near setting state number txn done (Some current) Enters n m = (refl, n)
moved_near setting state number txn done now (Ends how) n m = absurd (cc m)

-- up to the answer
pub left_after : (setting : Setting) (number : ℕ) (txn : Txn) (state next : State) → number < length state.sessions → txn_at setting number (session_at state number) ≡ Some txn
    → suc (length (session_at state number).done) ≡ length (program_of setting number) → IsNear txn (session_at state number).now → IsAnswered setting number state next
    → IsLeft (length (program_of setting number)) txn (session_at next number)
left_after setting number txn state next l t d n (at_once _ _ e a) =
    let turn_is = ap (λ (one : Option Txn). session_turn setting state number one (session_at state number).now) t in
    let told = ap (λ (turn : Turn Write). (after_turn setting state number turn).1) (sym turn_is) ∙ a in
    let left = now_left setting state number (length (program_of setting number)) txn (session_at state number).done (session_at state number).now d n told in
    let here = subst (λ (turn : Turn Write). IsLeft (length (program_of setting number)) txn (session_after setting state turn (session_at state number))) (sym turn_is) left in
    subst (λ (to : State). IsLeft (length (program_of setting number)) txn (session_at to number)) e
    (subst (IsLeft (length (program_of setting number)) txn) (sym (own_after setting state number (turn setting state number) l)) here)
left_after setting number txn state next l t d n (later _ mid _ e m rest) =
    let here = sym (own_after setting state number (turn setting state number) l) ∙ ap (λ (to : State). session_at to number) e in
    let near = moved_near setting state number txn (session_at state number).done (session_at state number).now (turn setting state number) n m in
    let same : length (session_at mid number).done ≡ length (session_at state number).done = ap (λ (one : Session). length one.done) (sym here) ∙ near.0 in
    left_after setting number txn mid next (subst (λ (to : State). number < length to.sessions) e (step_within setting state number number l))
    (ap (slice_get (program_of setting number)) same ∙ t) (ap suc same ∙ d) (subst (λ (one : Session). IsNear txn one.now) here near.1) rest

-- ---- where all statements are answered

-- an open transaction that has answered all its statements
abbrev pub IsOver : Txn → Option Open → Type 0
IsOver txn None = ⊥
IsOver txn (Some current) = length txn.statements ≤ length current.begun.replies

-- a session between two transactions, so many having ended
abbrev pub IsClosed : ℕ → Session → Type 0
IsClosed most session = (session.now ≡ None) × (length session.done ≡ most)

over_closed : (setting : Setting) (state : State) (number most : ℕ) (txn : Txn) (done : List Finished) (current : Open) (turn : Turn Write) → suc (length done) ≡ most → IsLast txn current.begun turn
    → length txn.statements ≤ length current.begun.replies → (after_turn setting state number turn).1 ≡ Answered
    → IsClosed most (session_after setting state turn (record { done = done; now = Some current }))
over_closed setting state number most txn done current Done d l o a = absurd (cc a)
over_closed setting state number most txn done current (Waits by) d l o a = absurd (cc a)
over_closed setting state number most txn done current Begins d l o a = absurd l
over_closed setting state number most txn done current (Visits writes phase) d l o a = absurd (cc a)
over_closed setting state number most txn done current (Answers writes reply took records) d l o a = absurd (omega (arith, l, o))
over_closed setting state number most txn done current (Saves statement reply) d l o a = absurd (omega (arith, l, o))
over_closed setting state number most txn done current Enters d l o a = absurd (cc a)
over_closed setting state number most txn done current (Ends how) d l o a =
    (refl, omega (arith, d, length-append done (record { begun = current.begun; ending = how } ∷ [])))

now_closed : (setting : Setting) (state : State) (number most : ℕ) (txn : Txn) (done : List Finished) (now : Option Open) → suc (length done) ≡ most → IsOver txn now
    → (after_turn setting state number (session_turn setting state number (Some txn) now)).1 ≡ Answered
    → IsClosed most (session_after setting state (session_turn setting state number (Some txn) now) (record { done = done; now = now }))
now_closed setting state number most txn done None d o a = absurd o
now_closed setting state number most txn done (Some current) d o a =
    over_closed setting state number most txn done current (phase_turn setting state number txn current.begun current.phase) d
    (phase_last setting state number txn current.begun current.phase (omega (arith, o))) o a

moved_over : (setting : Setting) (state : State) (number : ℕ) (txn : Txn) (done : List Finished) (now : Option Open) (turn : Turn Write) → IsOver txn now → (after_turn setting state number turn).1 ≡ Moved
    → (length (session_after setting state turn (record { done = done; now = now })).done ≡ length done) × IsOver txn (session_after setting state turn (record { done = done; now = now })).now
moved_over setting state number txn done now Done n m = absurd (cc m)
moved_over setting state number txn done now (Waits by) n m = absurd (cc m)
moved_over setting state number txn done now Begins n m = absurd (cc m)
moved_over setting state number txn done None (Visits writes phase) n m = absurd n
moved_over setting state number txn done (Some current) (Visits writes phase) n m = (refl, n)
moved_over setting state number txn done now (Answers writes reply took records) n m = absurd (cc m)
moved_over setting state number txn done now (Saves statement reply) n m = absurd (cc m)
moved_over setting state number txn done None Enters n m = absurd n
moved_over setting state number txn done (Some current) Enters n m = (refl, n)
moved_over setting state number txn done now (Ends how) n m = absurd (cc m)

-- up to the answer
pub closed_after : (setting : Setting) (number : ℕ) (txn : Txn) (state next : State) → number < length state.sessions → txn_at setting number (session_at state number) ≡ Some txn
    → suc (length (session_at state number).done) ≡ length (program_of setting number) → IsOver txn (session_at state number).now → IsAnswered setting number state next
    → IsClosed (length (program_of setting number)) (session_at next number)
closed_after setting number txn state next l t d n (at_once _ _ e a) =
    let turn_is = ap (λ (one : Option Txn). session_turn setting state number one (session_at state number).now) t in
    let told = ap (λ (turn : Turn Write). (after_turn setting state number turn).1) (sym turn_is) ∙ a in
    let left = now_closed setting state number (length (program_of setting number)) txn (session_at state number).done (session_at state number).now d n told in
    let here = subst (λ (turn : Turn Write). IsClosed (length (program_of setting number)) (session_after setting state turn (session_at state number))) (sym turn_is) left in
    subst (λ (to : State). IsClosed (length (program_of setting number)) (session_at to number)) e
    (subst (IsClosed (length (program_of setting number))) (sym (own_after setting state number (turn setting state number) l)) here)
closed_after setting number txn state next l t d n (later _ mid _ e m rest) =
    let here = sym (own_after setting state number (turn setting state number) l) ∙ ap (λ (to : State). session_at to number) e in
    let over = moved_over setting state number txn (session_at state number).done (session_at state number).now (turn setting state number) n m in
    let same : length (session_at mid number).done ≡ length (session_at state number).done = ap (λ (one : Session). length one.done) (sym here) ∙ over.0 in
    closed_after setting number txn mid next (subst (λ (to : State). number < length to.sessions) e (step_within setting state number number l))
    (ap (slice_get (program_of setting number)) same ∙ t) (ap suc same ∙ d) (subst (λ (one : Session). IsOver txn one.now) here over.1) rest
