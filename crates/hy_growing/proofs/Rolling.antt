-- A transaction that its script rolls back, and all whose statements are answered, ends by ROLLBACK.
use Rattle.std.proofs.Common.{◌≡◌, ℕ, ◌<◌, List, [], ◌∷◌, ◌++◌, length, refl, ap, ◌∙◌, sym, false, Option, None, Some, subst}
use Rattle.std.specs.Prelude.{slice_get}
use Rattle.hy_bound.specs.declared.Txn.{Txn}
use Rattle.hy_bound.specs.declared.Ending.{Ending}
use Rattle.hy_bound.specs.declared.Ending.TheVariants.{RolledBack}
use Rattle.hy_protocol.specs.declared.Phase.{Phase}
use Rattle.hy_protocol.specs.declared.Phase.TheVariants.{Working, Stamping, Undoing}
use Rattle.hy_protocol.specs.declared.Progress.TheVariants.{Moved, Answered}
use Rattle.hy_protocol.specs.Turns.{Turn, Done, Waits, Begins, Visits, Answers, Saves, Enters, Ends}
use Rattle.hy_machine.specs.declared.Setting.{Setting}
use Rattle.hy_machine.specs.States.{State, Session, Finished, Open, Begun}
use Rattle.hy_machine.specs.Writes.{Write}
use Rattle.hy_machine.specs.Sessions.{session_at, program_of, txn_at}
use Rattle.hy_machine.specs.Turns.{turn, undo_turn, phase_turn, session_turn}
use Rattle.hy_machine.specs.TurnCases.{undo_cases}
use Rattle.hy_machine.specs.Steps.{after_turn}
use Rattle.hy_growing.specs.Growing.{IsAnswered, at_once, later}
use Rattle.hy_growing.proofs.Stands.{session_after}
use Rattle.hy_growing.proofs.Reaching.{own_after, step_within}

-- ---- what it does

-- it comes to its ROLLBACK, or is undone by it
abbrev IsRollingAt : Txn → Begun → Phase → Type 0
IsRollingAt txn begun (Working visited count) = (slice_get txn.statements (length begun.replies) ≡ None) × (txn.commits ≡ false)
IsRollingAt txn begun (Stamping visited) = ⊥
IsRollingAt txn begun (Undoing visited cause) = cause ≡ RolledBack

abbrev pub IsRolling : Txn → Option Open → Type 0
IsRolling txn None = ⊥
IsRolling txn (Some current) = IsRollingAt txn current.begun current.phase

-- a turn of such a transaction
abbrev Rolls : Turn Write → Type 0
Rolls Done = ⊥
Rolls (Waits by) = Unit {0}
Rolls Begins = ⊥
Rolls (Visits writes (Working visited count)) = ⊥
Rolls (Visits writes (Stamping visited)) = ⊥
Rolls (Visits writes (Undoing visited cause)) = cause ≡ RolledBack
Rolls (Answers writes reply took records) = ⊥
Rolls (Saves statement reply) = ⊥
Rolls Enters = ⊥
Rolls (Ends how) = how ≡ RolledBack

undo_rolls : (setting : Setting) (state : State) (number : ℕ) (begun : Begun) (visited : ℕ) (cause : Ending) → cause ≡ RolledBack
    → Rolls (undo_turn setting state number begun visited cause)
undo_rolls setting state number begun visited cause e =
    undo_cases setting state number begun Rolls visited cause (record { goes = λ few. e; waits = λ by is. tt; ends = λ free. e })

phase_rolls : (setting : Setting) (state : State) (number : ℕ) (txn : Txn) (begun : Begun) (phase : Phase) → IsRollingAt txn begun phase
    → Rolls (phase_turn setting state number txn begun phase)
phase_rolls setting state number txn begun (Working visited count) r = rw (r.0, r.1) (undo_rolls setting state number begun 0 RolledBack refl)
phase_rolls setting state number txn begun (Stamping visited) r = absurd r
phase_rolls setting state number txn begun (Undoing visited cause) r = undo_rolls setting state number begun visited cause r

-- ---- up to its end

-- these transactions of a session have ended, and one more, by ROLLBACK
abbrev pub HasRolledBack : List Finished → Session → Type 0
HasRolledBack done session = (finished : Finished) × ((finished.ending ≡ RolledBack) × (session.done ≡ done ++ finished ∷ []))

rolled_end : (setting : Setting) (state : State) (number : ℕ) (done : List Finished) (current : Open) (turn : Turn Write) → Rolls turn
    → (after_turn setting state number turn).1 ≡ Answered → HasRolledBack done (session_after setting state turn (record { done = done; now = Some current }))
rolled_end setting state number done current Done r a = absurd r
rolled_end setting state number done current (Waits by) r a = absurd (cc a)
rolled_end setting state number done current Begins r a = absurd r
rolled_end setting state number done current (Visits writes phase) r a = absurd (cc a)
rolled_end setting state number done current (Answers writes reply took records) r a = absurd r
rolled_end setting state number done current (Saves statement reply) r a = absurd r
rolled_end setting state number done current Enters r a = absurd r
rolled_end setting state number done current (Ends how) r a = (record { begun = current.begun; ending = how }, (r, refl))

now_rolled : (setting : Setting) (state : State) (number : ℕ) (txn : Txn) (done : List Finished) (now : Option Open) → IsRolling txn now
    → (after_turn setting state number (session_turn setting state number (Some txn) now)).1 ≡ Answered
    → HasRolledBack done (session_after setting state (session_turn setting state number (Some txn) now) (record { done = done; now = now }))
now_rolled setting state number txn done None r a = absurd r
now_rolled setting state number txn done (Some current) r a =
    rolled_end setting state number done current (phase_turn setting state number txn current.begun current.phase)
    (phase_rolls setting state number txn current.begun current.phase r) a

-- it goes on so
abbrev GoesOn : Txn → List Finished → Session → Type 0
GoesOn txn done session = (session.done ≡ done) × IsRolling txn session.now

rolled_on : (setting : Setting) (state : State) (number : ℕ) (txn : Txn) (done : List Finished) (current : Open) (turn : Turn Write) → Rolls turn
    → (after_turn setting state number turn).1 ≡ Moved → GoesOn txn done (session_after setting state turn (record { done = done; now = Some current }))
rolled_on setting state number txn done current Done r m = absurd r
rolled_on setting state number txn done current (Waits by) r m = absurd (cc m)
rolled_on setting state number txn done current Begins r m = absurd r
rolled_on setting state number txn done current (Visits writes (Working visited count)) r m = absurd r
rolled_on setting state number txn done current (Visits writes (Stamping visited)) r m = absurd r
rolled_on setting state number txn done current (Visits writes (Undoing visited cause)) r m = (refl, r)
rolled_on setting state number txn done current (Answers writes reply took records) r m = absurd r
rolled_on setting state number txn done current (Saves statement reply) r m = absurd r
rolled_on setting state number txn done current Enters r m = absurd r
rolled_on setting state number txn done current (Ends how) r m = absurd (cc m)

now_rolling : (setting : Setting) (state : State) (number : ℕ) (txn : Txn) (done : List Finished) (now : Option Open) → IsRolling txn now
    → (after_turn setting state number (session_turn setting state number (Some txn) now)).1 ≡ Moved
    → GoesOn txn done (session_after setting state (session_turn setting state number (Some txn) now) (record { done = done; now = now }))
now_rolling setting state number txn done None r m = absurd r
now_rolling setting state number txn done (Some current) r m =
    rolled_on setting state number txn done current (phase_turn setting state number txn current.begun current.phase)
    (phase_rolls setting state number txn current.begun current.phase r) m

-- nothing comes into the commit order
rolled_order : (setting : Setting) (state : State) (number : ℕ) (turn : Turn Write) → Rolls turn
    → (after_turn setting state number turn).0.order ≡ state.order
rolled_order setting state number Done r = absurd r
rolled_order setting state number (Waits by) r = refl
rolled_order setting state number Begins r = absurd r
rolled_order setting state number (Visits writes phase) r = refl
rolled_order setting state number (Answers writes reply took records) r = absurd r
rolled_order setting state number (Saves statement reply) r = absurd r
rolled_order setting state number Enters r = absurd r
rolled_order setting state number (Ends how) r = refl

now_order : (setting : Setting) (state : State) (number : ℕ) (txn : Txn) (now : Option Open) → IsRolling txn now
    → (after_turn setting state number (session_turn setting state number (Some txn) now)).0.order ≡ state.order
now_order setting state number txn None r = absurd r
now_order setting state number txn (Some current) r =
    rolled_order setting state number (phase_turn setting state number txn current.begun current.phase)
    (phase_rolls setting state number txn current.begun current.phase r)

-- by the step of one that is at this transaction
order_after : (setting : Setting) (number : ℕ) (txn : Txn) (state next : State) → txn_at setting number (session_at state number) ≡ Some txn
    → IsRolling txn (session_at state number).now → (after_turn setting state number (turn setting state number)).0 ≡ next → next.order ≡ state.order
order_after setting number txn state next t r e =
    ap (λ (to : State). to.order) (sym e)
    ∙ ap (λ (one : Option Txn). (after_turn setting state number (session_turn setting state number one (session_at state number).now)).0.order) t
    ∙ now_order setting state number txn (session_at state number).now r

-- the session after the step of one that is at this transaction
after_step : (setting : Setting) (number : ℕ) (txn : Txn) (state next : State) → number < length state.sessions → txn_at setting number (session_at state number) ≡ Some txn
    → (after_turn setting state number (turn setting state number)).0 ≡ next
    → session_after setting state (session_turn setting state number (Some txn) (session_at state number).now) (session_at state number) ≡ session_at next number
after_step setting number txn state next l t e =
    ap (λ (one : Option Txn). session_after setting state (session_turn setting state number one (session_at state number).now) (session_at state number)) (sym t)
    ∙ (sym (own_after setting state number (turn setting state number) l) ∙ ap (λ (to : State). session_at to number) e)

pub rolled_after : (setting : Setting) (number : ℕ) (txn : Txn) (state next : State) → number < length state.sessions
    → txn_at setting number (session_at state number) ≡ Some txn → IsRolling txn (session_at state number).now → IsAnswered setting number state next
    → HasRolledBack (session_at state number).done (session_at next number)
rolled_after setting number txn state next l t r (at_once _ _ e a) =
    let told = ap (λ (one : Option Txn). (after_turn setting state number (session_turn setting state number one (session_at state number).now)).1) (sym t) ∙ a in
    subst (HasRolledBack (session_at state number).done) (after_step setting number txn state next l t e)
    (now_rolled setting state number txn (session_at state number).done (session_at state number).now r told)
rolled_after setting number txn state next l t r (later _ mid _ e m rest) =
    let told = ap (λ (one : Option Txn). (after_turn setting state number (session_turn setting state number one (session_at state number).now)).1) (sym t) ∙ m in
    let on = subst (GoesOn txn (session_at state number).done) (after_step setting number txn state mid l t e)
    (now_rolling setting state number txn (session_at state number).done (session_at state number).now r told) in
    let here : txn_at setting number (session_at mid number) ≡ Some txn = ap (λ (done : List Finished). slice_get (program_of setting number) (length done)) on.0 ∙ t in
    let within : number < length mid.sessions = subst (λ (to : State). number < length to.sessions) e (step_within setting state number number l) in
    let ends = rolled_after setting number txn mid next within here on.1 rest in
    (ends.0, (ends.1.0, ends.1.1 ∙ ap (λ (done : List Finished). done ++ ends.0 ∷ []) on.0))

-- the commit order is as it was
pub rolled_same : (setting : Setting) (number : ℕ) (txn : Txn) (state next : State) → number < length state.sessions
    → txn_at setting number (session_at state number) ≡ Some txn → IsRolling txn (session_at state number).now → IsAnswered setting number state next
    → next.order ≡ state.order
rolled_same setting number txn state next l t r (at_once _ _ e a) = order_after setting number txn state next t r e
rolled_same setting number txn state next l t r (later _ mid _ e m rest) =
    let told = ap (λ (one : Option Txn). (after_turn setting state number (session_turn setting state number one (session_at state number).now)).1) (sym t) ∙ m in
    let on = subst (GoesOn txn (session_at state number).done) (after_step setting number txn state mid l t e)
    (now_rolling setting state number txn (session_at state number).done (session_at state number).now r told) in
    let here : txn_at setting number (session_at mid number) ≡ Some txn = ap (λ (done : List Finished). slice_get (program_of setting number) (length done)) on.0 ∙ t in
    let within : number < length mid.sessions = subst (λ (to : State). number < length to.sessions) e (step_within setting state number number l) in
    rolled_same setting number txn mid next within here on.1 rest ∙ order_after setting number txn state mid t r e
