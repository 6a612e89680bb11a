-- In each state that the machine comes to, a table that was full for a transaction has all of its positions accounted for.
use Rattle.std.proofs.Common.{◌≡◌, ℕ, zero, suc, ◌+◌, ◌-◌, ◌*◌, ◌<◌, List, [], ◌∷◌, ◌++◌, Option, None, Some, length, refl, ap, sym, ◌∙◌, subst}
use Rattle.std.proofs.Common.{arith}
use Rattle.std.specs.Prelude.{slice_get}
use Rattle.std.specs.List.{AllByRecursion}
use Rattle.std.specs.Option.{option_map}
use Rattle.std.proofs.lemmas.Option.{same_Some}
use Rattle.hy_bound.specs.declared.Txn.{Txn}
use Rattle.hy_bound.specs.declared.Bound.{Bound}
use Rattle.hy_bound.specs.declared.Bound.TheVariants.{Select, Group, Insert, Update, Delete, Savepoint, RollbackTo, Release}
use Rattle.hy_bound.specs.declared.Record.{Record}
use Rattle.hy_bound.specs.Records.{shape_of}
use Rattle.hy_machine.specs.Writes.{Write}
use Rattle.hy_machine.specs.Visits.{checks_of}
use Rattle.hy_stamp.specs.declared.Label.{Label}
use Rattle.hy_machine.specs.declared.Setting.{Setting}
use Rattle.hy_protocol.specs.declared.Phase.{Phase}
use Rattle.hy_protocol.specs.declared.Phase.TheVariants.{Working, Stamping, Undoing}
use Rattle.hy_machine.specs.States.{State, Open, Begun, Finished}
use Rattle.hy_machine.specs.Tables.{Entry}
use Rattle.hy_protocol.specs.Turns.{Turn, Done, Waits, Begins, Visits, Answers, Saves, Enters, Ends, unless_blocked}
use Rattle.hy_machine.specs.Turns.{phase_turn, session_turn}
use Rattle.hy_machine.specs.Sessions.{session_at, txn_at, blocker, entry_of}
use Rattle.hy_machine.specs.Outcomes.{statements_in}
use Rattle.hy_machine.specs.Steps.{with_session, beginning, after_visit, after_answer, after_saving, done_with, order_with, after_turn, step_of}
use Rattle.hy_machine.specs.Runs.{opening_of, after_steps, IsReached}
use Rattle.hy_lawful.specs.Reached.{statements_at}
use Rattle.hy_lawful.proofs.Fits.{IsNumbered, OpenFits, NowFits, NowStamps, Fits}
use Rattle.hy_lawful.proofs.Moves.{moved_to, sessions_moved}
use Rattle.hy_lawful.proofs.PassStates.{Passes}
use Rattle.hy_lawful.proofs.PassSteps.{reached_passes}
use Rattle.hy_lawful.proofs.ReachedBy.{reached_step}
use Rattle.hy_lawful.proofs.Reached.{fresh_at, is_there, reached_fits}
use Rattle.hy_lawful.proofs.Turns.{FitsTurn, phase_fits}
use Rattle.hy_lawful.proofs.FullMarks.{AllBefore, reached_before}
use Rattle.hy_lawful.proofs.FoundLows.{AllLow, reached_low}
use Rattle.hy_lawful.proofs.FullKeeps.{Goes, step_goes}
use Rattle.hy_lawful.proofs.FullPassed.{WorkRoom, PhaseRoom, NowRoom, DoneRoom, SessionRoom, AllRoom, EndRoom, RoomTurn, present_statement, now_goes}
use Rattle.hy_lawful.proofs.FullPassed.{done_goes, ended_goes}
use Rattle.hy_lawful.proofs.FullPassed.{phase_goes, open_room, working_room, undo_room, stamp_room}

work_zero : (setting : Setting) (state : State) (number before prefix : ℕ) (statement : Option Bound)
    → WorkRoom setting state number before prefix 0 statement
work_zero setting state number before prefix None = tt
work_zero setting state number before prefix (Some (Select tables ons pred items)) = tt
work_zero setting state number before prefix (Some (Group table pred key aggregate)) = tt
work_zero setting state number before prefix (Some (Insert table row)) =
    let checks : ℕ = checks_of setting (shape_of setting.shapes table).key in
    let none : (0 - checks) * setting.rows ≡ 0 =
    ap (λ (n : ℕ). n * setting.rows) (let e : 0 - checks ≡ 0 = omega arith in e) ∙ (let z : 0 * setting.rows ≡ 0 = omega arith in z) in
    λ pos below. absurd (omega (arith, below, none))
work_zero setting state number before prefix (Some (Update table sets pred)) = tt
work_zero setting state number before prefix (Some (Delete table pred)) = tt
work_zero setting state number before prefix (Some (Savepoint name)) = tt
work_zero setting state number before prefix (Some (RollbackTo name)) = tt
work_zero setting state number before prefix (Some (Release name)) = tt

phase_room : (setting : Setting) (state : State) → Fits setting state → Passes setting state → AllBefore state → AllLow state
    → (number : ℕ) (txn : Txn) (begun : Begun) (phase : Phase)
    → (session_at state number).now ≡ Some (record { begun = begun; phase = phase })
    → AllByRecursion (λ (of : Record). IsNumbered (length begun.replies) of.statement) begun.records
    → PhaseRoom setting state number (length (session_at state number).done) begun.prefix (present_statement txn.statements begun) phase
    → RoomTurn setting state number (length (session_at state number).done) begun.prefix (present_statement txn.statements begun)
    (phase_turn setting state number txn begun phase)
phase_room setting state fits passes all lows number txn begun (Working visited count) is records h =
    working_room setting state number txn (record { begun = begun; phase = Working visited count })
    (record {
      fits = fits;
      passes = passes;
      is = is;
      free = λ m. subst NowStamps is (fits.marked number m);
      before = all;
      lows = lows;
    })
    records visited count h
phase_room setting state fits passes all lows number txn begun (Stamping visited) is records h =
    stamp_room setting state number (length (session_at state number).done) begun.prefix (present_statement txn.statements begun) begun visited
phase_room setting state fits passes all lows number txn begun (Undoing visited cause) is records h =
    undo_room setting state number (length (session_at state number).done) begun.prefix (present_statement txn.statements begun) begun visited cause h

-- ---- a session moves

others_go : (setting : Setting) (state later : State) → Goes state later → AllRoom setting state → (other : ℕ)
    → SessionRoom setting later other (session_at state other)
others_go setting state later g all other =
    done_goes setting state later g other 0 (session_at state other).done (session_at state other).now (session_at state other).now
    (λ at e h. now_goes setting state later g other at (statements_at setting other at) (session_at state other).now h) (all other)

goes_on : (setting : Setting) (state : State) (order : List Entry) (mark : Option ℕ) (number : ℕ) (new : Open) → number < length state.sessions
    → AllRoom setting state
    → PhaseRoom setting state number (length (session_at state number).done) new.begun.prefix
    (present_statement (statements_at setting number (length (session_at state number).done)) new.begun) new.phase
    → Goes state (moved_to state order mark number (record { done = (session_at state number).done; now = Some new }))
    → AllRoom setting (moved_to state order mark number (record { done = (session_at state number).done; now = Some new }))
goes_on setting state order mark number new there all h g =
    sessions_moved (SessionRoom setting later) state order mark number (record { done = (session_at state number).done; now = Some new }) there
    (done_goes setting state later g number 0 (session_at state number).done (session_at state number).now (Some new)
    (λ at e k. subst (λ (n : ℕ). NowRoom setting later number n (statements_at setting number n) (Some new))
    (let same : length (session_at state number).done ≡ at = omega (arith, e) in same)
    (phase_goes setting state later g number (length (session_at state number).done) new.begun.prefix
    (present_statement (statements_at setting number (length (session_at state number).done)) new.begun) new.phase h)) (all number))
    (λ other apart. others_go setting state later g all other)
  where
    later : State
    later = moved_to state order mark number (record { done = (session_at state number).done; now = Some new })

ends : (setting : Setting) (state : State) (number : ℕ) (finished : Finished) → number < length state.sessions → AllRoom setting state
    → EndRoom setting state number (length (session_at state number).done) finished.begun.prefix finished.ending
    → Goes state (moved_to state state.order None number (record { done = (session_at state number).done ++ finished ∷ []; now = None }))
    → AllRoom setting (moved_to state state.order None number (record { done = (session_at state number).done ++ finished ∷ []; now = None }))
ends setting state number finished there all h g =
    sessions_moved (SessionRoom setting later) state state.order None number (record { done = (session_at state number).done ++ finished ∷ []; now = None })
    there
    (ended_goes setting state later g number 0 (session_at state number).done (session_at state number).now finished
    (λ at e. subst (λ (n : ℕ). EndRoom setting state number n finished.begun.prefix finished.ending)
    (let same : length (session_at state number).done ≡ at = omega (arith, e) in same) h) (all number))
    (λ other apart. others_go setting state later g all other)
  where
    later : State
    later = moved_to state state.order None number (record { done = (session_at state number).done ++ finished ∷ []; now = None })

turn_room : (setting : Setting) (state : State) (number : ℕ) (current : Open) → number < length state.sessions → AllRoom setting state
    → (session_at state number).now ≡ Some current → (turn : Turn Write) → FitsTurn setting state number current.begun turn
    → RoomTurn setting state number (length (session_at state number).done) current.begun.prefix
    (present_statement (statements_at setting number (length (session_at state number).done)) current.begun) turn
    → Goes state (after_turn setting state number turn).0 → AllRoom setting (after_turn setting state number turn).0
turn_room setting state number current there all is Done f h g = all
turn_room setting state number current there all is (Waits by) f h g = all
turn_room setting state number current there all is Begins f h g = absurd f
turn_room setting state number current there all is (Visits writes phase) f h g =
    subst (λ (now : Option Open).
    Goes state (with_session state number (record { done = (session_at state number).done; now = option_map (after_visit writes phase) now }))
    → AllRoom setting (with_session state number (record { done = (session_at state number).done; now = option_map (after_visit writes phase) now })))
    (sym is) (goes_on setting state state.order state.mark number (after_visit writes phase current) there all h) g
turn_room setting state number current there all is (Answers writes reply took records) f h g =
    subst (λ (now : Option Open).
    Goes state (with_session state number (record { done = (session_at state number).done; now = option_map (after_answer writes reply took records) now }))
    → AllRoom setting
    (with_session state number (record { done = (session_at state number).done; now = option_map (after_answer writes reply took records) now })))
    (sym is) (goes_on setting state state.order state.mark number (after_answer writes reply took records current) there all
    (work_zero setting state number (length (session_at state number).done) current.begun.prefix
    (present_statement (statements_at setting number (length (session_at state number).done))
    (after_answer writes reply took records current).begun))) g
turn_room setting state number current there all is (Saves statement reply) f h g =
    subst (λ (now : Option Open).
    Goes state (with_session state number (record { done = (session_at state number).done; now = option_map (after_saving statement reply) now }))
    → AllRoom setting
    (with_session state number (record { done = (session_at state number).done; now = option_map (after_saving statement reply) now })))
    (sym is) (goes_on setting state state.order state.mark number (after_saving statement reply current) there all
    (work_zero setting state number (length (session_at state number).done) current.begun.prefix
    (present_statement (statements_at setting number (length (session_at state number).done)) (after_saving statement reply current).begun))) g
turn_room setting state number current there all is Enters f h g =
    subst (λ (now : Option Open). Goes state (moved_to state (order_with setting state number now) (Some number) number
    (record { done = (session_at state number).done; now = option_map (after_visit [] (Stamping 0)) now }))
    → AllRoom setting (moved_to state (order_with setting state number now) (Some number) number
    (record { done = (session_at state number).done; now = option_map (after_visit [] (Stamping 0)) now })))
    (sym is) (goes_on setting state (state.order ++ entry_of setting state number current.begun ∷ []) (Some number) number
    (after_visit [] (Stamping 0) current) there all tt) g
turn_room setting state number current there all is (Ends ending) f h g =
    subst (λ (now : Option Open).
    Goes state (moved_to state state.order None number (record { done = done_with ending (session_at state number).done now; now = None }))
    → AllRoom setting (moved_to state state.order None number (record { done = done_with ending (session_at state number).done now; now = None })))
    (sym is) (ends setting state number (record { begun = current.begun; ending = ending }) there all h) g

-- ---- steps

begins_unless : (setting : Setting) (state : State) (number : ℕ) (by : Option Label) → AllRoom setting state
    → (Goes state (after_turn setting state number Begins).0 → AllRoom setting (after_turn setting state number Begins).0)
    → Goes state (after_turn setting state number (unless_blocked by Begins)).0
    → AllRoom setting (after_turn setting state number (unless_blocked by Begins)).0
begins_unless setting state number None all h g = h g
begins_unless setting state number (Some by) all h g = all

session_room : (setting : Setting) (state : State) (number : ℕ) (txn : Txn) → Fits setting state → Passes setting state
    → AllBefore state → AllLow state → AllRoom setting state
    → txn_at setting number (session_at state number) ≡ Some txn → (now : Option Open) → (session_at state number).now ≡ now
    → Goes state (after_turn setting state number (session_turn setting state number (Some txn) now)).0
    → AllRoom setting (after_turn setting state number (session_turn setting state number (Some txn) now)).0
session_room setting state number txn fits passes starts lows all e None is g =
    begins_unless setting state number (blocker state number) all
    (goes_on setting state state.order state.mark number (record { begun = beginning setting state; phase = Working 0 0 })
    (is_there setting state number txn fits e) all
    (work_zero setting state number (length (session_at state number).done) (length state.order)
    (present_statement (statements_at setting number (length (session_at state number).done)) (beginning setting state)))) g
session_room setting state number txn fits passes starts lows all e (Some current) is g =
    let before : ℕ = length (session_at state number).done in
    let present : OpenFits setting state.order state.mark number (session_at state number).done current =
    subst (NowFits setting state.order state.mark number (session_at state number).done) is (fits.sessions number).now in
    let room : NowRoom setting state number before (statements_at setting number before) (Some current) =
    subst (NowRoom setting state number before (statements_at setting number before)) is
    (subst (λ (n : ℕ). NowRoom setting state number n (statements_at setting number n) (session_at state number).now)
    (let same : 0 + before ≡ before = omega arith in same)
    (open_room setting state number 0 (session_at state number).done (session_at state number).now (all number))) in
    let same : statements_at setting number before ≡ txn.statements = ap statements_in e in
    turn_room setting state number current (is_there setting state number txn fits e) all is
    (phase_turn setting state number txn current.begun current.phase)
    (phase_fits setting state fits number txn current.begun e present.above present.records current.phase present.phase
    (λ m. subst NowStamps is (fits.marked number m)))
    (subst (λ (of : List Bound). RoomTurn setting state number before current.begun.prefix (present_statement of current.begun)
    (phase_turn setting state number txn current.begun current.phase)) (sym same)
    (phase_room setting state fits passes starts lows number txn current.begun current.phase is present.records
    (subst (λ (of : List Bound). PhaseRoom setting state number before current.begun.prefix (present_statement of current.begun) current.phase) same
    room))) g

by_txn : (setting : Setting) (state : State) (number : ℕ) → Fits setting state → Passes setting state → AllBefore state → AllLow state
    → AllRoom setting state → (txn : Option Txn)
    → txn_at setting number (session_at state number) ≡ txn
    → Goes state (after_turn setting state number (session_turn setting state number txn (session_at state number).now)).0
    → AllRoom setting (after_turn setting state number (session_turn setting state number txn (session_at state number).now)).0
by_txn setting state number fits passes starts lows all None e g = all
by_txn setting state number fits passes starts lows all (Some txn) e g =
    session_room setting state number txn fits passes starts lows all e (session_at state number).now refl g

steps_room : (setting : Setting) (state : State) (numbers : List ℕ) → IsReached setting state → AllRoom setting state
    → AllRoom setting (after_steps setting state numbers)
steps_room setting state [] r all = all
steps_room setting state (number ∷ numbers) r all =
    steps_room setting (step_of setting state number).0 numbers (reached_step setting state number r)
    (by_txn setting state number (reached_fits setting state r) (reached_passes setting state r)
    (reached_before setting state r) (reached_low setting state r) all (txn_at setting number (session_at state number)) refl
    (step_goes setting state number (reached_fits setting state r)))

pub reached_room : (setting : Setting) (state : State) → IsReached setting state → AllRoom setting state
reached_room setting state r = subst (AllRoom setting) (sym r.1)
    (steps_room setting (opening_of setting) r.0 ([], refl)
    (λ number. subst (SessionRoom setting (opening_of setting) number) (sym (fresh_at setting number)) tt))

done_room : (setting : Setting) (state : State) (number before : ℕ) (done : List Finished) (now : Option Open) → DoneRoom setting state number before done now
    → (i : ℕ) (finished : Finished) → slice_get done i ≡ Some finished → (at : ℕ) → at ≡ before + i
    → EndRoom setting state number at finished.begun.prefix finished.ending
done_room setting state number before [] now h i finished e at s = absurd cc
done_room setting state number before (first ∷ done) now h zero finished e at s =
    subst (λ (n : ℕ). EndRoom setting state number n finished.begun.prefix finished.ending) (let same : before ≡ at = omega (arith, s) in same)
    (subst (λ (f : Finished). EndRoom setting state number before f.begun.prefix f.ending) (same_Some first finished e) h.0)
done_room setting state number before (first ∷ done) now h (suc i) finished e at s =
    done_room setting state number (suc before) done now h.1 i finished e at (omega (arith, s))

pub ended_room : (setting : Setting) (state : State) → IsReached setting state → (number before : ℕ) (finished : Finished)
    → slice_get (session_at state number).done before ≡ Some finished → EndRoom setting state number before finished.begun.prefix finished.ending
ended_room setting state r number before finished e =
    done_room setting state number 0 (session_at state number).done (session_at state number).now (reached_room setting state r number) before finished e
    before (omega arith)
