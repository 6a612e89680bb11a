-- In each state that the machine comes to, what a transaction wrote has a cell for each position, its visits stand as they
-- may, and its watermark is at most its start: what holds of the opening and stays true along steps.
use Rattle.std.proofs.Common.{◌≡◌, ℕ, ◌<◌, ◌≤◌, List, [], ◌∷◌, ◌++◌, Option, None, Some, length, refl, ap, sym, subst, arith, inl}
use Rattle.std.specs.Option.{option_map}
use Rattle.std.specs.List.{AllByRecursion}
use Rattle.std.proofs.lemmas.List.{length-append}
use Rattle.hy_bound.specs.declared.Bound.{Bound}
use Rattle.hy_bound.specs.declared.Ending.{Ending}
use Rattle.hy_machine.specs.Writes.{Write}
use Rattle.hy_machine.specs.declared.Setting.{Setting}
use Rattle.hy_protocol.specs.declared.Phase.TheVariants.{Working, Stamping}
use Rattle.hy_machine.specs.States.{State, Session, Open, Finished}
use Rattle.hy_machine.specs.Tables.{Entry}
use Rattle.hy_protocol.specs.Turns.{Turn, Done, Waits, Begins, Visits, Answers, Saves, Enters, Ends}
use Rattle.hy_machine.specs.Turns.{phase_turn}
use Rattle.hy_machine.specs.Sessions.{session_at}
use Rattle.hy_machine.specs.Outcomes.{statements_in}
use Rattle.hy_machine.specs.Steps.{with_session, beginning, after_visit, after_answer, after_saving, done_with, order_with, after_turn}
use Rattle.hy_machine.specs.Runs.{IsReached}
use Rattle.hy_machine.specs.Kept.{OwnFits}
use Rattle.hy_lawful.specs.Reached.{statements_at}
use Rattle.hy_lawful.proofs.Lists.{all_more}
use Rattle.hy_lawful.proofs.Moves.{moved_to, sessions_moved}
use Rattle.hy_lawful.proofs.Reached.{fresh_at}
use Rattle.hy_lawful.proofs.ReachedBy.{reached_by}
use Rattle.hy_lawful.proofs.PassSteps.{least_below}
use Rattle.hy_lawful.proofs.KeptStands.{PhaseStands, TurnStands, blank_has, writes_have, phase_stands}

-- an open transaction of these statements
pub record OpenStands (setting : Setting) (statements : List Bound) (current : Open) : Type 0 where
  pub own : OwnFits setting current.begun.own
  pub took : length current.begun.took ≡ length current.begun.replies
  pub low : current.begun.low ≤ current.begun.prefix
  pub phase : PhaseStands setting statements current.begun current.phase

abbrev pub NowStands : Setting → List Bound → Option Open → Type 0
NowStands setting statements None = Unit {0}
NowStands setting statements (Some current) = OpenStands setting statements current

-- the watermark of an ended transaction is at most its start
abbrev pub EndStands : Finished → Type 0
EndStands finished = finished.begun.low ≤ finished.begun.prefix

pub record SessionStands (setting : Setting) (number : ℕ) (session : Session) : Type 0 where
  pub done : AllByRecursion EndStands session.done
  pub now : NowStands setting (statements_at setting number (length session.done)) session.now

abbrev pub AllStand : Setting → State → Type 0
AllStand setting state = (number : ℕ) → SessionStands setting number (session_at state number)

-- the statements of a session's transaction that is open or comes next
abbrev statements_now : Setting → State → ℕ → List Bound
statements_now setting state number = statements_at setting number (length (session_at state number).done)

-- ---- turns of an open transaction

goes_on : (setting : Setting) (state : State) (order : List Entry) (mark : Option ℕ) (number : ℕ) (new : Open) → AllStand setting state
    → number < length state.sessions → OpenStands setting (statements_now setting state number) new
    → AllStand setting (moved_to state order mark number (record { done = (session_at state number).done; now = Some new }))
goes_on setting state order mark number new all there stands =
    sessions_moved (SessionStands setting) state order mark number (record { done = (session_at state number).done; now = Some new }) there
    (record { done = (all number).done; now = stands }) (λ other apart. all other)

ends : (setting : Setting) (state : State) (number : ℕ) (current : Open) (ending : Ending) → AllStand setting state → number < length state.sessions
    → current.begun.low ≤ current.begun.prefix
    → AllStand setting (moved_to state state.order None number
    (record { done = (session_at state number).done ++ record { begun = current.begun; ending = ending } ∷ []; now = None }))
ends setting state number current ending all there low =
    sessions_moved (SessionStands setting) state state.order None number
    (record { done = (session_at state number).done ++ record { begun = current.begun; ending = ending } ∷ []; now = None }) there
    (record {
      done = all_more EndStands (session_at state number).done (record { begun = current.begun; ending = ending }) (all number).done low;
      now = tt;
    })
    (λ other apart. all other)

-- a turn of an open transaction leaves what stands so
turn_stands : (setting : Setting) (state : State) (number : ℕ) (current : Open) → AllStand setting state → number < length state.sessions
    → (session_at state number).now ≡ Some current → OpenStands setting (statements_now setting state number) current → (turn : Turn Write)
    → TurnStands setting (statements_now setting state number) current.begun turn → AllStand setting (after_turn setting state number turn).0
turn_stands setting state number current all there is o Done h = all
turn_stands setting state number current all there is o (Waits by) h = all
turn_stands setting state number current all there is o Begins h = absurd h
turn_stands setting state number current all there is o (Visits writes phase) h =
    subst (λ (now : Option Open). AllStand setting
    (with_session state number (record { done = (session_at state number).done; now = option_map (after_visit writes phase) now })))
    (sym is)
    (goes_on setting state state.order state.mark number (after_visit writes phase current) all there
    (record { own = writes_have setting current.begun.own writes o.own; took = o.took; low = o.low; phase = h }))
turn_stands setting state number current all there is o (Answers writes reply took records) h =
    subst (λ (now : Option Open). AllStand setting
    (with_session state number (record { done = (session_at state number).done; now = option_map (after_answer writes reply took records) now })))
    (sym is)
    (goes_on setting state state.order state.mark number (after_answer writes reply took records current) all there
    (record {
      own = writes_have setting current.begun.own writes o.own;
      took = omega (arith, o.took, length-append current.begun.took (took ∷ []), length-append current.begun.replies (reply ∷ []));
      low = o.low;
      phase = λ statement e. inl refl;
    }))
turn_stands setting state number current all there is o (Saves statement reply) h =
    subst (λ (now : Option Open). AllStand setting
    (with_session state number (record { done = (session_at state number).done; now = option_map (after_saving statement reply) now })))
    (sym is)
    (goes_on setting state state.order state.mark number (after_saving statement reply current) all there
    (record {
      own = o.own;
      took = omega (arith, o.took, length-append current.begun.took (None ∷ []), length-append current.begun.replies (reply ∷ []));
      low = o.low;
      phase = λ other e. inl refl;
    }))
turn_stands setting state number current all there is o Enters h =
    subst (λ (now : Option Open). AllStand setting (moved_to state (order_with setting state number now) (Some number) number
    (record { done = (session_at state number).done; now = option_map (after_visit [] (Stamping 0)) now })))
    (sym is)
    (goes_on setting state (order_with setting state number (Some current)) (Some number) number (after_visit [] (Stamping 0) current) all there
    (record { own = o.own; took = o.took; low = o.low; phase = omega arith }))
turn_stands setting state number current all there is o (Ends ending) h =
    subst (λ (now : Option Open). AllStand setting
    (moved_to state state.order None number (record { done = done_with ending (session_at state number).done now; now = None })))
    (sym is) (ends setting state number current ending all there o.low)

-- ---- a transaction begins

begins : (setting : Setting) (state : State) (number : ℕ) → AllStand setting state → number < length state.sessions
    → AllStand setting (after_turn setting state number Begins).0
begins setting state number all there =
    goes_on setting state state.order state.mark number (record { begun = beginning setting state; phase = Working 0 0 }) all there
    (record {
      own = blank_has setting;
      took = refl;
      low = least_below (length state.order) state.sessions;
      phase = λ statement e. inl refl;
    })

pub reached_stands : (setting : Setting) (state : State) → IsReached setting state → AllStand setting state
reached_stands setting = reached_by setting (AllStand setting) (record {
  begins = λ state number txn all may. begins setting state number all may.there;
  turns = λ state number txn current all takes.
      let statements : List Bound = statements_now setting state number in
      turn_stands setting state number current all takes.there takes.is (subst (NowStands setting statements) takes.is (all number).now)
      (phase_turn setting state number txn current.begun current.phase)
      (subst (λ (of : List Bound). TurnStands setting of current.begun (phase_turn setting state number txn current.begun current.phase))
      (sym (ap statements_in takes.at)) (phase_stands setting state number txn current.begun current.phase));
}) (λ number. subst (SessionStands setting number) (sym (fresh_at setting number)) (record { done = tt; now = tt }))
