-- In each state that the machine comes to it is known what its transactions had written by their end.
use Rattle.std.proofs.Common.{◌≡◌, ℕ, ◌<◌, ◌≤◌, List, [], ◌∷◌, ◌++◌, Option, None, Some, length, take, ap, sym, ◌∙◌, subst, inl, inr}
use Rattle.std.specs.Prelude.{slice_get}
use Rattle.std.specs.Option.{option_map}
use Rattle.std.proofs.lemmas.Option.{same_Some}
use Rattle.hy_bound.specs.declared.Bound.{Bound}
use Rattle.hy_bound.specs.declared.Ending.{Ending}
use Rattle.hy_machine.specs.declared.Setting.{Setting}
use Rattle.hy_protocol.specs.declared.Phase.TheVariants.{Working, Stamping}
use Rattle.hy_machine.specs.States.{State, Session, Open, Finished}
use Rattle.hy_machine.specs.Tables.{Entry, Tables}
use Rattle.hy_protocol.specs.Turns.{Turn, Done, Waits, Begins, Visits, Answers, Saves, Enters, Ends}
use Rattle.hy_machine.specs.Turns.{phase_turn}
use Rattle.hy_machine.specs.Writes.{Write, with_writes, with_trail}
use Rattle.hy_machine.specs.Sessions.{session_at, entry_of}
use Rattle.hy_machine.specs.Outcomes.{statements_in}
use Rattle.hy_machine.specs.Steps.{with_session, beginning, after_visit, after_answer, after_saving, done_with, order_with, after_turn}
use Rattle.hy_machine.specs.Runs.{IsReached}
use Rattle.hy_replay.specs.Ran.{Ran, ran}
use Rattle.hy_lawful.specs.Reached.{statements_at}
use Rattle.hy_lawful.proofs.Moves.{moved_to, sessions_moved}
use Rattle.hy_lawful.proofs.Reached.{fresh_at}
use Rattle.hy_lawful.proofs.ReachedBy.{reached_by}
use Rattle.hy_lawful.proofs.RunAnswers.{IsRun}
use Rattle.hy_lawful.proofs.RunVisits.{Stands}
use Rattle.hy_lawful.proofs.RunStates.{tables_at, OpenRun, NowRun, SessionRun, AllRun, statements_now, item_of_more, reached_run}
use Rattle.hy_lawful.proofs.PassTables.{tables_grow as tables_kept}
use Rattle.hy_lawful.proofs.WroteSweeps.{HadWritten, WrotePhase, WroteTurn, phase_wrote}

-- an ended transaction, by what its answered statements came to
pub record EndedWrote (setting : Setting) (order : List Entry) (statements : List Bound) (finished : Finished) : Type 0 where
  pub given : Ran
  pub run : IsRun setting (tables_at setting order finished.begun.prefix) statements finished.begun given
  pub wrote : HadWritten setting (tables_at setting order finished.begun.prefix) statements finished.begun given finished.ending

-- an open one, whatever its answered statements came to
abbrev OpenWrote : Setting → List Entry → List Bound → Open → Type 0
OpenWrote setting order statements current = (given : Ran)
    → ran setting (tables_at setting order current.begun.prefix) (take (length current.begun.replies) statements) current.begun.took ≡ Some given
    → WrotePhase setting (tables_at setting order current.begun.prefix) statements current.begun given current.phase

abbrev NowWrote : Setting → List Entry → List Bound → Option Open → Type 0
NowWrote setting order statements None = Unit {0}
NowWrote setting order statements (Some current) = OpenWrote setting order statements current

record SessionWrote (setting : Setting) (order : List Entry) (number : ℕ) (session : Session) : Type 0 where
  done : (before : ℕ) (finished : Finished) → slice_get session.done before ≡ Some finished
      → EndedWrote setting order (statements_at setting number before) finished
  now : NowWrote setting order (statements_at setting number (length session.done)) session.now

abbrev AllWrote : Setting → State → Type 0
AllWrote setting state = (number : ℕ) → SessionWrote setting state.order number (session_at state number)

-- ---- the commit order grows

ended_grows : (setting : Setting) (order more : List Entry) (statements : List Bound) (finished : Finished) → finished.begun.prefix ≤ length order
    → EndedWrote setting order statements finished → EndedWrote setting (order ++ more) statements finished
ended_grows setting order more statements finished start h = record {
  given = h.given;
  run = subst (λ (tables : Tables). IsRun setting tables statements finished.begun h.given)
      (sym (tables_kept setting order more finished.begun.prefix start)) h.run;
  wrote = subst (λ (tables : Tables). HadWritten setting tables statements finished.begun h.given finished.ending)
      (sym (tables_kept setting order more finished.begun.prefix start)) h.wrote;
}

now_grows : (setting : Setting) (order more : List Entry) (statements : List Bound) (now : Option Open) → NowRun setting order statements now
    → NowWrote setting order statements now → NowWrote setting (order ++ more) statements now
now_grows setting order more statements None run h = tt
now_grows setting order more statements (Some current) run h =
    subst (λ (tables : Tables). (given : Ran)
    → ran setting tables (take (length current.begun.replies) statements) current.begun.took ≡ Some given
    → WrotePhase setting tables statements current.begun given current.phase)
    (sym (tables_kept setting order more current.begun.prefix run.start)) h

session_grows : (setting : Setting) (order more : List Entry) (number : ℕ) (session : Session) → SessionRun setting order number session
    → SessionWrote setting order number session → SessionWrote setting (order ++ more) number session
session_grows setting order more number session run h = record {
  done = λ before finished e. ended_grows setting order more (statements_at setting number before) finished (run.done before finished e).start
      (h.done before finished e);
  now = now_grows setting order more (statements_at setting number (length session.done)) session.now run.now h.now;
}

-- ---- turns of an open transaction

-- what a session is that is open
record IsWriting (setting : Setting) (state : State) (number : ℕ) (current : Open) : Type 0 where
  runs : AllRun setting state
  all : AllWrote setting state
  there : number < length state.sessions
  is : (session_at state number).now ≡ Some current
  run : OpenRun setting state.order (statements_now setting state number) current

goes_on : (setting : Setting) (state : State) (number : ℕ) (new : Open) → AllWrote setting state → number < length state.sessions
    → OpenWrote setting state.order (statements_now setting state number) new
    → AllWrote setting (moved_to state state.order state.mark number (record { done = (session_at state number).done; now = Some new }))
goes_on setting state number new all there wrote =
    sessions_moved (SessionWrote setting state.order) state state.order state.mark number
    (record { done = (session_at state number).done; now = Some new }) there (record { done = (all number).done; now = wrote }) (λ other apart. all other)

enters : (setting : Setting) (state : State) (number : ℕ) (current : Open) (o : IsWriting setting state number current)
    → AllWrote setting (moved_to state (state.order ++ entry_of setting state number current.begun ∷ []) (Some number) number
    (record { done = (session_at state number).done; now = Some (after_visit [] (Stamping 0) current) }))
enters setting state number current o =
    let more : List Entry = entry_of setting state number current.begun ∷ [] in
    let grown : SessionWrote setting (state.order ++ more) number (session_at state number) =
    session_grows setting state.order more number (session_at state number) (o.runs number) (o.all number) in
    sessions_moved (SessionWrote setting (state.order ++ more)) state (state.order ++ more) (Some number) number
    (record { done = (session_at state number).done; now = Some (after_visit [] (Stamping 0) current) }) o.there
    (record { done = grown.done; now = λ given e. tt })
    (λ other apart. session_grows setting state.order more other (session_at state other) (o.runs other) (o.all other))

ends : (setting : Setting) (state : State) (number : ℕ) (current : Open) (o : IsWriting setting state number current) (ending : Ending)
    → HadWritten setting (tables_at setting state.order current.begun.prefix) (statements_now setting state number) current.begun o.run.given ending
    → AllWrote setting (moved_to state state.order None number
    (record { done = (session_at state number).done ++ record { begun = current.begun; ending = ending } ∷ []; now = None }))
ends setting state number current o ending wrote =
    let finished : Finished = record { begun = current.begun; ending = ending } in
    let done : List Finished = (session_at state number).done in
    let ended : EndedWrote setting state.order (statements_at setting number (length done)) finished =
    record { given = o.run.given; run = o.run.run; wrote = wrote } in
    sessions_moved (SessionWrote setting state.order) state state.order None number (record { done = done ++ finished ∷ []; now = None }) o.there
    (record {
      done = λ before one e. elim (item_of_more done finished before one e) [
        | inl old ↦ (o.all number).done before one old
        | inr new ↦ subst (λ (n : ℕ). EndedWrote setting state.order (statements_at setting number n) one) (sym new.0)
            (subst (EndedWrote setting state.order (statements_at setting number (length done))) new.1 ended)
      ];
      now = tt;
    })
    (λ other apart. o.all other)

-- a turn of an open transaction
turn_wrote : (setting : Setting) (state : State) (number : ℕ) (current : Open) (o : IsWriting setting state number current) (turn : Turn Write)
    → WroteTurn setting (tables_at setting state.order current.begun.prefix) (statements_now setting state number) current.begun o.run.given turn
    → AllWrote setting (after_turn setting state number turn).0
turn_wrote setting state number current o Done h = o.all
turn_wrote setting state number current o (Waits by) h = o.all
turn_wrote setting state number current o Begins h = absurd h
turn_wrote setting state number current o (Visits writes phase) h =
    subst (λ (now : Option Open). AllWrote setting
    (with_session state number (record { done = (session_at state number).done; now = option_map (after_visit writes phase) now })))
    (sym o.is)
    (goes_on setting state number (after_visit writes phase current) o.all o.there
    (λ given e. subst (λ (one : Ran). WrotePhase setting (tables_at setting state.order current.begun.prefix) (statements_now setting state number)
    (record current.begun { own = with_writes current.begun.own writes; trail = with_trail current.begun.trail writes }) one phase)
    (same_Some o.run.given given (sym o.run.run.came_to ∙ e)) h))
turn_wrote setting state number current o (Answers writes reply took records) h =
    subst (λ (now : Option Open). AllWrote setting
    (with_session state number (record { done = (session_at state number).done; now = option_map (after_answer writes reply took records) now })))
    (sym o.is)
    (goes_on setting state number (after_answer writes reply took records current) o.all o.there (λ given e. tt))
turn_wrote setting state number current o (Saves statement reply) h =
    subst (λ (now : Option Open). AllWrote setting
    (with_session state number (record { done = (session_at state number).done; now = option_map (after_saving statement reply) now })))
    (sym o.is)
    (goes_on setting state number (after_saving statement reply current) o.all o.there (λ given e. tt))
turn_wrote setting state number current o Enters h =
    subst (λ (now : Option Open). AllWrote setting (moved_to state (order_with setting state number now) (Some number) number
    (record { done = (session_at state number).done; now = option_map (after_visit [] (Stamping 0)) now })))
    (sym o.is) (enters setting state number current o)
turn_wrote setting state number current o (Ends ending) h =
    subst (λ (now : Option Open). AllWrote setting
    (moved_to state state.order None number (record { done = done_with ending (session_at state number).done now; now = None })))
    (sym o.is) (ends setting state number current o ending h)

-- ---- steps

reached_wrote : (setting : Setting) (state : State) → 0 < setting.chunks → IsReached setting state → AllWrote setting state
reached_wrote setting state chunks = reached_by setting (AllWrote setting) (record {
  begins = λ state number txn all may.
      goes_on setting state number (record { begun = beginning setting state; phase = Working 0 0 }) all may.there (λ given h. tt);
  turns = λ state number txn current all takes.
      let runs : AllRun setting state = reached_run setting state chunks takes.reached in
      let tables : Tables = tables_at setting state.order current.begun.prefix in
      let statements : List Bound = statements_now setting state number in
      let same : statements ≡ txn.statements = ap statements_in takes.at in
      let present : OpenRun setting state.order statements current = subst (NowRun setting state.order statements) takes.is (runs number).now in
      let wrote : OpenWrote setting state.order statements current = subst (NowWrote setting state.order statements) takes.is (all number).now in
      turn_wrote setting state number current
      (record { runs = runs; all = all; there = takes.there; is = takes.is; run = present })
      (phase_turn setting state number txn current.begun current.phase)
      (subst (λ (of : List Bound). WroteTurn setting tables of current.begun present.given
      (phase_turn setting state number txn current.begun current.phase)) (sym same)
      (phase_wrote setting state number txn current.begun present.given current.phase
      (subst (λ (of : List Bound). Stands setting tables of current.begun present.given current.phase) same present.stands)
      (subst (λ (of : List Bound). WrotePhase setting tables of current.begun present.given current.phase) same
      (wrote present.given present.run.came_to))));
})
    (λ number. subst (SessionWrote setting [] number) (sym (fresh_at setting number)) (record { done = λ before finished e. absurd cc; now = tt })) state

-- what the ended transactions of a state had written
abbrev pub EndedAllWrote : Setting → State → Type 0
EndedAllWrote setting state = (number before : ℕ) (finished : Finished) → slice_get (session_at state number).done before ≡ Some finished
    → EndedWrote setting state.order (statements_at setting number before) finished

pub ended_wrote : (setting : Setting) (state : State) → 0 < setting.chunks → IsReached setting state → EndedAllWrote setting state
ended_wrote setting state chunks r number before finished e = (reached_wrote setting state chunks r number).done before finished e
