-- In each state that the machine comes to, what an open transaction wrote is what its writes come to, one after another, and
-- each of its savepoints was made behind some of them.
use Rattle.std.proofs.Common.{ℕ, ◌<◌, List, [], ◌∷◌, ◌++◌, Option, None, Some, length, sym, subst}
use Rattle.std.specs.Option.{option_map}
use Rattle.std.specs.List.{AllByRecursion}
use Rattle.hy_bound.specs.declared.Bound.{Bound}
use Rattle.hy_bound.specs.declared.Record.{Record}
use Rattle.hy_bound.specs.declared.Reply.{Reply}
use Rattle.hy_machine.specs.declared.Setting.{Setting}
use Rattle.hy_protocol.specs.declared.Phase.{Phase}
use Rattle.hy_protocol.specs.declared.Phase.TheVariants.{Stamping}
use Rattle.hy_machine.specs.States.{State, Session, Open}
use Rattle.hy_machine.specs.Tables.{Entry}
use Rattle.hy_machine.specs.Writes.{Write, with_trail}
use Rattle.hy_protocol.specs.Turns.{Turn, Done, Waits, Begins, Visits, Answers, Saves, Enters, Ends}
use Rattle.hy_machine.specs.Turns.{phase_turn}
use Rattle.hy_machine.specs.Sessions.{session_at}
use Rattle.hy_machine.specs.Steps.{with_changed, with_open, beginning, after_visit, after_answer, after_saving, order_with, after_turn}
use Rattle.hy_machine.specs.Runs.{IsReached}
use Rattle.hy_machine.specs.Kept.{IsNow, TrailFits}
use Rattle.hy_machine.specs.Trails.{with_more, begins_fit, more_fits, saving_fits}
use Rattle.hy_lawful.proofs.Lists.{all_more}
use Rattle.hy_lawful.proofs.Moves.{moved_to, sessions_moved}
use Rattle.hy_lawful.proofs.Reached.{fresh_at}
use Rattle.hy_lawful.proofs.ReachedBy.{reached_by}

-- ---- more writes

-- what holds of each write of a trail, and of more, holds of each behind them
pub trail_all : (P : Write → Type 0) (trail writes : List Write) → AllByRecursion P trail → AllByRecursion P writes
    → AllByRecursion P (with_trail trail writes)
trail_all P trail [] h k = h
trail_all P trail (write ∷ writes) h k = trail_all P (trail ++ write ∷ []) writes (all_more P trail write h k.0) k.1

visit_trail : (setting : Setting) (writes : List Write) (phase : Phase) (current : Open) → TrailFits setting current.begun
    → TrailFits setting (after_visit writes phase current).begun
visit_trail setting writes phase current h = more_fits setting current.begun writes h

answer_trail : (setting : Setting) (writes : List Write) (reply : Reply) (took : Option ℕ) (records : List Record) (current : Open)
    → TrailFits setting current.begun → TrailFits setting (after_answer writes reply took records current).begun
answer_trail setting writes reply took records current h =
    let more : TrailFits setting (with_more current.begun writes) = more_fits setting current.begun writes h in
    record { own_is = more.own_is; within = more.within }

saving_trail : (setting : Setting) (statement : Bound) (reply : Reply) (current : Open) → TrailFits setting current.begun
    → TrailFits setting (after_saving statement reply current).begun
saving_trail setting statement reply current h =
    let saved = saving_fits setting current.begun statement h in record { own_is = saved.own_is; within = saved.within }

-- ---- turns

abbrev NowTrails : Setting → Option Open → Type 0
NowTrails setting None = Unit {0}
NowTrails setting (Some current) = TrailFits setting current.begun

abbrev AllTrails : Setting → State → Type 0
AllTrails setting state = (number : ℕ) → NowTrails setting (session_at state number).now

changed_trail : (setting : Setting) (change : Open → Open)
    → ((current : Open) → TrailFits setting current.begun → TrailFits setting (change current).begun) → (now : Option Open)
    → NowTrails setting now → NowTrails setting (option_map change now)
changed_trail setting change keeps None h = tt
changed_trail setting change keeps (Some current) h = keeps current h

goes_on : (setting : Setting) (state : State) (order : List Entry) (mark : Option ℕ) (number : ℕ) (change : Open → Open)
    → ((current : Open) → TrailFits setting current.begun → TrailFits setting (change current).begun) → number < length state.sessions
    → AllTrails setting state → AllTrails setting (moved_to state order mark number (with_changed change (session_at state number)))
goes_on setting state order mark number change keeps there all =
    sessions_moved (λ other one. NowTrails setting one.now) state order mark number (with_changed change (session_at state number)) there
    (changed_trail setting change keeps (session_at state number).now (all number)) (λ other apart. all other)

begins : (setting : Setting) (state : State) (number : ℕ) → number < length state.sessions → AllTrails setting state
    → AllTrails setting (after_turn setting state number Begins).0
begins setting state number there all =
    sessions_moved (λ other one. NowTrails setting one.now) state state.order state.mark number
    (with_open (beginning setting state) (session_at state number)) there (begins_fit setting state) (λ other apart. all other)

turn_trails : (setting : Setting) (state : State) (number : ℕ) → number < length state.sessions → AllTrails setting state → (turn : Turn Write)
    → AllTrails setting (after_turn setting state number turn).0
turn_trails setting state number there all Done = all
turn_trails setting state number there all (Waits by) = all
turn_trails setting state number there all Begins = begins setting state number there all
turn_trails setting state number there all (Visits writes phase) =
    goes_on setting state state.order state.mark number (after_visit writes phase) (visit_trail setting writes phase) there all
turn_trails setting state number there all (Answers writes reply took records) =
    goes_on setting state state.order state.mark number (after_answer writes reply took records) (answer_trail setting writes reply took records) there all
turn_trails setting state number there all (Saves statement reply) =
    goes_on setting state state.order state.mark number (after_saving statement reply) (saving_trail setting statement reply) there all
turn_trails setting state number there all Enters =
    goes_on setting state (order_with setting state number (session_at state number).now) (Some number) number (after_visit [] (Stamping 0))
    (visit_trail setting [] (Stamping 0)) there all
turn_trails setting state number there all (Ends ending) =
    sessions_moved (λ other one. NowTrails setting one.now) state state.order None number _ there tt (λ other apart. all other)

reached_all : (setting : Setting) (state : State) → IsReached setting state → AllTrails setting state
reached_all setting = reached_by setting (AllTrails setting) (record {
  begins = λ state number txn all may. begins setting state number may.there all;
  turns = λ state number txn current all takes. turn_trails setting state number takes.there all
      (phase_turn setting state number txn current.begun current.phase);
}) (λ number. subst (λ (session : Session). NowTrails setting session.now) (sym (fresh_at setting number)) tt)

pub reached_trails : (setting : Setting) (state : State) → IsReached setting state → (number : ℕ) (current : Open) → IsNow state number current
    → TrailFits setting current.begun
reached_trails setting state r number current is = subst (NowTrails setting) is (reached_all setting state r number)
