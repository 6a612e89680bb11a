-- In each state that the machine comes to the transactions have run: what holds of the opening and stays true along steps.
use Rattle.std.proofs.Common.{◌≡◌, ℕ, zero, suc, ◌<◌, ◌≤◌, List, [], ◌∷◌, ◌++◌, Option, None, Some, length, take, refl, ap, sym, subst, arith}
use Rattle.std.proofs.Common.{inl, inr, ◌⊎◌}
use Rattle.std.specs.Prelude.{slice_get, IfSome}
use Rattle.std.specs.Option.{option_map}
use Rattle.std.proofs.lemmas.List.{length-append}
use Rattle.std.proofs.lemmas.Option.{same_Some}
use Rattle.hy_bound.specs.declared.Bound.{Bound}
use Rattle.hy_bound.specs.declared.Record.{Record}
use Rattle.hy_bound.specs.declared.Reply.{Reply}
use Rattle.hy_bound.specs.declared.Ending.{Ending}
use Rattle.hy_machine.specs.declared.Setting.{Setting}
use Rattle.hy_protocol.specs.declared.Phase.TheVariants.{Working, Stamping}
use Rattle.hy_machine.specs.States.{State, Session, Open, Begun, Finished}
use Rattle.hy_machine.specs.Tables.{Entry, Tables, history, opening_tables, over}
use Rattle.hy_machine.specs.Writes.{Write, blank_own, with_writes}
use Rattle.hy_machine.specs.Trails.{with_more}
use Rattle.hy_protocol.specs.Turns.{Turn, Done, Waits, Begins, Visits, Answers, Saves, Enters, Ends}
use Rattle.hy_machine.specs.Turns.{phase_turn}
use Rattle.hy_machine.specs.Sessions.{session_at, entry_of}
use Rattle.hy_machine.specs.Outcomes.{statements_in}
use Rattle.hy_machine.specs.Steps.{with_session, beginning, after_visit, after_answer, after_saving, done_with, order_with, after_turn}
use Rattle.hy_machine.specs.Runs.{IsReached}
use Rattle.hy_replay.specs.Ran.{Ran}
use Rattle.hy_lawful.specs.Outcomes.{committed_at}
use Rattle.hy_lawful.specs.Reached.{AllHaveRun, statements_at}
use Rattle.hy_lawful.specs.Refusing.{WasRefused}
use Rattle.hy_lawful.proofs.Moves.{moved_to, sessions_moved}
use Rattle.hy_lawful.proofs.Reached.{fresh_at}
use Rattle.hy_lawful.proofs.ReachedBy.{reached_by}
use Rattle.hy_lawful.proofs.Trails.{reached_trails}
use Rattle.hy_lawful.proofs.RunAnswers.{with_answer, IsRun, SavesNext, answered, saved_answered, longer_saved, run_more, run_saved}
use Rattle.hy_lawful.proofs.RunVisits.{Stands, RunTurn, at_start}
use Rattle.hy_lawful.proofs.RunTurns.{phase_run}
use Rattle.hy_lawful.proofs.PassSteps.{least_below}
use Rattle.hy_lawful.proofs.PassTables.{tables_grow as tables_kept}

-- ---- transactions

-- the tables after the first entries of a commit order
abbrev pub tables_at : Setting → List Entry → ℕ → Tables
tables_at setting order prefix = history (opening_tables setting) (take prefix order)

-- an ended transaction has run
pub record EndedRun (setting : Setting) (order : List Entry) (statements : List Bound) (finished : Finished) : Type 0 where
  pub given : Ran
  pub run : IsRun setting (tables_at setting order finished.begun.prefix) statements finished.begun given
  pub wrote : IfSome (committed_at finished.ending) (λ (rank : ℕ). given.own ≡ finished.begun.own)
  pub start : finished.begun.prefix ≤ length order
  pub refused : WasRefused setting.shapes (over (tables_at setting order finished.begun.prefix) finished.begun.own)
      (over (tables_at setting order finished.begun.prefix) given.own) (slice_get statements (length finished.begun.replies)) finished.ending

-- an open transaction has run so far
pub record OpenRun (setting : Setting) (order : List Entry) (statements : List Bound) (current : Open) : Type 0 where
  pub given : Ran
  pub run : IsRun setting (tables_at setting order current.begun.prefix) statements current.begun given
  pub stands : Stands setting (tables_at setting order current.begun.prefix) statements current.begun given current.phase
  pub low : current.begun.low ≤ current.begun.prefix
  pub start : current.begun.prefix ≤ length order

abbrev pub NowRun : Setting → List Entry → List Bound → Option Open → Type 0
NowRun setting order statements None = Unit {0}
NowRun setting order statements (Some current) = OpenRun setting order statements current

pub record SessionRun (setting : Setting) (order : List Entry) (number : ℕ) (session : Session) : Type 0 where
  pub done : (before : ℕ) (finished : Finished) → slice_get session.done before ≡ Some finished
      → EndedRun setting order (statements_at setting number before) finished
  pub now : NowRun setting order (statements_at setting number (length session.done)) session.now

-- the statements of a session's transaction that is open or comes next
abbrev pub statements_now : Setting → State → ℕ → List Bound
statements_now setting state number = statements_at setting number (length (session_at state number).done)

abbrev pub AllRun : Setting → State → Type 0
AllRun setting state = (number : ℕ) → SessionRun setting state.order number (session_at state number)

-- ---- the commit order grows

ended_grows : (setting : Setting) (order more : List Entry) (statements : List Bound) (finished : Finished)
    → EndedRun setting order statements finished → EndedRun setting (order ++ more) statements finished
ended_grows setting order more statements finished h = record {
  given = h.given;
  run = subst (λ (tables : Tables). IsRun setting tables statements finished.begun h.given)
      (sym (tables_kept setting order more finished.begun.prefix h.start)) h.run;
  wrote = h.wrote;
  start = omega (arith, h.start, length-append order more);
  refused = subst (λ (tables : Tables). WasRefused setting.shapes (over tables finished.begun.own) (over tables h.given.own)
      (slice_get statements (length finished.begun.replies)) finished.ending)
      (sym (tables_kept setting order more finished.begun.prefix h.start)) h.refused;
}

open_grows : (setting : Setting) (order more : List Entry) (statements : List Bound) (current : Open)
    → OpenRun setting order statements current → OpenRun setting (order ++ more) statements current
open_grows setting order more statements current h = record {
  given = h.given;
  run = subst (λ (tables : Tables). IsRun setting tables statements current.begun h.given)
      (sym (tables_kept setting order more current.begun.prefix h.start)) h.run;
  stands = subst (λ (tables : Tables). Stands setting tables statements current.begun h.given current.phase)
      (sym (tables_kept setting order more current.begun.prefix h.start)) h.stands;
  low = h.low;
  start = omega (arith, h.start, length-append order more);
}

now_grows : (setting : Setting) (order more : List Entry) (statements : List Bound) (now : Option Open)
    → NowRun setting order statements now → NowRun setting (order ++ more) statements now
now_grows setting order more statements None h = tt
now_grows setting order more statements (Some current) h = open_grows setting order more statements current h

session_grows : (setting : Setting) (order more : List Entry) (number : ℕ) (session : Session)
    → SessionRun setting order number session → SessionRun setting (order ++ more) number session
session_grows setting order more number session h = record {
  done = λ before finished e. ended_grows setting order more (statements_at setting number before) finished (h.done before finished e);
  now = now_grows setting order more (statements_at setting number (length session.done)) session.now h.now;
}

-- ---- turns of an open transaction

-- what was written since doesn't change what was answered
written_run : (setting : Setting) (tables : Tables) (statements : List Bound) (begun : Begun) (writes : List Write) (given : Ran)
    → IsRun setting tables statements begun given → IsRun setting tables statements (with_more begun writes) given
written_run setting tables statements begun writes given r =
    record {
      came_to = r.came_to;
      replies = r.replies;
      records = r.records;
      positions = r.positions;
      took = r.took;
      saved = longer_saved setting begun.trail writes begun.saved given.saved r.saved;
    }

-- what a session is that is open
record IsOpen (setting : Setting) (state : State) (number : ℕ) (current : Open) : Type 0 where
  chunks : 0 < setting.chunks
  all : AllRun setting state
  there : number < length state.sessions
  is : (session_at state number).now ≡ Some current
  run : OpenRun setting state.order (statements_now setting state number) current

goes_on : (setting : Setting) (state : State) (number : ℕ) (new : Open) → AllRun setting state → number < length state.sessions
    → OpenRun setting state.order (statements_now setting state number) new
    → AllRun setting (moved_to state state.order state.mark number (record { done = (session_at state number).done; now = Some new }))
goes_on setting state number new all there run =
    sessions_moved (SessionRun setting state.order) state state.order state.mark number
    (record { done = (session_at state number).done; now = Some new }) there (record { done = (all number).done; now = run }) (λ other apart. all other)

answers : (setting : Setting) (state : State) (number : ℕ) (current : Open) (o : IsOpen setting state number current) (writes : List Write) (reply : Reply)
    (took : Option ℕ) (records : List Record)
    → RunTurn setting (tables_at setting state.order current.begun.prefix) (statements_now setting state number)
    current.begun o.run.given (Answers writes reply took records)
    → OpenRun setting state.order (statements_now setting state number) (after_answer writes reply took records current)
answers setting state number current o writes reply took records h =
    let tables : Tables = tables_at setting state.order current.begun.prefix in
    let statements : List Bound = statements_now setting state number in
    let given : Ran =
    with_answer tables h.statement o.run.given (record { own = with_writes current.begun.own writes; reply = reply; records = records }) in
    record {
      given = given;
      run = run_more setting tables statements current.begun o.run.given writes reply took records o.run.run h;
      stands = at_start setting tables (answered current.begun writes reply took records) given o.chunks h.stays
          (slice_get statements (length (current.begun.replies ++ reply ∷ [])));
      low = o.run.low;
      start = o.run.start;
    }

saves : (setting : Setting) (state : State) (number : ℕ) (current : Open) (o : IsOpen setting state number current) (statement : Bound) (reply : Reply)
    → SavesNext setting (tables_at setting state.order current.begun.prefix) (statements_now setting state number) current.begun o.run.given statement reply
    → OpenRun setting state.order (statements_now setting state number) (after_saving statement reply current)
saves setting state number current o statement reply h =
    let tables : Tables = tables_at setting state.order current.begun.prefix in
    let statements : List Bound = statements_now setting state number in
    let given : Ran = with_answer tables statement o.run.given (record { own = o.run.given.own; reply = reply; records = [] }) in
    record {
      given = given;
      run = run_saved setting tables statements current.begun o.run.given statement reply o.run.run h;
      stands = at_start setting tables (saved_answered current.begun statement reply) given o.chunks h.own
          (slice_get statements (length (current.begun.replies ++ reply ∷ [])));
      low = o.run.low;
      start = o.run.start;
    }

enters : (setting : Setting) (state : State) (number : ℕ) (current : Open) (o : IsOpen setting state number current)
    → o.run.given.own ≡ current.begun.own
    → AllRun setting (moved_to state (state.order ++ entry_of setting state number current.begun ∷ []) (Some number) number
    (record { done = (session_at state number).done; now = Some (after_visit [] (Stamping 0) current) }))
enters setting state number current o same =
    let more : List Entry = entry_of setting state number current.begun ∷ [] in
    let grown : SessionRun setting (state.order ++ more) number (session_at state number) =
    session_grows setting state.order more number (session_at state number) (o.all number) in
    let stamps : OpenRun setting state.order (statements_now setting state number)
    (after_visit [] (Stamping 0) current) =
    record {
      given = o.run.given;
      run = written_run setting (tables_at setting state.order current.begun.prefix)
          (statements_now setting state number) current.begun [] o.run.given o.run.run;
      stands = same;
      low = o.run.low;
      start = o.run.start;
    } in
    sessions_moved (SessionRun setting (state.order ++ more)) state (state.order ++ more) (Some number) number
    (record { done = (session_at state number).done; now = Some (after_visit [] (Stamping 0) current) }) o.there
    (record {
      done = grown.done;
      now = open_grows setting state.order more (statements_now setting state number) (after_visit [] (Stamping 0) current)
          stamps;
    })
    (λ other apart. session_grows setting state.order more other (session_at state other) (o.all other))

-- the ended transactions and one more
pub item_of_more : {X : Type 0} (xs : List X) (last : X) (i : ℕ) (x : X) → slice_get (xs ++ last ∷ []) i ≡ Some x
    → (slice_get xs i ≡ Some x) ⊎ ((i ≡ length xs) × (last ≡ x))
item_of_more [] last zero x e = inr (refl, same_Some last x e)
item_of_more [] last (suc i) x e = absurd cc
item_of_more (first ∷ xs) last zero x e = inl e
item_of_more (first ∷ xs) last (suc i) x e = elim (item_of_more xs last i x e) [
  | inl h ↦ inl h
  | inr h ↦ inr (ap suc h.0, h.1)
]

ends : (setting : Setting) (state : State) (number : ℕ) (current : Open) (o : IsOpen setting state number current) (ending : Ending)
    → RunTurn setting (tables_at setting state.order current.begun.prefix) (statements_now setting state number) current.begun o.run.given (Ends ending)
    → AllRun setting (moved_to state state.order None number
    (record { done = (session_at state number).done ++ record { begun = current.begun; ending = ending } ∷ []; now = None }))
ends setting state number current o ending h =
    let finished : Finished = record { begun = current.begun; ending = ending } in
    let done : List Finished = (session_at state number).done in
    let ended : EndedRun setting state.order (statements_at setting number (length done)) finished =
    record { given = o.run.given; run = o.run.run; wrote = h.0; start = o.run.start; refused = h.1 } in
    sessions_moved (SessionRun setting state.order) state state.order None number (record { done = done ++ finished ∷ []; now = None }) o.there
    (record {
      done = λ before one e. elim (item_of_more done finished before one e) [
        | inl old ↦ (o.all number).done before one old
        | inr new ↦ subst (λ (n : ℕ). EndedRun setting state.order (statements_at setting number n) one) (sym new.0)
            (subst (EndedRun setting state.order (statements_at setting number (length done))) new.1 ended)
      ];
      now = tt;
    })
    (λ other apart. o.all other)

-- a turn of an open transaction leaves what has run
turn_runs : (setting : Setting) (state : State) (number : ℕ) (current : Open) (o : IsOpen setting state number current) (turn : Turn Write)
    → RunTurn setting (tables_at setting state.order current.begun.prefix) (statements_now setting state number)
    current.begun o.run.given turn
    → AllRun setting (after_turn setting state number turn).0
turn_runs setting state number current o Done h = o.all
turn_runs setting state number current o (Waits by) h = o.all
turn_runs setting state number current o Begins h = absurd h
turn_runs setting state number current o (Visits writes phase) h =
    subst (λ (now : Option Open). AllRun setting
    (with_session state number (record { done = (session_at state number).done; now = option_map (after_visit writes phase) now })))
    (sym o.is)
    (goes_on setting state number (after_visit writes phase current) o.all o.there
    (record {
      given = o.run.given;
      run = written_run setting (tables_at setting state.order current.begun.prefix)
          (statements_now setting state number) current.begun writes o.run.given o.run.run;
      stands = h;
      low = o.run.low;
      start = o.run.start;
    }))
turn_runs setting state number current o (Answers writes reply took records) h =
    subst (λ (now : Option Open). AllRun setting
    (with_session state number (record { done = (session_at state number).done; now = option_map (after_answer writes reply took records) now })))
    (sym o.is)
    (goes_on setting state number (after_answer writes reply took records current) o.all o.there
    (answers setting state number current o writes reply took records h))
turn_runs setting state number current o (Saves statement reply) h =
    subst (λ (now : Option Open). AllRun setting
    (with_session state number (record { done = (session_at state number).done; now = option_map (after_saving statement reply) now })))
    (sym o.is)
    (goes_on setting state number (after_saving statement reply current) o.all o.there (saves setting state number current o statement reply h))
turn_runs setting state number current o Enters h =
    subst (λ (now : Option Open). AllRun setting (moved_to state (order_with setting state number now) (Some number) number
    (record { done = (session_at state number).done; now = option_map (after_visit [] (Stamping 0)) now })))
    (sym o.is) (enters setting state number current o h)
turn_runs setting state number current o (Ends ending) h =
    subst (λ (now : Option Open). AllRun setting
    (moved_to state state.order None number (record { done = done_with ending (session_at state number).done now; now = None })))
    (sym o.is) (ends setting state number current o ending h)

-- ---- a transaction begins

begins : (setting : Setting) (state : State) (number : ℕ) → 0 < setting.chunks → AllRun setting state → number < length state.sessions
    → AllRun setting (after_turn setting state number Begins).0
begins setting state number chunks all there =
    let statements : List Bound = statements_now setting state number in
    let tables : Tables = tables_at setting state.order (length state.order) in
    let nothing : Ran = record { own = blank_own setting; saved = []; replies = []; records = [] } in
    goes_on setting state number (record { begun = beginning setting state; phase = Working 0 0 }) all there
    (record {
      given = nothing;
      run = record { came_to = refl; replies = refl; records = refl; positions = tt; took = refl; saved = tt };
      stands = at_start setting tables (beginning setting state) nothing chunks refl (slice_get statements 0);
      low = least_below (length state.order) state.sessions;
      start = omega arith;
    })

-- ---- steps

pub reached_run : (setting : Setting) (state : State) → 0 < setting.chunks → IsReached setting state → AllRun setting state
reached_run setting state chunks = reached_by setting (AllRun setting) (record {
  begins = λ state number txn all may. begins setting state number chunks all may.there;
  turns = λ state number txn current all takes.
      let statements : List Bound = statements_now setting state number in
      let same : statements ≡ txn.statements = ap statements_in takes.at in
      let present : OpenRun setting state.order statements current = subst (NowRun setting state.order statements) takes.is (all number).now in
      turn_runs setting state number current
      (record { chunks = chunks; all = all; there = takes.there; is = takes.is; run = present })
      (phase_turn setting state number txn current.begun current.phase)
      (subst (λ (of : List Bound). RunTurn setting (tables_at setting state.order current.begun.prefix) of current.begun present.given
      (phase_turn setting state number txn current.begun current.phase)) (sym same)
      (phase_run setting state number txn current.begun present.given chunks present.low
      (reached_trails setting state takes.reached number current takes.is)
      (subst (λ (of : List Bound). IsRun setting (tables_at setting state.order current.begun.prefix) of current.begun present.given) same present.run)
      current.phase takes.is
      (subst (λ (of : List Bound). Stands setting (tables_at setting state.order current.begun.prefix) of current.begun present.given current.phase) same
      present.stands)));
})
    (λ number. subst (SessionRun setting [] number) (sym (fresh_at setting number)) (record { done = λ before finished e. absurd cc; now = tt })) state

-- the transactions of each state that the machine comes to have run
pub reached_have_run : (setting : Setting) (state : State) → 0 < setting.chunks → IsReached setting state → AllHaveRun setting state
reached_have_run setting state chunks r number before finished e =
    let ended : EndedRun setting state.order (statements_at setting number before) finished =
    (reached_run setting state chunks r number).done before finished e in
    record {
      given = ended.given;
      has_run = record {
        came_to = ended.run.came_to;
        replies = ended.run.replies;
        records = ended.run.records;
        positions = ended.run.positions;
        took = ended.run.took;
      };
      wrote = ended.wrote;
      refused = ended.refused;
    }
