-- What transactions placed is no more than what their INSERTs took: kept along steps.
use Rattle.std.proofs.Common.{◌≡◌, ℕ, ◌+◌, ◌<◌, ◌≤◌, List, [], ◌∷◌, ◌++◌, Option, None, Some, true, false, not, is_some}
use Rattle.std.proofs.Common.{Ok}
use Rattle.std.proofs.Common.{length, refl, ap, sym, ◌∙◌, subst, arith, inl, inr, ◌⊎◌}
use Rattle.std.specs.Prelude.{slice_get}
use Rattle.std.specs.Option.{option_map}
use Rattle.std.proofs.lemmas.List.{length-append}
use Rattle.hy_value.specs.declared.Value.{Value}
use Rattle.hy_bound.specs.declared.Txn.{Txn}
use Rattle.hy_bound.specs.declared.Bound.{Bound}
use Rattle.hy_bound.specs.declared.Bound.TheVariants.{Select, Group, Insert, Update, Delete, Savepoint, RollbackTo, Release}
use Rattle.hy_bound.specs.declared.Reply.{Reply}
use Rattle.hy_bound.specs.declared.Record.{Record}
use Rattle.hy_bound.specs.declared.WriteKind.{WriteKind}
use Rattle.hy_bound.specs.declared.WriteKind.TheVariants as kind
use Rattle.hy_bound.specs.Condition.{Condition}
use Rattle.hy_bound.specs.declared.Ending.{Ending}
use Rattle.hy_bound.specs.declared.Ending.TheVariants.{RolledBack}
use Rattle.hy_machine.specs.declared.Setting.{Setting}
use Rattle.hy_protocol.specs.declared.Phase.{Phase}
use Rattle.hy_protocol.specs.declared.Phase.TheVariants.{Working, Stamping, Undoing}
use Rattle.hy_machine.specs.States.{State, Session, Open, Begun, Finished}
use Rattle.hy_machine.specs.Tables.{Entry, Cell, Tables, capacity, positions_in, covered}
use Rattle.hy_machine.specs.Writes.{Write, with_writes, blank_own}
use Rattle.hy_protocol.specs.Turns.{Turn, Done, Waits, Begins, Visits, Answers, Saves, Enters, Ends}
use Rattle.hy_machine.specs.Positions.{item_at}
use Rattle.hy_machine.specs.Saving.{taken_back}
use Rattle.hy_machine.specs.Sessions.{session_at, view, entry_of}
use Rattle.hy_machine.specs.Holding.{opponent}
use Rattle.hy_machine.specs.Visits.{verdict_at, swept}
use Rattle.hy_machine.specs.Turns.{phase_turn}
use Rattle.hy_machine.specs.Outcomes.{placed_in, placed_by, statements_in}
use Rattle.hy_machine.specs.Steps.{with_session, beginning, after_visit, after_answer, after_saving, done_with, order_with, after_turn}
use Rattle.hy_machine.specs.Runs.{IsReached}
use Rattle.hy_lawful.specs.Reached.{statements_at}
use Rattle.hy_lawful.specs.Rooms.{how_many, has_placed, ReachedPlaced}
use Rattle.hy_lawful.proofs.Booleans.{and_left}
use Rattle.hy_lawful.proofs.Backs.{SinceIsOwn, backs_all, since_own}
use Rattle.hy_lawful.proofs.Fits.{FitsTables}
use Rattle.hy_lawful.proofs.Turns.{FitsTurn}
use Rattle.hy_machine.specs.TurnCases.{WriteCases, StatementCases, UndoCases, statement_cases, undo_cases, stamp_cases, working_cases}
use Rattle.hy_lawful.proofs.Moves.{moved_to, sessions_moved}
use Rattle.hy_lawful.proofs.PassMays.{verdict_is, sweep_all}
use Rattle.hy_lawful.proofs.PassSteps.{blank_items}
use Rattle.hy_lawful.proofs.PassTables.{tables_at, tables_are, covered_at, tables_grow}
use Rattle.hy_lawful.proofs.Reached.{fresh_at}
use Rattle.hy_lawful.proofs.ReachedBy.{reached_by}
use Rattle.hy_lawful.proofs.RunStates.{item_of_more}
use Rattle.hy_lawful.proofs.FullCounts.{none_pass, took_least, took_more, AllRowed, rowed_count, insert_count}

-- ---- turns

-- an INSERT takes a position
pub record Takes (statements : List Bound) (begun : Begun) (writes : List Write) (took : Option ℕ) : Type 0 where
  pub of : ℕ
  pub at : ℕ
  pub row : List Value
  pub here : slice_get statements (length begun.replies) ≡ Some (Insert of row)
  pub took_it : took ≡ Some at
  pub wrote : writes ≡ record { table = of; pos = at; cell = Some row } ∷ []

abbrev pub PlacesTurn : Tables → List Bound → Begun → Turn Write → Type 0
PlacesTurn tables statements begun Done = Unit {0}
PlacesTurn tables statements begun (Waits by) = Unit {0}
PlacesTurn tables statements begun Begins = Unit {0}
PlacesTurn tables statements begun (Visits writes phase) = AllRowed tables begun.own writes
PlacesTurn tables statements begun (Answers writes reply took records) = AllRowed tables begun.own writes ⊎ Takes statements begun writes took
PlacesTurn tables statements begun (Saves statement reply) = Unit {0}
PlacesTurn tables statements begun Enters = Unit {0}
PlacesTurn tables statements begun (Ends ending) = Unit {0}

abbrev start_tables : Setting → State → Begun → Tables
start_tables setting state begun = tables_at setting state.order begun.prefix

seen_rowed : (setting : Setting) (state : State) (begun : Begun) (table pos : ℕ) (row : List Value) → FitsTables setting begun.own
    → item_at (view setting state begun) table pos ≡ Some row
    → (is_some (item_at begun.own table pos) ≡ true) ⊎ (is_some (item_at (start_tables setting state begun) table pos) ≡ true)
seen_rowed setting state begun table pos row own e = by_own (item_at begun.own table pos) refl
  where
    by_own : (item : Option Cell) → item_at begun.own table pos ≡ item
        → (is_some (item_at begun.own table pos) ≡ true) ⊎ (is_some (item_at (start_tables setting state begun) table pos) ≡ true)
    by_own (Some cell) o = inl (ap is_some o)
    by_own None o = inr (ap is_some (sym (covered_at setting (λ (own : Cell). own) (start_tables setting state begun) begun.own
        (tables_are setting state.order begun.prefix) own table pos
        ∙ ap (covered (λ (own : Cell). own) (item_at (start_tables setting state begun) table pos)) o) ∙ e))

swept_rowed : (setting : Setting) (state : State) (number : ℕ) (begun : Begun) (kind : WriteKind) (pred : Condition) (table chunk : ℕ) (writes : List Write)
    → FitsTables setting begun.own → swept setting state number begun kind pred table chunk ≡ Ok writes
    → AllRowed (start_tables setting state begun) begun.own writes
swept_rowed setting state number begun kind pred table chunk writes own e =
    sweep_all (λ (write : Write). (is_some (item_at begun.own write.table write.pos) ≡ true)
    ⊎ (is_some (item_at (start_tables setting state begun) write.table write.pos) ≡ true)) table
    (verdict_at setting state number begun kind pred table)
    (λ pos cell v.
    let is = verdict_is kind pred table pos (opponent setting state number begun.prefix table pos) (item_at (view setting state begun) table pos) cell v in
    seen_rowed setting state begun table pos is.0 own is.1.0)
    (positions_in setting chunk) writes e

writes_place : (setting : Setting) (state : State) (statements : List Bound) (number : ℕ) (begun : Begun) (visited count : ℕ) (statement : Bound)
    (kind : WriteKind) (pred : Condition) (table : ℕ) → FitsTables setting begun.own
    → WriteCases setting begun (PlacesTurn (start_tables setting state begun) statements begun) visited count statement kind
    (swept setting state number begun kind pred table visited)
writes_place setting state statements number begun visited count statement kind pred table own = record {
  out = λ cause e. tt;
  goes = λ writes e few. swept_rowed setting state number begun kind pred table visited writes own e;
  ends = λ writes e. inl (swept_rowed setting state number begun kind pred table visited writes own e);
}

-- a step back writes where one has written
backs_rowed : (setting : Setting) (state : State) (begun : Begun) (name : List ℕ) (table chunk : ℕ) → SinceIsOwn setting begun
    → AllRowed (start_tables setting state begun) begun.own (taken_back setting state begun name table chunk)
backs_rowed setting state begun name table chunk since =
    backs_all (λ (write : Write). (is_some (item_at begun.own write.table write.pos) ≡ true)
    ⊎ (is_some (item_at (start_tables setting state begun) write.table write.pos) ≡ true)) setting state begun name table chunk
    (λ pos s. inl (since name table pos s))

statement_places : (setting : Setting) (state : State) (statements : List Bound) (number : ℕ) (begun : Begun) (visited count : ℕ)
    → FitsTables setting begun.own → SinceIsOwn setting begun → (statement : Bound) → slice_get statements (length begun.replies) ≡ Some statement
    → StatementCases setting state number begun (PlacesTurn (start_tables setting state begun) statements begun) visited count statement
statement_places setting state statements number begun visited count own since (Select tables ons pred items) here =
    record { goes = λ few. tt; ends = inl tt }
statement_places setting state statements number begun visited count own since (Group table pred key aggregate) here =
    record { goes = λ few. tt; ends = inl tt }
statement_places setting state statements number begun visited count own since (Insert table row) here = record {
  checked = λ few. tt;
  twice = inl tt;
  takes = λ pos e. inr (record { of = table; at = pos; row = row; here = here; took_it = refl; wrote = refl });
  goes = λ past e few. tt;
  full = λ past e most. tt;
}
statement_places setting state statements number begun visited count own since (Update table sets pred) here =
    writes_place setting state statements number begun visited count (Update table sets pred) (kind.Set sets) pred table own
statement_places setting state statements number begun visited count own since (Delete table pred) here =
    writes_place setting state statements number begun visited count (Delete table pred) kind.Delete pred table own
statement_places setting state statements number begun visited count own since (Savepoint name) here =
    record { waits = λ by is. tt; saves = λ free. tt }
statement_places setting state statements number begun visited count own since (RollbackTo name) here = record {
  goes = λ chunk e. backs_rowed setting state begun name chunk.0 chunk.1 since;
  ends = λ none. record { waits = λ by is. tt; saves = λ free. tt };
}
statement_places setting state statements number begun visited count own since (Release name) here =
    record { waits = λ by is. tt; saves = λ free. tt }

undo_places : (setting : Setting) (state : State) (statements : List Bound) (number : ℕ) (begun : Begun) (visited : ℕ) (cause : Ending)
    → UndoCases setting state number begun (PlacesTurn (start_tables setting state begun) statements begun) visited cause
undo_places setting state statements number begun visited cause = record { goes = λ few. tt; waits = λ by is. tt; ends = λ free. tt }

pub phase_places : (setting : Setting) (state : State) (number : ℕ) (txn : Txn) (begun : Begun) → FitsTables setting begun.own → SinceIsOwn setting begun
    → (phase : Phase) → PlacesTurn (start_tables setting state begun) txn.statements begun (phase_turn setting state number txn begun phase)
phase_places setting state number txn begun own since (Working visited count) =
    working_cases setting state number begun (PlacesTurn (start_tables setting state begun) txn.statements begun) txn visited count
    (λ statement e. statement_cases setting state number begun (PlacesTurn (start_tables setting state begun) txn.statements begun) visited count statement
    (statement_places setting state txn.statements number begun visited count own since statement e))
    (λ none commits. record { waits = λ by is. tt; reads = λ free nothing. tt; enters = λ free some e. tt; out = λ some cause e. tt })
    (λ none rolls. undo_places setting state txn.statements number begun 0 RolledBack)
phase_places setting state number txn begun own since (Stamping visited) =
    stamp_cases setting state number begun (PlacesTurn (start_tables setting state begun) txn.statements begun) visited (λ few. tt) tt
phase_places setting state number txn begun own since (Undoing visited cause) =
    undo_cases setting state number begun (PlacesTurn (start_tables setting state begun) txn.statements begun) visited cause
    (undo_places setting state txn.statements number begun visited cause)

-- ---- what is kept

-- what a transaction placed is no more than what it took, and it has as many replies as it noted positions
pub record Counted (setting : Setting) (order : List Entry) (statements : List Bound) (begun : Begun) : Type 0 where
  pub start : begun.prefix ≤ length order
  pub long : length begun.took ≡ length begun.replies
  pub few : (table : ℕ) → how_many (has_placed (tables_at setting order begun.prefix) begun.own table) (capacity setting)
      ≤ placed_in table statements begun.took

abbrev pub NowCounted : Setting → List Entry → List Bound → Option Open → Type 0
NowCounted setting order statements None = Unit {0}
NowCounted setting order statements (Some current) = Counted setting order statements current.begun

pub record SessionCounted (setting : Setting) (order : List Entry) (number : ℕ) (session : Session) : Type 0 where
  pub done : (before : ℕ) (finished : Finished) → slice_get session.done before ≡ Some finished
      → Counted setting order (statements_at setting number before) finished.begun
  pub now : NowCounted setting order (statements_at setting number (length session.done)) session.now

abbrev pub AllCounted : Setting → State → Type 0
AllCounted setting state = (number : ℕ) → SessionCounted setting state.order number (session_at state number)

abbrev statements_now : Setting → State → ℕ → List Bound
statements_now setting state number = statements_at setting number (length (session_at state number).done)

counted_grows : (setting : Setting) (order more : List Entry) (statements : List Bound) (begun : Begun) → Counted setting order statements begun
    → Counted setting (order ++ more) statements begun
counted_grows setting order more statements begun h = record {
  start = omega (arith, h.start, length-append order more);
  long = h.long;
  few = λ table. subst (λ (tables : Tables). how_many (has_placed tables begun.own table) (capacity setting) ≤ placed_in table statements begun.took)
      (sym (tables_grow setting order more begun.prefix h.start)) (h.few table);
}

now_grows : (setting : Setting) (order more : List Entry) (statements : List Bound) (now : Option Open) → NowCounted setting order statements now
    → NowCounted setting (order ++ more) statements now
now_grows setting order more statements None h = tt
now_grows setting order more statements (Some current) h = counted_grows setting order more statements current.begun h

session_grows : (setting : Setting) (order more : List Entry) (number : ℕ) (session : Session) → SessionCounted setting order number session
    → SessionCounted setting (order ++ more) number session
session_grows setting order more number session h = record {
  done = λ before finished e. counted_grows setting order more (statements_at setting number before) finished.begun (h.done before finished e);
  now = now_grows setting order more (statements_at setting number (length session.done)) session.now h.now;
}

visit_counted : (setting : Setting) (order : List Entry) (statements : List Bound) (current : Open) (writes : List Write) (phase : Phase)
    → AllRowed (tables_at setting order current.begun.prefix) current.begun.own writes → Counted setting order statements current.begun
    → Counted setting order statements (after_visit writes phase current).begun
visit_counted setting order statements current writes phase rowed c = record {
  start = c.start;
  long = c.long;
  few = λ table. omega (
    arith,
    c.few table,
    rowed_count (tables_at setting order current.begun.prefix) current.begun.own writes rowed table (capacity setting),
  );
}

answer_counted : (setting : Setting) (order : List Entry) (statements : List Bound) (current : Open) (writes : List Write) (reply : Reply) (took : Option ℕ)
    (records : List Record) → AllRowed (tables_at setting order current.begun.prefix) current.begun.own writes ⊎ Takes statements current.begun writes took
    → Counted setting order statements current.begun → Counted setting order statements (after_answer writes reply took records current).begun
answer_counted setting order statements current writes reply took records h c = record {
  start = c.start;
  long = omega (arith, c.long, length-append current.begun.took (took ∷ []), length-append current.begun.replies (reply ∷ []));
  few = λ table. elim h [
    | inl rowed ↦ omega (
      arith,
      c.few table,
      rowed_count tables current.begun.own writes rowed table (capacity setting),
      took_least table statements current.begun.took took,
    )
    | inr takes ↦ by_takes table takes
  ];
}
  where
    tables : Tables
    tables = tables_at setting order current.begun.prefix

    by_takes : (table : ℕ) → Takes statements current.begun writes took
        → how_many (has_placed (tables_at setting order current.begun.prefix) (with_writes current.begun.own writes) table) (capacity setting)
        ≤ placed_in table statements (current.begun.took ++ took ∷ [])
    by_takes table t =
        let more : placed_in table statements (current.begun.took ++ took ∷ [])
        ≡ placed_in table statements current.begun.took + placed_by table (Insert t.of t.row) took =
        took_more table statements current.begun.took took (Insert t.of t.row)
        (ap (slice_get statements) c.long ∙ t.here) in
        let taken : placed_by table (Insert t.of t.row) took ≡ placed_by table (Insert t.of t.row) (Some t.at) =
        ap (placed_by table (Insert t.of t.row)) t.took_it in
        let count : how_many (has_placed tables (with_writes current.begun.own writes) table) (capacity setting)
        ≤ how_many (has_placed tables current.begun.own table) (capacity setting) + placed_by table (Insert t.of t.row) (Some t.at) =
        subst (λ (writes : List Write). how_many (has_placed tables (with_writes current.begun.own writes) table) (capacity setting)
        ≤ how_many (has_placed tables current.begun.own table) (capacity setting) + placed_by table (Insert t.of t.row) (Some t.at)) (sym t.wrote)
        (insert_count tables current.begun.own t.of t.at t.row table (capacity setting)) in
        omega (arith, more, taken, count, c.few table)

-- an answered statement that took no position places nothing
saving_counted : (setting : Setting) (order : List Entry) (statements : List Bound) (current : Open) (statement : Bound) (reply : Reply)
    → Counted setting order statements current.begun → Counted setting order statements (after_saving statement reply current).begun
saving_counted setting order statements current statement reply c = record {
  start = c.start;
  long = omega (arith, c.long, length-append current.begun.took (None ∷ []), length-append current.begun.replies (reply ∷ []));
  few = λ table. omega (arith, c.few table, took_least table statements current.begun.took None);
}

-- ---- steps

record IsOpen (setting : Setting) (state : State) (number : ℕ) (current : Open) : Type 0 where
  all : AllCounted setting state
  there : number < length state.sessions
  is : (session_at state number).now ≡ Some current
  counted : Counted setting state.order (statements_now setting state number) current.begun

goes_on : (setting : Setting) (state : State) (number : ℕ) (new : Open) → AllCounted setting state → number < length state.sessions
    → Counted setting state.order (statements_now setting state number) new.begun
    → AllCounted setting (moved_to state state.order state.mark number (record { done = (session_at state number).done; now = Some new }))
goes_on setting state number new all there counted =
    sessions_moved (SessionCounted setting state.order) state state.order state.mark number
    (record { done = (session_at state number).done; now = Some new }) there (record { done = (all number).done; now = counted }) (λ other apart. all other)

enters : (setting : Setting) (state : State) (number : ℕ) (current : Open) → IsOpen setting state number current
    → AllCounted setting (moved_to state (state.order ++ entry_of setting state number current.begun ∷ []) (Some number) number
    (record { done = (session_at state number).done; now = Some (after_visit [] (Stamping 0) current) }))
enters setting state number current o =
    let more : List Entry = entry_of setting state number current.begun ∷ [] in
    let grown : SessionCounted setting (state.order ++ more) number (session_at state number) =
    session_grows setting state.order more number (session_at state number) (o.all number) in
    sessions_moved (SessionCounted setting (state.order ++ more)) state (state.order ++ more) (Some number) number
    (record { done = (session_at state number).done; now = Some (after_visit [] (Stamping 0) current) }) o.there
    (record {
      done = grown.done;
      now = counted_grows setting state.order more (statements_now setting state number) current.begun o.counted;
    })
    (λ other apart. session_grows setting state.order more other (session_at state other) (o.all other))

ends : (setting : Setting) (state : State) (number : ℕ) (current : Open) (ending : Ending) → IsOpen setting state number current
    → AllCounted setting (moved_to state state.order None number
    (record { done = (session_at state number).done ++ record { begun = current.begun; ending = ending } ∷ []; now = None }))
ends setting state number current ending o =
    let finished : Finished = record { begun = current.begun; ending = ending } in
    let done : List Finished = (session_at state number).done in
    sessions_moved (SessionCounted setting state.order) state state.order None number (record { done = done ++ finished ∷ []; now = None }) o.there
    (record {
      done = λ before one e. elim (item_of_more done finished before one e) [
        | inl old ↦ (o.all number).done before one old
        | inr new ↦ subst (λ (n : ℕ). Counted setting state.order (statements_at setting number n) one.begun) (sym new.0)
            (subst (λ (f : Finished). Counted setting state.order (statements_at setting number (length done)) f.begun) new.1 o.counted)
      ];
      now = tt;
    })
    (λ other apart. o.all other)

turn_counted : (setting : Setting) (state : State) (number : ℕ) (current : Open) → IsOpen setting state number current → (turn : Turn Write)
    → FitsTurn setting state number current.begun turn
    → PlacesTurn (tables_at setting state.order current.begun.prefix) (statements_now setting state number) current.begun turn
    → AllCounted setting (after_turn setting state number turn).0
turn_counted setting state number current o Done f h = o.all
turn_counted setting state number current o (Waits by) f h = o.all
turn_counted setting state number current o Begins f h = absurd f
turn_counted setting state number current o (Visits writes phase) f h =
    subst (λ (now : Option Open). AllCounted setting
    (with_session state number (record { done = (session_at state number).done; now = option_map (after_visit writes phase) now })))
    (sym o.is) (goes_on setting state number (after_visit writes phase current) o.all o.there
    (visit_counted setting state.order (statements_now setting state number) current writes phase h o.counted))
turn_counted setting state number current o (Answers writes reply took records) f h =
    subst (λ (now : Option Open). AllCounted setting
    (with_session state number (record { done = (session_at state number).done; now = option_map (after_answer writes reply took records) now })))
    (sym o.is) (goes_on setting state number (after_answer writes reply took records current) o.all o.there
    (answer_counted setting state.order (statements_now setting state number) current writes reply took records h o.counted))
turn_counted setting state number current o (Saves statement reply) f h =
    subst (λ (now : Option Open). AllCounted setting
    (with_session state number (record { done = (session_at state number).done; now = option_map (after_saving statement reply) now })))
    (sym o.is) (goes_on setting state number (after_saving statement reply current) o.all o.there
    (saving_counted setting state.order (statements_now setting state number) current statement reply o.counted))
turn_counted setting state number current o Enters f h =
    subst (λ (now : Option Open). AllCounted setting (moved_to state (order_with setting state number now) (Some number) number
    (record { done = (session_at state number).done; now = option_map (after_visit [] (Stamping 0)) now })))
    (sym o.is) (enters setting state number current o)
turn_counted setting state number current o (Ends ending) f h =
    subst (λ (now : Option Open). AllCounted setting
    (moved_to state state.order None number (record { done = done_with ending (session_at state number).done now; now = None })))
    (sym o.is) (ends setting state number current ending o)

blank_counted : (setting : Setting) (state : State) (statements : List Bound) → Counted setting state.order statements (beginning setting state)
blank_counted setting state statements = record {
  start = omega arith;
  long = refl;
  few = λ table.
      let nothing : how_many (has_placed (tables_at setting state.order (length state.order)) (blank_own setting) table) (capacity setting) ≡ 0 =
      none_pass (has_placed (tables_at setting state.order (length state.order)) (blank_own setting) table) (capacity setting)
      (λ pos h. let there : is_some (item_at (blank_own setting) table pos) ≡ true = and_left (is_some (item_at (blank_own setting) table pos))
      (not (is_some (item_at (tables_at setting state.order (length state.order)) table pos))) h in
      let never : is_some (item_at (blank_own setting) table pos) ≡ false = ap is_some (blank_items (capacity setting) setting.first table pos) in
      absurd cc) in
      omega (arith, nothing);
}

pub reached_counted : (setting : Setting) (state : State) → IsReached setting state → AllCounted setting state
reached_counted setting = reached_by setting (AllCounted setting) (record {
  begins = λ state number txn all may.
      goes_on setting state number (record { begun = beginning setting state; phase = Working 0 0 }) all may.there
      (blank_counted setting state (statements_now setting state number));
  turns = λ state number txn current all takes. turn_counted setting state number current
      (record {
        all = all;
        there = takes.there;
        is = takes.is;
        counted = subst (NowCounted setting state.order (statements_now setting state number)) takes.is (all number).now;
      })
      (phase_turn setting state number txn current.begun current.phase) takes.turn
      (subst (λ (of : List Bound). PlacesTurn (tables_at setting state.order current.begun.prefix) of current.begun
      (phase_turn setting state number txn current.begun current.phase)) (sym (ap statements_in takes.at))
      (phase_places setting state number txn current.begun takes.present.own (since_own setting state takes.reached number current takes.is)
      current.phase));
}) (λ number. subst (SessionCounted setting [] number) (sym (fresh_at setting number)) (record { done = λ before finished e. absurd cc; now = tt }))

pub reached_placed : ReachedPlaced
reached_placed setting state r number before finished e = (((reached_counted setting state r) number).done before finished e).few
