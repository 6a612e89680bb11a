-- What a transaction had written by its end: what its answered statements wrote and, where an UPDATE or a DELETE was refused,
-- what that one wrote in the chunks before.
use Rattle.std.proofs.Common.{◌≡◌, ℕ, zero, suc, ◌+◌, ◌*◌, ◌<◌, ◌≤◌, List, Option, None, Some, Result, Ok, Err, Bool, true, false, length}
use Rattle.std.proofs.Common.{cond, drop, refl, sym, subst, arith}
use Rattle.std.specs.Prelude.{slice_get}
use Rattle.std.specs.List.{range_with_len}
use Rattle.hy_stamp.specs.declared.Label.{Label}
use Rattle.hy_bound.specs.declared.Txn.{Txn}
use Rattle.hy_bound.specs.declared.Bound.{Bound}
use Rattle.hy_bound.specs.declared.Bound.TheVariants.{Select, Group, Insert, Update, Delete, Savepoint, RollbackTo, Release}
use Rattle.hy_bound.specs.declared.WriteKind.{WriteKind}
use Rattle.hy_bound.specs.declared.WriteKind.TheVariants as kind
use Rattle.hy_bound.specs.Condition.{Condition}
use Rattle.hy_bound.specs.Predicate.{truth_of}
use Rattle.hy_bound.specs.declared.Ending.{Ending}
use Rattle.hy_bound.specs.declared.Ending.TheVariants.{Committed, Read, RolledBack, Conflict, Invalid, Range, Full}
use Rattle.hy_machine.specs.declared.Setting.{Setting}
use Rattle.hy_protocol.specs.declared.Phase.{Phase}
use Rattle.hy_protocol.specs.declared.Phase.TheVariants.{Working, Stamping, Undoing}
use Rattle.hy_machine.specs.States.{State, Begun}
use Rattle.hy_machine.specs.Tables.{Cell, Tables, over}
use Rattle.hy_machine.specs.Writes.{Write, with_writes, with_trail}
use Rattle.hy_protocol.specs.Turns.{Turn, Done, Waits, Begins, Visits, Answers, Saves, Enters, Ends}
use Rattle.hy_machine.specs.Positions.{item_at}
use Rattle.hy_machine.specs.Sessions.{snapshot, view}
use Rattle.hy_machine.specs.Holding.{opponent}
use Rattle.hy_machine.specs.Visits.{new_cell, judged, verdict, verdict_at, and_write, sweep, swept}
use Rattle.hy_machine.specs.Turns.{phase_turn}
use Rattle.hy_replay.specs.Ran.{Ran, writes_at}
use Rattle.hy_lawful.proofs.Refusals.{first_hit_is, any_record as all_numbered}
use Rattle.hy_lawful.proofs.RunVisits.{HasSwept, At, Stands}
use Rattle.hy_machine.specs.TurnCases.{WriteCases, StatementCases, UndoCases, CommitCases, statement_cases, undo_cases, stamp_cases, working_cases}

-- the statement that does this with the rows that it selects
abbrev pub change_of : WriteKind → Condition → ℕ → Bound
change_of (kind.Set sets) pred table = Update table sets pred
change_of kind.Delete pred table = Delete table pred

-- an UPDATE or a DELETE that was refused at a position wrote in the chunks before
pub record HadSwept (setting : Setting) (tables : Tables) (statements : List Bound) (begun : Begun) (given : Ran) (table pos : ℕ) : Type 0 where
  pub kind : WriteKind
  pub pred : Condition
  pub here : slice_get statements (length begun.replies) ≡ Some (change_of kind pred table)
  pub visited : ℕ
  pub from : visited * setting.rows ≤ pos
  pub below : pos < visited * setting.rows + setting.rows
  pub few : visited < setting.chunks
  pub writes : List Write
  pub swept : writes_at kind pred (over tables given.own) table (range_with_len 0 (visited * setting.rows)) ≡ Ok writes
  pub own : with_writes given.own writes ≡ begun.own

-- what a transaction had written that ended so
abbrev pub HadWritten : Setting → Tables → List Bound → Begun → Ran → Ending → Type 0
HadWritten setting tables statements begun given (Committed rank) = given.own ≡ begun.own
HadWritten setting tables statements begun given Read = given.own ≡ begun.own
HadWritten setting tables statements begun given RolledBack = given.own ≡ begun.own
HadWritten setting tables statements begun given (Conflict table pos other) = HadSwept setting tables statements begun given table pos
HadWritten setting tables statements begun given (Invalid table pos other statement) = given.own ≡ begun.own
HadWritten setting tables statements begun given (Range table pos) = HadSwept setting tables statements begun given table pos
HadWritten setting tables statements begun given (Full table) = given.own ≡ begun.own

-- what one has written that is being undone
abbrev pub WrotePhase : Setting → Tables → List Bound → Begun → Ran → Phase → Type 0
WrotePhase setting tables statements begun given (Working visited count) = Unit {0}
WrotePhase setting tables statements begun given (Stamping visited) = Unit {0}
WrotePhase setting tables statements begun given (Undoing visited cause) = HadWritten setting tables statements begun given cause

-- what a turn leaves of it
abbrev pub WroteTurn : Setting → Tables → List Bound → Begun → Ran → Turn Write → Type 0
WroteTurn setting tables statements begun given Done = Unit {0}
WroteTurn setting tables statements begun given (Waits by) = Unit {0}
WroteTurn setting tables statements begun given Begins = ⊥
WroteTurn setting tables statements begun given (Visits writes phase) =
    WrotePhase setting tables statements (record begun { own = with_writes begun.own writes; trail = with_trail begun.trail writes }) given phase
WroteTurn setting tables statements begun given (Answers writes reply took records) = Unit {0}
WroteTurn setting tables statements begun given (Saves statement reply) = Unit {0}
WroteTurn setting tables statements begun given Enters = Unit {0}
WroteTurn setting tables statements begun given (Ends ending) = HadWritten setting tables statements begun given ending

-- ---- a sweep that is refused

-- the position at which one is refused
abbrev IsRefusedAt : ℕ → ℕ → Ending → Type 0
IsRefusedAt table pos (Committed rank) = ⊥
IsRefusedAt table pos Read = ⊥
IsRefusedAt table pos RolledBack = ⊥
IsRefusedAt table pos (Conflict of at other) = (of ≡ table) × (at ≡ pos)
IsRefusedAt table pos (Invalid of at other statement) = ⊥
IsRefusedAt table pos (Range of at) = (of ≡ table) × (at ≡ pos)
IsRefusedAt table pos (Full of) = ⊥

record RefusedWithin (table first end : ℕ) (cause : Ending) : Type 0 where
  pos : ℕ
  from : first ≤ pos
  below : pos < end
  is : IsRefusedAt table pos cause

judged_refused : (table pos : ℕ) (opponent : Option Label) (new : Option Cell) (cause : Ending) → judged table pos opponent new ≡ Err cause
    → IsRefusedAt table pos cause
judged_refused table pos (Some other) new cause e =
    subst (IsRefusedAt table pos) (let same : Conflict table pos other ≡ cause = cc in same) (refl, refl)
judged_refused table pos None None cause e =
    subst (IsRefusedAt table pos) (let same : Range table pos ≡ cause = cc in same) (refl, refl)
judged_refused table pos None (Some cell) cause e = absurd cc

verdict_refused : (kind : WriteKind) (pred : Condition) (table pos : ℕ) (opponent : Option Label) (cell : Cell) (cause : Ending)
    → verdict kind pred table pos opponent cell ≡ Err cause → IsRefusedAt table pos cause
verdict_refused kind pred table pos opponent None cause e = absurd cc
verdict_refused kind pred table pos opponent (Some row) cause e = by_truth (truth_of pred row) e
  where
    by_truth : (b : Bool) → cond b (judged table pos opponent (new_cell kind row)) (Ok None) ≡ Err cause → IsRefusedAt table pos cause
    by_truth true h = judged_refused table pos opponent (new_cell kind row) cause h
    by_truth false h = absurd cc

sweep_refused : (table : ℕ) (judge : ℕ → Result (Option Cell) Ending) (first many end : ℕ) (cause : Ending) → first + many ≡ end
    → ((pos : ℕ) (one : Ending) → judge pos ≡ Err one → IsRefusedAt table pos one)
    → sweep table judge (range_with_len first many) ≡ Err cause → RefusedWithin table first end cause
sweep_refused table judge first zero end cause l h e = absurd cc
sweep_refused table judge first (suc many) end cause l h e =
    by_first (judge first) refl (sweep table judge (range_with_len (first + 1) many)) (sweep_refused table judge (first + 1) many end cause (omega arith) h) e
  where
    by_first : (here : Result (Option Cell) Ending) → judge first ≡ here → (rest : Result (List Write) Ending)
        → (rest ≡ Err cause → RefusedWithin table (first + 1) end cause)
        → and_write table first here rest ≡ Err cause → RefusedWithin table first end cause
    by_first (Err one) f rest r e = record {
      pos = first;
      from = omega arith;
      below = omega arith;
      is = subst (IsRefusedAt table first) (let same : one ≡ cause = cc in same) (h first one f);
    }
    by_first (Ok cell) f (Err one) r e =
        let later : RefusedWithin table (first + 1) end cause = r e in
        record { pos = later.pos; from = omega (arith, later.from); below = later.below; is = later.is }
    by_first (Ok cell) f (Ok writes) r e = absurd cc

-- ---- turns of statements

refused_so : (setting : Setting) (tables : Tables) (statements : List Bound) (begun : Begun) (given : Ran) (table pos : ℕ) (cause : Ending)
    → IsRefusedAt table pos cause → HadSwept setting tables statements begun given table pos
    → HadWritten setting tables statements begun given cause
refused_so setting tables statements begun given table pos (Committed rank) is s = absurd is
refused_so setting tables statements begun given table pos Read is s = absurd is
refused_so setting tables statements begun given table pos RolledBack is s = absurd is
refused_so setting tables statements begun given table pos (Conflict of at other) is s =
    subst (λ (n : ℕ). HadSwept setting tables statements begun given n at) (sym is.0)
    (subst (HadSwept setting tables statements begun given table) (sym is.1) s)
refused_so setting tables statements begun given table pos (Invalid of at other statement) is s = absurd is
refused_so setting tables statements begun given table pos (Range of at) is s =
    subst (λ (n : ℕ). HadSwept setting tables statements begun given n at) (sym is.0)
    (subst (HadSwept setting tables statements begun given table) (sym is.1) s)
refused_so setting tables statements begun given table pos (Full of) is s = absurd is

writes_wrote : (setting : Setting) (state : State) (statements : List Bound) (number : ℕ) (begun : Begun) (given : Ran) (visited count : ℕ)
    (statement : Bound) (kind : WriteKind) (pred : Condition) (table : ℕ)
    → slice_get statements (length begun.replies) ≡ Some (change_of kind pred table)
    → HasSwept setting (snapshot setting state begun.prefix) begun given visited count kind pred table
    → WriteCases setting begun (WroteTurn setting (snapshot setting state begun.prefix) statements begun given) visited count statement kind
    (swept setting state number begun kind pred table visited)
writes_wrote setting state statements number begun given visited count statement kind pred table n s = record {
  out = λ cause e.
      let at : RefusedWithin table (visited * setting.rows) (visited * setting.rows + setting.rows) cause =
      sweep_refused table (verdict_at setting state number begun kind pred table) (visited * setting.rows) setting.rows
      (visited * setting.rows + setting.rows) cause refl
      (λ pos one h. verdict_refused kind pred table pos (opponent setting state number begun.prefix table pos)
      (item_at (view setting state begun) table pos) one h) e in
      refused_so setting (snapshot setting state begun.prefix) statements begun given table at.pos cause at.is
      (record {
        kind = kind;
        pred = pred;
        here = n;
        visited = visited;
        from = at.from;
        below = at.below;
        few = s.few;
        writes = s.writes;
        swept = s.swept;
        own = s.own;
      });
  goes = λ writes e few. tt;
  ends = λ writes e. tt;
}

statement_wrote : (setting : Setting) (state : State) (statements : List Bound) (number : ℕ) (begun : Begun) (given : Ran) (visited count : ℕ)
    (statement : Bound) → slice_get statements (length begun.replies) ≡ Some statement
    → At setting (snapshot setting state begun.prefix) begun given visited count (Some statement)
    → StatementCases setting state number begun (WroteTurn setting (snapshot setting state begun.prefix) statements begun given) visited count statement
statement_wrote setting state statements number begun given visited count (Select from ons pred items) n at = record { goes = λ few. tt; ends = tt }
statement_wrote setting state statements number begun given visited count (Group table pred key aggregate) n at = record { goes = λ few. tt; ends = tt }
statement_wrote setting state statements number begun given visited count (Insert table row) n at =
    record { checked = λ few. tt; twice = tt; takes = λ pos e. tt; goes = λ past e few. tt; full = λ past e most. at.own }
statement_wrote setting state statements number begun given visited count (Update table sets pred) n at =
    writes_wrote setting state statements number begun given visited count (Update table sets pred) (kind.Set sets) pred table n at
statement_wrote setting state statements number begun given visited count (Delete table pred) n at =
    writes_wrote setting state statements number begun given visited count (Delete table pred) kind.Delete pred table n at
statement_wrote setting state statements number begun given visited count (Savepoint name) n at = record { waits = λ by is. tt; saves = λ free. tt }
statement_wrote setting state statements number begun given visited count (RollbackTo name) n at =
    record { goes = λ chunk e. tt; ends = λ none. record { waits = λ by is. tt; saves = λ free. tt } }
statement_wrote setting state statements number begun given visited count (Release name) n at = record { waits = λ by is. tt; saves = λ free. tt }

-- ---- what closes a transaction

undo_wrote : (setting : Setting) (state : State) (tables : Tables) (statements : List Bound) (number : ℕ) (begun : Begun) (given : Ran) (visited : ℕ)
    (cause : Ending) → HadWritten setting tables statements begun given cause
    → UndoCases setting state number begun (WroteTurn setting tables statements begun given) visited cause
undo_wrote setting state tables statements number begun given visited cause h = record { goes = λ few. h; waits = λ by is. tt; ends = λ free. h }

-- whoever is refused by validation had written what its statements come to
commit_wrote : (setting : Setting) (state : State) (tables : Tables) (statements : List Bound) (number : ℕ) (begun : Begun) (given : Ran)
    → given.own ≡ begun.own → CommitCases state number begun (WroteTurn setting tables statements begun given)
commit_wrote setting state tables statements number begun given same = record {
  waits = λ by is. tt;
  reads = λ free nothing. same;
  enters = λ free some e. tt;
  out = λ some cause e.
      first_hit_is (λ (one : Ending). HadWritten setting tables statements begun given one) (λ (n : ℕ). Unit {0}) begun.records
      (drop begun.prefix state.order) cause (all_numbered begun.records) (λ i label at table pos statement named. same) e;
}

-- the turn of an open transaction
pub phase_wrote : (setting : Setting) (state : State) (number : ℕ) (txn : Txn) (begun : Begun) (given : Ran) → (phase : Phase)
    → Stands setting (snapshot setting state begun.prefix) txn.statements begun given phase
    → WrotePhase setting (snapshot setting state begun.prefix) txn.statements begun given phase
    → WroteTurn setting (snapshot setting state begun.prefix) txn.statements begun given (phase_turn setting state number txn begun phase)
phase_wrote setting state number txn begun given (Working visited count) h w =
    let tables : Tables = snapshot setting state begun.prefix in
    let same : slice_get txn.statements (length begun.replies) ≡ None → given.own ≡ begun.own =
    λ none. subst (At setting tables begun given visited count) none h in
    working_cases setting state number begun (WroteTurn setting tables txn.statements begun given) txn visited count
    (λ statement e. statement_cases setting state number begun (WroteTurn setting tables txn.statements begun given) visited count statement
    (statement_wrote setting state txn.statements number begun given visited count statement e (subst (At setting tables begun given visited count) e h)))
    (λ none commits. commit_wrote setting state tables txn.statements number begun given (same none))
    (λ none rolls. undo_wrote setting state tables txn.statements number begun given 0 RolledBack (same none))
phase_wrote setting state number txn begun given (Stamping visited) h w =
    stamp_cases setting state number begun (WroteTurn setting (snapshot setting state begun.prefix) txn.statements begun given) visited (λ few. tt) h
phase_wrote setting state number txn begun given (Undoing visited cause) h w =
    undo_cases setting state number begun (WroteTurn setting (snapshot setting state begun.prefix) txn.statements begun given) visited cause
    (undo_wrote setting state (snapshot setting state begun.prefix) txn.statements number begun given visited cause w)
