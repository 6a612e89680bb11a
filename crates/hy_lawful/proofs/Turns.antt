-- What a session's turn makes of its open transaction fits.
use Rattle.std.proofs.Common.{◌≡◌, ℕ, suc, ◌+◌, ◌-◌, ◌<◌, ◌≤◌, List, [], ◌∷◌, Option, None, Some, Bool, true, false, not, length, drop}
use Rattle.std.proofs.Common.{map}
use Rattle.std.proofs.Common.{cond, refl, ap, sym, ◌∙◌, subst, arith}
use Rattle.std.specs.Prelude.{slice_get, ◌==◌}
use Rattle.std.proofs.lemmas.Bool.{eq-eqb, eqb-true, ne_eqb}
use Rattle.std.proofs.lemmas.Option.{same_Some, slice_get_within}
use Rattle.std.specs.List.{AllByRecursion, flat_map}
use Rattle.hy_bound.specs.declared.Record.{Record}
use Rattle.hy_plan.specs.declared.Read.{Read}
use Rattle.hy_plan.specs.Reads.{recorded, records_of, reads_of}
use Rattle.hy_value.specs.declared.Value.{Value}
use Rattle.hy_value.specs.declared.ColMask.{ColMask}
use Rattle.hy_bound.specs.declared.Txn.{Txn}
use Rattle.hy_bound.specs.declared.Bound.{Bound}
use Rattle.hy_bound.specs.declared.Bound.TheVariants.{Select, Group, Insert, Update, Delete, Savepoint, RollbackTo, Release}
use Rattle.hy_bound.specs.declared.WriteKind.{WriteKind}
use Rattle.hy_bound.specs.declared.WriteKind.TheVariants as kind
use Rattle.hy_bound.specs.Condition.{Condition}
use Rattle.hy_bound.specs.declared.Ending.{Ending}
use Rattle.hy_bound.specs.declared.Ending.TheVariants.{Committed, RolledBack, Conflict, Invalid, Range, Full}
use Rattle.hy_bound.specs.declared.Ending.TheVariants as ways
use Rattle.hy_machine.specs.declared.Setting.{Setting}
use Rattle.hy_protocol.specs.declared.Phase.{Phase}
use Rattle.hy_protocol.specs.declared.Phase.TheVariants.{Working, Stamping, Undoing}
use Rattle.hy_machine.specs.States.{State, Begun}
use Rattle.hy_machine.specs.Writes.{Write, with_writes, wrote_nothing}
use Rattle.hy_protocol.specs.Turns.{Turn, Done, Waits, Begins, Visits, Answers, Saves, Enters, Ends}
use Rattle.hy_machine.specs.Tables.{positions_in}
use Rattle.hy_machine.specs.Sessions.{session_at, blocker_of, label_of, view}
use Rattle.hy_machine.specs.Positions.{item_at}
use Rattle.hy_machine.specs.Holding.{opponent}
use Rattle.hy_machine.specs.Validation.{committed_of, first_hit}
use Rattle.hy_machine.specs.Saving.{taken_back}
use Rattle.hy_machine.specs.Visits.{verdict_at, swept}
use Rattle.hy_machine.specs.Turns.{rows_seen}
use Rattle.hy_machine.specs.Turns.{phase_turn}
use Rattle.hy_machine.specs.Outcomes.{txn_outcome_of}
use Rattle.hy_lawful.specs.Scripts.{statements_in, statements_of, txn_of, ClosesWithCommit, ClosesWithRollback}
use Rattle.hy_lawful.specs.Endings.{updates, changes_rows, inserts, EndsCommitted}
use Rattle.hy_lawful.proofs.Lists.{over_past, all_joined}
use Rattle.hy_lawful.proofs.Fits.{IsNumbered, EndsAs, top_of, PhaseFits, Stamps, Fits}
use Rattle.hy_lawful.proofs.Opponents.{label_dropped, IsRival, opponent_is}
use Rattle.hy_lawful.proofs.Refusals.{IsSet, Refuses, verdict_refuses, sweep_refuses, first_hit_is}
use Rattle.hy_lawful.proofs.Tables.{nothing_written, something_written}
use Rattle.hy_machine.specs.TurnCases.{WriteCases, StatementCases, UndoCases, CommitCases, statement_cases, undo_cases, stamp_cases, working_cases}

-- how many transactions of a session have ended
abbrev pub before_of : State → ℕ → ℕ
before_of state number = length (session_at state number).done

-- a transaction that does this ends so
abbrev pub WouldEnd : Setting → State → ℕ → Begun → Ending → Type 0
WouldEnd setting state number begun ending = EndsAs setting state.order number (before_of state number) (record { begun = begun; ending = ending })

-- a statement is left to be answered, and no entry stands in the commit order
abbrev pub MayAnswer : Setting → State → ℕ → Begun → Type 0
MayAnswer setting state number begun =
    (length begun.replies < length (statements_of setting.programs (label_of number (session_at state number))))
    × (state.mark ≡ Some number → ⊥)

-- records are of the statement that is answered next
abbrev pub AreOfNext : Begun → List Record → Type 0
AreOfNext begun records = AllByRecursion (λ (of : Record). of.statement ≡ suc (length begun.replies)) records

-- a turn of an open transaction fits
abbrev pub FitsTurn : Setting → State → ℕ → Begun → Turn Write → Type 0
FitsTurn setting state number begun Done = ⊥
FitsTurn setting state number begun (Waits by) = Unit {0}
FitsTurn setting state number begun Begins = ⊥
FitsTurn setting state number begun (Visits writes phase) =
    PhaseFits setting state.order state.mark number (before_of state number) (record begun { own = with_writes begun.own writes }) phase
    × (state.mark ≡ Some number → Stamps phase)
FitsTurn setting state number begun (Answers writes reply took records) = MayAnswer setting state number begun × AreOfNext begun records
FitsTurn setting state number begun (Saves statement reply) = MayAnswer setting state number begun
FitsTurn setting state number begun Enters =
    EndsCommitted setting.programs
    (txn_outcome_of setting number (before_of state number) (record { begun = begun; ending = Committed (length state.order) }))
    × ((other : ℕ) → state.mark ≡ Some other → ⊥)
FitsTurn setting state number begun (Ends ending) =
    WouldEnd setting state number begun ending × ((other : ℕ) → state.mark ≡ Some other → other ≡ number)
    × (state.mark ≡ Some number → ending ≡ Committed (length state.order - 1))

-- an open transaction whose entry does not stand in the commit order
pub record Works (setting : Setting) (state : State) (number : ℕ) (begun : Begun) : Type 0 where
  pub fits : Fits setting state
  pub above : top_of 0 (session_at state number).done ≤ begun.prefix
  pub free : state.mark ≡ Some number → ⊥
  pub records : AllByRecursion (λ (of : Record). IsNumbered (length begun.replies) of.statement) begun.records

-- the statements of a session's open transaction
abbrev statements_at : Setting → State → ℕ → List Bound
statements_at setting state number = statements_of setting.programs (label_of number (session_at state number))

-- ---- statements

refused_fits : (setting : Setting) (state : State) (number : ℕ) (begun : Begun) (visited : ℕ) (cause : Ending) → Works setting state number begun
    → WouldEnd setting state number begun cause → FitsTurn setting state number begun (Visits [] (Undoing visited cause))
refused_fits setting state number begun visited cause w h = (h, λ e. absurd (w.free e))

-- a statement that is the next one to answer
record IsNext (setting : Setting) (state : State) (number : ℕ) (begun : Begun) (statement : Bound) : Type 0 where
  pub works : Works setting state number begun
  pub here : slice_get (statements_at setting state number) (length begun.replies) ≡ Some statement

few_answered : (setting : Setting) (state : State) (number : ℕ) (begun : Begun) (statement : Bound) → IsNext setting state number begun statement
    → length begun.replies < length (statements_at setting state number)
few_answered setting state number begun statement n = slice_get_within (statements_at setting state number) (length begun.replies) statement n.here

goes_on_fits : (setting : Setting) (state : State) (number : ℕ) (begun : Begun) (statement : Bound) (writes : List Write) (visited count : ℕ)
    → IsNext setting state number begun statement → FitsTurn setting state number begun (Visits writes (Working visited count))
goes_on_fits setting state number begun statement writes visited count n =
    let few : length begun.replies < length (statements_at setting state number) = few_answered setting state number begun statement n in
    (omega arith, λ e. n.works.free e)

may_answer : (setting : Setting) (state : State) (number : ℕ) (begun : Begun) (statement : Bound) → IsNext setting state number begun statement
    → MayAnswer setting state number begun
may_answer setting state number begun statement n = (few_answered setting state number begun statement n, n.works.free)

-- what is recorded of a statement has its number
recorded_numbers : (number table : ℕ) (columns : ColMask) (conditions : List Condition)
    → AllByRecursion (λ (of : Record). of.statement ≡ number)
    (map (λ (condition : Condition). record { statement = number; table = table; pred = condition; columns = columns }) conditions)
recorded_numbers number table columns [] = tt
recorded_numbers number table columns (condition ∷ conditions) = (refl, recorded_numbers number table columns conditions)

recorded_reads : (number : ℕ) (reads : List Read) → AllByRecursion (λ (of : Record). of.statement ≡ number) (flat_map (recorded number) reads)
recorded_reads number [] = tt
recorded_reads number (read ∷ reads) =
    all_joined (λ (of : Record). of.statement ≡ number) (recorded number read) (flat_map (recorded number) reads)
    (recorded_numbers number read.table read.columns read.conditions) (recorded_reads number reads)

answers_fit : (setting : Setting) (state : State) (number : ℕ) (begun : Begun) (statement : Bound) (gathered : List (List (List Value)))
    → IsNext setting state number begun statement
    → MayAnswer setting state number begun × AreOfNext begun (records_of setting.shapes (suc (length begun.replies)) statement gathered)
answers_fit setting state number begun statement gathered n =
    (may_answer setting state number begun statement n, recorded_reads (suc (length begun.replies)) (reads_of setting.shapes statement gathered))

-- a refusal of an UPDATE or a DELETE
refusal_ends : (setting : Setting) (state : State) (number : ℕ) (begun : Begun) (statement : Bound) (kind : WriteKind) (table pos : ℕ)
    → IsNext setting state number begun statement → changes_rows table (Some statement) ≡ true → (IsSet kind → updates table (Some statement) ≡ true)
    → (cause : Ending) → Refuses kind table pos (opponent setting state number begun.prefix table pos) cause
    → WouldEnd setting state number begun cause
refusal_ends setting state number begun statement kind table pos n changes sets (Committed rank) r = absurd r
refusal_ends setting state number begun statement kind table pos n changes sets ways.Read r = absurd r
refusal_ends setting state number begun statement kind table pos n changes sets RolledBack r = absurd r
refusal_ends setting state number begun statement kind table pos n changes sets (Conflict of at other) r =
    let rival : IsRival setting number other =
    opponent_is setting state n.works.fits number begun.prefix table pos n.works.free n.works.above other r.1 in
    record {
      changes = ap (changes_rows of) n.here ∙ (ap (λ (t : ℕ). changes_rows t (Some statement)) (sym r.0) ∙ changes);
      has = rival.has;
      apart = ne_eqb other.session number rival.apart;
    }
refusal_ends setting state number begun statement kind table pos n changes sets (Invalid of at other named) r = absurd r
refusal_ends setting state number begun statement kind table pos n changes sets (Range of at) r =
    ap (updates of) n.here ∙ (ap (λ (t : ℕ). updates t (Some statement)) (sym r.0) ∙ sets r.1)
refusal_ends setting state number begun statement kind table pos n changes sets (Full of) r = absurd r

writes_fit : (setting : Setting) (state : State) (number : ℕ) (begun : Begun) (visited count : ℕ) (statement : Bound) (kind : WriteKind) (pred : Condition)
    (table : ℕ)
    → IsNext setting state number begun statement → changes_rows table (Some statement) ≡ true → (IsSet kind → updates table (Some statement) ≡ true)
    → WriteCases setting begun (FitsTurn setting state number begun) visited count statement kind
    (swept setting state number begun kind pred table visited)
writes_fit setting state number begun visited count statement kind pred table n changes sets = record {
  out = λ cause e. refused_fits setting state number begun 0 cause n.works
      (sweep_refuses (λ (one : Ending). WouldEnd setting state number begun one) table (verdict_at setting state number begun kind pred table)
      (positions_in setting visited) cause
      (λ pos one refused. refusal_ends setting state number begun statement kind table pos n changes sets one
      (verdict_refuses kind pred table pos (opponent setting state number begun.prefix table pos) (item_at (view setting state begun) table pos) one refused))
      e);
  goes = λ writes e few. goes_on_fits setting state number begun statement writes (suc visited) (count + length writes) n;
  ends = λ writes e. answers_fit setting state number begun statement [] n;
}

statement_fits : (setting : Setting) (state : State) (number : ℕ) (begun : Begun) (visited count : ℕ) (statement : Bound)
    → IsNext setting state number begun statement → StatementCases setting state number begun (FitsTurn setting state number begun) visited count statement
statement_fits setting state number begun visited count (Select tables ons pred items) n = record {
  goes = λ few. goes_on_fits setting state number begun (Select tables ons pred items) [] (suc visited) 0 n;
  ends = answers_fit setting state number begun (Select tables ons pred items) (map (rows_seen (view setting state begun)) tables) n;
}
statement_fits setting state number begun visited count (Group table pred key aggregate) n = record {
  goes = λ few. goes_on_fits setting state number begun (Group table pred key aggregate) [] (suc visited) 0 n;
  ends = answers_fit setting state number begun (Group table pred key aggregate) [] n;
}
statement_fits setting state number begun visited count (Insert table row) n = record {
  checked = λ few. goes_on_fits setting state number begun (Insert table row) [] (suc visited) 0 n;
  twice = answers_fit setting state number begun (Insert table row) [] n;
  takes = λ pos e. answers_fit setting state number begun (Insert table row) [] n;
  goes = λ past e few. goes_on_fits setting state number begun (Insert table row) [] (suc visited) 0 n;
  full = λ past e most. refused_fits setting state number begun 0 (Full table) n.works (ap (inserts table) n.here ∙ eq-eqb table table refl);
}
statement_fits setting state number begun visited count (Update table sets pred) n =
    writes_fit setting state number begun visited count (Update table sets pred) (kind.Set sets) pred table n (eq-eqb table table refl)
    (λ s. eq-eqb table table refl)
statement_fits setting state number begun visited count (Delete table pred) n =
    writes_fit setting state number begun visited count (Delete table pred) kind.Delete pred table n (eq-eqb table table refl) (λ s. absurd s)
statement_fits setting state number begun visited count (Savepoint name) n =
    record { waits = λ by is. tt; saves = λ free. may_answer setting state number begun (Savepoint name) n }
statement_fits setting state number begun visited count (RollbackTo name) n = record {
  goes = λ chunk e. goes_on_fits setting state number begun (RollbackTo name) (taken_back setting state begun name chunk.0 chunk.1) (suc visited) 0 n;
  ends = λ none. record { waits = λ by is. tt; saves = λ free. may_answer setting state number begun (RollbackTo name) n };
}
statement_fits setting state number begun visited count (Release name) n =
    record { waits = λ by is. tt; saves = λ free. may_answer setting state number begun (Release name) n }

-- ---- what closes a transaction

unblocked : (state : State) (number : ℕ) (mark : Option ℕ) → blocker_of state number mark ≡ None → (other : ℕ) → mark ≡ Some other → other ≡ number
unblocked state number None e other m = absurd cc
unblocked state number (Some marked) e other m = by_number (marked == number) refl e
  where
    by_number : (b : Bool) → (marked == number) ≡ b → cond b None (Some (label_of marked (session_at state marked))) ≡ None → other ≡ number
    by_number true t h = sym (same_Some marked other m) ∙ eqb-true marked number t
    by_number false t h = absurd cc

undo_fits : (setting : Setting) (state : State) (number : ℕ) (begun : Begun) (visited : ℕ) (cause : Ending) → Works setting state number begun
    → WouldEnd setting state number begun cause → UndoCases setting state number begun (FitsTurn setting state number begun) visited cause
undo_fits setting state number begun visited cause w h = record {
  goes = λ few. refused_fits setting state number begun (suc visited) cause w h;
  waits = λ by is. tt;
  ends = λ free. (h, unblocked state number state.mark free, λ m. absurd (w.free m));
}

-- a transaction of which all is answered
record IsAnswered (setting : Setting) (state : State) (number : ℕ) (begun : Begun) (txn : Txn) : Type 0 where
  pub works : Works setting state number begun
  pub is : txn_of setting.programs (label_of number (session_at state number)) ≡ Some txn
  pub all : length begun.replies ≡ length (statements_at setting state number)

invalid_ends : (setting : Setting) (state : State) (number : ℕ) (begun : Begun) (txn : Txn) → IsAnswered setting state number begun txn → txn.commits ≡ true
    → wrote_nothing begun.own ≡ false → (cause : Ending) → first_hit begun.records (map committed_of (drop begun.prefix state.order)) ≡ Some cause
    → WouldEnd setting state number begun cause
invalid_ends setting state number begun txn a commits wrote cause e =
    first_hit_is (λ (one : Ending). WouldEnd setting state number begun one) (IsNumbered (length begun.replies)) begun.records
    (drop begun.prefix state.order) cause
    a.works.records
    (λ i label at table pos statement named. record {
      answers = a.all;
      closes = subst ClosesWithCommit (sym a.is) commits;
      wrote = something_written begun.own wrote;
      named = named;
      rank = begun.prefix + i;
      since = omega arith;
      stands = sym (label_dropped begun.prefix state.order i) ∙ at;
    })
    e

commit_fits : (setting : Setting) (state : State) (number : ℕ) (begun : Begun) (txn : Txn) → IsAnswered setting state number begun txn → txn.commits ≡ true
    → CommitCases state number begun (FitsTurn setting state number begun)
commit_fits setting state number begun txn a commits = record {
  waits = λ by is. tt;
  reads = λ free nothing. (
    record { answers = a.all; closes = subst ClosesWithCommit (sym a.is) commits; wrote = nothing_written begun.own nothing },
    unblocked state number state.mark free,
    λ m. absurd (a.works.free m),
  );
  enters = λ free some e. (
    record { answers = a.all; closes = subst ClosesWithCommit (sym a.is) commits; wrote = something_written begun.own some },
    λ other m. a.works.free (m ∙ ap Some (unblocked state number state.mark free other m)),
  );
  out = λ some cause e. refused_fits setting state number begun 0 cause a.works (invalid_ends setting state number begun txn a commits some cause e);
}

all_answered : (setting : Setting) (state : State) (number : ℕ) (txn : Txn) (begun : Begun) → Works setting state number begun
    → txn_of setting.programs (label_of number (session_at state number)) ≡ Some txn → length begun.replies ≤ length (statements_at setting state number)
    → slice_get txn.statements (length begun.replies) ≡ None → IsAnswered setting state number begun txn
all_answered setting state number txn begun w is few e = record {
  works = w;
  is = is;
  all = let over : length txn.statements ≤ length begun.replies = over_past txn.statements (length begun.replies) e in
      let count : length (statements_at setting state number) ≡ length txn.statements = ap (λ (t : Option Txn). length (statements_in t)) is in
      omega arith;
}

-- the turn of an open transaction
pub phase_fits : (setting : Setting) (state : State) → Fits setting state → (number : ℕ) (txn : Txn) (begun : Begun)
    → txn_of setting.programs (label_of number (session_at state number)) ≡ Some txn → top_of 0 (session_at state number).done ≤ begun.prefix
    → AllByRecursion (λ (of : Record). IsNumbered (length begun.replies) of.statement) begun.records
    → (phase : Phase) → PhaseFits setting state.order state.mark number (before_of state number) begun phase → (state.mark ≡ Some number → Stamps phase)
    → FitsTurn setting state number begun (phase_turn setting state number txn begun phase)
phase_fits setting state fits number txn begun is above records (Working visited count) h m =
    let works : Works setting state number begun = record { fits = fits; above = above; free = m; records = records } in
    working_cases setting state number begun (FitsTurn setting state number begun) txn visited count
    (λ statement e. statement_cases setting state number begun (FitsTurn setting state number begun) visited count statement
    (statement_fits setting state number begun visited count statement (record {
      works = works;
      here = ap (λ (t : Option Txn). slice_get (statements_in t) (length begun.replies)) is ∙ e;
    })))
    (λ none commits. commit_fits setting state number begun txn (all_answered setting state number txn begun works is h none) commits)
    (λ none rolls. undo_fits setting state number begun 0 RolledBack works (record {
      answers = (all_answered setting state number txn begun works is h none).all;
      closes = subst ClosesWithRollback (sym is) (ap not rolls);
    }))
phase_fits setting state fits number txn begun is above records (Stamping visited) h m =
    stamp_cases setting state number begun (FitsTurn setting state number begun) visited (λ few. (h, λ e. tt))
    (h.1, λ other e. same_Some other number (sym e ∙ h.0), λ e. refl)
phase_fits setting state fits number txn begun is above records (Undoing visited cause) h m =
    undo_cases setting state number begun (FitsTurn setting state number begun) visited cause
    (undo_fits setting state number begun visited cause (record { fits = fits; above = above; free = m; records = records }) h)
