-- Where an open transaction stands between its answers, and what a visit of a SELECT, a GROUP BY, an UPDATE or a DELETE makes
-- of it.
use Rattle.std.proofs.Common.{◌≡◌, ℕ, suc, ◌+◌, ◌*◌, ◌<◌, ◌≤◌, List, [], ◌++◌, Option, None, Some, Result, Ok, Err, true, false, length}
use Rattle.std.proofs.Common.{ltb, refl, ap, sym, ◌∙◌, subst, arith, inl, inr}
use Rattle.std.specs.Prelude.{slice_get, IfSome}
use Rattle.std.specs.List.{range_with_len}
use Rattle.std.proofs.lemmas.Bool.{cases_Bool, cases_lt, lt-ltb, ltb-true}
use Rattle.std.proofs.lemmas.List.{length-append}
use Rattle.hy_value.specs.declared.Value.{Value}
use Rattle.hy_bound.specs.declared.Reply.{Reply}
use Rattle.hy_bound.specs.declared.Bound.{Bound}
use Rattle.hy_bound.specs.declared.Bound.TheVariants.{Select, Group, Insert, Update, Delete, Savepoint, RollbackTo, Release}
use Rattle.hy_bound.specs.Savepoints.{Saved, saved_after, value_after}
use Rattle.hy_bound.specs.declared.WriteKind.{WriteKind}
use Rattle.hy_bound.specs.declared.WriteKind.TheVariants as kind
use Rattle.hy_bound.specs.Condition.{Condition}
use Rattle.hy_bound.specs.Records.{shape_of}
use Rattle.hy_plan.specs.Reads.{records_of}
use Rattle.hy_bound.specs.declared.Ending.{Ending}
use Rattle.hy_machine.specs.declared.Setting.{Setting}
use Rattle.hy_protocol.specs.declared.Phase.{Phase}
use Rattle.hy_protocol.specs.declared.Phase.TheVariants.{Working, Stamping, Undoing}
use Rattle.hy_machine.specs.States.{State, Begun}
use Rattle.hy_machine.specs.Writes.{Write, with_writes}
use Rattle.hy_machine.specs.OwnCells.{writes_joined}
use Rattle.hy_machine.specs.Trails.{with_more}
use Rattle.hy_protocol.specs.Turns.{Turn, Done, Waits, Begins, Visits, Answers, Saves, Enters, Ends}
use Rattle.hy_protocol.specs.Statements.{told_by}
use Rattle.hy_machine.specs.Turns.{read_turn, write_turn}
use Rattle.hy_machine.specs.Positions.{item_at}
use Rattle.hy_machine.specs.Tables.{Cell, Tables, Own, capacity, positions_in, over}
use Rattle.hy_machine.specs.Sessions.{snapshot}
use Rattle.hy_machine.specs.Holding.{opponent}
use Rattle.hy_machine.specs.Visits.{has_key_in, new_cell, verdict, verdict_at, sweep, swept, checks_of}
use Rattle.hy_replay.specs.Ran.{Ran, writes_at, changed_by, one, taken_back}
use Rattle.hy_bound.specs.Predicate.{truth_of}
use Rattle.hy_lawful.specs.Outcomes.{committed_at}
use Rattle.hy_lawful.specs.Refusing.{goes_out, goes_out_at, WasRefused}
use Rattle.hy_lawful.specs.Written.{would_write}
use Rattle.hy_lawful.proofs.Refusals.{range_refuses, verdict_fails}
use Rattle.hy_lawful.proofs.RunSweeps.{alike_over, writes_apart, range_joined, sweep_joined, sweep_same, sweep_below, verdict_alone}
use Rattle.hy_lawful.proofs.RunAnswers.{AnswersNext, SavesNext}
use Rattle.hy_lawful.proofs.RunBacks.{HasBacked, nothing_backed}

-- ---- where a transaction stands

-- what an UPDATE or a DELETE wrote in the chunks that it visited
pub record HasSwept (setting : Setting) (tables : Tables) (begun : Begun) (given : Ran) (visited count : ℕ) (kind : WriteKind) (pred : Condition)
    (table : ℕ) : Type 0 where
  pub writes : List Write
  pub swept : writes_at kind pred (over tables given.own) table (range_with_len 0 (visited * setting.rows)) ≡ Ok writes
  pub own : with_writes given.own writes ≡ begun.own
  pub counted : length writes ≡ count
  pub few : visited < setting.chunks

-- an INSERT found its key in no chunk that it visited
pub record HasLooked (setting : Setting) (tables : Tables) (begun : Begun) (given : Ran) (visited table : ℕ) (row : List Value) (key : Option ℕ) : Type 0 where
  pub own : given.own ≡ begun.own
  pub clear : (pos : ℕ) → pos < visited * setting.rows → pos < checks_of setting key * setting.rows
      → has_key_in row key (item_at (over tables begun.own) table pos) ≡ false
  pub few : visited < checks_of setting key + setting.chunks

-- what so many visits of a statement have done
abbrev pub At : Setting → Tables → Begun → Ran → ℕ → ℕ → Option Bound → Type 0
At setting tables begun given visited count None = given.own ≡ begun.own
At setting tables begun given visited count (Some (Select from ons pred items)) = given.own ≡ begun.own
At setting tables begun given visited count (Some (Group table pred key aggregate)) = given.own ≡ begun.own
At setting tables begun given visited count (Some (Insert table row)) =
    HasLooked setting tables begun given visited table row (shape_of setting.shapes table).key
At setting tables begun given visited count (Some (Update table sets pred)) = HasSwept setting tables begun given visited count (kind.Set sets) pred table
At setting tables begun given visited count (Some (Delete table pred)) = HasSwept setting tables begun given visited count kind.Delete pred table
At setting tables begun given visited count (Some (Savepoint name)) = given.own ≡ begun.own
At setting tables begun given visited count (Some (RollbackTo name)) = HasBacked setting tables begun given visited name
At setting tables begun given visited count (Some (Release name)) = given.own ≡ begun.own

-- how one that is undone ends before this statement: it has not committed, and was refused there
abbrev pub Undone : Setting → Tables → Begun → Ran → Option Bound → Ending → Type 0
Undone setting tables begun given next ending =
    (committed_at ending ≡ None) × WasRefused setting.shapes (over tables begun.own) (over tables given.own) next ending

-- where an open transaction stands whose answered statements came to this
abbrev pub Stands : Setting → Tables → List Bound → Begun → Ran → Phase → Type 0
Stands setting tables statements begun given (Working visited count) =
    At setting tables begun given visited count (slice_get statements (length begun.replies))
Stands setting tables statements begun given (Stamping visited) = given.own ≡ begun.own
Stands setting tables statements begun given (Undoing visited cause) =
    Undone setting tables begun given (slice_get statements (length begun.replies)) cause

-- what a turn of an open transaction does
abbrev pub RunTurn : Setting → Tables → List Bound → Begun → Ran → Turn Write → Type 0
RunTurn setting tables statements begun given Done = Unit {0}
RunTurn setting tables statements begun given (Waits by) = Unit {0}
RunTurn setting tables statements begun given Begins = ⊥
RunTurn setting tables statements begun given (Visits writes phase) =
    Stands setting tables statements (with_more begun writes) given phase
RunTurn setting tables statements begun given (Answers writes reply took records) =
    AnswersNext setting tables statements begun given writes reply took records
RunTurn setting tables statements begun given (Saves statement reply) = SavesNext setting tables statements begun given statement reply
RunTurn setting tables statements begun given Enters = given.own ≡ begun.own
RunTurn setting tables statements begun given (Ends ending) =
    IfSome (committed_at ending) (λ (rank : ℕ). given.own ≡ begun.own)
    × WasRefused setting.shapes (over tables begun.own) (over tables given.own) (slice_get statements (length begun.replies)) ending

-- ---- a statement is begun

nothing_swept : (setting : Setting) (tables : Tables) (begun : Begun) (given : Ran) (kind : WriteKind) (pred : Condition) (table : ℕ) → 0 < setting.chunks
    → given.own ≡ begun.own → HasSwept setting tables begun given 0 0 kind pred table
nothing_swept setting tables begun given kind pred table c same = record {
  writes = [];
  swept = ap (λ (many : ℕ). writes_at kind pred (over tables given.own) table (range_with_len 0 many))
      (let none : 0 * setting.rows ≡ 0 = omega arith in none);
  own = same;
  counted = refl;
  few = c;
}

-- no visit of a statement is done
pub at_start : (setting : Setting) (tables : Tables) (begun : Begun) (given : Ran) → 0 < setting.chunks → given.own ≡ begun.own
    → (statement : Option Bound) → At setting tables begun given 0 0 statement
at_start setting tables begun given c same None = same
at_start setting tables begun given c same (Some (Select from ons pred items)) = same
at_start setting tables begun given c same (Some (Group table pred key aggregate)) = same
at_start setting tables begun given c same (Some (Insert table row)) = record {
  own = same;
  clear = λ pos below short. absurd (let none : 0 * setting.rows ≡ 0 = omega arith in omega arith);
  few = omega arith;
}
at_start setting tables begun given c same (Some (Update table sets pred)) = nothing_swept setting tables begun given (kind.Set sets) pred table c same
at_start setting tables begun given c same (Some (Delete table pred)) = nothing_swept setting tables begun given kind.Delete pred table c same
at_start setting tables begun given c same (Some (Savepoint name)) = same
at_start setting tables begun given c same (Some (RollbackTo name)) = nothing_backed setting tables begun given name same
at_start setting tables begun given c same (Some (Release name)) = same

-- the next statement of an open transaction
pub record IsNext (statements : List Bound) (begun : Begun) (statement : Bound) : Type 0 where
  pub here : slice_get statements (length begun.replies) ≡ Some statement

-- a statement that makes no savepoint, leaves none, and goes back to none
pub record LeavesSaved (tables : Tables) (statement : Bound) : Type 0 where
  pub own : (saved : List (Saved Own)) (own : Own) → value_after (taken_back tables) statement saved own ≡ own
  pub saved : (saved : List (Saved Own)) (own : Own) → saved_after statement saved own ≡ saved

pub visits : (setting : Setting) (tables : Tables) (statements : List Bound) (begun : Begun) (given : Ran) (statement : Bound) (writes : List Write)
    (visited count : ℕ) → IsNext statements begun statement
    → At setting tables (with_more begun writes) given visited count (Some statement)
    → RunTurn setting tables statements begun given (Visits writes (Working visited count))
visits setting tables statements begun given statement writes visited count n h =
    subst (At setting tables (with_more begun writes) given visited count) (sym n.here) h

-- ---- reads

-- a SELECT or a GROUP BY answers what it sees, and leaves the own writes
pub read_run : (setting : Setting) (tables : Tables) (statements : List Bound) (begun : Begun) (given : Ran) (visited many : ℕ) (statement : Bound)
    (gathered : List (List (List Value))) (reply : Reply) → IsNext statements begun statement → LeavesSaved tables statement
    → At setting tables begun given (suc visited) 0 (Some statement)
    → one setting tables given.own (suc (length begun.replies)) statement None
    ≡ Some (record { own = begun.own; reply = reply; records = records_of setting.shapes (suc (length begun.replies)) statement gathered })
    → RunTurn setting tables statements begun given (read_turn setting begun visited many statement gathered reply)
read_run setting tables statements begun given visited many statement gathered reply n leaves at gives =
    elim (cases_Bool (ltb (suc visited) (setting.chunks * many))) [
      | inl t ↦ rw t (visits setting tables statements begun given statement [] (suc visited) 0 n at)
      | inr f ↦ rw f (record {
        statement = statement;
        here = n.here;
        position = tt;
        gives = gives;
        stays = leaves.own given.saved begun.own;
        saved = leaves.saved given.saved begun.own;
      })
    ]

-- ---- UPDATE and DELETE

-- what a chunk more is swept
swept_more : (setting : Setting) (state : State) (number : ℕ) (begun : Begun) (given : Ran) (visited count : ℕ) (kind : WriteKind) (pred : Condition)
    (table : ℕ) (writes : List Write) (s : HasSwept setting (snapshot setting state begun.prefix) begun given visited count kind pred table)
    → swept setting state number begun kind pred table visited ≡ Ok writes
    → writes_at kind pred (over (snapshot setting state begun.prefix) given.own) table (range_with_len 0 (suc visited * setting.rows)) ≡ Ok (s.writes ++ writes)
swept_more setting state number begun given visited count kind pred table writes s e =
    let tables : Tables = snapshot setting state begun.prefix in
    let judge : ℕ → Result (Option Cell) Ending = λ pos. verdict kind pred table pos None (item_at (over tables given.own) table pos) in
    let start : ℕ = visited * setting.rows in
    ap (λ (positions : List ℕ). sweep table judge positions)
    (ap (range_with_len 0) (let same : suc visited * setting.rows ≡ start + setting.rows = omega arith in same)
    ∙ sym (range_joined 0 start setting.rows start (omega arith)))
    ∙ sweep_joined table judge (range_with_len 0 start) (positions_in setting visited) s.writes writes s.swept
    (sweep_same table (verdict_at setting state number begun kind pred table) judge start setting.rows
    (λ pos cell from h.
    ap (verdict kind pred table pos None)
    (alike_over tables given.own begun.own table pos
    (sym (writes_apart given.own s.writes table pos (sweep_below table judge 0 start pos s.writes (omega arith) s.swept))
    ∙ ap (λ (own : Own). item_at own table pos) s.own))
    ∙ verdict_alone kind pred table pos (opponent setting state number begun.prefix table pos) (item_at (over tables begun.own) table pos) cell h)
    writes e)

-- what a statement of this kind makes of the rows that it selects
pub record Writes (statement : Bound) (kind : WriteKind) (pred : Condition) (table : ℕ) : Type 0 where
  pub selects : (row : List Value) → truth_of pred row ≡ true → would_write table (Some statement) (Some row) ≡ true
  pub goes_out : (row : List Value) → truth_of pred row ≡ true → new_cell kind row ≡ None → goes_out table (Some statement) row ≡ true

-- what stands behind the visited chunks is what the answered statements left
left_behind : (setting : Setting) (tables : Tables) (begun : Begun) (given : Ran) (visited count : ℕ) (kind : WriteKind) (pred : Condition) (table pos : ℕ)
    → HasSwept setting tables begun given visited count kind pred table → visited * setting.rows ≤ pos
    → item_at (over tables given.own) table pos ≡ item_at (over tables begun.own) table pos
left_behind setting tables begun given visited count kind pred table pos s from =
    let judge : ℕ → Result (Option Cell) Ending = λ pos. verdict kind pred table pos None (item_at (over tables given.own) table pos) in
    alike_over tables given.own begun.own table pos
    (sym (writes_apart given.own s.writes table pos (sweep_below table judge 0 (visited * setting.rows) pos s.writes (omega (arith, from)) s.swept))
    ∙ ap (λ (own : Own). item_at own table pos) s.own)

refused_run : (setting : Setting) (state : State) (number : ℕ) (begun : Begun) (given : Ran) (visited count : ℕ) (statement : Bound)
    (kind : WriteKind) (pred : Condition) (table : ℕ) → Writes statement kind pred table
    → HasSwept setting (snapshot setting state begun.prefix) begun given visited count kind pred table
    → (cause : Ending) → swept setting state number begun kind pred table visited ≡ Err cause
    → Undone setting (snapshot setting state begun.prefix) begun given (Some statement) cause
refused_run setting state number begun given visited count statement kind pred table w s cause e =
    let tables : Tables = snapshot setting state begun.prefix in
    let P : Ending → Type 0 = λ one. Undone setting tables begun given (Some statement) one in
    range_refuses P table (verdict_at setting state number begun kind pred table) (visited * setting.rows) setting.rows cause
    (λ pos one from v.
    verdict_fails P kind pred table pos (opponent setting state number begun.prefix table pos) (item_at (over tables begun.own) table pos) one
    (λ row other here t o. (refl, ap (would_write table (Some statement)) here ∙ w.selects row t))
    (λ row here t n.
    let same : item_at (over tables given.own) table pos ≡ item_at (over tables begun.own) table pos =
    left_behind setting tables begun given visited count kind pred table pos s from in
    (refl, (ap (goes_out_at table (Some statement)) (same ∙ here) ∙ w.goes_out row t n, same)))
    v)
    e

pub write_run : (setting : Setting) (state : State) (statements : List Bound) (number : ℕ) (begun : Begun) (given : Ran) (visited count : ℕ) (statement : Bound)
    (kind : WriteKind) (pred : Condition) (table : ℕ) → IsNext statements begun statement → LeavesSaved (snapshot setting state begun.prefix) statement
    → Writes statement kind pred table → ((later : Begun) (v c : ℕ) → HasSwept setting (snapshot setting state begun.prefix) later given v c kind pred table
    → At setting (snapshot setting state begun.prefix) later given v c (Some statement))
    → one setting (snapshot setting state begun.prefix) given.own (suc (length begun.replies)) statement None
    ≡ changed_by given.own kind (records_of setting.shapes (suc (length begun.replies)) statement [])
    (writes_at kind pred (over (snapshot setting state begun.prefix) given.own) table (range_with_len 0 (capacity setting)))
    → HasSwept setting (snapshot setting state begun.prefix) begun given visited count kind pred table
    → (writes : Result (List Write) Ending) → swept setting state number begun kind pred table visited ≡ writes
    → RunTurn setting (snapshot setting state begun.prefix) statements begun given (write_turn setting begun visited count statement kind writes)
write_run setting state statements number begun given visited count statement kind pred table n leaves w at gives s (Err cause) e =
    subst (λ (next : Option Bound). Undone setting (snapshot setting state begun.prefix) begun given next cause) (sym n.here)
    (refused_run setting state number begun given visited count statement kind pred table w s cause e)
write_run setting state statements number begun given visited count statement kind pred table n leaves w at gives s (Ok writes) e =
    let tables : Tables = snapshot setting state begun.prefix in
    let more : writes_at kind pred (over tables given.own) table (range_with_len 0 (suc visited * setting.rows)) ≡ Ok (s.writes ++ writes) =
    swept_more setting state number begun given visited count kind pred table writes s e in
    let own : with_writes given.own (s.writes ++ writes) ≡ with_writes begun.own writes =
    writes_joined given.own s.writes writes ∙ ap (λ (before : Own). with_writes before writes) s.own in
    let counted : length (s.writes ++ writes) ≡ count + length writes = omega (arith, length-append s.writes writes, s.counted) in
    elim (cases_Bool (ltb (suc visited) setting.chunks)) [
      | inl t ↦ rw t (visits setting tables statements begun given statement writes (suc visited) (count + length writes) n
          (at (with_more begun writes) (suc visited) (count + length writes)
          (record { writes = s.writes ++ writes; swept = more; own = own; counted = counted; few = ltb-true (suc visited) setting.chunks t })))
      | inr f ↦ rw f (record {
        statement = statement;
        here = n.here;
        position = tt;
        gives = gives
            ∙ (ap (λ (many : ℕ). changed_by given.own kind (records_of setting.shapes (suc (length begun.replies)) statement [])
            (writes_at kind pred (over tables given.own) table (range_with_len 0 many)))
            (ap (λ (chunks : ℕ). chunks * setting.rows) (sym (last_chunk f)))
            ∙ (ap (changed_by given.own kind (records_of setting.shapes (suc (length begun.replies)) statement [])) more
            ∙ (ap (λ (own : Own). Some (record {
              own = own;
              reply = told_by kind (length (s.writes ++ writes));
              records = records_of setting.shapes (suc (length begun.replies)) statement [];
            })) own
            ∙ ap (λ (many : ℕ). Some (record {
              own = with_writes begun.own writes;
              reply = told_by kind many;
              records = records_of setting.shapes (suc (length begun.replies)) statement [];
            })) counted)));
        stays = leaves.own given.saved (with_writes begun.own writes);
        saved = leaves.saved given.saved (with_writes begun.own writes);
      })
    ]
  where
    last_chunk : ltb (suc visited) setting.chunks ≡ false → suc visited ≡ setting.chunks
    last_chunk f = elim (cases_lt (suc visited) setting.chunks) [
      | inl below ↦ absurd (cc (f, lt-ltb (suc visited) setting.chunks below))
      | inr past ↦ omega (arith, s.few)
    ]
