-- What an UPDATE or a DELETE over tables of positions comes to is its meaning over their rows.
use Rattle.std.proofs.Common.{◌≡◌, ℕ, ◌+◌, List, [], None, Some, Result, Ok, Err, length, get_or}
use Rattle.std.proofs.Common.{refl, ap, sym, ◌∙◌, subst, zero-add, not}
use Rattle.std.proofs.Math.ListN.{set}
use Rattle.std.specs.Prelude.{count_by, filter}
use Rattle.std.specs.List.{range_with_len}
use Rattle.std.proofs.lemmas.List.Sorted.{IsPermutation-refl, IsPermutation-sym}
use Rattle.std.proofs.lemmas.Option.{same_Some}
use Rattle.hy_value.specs.Sorted.{sorted}
use Rattle.hy_value.specs.Sorting.{sorted_permutes}
use Rattle.hy_bound.specs.declared.Assign.{Assign}
use Rattle.hy_bound.specs.declared.Bound.{Bound}
use Rattle.hy_bound.specs.declared.Bound.TheVariants.{Update, Delete}
use Rattle.hy_bound.specs.declared.Reply.TheVariants as reply
use Rattle.hy_bound.specs.declared.Shape.{Shape}
use Rattle.hy_bound.specs.declared.WriteKind.{WriteKind}
use Rattle.hy_bound.specs.declared.WriteKind.TheVariants as kind
use Rattle.hy_bound.specs.Condition.{Condition}
use Rattle.hy_bound.specs.Changes.{present}
use Rattle.hy_bound.specs.Predicate.{truth_of}
use Rattle.hy_plan.specs.Reads.{records_of}
use Rattle.hy_meaning.specs.Statement.{Table, rows_in, gathered_by, updated_rows, with_table}
use Rattle.hy_bound.specs.declared.Ending.{Ending}
use Rattle.hy_machine.specs.declared.Setting.{Setting}
use Rattle.hy_machine.specs.Writes.{Write, with_writes}
use Rattle.hy_machine.specs.Positions.{item_at}
use Rattle.hy_machine.specs.Tables.{Tables, Own, capacity, over}
use Rattle.hy_protocol.specs.Statements.{told_by}
use Rattle.hy_machine.specs.Visits.{verdict}
use Rattle.hy_replay.specs.Ran.{One, writes_at, changed_by}
use Rattle.hy_replay.proofs.OverCells.{Alike, HavePositions, few_positions, writes_alike, over_writes}
use Rattle.hy_replay.proofs.Presents.{rows_of, rows_at}
use Rattle.hy_replay.proofs.BagSweeps.{Swept, swept}
use Rattle.hy_replay.proofs.BagMeanings.{Means, Steps, replaced}

-- an UPDATE where its sweep of the table left these positions
updated_means : (shapes : List Shape) (sets : List Assign) (pred : Condition) (table : ℕ) (view after : Tables) (writes : List Write)
    → (sweep : Swept (kind.Set sets) pred table [] (get_or view table []) writes) → after ≡ set view table sweep.after
    → Means shapes (Update table sets pred) view after (reply.Updated (length writes))
updated_means shapes sets pred table view after writes sweep e =
    let rows : updated_rows sets pred (rows_in (rows_of view) table) ≡ Some (present sweep.after) =
    ap (updated_rows sets pred) (rows_at view table) ∙ sweep.rows in
    let count : count_by (truth_of pred) (rows_in (rows_of view) table) ≡ length writes =
    ap (count_by (truth_of pred)) (rows_at view table) ∙ sym sweep.count in
    replaced shapes (Update table sets pred) view after (reply.Updated (length writes)) table sweep.after (sorted (present sweep.after))
    (ap (with_table pred table (rows_of view)) rows
    ∙ ap (λ n. Some (reply.Updated n, set (rows_of view) table (sorted (present sweep.after)))) count)
    (λ below. IsPermutation-sym _ _ (sorted_permutes (present sweep.after))) e

-- a DELETE likewise
deleted_means : (shapes : List Shape) (pred : Condition) (table : ℕ) (view after : Tables) (writes : List Write)
    → (sweep : Swept kind.Delete pred table [] (get_or view table []) writes) → after ≡ set view table sweep.after
    → Means shapes (Delete table pred) view after (reply.Deleted (length writes))
deleted_means shapes pred table view after writes sweep e =
    let count : count_by (truth_of pred) (rows_in (rows_of view) table) ≡ length writes =
    ap (count_by (truth_of pred)) (rows_at view table) ∙ sym sweep.count in
    let rows : filter (λ row. not (truth_of pred row)) (rows_in (rows_of view) table) ≡ present sweep.after =
    ap (filter (λ row. not (truth_of pred row))) (rows_at view table)
    ∙ same_Some (filter (λ row. not (truth_of pred row)) (present (get_or view table []))) (present sweep.after) sweep.rows in
    replaced shapes (Delete table pred) view after (reply.Deleted (length writes)) table sweep.after (present sweep.after)
    (ap (λ n. Some (reply.Deleted n, set (rows_of view) table (filter (λ row. not (truth_of pred row)) (rows_in (rows_of view) table)))) count
    ∙ ap (λ (more : Table). Some (reply.Deleted (length writes), set (rows_of view) table more)) rows)
    (λ below. IsPermutation-refl _) e

-- what an UPDATE or a DELETE writes at all positions of a table
swept_table : (kind : WriteKind) (pred : Condition) (positions table : ℕ) (view : Tables) (writes : List Write) → HavePositions positions view
    → writes_at kind pred view table (range_with_len 0 positions) ≡ Ok writes → Swept kind pred table [] (get_or view table []) writes
swept_table kind pred positions table view writes h e =
    swept kind pred table (λ pos. verdict kind pred table pos None (item_at view table pos)) 0 positions [] (get_or view table []) writes refl
    (few_positions positions view table h) (λ i. ap (λ n. verdict kind pred table (0 + i) None (item_at view table n)) (zero-add i)) e

-- the tables after these writes
after_swept : (kind : WriteKind) (pred : Condition) (table : ℕ) (tables : Tables) (own : Own) (writes : List Write) → Alike tables own
    → (sweep : Swept kind pred table [] (get_or (over tables own) table []) writes)
    → over tables (with_writes own writes) ≡ set (over tables own) table sweep.after
after_swept kind pred table tables own writes alike sweep =
    over_writes tables own table writes alike sweep.there ∙ ap (set (over tables own) table) sweep.left

-- what an UPDATE or a DELETE that writes these means
abbrev MeansWrites : Setting → Tables → Own → ℕ → Bound → WriteKind → List Write → Type 0
MeansWrites setting tables own number statement kind writes =
    Means setting.shapes statement (over tables own) (over tables (with_writes own writes)) (told_by kind (length writes))

changed_steps : (setting : Setting) (tables : Tables) (own : Own) (number : ℕ) (statement : Bound) (kind : WriteKind) (first : One)
    (result : Result (List Write) Ending) → Alike tables own
    → gathered_by statement (rows_of (over tables own)) ≡ []
    → ((writes : List Write) → result ≡ Ok writes → MeansWrites setting tables own number statement kind writes)
    → changed_by own kind (records_of setting.shapes number statement []) result ≡ Some first → Steps setting tables own number statement first
changed_steps setting tables own number statement kind first (Err cause) alike g m e = absurd cc
changed_steps setting tables own number statement kind first (Ok writes) alike g m e =
    subst (Steps setting tables own number statement)
    (same_Some (record { own = with_writes own writes; reply = told_by kind (length writes); records = records_of setting.shapes number statement [] }) first e)
    (record {
      alike = writes_alike tables own writes alike;
      adds = record { writes = writes; is = refl };
      means = m writes refl;
      logs = ap (records_of setting.shapes number statement) (sym g);
    })

-- what an UPDATE and a DELETE come to
pub updated_steps : (setting : Setting) (tables : Tables) (own : Own) (number table : ℕ) (sets : List Assign) (pred : Condition) (first : One)
    → Alike tables own → HavePositions (capacity setting) (over tables own)
    → changed_by own (kind.Set sets) (records_of setting.shapes number (Update table sets pred) [])
    (writes_at (kind.Set sets) pred (over tables own) table (range_with_len 0 (capacity setting))) ≡ Some first
    → Steps setting tables own number (Update table sets pred) first
updated_steps setting tables own number table sets pred first alike h e =
    changed_steps setting tables own number (Update table sets pred) (kind.Set sets) first
    (writes_at (kind.Set sets) pred (over tables own) table (range_with_len 0 (capacity setting))) alike refl
    (λ writes w. let sweep = swept_table (kind.Set sets) pred (capacity setting) table (over tables own) writes h w in
    updated_means setting.shapes sets pred table (over tables own) (over tables (with_writes own writes)) writes sweep
    (after_swept (kind.Set sets) pred table tables own writes alike sweep)) e

pub deleted_steps : (setting : Setting) (tables : Tables) (own : Own) (number table : ℕ) (pred : Condition) (first : One)
    → Alike tables own → HavePositions (capacity setting) (over tables own)
    → changed_by own kind.Delete (records_of setting.shapes number (Delete table pred) [])
    (writes_at kind.Delete pred (over tables own) table (range_with_len 0 (capacity setting))) ≡ Some first
    → Steps setting tables own number (Delete table pred) first
deleted_steps setting tables own number table pred first alike h e =
    changed_steps setting tables own number (Delete table pred) kind.Delete first
    (writes_at kind.Delete pred (over tables own) table (range_with_len 0 (capacity setting))) alike refl
    (λ writes w. let sweep = swept_table kind.Delete pred (capacity setting) table (over tables own) writes h w in
    deleted_means setting.shapes pred table (over tables own) (over tables (with_writes own writes)) writes sweep
    (after_swept kind.Delete pred table tables own writes alike sweep)) e
