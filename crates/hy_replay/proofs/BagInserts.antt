-- What an INSERT over tables of positions comes to is its meaning over their rows.
use Rattle.std.proofs.Common.{◌≡◌, ℕ, ◌<◌, List, [], ◌∷◌, ◌++◌, Option, None, Some, Bool, true, false, length, get_or, is_some}
use Rattle.std.proofs.Common.{refl, ap, sym, ◌∙◌, subst, arith, zero-add, not, ◌&&◌}
use Rattle.std.proofs.Math.ListN.{set}
use Rattle.std.specs.Prelude.{cond}
use Rattle.std.specs.List.{list_any}
use Rattle.std.specs.List.Sorted.{IsPermutation}
use Rattle.std.proofs.lemmas.List.Sorted.{IsPermutation-sym, IsPermutation-trans, IsPermutation-to_front}
use Rattle.std.proofs.lemmas.Option.{same_Some}
use Rattle.hy_value.specs.declared.Value.{Value}
use Rattle.hy_value.specs.Sorted.{sorted}
use Rattle.hy_value.specs.Sorting.{sorted_permutes}
use Rattle.hy_bound.specs.declared.Bound.TheVariants.{Insert}
use Rattle.hy_bound.specs.declared.Record.{Record}
use Rattle.hy_bound.specs.declared.Reply.TheVariants as reply
use Rattle.hy_bound.specs.declared.Shape.{Shape}
use Rattle.hy_bound.specs.Changes.{present}
use Rattle.hy_bound.specs.Records.{shape_of}
use Rattle.hy_plan.specs.Reads.{records_of}
use Rattle.hy_meaning.specs.Statement.{Table, Database, rows_in, has_key_of, mean}
use Rattle.hy_machine.specs.declared.Setting.{Setting}
use Rattle.hy_machine.specs.Writes.{Write, with_write}
use Rattle.hy_machine.specs.Positions.{item_at}
use Rattle.hy_machine.specs.Tables.{Cell, Tables, Own, capacity, over}
use Rattle.hy_replay.specs.Ran.{One, has_key_at, placed_at}
use Rattle.hy_replay.specs.BagLaws.{IsPosition}
use Rattle.hy_replay.proofs.OverCells.{Alike, HavePositions, few_positions, positions_there, write_alike, over_write, over_none}
use Rattle.hy_replay.proofs.Presents.{rows_of, rows_at, present_set, key_found}
use Rattle.hy_replay.proofs.BagMeanings.{Steps, replaced, same_means}

cell_none : (item : Option Cell) → is_some item ≡ false → item ≡ None
cell_none None e = refl
cell_none (Some cell) e = absurd cc

row_none : (cell : Cell) → is_some cell ≡ false → cell ≡ None
row_none None e = refl
row_none (Some row) e = absurd cc

key_told : (setting : Setting) (view : Tables) (table : ℕ) (row : List Value) → HavePositions (capacity setting) view
    → has_key_at setting view table row ≡ list_any (has_key_of row (shape_of setting.shapes table).key) (rows_in (rows_of view) table)
key_told setting view table row h =
    key_found row (shape_of setting.shapes table).key (item_at view table) 0 (capacity setting) (get_or view table [])
    (λ i. ap (item_at view table) (zero-add i)) (few_positions (capacity setting) view table h)
    ∙ ap (list_any (has_key_of row (shape_of setting.shapes table).key)) (sym (rows_at view table))

insert_given : (b : Bool) (table : ℕ) (row : List Value) (db : Database) (shapes : List Shape)
    → list_any (has_key_of row (shape_of shapes table).key) (rows_in db table) ≡ b
    → mean shapes (Insert table row) db
    ≡ Some (cond b (reply.Duplicate, db) (reply.Inserted, set db table (sorted (rows_in db table ++ row ∷ []))))
insert_given b table row db shapes e =
    ap (λ found. Some (cond found (reply.Duplicate, db) (reply.Inserted, set db table (sorted (rows_in db table ++ row ∷ []))))) e

-- a row that is put at a free position
row_comes : (positions : ℕ) (view : Tables) (table pos : ℕ) (row : List Value) → HavePositions positions view → pos < positions → item_at view table pos ≡ None
    → table < length view → IsPermutation (sorted (rows_in (rows_of view) table ++ row ∷ [])) (present (set (get_or view table []) pos (Some row)))
row_comes positions view table pos row h below free there =
    let rows : Table = rows_in (rows_of view) table in
    let comes : IsPermutation (row ∷ rows) (present (set (get_or view table []) pos (Some row))) =
    subst (λ (one : Table). IsPermutation (row ∷ one) (present (set (get_or view table []) pos (Some row)))) (sym (rows_at view table))
    (present_set (get_or view table []) pos row (omega (arith, below, positions_there positions view table h there)) free) in
    IsPermutation-trans _ (rows ++ row ∷ []) _ (IsPermutation-sym _ _ (sorted_permutes (rows ++ row ∷ [])))
    (IsPermutation-trans _ (row ∷ rows) _ (IsPermutation-to_front rows row) comes)

record Placed (found owned held : Bool) (given first : One) : Type 0 where
  new : found ≡ false
  own_free : owned ≡ false
  free : held ≡ false
  is : given ≡ first

placed_if : (found owned held : Bool) (given first : One) → cond (not found && not owned && not held) (Some given) None ≡ Some first
    → Placed found owned held given first
placed_if true owned held given first e = absurd cc
placed_if false true held given first e = absurd cc
placed_if false false true given first e = absurd cc
placed_if false false false given first e = record { new = refl; own_free = refl; free = refl; is = same_Some given first e }

duplicate_if : (b : Bool) (given first : One) → cond b (Some given) None ≡ Some first → (b ≡ true) × (given ≡ first)
duplicate_if true given first e = (refl, same_Some given first e)
duplicate_if false given first e = absurd cc

pub inserted_steps : (setting : Setting) (tables : Tables) (own : Own) (number table : ℕ) (row : List Value) (at : Option ℕ) (first : One) → Alike tables own
    → HavePositions (capacity setting) (over tables own) → IsPosition setting at
    → placed_at setting tables own table row (records_of setting.shapes number (Insert table row) []) at ≡ Some first
    → Steps setting tables own number (Insert table row) first
inserted_steps setting tables own number table row None first alike h within e =
    let logged : List Record = records_of setting.shapes number (Insert table row) [] in
    let found = duplicate_if (has_key_at setting (over tables own) table row) (record { own = own; reply = reply.Duplicate; records = logged }) first e in
    let told = insert_given true table row (rows_of (over tables own)) setting.shapes (sym (key_told setting (over tables own) table row h) ∙ found.0) in
    subst (Steps setting tables own number (Insert table row)) found.1
    (record {
      alike = alike;
      adds = record { writes = []; is = refl };
      means = same_means setting.shapes (Insert table row) (over tables own) reply.Duplicate told;
      logs = refl;
    })
inserted_steps setting tables own number table row (Some pos) first alike h within e =
    let logged : List Record = records_of setting.shapes number (Insert table row) [] in
    let write : Write = record { table = table; pos = pos; cell = Some row } in
    let view : Tables = over tables own in
    let placed = placed_if (has_key_at setting view table row) (is_some (item_at own table pos)) (is_some (item_at tables table pos))
    (record { own = with_write own write; reply = reply.Inserted; records = logged }) first e in
    let told = insert_given false table row (rows_of view) setting.shapes (sym (key_told setting view table row h) ∙ placed.new) in
    let free : item_at view table pos ≡ None =
    over_none tables own table pos (row_none (item_at tables table pos) placed.free) (cell_none (item_at own table pos) placed.own_free) in
    subst (Steps setting tables own number (Insert table row)) placed.is
    (record {
      alike = write_alike tables own write alike;
      adds = record { writes = write ∷ []; is = refl };
      means = replaced setting.shapes (Insert table row) view (over tables (with_write own write)) reply.Inserted table
          (set (get_or view table []) pos (Some row)) (sorted (rows_in (rows_of view) table ++ row ∷ [])) told
          (row_comes (capacity setting) view table pos row h within free) (over_write tables own write alike);
      logs = refl;
    })
