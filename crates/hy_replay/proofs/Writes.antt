-- What an UPDATE or a DELETE writes, and that over tables that differ unseen it is the same.
use Rattle.std.proofs.Common.{◌≡◌, ℕ, ◌≤◌, List, [], ◌∷◌, Option, None, Some, length, get_or, refl, ap, sym, ◌∙◌, subst, inl, inr, ◌⊎◌}
use Rattle.std.specs.Prelude.{Result, Ok, Err}
use Rattle.std.specs.List.{AllByRecursion, range_with_len}
use Rattle.std.proofs.lemmas.Option.{same_Some}
use Rattle.hy_bound.specs.declared.Assign.{Assign}
use Rattle.hy_bound.specs.declared.Record.{Record}
use Rattle.hy_bound.specs.declared.Shape.{Shape}
use Rattle.hy_bound.specs.declared.WriteKind.{WriteKind}
use Rattle.hy_bound.specs.Condition.{Condition}
use Rattle.hy_bound.specs.Records.{shape_of}
use Rattle.hy_bound.specs.declared.Ending.{Ending}
use Rattle.hy_machine.specs.declared.Setting.{Setting}
use Rattle.hy_machine.specs.Writes.{Write, with_writes}
use Rattle.hy_machine.specs.Positions.{item_at}
use Rattle.hy_machine.specs.Tables.{Cell, Tables, Own, capacity, over}
use Rattle.hy_protocol.specs.Statements.{told_by}
use Rattle.hy_machine.specs.Visits.{new_cell, verdict}
use Rattle.hy_replay.specs.Laws.{AreTables, HaveWidths, DifferUnseen}
use Rattle.hy_replay.specs.Ran.{One, writes_at, changed_by}
use Rattle.hy_replay.proofs.Cells.{HasShape, tables_shape, over_shape, there_is, IsWithin, writes_own, HasWidth, OwnWidth, width_at}
use Rattle.hy_replay.proofs.Cells.{FitsOwn, FitsWrite, over_widths}
use Rattle.hy_replay.proofs.Hits.{one_missed}
use Rattle.hy_replay.proofs.Sweeps.{sweep_all, sweep_again, made_of_row, left_alone, leaves_alone, new_width}
use Rattle.hy_replay.proofs.Truths.{SelectsByRead, write_record, truths_alike}
use Rattle.hy_replay.proofs.Views.{BothFit, widths_over, others_widths_over, AlikeAt, over_unseen}

-- ---- what a statement writes

-- a statement leaves one's own writes, and more that fit
pub record LeavesWrites (setting : Setting) (own : Own) (given : One) : Type 0 where
  pub writes : List Write
  pub is : given.own ≡ with_writes own writes
  pub fit : AllByRecursion (FitsWrite setting) writes

-- an UPDATE or a DELETE that isn't refused
changed_is : (own : Own) (kind : WriteKind) (records : List Record) (result : Result (List Write) Ending) (given : One)
    → changed_by own kind records result ≡ Some given
    → (writes : List Write) × ((result ≡ Ok writes)
    × (record { own = with_writes own writes; reply = told_by kind (length writes); records = records } ≡ given))
changed_is own kind records (Err cause) given e = absurd cc
changed_is own kind records (Ok writes) given e = (writes, (refl, same_Some _ given e))

some_width : (width : ℕ) (made : Option Cell) (new : Cell) → OwnWidth width made → made ≡ Some new → HasWidth width new
some_width width made new h e = subst (OwnWidth width) e h

-- a write is of a row of its table's width, and of a position that is there
abbrev IsGood : Setting → Write → Type 0
IsGood setting write = FitsWrite setting write × IsWithin (length setting.first) (capacity setting) write

verdict_good : (setting : Setting) (view : Tables) (kind : WriteKind) (pred : Condition) (table : ℕ) → HasShape view (length setting.first) (capacity setting)
    → HaveWidths setting.shapes view → (pos : ℕ) (new : Cell) → verdict kind pred table pos None (item_at view table pos) ≡ Ok (Some new)
    → IsGood setting (record { table = table; pos = pos; cell = new })
verdict_good setting view kind pred table shape wide pos new v =
    let width : ℕ = (shape_of setting.shapes table).width in
    let made = made_of_row kind pred table pos (item_at view table pos) new v in
    let long : length made.0 ≡ width = subst (HasWidth width) made.1.0 (width_at width (get_or view table []) (wide table) pos) in (
      some_width width (new_cell kind made.0) new (new_width width kind made.0 long) made.1.1,
      there_is view (length setting.first) (capacity setting) table pos made.0 shape made.1.0,
    )

written_good : (setting : Setting) (tables : Tables) (own : Own) (kind : WriteKind) (pred : Condition) (table : ℕ) (positions : List ℕ) (writes : List Write)
    → AreTables setting tables → HaveWidths setting.shapes tables → FitsOwn setting own
    → writes_at kind pred (over tables own) table positions ≡ Ok writes → AllByRecursion (IsGood setting) writes
written_good setting tables own kind pred table positions writes are wide fits e =
    sweep_all (IsGood setting) table (λ pos. verdict kind pred table pos None (item_at (over tables own) table pos))
    (verdict_good setting (over tables own) kind pred table
    (over_shape tables own (length setting.first) (capacity setting) (tables_shape setting tables are)) (over_widths setting tables own are wide fits))
    positions writes e

all_first : {X : Type 0} (P Q : X → Type 0) (xs : List X) → AllByRecursion (λ x. P x × Q x) xs → AllByRecursion P xs
all_first P Q [] h = tt
all_first P Q (x ∷ xs) h = (h.0.0, all_first P Q xs h.1)

all_second : {X : Type 0} (P Q : X → Type 0) (xs : List X) → AllByRecursion (λ x. P x × Q x) xs → AllByRecursion Q xs
all_second P Q [] h = tt
all_second P Q (x ∷ xs) h = (h.0.1, all_second P Q xs h.1)

pub changed_leaves : (setting : Setting) (tables : Tables) (own : Own) (kind : WriteKind) (pred : Condition) (table : ℕ) (records : List Record) (given : One)
    → AreTables setting tables → HaveWidths setting.shapes tables → FitsOwn setting own
    → changed_by own kind records (writes_at kind pred (over tables own) table (range_with_len 0 (capacity setting))) ≡ Some given
    → LeavesWrites setting own given
changed_leaves setting tables own kind pred table records given are wide fits e =
    let positions : List ℕ = range_with_len 0 (capacity setting) in
    let parts = changed_is own kind records (writes_at kind pred (over tables own) table positions) given e in
    record {
      writes = parts.0;
      is = ap (λ (one : One). one.own) (sym parts.1.1);
      fit = all_first (FitsWrite setting) (IsWithin (length setting.first) (capacity setting)) parts.0
          (written_good setting tables own kind pred table positions parts.0 are wide fits parts.1.0);
    }

-- ---- the same over tables that differ unseen

-- a verdict is the same, or the position isn't one's own and is left alone in both
verdict_again : SelectsByRead → (shape : Shape) (kind : WriteKind) (number table : ℕ) (sets : List Assign) (pred : Condition) (pos : ℕ) (later : Own)
    → shape.width ≤ 32 → (before after : Cell) → HasWidth shape.width before → HasWidth shape.width after
    → AlikeAt later (write_record number shape table sets pred ∷ []) table pos before after
    → (verdict kind pred table pos None before ≡ verdict kind pred table pos None after)
    ⊎ ((item_at later table pos ≡ None) × (verdict kind pred table pos None before ≡ Ok None → verdict kind pred table pos None after ≡ Ok None))
verdict_again selects shape kind number table sets pred pos later few before after w v (inl same) = inl (ap (verdict kind pred table pos None) same)
verdict_again selects shape kind number table sets pred pos later few before after w v (inr unseen) =
    inr (
      unseen.apart,
      λ left. leaves_alone kind pred table pos after
          (sym (truths_alike selects number shape table sets pred few before after w v
          (one_missed (write_record number shape table sets pred) table before after refl unseen.missed))
          ∙ left_alone kind pred table pos before left),
    )

-- what is written is the same
pub written_again : SelectsByRead → (setting : Setting) (tables others : Tables) (own : Own) (kind : WriteKind) (number table : ℕ)
    (sets : List Assign) (pred : Condition) (positions : List ℕ) (writes : List Write) → BothFit setting tables others → FitsOwn setting own
    → writes_at kind pred (over tables own) table positions ≡ Ok writes
    → DifferUnseen tables others (with_writes own writes) (write_record number (shape_of setting.shapes table) table sets pred ∷ [])
    → writes_at kind pred (over others own) table positions ≡ Ok writes
written_again selects setting tables others own kind number table sets pred positions writes fit fits e unseen =
    let shape : Shape = shape_of setting.shapes table in
    let later : Own = with_writes own writes in
    let differ : DifferUnseen (over tables own) (over others own) later (write_record number shape table sets pred ∷ []) =
    over_unseen setting tables others own later (write_record number shape table sets pred ∷ []) fit fits unseen in
    let within : AllByRecursion (IsWithin (length setting.first) (capacity setting)) writes =
    all_second (FitsWrite setting) (IsWithin (length setting.first) (capacity setting)) writes
    (written_good setting tables own kind pred table positions writes fit.are fit.wide fits e) in
    sweep_again table (λ pos. verdict kind pred table pos None (item_at (over tables own) table pos))
    (λ pos. verdict kind pred table pos None (item_at (over others own) table pos)) (λ at pos. item_at later at pos ≡ None)
    (λ pos. verdict_again selects shape kind number table sets pred pos later (fit.shapes table).1
    (item_at (over tables own) table pos) (item_at (over others own) table pos)
    (width_at shape.width (get_or (over tables own) table []) (widths_over setting tables others own fit fits table) pos)
    (width_at shape.width (get_or (over others own) table []) (others_widths_over setting tables others own fit fits table) pos) (differ table pos))
    positions writes e (writes_own own writes (length setting.first) (capacity setting) fits.shape within)

pub changed_again : SelectsByRead → (setting : Setting) (tables others : Tables) (own : Own) (kind : WriteKind) (number table : ℕ)
    (sets : List Assign) (pred : Condition) (given : One) → BothFit setting tables others → FitsOwn setting own
    → changed_by own kind (write_record number (shape_of setting.shapes table) table sets pred ∷ [])
    (writes_at kind pred (over tables own) table (range_with_len 0 (capacity setting))) ≡ Some given
    → DifferUnseen tables others given.own given.records
    → changed_by own kind (write_record number (shape_of setting.shapes table) table sets pred ∷ [])
    (writes_at kind pred (over others own) table (range_with_len 0 (capacity setting))) ≡ Some given
changed_again selects setting tables others own kind number table sets pred given fit fits e unseen =
    let records : List Record = write_record number (shape_of setting.shapes table) table sets pred ∷ [] in
    let positions : List ℕ = range_with_len 0 (capacity setting) in
    let parts = changed_is own kind records (writes_at kind pred (over tables own) table positions) given e in
    ap (changed_by own kind records)
    (written_again selects setting tables others own kind number table sets pred positions parts.0 fit fits parts.1.0
    (subst (λ (one : One). DifferUnseen tables others one.own one.records) (sym parts.1.1) unseen))
    ∙ ap Some parts.1.1
