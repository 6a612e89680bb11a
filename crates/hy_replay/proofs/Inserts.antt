-- An INSERT over tables that differ unseen comes to the same.
use Rattle.std.proofs.Common.{◌≡◌, ℕ, ◌<◌, ◌≤◌, List, [], ◌∷◌, Option, None, Some, Bool, true, false, length, get_or, is_some}
use Rattle.std.proofs.Common.{refl, ap, sym, ◌∙◌, subst, inl, inr, ◌⊎◌}
use Rattle.std.specs.Prelude.{not, ◌&&◌, if◌then◌else◌}
use Rattle.std.specs.List.{list_any, range_with_len, flat_map}
use Rattle.std.proofs.lemmas.Option.{same_Some}
use Rattle.hy_value.specs.declared.Value.{Value}
use Rattle.hy_bound.specs.declared.Bound.TheVariants.{Insert}
use Rattle.hy_bound.specs.declared.Record.{Record}
use Rattle.hy_bound.specs.declared.Reply.TheVariants as reply
use Rattle.hy_bound.specs.declared.Shape.{Shape}
use Rattle.hy_bound.specs.Condition.{Condition}
use Rattle.hy_bound.specs.Predicate.{column_of, truth_at}
use Rattle.hy_bound.specs.Records.{shape_of}
use Rattle.hy_plan.specs.Reads.{key_is_value, key_reads_of, recorded, records_of}
use Rattle.hy_machine.specs.declared.Setting.{Setting}
use Rattle.hy_machine.specs.Writes.{Write, with_write}
use Rattle.hy_machine.specs.Positions.{item_at}
use Rattle.hy_machine.specs.Tables.{Cell, Tables, Own, capacity, over}
use Rattle.hy_machine.specs.Validation.{record_hit}
use Rattle.hy_machine.specs.Visits.{has_key_in}
use Rattle.hy_replay.specs.Laws.{DifferUnseen}
use Rattle.hy_replay.specs.Ran.{One, has_key_at, placed_at}
use Rattle.hy_replay.proofs.Cells.{tables_shape, no_item, where_is, written_at, HasWidth, width_at}
use Rattle.hy_replay.proofs.Cells.{FitsOwn}
use Rattle.hy_replay.proofs.Changes.{MissEach}
use Rattle.hy_replay.proofs.Hits.{one_missed}
use Rattle.hy_replay.proofs.Truths.{SelectsByRead, write_record, truths_alike}
use Rattle.hy_replay.proofs.Views.{BothFit, widths_over, others_widths_over, AlikeAt, over_misses}
use Rattle.hy_replay.proofs.Writes.{LeavesWrites}

if_some : (b : Bool) (x given : One) → (if b then Some x else None) ≡ Some given → x ≡ given
if_some true x given e = same_Some x given e
if_some false x given e = absurd cc

-- ---- whether the key is there

no_key : (row : List Value) (cell : Cell) → has_key_in row None cell ≡ false
no_key row None = refl
no_key row (Some other) = refl

key_truth : (row : List Value) (key : ℕ) (cell : Cell) → has_key_in row (Some key) cell ≡ truth_at (key_is_value key (column_of row key)) cell
key_truth row key None = refl
key_truth row key (Some other) = refl

-- a position has the key before and after a change that doesn't hit the record of it, or neither
key_again : SelectsByRead → (number : ℕ) (shape : Shape) (table : ℕ) (row : List Value) (key : Option ℕ) (before after : Cell) → shape.width ≤ 32
    → HasWidth shape.width before → HasWidth shape.width after
    → record_hit (flat_map (recorded number) (key_reads_of shape table row key)) table before after ≡ None
    → has_key_in row key before ≡ has_key_in row key after
key_again selects number shape table row None before after few w v h = no_key row before ∙ sym (no_key row after)
key_again selects number shape table row (Some key) before after few w v h =
    let wanted : Condition = key_is_value key (column_of row key) in
    key_truth row key before
    ∙ (truths_alike selects number shape table [] wanted few before after w v
    (one_missed (write_record number shape table [] wanted) table before after refl h)
    ∙ sym (key_truth row key after))

any_alike : (f g : ℕ → Bool) → ((n : ℕ) → f n ≡ g n) → (xs : List ℕ) → list_any f xs ≡ list_any g xs
any_alike f g same [] = refl
any_alike f g same (x ∷ xs) = rw (same x, any_alike f g same xs) refl

-- an INSERT finds its key in both, or in neither
pub found_again : SelectsByRead → (setting : Setting) (tables others : Tables) (own later : Own) (number table : ℕ) (row : List Value)
    → BothFit setting tables others → FitsOwn setting own → DifferUnseen tables others later (records_of setting.shapes number (Insert table row) [])
    → has_key_at setting (over others own) table row ≡ has_key_at setting (over tables own) table row
found_again selects setting tables others own later number table row fit fits unseen =
    let shape : Shape = shape_of setting.shapes table in
    let records : List Record = records_of setting.shapes number (Insert table row) [] in
    let miss : MissEach records (over tables own) (over others own) = over_misses setting tables others own later records fit fits unseen in
    any_alike (λ pos. has_key_in row shape.key (item_at (over others own) table pos)) (λ pos. has_key_in row shape.key (item_at (over tables own) table pos))
    (λ pos. sym (key_again selects number shape table row shape.key (item_at (over tables own) table pos) (item_at (over others own) table pos)
    (fit.shapes table).1
    (width_at shape.width (get_or (over tables own) table []) (widths_over setting tables others own fit fits table) pos)
    (width_at shape.width (get_or (over others own) table []) (others_widths_over setting tables others own fit fits table) pos) (miss table pos)))
    (range_with_len 0 (capacity setting))

-- ---- the position that is taken

-- a position that is written is the same in both
taken_again : (setting : Setting) (tables others : Tables) (own : Own) (write : Write) (records : List Record) → BothFit setting tables others
    → FitsOwn setting own → DifferUnseen tables others (with_write own write) records
    → item_at others write.table write.pos ≡ item_at tables write.table write.pos
taken_again setting tables others own write records fit fits unseen =
    by_place (where_is (length setting.first) (capacity setting) write.table write.pos) (unseen write.table write.pos)
  where
    by_place : ((write.table < length setting.first) × (write.pos < capacity setting)) ⊎ ((length setting.first ≤ write.table) ⊎ (capacity setting ≤ write.pos))
        → AlikeAt (with_write own write) records write.table write.pos (item_at tables write.table write.pos) (item_at others write.table write.pos)
        → item_at others write.table write.pos ≡ item_at tables write.table write.pos
    by_place place (inl same) = sym same
    by_place (inl within) (inr apart) =
        absurd (cc (apart.apart, written_at own write (length setting.first) (capacity setting) fits.shape within.0 within.1))
    by_place (inr out) (inr apart) =
        no_item others (length setting.first) (capacity setting) write.table write.pos (tables_shape setting others fit.others_are) out
        ∙ sym (no_item tables (length setting.first) (capacity setting) write.table write.pos (tables_shape setting tables fit.are) out)

-- ---- what an INSERT comes to

-- an INSERT without a position is a duplicate
abbrev duplicate : Own → List Record → One
duplicate own records = record { own = own; reply = reply.Duplicate; records = records }

-- one with a position writes its row there
abbrev insertion : Own → ℕ → List Value → List Record → ℕ → One
insertion own table row records pos =
    record { own = with_write own (record { table = table; pos = pos; cell = Some row }); reply = reply.Inserted; records = records }

-- whether a position may be taken
abbrev is_open : Own → ℕ → ℕ → Bool → Cell → Bool
is_open own table pos found cell = not found && not (is_some (item_at own table pos)) && not (is_some cell)

pub placed_again : SelectsByRead → (setting : Setting) (tables others : Tables) (own : Own) (number table : ℕ) (row : List Value) (at : Option ℕ) (given : One)
    → BothFit setting tables others → FitsOwn setting own
    → placed_at setting tables own table row (records_of setting.shapes number (Insert table row) []) at ≡ Some given
    → DifferUnseen tables others given.own given.records
    → placed_at setting others own table row (records_of setting.shapes number (Insert table row) []) at ≡ Some given
placed_again selects setting tables others own number table row None given fit fits e unseen =
    let left : One = duplicate own (records_of setting.shapes number (Insert table row) []) in
    let is : left ≡ given = if_some (has_key_at setting (over tables own) table row) left given e in
    let differ : DifferUnseen tables others left.own left.records = subst (λ (one : One). DifferUnseen tables others one.own one.records) (sym is) unseen in
    ap (λ (found : Bool). if found then Some left else None) (found_again selects setting tables others own own number table row fit fits differ) ∙ e
placed_again selects setting tables others own number table row (Some pos) given fit fits e unseen =
    let records : List Record = records_of setting.shapes number (Insert table row) [] in
    let left : One = insertion own table row records pos in
    let found : Bool = has_key_at setting (over tables own) table row in
    let is : left ≡ given = if_some (is_open own table pos found (item_at tables table pos)) left given e in
    let differ : DifferUnseen tables others left.own records = subst (λ (one : One). DifferUnseen tables others one.own one.records) (sym is) unseen in
    ap (λ (found : Bool). if is_open own table pos found (item_at others table pos) then Some left else None)
    (found_again selects setting tables others own left.own number table row fit fits differ)
    ∙ (ap (λ (cell : Cell). if is_open own table pos found cell then Some left else None)
    (taken_again setting tables others own (record { table = table; pos = pos; cell = Some row }) records fit fits differ)
    ∙ e)

pub placed_leaves : (setting : Setting) (tables : Tables) (own : Own) (table : ℕ) (row : List Value) (records : List Record) (at : Option ℕ) (given : One)
    → length row ≡ (shape_of setting.shapes table).width → placed_at setting tables own table row records at ≡ Some given → LeavesWrites setting own given
placed_leaves setting tables own table row records None given w e = record {
  writes = [];
  is = ap (λ (one : One). one.own) (sym (if_some (has_key_at setting (over tables own) table row) (duplicate own records) given e));
  fit = tt;
}
placed_leaves setting tables own table row records (Some pos) given w e = record {
  writes = record { table = table; pos = pos; cell = Some row } ∷ [];
  is = ap (λ (one : One). one.own) (sym (if_some
      (is_open own table pos (has_key_at setting (over tables own) table row) (item_at tables table pos)) (insertion own table row records pos) given e));
  fit = (w, tt);
}
