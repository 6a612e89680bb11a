-- An INSERT at a position that is not there, one of a row without columns, an UPDATE of rows that differ unread.
use Rattle.std.proofs.Common.{◌≡◌, ℕ, zero, suc, List, [], ◌∷◌, length, Some, None, ◌⊎◌, inl, inr, refl, ap, arith}
use Rattle.std.specs.Prelude.{Result, Ok, Err, slice_index_or}
use Rattle.hy_value.specs.declared.Value.{Value}
use Rattle.hy_value.specs.declared.Value.TheVariants.{Null}
use Rattle.hy_bound.specs.Condition.{True}
use Rattle.hy_bound.specs.Fits.{FitsShape}
use Rattle.hy_bound.specs.declared.Ending.{Ending}
use Rattle.hy_machine.specs.Writes.{Write}
use Rattle.hy_machine.specs.Positions.{item_at}
use Rattle.hy_machine.specs.Validation.{record_hit}
use Rattle.hy_meaning.specs.Serial.{Alone}
use Rattle.hy_plan.specs.ColumnSets.{bits_where, columns_where, named_columns}
use Rattle.hy_plan.specs.Reads.{records_of}
use Rattle.hy_replay.specs.EffectUnseen.{change_of}
use Rattle.hy_replay.specs.Laws.{AreTables, HaveWidths}
use Rattle.hy_cases.specs.Examples.{number}
use Rattle.hy_cases.specs.Positions.{AnyPositionsSuffice, AnyTablesSuffice, AnyRowsKeepWidths, AnyRowsLeaveOwn, SelectedPositionsMayDiffer}
use Rattle.hy_cases.specs.Positions.{one_column, vacant, no_tables, inserting_narrow, placed_nowhere, placed_in_none, placed_narrow}
use Rattle.hy_cases.specs.Bags.{inserting_first}
use Rattle.hy_cases.specs.Runs.{one_position, standing}
use Rattle.hy_cases.specs.Visits.{to_two}
use Rattle.hy_cases.proofs.Runs.{have_widths, only_one, second, shape_fits}

pub vacant_are_tables : AreTables one_column vacant
vacant_are_tables = record { many = refl; long = (refl, tt) }

vacant_wide : HaveWidths one_column.shapes vacant
vacant_wide zero = tt
vacant_wide (suc table) = tt

-- how many rows the first table has in the end
abbrev rows_left : Alone → ℕ
rows_left alone = length (slice_index_or alone.database 0 [])

pub any_positions_fail : AnyPositionsSuffice → ⊥
any_positions_fail law =
    let same : ◌≡◌ {A = ℕ} 1 0 = ap rows_left (law one_column vacant (inserting_first ∷ []) (Some 1 ∷ []) placed_nowhere vacant_are_tables refl) in absurd cc

pub any_tables_fail : AnyTablesSuffice → ⊥
any_tables_fail law =
    let same : ◌≡◌ {A = ℕ} 1 0 = ap rows_left (law no_tables vacant (inserting_first ∷ []) (Some 0 ∷ []) placed_in_none (omega arith, tt) refl) in absurd cc

pub any_rows_fail : AnyRowsKeepWidths → ⊥
any_rows_fail law =
    let same : ◌≡◌ {A = ℕ} 0 1
    = (law one_column vacant (inserting_narrow ∷ []) (Some 0 ∷ []) placed_narrow vacant_are_tables vacant_wide refl 0).0 in absurd cc

pub any_own_fail : AnyRowsLeaveOwn → ⊥
any_own_fail law =
    let same : ◌≡◌ {A = ℕ} 0 1
    = (law one_column vacant (inserting_narrow ∷ []) (Some 0 ∷ []) placed_narrow vacant_are_tables vacant_wide refl).wide 0 0 in absurd cc

-- the second value of the first row that is written
abbrev second_written : Result (List Write) Ending → Value
second_written (Err cause) = Null
second_written (Ok []) = Null
second_written (Ok (write ∷ writes)) = second (Some write.cell)

-- the rows of two such tables differ in a column that the record doesn't have
unread_missed : (pos : ℕ)
    → (item_at (standing Null) 0 pos ≡ item_at (standing (number 1)) 0 pos)
    ⊎ (record_hit (records_of one_position.shapes 1 (change_of to_two 0 True) []) 0
    (item_at (standing Null) 0 pos) (item_at (standing (number 1)) 0 pos) ≡ None)
unfolding named_columns columns_where bits_where
unread_missed zero = inr refl
unread_missed (suc pos) = inl refl

pub selected_positions_fail : SelectedPositionsMayDiffer → ⊥
selected_positions_fail law =
    let same : number 1 ≡ Null = ap second_written
    (law one_position.shapes (standing Null) (standing (number 1)) 1 to_two 0 True (0 ∷ [])
    (only_one FitsShape (record { width = 2; key = None }) shape_fits) (have_widths Null) (have_widths (number 1)) unread_missed) in absurd cc
