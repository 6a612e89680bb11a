-- An INSERT into a table that is not there, and one whose row no statement selects.
use Rattle.std.proofs.Common.{◌≡◌, ℕ, [], ◌∷◌, Option, Some, None, refl, arith}
use Rattle.hy_machine.specs.Tables.{Cell}
use Rattle.hy_cases.specs.Bags.{inserting_first}
use Rattle.hy_cases.specs.Examples.{row_of}
use Rattle.hy_cases.specs.Followed.{MissingTablesCount, EveryPositionIsFollowed, placed_first}
use Rattle.hy_cases.specs.Positions.{one_column, vacant, no_tables, placed_in_none}
use Rattle.hy_cases.proofs.Positions.{vacant_are_tables}

pub missing_tables_fail : MissingTablesCount → ⊥
missing_tables_fail law =
    let same : ◌≡◌ {A = ℕ} 0 1 = law no_tables [] (inserting_first ∷ []) (Some 0 ∷ []) placed_in_none 0 (record { many = refl; long = tt })
    (omega arith, tt) refl in absurd cc

pub every_position_fails : EveryPositionIsFollowed → ⊥
every_position_fails law =
    let same : ◌≡◌ {A = Option Cell} (Some (Some (row_of 1))) None
    = law one_column vacant (inserting_first ∷ []) (Some 0 ∷ []) placed_first 0 0 vacant_are_tables refl in absurd cc
