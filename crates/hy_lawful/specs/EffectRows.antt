-- What the statements of a transaction make of the tables of its start: of the rows there, and of the positions without.
use Rattle.std.specs.Prelude.{◌≡◌, ℕ, ◌<◌, List, Option, None, Some, IfSome, length, if◌then◌else◌}
use Rattle.std.specs.List.{AllByRecursion}
use Rattle.hy_bound.specs.declared.Bound.{Bound}
use Rattle.hy_machine.specs.declared.Setting.{Setting}
use Rattle.hy_machine.specs.Outcomes.{placed_in}
use Rattle.hy_machine.specs.Positions.{item_at}
use Rattle.hy_machine.specs.Tables.{Tables, capacity}
use Rattle.hy_replay.specs.BagLaws.{IsPosition}
use Rattle.hy_replay.specs.Laws.{AreTables}
use Rattle.hy_replay.specs.Ran.{Ran, ran}
use Rattle.hy_lawful.specs.Rooms.{how_many, has_placed}
use Rattle.hy_lawful.specs.Written.{followed, some_writes}

-- of each table, statements write as many positions without a row as their INSERTs took
abbrev pub InsertsCountPositions : Type 0
InsertsCountPositions =
    (setting : Setting) (tables : Tables) (statements : List Bound) (took : List (Option ℕ)) (given : Ran) (table : ℕ)
    → AreTables setting tables → table < length setting.first → AllByRecursion (IsPosition setting) took
    → ran setting tables statements took ≡ Some given
    → how_many (has_placed tables given.own table) (capacity setting) ≡ placed_in table statements took

-- a row is written exactly where one of the statements selects it, as those before it left it, and then it is written as
-- all of them leave it
abbrev pub RowsAreFollowed : Type 0
RowsAreFollowed =
    (setting : Setting) (tables : Tables) (statements : List Bound) (took : List (Option ℕ)) (given : Ran) (table pos : ℕ)
    → AreTables setting tables → ran setting tables statements took ≡ Some given
    → IfSome (item_at tables table pos) (λ row. item_at given.own table pos
    ≡ (if some_writes table statements (Some row) then Some (followed table statements (Some row)) else None))
