-- Neighbours of the laws of what a transaction writes: of tables that are not there, of positions without a row.
use Rattle.std.specs.Prelude.{◌≡◌, ℕ, List, [], ◌∷◌, Option, None, Some, if◌then◌else◌}
use Rattle.std.specs.List.{AllByRecursion}
use Rattle.hy_bound.specs.declared.Bound.{Bound}
use Rattle.hy_bound.specs.declared.Reply.TheVariants.{Inserted}
use Rattle.hy_lawful.specs.Rooms.{how_many, has_placed}
use Rattle.hy_lawful.specs.Written.{followed, some_writes}
use Rattle.hy_machine.specs.declared.Setting.{Setting}
use Rattle.hy_machine.specs.Outcomes.{placed_in}
use Rattle.hy_machine.specs.Positions.{item_at}
use Rattle.hy_machine.specs.Tables.{Tables, capacity}
use Rattle.hy_replay.specs.BagLaws.{IsPosition}
use Rattle.hy_replay.specs.Laws.{AreTables}
use Rattle.hy_replay.specs.Ran.{Ran, ran}
use Rattle.hy_cases.specs.Examples.{row_of}

-- of each table, there or not, statements write as many positions without a row as their INSERTs took
abbrev pub MissingTablesCount : Type 0
MissingTablesCount =
    (setting : Setting) (tables : Tables) (statements : List Bound) (took : List (Option ℕ)) (given : Ran) (table : ℕ)
    → AreTables setting tables → AllByRecursion (IsPosition setting) took → ran setting tables statements took ≡ Some given
    → how_many (has_placed tables given.own table) (capacity setting) ≡ placed_in table statements took

-- a position, with a row or without, is written exactly where a statement selects what stands there, and then as all leave it
abbrev pub EveryPositionIsFollowed : Type 0
EveryPositionIsFollowed =
    (setting : Setting) (tables : Tables) (statements : List Bound) (took : List (Option ℕ)) (given : Ran) (table pos : ℕ)
    → AreTables setting tables → ran setting tables statements took ≡ Some given
    → item_at given.own table pos
    ≡ (if some_writes table statements (item_at tables table pos) then Some (followed table statements (item_at tables table pos)) else None)

-- what an INSERT comes to at the first position
abbrev pub placed_first : Ran
placed_first = record { own = (Some (Some (row_of 1)) ∷ []) ∷ []; saved = []; replies = Inserted ∷ []; records = [] }
