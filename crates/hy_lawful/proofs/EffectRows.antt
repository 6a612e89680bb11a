-- What is one's own at a position where a row stood: that row followed through the statements, where one selects it.
use Rattle.std.proofs.Common.{◌≡◌, ℕ, List, [], Option, None, Some, Bool, true, false, is_some, refl, ap}
use Rattle.std.specs.Prelude.{IfSome, if◌then◌else◌}
use Rattle.hy_value.specs.declared.Value.{Value}
use Rattle.hy_bound.specs.declared.Bound.{Bound}
use Rattle.hy_machine.specs.declared.Setting.{Setting}
use Rattle.hy_machine.specs.Positions.{item_at}
use Rattle.hy_machine.specs.Tables.{Cell, Tables, covered}
use Rattle.hy_machine.specs.Writes.{blank_own}
use Rattle.hy_replay.specs.Laws.{AreTables}
use Rattle.hy_replay.specs.Ran.{Ran, ran}
use Rattle.hy_lawful.specs.EffectRows.{RowsAreFollowed}
use Rattle.hy_lawful.specs.Written.{followed, some_writes}
use Rattle.hy_lawful.proofs.WroteEnds.{row_at, starts_so}
use Rattle.hy_lawful.proofs.WroteRows.{IsCellAt, StandsSo, all_follow}

-- what is own, by whether something is and by what is seen there
own_is : (row : List Value) (item : Option Cell) (cell : Cell) (wrote : Bool) → is_some item ≡ wrote
    → covered (λ (one : Cell). one) (Some row) item ≡ cell → item ≡ (if wrote then Some cell else None)
own_is row None cell true w c = absurd cc
own_is row None cell false w c = refl
own_is row (Some one) cell true w c = ap Some c
own_is row (Some one) cell false w c = absurd cc

row_followed : (setting : Setting) (tables : Tables) (statements : List Bound) (took : List (Option ℕ)) (given : Ran) (table pos : ℕ)
    → AreTables setting tables → ran setting tables statements took ≡ Some given → (cell : Cell) → item_at tables table pos ≡ cell
    → IfSome cell (λ row. item_at given.own table pos
    ≡ (if some_writes table statements (Some row) then Some (followed table statements (Some row)) else None))
row_followed setting tables statements took given table pos are e None is = tt
row_followed setting tables statements took given table pos are e (Some row) is =
    let at : IsCellAt setting tables table pos (Some row) = row_at setting tables table pos row are is in
    let stands : StandsSo setting given.own table pos (Some row) (followed table statements (Some row)) (some_writes table statements (Some row)) =
    all_follow setting tables (blank_own setting) [] 1 statements took given table pos row [] (Some row) false at e
    (record { stands = starts_so setting tables table pos row at; was = tt }) in
    own_is row (item_at given.own table pos) (followed table statements (Some row)) (some_writes table statements (Some row)) stands.wrote_is stands.cell_is

pub rows_are_followed : RowsAreFollowed
rows_are_followed setting tables statements took given table pos are e =
    row_followed setting tables statements took given table pos are e (item_at tables table pos) refl
