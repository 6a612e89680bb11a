-- The own writes of a transaction's statements are own writes in tables of these settings.
use Rattle.std.proofs.Common.{◌≡◌, ℕ, zero, suc, ◌<◌, List, [], ◌∷◌, Option, None, Some, length, get_or, arith}
use Rattle.std.specs.Prelude.{IfSome}
use Rattle.std.specs.List.{AllByRecursion}
use Rattle.hy_value.specs.declared.Value.{Value}
use Rattle.hy_bound.specs.Records.{shape_of}
use Rattle.hy_machine.specs.declared.Setting.{Setting}
use Rattle.hy_machine.specs.Positions.{item_at}
use Rattle.hy_machine.specs.Tables.{Cell, Own, capacity}
use Rattle.hy_replay.specs.EffectUnseen.{AreOwn, RunsLeaveOwn}
use Rattle.hy_replay.proofs.Cells.{HasWidth, OwnWidth, FitsOwn}
use Rattle.hy_replay.proofs.Runs.{own_fits}

-- what holds of each element by its number holds of each
each_of : {X : Type 0} (P : X → Type 0) (d : X) (xs : List X) → ((i : ℕ) → i < length xs → P (get_or xs i d)) → AllByRecursion P xs
each_of P d [] h = tt
each_of P d (x ∷ xs) h = (h zero (omega arith), each_of P d xs (λ i below. h (suc i) (omega (arith, below))))

cell_is_wide : (width : ℕ) (cell : Cell) → HasWidth width cell → IfSome cell (λ (row : List Value). length row ≡ width)
cell_is_wide width None h = tt
cell_is_wide width (Some row) h = h

own_is_wide : (width : ℕ) (item : Option Cell) → OwnWidth width item
    → IfSome item (λ (cell : Cell). IfSome cell (λ (row : List Value). length row ≡ width))
own_is_wide width None h = tt
own_is_wide width (Some cell) h = cell_is_wide width cell h

are_own : (setting : Setting) (own : Own) → FitsOwn setting own → AreOwn setting own
are_own setting own fits = record {
  many = fits.shape.lists_are;
  long = each_of (λ (items : List (Option Cell)). length items ≡ capacity setting) [] own
      (λ table below. fits.shape.items_are table (omega (arith, fits.shape.lists_are, below)));
  wide = λ table pos. own_is_wide (shape_of setting.shapes table).width (item_at own table pos) (fits.widths table pos);
}

pub runs_leave_own : RunsLeaveOwn
runs_leave_own setting tables statements took given stand are wide e =
    are_own setting given.own (own_fits setting tables statements took given stand are wide e)
