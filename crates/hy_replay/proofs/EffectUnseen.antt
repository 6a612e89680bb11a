-- One statement over tables that differ unseen, in the words of its law.
use Rattle.std.proofs.Common.{◌≡◌, ℕ, List, [], Option, None, Some, length, arith}
use Rattle.std.specs.Prelude.{IfSome}
use Rattle.hy_value.specs.declared.Value.{Value}
use Rattle.hy_bound.specs.declared.WriteKind.TheVariants as kind
use Rattle.hy_bound.specs.Records.{shape_of}
use Rattle.hy_machine.specs.declared.Setting.{Setting}
use Rattle.hy_machine.specs.Positions.{item_at}
use Rattle.hy_machine.specs.Tables.{Cell, Tables, Own, capacity}
use Rattle.hy_replay.specs.EffectUnseen.{AreOwn, FitBoth, ChangesAgain, InsertsFindAgain, OneAgain}
use Rattle.hy_replay.proofs.Cells.{HasWidth, OwnWidth, FitsOwn, got}
use Rattle.hy_replay.proofs.Inserts.{found_again}
use Rattle.hy_replay.proofs.Runs.{shapes_fit}
use Rattle.hy_replay.proofs.Selects.{KeepsRecords, KeepsReplies}
use Rattle.hy_replay.proofs.Statements.{one_again}
use Rattle.hy_replay.proofs.Truths.{SelectsByRead}
use Rattle.hy_replay.proofs.Views.{BothFit}
use Rattle.hy_replay.proofs.Writes.{written_again}

cell_width : (width : ℕ) (cell : Cell) → IfSome cell (λ (row : List Value). length row ≡ width) → HasWidth width cell
cell_width width None h = tt
cell_width width (Some row) h = h

own_width : (width : ℕ) (item : Option Cell) → IfSome item (λ (cell : Cell). IfSome cell (λ (row : List Value). length row ≡ width)) → OwnWidth width item
own_width width None h = tt
own_width width (Some cell) h = cell_width width cell h

fits_own : (setting : Setting) (own : Own) → AreOwn setting own → FitsOwn setting own
fits_own setting own are = record {
  shape = record {
    lists_are = are.many;
    items_are = λ table below. got (λ (items : List (Option Cell)). length items ≡ capacity setting) own table [] are.long (omega (arith, are.many, below));
  };
  widths = λ table pos. own_width (shape_of setting.shapes table).width (item_at own table pos) (are.wide table pos);
}

both_fit : (setting : Setting) (tables others : Tables) (own : Own) → FitBoth setting tables others own → BothFit setting tables others
both_fit setting tables others own fit = record {
  shapes = shapes_fit setting.shapes fit.shapes;
  are = fit.are;
  others_are = fit.others_are;
  wide = fit.wide;
  others_wide = fit.others_wide;
}

pub changes_again : SelectsByRead → ChangesAgain
changes_again selects setting tables others own number (kind.Set sets) table pred positions writes fit e unseen =
    written_again selects setting tables others own (kind.Set sets) number table sets pred positions writes (both_fit setting tables others own fit)
    (fits_own setting own fit.own_are) e unseen
changes_again selects setting tables others own number kind.Delete table pred positions writes fit e unseen =
    written_again selects setting tables others own kind.Delete number table [] pred positions writes (both_fit setting tables others own fit)
    (fits_own setting own fit.own_are) e unseen

pub inserts_find_again : SelectsByRead → InsertsFindAgain
inserts_find_again selects setting tables others own number table row fit unseen =
    found_again selects setting tables others own own number table row (both_fit setting tables others own fit) (fits_own setting own fit.own_are) unseen

pub once_again : KeepsRecords → KeepsReplies → SelectsByRead → OneAgain
once_again keeps replies selects setting tables others own number statement at given fit e unseen =
    one_again keeps replies selects setting tables others own number statement at given (both_fit setting tables others own fit)
    (fits_own setting own fit.own_are) e unseen
