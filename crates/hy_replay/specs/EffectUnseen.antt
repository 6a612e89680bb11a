-- What one statement comes to over other tables, which differ only where its own writes and records don't show it.
use Rattle.std.specs.Prelude.{◌≡◌, ℕ, List, [], ◌⊎◌, false, Option, None, Some, IfSome, Ok, length}
use Rattle.std.specs.List.{All, AllByRecursion}
use Rattle.hy_value.specs.declared.Value.{Value}
use Rattle.hy_bound.specs.declared.Bound.{Bound}
use Rattle.hy_bound.specs.declared.Bound.TheVariants.{Insert, Update, Delete}
use Rattle.hy_bound.specs.declared.Record.{Record}
use Rattle.hy_bound.specs.declared.Shape.{Shape}
use Rattle.hy_bound.specs.declared.WriteKind.{WriteKind}
use Rattle.hy_bound.specs.declared.WriteKind.TheVariants as kind
use Rattle.hy_bound.specs.Condition.{Condition}
use Rattle.hy_bound.specs.Fits.{FitsShape, FitsStatement}
use Rattle.hy_bound.specs.Predicate.{truth_at}
use Rattle.hy_bound.specs.Records.{shape_of}
use Rattle.hy_plan.specs.Reads.{records_of}
use Rattle.hy_machine.specs.declared.Setting.{Setting}
use Rattle.hy_machine.specs.Writes.{Write, with_writes}
use Rattle.hy_machine.specs.Positions.{item_at}
use Rattle.hy_machine.specs.Tables.{Cell, Tables, Own, capacity, over}
use Rattle.hy_machine.specs.Validation.{record_hit}
use Rattle.hy_replay.specs.Laws.{AreTables, HaveWidths, DifferUnseen}
use Rattle.hy_replay.specs.Ran.{One, Ran, has_key_at, one, ran, writes_at}

-- the UPDATE or the DELETE of this kind, of the rows of a table of which a condition is true
abbrev pub change_of : WriteKind → ℕ → Condition → Bound
change_of (kind.Set sets) table pred = Update table sets pred
change_of kind.Delete table pred = Delete table pred

-- own writes in tables of these settings: a list for each table, with an item for each position, and rows as wide as
-- their tables
pub record AreOwn (setting : Setting) (own : Own) : Type 0 where
  pub many : length own ≡ length setting.first
  pub long : AllByRecursion (λ (items : List (Option Cell)). length items ≡ capacity setting) own
  pub wide : (table pos : ℕ) → IfSome (item_at own table pos)
      (λ (cell : Cell). IfSome cell (λ (row : List Value). length row ≡ (shape_of setting.shapes table).width))

-- what statements write of tables whose rows are as wide as their tables is such
abbrev pub RunsLeaveOwn : Type 0
RunsLeaveOwn =
    (setting : Setting) (tables : Tables) (statements : List Bound) (took : List (Option ℕ)) (given : Ran)
    → All (FitsStatement setting.shapes) statements → AreTables setting tables → HaveWidths setting.shapes tables
    → ran setting tables statements took ≡ Some given → AreOwn setting given.own

-- two lists of tables of these settings, and own writes in them
pub record FitBoth (setting : Setting) (tables others : Tables) (own : Own) : Type 0 where
  pub shapes : All FitsShape setting.shapes
  pub are : AreTables setting tables
  pub others_are : AreTables setting others
  pub wide : HaveWidths setting.shapes tables
  pub others_wide : HaveWidths setting.shapes others
  pub own_are : AreOwn setting own

-- an UPDATE or a DELETE selects the same positions and makes the same cells of them
abbrev pub ChangesAgain : Type 0
ChangesAgain =
    (setting : Setting) (tables others : Tables) (own : Own) (number : ℕ) (kind : WriteKind) (table : ℕ) (pred : Condition)
    (positions : List ℕ) (writes : List Write) → FitBoth setting tables others own
    → writes_at kind pred (over tables own) table positions ≡ Ok writes
    → DifferUnseen tables others (with_writes own writes) (records_of setting.shapes number (change_of kind table pred) [])
    → writes_at kind pred (over others own) table positions ≡ Ok writes

-- a row at a position isn't selected, and no record is hit by the change from it to the other one
pub record IsUnselectedAt (pred : Condition) (records : List Record) (table : ℕ) (before after : Cell) : Type 0 where
  pub passed : truth_at pred before ≡ false
  pub missed : record_hit records table before after ≡ None

-- over tables that differ only at positions that it doesn't select, and there by changes that hit no record of it, an
-- UPDATE or a DELETE writes the same or is refused alike
abbrev pub ResultsAgain : Type 0
ResultsAgain =
    (shapes : List Shape) (tables others : Tables) (number : ℕ) (kind : WriteKind) (table : ℕ) (pred : Condition) (positions : List ℕ)
    → All FitsShape shapes → HaveWidths shapes tables → HaveWidths shapes others
    → ((pos : ℕ) → (item_at tables table pos ≡ item_at others table pos)
    ⊎ IsUnselectedAt pred (records_of shapes number (change_of kind table pred) []) table (item_at tables table pos) (item_at others table pos))
    → writes_at kind pred others table positions ≡ writes_at kind pred tables table positions

-- an INSERT finds its key in both, or in neither
abbrev pub InsertsFindAgain : Type 0
InsertsFindAgain =
    (setting : Setting) (tables others : Tables) (own : Own) (number table : ℕ) (row : List Value) → FitBoth setting tables others own
    → DifferUnseen tables others own (records_of setting.shapes number (Insert table row) [])
    → has_key_at setting (over others own) table row ≡ has_key_at setting (over tables own) table row

-- every statement comes to the same own writes, the same reply and the same records
abbrev pub OneAgain : Type 0
OneAgain =
    (setting : Setting) (tables others : Tables) (own : Own) (number : ℕ) (statement : Bound) (at : Option ℕ) (given : One)
    → FitBoth setting tables others own → one setting tables own number statement at ≡ Some given
    → DifferUnseen tables others given.own given.records → one setting others own number statement at ≡ Some given
