-- Neighbours of the laws of what a transaction comes to over tables of positions: an INSERT may take any position, a
-- statement need not fit its table, a selected position may differ.
use Rattle.std.specs.Prelude.{◌≡◌, ℕ, List, [], ◌∷◌, ◌⊎◌, Option, None, Some}
use Rattle.std.specs.List.{All, AllByRecursion}
use Rattle.hy_bound.specs.declared.Bound.{Bound}
use Rattle.hy_bound.specs.declared.Bound.TheVariants.{Insert}
use Rattle.hy_bound.specs.declared.Reply.TheVariants.{Inserted}
use Rattle.hy_bound.specs.declared.Shape.{Shape}
use Rattle.hy_bound.specs.declared.WriteKind.{WriteKind}
use Rattle.hy_bound.specs.Condition.{Condition}
use Rattle.hy_bound.specs.Fits.{FitsShape}
use Rattle.hy_machine.specs.declared.Setting.{Setting}
use Rattle.hy_machine.specs.Positions.{item_at}
use Rattle.hy_machine.specs.Tables.{Tables, over}
use Rattle.hy_machine.specs.Validation.{record_hit}
use Rattle.hy_meaning.specs.Serial.{alone_of}
use Rattle.hy_plan.specs.Reads.{records_of}
use Rattle.hy_replay.specs.BagLaws.{IsPosition, alone_as}
use Rattle.hy_replay.specs.EffectUnseen.{AreOwn, change_of}
use Rattle.hy_replay.specs.Laws.{AreTables, HaveWidths, bags_of}
use Rattle.hy_replay.specs.Ran.{Ran, ran, writes_at}
use Rattle.hy_cases.specs.Examples.{unkeyed}

-- what statements come to over tables of positions is what they give alone, whichever positions INSERTs took
abbrev pub AnyPositionsSuffice : Type 0
AnyPositionsSuffice =
    (setting : Setting) (tables : Tables) (statements : List Bound) (took : List (Option ℕ)) (given : Ran)
    → AreTables setting tables → ran setting tables statements took ≡ Some given
    → alone_of setting.shapes statements (bags_of tables) ≡ alone_as tables given

-- one table with one position and one column, and no row there
abbrev pub one_column : Setting
one_column = record { chunks = 1; rows = 1; shapes = unkeyed; first = [] ∷ []; programs = [] }

abbrev pub vacant : Tables
vacant = (None ∷ []) ∷ []

-- what an INSERT comes to that takes a position which the table doesn't have: its row is nowhere
abbrev pub placed_nowhere : Ran
placed_nowhere = record { own = (None ∷ []) ∷ []; saved = []; replies = Inserted ∷ []; records = [] }

-- what statements come to is what they give alone, over tables of whatever number and length
abbrev pub AnyTablesSuffice : Type 0
AnyTablesSuffice =
    (setting : Setting) (tables : Tables) (statements : List Bound) (took : List (Option ℕ)) (given : Ran)
    → AllByRecursion (IsPosition setting) took → ran setting tables statements took ≡ Some given
    → alone_of setting.shapes statements (bags_of tables) ≡ alone_as tables given

-- no tables, which would have one position each
abbrev pub no_tables : Setting
no_tables = record { chunks = 1; rows = 1; shapes = []; first = []; programs = [] }

-- what an INSERT into one of them comes to: it is answered, and writes nothing
abbrev pub placed_in_none : Ran
placed_in_none = record { own = []; saved = []; replies = Inserted ∷ []; records = [] }

-- rows stay as wide as their tables, whatever rows are inserted
abbrev pub AnyRowsKeepWidths : Type 0
AnyRowsKeepWidths =
    (setting : Setting) (tables : Tables) (statements : List Bound) (took : List (Option ℕ)) (given : Ran)
    → AreTables setting tables → HaveWidths setting.shapes tables
    → ran setting tables statements took ≡ Some given → HaveWidths setting.shapes (over tables given.own)

-- what is written is as wide as its tables, whatever rows are inserted
abbrev pub AnyRowsLeaveOwn : Type 0
AnyRowsLeaveOwn =
    (setting : Setting) (tables : Tables) (statements : List Bound) (took : List (Option ℕ)) (given : Ran)
    → AreTables setting tables → HaveWidths setting.shapes tables
    → ran setting tables statements took ≡ Some given → AreOwn setting given.own

-- an INSERT of a row without columns, and what it comes to at the first position
abbrev pub inserting_narrow : Bound
inserting_narrow = Insert 0 []

abbrev pub placed_narrow : Ran
placed_narrow = record { own = (Some (Some []) ∷ []) ∷ []; saved = []; replies = Inserted ∷ []; records = [] }

-- over tables that differ only by changes that hit no record of it, at whatever positions, an UPDATE or a DELETE writes the
-- same or is refused alike
abbrev pub SelectedPositionsMayDiffer : Type 0
SelectedPositionsMayDiffer =
    (shapes : List Shape) (tables others : Tables) (number : ℕ) (kind : WriteKind) (table : ℕ) (pred : Condition) (positions : List ℕ)
    → All FitsShape shapes → HaveWidths shapes tables → HaveWidths shapes others
    → ((pos : ℕ) → (item_at tables table pos ≡ item_at others table pos)
    ⊎ (record_hit (records_of shapes number (change_of kind table pred) []) table (item_at tables table pos) (item_at others table pos) ≡ None))
    → writes_at kind pred others table positions ≡ writes_at kind pred tables table positions
