-- What the statements of a transaction come to over other tables, and as bags of rows.
use Rattle.std.specs.Prelude.{◌≡◌, ℕ, List, None, Some, Option, ◌⊎◌, length, map}
use Rattle.std.specs.List.{All, AllByRecursion}
use Rattle.hy_value.specs.Sorted.{sorted}
use Rattle.hy_bound.specs.declared.Bound.{Bound}
use Rattle.hy_bound.specs.declared.Record.{Record}
use Rattle.hy_bound.specs.declared.Shape.{Shape}
use Rattle.hy_bound.specs.Agreement.{HaveWidth}
use Rattle.hy_bound.specs.Changes.{present}
use Rattle.hy_bound.specs.Fits.{FitsShape, FitsStatement}
use Rattle.hy_bound.specs.Records.{shape_of}
use Rattle.hy_meaning.specs.Statement.{Database}
use Rattle.hy_machine.specs.declared.Setting.{Setting}
use Rattle.hy_machine.specs.Positions.{item_at}
use Rattle.hy_machine.specs.Tables.{Cell, Tables, Own, capacity, over}
use Rattle.hy_machine.specs.Turns.{rows_seen}
use Rattle.hy_machine.specs.Validation.{record_hit}
use Rattle.hy_replay.specs.Ran.{Ran, ran}

-- tables of these settings: one for each of the first rows, each with as many positions as a table has
pub record AreTables (setting : Setting) (tables : Tables) : Type 0 where
  pub many : length tables ≡ length setting.first
  pub long : AllByRecursion (λ (cells : List Cell). length cells ≡ capacity setting) tables

-- a position where tables differ is not one's own, and no record is hit by the change from one row to the other
pub record IsUnseenAt (own : Own) (records : List Record) (table pos : ℕ) (before after : Cell) : Type 0 where
  pub apart : item_at own table pos ≡ None
  pub missed : record_hit records table before after ≡ None

-- tables differ only where own writes and records don't show it
abbrev pub DifferUnseen : Tables → Tables → Own → List Record → Type 0
DifferUnseen tables others own records = (table pos : ℕ)
    → (item_at tables table pos ≡ item_at others table pos) ⊎ IsUnseenAt own records table pos (item_at tables table pos) (item_at others table pos)

-- the rows of tables, each table's ascending
abbrev pub bags_of : Tables → Database
bags_of tables = map (λ (cells : List Cell). sorted (present cells)) tables

-- ---- what is unseen leaves a run

-- the rows of tables have the widths of their tables
abbrev pub HaveWidths : List Shape → Tables → Type 0
HaveWidths shapes tables = (table : ℕ) → HaveWidth (shape_of shapes table).width (rows_seen tables table)

-- over tables that differ only where its own writes and its records don't show it, a transaction's statements come to the
-- same: the same replies, own writes and records
abbrev pub RunsAgain : Type 0
RunsAgain =
    (setting : Setting) (tables others : Tables) (statements : List Bound) (took : List (Option ℕ)) (given : Ran)
    → All FitsShape setting.shapes → All (FitsStatement setting.shapes) statements
    → AreTables setting tables → AreTables setting others → HaveWidths setting.shapes tables → HaveWidths setting.shapes others
    → ran setting tables statements took ≡ Some given → DifferUnseen tables others given.own given.records
    → ran setting others statements took ≡ Some given

-- what statements write leaves the rows of tables with the widths of theirs
abbrev pub RunsKeepWidths : Type 0
RunsKeepWidths =
    (setting : Setting) (tables : Tables) (statements : List Bound) (took : List (Option ℕ)) (given : Ran)
    → All (FitsStatement setting.shapes) statements → AreTables setting tables → HaveWidths setting.shapes tables
    → ran setting tables statements took ≡ Some given → HaveWidths setting.shapes (over tables given.own)
