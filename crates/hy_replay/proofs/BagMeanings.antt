-- What a statement over tables of positions comes to, told as its meaning over the rows of these tables.
use Rattle.std.proofs.Common.{◌≡◌, ℕ, ◌<◌, List, Some, length}
use Rattle.std.proofs.Common.{ap, sym, ◌∙◌, subst, arith}
use Rattle.std.proofs.Math.ListN.{set}
use Rattle.std.specs.List.Sorted.{IsPermutation}
use Rattle.std.proofs.lemmas.List.{map-set, length-map}
use Rattle.std.proofs.lemmas.List.Sorted.{IsPermutation-refl}
use Rattle.hy_bound.specs.declared.Bound.{Bound}
use Rattle.hy_bound.specs.declared.Reply.{Reply}
use Rattle.hy_bound.specs.declared.Shape.{Shape}
use Rattle.hy_bound.specs.Changes.{present}
use Rattle.hy_plan.specs.Reads.{records_of}
use Rattle.hy_meaning.specs.Statement.{Table, Database, gathered_by, mean}
use Rattle.hy_laws.specs.Bags.{SameBags}
use Rattle.hy_machine.specs.declared.Setting.{Setting}
use Rattle.hy_machine.specs.Positions.{item_at}
use Rattle.hy_machine.specs.Tables.{Cell, Tables, Own, capacity, over}
use Rattle.hy_machine.specs.Writes.{Write, with_writes}
use Rattle.hy_replay.specs.Ran.{One}
use Rattle.hy_replay.specs.TakenBack.{Grows}
use Rattle.hy_replay.proofs.Cells.{writes_grow}
use Rattle.hy_replay.proofs.OverCells.{Alike, HavePositions}
use Rattle.hy_replay.proofs.TakenBack.{alike_shape}
use Rattle.hy_replay.proofs.Presents.{rows_of, set_bags}

-- a statement over the rows of tables has this reply and leaves the rows of tables after it, in some order
pub record Means (shapes : List Shape) (statement : Bound) (before after : Tables) (told : Reply) : Type 0 where
  pub db : Database
  pub given : mean shapes statement (rows_of before) ≡ Some (told, db)
  pub bags : SameBags db (rows_of after)

-- later own writes are own writes and more that is written
pub record Adds (own later : Own) : Type 0 where
  pub writes : List Write
  pub is : later ≡ with_writes own writes

-- what a statement of this number comes to is its meaning over the rows
pub record Steps (setting : Setting) (tables : Tables) (own : Own) (number : ℕ) (statement : Bound) (first : One) : Type 0 where
  pub alike : Alike tables first.own
  pub adds : Adds own first.own
  pub means : Means setting.shapes statement (over tables own) (over tables first.own) first.reply
  pub logs : first.records ≡ records_of setting.shapes number statement (gathered_by statement (rows_of (over tables own)))

-- what is own stays own
pub step_grows : (setting : Setting) (tables : Tables) (own : Own) (number : ℕ) (statement : Bound) (first : One) → Alike tables own
    → HavePositions (capacity setting) tables → Steps setting tables own number statement first → Grows own first.own
step_grows setting tables own number statement first alike h step table pos none =
    writes_grow own step.adds.writes (length tables) (capacity setting) table pos (alike_shape tables own (capacity setting) h alike)
    (ap (λ (later : Own). item_at later table pos) (sym step.adds.is) ∙ none)

-- ---- a table's rows that are replaced

replaced_rows : (before : Tables) (table : ℕ) (cells : List Cell) (rows : Table) → (table < length before → IsPermutation rows (present cells))
    → SameBags (set (rows_of before) table rows) (rows_of (set before table cells))
replaced_rows before table cells rows h =
    subst (SameBags (set (rows_of before) table rows)) (sym (map-set (λ (one : List Cell). present one) before table cells))
    (set_bags (rows_of before) table rows (present cells)
    (λ below. h (omega (arith, below, length-map before (λ (one : List Cell). present one)))))

pub replaced : (shapes : List Shape) (statement : Bound) (before after : Tables) (told : Reply) (table : ℕ) (cells : List Cell) (rows : Table)
    → mean shapes statement (rows_of before) ≡ Some (told, set (rows_of before) table rows) → (table < length before → IsPermutation rows (present cells))
    → after ≡ set before table cells → Means shapes statement before after told
replaced shapes statement before after told table cells rows m h e =
    subst (λ (tables : Tables). Means shapes statement before tables told) (sym e)
    (record { db = set (rows_of before) table rows; given = m; bags = replaced_rows before table cells rows h })

pub same_means : (shapes : List Shape) (statement : Bound) (before : Tables) (told : Reply)
    → mean shapes statement (rows_of before) ≡ Some (told, rows_of before)
    → Means shapes statement before before told
same_means shapes statement before told m = record { db = rows_of before; given = m; bags = λ table. IsPermutation-refl _ }
