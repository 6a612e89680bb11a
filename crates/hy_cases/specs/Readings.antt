-- Neighbours of the laws of what is read: keys that are no columns, more columns than a set has, the record of another key.
use Rattle.std.specs.Prelude.{◌≡◌, ℕ, List, [], ◌∷◌, ◌++◌, None, Some, replicate}
use Rattle.std.specs.List.{list_any}
use Rattle.hy_value.specs.declared.Cmp.TheVariants.{Eq}
use Rattle.hy_value.specs.declared.Value.{Value}
use Rattle.hy_value.specs.declared.Value.TheVariants.{Null}
use Rattle.hy_bound.specs.declared.predicate.Side.TheVariants.{Literal}
use Rattle.hy_bound.specs.declared.Items.{Items}
use Rattle.hy_bound.specs.declared.On.{On}
use Rattle.hy_bound.specs.declared.Shape.{Shape}
use Rattle.hy_bound.specs.Agreement.{FitTables, HaveWidth}
use Rattle.hy_bound.specs.Condition.{Condition, Compare}
use Rattle.hy_bound.specs.Records.{shape_of}
use Rattle.hy_meaning.specs.Statement.{Table, answer_of, has_key_of}
use Rattle.hy_plan.specs.Reads.{key_read, read_rows, rows_read_of, select_reads_of}
use Rattle.hy_cases.specs.Examples.{number, row_of}

-- the answer to a SELECT depends only on what it reads, also where a key is no column of its table
abbrev pub AnyKeysSuffice : Type 0
AnyKeysSuffice =
    (shapes : List Shape) (tables : List ℕ) (ons : List On) (pred : Condition) (items : Items) (gathered : List Table) → FitTables shapes tables gathered
    → answer_of ons pred items gathered ≡ answer_of ons pred items (read_rows (select_reads_of shapes tables ons pred items gathered) gathered)

-- three tables of one column each; the key of the second is a column that it doesn't have
abbrev pub three_tables : List Shape
three_tables = record { width = 1; key = None } ∷ record { width = 1; key = Some 1 } ∷ record { width = 1; key = None } ∷ []

-- ON makes the third column of the joined row equal to the first one and to the second
abbrev pub on_third : List On
on_third = record { left = 2; right = 0 } ∷ record { left = 2; right = 1 } ∷ []

-- the same row in each table
abbrev pub three_rows : List Table
three_rows = (row_of 1 ∷ []) ∷ (row_of 1 ∷ []) ∷ (row_of 1 ∷ []) ∷ []

-- the rows gathered for these tables have their columns, however many
abbrev pub HaveTheirColumns : List Shape → List ℕ → List Table → Type 0
HaveTheirColumns shapes [] [] = Unit {0}
HaveTheirColumns shapes [] (rows ∷ gathered) = ⊥
HaveTheirColumns shapes (table ∷ tables) [] = ⊥
HaveTheirColumns shapes (table ∷ tables) (rows ∷ gathered) = HaveWidth (shape_of shapes table).width rows × HaveTheirColumns shapes tables gathered

-- what is read is read again, however many columns tables have
abbrev pub ManyColumnsAreReadAgain : Type 0
ManyColumnsAreReadAgain =
    (shapes : List Shape) (tables : List ℕ) (ons : List On) (pred : Condition) (items : Items) (gathered : List Table)
    → HaveTheirColumns shapes tables gathered
    → select_reads_of shapes tables ons pred items (read_rows (select_reads_of shapes tables ons pred items gathered) gathered)
    ≡ select_reads_of shapes tables ons pred items gathered

-- a table of 33 columns, and one that is looked up by its key
abbrev pub wide_and_keyed : List Shape
wide_and_keyed = record { width = 33; key = None } ∷ record { width = 1; key = Some 0 } ∷ []

-- ON makes the key equal to the first column of the joined row
abbrev pub on_key : List On
on_key = record { left = 33; right = 0 } ∷ []

-- that the last of the 33 columns is 1
abbrev pub last_is_one : Condition
last_is_one = Compare 32 Eq (Literal (number 1))

-- a row of them with 1 in the first and in the last
abbrev pub wide_rows : List Table
wide_rows = ((number 1 ∷ replicate 31 Null ++ number 1 ∷ []) ∷ []) ∷ (row_of 1 ∷ []) ∷ []

-- whether an INSERT finds its key depends only on the rows that have the key of some other row
abbrev pub AnotherKeySuffices : Type 0
AnotherKeySuffices =
    (shape : Shape) (table key : ℕ) (new other : List Value) (rows others : Table)
    → rows_read_of (key_read shape table other key) rows ≡ rows_read_of (key_read shape table other key) others
    → list_any (has_key_of new (Some key)) rows ≡ list_any (has_key_of new (Some key)) others
