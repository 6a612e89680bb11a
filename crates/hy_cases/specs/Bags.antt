-- Neighbours of the law that only the bag of rows matters: rows as a set, and databases of which one has more tables.
use Rattle.std.specs.Prelude.{◌≡◌, ℕ, List, [], ◌∷◌, Bool, Some}
use Rattle.std.specs.List.{list_any}
use Rattle.std.specs.Option.{option_map}
use Rattle.std.specs.Ordering.{is_eq}
use Rattle.hy_value.specs.declared.Value.{Value}
use Rattle.hy_value.specs.Order.{row_cmp}
use Rattle.hy_bound.specs.declared.Bound.{Bound}
use Rattle.hy_bound.specs.declared.Bound.TheVariants.{Insert}
use Rattle.hy_bound.specs.declared.Shape.{Shape}
use Rattle.hy_meaning.specs.Statement.{Table, Database, rows_in, mean}
use Rattle.hy_laws.specs.Bags.{SameBags}
use Rattle.hy_cases.specs.Examples.{row_of}

-- a row is one of these
abbrev pub is_one_of_rows : Table → List Value → Bool
is_one_of_rows rows row = list_any (λ other. is_eq (row_cmp row other)) rows

-- two databases have the same rows, table by table, however often each
abbrev pub SameSets : Database → Database → Type 0
SameSets db others = (table : ℕ) (row : List Value) → is_one_of_rows (rows_in db table) row ≡ is_one_of_rows (rows_in others table) row

-- a statement has the same reply over databases with the same sets of rows, or stops in both
abbrev pub SetsSuffice : Type 0
SetsSuffice =
    (shapes : List Shape) (statement : Bound) (db others : Database) → SameSets db others
    → option_map (λ given. given.0) (mean shapes statement db) ≡ option_map (λ given. given.0) (mean shapes statement others)

-- a database with a row once, and one with the same row twice
abbrev pub once : Database
once = (row_of 1 ∷ []) ∷ []

abbrev pub twice : Database
twice = (row_of 1 ∷ row_of 1 ∷ []) ∷ []

-- over databases with the same bags of rows a statement leaves the same bags, however many tables each has
abbrev pub MissingTablesSuffice : Type 0
MissingTablesSuffice =
    (shapes : List Shape) (statement : Bound) (db others : Database) → SameBags db others → (after afters : Database)
    → option_map (λ given. given.1) (mean shapes statement db) ≡ Some after → option_map (λ given. given.1) (mean shapes statement others) ≡ Some afters
    → SameBags after afters

-- a row is inserted into the first table
abbrev pub inserting_first : Bound
inserting_first = Insert 0 (row_of 1)
