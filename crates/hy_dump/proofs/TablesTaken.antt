-- A table's line is taken by a script that has the tables before it: it has one table more.
use Rattle.std.specs.Prelude.{◌==◌, ◌||◌, count_by, is_some, nat_le, nat_lt, Option}
use Rattle.std.specs.List.{slice_range, AllByRecursion}
use Rattle.std.proofs.Common.{◌≡◌, ℕ, suc, ◌+◌, ◌<◌, ◌≤◌, Bool, true, false, cond, List, [], ◌∷◌, ◌++◌, length, map, Some, None, refl, sym, ap, ◌∙◌, arith}
use Rattle.std.proofs.lemmas.Bool.{eqb-true}
use Rattle.std.proofs.lemmas.List.Sums.{sum_by-cons}
use Rattle.hy_token.specs.declared.Span.{Span}
use Rattle.hy_ast.specs.declared.ColumnDef.{ColumnDef}
use Rattle.hy_ast.specs.Trees as tree
use Rattle.hy_schema.specs.declared.Column.{Column}
use Rattle.hy_schema.specs.declared.TableDef.{TableDef}
use Rattle.hy_schema.specs.Names.{column_names, table_number}
use Rattle.hy_value.specs.declared.Kind.{Kind}
use Rattle.hy_value.specs.TextBytes.{text_of}
use Rattle.hy_bind.specs.Literals.{text_of_span}
use Rattle.hy_bind.specs.Statements.{repeats}
use Rattle.hy_script.specs.declared.Options.{Options}
use Rattle.hy_script.specs.declared.codes.Code.{Code}
use Rattle.hy_script.specs.declared.codes.Code.TheVariants as code
use Rattle.hy_script.specs.declared.sofar.Section.TheVariants.{Defining}
use Rattle.hy_script.specs.declared.sofar.SoFar.{SoFar}
use Rattle.hy_script.specs.declared.stocks.Stock.{Stock}
use Rattle.hy_script.specs.Codes.{code_if_so, first_of_two}
use Rattle.hy_script.specs.Growing.{after, column_def, key_from, table_def}
use Rattle.hy_script.specs.Refusals.{is_key as is_marked, name_in, refusal_in}
use Rattle.hy_script.specs.Stocks.{no_rows}
use Rattle.hy_limits.specs.declared.TheConstants.{MOST_COLUMNS, MOST_TABLES}
use Rattle.hy_dump.specs.Dump.{is_key}
use Rattle.hy_dump.specs.Writable.{IsName}
use Rattle.hy_dump.proofs.Lists.{AreFrom}
use Rattle.hy_dump.proofs.ColumnsRead.{IsColumn}
use Rattle.hy_dump.proofs.Names.{name_stays}

-- a script that has only tables and first rows so far
abbrev pub defining : List TableDef → List Stock → SoFar
defining catalog stocks = record { catalog = catalog; stocks = stocks; names = []; sessions = []; section = Defining; schedule = [] }

-- ---- columns

-- columns of trees, the first of which has this number
abbrev pub AreColumns : List ℕ → Option ℕ → ℕ → List Column → List ColumnDef → Type 0
AreColumns bytes key number columns defs = AreFrom (λ number. IsColumn bytes (is_key key number)) number columns defs

columns_are : (bytes : List ℕ) (key : Option ℕ) (number : ℕ) (columns : List Column) (defs : List ColumnDef) → AreColumns bytes key number columns defs
    → AllByRecursion (λ (column : Column). IsName column.name) columns → map (column_def bytes) defs ≡ columns
columns_are bytes key number [] [] are names = refl
columns_are bytes key number [] (def ∷ defs) are names = absurd are
columns_are bytes key number (column ∷ columns) [] are names = absurd are
columns_are bytes key number (column ∷ columns) (def ∷ defs) are names =
    let said : text_of (slice_range bytes def.name.start def.name.end) ≡ column.name = ap text_of are.0.name ∙ name_stays column.name names.0 in
    let more : map (column_def bytes) defs ≡ columns = columns_are bytes key (suc number) columns defs are.1 names.1 in
    ap (λ (name : List ℕ). let made : Column = record { name = name; kind = def.kind } in made ∷ map (column_def bytes) defs) said
    ∙ (ap (λ (kind : Kind). let made : Column = record { name = column.name; kind = kind } in made ∷ map (column_def bytes) defs) are.0.kind
    ∙ ap (λ (columns : List Column). column ∷ columns) more)

names_are : (bytes : List ℕ) (key : Option ℕ) (number : ℕ) (columns : List Column) (defs : List ColumnDef) → AreColumns bytes key number columns defs
    → map (text_of_span bytes) (map (λ (def : ColumnDef). def.name) defs) ≡ column_names columns
names_are bytes key number [] [] are = refl
names_are bytes key number [] (def ∷ defs) are = absurd are
names_are bytes key number (column ∷ columns) [] are = absurd are
names_are bytes key number (column ∷ columns) (def ∷ defs) are =
    ap (λ (name : List ℕ). name ∷ map (text_of_span bytes) (map (λ (def : ColumnDef). def.name) defs)) are.0.name
    ∙ ap (λ (names : List (List ℕ)). column.name ∷ names) (names_are bytes key (suc number) columns defs are.1)

lengths_are : (bytes : List ℕ) (key : Option ℕ) (number : ℕ) (columns : List Column) (defs : List ColumnDef) → AreColumns bytes key number columns defs
    → length defs ≡ length columns
lengths_are bytes key number [] [] are = refl
lengths_are bytes key number [] (def ∷ defs) are = absurd are
lengths_are bytes key number (column ∷ columns) [] are = absurd are
lengths_are bytes key number (column ∷ columns) (def ∷ defs) are = ap suc (lengths_are bytes key (suc number) columns defs are.1)

-- ---- the key

-- how many are marked, with one more
marks_more : (def : ColumnDef) (defs : List ColumnDef) → count_by is_marked (def ∷ defs) ≡ cond def.key 1 0 + count_by is_marked defs
marks_more def defs = sum_by-cons (λ (def : ColumnDef). cond (is_marked def) 1 0) def defs

-- without a key no column is marked
no_key : (bytes : List ℕ) (number : ℕ) (columns : List Column) (defs : List ColumnDef) → AreColumns bytes None number columns defs
    → (key_from number defs ≡ None) × (count_by is_marked defs ≡ 0)
no_key bytes number [] [] are = (refl, refl)
no_key bytes number [] (def ∷ defs) are = absurd are
no_key bytes number (column ∷ columns) [] are = absurd are
no_key bytes number (column ∷ columns) (def ∷ defs) are =
    let more = no_key bytes (suc number) columns defs are.1 in
    let none : def.key ≡ false = are.0.key in (
      ap (λ (so : Bool). cond so (Some number) (key_from (suc number) defs)) none ∙ more.0,
      marks_more def defs ∙ (ap (λ (so : Bool). cond so 1 0 + count_by is_marked defs) none ∙ omega (arith, more.1)),
    )

-- behind the key no column is marked
past_key : (bytes : List ℕ) (key number : ℕ) (columns : List Column) (defs : List ColumnDef) → key < number → AreColumns bytes (Some key) number columns defs
    → count_by is_marked defs ≡ 0
past_key bytes key number [] [] past are = refl
past_key bytes key number [] (def ∷ defs) past are = absurd are
past_key bytes key number (column ∷ columns) [] past are = absurd are
past_key bytes key number (column ∷ columns) (def ∷ defs) past are =
    let more : count_by is_marked defs ≡ 0 = past_key bytes key (suc number) columns defs (omega (arith, past)) are.1 in
    let other : (key == number) ≡ false = grind (arith, past) in
    let none : def.key ≡ false = are.0.key ∙ other in
    marks_more def defs ∙ (ap (λ (so : Bool). cond so 1 0 + count_by is_marked defs) none ∙ omega (arith, more))

-- the key is the one column that is marked
one_key : (bytes : List ℕ) (key number : ℕ) (columns : List Column) (defs : List ColumnDef) → number ≤ key → key < number + length columns
    → AreColumns bytes (Some key) number columns defs → (key_from number defs ≡ Some key) × (count_by is_marked defs ≡ 1)
one_key bytes key number [] [] from within are = absurd (omega (arith, from, within))
one_key bytes key number [] (def ∷ defs) from within are = absurd are
one_key bytes key number (column ∷ columns) [] from within are = absurd are
one_key bytes key number (column ∷ columns) (def ∷ defs) from within are =
    by_number (key == number) refl (λ past. one_key bytes key (suc number) columns defs past (omega (arith, within)) are.1)
  where
    by_number : (here : Bool) → (key == number) ≡ here → (suc number ≤ key → (key_from (suc number) defs ≡ Some key) × (count_by is_marked defs ≡ 1))
        → (key_from number (def ∷ defs) ≡ Some key) × (count_by is_marked (def ∷ defs) ≡ 1)
    by_number true is later =
        let same : key ≡ number = eqb-true key number is in
        let marked : def.key ≡ true = are.0.key ∙ is in
        let none : count_by is_marked defs ≡ 0 = past_key bytes key (suc number) columns defs (omega (arith, same)) are.1 in (
          ap (λ (so : Bool). cond so (Some number) (key_from (suc number) defs)) marked ∙ ap Some (sym same),
          marks_more def defs ∙ (ap (λ (so : Bool). cond so 1 0 + count_by is_marked defs) marked ∙ omega (arith, none)),
        )
    by_number false is later =
        let plain : def.key ≡ false = are.0.key ∙ is in
        let past : suc number ≤ key = grind (arith, from, is) in
        let more = later past in (
          ap (λ (so : Bool). cond so (Some number) (key_from (suc number) defs)) plain ∙ more.0,
          marks_more def defs ∙ (ap (λ (so : Bool). cond so 1 0 + count_by is_marked defs) plain ∙ omega (arith, more.1)),
        )

-- a key that is one of the columns, if there is one
abbrev pub KeyWithin : Option ℕ → ℕ → Type 0
KeyWithin None width = Unit {0}
KeyWithin (Some key) width = key < width

key_is : (bytes : List ℕ) (key : Option ℕ) (columns : List Column) (defs : List ColumnDef) → KeyWithin key (length columns)
    → AreColumns bytes key 0 columns defs → (key_from 0 defs ≡ key) × (count_by is_marked defs ≤ 1)
key_is bytes None columns defs within are = let none = no_key bytes 0 columns defs are in (none.0, omega (arith, none.1))
key_is bytes (Some key) columns defs within are =
    let one = one_key bytes key 0 columns defs (omega arith) (omega (arith, within)) are in (one.0, omega (arith, one.1))

-- ---- the table

neither : (one other : Bool) (x y : Code) → one ≡ false → other ≡ false → first_of_two (code_if_so one x) (code_if_so other y) ≡ None
neither one other x y first second =
    ap (λ (so : Bool). first_of_two (code_if_so so x) (code_if_so other y)) first ∙ ap (λ (so : Bool). code_if_so so y) second

none_of_three : (a b c : Bool) → a ≡ false → b ≡ false → c ≡ false → (a || b || c) ≡ false
none_of_three a b c x y z = rw (x, y, z) refl

none_of_two : (a b : Bool) → a ≡ false → b ≡ false → (a || b) ≡ false
none_of_two a b x y = rw (x, y) refl

-- what a line that makes a table says
pub record IsCreate (bytes : List ℕ) (table : TableDef) (span : Span) (defs : List ColumnDef) : Type 0 where
  pub name : slice_range bytes span.start span.end ≡ table.name
  pub columns : AreFrom (λ number. IsColumn bytes (is_key table.key number)) 0 table.columns defs

-- when a script takes a table more
pub record MayBeMade (catalog : List TableDef) (table : TableDef) : Type 0 where
  pub named : IsName table.name
  pub columns : AllByRecursion (λ (column : Column). IsName column.name) table.columns
  pub differ : repeats (column_names table.columns) ≡ false
  pub few : length table.columns ≤ 32
  pub key : KeyWithin table.key (length table.columns)
  pub other : is_some (table_number catalog table.name) ≡ false
  pub room : length catalog < 16

-- the table is the one that is written, and it is taken
pub record CreateTaken (bytes : List ℕ) (options : Options) (catalog : List TableDef) (stocks : List Stock) (table : TableDef) (span : Span) (defs : List ColumnDef) : Type 0 where
  pub free : refusal_in bytes options (defining catalog stocks) (tree.Create span defs) ≡ None
  pub says : after bytes (defining catalog stocks) (tree.Create span defs) ≡ defining (catalog ++ table ∷ []) (stocks ++ no_rows table.key ∷ [])

pub create_taken : (bytes : List ℕ) (options : Options) (catalog : List TableDef) (stocks : List Stock) (table : TableDef) (span : Span) (defs : List ColumnDef)
    → MayBeMade catalog table → IsCreate bytes table span defs → CreateTaken bytes options catalog stocks table span defs
create_taken bytes options catalog stocks table span defs may is =
    let said : name_in bytes span ≡ table.name = ap text_of is.name ∙ name_stays table.name may.named in
    let key = key_is bytes table.key table.columns defs may.key is.columns in
    let columns : map (column_def bytes) defs ≡ table.columns = columns_are bytes table.key 0 table.columns defs is.columns may.columns in
    let made : table_def bytes span defs ≡ table =
    ap (λ (name : List ℕ). let made : TableDef = record { name = name; columns = map (column_def bytes) defs; key = key_from 0 defs } in made) said
    ∙ (ap (λ (columns : List Column). let made : TableDef = record { name = table.name; columns = columns; key = key_from 0 defs } in made) columns
    ∙ ap (λ (key : Option ℕ). let made : TableDef = record { name = table.name; columns = table.columns; key = key } in made) key.0) in
    let many : length defs ≡ length table.columns = lengths_are bytes table.key 0 table.columns defs is.columns in
    let marked : count_by is_marked defs ≤ 1 = key.1 in
    let twice_named : is_some (table_number catalog (name_in bytes span)) ≡ false =
    ap (λ (name : List ℕ). is_some (table_number catalog name)) said ∙ may.other in
    let twice_column : repeats (map (text_of_span bytes) (map (λ (def : ColumnDef). def.name) defs)) ≡ false =
    ap repeats (names_are bytes table.key 0 table.columns defs is.columns) ∙ may.differ in
    let two_keys : nat_lt 1 (count_by is_marked defs) ≡ false = few_marked (count_by is_marked defs) marked in
    let no_room : nat_le MOST_TABLES (length catalog) ≡ false = has_room (length catalog) may.room in
    let too_many : nat_lt MOST_COLUMNS (length defs) ≡ false = not_many (length defs) (omega (arith, many, may.few)) in
    record {
      free = neither _ _ code.Twice code.Limit (none_of_three _ _ _ twice_named twice_column two_keys) (none_of_two _ _ no_room too_many);
      says = ap (λ (def : TableDef). defining (catalog ++ def ∷ []) (stocks ++ no_rows def.key ∷ [])) made;
    }
  where
    few_marked : (n : ℕ) → n ≤ 1 → nat_lt 1 n ≡ false
    few_marked n few = grind arith

    has_room : (n : ℕ) → n < 16 → nat_le MOST_TABLES n ≡ false
    has_room n room = grind arith

    not_many : (n : ℕ) → n ≤ 32 → nat_lt MOST_COLUMNS n ≡ false
    not_many n few = grind arith
