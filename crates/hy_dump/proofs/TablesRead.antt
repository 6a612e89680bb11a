-- The tables of a script that was read can be written: their names are words, and differ.
use Rattle.std.specs.Prelude.{◌||◌, is_some, nat_le, Option}
use Rattle.std.specs.List.{All, AllByRecursion}
use Rattle.std.specs.Str.{IsUtf8}
use Rattle.std.proofs.Common.{◌≡◌, ℕ, ◌≤◌, Bool, true, false, cond, List, [], ◌∷◌, ◌++◌, length, map, Some, None, Ok, refl, sym, ap, subst, ◌∙◌, append_assoc}
use Rattle.std.proofs.lemmas.Bool.{or_parts}
use Rattle.std.proofs.lemmas.List.{append-nil, length-map}
use Rattle.std.proofs.lemmas.List.Elements.{recursion_from_All}
use Rattle.hy_token.specs.declared.Sign.TheVariants.{RightParen, Semicolon}
use Rattle.hy_token.specs.declared.Span.{Span}
use Rattle.hy_ast.specs.declared.ColumnDef.{ColumnDef}
use Rattle.hy_ast.specs.Trees.{Statement}
use Rattle.hy_ast.specs.Trees as tree
use Rattle.hy_parse.specs.Grammar.{Mark, Any, At, Marks, Match, column_def, marks, separated}
use Rattle.hy_parse.specs.Grammar as grammar
use Rattle.hy_parse.specs.Parsing.{parsed}
use Rattle.hy_schema.specs.declared.Column.{Column}
use Rattle.hy_schema.specs.declared.TableDef.{TableDef}
use Rattle.hy_schema.specs.Names.{column_names, number_of, table_names}
use Rattle.hy_bound.specs.Fits.{FitsShape}
use Rattle.hy_bind.specs.Literals.{text_of_span}
use Rattle.hy_bind.specs.Shapes.{catalog_shapes, defined_shape}
use Rattle.hy_bind.specs.Statements.{comes_again, repeats}
use Rattle.hy_script.specs.declared.Options.{Options}
use Rattle.hy_script.specs.declared.Script.{Script}
use Rattle.hy_script.specs.declared.codes.Code.{Code}
use Rattle.hy_script.specs.declared.sofar.Section.{Section}
use Rattle.hy_script.specs.declared.sofar.Section.TheVariants as section
use Rattle.hy_script.specs.declared.sofar.SoFar.{SoFar}
use Rattle.hy_ast.specs.declared.Literal.{Literal}
use Rattle.hy_script.specs.Codes.{code_if_so, first_of_two, rank}
use Rattle.hy_script.specs.Growing.{after, nothing, script_of, table_def, with_insert}
use Rattle.hy_script.specs.Growing as growing
use Rattle.hy_script.specs.Refusals.{create_code, refusal_in}
use Rattle.hy_script.specs.Sentences.{IsAccepted, NoneIsRefused, SpellsFrom, after_all}
use Rattle.hy_limits.specs.declared.TheConstants.{MOST_TABLES}
use Rattle.hy_dump.specs.Writable.{AreTables, IsName, IsTable}
use Rattle.hy_dump.proofs.Lists.{behind_first}
use Rattle.hy_dump.proofs.Names.{name_stays}
use Rattle.hy_dump.proofs.RowsTaken.{names_end}
use Rattle.hy_dump.proofs.TokensRead.{IsSound, all_more, back_all, front_all, parsed_sound}
use Rattle.hy_dump.proofs.Writing.{IsParsedSo}

-- columns of trees that have names
abbrev AreNamed : List ℕ → List ColumnDef → Type 0
AreNamed bytes defs = AllByRecursion (λ (def : ColumnDef). IsName (text_of_span bytes def.name)) defs

more_named : (bytes : List ℕ) (defs : List ColumnDef) → AllByRecursion (IsSound bytes) (behind_first column_def defs) → AreNamed bytes defs
more_named bytes [] all = tt
more_named bytes (def ∷ defs) all = (all.1.0, more_named bytes defs (back_all (IsSound bytes) (column_def def) (behind_first column_def defs) all.1))

columns_named : (bytes : List ℕ) (defs : List ColumnDef) → AllByRecursion (IsSound bytes) (separated column_def defs) → AreNamed bytes defs
columns_named bytes [] all = tt
columns_named bytes (def ∷ defs) all = (all.0, more_named bytes defs (back_all (IsSound bytes) (column_def def) (behind_first column_def defs) all))

-- the names of a statement that makes a table
record MakesNamed (bytes : List ℕ) (span : Span) (defs : List ColumnDef) : Type 0 where
  name : IsName (text_of_span bytes span)
  columns : AreNamed bytes defs

makes_named : (bytes : List ℕ) (span : Span) (defs : List ColumnDef) → AllByRecursion (IsSound bytes) (marks (tree.Create span defs)) → MakesNamed bytes span defs
makes_named bytes span defs all =
    let closing : List Mark = grammar.sign RightParen ∷ [] in
    let last : List Mark = grammar.sign Semicolon ∷ [] in
    record {
      name = all.1.1.0;
      columns = columns_named bytes defs (front_all (IsSound bytes) (separated column_def defs) closing (front_all (IsSound bytes) (separated column_def defs ++ closing) last all.1.1.1.1));
    }

-- ---- the tables of a script so far

record IsSpelled (table : TableDef) : Type 0 where
  name : IsName table.name
  columns : AllByRecursion (λ (column : Column). IsName column.name) table.columns
  differ : repeats (column_names table.columns) ≡ false

record AreSpelled (catalog : List TableDef) : Type 0 where
  each : AllByRecursion IsSpelled catalog
  differ : repeats (table_names catalog) ≡ false

never : (b : Bool) (x y : Code) → cond b (Some x) (Some y) ≡ None → ⊥
never true x y h = absurd cc
never false x y h = absurd cc

first_none : (one other : Option Code) → first_of_two one other ≡ None → one ≡ None
first_none None other h = refl
first_none (Some x) None h = absurd cc
first_none (Some x) (Some y) h = absurd (never (nat_le (rank x) (rank y)) x y h)

not_so : (so : Bool) (x : Code) → code_if_so so x ≡ None → so ≡ false
not_so true x h = absurd cc
not_so false x h = refl

-- a name more, which none of the names has
no_more : (before names : List (List ℕ)) (name : List ℕ) → comes_again before names ≡ false → is_some (number_of (before ++ names) name) ≡ false
    → comes_again before (names ++ name ∷ []) ≡ false
no_more before [] name differ none =
    let here : is_some (number_of before name) ≡ false = ap (λ (names : List (List ℕ)). is_some (number_of names name)) (sym (append-nil before)) ∙ none in
    ap (λ (so : Bool). so || false) here
no_more before (first ∷ names) name differ none =
    let apart = or_parts (is_some (number_of before first)) (comes_again (before ++ first ∷ []) names) differ in
    let more : comes_again (before ++ first ∷ []) (names ++ name ∷ []) ≡ false =
    no_more (before ++ first ∷ []) names name apart.1
    (ap (λ (names : List (List ℕ)). is_some (number_of names name)) (append_assoc before (first ∷ []) names) ∙ none) in
    ap (λ (so : Bool). so || comes_again (before ++ first ∷ []) (names ++ name ∷ [])) apart.0 ∙ more

columns_spelled : (bytes : List ℕ) (defs : List ColumnDef) → AreNamed bytes defs → AllByRecursion (λ (column : Column). IsName column.name) (map (growing.column_def bytes) defs)
columns_spelled bytes [] all = tt
columns_spelled bytes (def ∷ defs) all =
    (subst IsName (sym (name_stays (text_of_span bytes def.name) all.0)) all.0, columns_spelled bytes defs all.1)

column_names_are : (bytes : List ℕ) (defs : List ColumnDef) → AreNamed bytes defs
    → column_names (map (growing.column_def bytes) defs) ≡ map (text_of_span bytes) (map (λ (def : ColumnDef). def.name) defs)
column_names_are bytes [] all = refl
column_names_are bytes (def ∷ defs) all =
    ap (λ (name : List ℕ). name ∷ column_names (map (growing.column_def bytes) defs)) (name_stays (text_of_span bytes def.name) all.0)
    ∙ ap (λ (names : List (List ℕ)). text_of_span bytes def.name ∷ names) (column_names_are bytes defs all.1)

table_spelled : (bytes : List ℕ) (sofar : SoFar) (span : Span) (defs : List ColumnDef) → MakesNamed bytes span defs → create_code bytes sofar span defs ≡ None
    → AreSpelled sofar.catalog → AreSpelled (sofar.catalog ++ table_def bytes span defs ∷ [])
table_spelled bytes sofar span defs named free are =
    let def : TableDef = table_def bytes span defs in
    let clear = not_so _ _ (first_none _ _ free) in
    let three = or_parts _ _ clear in
    let two = or_parts _ _ three.0 in
    let other : is_some (number_of (table_names sofar.catalog) def.name) ≡ false = two.0 in
    let columns : repeats (map (text_of_span bytes) (map (λ (def : ColumnDef). def.name) defs)) ≡ false = two.1 in
    record {
      each = all_more IsSpelled sofar.catalog def are.each (record {
        name = subst IsName (sym (name_stays (text_of_span bytes span) named.name)) named.name;
        columns = columns_spelled bytes defs named.columns;
        differ = ap repeats (column_names_are bytes defs named.columns) ∙ columns;
      });
      differ = ap repeats (names_end sofar.catalog def) ∙ no_more [] (table_names sofar.catalog) def.name are.differ other;
    }

-- ---- the whole script

insert_keeps : (bytes : List ℕ) (sofar : SoFar) (at : Section) (s : Statement) (span : Span) (values : List Literal) → (with_insert bytes sofar at s span values).catalog ≡ sofar.catalog
insert_keeps bytes sofar section.Defining s span values = refl
insert_keeps bytes sofar (section.Between session) s span values = refl
insert_keeps bytes sofar (section.Within session txn) s span values = refl
insert_keeps bytes sofar section.Scheduled s span values = refl

step_spelled : IsParsedSo → (bytes : List ℕ) → IsUtf8 bytes → (options : Options) (sofar : SoFar) (s : Statement) (at end : ℕ) → parsed bytes at ≡ Ok (s, end)
    → refusal_in bytes options sofar s ≡ None → AreSpelled sofar.catalog → AreSpelled (after bytes sofar s).catalog
step_spelled parses bytes utf8 options sofar (tree.Create span defs) at end is free are =
    table_spelled bytes sofar span defs (makes_named bytes span defs (parsed_sound parses bytes utf8 at end (tree.Create span defs) is)) free are
step_spelled parses bytes utf8 options sofar (tree.Insert span values) at end is free are =
    subst AreSpelled (sym (insert_keeps bytes sofar sofar.section (tree.Insert span values) span values)) are
step_spelled parses bytes utf8 options sofar s at end is free are = are

all_spelled : IsParsedSo → (bytes : List ℕ) → IsUtf8 bytes → (options : Options) (statements : List Statement) (sofar : SoFar) (at : ℕ) → SpellsFrom bytes at statements
    → NoneIsRefused bytes options sofar statements → AreSpelled sofar.catalog → AreSpelled (after_all bytes sofar statements).catalog
all_spelled parses bytes utf8 options [] sofar at spelled free are = are
all_spelled parses bytes utf8 options (s ∷ rest) sofar at spelled free are =
    all_spelled parses bytes utf8 options rest (after bytes sofar s) spelled.0 spelled.2 free.1
    (step_spelled parses bytes utf8 options sofar s at spelled.0 spelled.1 free.0 are)

tables_fit : (catalog : List TableDef) → AllByRecursion IsSpelled catalog → AllByRecursion FitsShape (catalog_shapes catalog) → AllByRecursion IsTable catalog
tables_fit [] are fit = tt
tables_fit (table ∷ catalog) are fit =
    (record { name = are.0.name; columns = are.0.columns; differ = are.0.differ; fits = fit.0 }, tables_fit catalog are.1 fit.1)

-- the tables of a script that is accepted, which fit, can be written
pub accepted_tables : IsParsedSo → (bytes : List ℕ) (options : Options) (script : Script) → IsAccepted bytes options script → length (catalog_shapes script.catalog) ≤ MOST_TABLES
    → All FitsShape (catalog_shapes script.catalog) → AreTables script.catalog
accepted_tables parses bytes options script accepted few fit =
    let said : script.catalog ≡ (after_all bytes nothing accepted.statements).catalog = ap (λ (script : Script). script.catalog) accepted.says in
    let spelled : AreSpelled script.catalog =
    subst AreSpelled (sym said) (all_spelled parses bytes accepted.utf8 options accepted.statements nothing 0 accepted.spelled accepted.free (record { each = tt; differ = refl })) in
    record {
      few = subst (λ (n : ℕ). n ≤ MOST_TABLES) (length-map script.catalog defined_shape) few;
      each = tables_fit script.catalog spelled.each (recursion_from_All FitsShape (catalog_shapes script.catalog) fit);
      differ = spelled.differ;
    }
