-- The tables of a statement.
use Rattle.std.specs.List.{All, AllPairs, AllZip}
use Rattle.std.proofs.Common.{◌≡◌, ◌≢◌, ℕ, zero, suc, ◌<◌, false, List, [], ◌∷◌, Option, Some, None, map, length, refl, sym, ap, ◌∙◌, subst, arith}
use Rattle.std.proofs.lemmas.List.{length-map}
use Rattle.std.proofs.lemmas.List.Elements.{All-nil, All-cons}
use Rattle.std.proofs.lemmas.List.Sums.{sum_by-cons}
use Rattle.hy_token.specs.declared.Span.{Span}
use Rattle.hy_schema.specs.declared.TableDef.{TableDef}
use Rattle.hy_schema.specs.Names.{table_names, table_number, table_at}
use Rattle.hy_bound.specs.declared.Shape.{Shape}
use Rattle.hy_bound.specs.Records.{no_shape, shape_of}
use Rattle.hy_bound.specs.Fits.{joined_width}
use Rattle.hy_bind.specs.Literals.{text_of_span}
use Rattle.hy_bind.specs.Scope.{width_of, width_at, total_width}
use Rattle.hy_bind.specs.Shapes.{defined_shape, catalog_shapes}
use Rattle.hy_bind.specs.Statements.{and_number, numbers_of, key_in, repeats}
use Rattle.hy_bind.proofs.Numbered.{number_within, name_at, number_names, names_differ, pictures_differ}

-- ---- shapes

shape_or_none : Option TableDef → Shape
shape_or_none None = no_shape
shape_or_none (Some def) = defined_shape def

shape_there : (catalog : List TableDef) (number : ℕ) → shape_of (catalog_shapes catalog) number ≡ shape_or_none (table_at catalog number)
unfolding shape_or_none
shape_there [] number = refl
shape_there (def ∷ catalog) zero = refl
shape_there (def ∷ catalog) (suc number) = shape_there catalog number

none_or_width : (def : Option TableDef) → (shape_or_none def).width ≡ width_of def
unfolding shape_or_none
none_or_width None = refl
none_or_width (Some def) = refl

none_or_key : (def : Option TableDef) → (shape_or_none def).key ≡ key_in def
unfolding shape_or_none
none_or_key None = refl
none_or_key (Some def) = refl

-- a table has as many columns as its shape says
pub width_is : (catalog : List TableDef) (number : ℕ) → width_at catalog number ≡ (shape_of (catalog_shapes catalog) number).width
width_is catalog number = sym (ap (λ (shape : Shape). shape.width) (shape_there catalog number) ∙ none_or_width (table_at catalog number))

-- and the key that its shape says
pub key_is : (catalog : List TableDef) (number : ℕ) → key_in (table_at catalog number) ≡ (shape_of (catalog_shapes catalog) number).key
key_is catalog number = sym (ap (λ (shape : Shape). shape.key) (shape_there catalog number) ∙ none_or_key (table_at catalog number))

-- so has the joined row of tables
pub total_is : (catalog : List TableDef) (tables : List ℕ) → total_width catalog tables ≡ joined_width (catalog_shapes catalog) tables
total_is catalog [] = refl
total_is catalog (number ∷ tables) =
    let one = width_is catalog number in
    let rest = total_is catalog tables in
    let both = sum_by-cons (λ (table : ℕ). (shape_of (catalog_shapes catalog) table).width) number tables in
    omega (arith, one, rest, both)

-- ---- the tables that a statement names

-- a number is that of the table that is named there
abbrev pub Names : List ℕ → List TableDef → Span → ℕ → Type 0
Names script catalog span number = table_number catalog (text_of_span script span) ≡ Some number

-- one number more, and others
record IsFirst (number : Option ℕ) (rest : Option (List ℕ)) (numbers : List ℕ) : Type 0 where
  one : ℕ
  others : List ℕ
  is_one : number ≡ Some one
  are_others : rest ≡ Some others
  all : numbers ≡ one ∷ others

first_number : (number : Option ℕ) (rest : Option (List ℕ)) (numbers : List ℕ) → and_number number rest ≡ Some numbers → IsFirst number rest numbers
first_number None rest numbers h = absurd cc
first_number (Some n) None numbers h = absurd cc
first_number (Some n) (Some ns) numbers h = record { one = n; others = ns; is_one = refl; are_others = refl; all = cc }

pub all_named : (script : List ℕ) (catalog : List TableDef) (spans : List Span) (numbers : List ℕ) → numbers_of script catalog spans ≡ Some numbers → AllZip (Names script catalog) spans numbers
all_named script catalog [] numbers h = let e : numbers ≡ [] = cc in subst (AllZip (Names script catalog) []) (sym e) tt
all_named script catalog (span ∷ spans) numbers h =
    let parts = first_number (table_number catalog (text_of_span script span)) (numbers_of script catalog spans) numbers h in
    subst (AllZip (Names script catalog) (span ∷ spans)) (sym parts.all) (parts.is_one, all_named script catalog spans parts.others parts.are_others)

-- there are as many as are named
pub as_many : (script : List ℕ) (catalog : List TableDef) (spans : List Span) (numbers : List ℕ) → AllZip (Names script catalog) spans numbers → length numbers ≡ length spans
as_many script catalog [] [] h = refl
as_many script catalog [] (n ∷ ns) h = absurd h
as_many script catalog (span ∷ spans) [] h = absurd h
as_many script catalog (span ∷ spans) (n ∷ ns) h = ap suc (as_many script catalog spans ns h.1)

-- they are there
pub all_there : (script : List ℕ) (catalog : List TableDef) (spans : List Span) (numbers : List ℕ) → AllZip (Names script catalog) spans numbers → All (λ n. n < length (catalog_shapes catalog)) numbers
all_there script catalog [] [] h = All-nil (λ (n : ℕ). n < length (catalog_shapes catalog))
all_there script catalog [] (n ∷ ns) h = absurd h
all_there script catalog (span ∷ spans) [] h = absurd h
all_there script catalog (span ∷ spans) (n ∷ ns) h =
    let within = number_within (table_names catalog) (text_of_span script span) n h.0 in
    let names = length-map catalog (λ (table : TableDef). table.name) in
    let shapes = length-map catalog defined_shape in
    All-cons (λ (m : ℕ). m < length (catalog_shapes catalog)) n ns (omega (arith, within, names, shapes)) (all_there script catalog spans ns h.1)

their_names : (script : List ℕ) (catalog : List TableDef) (spans : List Span) (numbers : List ℕ) → AllZip (Names script catalog) spans numbers → map (name_at (table_names catalog)) numbers ≡ map (text_of_span script) spans
their_names script catalog [] [] h = refl
their_names script catalog [] (n ∷ ns) h = absurd h
their_names script catalog (span ∷ spans) [] h = absurd h
their_names script catalog (span ∷ spans) (n ∷ ns) h =
    let one = number_names (table_names catalog) (text_of_span script span) n h.0 in
    let rest = their_names script catalog spans ns h.1 in
    cc

-- where no name repeats they differ
pub all_differ : (script : List ℕ) (catalog : List TableDef) (spans : List Span) (numbers : List ℕ) → AllZip (Names script catalog) spans numbers → repeats (map (text_of_span script) spans) ≡ false
    → AllPairs (λ one other. one ≢ other) numbers
all_differ script catalog spans numbers h once i j d before within same =
    pictures_differ (name_at (table_names catalog)) numbers
    (subst (λ (names : List (List ℕ)). AllPairs (λ one other. one ≢ other) names) (sym (their_names script catalog spans numbers h)) (names_differ (map (text_of_span script) spans) once))
    i j d before within (ap (name_at (table_names catalog)) same)
