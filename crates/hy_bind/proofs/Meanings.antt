-- The search for a column finds what its name means.
use Rattle.std.specs.Prelude.{IfSome}
use Rattle.std.specs.List.{All, Contains, position_or_len}
use Rattle.std.specs.Option.{option_map, option_and_then}
use Rattle.std.specs.Str.{bytes_eq}
use Rattle.std.proofs.Common.{◌≡◌, ◌≢◌, ◌↔◌, ℕ, ◌+◌, ◌<◌, Bool, true, false, cond, ◌==◌, nat_lt, List, [], ◌∷◌, ◌++◌, Option, Some, None, length, get_or, take, slice_get, refl, sym, ap, ◌∙◌, subst, inl, inr, append_assoc, arith}
use Rattle.std.proofs.lemmas.Bool.{lt-ltb, eqb-true, eqb-false, false≢true, false_from_ne_true}
use Rattle.std.proofs.lemmas.List.{append-nil, get_or-map, get_or-take, length-map, length-take-le}
use Rattle.std.proofs.lemmas.List.Elements.{All-head, All-tail, All-from_get_or, Contains-append_left, Contains-get_or, Contains-push, Contains-push_cases}
use Rattle.std.proofs.lemmas.List.Quantifiers.{position-Some}
use Rattle.std.proofs.lemmas.List.Sums.{position_or_len_is}
use Rattle.std.proofs.lemmas.Option.{get_or_from_slice_get, same_Some, slice_get_within}
use Rattle.std.proofs.lemmas.Slice.Eq.{bytes_eq-Decides}
use Rattle.hy_token.specs.declared.Span.{Span}
use Rattle.hy_value.specs.declared.Kind.{Kind}
use Rattle.hy_schema.specs.declared.Column.{Column}
use Rattle.hy_schema.specs.declared.TableDef.{TableDef}
use Rattle.hy_schema.specs.Names.{column_names, column_number, table_at}
use Rattle.hy_ast.specs.declared.ColumnRef.{ColumnRef}
use Rattle.hy_bind.specs.declared.scope.Found.{Found}
use Rattle.hy_bind.specs.declared.scope.Search.{Search}
use Rattle.hy_bind.specs.declared.scope.Search.TheVariants.{Nowhere, In, Several}
use Rattle.hy_bind.specs.Literals.{text_of_span}
use Rattle.hy_bind.specs.Meaning.{MayMean, Means, MayMeanTwo, MeansNothing}
use Rattle.hy_bind.specs.Scope.{Scope, width_at, total_width, may_mean, found_at, found_in, and_found, searched, only, resolved}
use Rattle.hy_bind.specs.Statements.{in_scope}

-- ---- one table

-- the column of a table that a reference means, as it is searched for
abbrev offer : List ℕ → List TableDef → ColumnRef → ℕ → ℕ → Option Found
offer script catalog reference number from = option_and_then (found_in script reference number from) (table_at catalog number)

abbrev ordinal_found : ℕ → ℕ → ℕ → Column → Found
ordinal_found number from ordinal column = record { table = number; column = from + ordinal; kind = column.kind }

may : (script : List ℕ) (table : Option Span) (name : List ℕ) → IfSome table (λ span. text_of_span script span ≡ name) → may_mean script table name ≡ true
may script None name h = refl
may script (Some span) name h = (bytes_eq-Decides (text_of_span script span) name).1 h

may_not_else : (script : List ℕ) (table : Option Span) (name : List ℕ) → may_mean script table name ≡ true → IfSome table (λ span. text_of_span script span ≡ name)
may_not_else script None name h = tt
may_not_else script (Some span) name h = (bytes_eq-Decides (text_of_span script span) name).0 h

-- the name of a column by its ordinal
name_there : (columns : List Column) (k : ℕ) (d : Column) → k < length columns → get_or (column_names columns) k [] ≡ (get_or columns k d).name
name_there columns k d within = get_or-map (λ (column : Column). column.name) columns k d [] within

-- the first column with a name has that number
first_number : (columns : List Column) (name : List ℕ) (ordinal : ℕ) (column : Column) → slice_get columns ordinal ≡ Some column → column.name ≡ name
    → All (λ (earlier : Column). earlier.name ≢ name) (take ordinal columns) → column_number columns name ≡ Some ordinal
first_number columns name ordinal column there named first =
    let within = slice_get_within columns ordinal column there in
    let many = length-map columns (λ (c : Column). c.name) in
    let names = column_names columns in
    let here : bytes_eq name (get_or names ordinal []) ≡ true =
    (bytes_eq-Decides name (get_or names ordinal [])).1 (sym (name_there columns ordinal column within ∙ ap (λ (c : Column). c.name) (get_or_from_slice_get columns ordinal column column there) ∙ named)) in
    let at : position_or_len (bytes_eq name) names ≡ ordinal =
    position_or_len_is (bytes_eq name) names ordinal [] (omega (arith, within, many))
    (λ k below.
    let inside : k < length columns = omega (arith, below, within) in
    let taken = length-take-le ordinal columns (omega (arith, within)) in
    false_from_ne_true (bytes_eq name (get_or names k [])) (λ yes.
    first k column (omega (arith, below, taken)) (ap (λ (c : Column). c.name) (get_or-take ordinal columns k column below) ∙ sym (name_there columns k column inside) ∙ sym ((bytes_eq-Decides name (get_or names k [])).0 yes))))
    (λ _. here) in
    ap (λ n. cond (nat_lt n (length names)) (Some n) None) at ∙ ap (λ b. cond b (Some ordinal) None) (lt-ltb ordinal (length names) (omega (arith, within, many)))

-- a table that a reference may mean is found
offered : (script : List ℕ) (catalog : List TableDef) (tables : List ℕ) (reference : ColumnRef) (number from : ℕ) (m : MayMean (in_scope script catalog tables) reference number)
    → offer script catalog reference number from ≡ Some (ordinal_found number from m.ordinal m.column)
offered script catalog tables reference number from m =
    ap (option_and_then (found_in script reference number from)) m.is
    ∙ ap (λ b. cond b (option_and_then (found_at number from m.def.columns) (column_number m.def.columns (text_of_span script reference.column))) None) (may script reference.table m.def.name m.of_table)
    ∙ ap (option_and_then (found_at number from m.def.columns)) (first_number m.def.columns (text_of_span script reference.column) m.ordinal m.column m.there m.named m.first)
    ∙ ap (option_map (λ (column : Column). ordinal_found number from m.ordinal column)) m.there

-- what is found is of a table that the reference may mean
record IsOffer (script : List ℕ) (catalog : List TableDef) (tables : List ℕ) (reference : ColumnRef) (number from : ℕ) (found : Found) : Type 0 where
  meant : MayMean (in_scope script catalog tables) reference number
  is : found ≡ ordinal_found number from meant.ordinal meant.column

offer_at : (script : List ℕ) (catalog : List TableDef) (tables : List ℕ) (reference : ColumnRef) (number from : ℕ) (found : Found) (def : TableDef) (ordinal : ℕ) (column : Option Column)
    → Contains tables number → table_at catalog number ≡ Some def → may_mean script reference.table def.name ≡ true → column_number def.columns (text_of_span script reference.column) ≡ Some ordinal → slice_get def.columns ordinal ≡ column
    → option_map (λ (c : Column). ordinal_found number from ordinal c) column ≡ Some found → IsOffer script catalog tables reference number from found
offer_at script catalog tables reference number from found def ordinal None stands is of_table numbered there h = absurd cc
offer_at script catalog tables reference number from found def ordinal (Some column) stands is of_table numbered there h =
    let text = text_of_span script reference.column in
    let names = column_names def.columns in
    let at = position-Some (bytes_eq text) names ordinal [] numbered in
    let within = slice_get_within def.columns ordinal column there in
    record {
      meant = record {
        stands = stands;
        def = def;
        is = is;
        of_table = may_not_else script reference.table def.name of_table;
        ordinal = ordinal;
        column = column;
        there = there;
        named = sym ((bytes_eq-Decides text (get_or names ordinal [])).0 at.1 ∙ name_there def.columns ordinal column within ∙ ap (λ (c : Column). c.name) (get_or_from_slice_get def.columns ordinal column column there));
        first = λ k d below same.
            let taken = length-take-le ordinal def.columns (omega (arith, within)) in
            let earlier : k < ordinal = omega (arith, below, taken) in
            let name = name_there def.columns k d (omega (arith, earlier, within)) ∙ ap (λ (c : Column). c.name) (sym (get_or-take ordinal def.columns k d earlier)) ∙ same in
            false≢true (sym (at.2 k earlier) ∙ (bytes_eq-Decides text (get_or names k [])).1 (sym name));
      };
      is = cc;
    }

offer_named : (script : List ℕ) (catalog : List TableDef) (tables : List ℕ) (reference : ColumnRef) (number from : ℕ) (found : Found) (def : TableDef) (ordinal : Option ℕ)
    → Contains tables number → table_at catalog number ≡ Some def → may_mean script reference.table def.name ≡ true → column_number def.columns (text_of_span script reference.column) ≡ ordinal
    → option_and_then (found_at number from def.columns) ordinal ≡ Some found → IsOffer script catalog tables reference number from found
offer_named script catalog tables reference number from found def None stands is of_table numbered h = absurd cc
offer_named script catalog tables reference number from found def (Some ordinal) stands is of_table numbered h =
    offer_at script catalog tables reference number from found def ordinal (slice_get def.columns ordinal) stands is of_table numbered refl h

offer_of : (script : List ℕ) (catalog : List TableDef) (tables : List ℕ) (reference : ColumnRef) (number from : ℕ) (found : Found) (def : TableDef) (of_table : Bool)
    → Contains tables number → table_at catalog number ≡ Some def → may_mean script reference.table def.name ≡ of_table
    → cond of_table (option_and_then (found_at number from def.columns) (column_number def.columns (text_of_span script reference.column))) None ≡ Some found → IsOffer script catalog tables reference number from found
offer_of script catalog tables reference number from found def false stands is of_table h = absurd cc
offer_of script catalog tables reference number from found def true stands is of_table h =
    offer_named script catalog tables reference number from found def _ stands is of_table refl h

offer_is : (script : List ℕ) (catalog : List TableDef) (tables : List ℕ) (reference : ColumnRef) (number from : ℕ) (found : Found) (def : Option TableDef)
    → Contains tables number → table_at catalog number ≡ def → option_and_then (found_in script reference number from) def ≡ Some found → IsOffer script catalog tables reference number from found
offer_is script catalog tables reference number from found None stands is h = absurd cc
offer_is script catalog tables reference number from found (Some def) stands is h = offer_of script catalog tables reference number from found def _ stands is refl h

-- ---- the tables up to one

-- the same table among other tables
abbrev among : (script : List ℕ) (catalog : List TableDef) (tables others : List ℕ) (reference : ColumnRef) (number : ℕ) → Contains others number → MayMean (in_scope script catalog tables) reference number
    → MayMean (in_scope script catalog others) reference number
among script catalog tables others reference number stands m = record {
  stands = stands;
  def = m.def;
  is = m.is;
  of_table = m.of_table;
  ordinal = m.ordinal;
  column = m.column;
  there = m.there;
  named = m.named;
  first = m.first;
}

-- what was found so far is what the reference means among the tables so far
abbrev Known : Scope → ColumnRef → Search → Type 0
Known scope reference Nowhere = (table : ℕ) → MayMean scope reference table → ⊥
Known scope reference (In found) = Means scope reference found
Known scope reference Several = MayMeanTwo scope reference

-- a table more that the reference does not mean a further column of
more_alone : (script : List ℕ) (catalog : List TableDef) (seen : List ℕ) (reference : ColumnRef) (number : ℕ) (found : Found) → Means (in_scope script catalog seen) reference found
    → (MayMean (in_scope script catalog (seen ++ number ∷ [])) reference number → number ≡ found.table) → Means (in_scope script catalog (seen ++ number ∷ [])) reference found
more_alone script catalog seen reference number found means same = record {
  meant = among script catalog seen (seen ++ number ∷ []) reference found.table (Contains-append_left seen (number ∷ []) found.table means.meant.stands) means.meant;
  alone = λ other m.
      elim (Contains-push_cases seen number other m.stands) [
        | inl earlier ↦ means.alone other (among script catalog (seen ++ number ∷ []) seen reference other earlier m)
        | inr last ↦ sym last ∙ same (subst (MayMean (in_scope script catalog (seen ++ number ∷ [])) reference) (sym last) m)
      ];
  before = means.before;
  behind = means.behind ++ number ∷ [];
  tables = ap (λ (tables : List ℕ). tables ++ number ∷ []) means.tables ∙ append_assoc means.before (found.table ∷ means.behind) (number ∷ []);
  first = means.first;
  number = means.number;
  kind = means.kind;
}

-- the first table that the reference may mean
first_alone : (script : List ℕ) (catalog : List TableDef) (seen : List ℕ) (reference : ColumnRef) (number : ℕ) → ((table : ℕ) → MayMean (in_scope script catalog seen) reference table → ⊥)
    → (m : MayMean (in_scope script catalog (seen ++ number ∷ [])) reference number)
    → Means (in_scope script catalog (seen ++ number ∷ [])) reference (ordinal_found number (total_width catalog seen) m.ordinal m.column)
first_alone script catalog seen reference number none m = record {
  meant = m;
  alone = λ other is.
      elim (Contains-push_cases seen number other is.stands) [
        | inl earlier ↦ absurd (none other (among script catalog (seen ++ number ∷ []) seen reference other earlier is))
        | inr last ↦ sym last
      ];
  before = seen;
  behind = [];
  tables = refl;
  first =
      All-from_get_or (λ other. other ≢ number) seen number (λ k within same.
      none number (among script catalog (seen ++ number ∷ []) seen reference number (subst (Contains seen) same (Contains-get_or seen k number within)) m));
  number = refl;
  kind = refl;
}

two_more : (script : List ℕ) (catalog : List TableDef) (seen : List ℕ) (reference : ColumnRef) (number : ℕ) → MayMeanTwo (in_scope script catalog seen) reference → MayMeanTwo (in_scope script catalog (seen ++ number ∷ [])) reference
two_more script catalog seen reference number two = record {
  one = two.one;
  other = two.other;
  is_one = among script catalog seen (seen ++ number ∷ []) reference two.one (Contains-append_left seen (number ∷ []) two.one two.is_one.stands) two.is_one;
  is_other = among script catalog seen (seen ++ number ∷ []) reference two.other (Contains-append_left seen (number ∷ []) two.other two.is_other.stands) two.is_other;
  differ = two.differ;
}

-- a table more without the column
none_more : (script : List ℕ) (catalog : List TableDef) (seen : List ℕ) (reference : ColumnRef) (number : ℕ) (before : Search) → (MayMean (in_scope script catalog (seen ++ number ∷ [])) reference number → ⊥)
    → Known (in_scope script catalog seen) reference before → Known (in_scope script catalog (seen ++ number ∷ [])) reference before
none_more script catalog seen reference number Nowhere none known = λ table m.
    elim (Contains-push_cases seen number table m.stands) [
      | inl earlier ↦ known table (among script catalog (seen ++ number ∷ []) seen reference table earlier m)
      | inr last ↦ none (subst (MayMean (in_scope script catalog (seen ++ number ∷ [])) reference) (sym last) m)
    ]
none_more script catalog seen reference number (In found) none known = more_alone script catalog seen reference number found known (λ m. absurd (none m))
none_more script catalog seen reference number Several none known = two_more script catalog seen reference number known

again_or_two : (script : List ℕ) (catalog : List TableDef) (seen : List ℕ) (reference : ColumnRef) (number : ℕ) (found : Found) (same : Bool) → (found.table == number) ≡ same
    → Means (in_scope script catalog seen) reference found → MayMean (in_scope script catalog (seen ++ number ∷ [])) reference number
    → Known (in_scope script catalog (seen ++ number ∷ [])) reference (cond same (In found) Several)
again_or_two script catalog seen reference number found true is means m = more_alone script catalog seen reference number found means (λ _. sym (eqb-true found.table number is))
again_or_two script catalog seen reference number found false is means m = record {
  one = found.table;
  other = number;
  is_one = among script catalog seen (seen ++ number ∷ []) reference found.table (Contains-append_left seen (number ∷ []) found.table means.meant.stands) means.meant;
  is_other = m;
  differ = eqb-false found.table number is;
}

-- a table more with the column
one_more : (script : List ℕ) (catalog : List TableDef) (seen : List ℕ) (reference : ColumnRef) (number : ℕ) (before : Search) (m : MayMean (in_scope script catalog (seen ++ number ∷ [])) reference number)
    → Known (in_scope script catalog seen) reference before
    → Known (in_scope script catalog (seen ++ number ∷ [])) reference (and_found before (Some (ordinal_found number (total_width catalog seen) m.ordinal m.column)))
one_more script catalog seen reference number Nowhere m known = first_alone script catalog seen reference number known m
one_more script catalog seen reference number (In found) m known = again_or_two script catalog seen reference number found _ refl known m
one_more script catalog seen reference number Several m known = two_more script catalog seen reference number known

more : (script : List ℕ) (catalog : List TableDef) (seen : List ℕ) (reference : ColumnRef) (number : ℕ) (before : Search) (found : Option Found) → offer script catalog reference number (total_width catalog seen) ≡ found
    → Known (in_scope script catalog seen) reference before → Known (in_scope script catalog (seen ++ number ∷ [])) reference (and_found before found)
more script catalog seen reference number before None is known =
    none_more script catalog seen reference number before (λ m. let there = offered script catalog (seen ++ number ∷ []) reference number (total_width catalog seen) m in absurd cc) known
more script catalog seen reference number before (Some found) is known =
    let at = offer_is script catalog (seen ++ number ∷ []) reference number (total_width catalog seen) found _ (Contains-push seen number) refl is in
    subst (λ (f : Found). Known (in_scope script catalog (seen ++ number ∷ [])) reference (and_found before (Some f))) (sym at.is) (one_more script catalog seen reference number before at.meant known)

-- ---- all tables

width_push : (catalog : List TableDef) (seen : List ℕ) (number : ℕ) → total_width catalog (seen ++ number ∷ []) ≡ total_width catalog seen + width_at catalog number
width_push catalog [] number = omega arith
width_push catalog (table ∷ seen) number = let rest = width_push catalog seen number in omega (arith, rest)

all : (script : List ℕ) (catalog : List TableDef) (seen rest : List ℕ) (reference : ColumnRef) (from : ℕ) (before : Search) → from ≡ total_width catalog seen → Known (in_scope script catalog seen) reference before
    → Known (in_scope script catalog (seen ++ rest)) reference (searched script catalog reference from before rest)
all script catalog seen [] reference from before at known = subst (λ (tables : List ℕ). Known (in_scope script catalog tables) reference before) (sym (append-nil seen)) known
all script catalog seen (number ∷ rest) reference from before at known =
    let start : offer script catalog reference number (total_width catalog seen) ≡ offer script catalog reference number from = ap (offer script catalog reference number) (sym at) in
    let after = width_push catalog seen number in
    subst (λ (tables : List ℕ). Known (in_scope script catalog tables) reference (searched script catalog reference from before (number ∷ rest))) (append_assoc seen (number ∷ []) rest)
    (all script catalog (seen ++ number ∷ []) rest reference (from + width_at catalog number) _ (omega (arith, at, after)) (more script catalog seen reference number before (offer script catalog reference number from) start known))

known : (scope : Scope) (reference : ColumnRef) → Known scope reference (searched scope.script scope.catalog reference 0 Nowhere scope.tables)
known scope reference = all scope.script scope.catalog [] scope.tables reference 0 Nowhere refl (λ table m. absurd (omega (arith, m.stands.1)))

-- ---- the law

found_means : (scope : Scope) (reference : ColumnRef) (found : Found) (search : Search) → Known scope reference search → only search ≡ Some found → Means scope reference found
found_means scope reference found Nowhere known h = absurd cc
found_means scope reference found (In other) known h = let same : other ≡ found = cc in subst (Means scope reference) same known
found_means scope reference found Several known h = absurd cc

nothing_means : (scope : Scope) (reference : ColumnRef) (search : Search) → Known scope reference search → only search ≡ None → MeansNothing scope reference
nothing_means scope reference Nowhere known h = inl known
nothing_means scope reference (In other) known h = absurd cc
nothing_means scope reference Several known h = inr known

-- where a table stands first, the same tables stand before it
same_front : (t u : ℕ) (before front behind back : List ℕ) → t ≡ u → before ++ t ∷ behind ≡ front ++ u ∷ back → All (λ x. x ≢ t) before → All (λ x. x ≢ u) front → before ≡ front
same_front t u [] [] behind back same lists h g = refl
same_front t u [] (y ∷ front) behind back same lists h g = let at : y ≡ u = cc in absurd (All-head (λ x. x ≢ u) y front g at)
same_front t u (x ∷ before) [] behind back same lists h g = let at : x ≡ t = cc in absurd (All-head (λ x. x ≢ t) x before h at)
same_front t u (x ∷ before) (y ∷ front) behind back same lists h g =
    let one : x ≡ y = cc in
    let rest : before ++ t ∷ behind ≡ front ++ u ∷ back = cc in
    let fronts = same_front t u before front behind back same rest (All-tail (λ x. x ≢ t) x before h) (All-tail (λ x. x ≢ u) y front g) in
    cc

-- what is meant is the table's column with the name
is_meant : (scope : Scope) (reference : ColumnRef) (found : Found) (means : Means scope reference found) → found ≡ ordinal_found found.table (total_width scope.catalog means.before) means.meant.ordinal means.meant.column
is_meant scope reference found means =
    let number : found ≡ record { table = found.table; column = total_width scope.catalog means.before + means.meant.ordinal; kind = found.kind } =
    ap (λ (n : ℕ). record { table = found.table; column = n; kind = found.kind }) means.number in
    number ∙ ap (λ (k : Kind). record { table = found.table; column = total_width scope.catalog means.before + means.meant.ordinal; kind = k }) means.kind

-- a reference means one column at most
means_once : (scope : Scope) (reference : ColumnRef) (found other : Found) → Means scope reference found → Means scope reference other → found ≡ other
means_once scope reference found other means also =
    let same : found.table ≡ other.table = also.alone found.table means.meant in
    let fronts = same_front found.table other.table means.before also.before means.behind also.behind same (sym means.tables ∙ also.tables) means.first also.first in
    let one = offered scope.script scope.catalog scope.tables reference found.table (total_width scope.catalog means.before) means.meant in
    let two = offered scope.script scope.catalog scope.tables reference other.table (total_width scope.catalog also.before) also.meant in
    let is_one = is_meant scope reference found means in
    let is_two = is_meant scope reference other also in
    let offers : offer scope.script scope.catalog reference found.table (total_width scope.catalog means.before) ≡ offer scope.script scope.catalog reference other.table (total_width scope.catalog also.before) =
    ap (λ (n : ℕ). offer scope.script scope.catalog reference n (total_width scope.catalog means.before)) same
    ∙ ap (λ (tables : List ℕ). offer scope.script scope.catalog reference other.table (total_width scope.catalog tables)) fronts in
    is_one ∙ same_Some _ _ (sym one ∙ offers ∙ two) ∙ sym is_two

-- what means a column doesn't mean nothing
never_both : (scope : Scope) (reference : ColumnRef) (found : Found) → Means scope reference found → MeansNothing scope reference → ⊥
never_both scope reference found means (inl none) = none found.table means.meant
never_both scope reference found means (inr two) = two.differ (means.alone two.one two.is_one ∙ sym (means.alone two.other two.is_other))

meant_is_found : (scope : Scope) (reference : ColumnRef) (found : Found) (result : Option Found) → resolved scope reference ≡ result → Means scope reference found → resolved scope reference ≡ Some found
meant_is_found scope reference found None is means = absurd (never_both scope reference found means (nothing_means scope reference _ (known scope reference) is))
meant_is_found scope reference found (Some other) is means =
    is ∙ ap (λ (f : Found). Some f) (means_once scope reference other found (found_means scope reference other _ (known scope reference) is) means)

none_is_found : (scope : Scope) (reference : ColumnRef) (result : Option Found) → resolved scope reference ≡ result → MeansNothing scope reference → resolved scope reference ≡ None
none_is_found scope reference None is nothing = is
none_is_found scope reference (Some found) is nothing = absurd (never_both scope reference found (found_means scope reference found _ (known scope reference) is) nothing)

-- the search finds a column just where the reference means it
pub one_column : (scope : Scope) (reference : ColumnRef) (found : Found) → (resolved scope reference ≡ Some found) ↔ Means scope reference found
one_column scope reference found = (found_means scope reference found _ (known scope reference), meant_is_found scope reference found _ refl)

-- and none just where the reference means none
pub no_column : (scope : Scope) (reference : ColumnRef) → (resolved scope reference ≡ None) ↔ MeansNothing scope reference
no_column scope reference = (nothing_means scope reference _ (known scope reference), none_is_found scope reference _ refl)
