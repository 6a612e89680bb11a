-- The columns by which a look-up asks are those that were gathered for the parts before it.
use Rattle.std.proofs.Common.{◌≡◌, ℕ, ◌+◌, ◌<◌, ◌≤◌, List, [], ◌∷◌, ◌++◌, length, map, take, get_or, Option, None, Some}
use Rattle.std.proofs.Common.{refl, sym, ap, ◌∙◌, arith, append_assoc, length-append}
use Rattle.std.specs.Prelude.{slice_get}
use Rattle.std.proofs.lemmas.List.{get_or_append_left}
use Rattle.std.proofs.lemmas.List.FromFn.{length-map-range_with_len}
use Rattle.std.proofs.lemmas.Option.{slice_get_within}
use Rattle.hy_value.specs.declared.Value.{Value}
use Rattle.hy_bound.specs.Condition.{Condition}
use Rattle.hy_bound.specs.Predicate.{column_of}
use Rattle.hy_meaning.specs.Statement.{Table}
use Rattle.hy_plan.specs.declared.Lookup.{Lookup}
use Rattle.hy_plan.specs.declared.PlanPart.{PlanPart}
use Rattle.hy_plan.specs.Reads.{by_key_of, known_values_of, columns_over}
use Rattle.hy_gathered.specs.Answers.{spread_all}
use Rattle.hy_laws.specs.Lookups.{spread_of}
use Rattle.hy_laws.specs.Turns.{columns_gathered}
use Rattle.hy_event.specs.Gathering.{joined_columns, conditions_by}

-- how many columns parts have
abbrev pub widths : List PlanPart → ℕ
widths [] = 0
widths (part ∷ parts) = part.width + widths parts

-- each look-up is by a column of a part before it
abbrev pub AreLookedUpEarlier : List PlanPart → Type 0
AreLookedUpEarlier parts =
    (turn : ℕ) (part : PlanPart) (lookup : Lookup) → slice_get parts turn ≡ Some part → part.lookup ≡ Some lookup → lookup.source < widths (take turn parts)

-- ---- the columns of a joined row

columns_begin : (parts : List PlanPart) (earlier more : List Table) → length earlier ≤ length parts
    → (rest : List (List Value)) × (joined_columns parts (spread_all parts (earlier ++ more))
    ≡ columns_gathered (take (length earlier) parts) earlier ++ rest)
columns_begin parts [] more less = (joined_columns parts (spread_all parts more), refl)
columns_begin [] (rows ∷ earlier) more less = absurd (omega (arith, less))
columns_begin (part ∷ parts) (rows ∷ earlier) more less =
    let later = columns_begin parts earlier more (omega (arith, less)) in
    let here : List (List Value) = columns_over part.width (spread_of part rows) in (
      later.0,
      ap (λ (columns : List (List Value)). here ++ columns) later.1
          ∙ sym (append_assoc here (columns_gathered (take (length earlier) parts) earlier) later.0),
    )

columns_count : (parts : List PlanPart) (earlier : List Table) → length earlier ≤ length parts
    → length (columns_gathered (take (length earlier) parts) earlier) ≡ widths (take (length earlier) parts)
columns_count parts [] less = refl
columns_count [] (rows ∷ earlier) less = absurd (omega (arith, less))
columns_count (part ∷ parts) (rows ∷ earlier) less =
    let here : List (List Value) = columns_over part.width (spread_of part rows) in
    let joined = length-append here (columns_gathered (take (length earlier) parts) earlier) in
    let wide : length here ≡ part.width =
    length-map-range_with_len (λ (column : ℕ). map (λ (row : List Value). column_of row column) (spread_of part rows)) 0 part.width in
    let later = columns_count parts earlier (omega (arith, less)) in
    omega (arith, joined, wide, later)

-- ---- the conditions of a part

by_column : (pred : Condition) (lookup : Option Lookup) (columns others : List (List Value))
    → ((one : Lookup) → lookup ≡ Some one → get_or columns one.source [] ≡ get_or others one.source [])
    → conditions_by pred lookup columns ≡ conditions_by pred lookup others
by_column pred None columns others same = refl
by_column pred (Some one) columns others same =
    ap (λ (values : List Value). by_key_of pred one.key (known_values_of values)) (same one refl)

-- whatever is gathered besides, they are by what was gathered for the parts before it
pub conditions_same : (parts : List PlanPart) (earlier more gathered : List Table) (part : PlanPart) → AreLookedUpEarlier parts
    → slice_get parts (length earlier) ≡ Some part → gathered ≡ earlier ++ more
    → conditions_by part.pred part.lookup (joined_columns parts (spread_all parts gathered))
    ≡ conditions_by part.pred part.lookup (columns_gathered (take (length earlier) parts) earlier)
conditions_same parts earlier more gathered part before e is =
    by_column part.pred part.lookup (joined_columns parts (spread_all parts gathered)) (columns_gathered (take (length earlier) parts) earlier)
    (λ one looks.
    let within = slice_get_within parts (length earlier) part e in
    let less : length earlier ≤ length parts = omega (arith, within) in
    let begin = columns_begin parts earlier more less in
    let count = columns_count parts earlier less in
    let early = before (length earlier) part one e looks in
    ap (λ (columns : List (List Value)). get_or columns one.source []) (ap (λ (taken : List Table). joined_columns parts (spread_all parts taken)) is ∙ begin.1)
    ∙ get_or_append_left (columns_gathered (take (length earlier) parts) earlier) begin.0 [] one.source (omega (arith, count, early)))
