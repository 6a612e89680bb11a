-- What is gathered by conditions, and by keys.
use Rattle.std.proofs.Common.{◌≡◌, ℕ, ◌≤◌, Bool, true, false, List, [], ◌∷◌, ◌++◌, map, length, None, Some, refl, sym, ap, ◌∙◌, cond}
use Rattle.std.specs.Prelude.{◌&&◌, ◌||◌, nat_le, filter}
use Rattle.std.specs.List.{list_any}
use Rattle.std.proofs.lemmas.Bool.{le-leb}
use Rattle.hy_value.specs.declared.Value.{Value}
use Rattle.hy_value.specs.declared.ColMask.{ColMask}
use Rattle.hy_bound.specs.Changes.{present}
use Rattle.hy_bound.specs.Condition.{Condition}
use Rattle.hy_bound.specs.Predicate.{truth_of}
use Rattle.hy_bound.specs.Projection.{projected}
use Rattle.hy_bound.specs.Records.{conjoined}
use Rattle.hy_bound.specs.Truths.{and_also_truth}
use Rattle.hy_plan.specs.Reads.{by_key_of, is_read_of, key_is_value, most_keys}
use Rattle.hy_undo.specs.Places.{Cell}
use Rattle.hy_chunk.specs.Gathering.{kept_by, kept_of, GathersOne, GathersRead}

or_false : (b : Bool) → (b || false) ≡ b
or_false true = refl
or_false false = refl

and_false : (b : Bool) → (b && false) ≡ false
and_false true = refl
and_false false = refl

and_shared : (a b c : Bool) → ((a && b) || (a && c)) ≡ (a && (b || c))
and_shared true b c = refl
and_shared false b c = refl

kept_by_one : (columns : ColMask) (pred : Condition) (cell : Cell) → kept_by columns (pred ∷ []) cell ≡ kept_of columns pred cell
kept_by_one columns pred None = refl
kept_by_one columns pred (Some row) = ap (λ (b : Bool). cond b (projected columns row ∷ []) []) (or_false (truth_of pred row))

pub by_one : GathersOne
by_one columns pred [] = refl
by_one columns pred (cell ∷ cells) = λ i. kept_by_one columns pred cell i ++ by_one columns pred cells i

kept_or_not : (columns : ColMask) (row : List Value) (rows : List (List Value)) (b : Bool)
    → (cond b (projected columns row ∷ []) [] ++ map (projected columns) rows) ≡ map (projected columns) (cond b (row ∷ rows) rows)
kept_or_not columns row rows true = refl
kept_or_not columns row rows false = refl

pub by_any : GathersRead
by_any columns conditions [] = refl
by_any columns conditions (None ∷ cells) = by_any columns conditions cells
by_any columns conditions (Some row ∷ cells) =
    ap (λ (rows : List (List Value)). kept_by columns conditions (Some row) ++ rows) (by_any columns conditions cells)
    ∙ kept_or_not columns row (filter (is_read_of conditions) (present cells)) (is_read_of conditions row)

-- a condition with one of the keys is true where the condition is, and the row has one of the keys
looked_up : (pred : Condition) (key : ℕ) (row : List Value) (values : List Value)
    → is_read_of (map (λ value. conjoined pred (key_is_value key value)) values) row
    ≡ (truth_of pred row && list_any (λ value. truth_of (key_is_value key value) row) values)
looked_up pred key row [] = sym (and_false (truth_of pred row))
looked_up pred key row (value ∷ values) =
    (λ i. and_also_truth pred (key_is_value key value) row i || looked_up pred key row values i)
    ∙ and_shared (truth_of pred row) (truth_of (key_is_value key value) row) (list_any (λ v. truth_of (key_is_value key v) row) values)

by_few : (few : Bool) (pred : Condition) (key : ℕ) (row : List Value) (values : List Value)
    → is_read_of (cond few (map (λ value. conjoined pred (key_is_value key value)) values) (pred ∷ [])) row
    ≡ (truth_of pred row && cond few (list_any (λ value. truth_of (key_is_value key value) row) values) true)
by_few true pred key row values = looked_up pred key row values
by_few false pred key row values = or_false (truth_of pred row) ∙ and_true (truth_of pred row)
  where
    and_true : (b : Bool) → b ≡ (b && true)
    and_true true = refl
    and_true false = refl

-- a row is looked up where the condition is true of it, and it has one of the keys or they are many
pub by_key : (pred : Condition) (key : ℕ) (row : List Value) (values : List Value)
    → is_read_of (by_key_of pred key values) row
    ≡ (truth_of pred row && cond (nat_le (length values) most_keys) (list_any (λ value. truth_of (key_is_value key value) row) values) true)
by_key pred key row values = by_few (nat_le (length values) most_keys) pred key row values

pub not_looked_up : (pred : Condition) (key : ℕ) (row : List Value) (values : List Value) → truth_of pred row ≡ false
    → false ≡ is_read_of (by_key_of pred key values) row
not_looked_up pred key row values isnt =
    sym (by_key pred key row values
    ∙ ap (λ (b : Bool). b && cond (nat_le (length values) most_keys) (list_any (λ value. truth_of (key_is_value key value) row) values) true) isnt)

pub few_looked_up : (pred : Condition) (key : ℕ) (row : List Value) (values : List Value) → truth_of pred row ≡ true → length values ≤ most_keys
    → list_any (λ value. truth_of (key_is_value key value) row) values ≡ is_read_of (by_key_of pred key values) row
few_looked_up pred key row values is few =
    let has : Bool = list_any (λ value. truth_of (key_is_value key value) row) values in
    sym (by_key pred key row values
    ∙ ((λ i. is i && cond (nat_le (length values) most_keys) has true) ∙ ap (λ (b : Bool). cond b has true) (le-leb (length values) most_keys few)))
