-- The rows that a look-up wants are those that are read by their key.
use Rattle.std.proofs.Common.{◌≡◌, ℕ, List, [], ◌∷◌, length, map, filter, refl, ap, ◌∙◌, Ordering, Less, Equal, Greater, is_eq}
use Rattle.std.specs.Ordering.{match_ordering}
use Rattle.std.specs.Prelude.{Bool, true, false, cond, not, ◌&&◌, ◌||◌, nat_le, if◌then◌else◌, Option, None, Some, slice_index_or}
use Rattle.std.specs.List.{AllByRecursion}
use Rattle.hy_value.specs.declared.Value.{Value}
use Rattle.hy_value.specs.declared.Value.TheVariants.{Null, Int, Text}
use Rattle.hy_value.specs.declared.Cmp.TheVariants.{Eq}
use Rattle.hy_value.specs.Order.{value_cmp, holds_at}
use Rattle.hy_value.specs.Sorted.{with_value, distinct, is_one_of}
use Rattle.hy_bound.specs.Condition.{Condition}
use Rattle.hy_bound.specs.Predicate.{column_of, compared, is_null_value, is_known, truth_of}
use Rattle.hy_bound.specs.Records.{conjoined}
use Rattle.hy_bound.specs.Truths.{and_also_truth}
use Rattle.hy_plan.specs.Plans.{lookup_of}
use Rattle.hy_plan.specs.Reads.{is_read_of, key_is_value, known_values_of, most_keys, read_by_of}
use Rattle.hy_laws.specs.Lookups.{is_wanted}

-- values none of which is NULL
abbrev AreKnown : List Value → Type 0
AreKnown values = AllByRecursion (λ value. is_null_value value ≡ false) values

known_put : (o : Ordering) (value first : Value) (rest : List Value) → is_null_value value ≡ false → AreKnown (first ∷ rest) → AreKnown (with_value rest value)
    → AreKnown (match_ordering o (value ∷ first ∷ rest) (first ∷ rest) (first ∷ with_value rest value))
known_put Less value first rest known each more = (known, each)
known_put Equal value first rest known each more = each
known_put Greater value first rest known each more = (each.0, more)

known_more : (values : List Value) (value : Value) → is_null_value value ≡ false → AreKnown values → AreKnown (with_value values value)
known_more [] value known each = (known, tt)
known_more (first ∷ rest) value known each = known_put (value_cmp value first) value first rest known each (known_more rest value known each.1)

known_distinct : (values : List Value) → AreKnown values → AreKnown (distinct values)
known_distinct [] each = tt
known_distinct (value ∷ values) each = known_more (distinct values) value each.0 (known_distinct values each.1)

known_kept : (values : List Value) → AreKnown (filter (λ value. not (is_null_value value)) values)
known_kept [] = tt
known_kept (value ∷ values) = by_test (is_null_value value) refl (known_kept values)
  where
    others : List Value
    others = filter (λ other. not (is_null_value other)) values

    by_test : (b : Bool) → is_null_value value ≡ b → AreKnown others → AreKnown (cond (not b) (value ∷ others) others)
    by_test true is later = later
    by_test false is later = (is, later)

-- no known value is NULL
known_each : (values : List Value) → AreKnown (known_values_of values)
known_each values = known_distinct (filter (λ value. not (is_null_value value)) values) (known_kept values)

equal_held : (o : Ordering) → holds_at Eq o ≡ is_eq o
equal_held Less = refl
equal_held Equal = refl
equal_held Greater = refl

-- equality with a value other than NULL is true of that value alone
equal_known : (one other : Value) → is_null_value other ≡ false → is_known (compared Eq one other) ≡ is_eq (value_cmp one other)
equal_known one Null known = cc
equal_known Null (Int n) known = refl
equal_known Null (Text t) known = refl
equal_known (Int m) (Int n) known = equal_held (value_cmp (Int m) (Int n))
equal_known (Int m) (Text t) known = equal_held (value_cmp (Int m) (Text t))
equal_known (Text s) (Int n) known = equal_held (value_cmp (Text s) (Int n))
equal_known (Text s) (Text t) known = equal_held (value_cmp (Text s) (Text t))

and_never : (b : Bool) → false ≡ (b && false)
and_never true = refl
and_never false = refl

and_either : (a b c : Bool) → ((a && b) || (a && c)) ≡ (a && (b || c))
and_either true b c = refl
and_either false b c = refl

-- a row is read by its key where the condition is true and its key is one of the values
read_by_key : (condition : Condition) (key : ℕ) (values : List Value) (row : List Value) → AreKnown values
    → is_read_of (map (λ value. conjoined condition (key_is_value key value)) values) row ≡ (truth_of condition row && is_one_of values (column_of row key))
read_by_key condition key [] row known = and_never (truth_of condition row)
read_by_key condition key (value ∷ values) row known =
    let own : truth_of (conjoined condition (key_is_value key value)) row ≡ (truth_of condition row && is_eq (value_cmp (column_of row key) value)) =
    and_also_truth condition (key_is_value key value) row ∙ ap (λ b. truth_of condition row && b) (equal_known (column_of row key) value known.0) in
    ap (λ b. b || is_read_of (map (λ other. conjoined condition (key_is_value key other)) values) row) own
    ∙ (ap (λ b. (truth_of condition row && is_eq (value_cmp (column_of row key) value)) || b) (read_by_key condition key values row known.1)
    ∙ and_either (truth_of condition row) (is_eq (value_cmp (column_of row key) value)) (is_one_of values (column_of row key)))

read_by_one : (b : Bool) → (b || false) ≡ (b && true)
read_by_one true = refl
read_by_one false = refl

-- while the keys are few; else it is read where the condition is true
read_if_few : (few : Bool) (condition : Condition) (key : ℕ) (values : List Value) (row : List Value) → AreKnown values
    → is_read_of (if few then map (λ value. conjoined condition (key_is_value key value)) values else condition ∷ []) row
    ≡ (truth_of condition row && (if few then is_one_of values (column_of row key) else true))
read_if_few true condition key values row known = read_by_key condition key values row known
read_if_few false condition key values row known = read_by_one (truth_of condition row)

-- a row is read where the condition is true of it and the look-up wants it
pub read_where_wanted : (condition : Condition) (key source : Option ℕ) (earlier : List (List Value)) (row : List Value)
    → is_read_of (read_by_of condition key source earlier) row ≡ (truth_of condition row && is_wanted (lookup_of key source) earlier row)
read_where_wanted condition None source earlier row = read_by_one (truth_of condition row)
read_where_wanted condition (Some key) None earlier row = read_by_one (truth_of condition row)
read_where_wanted condition (Some key) (Some source) earlier row =
    let values : List Value = slice_index_or earlier source [] in
    read_if_few (nat_le (length (known_values_of values)) most_keys) condition key (known_values_of values) row (known_each values)
