-- Which keyed records a change hits: those that seek a value that its row has, before or after it.
use Rattle.std.proofs.Common.{◌≡◌, ◌⊎◌, ℕ, ◌+◌, ◌<◌, ◌≤◌, List, length, get_or, refl, sym, ap, ◌∙◌, inl, inr, arith, subst}
use Rattle.std.specs.Prelude.{Bool, true, All, Any, Option, Some}
use Rattle.std.specs.List.Sorted.{IsPermutation, IsSorted}
use Rattle.std.specs.declared.cmp.Ordering.{Ordering}
use Rattle.std.specs.declared.cmp.Ordering.TheVariants.{Less, Equal, Greater}
use Rattle.std.proofs.lemmas.Bool.{both_ways, cases_lt}
use Rattle.std.proofs.lemmas.Cmp.{tied_back}
use Rattle.std.proofs.lemmas.List.{get_or_past}
use Rattle.std.proofs.lemmas.List.Sorted.{All-permutation, Contains-permutation}
use Rattle.hy_value.specs.declared.Value.{Value}
use Rattle.hy_value.specs.declared.Value.TheVariants.{Null, Int, Text}
use Rattle.hy_value.specs.declared.Cmp.TheVariants.{Eq}
use Rattle.hy_value.specs.declared.change.Change.{Change}
use Rattle.hy_value.specs.Columns.{has_column}
use Rattle.hy_value.specs.Order.{value_cmp, holds_at}
use Rattle.hy_value.specs.Refs.{referred}
use Rattle.hy_value.specs.TotalOrder.{values_total}
use Rattle.hy_bound.specs.declared.Record.{Record}
use Rattle.hy_bound.specs.Predicate.{column_of, compared, is_known, truth_at}
use Rattle.hy_validate.specs.declared.groups.Group.{Group}
use Rattle.hy_validate.specs.declared.keys.Key.{Key}
use Rattle.hy_validate.specs.declared.keys.Keyed.{Keyed}
use Rattle.hy_validate.specs.declared.keys.KeyedRecords.{KeyedRecords}
use Rattle.hy_validate.specs.Filed.{AreFiled, IsTree}
use Rattle.hy_validate.specs.Keys.{IsKeyOf, sought, keyed_cmp, AreOfKeys, HasNumber, HasValue, IsTrueIn, HasTrue}
use Rattle.hy_validate.specs.TreeHits.{is_hit_number, Finds, earlier_of}
use Rattle.hy_validate.proofs.Earliness.{MeetsFirst, meets_first}
use Rattle.hy_validate.proofs.Least.{finds_there, finds_both}

equal_from : (o : Ordering) → holds_at Eq o ≡ true → o ≡ Equal
equal_from Less h = cc
equal_from Equal h = refl
equal_from Greater h = cc

-- a value that is equal to another is not NULL, and ties with it
ties_with : (x v : Value) → is_known (compared Eq x v) ≡ true → value_cmp v x ≡ Equal
ties_with Null v h = cc
ties_with (Int m) Null h = cc
ties_with (Int m) (Int n) h = tied_back values_total (Int m) (Int n) (equal_from (value_cmp (Int m) (Int n)) h)
ties_with (Int m) (Text t) h = cc
ties_with (Text s) Null h = cc
ties_with (Text s) (Int n) h = cc
ties_with (Text s) (Text t) h = tied_back values_total (Text s) (Text t) (equal_from (value_cmp (Text s) (Text t)) h)

null_is_none : (x v : Value) → is_known (compared Eq x v) ≡ true → x ≡ Null → ⊥
null_is_none x v h e = both_ways (is_known (compared Eq x v)) (ap (λ y. is_known (compared Eq y v)) e) h

-- what is sought is in a row in a column of it
sought_within : (key : Key) (row : List Value) → truth_at (sought key) (Some row) ≡ true → key.column < length row
sought_within key row h =
    elim (cases_lt key.column (length row)) [
      | inl l ↦ l
      | inr past ↦ absurd (null_is_none (column_of row key.column) (referred key.value) h (get_or_past row key.column Null past))
    ]

-- the keyed records of which a column that is below some number is asked
abbrev pub HasBelow : ℕ → ℕ → Option (List Value) → List Keyed → ℕ → Type 0
HasBelow upto table row places number = Any (λ place. (place.key.column < upto) × IsTrueIn table row place.key × (place.number ≡ number)) places

-- one more column of a row
pub one_column_more : (is_hit : ℕ → Bool) (table column : ℕ) (row : List Value) (value : Value) (places : List Keyed) (first found : Option ℕ)
    → column_of row column ≡ value → Finds is_hit (HasBelow column table (Some row) places) first → Finds is_hit (HasValue table column value places) found
    → Finds is_hit (HasBelow (column + 1) table (Some row) places) (earlier_of first found)
one_column_more is_hit table column row value places first found is p q =
    finds_both is_hit (HasBelow column table (Some row) places) (HasValue table column value places) (HasBelow (column + 1) table (Some row) places)
    first found p q
    (λ n a t. by n a (cases_lt a.1.key.column column))
  where
    by : (n : ℕ) (a : HasBelow (column + 1) table (Some row) places n) → (a.1.key.column < column) ⊎ (column ≤ a.1.key.column)
        → HasBelow column table (Some row) places n ⊎ HasValue table column value places n
    by n a (inl l) = inl (a.0, a.1, a.2, a.3, (l, a.4.1, a.4.2))
    by n a (inr l) =
        let up = a.4.0 in
        let at : a.1.key.column ≡ column = omega arith in
        let here : column_of row a.1.key.column ≡ value = ap (column_of row) at ∙ is in
        let tie = ties_with (column_of row a.1.key.column) (referred a.1.key.value) a.4.1.holds in
        let ties = ap (value_cmp (referred a.1.key.value)) (sym here) ∙ tie in
        inr (a.0, a.1, a.2, a.3, (record { table_is = a.4.1.table_is; column_is = at; ties = ties }, a.4.2))

-- what is found in all columns of a row is found in it
pub all_columns : (is_hit : ℕ → Bool) (table upto : ℕ) (row : List Value) (places : List Keyed) (first : Option ℕ) → length row ≤ upto
    → Finds is_hit (HasBelow upto table (Some row) places) first → Finds is_hit (HasTrue table (Some row) places) first
all_columns is_hit table upto row places first all finds =
    finds_there is_hit (HasBelow upto table (Some row) places) (HasTrue table (Some row) places) first finds
    (λ n a t. (let l = sought_within a.1.key row a.4.0.holds in (a.0, a.1, a.2, a.3, (omega arith, a.4.0, a.4.1))))

-- a change hits those records alone that seek what its row has, before or after it
pub in_either_row : (records : List Record) (change : Change) (places : List Keyed) (before after : Option ℕ) → AreOfKeys records places
    → Finds (is_hit_number records change) (HasTrue change.table change.before places) before
    → Finds (is_hit_number records change) (HasTrue change.table change.after places) after
    → Finds (is_hit_number records change) (HasNumber places) (earlier_of before after)
in_either_row records change places before after own p q =
    finds_both (is_hit_number records change) (HasTrue change.table change.before places) (HasTrue change.table change.after places) (HasNumber places)
    before after p q (λ n a t. by n a (meets n a t))
  where
    meets : (n : ℕ) (a : HasNumber places n) → is_hit_number records change n ≡ true → MeetsFirst a.1.key.table (sought a.1.key) change
    meets n a t =
        let at = subst (λ (p : Keyed). (d : Record) → IsKeyOf (get_or records p.number d) p.key) a.3 (own a.0 a.1 a.2) in
        let of = subst (λ (k : ℕ). (d : Record) → IsKeyOf (get_or records k d) a.1.key) a.4 at in
        meets_first records change n a.1.key.table (sought a.1.key) (λ d. ((of d).table, (of d).first)) t

    by : (n : ℕ) (a : HasNumber places n) → MeetsFirst a.1.key.table (sought a.1.key) change
        → HasTrue change.table change.before places n ⊎ HasTrue change.table change.after places n
    by n a m =
        elim m.either [
          | inl b ↦ inl (a.0, a.1, a.2, a.3, (record { table_is = m.same; holds = b }, a.4))
          | inr b ↦ inr (a.0, a.1, a.2, a.3, (record { table_is = m.same; holds = b }, a.4))
        ]

-- what a permutation of the keyed records leaves
number_kept : (old new : List Keyed) (n : ℕ) → IsPermutation old new → HasNumber old n → HasNumber new n
number_kept old new n moved a = let c = Contains-permutation old new a.1 moved (a.0, a.2, a.3) in (c.0, a.1, c.1, c.2, a.4)

pub tree_from_sort : (records : List Record) (old new : KeyedRecords) (groups : List Group) → AreFiled records (length records) old groups
    → new.columns ≡ old.columns → IsPermutation old.places.items new.places.items → IsSorted keyed_cmp new.places.items → IsTree records new groups
tree_from_sort records old new groups filed same moved up =
    record {
      filed = record {
        keyed_are = record {
          of_keys = All-permutation (λ place. (d : Record) → IsKeyOf (get_or records place.number d) place.key)
              old.places.items new.places.items moved filed.keyed_are.of_keys;
          masked = subst (λ columns. All (λ place. has_column columns place.key.column ≡ true) new.places.items) (sym same)
              (All-permutation (λ place. has_column old.columns place.key.column ≡ true) old.places.items new.places.items moved filed.keyed_are.masked);
        };
        grouped = filed.grouped;
        complete = λ n l. elim (filed.complete n l) [
          | inl has ↦ inl (number_kept old.places.items new.places.items n moved has)
          | inr there ↦ inr there
        ];
      };
      sorted = up;
    }
