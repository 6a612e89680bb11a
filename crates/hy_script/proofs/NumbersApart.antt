-- Keys of which the numbers are kept apart: which there are, and one more.
use Rattle.std.proofs.Common.{◌≡◌, ℤ, Bool, true, false, List, [], ◌∷◌, ◌++◌, refl, ap, sym, ◌∙◌}
use Rattle.std.specs.Prelude.{map, ◌||◌, ◌&&◌}
use Rattle.std.specs.List.{filter, list_any}
use Rattle.std.specs.BTreeSet.{insert_key}
use Rattle.std.specs.Ordering.{int_cmp, is_eq, match_ordering}
use Rattle.std.specs.declared.cmp.Ordering.{Ordering}
use Rattle.std.specs.declared.cmp.Ordering.TheVariants.{Less, Equal, Greater}
use Rattle.std.proofs.lemmas.List.Folds.{list_any-append}
use Rattle.hy_value.specs.declared.Value.{Value}
use Rattle.hy_value.specs.declared.Value.TheVariants.{Null, Int, Text}
use Rattle.hy_value.specs.Order.{value_cmp}
use Rattle.hy_value.specs.Sorted.{with_value, is_one_of, distinct}
use Rattle.hy_value.specs.Distinct.{one_of_more, one_of_distinct, ascends_distinct, distinct_are_one}
use Rattle.hy_value.specs.Refs.{referred}
use Rattle.hy_value.specs.declared.refs.ValueRef.{ValueRef}
use Rattle.hy_value.specs.declared.refs.ValueRef.TheVariants as seen
use Rattle.hy_script.specs.Keys.{is_other, keys_of}

-- what is seen and is no number
pub seen_other : (value : ValueRef) → ((number : ℤ) → value ≡ seen.Int number → ⊥) → is_other (referred value) ≡ true
seen_other seen.Null none = refl
seen_other (seen.Int number) none = absurd (none number refl)
seen_other (seen.Text text) none = refl

or_false : (a : Bool) → (a || false) ≡ a
or_false true = refl
or_false false = refl

or_assoc : (a b c : Bool) → ((a || b) || c) ≡ (a || (b || c))
or_assoc true b c = refl
or_assoc false b c = refl

or_swap : (a b c : Bool) → (a || (b || c)) ≡ (b || (a || c))
or_swap true true c = refl
or_swap true false c = refl
or_swap false b c = refl

number_more_if : (o : Ordering) (number first : ℤ) (rest : List ℤ) → map Int (insert_key int_cmp rest number) ≡ with_value (map Int rest) (Int number)
    → map Int (match_ordering o (number ∷ first ∷ rest) (first ∷ rest) (first ∷ insert_key int_cmp rest number))
    ≡ match_ordering o (Int number ∷ Int first ∷ map Int rest) (Int first ∷ map Int rest) (Int first ∷ with_value (map Int rest) (Int number))
number_more_if Less number first rest ih = refl
number_more_if Equal number first rest ih = refl
number_more_if Greater number first rest ih = ap (λ (values : List Value). Int first ∷ values) ih

-- numbers stand among themselves as their values do
number_more : (numbers : List ℤ) (number : ℤ) → map Int (insert_key int_cmp numbers number) ≡ with_value (map Int numbers) (Int number)
number_more [] number = refl
number_more (first ∷ rest) number = number_more_if (int_cmp number first) number first rest (number_more rest number)

one_of_numbers : (numbers : List ℤ) (number : ℤ) → is_one_of (map Int numbers) (Int number) ≡ list_any (λ other. is_eq (int_cmp number other)) numbers
one_of_numbers [] number = refl
one_of_numbers (first ∷ rest) number = ap (λ (b : Bool). is_eq (int_cmp number first) || b) (one_of_numbers rest number)

none_of_numbers : (value : Value) (numbers : List ℤ) → is_other value ≡ true → is_one_of (map Int numbers) value ≡ false
none_of_numbers Null [] e = refl
none_of_numbers Null (first ∷ rest) e = none_of_numbers Null rest e
none_of_numbers (Int number) numbers e = cc
none_of_numbers (Text text) [] e = refl
none_of_numbers (Text text) (first ∷ rest) e = none_of_numbers (Text text) rest e

-- of the others only those count that are no numbers
one_of_others : (others : List Value) (value : Value) → is_one_of (filter is_other others) value ≡ (is_other value && is_one_of others value)
one_of_others [] Null = refl
one_of_others [] (Int number) = refl
one_of_others [] (Text text) = refl
one_of_others (Null ∷ rest) Null = refl
one_of_others (Null ∷ rest) (Int number) = one_of_others rest (Int number)
one_of_others (Null ∷ rest) (Text text) = one_of_others rest (Text text)
one_of_others (Int first ∷ rest) Null = one_of_others rest Null
one_of_others (Int first ∷ rest) (Int number) = one_of_others rest (Int number)
one_of_others (Int first ∷ rest) (Text text) = one_of_others rest (Text text)
one_of_others (Text first ∷ rest) Null = one_of_others rest Null
one_of_others (Text first ∷ rest) (Int number) = one_of_others rest (Int number)
one_of_others (Text first ∷ rest) (Text text) = ap (λ (b : Bool). is_eq (value_cmp (Text text) (Text first)) || b) (one_of_others rest (Text text))

one_of_all : (numbers : List ℤ) (others : List Value) (value : Value)
    → is_one_of (map Int numbers ++ filter is_other others) value ≡ (is_one_of (map Int numbers) value || (is_other value && is_one_of others value))
one_of_all numbers others value =
    list_any-append (λ other. is_eq (value_cmp value other)) (map Int numbers) (filter is_other others)
    ∙ ap (λ (b : Bool). is_one_of (map Int numbers) value || b) (one_of_others others value)

-- a number is a key exactly if it is one of the numbers
pub has_number : (numbers : List ℤ) (others : List Value) (number : ℤ) → is_one_of (keys_of numbers others) (Int number) ≡ list_any (λ other. is_eq (int_cmp number other)) numbers
has_number numbers others number =
    one_of_distinct (map Int numbers ++ filter is_other others) (Int number)
    ∙ one_of_all numbers others (Int number)
    ∙ or_false (is_one_of (map Int numbers) (Int number))
    ∙ one_of_numbers numbers number

-- another value is a key exactly if it is one of the others
pub has_other : (numbers : List ℤ) (others : List Value) (value : Value) → is_other value ≡ true → is_one_of (keys_of numbers others) value ≡ is_one_of others value
has_other numbers others value e =
    one_of_distinct (map Int numbers ++ filter is_other others) value
    ∙ one_of_all numbers others value
    ∙ ap (λ (b : Bool). b || (is_other value && is_one_of others value)) (none_of_numbers value numbers e)
    ∙ ap (λ (b : Bool). b && is_one_of others value) e

distinct_alike : (xs ys : List Value) → ((wanted : Value) → is_one_of xs wanted ≡ is_one_of ys wanted) → distinct xs ≡ distinct ys
distinct_alike xs ys h =
    distinct_are_one ys (distinct xs) (record {
      same = λ wanted. one_of_distinct xs wanted ∙ h wanted;
      ascends = ascends_distinct xs;
    })

front_more : (front back : List Value) (value wanted : Value) → is_one_of (with_value front value ++ back) wanted ≡ is_one_of (value ∷ front ++ back) wanted
front_more front back value wanted =
    let test : Value → Bool = λ other. is_eq (value_cmp wanted other) in
    list_any-append test (with_value front value) back
    ∙ ap (λ (b : Bool). b || is_one_of back wanted) (one_of_more front value wanted)
    ∙ or_assoc (is_eq (value_cmp wanted value)) (is_one_of front wanted) (is_one_of back wanted)
    ∙ ap (λ (b : Bool). is_eq (value_cmp wanted value) || b) (sym (list_any-append test front back))

-- one number more is one key more
pub insert_number : (numbers : List ℤ) (others : List Value) (number : ℤ) → keys_of (insert_key int_cmp numbers number) others ≡ with_value (keys_of numbers others) (Int number)
insert_number numbers others number =
    ap (λ (values : List Value). distinct (values ++ filter is_other others)) (number_more numbers number)
    ∙ distinct_alike (with_value (map Int numbers) (Int number) ++ filter is_other others) (Int number ∷ map Int numbers ++ filter is_other others)
    (front_more (map Int numbers) (filter is_other others) (Int number))

other_more : (value wanted : Value) (a b : Bool) → is_other value ≡ true
    → (a || (is_other wanted && (is_eq (value_cmp wanted value) || b))) ≡ (is_eq (value_cmp wanted value) || (a || (is_other wanted && b)))
other_more value Null a b e = or_swap a (is_eq (value_cmp Null value)) b
other_more Null (Int wanted) a b e = refl
other_more (Int number) (Int wanted) a b e = cc
other_more (Text text) (Int wanted) a b e = refl
other_more value (Text wanted) a b e = or_swap a (is_eq (value_cmp (Text wanted) value)) b

-- one more of the others is one key more
pub insert_other : (numbers : List ℤ) (others : List Value) (value : Value) → is_other value ≡ true → keys_of numbers (with_value others value) ≡ with_value (keys_of numbers others) value
insert_other numbers others value e =
    distinct_alike (map Int numbers ++ filter is_other (with_value others value)) (value ∷ map Int numbers ++ filter is_other others) (λ wanted.
    let numbered = is_one_of (map Int numbers) wanted in
    one_of_all numbers (with_value others value) wanted
    ∙ ap (λ (b : Bool). numbered || (is_other wanted && b)) (one_of_more others value wanted)
    ∙ other_more value wanted numbered (is_one_of others wanted) e
    ∙ ap (λ (b : Bool). is_eq (value_cmp wanted value) || b) (sym (one_of_all numbers others wanted)))
