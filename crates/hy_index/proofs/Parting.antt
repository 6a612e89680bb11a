-- The parts of an index, when an entry comes, goes or is found.
use Rattle.std.proofs.Common.{◌≡◌, ℕ, ◌≤◌, Bool, true, false, ℤ, List, [], ◌∷◌, ◌++◌, refl, ap, ◌∙◌, cond, arith, inl, inr, length, ◌+◌, ◌<◌, sym, subst}
use Rattle.std.specs.Prelude.{filter, Contains}
use Rattle.std.specs.List.{AllByRecursion}
use Rattle.std.specs.Ordering.{is_lt}
use Rattle.std.specs.declared.cmp.Ordering.TheVariants.{Less, Greater}
use Rattle.std.proofs.lemmas.List.Elements.{Contains-append_left, Contains-append_right, Contains-append_cases, filter-append}
use Rattle.hy_value.specs.declared.Value.{Value}
use Rattle.hy_value.specs.declared.Value.TheVariants.{Null, Int, Text}
use Rattle.hy_value.specs.declared.Kind.{Kind}
use Rattle.hy_value.specs.declared.Kind.TheVariants as kind
use Rattle.hy_value.specs.Order.{value_cmp}
use Rattle.hy_index.specs.Entries.{IndexEntry, entry, entry_cmp, has_key, with_entry, without_entry}
use Rattle.hy_index.specs.Indexed.{Kept}
use Rattle.hy_index.specs.Kinds.{IsOfKind}
use Rattle.hy_index.specs.Parts.{IsNull, IsNumber, IsText, IsParted, capacity_of, count_all}
use Rattle.hy_index.proofs.Apart.{AllStand, each_so, with_behind, with_before, without_none, find_none, not_in}
use Rattle.hy_index.proofs.Edits.{all_filter}

null_number : (key : Value) (n : ℤ) → IsNull key → value_cmp key (Int n) ≡ Less
null_number Null n is = refl
null_number (Int m) n is = absurd is
null_number (Text t) n is = absurd is

null_text : (key : Value) (t : List ℕ) → IsNull key → value_cmp key (Text t) ≡ Less
null_text Null t is = refl
null_text (Int m) t is = absurd is
null_text (Text s) t is = absurd is

number_null : (key : Value) → IsNumber key → value_cmp key Null ≡ Greater
number_null Null is = absurd is
number_null (Int m) is = refl
number_null (Text t) is = absurd is

number_text : (key : Value) (t : List ℕ) → IsNumber key → value_cmp key (Text t) ≡ Less
number_text Null t is = absurd is
number_text (Int m) t is = refl
number_text (Text s) t is = absurd is

text_null : (key : Value) → IsText key → value_cmp key Null ≡ Greater
text_null Null is = absurd is
text_null (Int m) is = absurd is
text_null (Text t) is = refl

text_number : (key : Value) (n : ℤ) → IsText key → value_cmp key (Int n) ≡ Greater
text_number Null n is = absurd is
text_number (Int m) n is = absurd is
text_number (Text t) n is = refl

both : (P : IndexEntry → Type 0) (xs ys : List IndexEntry) → AllByRecursion P xs → AllByRecursion P ys → AllByRecursion P (xs ++ ys)
both P [] ys all others = others
both P (x ∷ xs) ys all others = (all.0, both P xs ys all.1 others)

pub each_with : (P : IndexEntry → Type 0) (e : IndexEntry) (xs : List IndexEntry) → P e → AllByRecursion P xs → AllByRecursion P (with_entry e xs)
each_with P e [] it all = (it, tt)
each_with P e (x ∷ xs) it all =
    elim (is_lt (entry_cmp x e)) as (λ (b : Bool). AllByRecursion P (cond b (x ∷ with_entry e xs) (e ∷ x ∷ xs))) [
      | true ↦ (all.0, each_with P e xs it all.1)
      | false ↦ (it, (all.0, all.1))
    ]

nothing_behind : {A : Type 0} (xs : List A) → xs ++ [] ≡ xs
nothing_behind [] = refl
nothing_behind {A} (x ∷ xs) = ap (λ (rest : List A). x ∷ rest) (nothing_behind xs)

-- what a test leaves of three lists
three : (p : IndexEntry → Bool) (xs ys zs us vs ws : List IndexEntry) → filter p xs ≡ us → filter p ys ≡ vs → filter p zs ≡ ws
    → filter p (xs ++ (ys ++ zs)) ≡ us ++ (vs ++ ws)
three p xs ys zs us vs ws x y z =
    filter-append p xs (ys ++ zs)
    ∙ (ap (λ (is : List IndexEntry). filter p xs ++ is) (filter-append p ys zs)
    ∙ (ap (λ (is : List IndexEntry). is ++ (filter p ys ++ filter p zs)) x
    ∙ (ap (λ (is : List IndexEntry). us ++ (is ++ filter p zs)) y ∙ ap (λ (is : List IndexEntry). us ++ (vs ++ is)) z)))

-- all entries have room, also where there is more of it
pub more_room : (kind : Kind) (nulls numbers texts nulls_now numbers_now texts_now : Kept) → nulls.capacity ≤ nulls_now.capacity
    → numbers.capacity ≤ numbers_now.capacity → texts.capacity ≤ texts_now.capacity
    → capacity_of kind nulls numbers texts ≤ capacity_of kind nulls_now numbers_now texts_now
more_room kind.Int nulls numbers texts nulls_now numbers_now texts_now n m t = omega (arith, n, m)
more_room kind.Str nulls numbers texts nulls_now numbers_now texts_now n m t = omega (arith, n, t)

pub null_room : (kind : Kind) (nulls numbers texts : Kept) → capacity_of kind nulls numbers texts ≤ nulls.capacity
null_room kind.Int nulls numbers texts = omega arith
null_room kind.Str nulls numbers texts = omega arith

pub number_room : (kind : Kind) (n : ℤ) (nulls numbers texts : Kept) → IsOfKind kind (Int n) → capacity_of kind nulls numbers texts ≤ numbers.capacity
number_room kind.Int n nulls numbers texts is = omega arith
number_room kind.Str n nulls numbers texts is = absurd is

pub text_room : (kind : Kind) (t : List ℕ) (nulls numbers texts : Kept) → IsOfKind kind (Text t) → capacity_of kind nulls numbers texts ≤ texts.capacity
text_room kind.Int t nulls numbers texts is = absurd is
text_room kind.Str t nulls numbers texts is = omega arith

module _ (kind : Kind) (nulls numbers texts : Kept) (is : IsParted kind nulls numbers texts) where
  abbrev all : List IndexEntry
  all = nulls.entries ++ (numbers.entries ++ texts.entries)

  nulls_under : (n : ℤ) → AllStand Less (Int n) nulls.entries
  nulls_under n = each_so (λ (e : IndexEntry) h. null_number e.key n h) nulls.entries is.null_keys

  nulls_first : (t : List ℕ) → AllStand Less (Text t) nulls.entries
  nulls_first t = each_so (λ (e : IndexEntry) h. null_text e.key t h) nulls.entries is.null_keys

  numbers_over : AllStand Greater Null numbers.entries
  numbers_over = each_so (λ (e : IndexEntry) h. number_null e.key h) numbers.entries is.number_keys

  numbers_under : (t : List ℕ) → AllStand Less (Text t) numbers.entries
  numbers_under t = each_so (λ (e : IndexEntry) h. number_text e.key t h) numbers.entries is.number_keys

  texts_last : AllStand Greater Null texts.entries
  texts_last = each_so (λ (e : IndexEntry) h. text_null e.key h) texts.entries is.text_keys

  texts_over : (n : ℤ) → AllStand Greater (Int n) texts.entries
  texts_over n = each_so (λ (e : IndexEntry) h. text_number e.key n h) texts.entries is.text_keys

  -- an entry comes
  module _ (pos : ℕ) where
    pub with_null : with_entry (entry Null pos) all ≡ with_entry (entry Null pos) nulls.entries ++ (numbers.entries ++ texts.entries)
    with_null = with_before (entry Null pos) nulls.entries (numbers.entries ++ texts.entries) (both _ numbers.entries texts.entries numbers_over texts_last)

    pub with_number : (n : ℤ) → with_entry (entry (Int n) pos) all ≡ nulls.entries ++ (with_entry (entry (Int n) pos) numbers.entries ++ texts.entries)
    with_number n =
        with_behind (entry (Int n) pos) nulls.entries (numbers.entries ++ texts.entries) (nulls_under n)
        ∙ ap (λ (es : List IndexEntry). nulls.entries ++ es) (with_before (entry (Int n) pos) numbers.entries texts.entries (texts_over n))

    pub with_text : (t : List ℕ) → with_entry (entry (Text t) pos) all ≡ nulls.entries ++ (numbers.entries ++ with_entry (entry (Text t) pos) texts.entries)
    with_text t =
        with_behind (entry (Text t) pos) nulls.entries (numbers.entries ++ texts.entries) (nulls_first t)
        ∙ ap (λ (es : List IndexEntry). nulls.entries ++ es) (with_behind (entry (Text t) pos) numbers.entries texts.entries (numbers_under t))

    -- an entry goes
    pub without_null : without_entry (entry Null pos) all ≡ without_entry (entry Null pos) nulls.entries ++ (numbers.entries ++ texts.entries)
    without_null =
        three _ nulls.entries numbers.entries texts.entries (without_entry (entry Null pos) nulls.entries) numbers.entries texts.entries refl
        (without_none Greater (entry Null pos) numbers.entries refl numbers_over) (without_none Greater (entry Null pos) texts.entries refl texts_last)

    pub without_number : (n : ℤ) → without_entry (entry (Int n) pos) all ≡ nulls.entries ++ (without_entry (entry (Int n) pos) numbers.entries ++ texts.entries)
    without_number n =
        three _ nulls.entries numbers.entries texts.entries nulls.entries (without_entry (entry (Int n) pos) numbers.entries) texts.entries
        (without_none Less (entry (Int n) pos) nulls.entries refl (nulls_under n)) refl
        (without_none Greater (entry (Int n) pos) texts.entries refl (texts_over n))

    pub without_text : (t : List ℕ) → without_entry (entry (Text t) pos) all
        ≡ nulls.entries ++ (numbers.entries ++ without_entry (entry (Text t) pos) texts.entries)
    without_text t =
        three _ nulls.entries numbers.entries texts.entries nulls.entries numbers.entries (without_entry (entry (Text t) pos) texts.entries)
        (without_none Less (entry (Text t) pos) nulls.entries refl (nulls_first t))
        (without_none Less (entry (Text t) pos) numbers.entries refl (numbers_under t)) refl

    -- an entry is where its kind is
    pub in_nulls : Contains all (entry Null pos) → Contains nulls.entries (entry Null pos)
    in_nulls there = elim (Contains-append_cases nulls.entries (numbers.entries ++ texts.entries) (entry Null pos) there) [
      | inl here ↦ here
      | inr other ↦ absurd (not_in Greater (entry Null pos) (numbers.entries ++ texts.entries) refl
          (both _ numbers.entries texts.entries numbers_over texts_last) other)
    ]

    pub in_numbers : (n : ℤ) → Contains all (entry (Int n) pos) → Contains numbers.entries (entry (Int n) pos)
    in_numbers n there = elim (Contains-append_cases nulls.entries (numbers.entries ++ texts.entries) (entry (Int n) pos) there) [
      | inl other ↦ absurd (not_in Less (entry (Int n) pos) nulls.entries refl (nulls_under n) other)
      | inr rest ↦ elim (Contains-append_cases numbers.entries texts.entries (entry (Int n) pos) rest) [
        | inl here ↦ here
        | inr other ↦ absurd (not_in Greater (entry (Int n) pos) texts.entries refl (texts_over n) other)
      ]
    ]

    pub in_texts : (t : List ℕ) → Contains all (entry (Text t) pos) → Contains texts.entries (entry (Text t) pos)
    in_texts t there = elim (Contains-append_cases nulls.entries (numbers.entries ++ texts.entries) (entry (Text t) pos) there) [
      | inl other ↦ absurd (not_in Less (entry (Text t) pos) nulls.entries refl (nulls_first t) other)
      | inr rest ↦ elim (Contains-append_cases numbers.entries texts.entries (entry (Text t) pos) rest) [
        | inl other ↦ absurd (not_in Less (entry (Text t) pos) numbers.entries refl (numbers_under t) other)
        | inr here ↦ here
      ]
    ]

  pub of_nulls : (e : IndexEntry) → Contains nulls.entries e → Contains all e
  of_nulls e there = Contains-append_left nulls.entries (numbers.entries ++ texts.entries) e there

  pub of_numbers : (e : IndexEntry) → Contains numbers.entries e → Contains all e
  of_numbers e there =
      Contains-append_right nulls.entries (numbers.entries ++ texts.entries) e (Contains-append_left numbers.entries texts.entries e there)

  pub of_texts : (e : IndexEntry) → Contains texts.entries e → Contains all e
  of_texts e there =
      Contains-append_right nulls.entries (numbers.entries ++ texts.entries) e (Contains-append_right numbers.entries texts.entries e there)

  -- the entries of a key are where its kind is
  pub find_null : filter (has_key Null) all ≡ filter (has_key Null) nulls.entries
  find_null =
      three _ nulls.entries numbers.entries texts.entries (filter (has_key Null) nulls.entries) [] [] refl
      (find_none Greater Null numbers.entries refl numbers_over) (find_none Greater Null texts.entries refl texts_last)
      ∙ nothing_behind (filter (has_key Null) nulls.entries)

  pub find_number : (n : ℤ) → filter (has_key (Int n)) all ≡ filter (has_key (Int n)) numbers.entries
  find_number n =
      three _ nulls.entries numbers.entries texts.entries [] (filter (has_key (Int n)) numbers.entries) []
      (find_none Less (Int n) nulls.entries refl (nulls_under n)) refl (find_none Greater (Int n) texts.entries refl (texts_over n))
      ∙ nothing_behind (filter (has_key (Int n)) numbers.entries)

  pub find_text : (t : List ℕ) → filter (has_key (Text t)) all ≡ filter (has_key (Text t)) texts.entries
  find_text t =
      three _ nulls.entries numbers.entries texts.entries [] [] (filter (has_key (Text t)) texts.entries)
      (find_none Less (Text t) nulls.entries refl (nulls_first t)) (find_none Less (Text t) numbers.entries refl (numbers_under t)) refl

  -- where an entry comes there is room, and each part has keys of its kind still
  module _ (pos : ℕ) (now : Kept) (room : count_all nulls numbers texts < capacity_of kind nulls numbers texts) where
    pub more_nulls : now.entries ≡ with_entry (entry Null pos) nulls.entries → length now.entries ≡ length nulls.entries + 1
        → nulls.capacity ≤ now.capacity → IsParted kind now numbers texts
    more_nulls made len more = record {
      null_keys = subst (λ (es : List IndexEntry). AllByRecursion (λ e. IsNull e.key) es)
          (sym made) (each_with (λ e. IsNull e.key) (entry Null pos) nulls.entries tt is.null_keys);
      number_keys = is.number_keys;
      text_keys = is.text_keys;
      within = omega (arith, len, room, more_room kind nulls numbers texts now numbers texts more (omega arith) (omega arith));
    }

    pub more_numbers : (n : ℤ) → now.entries ≡ with_entry (entry (Int n) pos) numbers.entries → length now.entries ≡ length numbers.entries + 1
        → numbers.capacity ≤ now.capacity → IsParted kind nulls now texts
    more_numbers n made len more = record {
      null_keys = is.null_keys;
      number_keys = subst (λ (es : List IndexEntry). AllByRecursion (λ e. IsNumber e.key) es)
          (sym made) (each_with (λ e. IsNumber e.key) (entry (Int n) pos) numbers.entries tt is.number_keys);
      text_keys = is.text_keys;
      within = omega (arith, len, room, more_room kind nulls numbers texts nulls now texts (omega arith) more (omega arith));
    }

    pub more_texts : (t : List ℕ) → now.entries ≡ with_entry (entry (Text t) pos) texts.entries → length now.entries ≡ length texts.entries + 1
        → texts.capacity ≤ now.capacity → IsParted kind nulls numbers now
    more_texts t made len more = record {
      null_keys = is.null_keys;
      number_keys = is.number_keys;
      text_keys = subst (λ (es : List IndexEntry). AllByRecursion (λ e. IsText e.key) es)
          (sym made) (each_with (λ e. IsText e.key) (entry (Text t) pos) texts.entries tt is.text_keys);
      within = omega (arith, len, room, more_room kind nulls numbers texts nulls numbers now (omega arith) (omega arith) more);
    }

  -- where one goes there is more room
  module _ (e : IndexEntry) (now : Kept) where
    pub less_nulls : now.entries ≡ without_entry e nulls.entries → length now.entries + 1 ≡ length nulls.entries → nulls.capacity ≤ now.capacity
        → IsParted kind now numbers texts
    less_nulls made len more = record {
      null_keys = subst (λ (es : List IndexEntry). AllByRecursion (λ e. IsNull e.key) es)
          (sym made) (all_filter (λ e. IsNull e.key) _ nulls.entries is.null_keys);
      number_keys = is.number_keys;
      text_keys = is.text_keys;
      within = let was = is.within in omega (arith, len, was, more_room kind nulls numbers texts now numbers texts more (omega arith) (omega arith));
    }

    pub less_numbers : now.entries ≡ without_entry e numbers.entries → length now.entries + 1 ≡ length numbers.entries → numbers.capacity ≤ now.capacity
        → IsParted kind nulls now texts
    less_numbers made len more = record {
      null_keys = is.null_keys;
      number_keys = subst (λ (es : List IndexEntry). AllByRecursion (λ e. IsNumber e.key) es)
          (sym made) (all_filter (λ e. IsNumber e.key) _ numbers.entries is.number_keys);
      text_keys = is.text_keys;
      within = let was = is.within in omega (arith, len, was, more_room kind nulls numbers texts nulls now texts (omega arith) more (omega arith));
    }

    pub less_texts : now.entries ≡ without_entry e texts.entries → length now.entries + 1 ≡ length texts.entries → texts.capacity ≤ now.capacity
        → IsParted kind nulls numbers now
    less_texts made len more = record {
      null_keys = is.null_keys;
      number_keys = is.number_keys;
      text_keys = subst (λ (es : List IndexEntry). AllByRecursion (λ e. IsText e.key) es)
          (sym made) (all_filter (λ e. IsText e.key) _ texts.entries is.text_keys);
      within = let was = is.within in omega (arith, len, was, more_room kind nulls numbers texts nulls numbers now (omega arith) (omega arith) more);
    }
