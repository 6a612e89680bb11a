-- Which records of a group a change hits, and which of all groups.
use Rattle.std.proofs.Common.{◌≡◌, ◌⊎◌, ℕ, ◌+◌, ◌<◌, ◌≤◌, List, length, get_or, refl, sym, ap, ◌∙◌, inl, inr, arith, subst}
use Rattle.std.specs.Prelude.{Bool, true, false, ◌&&◌, ◌||◌, ◌==◌, Option, None, Some, Contains, slice_get}
use Rattle.std.specs.Option.{option_map_or}
use Rattle.std.specs.List.Sorted.{IsStrictlyIncreasing}
use Rattle.std.proofs.lemmas.Bool.{both_ways, cases_lt, cases_order, cases_Bool, and_parts, and_from, or_from, or_left, or_right, eqb-true, eq-eqb}
use Rattle.std.proofs.lemmas.Option.{get_or_from_slice_get}
use Rattle.std.proofs.lemmas.List.{get_or_default}
use Rattle.std.proofs.lemmas.Grind.{get_or_default_zero}
use Rattle.std.proofs.lemmas.List.Kept.{AllPairs-from_increasing}
use Rattle.hy_bound.specs.declared.Record.{Record}
use Rattle.hy_bound.specs.Condition.{Condition}
use Rattle.hy_bound.specs.Predicate.{truth_at, changes_on}
use Rattle.hy_value.specs.declared.change.Change.{Change}
use Rattle.hy_validate.specs.declared.groups.Group.{Group}
use Rattle.hy_validate.specs.FirstConditions.{first_condition_of}
use Rattle.hy_validate.specs.Groups.{IsFiled, IsIn}
use Rattle.hy_validate.specs.TreeHits.{is_hit_by, is_hit_number, is_asked, Finds, earlier_of}
use Rattle.hy_validate.proofs.FirstOnes.{first_decides}
use Rattle.hy_validate.proofs.Least.{finds_there, finds_none, finds_both}

-- a number of one of the first so many groups
pub record InFirst (groups : List Group) (many number : ℕ) : Type 0 where
  pub at : ℕ
  pub group : Group
  pub below : at < many
  pub is : get_or groups at group ≡ group
  pub has : Contains group.numbers.items number

-- numbers of which each index has one that isn't hit
pub none_has : (numbers : List ℕ) (is_hit : ℕ → Bool) → ((k : ℕ) → k < length numbers → is_hit (get_or numbers k 0) ≡ false)
    → Finds is_hit (Contains numbers) None
none_has numbers is_hit h =
    finds_none is_hit (Contains numbers) (λ n c t.
    let e : get_or numbers c.0 0 ≡ n = sym (get_or_default_zero numbers c.0 n c.1) ∙ c.2 in
    both_ways (is_hit (get_or numbers c.0 0)) (h c.0 c.1) (ap is_hit e ∙ t))

-- the first of ascending numbers that is hit
pub first_is_least : (numbers : List ℕ) (is_hit : ℕ → Bool) (i : ℕ) → IsStrictlyIncreasing numbers → i < length numbers
    → ((k : ℕ) → k < i → is_hit (get_or numbers k 0) ≡ false) → is_hit (get_or numbers i 0) ≡ true
    → Finds is_hit (Contains numbers) (Some (get_or numbers i 0))
first_is_least numbers is_hit i up l h t = record { hit = t; least = least }
  where
    least : (n : ℕ) → Contains numbers n → is_hit n ≡ true → get_or numbers i 0 ≤ n
    least n c u = by (cases_order c.0 i)
      where
        is : get_or numbers c.0 0 ≡ n
        is = sym (get_or_default_zero numbers c.0 n c.1) ∙ c.2

        by : (c.0 ≡ i) ⊎ ((c.0 < i) ⊎ (i < c.0)) → get_or numbers i 0 ≤ n
        by (inl e) = let f : get_or numbers i 0 ≡ n = ap (λ k. get_or numbers k 0) (sym e) ∙ is in omega arith
        by (inr (inl below)) = absurd (both_ways (is_hit (get_or numbers c.0 0)) (h c.0 below) (ap is_hit is ∙ u))
        by (inr (inr m)) = let f = AllPairs-from_increasing numbers up i c.0 0 m c.1 in let e = is in omega arith

-- where a hit is by a first test, before or after
first_of_hit : (same before after was is changes : Bool) → (before ≡ false → was ≡ false) → (after ≡ false → is ≡ false)
    → (same && ((was || is) && changes)) ≡ true → (same ≡ true) × ((before ≡ true) ⊎ (after ≡ true))
first_of_hit same before after was is changes f g t = ((and_parts same ((was || is) && changes) t).0, by (cases_Bool before) (cases_Bool after))
  where
    by : (before ≡ true) ⊎ (before ≡ false) → (after ≡ true) ⊎ (after ≡ false) → (before ≡ true) ⊎ (after ≡ true)
    by (inl b) _ = inl b
    by (inr _) (inl a) = inr a
    by (inr b) (inr a) =
        absurd (both_ways (was || is) (or_from was is (f b) (g a)) (and_parts (was || is) changes (and_parts same ((was || is) && changes) t).1).0)

-- a change that hits a record is of its table, and makes the record's first condition true before or after it
pub record MeetsFirst (table : ℕ) (first : Condition) (change : Change) : Type 0 where
  pub same : table ≡ change.table
  pub either : (truth_at first change.before ≡ true) ⊎ (truth_at first change.after ≡ true)

meets_by : (change : Change) (logged : Record) → is_hit_by change logged ≡ true → MeetsFirst logged.table (first_condition_of logged.pred) change
meets_by change logged t =
    let parts = first_of_hit (logged.table == change.table)
    (truth_at (first_condition_of logged.pred) change.before) (truth_at (first_condition_of logged.pred) change.after)
    (truth_at logged.pred change.before) (truth_at logged.pred change.after) (changes_on logged.columns change.before change.after)
    (first_decides logged.pred change.before) (first_decides logged.pred change.after) t in
    record { same = eqb-true logged.table change.table parts.0; either = parts.1 }

pub meets_first : (records : List Record) (change : Change) (n table : ℕ) (first : Condition)
    → ((d : Record) → (table ≡ (get_or records n d).table) × (first ≡ first_condition_of (get_or records n d).pred))
    → is_hit_number records change n ≡ true → MeetsFirst table first change
meets_first records change n table first own t = by (slice_get records n) refl
  where
    by : (o : Option Record) → slice_get records n ≡ o → MeetsFirst table first change
    by None e = absurd (both_ways (is_hit_number records change n) (ap (λ o. option_map_or (is_hit_by change) o false) e) t)
    by (Some logged) e =
        let at : get_or records n logged ≡ logged = get_or_from_slice_get records n logged logged e in
        let meets = meets_by change logged (sym (ap (λ o. option_map_or (is_hit_by change) o false) e) ∙ t) in
        let same : logged.table ≡ table = ap (λ (r : Record). r.table) (sym at) ∙ sym (own logged).0 in
        let is : first_condition_of logged.pred ≡ first = ap (λ (r : Record). first_condition_of r.pred) (sym at) ∙ sym (own logged).1 in
        subst (λ (f : Condition). MeetsFirst table f change) is (subst (λ (k : ℕ). MeetsFirst k (first_condition_of logged.pred) change) same meets)

-- a change hits no record of a group that need not be asked
pub group_missed : (records : List Record) (upto : ℕ) (group : Group) (change : Change) → IsFiled records upto group → is_asked change group ≡ false
    → Finds (is_hit_number records change) (Contains group.numbers.items) None
group_missed records upto group change filed not_asked =
    finds_none (is_hit_number records change) (Contains group.numbers.items) (λ n c t.
    let own : (d : Record) → (group.table ≡ (get_or records n d).table) × (group.first.now ≡ first_condition_of (get_or records n d).pred) =
    λ d. subst (λ (k : ℕ). (group.table ≡ (get_or records k d).table) × (group.first.now ≡ first_condition_of (get_or records k d).pred)) c.2
    (filed.own c.0 n c.1 d) in
    let meets = meets_first records change n group.table group.first.now own t in
    both_ways (is_asked change group) not_asked
    (and_from (group.table == change.table) _ (eq-eqb group.table change.table meets.same)
    (elim meets.either [ inl b ↦ or_left _ _ b | inr a ↦ or_right _ _ a ])))

-- one more group: the earlier of what it has and of what those before it have
pub one_group_more : (groups : List Group) (i : ℕ) (group : Group) (is_hit : ℕ → Bool) (first found : Option ℕ)
    → i < length groups → get_or groups i group ≡ group → Finds is_hit (InFirst groups i) first → Finds is_hit (Contains group.numbers.items) found
    → Finds is_hit (InFirst groups (i + 1)) (earlier_of first found)
one_group_more groups i group is_hit first found within is a b =
    finds_both is_hit (InFirst groups i) (Contains group.numbers.items) (InFirst groups (i + 1)) first found a b (λ n c t. split n c (cases_lt c.at i))
  where
    split : (n : ℕ) (c : InFirst groups (i + 1) n) → (c.at < i) ⊎ (i ≤ c.at) → InFirst groups i n ⊎ Contains group.numbers.items n
    split n c (inl l) = inl (record { at = c.at; group = c.group; below = l; is = c.is; has = c.has })
    split n c (inr l) =
        let at : i ≡ c.at = omega arith in
        let same : c.group ≡ group =
        sym c.is ∙ (ap (λ k. get_or groups k c.group) (sym at) ∙ (get_or_default groups i c.group group within ∙ is)) in
        inr (subst (λ (g : Group). Contains g.numbers.items n) same c.has)

-- what is found in the first so many groups is found in all
pub all_groups : (groups : List Group) (is_hit : ℕ → Bool) (many : ℕ) (first : Option ℕ) → many ≡ length groups
    → Finds is_hit (InFirst groups many) first → Finds is_hit (IsIn groups) first
all_groups groups is_hit many first all finds =
    finds_there is_hit (InFirst groups many) (IsIn groups) first finds
    (λ n a t. (let l : a.0 < many = (let m = a.2 in omega arith) in record { at = a.0; group = a.1; below = l; is = a.3; has = a.4 }))
