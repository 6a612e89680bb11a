-- Where the first hit is found: its entry, its change, its record.
use Rattle.std.proofs.Common.{◌≡◌, ℕ, zero, suc, ◌+◌, ◌<◌, ◌⊎◌, List, [], ◌∷◌, Option, None, Some, Bool, true, false, cond, drop, refl, ap, sym, ◌∙◌, subst, inl, inr, arith, zero-add}
use Rattle.std.specs.Prelude.{◌&&◌, ◌||◌, ◌==◌, nat_lt, find, slice_get}
use Rattle.std.specs.Option.{option_map, option_or}
use Rattle.std.proofs.lemmas.Bool.{eqb-true, eq-eqb, ltb-true, or_cases}
use Rattle.std.proofs.lemmas.Option.{same_Some}
use Rattle.hy_value.specs.declared.change.Change.{Change}
use Rattle.hy_bound.specs.declared.Ending.{Ending}
use Rattle.hy_bound.specs.declared.Ending.TheVariants.{Committed, Invalid}
use Rattle.hy_bound.specs.declared.Record.{Record}
use Rattle.hy_bound.specs.Records.{is_hit}
use Rattle.hy_stamp.specs.declared.Label.{Label}
use Rattle.hy_render.specs.declared.Place.{Place}
use Rattle.hy_render.specs.declared.TxnOutcome.{TxnOutcome}
use Rattle.hy_render.specs.declared.Committed.{Committed as Entry}
use Rattle.hy_machine.specs.Tables.{Cell}
use Rattle.hy_machine.specs.Validation.{record_hit, invalid_at, change_hits, hit_among, first_hit}
use Rattle.hy_lawful.specs.Outcomes.{EachFrom, committed_at}
use Rattle.hy_lawful.specs.Positions.{places_of, comes_before, ascend}
use Rattle.hy_explain.specs.Found.{is_at, rank_of_txn}

-- an item stands in a list
abbrev pub Has : {X : Type 0} → X → List X → Type 0
Has x [] = ⊥
Has x (y ∷ ys) = (y ≡ x) ⊎ Has x ys

pub and_left : (b c : Bool) → (b && c) ≡ true → b ≡ true
and_left true c e = refl
and_left false c e = absurd cc

pub and_right : (b c : Bool) → (b && c) ≡ true → c ≡ true
and_right true c e = e
and_right false c e = absurd cc

pub and_both : (b c : Bool) → b ≡ true → c ≡ true → (b && c) ≡ true
and_both true c e f = f
and_both false c e f = absurd cc

-- one of two choices
either_some : {X : Type 0} (a b : Option X) (x : X) → option_or a b ≡ Some x → (a ≡ Some x) ⊎ (b ≡ Some x)
either_some None b x e = inr e
either_some (Some a) b x e = inl e

-- ---- the record

-- a record that a change of a table hits, by the number of its statement
pub record FoundRecord (records : List Record) (table : ℕ) (before after : Cell) (number : ℕ) : Type 0 where
  pub of : Record
  pub has : Has of records
  pub table_is : of.table ≡ table
  pub number_is : of.statement ≡ number
  pub hit : is_hit of before after ≡ true

pub record_found : (records : List Record) (table : ℕ) (before after : Cell) (number : ℕ) → record_hit records table before after ≡ Some number
    → FoundRecord records table before after number
record_found [] table before after number e = absurd cc
record_found (of ∷ others) table before after number e =
    by_test (λ rest. record_found others table before after number rest) (of.table == table && is_hit of before after) refl e
  where
    by_test : (record_hit others table before after ≡ Some number → FoundRecord others table before after number) → (b : Bool)
        → (of.table == table && is_hit of before after) ≡ b
        → cond b (Some of.statement) (record_hit others table before after) ≡ Some number → FoundRecord (of ∷ others) table before after number
    by_test again true is e = record {
      of = of;
      has = inl refl;
      table_is = eqb-true of.table table (and_left (of.table == table) (is_hit of before after) is);
      number_is = same_Some of.statement number e;
      hit = and_right (of.table == table) (is_hit of before after) is;
    }
    by_test again false is e =
        let later = again e in
        record { of = later.of; has = inr later.has; table_is = later.table_is; number_is = later.number_is; hit = later.hit }

-- ---- the change

pub record FoundChange (records : List Record) (label : Label) (changes : List Change) (ending : Ending) : Type 0 where
  pub change : Change
  pub has : Has change changes
  pub hits : change_hits records label change ≡ Some ending

pub change_found : (records : List Record) (label : Label) (changes : List Change) (ending : Ending) → hit_among records label changes ≡ Some ending
    → FoundChange records label changes ending
change_found records label [] ending e = absurd cc
change_found records label (change ∷ changes) ending e =
    by_choice (λ rest. change_found records label changes ending rest)
    (either_some (change_hits records label change) (hit_among records label changes) ending e)
  where
    by_choice : (hit_among records label changes ≡ Some ending → FoundChange records label changes ending)
        → (change_hits records label change ≡ Some ending) ⊎ (hit_among records label changes ≡ Some ending)
        → FoundChange records label (change ∷ changes) ending
    by_choice again (inl is) = record { change = change; has = inl refl; hits = is }
    by_choice again (inr is) =
        let later = again is in
        record { change = later.change; has = inr later.has; hits = later.hits }

-- ---- the entry

pub record FoundEntry (records : List Record) (entries : List Entry) (ending : Ending) : Type 0 where
  pub at : ℕ
  pub entry : Entry
  pub stands : slice_get entries at ≡ Some entry
  pub hits : hit_among records entry.label entry.changes ≡ Some ending

pub entry_found : (records : List Record) (entries : List Entry) (ending : Ending) → first_hit records entries ≡ Some ending → FoundEntry records entries ending
entry_found records [] ending e = absurd cc
entry_found records (entry ∷ entries) ending e =
    by_choice (λ rest. entry_found records entries ending rest)
    (either_some (hit_among records entry.label entry.changes) (first_hit records entries) ending e)
  where
    by_choice : (first_hit records entries ≡ Some ending → FoundEntry records entries ending)
        → (hit_among records entry.label entry.changes ≡ Some ending) ⊎ (first_hit records entries ≡ Some ending)
        → FoundEntry records (entry ∷ entries) ending
    by_choice again (inl is) = record { at = zero; entry = entry; stands = refl; hits = is }
    by_choice again (inr is) =
        let later = again is in
        record { at = suc later.at; entry = later.entry; stands = later.stands; hits = later.hits }

-- ---- what the ending names

abbrev table_in : Option Ending → ℕ
table_in (Some (Invalid table pos other number)) = table
table_in _ = 0

abbrev pos_in : Option Ending → ℕ
pos_in (Some (Invalid table pos other number)) = pos
pos_in _ = 0

abbrev number_in : Option Ending → ℕ
number_in (Some (Invalid table pos other number)) = number
number_in _ = 0

abbrev label_in : Option Ending → Label
label_in (Some (Invalid table pos other number)) = other
label_in _ = record { session = 0; txn = 0 }

pub record Names (label : Label) (of at : ℕ) (hit : Option ℕ) (table pos : ℕ) (other : Label) (number : ℕ) : Type 0 where
  pub table_is : of ≡ table
  pub pos_is : at ≡ pos
  pub label_is : label ≡ other
  pub hit_is : hit ≡ Some number

pub hit_names : (label : Label) (of at : ℕ) (hit : Option ℕ) (table pos : ℕ) (other : Label) (number : ℕ)
    → option_map (invalid_at label of at) hit ≡ Some (Invalid table pos other number) → Names label of at hit table pos other number
hit_names label of at None table pos other number e = absurd cc
hit_names label of at (Some found) table pos other number e = record {
  table_is = ap table_in e;
  pos_is = ap pos_in e;
  label_is = ap label_in e;
  hit_is = ap (λ (o : Option Ending). Some (number_in o)) e;
}

-- ---- ranks

pub get_dropped : {X : Type 0} (n : ℕ) (xs : List X) (i : ℕ) → slice_get (drop n xs) i ≡ slice_get xs (n + i)
get_dropped zero xs i = ap (slice_get xs) (sym (zero-add i))
get_dropped (suc n) [] i = refl
get_dropped (suc n) (x ∷ xs) i =
    get_dropped n xs i ∙ ap (slice_get (x ∷ xs)) (let e : suc (n + i) ≡ suc n + i = omega arith in e)

item_from : {X : Type 0} (first : ℕ) (P : ℕ → X → Type 0) (xs : List X) → EachFrom first P xs → (i : ℕ) (x : X) → slice_get xs i ≡ Some x → P (first + i) x
item_from first P [] h i x e = absurd cc
item_from first P (y ∷ ys) h zero x e =
    let same : first ≡ first + zero = omega arith in
    subst (λ n. P n x) same (subst (P first) (same_Some y x e) h.0)
item_from first P (y ∷ ys) h (suc i) x e =
    subst (λ n. P n x) (let same : suc first + i ≡ first + suc i = omega arith in same) (item_from (suc first) P ys h.1 i x e)

-- the item of a number, the first having number 0
pub item_at_number : {X : Type 0} (P : ℕ → X → Type 0) (xs : List X) → EachFrom 0 P xs → (i : ℕ) (x : X) → slice_get xs i ≡ Some x → P i x
item_at_number P xs h i x e = subst (λ n. P n x) (zero-add i) (item_from 0 P xs h i x e)

-- the rank of one that has committed
pub ranked : (found : Option TxnOutcome) (rank : ℕ) → option_map (λ (txn : TxnOutcome). txn.ending) found ≡ Some (Committed rank) → rank_of_txn found ≡ Some rank
ranked None rank e = absurd cc
ranked (Some txn) rank e = ap committed_at (same_Some txn.ending (Committed rank) e)

-- ---- the change at a position

-- a place comes before another
abbrev Before : Place → Place → Type 0
Before place other = (place.table < other.table) ⊎ ((place.table ≡ other.table) × (place.pos < other.pos))

before_of : (place other : Place) → comes_before place other ≡ true → Before place other
before_of place other e =
    by_case (or_cases (nat_lt place.table other.table) (place.table == other.table && nat_lt place.pos other.pos) e)
  where
    by_case : (nat_lt place.table other.table ≡ true) ⊎ ((place.table == other.table && nat_lt place.pos other.pos) ≡ true) → Before place other
    by_case (inl h) = inl (ltb-true place.table other.table h)
    by_case (inr h) = inr (
      eqb-true place.table other.table (and_left (place.table == other.table) (nat_lt place.pos other.pos) h),
      ltb-true place.pos other.pos (and_right (place.table == other.table) (nat_lt place.pos other.pos) h),
    )

before_then : (a b c : Place) → Before a b → Before b c → Before a c
before_then a b c (inl h) (inl k) = inl (omega (arith, h, k))
before_then a b c (inl h) (inr k) = inl (omega (arith, h, k.0))
before_then a b c (inr h) (inl k) = inl (omega (arith, h.0, k))
before_then a b c (inr h) (inr k) = inr (h.0 ∙ k.0, omega (arith, h.1, k.1))

-- all later places come behind the first
all_behind : (first : Place) (places : List Place) (place : Place) → ascend (first ∷ places) ≡ true → Has place places → Before first place
all_behind first [] place up h = absurd h
all_behind first (next ∷ places) place up (inl is) =
    subst (Before first) is (before_of first next (and_left (comes_before first next) (ascend (next ∷ places)) up))
all_behind first (next ∷ places) place up (inr h) =
    before_then first next place (before_of first next (and_left (comes_before first next) (ascend (next ∷ places)) up))
    (all_behind next places place (and_right (comes_before first next) (ascend (next ∷ places)) up) h)

rest_ascends : (first : Place) (places : List Place) → ascend (first ∷ places) ≡ true → ascend places ≡ true
rest_ascends first [] up = refl
rest_ascends first (next ∷ places) up = and_right (comes_before first next) (ascend (next ∷ places)) up

abbrev place_of : Change → Place
place_of change = record { table = change.table; pos = change.pos }

has_place_of : (changes : List Change) (change : Change) → Has change changes → Has (place_of change) (places_of changes)
has_place_of [] change h = absurd h
has_place_of (other ∷ changes) change (inl is) = inl (ap place_of is)
has_place_of (other ∷ changes) change (inr h) = inr (has_place_of changes change h)

not_same : (place other : Place) → Before place other → place.table ≡ other.table → place.pos ≡ other.pos → ⊥
not_same place other (inl h) t p = omega (arith, h, t)
not_same place other (inr h) t p = omega (arith, h.1, p)

-- where changes ascend, one at a position is the first that is found there
pub only_one : (table pos : ℕ) (changes : List Change) (change : Change) → ascend (places_of changes) ≡ true → Has change changes
    → change.table ≡ table → change.pos ≡ pos → find (is_at table pos) changes ≡ Some change
only_one table pos [] change up h t p = absurd h
only_one table pos (first ∷ changes) change up h t p =
    by_test (λ later. only_one table pos changes change (rest_ascends (place_of first) (places_of changes) up) later t p) (is_at table pos first) refl h
  where
    by_test : (Has change changes → find (is_at table pos) changes ≡ Some change) → (b : Bool) → is_at table pos first ≡ b
        → (first ≡ change) ⊎ Has change changes
        → cond b (Some first) (find (is_at table pos) changes) ≡ Some change
    by_test again true is (inl same) = ap Some same
    by_test again true is (inr later) = absurd (not_same (place_of first) (place_of change)
        (all_behind (place_of first) (places_of changes) (place_of change) up (has_place_of changes change later))
        (eqb-true first.table table (and_left (first.table == table) (first.pos == pos) is) ∙ sym t)
        (eqb-true first.pos pos (and_right (first.table == table) (first.pos == pos) is) ∙ sym p))
    by_test again false is (inl same) =
        let here : is_at table pos first ≡ true
        = subst (λ (c : Change). is_at table pos c ≡ true) (sym same)
        (and_both (change.table == table) (change.pos == pos) (eq-eqb change.table table t) (eq-eqb change.pos pos p)) in
        absurd cc
    by_test again false is (inr later) = again later
