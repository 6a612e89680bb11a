-- Positions in order: those before one come first, and which of a table is the first from one on.
use Rattle.std.proofs.Common.{◌≡◌, ℕ, zero, suc, ◌<◌, ◌≤◌, List, [], ◌∷◌, Bool, true, false, Option, None, Some, map, length, get_or, cond, refl, sym, ap, subst, ◌∙◌, arith, inl, inr, ⊎_elim}
use Rattle.std.specs.Prelude.{◌⊎◌, ◌==◌, ◌&&◌, ◌||◌, nat_lt, nat_le, slice_get}
use Rattle.std.specs.Option.{option_map}
use Rattle.std.specs.List.{AllByRecursion, list_any}
use Rattle.std.specs.List.Sorted.{IsPartitionedBy, IsPartitionPoint}
use Rattle.std.proofs.lemmas.Bool.{and_parts, and_from, cases_lt, or_cases, or_left, or_right, false_from_ne_true, ltb-true, lt-ltb, leb-true, le-leb, eqb-true, eq-eqb}
use Rattle.std.proofs.lemmas.List.{map-id}
use Rattle.std.proofs.lemmas.Iterator.Adapters.{option_map_id}
use Rattle.hy_render.specs.declared.Place.{Place}
use Rattle.hy_session.specs.Seeking.{Rises, comes_before, first_from, is_from, of_table}

-- ---- before a position

abbrev pub Before : ℕ → ℕ → Place → Type 0
Before table pos place = (place.table < table) ⊎ ((place.table ≡ table) × (place.pos < pos))

pub before_is : (table pos : ℕ) (place : Place) → comes_before table pos place ≡ true → Before table pos place
before_is table pos place h =
    ⊎_elim (λ l. inl (ltb-true place.table table l))
    (λ r. let parts = and_parts (place.table == table) (nat_lt place.pos pos) r in inr (eqb-true place.table table parts.0, ltb-true place.pos pos parts.1))
    (or_cases (nat_lt place.table table) (place.table == table && nat_lt place.pos pos) h)

pub is_before : (table pos : ℕ) (place : Place) → Before table pos place → comes_before table pos place ≡ true
is_before table pos place (inl l) = or_left (nat_lt place.table table) (place.table == table && nat_lt place.pos pos) (lt-ltb place.table table l)
is_before table pos place (inr r) =
    or_right (nat_lt place.table table) (place.table == table && nat_lt place.pos pos)
    (and_from (place.table == table) (nat_lt place.pos pos) (eq-eqb place.table table r.0) (lt-ltb place.pos pos r.1))

pub not_before : (table pos : ℕ) (place : Place) → (Before table pos place → ⊥) → comes_before table pos place ≡ false
not_before table pos place never = false_from_ne_true (comes_before table pos place) (λ k. never (before_is table pos place k))

-- what is before one that is before another is before that one too
earlier : (table pos : ℕ) (place later : Place) → Before later.table later.pos place → Before table pos later → Before table pos place
earlier table pos place later (inl h) (inl k) = inl (omega arith)
earlier table pos place later (inl h) (inr k) = inl (omega (arith, k.0))
earlier table pos place later (inr h) (inl k) = inl (omega (arith, h.0))
earlier table pos place later (inr h) (inr k) = inr (omega (arith, h.0, k.0), omega (arith, h.1, k.1))

comes_earlier : (table pos : ℕ) (place later : Place) → comes_before later.table later.pos place ≡ true → comes_before table pos later ≡ true
    → comes_before table pos place ≡ true
comes_earlier table pos place later h k =
    is_before table pos place (earlier table pos place later (before_is later.table later.pos place h) (before_is table pos later k))

-- what isn't before has no lower table, and in its table no lower position
not_lower : (table pos : ℕ) (place : Place) → comes_before table pos place ≡ false → table ≤ place.table
not_lower table pos place h =
    ⊎_elim (λ l. absurd (let k = is_before table pos place (inl l) in cc)) (λ r. omega (arith, r)) (cases_lt place.table table)

not_under : (table pos : ℕ) (place : Place) → comes_before table pos place ≡ false → place.table ≡ table → pos ≤ place.pos
not_under table pos place h same =
    ⊎_elim (λ l. absurd (let k = is_before table pos place (inr (same, l)) in cc)) (λ r. omega (arith, r)) (cases_lt place.pos pos)

-- ---- those before a position come first

all_at : {X : Type 0} (f : X → Place) (P : Place → Type 0) (xs : List X) (k : ℕ) (d : X) → AllByRecursion P (map f xs) → k < length xs → P (f (get_or xs k d))
all_at f P [] k d all l = absurd (omega arith)
all_at f P (x ∷ xs) zero d all l = all.0
all_at f P (x ∷ xs) (suc k) d all l = all_at f P xs k d all.1 (omega arith)

pub parted : {X : Type 0} (f : X → Place) (table pos : ℕ) (xs : List X) → Rises (map f xs) → IsPartitionedBy (λ x. comes_before table pos (f x)) xs
parted f table pos [] up i j d le l h = absurd (omega arith)
parted f table pos (x ∷ xs) up zero zero d le l h = h
parted f table pos (x ∷ xs) up zero (suc j) d le l h =
    comes_earlier table pos (f x) (f (get_or xs j d))
    (all_at f (λ later. comes_before later.table later.pos (f x) ≡ true) xs j d up.0 (omega arith)) h
parted f table pos (x ∷ xs) up (suc i) zero d le l h = absurd (omega arith)
parted f table pos (x ∷ xs) up (suc i) (suc j) d le l h = parted f table pos xs up.1 i j d (omega arith) (omega arith) h

pub parted_places : (table pos : ℕ) (places : List Place) → Rises places → IsPartitionedBy (comes_before table pos) places
parted_places table pos places up = parted (λ (p : Place). p) table pos places (subst Rises (sym (map-id places)) up)

-- ---- the first of a table from one on

pub from_is : (table from : ℕ) (place : Place) → is_from table from place ≡ true → (place.table ≡ table) × (from ≤ place.pos)
from_is table from place h =
    let parts = and_parts (place.table == table) (nat_le from place.pos) h in
    (eqb-true place.table table parts.0, leb-true from place.pos parts.1)

is_from_on : (table from : ℕ) (place : Place) → place.table ≡ table → from ≤ place.pos → is_from table from place ≡ true
is_from_on table from place same le =
    and_from (place.table == table) (nat_le from place.pos) (eq-eqb place.table table same) (le-leb from place.pos le)

-- it isn't among positions before it
pub passed : (table from : ℕ) (place : Place) (places : List Place) → comes_before table from place ≡ true
    → first_from table from (place ∷ places) ≡ first_from table from places
passed table from place places h =
    ap (λ b. cond b (Some place.pos) (first_from table from places))
    (false_from_ne_true (is_from table from place) (λ k.
    let parts = from_is table from place k in
    ⊎_elim (λ l. omega (arith, l, parts.0)) (λ r. omega (arith, r.1, parts.1)) (before_is table from place h)))

none_higher : (table from : ℕ) (place : Place) (places : List Place) → table < place.table
    → AllByRecursion (λ later. comes_before later.table later.pos place ≡ true) places → first_from table from places ≡ None
none_higher table from place [] l all = refl
none_higher table from place (later ∷ places) l all =
    ap (λ b. cond b (Some later.pos) (first_from table from places))
    (false_from_ne_true (is_from table from later) (λ k.
    let parts = from_is table from later k in
    ⊎_elim (λ m. omega (arith, m, l, parts.0)) (λ r. omega (arith, r.0, l, parts.0)) (before_is later.table later.pos place all.0)))
    ∙ none_higher table from place places l all.1

pub found_by : (table from : ℕ) (place : Place) (places : List Place) (b : Bool) → (place.table == table) ≡ b → comes_before table from place ≡ false
    → AllByRecursion (λ later. comes_before later.table later.pos place ≡ true) places
    → first_from table from (place ∷ places) ≡ of_table table (Some place)
found_by table from place places true is h all =
    let same : place.table ≡ table = eqb-true place.table table is in
    ap (λ b. cond b (Some place.pos) (first_from table from places)) (is_from_on table from place same (not_under table from place h same))
    ∙ sym (ap (λ b. cond b (Some place.pos) None) is)
found_by table from place places false is h all =
    let other : place.table ≡ table → ⊥ = λ same. let e = eq-eqb place.table table same in cc in
    let above : table < place.table =
    ⊎_elim (λ l. l) (λ r. absurd (let low = not_lower table from place h in other (omega (arith, r, low)))) (cases_lt table place.table) in
    ap (λ b. cond b (Some place.pos) (first_from table from places))
    (false_from_ne_true (is_from table from place) (λ k. other (from_is table from place k).0))
    ∙ (none_higher table from place places above all ∙ sym (ap (λ b. cond b (Some place.pos) None) is))

-- it is the first one that isn't before, if that is one of the table
pub found_at : {X : Type 0} (f : X → Place) (table from : ℕ) (xs : List X) (i : ℕ) → Rises (map f xs) → i ≤ length xs
    → IsPartitionPoint (λ y. comes_before table from (f y) ≡ true) (λ y. comes_before table from (f y) ≡ false) xs i
    → first_from table from (map f xs) ≡ of_table table (option_map f (slice_get xs i))
found_at f table from [] zero up le at = refl
found_at f table from [] (suc i) up le at = absurd (omega arith)
found_at f table from (x ∷ xs) zero up le at =
    found_by table from (f x) (map f xs) ((f x).table == table) refl (at.1 zero x (omega arith) (omega arith)) up.0
found_at f table from (x ∷ xs) (suc i) up le at =
    passed table from (f x) (map f xs) (at.0 zero x (omega arith) (omega arith))
    ∙ found_at f table from xs i up.1 (omega arith)
    (λ k d l m. at.0 (suc k) d (omega arith) (omega (arith, m)), λ k d l m. at.1 (suc k) d (omega (arith, l)) (omega (arith, m)))

pub found_place : (table from : ℕ) (places : List Place) (i : ℕ) (found : Option Place) → Rises places → i ≤ length places
    → IsPartitionPoint (λ y. comes_before table from y ≡ true) (λ y. comes_before table from y ≡ false) places i → slice_get places i ≡ found
    → of_table table found ≡ first_from table from places
found_place table from places i found up le at is =
    let same = map-id places in
    ap (of_table table) (sym (option_map_id (slice_get places i) ∙ is))
    ∙ (sym (found_at (λ (p : Place). p) table from places i (subst Rises (sym same) up) le at) ∙ ap (first_from table from) same)

-- ---- what it says of the others

silent : (q : Place → Bool) (place : Place) (places : List Place) → (q place ≡ true → ⊥) → list_any q places ≡ false → list_any q (place ∷ places) ≡ false
silent q place places not rest = ap (λ b. b || list_any q places) (false_from_ne_true (q place) not) ∙ rest

pub none_passes : (q : Place → Bool) → ((p : Place) → q p ≡ true → ⊥) → (places : List Place) → list_any q places ≡ false
none_passes q not [] = refl
none_passes q not (place ∷ places) = silent q place places (not place) (none_passes q not places)

-- where there is none, none passes a test that asks for one
nothing_by : (table from : ℕ) (q : Place → Bool) → ((p : Place) → q p ≡ true → (p.table ≡ table) × (from ≤ p.pos)) → (place : Place) (places : List Place)
    (b : Bool) → is_from table from place ≡ b → first_from table from (place ∷ places) ≡ None
    → (first_from table from places ≡ None → list_any q places ≡ false) → list_any q (place ∷ places) ≡ false
nothing_by table from q asks place places true is none rest =
    absurd (let e = sym (ap (λ b. cond b (Some place.pos) (first_from table from places)) is) ∙ none in cc)
nothing_by table from q asks place places false is none rest =
    silent q place places (λ k. let parts = asks place k in let e = is_from_on table from place parts.0 parts.1 in cc)
    (rest (sym (ap (λ b. cond b (Some place.pos) (first_from table from places)) is) ∙ none))

pub nothing_from : (table from : ℕ) (q : Place → Bool) → ((p : Place) → q p ≡ true → (p.table ≡ table) × (from ≤ p.pos)) → (places : List Place)
    → first_from table from places ≡ None → list_any q places ≡ false
nothing_from table from q asks [] none = refl
nothing_from table from q asks (place ∷ places) none =
    nothing_by table from q asks place places (is_from table from place) refl none (nothing_from table from q asks places)

-- where there is one, it passes a test that asks for it
something_by : (table from pos : ℕ) (q : Place → Bool) → ((p : Place) → p.table ≡ table → p.pos ≡ pos → q p ≡ true) → (place : Place) (places : List Place)
    (b : Bool) → is_from table from place ≡ b → first_from table from (place ∷ places) ≡ Some pos
    → (first_from table from places ≡ Some pos → (list_any q places ≡ true) × (from ≤ pos)) → (list_any q (place ∷ places) ≡ true) × (from ≤ pos)
something_by table from pos q here place places true is found rest =
    let e : Some place.pos ≡ Some pos = sym (ap (λ b. cond b (Some place.pos) (first_from table from places)) is) ∙ found in
    let same : place.pos ≡ pos = cc in
    let parts = from_is table from place is in
    (or_left (q place) (list_any q places) (here place parts.0 same), omega (arith, parts.1, same))
something_by table from pos q here place places false is found rest =
    let others = rest (sym (ap (λ b. cond b (Some place.pos) (first_from table from places)) is) ∙ found) in
    (or_right (q place) (list_any q places) others.0, others.1)

pub something_from : (table from pos : ℕ) (q : Place → Bool) → ((p : Place) → p.table ≡ table → p.pos ≡ pos → q p ≡ true) → (places : List Place)
    → first_from table from places ≡ Some pos → (list_any q places ≡ true) × (from ≤ pos)
something_from table from pos q here [] found = absurd (cc)
something_from table from pos q here (place ∷ places) found =
    something_by table from pos q here place places (is_from table from place) refl found (something_from table from pos q here places)

-- and none passes a test that asks for one before it
none_later : (table pos : ℕ) (place : Place) (q : Place → Bool) → ((p : Place) → q p ≡ true → (p.table ≡ table) × (p.pos < pos)) → (places : List Place)
    → place.table ≡ table → place.pos ≡ pos → AllByRecursion (λ later. comes_before later.table later.pos place ≡ true) places → list_any q places ≡ false
none_later table pos place q asks [] same at all = refl
none_later table pos place q asks (later ∷ places) same at all =
    silent q later places
    (λ k. let parts = asks later k in
    ⊎_elim (λ l. omega (arith, l, same, parts.0)) (λ r. omega (arith, r.1, at, parts.1)) (before_is later.table later.pos place all.0))
    (none_later table pos place q asks places same at all.1)

module _ (table from pos : ℕ) (q : Place → Bool) (asks : (p : Place) → q p ≡ true → (p.table ≡ table) × ((from ≤ p.pos) × (p.pos < pos))) where
  before_by : (place : Place) (places : List Place) (b : Bool) → is_from table from place ≡ b → first_from table from (place ∷ places) ≡ Some pos
      → AllByRecursion (λ later. comes_before later.table later.pos place ≡ true) places
      → (first_from table from places ≡ Some pos → list_any q places ≡ false) → list_any q (place ∷ places) ≡ false
  before_by place places true is found all rest =
      let e : Some place.pos ≡ Some pos = sym (ap (λ b. cond b (Some place.pos) (first_from table from places)) is) ∙ found in
      let same : place.pos ≡ pos = cc in
      silent q place places (λ k. let parts = asks place k in omega (arith, parts.1.1, same))
      (none_later table pos place q (λ p k. let parts = asks p k in (parts.0, parts.1.1)) places (from_is table from place is).0 same all)
  before_by place places false is found all rest =
      silent q place places (λ k. let parts = asks place k in let e = is_from_on table from place parts.0 parts.1.0 in cc)
      (rest (sym (ap (λ b. cond b (Some place.pos) (first_from table from places)) is) ∙ found))

  pub nothing_before : (places : List Place) → Rises places → first_from table from places ≡ Some pos → list_any q places ≡ false
  nothing_before [] up found = refl
  nothing_before (place ∷ places) up found = before_by place places (is_from table from place) refl found up.0 (nothing_before places up.1)
