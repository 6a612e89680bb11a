-- The noted positions, in their order, are the written ones in theirs.
use Rattle.std.proofs.Common.{◌≡◌, ◌⊎◌, ℕ, suc, ◌<◌, ◌≤◌, List, [], ◌∷◌, ◌++◌, map, Option, None, Some, Bool, true, false, refl, sym, ap, ◌∙◌}
use Rattle.std.proofs.Common.{arith, cond, inl, inr}
use Rattle.std.specs.Prelude.{◌||◌, ◌==◌}
use Rattle.std.specs.List.{AllByRecursion, list_any}
use Rattle.std.specs.Ordering.{ordering_then, nat_cmp}
use Rattle.std.specs.declared.cmp.Ordering.{Ordering}
use Rattle.std.specs.declared.cmp.Ordering.TheVariants.{Less, Equal, Greater}
use Rattle.std.proofs.lemmas.Bool.{cases_Bool, cases_eq, cases_lt, cases_order, eqb-true, eq-eqb, ne_eqb, lt-ltb, le-ltb, and_parts, and_from, or_from}
use Rattle.hy_value.specs.declared.change.Change.{Change}
use Rattle.hy_notes.specs.Notes.{Ascends, order_of}
use Rattle.hy_render.specs.declared.Place.{Place}
use Rattle.hy_event.specs.Sessions.{place_noted}
use Rattle.hy_machine.specs.Positions.{by_position, by_table}
use Rattle.hy_machine.specs.Tables.{Cell, Own}
use Rattle.hy_machine.specs.Writes.{place_at, written}
use Rattle.hy_refinement.proofs.NotedPlaces.{is_at}

-- by table, and then by position
abbrev pub IsBefore : Place → Place → Type 0
IsBefore one other = (one.table < other.table) ⊎ ((one.table ≡ other.table) × (one.pos < other.pos))

-- each is before all behind it
abbrev pub InOrder : List Place → Type 0
InOrder [] = Unit {0}
InOrder (place ∷ places) = AllByRecursion (λ later. IsBefore place later) places × InOrder places

-- ---- lists in order with the same places

-- what is before all of a list is not among them
not_among : (place : Place) (places : List Place) → AllByRecursion (λ later. IsBefore place later) places
    → list_any (is_at place.table place.pos) places ≡ false
not_among place [] all = refl
not_among place (other ∷ places) all =
    or_from (is_at place.table place.pos other) (list_any (is_at place.table place.pos) places)
    (elim (cases_Bool (is_at place.table place.pos other)) [
      | inr f ↦ f
      | inl t ↦
          let both = and_parts (other.table == place.table) (other.pos == place.pos) t in
          let tables = eqb-true other.table place.table both.0 in
          let positions = eqb-true other.pos place.pos both.1 in
          absurd (elim all.0 [ inl less ↦ omega (arith, tables, less) | inr later ↦ let less = later.1 in omega (arith, positions, less) ])
    ])
    (not_among place places all.1)

at_itself : (place : Place) (places : List Place) → list_any (is_at place.table place.pos) (place ∷ places) ≡ true
at_itself place places =
    ap (λ (b : Bool). b || list_any (is_at place.table place.pos) places)
    (and_from (place.table == place.table) (place.pos == place.pos) (eq-eqb place.table place.table refl) (eq-eqb place.pos place.pos refl))

before_all : (place first : Place) (places : List Place) → IsBefore place first → AllByRecursion (λ later. IsBefore first later) places
    → AllByRecursion (λ later. IsBefore place later) places
before_all place first [] less all = tt
before_all place first (other ∷ places) less all = (through less all.0, before_all place first places less all.1)
  where
    through : IsBefore place first → IsBefore first other → IsBefore place other
    through one another = elim one [
      | inl a ↦ elim another [ inl b ↦ inl (omega (arith, a, b)) | inr b ↦ inl (let e = b.0 in omega (arith, a, e)) ]
      | inr a ↦ elim another [
        | inl b ↦ inl (let e = a.0 in omega (arith, b, e))
        | inr b ↦ inr (a.0 ∙ b.0, (let l = a.1 in let m = b.1 in omega (arith, l, m)))
      ]
    ]

-- one of two places is before the other, or they are the same
which : (one other : Place) → (one ≡ other) ⊎ (IsBefore one other ⊎ IsBefore other one)
which one other = elim (cases_order one.table other.table) [
  | inr less ↦ elim less [ inl l ↦ inr (inl (inl l)) | inr l ↦ inr (inr (inl l)) ]
  | inl tables ↦ elim (cases_order one.pos other.pos) [
    | inl positions ↦ inl (λ i. record { table = tables i; pos = positions i })
    | inr less ↦ elim less [ inl l ↦ inr (inl (inr (tables, l))) | inr l ↦ inr (inr (inr (sym tables, l))) ]
  ]
]

-- a list whose first place is before all of another has a place more
first_is_new : (one : Place) (ones : List Place) (other : Place) (others : List Place) → IsBefore one other
    → AllByRecursion (λ later. IsBefore other later) others
    → ((table pos : ℕ) → list_any (is_at table pos) (one ∷ ones) ≡ list_any (is_at table pos) (other ∷ others)) → ⊥
first_is_new one ones other others less all same =
    absurd (let e : true ≡ false =
    sym (at_itself one ones) ∙ (same one.table one.pos ∙ not_among one (other ∷ others) (less, before_all one other others less all)) in cc)

pub same_places : (ones others : List Place) → InOrder ones → InOrder others
    → ((table pos : ℕ) → list_any (is_at table pos) ones ≡ list_any (is_at table pos) others) → ones ≡ others
same_places [] [] a b same = refl
same_places [] (other ∷ others) a b same = absurd (let e : false ≡ true = same other.table other.pos ∙ at_itself other others in cc)
same_places (one ∷ ones) [] a b same = absurd (let e : true ≡ false = sym (at_itself one ones) ∙ same one.table one.pos in cc)
same_places (one ∷ ones) (other ∷ others) a b same = elim (which one other) [
  | inr apart ↦ elim apart [
    | inl less ↦ absurd (first_is_new one ones other others less b.0 same)
    | inr less ↦ absurd (first_is_new other others one ones less a.0 (λ table pos. sym (same table pos)))
  ]
  | inl is ↦ λ i. is i ∷ same_places ones others a.1 b.1 (λ table pos. later is table pos) i
]
  where
    later : one ≡ other → (table pos : ℕ) → list_any (is_at table pos) ones ≡ list_any (is_at table pos) others
    later is table pos = elim (cases_Bool (is_at table pos one)) [
      | inr away ↦
          let head : is_at table pos other ≡ false = ap (is_at table pos) (sym is) ∙ away in
          sym (ap (λ (b : Bool). b || list_any (is_at table pos) ones) away)
          ∙ (same table pos ∙ ap (λ (b : Bool). b || list_any (is_at table pos) others) head)
      | inl here ↦
          let both = and_parts (one.table == table) (one.pos == pos) here in
          let tables : one.table ≡ table = eqb-true one.table table both.0 in
          let positions : one.pos ≡ pos = eqb-true one.pos pos both.1 in
          ap (λ (n : ℕ). list_any (is_at n pos) ones) (sym tables)
          ∙ (ap (λ (n : ℕ). list_any (is_at one.table n) ones) (sym positions)
          ∙ (not_among one ones a.0
          ∙ sym (ap (λ (n : ℕ). list_any (is_at n pos) others) (sym tables ∙ ap (λ (p : Place). p.table) is)
          ∙ (ap (λ (n : ℕ). list_any (is_at other.table n) others) (sym positions ∙ ap (λ (p : Place). p.pos) is)
          ∙ not_among other others b.0))))
    ]

-- ---- the places of notes are in order

less_is : (a b : ℕ) → nat_cmp a b ≡ Less → a < b
less_is a b e = elim (cases_lt a b) [
  | inl less ↦ less
  | inr more ↦ absurd (elim (cases_eq a b) [
    | inl same ↦ let f : nat_cmp a b ≡ Equal = ap (λ (t : Bool). cond t Less (cond (a == b) Equal Greater)) (le-ltb a b more)
        ∙ ap (λ (t : Bool). cond t Equal Greater) (eq-eqb a b same) in let g = sym e ∙ f in cc
    | inr apart ↦ let f : nat_cmp a b ≡ Greater = ap (λ (t : Bool). cond t Less (cond (a == b) Equal Greater)) (le-ltb a b more)
        ∙ ap (λ (t : Bool). cond t Equal Greater) (ne_eqb a b apart) in let g = sym e ∙ f in cc
  ])
]

note_before : (note later : Change) → order_of note later.table later.pos ≡ Less → IsBefore (place_noted note) (place_noted later)
note_before note later e = by (nat_cmp note.table later.table) refl e
  where
    by : (o : Ordering) → nat_cmp note.table later.table ≡ o → ordering_then o (nat_cmp note.pos later.pos) ≡ Less
        → IsBefore (place_noted note) (place_noted later)
    by Less is f = inl (less_is note.table later.table is)
    by Equal is f = inr (equal_is is, less_is note.pos later.pos f)
      where
        equal_is : nat_cmp note.table later.table ≡ Equal → note.table ≡ later.table
        equal_is g = elim (cases_order note.table later.table) [
          | inl same ↦ same
          | inr apart ↦ absurd (elim apart [
            | inl less ↦ let h : nat_cmp note.table later.table ≡ Less = ap (λ (t : Bool). cond t Less (cond (note.table == later.table) Equal Greater))
                (lt-ltb note.table later.table less) in let k = sym g ∙ h in cc
            | inr less ↦ let h : nat_cmp note.table later.table ≡ Greater =
                ap (λ (t : Bool). cond t Less (cond (note.table == later.table) Equal Greater)) (le-ltb note.table later.table (omega (arith, less)))
                ∙ ap (λ (t : Bool). cond t Equal Greater) (ne_eqb note.table later.table (λ s. omega (arith, s, less))) in let k = sym g ∙ h in cc
          ])
        ]
    by Greater is f = absurd (let g : Greater ≡ Less = f in cc)

pub notes_in_order : (notes : List Change) → Ascends notes → InOrder (map place_noted notes)
notes_in_order [] a = tt
notes_in_order (note ∷ notes) a = (before notes a.0, notes_in_order notes a.1)
  where
    before : (later : List Change) → AllByRecursion (λ (one : Change). order_of note one.table one.pos ≡ Less) later
        → AllByRecursion (λ (place : Place). IsBefore (place_noted note) place) (map place_noted later)
    before [] all = tt
    before (one ∷ later) all = (note_before note one all.0, before later all.1)

-- ---- the places of written cells are in order

-- those of a table from this position on
from_here : (at first : ℕ) (items : List (Option Cell))
    → AllByRecursion (λ (place : Place). (place.table ≡ at) × (first ≤ place.pos)) (by_position (place_at at) first items)
from_here at first items = from first first (omega arith) items
  where
    from : (low first : ℕ) → low ≤ first → (items : List (Option Cell))
        → AllByRecursion (λ (place : Place). (place.table ≡ at) × (low ≤ place.pos)) (by_position (place_at at) first items)
    from low first le [] = tt
    from low first le (None ∷ items) = from low (suc first) (omega (arith, le)) items
    from low first le (Some item ∷ items) = ((refl, le), from low (suc first) (omega (arith, le)) items)

all_later : (P Q : Place → Type 0) → ((place : Place) → P place → Q place) → (places : List Place) → AllByRecursion P places → AllByRecursion Q places
all_later P Q to [] all = tt
all_later P Q to (place ∷ places) all = (to place all.0, all_later P Q to places all.1)

all_joined : (P : Place → Type 0) (places others : List Place) → AllByRecursion P places → AllByRecursion P others → AllByRecursion P (places ++ others)
all_joined P [] others all more = more
all_joined P (place ∷ places) others all more = (all.0, all_joined P places others all.1 more)

table_in_order : (at first : ℕ) (items : List (Option Cell)) → InOrder (by_position (place_at at) first items)
table_in_order at first [] = tt
table_in_order at first (None ∷ items) = table_in_order at (suc first) items
table_in_order at first (Some item ∷ items) = (
  all_later (λ (place : Place). (place.table ≡ at) × (suc first ≤ place.pos)) (λ (place : Place). IsBefore (record { table = at; pos = first }) place)
      (λ place is. inr (sym is.0, (let l = is.1 in omega (arith, l)))) (by_position (place_at at) (suc first) items) (from_here at (suc first) items),
  table_in_order at (suc first) items,
)

from_table : (first : ℕ) (own : Own) → AllByRecursion (λ (place : Place). first ≤ place.table) (by_table place_at first own)
from_table first own = from first first (omega arith) own
  where
    from : (low first : ℕ) → low ≤ first → (own : Own) → AllByRecursion (λ (place : Place). low ≤ place.table) (by_table place_at first own)
    from low first le [] = tt
    from low first le (cells ∷ own) =
        all_joined (λ (place : Place). low ≤ place.table) (by_position (place_at first) 0 cells) (by_table place_at (suc first) own)
        (all_later (λ (place : Place). (place.table ≡ first) × (0 ≤ place.pos)) (λ (place : Place). low ≤ place.table)
        (λ place is. let e = is.0 in omega (arith, e, le)) (by_position (place_at first) 0 cells) (from_here first 0 cells))
        (from low (suc first) (omega (arith, le)) own)

orders_joined : (at : ℕ) (places others : List Place) → InOrder places → AllByRecursion (λ (place : Place). (place.table ≡ at) × (0 ≤ place.pos)) places
    → InOrder others → AllByRecursion (λ (place : Place). suc at ≤ place.table) others → InOrder (places ++ others)
orders_joined at [] others a all b more = b
orders_joined at (place ∷ places) others a all b more = (
  all_joined (λ (later : Place). IsBefore place later) places others a.0
      (all_later (λ (later : Place). suc at ≤ later.table) (λ (later : Place). IsBefore place later)
      (λ later l. inl (let e = all.0.0 in omega (arith, l, e))) others more),
  orders_joined at places others a.1 all.1 b more,
)

tables_in_order : (first : ℕ) (own : Own) → InOrder (by_table place_at first own)
tables_in_order first [] = tt
tables_in_order first (cells ∷ own) =
    orders_joined first (by_position (place_at first) 0 cells) (by_table place_at (suc first) own) (table_in_order first 0 cells) (from_here first 0 cells)
    (tables_in_order (suc first) own) (from_table (suc first) own)

pub written_in_order : (own : Own) → InOrder (written own)
written_in_order own = tables_in_order 0 own
