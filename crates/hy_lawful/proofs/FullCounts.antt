-- Counting positions that pass a test, and what the INSERTs of a transaction took.
use Rattle.std.proofs.Common.{◌≡◌, ℕ, zero, suc, ◌+◌, ◌<◌, ◌≤◌, List, [], ◌∷◌, ◌++◌, Option, Some, Bool, true, false, not, is_some, length, cond}
use Rattle.std.proofs.Common.{refl, ap, sym, ◌∙◌, arith}
use Rattle.std.proofs.Common.{inl, inr, ◌⊎◌}
use Rattle.std.specs.Prelude.{slice_get, ◌&&◌}
use Rattle.std.specs.List.{AllByRecursion}
use Rattle.std.proofs.lemmas.Bool.{cases_Bool, cases_eq, eq-eqb}
use Rattle.std.proofs.lemmas.Option.{same_Some}
use Rattle.hy_value.specs.declared.Value.{Value}
use Rattle.hy_bound.specs.declared.Bound.{Bound}
use Rattle.hy_bound.specs.declared.Bound.TheVariants.{Insert}
use Rattle.hy_machine.specs.Writes.{Write, with_write, with_writes}
use Rattle.hy_machine.specs.Positions.{item_at}
use Rattle.hy_machine.specs.Tables.{Cell, Tables, Own}
use Rattle.hy_machine.specs.Outcomes.{placed_by, placed_in}
use Rattle.hy_lawful.specs.Rooms.{how_many, has_placed}
use Rattle.hy_lawful.proofs.Booleans.{and_left, and_right, and_true}
use Rattle.hy_lawful.proofs.PassHolds.{write_cases, written_is}

-- ---- counts

abbrev pub one_if : Bool → ℕ
one_if b = cond b 1 0

pub if_less : (b c : Bool) → (b ≡ true → c ≡ true) → one_if b ≤ one_if c
if_less true c h = rw (h refl) omega arith
if_less false c h = omega arith

pub if_most : (b : Bool) → one_if b ≤ 1
if_most true = omega arith
if_most false = omega arith

pub fewer : (f g : ℕ → Bool) (n : ℕ) → ((pos : ℕ) → pos < n → f pos ≡ true → g pos ≡ true) → how_many f n ≤ how_many g n
fewer f g zero h = omega arith
fewer f g (suc n) h =
    omega (arith, if_less (f n) (g n) (h n (omega arith)), fewer f g n (λ pos below. h pos (omega (arith, below))))

-- all but one of those that pass a test pass another
pub one_more : (f g : ℕ → Bool) (one n : ℕ) → ((pos : ℕ) → (pos ≡ one → ⊥) → f pos ≡ true → g pos ≡ true) → how_many f n ≤ how_many g n + 1
one_more f g one zero h = omega arith
one_more f g one (suc n) h = elim (cases_eq n one) [
  | inl same ↦ omega (arith, if_most (f n), fewer f g n (λ pos below. h pos (λ e. omega (arith, e, same, below))))
  | inr apart ↦ omega (arith, if_less (f n) (g n) (h n apart), one_more f g one n h)
]

pub none_pass : (f : ℕ → Bool) (n : ℕ) → ((pos : ℕ) → f pos ≡ true → ⊥) → how_many f n ≡ 0
none_pass f zero h = refl
none_pass f (suc n) h = elim (cases_Bool (f n)) [
  | inl t ↦ absurd (h n t)
  | inr fails ↦ let none : one_if (f n) ≡ 0 = ap one_if fails in omega (arith, none, none_pass f n h)
]

-- where each position passes one of two tests, the passed ones are at least as many as the positions
if_either : (a b c : Bool) → (a ≡ true → (b ≡ true) ⊎ (c ≡ true)) → one_if a ≤ one_if b + one_if c
if_either false b c h = omega arith
if_either true b c h = elim (h refl) [
  | inl e ↦ rw e omega arith
  | inr e ↦ rw e omega arith
]

pub either : (f g k : ℕ → Bool) (n : ℕ) → ((pos : ℕ) → pos < n → f pos ≡ true → (g pos ≡ true) ⊎ (k pos ≡ true)) → how_many f n ≤ how_many g n + how_many k n
either f g k zero h = omega arith
either f g k (suc n) h =
    omega (arith, if_either (f n) (g n) (k n) (h n (omega arith)), either f g k n (λ pos below. h pos (omega (arith, below))))

-- ---- what INSERTs took

pub took_least : (table : ℕ) (statements : List Bound) (took : List (Option ℕ)) (at : Option ℕ)
    → placed_in table statements took ≤ placed_in table statements (took ++ at ∷ [])
took_least table [] took at = omega arith
took_least table (statement ∷ statements) [] at = omega arith
took_least table (statement ∷ statements) (one ∷ took) at = omega (arith, took_least table statements took at)

pub took_more : (table : ℕ) (statements : List Bound) (took : List (Option ℕ)) (at : Option ℕ) (statement : Bound)
    → slice_get statements (length took) ≡ Some statement
    → placed_in table statements (took ++ at ∷ []) ≡ placed_in table statements took + placed_by table statement at
took_more table [] took at statement e = absurd cc
took_more table (first ∷ statements) [] at statement e =
    ap (λ (one : Bound). placed_by table one at + placed_in table statements []) (same_Some first statement e)
    ∙ rest (placed_by table statement at) statements
  where
    none_left : (statements : List Bound) → placed_in table statements [] ≡ 0
    none_left [] = refl
    none_left (one ∷ statements) = refl

    rest : (n : ℕ) (statements : List Bound) → n + placed_in table statements [] ≡ 0 + n
    rest n statements = ap (λ (m : ℕ). n + m) (none_left statements) ∙ (let e : n + 0 ≡ 0 + n = omega arith in e)
took_more table (first ∷ statements) (one ∷ took) at statement e =
    let ih : placed_in table statements (took ++ at ∷ []) ≡ placed_in table statements took + placed_by table statement at =
    took_more table statements took at statement e in
    ap (λ (n : ℕ). placed_by table first one + n) ih
    ∙ (let e : placed_by table first one + (placed_in table statements took + placed_by table statement at)
    ≡ placed_by table first one + placed_in table statements took + placed_by table statement at = omega arith in e)

-- ---- what writes place

-- writes at positions that are one's own, or have a row at one's start
abbrev pub AllRowed : Tables → Own → List Write → Type 0
AllRowed tables own writes =
    AllByRecursion (λ (write : Write). (is_some (item_at own write.table write.pos) ≡ true) ⊎ (is_some (item_at tables write.table write.pos) ≡ true)) writes

placed_parts : (a b : Bool) → (a && not b) ≡ true → b ≡ true → ⊥
placed_parts true true e t = absurd cc
placed_parts true false e t = absurd cc
placed_parts false b e t = absurd cc

pub rowed_place : (tables : Tables) (own : Own) (writes : List Write) → AllRowed tables own writes → (table pos : ℕ)
    → has_placed tables (with_writes own writes) table pos ≡ true → has_placed tables own table pos ≡ true
rowed_place tables own writes all table pos h =
    let there : Bool = is_some (item_at (with_writes own writes) table pos) in
    let row : Bool = is_some (item_at tables table pos) in
    elim (written_is (λ at other. (is_some (item_at own at other) ≡ true) ⊎ (is_some (item_at tables at other) ≡ true)) writes own all
    (λ at other some. inl some) table pos (and_left there (not row) h)) [
      | inl old ↦ and_true (is_some (item_at own table pos)) (not row) old (and_right there (not row) h)
      | inr stood ↦ absurd (placed_parts there row h stood)
    ]

pub rowed_count : (tables : Tables) (own : Own) (writes : List Write) → AllRowed tables own writes → (table n : ℕ)
    → how_many (has_placed tables (with_writes own writes) table) n ≤ how_many (has_placed tables own table) n
rowed_count tables own writes all table n =
    fewer (has_placed tables (with_writes own writes) table) (has_placed tables own table) n (λ pos below. rowed_place tables own writes all table pos)

pub insert_count : (tables : Tables) (own : Own) (of at : ℕ) (row : List Value) (table n : ℕ)
    → how_many (has_placed tables (with_write own (record { table = of; pos = at; cell = Some row })) table) n
    ≤ how_many (has_placed tables own table) n + placed_by table (Insert of row) (Some at)
insert_count tables own of at row table n = elim (cases_eq table of) [
  | inl same ↦
      let taken : placed_by table (Insert of row) (Some at) ≡ 1 = ap one_if (eq-eqb of table (sym same)) in
      omega (
        arith,
        taken,
        one_more (has_placed tables (with_write own write) table) (has_placed tables own table) at n
            (λ pos away h. kept pos h (λ e. away e.1)),
      )
  | inr apart ↦ omega (
    arith,
    fewer (has_placed tables (with_write own write) table) (has_placed tables own table) n
        (λ pos below h. kept pos h (λ e. apart e.0)),
  )
]
  where
    write : Write
    write = record { table = of; pos = at; cell = Some row }

    kept : (pos : ℕ) → has_placed tables (with_write own write) table pos ≡ true → ((table ≡ of) × (pos ≡ at) → ⊥)
        → has_placed tables own table pos ≡ true
    kept pos h n = elim (write_cases own write table pos) [
      | inl same ↦ ap (λ (item : Option Cell). is_some item && not (is_some (item_at tables table pos))) (sym same) ∙ h
      | inr here ↦ absurd (n here)
    ]
