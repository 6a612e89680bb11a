-- How many positions a transaction wrote where no row stood at its start: as many as inserts took.
use Rattle.std.proofs.Common.{◌≡◌, ℕ, zero, suc, ◌+◌, List, [], ◌∷◌, ◌++◌, Option, None, Some, Result, Ok, Bool, true, false}
use Rattle.std.proofs.Common.{cond, is_some, get_or, map, refl, ap, ◌∙◌, subst, arith, inl, inr}
use Rattle.std.proofs.Math.ListN.{set}
use Rattle.std.specs.Prelude.{replicate, count_by}
use Rattle.std.specs.List.{AllByRecursion}
use Rattle.std.proofs.lemmas.List.Sums.{sum_by-append, sum_by-cons}
use Rattle.std.proofs.lemmas.Bool.{cases_Bool}
use Rattle.hy_value.specs.declared.Value.{Value}
use Rattle.hy_bound.specs.declared.WriteKind.{WriteKind}
use Rattle.hy_bound.specs.Condition.{Condition}
use Rattle.hy_render.specs.declared.Place.{Place}
use Rattle.hy_bound.specs.declared.Ending.{Ending}
use Rattle.hy_machine.specs.Writes.{Write, with_write, with_writes, place_at, written}
use Rattle.hy_machine.specs.Positions.{item_at, by_position, by_table}
use Rattle.hy_machine.specs.Tables.{Cell, Own}
use Rattle.hy_machine.specs.Visits.{verdict, write_of, sweep}
use Rattle.hy_lawful.proofs.Lists.{all_so}
use Rattle.hy_lawful.proofs.RunSweeps.{AndWritten, and_written}
use Rattle.hy_lawful.proofs.WroteFollows.{RoomIn, Room}

-- ---- how many written positions pass a test

abbrev pub passing_in : (ℕ → Bool) → List (Option Cell) → ℕ
passing_in test [] = 0
passing_in test (None ∷ items) = passing_in (λ pos. test (suc pos)) items
passing_in test (Some cell ∷ items) = cond (test 0) 1 0 + passing_in (λ pos. test (suc pos)) items

abbrev pub passing : (ℕ → ℕ → Bool) → Own → ℕ
passing test [] = 0
passing test (items ∷ own) = passing_in (test 0) items + passing (λ table. test (suc table)) own

set_kept : (test : ℕ → Bool) (items : List (Option Cell)) (at : ℕ) (cell : Cell) → (test at ≡ true → is_some (get_or items at None) ≡ true)
    → passing_in test (set items at (Some cell)) ≡ passing_in test items
set_kept test [] at cell h = refl
set_kept test (Some one ∷ items) zero cell h = refl
set_kept test (None ∷ items) zero cell h = elim (cases_Bool (test 0)) [
  | inl t ↦ absurd (let never : false ≡ true = h t in cc)
  | inr f ↦ ap (λ (b : Bool). cond {A = ℕ} b 1 0 + passing_in (λ pos. test (suc pos)) items) f ∙ omega arith
]
set_kept test (Some one ∷ items) (suc at) cell h =
    ap (λ (n : ℕ). cond (test 0) 1 0 + n) (set_kept (λ pos. test (suc pos)) items at cell h)
set_kept test (None ∷ items) (suc at) cell h = set_kept (λ pos. test (suc pos)) items at cell h

set_more : (test : ℕ → Bool) (items : List (Option Cell)) (at : ℕ) (cell : Cell) → RoomIn items at → get_or items at None ≡ None → test at ≡ true
    → passing_in test (set items at (Some cell)) ≡ 1 + passing_in test items
set_more test [] at cell r n t = absurd r
set_more test (Some one ∷ items) zero cell r n t = absurd cc
set_more test (None ∷ items) zero cell r n t = ap (λ (b : Bool). cond {A = ℕ} b 1 0 + passing_in (λ pos. test (suc pos)) items) t
set_more test (Some one ∷ items) (suc at) cell r n t =
    let more : passing_in (λ pos. test (suc pos)) (set items at (Some cell)) ≡ 1 + passing_in (λ pos. test (suc pos)) items =
    set_more (λ pos. test (suc pos)) items at cell r n t in
    ap (λ (n : ℕ). cond (test 0) 1 0 + n) more ∙ omega arith
set_more test (None ∷ items) (suc at) cell r n t = set_more (λ pos. test (suc pos)) items at cell r n t

pub put_kept : (test : ℕ → ℕ → Bool) (own : Own) (table at : ℕ) (cell : Cell) → (test table at ≡ true → is_some (item_at own table at) ≡ true)
    → passing test (set own table (set (get_or own table []) at (Some cell))) ≡ passing test own
put_kept test [] table at cell h = refl
put_kept test (items ∷ own) zero at cell h = ap (λ (n : ℕ). n + passing (λ table. test (suc table)) own) (set_kept (test 0) items at cell h)
put_kept test (items ∷ own) (suc table) at cell h =
    ap (λ (n : ℕ). passing_in (test 0) items + n) (put_kept (λ table. test (suc table)) own table at cell h)

pub put_more : (test : ℕ → ℕ → Bool) (own : Own) (table at : ℕ) (cell : Cell) → Room own table at → item_at own table at ≡ None → test table at ≡ true
    → passing test (set own table (set (get_or own table []) at (Some cell))) ≡ 1 + passing test own
put_more test [] table at cell r n t = absurd r
put_more test (items ∷ own) zero at cell r n t =
    ap (λ (n : ℕ). n + passing (λ table. test (suc table)) own) (set_more (test 0) items at cell r n t) ∙ omega arith
put_more test (items ∷ own) (suc table) at cell r n t =
    ap (λ (n : ℕ). passing_in (test 0) items + n) (put_more (λ table. test (suc table)) own table at cell r n t) ∙ omega arith

-- what is written stays written
set_some : (items : List (Option Cell)) (at : ℕ) (cell : Cell) (pos : ℕ) → is_some (get_or items pos None) ≡ true
    → is_some (get_or (set items at (Some cell)) pos None) ≡ true
set_some [] at cell pos h = h
set_some (one ∷ items) zero cell zero h = refl
set_some (one ∷ items) zero cell (suc pos) h = h
set_some (one ∷ items) (suc at) cell zero h = h
set_some (one ∷ items) (suc at) cell (suc pos) h = set_some items at cell pos h

put_some : (own : Own) (written at : ℕ) (cell : Cell) (table pos : ℕ) → is_some (item_at own table pos) ≡ true
    → is_some (item_at (set own written (set (get_or own written []) at (Some cell))) table pos) ≡ true
put_some [] written at cell table pos h = h
put_some (items ∷ own) zero at cell zero pos h = set_some items at cell pos h
put_some (items ∷ own) zero at cell (suc table) pos h = h
put_some (items ∷ own) (suc written) at cell zero pos h = h
put_some (items ∷ own) (suc written) at cell (suc table) pos h = put_some own written at cell table pos h

-- where a position that passes was written before
abbrev pub WasWritten : (ℕ → ℕ → Bool) → Own → Write → Type 0
WasWritten test own write = test write.table write.pos ≡ true → is_some (item_at own write.table write.pos) ≡ true

pub writes_kept : (test : ℕ → ℕ → Bool) (own : Own) (all : List Write) → AllByRecursion (WasWritten test own) all
    → passing test (with_writes own all) ≡ passing test own
writes_kept test own [] h = refl
writes_kept test own (write ∷ all) h =
    writes_kept test (with_write own write) all
    (all_so (WasWritten test own) (WasWritten test (with_write own write)) all
    (λ one w t. put_some own write.table write.pos write.cell one.table one.pos (w t)) h.1)
    ∙ put_kept test own write.table write.pos write.cell h.0

-- ---- sweeps

pub sweep_all : (P : Write → Type 0) (table : ℕ) (judge : ℕ → Result (Option Cell) Ending)
    → ((pos : ℕ) (cell : Cell) → judge pos ≡ Ok (Some cell) → P (record { table = table; pos = pos; cell = cell }))
    → (positions : List ℕ) (all : List Write) → sweep table judge positions ≡ Ok all → AllByRecursion P all
sweep_all P table judge f [] all e = subst (AllByRecursion P) (let same : [] ≡ all = cc in same) tt
sweep_all P table judge f (pos ∷ positions) all e =
    let here : AndWritten table pos (judge pos) (sweep table judge positions) all =
    and_written table pos (judge pos) (sweep table judge positions) all e in
    subst (AllByRecursion P) here.both
    (by_cell here.cell here.here here.others (sweep_all P table judge f positions here.others here.there))
  where
    by_cell : (cell : Option Cell) → judge pos ≡ Ok cell → (others : List Write) → AllByRecursion P others
        → AllByRecursion P (write_of table pos cell ++ others)
    by_cell None j others rest = rest
    by_cell (Some cell) j others rest = (f pos cell j, rest)

-- what is selected is a row
pub selects_row : (kind : WriteKind) (pred : Condition) (table pos : ℕ) (cell : Cell) (new : Cell)
    → verdict kind pred table pos None cell ≡ Ok (Some new) → is_some cell ≡ true
selects_row kind pred table pos None new e = absurd cc
selects_row kind pred table pos (Some row) new e = refl

-- ---- places

count_in : (p : Place → Bool) (test : ℕ → Bool) (table at : ℕ) (items : List (Option Cell))
    → ((pos : ℕ) → p (record { table = table; pos = at + pos }) ≡ test pos)
    → count_by p (by_position (place_at table) at items) ≡ passing_in test items
count_in p test table at [] f = refl
count_in p test table at (None ∷ items) f =
    count_in p (λ pos. test (suc pos)) table (suc at) items
    (λ pos. ap (λ (n : ℕ). p (record { table = table; pos = n })) (let same : suc at + pos ≡ at + suc pos = omega arith in same) ∙ f (suc pos))
count_in p test table at (Some cell ∷ items) f =
    sum_by-cons (λ (x : Place). cond {A = ℕ} (p x) 1 0) (record { table = table; pos = at }) (by_position (place_at table) (suc at) items)
    ∙ (ap (λ (b : Bool). cond {A = ℕ} b 1 0 + count_by p (by_position (place_at table) (suc at) items))
    (ap (λ (n : ℕ). p (record { table = table; pos = n })) (let same : at ≡ at + 0 = omega arith in same) ∙ f 0)
    ∙ ap (λ (n : ℕ). cond {A = ℕ} (test 0) 1 0 + n) (count_in p (λ pos. test (suc pos)) table (suc at) items
    (λ pos. ap (λ (n : ℕ). p (record { table = table; pos = n })) (let same : suc at + pos ≡ at + suc pos = omega arith in same) ∙ f (suc pos))))

pub count_from : (p : Place → Bool) (test : ℕ → ℕ → Bool) (first : ℕ) (own : Own)
    → ((table pos : ℕ) → p (record { table = first + table; pos = pos }) ≡ test table pos)
    → count_by p (by_table place_at first own) ≡ passing test own
count_from p test first [] f = refl
count_from p test first (items ∷ own) f =
    sum_by-append (λ (x : Place). cond {A = ℕ} (p x) 1 0) (by_position (place_at first) 0 items) (by_table place_at (suc first) own)
    ∙ (ap (λ (n : ℕ). n + count_by p (by_table place_at (suc first) own))
    (count_in p (test 0) first 0 items (λ pos.
    ap (λ (n : ℕ). p (record { table = n; pos = 0 + pos })) (let same : first ≡ first + 0 = omega arith in same)
    ∙ (ap (λ (n : ℕ). p (record { table = first + 0; pos = n })) (let same : 0 + pos ≡ pos = omega arith in same) ∙ f 0 pos)))
    ∙ ap (λ (n : ℕ). passing_in (test 0) items + n) (count_from p (λ table. test (suc table)) (suc first) own
    (λ table pos. ap (λ (n : ℕ). p (record { table = n; pos = pos })) (let same : suc first + table ≡ first + suc table = omega arith in same)
    ∙ f (suc table) pos)))

-- ---- nothing written

blank_in : (test : ℕ → Bool) (n : ℕ) → passing_in test (replicate n None) ≡ 0
blank_in test zero = refl
blank_in test (suc n) = blank_in (λ pos. test (suc pos)) n

pub blank_passing : (test : ℕ → ℕ → Bool) (n : ℕ) (rows : List (List (List Value)))
    → passing test (map (λ (one : List (List Value)). replicate n None) rows) ≡ 0
blank_passing test n [] = refl
blank_passing test n (one ∷ rows) = omega (blank_in (test 0) n, blank_passing (λ table. test (suc table)) n rows, arith)
