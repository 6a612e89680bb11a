-- Sweeps over positions and then over those behind them.
use Rattle.std.proofs.Common.{◌≡◌, ℕ, zero, suc, ◌+◌, ◌<◌, ◌≤◌, List, [], ◌∷◌, ◌++◌, Option, None, Some, Result, Ok, Err}
use Rattle.std.proofs.Common.{get_or, refl, ap, sym, ◌∙◌, arith, append_assoc}
use Rattle.std.proofs.Math.ListN.{set}
use Rattle.std.specs.List.{AllByRecursion, range_with_len}
use Rattle.std.proofs.lemmas.List.{get_or-set_other}
use Rattle.hy_bound.specs.declared.Ending.{Ending}
use Rattle.hy_machine.specs.Writes.{Write, with_write, with_writes}
use Rattle.hy_machine.specs.Positions.{item_at}
use Rattle.hy_machine.specs.Tables.{Cell, Tables, Own, overlaid, covered, over}
use Rattle.hy_machine.specs.Visits.{write_of, and_write, sweep}

-- ---- what stands behind writes

kept_cell : (cells : List Cell) (items : List (Option Cell)) (pos : ℕ) → get_or items pos None ≡ None
    → get_or (overlaid (covered (λ own. own)) cells items) pos None ≡ get_or cells pos None
kept_cell [] items pos e = refl
kept_cell (cell ∷ cells) [] pos e = refl
kept_cell (cell ∷ cells) (item ∷ items) zero e = ap (covered (λ (own : Cell). own) cell) e
kept_cell (cell ∷ cells) (item ∷ items) (suc pos) e = kept_cell cells items pos e

kept_item : (tables : Tables) (own : Own) (table pos : ℕ) → item_at own table pos ≡ None → item_at (over tables own) table pos ≡ item_at tables table pos
kept_item [] own table pos e = refl
kept_item (cells ∷ tables) [] table pos e = refl
kept_item (cells ∷ tables) (items ∷ own) zero pos e = kept_cell cells items pos e
kept_item (cells ∷ tables) (items ∷ own) (suc table) pos e = kept_item tables own table pos e

alike_cell : (cells : List Cell) (items others : List (Option Cell)) (pos : ℕ) → get_or items pos None ≡ get_or others pos None
    → get_or (overlaid (covered (λ own. own)) cells items) pos None ≡ get_or (overlaid (covered (λ own. own)) cells others) pos None
alike_cell [] items others pos e = refl
alike_cell (cell ∷ cells) [] others pos e = sym (kept_cell (cell ∷ cells) others pos (sym e))
alike_cell (cell ∷ cells) (item ∷ items) [] pos e = kept_cell (cell ∷ cells) (item ∷ items) pos e
alike_cell (cell ∷ cells) (item ∷ items) (other ∷ others) zero e = ap (covered (λ (own : Cell). own) cell) e
alike_cell (cell ∷ cells) (item ∷ items) (other ∷ others) (suc pos) e = alike_cell cells items others pos e

-- where own writes are alike, tables with them over are alike
pub alike_over : (tables : Tables) (own other : Own) (table pos : ℕ) → item_at own table pos ≡ item_at other table pos
    → item_at (over tables own) table pos ≡ item_at (over tables other) table pos
alike_over [] own other table pos e = refl
alike_over (cells ∷ tables) [] other table pos e = sym (kept_item (cells ∷ tables) other table pos (sym e))
alike_over (cells ∷ tables) (items ∷ own) [] table pos e = kept_item (cells ∷ tables) (items ∷ own) table pos e
alike_over (cells ∷ tables) (items ∷ own) (others ∷ other) zero pos e = alike_cell cells items others pos e
alike_over (cells ∷ tables) (items ∷ own) (others ∷ other) (suc table) pos e = alike_over tables own other table pos e

write_apart : (own : Own) (written at : ℕ) (cell : Cell) (table pos : ℕ) → (pos ≡ at → ⊥)
    → item_at (set own written (set (get_or own written []) at (Some cell))) table pos ≡ item_at own table pos
write_apart [] written at cell table pos n = refl
write_apart (items ∷ own) zero at cell zero pos n = get_or-set_other items at pos (Some cell) None n
write_apart (items ∷ own) zero at cell (suc table) pos n = refl
write_apart (items ∷ own) (suc written) at cell zero pos n = refl
write_apart (items ∷ own) (suc written) at cell (suc table) pos n = write_apart own written at cell table pos n

-- writes below a position leave what stands there
pub writes_apart : (own : Own) (writes : List Write) (table pos : ℕ) → AllByRecursion (λ (write : Write). write.pos < pos) writes
    → item_at (with_writes own writes) table pos ≡ item_at own table pos
writes_apart own [] table pos h = refl
writes_apart own (write ∷ writes) table pos h =
    writes_apart (with_write own write) writes table pos h.1
    ∙ write_apart own write.table write.pos write.cell table pos (λ e. absurd (omega (arith, h.0, e)))

-- ---- positions and those behind them

pub range_joined : (first many more : ℕ) → range_with_len first (many + more) ≡ range_with_len first many ++ range_with_len (first + many) more
range_joined first zero more =
    ap (range_with_len first) (let same : 0 + more ≡ more = omega arith in same)
    ∙ ap (λ (start : ℕ). range_with_len start more) (let same : first ≡ first + 0 = omega arith in same)
range_joined first (suc many) more =
    ap (range_with_len first) (let same : suc many + more ≡ suc (many + more) = omega arith in same)
    ∙ (ap (λ (rest : List ℕ). first ∷ rest) (range_joined (first + 1) many more)
    ∙ ap (λ (start : ℕ). first ∷ (range_with_len (first + 1) many ++ range_with_len start more))
    (let same : first + 1 + many ≡ first + suc many = omega arith in same))

-- what is written at positions, and then at others
abbrev pub both_written : Result (List Write) Ending → Result (List Write) Ending → Result (List Write) Ending
both_written (Err cause) others = Err cause
both_written (Ok writes) (Err cause) = Err cause
both_written (Ok writes) (Ok others) = Ok (writes ++ others)

nothing_first : (others : Result (List Write) Ending) → others ≡ both_written (Ok []) others
nothing_first (Err cause) = refl
nothing_first (Ok others) = refl

one_first : (table pos : ℕ) (judged : Result (Option Cell) Ending) (writes others : Result (List Write) Ending)
    → and_write table pos judged (both_written writes others) ≡ both_written (and_write table pos judged writes) others
one_first table pos (Err cause) writes others = refl
one_first table pos (Ok cell) (Err cause) others = refl
one_first table pos (Ok cell) (Ok writes) (Err cause) = refl
one_first table pos (Ok cell) (Ok writes) (Ok others) =
    ap (λ (all : List Write). Ok all) (sym (append_assoc (write_of table pos cell) writes others))

pub sweep_joined : (table : ℕ) (judge : ℕ → Result (Option Cell) Ending) (positions more : List ℕ)
    → sweep table judge (positions ++ more) ≡ both_written (sweep table judge positions) (sweep table judge more)
sweep_joined table judge [] more = nothing_first (sweep table judge more)
sweep_joined table judge (pos ∷ positions) more =
    ap (and_write table pos (judge pos)) (sweep_joined table judge positions more)
    ∙ one_first table pos (judge pos) (sweep table judge positions) (sweep table judge more)

-- the same comes of positions where the verdicts are the same
pub sweep_alike : (table : ℕ) (judge other : ℕ → Result (Option Cell) Ending) (first many : ℕ)
    → ((pos : ℕ) → first ≤ pos → judge pos ≡ other pos) → sweep table judge (range_with_len first many) ≡ sweep table other (range_with_len first many)
sweep_alike table judge other first zero same = refl
sweep_alike table judge other first (suc many) same =
    ap (λ (one : Result (Option Cell) Ending). and_write table first one (sweep table judge (range_with_len (first + 1) many))) (same first (omega arith))
    ∙ ap (and_write table first (other first)) (sweep_alike table judge other (first + 1) many (λ pos h. same pos (omega (arith, h))))

-- ---- what is written at positions is written below their end

-- all writes are below a position, unless there was a refusal
abbrev pub AreBelow : ℕ → Result (List Write) Ending → Type 0
AreBelow end (Err cause) = Unit {0}
AreBelow end (Ok writes) = AllByRecursion (λ (write : Write). write.pos < end) writes

first_below : (table pos end : ℕ) (cell : Option Cell) (writes : List Write) → pos < end → AllByRecursion (λ (write : Write). write.pos < end) writes
    → AllByRecursion (λ (write : Write). write.pos < end) (write_of table pos cell ++ writes)
first_below table pos end None writes h rest = rest
first_below table pos end (Some cell) writes h rest = (h, rest)

both_below : (table pos end : ℕ) (judged : Result (Option Cell) Ending) (writes : Result (List Write) Ending) → pos < end → AreBelow end writes
    → AreBelow end (and_write table pos judged writes)
both_below table pos end (Err cause) writes h rest = tt
both_below table pos end (Ok cell) (Err cause) h rest = tt
both_below table pos end (Ok cell) (Ok writes) h rest = first_below table pos end cell writes h rest

pub sweep_below : (table : ℕ) (judge : ℕ → Result (Option Cell) Ending) (first many end : ℕ) → first + many ≤ end
    → AreBelow end (sweep table judge (range_with_len first many))
sweep_below table judge first zero end h = tt
sweep_below table judge first (suc many) end h =
    both_below table first end (judge first) (sweep table judge (range_with_len (first + 1) many)) (omega (arith, h))
    (sweep_below table judge (first + 1) many end (omega (arith, h)))
