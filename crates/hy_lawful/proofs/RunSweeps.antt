-- What an UPDATE or a DELETE writes chunk by chunk is what it writes at all these chunks' positions.
use Rattle.std.proofs.Common.{◌≡◌, ℕ, zero, suc, ◌+◌, ◌<◌, ◌≤◌, List, [], ◌∷◌, ◌++◌, Option, None, Some, Result, Ok, Err, Bool, true, false}
use Rattle.std.proofs.Common.{cond, get_or, refl, ap, sym, ◌∙◌, subst, arith, append_assoc}
use Rattle.std.proofs.Math.ListN.{set}
use Rattle.std.specs.List.{AllByRecursion, range_with_len}
use Rattle.std.proofs.lemmas.List.{get_or-set_other}
use Rattle.hy_stamp.specs.declared.Label.{Label}
use Rattle.hy_bound.specs.declared.WriteKind.{WriteKind}
use Rattle.hy_bound.specs.Condition.{Condition}
use Rattle.hy_bound.specs.Predicate.{truth_of}
use Rattle.hy_bound.specs.declared.Ending.{Ending}
use Rattle.hy_machine.specs.Writes.{Write, with_write, with_writes}
use Rattle.hy_machine.specs.Positions.{item_at}
use Rattle.hy_machine.specs.Tables.{Cell, Tables, Own, overlaid, covered, covered_tables, over}
use Rattle.hy_machine.specs.Visits.{new_cell, judged, verdict, write_of, and_write, sweep}

-- ---- lists laid over tables

kept_cell : {B : Type 0} (f : B → Cell) (cells : List Cell) (items : List (Option B)) (pos : ℕ) → get_or items pos None ≡ None
    → get_or (overlaid (covered f) cells items) pos None ≡ get_or cells pos None
kept_cell f [] items pos e = refl
kept_cell f (cell ∷ cells) [] pos e = refl
kept_cell f (cell ∷ cells) (item ∷ items) zero e = ap (covered f cell) e
kept_cell f (cell ∷ cells) (item ∷ items) (suc pos) e = kept_cell f cells items pos e

-- where nothing is laid over tables they stay as they are
pub kept_item : {B : Type 0} (f : B → Cell) (tables : Tables) (lists : List (List (Option B))) (table pos : ℕ) → item_at lists table pos ≡ None
    → item_at (covered_tables f tables lists) table pos ≡ item_at tables table pos
kept_item f [] lists table pos e = refl
kept_item f (cells ∷ tables) [] table pos e = refl
kept_item f (cells ∷ tables) (items ∷ lists) zero pos e = kept_cell f cells items pos e
kept_item f (cells ∷ tables) (items ∷ lists) (suc table) pos e = kept_item f tables lists table pos e

alike_cell : (cells : List Cell) (items others : List (Option Cell)) (pos : ℕ) → get_or items pos None ≡ get_or others pos None
    → get_or (overlaid (covered (λ own. own)) cells items) pos None ≡ get_or (overlaid (covered (λ own. own)) cells others) pos None
alike_cell [] items others pos e = refl
alike_cell (cell ∷ cells) [] others pos e = sym (kept_cell (λ (own : Cell). own) (cell ∷ cells) others pos (sym e))
alike_cell (cell ∷ cells) (item ∷ items) [] pos e = kept_cell (λ (own : Cell). own) (cell ∷ cells) (item ∷ items) pos e
alike_cell (cell ∷ cells) (item ∷ items) (other ∷ others) zero e = ap (covered (λ (own : Cell). own) cell) e
alike_cell (cell ∷ cells) (item ∷ items) (other ∷ others) (suc pos) e = alike_cell cells items others pos e

-- where own writes are alike tables with them over are alike
pub alike_over : (tables : Tables) (own other : Own) (table pos : ℕ) → item_at own table pos ≡ item_at other table pos
    → item_at (over tables own) table pos ≡ item_at (over tables other) table pos
alike_over [] own other table pos e = refl
alike_over (cells ∷ tables) [] other table pos e = sym (kept_item (λ (own : Cell). own) (cells ∷ tables) other table pos (sym e))
alike_over (cells ∷ tables) (items ∷ own) [] table pos e = kept_item (λ (own : Cell). own) (cells ∷ tables) (items ∷ own) table pos e
alike_over (cells ∷ tables) (items ∷ own) (others ∷ other) zero pos e = alike_cell cells items others pos e
alike_over (cells ∷ tables) (items ∷ own) (others ∷ other) (suc table) pos e = alike_over tables own other table pos e

-- ---- writes

pub write_apart : (own : Own) (written at : ℕ) (cell : Cell) (table pos : ℕ) → (pos ≡ at → ⊥)
    → item_at (set own written (set (get_or own written []) at (Some cell))) table pos ≡ item_at own table pos
write_apart [] written at cell table pos n = refl
write_apart (items ∷ own) zero at cell zero pos n = get_or-set_other items at pos (Some cell) None n
write_apart (items ∷ own) zero at cell (suc table) pos n = refl
write_apart (items ∷ own) (suc written) at cell zero pos n = refl
write_apart (items ∷ own) (suc written) at cell (suc table) pos n = write_apart own written at cell table pos n

-- writes below a position leave what stands there
pub writes_apart : (own : Own) (writes : List Write) (table pos : ℕ) → AllByRecursion (λ (write : Write). write.pos < pos) writes
    → item_at (with_writes own writes) table pos ≡ item_at own table pos
writes_apart own [] table pos h = refl
writes_apart own (write ∷ writes) table pos h =
    writes_apart (with_write own write) writes table pos h.1
    ∙ write_apart own write.table write.pos write.cell table pos (λ e. absurd (omega (arith, h.0, e)))

-- ---- positions

pub range_joined : (first many more end : ℕ) → first + many ≡ end → range_with_len first many ++ range_with_len end more ≡ range_with_len first (many + more)
range_joined first zero more end e =
    ap (λ (start : ℕ). range_with_len start more) (let same : end ≡ first = omega arith in same)
    ∙ ap (range_with_len first) (let same : more ≡ 0 + more = omega arith in same)
range_joined first (suc many) more end e =
    ap (λ (rest : List ℕ). first ∷ rest) (range_joined (first + 1) many more end (omega arith))
    ∙ ap (range_with_len first) (let same : suc (many + more) ≡ suc many + more = omega arith in same)

-- ---- sweeps

pub record AndWritten (table pos : ℕ) (first : Result (Option Cell) Ending) (rest : Result (List Write) Ending) (writes : List Write) : Type 0 where
  pub cell : Option Cell
  pub others : List Write
  pub here : first ≡ Ok cell
  pub there : rest ≡ Ok others
  pub both : write_of table pos cell ++ others ≡ writes

pub and_written : (table pos : ℕ) (first : Result (Option Cell) Ending) (rest : Result (List Write) Ending) (writes : List Write)
    → and_write table pos first rest ≡ Ok writes → AndWritten table pos first rest writes
and_written table pos (Err cause) rest writes e = absurd cc
and_written table pos (Ok cell) (Err cause) writes e = absurd cc
and_written table pos (Ok cell) (Ok others) writes e = record { cell = cell; others = others; here = refl; there = refl; both = cc }

pub sweep_joined : (table : ℕ) (judge : ℕ → Result (Option Cell) Ending) (positions more : List ℕ) (writes others : List Write)
    → sweep table judge positions ≡ Ok writes → sweep table judge more ≡ Ok others → sweep table judge (positions ++ more) ≡ Ok (writes ++ others)
sweep_joined table judge [] more writes others e f =
    let same : [] ≡ writes = cc in f ∙ ap (λ (front : List Write). Ok (front ++ others)) same
sweep_joined table judge (pos ∷ positions) more writes others e f =
    let first : AndWritten table pos (judge pos) (sweep table judge positions) writes =
    and_written table pos (judge pos) (sweep table judge positions) writes e in
    ap (λ (here : Result (Option Cell) Ending). and_write table pos here (sweep table judge (positions ++ more))) first.here
    ∙ (ap (and_write table pos (Ok first.cell)) (sweep_joined table judge positions more first.others others first.there f)
    ∙ (ap (λ (all : List Write). Ok all) (sym (append_assoc (write_of table pos first.cell) first.others others))
    ∙ ap (λ (front : List Write). Ok (front ++ others)) first.both))

-- the same is written where the verdicts that write are the same
pub sweep_same : (table : ℕ) (judge other : ℕ → Result (Option Cell) Ending) (first many : ℕ)
    → ((pos : ℕ) (cell : Option Cell) → first ≤ pos → judge pos ≡ Ok cell → other pos ≡ Ok cell) → (writes : List Write)
    → sweep table judge (range_with_len first many) ≡ Ok writes → sweep table other (range_with_len first many) ≡ Ok writes
sweep_same table judge other first zero same writes e = e
sweep_same table judge other first (suc many) same writes e =
    let here : AndWritten table first (judge first) (sweep table judge (range_with_len (first + 1) many)) writes =
    and_written table first (judge first) (sweep table judge (range_with_len (first + 1) many)) writes e in
    let there : sweep table other (range_with_len (first + 1) many) ≡ Ok here.others =
    sweep_same table judge other (first + 1) many (λ pos cell h. same pos cell (omega arith)) here.others here.there in
    ap (λ (one : Result (Option Cell) Ending). and_write table first one (sweep table other (range_with_len (first + 1) many)))
    (same first here.cell (omega arith) here.here)
    ∙ (ap (and_write table first (Ok here.cell)) there ∙ ap (λ (all : List Write). Ok all) here.both)

below_first : (table pos end : ℕ) (cell : Option Cell) (writes : List Write) → pos < end → AllByRecursion (λ (write : Write). write.pos < end) writes
    → AllByRecursion (λ (write : Write). write.pos < end) (write_of table pos cell ++ writes)
below_first table pos end None writes h rest = rest
below_first table pos end (Some cell) writes h rest = (h, rest)

-- what is written at positions is written below their end
pub sweep_below : (table : ℕ) (judge : ℕ → Result (Option Cell) Ending) (first many end : ℕ) (writes : List Write) → first + many ≤ end
    → sweep table judge (range_with_len first many) ≡ Ok writes → AllByRecursion (λ (write : Write). write.pos < end) writes
sweep_below table judge first zero end writes h e =
    subst (AllByRecursion (λ (write : Write). write.pos < end)) (let same : [] ≡ writes = cc in same) tt
sweep_below table judge first (suc many) end writes h e =
    let here : AndWritten table first (judge first) (sweep table judge (range_with_len (first + 1) many)) writes =
    and_written table first (judge first) (sweep table judge (range_with_len (first + 1) many)) writes e in
    subst (AllByRecursion (λ (write : Write). write.pos < end)) here.both
    (below_first table first end here.cell here.others (omega arith)
    (sweep_below table judge (first + 1) many end here.others (omega arith) here.there))

-- ---- verdicts

judged_alone : (table pos : ℕ) (opponent : Option Label) (new written : Option Cell) → judged table pos opponent new ≡ Ok written
    → judged table pos None new ≡ Ok written
judged_alone table pos (Some other) new written e = absurd cc
judged_alone table pos None new written e = e

-- what isn't refused has no opponent, or isn't selected
pub verdict_alone : (kind : WriteKind) (pred : Condition) (table pos : ℕ) (opponent : Option Label) (cell : Cell) (written : Option Cell)
    → verdict kind pred table pos opponent cell ≡ Ok written → verdict kind pred table pos None cell ≡ Ok written
verdict_alone kind pred table pos opponent None written e = e
verdict_alone kind pred table pos opponent (Some row) written e = by_truth (truth_of pred row) e
  where
    by_truth : (b : Bool) → cond b (judged table pos opponent (new_cell kind row)) (Ok None) ≡ Ok written
        → cond b (judged table pos None (new_cell kind row)) (Ok None) ≡ Ok written
    by_truth true h = judged_alone table pos opponent (new_cell kind row) written h
    by_truth false h = h
