-- What an UPDATE or a DELETE that judges each position of a table leaves of the table's rows.
use Rattle.std.proofs.Common.{◌≡◌, ℕ, zero, suc, ◌+◌, ◌≤◌, List, [], ◌∷◌, ◌++◌, Option, None, Some, Result, Ok, Err, Bool, true, false, length}
use Rattle.std.proofs.Common.{get_or, filter, refl, ap, sym, ◌∙◌, subst, arith, append_assoc}
use Rattle.std.specs.Prelude.{cond, not, count_by}
use Rattle.std.specs.List.{range_with_len}
use Rattle.std.specs.Option.{option_map}
use Rattle.std.proofs.lemmas.List.{set_at, length-append}
use Rattle.std.proofs.lemmas.List.Sums.{sum_by-cons}
use Rattle.hy_value.specs.declared.Value.{Value}
use Rattle.hy_bound.specs.declared.Assign.{Assign}
use Rattle.hy_bound.specs.declared.WriteKind.{WriteKind}
use Rattle.hy_bound.specs.declared.WriteKind.TheVariants as kind
use Rattle.hy_bound.specs.Condition.{Condition}
use Rattle.hy_bound.specs.Changes.{present}
use Rattle.hy_bound.specs.Assignment.{assigned}
use Rattle.hy_bound.specs.Predicate.{truth_of}
use Rattle.hy_meaning.specs.Statement.{Table, updated_rows}
use Rattle.hy_bound.specs.declared.Ending.{Ending}
use Rattle.hy_machine.specs.Writes.{Write}
use Rattle.hy_machine.specs.Tables.{Cell, covered}
use Rattle.hy_machine.specs.Visits.{new_cell, judged, verdict, write_of, and_write, sweep}
use Rattle.hy_replay.proofs.OverCells.{puts, AreIn}

-- the rows that a statement of this kind leaves of these, or none where a value is out of range
abbrev pub rows_left : WriteKind → Condition → Table → Option Table
rows_left (kind.Set sets) pred rows = updated_rows sets pred rows
rows_left kind.Delete pred rows = Some (filter (λ row. not (truth_of pred row)) rows)

-- a cell, or the one that is written over it
abbrev next_of : Cell → Option Cell → Cell
next_of cell written = covered (λ (own : Cell). own) cell written

-- ---- what is written at the first of positions

record AndWritten (table pos : ℕ) (first : Result (Option Cell) Ending) (rest : Result (List Write) Ending) (writes : List Write) : Type 0 where
  cell : Option Cell
  others : List Write
  here : first ≡ Ok cell
  there : rest ≡ Ok others
  both : write_of table pos cell ++ others ≡ writes

abbrev writes_or : List Write → Result (List Write) Ending → List Write
writes_or writes (Ok others) = others
writes_or writes (Err cause) = writes

abbrev cell_or : Option Cell → Result (Option Cell) Ending → Option Cell
cell_or cell (Ok other) = other
cell_or cell (Err cause) = cell

and_written : (table pos : ℕ) (first : Result (Option Cell) Ending) (rest : Result (List Write) Ending) (writes : List Write)
    → and_write table pos first rest ≡ Ok writes → AndWritten table pos first rest writes
and_written table pos (Err cause) rest writes e = absurd cc
and_written table pos (Ok cell) (Err cause) writes e = absurd cc
and_written table pos (Ok cell) (Ok others) writes e = record { cell = cell; others = others; here = refl; there = refl; both = cc }

-- ---- the first of positions

puts_first : (done : List Cell) (cell : Cell) (cells : List Cell) (table pos : ℕ) (written : Option Cell) (writes : List Write) → length done ≡ pos
    → puts (done ++ cell ∷ cells) (write_of table pos written ++ writes) ≡ puts ((done ++ next_of cell written ∷ []) ++ cells) writes
puts_first done cell cells table pos None writes e = ap (λ (all : List Cell). puts all writes) (sym (append_assoc done (cell ∷ []) cells))
puts_first done cell cells table pos (Some new) writes e =
    ap (λ (all : List Cell). puts all writes) (set_at done cell cells new pos e ∙ sym (append_assoc done (new ∷ []) cells))

-- what a position with this cell at which this is written does to the rows, and to how many are selected
record Judged (kind : WriteKind) (pred : Condition) (cell : Cell) (written : Option Cell) : Type 0 where
  rows : (cells after : List Cell) → rows_left kind pred (present cells) ≡ Some (present after)
      → rows_left kind pred (present (cell ∷ cells)) ≡ Some (present (next_of cell written ∷ after))
  count : (table pos : ℕ) (cells : List Cell) (writes : List Write) → length writes ≡ count_by (truth_of pred) (present cells)
      → length (write_of table pos written ++ writes) ≡ count_by (truth_of pred) (present (cell ∷ cells))

count_first : (pred : Condition) (row : List Value) (rows : Table) (b : Bool) → truth_of pred row ≡ b
    → count_by (truth_of pred) (row ∷ rows) ≡ cond b 1 0 + count_by (truth_of pred) rows
count_first pred row rows b e =
    sum_by-cons (λ one. cond (truth_of pred one) 1 0) row rows ∙ ap (λ c. cond c 1 0 + count_by (truth_of pred) rows) e

-- a row in front of rows that a statement leaves, where the statement leaves this of the row
row_spared : (kind : WriteKind) (pred : Condition) (row : List Value) (rows left : Table) → truth_of pred row ≡ false
    → rows_left kind pred rows ≡ Some left → rows_left kind pred (row ∷ rows) ≡ Some (row ∷ left)
row_spared (kind.Set sets) pred row rows left f h = rw (f, h) refl
row_spared kind.Delete pred row rows left f h = rw f (ap (option_map (λ (more : Table). row ∷ more)) h)

row_set : (sets : List Assign) (pred : Condition) (row new : List Value) (rows left : Table) → truth_of pred row ≡ true → assigned sets row ≡ Some new
    → updated_rows sets pred rows ≡ Some left → updated_rows sets pred (row ∷ rows) ≡ Some (new ∷ left)
row_set sets pred row new rows left t a h = rw (t, a, h) refl

row_gone : (pred : Condition) (row : List Value) (rows left : Table) → truth_of pred row ≡ true
    → rows_left kind.Delete pred rows ≡ Some left → rows_left kind.Delete pred (row ∷ rows) ≡ Some left
row_gone pred row rows left t h = rw t h

spared : (kind : WriteKind) (pred : Condition) (row : List Value) → truth_of pred row ≡ false → Judged kind pred (Some row) None
spared kind pred row f = record {
  rows = λ cells after h. row_spared kind pred row (present cells) (present after) f h;
  count = λ table pos cells writes h. omega (arith, h, count_first pred row (present cells) false f);
}

counted : (pred : Condition) (row : List Value) → truth_of pred row ≡ true → (new : Cell) (table pos : ℕ) (cells : List Cell) (writes : List Write)
    → length writes ≡ count_by (truth_of pred) (present cells)
    → length (write_of table pos (Some new) ++ writes) ≡ count_by (truth_of pred) (present (Some row ∷ cells))
counted pred row t new table pos cells writes h = omega (arith, h, count_first pred row (present cells) true t)

absent : (kind : WriteKind) (pred : Condition) → Judged kind pred None None
absent kind pred = record { rows = λ cells after h. h; count = λ table pos cells writes h. h }

set_judged : (sets : List Assign) (pred : Condition) (table pos : ℕ) (row : List Value) (written : Option Cell) (new : Option (List Value))
    → truth_of pred row ≡ true → assigned sets row ≡ new → judged table pos None (option_map Some new) ≡ Ok written
    → Judged (kind.Set sets) pred (Some row) written
set_judged sets pred table pos row written None t a h = absurd cc
set_judged sets pred table pos row written (Some new) t a h =
    subst (Judged (kind.Set sets) pred (Some row)) (ap (cell_or None) h) (record {
      rows = λ cells after g. row_set sets pred row new (present cells) (present after) t a g;
      count = λ table pos cells writes g. counted pred row t (Some new) table pos cells writes g;
    })

selected : (kind : WriteKind) (pred : Condition) (table pos : ℕ) (row : List Value) (written : Option Cell) → truth_of pred row ≡ true
    → judged table pos None (new_cell kind row) ≡ Ok written → Judged kind pred (Some row) written
selected (kind.Set sets) pred table pos row written t h = set_judged sets pred table pos row written (assigned sets row) t refl h
selected kind.Delete pred table pos row written t h =
    subst (Judged kind.Delete pred (Some row)) (ap (cell_or None) h) (record {
      rows = λ cells after g. row_gone pred row (present cells) (present after) t g;
      count = λ table pos cells writes g. counted pred row t None table pos cells writes g;
    })

row_judged : (kind : WriteKind) (pred : Condition) (table pos : ℕ) (row : List Value) (written : Option Cell) (b : Bool) → truth_of pred row ≡ b
    → cond b (judged table pos None (new_cell kind row)) (Ok None) ≡ Ok written → Judged kind pred (Some row) written
row_judged kind pred table pos row written true t h = selected kind pred table pos row written t h
row_judged kind pred table pos row written false f h = subst (Judged kind pred (Some row)) (ap (cell_or None) h) (spared kind pred row f)

judged_right : (kind : WriteKind) (pred : Condition) (table pos : ℕ) (cell : Cell) (written : Option Cell) → verdict kind pred table pos None cell ≡ Ok written
    → Judged kind pred cell written
judged_right kind pred table pos None written h = subst (Judged kind pred None) (ap (cell_or None) h) (absent kind pred)
judged_right kind pred table pos (Some row) written h = row_judged kind pred table pos row written (truth_of pred row) refl h

write_in : (table pos : ℕ) (written : Option Cell) (writes : List Write) → AreIn table writes → AreIn table (write_of table pos written ++ writes)
write_in table pos None writes h = h
write_in table pos (Some new) writes h = (refl, h)

-- ---- all positions

-- what the writes at positions leave that hold these cells, behind others
pub record Swept (kind : WriteKind) (pred : Condition) (table : ℕ) (done cells : List Cell) (writes : List Write) : Type 0 where
  pub after : List Cell
  pub left : puts (done ++ cells) writes ≡ done ++ after
  pub rows : rows_left kind pred (present cells) ≡ Some (present after)
  pub count : length writes ≡ count_by (truth_of pred) (present cells)
  pub there : AreIn table writes

-- a statement's verdicts at positions from this one on, which hold these cells, and behind them nothing
abbrev Judges : WriteKind → Condition → ℕ → (ℕ → Result (Option Cell) Ending) → ℕ → List Cell → Type 0
Judges kind pred table judge start cells = (i : ℕ) → judge (start + i) ≡ verdict kind pred table (start + i) None (get_or cells i None)

judges_first : (kind : WriteKind) (pred : Condition) (table : ℕ) (judge : ℕ → Result (Option Cell) Ending) (start : ℕ) (cells : List Cell)
    → Judges kind pred table judge start cells → judge start ≡ verdict kind pred table start None (get_or cells 0 None)
judges_first kind pred table judge start cells h =
    subst (λ (n : ℕ). judge n ≡ verdict kind pred table n None (get_or cells 0 None)) (let e : start + 0 ≡ start = omega arith in e) (h 0)

judges_rest : (kind : WriteKind) (pred : Condition) (table : ℕ) (judge : ℕ → Result (Option Cell) Ending) (start : ℕ) (cell : Cell) (cells : List Cell)
    → Judges kind pred table judge start (cell ∷ cells) → Judges kind pred table judge (start + 1) cells
judges_rest kind pred table judge start cell cells h i =
    subst (λ (n : ℕ). judge n ≡ verdict kind pred table n None (get_or cells i None)) (let e : start + suc i ≡ start + 1 + i = omega arith in e) (h (suc i))

judges_past : (kind : WriteKind) (pred : Condition) (table : ℕ) (judge : ℕ → Result (Option Cell) Ending) (start : ℕ)
    → Judges kind pred table judge start [] → Judges kind pred table judge (start + 1) []
judges_past kind pred table judge start h i =
    subst (λ (n : ℕ). judge n ≡ verdict kind pred table n None None) (let e : start + suc i ≡ start + 1 + i = omega arith in e) (h (suc i))

-- behind the cells nothing is written
past_swept : (kind : WriteKind) (pred : Condition) (table : ℕ) (judge : ℕ → Result (Option Cell) Ending) (start many : ℕ)
    → Judges kind pred table judge start [] → sweep table judge (range_with_len start many) ≡ Ok []
past_swept kind pred table judge start zero h = refl
past_swept kind pred table judge start (suc many) h =
    ap (λ (first : Result (Option Cell) Ending). and_write table start first (sweep table judge (range_with_len (start + 1) many)))
    (judges_first kind pred table judge start [] h)
    ∙ ap (and_write table start (Ok None)) (past_swept kind pred table judge (start + 1) many (judges_past kind pred table judge start h))

none_left : (kind : WriteKind) (pred : Condition) → rows_left kind pred [] ≡ Some []
none_left (kind.Set sets) pred = refl
none_left kind.Delete pred = refl

nothing_swept : (kind : WriteKind) (pred : Condition) (table : ℕ) (done : List Cell) (writes : List Write) → [] ≡ writes → Swept kind pred table done [] writes
nothing_swept kind pred table done writes e =
    subst (Swept kind pred table done []) e (record { after = []; left = refl; rows = none_left kind pred; count = refl; there = tt })

first_swept : (kind : WriteKind) (pred : Condition) (table pos : ℕ) (done : List Cell) (cell : Cell) (cells : List Cell) (written : Option Cell)
    (others : List Write) → length done ≡ pos → verdict kind pred table pos None cell ≡ Ok written
    → Swept kind pred table (done ++ next_of cell written ∷ []) cells others
    → Swept kind pred table done (cell ∷ cells) (write_of table pos written ++ others)
first_swept kind pred table pos done cell cells written others e v rest =
    let here : Judged kind pred cell written = judged_right kind pred table pos cell written v in
    record {
      after = next_of cell written ∷ rest.after;
      left = puts_first done cell cells table pos written others e ∙ (rest.left ∙ append_assoc done (next_of cell written ∷ []) rest.after);
      rows = here.rows cells rest.after rest.rows;
      count = here.count table pos cells others rest.count;
      there = write_in table pos written others rest.there;
    }

pub swept : (kind : WriteKind) (pred : Condition) (table : ℕ) (judge : ℕ → Result (Option Cell) Ending) (start many : ℕ) (done cells : List Cell)
    (writes : List Write) → length done ≡ start → length cells ≤ many → Judges kind pred table judge start cells
    → sweep table judge (range_with_len start many) ≡ Ok writes → Swept kind pred table done cells writes
swept kind pred table judge start many done [] writes e few h s =
    nothing_swept kind pred table done writes (ap (writes_or []) (sym (past_swept kind pred table judge start many h) ∙ s))
swept kind pred table judge start zero done (cell ∷ cells) writes e few h s = absurd (omega arith)
swept kind pred table judge start (suc many) done (cell ∷ cells) writes e few h s =
    let first = and_written table start (judge start) (sweep table judge (range_with_len (start + 1) many)) writes s in
    let told : verdict kind pred table start None cell ≡ Ok first.cell = sym (judges_first kind pred table judge start (cell ∷ cells) h) ∙ first.here in
    subst (Swept kind pred table done (cell ∷ cells)) first.both
    (first_swept kind pred table start done cell cells first.cell first.others e told
    (swept kind pred table judge (start + 1) many (done ++ next_of cell first.cell ∷ []) cells first.others
    (omega (arith, e, length-append done (next_of cell first.cell ∷ []))) (omega arith) (judges_rest kind pred table judge start cell cells h) first.there))
