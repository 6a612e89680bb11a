-- The sweep of a chunk, as the chunk does it and as the machine does.
use Rattle.std.proofs.Common.{◌≡◌, ℕ, zero, suc, ◌+◌, List, [], ◌∷◌, length, Option, None, Some, Result, Ok, Err, Bool, true, false}
use Rattle.std.proofs.Common.{refl, sym, ap, ◌∙◌, subst, arith, cond}
use Rattle.std.specs.Prelude.{slice_get}
use Rattle.std.specs.List.{range_with_len}
use Rattle.std.specs.Option.{option_map}
use Rattle.std.proofs.lemmas.Option.{same_Some}
use Rattle.hy_value.specs.declared.Value.{Value}
use Rattle.hy_stamp.specs.declared.Label.{Label}
use Rattle.hy_stamp.specs.declared.Viewer.{Viewer}
use Rattle.hy_chain.specs.Chains.{rival}
use Rattle.hy_bound.specs.declared.Assign.{Assign}
use Rattle.hy_bound.specs.Condition.{Condition}
use Rattle.hy_bound.specs.Predicate.{truth_of}
use Rattle.hy_bound.specs.Assignment.{assigned}
use Rattle.hy_undo.specs.declared.refusal.Refusal.{Refusal}
use Rattle.hy_undo.specs.Places.{Place, Cell, sees}
use Rattle.hy_undo.specs.Chunks.{Written}
use Rattle.hy_undo.specs.Sweeps.{some_cell, new_cell, judged, verdict, and_new, swept, AllWritten}
use Rattle.hy_event.specs.Changing.{changes_from}
use Rattle.hy_event.specs.Writing.{ending_by}
use Rattle.hy_bound.specs.declared.Ending.{Ending}
use Rattle.hy_machine.specs.Writes.{Write}
use Rattle.hy_protocol.specs.Statements.{kind_of}
use Rattle.hy_machine.specs.Visits.{sweep, and_write}
use Rattle.hy_machine.specs.Visits.{new_cell as new_cell_there, judged as judged_there, verdict as verdict_there}
use Rattle.hy_refinement.proofs.WritesOwn.{writes_from}

-- ---- one position

-- the new cell of a position, or why it is refused, as the machine has it
abbrev pub as_verdict : ℕ → Result (Option Cell) Refusal → Result (Option Cell) Ending
as_verdict table (Err refusal) = Err (ending_by table refusal)
as_verdict table (Ok cell) = Ok cell

same_new : (sets : Option (List Assign)) (row : List Value) → new_cell_there (kind_of sets) row ≡ new_cell sets row
same_new None row = refl
same_new (Some sets) row = by_row (assigned sets row)
  where
    by_row : (o : Option (List Value)) → option_map (λ (r : List Value). Some r) o ≡ some_cell o
    by_row None = refl
    by_row (Some row) = refl

same_judged : (table pos : ℕ) (other : Option Label) (cell : Option Cell) → judged_there table pos other cell ≡ as_verdict table (judged pos other cell)
same_judged table pos (Some other) cell = refl
same_judged table pos None None = refl
same_judged table pos None (Some cell) = refl

pub same_verdict : (sets : Option (List Assign)) (pred : Condition) (table pos : ℕ) (other : Option Label) (cell : Cell)
    → verdict_there (kind_of sets) pred table pos other cell ≡ as_verdict table (verdict sets pred pos other cell)
same_verdict sets pred table pos other None = refl
same_verdict sets pred table pos other (Some row) = by_truth (truth_of pred row)
  where
    by_truth : (b : Bool) → cond b (judged_there table pos other (new_cell_there (kind_of sets) row)) (Ok None)
        ≡ as_verdict table (cond b (judged pos other (new_cell sets row)) (Ok None))
    by_truth true = ap (judged_there table pos other) (same_new sets row) ∙ same_judged table pos other (new_cell sets row)
    by_truth false = refl

-- a position that gets a cell is one where a row is seen and nobody is a rival
pub written_where_seen : (sets : Option (List Assign)) (pred : Condition) (pos : ℕ) (other : Option Label) (seen cell : Cell)
    → verdict sets pred pos other seen ≡ Ok (Some cell) → ((row : List Value) × (seen ≡ Some row)) × (other ≡ None)
written_where_seen sets pred pos other None cell e = absurd cc
written_where_seen sets pred pos other (Some row) cell e = ((row, refl), by_truth (truth_of pred row) e)
  where
    by_other : (other : Option Label) (new : Option Cell) → judged pos other new ≡ Ok (Some cell) → other ≡ None
    by_other None new f = refl
    by_other (Some label) new f = absurd cc

    by_truth : (b : Bool) → cond b (judged pos other (new_cell sets row)) (Ok None) ≡ Ok (Some cell) → other ≡ None
    by_truth true f = by_other other (new_cell sets row) f
    by_truth false f = absurd cc

-- ---- all positions

-- what is written, or the first refusal, as the machine has it
abbrev pub as_sweep : ℕ → ℕ → Result (List (Option Cell)) Refusal → Result (List Write) Ending
as_sweep table first (Err refusal) = Err (ending_by table refusal)
as_sweep table first (Ok cells) = Ok (writes_from table first cells)

one_more : (table first : ℕ) (here : Result (Option Cell) Refusal) (rest : Result (List (Option Cell)) Refusal)
    → and_write table first (as_verdict table here) (as_sweep table (suc first) rest) ≡ as_sweep table first (and_new here rest)
one_more table first (Err refusal) rest = refl
one_more table first (Ok cell) (Err refusal) = refl
one_more table first (Ok cell) (Ok cells) = refl

-- where the machine judges each position as the chunk does, its sweep is the chunk's
pub same_sweep : (table : ℕ) (judge : ℕ → Result (Option Cell) Ending) (sets : Option (List Assign)) (pred : Condition) (viewer : Viewer)
    (first : ℕ) (places : List Place) (count : ℕ) → length places ≡ count
    → ((i : ℕ) (place : Place) → slice_get places i ≡ Some place
    → judge (first + i) ≡ as_verdict table (verdict sets pred (first + i) (rival viewer place.chain) (sees viewer place)))
    → sweep table judge (range_with_len first count) ≡ as_sweep table first (swept sets pred viewer first places)
same_sweep table judge sets pred viewer first [] zero long each = refl
same_sweep table judge sets pred viewer first [] (suc count) long each = absurd (omega (arith, long))
same_sweep table judge sets pred viewer first (place ∷ places) zero long each = absurd (omega (arith, long))
same_sweep table judge sets pred viewer first (place ∷ places) (suc count) long each =
    ap (λ (v : Result (Option Cell) Ending). and_write table first v (sweep table judge (range_with_len (first + 1) count)))
    (subst (λ (n : ℕ). judge n ≡ as_verdict table (verdict sets pred n (rival viewer place.chain) (sees viewer place)))
    (let e : first + 0 ≡ first = omega arith in e) (each 0 place refl))
    ∙ (ap (and_write table first (as_verdict table (verdict sets pred first (rival viewer place.chain) (sees viewer place))))
    (subst (λ (n : ℕ). sweep table judge (range_with_len n count) ≡ as_sweep table (suc first) (swept sets pred viewer (suc first) places))
    (let e : suc first ≡ first + 1 = omega arith in e)
    (same_sweep table judge sets pred viewer (suc first) places count (omega (arith, long))
    (λ i one e. subst (λ (n : ℕ). judge n ≡ as_verdict table (verdict sets pred n (rival viewer one.chain) (sees viewer one)))
    (let s : first + suc i ≡ suc first + i = omega arith in s) (each (suc i) one e))))
    ∙ one_more table first (verdict sets pred first (rival viewer place.chain) (sees viewer place)) (swept sets pred viewer (suc first) places))

-- ---- a sweep that isn't refused

record IsAndNew (here : Result (Option Cell) Refusal) (rest : Result (List (Option Cell)) Refusal) (cells : List (Option Cell)) : Type 0 where
  cell : Option Cell
  others : List (Option Cell)
  here_is : here ≡ Ok cell
  rest_is : rest ≡ Ok others
  cells_are : cells ≡ cell ∷ others

and_new_ok : (here : Result (Option Cell) Refusal) (rest : Result (List (Option Cell)) Refusal) (cells : List (Option Cell)) → and_new here rest ≡ Ok cells
    → IsAndNew here rest cells
and_new_ok (Err refusal) rest cells e = absurd cc
and_new_ok (Ok cell) (Err refusal) cells e = absurd cc
and_new_ok (Ok cell) (Ok others) cells e = record { cell = cell; others = others; here_is = refl; rest_is = refl; cells_are = cc }

pub swept_long : (sets : Option (List Assign)) (pred : Condition) (viewer : Viewer) (first : ℕ) (places : List Place) (cells : List (Option Cell))
    → swept sets pred viewer first places ≡ Ok cells → length cells ≡ length places
swept_long sets pred viewer first [] cells e = let none : cells ≡ [] = cc in ap length none
swept_long sets pred viewer first (place ∷ places) cells e =
    let split = and_new_ok (verdict sets pred first (rival viewer place.chain) (sees viewer place)) (swept sets pred viewer (suc first) places) cells e in
    let rest = swept_long sets pred viewer (suc first) places split.others split.rest_is in
    ap length split.cells_are ∙ (let s : suc (length split.others) ≡ suc (length places) = ap suc rest in s)

-- at each position the cell is what the verdict says
pub swept_at : (sets : Option (List Assign)) (pred : Condition) (viewer : Viewer) (first : ℕ) (places : List Place) (cells : List (Option Cell))
    → swept sets pred viewer first places ≡ Ok cells
    → (i : ℕ) (place : Place) (cell : Option Cell) → slice_get places i ≡ Some place → slice_get cells i ≡ Some cell
    → verdict sets pred (first + i) (rival viewer place.chain) (sees viewer place) ≡ Ok cell
swept_at sets pred viewer first [] cells e i place cell p c = absurd cc
swept_at sets pred viewer first (one ∷ places) cells e zero place cell p c =
    let split = and_new_ok (verdict sets pred first (rival viewer one.chain) (sees viewer one)) (swept sets pred viewer (suc first) places) cells e in
    let same : one ≡ place = same_Some one place p in
    let cell_is : split.cell ≡ cell = same_Some split.cell cell (sym (ap (λ (xs : List (Option Cell)). slice_get xs 0) split.cells_are) ∙ c) in
    ap (λ (n : ℕ). verdict sets pred n (rival viewer place.chain) (sees viewer place)) (let s : first + 0 ≡ first = omega arith in s)
    ∙ (ap (λ (x : Place). verdict sets pred first (rival viewer x.chain) (sees viewer x)) (sym same)
    ∙ (split.here_is ∙ ap (λ (x : Option Cell). Ok x) cell_is))
swept_at sets pred viewer first (one ∷ places) cells e (suc i) place cell p c =
    let split = and_new_ok (verdict sets pred first (rival viewer one.chain) (sees viewer one)) (swept sets pred viewer (suc first) places) cells e in
    let later : slice_get split.others i ≡ Some cell = sym (ap (λ (xs : List (Option Cell)). slice_get xs (suc i)) split.cells_are) ∙ c in
    ap (λ (n : ℕ). verdict sets pred n (rival viewer place.chain) (sees viewer place)) (let s : first + suc i ≡ suc first + i = omega arith in s)
    ∙ swept_at sets pred viewer (suc first) places split.others split.rest_is i place cell p later

-- as many changes as writes
pub same_count : (table first : ℕ) (viewer : Viewer) (cells : List (Option Cell)) (places : List Place) → length cells ≡ length places
    → length (changes_from table first viewer cells places) ≡ length (writes_from table first cells)
same_count table first viewer [] places long = refl
same_count table first viewer (cell ∷ cells) [] long = absurd (omega (arith, long))
same_count table first viewer (None ∷ cells) (place ∷ places) long = same_count table (suc first) viewer cells places (omega (arith, long))
same_count table first viewer (Some cell ∷ cells) (place ∷ places) long =
    let rest = same_count table (suc first) viewer cells places (omega (arith, long)) in
    ap suc rest

-- ---- what is written

-- a position gets a new cell, or stays
abbrev pub WrittenBy : Viewer → Label → Option Cell → Place → Place → Type 0
WrittenBy viewer label None old new = new ≡ old
WrittenBy viewer label (Some cell) old new = Written viewer label cell old new

pub record WasWritten (viewer : Viewer) (label : Label) (cells : List (Option Cell)) (olds : List Place) (i : ℕ) (new : Place) : Type 0 where
  pub old : Place
  pub cell : Option Cell
  pub was : slice_get olds i ≡ Some old
  pub cell_is : slice_get cells i ≡ Some cell
  pub by : WrittenBy viewer label cell old new

pub written_long : (viewer : Viewer) (label : Label) (cells : List (Option Cell)) (olds news : List Place) → AllWritten viewer label cells olds news
    → length news ≡ length olds
written_long viewer label [] [] [] all = refl
written_long viewer label [] [] (new ∷ news) all = absurd all
written_long viewer label [] (old ∷ olds) news all = absurd all
written_long viewer label (None ∷ cells) [] news all = absurd all
written_long viewer label (Some cell ∷ cells) [] news all = absurd all
written_long viewer label (None ∷ cells) (old ∷ olds) [] all = absurd all
written_long viewer label (Some cell ∷ cells) (old ∷ olds) [] all = absurd all
written_long viewer label (None ∷ cells) (old ∷ olds) (new ∷ news) all = ap suc (written_long viewer label cells olds news all.1)
written_long viewer label (Some cell ∷ cells) (old ∷ olds) (new ∷ news) all = ap suc (written_long viewer label cells olds news all.1)

pub written_at : (viewer : Viewer) (label : Label) (cells : List (Option Cell)) (olds news : List Place) → AllWritten viewer label cells olds news
    → (i : ℕ) (new : Place) → slice_get news i ≡ Some new → WasWritten viewer label cells olds i new
written_at viewer label [] [] [] all i new e = absurd cc
written_at viewer label [] [] (one ∷ news) all i new e = absurd all
written_at viewer label [] (old ∷ olds) news all i new e = absurd all
written_at viewer label (None ∷ cells) [] news all i new e = absurd all
written_at viewer label (Some cell ∷ cells) [] news all i new e = absurd all
written_at viewer label (None ∷ cells) (old ∷ olds) [] all i new e = absurd all
written_at viewer label (Some cell ∷ cells) (old ∷ olds) [] all i new e = absurd all
written_at viewer label (None ∷ cells) (old ∷ olds) (one ∷ news) all zero new e =
    record { old = old; cell = None; was = refl; cell_is = refl; by = sym (same_Some one new e) ∙ all.0 }
written_at viewer label (Some cell ∷ cells) (old ∷ olds) (one ∷ news) all zero new e =
    record { old = old; cell = Some cell; was = refl; cell_is = refl; by = subst (λ (x : Place). Written viewer label cell old x) (same_Some one new e) all.0 }
written_at viewer label (None ∷ cells) (old ∷ olds) (one ∷ news) all (suc i) new e =
    let later = written_at viewer label cells olds news all.1 i new e in
    record { old = later.old; cell = later.cell; was = later.was; cell_is = later.cell_is; by = later.by }
written_at viewer label (Some cell ∷ cells) (old ∷ olds) (one ∷ news) all (suc i) new e =
    let later = written_at viewer label cells olds news all.1 i new e in
    record { old = later.old; cell = later.cell; was = later.was; cell_is = later.cell_is; by = later.by }
