-- Rows that are taken from places of others, by column.
use Rattle.std.proofs.Common.{◌≡◌, ℕ, suc, pos, ◌+◌, ◌<◌, ◌≤◌, List, [], ◌∷◌, ◌++◌, length, get_or, take, drop, refl, ap, sym, ◌∙◌, arith}
use Rattle.std.specs.Prelude.{All, Bool, ℤ, map}
use Rattle.std.proofs.lemmas.List.{length-map, length_push, get_or-map, map-append, map_more, take-append-drop, append_assoc}
use Rattle.std.proofs.lemmas.List.FromFn.{fill_by_all}
use Rattle.hy_value.specs.declared.Value.{Value}
use Rattle.hy_value.specs.declared.Value.TheVariants.{Int, Null}
use Rattle.hy_bound.specs.Predicate.{column_of}
use Rattle.hy_plan.specs.Cells.{row_at, rows_of, ReachTo}
use Rattle.hy_plan.specs.Numbers.{number_or_null, numbered}
use Rattle.hy_plan.specs.Placed.{row_picked, values_picked}
use Rattle.hy_plan.proofs.Numbers.{numbered-append, numbers_more}

abbrev Rows : Type 0
Rows = List (List Value)

-- there are as many values in each column as places
pub reach_picked : (rows : Rows) (places columns : List ℕ) → ReachTo (length places) (map (values_picked rows places) columns)
reach_picked rows places [] = tt
reach_picked rows places (c ∷ cs) =
    let h : length (values_picked rows places c) ≡ length places = length-map places (λ place. column_of (get_or rows place []) c) in
    (omega (arith, h), reach_picked rows places cs)

row_of_picked : (rows : Rows) (places columns : List ℕ) (k : ℕ) → k < length places → row_picked rows columns (get_or places k 0) ≡ row_at (map (values_picked rows places) columns) k
row_of_picked rows places [] k below = refl
row_of_picked rows places (c ∷ cs) k below =
    ap (λ (v : Value). v ∷ row_picked rows cs (get_or places k 0)) (sym (get_or-map (λ place. column_of (get_or rows place []) c) places k 0 Null below))
    ∙ ap (λ (vs : List Value). column_of (values_picked rows places c) k ∷ vs) (row_of_picked rows places cs k below)

-- the rows of these columns are those at the places
pub rows_picked : (rows : Rows) (places columns : List ℕ) → rows_of (length places) (map (values_picked rows places) columns) ≡ map (row_picked rows columns) places
rows_picked rows places columns =
    sym (fill_by_all (row_at (map (values_picked rows places) columns)) (map (row_picked rows columns) places) (length places) [] (length-map places (row_picked rows columns))
    (λ k below. get_or-map (row_picked rows columns) places k 0 [] below ∙ row_of_picked rows places columns k below))

-- the values at the first places and at the rest are those at all
picked_both : (rows : Rows) (places : List ℕ) (column n : ℕ) → values_picked rows (take n places) column ++ values_picked rows (drop n places) column ≡ values_picked rows places column
picked_both rows places column n =
    sym (map-append (λ place. column_of (get_or rows place []) column) (take n places) (drop n places))
    ∙ ap (λ (ps : List ℕ). values_picked rows ps column) (take-append-drop n places)

-- put behind the first values of a column in two parts
pub put_both : (rows : Rows) (places rest : List ℕ) (column count len : ℕ) (old first more all : List Value) → rest ≡ drop count places → first ≡ take len old
    → more ≡ first ++ values_picked rows (take count places) column → all ≡ more ++ values_picked rows rest column → all ≡ take len old ++ values_picked rows places column
put_both rows places rest column count len old first more all behind cut begun done =
    done
    ∙ (ap (λ (vs : List Value). vs ++ values_picked rows rest column) (begun ∙ ap (λ (vs : List Value). vs ++ values_picked rows (take count places) column) cut)
    ∙ (ap (λ (ps : List ℕ). (take len old ++ values_picked rows (take count places) column) ++ values_picked rows ps column) behind
    ∙ (append_assoc (take len old) (values_picked rows (take count places) column) (values_picked rows (drop count places) column)
    ∙ ap (λ (vs : List Value). take len old ++ vs) (picked_both rows places column count))))

-- One number more.

pub even_more : (numbers more : List ℤ) (nulls marks : List Bool) (number : ℤ) (is_null : Bool) → length nulls ≡ length numbers → more ≡ numbers ++ number ∷ [] → marks ≡ nulls ++ is_null ∷ []
    → length marks ≡ length more
even_more numbers more nulls marks number is_null even put marked =
    omega (arith, even, ap length put, ap length marked, length_push numbers number, length_push nulls is_null)

-- it is the value at the next place
pub number_picked : (rows : Rows) (places : List ℕ) (column i : ℕ) (numbers more : List ℤ) (nulls marks : List Bool) (before : List Value) (number : ℤ) (is_null : Bool) → i < length places
    → length nulls ≡ length numbers → more ≡ numbers ++ number ∷ [] → marks ≡ nulls ++ is_null ∷ []
    → number_or_null is_null number ≡ column_of (get_or rows (get_or places i 0) []) column → numbered numbers nulls ≡ before ++ values_picked rows (take i places) column
    → numbered more marks ≡ before ++ values_picked rows (take (i + 1) places) column
number_picked rows places column i numbers more nulls marks before number is_null below even put marked is so =
    ap (λ (ns : List ℤ). numbered ns marks) put
    ∙ (ap (numbered (numbers ++ number ∷ [])) marked
    ∙ (numbered-append numbers nulls number is_null even
    ∙ (ap (λ (vs : List Value). vs ++ number_or_null is_null number ∷ []) so
    ∙ (append_assoc before (values_picked rows (take i places) column) (number_or_null is_null number ∷ [])
    ∙ ap (λ (vs : List Value). before ++ vs)
    (ap (λ (v : Value). values_picked rows (take i places) column ++ v ∷ []) is ∙ sym (map_more (λ place. column_of (get_or rows place []) column) places i 0 below))))))

-- Numbers that are known by place.

-- there are as many as rows
pub known_many : (rows : Rows) (known : List ℤ) (column : ℕ) → map Int known ≡ map (λ (row : List Value). column_of row column) rows → length known ≡ length rows
known_many rows known column same = sym (length-map known Int) ∙ (ap (λ (vs : List Value). length vs) same ∙ length-map rows (λ (row : List Value). column_of row column))

-- the numbers at places are the values there
pub known_picked : (rows : Rows) (known : List ℤ) (places : List ℕ) (column : ℕ) → map Int known ≡ map (λ (row : List Value). column_of row column) rows
    → All (λ place. place < length rows) places → map Int (map (λ (place : ℕ). get_or known place (pos 0)) places) ≡ values_picked rows places column
known_picked rows known [] column same within = refl
known_picked rows known (place ∷ places) column same within =
    let below : place < length rows = within 0 place (omega arith) in
    let there : place < length known = omega (arith, below, known_many rows known column same) in
    let value : Int (get_or known place (pos 0)) ≡ column_of (get_or rows place []) column =
    sym (get_or-map Int known place (pos 0) Null there)
    ∙ (ap (λ (vs : List Value). get_or vs place Null) same ∙ get_or-map (λ (row : List Value). column_of row column) rows place [] Null below) in
    (λ i. value i ∷ known_picked rows known places column same (λ k d l. within (suc k) d (omega (arith, l))) i)

-- put behind the values of a column without others
pub known_put : (rows : Rows) (numbers known more : List ℤ) (nulls : List Bool) (others old : List Value) (places : List ℕ) (column : ℕ)
    → length nulls ≤ length numbers → length others ≡ 0 → numbered numbers nulls ++ others ≡ old
    → more ≡ numbers ++ map (λ (place : ℕ). get_or known place (pos 0)) places
    → map Int known ≡ map (λ (row : List Value). column_of row column) rows → All (λ place. place < length rows) places
    → numbered more nulls ++ others ≡ old ++ values_picked rows places column
known_put rows numbers known more nulls others old places column few none view put same within =
    ap (λ (ns : List ℤ). numbered ns nulls ++ others) put
    ∙ (numbers_more numbers (map (λ (place : ℕ). get_or known place (pos 0)) places) nulls others few none
    ∙ (λ i. view i ++ known_picked rows known places column same within i))
