-- Columns and the rows that they make.
use Rattle.std.proofs.Common.{◌≡◌, ◌≢◌, ℕ, pos, zero, suc, ◌<◌, List, [], ◌∷◌, length, map, replicate, get_or, Option, None, Some, refl, sym, ap, ◌∙◌, arith, inl, inr}
use Rattle.std.specs.List.{range_with_len, AllByRecursion}
use Rattle.std.proofs.Math.ListN.{set}
use Rattle.std.proofs.lemmas.Bool.{cases_eq}
use Rattle.std.proofs.lemmas.List.{length-map, length-set, ext_get_or, get_or-set_same, get_or-set_other}
use Rattle.std.proofs.lemmas.List.FromFn.{length-range_with_len, get_or-range_with_len}
use Rattle.hy_value.specs.declared.Value.{Value}
use Rattle.hy_value.specs.declared.Value.TheVariants as value
use Rattle.hy_value.specs.declared.Kind.{Kind}
use Rattle.hy_value.specs.declared.Kind.TheVariants as kind
use Rattle.hy_column.specs.declared.columns.Column.{Column}
use Rattle.hy_column.specs.declared.columns.Column.TheVariants as column
use Rattle.hy_column.specs.Cells.{FitsKind, first_value, number_value, text_value}
use Rattle.hy_column.specs.Columns.{cell, places, kind_of, first_cells, with_cell}
use Rattle.hy_column.specs.Rows.{ByPlace, row_of, rows_of, kinds_of}
use Rattle.hy_column.specs.Compared.{compares_number, compares_value}
use Rattle.hy_value.specs.declared.Cmp.{Cmp}
use Rattle.std.specs.Prelude.{ℤ, false, IfSome}

get_map : {A B : Type 0} (f : A → B) (xs : List A) (i : ℕ) (d : A) (e : B) → i < length xs → get_or (map f xs) i e ≡ f (get_or xs i d)
get_map f [] i d e l = absurd (omega arith)
get_map f (x ∷ xs) zero d e l = refl
get_map f (x ∷ xs) (suc i) d e l = get_map f xs i d e (omega arith)

map_set : {A B : Type 0} (f : A → B) (xs : List A) (i : ℕ) (y : A) → map f (set xs i y) ≡ set (map f xs) i (f y)
map_set f [] zero y = refl
map_set f [] (suc i) y = refl
map_set f (x ∷ xs) zero y = refl
map_set {A} {B} f (x ∷ xs) (suc i) y = ap (λ (ys : List B). f x ∷ ys) (map_set f xs i y)

set_same : {A : Type 0} (xs : List A) (i : ℕ) (d : A) → set xs i (get_or xs i d) ≡ xs
set_same [] zero d = refl
set_same [] (suc i) d = refl
set_same (x ∷ xs) zero d = refl
set_same {A} (x ∷ xs) (suc i) d = ap (λ (ys : List A). x ∷ ys) (set_same xs i d)

get_any : {A : Type 0} (xs : List A) (i : ℕ) (d e : A) → i < length xs → get_or xs i d ≡ get_or xs i e
get_any [] i d e l = absurd (omega arith)
get_any (x ∷ xs) zero d e l = refl
get_any (x ∷ xs) (suc i) d e l = get_any xs i d e (omega arith)

pub length_rows : (rows : ℕ) (columns : List Column) → length (rows_of rows columns) ≡ rows
length_rows rows columns = length-map (range_with_len 0 rows) (row_of columns) ∙ length-range_with_len 0 rows

pub row_at : (rows : ℕ) (columns : List Column) (place : ℕ) → place < rows → get_or (rows_of rows columns) place [] ≡ row_of columns place
row_at rows columns place l =
    get_map (row_of columns) (range_with_len 0 rows) place 0 [] (omega (arith, l, length-range_with_len 0 rows))
    ∙ ap (row_of columns) (let at = get_or-range_with_len 0 rows place 0 l in let e : get_or (range_with_len 0 rows) place 0 ≡ place = omega (arith, at) in e)

pub cell_at : (columns : List Column) (place i : ℕ) (d : Column) (v : Value) → i < length columns → get_or (row_of columns place) i v ≡ cell (get_or columns i d) place
cell_at columns place i d v l = get_map (λ column. cell column place) columns i d v l

pub places_at : (rows : ℕ) (columns : List Column) (i : ℕ) (d : Column) → AllByRecursion (λ column. places column ≡ rows) columns → i < length columns → places (get_or columns i d) ≡ rows
places_at rows [] i d all l = absurd (omega arith)
places_at rows (c ∷ cs) zero d all l = all.0
places_at rows (c ∷ cs) (suc i) d all l = places_at rows cs i d all.1 (omega arith)

pub kind_at : (columns : List Column) (i : ℕ) (d : Column) (k : Kind) → i < length columns → get_or (kinds_of columns) i k ≡ kind_of (get_or columns i d)
kind_at columns i d k l = get_map kind_of columns i d k l

-- a column with another value
pub cell_same : (c : Column) (place : ℕ) (v : Value) → FitsKind (kind_of c) v → place < places c → cell (with_cell c place v) place ≡ v
cell_same (column.Int ns) place value.Null fits l = ap number_value (get_or-set_same ns place None None l)
cell_same (column.Int ns) place (value.Int n) fits l = ap number_value (get_or-set_same ns place (Some n) None l)
cell_same (column.Int ns) place (value.Text t) fits l = absurd fits
cell_same (column.Text ts) place value.Null fits l = ap text_value (get_or-set_same ts place None None l)
cell_same (column.Text ts) place (value.Int n) fits l = absurd fits
cell_same (column.Text ts) place (value.Text t) fits l = ap text_value (get_or-set_same ts place (Some t) None l)

cell_other : (c : Column) (place other : ℕ) (v : Value) → other ≢ place → cell (with_cell c place v) other ≡ cell c other
cell_other (column.Int ns) place other value.Null ne = ap number_value (get_or-set_other ns place other None None ne)
cell_other (column.Int ns) place other (value.Int n) ne = ap number_value (get_or-set_other ns place other (Some n) None ne)
cell_other (column.Int ns) place other (value.Text t) ne = refl
cell_other (column.Text ts) place other value.Null ne = ap text_value (get_or-set_other ts place other None None ne)
cell_other (column.Text ts) place other (value.Int n) ne = refl
cell_other (column.Text ts) place other (value.Text t) ne = ap text_value (get_or-set_other ts place other (Some t) None ne)

places_with : (c : Column) (place : ℕ) (v : Value) → places (with_cell c place v) ≡ places c
places_with (column.Int ns) place value.Null = length-set ns place None
places_with (column.Int ns) place (value.Int n) = length-set ns place (Some n)
places_with (column.Int ns) place (value.Text t) = refl
places_with (column.Text ts) place value.Null = length-set ts place None
places_with (column.Text ts) place (value.Int n) = refl
places_with (column.Text ts) place (value.Text t) = length-set ts place (Some t)

kind_with : (c : Column) (place : ℕ) (v : Value) → kind_of (with_cell c place v) ≡ kind_of c
kind_with (column.Int ns) place value.Null = refl
kind_with (column.Int ns) place (value.Int n) = refl
kind_with (column.Int ns) place (value.Text t) = refl
kind_with (column.Text ts) place value.Null = refl
kind_with (column.Text ts) place (value.Int n) = refl
kind_with (column.Text ts) place (value.Text t) = refl

all_set : (rows : ℕ) (columns : List Column) (i : ℕ) (c : Column) → AllByRecursion (λ column. places column ≡ rows) columns → places c ≡ rows → AllByRecursion (λ column. places column ≡ rows) (set columns i c)
all_set rows [] zero c all e = tt
all_set rows [] (suc i) c all e = tt
all_set rows (d ∷ ds) zero c all e = (e, all.1)
all_set rows (d ∷ ds) (suc i) c all e = (all.0, all_set rows ds i c all.1 e)

-- one column of many has another value at a place
module _ (rows : ℕ) (columns : List Column) (i place : ℕ) (c : Column) (v : Value) (within : i < length columns) (is : c ≡ get_or columns i c)
    (lies : AllByRecursion (λ column. places column ≡ rows) columns) where
  pub changed_lie : AllByRecursion (λ column. places column ≡ rows) (set columns i (with_cell c place v))
  changed_lie = all_set rows columns i (with_cell c place v) lies (places_with c place v ∙ (ap places is ∙ places_at rows columns i c lies within))

  pub changed_kinds : kinds_of (set columns i (with_cell c place v)) ≡ kinds_of columns
  changed_kinds =
      map_set kind_of columns i (with_cell c place v)
      ∙ (ap (set (kinds_of columns) i) (kind_with c place v ∙ (ap kind_of is ∙ sym (kind_at columns i c (kind_of c) within))) ∙ set_same (kinds_of columns) i (kind_of c))

  pub changed_rows : FitsKind (kind_of c) v → place < rows → rows_of rows (set columns i (with_cell c place v)) ≡ set (rows_of rows columns) place (set (row_of columns place) i v)
  changed_rows fits there =
      ext_get_or [] (rows_of rows (set columns i (with_cell c place v))) (set (rows_of rows columns) place (set (row_of columns place) i v))
      (length_rows rows (set columns i (with_cell c place v)) ∙ sym (length-set (rows_of rows columns) place (set (row_of columns place) i v) ∙ length_rows rows columns))
      (λ j l.
      let inside : j < rows = omega (arith, l, length_rows rows (set columns i (with_cell c place v))) in
      let put : row_of (set columns i (with_cell c place v)) j ≡ set (row_of columns j) i (cell (with_cell c place v) j) = map_set (λ (d : Column). cell d j) columns i (with_cell c place v) in
      row_at rows (set columns i (with_cell c place v)) j inside
      ∙ (put ∙ elim (cases_eq j place) [
        | inl same ↦
            let fits_places : place < places c = omega (arith, there, ap places is, places_at rows columns i c lies within) in
            ap (λ (k : ℕ). set (row_of columns k) i (cell (with_cell c place v) k)) same
            ∙ (ap (set (row_of columns place) i) (cell_same c place v fits fits_places)
            ∙ (sym (get_or-set_same (rows_of rows columns) place (set (row_of columns place) i v) [] (omega (arith, there, length_rows rows columns)))
            ∙ ap (λ (k : ℕ). get_or (set (rows_of rows columns) place (set (row_of columns place) i v)) k []) (sym same)))
        | inr other ↦
            ap (set (row_of columns j) i) (cell_other c place j v other ∙ (ap (λ (d : Column). cell d j) is ∙ sym (cell_at columns j i c (cell c j) within)))
            ∙ (set_same (row_of columns j) i (cell c j)
            ∙ (sym (row_at rows columns j inside) ∙ sym (get_or-set_other (rows_of rows columns) place j (set (row_of columns place) i v) [] other)))
      ]))

get_same : {A : Type 0} (n : ℕ) (a d : A) (i : ℕ) → i < n → get_or (replicate n a) i d ≡ a
get_same zero a d i l = absurd (omega arith)
get_same (suc n) a d zero l = refl
get_same (suc n) a d (suc i) l = get_same n a d i (omega arith)

length_same : {A : Type 0} (n : ℕ) (a : A) → length (replicate n a) ≡ n
length_same zero a = refl
length_same (suc n) a = let e = length_same n a in omega (arith, e)

-- columns of first values
abbrev pub made : ℕ → List Kind → List Column
made rows kinds = map (λ k. first_cells k rows) kinds

first_cell : (k : Kind) (rows place : ℕ) → place < rows → cell (first_cells k rows) place ≡ first_value k
first_cell kind.Int rows place l = ap number_value (get_same rows (Some (pos 0)) None place l)
first_cell kind.Str rows place l = ap text_value (get_same rows (Some []) None place l)

first_places : (k : Kind) (rows : ℕ) → places (first_cells k rows) ≡ rows
first_places kind.Int rows = length_same rows (Some (pos 0))
first_places kind.Str rows = length_same {A = Option (List ℕ)} rows (Some [])

first_kind : (k : Kind) (rows : ℕ) → kind_of (first_cells k rows) ≡ k
first_kind kind.Int rows = refl
first_kind kind.Str rows = refl

pub made_lie : (rows : ℕ) (kinds : List Kind) → AllByRecursion (λ column. places column ≡ rows) (made rows kinds)
made_lie rows [] = tt
made_lie rows (k ∷ ks) = (first_places k rows, made_lie rows ks)

pub made_kinds : (rows : ℕ) (kinds : List Kind) → kinds_of (made rows kinds) ≡ kinds
made_kinds rows [] = refl
made_kinds rows (k ∷ ks) = ap (λ (j : Kind). j ∷ kinds_of (made rows ks)) (first_kind k rows) ∙ ap (λ (js : List Kind). k ∷ js) (made_kinds rows ks)

made_row : (rows : ℕ) (kinds : List Kind) (place : ℕ) → place < rows → row_of (made rows kinds) place ≡ map first_value kinds
made_row rows [] place l = refl
made_row rows (k ∷ ks) place l =
    ap (λ (v : Value). v ∷ row_of (made rows ks) place) (first_cell k rows place l) ∙ ap (λ (vs : List Value). first_value k ∷ vs) (made_row rows ks place l)

pub made_rows : (rows : ℕ) (kinds : List Kind) → rows_of rows (made rows kinds) ≡ replicate rows (map first_value kinds)
made_rows rows kinds =
    ext_get_or [] (rows_of rows (made rows kinds)) (replicate rows (map first_value kinds)) (length_rows rows (made rows kinds) ∙ sym (length_same rows (map first_value kinds)))
    (λ j l.
    let inside : j < rows = omega (arith, l, length_rows rows (made rows kinds)) in
    row_at rows (made rows kinds) j inside ∙ (made_row rows kinds j inside ∙ sym (get_same rows (map first_value kinds) [] j inside)))

-- a place and a column of the rows that contracts see
module _ (rows : ℕ) (columns : List Column) (seen : ByPlace) (is : record { kinds = kinds_of columns; rows = rows_of rows columns } ≡ seen) where
  pub place_within : (place : ℕ) → place < length seen.rows → place < rows
  place_within place l = omega (arith, l, ap (λ (b : ByPlace). length b.rows) is, length_rows rows columns)

  pub column_within : (i : ℕ) → i < length seen.kinds → i < length columns
  column_within i l = omega (arith, l, ap (λ (b : ByPlace). length b.kinds) is, length-map columns kind_of)

  pub seen_row : (place : ℕ) → place < length seen.rows → get_or seen.rows place [] ≡ row_of columns place
  seen_row place l = ap (λ (b : ByPlace). get_or b.rows place []) (sym is) ∙ row_at rows columns place (place_within place l)

  pub seen_value : (place i : ℕ) (c : Column) (v : Value) → place < length seen.rows → i < length seen.kinds → c ≡ get_or columns i c
      → cell c place ≡ get_or (get_or seen.rows place []) i v
  seen_value place i c v l m e =
      ap (λ (d : Column). cell d place) e ∙ (sym (cell_at columns place i c v (column_within i m)) ∙ ap (λ (row : List Value). get_or row i v) (sym (seen_row place l)))

-- what a comparison says of a column of numbers by place is what it says of the rows
bit_compared : (op : Cmp) (right : ℤ) (number : Option ℤ) → compares_number op right number ≡ compares_value op right (number_value number)
bit_compared op right None = refl
bit_compared op right (Some number) = refl

pub rows_compared : (op : Cmp) (right : ℤ) (rows : ℕ) (columns : List Column) (i : ℕ) (numbers : List (Option ℤ)) → i < length columns
    → get_or columns i (column.Int numbers) ≡ column.Int numbers → length numbers ≡ rows
    → map (compares_number op right) numbers ≡ map (λ row. compares_value op right (get_or row i value.Null)) (rows_of rows columns)
rows_compared op right rows columns i numbers within is many =
    ext_get_or false (map (compares_number op right) numbers) (map (λ row. compares_value op right (get_or row i value.Null)) (rows_of rows columns))
    (length-map numbers (compares_number op right)
    ∙ (many ∙ sym (length-map (rows_of rows columns) (λ row. compares_value op right (get_or row i value.Null)) ∙ length_rows rows columns)))
    (λ j l.
    let inside : j < length numbers = omega (arith, l, length-map numbers (compares_number op right)) in
    let here : j < rows = omega (arith, inside, many) in
    get_map (compares_number op right) numbers j None false inside
    ∙ (bit_compared op right (get_or numbers j None)
    ∙ (ap (λ (c : Column). compares_value op right (cell c j)) (sym is)
    ∙ (ap (compares_value op right) (sym (cell_at columns j i (column.Int numbers) value.Null within))
    ∙ (ap (λ (row : List Value). compares_value op right (get_or row i value.Null)) (sym (row_at rows columns j here))
    ∙ sym (get_map (λ row. compares_value op right (get_or row i value.Null)) (rows_of rows columns) j [] false
    (omega (arith, here, length_rows rows columns))))))))

-- the numbers of a column are the values of the rows
values_of : (values : List ℤ) → map value.Int values ≡ map number_value (map Some values)
values_of [] = refl
values_of (n ∷ ns) = ap (λ (vs : List Value). value.Int n ∷ vs) (values_of ns)

pub rows_known : (rows : ℕ) (columns : List Column) (i : ℕ) (values : List ℤ) (numbers : List (Option ℤ)) → i < length columns
    → get_or columns i (column.Int numbers) ≡ column.Int numbers → length numbers ≡ rows → map Some values ≡ numbers
    → map value.Int values ≡ map (λ row. get_or row i value.Null) (rows_of rows columns)
rows_known rows columns i values numbers within is many known =
    values_of values
    ∙ (ap (map number_value) known
    ∙ ext_get_or value.Null (map number_value numbers) (map (λ row. get_or row i value.Null) (rows_of rows columns))
    (length-map numbers number_value ∙ (many ∙ sym (length-map (rows_of rows columns) (λ row. get_or row i value.Null) ∙ length_rows rows columns)))
    (λ j l.
    let inside : j < length numbers = omega (arith, l, length-map numbers number_value) in
    let here : j < rows = omega (arith, inside, many) in
    get_map number_value numbers j None value.Null inside
    ∙ (ap (λ (c : Column). cell c j) (sym is)
    ∙ (sym (cell_at columns j i (column.Int numbers) value.Null within)
    ∙ (ap (λ (row : List Value). get_or row i value.Null) (sym (row_at rows columns j here))
    ∙ sym (get_map (λ row. get_or row i value.Null) (rows_of rows columns) j [] value.Null (omega (arith, here, length_rows rows columns))))))))

-- a fact from another of what is there, if it is
pub some_then : {X : Type 0} {P Q : X → Type 0} (found : Option X) → ((x : X) → P x → Q x) → IfSome found P → IfSome found Q
some_then None f p = tt
some_then (Some x) f p = f x p
