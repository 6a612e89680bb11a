-- Rows that are kept by column, and more of them.
use Rattle.std.proofs.Common.{◌≡◌, ℕ, suc, zero, ◌+◌, ◌<◌, ◌≤◌, List, [], ◌∷◌, ◌++◌, length, get_or, take, min, refl, ap, sym, ◌∙◌, subst, arith, add-one, zero-add}
use Rattle.std.specs.Prelude.{map, slice_set}
use Rattle.std.specs.List.{range_with_len}
use Rattle.std.proofs.lemmas.List.{length-map, length-append, get_or-map, get_or-take, get_or_append_left, get_or-append-add, length-take, length-take-le, take_at, ext_get_or}
use Rattle.std.proofs.lemmas.List.FromFn.{length-map-range_with_len, get_or-map-range_with_len}
use Rattle.hy_value.specs.declared.Value.{Value}
use Rattle.hy_value.specs.declared.Value.TheVariants.{Null}
use Rattle.hy_bound.specs.Predicate.{column_of}
use Rattle.hy_plan.specs.Cells.{GatheredRows, row_at, rows_of, ReachTo, firsts, with_values, cells_of}

abbrev Columns : Type 0
Columns = List (List Value)

-- What columns have.

-- no values reach to nothing
pub reach_nothing : (columns : Columns) → ReachTo 0 columns
reach_nothing [] = tt
reach_nothing (column ∷ columns) = (omega arith, reach_nothing columns)

-- a column of columns that reach so far does
pub reach_at : (len : ℕ) (columns : Columns) (i : ℕ) (column : List Value) → ReachTo len columns → i < length columns → column ≡ get_or columns i column → len ≤ length column
reach_at len [] i column reach below at = absurd (omega (arith, below))
reach_at len (c ∷ cs) zero column reach below at = subst (λ (v : List Value). len ≤ length v) (sym at) reach.0
reach_at len (c ∷ cs) (suc i) column reach below at = reach_at len cs i column reach.1 (omega (arith, below)) at

-- there are as many rows
pub length-rows_of : (len : ℕ) (columns : Columns) → length (rows_of len columns) ≡ len
length-rows_of len columns = length-map-range_with_len (row_at columns) 0 len

-- a row
pub get_or-rows_of : (len : ℕ) (columns : Columns) (i : ℕ) → i < len → get_or (rows_of len columns) i [] ≡ row_at columns i
get_or-rows_of len columns i below = get_or-map-range_with_len (row_at columns) 0 len i i [] below (zero-add i)

-- a value of a row
pub cell_in_row : (columns : Columns) (i k : ℕ) (column : List Value) (d : Value) → k < length columns → column ≡ get_or columns k column → column_of column i ≡ get_or (row_at columns i) k d
cell_in_row columns i k column d within at =
    ap (λ (v : List Value). column_of v i) at ∙ sym (get_or-map (λ (c : List Value). column_of c i) columns k column d within)

pub cell_at : (len : ℕ) (columns : Columns) (i k : ℕ) (column : List Value) → i < len → k < length columns → column ≡ get_or columns k column
    → column_of column i ≡ column_of (get_or (rows_of len columns) i []) k
cell_at len columns i k column below within at =
    cell_in_row columns i k column Null within at ∙ ap (λ (row : List Value). column_of row k) (sym (get_or-rows_of len columns i below))

-- a row has as many values as there are columns
pub length-row_at : (columns : Columns) (i : ℕ) → length (row_at columns i) ≡ length columns
length-row_at columns i = length-map columns (λ column. column_of column i)

-- Lists of values behind the first ones of each column.

-- one list of them
set_values : {X : Type 0} (f : X → List Value) (len : ℕ) (xs : List X) (columns : Columns) (i : ℕ) (x : X) (d new : List Value) → i < length xs → length xs ≡ length columns
    → x ≡ get_or xs i x → new ≡ take len (get_or (with_values len (map f (take i xs)) columns) i d) ++ f x
    → slice_set (with_values len (map f (take i xs)) columns) i new ≡ with_values len (map f (take (suc i) xs)) columns
set_values f len [] columns i x d new below even at is = absurd (omega (arith, below))
set_values f len (y ∷ ys) [] i x d new below even at is = absurd (omega (arith, even))
set_values f len (y ∷ ys) (c ∷ cs) zero x d new below even at is = ap (λ (v : List Value). v ∷ cs) (is ∙ ap (λ z. take len c ++ f z) at)
set_values f len (y ∷ ys) (c ∷ cs) (suc i) x d new below even at is =
    ap (λ (vs : Columns). (take len c ++ f y) ∷ vs) (set_values f len ys cs i x d new (omega (arith, below)) (omega (arith, even)) at is)

pub values_more : {X : Type 0} (f : X → List Value) (len : ℕ) (xs : List X) (columns before after : Columns) (i : ℕ) (x : X) (d new : List Value) → i < length xs
    → length xs ≡ length columns → x ≡ get_or xs i x → before ≡ with_values len (map f (take i xs)) columns → new ≡ take len (get_or before i d) ++ f x → after ≡ slice_set before i new
    → after ≡ with_values len (map f (take (i + 1) xs)) columns
values_more f len xs columns before after i x d new below even at was is put =
    put
    ∙ (ap (λ (cs : Columns). slice_set cs i new) was
    ∙ (set_values f len xs columns i x d new below even at (is ∙ ap (λ (cs : Columns). take len (get_or cs i d) ++ f x) was)
    ∙ ap (λ (n : ℕ). with_values len (map f (take n xs)) columns) (sym (add-one i))))

-- there are as many columns as before
pub length-with_values : (len : ℕ) (lists columns : Columns) → length lists ≤ length columns → length (with_values len lists columns) ≡ length columns
length-with_values len [] columns few = refl
length-with_values len (vs ∷ lists) [] few = absurd (omega (arith, few))
length-with_values len (vs ∷ lists) (c ∷ cs) few =
    let h : length (with_values len lists cs) ≡ length cs = length-with_values len lists cs (omega (arith, few)) in omega (arith, h)

pub within_values : (len : ℕ) (lists columns before : Columns) (i : ℕ) → before ≡ with_values len lists columns → length lists ≤ length columns → i < length columns → i < length before
within_values len lists columns before i was few below = omega (arith, few, below, ap length was, length-with_values len lists columns few)

-- they reach as far as the first ones and the lists together
pub reach_more : (len n : ℕ) (lists columns : Columns) → length lists ≡ length columns → ReachTo len columns → ReachTo n lists → ReachTo (len + n) (with_values len lists columns)
reach_more len n [] [] even reach there = tt
reach_more len n [] (c ∷ cs) even reach there = absurd (omega (arith, even))
reach_more len n (vs ∷ lists) [] even reach there = absurd (omega (arith, even))
reach_more len n (vs ∷ lists) (c ∷ cs) even reach there =
    let first : length (take len c) ≡ len = length-take-le len c reach.0 in
    let both : length (take len c ++ vs) ≡ length (take len c) + length vs = length-append (take len c) vs in
    let more : n ≤ length vs = there.0 in (omega (arith, first, both, more), reach_more len n lists cs (omega (arith, even)) reach.1 there.1)

cell_kept : (len i : ℕ) (column values : List Value) → len ≤ length column → i < len → column_of (take len column ++ values) i ≡ column_of column i
cell_kept len i column values reach below =
    let h : length (take len column) ≡ len = length-take-le len column reach in
    get_or_append_left (take len column) values Null i (omega (arith, h, below)) ∙ get_or-take len column i Null below

cell_new : (len i : ℕ) (column values : List Value) → len ≤ length column → column_of (take len column ++ values) (len + i) ≡ column_of values i
cell_new len i column values reach =
    ap (λ (n : ℕ). column_of (take len column ++ values) (n + i)) (sym (length-take-le len column reach)) ∙ get_or-append-add (take len column) values i Null

-- the rows before them stay
row_kept : (len i : ℕ) (lists columns : Columns) → length lists ≡ length columns → ReachTo len columns → i < len → row_at (with_values len lists columns) i ≡ row_at columns i
row_kept len i [] [] even reach below = refl
row_kept len i [] (c ∷ cs) even reach below = absurd (omega (arith, even))
row_kept len i (vs ∷ lists) [] even reach below = absurd (omega (arith, even))
row_kept len i (vs ∷ lists) (c ∷ cs) even reach below =
    ap (λ (x : Value). x ∷ row_at (with_values len lists cs) i) (cell_kept len i c vs reach.0 below)
    ∙ ap (λ (xs : List Value). column_of c i ∷ xs) (row_kept len i lists cs (omega (arith, even)) reach.1 below)

-- and the lists' rows are behind them
row_new : (len i : ℕ) (lists columns : Columns) → length lists ≡ length columns → ReachTo len columns → row_at (with_values len lists columns) (len + i) ≡ row_at lists i
row_new len i [] [] even reach = refl
row_new len i [] (c ∷ cs) even reach = absurd (omega (arith, even))
row_new len i (vs ∷ lists) [] even reach = absurd (omega (arith, even))
row_new len i (vs ∷ lists) (c ∷ cs) even reach =
    ap (λ (x : Value). x ∷ row_at (with_values len lists cs) (len + i)) (cell_new len i c vs reach.0)
    ∙ ap (λ (xs : List Value). column_of vs i ∷ xs) (row_new len i lists cs (omega (arith, even)) reach.1)

alike_over : (f g : ℕ → List Value) (a n : ℕ) → ((i : ℕ) → i < a + n → f i ≡ g i) → map f (range_with_len a n) ≡ map g (range_with_len a n)
alike_over f g a zero same = refl
alike_over f g a (suc n) same =
    ap (λ (x : List Value). x ∷ map f (range_with_len (a + 1) n)) (same a (omega arith))
    ∙ ap (λ (xs : Columns). g a ∷ xs) (alike_over f g (a + 1) n (λ i below. same i (omega (arith, below))))

-- a range in two parts
over_both : (f : ℕ → List Value) (a m n : ℕ) → map f (range_with_len a (m + n)) ≡ map f (range_with_len a m) ++ map f (range_with_len (a + m) n)
over_both f a zero n =
    let none : zero + n ≡ n = omega arith in
    let start : a ≡ a + zero = omega arith in
    ap (λ (k : ℕ). map f (range_with_len a k)) none ∙ ap (λ (k : ℕ). map f (range_with_len k n)) start
over_both f a (suc m) n =
    let more : suc m + n ≡ suc (m + n) = omega arith in
    let start : (a + 1) + m ≡ a + suc m = omega arith in
    ap (λ (k : ℕ). map f (range_with_len a k)) more
    ∙ (ap (λ (xs : Columns). f a ∷ xs) (over_both f (a + 1) m n)
    ∙ ap (λ (k : ℕ). (f a ∷ map f (range_with_len (a + 1) m)) ++ map f (range_with_len k n)) start)

-- a range that begins later
over_later : (f g : ℕ → List Value) (len a b n : ℕ) → b ≡ len + a → ((i : ℕ) → f (len + i) ≡ g i) → map f (range_with_len b n) ≡ map g (range_with_len a n)
over_later f g len a b zero at same = refl
over_later f g len a b (suc n) at same =
    ap (λ (x : List Value). x ∷ map f (range_with_len (b + 1) n)) (ap f at ∙ same a)
    ∙ ap (λ (xs : Columns). g a ∷ xs) (over_later f g len (a + 1) (b + 1) n (omega (arith, at)) same)

pub rows_more : (len n : ℕ) (lists columns : Columns) → length lists ≡ length columns → ReachTo len columns
    → rows_of (len + n) (with_values len lists columns) ≡ rows_of len columns ++ rows_of n lists
rows_more len n lists columns even reach =
    over_both (row_at (with_values len lists columns)) 0 len n
    ∙ (ap (λ (rows : Columns). rows ++ map (row_at (with_values len lists columns)) (range_with_len (0 + len) n))
    (alike_over (row_at (with_values len lists columns)) (row_at columns) 0 len (λ i below. row_kept len i lists columns even reach (omega (arith, below))))
    ∙ ap (λ (rows : Columns). rows_of len columns ++ rows)
    (over_later (row_at (with_values len lists columns)) (row_at lists) len 0 (0 + len) n (omega arith) (λ i. row_new len i lists columns even reach)))

-- One row.

-- its values reach to one
pub reach_one : (row : List Value) → ReachTo 1 (cells_of row)
reach_one [] = tt
reach_one (v ∷ row) = (omega arith, reach_one row)

row_of_cells : (row : List Value) → row_at (cells_of row) 0 ≡ row
row_of_cells [] = refl
row_of_cells (v ∷ row) = ap (λ (xs : List Value). v ∷ xs) (row_of_cells row)

-- and it is the only one of them
pub one_row : (row : List Value) → rows_of 1 (cells_of row) ≡ row ∷ []
one_row row = ap (λ (r : List Value). r ∷ []) (row_of_cells row)

-- Values that did not come.

first_kept : (len : ℕ) (column values : List Value) → len ≤ length column → take len (take len column ++ values) ≡ take len column
first_kept len column values reach = take_at (take len column) values len (length-take-le len column reach)

-- the first values stay
pub firsts_kept : (len : ℕ) (lists columns : Columns) → ReachTo len columns → firsts len (with_values len lists columns) ≡ firsts len columns
firsts_kept len [] columns reach = refl
firsts_kept len (vs ∷ lists) [] reach = refl
firsts_kept len (vs ∷ lists) (c ∷ cs) reach =
    ap (λ (x : List Value). x ∷ firsts len (with_values len lists cs)) (first_kept len c vs reach.0) ∙ ap (λ (xs : Columns). take len c ∷ xs) (firsts_kept len lists cs reach.1)

first_set : (len : ℕ) (columns : Columns) (i : ℕ) (d new : List Value) → i < length columns → take len new ≡ take len (get_or columns i d) → firsts len (slice_set columns i new) ≡ firsts len columns
first_set len [] i d new below is = absurd (omega (arith, below))
first_set len (c ∷ cs) zero d new below is = ap (λ (x : List Value). x ∷ firsts len cs) is
first_set len (c ∷ cs) (suc i) d new below is = ap (λ (xs : Columns). take len c ∷ xs) (first_set len cs i d new (omega (arith, below)) is)

-- where values did not come the first values of all columns stay
pub firsts_left : (len : ℕ) (lists columns before after : Columns) (i : ℕ) (d new : List Value) → before ≡ with_values len lists columns → ReachTo len columns → i < length before
    → take len new ≡ take len (get_or before i d) → after ≡ slice_set before i new → firsts len after ≡ firsts len columns
firsts_left len lists columns before after i d new was reach below cut put =
    ap (firsts len) put ∙ (first_set len before i d new below cut ∙ (ap (firsts len) was ∙ firsts_kept len lists columns reach))

row_by_firsts : (len i : ℕ) (columns : Columns) → i < len → row_at columns i ≡ row_at (firsts len columns) i
row_by_firsts len i [] below = refl
row_by_firsts len i (c ∷ cs) below =
    ap (λ (x : Value). x ∷ row_at cs i) (sym (get_or-take len c i Null below)) ∙ ap (λ (xs : List Value). column_of (take len c) i ∷ xs) (row_by_firsts len i cs below)

rows_by_firsts : (len : ℕ) (columns : Columns) → rows_of len columns ≡ rows_of len (firsts len columns)
rows_by_firsts len columns = alike_over (row_at columns) (row_at (firsts len columns)) 0 len (λ i below. row_by_firsts len i columns (omega (arith, below)))

-- columns with the same first values have the same rows
pub rows_alike : (len : ℕ) (columns others : Columns) → firsts len columns ≡ firsts len others → rows_of len columns ≡ rows_of len others
rows_alike len columns others same = rows_by_firsts len columns ∙ (ap (rows_of len) same ∙ sym (rows_by_firsts len others))

-- there are as many
pub columns_alike : (len : ℕ) (columns others : Columns) → firsts len columns ≡ firsts len others → length columns ≡ length others
columns_alike len columns others same = sym (length-map columns (take len)) ∙ (ap length same ∙ length-map others (take len))

firsts_reach : (len : ℕ) (columns : Columns) → ReachTo len columns → ReachTo len (firsts len columns)
firsts_reach len [] reach = tt
firsts_reach len (c ∷ cs) reach =
    let h : length (take len c) ≡ len = length-take-le len c reach.0 in (omega (arith, h), firsts_reach len cs reach.1)

reach_firsts : (len : ℕ) (columns : Columns) → ReachTo len (firsts len columns) → ReachTo len columns
reach_firsts len [] reach = tt
reach_firsts len (c ∷ cs) reach = let h : len ≤ length (take len c) = reach.0 in (longer c h, reach_firsts len cs reach.1)
  where
    longer : (v : List Value) → len ≤ length (take len v) → len ≤ length v
    longer v h = let e : length (take len v) ≡ min len (length v) = length-take len v in omega (arith, e, h)

-- and they reach as far
pub reach_alike : (len : ℕ) (columns others : Columns) → firsts len columns ≡ firsts len others → ReachTo len others → ReachTo len columns
reach_alike len columns others same reach = reach_firsts len columns (subst (ReachTo len) (sym same) (firsts_reach len others reach))

-- a column behind whose first values others may have come reaches as far
pub reach_behind : (len : ℕ) (lists columns before : Columns) (i : ℕ) (column : List Value) → before ≡ with_values len lists columns → ReachTo len columns → i < length before
    → column ≡ get_or before i column → len ≤ length column
reach_behind len lists columns before i column was reach below at =
    reach_at len before i column (reach_alike len before columns (ap (firsts len) was ∙ firsts_kept len lists columns reach) reach) below at

-- What contracts see.

abbrev seen : ℕ → Columns → GatheredRows
seen len columns = record { width = length columns; rows = rows_of len columns }

-- where the first values stay, so do the rows
pub seen_alike : (len : ℕ) (columns others : Columns) → firsts len columns ≡ firsts len others → seen len columns ≡ seen len others
seen_alike len columns others same =
    ap (λ (n : ℕ). record { width = n; rows = rows_of len columns }) (columns_alike len columns others same)
    ∙ ap (λ (rows : Columns). record { width = length others; rows = rows }) (rows_alike len columns others same)

-- with more rows
pub seen_more : (len k n : ℕ) (lists columns after : Columns) (was : GatheredRows) → n ≡ len + k → after ≡ with_values len lists columns → seen len columns ≡ was
    → length lists ≡ was.width → ReachTo len columns → seen n after ≡ record { width = was.width; rows = was.rows ++ rows_of k lists }
seen_more len k n lists columns after was next is so even reach =
    let fits : length lists ≡ length columns = even ∙ sym (ap (λ g. g.width) so) in
    let few : length lists ≤ length columns = omega (arith, fits) in
    ap (λ (m : ℕ). seen m after) next
    ∙ (ap (seen (len + k)) is
    ∙ (ap (λ (m : ℕ). record { width = m; rows = rows_of (len + k) (with_values len lists columns) }) (length-with_values len lists columns few ∙ ap (λ g. g.width) so)
    ∙ ap (λ (rows : Columns). record { width = was.width; rows = rows }) (rows_more len k lists columns fits reach ∙ ap (λ g. g.rows ++ rows_of k lists) so)))

pub reach_next : (len k n : ℕ) (lists columns after : Columns) (was : GatheredRows) → n ≡ len + k → after ≡ with_values len lists columns → seen len columns ≡ was
    → length lists ≡ was.width → ReachTo len columns → ReachTo k lists → ReachTo n after
reach_next len k n lists columns after was next is so even reach there =
    let fits : length lists ≡ length columns = even ∙ sym (ap (λ g. g.width) so) in
    subst (λ (m : ℕ). ReachTo m after) (sym next) (subst (ReachTo (len + k)) (sym is) (reach_more len k lists columns fits reach there))

-- the first values of a column are those of the rows
pub column_seen : (len : ℕ) (columns : Columns) (k : ℕ) (column : List Value) → len ≤ length column → k < length columns → column ≡ get_or columns k column
    → take len column ≡ map (λ (row : List Value). column_of row k) (rows_of len columns)
column_seen len columns k column reach within at =
    let many : length (take len column) ≡ len = length-take-le len column reach in
    let rows : length (map (λ (row : List Value). column_of row k) (rows_of len columns)) ≡ len =
    length-map (rows_of len columns) (λ (row : List Value). column_of row k) ∙ length-rows_of len columns in
    ext_get_or Null (take len column) (map (λ (row : List Value). column_of row k) (rows_of len columns)) (many ∙ sym rows) (λ i l.
    let below : i < len = omega (arith, l, many) in
    get_or-take len column i Null below
    ∙ (cell_at len columns i k column below within at
    ∙ sym (get_or-map (λ (row : List Value). column_of row k) (rows_of len columns) i [] Null (omega (arith, below, length-rows_of len columns)))))
