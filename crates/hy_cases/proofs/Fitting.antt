-- A test for scripts that fit: tables with ascending keys, statements of one table, joins of two.
use Rattle.std.proofs.Common.{◌≡◌, ◌≢◌, refl, sym, ap, ℕ, zero, suc, ◌+◌, ◌*◌, ◌<◌, ◌≤◌, Bool, true, false, List, [], ◌∷◌, length, take, pos, negsuc}
use Rattle.std.proofs.Common.{subst, arith}
use Rattle.std.specs.Prelude.{Option, None, Some, ◌&&◌, not, ◌==◌, nat_lt, IsTrue, slice_index_or}
use Rattle.std.specs.List.{All, AllPairs, AllZip, AllByRecursion, list_all}
use Rattle.std.proofs.lemmas.Bool.{ltb-true, eqb-true, eq-eqb}
use Rattle.std.proofs.lemmas.List.Elements.{All-nil, All-cons, All-from_recursion}
use Rattle.std.proofs.lemmas.Option.{same_Some}
use Rattle.hy_value.specs.declared.Value.{Value}
use Rattle.hy_value.specs.declared.Value.TheVariants as values
use Rattle.hy_bound.specs.declared.Assign.{Assign}
use Rattle.hy_bound.specs.declared.Shape.{Shape}
use Rattle.hy_bound.specs.declared.Aggregate.{Aggregate}
use Rattle.hy_bound.specs.declared.Items.{Items}
use Rattle.hy_bound.specs.declared.Items.TheVariants.{Columns, Sum, Count}
use Rattle.hy_bound.specs.declared.On.{On}
use Rattle.hy_bound.specs.declared.Txn.{Txn}
use Rattle.hy_bound.specs.declared.Bound.{Bound}
use Rattle.hy_bound.specs.declared.Bound.TheVariants.{Select, Group, Insert, Update, Delete, Savepoint, RollbackTo, Release}
use Rattle.hy_bound.specs.Condition.{Condition}
use Rattle.hy_bound.specs.Predicate.{column_of}
use Rattle.hy_bound.specs.Records.{shape_of, columns_of, columns_shown, columns_summed, on_columns, set_columns}
use Rattle.hy_bound.specs.OpenSavepoints.{are_opened}
use Rattle.hy_bound.specs.Fits.{LieWithin, MayStand, FitsShape, FitsRows, FitsSelect, FitsGroup, FitsInsert, FitsUpdate, FitsStatement, FitsTxn}
use Rattle.hy_bound.specs.Fits.{FitsSession, Fits}
use Rattle.hy_bound.specs.Fits.{joined_width}
use Rattle.hy_machine.specs.declared.Setting.{Setting}

-- ---- joined tests, and tests of all elements

left : (b c : Bool) → IsTrue (b && c) → IsTrue b
left true c e = refl
left false c e = absurd cc

right : (b c : Bool) → IsTrue (b && c) → IsTrue c
right true c e = e
right false c e = absurd cc

each : {X : Type 0} (P : X → Type 0) (test : X → Bool) → ((x : X) → IsTrue (test x) → P x) → (xs : List X) → IsTrue (list_all test xs) → AllByRecursion P xs
each P test sound [] e = tt
each P test sound (x ∷ xs) e = (sound x (left (test x) _ e), each P test sound xs (right (test x) _ e))

all : {X : Type 0} (P : X → Type 0) (test : X → Bool) → ((x : X) → IsTrue (test x) → P x) → (xs : List X) → IsTrue (list_all test xs) → All P xs
all P test sound xs e = All-from_recursion P xs (each P test sound xs e)

at_most : (a b : ℕ) → IsTrue (nat_lt a (suc b)) → a ≤ b
at_most a b e = let below : a < suc b = ltb-true a (suc b) e in omega (arith, below)

-- a relation of the first element with each of the others, and so on
pairs_more : {X : Type 0} (R : X → X → Type 0) (x : X) (xs : List X) → All (R x) xs → AllPairs R xs → AllPairs R (x ∷ xs)
pairs_more R x xs h rest zero (suc j) d before below = h j d (omega (arith, below))
pairs_more R x xs h rest (suc i) (suc j) d before below = rest i j d (omega (arith, before)) (omega (arith, below))
pairs_more R x xs h rest zero zero d before below = absurd (omega (arith, before))
pairs_more R x xs h rest (suc i) zero d before below = absurd (omega (arith, before))

no_pairs : {X : Type 0} (R : X → X → Type 0) → AllPairs R []
no_pairs R i j d before below = absurd (omega (arith, below))

one_alone : {X : Type 0} (R : X → X → Type 0) (x : X) → AllPairs R (x ∷ [])
one_alone R x = pairs_more R x [] (All-nil (R x)) (no_pairs R)

-- ---- columns and keys

within : ℕ → List ℕ → Bool
within width columns = list_all (λ column. nat_lt column width) columns

lie_within : (width : ℕ) (columns : List ℕ) → IsTrue (within width columns) → LieWithin width columns
unfolding within
lie_within width columns e = all (λ column. column < width) (λ column. nat_lt column width) (λ column. ltb-true column width) columns e

-- the number that a key is, counted from 1; 0 for what is no such key
key_number : Value → ℕ
key_number values.Null = 0
key_number (values.Int (pos n)) = suc n
key_number (values.Int (negsuc n)) = 0
key_number (values.Text t) = 0

is_known : Value → Bool
is_known value = nat_lt 0 (key_number value)

known : (value : Value) → IsTrue (is_known value) → value ≢ values.Null
unfolding is_known key_number
known values.Null e same = absurd cc
known (values.Int n) e same = absurd cc
known (values.Text t) e same = absurd cc

key_below : ℕ → List Value → List Value → Bool
key_below key one other = nat_lt (key_number (column_of one key)) (key_number (column_of other key))

keys_differ : (key : ℕ) (one other : List Value) → IsTrue (key_below key one other) → column_of one key ≢ column_of other key
unfolding key_below
keys_differ key one other e same =
    let below : key_number (column_of one key) < key_number (column_of other key) = ltb-true _ _ e in
    let equal : key_number (column_of one key) ≡ key_number (column_of other key) = ap key_number same in
    absurd (omega (arith, below, equal))

keys_ascend : ℕ → List (List Value) → Bool
keys_ascend key [] = true
keys_ascend key (row ∷ rows) = is_known (column_of row key) && (list_all (key_below key row) rows && keys_ascend key rows)

are_known : (key : ℕ) (rows : List (List Value)) → IsTrue (keys_ascend key rows) → All (λ row. column_of row key ≢ values.Null) rows
unfolding keys_ascend
are_known key [] e = All-nil (λ row. column_of row key ≢ values.Null)
are_known key (row ∷ rows) e = All-cons (λ row. column_of row key ≢ values.Null) row rows (known (column_of row key) (left _ _ e))
    (are_known key rows (right _ _ (right _ _ e)))

are_different : (key : ℕ) (rows : List (List Value)) → IsTrue (keys_ascend key rows) → AllPairs (λ one other. column_of one key ≢ column_of other key) rows
unfolding keys_ascend
are_different key [] e = no_pairs (λ one other. column_of one key ≢ column_of other key)
are_different key (row ∷ rows) e = pairs_more (λ one other. column_of one key ≢ column_of other key) row rows
    (all (λ other. column_of row key ≢ column_of other key) (key_below key row) (keys_differ key row) rows (left _ _ (right _ _ e)))
    (are_different key rows (right _ _ (right _ _ e)))

-- whether a test holds of the key, if there is one
of_key : (ℕ → Bool) → Option ℕ → Bool
of_key test None = true
of_key test (Some key) = test key

that_key : (test : ℕ → Bool) (key : Option ℕ) (number : ℕ) → IsTrue (of_key test key) → key ≡ Some number → IsTrue (test number)
unfolding of_key
that_key test None number e is = absurd cc
that_key test (Some key) number e is = subst (λ k. IsTrue (test k)) (same_Some key number is) e

-- ---- tables

shape_fits : Shape → Bool
shape_fits shape = nat_lt 0 shape.width && (nat_lt shape.width 33 && of_key (λ key. nat_lt key shape.width) shape.key)

fits_shape : (shape : Shape) → IsTrue (shape_fits shape) → FitsShape shape
unfolding shape_fits
fits_shape shape e = record {
  some = let some : 0 < shape.width = ltb-true _ _ (left _ _ e) in omega (arith, some);
  few = at_most shape.width 32 (left _ _ (right _ _ e));
  key = λ key is. ltb-true key shape.width (that_key (λ key. nat_lt key shape.width) shape.key key (right _ _ (right _ _ e)) is);
}

rows_fit : ℕ → Shape → List (List Value) → Bool
rows_fit room shape rows =
    list_all (λ row. length row == shape.width) rows && (nat_lt (length rows) (suc room) && of_key (λ key. keys_ascend key rows) shape.key)

fits_rows : (room : ℕ) (shape : Shape) (rows : List (List Value)) → IsTrue (rows_fit room shape rows) → FitsRows room shape rows
unfolding rows_fit
fits_rows room shape rows e = record {
  widths = all (λ row. length row ≡ shape.width) (λ row. length row == shape.width) (λ row. eqb-true (length row) shape.width) rows (left _ _ e);
  few = at_most (length rows) room (left _ _ (right _ _ e));
  keys = λ key is.
      let ascend : IsTrue (keys_ascend key rows) = that_key (λ key. keys_ascend key rows) shape.key key (right _ _ (right _ _ e)) is in
      record { known = are_known key rows ascend; differ = are_different key rows ascend };
}

tables_fit : ℕ → List Shape → List (List (List Value)) → Bool
tables_fit room [] [] = true
tables_fit room [] (rows ∷ first) = false
tables_fit room (shape ∷ shapes) [] = false
tables_fit room (shape ∷ shapes) (rows ∷ first) = rows_fit room shape rows && tables_fit room shapes first

fit_tables : (room : ℕ) (shapes : List Shape) (first : List (List (List Value))) → IsTrue (tables_fit room shapes first) → AllZip (FitsRows room) shapes first
unfolding tables_fit
fit_tables room [] [] e = tt
fit_tables room [] (rows ∷ first) e = absurd cc
fit_tables room (shape ∷ shapes) [] e = absurd cc
fit_tables room (shape ∷ shapes) (rows ∷ first) e = (fits_rows room shape rows (left _ _ e), fit_tables room shapes first (right _ _ e))

-- ---- statements

is_not : ℕ → ℕ → Bool
is_not column key = not (key == column)

not_both : (b : Bool) → b ≡ true → IsTrue (not b) → ⊥
not_both true h e = absurd cc
not_both false h e = absurd cc

not_the_key : (column : ℕ) (key : Option ℕ) → IsTrue (of_key (is_not column) key) → key ≢ Some column
unfolding is_not
not_the_key column key e is = not_both (column == column) (eq-eqb column column refl) (that_key (is_not column) key column e is)

abbrev is_count : Items → Bool
is_count (Columns columns) = false
is_count (Sum column) = false
is_count Count = true

-- whether a SELECT of two tables with one ON fits
join_fits : List Shape → ℕ → ℕ → On → Condition → Items → Bool
join_fits shapes first second on pred items = nat_lt first (length shapes) && (nat_lt second (length shapes) && (not (second == first)
    && (within (joined_width shapes (first ∷ second ∷ [])) (on_columns on) && (within (joined_width shapes (first ∷ second ∷ [])) (columns_of pred)
    && (within (joined_width shapes (first ∷ second ∷ [])) (columns_shown items) && not (is_count items))))))

fits : List Shape → Bound → Bool
fits shapes (Select (first ∷ second ∷ []) (on ∷ []) pred items) = join_fits shapes first second on pred items
fits shapes (Group table pred key aggregate) = nat_lt table (length shapes) && (nat_lt key (shape_of shapes table).width
    && (within (shape_of shapes table).width (columns_summed aggregate) && within (shape_of shapes table).width (columns_of pred)))
fits shapes (Select (table ∷ []) [] pred items) = nat_lt table (length shapes)
    && (within (joined_width shapes (table ∷ [])) (columns_of pred) && within (joined_width shapes (table ∷ [])) (columns_shown items))
fits shapes (Insert table row) = nat_lt table (length shapes)
    && ((length row == (shape_of shapes table).width) && of_key (λ key. is_known (column_of row key)) (shape_of shapes table).key)
fits shapes (Update table (set ∷ []) pred) = nat_lt table (length shapes)
    && (nat_lt set.column (shape_of shapes table).width && (of_key (is_not set.column) (shape_of shapes table).key
    && (within (shape_of shapes table).width (set_columns (set ∷ [])) && within (shape_of shapes table).width (columns_of pred))))
fits shapes (Delete table pred) = nat_lt table (length shapes) && within (shape_of shapes table).width (columns_of pred)
fits shapes (Savepoint name) = true
fits shapes (RollbackTo name) = true
fits shapes (Release name) = true
fits shapes statement = false

select_fits : (shapes : List Shape) (table : ℕ) (pred : Condition) (items : Items) → IsTrue (fits shapes (Select (table ∷ []) [] pred items))
    → FitsSelect shapes (table ∷ []) [] pred items
unfolding fits
select_fits shapes table pred items e = record {
  many = refl;
  few = omega arith;
  there = All-cons (λ table. table < length shapes) table [] (ltb-true table (length shapes) (left _ _ e)) (All-nil (λ table. table < length shapes));
  differ = one_alone (λ one other. one ≢ other) table;
  joins = λ number d below. absurd (omega (arith, below));
  filter = lie_within (joined_width shapes (table ∷ [])) (columns_of pred) (left _ _ (right _ _ e));
  shown = lie_within (joined_width shapes (table ∷ [])) (columns_shown items) (right _ _ (right _ _ e));
  counts_one = λ counts. refl;
}

numbers_differ : (m n : ℕ) → IsTrue (not (n == m)) → m ≢ n
numbers_differ m n e same = not_both (n == m) (eq-eqb n m (sym same)) e

fits_join : (shapes : List Shape) (first second : ℕ) (on : On) (pred : Condition) (items : Items) → IsTrue (join_fits shapes first second on pred items)
    → FitsSelect shapes (first ∷ second ∷ []) (on ∷ []) pred items
unfolding join_fits
fits_join shapes first second on pred items e =
    let one : IsTrue (nat_lt first (length shapes)) = search left in
    let two : IsTrue (nat_lt second (length shapes)) = search (left, right) depth 8 in
    let apart : IsTrue (not (second == first)) = search (left, right) depth 8 in
    let joined : IsTrue (within (joined_width shapes (first ∷ second ∷ [])) (on_columns on)) = search (left, right) depth 8 in
    let filtered : IsTrue (within (joined_width shapes (first ∷ second ∷ [])) (columns_of pred)) = search (left, right) depth 8 in
    let told : IsTrue (within (joined_width shapes (first ∷ second ∷ [])) (columns_shown items)) = search (left, right) depth 8 in
    let other : IsTrue (not (is_count items)) = search (left, right) depth 8 in
    record {
      many = refl;
      few = omega arith;
      there = All-cons (λ table. table < length shapes) first (second ∷ []) (ltb-true first (length shapes) one)
          (All-cons (λ table. table < length shapes) second [] (ltb-true second (length shapes) two) (All-nil (λ table. table < length shapes)));
      differ = pairs_more (λ one other. one ≢ other) first (second ∷ [])
          (All-cons (λ other. first ≢ other) second [] (numbers_differ first second apart) (All-nil (λ other. first ≢ other)))
          (one_alone (λ one other. one ≢ other) second);
      joins = only_one (λ number d. LieWithin (joined_width shapes (take (number + 2) (first ∷ second ∷ []))) (on_columns (slice_index_or (on ∷ []) number d)))
          (λ d. lie_within (joined_width shapes (first ∷ second ∷ [])) (on_columns on) joined);
      filter = lie_within (joined_width shapes (first ∷ second ∷ [])) (columns_of pred) filtered;
      shown = lie_within (joined_width shapes (first ∷ second ∷ [])) (columns_shown items) told;
      counts_one = λ counts. absurd (not_count items other counts);
    }
  where
    only_one : (P : ℕ → On → Type 0) → ((d : On) → P 0 d) → (number : ℕ) (d : On) → number < 1 → P number d
    only_one P h zero d below = h d
    only_one P h (suc number) d below = absurd (omega (arith, below))

    not_count : (items : Items) → IsTrue (not (is_count items)) → items ≡ Count → ⊥
    not_count (Columns columns) e is = absurd cc
    not_count (Sum column) e is = absurd cc
    not_count Count e is = absurd cc

group_fits : (shape : Shape) (key : ℕ) (aggregate : Aggregate) (pred : Condition)
    → IsTrue (nat_lt key shape.width && (within shape.width (columns_summed aggregate) && within shape.width (columns_of pred)))
    → FitsGroup shape pred key aggregate
group_fits shape key aggregate pred e = record {
  grouped = ltb-true key shape.width (left _ _ e);
  summed = lie_within shape.width (columns_summed aggregate) (left _ _ (right _ _ e));
  filter = lie_within shape.width (columns_of pred) (right _ _ (right _ _ e));
}

insert_fits : (shape : Shape) (row : List Value) → IsTrue ((length row == shape.width) && of_key (λ key. is_known (column_of row key)) shape.key)
    → FitsInsert shape row
insert_fits shape row e = record {
  width = eqb-true (length row) shape.width (left _ _ e);
  known = λ key is. known (column_of row key) (that_key (λ key. is_known (column_of row key)) shape.key key (right _ _ e) is);
}

update_fits : (shape : Shape) (set : Assign) (pred : Condition)
    → IsTrue (nat_lt set.column shape.width && (of_key (is_not set.column) shape.key
    && (within shape.width (set_columns (set ∷ [])) && within shape.width (columns_of pred)))) → FitsUpdate shape (set ∷ []) pred
update_fits shape set pred e = record {
  set = All-cons (λ column. column < shape.width) set.column [] (ltb-true set.column shape.width (left _ _ e)) (All-nil (λ column. column < shape.width));
  once = one_alone (λ (one other : Assign). one.column ≢ other.column) set;
  spares_key = All-cons (λ (assign : Assign). shape.key ≢ Some assign.column) set [] (not_the_key set.column shape.key (left _ _ (right _ _ e)))
      (All-nil (λ (assign : Assign). shape.key ≢ Some assign.column));
  values = lie_within shape.width (set_columns (set ∷ [])) (left _ _ (right _ _ (right _ _ e)));
  filter = lie_within shape.width (columns_of pred)
      (right (within shape.width (set_columns (set ∷ []))) _ (right (of_key (is_not set.column) shape.key) _ (right (nat_lt set.column shape.width) _ e)));
}

fits_statement : (shapes : List Shape) (statement : Bound) → IsTrue (fits shapes statement) → FitsStatement shapes statement
unfolding fits
fits_statement shapes (Select (table ∷ []) [] pred items) e = select_fits shapes table pred items e
fits_statement shapes (Select (first ∷ second ∷ []) (on ∷ []) pred items) e = fits_join shapes first second on pred items e
fits_statement shapes (Group table pred key aggregate) e =
    (ltb-true table (length shapes) (left _ _ e), group_fits (shape_of shapes table) key aggregate pred (right _ _ e))
fits_statement shapes (Insert table row) e = (ltb-true table (length shapes) (left _ _ e), insert_fits (shape_of shapes table) row (right _ _ e))
fits_statement shapes (Update table (set ∷ []) pred) e =
    (ltb-true table (length shapes) (left _ _ e), update_fits (shape_of shapes table) set pred (right _ _ e))
fits_statement shapes (Delete table pred) e =
    (ltb-true table (length shapes) (left _ _ e), lie_within (shape_of shapes table).width (columns_of pred) (right _ _ e))
fits_statement shapes (Savepoint name) e = tt
fits_statement shapes (RollbackTo name) e = tt
fits_statement shapes (Release name) e = tt
fits_statement shapes statement e = absurd cc

-- ---- transactions and scripts

may_stand : Bool → Bound → Bool
may_stand read_only (Select tables ons pred items) = true
may_stand read_only (Group table pred key aggregate) = read_only
may_stand read_only (Insert table row) = not read_only
may_stand read_only (Update table sets pred) = not read_only
may_stand read_only (Delete table pred) = not read_only
may_stand read_only (Savepoint name) = true
may_stand read_only (RollbackTo name) = true
may_stand read_only (Release name) = true

is_false : (b : Bool) → IsTrue (not b) → b ≡ false
is_false true e = absurd cc
is_false false e = refl

stands : (read_only : Bool) (statement : Bound) → IsTrue (may_stand read_only statement) → MayStand read_only statement
unfolding may_stand
stands read_only (Select tables ons pred items) e = tt
stands read_only (Group table pred key aggregate) e = e
stands read_only (Insert table row) e = is_false read_only e
stands read_only (Update table sets pred) e = is_false read_only e
stands read_only (Delete table pred) e = is_false read_only e
stands read_only (Savepoint name) e = tt
stands read_only (RollbackTo name) e = tt
stands read_only (Release name) e = tt

txn_fits : List Shape → Txn → Bool
txn_fits shapes txn =
    nat_lt (length txn.statements) 257
    && (list_all (fits shapes) txn.statements && (list_all (may_stand txn.read_only) txn.statements && are_opened [] txn.statements))

fits_txn : (shapes : List Shape) (txn : Txn) → IsTrue (txn_fits shapes txn) → FitsTxn shapes txn
unfolding txn_fits
fits_txn shapes txn e =
    let few : Bool = nat_lt (length txn.statements) 257 in
    let fit : Bool = list_all (fits shapes) txn.statements in
    let stand : Bool = list_all (may_stand txn.read_only) txn.statements in
    let opened : Bool = are_opened [] txn.statements in
    let all_fit : IsTrue (fit && (stand && opened)) = right few (fit && (stand && opened)) e in
    let all_stand : IsTrue (stand && opened) = right fit (stand && opened) all_fit in
    record {
      few = at_most (length txn.statements) 256 (left few (fit && (stand && opened)) e);
      fit = all (FitsStatement shapes) (fits shapes) (fits_statement shapes) txn.statements (left fit (stand && opened) all_fit);
      stand = all (MayStand txn.read_only) (may_stand txn.read_only) (stands txn.read_only) txn.statements (left stand opened all_stand);
      savepoints = right stand opened all_stand;
    }

session_fits : List Shape → List Txn → Bool
session_fits shapes txns = nat_lt (length txns) 65536 && list_all (txn_fits shapes) txns

fits_session : (shapes : List Shape) (txns : List Txn) → IsTrue (session_fits shapes txns) → FitsSession shapes txns
unfolding session_fits
fits_session shapes txns e = record {
  few = at_most (length txns) 65535 (left _ _ e);
  fit = all (FitsTxn shapes) (txn_fits shapes) (fits_txn shapes) txns (right _ _ e);
}

-- the sessions of a script; its first rows too; its shapes too
sessions_fit : Setting → Bool
unfolding session_fits txn_fits may_stand fits join_fits within of_key is_not is_known key_number
sessions_fit setting = nat_lt (length setting.programs) 65 && list_all (session_fits setting.shapes) setting.programs

first_rows_fit : Setting → Bool
unfolding sessions_fit tables_fit rows_fit of_key keys_ascend key_below is_known key_number
first_rows_fit setting = tables_fit (setting.chunks * setting.rows) setting.shapes setting.first && sessions_fit setting

shapes_fit : Setting → Bool
unfolding first_rows_fit shape_fits of_key
shapes_fit setting = list_all shape_fits setting.shapes && first_rows_fit setting

-- whether a script fits, as far as this test knows
unfoldable pub setting_fits : Setting → Bool
unfolding shapes_fit
setting_fits setting = nat_lt (length setting.shapes) 17 && shapes_fit setting

pub fits_setting : (setting : Setting) → IsTrue (setting_fits setting) → Fits setting.shapes (setting.chunks * setting.rows) setting.first setting.programs
unfolding setting_fits
fits_setting setting e =
    let shapes : IsTrue (shapes_fit setting) = right (nat_lt (length setting.shapes) 17) (shapes_fit setting) e in
    let first : IsTrue (first_rows_fit setting) = right (list_all shape_fits setting.shapes) (first_rows_fit setting) shapes in
    let sessions : IsTrue (sessions_fit setting) =
    right (tables_fit (setting.chunks * setting.rows) setting.shapes setting.first) (sessions_fit setting) first in
    record {
      few_tables = at_most (length setting.shapes) 16 (left (nat_lt (length setting.shapes) 17) (shapes_fit setting) e);
      tables = all FitsShape shape_fits fits_shape setting.shapes (left (list_all shape_fits setting.shapes) (first_rows_fit setting) shapes);
      first_rows = fit_tables (setting.chunks * setting.rows) setting.shapes setting.first
          (left (tables_fit (setting.chunks * setting.rows) setting.shapes setting.first) (sessions_fit setting) first);
      few_sessions = at_most (length setting.programs) 64
          (left (nat_lt (length setting.programs) 65) (list_all (session_fits setting.shapes) setting.programs) sessions);
      sessions = all (FitsSession setting.shapes) (session_fits setting.shapes) (fits_session setting.shapes) setting.programs
          (right (nat_lt (length setting.programs) 65) (list_all (session_fits setting.shapes) setting.programs) sessions);
    }
