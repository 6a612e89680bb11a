-- The balances of rows lie within a bound. A statement that only reads, or that adds at most 100 to balances or takes it
-- away, leaves them within a bound that is wider by 100, and goes out of range for no row.
use Rattle.std.proofs.Common.{◌≡◌, ℕ, zero, suc, ◌+◌, ◌*◌, ◌^◌, ◌<◌, ◌≤◌, Bool, true, false, List, Option, Some}
use Rattle.std.proofs.Common.{None, [], ◌∷◌, length, refl, sym, ap, ◌∙◌, subst, arith, ℤ, pos, negsuc, neg_ℤ, ◌+ℤ◌}
use Rattle.std.specs.Prelude.{Ok, Err, Result, IfSome, ◌&&◌, ◌==◌, is_none, cond}
use Rattle.std.specs.Int.Signed.{◌≤ℤ◌}
use Rattle.std.specs.List.{AllByRecursion, list_any}
use Rattle.std.proofs.lemmas.Bool.{lt-ltb, or_from}
use Rattle.std.proofs.lemmas.Int.{ints}
use Rattle.std.proofs.lemmas.List.Elements.{All-from_recursion, recursion_from_All}
use Rattle.std.proofs.lemmas.List.Sorted.{All-permutation}
use Rattle.hy_value.specs.declared.Value.{Value}
use Rattle.hy_value.specs.declared.Value.TheVariants.{Int}
use Rattle.hy_value.specs.Sorted.{sorted}
use Rattle.hy_value.specs.Sorting.{sorted_permutes}
use Rattle.hy_bound.specs.declared.Bound.{Bound}
use Rattle.hy_bound.specs.declared.Bound.TheVariants.{Select, Update}
use Rattle.hy_bound.specs.Savepoints.{Saved, saved_after, value_after}
use Rattle.hy_bound.specs.declared.Items.{Items}
use Rattle.hy_bound.specs.declared.On.{On}
use Rattle.hy_bound.specs.declared.Range.{Range}
use Rattle.hy_bound.specs.declared.Shape.{Shape}
use Rattle.hy_bound.specs.Assignment.{has_64_bits, set_column, assigned_to, assigned}
use Rattle.hy_bound.specs.Condition.{Condition}
use Rattle.hy_bound.specs.Expression.{Expression}
use Rattle.hy_bound.specs.Predicate.{truth_of}
use Rattle.hy_meaning.specs.Statement.{Table, Database, rows_in, updated_row, and_row, updated_rows, with_table, mean}
use Rattle.hy_meaning.specs.Serial.{Alone, goes_on, database_back, alone_from}
use Rattle.hy_lawful.specs.Refusing.{goes_out}
use Rattle.hy_bank.proofs.Updates.{Adds, set_balance}

abbrev Row : Type 0
Row = List Value

-- ---- numbers

-- a number lies within a bound on both sides of 0
pub record IsWithin (bound : ℕ) (n : ℤ) : Type 0 where
  pub below : neg_ℤ (pos bound) ≤ℤ n
  pub above : n ≤ℤ pos bound

pub wider : (bound more : ℕ) (n : ℤ) → bound ≤ more → IsWithin bound n → IsWithin more n
wider bound more n le h = let b = h.below in let a = h.above in record { below = omega (arith, ints, b); above = omega (arith, ints, a) }

pub added_within : (bound more : ℕ) (n amount : ℤ) → IsWithin bound n → IsWithin more amount → IsWithin (bound + more) (n +ℤ amount)
added_within bound more n amount h k =
    let b = h.below in
    let a = h.above in
    let c = k.below in
    let d = k.above in
    record { below = omega (arith, ints, b, c); above = omega (arith, ints, a, d) }

pub fits_within : (bound : ℕ) (n : ℤ) → bound < 2 ^ 63 → IsWithin bound n → has_64_bits n ≡ true
fits_within bound (pos n) few h = let a = h.above in lt-ltb n (2 ^ 63) (omega (arith, ints, a))
fits_within bound (negsuc n) few h = let b = h.below in lt-ltb n (2 ^ 63) (omega (arith, ints, b))

-- ---- rows

-- a row of two values, of which the second is a number within a bound
pub data HasBalanceWithin (bound : ℕ) : Row → Type 0 where
  within : (id : Value) (n : ℤ) → IsWithin bound n → HasBalanceWithin bound (id ∷ Int n ∷ [])

abbrev pub AreWithin : ℕ → Table → Type 0
AreWithin bound rows = AllByRecursion (HasBalanceWithin bound) rows

row_wider : (bound more : ℕ) → bound ≤ more → (row : Row) → HasBalanceWithin bound row → HasBalanceWithin more row
row_wider bound more le _ (within id n h) = within id n (wider bound more n le h)

rows_wider : (bound more : ℕ) → bound ≤ more → (rows : Table) → AreWithin bound rows → AreWithin more rows
rows_wider bound more le [] h = tt
rows_wider bound more le (row ∷ rows) h = (row_wider bound more le row h.0, rows_wider bound more le rows h.1)

pub sorted_within : (bound : ℕ) (rows : Table) → AreWithin bound rows → AreWithin bound (sorted rows)
sorted_within bound rows h =
    recursion_from_All (HasBalanceWithin bound) (sorted rows)
    (All-permutation (HasBalanceWithin bound) rows (sorted rows) (sorted_permutes rows) (All-from_recursion (HasBalanceWithin bound) rows h))

-- ---- what UPDATE makes of them

-- a row with the balance set to this, if it is in range
abbrev with_balance : Value → ℤ → Result Value Range → Option Row
with_balance id n found = assigned_to [] (id ∷ Int n ∷ []) (set_column (id ∷ Int n ∷ []) 1 found)

set_within : (bound : ℕ) (id : Value) (n changed : ℤ) (fits : Bool) → IsWithin bound changed
    → IfSome (with_balance id n (cond fits (Ok (Int changed)) (Err (record {})))) (HasBalanceWithin bound)
set_within bound id n changed true h = within id changed h
set_within bound id n changed false h = tt

updated_within : (bound : ℕ) (amount : ℤ) (value : Expression) → IsWithin 100 amount → Adds amount value → (id : Value) (n : ℤ) → IsWithin bound n
    → (passes : Bool) → IfSome (cond passes (assigned (set_balance value) (id ∷ Int n ∷ [])) (Some (id ∷ Int n ∷ []))) (HasBalanceWithin (bound + 100))
updated_within bound amount value small adds id n h true =
    subst (λ (found : Result Value Range). IfSome (with_balance id n found) (HasBalanceWithin (bound + 100))) (sym (adds id n))
    (set_within (bound + 100) id n (n +ℤ amount) (has_64_bits (n +ℤ amount)) (added_within bound 100 n amount h small))
updated_within bound amount value small adds id n h false = within id n (wider bound (bound + 100) n (omega arith) h)

row_within : (bound : ℕ) (amount : ℤ) (value : Expression) → IsWithin 100 amount → Adds amount value → (pred : Condition) (row : Row)
    → HasBalanceWithin bound row → IfSome (updated_row (set_balance value) pred row) (HasBalanceWithin (bound + 100))
row_within bound amount value small adds pred _ (within id n h) = updated_within bound amount value small adds id n h (truth_of pred (id ∷ Int n ∷ []))

both_within : (bound : ℕ) (first : Option Row) (others : Option Table) → IfSome first (HasBalanceWithin bound) → IfSome others (AreWithin bound)
    → IfSome (and_row first others) (AreWithin bound)
both_within bound None others h k = tt
both_within bound (Some row) None h k = tt
both_within bound (Some row) (Some rows) h k = (h, k)

rows_within : (bound : ℕ) (amount : ℤ) (value : Expression) → IsWithin 100 amount → Adds amount value → (pred : Condition) (rows : Table)
    → AreWithin bound rows → IfSome (updated_rows (set_balance value) pred rows) (AreWithin (bound + 100))
rows_within bound amount value small adds pred [] h = tt
rows_within bound amount value small adds pred (row ∷ rows) h =
    both_within (bound + 100) (updated_row (set_balance value) pred row) (updated_rows (set_balance value) pred rows)
    (row_within bound amount value small adds pred row h.0) (rows_within bound amount value small adds pred rows h.1)

-- where the bound is far from the range, the balance is set
set_there : (id : Value) (n changed : ℤ) (fits : Bool) → fits ≡ true → is_none (with_balance id n (cond fits (Ok (Int changed)) (Err (record {})))) ≡ false
set_there id n changed true e = refl
set_there id n changed false e = absurd cc

stays_in_range : (bound : ℕ) (amount : ℤ) (value : Expression) → bound + 100 < 2 ^ 63 → IsWithin 100 amount → Adds amount value → (row : Row)
    → HasBalanceWithin bound row → is_none (assigned (set_balance value) row) ≡ false
stays_in_range bound amount value few small adds _ (within id n h) =
    ap (λ (found : Result Value Range). is_none (with_balance id n found)) (adds id n)
    ∙ set_there id n (n +ℤ amount) (has_64_bits (n +ℤ amount)) (fits_within (bound + 100) (n +ℤ amount) few (added_within bound 100 n amount h small))

-- ---- statements

-- a statement that reads, or adds an amount of at most 100 to balances of the first table, or takes it away
pub data IsModest : Bound → Type 0 where
  reads : (tables : List ℕ) (ons : List On) (pred : Condition) (items : Items) → IsModest (Select tables ons pred items)
  moves : (amount : ℤ) (value : Expression) (pred : Condition) → IsWithin 100 amount → Adds amount value → IsModest (Update 0 (set_balance value) pred)

-- a database of one table, whose balances lie within a bound
pub data HoldsWithin (bound : ℕ) : Database → Type 0 where
  one_table : (rows : Table) → AreWithin bound rows → HoldsWithin bound (rows ∷ [])

pub holds_wider : (bound more : ℕ) → bound ≤ more → (db : Database) → HoldsWithin bound db → HoldsWithin more db
holds_wider bound more le _ (one_table rows h) = one_table rows (rows_wider bound more le rows h)

-- after an UPDATE, and what follows it; or before it, where it stops the transaction
after_update : (bound total : ℕ) → bound ≤ total → (number : ℕ) (pred : Condition) (rows : Table) → AreWithin bound rows → (found : Option Table)
    → IfSome found (AreWithin (bound + 100)) → (rest : Database → Alone)
    → ((db : Database) → HoldsWithin (bound + 100) db → HoldsWithin total (rest db).database)
    → HoldsWithin total (goes_on number (rows ∷ []) (with_table pred 0 (rows ∷ []) found) rest).database
after_update bound total le number pred rows h None k rest later = one_table rows (rows_wider bound total le rows h)
after_update bound total le number pred rows h (Some after) k rest later =
    later (sorted after ∷ []) (one_table (sorted after) (sorted_within (bound + 100) after k))

after_one : (shapes : List Shape) (bound total : ℕ) → bound ≤ total → (number : ℕ) (statement : Bound) → IsModest statement → (db : Database)
    → HoldsWithin bound db → (rest : Database → Alone)
    → ((after : Database) → HoldsWithin (bound + 100) after → HoldsWithin total (rest after).database)
    → HoldsWithin total (goes_on number db (mean shapes statement db) rest).database
after_one shapes bound total le number _ (reads tables ons pred items) db h rest later = later db (holds_wider bound (bound + 100) (omega arith) db h)
after_one shapes bound total le number _ (moves amount value pred small adds) _ (one_table rows h) rest later =
    after_update bound total le number pred rows h (updated_rows (set_balance value) pred rows)
    (rows_within bound amount value small adds pred rows h) rest later

-- none of these goes back to a savepoint
none_goes_back : (bound : ℕ) (statement : Bound) → IsModest statement → (saved : List (Saved Database)) (db : Database) → HoldsWithin bound db
    → HoldsWithin bound (value_after database_back statement saved db)
none_goes_back bound _ (reads tables ons pred items) saved db h = h
none_goes_back bound _ (moves amount value pred small adds) saved db h = h

-- statements that run one after another widen the bound by 100 each
pub alone_within : (shapes : List Shape) (saved : List (Saved Database)) (statements : List Bound) → AllByRecursion IsModest statements
    → (bound number : ℕ) (db : Database) → HoldsWithin bound db
    → HoldsWithin (bound + 100 * length statements) (alone_from shapes saved number statements db).database
alone_within shapes saved [] are bound number db h = holds_wider bound (bound + 100 * 0) (omega arith) db h
alone_within shapes saved (statement ∷ statements) are bound number db h =
    let rest : Database → Alone =
    λ left. alone_from shapes (saved_after statement saved left) (suc number) statements (value_after database_back statement saved left) in
    after_one shapes bound (bound + 100 * length (statement ∷ statements)) (omega arith) number statement are.0 db h rest
    (λ after k. holds_wider ((bound + 100) + 100 * length statements) (bound + 100 * length (statement ∷ statements)) (omega arith) (rest after).database
    (alone_within shapes (saved_after statement saved after) statements are.1 (bound + 100) (suc number) (value_after database_back statement saved after)
    (none_goes_back (bound + 100) statement are.0 saved after k)))

-- ---- none goes out of range

not_both : (b c : Bool) → (b && c && false) ≡ false
not_both true true = refl
not_both true false = refl
not_both false c = refl

one_stays : (bound : ℕ) → bound + 100 < 2 ^ 63 → (table : ℕ) (statement : Option Bound) → IfSome statement IsModest → (row : Row)
    → HasBalanceWithin bound row → goes_out table statement row ≡ false
one_stays bound few table None is row h = refl
one_stays bound few table (Some _) (reads tables ons pred items) row h = refl
one_stays bound few table (Some _) (moves amount value pred small adds) row h =
    ap (λ (b : Bool). 0 == table && truth_of pred row && b) (stays_in_range bound amount value few small adds row h)
    ∙ not_both (0 == table) (truth_of pred row)

all_stay : (bound : ℕ) → bound + 100 < 2 ^ 63 → (table : ℕ) (statement : Option Bound) → IfSome statement IsModest → (rows : Table)
    → AreWithin bound rows → list_any (goes_out table statement) rows ≡ false
all_stay bound few table statement is [] h = refl
all_stay bound few table statement is (row ∷ rows) h =
    or_from (goes_out table statement row) (list_any (goes_out table statement) rows) (one_stays bound few table statement is row h.0)
    (all_stay bound few table statement is rows h.1)

pub none_goes_out : (bound : ℕ) → bound + 100 < 2 ^ 63 → (statement : Option Bound) → IfSome statement IsModest → (db : Database)
    → HoldsWithin bound db → (table : ℕ) → list_any (goes_out table statement) (rows_in db table) ≡ false
none_goes_out bound few statement is _ (one_table rows h) zero = all_stay bound few 0 statement is rows h
none_goes_out bound few statement is _ (one_table rows h) (suc table) = refl
