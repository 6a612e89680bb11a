-- What an UPDATE of one account's balance comes to.
use Rattle.std.proofs.Common.{◌≡◌, ℕ, zero, suc, Bool, true, false, cond, List, Option, Some, None, [], ◌∷◌, refl, sym, ap, ◌∙◌, subst, arith, ℤ, pos, ◌+ℤ◌}
use Rattle.std.specs.Prelude.{Result, Ok, Err, count_by}
use Rattle.std.specs.List.{AllByRecursion}
use Rattle.std.proofs.lemmas.Int.{ints}
use Rattle.hy_value.specs.declared.Value.{Value}
use Rattle.hy_value.specs.declared.Value.TheVariants.{Int}
use Rattle.hy_bound.specs.declared.Assign.{Assign}
use Rattle.hy_bound.specs.declared.Range.{Range}
use Rattle.hy_bound.specs.Expression.{Expression}
use Rattle.hy_bound.specs.Assignment.{has_64_bits, number_of, value_of, set_column, assigned_to, assigned}
use Rattle.hy_meaning.specs.Totals.{sum_of}
use Rattle.hy_meaning.specs.Statement.{Table, updated_row, and_row, updated_rows}
use Rattle.hy_gen.specs.Accounts.{of_account}
use Rattle.hy_bank.specs.Bank.{IsAccount}
use Rattle.hy_bank.proofs.Accounts.{HasBalance, balance, is_of, HaveMoney, count_cons}

abbrev Row : Type 0
Row = List Value

abbrev pub set_balance : Expression → List Assign
set_balance value = record { column = 1; value = value } ∷ []

-- an expression is the balance and an amount more, in each row
abbrev pub Adds : ℤ → Expression → Type 0
Adds amount value = (id : Value) (n : ℤ) → value_of value (id ∷ Int n ∷ []) ≡ number_of (n +ℤ amount)

-- so often an amount
abbrev times : ℕ → ℤ → ℤ
times zero amount = pos 0
times (suc many) amount = amount +ℤ times many amount

-- rows before and after: in those that pass a test the balance has an amount more, and the rest is as it was
record Moved (amount : ℤ) (test : Row → Bool) (rows after : Table) : Type 0 where
  balanced : AllByRecursion HasBalance after
  counts : (account : ℕ) → count_by (is_of account) after ≡ count_by (is_of account) rows
  total : sum_of 1 after ≡ sum_of 1 rows +ℤ times (count_by test rows) amount

-- ---- one row

row_in_range : (amount : ℤ) (id : Value) (n : ℤ) (fits : Bool) (after : Row)
    → assigned_to [] (id ∷ Int n ∷ []) (set_column (id ∷ Int n ∷ []) 1 (cond fits (Ok (Int (n +ℤ amount))) (Err (record {})))) ≡ Some after
    → after ≡ id ∷ Int (n +ℤ amount) ∷ []
row_in_range amount id n true after is = cc
row_in_range amount id n false after is = absurd cc

row_moved : (amount : ℤ) (value : Expression) → Adds amount value → (id : Value) (n : ℤ) (passes : Bool) (after : Row)
    → cond passes (assigned (set_balance value) (id ∷ Int n ∷ [])) (Some (id ∷ Int n ∷ [])) ≡ Some after
    → after ≡ id ∷ Int (n +ℤ cond passes amount (pos 0)) ∷ []
row_moved amount value adds id n true after is =
    row_in_range amount id n (has_64_bits (n +ℤ amount)) after
    (subst (λ (found : Result Value Range). assigned_to [] (id ∷ Int n ∷ []) (set_column (id ∷ Int n ∷ []) 1 found) ≡ Some after) (adds id n) is)
row_moved amount value adds id n false after is =
    let same : after ≡ id ∷ Int n ∷ [] = cc in
    let none : n ≡ n +ℤ pos 0 = omega (arith, ints) in
    same ∙ ap (λ (m : ℤ). id ∷ Int m ∷ []) none

-- ---- all rows

-- where all rows are there, the first and the others are
record Split (first : Option Row) (others : Option Table) (after : Table) : Type 0 where
  row : Row
  rows : Table
  is_row : first ≡ Some row
  is_rows : others ≡ Some rows
  are : after ≡ row ∷ rows

split : (first : Option Row) (others : Option Table) (after : Table) → and_row first others ≡ Some after → Split first others after
split None others after is = absurd cc
split (Some row) None after is = absurd cc
split (Some row) (Some rows) after is = record { row = row; rows = rows; is_row = refl; is_rows = refl; are = cc }

total_more : (amount n rest before : ℤ) (passes : Bool) (many : ℕ) → rest ≡ before +ℤ times many amount
    → n +ℤ cond passes amount (pos 0) +ℤ rest ≡ (n +ℤ before) +ℤ times (cond passes (suc many) many) amount
total_more amount n rest before true many is = let t = times many amount in omega (arith, ints, is)
total_more amount n rest before false many is = let t = times many amount in let none : n +ℤ pos 0 ≡ n = omega (arith, ints) in omega (arith, ints, is, none)

moved_more : (amount : ℤ) (test : Row → Bool) (id : Value) (n : ℤ) (rows rest : Table) → Moved amount test rows rest
    → Moved amount test ((id ∷ Int n ∷ []) ∷ rows) ((id ∷ Int (n +ℤ cond (test (id ∷ Int n ∷ [])) amount (pos 0)) ∷ []) ∷ rest)
moved_more amount test id n rows rest h =
    let row : Row = id ∷ Int n ∷ [] in
    let changed : Row = id ∷ Int (n +ℤ cond (test row) amount (pos 0)) ∷ [] in
    record {
      balanced = (balance id (n +ℤ cond (test row) amount (pos 0)), h.balanced);
      counts = λ account. count_cons (is_of account) changed rest
          ∙ ap (λ (k : ℕ). cond (is_of account row) (suc k) k) (h.counts account)
          ∙ sym (count_cons (is_of account) row rows);
      total = total_more amount n (sum_of 1 rest) (sum_of 1 rows) (test row) (count_by test rows) h.total
          ∙ ap (λ (k : ℕ). (n +ℤ sum_of 1 rows) +ℤ times k amount) (sym (count_cons test row rows));
    }

moved_first : (amount : ℤ) (value : Expression) → Adds amount value → (account : ℕ) (row : Row) → HasBalance row
    → (rows rest : Table) (after : Row) → updated_row (set_balance value) (of_account account) row ≡ Some after
    → Moved amount (is_of account) rows rest → Moved amount (is_of account) (row ∷ rows) (after ∷ rest)
moved_first amount value adds account _ (balance id n) rows rest after is h =
    subst (λ (a : Row). Moved amount (is_of account) ((id ∷ Int n ∷ []) ∷ rows) (a ∷ rest))
    (sym (row_moved amount value adds id n (is_of account (id ∷ Int n ∷ [])) after is))
    (moved_more amount (is_of account) id n rows rest h)

moved : (amount : ℤ) (value : Expression) → Adds amount value → (account : ℕ) (rows : Table) → AllByRecursion HasBalance rows
    → (after : Table) → updated_rows (set_balance value) (of_account account) rows ≡ Some after → Moved amount (is_of account) rows after
moved amount value adds account [] h after is =
    let none : [] ≡ after = cc in
    subst (Moved amount (is_of account) []) none (record { balanced = tt; counts = λ other. refl; total = refl })
moved amount value adds account (row ∷ rows) h after is =
    let parts = split (updated_row (set_balance value) (of_account account) row) (updated_rows (set_balance value) (of_account account) rows) after is in
    subst (Moved amount (is_of account) (row ∷ rows)) (sym parts.are)
    (moved_first amount value adds account row h.0 rows parts.rows parts.row parts.is_row (moved amount value adds account rows h.1 parts.rows parts.is_rows))

-- an UPDATE that is in range adds the amount to the sum, since one row is the account's
pub money_moved : (amount : ℤ) (value : Expression) → Adds amount value → (account : ℕ) → IsAccount account → (total : ℤ) (rows after : Table)
    → HaveMoney total rows → updated_rows (set_balance value) (of_account account) rows ≡ Some after → HaveMoney (total +ℤ amount) after
money_moved amount value adds account is total rows after h ran =
    let m = moved amount value adds account rows h.balanced after ran in
    let one : times (count_by (is_of account) rows) amount ≡ times 1 amount = ap (λ (k : ℕ). times k amount) (h.once account is) in
    let begun = h.sum in
    let ended = m.total in
    record {
      balanced = m.balanced;
      once = λ other there. m.counts other ∙ h.once other there;
      sum = omega (arith, ints, one, begun, ended);
    }
