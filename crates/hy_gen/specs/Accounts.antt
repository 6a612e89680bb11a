-- The table of accounts, acc (id INT PRIMARY KEY, bal INT), its first rows, and the statements on it.
use Rattle.std.specs.Prelude.{ℕ, List, [], ◌∷◌, Some, map, codes, pos}
use Rattle.std.specs.List.{range_with_len}
use Rattle.hy_value.specs.declared.Value.{Value}
use Rattle.hy_value.specs.declared.Value.TheVariants as values
use Rattle.hy_value.specs.declared.Kind.TheVariants as kinds
use Rattle.hy_value.specs.declared.Cmp.TheVariants as comparisons
use Rattle.hy_schema.specs.declared.TableDef.{TableDef}
use Rattle.hy_bound.specs.declared.Bound.{Bound}
use Rattle.hy_bound.specs.declared.Bound.TheVariants as statements
use Rattle.hy_bound.specs.declared.Items.TheVariants as items
use Rattle.hy_bound.specs.declared.predicate.Side.TheVariants as sides
use Rattle.hy_bound.specs.Condition.{Condition, True, Compare}
use Rattle.hy_bound.specs.Expression.{Expression, Literal, Column, Add, Sub}

-- a number as a value
abbrev pub int : ℕ → Value
int number = values.Int (pos number)

-- the table: its columns are id, which is the key, and bal
abbrev pub account_table : TableDef
account_table = record {
  name = codes "acc";
  columns = record { name = codes "id"; kind = kinds.Int } ∷ record { name = codes "bal"; kind = kinds.Int } ∷ [];
  key = Some 0;
}

-- the first row of an account
abbrev pub first_row : ℕ → List Value
first_row account = int account ∷ int 1000 ∷ []

-- the first rows, of accounts 1 to 64
unfoldable pub first_rows : List (List Value)
first_rows = map first_row (range_with_len 1 64)

-- id = account
abbrev pub of_account : ℕ → Condition
of_account account = Compare 0 comparisons.Eq (sides.Literal (int account))

-- SELECT SUM(bal) FROM acc
abbrev pub select_total : Bound
select_total = statements.Select (0 ∷ []) [] True (items.Sum 1)

-- SELECT bal FROM acc WHERE id = account
abbrev pub select_balance : ℕ → Bound
select_balance account = statements.Select (0 ∷ []) [] (of_account account) (items.Columns (1 ∷ []))

-- UPDATE acc SET bal = balance WHERE id = account
abbrev pub update_balance : Expression → ℕ → Bound
update_balance balance account = statements.Update 0 (record { column = 1; value = balance } ∷ []) (of_account account)

-- UPDATE acc SET bal = bal - amount WHERE id = account
abbrev pub withdraw : ℕ → ℕ → Bound
withdraw amount account = update_balance (Sub (Column 1) (Literal (int amount))) account

-- UPDATE acc SET bal = bal + amount WHERE id = account
abbrev pub deposit : ℕ → ℕ → Bound
deposit amount account = update_balance (Add (Column 1) (Literal (int amount))) account
