-- Words for small scripts and what is told of them: rows of two numbers, one-line statements, transactions, labels.
use Rattle.std.specs.Prelude.{ℕ, ◌-◌, pos, negsuc, List, [], ◌∷◌, true, false, Some}
use Rattle.hy_value.specs.declared.Value.{Value}
use Rattle.hy_value.specs.declared.Value.TheVariants.{Int}
use Rattle.hy_value.specs.declared.Cmp.TheVariants.{Eq, Gt}
use Rattle.hy_bound.specs.declared.predicate.Side.TheVariants as side
use Rattle.hy_bound.specs.declared.Bound.{Bound}
use Rattle.hy_bound.specs.declared.Bound.TheVariants.{Select, Group, Insert, Update, Delete, Savepoint, RollbackTo, Release}
use Rattle.hy_bound.specs.declared.Items.TheVariants.{Columns, Sum, Count}
use Rattle.hy_bound.specs.declared.Aggregate.TheVariants as aggregate
use Rattle.hy_bound.specs.declared.Grouped.{Grouped}
use Rattle.hy_bound.specs.declared.Reply.{Reply}
use Rattle.hy_bound.specs.declared.Reply.TheVariants as reply
use Rattle.hy_bound.specs.declared.Shape.{Shape}
use Rattle.hy_bound.specs.declared.Txn.{Txn}
use Rattle.hy_bound.specs.Condition.{Condition, True, Compare}
use Rattle.hy_bound.specs.Expression.{Literal, Column, Add}
use Rattle.hy_stamp.specs.declared.Label.{Label}
use Rattle.hy_bound.specs.declared.schedule.Item.{Item}
use Rattle.hy_value.specs.declared.change.Change.{Change}
use Rattle.hy_render.specs.declared.Committed.{Committed as Entry}
use Rattle.hy_bound.specs.declared.Ending.{Ending}
use Rattle.hy_render.specs.declared.Place.{Place}
use Rattle.hy_render.specs.declared.TxnOutcome.{TxnOutcome}
use Rattle.hy_machine.specs.declared.Setting.{Setting}
use Rattle.hy_machine.specs.Tables.{Cell}

-- ---- rows: the accounts of a table, each with a number, which is the key, and a balance

abbrev pub int : ℕ → Value
int n = Int (pos n)

abbrev pub minus : ℕ → Value
minus n = Int (negsuc (n - 1))

-- the greatest number that a value may be
abbrev pub greatest : ℕ
greatest = 9223372036854775807

abbrev pub row : ℕ → ℕ → List Value
row id balance = int id ∷ int balance ∷ []

abbrev pub overdrawn : ℕ → ℕ → List Value
overdrawn id debt = int id ∷ minus debt ∷ []

-- an account with a number of points
abbrev pub pointed : ℕ → ℕ → ℕ → List Value
pointed id balance points = int id ∷ int balance ∷ int points ∷ []

-- ---- statements

abbrev pub is_account : ℕ → Condition
is_account id = Compare 0 Eq (side.Literal (int id))

abbrev pub read_all : ℕ → Bound
read_all table = Select (table ∷ []) [] True (Columns (0 ∷ 1 ∷ []))

abbrev pub read_numbers : ℕ → Bound
read_numbers table = Select (table ∷ []) [] True (Columns (0 ∷ []))

abbrev pub read_balance : ℕ → ℕ → Bound
read_balance table id = Select (table ∷ []) [] (is_account id) (Columns (1 ∷ []))

abbrev pub sum_balances : ℕ → Bound
sum_balances table = Select (table ∷ []) [] True (Sum 1)

abbrev pub count_accounts : ℕ → Bound
count_accounts table = Select (table ∷ []) [] True Count

abbrev pub count_over : ℕ → ℕ → Bound
count_over table balance = Select (table ∷ []) [] (Compare 1 Gt (side.Literal (int balance))) Count

abbrev pub count_by_balance : ℕ → Bound
count_by_balance table = Group table True 1 aggregate.Count

-- the sum of the balances of those accounts of table 0 that the second column of the other table's rows names
abbrev pub sum_of_named : ℕ → Bound
sum_of_named table = Select (table ∷ 0 ∷ []) (record { left = 1; right = 2 } ∷ []) True (Sum 3)

abbrev pub insert : ℕ → List Value → Bound
insert table new = Insert table new

abbrev pub set_balance : ℕ → ℕ → ℕ → Bound
set_balance table id balance = Update table (record { column = 1; value = Literal (int balance) } ∷ []) (is_account id)

abbrev pub add_to_balance : ℕ → ℕ → Value → Bound
add_to_balance table id more = Update table (record { column = 1; value = Add (Column 1) (Literal more) } ∷ []) (is_account id)

abbrev pub add_to_all : ℕ → Value → Bound
add_to_all table more = Update table (record { column = 1; value = Add (Column 1) (Literal more) } ∷ []) True

abbrev pub delete : ℕ → ℕ → Bound
delete table id = Delete table (is_account id)

abbrev pub read_points_at : ℕ → ℕ → Bound
read_points_at table balance = Select (table ∷ []) [] (Compare 1 Eq (side.Literal (int balance))) (Columns (2 ∷ []))

abbrev pub set_points : ℕ → ℕ → ℕ → Bound
set_points table id points = Update table (record { column = 2; value = Literal (int points) } ∷ []) (is_account id)

-- ---- statements of savepoints, which all have one name

abbrev pub the_name : List ℕ
the_name = 115 ∷ []

abbrev pub saves : Bound
saves = Savepoint the_name

abbrev pub goes_back : Bound
goes_back = RollbackTo the_name

abbrev pub releases : Bound
releases = Release the_name

-- ---- transactions and scripts

abbrev pub commits : List Bound → Txn
commits statements = record { read_only = false; commits = true; statements = statements }

abbrev pub only_reads : List Bound → Txn
only_reads statements = record { read_only = true; commits = true; statements = statements }

abbrev pub rolls_back : List Bound → Txn
rolls_back statements = record { read_only = false; commits = false; statements = statements }

abbrev pub accounts : Shape
accounts = record { width = 2; key = Some 0 }

abbrev pub pointed_accounts : Shape
pointed_accounts = record { width = 3; key = Some 0 }

-- one table of one chunk with so many positions
abbrev pub one_table : ℕ → List (List Value) → List (List Txn) → Setting
one_table positions first programs = record { chunks = 1; rows = positions; shapes = accounts ∷ []; first = first ∷ []; programs = programs }

-- two tables of one chunk each
abbrev pub two_tables : ℕ → List (List Value) → List (List Value) → List (List Txn) → Setting
two_tables positions first second programs =
    record { chunks = 1; rows = positions; shapes = accounts ∷ accounts ∷ []; first = first ∷ second ∷ []; programs = programs }

-- ---- schedules

-- a session goes on until it has begun, answered or ended
abbrev pub goes : ℕ → Item
goes session = record { session = session; whole = true }

-- ---- outcomes

-- the first transactions of the sessions, and the second one of some
abbrev pub a1 : Label
a1 = record { session = 0; txn = 1 }

abbrev pub a2 : Label
a2 = record { session = 0; txn = 2 }

abbrev pub b1 : Label
b1 = record { session = 1; txn = 1 }

abbrev pub b2 : Label
b2 = record { session = 1; txn = 2 }

abbrev pub c1 : Label
c1 = record { session = 2; txn = 1 }

abbrev pub at : ℕ → ℕ → Place
at table position = record { table = table; pos = position }

abbrev pub change : ℕ → ℕ → Cell → Cell → Change
change table position before after = record { table = table; pos = position; before = before; after = after }

-- what a transaction came to
abbrev pub told : Label → (start : ℕ) → List Reply → Ending → (wrote : List Place) → (placed : List ℕ) → TxnOutcome
told label start replies ending wrote placed =
    record { label = label; start = start; replies = replies; ending = ending; wrote = wrote; placed = placed }

abbrev pub entry : Label → List Change → Entry
entry label changes = record { label = label; changes = changes }

abbrev pub rows : List (List Value) → Reply
rows all = reply.Rows all

abbrev pub balance : ℕ → Reply
balance n = reply.Rows ((int n ∷ []) ∷ [])

abbrev pub total : ℕ → Reply
total n = reply.Value (pos n)

abbrev pub group : ℕ → ℕ → Grouped
group balance count = record { value = int balance; total = pos count }

abbrev pub groups : List Grouped → Reply
groups all = reply.Groups all
