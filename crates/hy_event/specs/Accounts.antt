-- One table of accounts, statements on it, and chunks of it, of which the worked rows are made.
use Rattle.std.specs.Prelude.{ℕ, List, [], ◌∷◌, true, false, None, Some, pos}
use Rattle.hy_value.specs.declared.Cmp.TheVariants.{Eq}
use Rattle.hy_value.specs.declared.Value.{Value}
use Rattle.hy_value.specs.declared.Value.TheVariants.{Null, Int}
use Rattle.hy_stamp.specs.declared.Label.{Label}
use Rattle.hy_stamp.specs.Times.{id_of}
use Rattle.hy_bound.specs.declared.Aggregate.TheVariants as aggregate
use Rattle.hy_bound.specs.declared.Bound.{Bound}
use Rattle.hy_bound.specs.declared.Bound.TheVariants.{Select, Group, Insert, Update, Delete}
use Rattle.hy_bound.specs.declared.Items.TheVariants.{Columns, Count}
use Rattle.hy_bound.specs.declared.predicate.Side.TheVariants.{Literal}
use Rattle.hy_bound.specs.declared.Record.{Record}
use Rattle.hy_bound.specs.declared.Shape.{Shape}
use Rattle.hy_bound.specs.declared.Txn.{Txn}
use Rattle.hy_bound.specs.Condition.{Condition, True, Compare}
use Rattle.hy_bound.specs.Expression.{Literal as SetTo}
use Rattle.hy_bound.specs.Projection.{projected}
use Rattle.hy_plan.specs.ColumnSets.{named_columns}
use Rattle.hy_undo.specs.Images.{Image}
use Rattle.hy_undo.specs.Places.{Place}
use Rattle.hy_undo.specs.Chunks.{ChunkData}

-- ---- accounts

abbrev pub number : ℕ → Value
number n = Int (pos n)

-- an account and its balance
abbrev pub account : ℕ → ℕ → List Value
account id balance = number id ∷ number balance ∷ []

-- the account is the key
abbrev pub accounts : List Shape
accounts = record { width = 2; key = Some 0 } ∷ []

abbrev pub is_account : ℕ → Condition
is_account id = Compare 0 Eq (Literal (number id))

-- ---- statements

-- how many accounts there are
abbrev pub counting : Bound
counting = Select (0 ∷ []) [] True Count

-- the owners of accounts, of a second table, with the balances of their accounts, which are looked up by their key
abbrev pub joining : Bound
joining = Select (1 ∷ 0 ∷ []) (record { left = 0; right = 2 } ∷ []) True (Columns (1 ∷ 3 ∷ []))

-- account 2 gets the balance 90
abbrev pub paying : Bound
paying = Update 0 (record { column = 1; value = SetTo (number 90) } ∷ []) (is_account 2)

-- account 2 goes
abbrev pub closing : Bound
closing = Delete 0 (is_account 2)

-- how many accounts there are for each balance
abbrev pub grouping : Bound
grouping = Group 0 True 1 aggregate.Count

-- an account comes
abbrev pub opening : ℕ → Bound
opening id = Insert 0 (account id 100)

-- the record of a first statement that reads the rows of this condition, and of these the columns that it names
abbrev pub logged : Condition → List ℕ → Record
logged pred named = record { statement = 1; table = 0; pred = pred; columns = named_columns 0 2 named }

-- what a count keeps of a row that it gathers: no column
abbrev pub kept_by_count : List Value → List Value
kept_by_count row = projected (named_columns 0 2 []) row

-- a transaction of these statements that commits, and one that rolls back
abbrev pub committing : List Bound → Txn
committing statements = record { read_only = false; statements = statements; commits = true }

abbrev pub rolling_back : List Bound → Txn
rolling_back statements = record { read_only = false; statements = statements; commits = false }

-- ---- chunks: of one position each

-- the first transactions of the sessions 0 and 1
abbrev pub first : Label
first = record { session = 0; txn = 1 }

abbrev pub other : Label
other = record { session = 1; txn = 1 }

abbrev pub chunk_of : ℕ → Place → ChunkData
chunk_of first place = record { table = 0; first = first; width = 2; key = Some 0; places = place ∷ [] }

-- a position with a row that all see
abbrev pub with_row : List Value → Place
with_row row = record { version = record { row = row; live = true }; used = true; death = 0; chain = [] }

-- the same with a record behind it that is older than every start
abbrev pub with_old_record : List Value → Place
with_old_record row =
    record (with_row row) { chain = record { stamp = record { owner = other; mark = 0 }; image = record { values = None ∷ None ∷ []; live = false } } ∷ [] }

-- a position that was never used
abbrev pub unused : Place
unused = record { version = record { row = Null ∷ Null ∷ []; live = false }; used = false; death = 0; chain = [] }

-- a before-image: the balance was 100
abbrev pub was_100 : Image
was_100 = record { values = None ∷ Some (number 100) ∷ []; live = true }

-- account 2 with the balance 90 in place, and before that 100: a write with this mark
abbrev pub with_paid : ℕ → Place
with_paid mark = record {
  version = record { row = account 2 90; live = true };
  used = true;
  death = 0;
  chain = record { stamp = record { owner = first; mark = mark }; image = was_100 } ∷ [];
}

-- account 2 is gone, and was there before
abbrev pub with_gone : Place
with_gone = record {
  version = record { row = account 2 100; live = false };
  used = true;
  death = 0;
  chain = record { stamp = record { owner = first; mark = id_of first }; image = record { values = None ∷ None ∷ []; live = true } } ∷ [];
}

-- account 2 in place where no row was
abbrev pub with_new : Place
with_new = record {
  version = record { row = account 2 100; live = true };
  used = true;
  death = 0;
  chain = record { stamp = record { owner = first; mark = id_of first }; image = record { values = None ∷ None ∷ []; live = false } } ∷ [];
}
