-- The bank of the scripts that are made: which transactions are its own, and what they keep.
use Rattle.std.specs.Prelude.{◌≡◌, ◌≢◌, ℕ, ◌≤◌, pos, List, [], ◌∷◌, None}
use Rattle.std.specs.List.{AllByRecursion}
use Rattle.hy_bound.specs.declared.Bound.{Bound}
use Rattle.hy_bound.specs.declared.Shape.{Shape}
use Rattle.hy_bound.specs.declared.Txn.{Txn}
use Rattle.hy_bound.specs.declared.Reply.TheVariants as reply
use Rattle.hy_bind.specs.Shapes.{catalog_shapes}
use Rattle.hy_meaning.specs.Statement.{Database}
use Rattle.hy_meaning.specs.Serial.{alone_of, serial, database_of}
use Rattle.hy_render.specs.Summary.{balances}
use Rattle.hy_script.specs.declared.NamedTxns.{NamedTxns}
use Rattle.hy_script.specs.declared.Script.{Script}
use Rattle.hy_gen.specs.declared.transactions.Transfer.{Transfer}
use Rattle.hy_gen.specs.Transactions.{audit, transfer}

-- ---- which transactions are the bank's

-- there are accounts 1 to 64
abbrev pub IsAccount : ℕ → Type 0
IsAccount account = (1 ≤ account) × (account ≤ 64)

-- the statements of an audit, or of a transfer between two accounts that are there and differ
pub data IsOfBank : List Bound → Type 0 where
  audits : IsOfBank audit.statements
  transfers : (parts : Transfer) → IsAccount parts.source → IsAccount parts.target → parts.source ≢ parts.target
      → IsOfBank (transfer parts).statements

-- each transaction of each session is the bank's
abbrev pub AreOfBank : Script → Type 0
AreOfBank script = AllByRecursion (λ (session : NamedTxns). AllByRecursion (λ (txn : Txn). IsOfBank txn.statements) session.txns) script.sessions

-- ---- what they keep

-- of transactions that run alone, one after another from a database on, none stops
abbrev pub NoneStops : List Shape → List (List Bound) → Database → Type 0
NoneStops shapes [] db = Unit {0}
NoneStops shapes (statements ∷ others) db =
    ((alone_of shapes statements db).stop ≡ None) × NoneStops shapes others (alone_of shapes statements db).database

-- the database that transactions leave, one after another from the first rows of a script on
abbrev pub left_by : Script → List (List Bound) → Database
left_by script orders = serial (catalog_shapes script.catalog) orders (database_of script.rows)

-- transactions of the bank that run one after another from the first rows of a script on, none of which stops
pub record RunInTurn (script : Script) (orders : List (List Bound)) : Type 0 where
  pub of_bank : AllByRecursion IsOfBank orders
  pub none_stops : NoneStops (catalog_shapes script.catalog) orders (database_of script.rows)

-- all that the bank has: 64 accounts of 1000 each
abbrev pub all_money : ℕ
all_money = 64000

-- whatever transactions of the bank have run, in whatever order, the balances come to the same sum
abbrev pub KeepsMoney : Script → Type 0
KeepsMoney script = (orders : List (List Bound)) → RunInTurn script orders → balances (left_by script orders) ≡ pos all_money

-- and an audit that runs alone then tells this sum
abbrev pub AuditsAgree : Script → Type 0
AuditsAgree script = (orders : List (List Bound)) → RunInTurn script orders
    → (alone_of (catalog_shapes script.catalog) audit.statements (left_by script orders)).replies ≡ reply.Value (pos all_money) ∷ []
