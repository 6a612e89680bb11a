-- What every transaction keeps that runs alone, every outcome keeps.
use Rattle.std.specs.Prelude.{◌≡◌, ℕ, ℤ, ◌≤◌, List, Bool, IsTrue, None, length}
use Rattle.std.specs.List.{AllByRecursion}
use Rattle.hy_bound.specs.declared.Bound.{Bound}
use Rattle.hy_bound.specs.declared.Shape.{Shape}
use Rattle.hy_bound.specs.declared.Txn.{Txn}
use Rattle.hy_meaning.specs.Statement.{Database}
use Rattle.hy_meaning.specs.Serial.{alone_of, database_of}
use Rattle.hy_render.specs.declared.TxnOutcome.{TxnOutcome}
use Rattle.hy_render.specs.declared.Outcome.{Outcome}
use Rattle.hy_machine.specs.declared.Setting.{Setting}
use Rattle.hy_lawful.specs.Databases.{database_at}
use Rattle.hy_lawful.specs.Cells.{bags_at}
use Rattle.hy_lawful.specs.Lawful.{Lawful}
use Rattle.hy_lawful.specs.Serial.{IsSerial}

-- ---- properties

-- a transaction keeps a property of databases: run alone from one that has it, without a stop, it leaves one that has it
abbrev pub Keeps : (Database → Type 0) → List Shape → List Bound → Type 0
Keeps Kept shapes statements = (db : Database) → Kept db → (alone_of shapes statements db).stop ≡ None → Kept (alone_of shapes statements db).database

-- every transaction of a script that closes with COMMIT keeps it
abbrev pub EachKeeps : (Database → Type 0) → Setting → Type 0
EachKeeps Kept setting = AllByRecursion (λ (txns : List Txn).
    AllByRecursion (λ (txn : Txn). IsTrue txn.commits → Keeps Kept setting.shapes txn.statements) txns) setting.programs

-- an outcome keeps a property
pub record IsKept (Kept : Database → Type 0) (setting : Setting) (outcome : Outcome) : Type 0 where
  -- the database at every rank has it
  pub at_ranks : (rank : ℕ) → Kept (database_at setting outcome.order rank)
  -- so have the rows that the printed changes leave there
  pub as_printed : (rank : ℕ) → rank ≤ length outcome.order → Kept (bags_at setting outcome.order rank)
  -- the database at every transaction's start
  pub at_starts : AllByRecursion (λ (txn : TxnOutcome). Kept (database_at setting outcome.order txn.start)) outcome.txns
  -- and the printed tables
  pub at_the_end : Kept outcome.tables

-- where the first rows have a property, and every transaction that may commit keeps it when it runs alone, no interleaving
-- breaks it
abbrev pub StaysKept : (Database → Type 0) → Type 0
StaysKept Kept = (setting : Setting) (outcome : Outcome) → Lawful setting outcome → IsSerial setting outcome → EachKeeps Kept setting
    → Kept (database_of setting.first) → IsKept Kept setting outcome

-- so it is of a property that a test decides
abbrev pub TestsStayTrue : Type 0
TestsStayTrue = (test : Database → Bool) → StaysKept (λ (db : Database). IsTrue (test db))

-- ---- values

-- a value of databases is the same as that of the first rows
abbrev pub IsAsAtFirst : (Database → ℤ) → Setting → Database → Type 0
IsAsAtFirst value setting db = value db ≡ value (database_of setting.first)

-- a transaction leaves the value of a database as it is: run alone, without a stop
abbrev pub LeavesValue : (Database → ℤ) → List Shape → List Bound → Type 0
LeavesValue value shapes statements =
    (db : Database) → (alone_of shapes statements db).stop ≡ None → value (alone_of shapes statements db).database ≡ value db

-- every transaction of a script that closes with COMMIT does
abbrev pub EachLeavesValue : (Database → ℤ) → Setting → Type 0
EachLeavesValue value setting = AllByRecursion (λ (txns : List Txn).
    AllByRecursion (λ (txn : Txn). IsTrue txn.commits → LeavesValue value setting.shapes txn.statements) txns) setting.programs

-- what no transaction that may commit changes when it runs alone, such as a sum of balances, is what it was at first
-- wherever it is seen
abbrev pub ValuesStay : Type 0
ValuesStay = (value : Database → ℤ) (setting : Setting) (outcome : Outcome) → Lawful setting outcome → IsSerial setting outcome
    → EachLeavesValue value setting → IsKept (IsAsAtFirst value setting) setting outcome
