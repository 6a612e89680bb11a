-- How the first rows and the statements of a script came from its bytes.
use Rattle.std.specs.Prelude.{◌≡◌, ℕ, List, ◌++◌, None, map}
use Rattle.std.specs.List.{All, AllZip}
use Rattle.hy_value.specs.declared.Value.{Value}
use Rattle.hy_schema.specs.declared.TableDef.{TableDef}
use Rattle.hy_ast.specs.declared.Literal.{Literal}
use Rattle.hy_ast.specs.Trees.{Statement}
use Rattle.hy_bound.specs.declared.Bound.{Bound}
use Rattle.hy_bound.specs.declared.Txn.{Txn}
use Rattle.hy_bind.specs.Literals.{literal_value}
use Rattle.hy_bind.specs.Statements.{HasNames, values_fault, bind_fault, bound_of}
use Rattle.hy_script.specs.declared.NamedTxns.{NamedTxns}
use Rattle.hy_script.specs.declared.Script.{Script}

-- a first row has the values of an INSERT, which are not refused for its table's columns
pub record WasGiven (script : List ℕ) (def : TableDef) (row : List Value) : Type 0 where
  pub values : List Literal
  pub accepted : values_fault script def.columns values ≡ None
  pub is : row ≡ map (literal_value script) values

-- so were all the first rows of a table
abbrev pub WereGiven : List ℕ → TableDef → List (List Value) → Type 0
WereGiven script def rows = All (WasGiven script def) rows

-- a statement that the engine runs is one of the script's, which is not refused over the tables that stood there
-- by then; these are the first of all its tables
pub record WasBound (script : List ℕ) (catalog : List TableDef) (bound : Bound) : Type 0 where
  pub statement : Statement
  pub earlier : List TableDef
  pub later : List TableDef
  pub tables : catalog ≡ earlier ++ later
  pub names : HasNames statement
  pub accepted : bind_fault script earlier statement ≡ None
  pub is : bound ≡ bound_of script earlier statement

-- so was each statement of some transactions
abbrev pub WereBound : List ℕ → List TableDef → List Txn → Type 0
WereBound script catalog txns = All (λ (txn : Txn). All (WasBound script catalog) txn.statements) txns

-- and so were the first rows and the statements of a script
pub record IsBound (bytes : List ℕ) (script : Script) : Type 0 where
  pub rows : AllZip (WereGiven bytes) script.catalog script.rows
  pub statements : All (λ (session : NamedTxns). WereBound bytes script.catalog session.txns) script.sessions
