-- What a script says, statement by statement.
use Rattle.hy_script.specs.declared.codes.Code.{Code}
use Rattle.std.specs.Prelude.{◌≡◌, ℕ, suc, Bool, true, false, List, [], ◌∷◌, ◌++◌, Option, Some, None, map, slice_set, if◌then◌else◌}
use Rattle.std.specs.Option.{option_map_or}
use Rattle.hy_schema.specs.declared.Column.{Column}
use Rattle.hy_schema.specs.declared.TableDef.{TableDef}
use Rattle.hy_schema.specs.Names.{number_of, table_number}
use Rattle.hy_bound.specs.declared.schedule.Item.{Item}
use Rattle.hy_bound.specs.Savepoints.{saved_after}
use Rattle.hy_ast.specs.declared.ColumnDef.{ColumnDef}
use Rattle.hy_ast.specs.declared.Turn.{Turn}
use Rattle.hy_ast.specs.declared.Literal.{Literal}
use Rattle.hy_ast.specs.Trees.{Statement}
use Rattle.hy_ast.specs.Trees as tree
use Rattle.hy_token.specs.declared.Span.{Span}
use Rattle.hy_bind.specs.Literals.{text_of_span, literal_value}
use Rattle.hy_bind.specs.Statements.{bound_of}
use Rattle.hy_script.specs.declared.Options.{Options}
use Rattle.hy_script.specs.declared.NamedTxns.{NamedTxns}
use Rattle.hy_script.specs.declared.Script.{Script}
use Rattle.hy_script.specs.declared.sofar.Section.{Section}
use Rattle.hy_script.specs.declared.sofar.Section.TheVariants.{Defining, Between, Within, Scheduled}
use Rattle.hy_script.specs.declared.sofar.SoFar.{SoFar}
use Rattle.hy_script.specs.Refusals.{name_in, stock_of}
use Rattle.hy_script.specs.Stocks.{no_rows, with_row}

-- before any statement
abbrev pub nothing : SoFar
nothing = record { catalog = []; stocks = []; names = []; sessions = []; section = Defining; schedule = [] }

-- a new table
abbrev pub column_def : List ℕ → ColumnDef → Column
column_def script column = record { name = name_in script column.name; kind = column.kind }

-- the number of the first column that is a key, the first of them having this number
abbrev pub key_from : ℕ → List ColumnDef → Option ℕ
key_from number [] = None
key_from number (column ∷ columns) = if column.key then Some number else key_from (suc number) columns

abbrev pub table_def : List ℕ → Span → List ColumnDef → TableDef
table_def script table columns = record { name = name_in script table; columns = map (column_def script) columns; key = key_from 0 columns }

abbrev pub with_table : SoFar → TableDef → SoFar
with_table sofar def = record sofar { catalog = sofar.catalog ++ def ∷ []; stocks = sofar.stocks ++ no_rows def.key ∷ [] }

-- a first row more
abbrev pub with_first_row : List ℕ → SoFar → Span → List Literal → SoFar
with_first_row script sofar table values =
    record sofar { stocks = slice_set sofar.stocks (option_map_or (λ number. number) (table_number sofar.catalog (text_of_span script table)) 0) (with_row (stock_of script sofar table) (map (literal_value script) values)) }

-- the sessions, with the one that the script stands in
abbrev pub all_sessions : List NamedTxns → Section → List NamedTxns
all_sessions sessions Defining = sessions
all_sessions sessions (Between session) = sessions ++ session ∷ []
all_sessions sessions (Within session txn) = sessions ++ session ∷ []
all_sessions sessions Scheduled = sessions

abbrev pub with_session : List ℕ → SoFar → Span → SoFar
with_session script sofar name = record sofar {
  names = sofar.names ++ text_of_span script name ∷ [];
  sessions = all_sessions sofar.sessions sofar.section;
  section = Between (record { name = name_in script name; txns = [] });
}

-- BEGIN
abbrev pub begun : Bool → Section → Section
begun read_only (Between session) = Within session (record { read_only = read_only; statements = []; savepoints = [] })
begun read_only section = section

-- a statement more of the open transaction
abbrev pub and_bound : Section → List ℕ → List TableDef → Statement → Section
and_bound (Within session txn) script catalog statement = Within session (record {
  read_only = txn.read_only;
  statements = txn.statements ++ bound_of script catalog statement ∷ [];
  savepoints = saved_after (bound_of script catalog statement) txn.savepoints tt;
})
and_bound section script catalog statement = section

-- COMMIT or ROLLBACK
abbrev pub closed : Bool → Section → Section
closed commits (Within session txn) =
    Between (record { name = session.name; txns = session.txns ++ record { read_only = txn.read_only; statements = txn.statements; commits = commits } ∷ [] })
closed commits section = section

abbrev pub with_statement : List ℕ → SoFar → Statement → SoFar
with_statement script sofar statement = record sofar { section = and_bound sofar.section script sofar.catalog statement }

-- a turn of a schedule
unfoldable pub item_at : List ℕ → List (List ℕ) → Turn → Item
item_at script names turn = record { session = option_map_or (λ number. number) (number_of names (text_of_span script turn.session)) 0; whole = turn.whole }

abbrev pub with_schedule : List ℕ → SoFar → List Turn → SoFar
with_schedule script sofar turns = record sofar {
  sessions = all_sessions sofar.sessions sofar.section;
  section = Scheduled;
  schedule = map (item_at script sofar.names) turns;
}

abbrev pub with_insert : List ℕ → SoFar → Section → Statement → Span → List Literal → SoFar
with_insert script sofar (Within session txn) statement table values = with_statement script sofar statement
with_insert script sofar _ statement table values = with_first_row script sofar table values

-- what a script says after one statement more
abbrev pub after : List ℕ → SoFar → Statement → SoFar
after script sofar (tree.Create table columns) = with_table sofar (table_def script table columns)
after script sofar (tree.Insert table values) = with_insert script sofar sofar.section (tree.Insert table values) table values
after script sofar (tree.Session name) = with_session script sofar name
after script sofar (tree.Begin read_only) = record sofar { section = begun read_only sofar.section }
after script sofar tree.Commit = record sofar { section = closed true sofar.section }
after script sofar tree.Rollback = record sofar { section = closed false sofar.section }
after script sofar (tree.Savepoint name) = with_statement script sofar (tree.Savepoint name)
after script sofar (tree.RollbackTo name) = with_statement script sofar (tree.RollbackTo name)
after script sofar (tree.Release name) = with_statement script sofar (tree.Release name)
after script sofar (tree.Select selection) = with_statement script sofar (tree.Select selection)
after script sofar (tree.Update table sets test) = with_statement script sofar (tree.Update table sets test)
after script sofar (tree.Delete table test) = with_statement script sofar (tree.Delete table test)
after script sofar (tree.Schedule turns) = with_schedule script sofar turns
after script sofar tree.End = sofar

-- the whole script
abbrev pub script_of : Options → SoFar → Script
script_of options sofar = record {
  catalog = sofar.catalog;
  rows = map (λ stock. stock.rows) sofar.stocks;
  sessions = all_sessions sofar.sessions sofar.section;
  schedule = sofar.schedule;
  options = options;
}

-- what a statement comes to: it is taken, or refused
abbrev pub Takes : Option Code → Option Code → SoFar → SoFar → Type 0
Takes None refusal new grown = (refusal ≡ None) × (new ≡ grown)
Takes (Some code) refusal new grown = refusal ≡ Some code
