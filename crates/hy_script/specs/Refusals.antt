-- Why a statement is refused, where all its tokens fit: the first of its causes in their order.
use Rattle.std.specs.Prelude.{◌≡◌, ℕ, suc, ◌*◌, Bool, true, false, not, ◌&&◌, ◌||◌, is_some, is_none, nat_le, nat_lt, List, [], ◌∷◌, Option, Some, None, Result, Ok, Err, length, map, count_by, slice_index_or}
use Rattle.std.specs.Option.{option_map}
use Rattle.hy_value.specs.TextBytes.{text_of}
use Rattle.hy_schema.specs.Names.{number_of, table_number}
use Rattle.hy_schema.specs.declared.TableDef.{TableDef}
use Rattle.hy_ast.specs.declared.ColumnDef.{ColumnDef}
use Rattle.hy_ast.specs.declared.Turn.{Turn}
use Rattle.hy_ast.specs.Trees.{Selection, Statement}
use Rattle.hy_ast.specs.Trees as tree
use Rattle.hy_token.specs.declared.Span.{Span}
use Rattle.hy_ast.specs.declared.Literal.{Literal}
use Rattle.hy_bound.specs.Savepoints.{Saved, newest, saved_after}
use Rattle.hy_bound.specs.declared.Bound.{Bound}
use Rattle.hy_bind.specs.Literals.{text_of_span, literal_value}
use Rattle.hy_bind.specs.Statements.{bind_fault, repeats}
use Rattle.hy_script.specs.declared.Options.{Options}
use Rattle.hy_script.specs.declared.NamedTxns.{NamedTxns}
use Rattle.hy_script.specs.declared.sofar.OpenTxn.{OpenTxn}
use Rattle.hy_script.specs.declared.sofar.Section.{Section}
use Rattle.hy_script.specs.declared.sofar.Section.TheVariants.{Between, Within}
use Rattle.hy_script.specs.declared.sofar.SoFar.{SoFar}
use Rattle.hy_script.specs.declared.judging.Standing.{Standing}
use Rattle.hy_script.specs.declared.judging.StandingRef.{StandingRef}
use Rattle.hy_script.specs.declared.codes.Code.{Code}
use Rattle.hy_script.specs.declared.codes.Code.TheVariants as code
use Rattle.hy_script.specs.Codes.{first_of_two, code_if_so, code_of}
use Rattle.hy_script.specs.declared.stocks.Stock.{Stock}
use Rattle.hy_script.specs.Stocks.{no_rows, key_there}
use Rattle.hy_limits.specs.declared.TheConstants.{MOST_COLUMNS, MOST_ITEMS, MOST_SAVEPOINTS, MOST_SESSIONS, MOST_STATEMENTS, MOST_TABLES, MOST_TXNS}

-- the cause that binding gives
abbrev pub bind_code : List ℕ → List TableDef → Statement → Option Code
bind_code script catalog statement = option_map code_of (bind_fault script catalog statement)

-- a name as a text; a name is a word, and so a text
abbrev pub name_in : List ℕ → Span → List ℕ
name_in script span = text_of (text_of_span script span)

-- CREATE TABLE: no table has the name, no two columns have one, and there is one key at most; it is one of at
-- most 16 tables, with at most 32 columns
abbrev pub is_key : ColumnDef → Bool
is_key column = column.key

abbrev pub create_code : List ℕ → SoFar → Span → List ColumnDef → Option Code
create_code script sofar table columns =
    first_of_two (code_if_so (is_some (table_number sofar.catalog (name_in script table)) || repeats (map (text_of_span script) (map (λ column. column.name) columns)) || nat_lt 1 (count_by is_key columns)) code.Twice)
    (code_if_so (nat_le MOST_TABLES (length sofar.catalog) || nat_lt MOST_COLUMNS (length columns)) code.Limit)

-- the first rows of the table of this name
abbrev pub stock_at : Option ℕ → List Stock → Stock
stock_at None stocks = no_rows None
stock_at (Some number) stocks = slice_index_or stocks number (no_rows None)

abbrev pub stock_of : List ℕ → SoFar → Span → Stock
stock_of script sofar table = stock_at (table_number sofar.catalog (text_of_span script table)) sofar.stocks

-- a first row: there is room, and no earlier one has its key
abbrev pub first_row_code : List ℕ → Options → SoFar → Statement → Span → List Literal → Option Code
first_row_code script options sofar statement table values =
    first_of_two (bind_code script sofar.catalog statement)
    (first_of_two (code_if_so (nat_le (options.chunks * options.rows) (length (stock_of script sofar table).rows)) code.Limit)
    (code_if_so (key_there (stock_of script sofar table) (map (literal_value script) values)) code.KeyTwice))

-- SESSION: no session has the name, and it is one of at most 64
abbrev pub session_code : List ℕ → SoFar → Span → Option Code
session_code script sofar name =
    first_of_two (code_if_so (is_some (number_of sofar.names (text_of_span script name))) code.Twice) (code_if_so (nat_le MOST_SESSIONS (length sofar.names)) code.Limit)

-- BEGIN: the session has less than 65,535 transactions
abbrev pub begin_code : NamedTxns → Option Code
begin_code session = code_if_so (nat_le MOST_TXNS (length session.txns)) code.Limit

abbrev pub writes_in : Statement → Bool
writes_in (tree.Insert table values) = true
writes_in (tree.Update table sets test) = true
writes_in (tree.Delete table test) = true
writes_in _ = false

abbrev pub groups_in : Statement → Bool
groups_in (tree.Select (tree.Groups column total table test key)) = true
groups_in _ = false

-- a statement where these savepoints are open: SAVEPOINT makes one of at most 16, and of the name of ROLLBACK TO or RELEASE
-- one is open
abbrev pub savepoint_code : List ℕ → List (Saved (Unit {0})) → Statement → Option Code
savepoint_code script saved (tree.Savepoint name) = code_if_so (nat_le MOST_SAVEPOINTS (length saved)) code.Limit
savepoint_code script saved (tree.RollbackTo name) = code_if_so (is_none (newest (name_in script name) saved)) code.UnknownSavepoint
savepoint_code script saved (tree.Release name) = code_if_so (is_none (newest (name_in script name) saved)) code.UnknownSavepoint
savepoint_code script saved _ = None

-- what a statement of an open transaction is judged by, beside the tables
abbrev pub standing_of : OpenTxn → Standing
standing_of txn = record { read_only = txn.read_only; statements = length txn.statements; savepoints = txn.savepoints }

-- that of a transaction without statements, and that with a statement more
abbrev pub no_statements : Bool → Standing
no_statements read_only = record { read_only = read_only; statements = 0; savepoints = [] }

abbrev pub with_bound : Standing → Bound → Standing
with_bound standing bound = record {
  read_only = standing.read_only;
  statements = suc standing.statements;
  savepoints = saved_after bound standing.savepoints tt;
}

-- what one says that the program lends
abbrev pub lent : StandingRef → Standing
lent standing = record { read_only = standing.read_only; statements = standing.statements; savepoints = standing.savepoints.now }

-- a statement in a transaction, whatever its tables are: it names savepoints that are open, a READ ONLY one doesn't write,
-- GROUP BY stands in a READ ONLY one, and it is one of at most 256
abbrev pub txn_code : List ℕ → Standing → Statement → Option Code
txn_code script standing statement =
    first_of_two (savepoint_code script standing.savepoints statement)
    (first_of_two (code_if_so (standing.read_only && writes_in statement) code.ReadOnly)
    (first_of_two (code_if_so (not standing.read_only && groups_in statement) code.GroupInWriter)
    (code_if_so (nat_le MOST_STATEMENTS standing.statements) code.Limit)))

-- a statement of a transaction, over these tables
abbrev pub statement_code : List ℕ → List TableDef → Standing → Statement → Option Code
statement_code script catalog standing statement = first_of_two (bind_code script catalog statement) (txn_code script standing statement)

-- what judging a statement answers, where this is the first of its causes to be refused, if it has one, and this what it
-- says with its names resolved
abbrev pub Judges : Result Bound Code → Option Code → Bound → Type 0
Judges (Ok bound) cause said = (cause ≡ None) × (bound ≡ said)
Judges (Err code) cause said = cause ≡ Some code

-- SCHEDULE: it names sessions, in at most 1,000,000 turns
unfoldable pub is_unknown_in : List ℕ → List (List ℕ) → Turn → Bool
is_unknown_in script names turn = not (is_some (number_of names (text_of_span script turn.session)))

abbrev pub any_unknown_in : List ℕ → List (List ℕ) → List Turn → Bool
any_unknown_in script names [] = false
any_unknown_in script names (turn ∷ turns) = is_unknown_in script names turn || any_unknown_in script names turns

abbrev pub schedule_code : List ℕ → SoFar → List Turn → Option Code
schedule_code script sofar turns =
    first_of_two (code_if_so (any_unknown_in script sofar.names turns) code.UnknownSession) (code_if_so (nat_lt MOST_ITEMS (length turns)) code.Limit)

-- by where the script stands; a statement that may not stand there is refused before
abbrev pub statement_code_at : List ℕ → SoFar → Section → Statement → Option Code
statement_code_at script sofar (Within session txn) statement = statement_code script sofar.catalog (standing_of txn) statement
statement_code_at script sofar _ statement = None

abbrev pub insert_code_at : List ℕ → Options → SoFar → Section → Statement → Span → List Literal → Option Code
insert_code_at script options sofar (Within session txn) statement table values = statement_code script sofar.catalog (standing_of txn) statement
insert_code_at script options sofar _ statement table values = first_row_code script options sofar statement table values

abbrev pub begin_code_at : Section → Option Code
begin_code_at (Between session) = begin_code session
begin_code_at _ = None

abbrev pub refusal_in : List ℕ → Options → SoFar → Statement → Option Code
refusal_in script options sofar (tree.Create table columns) = create_code script sofar table columns
refusal_in script options sofar (tree.Insert table values) = insert_code_at script options sofar sofar.section (tree.Insert table values) table values
refusal_in script options sofar (tree.Session name) = session_code script sofar name
refusal_in script options sofar (tree.Begin read_only) = begin_code_at sofar.section
refusal_in script options sofar tree.Commit = None
refusal_in script options sofar tree.Rollback = None
refusal_in script options sofar (tree.Savepoint name) = statement_code_at script sofar sofar.section (tree.Savepoint name)
refusal_in script options sofar (tree.RollbackTo name) = statement_code_at script sofar sofar.section (tree.RollbackTo name)
refusal_in script options sofar (tree.Release name) = statement_code_at script sofar sofar.section (tree.Release name)
refusal_in script options sofar (tree.Select selection) = statement_code_at script sofar sofar.section (tree.Select selection)
refusal_in script options sofar (tree.Update table sets test) = statement_code_at script sofar sofar.section (tree.Update table sets test)
refusal_in script options sofar (tree.Delete table test) = statement_code_at script sofar sofar.section (tree.Delete table test)
refusal_in script options sofar (tree.Schedule turns) = schedule_code script sofar turns
refusal_in script options sofar tree.End = None
