-- A statement that is not refused has none of the causes.
use Rattle.std.specs.Prelude.{nat_le, not, ◌*◌, ◌&&◌}
use Rattle.std.specs.Option.{option_map}
use Rattle.std.proofs.Common.{◌≡◌, ℕ, ◌<◌, ◌≤◌, Bool, true, false, cond, List, Option, Some, None, length, map, refl}
use Rattle.std.proofs.lemmas.Bool.{leb-false, ltb-false, or_parts}
use Rattle.hy_bind.specs.declared.refusals.BindFault.{BindFault}
use Rattle.hy_token.specs.declared.Span.{Span}
use Rattle.hy_ast.specs.declared.ColumnDef.{ColumnDef}
use Rattle.hy_ast.specs.declared.Literal.{Literal}
use Rattle.hy_ast.specs.declared.Turn.{Turn}
use Rattle.hy_ast.specs.Trees.{Statement}
use Rattle.hy_schema.specs.declared.TableDef.{TableDef}
use Rattle.hy_bind.specs.Literals.{literal_value}
use Rattle.hy_bind.specs.Statements.{bind_fault}
use Rattle.hy_script.specs.declared.Options.{Options}
use Rattle.hy_script.specs.declared.NamedTxns.{NamedTxns}
use Rattle.hy_script.specs.declared.codes.Code.{Code}
use Rattle.hy_script.specs.declared.codes.Code.TheVariants as code
use Rattle.hy_script.specs.declared.sofar.SoFar.{SoFar}
use Rattle.hy_script.specs.declared.judging.Standing.{Standing}
use Rattle.hy_script.specs.Codes.{rank, first_of_two, code_if_so, code_of}
use Rattle.hy_script.specs.Refusals.{create_code, first_row_code, session_code, begin_code, savepoint_code, txn_code, statement_code, schedule_code, any_unknown_in, stock_of, writes_in, groups_in}
use Rattle.hy_script.specs.Stocks.{key_there}
use Rattle.hy_limits.specs.declared.TheConstants.{MOST_ITEMS, MOST_SESSIONS, MOST_STATEMENTS, MOST_TXNS}

never : (b : Bool) (x y : Code) → cond b (Some x) (Some y) ≡ None → ⊥
never true x y h = absurd cc
never false x y h = absurd cc

neither : (one other : Option Code) → first_of_two one other ≡ None → (one ≡ None) × (other ≡ None)
neither None other h = (refl, h)
neither (Some x) None h = absurd cc
neither (Some x) (Some y) h = absurd (never (nat_le (rank x) (rank y)) x y h)

unless : (so : Bool) (x : Code) (other : Option Code) → cond so (Some x) other ≡ None → (so ≡ false) × (other ≡ None)
unless true x other h = absurd cc
unless false x other h = (refl, h)

pub not_so : (so : Bool) (x : Code) → code_if_so so x ≡ None → so ≡ false
not_so so x h = (unless so x None h).0

without_fault : (fault : Option BindFault) → option_map code_of fault ≡ None → fault ≡ None
without_fault None h = refl
without_fault (Some f) h = absurd cc

-- a table more
pub table_taken : (script : List ℕ) (sofar : SoFar) (table : Span) (columns : List ColumnDef) → create_code script sofar table columns ≡ None → (length sofar.catalog < 16) × (length columns ≤ 32)
table_taken script sofar table columns h =
    let many = or_parts _ _ (not_so _ _ (neither _ _ h).1) in
    (leb-false 16 (length sofar.catalog) many.0, ltb-false 32 (length columns) many.1)

-- a first row more
pub record IsFirstRow (script : List ℕ) (options : Options) (sofar : SoFar) (s : Statement) (table : Span) (values : List Literal) : Type 0 where
  pub bound : bind_fault script sofar.catalog s ≡ None
  pub room : length (stock_of script sofar table).rows < options.chunks * options.rows
  pub own_key : key_there (stock_of script sofar table) (map (literal_value script) values) ≡ false

pub row_taken : (script : List ℕ) (options : Options) (sofar : SoFar) (s : Statement) (table : Span) (values : List Literal) → first_row_code script options sofar s table values ≡ None
    → IsFirstRow script options sofar s table values
row_taken script options sofar s table values h =
    let parts = neither _ _ h in
    let others = neither _ _ parts.1 in
    record {
      bound = without_fault (bind_fault script sofar.catalog s) parts.0;
      room = leb-false (options.chunks * options.rows) _ (not_so _ _ others.0);
      own_key = not_so _ _ others.1;
    }

-- a session more
pub session_taken : (script : List ℕ) (sofar : SoFar) (name : Span) → session_code script sofar name ≡ None → length sofar.names < MOST_SESSIONS
session_taken script sofar name h = leb-false MOST_SESSIONS (length sofar.names) (not_so _ _ (neither _ _ h).1)

-- a transaction more
pub begin_taken : (session : NamedTxns) → begin_code session ≡ None → length session.txns < MOST_TXNS
begin_taken session h = leb-false MOST_TXNS (length session.txns) (not_so _ _ h)

-- where none of four causes is there, each of them isn't
none_of_four : (first second third fourth : Option Code) → first_of_two first (first_of_two second (first_of_two third fourth)) ≡ None
    → (first ≡ None) × ((second ≡ None) × ((third ≡ None) × (fourth ≡ None)))
none_of_four first second third fourth h =
    let others = neither first (first_of_two second (first_of_two third fourth)) h in
    let last = neither second (first_of_two third fourth) others.1 in
    (others.0, (last.0, neither third fourth last.1))

-- a statement that may stand in a transaction, whatever its tables are
pub record IsPlaced (script : List ℕ) (standing : Standing) (s : Statement) : Type 0 where
  pub saved_there : savepoint_code script standing.savepoints s ≡ None
  pub writes_there : (standing.read_only && writes_in s) ≡ false
  pub groups_there : (not standing.read_only && groups_in s) ≡ false
  pub room : standing.statements < MOST_STATEMENTS

pub txn_taken : (script : List ℕ) (standing : Standing) (s : Statement) → txn_code script standing s ≡ None → IsPlaced script standing s
txn_taken script standing s h =
    let writes = standing.read_only && writes_in s in
    let groups = not standing.read_only && groups_in s in
    let full = nat_le MOST_STATEMENTS standing.statements in
    let none = none_of_four (savepoint_code script standing.savepoints s) (code_if_so writes code.ReadOnly) (code_if_so groups code.GroupInWriter) (code_if_so full code.Limit) h in
    record {
      saved_there = none.0;
      writes_there = not_so writes code.ReadOnly none.1.0;
      groups_there = not_so groups code.GroupInWriter none.1.1.0;
      room = leb-false MOST_STATEMENTS standing.statements (not_so full code.Limit none.1.1.1);
    }

-- there is room for it
pub has_room : (script : List ℕ) (standing : Standing) (s : Statement) → txn_code script standing s ≡ None → standing.statements < MOST_STATEMENTS
has_room script standing s h = (txn_taken script standing s h).room

-- a statement of a transaction more
pub record IsTaken (script : List ℕ) (catalog : List TableDef) (standing : Standing) (s : Statement) : Type 0 where
  pub bound : bind_fault script catalog s ≡ None
  pub saved_there : savepoint_code script standing.savepoints s ≡ None
  pub writes_there : (standing.read_only && writes_in s) ≡ false
  pub groups_there : (not standing.read_only && groups_in s) ≡ false
  pub room : standing.statements < MOST_STATEMENTS

pub statement_taken : (script : List ℕ) (catalog : List TableDef) (standing : Standing) (s : Statement) → statement_code script catalog standing s ≡ None → IsTaken script catalog standing s
statement_taken script catalog standing s h =
    let parts = neither (option_map code_of (bind_fault script catalog s)) (txn_code script standing s) h in
    let placed = txn_taken script standing s parts.1 in
    record {
      bound = without_fault (bind_fault script catalog s) parts.0;
      saved_there = placed.saved_there;
      writes_there = placed.writes_there;
      groups_there = placed.groups_there;
      room = placed.room;
    }

-- a schedule
pub schedule_taken : (script : List ℕ) (sofar : SoFar) (turns : List Turn) → schedule_code script sofar turns ≡ None
    → (any_unknown_in script sofar.names turns ≡ false) × (length turns ≤ MOST_ITEMS)
schedule_taken script sofar turns h =
    let parts = neither _ _ h in
    (not_so _ _ parts.0, ltb-false MOST_ITEMS (length turns) (not_so _ _ parts.1))
