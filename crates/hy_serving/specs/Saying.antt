-- What a line says, and what the lines have come to with it.
use Rattle.std.specs.Prelude.{ℕ, ◌+◌, ◌<◌, Bool, true, false, ◌==◌, is_some, nat_le, List, [], ◌∷◌, ◌++◌, length, map, slice_index_or, slice_set, Option, Some, None, IfSome, Result, Ok, Err, if◌then◌else◌}
use Rattle.std.specs.Option.{option_map}
use Rattle.std.specs.Str.{is_utf8}
use Rattle.hy_value.specs.declared.Value.{Value}
use Rattle.hy_token.specs.declared.Span.{Span}
use Rattle.hy_token.specs.Token.{token_at}
use Rattle.hy_ast.specs.declared.ColumnDef.{ColumnDef}
use Rattle.hy_ast.specs.declared.Literal.{Literal}
use Rattle.hy_ast.specs.Trees.{Statement}
use Rattle.hy_ast.specs.Trees as tree
use Rattle.hy_bound.specs.declared.Bound.{Bound}
use Rattle.hy_bind.specs.Statements.{bound_of}
use Rattle.hy_schema.specs.Names.{number_of}
use Rattle.hy_script.specs.declared.Options.{Options}
use Rattle.hy_script.specs.declared.codes.Code.{Code}
use Rattle.hy_script.specs.declared.codes.Code.TheVariants as code
use Rattle.hy_script.specs.declared.judging.Standing.{Standing}
use Rattle.hy_script.specs.Refusals.{name_in, create_code, first_row_code, no_statements, statement_code, with_bound}
use Rattle.hy_script.specs.Growing.{nothing, table_def, with_table, with_first_row}
use Rattle.hy_serving.specs.declared.Cause.{Cause}
use Rattle.hy_serving.specs.declared.Cause.TheVariants.{Script, IsOpen, NoneOpen}
use Rattle.hy_serving.specs.declared.Desk.{Desk}
use Rattle.hy_serving.specs.declared.Place.{Place}
use Rattle.hy_serving.specs.declared.Saying.{Saying}
use Rattle.hy_serving.specs.declared.Saying.TheVariants.{Nothing, Ends, Defines, Begins, Says, Closes, Refused}
use Rattle.hy_serving.specs.declared.lines.Heading.{Heading}
use Rattle.hy_serving.specs.declared.lines.Heading.TheVariants as heading
use Rattle.hy_serving.specs.declared.lines.Words.TheVariants as words
use Rattle.hy_serving.specs.Lines.{heading_of, one_statement}
use Rattle.hy_limits.specs.declared.TheConstants.{MOST_SESSIONS, MOST_STATEMENTS, MOST_TXNS}

-- ---- the desk: what the lines so far have come to

-- before the first line
abbrev pub fresh : Desk
fresh = record { sofar = nothing; places = [] }

-- a session that has begun nothing
abbrev pub no_txns : Place
no_txns = record { txns = 0; standing = None }

-- what is known of the session of a number
abbrev pub place_at : Desk → ℕ → Place
place_at desk number = slice_index_or desk.places number no_txns

abbrev pub with_place : Desk → ℕ → Place → Desk
with_place desk number place = record desk { places = slice_set desk.places number place }

-- its open transaction comes to this, or is none
abbrev pub with_standing : Desk → ℕ → Option Standing → Desk
with_standing desk number standing = with_place desk number (record { txns = (place_at desk number).txns; standing = standing })

-- its open transaction has a statement more, for which there is room
abbrev pub HasRoom : Place → Type 0
HasRoom place = IfSome place.standing (λ standing. standing.statements < MOST_STATEMENTS)

abbrev pub with_statement : Place → Bound → Place
with_statement place bound = record { txns = place.txns; standing = option_map (λ standing. with_bound standing bound) place.standing }

-- its open transaction has ended
abbrev pub ended : ℕ → Desk → Desk
ended number desk = with_standing desk number None

-- it has begun a transaction more
abbrev pub begun_in : Desk → ℕ → Bool → Desk
begun_in desk number read_only =
    with_place desk number (record { txns = (place_at desk number).txns + 1; standing = Some (no_statements read_only) })

-- a session more, in its first transaction
abbrev pub with_session : Desk → List ℕ → Bool → Desk
with_session desk name read_only = record {
  sofar = record desk.sofar { names = desk.sofar.names ++ name ∷ [] };
  places = desk.places ++ record { txns = 1; standing = Some (no_statements read_only) } ∷ [];
}

-- the first rows of all tables, and the desk without them
abbrev pub first_rows : Desk → List (List (List Value))
first_rows desk = map (λ stock. stock.rows) desk.sofar.stocks

abbrev pub without_rows : Desk → Desk
without_rows desk = record desk { sofar = record desk.sofar { stocks = [] } }

-- ---- refusals, which change nothing

abbrev pub refuses : Desk → Option (List ℕ) → Cause → Saying × Desk
refuses desk name cause = (Refused name cause, desk)

abbrev pub unless_refused : Desk → Option (List ℕ) → Option Cause → Saying × Desk → Saying × Desk
unless_refused desk name None done = done
unless_refused desk name (Some cause) done = refuses desk name cause

-- ---- lines without a name

-- CREATE TABLE
abbrev pub creates : Desk → List ℕ → Span → List ColumnDef → Saying × Desk
creates desk line table columns =
    unless_refused desk None (option_map Script (create_code line desk.sofar table columns))
    (Defines, record desk { sofar = with_table desk.sofar (table_def line table columns) })

-- INSERT of a first row
abbrev pub gives : Options → Desk → List ℕ → Statement → Span → List Literal → Saying × Desk
gives options desk line statement table values =
    unless_refused desk None (option_map Script (first_row_code line options desk.sofar statement table values))
    (Defines, record desk { sofar = with_first_row line desk.sofar table values })

abbrev pub defines : Options → Desk → List ℕ → Statement → Saying × Desk
defines options desk line (tree.Create table columns) = creates desk line table columns
defines options desk line (tree.Insert table values) = gives options desk line (tree.Insert table values) table values
defines options desk line tree.End = (Ends, desk)
defines options desk line _ = refuses desk None (Script code.Syntax)

abbrev pub defines_if_one : Options → Desk → List ℕ → Result Statement Code → Saying × Desk
defines_if_one options desk line (Ok statement) = defines options desk line statement
defines_if_one options desk line (Err cause) = refuses desk None (Script cause)

-- once there is a session no line defines
abbrev pub ends : Statement → Saying
ends tree.End = Ends
ends _ = Refused None (Script code.Syntax)

abbrev pub ends_if_one : Result Statement Code → Saying
ends_if_one (Ok statement) = ends statement
ends_if_one (Err cause) = Refused None (Script cause)

abbrev pub heard_bare : Options → Desk → List ℕ → Saying × Desk
heard_bare options desk line =
    if length desk.sofar.names == 0 then defines_if_one options desk line (one_statement words.Defining line 0)
    else (ends_if_one (one_statement words.Ending line 0), desk)

-- ---- lines of a session

-- BEGIN in a session that there is: none of its transactions is open, and it has begun less than 65,535
abbrev pub begin_cause : Place → Option Cause
begin_cause place = if is_some place.standing then Some IsOpen else (if nat_le MOST_TXNS place.txns then Some (Script code.Limit) else None)

abbrev pub begins_again : Desk → List ℕ → Bool → ℕ → Saying × Desk
begins_again desk name read_only number =
    unless_refused desk (Some name) (begin_cause (place_at desk number)) (Begins number read_only None, begun_in desk number read_only)

-- BEGIN in a session that is new: it is one of at most 64, and has the next number
abbrev pub begins_first : Desk → List ℕ → Bool → Saying × Desk
begins_first desk name read_only =
    if nat_le MOST_SESSIONS (length desk.sofar.names) then refuses desk (Some name) (Script code.Limit)
    else (Begins (length desk.sofar.names) read_only (Some name), with_session desk name read_only)

abbrev pub begins : Desk → List ℕ → Bool → Option ℕ → Saying × Desk
begins desk name read_only (Some number) = begins_again desk name read_only number
begins desk name read_only None = begins_first desk name read_only

-- COMMIT or ROLLBACK
abbrev pub closes : Desk → List ℕ → Bool → Option ℕ → Saying × Desk
closes desk name commits (Some number) =
    if is_some (place_at desk number).standing then (Closes number commits, ended number desk) else refuses desk (Some name) NoneOpen
closes desk name commits None = refuses desk (Some name) NoneOpen

-- a statement of a transaction, which is judged as in scripts
abbrev pub says_at : Desk → List ℕ → List ℕ → ℕ → Statement → Option Standing → Saying × Desk
says_at desk line name number statement None = refuses desk (Some name) NoneOpen
says_at desk line name number statement (Some standing) =
    unless_refused desk (Some name) (option_map Script (statement_code line desk.sofar.catalog standing statement))
    (Says number (bound_of line desk.sofar.catalog statement), with_standing desk number (Some (with_bound standing (bound_of line desk.sofar.catalog statement))))

abbrev pub says_of : Desk → List ℕ → List ℕ → Statement → Option ℕ → Saying × Desk
says_of desk line name statement (Some number) = says_at desk line name number statement (place_at desk number).standing
says_of desk line name statement None = refuses desk (Some name) NoneOpen

abbrev pub says : Desk → List ℕ → List ℕ → Statement → Saying × Desk
says desk line name (tree.Begin read_only) = begins desk name read_only (number_of desk.sofar.names name)
says desk line name tree.Commit = closes desk name true (number_of desk.sofar.names name)
says desk line name tree.Rollback = closes desk name false (number_of desk.sofar.names name)
says desk line name (tree.Create table columns) = refuses desk (Some name) (Script code.Syntax)
says desk line name (tree.Session other) = refuses desk (Some name) (Script code.Syntax)
says desk line name (tree.Schedule turns) = refuses desk (Some name) (Script code.Syntax)
says desk line name tree.End = refuses desk (Some name) (Script code.Syntax)
says desk line name statement = says_of desk line name statement (number_of desk.sofar.names name)

abbrev pub says_if_one : Desk → List ℕ → List ℕ → Result Statement Code → Saying × Desk
says_if_one desk line name (Ok statement) = says desk line name statement
says_if_one desk line name (Err cause) = refuses desk (Some name) (Script cause)

-- the statement stands behind the colon that is right behind the name
abbrev pub heard_named : Desk → List ℕ → Span → Saying × Desk
heard_named desk line span = says_if_one desk line (name_in line span) (one_statement words.Session line (span.end + 1))

-- ---- a line

abbrev pub heard_at : Options → Desk → List ℕ → Heading → Saying × Desk
heard_at options desk line heading.Blank = (Nothing, desk)
heard_at options desk line heading.Bad = refuses desk None (Script code.BadToken)
heard_at options desk line heading.Bare = heard_bare options desk line
heard_at options desk line (heading.Named span) = heard_named desk line span

-- what a line says, and what the lines have come to with it; one that isn't UTF-8 names no session
abbrev pub heard : Options → Desk → List ℕ → Saying × Desk
heard options desk line =
    if is_utf8 line then heard_at options desk line (heading_of line (token_at line 0)) else refuses desk None (Script code.NotUtf8)

abbrev pub saying : Options → Desk → List ℕ → Saying
saying options desk line = (heard options desk line).0

abbrev pub desk_after : Options → Desk → List ℕ → Desk
desk_after options desk line = (heard options desk line).1
