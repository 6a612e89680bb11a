-- What a line says suits the transaction that is open there.
use Rattle.std.specs.List.{All}
use Rattle.std.specs.Option.{option_map}
use Rattle.std.specs.Str.{is_utf8}
use Rattle.std.proofs.Common.{◌≡◌, ℕ, ◌+◌, Bool, true, false, cond, List, Option, Some, None, Result, Ok, Err, length, refl}
use Rattle.std.specs.Prelude.{◌==◌, nat_le, is_some}
use Rattle.hy_token.specs.declared.Span.{Span}
use Rattle.hy_token.specs.Token.{token_at}
use Rattle.hy_ast.specs.Trees.{Statement}
use Rattle.hy_ast.specs.Trees as tree
use Rattle.hy_schema.specs.Names.{number_of}
use Rattle.hy_schema.specs.declared.TableDef.{TableDef}
use Rattle.hy_bound.specs.Agreement.{HasItsKey}
use Rattle.hy_bind.specs.Shapes.{catalog_shapes}
use Rattle.hy_bind.specs.Statements.{HasNames, bound_of}
use Rattle.hy_script.specs.declared.Options.{Options}
use Rattle.hy_script.specs.declared.codes.Code.{Code}
use Rattle.hy_script.specs.declared.codes.Code.TheVariants as code
use Rattle.hy_script.specs.declared.judging.Standing.{Standing}
use Rattle.hy_script.specs.Growing.{table_def, with_table, with_first_row}
use Rattle.hy_script.specs.Refusals.{create_code, first_row_code, name_in, statement_code, with_bound}
use Rattle.hy_script.specs.Suiting.{Suits}
use Rattle.hy_serving.specs.declared.Cause.{Cause}
use Rattle.hy_serving.specs.declared.Cause.TheVariants.{Script, NoneOpen}
use Rattle.hy_serving.specs.declared.Desk.{Desk}
use Rattle.hy_serving.specs.declared.Saying.{Saying}
use Rattle.hy_serving.specs.declared.Saying.TheVariants.{Defines, Begins, Says, Closes}
use Rattle.hy_serving.specs.declared.lines.Heading.{Heading}
use Rattle.hy_serving.specs.declared.lines.Heading.TheVariants as heading
use Rattle.hy_serving.specs.declared.lines.Words.TheVariants as words
use Rattle.hy_serving.specs.Lines.{heading_of, one_statement}
use Rattle.hy_serving.specs.Saying.{begin_cause, begins, begun_in, closes, defines, defines_if_one, ended, ends_if_one, heard, heard_at, place_at, refuses, says, says_at, says_if_one, says_of, unless_refused, with_session, with_standing}
use Rattle.hy_serving.specs.Suiting.{SuitsDesk}
use Rattle.hy_limits.specs.declared.TheConstants.{MOST_SESSIONS}

-- what the law on one statement says
abbrev pub Law : Type 0
Law = (script : List ℕ) (catalog : List TableDef) (standing : Standing) (statement : Statement) → HasNames statement → All HasItsKey (catalog_shapes catalog)
    → statement_code script catalog standing statement ≡ None → Suits script catalog standing (bound_of script catalog statement)

abbrev HaveKeys : Desk → Type 0
HaveKeys desk = All HasItsKey (catalog_shapes desk.sofar.catalog)

-- one of two
either : (line : List ℕ) (desk : Desk) (so : Bool) (one other : Saying × Desk) → SuitsDesk line desk one.0 → SuitsDesk line desk other.0 → SuitsDesk line desk (cond so one other).0
either line desk true one other first second = first
either line desk false one other first second = second

unless : (line : List ℕ) (desk : Desk) (name : Option (List ℕ)) (cause : Option Cause) (done : Saying × Desk) → SuitsDesk line desk done.0
    → SuitsDesk line desk (unless_refused desk name cause done).0
unless line desk name None done is = is
unless line desk name (Some cause) done is = tt

-- a statement of a transaction
judged : Law → (desk : Desk) (line name : List ℕ) (number : ℕ) (statement : Statement) (standing : Standing) (left : Desk) (found : Option Code) → (place_at desk number).standing ≡ Some standing
    → HasNames statement → HaveKeys desk → statement_code line desk.sofar.catalog standing statement ≡ found
    → SuitsDesk line desk (unless_refused desk (Some name) (option_map Script found) (Says number (bound_of line desk.sofar.catalog statement), left)).0
judged law desk line name number statement standing left None there names keys is =
    record { standing = standing; there = there; suits = law line desk.sofar.catalog standing statement names keys is }
judged law desk line name number statement standing left (Some cause) there names keys is = tt

at : Law → (desk : Desk) (line name : List ℕ) (number : ℕ) (statement : Statement) (found : Option Standing) → (place_at desk number).standing ≡ found → HasNames statement → HaveKeys desk
    → SuitsDesk line desk (says_at desk line name number statement found).0
at law desk line name number statement None there names keys = tt
at law desk line name number statement (Some standing) there names keys =
    let left : Desk = with_standing desk number (Some (with_bound standing (bound_of line desk.sofar.catalog statement))) in
    judged law desk line name number statement standing left (statement_code line desk.sofar.catalog standing statement) there names keys refl

of : Law → (desk : Desk) (line name : List ℕ) (statement : Statement) (found : Option ℕ) → HasNames statement → HaveKeys desk → SuitsDesk line desk (says_of desk line name statement found).0
of law desk line name statement None names keys = tt
of law desk line name statement (Some number) names keys = at law desk line name number statement (place_at desk number).standing refl names keys

-- BEGIN, COMMIT and ROLLBACK say no statement
begun : (desk : Desk) (line name : List ℕ) (read_only : Bool) (found : Option ℕ) → SuitsDesk line desk (begins desk name read_only found).0
begun desk line name read_only None =
    let number : ℕ = length desk.sofar.names in
    either line desk (nat_le MOST_SESSIONS number) (refuses desk (Some name) (Script code.Limit)) (Begins number read_only (Some name), with_session desk name read_only) tt tt
begun desk line name read_only (Some number) =
    unless line desk (Some name) (begin_cause (place_at desk number)) (Begins number read_only None, begun_in desk number read_only) tt

closed : (desk : Desk) (line name : List ℕ) (commits : Bool) (found : Option ℕ) → SuitsDesk line desk (closes desk name commits found).0
closed desk line name commits None = tt
closed desk line name commits (Some number) =
    either line desk (is_some (place_at desk number).standing) (Closes number commits, ended number desk) (refuses desk (Some name) NoneOpen) tt tt

said : Law → (desk : Desk) (line name : List ℕ) (statement : Statement) → HaveKeys desk → SuitsDesk line desk (says desk line name statement).0
said law desk line name (tree.Begin read_only) keys = begun desk line name read_only (number_of desk.sofar.names name)
said law desk line name tree.Commit keys = closed desk line name true (number_of desk.sofar.names name)
said law desk line name tree.Rollback keys = closed desk line name false (number_of desk.sofar.names name)
said law desk line name (tree.Create table columns) keys = tt
said law desk line name (tree.Session other) keys = tt
said law desk line name (tree.Schedule turns) keys = tt
said law desk line name tree.End keys = tt
said law desk line name (tree.Select selection) keys = of law desk line name (tree.Select selection) (number_of desk.sofar.names name) tt keys
said law desk line name (tree.Insert table values) keys = of law desk line name (tree.Insert table values) (number_of desk.sofar.names name) tt keys
said law desk line name (tree.Update table sets test) keys = of law desk line name (tree.Update table sets test) (number_of desk.sofar.names name) tt keys
said law desk line name (tree.Delete table test) keys = of law desk line name (tree.Delete table test) (number_of desk.sofar.names name) tt keys
said law desk line name (tree.Savepoint saved) keys = of law desk line name (tree.Savepoint saved) (number_of desk.sofar.names name) tt keys
said law desk line name (tree.RollbackTo saved) keys = of law desk line name (tree.RollbackTo saved) (number_of desk.sofar.names name) tt keys
said law desk line name (tree.Release saved) keys = of law desk line name (tree.Release saved) (number_of desk.sofar.names name) tt keys

said_if_one : Law → (desk : Desk) (line name : List ℕ) (found : Result Statement Code) → HaveKeys desk → SuitsDesk line desk (says_if_one desk line name found).0
said_if_one law desk line name (Ok statement) keys = said law desk line name statement keys
said_if_one law desk line name (Err cause) keys = tt

-- lines without a name say no statement
defined : (options : Options) (desk : Desk) (line : List ℕ) (statement : Statement) → SuitsDesk line desk (defines options desk line statement).0
defined options desk line (tree.Create table columns) =
    unless line desk None (option_map Script (create_code line desk.sofar table columns)) (Defines, record desk { sofar = with_table desk.sofar (table_def line table columns) }) tt
defined options desk line (tree.Insert table values) =
    unless line desk None (option_map Script (first_row_code line options desk.sofar (tree.Insert table values) table values)) (Defines, record desk { sofar = with_first_row line desk.sofar table values }) tt
defined options desk line _ = tt

defined_if_one : (options : Options) (desk : Desk) (line : List ℕ) (found : Result Statement Code) → SuitsDesk line desk (defines_if_one options desk line found).0
defined_if_one options desk line (Ok statement) = defined options desk line statement
defined_if_one options desk line (Err cause) = tt

ending : (line : List ℕ) (desk : Desk) (found : Result Statement Code) → SuitsDesk line desk (ends_if_one found)
ending line desk (Ok tree.End) = tt
ending line desk (Ok _) = tt
ending line desk (Err cause) = tt

headed : Law → (options : Options) (desk : Desk) (line : List ℕ) (first : Heading) → HaveKeys desk → SuitsDesk line desk (heard_at options desk line first).0
headed law options desk line heading.Blank keys = tt
headed law options desk line heading.Bad keys = tt
headed law options desk line heading.Bare keys =
    either line desk (length desk.sofar.names == 0) (defines_if_one options desk line (one_statement words.Defining line 0)) (ends_if_one (one_statement words.Ending line 0), desk)
    (defined_if_one options desk line (one_statement words.Defining line 0)) (ending line desk (one_statement words.Ending line 0))
headed law options desk line (heading.Named span) keys = said_if_one law desk line (name_in line span) (one_statement words.Session line (span.end + 1)) keys

pub suits_desk : Law → (options : Options) (desk : Desk) (line : List ℕ) → HaveKeys desk → SuitsDesk line desk (heard options desk line).0
suits_desk law options desk line keys =
    either line desk (is_utf8 line) (heard_at options desk line (heading_of line (token_at line 0))) (refuses desk None (Script code.NotUtf8))
    (headed law options desk line (heading_of line (token_at line 0)) keys) tt
