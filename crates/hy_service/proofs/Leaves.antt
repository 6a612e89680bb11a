-- What a line leaves on the desk: the names, with that of a session which is new, and once there is a session the tables and first rows.
use Rattle.std.specs.Option.{option_map}
use Rattle.std.specs.Str.{is_utf8}
use Rattle.std.specs.Prelude.{◌==◌, nat_le, is_some}
use Rattle.std.proofs.Common.{◌≡◌, ℕ, ◌+◌, Bool, true, false, cond, not, List, [], ◌∷◌, ◌++◌, Option, Some, None, Result, Ok, Err, length, refl, sym, ap, ◌∙◌, append-nil}
use Rattle.std.proofs.lemmas.Bool.{false≢true}
use Rattle.hy_token.specs.Token.{token_at}
use Rattle.hy_ast.specs.Trees.{Statement}
use Rattle.hy_ast.specs.Trees as tree
use Rattle.hy_schema.specs.Names.{number_of}
use Rattle.hy_bound.specs.declared.Bound.{Bound}
use Rattle.hy_bind.specs.Statements.{bound_of}
use Rattle.hy_script.specs.declared.Options.{Options}
use Rattle.hy_script.specs.declared.codes.Code.{Code}
use Rattle.hy_script.specs.declared.codes.Code.TheVariants as code
use Rattle.hy_script.specs.declared.judging.Standing.{Standing}
use Rattle.hy_script.specs.Growing.{table_def, with_table, with_first_row}
use Rattle.hy_script.specs.Refusals.{create_code, first_row_code, name_in, statement_code, with_bound}
use Rattle.hy_serving.specs.declared.Cause.{Cause}
use Rattle.hy_serving.specs.declared.Cause.TheVariants.{Script, NoneOpen}
use Rattle.hy_serving.specs.declared.Desk.{Desk}
use Rattle.hy_serving.specs.declared.Saying.{Saying}
use Rattle.hy_serving.specs.declared.Saying.TheVariants.{Nothing, Ends, Defines, Begins, Says, Closes, Refused}
use Rattle.hy_serving.specs.declared.lines.Heading.{Heading}
use Rattle.hy_serving.specs.declared.lines.Heading.TheVariants as heading
use Rattle.hy_serving.specs.declared.lines.Words.TheVariants as words
use Rattle.hy_serving.specs.Lines.{heading_of, one_statement}
use Rattle.hy_serving.specs.Saying.{begin_cause, begins, begun_in, closes, creates, defines, defines_if_one, ended, ends_if_one, gives, heard, heard_at, place_at, refuses, says, says_at, says_if_one, says_of, unless_refused, with_session, with_standing}
use Rattle.hy_limits.specs.declared.TheConstants.{MOST_SESSIONS}
use Rattle.hy_service.specs.Knowing.{listed}
use Rattle.hy_service.specs.Service.{ends}
use Rattle.hy_service.specs.Sound.{has_sessions}

-- the name of a session that is new by what a line says
abbrev pub new_names : Saying → List (List ℕ)
new_names (Begins number read_only name) = listed name
new_names Nothing = []
new_names Ends = []
new_names Defines = []
new_names (Says number bound) = []
new_names (Closes number commits) = []
new_names (Refused name cause) = []

-- what a line says, and the desk that it leaves
pub record Leaves (desk : Desk) (given : Saying × Desk) : Type 0 where
  pub names : given.1.sofar.names ≡ desk.sofar.names ++ new_names given.0
  pub tables : has_sessions desk ≡ true → (given.1.sofar.catalog ≡ desk.sofar.catalog) × (given.1.sofar.stocks ≡ desk.sofar.stocks)
  pub unchanged : ends given.0 ≡ true → given.1 ≡ desk

-- ---- one of two, and refusals

no_more : (desk : Desk) (saying : Saying) → new_names saying ≡ [] → desk.sofar.names ≡ desk.sofar.names ++ new_names saying
no_more desk saying none = sym (append-nil desk.sofar.names) ∙ ap (λ (more : List (List ℕ)). desk.sofar.names ++ more) (sym none)

same_desk : (desk : Desk) (saying : Saying) → new_names saying ≡ [] → Leaves desk (saying, desk)
same_desk desk saying none = record { names = no_more desk saying none; tables = λ there. (refl, refl); unchanged = λ is. refl }

either : (desk : Desk) (so : Bool) (one other : Saying × Desk) → (so ≡ true → Leaves desk one) → (so ≡ false → Leaves desk other)
    → Leaves desk (cond so one other)
either desk true one other first second = first refl
either desk false one other first second = second refl

refused : (desk : Desk) (name : Option (List ℕ)) (cause : Cause) → Leaves desk (refuses desk name cause)
refused desk name cause = same_desk desk (Refused name cause) refl

unless : (desk : Desk) (name : Option (List ℕ)) (cause : Option Cause) (done : Saying × Desk) → Leaves desk done
    → Leaves desk (unless_refused desk name cause done)
unless desk name None done is = is
unless desk name (Some cause) done is = refused desk name cause

-- ---- lines without a name

nobody : (desk : Desk) → (length desk.sofar.names == 0) ≡ true → has_sessions desk ≡ true → ⊥
nobody desk none there = false≢true (sym (ap not none) ∙ there)

defined : (options : Options) (desk : Desk) (line : List ℕ) (statement : Statement) → (length desk.sofar.names == 0) ≡ true
    → Leaves desk (defines options desk line statement)
defined options desk line (tree.Create table columns) none =
    let left : Desk = record desk { sofar = with_table desk.sofar (table_def line table columns) } in
    unless desk None (option_map Script (create_code line desk.sofar table columns)) (Defines, left)
    (record { names = no_more desk Defines refl; tables = λ there. absurd (nobody desk none there); unchanged = λ is. absurd (false≢true is) })
defined options desk line (tree.Insert table values) none =
    let left : Desk = record desk { sofar = with_first_row line desk.sofar table values } in
    unless desk None (option_map Script (first_row_code line options desk.sofar (tree.Insert table values) table values)) (Defines, left)
    (record { names = no_more desk Defines refl; tables = λ there. absurd (nobody desk none there); unchanged = λ is. absurd (false≢true is) })
defined options desk line tree.End none = same_desk desk Ends refl
defined options desk line _ none = refused desk None (Script code.Syntax)

defined_if_one : (options : Options) (desk : Desk) (line : List ℕ) (found : Result Statement Code) → (length desk.sofar.names == 0) ≡ true
    → Leaves desk (defines_if_one options desk line found)
defined_if_one options desk line (Ok statement) none = defined options desk line statement none
defined_if_one options desk line (Err cause) none = refused desk None (Script cause)

ending : (desk : Desk) (found : Result Statement Code) → Leaves desk (ends_if_one found, desk)
ending desk (Ok tree.End) = same_desk desk Ends refl
ending desk (Ok _) = refused desk None (Script code.Syntax)
ending desk (Err cause) = refused desk None (Script cause)

-- ---- lines of a session

at : (desk : Desk) (line name : List ℕ) (number : ℕ) (statement : Statement) (found : Option Standing)
    → Leaves desk (says_at desk line name number statement found)
at desk line name number statement None = refused desk (Some name) NoneOpen
at desk line name number statement (Some standing) =
    let bound : Bound = bound_of line desk.sofar.catalog statement in
    let left : Desk = with_standing desk number (Some (with_bound standing bound)) in
    unless desk (Some name) (option_map Script (statement_code line desk.sofar.catalog standing statement)) (Says number bound, left)
    (record { names = no_more desk (Says number bound) refl; tables = λ there. (refl, refl); unchanged = λ is. absurd (false≢true is) })

of : (desk : Desk) (line name : List ℕ) (statement : Statement) (found : Option ℕ) → Leaves desk (says_of desk line name statement found)
of desk line name statement None = refused desk (Some name) NoneOpen
of desk line name statement (Some number) = at desk line name number statement (place_at desk number).standing

begun : (desk : Desk) (name : List ℕ) (read_only : Bool) (found : Option ℕ) → Leaves desk (begins desk name read_only found)
begun desk name read_only None =
    either desk (nat_le MOST_SESSIONS (length desk.sofar.names)) (refuses desk (Some name) (Script code.Limit))
    (Begins (length desk.sofar.names) read_only (Some name), with_session desk name read_only)
    (λ full. refused desk (Some name) (Script code.Limit))
    (λ room. record { names = refl; tables = λ there. (refl, refl); unchanged = λ is. absurd (false≢true is) })
begun desk name read_only (Some number) =
    unless desk (Some name) (begin_cause (place_at desk number)) (Begins number read_only None, begun_in desk number read_only)
    (record { names = no_more desk (Begins number read_only None) refl; tables = λ there. (refl, refl); unchanged = λ is. absurd (false≢true is) })

closed : (desk : Desk) (name : List ℕ) (commits : Bool) (found : Option ℕ) → Leaves desk (closes desk name commits found)
closed desk name commits None = refused desk (Some name) NoneOpen
closed desk name commits (Some number) =
    either desk (is_some (place_at desk number).standing) (Closes number commits, ended number desk) (refuses desk (Some name) NoneOpen)
    (λ open_there. record { names = no_more desk (Closes number commits) refl; tables = λ there. (refl, refl); unchanged = λ is. absurd (false≢true is) })
    (λ none. refused desk (Some name) NoneOpen)

said : (desk : Desk) (line name : List ℕ) (statement : Statement) → Leaves desk (says desk line name statement)
said desk line name (tree.Begin read_only) = begun desk name read_only (number_of desk.sofar.names name)
said desk line name tree.Commit = closed desk name true (number_of desk.sofar.names name)
said desk line name tree.Rollback = closed desk name false (number_of desk.sofar.names name)
said desk line name (tree.Create table columns) = refused desk (Some name) (Script code.Syntax)
said desk line name (tree.Session other) = refused desk (Some name) (Script code.Syntax)
said desk line name (tree.Schedule turns) = refused desk (Some name) (Script code.Syntax)
said desk line name tree.End = refused desk (Some name) (Script code.Syntax)
said desk line name (tree.Select selection) = of desk line name (tree.Select selection) (number_of desk.sofar.names name)
said desk line name (tree.Insert table values) = of desk line name (tree.Insert table values) (number_of desk.sofar.names name)
said desk line name (tree.Update table sets test) = of desk line name (tree.Update table sets test) (number_of desk.sofar.names name)
said desk line name (tree.Delete table test) = of desk line name (tree.Delete table test) (number_of desk.sofar.names name)
said desk line name (tree.Savepoint saved) = of desk line name (tree.Savepoint saved) (number_of desk.sofar.names name)
said desk line name (tree.RollbackTo saved) = of desk line name (tree.RollbackTo saved) (number_of desk.sofar.names name)
said desk line name (tree.Release saved) = of desk line name (tree.Release saved) (number_of desk.sofar.names name)

said_if_one : (desk : Desk) (line name : List ℕ) (found : Result Statement Code) → Leaves desk (says_if_one desk line name found)
said_if_one desk line name (Ok statement) = said desk line name statement
said_if_one desk line name (Err cause) = refused desk (Some name) (Script cause)

-- ---- a line

headed : (options : Options) (desk : Desk) (line : List ℕ) (first : Heading) → Leaves desk (heard_at options desk line first)
headed options desk line heading.Blank = same_desk desk Nothing refl
headed options desk line heading.Bad = refused desk None (Script code.BadToken)
headed options desk line heading.Bare =
    either desk (length desk.sofar.names == 0) (defines_if_one options desk line (one_statement words.Defining line 0))
    (ends_if_one (one_statement words.Ending line 0), desk)
    (λ none. defined_if_one options desk line (one_statement words.Defining line 0) none) (λ some. ending desk (one_statement words.Ending line 0))
headed options desk line (heading.Named span) = said_if_one desk line (name_in line span) (one_statement words.Session line (span.end + 1))

pub line_leaves : (options : Options) (desk : Desk) (line : List ℕ) → Leaves desk (heard options desk line)
line_leaves options desk line =
    either desk (is_utf8 line) (heard_at options desk line (heading_of line (token_at line 0))) (refuses desk None (Script code.NotUtf8))
    (λ text. headed options desk line (heading_of line (token_at line 0))) (λ other. refused desk None (Script code.NotUtf8))
