-- A service stays sound with a line that is none of a session: the desk is as it was, or no session has taken a turn.
use Rattle.std.specs.Option.{option_map}
use Rattle.std.specs.Str.{is_utf8}
use Rattle.std.specs.Prelude.{◌==◌, nat_le, is_some, not}
use Rattle.std.proofs.Common.{◌≡◌, ◌⊎◌, ℕ, ◌+◌, Bool, true, false, cond, List, [], Option, Some, None, Result, Ok, Err, length, get_or, refl, ap, sym, subst, ◌∙◌, inl, inr}
use Rattle.hy_limits.specs.declared.TheConstants.{MOST_SESSIONS}
use Rattle.hy_token.specs.declared.Span.{Span}
use Rattle.hy_token.specs.Token.{token_at}
use Rattle.hy_ast.specs.declared.ColumnDef.{ColumnDef}
use Rattle.hy_ast.specs.declared.Literal.{Literal}
use Rattle.hy_ast.specs.Trees.{Statement}
use Rattle.hy_ast.specs.Trees as tree
use Rattle.hy_schema.specs.Names.{number_of}
use Rattle.hy_bound.specs.declared.Bound.{Bound}
use Rattle.hy_bind.specs.Statements.{bound_of}
use Rattle.hy_script.specs.declared.Options.{Options}
use Rattle.hy_script.specs.declared.codes.Code.{Code}
use Rattle.hy_script.specs.declared.codes.Code.TheVariants as code
use Rattle.hy_script.specs.declared.judging.Standing.{Standing}
use Rattle.hy_script.specs.Growing.{table_def, with_table, with_first_row}
use Rattle.hy_script.specs.Refusals.{create_code, first_row_code, name_in, statement_code, with_bound}
use Rattle.hy_serving.specs.declared.Cause.{Cause}
use Rattle.hy_serving.specs.declared.Cause.TheVariants.{Script, NoneOpen}
use Rattle.hy_serving.specs.declared.Desk.{Desk}
use Rattle.hy_serving.specs.declared.Place.{Place}
use Rattle.hy_serving.specs.declared.Saying.{Saying}
use Rattle.hy_serving.specs.declared.Saying.TheVariants.{Defines, Begins, Says, Closes}
use Rattle.hy_serving.specs.declared.lines.Heading.{Heading}
use Rattle.hy_serving.specs.declared.lines.Heading.TheVariants as heading
use Rattle.hy_serving.specs.declared.lines.Words.TheVariants as words
use Rattle.hy_serving.specs.Fitting.{FitsDesk}
use Rattle.hy_serving.specs.Lines.{heading_of, one_statement}
use Rattle.hy_serving.specs.Saying.{begin_cause, begins, begun_in, closes, creates, defines, defines_if_one, desk_after, ended, ends_if_one, gives, heard, heard_at, no_txns, place_at, refuses, says, says_at, says_if_one, says_of, unless_refused, with_session, with_standing}
use Rattle.hy_service.specs.Service.{Service, noted, session_line}
use Rattle.hy_service.specs.Sound.{AgreesAt, IsSound}
use Rattle.hy_service.specs.Laws.{DefinitionsStaySound}
use Rattle.hy_service.proofs.Openings.{Laws, new_sound}

-- there is no session yet, and of sessions nothing was noted
pub record IsDefined (desk new : Desk) : Type 0 where
  pub none : (length desk.sofar.names == 0) ≡ true
  pub places : new.places ≡ desk.places

-- a line of no session leaves the desk as it was, or defines something on it
abbrev Leaves : Desk → Saying × Desk → Type 0
Leaves desk said = session_line said.0 ≡ None → (said.1 ≡ desk) ⊎ IsDefined desk said.1

-- ---- one of two, and refusals

either : (desk : Desk) (so : Bool) (one other : Saying × Desk) → (so ≡ true → Leaves desk one) → (so ≡ false → Leaves desk other)
    → Leaves desk (cond so one other)
either desk true one other first second = first refl
either desk false one other first second = second refl

unless : (desk : Desk) (name : Option (List ℕ)) (cause : Option Cause) (done : Saying × Desk) → Leaves desk done
    → Leaves desk (unless_refused desk name cause done)
unless desk name None done leaves = leaves
unless desk name (Some cause) done leaves = λ of_none. inl refl

-- ---- lines of a session

begins_first : (desk new : Desk) (number : ℕ) (read_only : Bool) (name : Option (List ℕ)) → Leaves desk (Begins number read_only name, new)
begins_first desk new number read_only name of_none = absurd cc

closes_one : (desk new : Desk) (number : ℕ) (commits : Bool) → Leaves desk (Closes number commits, new)
closes_one desk new number true of_none = absurd cc
closes_one desk new number false of_none = absurd cc

says_one : (desk new : Desk) (number : ℕ) (bound : Bound) → Leaves desk (Says number bound, new)
says_one desk new number bound of_none = absurd cc

begun : (desk : Desk) (name : List ℕ) (read_only : Bool) (found : Option ℕ) → Leaves desk (begins desk name read_only found)
begun desk name read_only None =
    let number : ℕ = length desk.sofar.names in
    let new : Desk = with_session desk name read_only in
    either desk (nat_le MOST_SESSIONS number) (refuses desk (Some name) (Script code.Limit)) (Begins number read_only (Some name), new)
    (λ full of_none. inl refl) (λ free. begins_first desk new number read_only (Some name))
begun desk name read_only (Some number) =
    let new : Desk = begun_in desk number read_only in
    unless desk (Some name) (begin_cause (place_at desk number)) (Begins number read_only None, new) (begins_first desk new number read_only None)

closed : (desk : Desk) (name : List ℕ) (commits : Bool) (found : Option ℕ) → Leaves desk (closes desk name commits found)
closed desk name commits None = λ of_none. inl refl
closed desk name commits (Some number) =
    either desk (is_some (place_at desk number).standing) (Closes number commits, ended number desk) (refuses desk (Some name) NoneOpen)
    (λ some. closes_one desk (ended number desk) number commits) (λ none of_none. inl refl)

said_at : (desk : Desk) (line name : List ℕ) (number : ℕ) (statement : Statement) (found : Option Standing)
    → Leaves desk (says_at desk line name number statement found)
said_at desk line name number statement None = λ of_none. inl refl
said_at desk line name number statement (Some standing) =
    let bound : Bound = bound_of line desk.sofar.catalog statement in
    let new : Desk = with_standing desk number (Some (with_bound standing bound)) in
    unless desk (Some name) (option_map Script (statement_code line desk.sofar.catalog standing statement)) (Says number bound, new)
    (says_one desk new number bound)

said_of : (desk : Desk) (line name : List ℕ) (statement : Statement) (found : Option ℕ) → Leaves desk (says_of desk line name statement found)
said_of desk line name statement None = λ of_none. inl refl
said_of desk line name statement (Some number) = said_at desk line name number statement (place_at desk number).standing

said : (desk : Desk) (line name : List ℕ) (statement : Statement) → Leaves desk (says desk line name statement)
said desk line name (tree.Begin read_only) = begun desk name read_only (number_of desk.sofar.names name)
said desk line name tree.Commit = closed desk name true (number_of desk.sofar.names name)
said desk line name tree.Rollback = closed desk name false (number_of desk.sofar.names name)
said desk line name (tree.Create table columns) = λ of_none. inl refl
said desk line name (tree.Session other) = λ of_none. inl refl
said desk line name (tree.Schedule turns) = λ of_none. inl refl
said desk line name tree.End = λ of_none. inl refl
said desk line name (tree.Select selection) = said_of desk line name (tree.Select selection) (number_of desk.sofar.names name)
said desk line name (tree.Insert table values) = said_of desk line name (tree.Insert table values) (number_of desk.sofar.names name)
said desk line name (tree.Update table sets test) = said_of desk line name (tree.Update table sets test) (number_of desk.sofar.names name)
said desk line name (tree.Delete table test) = said_of desk line name (tree.Delete table test) (number_of desk.sofar.names name)
said desk line name (tree.Savepoint saved) = said_of desk line name (tree.Savepoint saved) (number_of desk.sofar.names name)
said desk line name (tree.RollbackTo saved) = said_of desk line name (tree.RollbackTo saved) (number_of desk.sofar.names name)
said desk line name (tree.Release saved) = said_of desk line name (tree.Release saved) (number_of desk.sofar.names name)

said_if_one : (desk : Desk) (line name : List ℕ) (found : Result Statement Code) → Leaves desk (says_if_one desk line name found)
said_if_one desk line name (Ok statement) = said desk line name statement
said_if_one desk line name (Err cause) = λ of_none. inl refl

-- ---- lines without a name

created : (desk : Desk) (line : List ℕ) (table : Span) (columns : List ColumnDef) → (length desk.sofar.names == 0) ≡ true
    → Leaves desk (creates desk line table columns)
created desk line table columns none =
    let new : Desk = record desk { sofar = with_table desk.sofar (table_def line table columns) } in
    unless desk None (option_map Script (create_code line desk.sofar table columns)) (Defines, new) (λ of_none. inr (record { none = none; places = refl }))

given : (options : Options) (desk : Desk) (line : List ℕ) (table : Span) (values : List Literal) → (length desk.sofar.names == 0) ≡ true
    → Leaves desk (gives options desk line (tree.Insert table values) table values)
given options desk line table values none =
    let new : Desk = record desk { sofar = with_first_row line desk.sofar table values } in
    unless desk None (option_map Script (first_row_code line options desk.sofar (tree.Insert table values) table values)) (Defines, new)
    (λ of_none. inr (record { none = none; places = refl }))

defined : (options : Options) (desk : Desk) (line : List ℕ) (statement : Statement) → (length desk.sofar.names == 0) ≡ true
    → Leaves desk (defines options desk line statement)
defined options desk line (tree.Create table columns) none = created desk line table columns none
defined options desk line (tree.Insert table values) none = given options desk line table values none
defined options desk line tree.End none = λ of_none. inl refl
defined options desk line _ none = λ of_none. inl refl

defined_if_one : (options : Options) (desk : Desk) (line : List ℕ) (found : Result Statement Code) → (length desk.sofar.names == 0) ≡ true
    → Leaves desk (defines_if_one options desk line found)
defined_if_one options desk line (Ok statement) none = defined options desk line statement none
defined_if_one options desk line (Err cause) none = λ of_none. inl refl

-- ---- a line

headed : (options : Options) (desk : Desk) (line : List ℕ) (first : Heading) → Leaves desk (heard_at options desk line first)
headed options desk line heading.Blank = λ of_none. inl refl
headed options desk line heading.Bad = λ of_none. inl refl
headed options desk line heading.Bare =
    either desk (length desk.sofar.names == 0) (defines_if_one options desk line (one_statement words.Defining line 0))
    (ends_if_one (one_statement words.Ending line 0), desk)
    (λ none. defined_if_one options desk line (one_statement words.Defining line 0) none) (λ some of_none. inl refl)
headed options desk line (heading.Named span) = said_if_one desk line (name_in line span) (one_statement words.Session line (span.end + 1))

pub left : (options : Options) (desk : Desk) (line : List ℕ) → Leaves desk (heard options desk line)
left options desk line =
    let first : Heading = heading_of line (token_at line 0) in
    either desk (is_utf8 line) (heard_at options desk line first) (refuses desk None (Script code.NotUtf8))
    (λ text. headed options desk line first) (λ other of_none. inl refl)

-- ---- the service after it

kept_sound : (options : Options) (service : Service) (desk : Desk) → desk ≡ service.desk → IsSound options service
    → IsSound options (record service { desk = desk })
kept_sound options service desk same sound = subst (λ (d : Desk). IsSound options (record service { desk = d })) (sym same) sound

placed : (options : Options) (service : Service) (desk : Desk) (number : ℕ) → desk.places ≡ service.desk.places → AgreesAt options service number
    → AgreesAt options (record service { desk = desk }) number
placed options service desk number places agrees =
    let same : place_at desk number ≡ place_at service.desk number = ap (λ (all : List Place). get_or all number no_txns) places in
    record { txns = ap (λ (place : Place). place.txns) same ∙ agrees.txns; standing = ap (λ (place : Place). place.standing) same ∙ agrees.standing }

defined_sound : Laws → (options : Options) (service : Service) (desk : Desk) → FitsDesk options desk → IsDefined service.desk desk → IsSound options service
    → IsSound options (record service { desk = desk })
defined_sound laws options service desk fits is sound =
    let turns : service.turns ≡ [] = sound.unnamed (ap not is.none) in
    let unused = sound.unused turns in
    let runs = sound.runnable in
    new_sound laws options (record service { desk = desk })
    (record { some_chunk = runs.some_chunk; few_chunks = runs.few_chunks; some_row = runs.some_row; numbered = runs.numbered }) fits
    (record { turns = turns; programs = unused.0; state = unused.1 })
    (λ number within. placed options service desk number is.places (sound.agrees number within))

one_sound : Laws → (options : Options) (service : Service) (desk : Desk) → FitsDesk options desk → (desk ≡ service.desk) ⊎ IsDefined service.desk desk
    → IsSound options service → IsSound options (record service { desk = desk })
one_sound laws options service desk fits (inl same) sound = kept_sound options service desk same sound
one_sound laws options service desk fits (inr is) sound = defined_sound laws options service desk fits is sound

pub noted_sound : Laws → DefinitionsStaySound
noted_sound laws options service line sound none =
    one_sound laws options service (desk_after options service.desk line) (laws.heard options service.desk line sound.desk)
    (left options service.desk line none) sound
