-- What the lines come to fits, line by line.
use Rattle.std.specs.List.{All, AllZip}
use Rattle.std.specs.Option.{option_map}
use Rattle.std.specs.Str.{is_utf8}
use Rattle.std.specs.Prelude.{◌==◌, ◌↔◌, ◌*◌, nat_le, is_some}
use Rattle.std.proofs.Common.{◌≡◌, ℕ, ◌+◌, ◌≤◌, Bool, true, false, cond, List, [], ◌∷◌, ◌++◌, Option, Some, None, Result, Ok, Err, length, refl, ◌∙◌, subst, arith, length-set}
use Rattle.std.proofs.lemmas.Bool.{leb-false}
use Rattle.std.proofs.lemmas.List.{length_push}
use Rattle.hy_token.specs.declared.Bad.{Bad}
use Rattle.hy_token.specs.declared.Span.{Span}
use Rattle.hy_token.specs.declared.Token.{Token}
use Rattle.hy_token.specs.declared.Token.TheVariants as token
use Rattle.hy_token.specs.Token.{token_at}
use Rattle.hy_ast.specs.declared.ColumnDef.{ColumnDef}
use Rattle.hy_ast.specs.declared.Literal.{Literal}
use Rattle.hy_ast.specs.Trees.{Statement}
use Rattle.hy_ast.specs.Trees as tree
use Rattle.hy_parse.specs.Grammar.{HasItem, IsGrouped}
use Rattle.hy_parse.specs.Parsing.{Fault, Syntax, BadToken, parsed, Parses}
use Rattle.hy_schema.specs.Names.{number_of}
use Rattle.hy_bound.specs.declared.Bound.{Bound}
use Rattle.hy_bound.specs.declared.Txn.{Txn}
use Rattle.hy_bound.specs.Fits.{Fits, FitsRows, FitsSession}
use Rattle.hy_bind.specs.Shapes.{catalog_shapes}
use Rattle.hy_bind.specs.Statements.{bound_of}
use Rattle.hy_script.specs.declared.Options.{Options}
use Rattle.hy_script.specs.declared.codes.Code.{Code}
use Rattle.hy_script.specs.declared.codes.Code.TheVariants as code
use Rattle.hy_script.specs.declared.judging.Standing.{Standing}
use Rattle.hy_script.specs.declared.sofar.SoFar.{SoFar}
use Rattle.hy_script.specs.Definitions.{AreDefined}
use Rattle.hy_script.specs.Growing.{nothing, key_from, table_def, with_table, with_first_row}
use Rattle.hy_script.specs.Refusals.{create_code, first_row_code, name_in, no_statements, statement_code, with_bound}
use Rattle.hy_serving.specs.declared.Cause.{Cause}
use Rattle.hy_serving.specs.declared.Cause.TheVariants.{Script, NoneOpen}
use Rattle.hy_serving.specs.declared.Desk.{Desk}
use Rattle.hy_serving.specs.declared.Place.{Place}
use Rattle.hy_serving.specs.declared.Saying.{Saying}
use Rattle.hy_serving.specs.declared.Saying.TheVariants.{Defines, Begins, Says, Closes}
use Rattle.hy_serving.specs.declared.lines.Heading.{Heading}
use Rattle.hy_serving.specs.declared.lines.Heading.TheVariants as heading
use Rattle.hy_serving.specs.declared.lines.Words.{Words}
use Rattle.hy_serving.specs.declared.lines.Words.TheVariants as words
use Rattle.hy_serving.specs.Lines.{alone, begun_with, cause_behind, heading_of, may_begin, one_statement, unless_followed}
use Rattle.hy_serving.specs.Saying.{begin_cause, begins, closes, creates, defines, defines_if_one, ends_if_one, ended, first_rows, fresh, gives, heard, heard_at, place_at, refuses, says, says_at, says_if_one, says_of, unless_refused, with_place, with_session}
use Rattle.hy_serving.specs.Fitting.{FitsDesk}
use Rattle.hy_serving.proofs.Heard.{table_heard, row_heard}
use Rattle.hy_limits.specs.declared.TheConstants.{MOST_SESSIONS}

-- the laws of the crates below on which this rests
pub record Laws : Type 0 where
  pub parsing : (bytes : List ℕ) (at : ℕ) (s : Statement) (end : ℕ) → (parsed bytes at ≡ Ok (s, end)) ↔ Parses bytes at s end
  pub first : (options : Options) → AreDefined options nothing
  pub table : (script : List ℕ) (options : Options) (sofar : SoFar) (table : Span) (columns : List ColumnDef) → HasItem columns → create_code script sofar table columns ≡ None
      → AreDefined options sofar → AreDefined options (with_table sofar (table_def script table columns))
  pub row : (script : List ℕ) (options : Options) (sofar : SoFar) (table : Span) (values : List Literal) → first_row_code script options sofar (tree.Insert table values) table values ≡ None
      → AreDefined options sofar → AreDefined options (with_first_row script sofar table values)

-- ---- the one statement of a line is grouped

followed_grouped : (cause : Option Code) (found statement : Statement) → IsGrouped found → unless_followed cause found ≡ Ok statement → IsGrouped statement
followed_grouped None found statement grouped h = let same : found ≡ statement = cc in subst IsGrouped same grouped
followed_grouped (Some cause) found statement grouped h = absurd cc

alone_grouped : Laws → (line : List ℕ) (from : ℕ) (parse : Result (Statement × ℕ) Fault) (statement : Statement) → parsed line from ≡ parse → alone line parse ≡ Ok statement → IsGrouped statement
alone_grouped laws line from (Err (Syntax at)) statement is h = absurd cc
alone_grouped laws line from (Err (BadToken at)) statement is h = absurd cc
alone_grouped laws line from (Ok (found, end)) statement is h =
    followed_grouped (cause_behind (token_at line end)) found statement ((laws.parsing line from found end).0 is).written.grouped h

allowed_grouped : Laws → (line : List ℕ) (from : ℕ) (allowed : Bool) (other : Code) (statement : Statement) → cond allowed (alone line (parsed line from)) (Err other) ≡ Ok statement → IsGrouped statement
allowed_grouped laws line from true other statement h = alone_grouped laws line from (parsed line from) statement refl h
allowed_grouped laws line from false other statement h = absurd cc

begun_grouped : Laws → (which : Words) (line : List ℕ) (from : ℕ) (first : Result (Token × Span) Bad) (statement : Statement) → begun_with which line from first ≡ Ok statement → IsGrouped statement
begun_grouped laws which line from (Err bad) statement h = absurd cc
begun_grouped laws which line from (Ok (token.Reserved keyword, span)) statement h = allowed_grouped laws line from (may_begin which keyword) code.Syntax statement h
begun_grouped laws which line from (Ok (_, span)) statement h = absurd cc

-- ---- one of two, and refusals

either : (options : Options) (so : Bool) (one other : Saying × Desk) → (so ≡ true → FitsDesk options one.1) → (so ≡ false → FitsDesk options other.1) → FitsDesk options (cond so one other).1
either options true one other first second = first refl
either options false one other first second = second refl

unless : (options : Options) (desk : Desk) (name : Option (List ℕ)) (cause : Option Cause) (done : Saying × Desk) → FitsDesk options desk → (cause ≡ None → FitsDesk options done.1)
    → FitsDesk options (unless_refused desk name cause done).1
unless options desk name None done fits h = h refl
unless options desk name (Some cause) done fits h = fits

no_code : (found : Option Code) → option_map Script found ≡ None → found ≡ None
no_code None h = refl
no_code (Some cause) h = absurd cc

-- ---- what a line changes

place_set : (options : Options) (desk : Desk) (number : ℕ) (place : Place) → FitsDesk options desk → FitsDesk options (with_place desk number place)
place_set options desk number place fits = record { defined = fits.defined; rows = fits.rows; few_sessions = fits.few_sessions; places = length-set desk.places number place ∙ fits.places }

pub ended_fits : (options : Options) (desk : Desk) (number : ℕ) → FitsDesk options desk → FitsDesk options (ended number desk)
ended_fits options desk number fits = place_set options desk number (record { txns = (place_at desk number).txns; standing = None }) fits

session_more : (options : Options) (desk : Desk) (name : List ℕ) (read_only : Bool) → nat_le MOST_SESSIONS (length desk.sofar.names) ≡ false → FitsDesk options desk → FitsDesk options (with_session desk name read_only)
session_more options desk name read_only room fits =
    let place : Place = record { txns = 1; standing = Some (no_statements read_only) } in
    let free = leb-false MOST_SESSIONS (length desk.sofar.names) room in
    let many = length_push desk.sofar.names name in
    let placed = length_push desk.places place in
    let places = fits.places in
    record { defined = fits.defined; rows = fits.rows; few_sessions = omega (arith, free, many); places = omega (arith, many, placed, places) }

created : Laws → (options : Options) (desk : Desk) (line : List ℕ) (table : Span) (columns : List ColumnDef) → HasItem columns → FitsDesk options desk → FitsDesk options (creates desk line table columns).1
created laws options desk line table columns item fits =
    let done : Desk = record desk { sofar = with_table desk.sofar (table_def line table columns) } in
    unless options desk None (option_map Script (create_code line desk.sofar table columns)) (Defines, done) fits
    (λ none. record {
      defined = laws.table line options desk.sofar table columns item (no_code (create_code line desk.sofar table columns) none) fits.defined;
      rows = table_heard desk.sofar.catalog desk.sofar.stocks (table_def line table columns) (key_from 0 columns) fits.rows;
      few_sessions = fits.few_sessions;
      places = fits.places;
    })

given : Laws → (options : Options) (desk : Desk) (line : List ℕ) (table : Span) (values : List Literal) → FitsDesk options desk → FitsDesk options (gives options desk line (tree.Insert table values) table values).1
given laws options desk line table values fits =
    let cause : Option Code = first_row_code line options desk.sofar (tree.Insert table values) table values in
    let done : Desk = record desk { sofar = with_first_row line desk.sofar table values } in
    unless options desk None (option_map Script cause) (Defines, done) fits
    (λ none. record {
      defined = laws.row line options desk.sofar table values (no_code cause none) fits.defined;
      rows = row_heard line options desk.sofar table values (no_code cause none) fits.rows;
      few_sessions = fits.few_sessions;
      places = fits.places;
    })

-- ---- lines without a name

defined : Laws → (options : Options) (desk : Desk) (line : List ℕ) (statement : Statement) → IsGrouped statement → FitsDesk options desk → FitsDesk options (defines options desk line statement).1
defined laws options desk line (tree.Create table columns) grouped fits = created laws options desk line table columns grouped fits
defined laws options desk line (tree.Insert table values) grouped fits = given laws options desk line table values fits
defined laws options desk line tree.End grouped fits = fits
defined laws options desk line _ grouped fits = fits

defined_if_one : Laws → (options : Options) (desk : Desk) (line : List ℕ) (found : Result Statement Code) → ((statement : Statement) → found ≡ Ok statement → IsGrouped statement) → FitsDesk options desk
    → FitsDesk options (defines_if_one options desk line found).1
defined_if_one laws options desk line (Ok statement) grouped fits = defined laws options desk line statement (grouped statement refl) fits
defined_if_one laws options desk line (Err cause) grouped fits = fits

-- ---- lines of a session

begun : (options : Options) (desk : Desk) (name : List ℕ) (read_only : Bool) (found : Option ℕ) → FitsDesk options desk → FitsDesk options (begins desk name read_only found).1
begun options desk name read_only None fits =
    let number : ℕ = length desk.sofar.names in
    either options (nat_le MOST_SESSIONS number) (refuses desk (Some name) (Script code.Limit)) (Begins number read_only (Some name), with_session desk name read_only)
    (λ full. fits) (λ free. session_more options desk name read_only free fits)
begun options desk name read_only (Some number) fits =
    let place : Place = record { txns = (place_at desk number).txns + 1; standing = Some (no_statements read_only) } in
    unless options desk (Some name) (begin_cause (place_at desk number)) (Begins number read_only None, with_place desk number place) fits (λ none. place_set options desk number place fits)

closed : (options : Options) (desk : Desk) (name : List ℕ) (commits : Bool) (found : Option ℕ) → FitsDesk options desk → FitsDesk options (closes desk name commits found).1
closed options desk name commits None fits = fits
closed options desk name commits (Some number) fits =
    either options (is_some (place_at desk number).standing) (Closes number commits, ended number desk) (refuses desk (Some name) NoneOpen)
    (λ some. ended_fits options desk number fits) (λ none. fits)

said_at : (options : Options) (desk : Desk) (line name : List ℕ) (number : ℕ) (statement : Statement) (found : Option Standing) → FitsDesk options desk
    → FitsDesk options (says_at desk line name number statement found).1
said_at options desk line name number statement None fits = fits
said_at options desk line name number statement (Some standing) fits =
    let bound : Bound = bound_of line desk.sofar.catalog statement in
    let place : Place = record { txns = (place_at desk number).txns; standing = Some (with_bound standing bound) } in
    unless options desk (Some name) (option_map Script (statement_code line desk.sofar.catalog standing statement)) (Says number bound, with_place desk number place) fits
    (λ none. place_set options desk number place fits)

said_of : (options : Options) (desk : Desk) (line name : List ℕ) (statement : Statement) (found : Option ℕ) → FitsDesk options desk → FitsDesk options (says_of desk line name statement found).1
said_of options desk line name statement None fits = fits
said_of options desk line name statement (Some number) fits = said_at options desk line name number statement (place_at desk number).standing fits

said : (options : Options) (desk : Desk) (line name : List ℕ) (statement : Statement) → FitsDesk options desk → FitsDesk options (says desk line name statement).1
said options desk line name (tree.Begin read_only) fits = begun options desk name read_only (number_of desk.sofar.names name) fits
said options desk line name tree.Commit fits = closed options desk name true (number_of desk.sofar.names name) fits
said options desk line name tree.Rollback fits = closed options desk name false (number_of desk.sofar.names name) fits
said options desk line name (tree.Create table columns) fits = fits
said options desk line name (tree.Session other) fits = fits
said options desk line name (tree.Schedule turns) fits = fits
said options desk line name tree.End fits = fits
said options desk line name (tree.Select selection) fits = said_of options desk line name (tree.Select selection) (number_of desk.sofar.names name) fits
said options desk line name (tree.Insert table values) fits = said_of options desk line name (tree.Insert table values) (number_of desk.sofar.names name) fits
said options desk line name (tree.Update table sets test) fits = said_of options desk line name (tree.Update table sets test) (number_of desk.sofar.names name) fits
said options desk line name (tree.Delete table test) fits = said_of options desk line name (tree.Delete table test) (number_of desk.sofar.names name) fits
said options desk line name (tree.Savepoint saved) fits = said_of options desk line name (tree.Savepoint saved) (number_of desk.sofar.names name) fits
said options desk line name (tree.RollbackTo saved) fits = said_of options desk line name (tree.RollbackTo saved) (number_of desk.sofar.names name) fits
said options desk line name (tree.Release saved) fits = said_of options desk line name (tree.Release saved) (number_of desk.sofar.names name) fits

said_if_one : (options : Options) (desk : Desk) (line name : List ℕ) (found : Result Statement Code) → FitsDesk options desk → FitsDesk options (says_if_one desk line name found).1
said_if_one options desk line name (Ok statement) fits = said options desk line name statement fits
said_if_one options desk line name (Err cause) fits = fits

-- ---- a line

headed : Laws → (options : Options) (desk : Desk) (line : List ℕ) (first : Heading) → FitsDesk options desk → FitsDesk options (heard_at options desk line first).1
headed laws options desk line heading.Blank fits = fits
headed laws options desk line heading.Bad fits = fits
headed laws options desk line heading.Bare fits =
    either options (length desk.sofar.names == 0) (defines_if_one options desk line (one_statement words.Defining line 0)) (ends_if_one (one_statement words.Ending line 0), desk)
    (λ none. defined_if_one laws options desk line (one_statement words.Defining line 0) (begun_grouped laws words.Defining line 0 (token_at line 0)) fits) (λ some. fits)
headed laws options desk line (heading.Named span) fits = said_if_one options desk line (name_in line span) (one_statement words.Session line (span.end + 1)) fits

pub heard_fits : Laws → (options : Options) (desk : Desk) (line : List ℕ) → FitsDesk options desk → FitsDesk options (heard options desk line).1
heard_fits laws options desk line fits =
    either options (is_utf8 line) (heard_at options desk line (heading_of line (token_at line 0))) (refuses desk None (Script code.NotUtf8))
    (λ text. headed laws options desk line (heading_of line (token_at line 0)) fits) (λ other. fits)

pub fresh_fits : Laws → (options : Options) → FitsDesk options fresh
fresh_fits laws options = record { defined = laws.first options; rows = tt; few_sessions = omega arith; places = refl }

-- a run can begin with it
pub run_fits : (options : Options) (desk : Desk) (sessions : List (List Txn)) → AllZip (FitsRows (options.chunks * options.rows)) (catalog_shapes desk.sofar.catalog) (first_rows desk) → FitsDesk options desk
    → length sessions ≤ MOST_SESSIONS → All (FitsSession (catalog_shapes desk.sofar.catalog)) sessions → Fits (catalog_shapes desk.sofar.catalog) (options.chunks * options.rows) (first_rows desk) sessions
run_fits options desk sessions rows fits few all = record {
  few_tables = fits.defined.few;
  tables = fits.defined.tables;
  first_rows = rows;
  few_sessions = few;
  sessions = all;
}
