-- What lines come to can be kept in a log: the texts of their first rows and statements are UTF-8.
use Rattle.std.specs.List.{All}
use Rattle.std.specs.Option.{option_map}
use Rattle.std.specs.Str.{IsUtf8, is_utf8}
use Rattle.std.specs.Prelude.{◌==◌, nat_le, is_some, slice_set}
use Rattle.std.proofs.Common.{◌≡◌, ℕ, ◌+◌, ◌<◌, Bool, true, false, cond, List, [], ◌∷◌, ◌++◌, Option, Some, None, Result, Ok, Err, length, map, get_or, refl, ap, sym, subst, ◌∙◌, inl, inr}
use Rattle.std.proofs.lemmas.Bool.{cases_lt}
use Rattle.std.proofs.lemmas.List.{get_or_past}
use Rattle.std.proofs.lemmas.List.Elements.{All-nil, All-cons, All-head, All-tail, All-push, All-set, All-map, All-get_or, All-replicate}
use Rattle.std.proofs.lemmas.Str.{IsUtf8-from_is_utf8}
use Rattle.hy_limits.specs.declared.TheConstants.{MOST_SESSIONS}
use Rattle.hy_value.specs.declared.Value.{Value}
use Rattle.hy_token.specs.declared.Bad.{Bad}
use Rattle.hy_token.specs.declared.Keyword.{Keyword}
use Rattle.hy_token.specs.declared.Span.{Span}
use Rattle.hy_token.specs.declared.Token.{Token}
use Rattle.hy_token.specs.declared.Token.TheVariants as token
use Rattle.hy_token.specs.Token.{token_at}
use Rattle.hy_ast.specs.declared.ColumnDef.{ColumnDef}
use Rattle.hy_ast.specs.declared.Literal.{Literal}
use Rattle.hy_ast.specs.Trees.{Statement}
use Rattle.hy_ast.specs.Trees as tree
use Rattle.hy_parse.specs.Parsing.{Fault, Syntax, BadToken, parsed}
use Rattle.hy_schema.specs.Names.{number_of, table_number}
use Rattle.hy_bound.specs.declared.Bound.{Bound}
use Rattle.hy_bound.specs.declared.Txn.{Txn}
use Rattle.hy_bind.specs.Literals.{literal_value, text_of_span}
use Rattle.hy_bind.specs.Statements.{bound_of}
use Rattle.hy_event.specs.declared.lines.SessionLine.{SessionLine}
use Rattle.hy_event.specs.declared.lines.SessionLine.TheVariants as told
use Rattle.hy_event.specs.Lines.{committing, grown, opened, with_last}
use Rattle.hy_event.specs.Lines as growing
use Rattle.hy_growing.specs.Growing.{pushed}
use Rattle.hy_machine.specs.Sessions.{program_of, session_at}
use Rattle.hy_script.specs.declared.Options.{Options}
use Rattle.hy_script.specs.declared.codes.Code.{Code}
use Rattle.hy_script.specs.declared.codes.Code.TheVariants as code
use Rattle.hy_script.specs.declared.judging.Standing.{Standing}
use Rattle.hy_script.specs.declared.stocks.Stock.{Stock}
use Rattle.hy_script.specs.Growing.{table_def, with_table, with_first_row}
use Rattle.hy_script.specs.Refusals.{create_code, first_row_code, name_in, statement_code, stock_at, with_bound}
use Rattle.hy_script.specs.Stocks.{no_rows, with_row}
use Rattle.hy_serving.specs.declared.Cause.{Cause}
use Rattle.hy_serving.specs.declared.Cause.TheVariants.{Script, NoneOpen}
use Rattle.hy_serving.specs.declared.Desk.{Desk}
use Rattle.hy_serving.specs.declared.Saying.{Saying}
use Rattle.hy_serving.specs.declared.Saying.TheVariants.{Nothing, Ends, Defines, Begins, Says, Closes, Refused}
use Rattle.hy_serving.specs.declared.lines.Heading.{Heading}
use Rattle.hy_serving.specs.declared.lines.Heading.TheVariants as heading
use Rattle.hy_serving.specs.declared.lines.Words.{Words}
use Rattle.hy_serving.specs.declared.lines.Words.TheVariants as words
use Rattle.hy_serving.specs.Lines.{alone, begun_with, cause_behind, heading_of, may_begin, one_statement, unless_followed}
use Rattle.hy_serving.specs.Saying.{begin_cause, begins, begun_in, closes, creates, defines, defines_if_one, desk_after, ended, ends_if_one, first_rows, gives, heard, heard_at, place_at, refuses, says, says_at, says_if_one, says_of, saying, unless_refused, with_session, with_standing}
use Rattle.hy_serving.specs.Saying as desks
use Rattle.hy_setting.specs.Texts.{WhatIsParsedIsUtf8}
use Rattle.hy_stepping.specs.Texts.{AreUtf8, IsUtf8Row, WritesUtf8}
use Rattle.hy_service.specs.Laws.{ServicesAreSound, ServicesCanBeLogged}
use Rattle.hy_service.specs.Service.{Service, after_turn, heard_all, no_programs, noted, opening, session_line, setting_of, settled, taken}
use Rattle.hy_service.specs.Service as service_

-- ---- what is UTF-8

abbrev IsUtf8Stock : Stock → Type 0
IsUtf8Stock stock = All IsUtf8Row stock.rows

abbrev AreUtf8Stocks : List Stock → Type 0
AreUtf8Stocks stocks = All IsUtf8Stock stocks

abbrev IsUtf8Txn : Txn → Type 0
IsUtf8Txn txn = All WritesUtf8 txn.statements

abbrev AreUtf8Programs : List (List Txn) → Type 0
AreUtf8Programs programs = All (λ (txns : List Txn). All IsUtf8Txn txns) programs

abbrev SaysUtf8 : Saying → Type 0
SaysUtf8 Nothing = Unit {0}
SaysUtf8 Ends = Unit {0}
SaysUtf8 Defines = Unit {0}
SaysUtf8 (Begins number read_only name) = Unit {0}
SaysUtf8 (Says number bound) = WritesUtf8 bound
SaysUtf8 (Closes number commits) = Unit {0}
SaysUtf8 (Refused name cause) = Unit {0}

-- what a line says, and the desk that it leaves
abbrev GoesSo : Saying × Desk → Type 0
GoesSo given = SaysUtf8 given.0 × AreUtf8Stocks given.1.sofar.stocks

-- ---- the one statement of a line is parsed from it

-- a statement was parsed at some offset
abbrev IsParsed : List ℕ → Result Statement Code → Type 0
IsParsed line (Ok statement) = (at end : ℕ) × (parsed line at ≡ Ok (statement, end))
IsParsed line (Err cause) = Unit {0}

followed : (line : List ℕ) (at end : ℕ) (statement : Statement) (cause : Option Code) → parsed line at ≡ Ok (statement, end)
    → IsParsed line (unless_followed cause statement)
followed line at end statement None is = (at, end, is)
followed line at end statement (Some cause) is = tt

alone_parsed : (line : List ℕ) (at : ℕ) (found : Result (Statement × ℕ) Fault) → parsed line at ≡ found → IsParsed line (alone line found)
alone_parsed line at (Err (Syntax offset)) is = tt
alone_parsed line at (Err (BadToken offset)) is = tt
alone_parsed line at (Ok (statement, end)) is = followed line at end statement (cause_behind (token_at line end)) is

one_if : (line : List ℕ) (from : ℕ) (may : Bool) → IsParsed line (cond may (alone line (parsed line from)) (Err code.Syntax))
one_if line from true = alone_parsed line from (parsed line from) refl
one_if line from false = tt

begun_parsed : (found : Words) (line : List ℕ) (from : ℕ) (first : Result (Token × Span) Bad) → IsParsed line (begun_with found line from first)
begun_parsed found line from (Err bad) = tt
begun_parsed found line from (Ok (token.Reserved keyword, span)) = one_if line from (may_begin found keyword)
begun_parsed found line from (Ok (token.Name, span)) = tt
begun_parsed found line from (Ok (token.Integer, span)) = tt
begun_parsed found line from (Ok (token.Text, span)) = tt
begun_parsed found line from (Ok (token.Sign sign, span)) = tt
begun_parsed found line from (Ok (token.End, span)) = tt

-- ---- the desk

stock_there : (stocks : List Stock) (number : Option ℕ) → AreUtf8Stocks stocks → IsUtf8Stock (stock_at number stocks)
stock_there stocks None all = All-nil IsUtf8Row
stock_there stocks (Some number) all = elim (cases_lt number (length stocks)) [
  | inl within ↦ All-get_or IsUtf8Stock stocks number (no_rows None) within all
  | inr past ↦ subst IsUtf8Stock (sym (get_or_past stocks number (no_rows None) past)) (All-nil IsUtf8Row)
]

module _ (law : WhatIsParsedIsUtf8) (options : Options) (desk : Desk) (line : List ℕ) (utf8 : IsUtf8 line) (stocks : AreUtf8Stocks desk.sofar.stocks) where
  either : (so : Bool) (one other : Saying × Desk) → GoesSo one → GoesSo other → GoesSo (cond so one other)
  either true one other first second = first
  either false one other first second = second

  unless : (name : Option (List ℕ)) (cause : Option Cause) (done : Saying × Desk) → GoesSo done → GoesSo (unless_refused desk name cause done)
  unless name None done goes = goes
  unless name (Some cause) done goes = (tt, stocks)

  begun : (name : List ℕ) (read_only : Bool) (found : Option ℕ) → GoesSo (begins desk name read_only found)
  begun name read_only None =
      either (nat_le MOST_SESSIONS (length desk.sofar.names)) (refuses desk (Some name) (Script code.Limit))
      (Begins (length desk.sofar.names) read_only (Some name), with_session desk name read_only) (tt, stocks) (tt, stocks)
  begun name read_only (Some number) =
      unless (Some name) (begin_cause (place_at desk number)) (Begins number read_only None, begun_in desk number read_only) (tt, stocks)

  closed : (name : List ℕ) (commits : Bool) (found : Option ℕ) → GoesSo (closes desk name commits found)
  closed name commits None = (tt, stocks)
  closed name commits (Some number) =
      either (is_some (place_at desk number).standing) (Closes number commits, ended number desk) (refuses desk (Some name) NoneOpen) (tt, stocks) (tt, stocks)

  said_at : (name : List ℕ) (number at end : ℕ) (statement : Statement) → parsed line at ≡ Ok (statement, end) → (found : Option Standing)
      → GoesSo (says_at desk line name number statement found)
  said_at name number at end statement is None = (tt, stocks)
  said_at name number at end statement is (Some standing) =
      unless (Some name) (option_map Script (statement_code line desk.sofar.catalog standing statement)) (
        Says number (bound_of line desk.sofar.catalog statement),
        with_standing desk number (Some (with_bound standing (bound_of line desk.sofar.catalog statement))),
      )
      (law.statements line at end desk.sofar.catalog statement utf8 is, stocks)

  said_of : (name : List ℕ) (at end : ℕ) (statement : Statement) → parsed line at ≡ Ok (statement, end) → (found : Option ℕ)
      → GoesSo (says_of desk line name statement found)
  said_of name at end statement is None = (tt, stocks)
  said_of name at end statement is (Some number) = said_at name number at end statement is (place_at desk number).standing

  said : (name : List ℕ) (at end : ℕ) (statement : Statement) → parsed line at ≡ Ok (statement, end) → GoesSo (says desk line name statement)
  said name at end (tree.Begin read_only) is = begun name read_only (number_of desk.sofar.names name)
  said name at end tree.Commit is = closed name true (number_of desk.sofar.names name)
  said name at end tree.Rollback is = closed name false (number_of desk.sofar.names name)
  said name at end (tree.Create table columns) is = (tt, stocks)
  said name at end (tree.Session other) is = (tt, stocks)
  said name at end (tree.Schedule turns) is = (tt, stocks)
  said name at end tree.End is = (tt, stocks)
  said name at end (tree.Select selection) is = said_of name at end (tree.Select selection) is (number_of desk.sofar.names name)
  said name at end (tree.Insert table values) is = said_of name at end (tree.Insert table values) is (number_of desk.sofar.names name)
  said name at end (tree.Update table sets test) is = said_of name at end (tree.Update table sets test) is (number_of desk.sofar.names name)
  said name at end (tree.Delete table test) is = said_of name at end (tree.Delete table test) is (number_of desk.sofar.names name)
  said name at end (tree.Savepoint saved) is = said_of name at end (tree.Savepoint saved) is (number_of desk.sofar.names name)
  said name at end (tree.RollbackTo saved) is = said_of name at end (tree.RollbackTo saved) is (number_of desk.sofar.names name)
  said name at end (tree.Release saved) is = said_of name at end (tree.Release saved) is (number_of desk.sofar.names name)

  said_if_one : (name : List ℕ) (found : Result Statement Code) → IsParsed line found → GoesSo (says_if_one desk line name found)
  said_if_one name (Ok statement) is = said name is.0 is.1 statement is.2
  said_if_one name (Err cause) is = (tt, stocks)

  created : (table : Span) (columns : List ColumnDef) → GoesSo (creates desk line table columns)
  created table columns =
      unless None (option_map Script (create_code line desk.sofar table columns))
      (Defines, record desk { sofar = with_table desk.sofar (table_def line table columns) })
      (tt, All-push IsUtf8Stock desk.sofar.stocks (no_rows (table_def line table columns).key) stocks (All-nil IsUtf8Row))

  given : (at end : ℕ) (table : Span) (values : List Literal) → parsed line at ≡ Ok (tree.Insert table values, end)
      → GoesSo (gives options desk line (tree.Insert table values) table values)
  given at end table values is =
      let row : List Value = map (literal_value line) values in
      let stock : Stock = stock_at (table_number desk.sofar.catalog (text_of_span line table)) desk.sofar.stocks in
      unless None (option_map Script (first_row_code line options desk.sofar (tree.Insert table values) table values))
      (Defines, record desk { sofar = with_first_row line desk.sofar table values }) (
        tt,
        All-set IsUtf8Stock desk.sofar.stocks _ (with_row stock row)
            (All-push IsUtf8Row stock.rows row (stock_there desk.sofar.stocks (table_number desk.sofar.catalog (text_of_span line table)) stocks)
            (law.rows line at end table values utf8 is)) stocks,
      )

  defined : (at end : ℕ) (statement : Statement) → parsed line at ≡ Ok (statement, end) → GoesSo (defines options desk line statement)
  defined at end (tree.Create table columns) is = created table columns
  defined at end (tree.Insert table values) is = given at end table values is
  defined at end tree.End is = (tt, stocks)
  defined at end _ is = (tt, stocks)

  defined_if_one : (found : Result Statement Code) → IsParsed line found → GoesSo (defines_if_one options desk line found)
  defined_if_one (Ok statement) is = defined is.0 is.1 statement is.2
  defined_if_one (Err cause) is = (tt, stocks)

  ends_one : (found : Result Statement Code) → SaysUtf8 (ends_if_one found)
  ends_one (Err cause) = tt
  ends_one (Ok tree.End) = tt
  ends_one (Ok _) = tt

  headed : (first : Heading) → GoesSo (heard_at options desk line first)
  headed heading.Blank = (tt, stocks)
  headed heading.Bad = (tt, stocks)
  headed heading.Bare =
      either (length desk.sofar.names == 0) (defines_if_one options desk line (one_statement words.Defining line 0))
      (ends_if_one (one_statement words.Ending line 0), desk)
      (defined_if_one (one_statement words.Defining line 0) (begun_parsed words.Defining line 0 (token_at line 0)))
      (ends_one (one_statement words.Ending line 0), stocks)
  headed (heading.Named span) =
      said_if_one (name_in line span) (one_statement words.Session line (span.end + 1))
      (begun_parsed words.Session line (span.end + 1) (token_at line (span.end + 1)))

-- ---- a line, whatever its bytes are

heard_if : WhatIsParsedIsUtf8 → (options : Options) (desk : Desk) (line : List ℕ) → AreUtf8Stocks desk.sofar.stocks → (text : Bool) → is_utf8 line ≡ text
    → GoesSo (cond text (heard_at options desk line (heading_of line (token_at line 0))) (refuses desk None (Script code.NotUtf8)))
heard_if law options desk line stocks true is =
    headed law options desk line (IsUtf8-from_is_utf8 line is) stocks (heading_of line (token_at line 0))
heard_if law options desk line stocks false is = (tt, stocks)

heard_utf8 : WhatIsParsedIsUtf8 → (options : Options) (desk : Desk) (line : List ℕ) → AreUtf8Stocks desk.sofar.stocks → GoesSo (heard options desk line)
heard_utf8 law options desk line stocks = heard_if law options desk line stocks (is_utf8 line) refl

-- ---- a script that is a line longer

abbrev TellsUtf8 : Option (ℕ × SessionLine) → Type 0
TellsUtf8 None = Unit {0}
TellsUtf8 (Some (number, told.Begin read_only)) = Unit {0}
TellsUtf8 (Some (number, told.Statement bound)) = WritesUtf8 bound
TellsUtf8 (Some (number, told.Commit)) = Unit {0}
TellsUtf8 (Some (number, told.Rollback)) = Unit {0}

tells : (what : Saying) → SaysUtf8 what → TellsUtf8 (session_line what)
tells Nothing is = tt
tells Ends is = tt
tells Defines is = tt
tells (Begins number read_only name) is = tt
tells (Says number bound) is = is
tells (Closes number true) is = tt
tells (Closes number false) is = tt
tells (Refused name cause) is = tt

all_last : {A : Type 0} (P : A → Type 0) (change : A → A) (xs : List A) → ((x : A) → P x → P (change x)) → All P xs → All P (with_last change xs)
all_last P change [] keeps all = all
all_last P change (x ∷ []) keeps all = All-cons P (change x) [] (keeps x (All-head P x [] all)) (All-nil P)
all_last P change (x ∷ y ∷ xs) keeps all =
    All-cons P x (with_last change (y ∷ xs)) (All-head P x (y ∷ xs) all) (all_last P change (y ∷ xs) keeps (All-tail P x (y ∷ xs) all))

grown_utf8 : (number : ℕ) (line : SessionLine) (txns : List Txn) → TellsUtf8 (Some (number, line)) → All IsUtf8Txn txns → All IsUtf8Txn (grown line txns)
grown_utf8 number (told.Begin read_only) txns is all = All-push IsUtf8Txn txns (opened read_only) all (All-nil WritesUtf8)
grown_utf8 number (told.Statement bound) txns is all =
    all_last IsUtf8Txn (growing.with_statement bound) txns (λ txn own. All-push WritesUtf8 txn.statements bound own is) all
grown_utf8 number told.Commit txns is all = all_last IsUtf8Txn committing txns (λ txn own. own) all
grown_utf8 number told.Rollback txns is all = all

program_utf8 : (programs : List (List Txn)) (number : ℕ) → AreUtf8Programs programs → All IsUtf8Txn (get_or programs number [])
program_utf8 programs number all = elim (cases_lt number (length programs)) [
  | inl within ↦ All-get_or (λ (txns : List Txn). All IsUtf8Txn txns) programs number [] within all
  | inr past ↦ subst (λ (txns : List Txn). All IsUtf8Txn txns) (sym (get_or_past programs number [] past)) (All-nil IsUtf8Txn)
]

-- ---- services

record IsUtf8Service (service : Service) : Type 0 where
  stocks : AreUtf8Stocks service.desk.sofar.stocks
  programs : AreUtf8Programs service.programs

settled_utf8 : (so : Bool) (number : ℕ) (service : Service) → IsUtf8Service service
    → IsUtf8Service (cond so service (record service { desk = ended number service.desk }))
settled_utf8 true number service is = is
settled_utf8 false number service is = record { stocks = is.stocks; programs = is.programs }

taken_utf8 : (options : Options) (service : Service) (found : Option (ℕ × SessionLine)) → TellsUtf8 found → IsUtf8Service service
    → IsUtf8Service (taken options service found)
taken_utf8 options service None tells is = is
taken_utf8 options service (Some (number, line)) tells is =
    let next : Service = after_turn (pushed (setting_of options service) number line) service number in
    settled_utf8 (is_some (session_at next.state number).now) number next (record {
      stocks = is.stocks;
      programs = All-set (λ (txns : List Txn). All IsUtf8Txn txns) service.programs number (grown line (program_of (setting_of options service) number))
          (grown_utf8 number line (program_of (setting_of options service) number) tells (program_utf8 service.programs number is.programs)) is.programs;
    })

line_utf8 : WhatIsParsedIsUtf8 → (options : Options) (service : Service) (line : List ℕ) → IsUtf8Service service
    → IsUtf8Service (service_.heard options service line)
line_utf8 law options service line is =
    let goes = heard_utf8 law options service.desk line is.stocks in
    taken_utf8 options (noted options service line) (session_line (saying options service.desk line)) (tells (saying options service.desk line) goes.0)
    (record { stocks = goes.1; programs = is.programs })

either_service : (so : Bool) (one other : Service) → IsUtf8Service one → IsUtf8Service other → IsUtf8Service (cond so one other)
either_service true one other first second = first
either_service false one other first second = second

lines_utf8 : WhatIsParsedIsUtf8 → (options : Options) (service : Service) (lines : List (List ℕ)) → IsUtf8Service service
    → IsUtf8Service (heard_all options service lines)
lines_utf8 law options service [] is = is
lines_utf8 law options service (line ∷ lines) is =
    either_service (service_.ends (saying options service.desk line)) service (heard_all options (service_.heard options service line) lines) is
    (lines_utf8 law options (service_.heard options service line) lines (line_utf8 law options service line is))

opening_utf8 : (options : Options) → IsUtf8Service (opening options)
opening_utf8 options = record {
  stocks = All-nil IsUtf8Stock;
  programs = All-replicate (λ (txns : List Txn). All IsUtf8Txn txns) MOST_SESSIONS [] (All-nil IsUtf8Txn);
}

texts_of : (service : Service) → IsUtf8Service service → AreUtf8 (first_rows service.desk) service.programs
texts_of service is = record {
  rows = All-map (λ (rows : List (List Value)). All IsUtf8Row rows) (λ (stock : Stock). stock.rows) service.desk.sofar.stocks is.stocks;
  statements = is.programs;
}

pub services_logged : ServicesAreSound → WhatIsParsedIsUtf8 → ServicesCanBeLogged
services_logged sound law options lines sized = record {
  typed = (sound options lines sized).typed;
  texts = texts_of (heard_all options (opening options) lines) (lines_utf8 law options (opening options) lines (opening_utf8 options));
}
