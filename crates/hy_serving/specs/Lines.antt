-- Where the statement of a line stands, and what it is.
use Rattle.std.specs.Prelude.{◌≡◌, ℕ, ◌<◌, Bool, true, false, ◌==◌, List, slice_get, Option, Some, None, Result, Ok, Err, if◌then◌else◌}
use Rattle.hy_token.specs.declared.Bad.{Bad}
use Rattle.hy_token.specs.declared.Keyword.{Keyword}
use Rattle.hy_token.specs.declared.Keyword.TheVariants as word
use Rattle.hy_token.specs.declared.Span.{Span}
use Rattle.hy_token.specs.declared.Token.{Token}
use Rattle.hy_token.specs.declared.Token.TheVariants as token
use Rattle.hy_token.specs.Token.{token_at}
use Rattle.hy_ast.specs.Trees.{Statement, statement_of}
use Rattle.hy_ast.specs.declared.Statement.{Statement as Ast}
use Rattle.hy_parse.specs.Parsing.{Fault, Syntax, BadToken, parsed}
use Rattle.hy_script.specs.declared.codes.Code.{Code}
use Rattle.hy_script.specs.declared.codes.Code.TheVariants as code
use Rattle.hy_serving.specs.declared.lines.Heading.{Heading}
use Rattle.hy_serving.specs.declared.lines.Heading.TheVariants as heading
use Rattle.hy_serving.specs.declared.lines.Words.{Words}
use Rattle.hy_serving.specs.declared.lines.Words.TheVariants as words

-- 58 is the colon
abbrev pub has_colon : Option ℕ → Bool
has_colon None = false
has_colon (Some byte) = byte == 58

-- what stands first in a line: a name with a colon right behind it is that of a session
abbrev pub heading_of : List ℕ → Result (Token × Span) Bad → Heading
heading_of line (Err bad) = heading.Bad
heading_of line (Ok (token.End, span)) = heading.Blank
heading_of line (Ok (token.Name, span)) = if has_colon (slice_get line span.end) then heading.Named span else heading.Bare
heading_of line (Ok _) = heading.Bare

-- the colon stands in the line
abbrev pub IsBehindName : ℕ → Heading → Type 0
IsBehindName len (heading.Named span) = span.end < len
IsBehindName len _ = Unit {0}

-- the words with which a statement may begin
abbrev pub may_define : Keyword → Bool
may_define word.Create = true
may_define word.Insert = true
may_define word.End = true
may_define _ = false

abbrev pub is_end : Keyword → Bool
is_end word.End = true
is_end _ = false

abbrev pub may_stand_in_session : Keyword → Bool
may_stand_in_session word.Begin = true
may_stand_in_session word.Commit = true
may_stand_in_session word.Rollback = true
may_stand_in_session word.Select = true
may_stand_in_session word.Insert = true
may_stand_in_session word.Update = true
may_stand_in_session word.Delete = true
may_stand_in_session word.Savepoint = true
may_stand_in_session word.Release = true
may_stand_in_session _ = false

abbrev pub may_begin : Words → Keyword → Bool
may_begin words.Defining word = may_define word
may_begin words.Ending word = is_end word
may_begin words.Session word = may_stand_in_session word

-- behind the one statement of a line nothing stands but space and comments
abbrev pub cause_behind : Result (Token × Span) Bad → Option Code
cause_behind (Err bad) = Some code.BadToken
cause_behind (Ok (token.End, span)) = None
cause_behind (Ok _) = Some code.Syntax

abbrev pub unless_followed : Option Code → Statement → Result Statement Code
unless_followed None statement = Ok statement
unless_followed (Some cause) statement = Err cause

abbrev pub alone : List ℕ → Result (Statement × ℕ) Fault → Result Statement Code
alone line (Err (Syntax at)) = Err code.Syntax
alone line (Err (BadToken at)) = Err code.BadToken
alone line (Ok (statement, end)) = unless_followed (cause_behind (token_at line end)) statement

-- the statement that begins with this token, which stands first from an offset on
abbrev pub begun_with : Words → List ℕ → ℕ → Result (Token × Span) Bad → Result Statement Code
begun_with words line from (Err bad) = Err code.BadToken
begun_with words line from (Ok (token.Reserved keyword, span)) = if may_begin words keyword then alone line (parsed line from) else Err code.Syntax
begun_with words line from (Ok _) = Err code.Syntax

-- the one statement that stands in a line from an offset on, which begins with one of these words, or why there is none
abbrev pub one_statement : Words → List ℕ → ℕ → Result Statement Code
one_statement words line from = begun_with words line from (token_at line from)

-- what the program finds
abbrev pub Finds : Result Ast Code → Result Statement Code → Type 0
Finds (Ok ast) found = found ≡ Ok (statement_of ast)
Finds (Err cause) found = found ≡ Err cause
