-- Reading a script, statement by statement, up to END or to the first refusal.
use Rattle.std.specs.Prelude.{◌≡◌, ℕ, zero, suc, ◌+◌, ◌<◌, ◌≤◌, Bool, true, false, ◌==◌, List, Option, Some, None, Result, Ok, Err, length, take, count_by, if◌then◌else◌}
use Rattle.std.specs.Str.{IsUtf8}
use Rattle.hy_token.specs.declared.Bad.{Bad}
use Rattle.hy_token.specs.declared.Keyword.{Keyword}
use Rattle.hy_token.specs.declared.Keyword.TheVariants as word
use Rattle.hy_token.specs.declared.Span.{Span}
use Rattle.hy_token.specs.declared.Token.{Token}
use Rattle.hy_token.specs.declared.Token.TheVariants as token
use Rattle.hy_token.specs.Token.{token_at}
use Rattle.hy_ast.specs.Trees.{Statement}
use Rattle.hy_ast.specs.Trees as tree
use Rattle.hy_parse.specs.Parsing.{Fault, Syntax, BadToken, parsed}
use Rattle.hy_script.specs.declared.Options.{Options}
use Rattle.hy_script.specs.declared.Script.{Script}
use Rattle.hy_script.specs.declared.Refused.{Refused}
use Rattle.hy_script.specs.declared.ReadError.{ReadError}
use Rattle.hy_script.specs.declared.ReadError.TheVariants as errors
use Rattle.hy_script.specs.declared.sofar.Section.{Section}
use Rattle.hy_script.specs.declared.sofar.Section.TheVariants.{Defining, Between, Within, Scheduled}
use Rattle.hy_script.specs.declared.sofar.SoFar.{SoFar}
use Rattle.hy_script.specs.declared.codes.Code.{Code}
use Rattle.hy_script.specs.declared.codes.Code.TheVariants as code
use Rattle.hy_script.specs.declared.reading.Halt.{Halt}
use Rattle.hy_script.specs.declared.reading.Halt.TheVariants as halts
use Rattle.hy_script.specs.declared.reading.Step.{Step}
use Rattle.hy_script.specs.declared.reading.Step.TheVariants as steps
use Rattle.hy_script.specs.Refusals.{refusal_in}
use Rattle.hy_script.specs.Growing.{nothing, after, script_of}
use Rattle.hy_limits.specs.declared.TheConstants.{MOST_BYTES}

-- whether a statement that begins with this word may stand there
abbrev pub may_define : Keyword → Bool
may_define word.Create = true
may_define word.Insert = true
may_define word.Session = true
may_define word.Schedule = true
may_define word.End = true
may_define _ = false

abbrev pub may_stand_between : Keyword → Bool
may_stand_between word.Begin = true
may_stand_between word.Session = true
may_stand_between word.Schedule = true
may_stand_between word.End = true
may_stand_between _ = false

abbrev pub may_stand_within : Keyword → Bool
may_stand_within word.Select = true
may_stand_within word.Insert = true
may_stand_within word.Update = true
may_stand_within word.Delete = true
may_stand_within word.Commit = true
may_stand_within word.Rollback = true
may_stand_within word.Savepoint = true
may_stand_within word.Release = true
may_stand_within _ = false

abbrev pub is_end : Keyword → Bool
is_end word.End = true
is_end _ = false

abbrev pub may_stand_at : Section → Keyword → Bool
may_stand_at Defining keyword = may_define keyword
may_stand_at (Between session) keyword = may_stand_between keyword
may_stand_at (Within session txn) keyword = may_stand_within keyword
may_stand_at Scheduled keyword = is_end keyword

-- a refusal: its cause and its offset in the script
pub record Stop : Type 0 where
  pub code : Code
  pub at : ℕ

abbrev pub stop : Code → ℕ → Stop
stop code at = record { code = code; at = at }

-- what comes of the next statement: the script is read or refused, or it goes on from an offset
pub data Next : Type 0 where
  Read : (script : Script) → Next
  Refuse : (at : Stop) → Next
  GoOn : (sofar : SoFar) (at : ℕ) → Next

-- behind END nothing stands
abbrev pub at_end_of : Result (Token × Span) Bad → Script → Next
at_end_of (Err bad) script = Refuse (stop code.NoEnd bad.at)
at_end_of (Ok (token.End, span)) script = Read script
at_end_of (Ok (token, span)) script = Refuse (stop code.NoEnd span.start)

-- whether a statement is END
abbrev pub is_last_of : Statement → Bool
is_last_of tree.End = true
is_last_of _ = false

-- a statement that is not refused: END is the last one
abbrev pub taken : List ℕ → Options → SoFar → Statement → ℕ → Next
taken script options sofar statement end =
    if is_last_of statement then at_end_of (token_at script end) (script_of options sofar) else GoOn (after script sofar statement) end

abbrev pub unless_refused : Option Code → ℕ → Next → Next
unless_refused None at next = next
unless_refused (Some code) at next = Refuse (stop code at)

-- a statement that was parsed, or the fault of its tokens
abbrev pub judged : List ℕ → Options → SoFar → ℕ → Result (Statement × ℕ) Fault → Next
judged script options sofar at (Err (Syntax offset)) = Refuse (stop code.Syntax offset)
judged script options sofar at (Err (BadToken offset)) = Refuse (stop code.BadToken offset)
judged script options sofar at (Ok (statement, end)) = unless_refused (refusal_in script options sofar statement) at (taken script options sofar statement end)

-- the next statement begins with this token
abbrev pub begun_with : List ℕ → Options → SoFar → Token → Span → Next
begun_with script options sofar (token.Reserved keyword) span =
    if may_stand_at sofar.section keyword then judged script options sofar span.start (parsed script span.start) else Refuse (stop code.Syntax span.start)
begun_with script options sofar token.End span = Refuse (stop code.NoEnd span.start)
begun_with script options sofar _ span = Refuse (stop code.Syntax span.start)

abbrev pub next_from : List ℕ → Options → SoFar → Result (Token × Span) Bad → Next
next_from script options sofar (Err bad) = Refuse (stop code.BadToken bad.at)
next_from script options sofar (Ok (token, span)) = begun_with script options sofar token span

-- the statement that stands at an offset
abbrev pub next_at : List ℕ → Options → SoFar → ℕ → Next
next_at script options sofar at = next_from script options sofar (token_at script at)

-- what comes of reading on from an offset, if it comes within so many statements
-- what a step of the program tells of the next statement
abbrev pub Comes : Result Step Halt → Next → Options → SoFar → Type 0
Comes (Ok steps.End) next options new = next ≡ Read (script_of options new)
Comes (Ok (steps.GoOn end)) next options new = next ≡ GoOn new end
Comes (Err (halts.Refused code at)) next options new = next ≡ Refuse (stop code at)
Comes (Err halts.OutOfMemory) next options new = Unit {0}

-- and it goes on behind the offset, within the script
abbrev pub Goes : ℕ → ℕ → Step → Type 0
Goes at length steps.End = Unit {0}
Goes at length (steps.GoOn end) = (at < end) × (end ≤ length)

-- what it tells of what stands behind END
abbrev pub Ends : Result (Unit {0}) Halt → Next → Script → Type 0
Ends (Ok done) next script = next ≡ Read script
Ends (Err (halts.Refused code at)) next script = next ≡ Refuse (stop code at)
Ends (Err halts.OutOfMemory) next script = ⊥

unfoldable pub answer_within : ℕ → List ℕ → Options → Next → Option (Result Script Stop)
answer_within most script options (Read read) = Some (Ok read)
answer_within most script options (Refuse at) = Some (Err at)
answer_within zero script options (GoOn sofar at) = None
answer_within (suc most) script options (GoOn sofar at) = answer_within most script options (next_at script options sofar at)

abbrev pub is_feed : ℕ → Bool
is_feed b = b == 10

-- the line of an offset: one more than the line feeds before it
abbrev pub line_at : List ℕ → ℕ → ℕ
line_at script offset = count_by is_feed (take offset script) + 1

abbrev pub refused : List ℕ → Stop → Refused
refused script at = record { line = line_at script at.at; code = at.code }

-- the script that the bytes spell, or the refusal
abbrev pub answered : List ℕ → Result Script Stop → Result Script Refused
answered script (Ok read) = Ok read
answered script (Err at) = Err (refused script at)

-- what the statements of a script come to
pub record IsRead (script : List ℕ) (options : Options) (answer : Result Script Refused) : Type 0 where
  pub statements : ℕ
  pub found : Result Script Stop
  pub reads : answer_within statements script options (GoOn nothing 0) ≡ Some found
  pub is : answer ≡ answered script found

-- reading bytes gives a script or a refusal: first their number is tested, then that they are UTF-8, then
-- the statements in order
pub data Reads (bytes : List ℕ) (options : Options) : Result Script Refused → Type 0 where
  too_long : MOST_BYTES < length bytes → Reads bytes options (Err (record { line = 1; code = code.TooLong }))
  not_utf8 : length bytes ≤ MOST_BYTES → (IsUtf8 bytes → ⊥) → Reads bytes options (Err (record { line = 1; code = code.NotUtf8 }))
  statements : (answer : Result Script Refused) → length bytes ≤ MOST_BYTES → IsUtf8 bytes → IsRead bytes options answer → Reads bytes options answer

-- what a function answers is what reading comes to, unless memory ran out
abbrev pub Answers : Result Script ReadError → List ℕ → Options → Type 0
Answers (Ok script) bytes options = Reads bytes options (Ok script)
Answers (Err (errors.Refused refusal)) bytes options = Reads bytes options (Err refusal)
Answers (Err errors.OutOfMemory) bytes options = Unit {0}

-- the same of the statements
abbrev pub Says : Result Script ReadError → List ℕ → Options → Type 0
Says (Ok script) bytes options = IsRead bytes options (Ok script)
Says (Err (errors.Refused refusal)) bytes options = IsRead bytes options (Err refusal)
Says (Err errors.OutOfMemory) bytes options = Unit {0}

-- the error that a halt is
abbrev pub error_of_halt : List ℕ → Halt → ReadError
error_of_halt script (halts.Refused code at) = errors.Refused (refused script (stop code at))
error_of_halt script halts.OutOfMemory = errors.OutOfMemory
