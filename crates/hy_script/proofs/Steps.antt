-- What a step of reading tells: the statement that stands at an offset, and what follows it.
use Rattle.std.proofs.Common.{◌≡◌, ℕ, Bool, true, false, cond, List, Option, None, Some, Result, Ok, Err, refl}
use Rattle.hy_ast.specs.Trees.{Statement}
use Rattle.hy_parse.specs.Parsing.{Fault, Syntax, BadToken, parsed}
use Rattle.hy_script.specs.declared.Options.{Options}
use Rattle.hy_script.specs.declared.codes.Code.{Code}
use Rattle.hy_script.specs.declared.codes.Code.TheVariants as code
use Rattle.hy_script.specs.declared.sofar.SoFar.{SoFar}
use Rattle.hy_script.specs.Growing.{after, script_of}
use Rattle.hy_script.specs.Reading.{Stop, Next, Read, Refuse, GoOn, stop, may_stand_at, is_last_of, at_end_of, taken, unless_refused, judged, next_from, next_at}
use Rattle.hy_script.specs.Refusals.{refusal_in}
use Rattle.hy_token.specs.declared.Bad.{Bad}
use Rattle.hy_token.specs.declared.Keyword.{Keyword}
use Rattle.hy_token.specs.declared.Span.{Span}
use Rattle.hy_token.specs.declared.Token.{Token}
use Rattle.hy_token.specs.declared.Token.TheVariants as token
use Rattle.hy_token.specs.Token.{token_at}

-- this statement stands at the offset, up to this one, and is not refused
pub record Stands (script : List ℕ) (options : Options) (sofar : SoFar) (at : ℕ) (statement : Statement) (end : ℕ) : Type 0 where
  pub keyword : Keyword
  pub span : Span
  pub begun : token_at script at ≡ Ok (token.Reserved keyword, span)
  pub allowed : may_stand_at sofar.section keyword ≡ true
  pub parses : parsed script span.start ≡ Ok (statement, end)
  pub free : refusal_in script options sofar statement ≡ None

-- what comes of the next statement
pub data Step (script : List ℕ) (options : Options) (sofar : SoFar) (at : ℕ) : Next → Type 0 where
  refuses : (why : Stop) → Step script options sofar at (Refuse why)
  goes_on : (statement : Statement) (end : ℕ) → Stands script options sofar at statement end → is_last_of statement ≡ false
      → Step script options sofar at (GoOn (after script sofar statement) end)
  ends : (statement : Statement) (end : ℕ) (span : Span) → Stands script options sofar at statement end → is_last_of statement ≡ true
      → token_at script end ≡ Ok (token.End, span) → Step script options sofar at (Read (script_of options sofar))

module _ (script : List ℕ) (options : Options) (sofar : SoFar) (at : ℕ) where
  -- END, by what stands behind it
  by_end : (statement : Statement) (end : ℕ) → Stands script options sofar at statement end → is_last_of statement ≡ true
      → (r : Result (Token × Span) Bad) → token_at script end ≡ r → Step script options sofar at (at_end_of r (script_of options sofar))
  by_end statement end stands last (Err bad) found = refuses _
  by_end statement end stands last (Ok (token.End, span)) found = ends statement end span stands last found
  by_end statement end stands last (Ok (other, span)) found = refuses _

  -- a statement that is taken, by whether it is END
  by_last : (statement : Statement) (end : ℕ) → Stands script options sofar at statement end → (last : Bool) → is_last_of statement ≡ last
      → Step script options sofar at (cond last (at_end_of (token_at script end) (script_of options sofar)) (GoOn (after script sofar statement) end))
  by_last statement end stands true last = by_end statement end stands last (token_at script end) refl
  by_last statement end stands false last = goes_on statement end stands last

  -- a statement that was parsed, by its cause
  by_refusal : (statement : Statement) (end : ℕ) (keyword : Keyword) (span : Span) → token_at script at ≡ Ok (token.Reserved keyword, span) → may_stand_at sofar.section keyword ≡ true
      → parsed script span.start ≡ Ok (statement, end) → (code : Option Code) → refusal_in script options sofar statement ≡ code
      → Step script options sofar at (unless_refused code span.start (taken script options sofar statement end))
  by_refusal statement end keyword span begun allowed parses (Some code) is = refuses _
  by_refusal statement end keyword span begun allowed parses None is =
      by_last statement end (record { keyword = keyword; span = span; begun = begun; allowed = allowed; parses = parses; free = is }) (is_last_of statement) refl

  -- by what is parsed
  by_parse : (keyword : Keyword) (span : Span) → token_at script at ≡ Ok (token.Reserved keyword, span) → may_stand_at sofar.section keyword ≡ true
      → (p : Result (Statement × ℕ) Fault) → parsed script span.start ≡ p → Step script options sofar at (judged script options sofar span.start p)
  by_parse keyword span begun allowed (Err (Syntax offset)) is = refuses _
  by_parse keyword span begun allowed (Err (BadToken offset)) is = refuses _
  by_parse keyword span begun allowed (Ok (statement, end)) is = by_refusal statement end keyword span begun allowed is (refusal_in script options sofar statement) refl

  -- a word, by whether it may stand there
  by_word : (keyword : Keyword) (span : Span) → token_at script at ≡ Ok (token.Reserved keyword, span) → (allowed : Bool) → may_stand_at sofar.section keyword ≡ allowed
      → Step script options sofar at (cond allowed (judged script options sofar span.start (parsed script span.start)) (Refuse (stop code.Syntax span.start)))
  by_word keyword span begun true is = by_parse keyword span begun is (parsed script span.start) refl
  by_word keyword span begun false is = refuses _

  -- by the first token
  by_token : (r : Result (Token × Span) Bad) → token_at script at ≡ r → Step script options sofar at (next_from script options sofar r)
  by_token (Err bad) is = refuses _
  by_token (Ok (token.Reserved keyword, span)) is = by_word keyword span is (may_stand_at sofar.section keyword) refl
  by_token (Ok (token.End, span)) is = refuses _
  by_token (Ok (other, span)) is = refuses _

  -- the step at an offset
  pub stepped : Step script options sofar at (next_at script options sofar at)
  stepped = by_token (token_at script at) refl
