-- What is so before any statement, and stays so with each one that is taken, is so of a script that is read.
use Rattle.std.specs.Prelude.{◌↔◌}
use Rattle.std.proofs.Common.{◌≡◌, ℕ, zero, suc, Bool, true, false, cond, List, Option, Some, None, Result, Ok, Err, refl, sym, subst, ◌∙◌}
use Rattle.hy_token.specs.declared.Bad.{Bad}
use Rattle.hy_token.specs.declared.Span.{Span}
use Rattle.hy_token.specs.declared.Token.{Token}
use Rattle.hy_token.specs.declared.Token.TheVariants as token
use Rattle.hy_token.specs.Token.{token_at}
use Rattle.hy_ast.specs.Trees.{Statement}
use Rattle.hy_parse.specs.Grammar.{IsGrouped}
use Rattle.hy_parse.specs.Parsing.{Fault, Syntax, BadToken, parsed, Parses}
use Rattle.hy_script.specs.declared.Options.{Options}
use Rattle.hy_script.specs.declared.Script.{Script}
use Rattle.hy_script.specs.declared.Refused.{Refused}
use Rattle.hy_script.specs.declared.codes.Code.{Code}
use Rattle.hy_script.specs.declared.sofar.SoFar.{SoFar}
use Rattle.hy_script.specs.Refusals.{refusal_in}
use Rattle.hy_script.specs.Growing.{nothing, after, script_of}
use Rattle.hy_script.specs.Reading.{may_stand_at, Stop, Next, Read, Refuse, GoOn, at_end_of, is_last_of, taken, unless_refused, judged, next_from}
use Rattle.hy_script.specs.Reading.{next_at, answer_within, answered, Reads, too_long, not_utf8, statements}

-- what holds of all that is read so far holds at first, stays with each statement that is taken, and gives what
-- holds of a whole script
pub record Holds (script : List ℕ) (options : Options) (P : SoFar → Type 0) (Q : Script → Type 0) : Type 0 where
  pub parsing : (bytes : List ℕ) (at : ℕ) (s : Statement) (end : ℕ) → (parsed bytes at ≡ Ok (s, end)) ↔ Parses bytes at s end
  pub first : P nothing
  pub kept : (sofar : SoFar) (s : Statement) → IsGrouped s → refusal_in script options sofar s ≡ None → P sofar → P (after script sofar s)
  pub whole : (sofar : SoFar) → P sofar → Q (script_of options sofar)

-- it holds of what comes next
abbrev HoldsNext : (SoFar → Type 0) → (Script → Type 0) → Next → Type 0
HoldsNext P Q (Read script) = Q script
HoldsNext P Q (Refuse at) = Unit {0}
HoldsNext P Q (GoOn sofar at) = P sofar

module _ (script : List ℕ) (options : Options) (P : SoFar → Type 0) (Q : Script → Type 0) (holds : Holds script options P Q) where
  end_holds : (found : Result (Token × Span) Bad) (read : Script) → Q read → HoldsNext P Q (at_end_of found read)
  end_holds (Err bad) read h = tt
  end_holds (Ok (token.End, span)) read h = h
  end_holds (Ok (_, span)) read h = tt

  taken_holds : (sofar : SoFar) (s : Statement) (end : ℕ) (last : Bool) → IsGrouped s → refusal_in script options sofar s ≡ None → P sofar
      → HoldsNext P Q (cond last (at_end_of (token_at script end) (script_of options sofar)) (GoOn (after script sofar s) end))
  taken_holds sofar s end true grouped h p = end_holds (token_at script end) (script_of options sofar) (holds.whole sofar p)
  taken_holds sofar s end false grouped h p = holds.kept sofar s grouped h p

  unless_holds : (sofar : SoFar) (s : Statement) (at end : ℕ) (refusal : Option Code) → refusal_in script options sofar s ≡ refusal → IsGrouped s → P sofar
      → HoldsNext P Q (unless_refused refusal at (taken script options sofar s end))
  unless_holds sofar s at end None h grouped p = taken_holds sofar s end (is_last_of s) grouped h p
  unless_holds sofar s at end (Some code) h grouped p = tt

  judged_holds : (sofar : SoFar) (at : ℕ) (parse : Result (Statement × ℕ) Fault) → ((s : Statement) (end : ℕ) → parse ≡ Ok (s, end) → IsGrouped s)
      → P sofar → HoldsNext P Q (judged script options sofar at parse)
  judged_holds sofar at (Err (Syntax offset)) grouped p = tt
  judged_holds sofar at (Err (BadToken offset)) grouped p = tt
  judged_holds sofar at (Ok (s, end)) grouped p = unless_holds sofar s at end (refusal_in script options sofar s) refl (grouped s end refl) p

  stands_holds : (stands : Bool) (next : Next) (why : Stop) → HoldsNext P Q next → HoldsNext P Q (cond stands next (Refuse why))
  stands_holds true next why h = h
  stands_holds false next why h = tt

  found_holds : (sofar : SoFar) (found : Result (Token × Span) Bad) → P sofar → HoldsNext P Q (next_from script options sofar found)
  found_holds sofar (Err bad) p = tt
  found_holds sofar (Ok (token.Reserved k, span)) p =
      stands_holds (may_stand_at sofar.section k) (judged script options sofar span.start (parsed script span.start)) _
      (judged_holds sofar span.start (parsed script span.start)
      (λ s end parses. ((holds.parsing script span.start s end).0 parses).written.grouped) p)
  found_holds sofar (Ok (_, span)) p = tt

  read_holds : (most : ℕ) (next : Next) (read : Script) → HoldsNext P Q next → answer_within most script options next ≡ Some (Ok read) → Q read
  unfolding answer_within
  read_holds most (Read found) read p h = let same : found ≡ read = cc in subst Q same p
  read_holds most (Refuse at) read p h = absurd cc
  read_holds zero (GoOn sofar at) read p h = absurd cc
  read_holds (suc most) (GoOn sofar at) read p h = read_holds most (next_at script options sofar at) read (found_holds sofar (token_at script at) p) h

  answer_holds : (read : Script) (most : ℕ) (found : Result Script Stop) → answer_within most script options (GoOn nothing 0) ≡ Some found
      → Ok read ≡ answered script found → Q read
  answer_holds read most (Ok found) h is = let same : found ≡ read = cc in subst Q same (read_holds most (GoOn nothing 0) found holds.first h)
  answer_holds read most (Err at) h is = absurd cc

  reads_hold : (answer : Result Script Refused) (read : Script) → answer ≡ Ok read → Reads script options answer → Q read
  reads_hold _ read is (too_long h) = absurd cc
  reads_hold _ read is (not_utf8 h bad) = absurd cc
  reads_hold _ read is (statements answer short good found) = answer_holds read found.statements found.found found.reads (sym is ∙ found.is)

  -- it holds of a script that the bytes spell
  pub read_script_holds : (read : Script) → Reads script options (Ok read) → Q read
  read_script_holds read reads = reads_hold (Ok read) read refl reads
