-- Reading comes to an answer: each statement that is read ends behind its offset, within the script.
use Rattle.std.specs.Prelude.{MatchResult}
use Rattle.std.specs.Str.{IsUtf8, is_utf8}
use Rattle.std.proofs.Common.{◌≡◌, ℕ, zero, suc, ◌+◌, ◌<◌, ◌≤◌, ◌⊎◌, inl, inr, List, Some, Result, Ok, Err, length, refl, sym, subst, ◌∙◌, arith}
use Rattle.std.proofs.lemmas.Bool.{cases_Bool, cases_lt}
use Rattle.std.proofs.lemmas.Str.{IsUtf8-from_is_utf8, is_utf8-from_IsUtf8}
use Rattle.hy_ast.specs.Trees.{Statement}
use Rattle.hy_parse.specs.Parsing.{parsed}
use Rattle.hy_script.specs.declared.Options.{Options}
use Rattle.hy_script.specs.declared.Refused.{Refused}
use Rattle.hy_script.specs.declared.Script.{Script}
use Rattle.hy_script.specs.declared.sofar.SoFar.{SoFar}
use Rattle.hy_script.specs.declared.codes.Code.TheVariants as code
use Rattle.hy_script.specs.Growing.{nothing, after, script_of}
use Rattle.hy_script.specs.Reading.{Stop, Next, GoOn, next_at, answer_within, answered, IsRead, Reads, too_long, not_utf8, statements}
use Rattle.hy_limits.specs.declared.TheConstants.{MOST_BYTES}
use Rattle.hy_script.proofs.Steps.{Stands, Step, refuses, goes_on, ends, stepped}
use Rattle.hy_token.specs.Token.{token_at, MovesOn}

-- tokens stand behind the offset where they are looked for
abbrev pub TokensMoveOn : Type 0
TokensMoveOn = (bytes : List ℕ) (at : ℕ) → at ≤ length bytes → MatchResult (token_at bytes at) (λ found. MovesOn (length bytes) at found.0 found.1) (λ bad. (at ≤ bad.at) × (bad.at < length bytes))

-- statements end behind the offset where they are looked for
abbrev pub StatementsMoveOn : Type 0
StatementsMoveOn = (bytes : List ℕ) (at : ℕ) (s : Statement) (end : ℕ) → at ≤ length bytes → parsed bytes at ≡ Ok (s, end) → (at < end) × (end ≤ length bytes)

module _ (tokens : TokensMoveOn) (parsing : StatementsMoveOn) (script : List ℕ) (options : Options) where
  -- a statement that is read ends behind the offset, within the script
  moves : (sofar : SoFar) (at : ℕ) (statement : Statement) (end : ℕ) → at ≤ length script → Stands script options sofar at statement end → (at < end) × (end ≤ length script)
  moves sofar at statement end within stands =
      let section : (at ≤ stands.span.start) × (stands.span.start < stands.span.end) × (stands.span.end ≤ length script) =
      subst (λ found. MatchResult found (λ found. MovesOn (length script) at found.0 found.1) (λ bad. (at ≤ bad.at) × (bad.at < length script))) stands.begun (tokens script at within) in
      let ends = parsing script stands.span.start statement end (omega (arith, section.1, section.2)) stands.parses in
      (omega (arith, section.0, ends.0), ends.1)

  -- as many statements are enough as there are bytes from the offset on, and one
  answer_from : (most : ℕ) (sofar : SoFar) (at : ℕ) → at ≤ length script → length script < most + at → (found : Result Script Stop) × (answer_within most script options (GoOn sofar at) ≡ Some found)
  unfolding answer_within
  answer_from zero sofar at within enough = absurd (omega (arith, within, enough))
  answer_from (suc most) sofar at within enough = go (next_at script options sofar at) (stepped script options sofar at) (answer_from most)
    where
      go : (next : Next) → Step script options sofar at next
          → ((new : SoFar) (end : ℕ) → end ≤ length script → length script < most + end → (found : Result Script Stop) × (answer_within most script options (GoOn new end) ≡ Some found))
          → (found : Result Script Stop) × (answer_within most script options next ≡ Some found)
      go _ (refuses why) rest = (Err why, refl)
      go _ (goes_on statement end stands last) rest =
          let moved = moves sofar at statement end within stands in
          rest (after script sofar statement) end moved.1 (omega (arith, enough, moved.0))
      go _ (ends statement end span stands last behind) rest = (Ok (script_of options sofar), refl)

  -- reading the statements comes to an answer
  pub statements_answer : (answer : Result Script Refused) × IsRead script options answer
  statements_answer =
      let found = answer_from (suc (length script)) nothing 0 (omega arith) (omega arith) in
      (answered script found.0, record { statements = suc (length script); found = found.0; reads = found.1; is = refl })

-- bytes are UTF-8 or they are not
utf8_or_not : (bytes : List ℕ) → IsUtf8 bytes ⊎ (IsUtf8 bytes → ⊥)
utf8_or_not bytes = elim (cases_Bool (is_utf8 bytes)) [
  | inl is ↦ inl (IsUtf8-from_is_utf8 bytes is)
  | inr is ↦ inr (λ utf8. let e = sym (is_utf8-from_IsUtf8 bytes utf8) ∙ is in absurd (cc e))
]

-- reading any bytes comes to an answer
pub some_answer : TokensMoveOn → StatementsMoveOn → (bytes : List ℕ) (options : Options) → (answer : Result Script Refused) × Reads bytes options answer
some_answer tokens parsing bytes options = elim (cases_lt MOST_BYTES (length bytes)) [
  | inl long ↦ (Err (record { line = 1; code = code.TooLong }), too_long long)
  | inr short ↦ elim (utf8_or_not bytes) [
    | inr bad ↦ (Err (record { line = 1; code = code.NotUtf8 }), not_utf8 short bad)
    | inl good ↦ (let read = statements_answer tokens parsing bytes options in (read.0, statements read.0 short good read.1))
  ]
]
