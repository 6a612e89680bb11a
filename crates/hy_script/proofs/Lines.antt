-- The line of an offset.
use Rattle.std.specs.Prelude.{IfOk}
use Rattle.std.proofs.Common.{◌≡◌, ℕ, ◌<◌, ◌≤◌, List, Result, Ok, Err, length, take}
use Rattle.hy_ast.specs.Trees.{Statement}
use Rattle.hy_parse.specs.declared.ParseError.{ParseError}
use Rattle.hy_parse.specs.Parsing.{Gives, parsed}
use Rattle.std.proofs.lemmas.List.{take_all}

-- an offset at the end or behind it has the whole script before it
pub whole : (script : List ℕ) (at : ℕ) → length script ≤ at → take at script ≡ script
whole script at h = take_all at script h

-- what is parsed ends behind the offset where it begins, within the script
pub moves : (script : List ℕ) (at : ℕ) (statement : Statement) (result : Result ℕ ParseError) → at ≤ length script
    → ((bytes : List ℕ) (from : ℕ) (s : Statement) (end : ℕ) → from ≤ length bytes → parsed bytes from ≡ Ok (s, end) → (from < end) × (end ≤ length bytes))
    → Gives (λ (end : ℕ). (statement, end)) result (parsed script at) → IfOk result (λ end. (at < end) × (end ≤ length script))
moves script at statement (Ok end) inside law gives = law script at statement end inside gives
moves script at statement (Err error) inside law gives = tt
