-- Where a statement ends.
use Rattle.std.specs.Prelude.{IfOk}
use Rattle.std.proofs.Common.{◌≡◌, ℕ, ◌<◌, ◌≤◌, List, Result, Ok, Err, length}
use Rattle.hy_ast.specs.declared.Statement as boxed_statement
use Rattle.hy_ast.specs.Trees.{Statement, statement_of}
use Rattle.hy_parse.specs.declared.ParseError.{ParseError}
use Rattle.hy_parse.specs.Parsing.{Gives, parsed}

-- what is parsed ends within the line
pub ends_within : (line : List ℕ) (from : ℕ) (result : Result (boxed_statement.Statement × ℕ) ParseError) → from ≤ length line
    → ((bytes : List ℕ) (at : ℕ) (s : Statement) (end : ℕ) → at ≤ length bytes → parsed bytes at ≡ Ok (s, end) → (at < end) × (end ≤ length bytes))
    → Gives (λ (found : boxed_statement.Statement × ℕ). (statement_of found.0, found.1)) result (parsed line from) → IfOk result (λ found. found.1 ≤ length line)
ends_within line from (Ok found) inside law gives = (law line from (statement_of found.0) found.1 inside gives).1
ends_within line from (Err error) inside law gives = tt
