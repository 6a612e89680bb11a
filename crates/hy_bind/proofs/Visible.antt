-- The ONs of a SELECT, one after the other.
use Rattle.std.proofs.Common.{◌≡◌, ℕ, suc, ◌+◌, ◌<◌, List, Option, length, get_or, drop, sym, ap, ◌∙◌, arith}
use Rattle.hy_ast.specs.declared.Join.{Join}
use Rattle.hy_bind.specs.declared.refusals.BindFault.{BindFault}
use Rattle.hy_bind.specs.Refusals.{first_of}
use Rattle.hy_bind.specs.Scope.{Scope}
use Rattle.hy_bind.specs.Statements.{visible, join_fault, joins_fault}
use Rattle.hy_bind.proofs.Firsts.{at_next}

-- from an ON on, its refusal and those of the rest
pub joins_next : (scope shown : Scope) (joins : List Join) (i : ℕ) (d : Join) (one : Option BindFault) → i < length joins → shown ≡ visible scope (i + 2) → one ≡ join_fault shown (get_or joins i d)
    → joins_fault scope (i + 2) (drop i joins) ≡ first_of one (joins_fault scope (i + 1 + 2) (drop (i + 1) joins))
joins_next scope shown joins i d one within seen is =
    let count : suc (i + 2) ≡ i + 1 + 2 = omega arith in
    at_next (joins_fault scope (i + 2)) joins i d within
    ∙ ap (λ n. first_of (join_fault (visible scope (i + 2)) (get_or joins i d)) (joins_fault scope n (drop (i + 1) joins))) count
    ∙ ap (λ s. first_of (join_fault s (get_or joins i d)) (joins_fault scope (i + 1 + 2) (drop (i + 1) joins))) (sym seen)
    ∙ ap (λ o. first_of o (joins_fault scope (i + 1 + 2) (drop (i + 1) joins))) (sym is)
