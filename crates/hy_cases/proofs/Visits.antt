-- An UPDATE that visits a position twice counts its row twice.
use Rattle.std.proofs.Common.{◌≡◌, ℕ, [], ◌∷◌, Some, Result, Ok, Err, ap, arith}
use Rattle.hy_bound.specs.Condition.{True}
use Rattle.hy_replay.specs.EffectVisits.{Visited}
use Rattle.hy_cases.specs.Examples.{row_of}
use Rattle.hy_cases.specs.Visits.{RevisitsAddUp, to_two}
use Rattle.hy_bound.specs.declared.Ending.{Ending}

count_of : Result Visited Ending → ℕ
count_of (Err cause) = 0
count_of (Ok visited) = visited.count

abbrev Counted : ℕ → ℕ → Type 0
Counted n m = n ≡ m

pub revisits_fail : RevisitsAddUp → ⊥
unfolding count_of
revisits_fail law =
    let same : Counted 2 1 = ap count_of (law to_two True ((Some (row_of 1) ∷ []) ∷ []) 0 1 0 1 (record { own = []; count = 0 }) (omega arith)) in absurd cc
