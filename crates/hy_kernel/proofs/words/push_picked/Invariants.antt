use Rattle.std.proofs.Common.{◌≡◌, ℕ, ◌+◌, ◌≤◌, ◌<◌, ◌++◌, length}
use Rattle.std.specs.Prelude.{vec_len, vec_capacity}
use Rattle.std.specs.List.{All}
use Rattle.hy_kernel.specs.Bits.{places_of_word, values_at}
use Rattle.hy_kernel.proofs.words.push_picked.Given as goal

-- the numbers at those so far and at those that are left are those at all of the word's
abbrev pub invariant-loop-rest : goal.invariant-loop-rest
invariant-loop-rest l = record {
  found : l.found.items ++ values_at l.values (places_of_word l.rest l.first)
      ≡ l.fn.found.items ++ values_at l.values (places_of_word l.word l.first);
  within : All (λ (place : ℕ). place < length l.values) (places_of_word l.rest l.first);
  few : vec_len l.found + length (places_of_word l.rest l.first) ≤ vec_len l.fn.found + 64;
  room : vec_capacity l.found ≡ vec_capacity l.fn.found;
}

-- one of them less at each turn
abbrev pub decreases-loop-rest : goal.decreases-loop-rest
decreases-loop-rest l = length (places_of_word l.rest l.first)
