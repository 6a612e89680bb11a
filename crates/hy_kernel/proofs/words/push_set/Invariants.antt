use Rattle.std.proofs.Common.{◌≡◌, ◌+◌, ◌≤◌, ◌++◌, length}
use Rattle.std.specs.Prelude.{vec_len, vec_capacity}
use Rattle.hy_kernel.specs.Bits.{places_of_word}
use Rattle.hy_kernel.proofs.words.push_set.Given as goal

-- those so far and those that are left are all of the word's
abbrev pub invariant-loop-rest : goal.invariant-loop-rest
invariant-loop-rest l = record {
  found : l.found.items ++ places_of_word l.rest l.first
      ≡ l.fn.found.items ++ places_of_word l.word l.first;
  few : vec_len l.found + length (places_of_word l.rest l.first) ≤ vec_len l.fn.found + 64;
  room : vec_capacity l.found ≡ vec_capacity l.fn.found;
}

-- one of them less at each turn
abbrev pub decreases-loop-rest : goal.decreases-loop-rest
decreases-loop-rest l = length (places_of_word l.rest l.first)
