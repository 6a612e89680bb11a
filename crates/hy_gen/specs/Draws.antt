-- The numbers that a script is made from: those of a linear congruential generator.
use Rattle.std.specs.Prelude.{ℕ, ◌+◌, ◌*◌, ◌/◌, ◌%◌, ◌^◌}

-- the state of the generator behind a draw
unfoldable pub next_state : ℕ → ℕ
next_state state = (state * 6364136223846793005 + 1442695040888963407) % 2 ^ 64

-- what is drawn from a state: the upper 32 bits of the next one
unfoldable pub drawn : ℕ → ℕ
drawn state = next_state state / 2 ^ 32
