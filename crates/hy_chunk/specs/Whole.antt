-- What holds of a chunk at all times, beside its positions.
use Rattle.std.specs.Prelude.{◌≡◌, ℕ, ◌+◌, ◌<◌, ◌^◌, List}
use Rattle.hy_undo.specs.Places.{Place}
use Rattle.hy_chunk.specs.declared.settled.Settled.{Settled}
use Rattle.hy_chunk.specs.Settled.{Settles}

-- its positions are numbered below 2^32, its versions to work on are as wide as the table, and the positions that
-- needn't be looked at are at rest
pub record IsWhole (first many width seen next : ℕ) (settled : Settled) (places : List Place) : Type 0 where
  pub numbered : first + many < 2 ^ 32
  pub wide : seen ≡ width
  pub next_wide : next ≡ width
  pub settles : Settles settled places
