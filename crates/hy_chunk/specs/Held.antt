-- All that holds of the positions of a chunk.
use Rattle.std.specs.Prelude.{◌≡◌, ℕ, ◌<◌, ◌^◌, List, Bool, Option, length}
use Rattle.hy_value.specs.declared.Value.{Value}
use Rattle.hy_value.specs.declared.Kind.{Kind}
use Rattle.hy_chain.specs.Chains.{Undo}
use Rattle.hy_index.specs.Indexed.{Indexed}
use Rattle.hy_range.specs.declared.Versioned.{Versioned}
use Rattle.hy_undo.specs.Images.{Image}
use Rattle.hy_undo.specs.Stock.{Stock}
use Rattle.hy_chunk.specs.Keyed.{IsIndexed, SpareKeys, key_kind}
use Rattle.hy_chunk.specs.Ranged.{Covers}
use Rattle.hy_chunk.specs.Sound.{Sound}
use Rattle.hy_chunk.specs.Vacant.{ShowsVacant}

-- the fields are sound, the positions have numbers of 32 bits, the bits show those that may take a row, those that have
-- a record are of the range, the index is one of keys of the key's type, and has those of the used positions, and no
-- before-image has another key
pub record IsHeld (kinds : List Kind) (rows : List (List Value)) (live used : List Bool) (deaths : List ℕ) (chains : List (List (Undo Image)))
    (spare : Stock) (vacant : List Bool) (versioned : Versioned) (key : Option ℕ) (index : Indexed) : Type 0 where
  pub sound : Sound kinds rows live used deaths chains spare
  pub numbered : length rows < 2 ^ 32
  pub vacated : ShowsVacant used live vacant
  pub covered : Covers versioned chains
  pub keyed : index.kind ≡ key_kind kinds key
  pub indexed : IsIndexed key rows used index
  pub spared : SpareKeys key chains
