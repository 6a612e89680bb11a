-- Chunks in which there is nothing to prune.
use Rattle.std.proofs.Common.{◌≡◌, ℕ, map, refl}
use Rattle.hy_prune.specs.declared.Cover.{Cover}
use Rattle.hy_chain.specs.Pruning.{pruned}
use Rattle.hy_undo.specs.Images.{both}
use Rattle.hy_undo.specs.Places.{Place, stamps}
use Rattle.hy_event.specs.declared.SessionData.{SessionData}
use Rattle.hy_event.specs.Changing.{PrunesFirst}
use Rattle.hy_event.specs.Accounts.{chunk_of}

-- where pruning keeps all stamps of the one position, the chunk stays
pub unpruned : (session : SessionData) (cover : Cover) (first : ℕ) (place : Place)
    → stamps place ≡ map (λ undo. undo.stamp) (pruned both cover place.chain) → PrunesFirst session.prunes cover (chunk_of first place) (chunk_of first place)
unpruned session cover first place kept = record {
  pruned = λ _. record {
    places = (record { stamps = kept; views = λ viewer safe. refl; version = refl; used = refl; death = refl }, tt);
    others = refl;
  };
  kept = λ _. refl;
}
