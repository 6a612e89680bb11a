-- Pruning, record by record.
use Rattle.std.proofs.Common.{◌≡◌, List, ◌∷◌, ◌++◌, Option, Some, ap}
use Rattle.hy_prune.specs.declared.Cover.{Cover}
use Rattle.hy_prune.specs.declared.Fate.{Fate}
use Rattle.hy_prune.specs.declared.Fate.TheVariants.{Keep, Merge, Drop}
use Rattle.hy_prune.specs.Fates.{fate_of}
use Rattle.hy_chain.specs.Chains.{Undo}
use Rattle.hy_chain.specs.Pruning.{mark_of, alone, joined_to, by_fate, pruned_behind}

module _ {D : Type 0} (merged : D → D → D) (cover : Cover) (kept : Option (Undo D)) (undo : Undo D) (chain : List (Undo D)) where
  pub keep_step : fate_of cover (mark_of kept) undo.stamp.mark ≡ Keep
      → pruned_behind merged cover kept (undo ∷ chain) ≡ alone kept ++ pruned_behind merged cover (Some undo) chain
  keep_step e = ap (λ (f : Fate). by_fate f (alone kept ++ pruned_behind merged cover (Some undo) chain)
      (pruned_behind merged cover (joined_to merged kept undo) chain) (pruned_behind merged cover kept chain)) e

  pub merge_step : fate_of cover (mark_of kept) undo.stamp.mark ≡ Merge
      → pruned_behind merged cover kept (undo ∷ chain) ≡ pruned_behind merged cover (joined_to merged kept undo) chain
  merge_step e = ap (λ (f : Fate). by_fate f (alone kept ++ pruned_behind merged cover (Some undo) chain)
      (pruned_behind merged cover (joined_to merged kept undo) chain) (pruned_behind merged cover kept chain)) e

  pub drop_step : fate_of cover (mark_of kept) undo.stamp.mark ≡ Drop
      → pruned_behind merged cover kept (undo ∷ chain) ≡ pruned_behind merged cover kept chain
  drop_step e = ap (λ (f : Fate). by_fate f (alone kept ++ pruned_behind merged cover (Some undo) chain)
      (pruned_behind merged cover (joined_to merged kept undo) chain) (pruned_behind merged cover kept chain)) e
