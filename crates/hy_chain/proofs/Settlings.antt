-- Pruning record by record comes to the pruned chain, and a chain of which each record stays is pruned.
use Rattle.std.proofs.Common.{◌≡◌, ℕ, zero, suc, ◌-◌, ◌<◌, Bool, true, false, List, [], ◌∷◌, ◌++◌, length, get_or, Option, None, Some, refl, ap, ◌∙◌, arith}
use Rattle.slab.specs.Slab.{Slab, get}
use Rattle.hy_prune.specs.declared.Cover.{Cover}
use Rattle.hy_prune.specs.declared.Fate.{Fate}
use Rattle.hy_prune.specs.declared.Fate.TheVariants.{Keep, Merge, Drop}
use Rattle.hy_prune.specs.Fates.{fate_of}
use Rattle.hy_chain.specs.Chains.{Undo}
use Rattle.hy_chain.specs.declared.lists.Node.{Node}
use Rattle.hy_chain.specs.Links.{walk}
use Rattle.hy_chain.specs.Pruning.{alone, joined, joined_to, mark_of, by_fate, pruned_behind, pruned}
use Rattle.hy_chain.specs.Settling.{hand_after, aside_after, put_back, stays_whole, SecondMerges, with_newest_joined}
use Rattle.hy_chain.proofs.Linking.{opened}
use Rattle.hy_chain.proofs.Steps.{keep_step, merge_step}

-- by a record's fate, whether a chain from it on stays whole
stays_by : (fate : Fate) (rest : Bool) → by_fate fate rest false false ≡ true → (fate ≡ Keep) × (rest ≡ true)
stays_by Keep rest h = (refl, h)
stays_by Merge rest h = absurd (cc)
stays_by Drop rest h = absurd (cc)

pub keeps_by : (fate : Fate) (rest : Bool) → fate ≡ Keep → by_fate fate rest false false ≡ rest
keeps_by fate rest e = ap (λ (f : Fate). by_fate f rest false false) e

module _ {D : Type 0} (merged : D → D → D) (cover : Cover) where
  by_each : (fate : Fate) (kept : Option (Undo D)) (undo : Undo D) (chain aside : List (Undo D))
      → put_back (aside_after fate kept aside) (pruned_behind merged cover (hand_after merged fate kept undo) chain)
      ≡ put_back aside (by_fate fate (alone kept ++ pruned_behind merged cover (Some undo) chain)
      (pruned_behind merged cover (joined_to merged kept undo) chain) (pruned_behind merged cover kept chain))
  by_each Keep None undo chain aside = refl
  by_each Keep (Some k) undo chain aside = refl
  by_each Merge kept undo chain aside = refl
  by_each Drop kept undo chain aside = refl

  -- what is aside, in front of what is left of the rest, is the same after each record
  pub settled : (kept : Option (Undo D)) (undo : Undo D) (chain aside : List (Undo D))
      → put_back (aside_after (fate_of cover (mark_of kept) undo.stamp.mark) kept aside)
      (pruned_behind merged cover (hand_after merged (fate_of cover (mark_of kept) undo.stamp.mark) kept undo) chain)
      ≡ put_back aside (pruned_behind merged cover kept (undo ∷ chain))
  settled kept undo chain aside = by_each (fate_of cover (mark_of kept) undo.stamp.mark) kept undo chain aside

  -- where each record stays, the pruned chain is the chain
  pub unchanged : (kept : Option (Undo D)) (chain : List (Undo D)) → stays_whole cover (mark_of kept) chain ≡ true → pruned_behind merged cover kept chain ≡ alone kept ++ chain
  unchanged None [] h = refl
  unchanged (Some undo) [] h = refl
  unchanged kept (undo ∷ chain) h =
      let w = stays_by (fate_of cover (mark_of kept) undo.stamp.mark) _ h in
      keep_step merged cover kept undo chain w.0 ∙ ap (λ (rest : List (Undo D)). alone kept ++ rest) (unchanged (Some undo) chain w.1)

  -- where only the second record merges, the pruned chain has the newest two as one
  pub joins : (chain : List (Undo D)) → SecondMerges cover chain → pruned merged cover chain ≡ with_newest_joined merged chain
  joins [] h = absurd h
  joins (newer ∷ []) h = absurd h
  joins (newer ∷ older ∷ rest) h =
      keep_step merged cover None newer (older ∷ rest) h.0
      ∙ (merge_step merged cover (Some newer) older rest h.1 ∙ unchanged (Some (joined merged newer older)) rest h.2)

-- there are two records where the second one merges
pub two_there : {D : Type 0} (cover : Cover) (chain : List (Undo D)) → SecondMerges cover chain → 1 < length chain
two_there cover [] h = absurd h
two_there cover (newer ∷ []) h = absurd h
two_there cover (newer ∷ older ∷ rest) h = omega arith

-- a chain in a slab, by its newest record
pub stays_on : {D : Type 0} (cover : Cover) (kept : Option ℕ) (nodes : Slab (Node D)) (len key : ℕ) (node : Node D) → 0 < len → get nodes key ≡ Some node
    → fate_of cover kept node.stamp.mark ≡ Keep
    → stays_whole cover kept (walk nodes len key) ≡ stays_whole cover (Some node.stamp.mark) (walk nodes (len - 1) node.older)
stays_on {D} cover kept nodes len key node some at e =
    ap (λ (chain : List (Undo D)). stays_whole cover kept chain) (opened nodes len key node some at) ∙ keeps_by _ _ e

-- lists are the same where they are as long and have the same at each place
pub same_lists : {A : Type 0} (xs ys : List A) (d : A) → length xs ≡ length ys → ((i : ℕ) → get_or xs i d ≡ get_or ys i d) → xs ≡ ys
same_lists [] [] d e h = refl
same_lists [] (y ∷ ys) d e h = absurd (omega (arith, e))
same_lists (x ∷ xs) [] d e h = absurd (omega (arith, e))
same_lists {A} (x ∷ xs) (y ∷ ys) d e h =
    let first : x ≡ y = h zero in
    ap (λ (z : A). z ∷ xs) first ∙ ap (λ (zs : List A). y ∷ zs) (same_lists xs ys d (omega (arith, e)) (λ i. h (suc i)))
