-- Pruning record by record: the one in hand, those put aside, and whether all stay where they are, or all but the newest two.
use Rattle.std.specs.Prelude.{◌≡◌, ℕ, List, [], ◌∷◌, ◌++◌, Bool, true, false, Option, None, Some}
use Rattle.hy_prune.specs.declared.Cover.{Cover}
use Rattle.hy_prune.specs.declared.Fate.{Fate}
use Rattle.hy_prune.specs.declared.Fate.TheVariants.{Keep, Merge}
use Rattle.hy_prune.specs.Fates.{fate_of}
use Rattle.hy_chain.specs.declared.lists.Outlook.{Outlook}
use Rattle.hy_chain.specs.declared.lists.Outlook.TheVariants.{Stays, JoinsNewest, Mixed}
use Rattle.hy_chain.specs.Chains.{Undo}
use Rattle.hy_chain.specs.Pruning.{alone, joined, joined_to, by_fate}

-- how many records are in hand
abbrev pub held : {X : Type 0} → Option X → ℕ
held None = 0
held (Some x) = 1

-- the record that is in hand after one of this fate
abbrev pub hand_after : {D : Type 0} → (D → D → D) → Fate → Option (Undo D) → Undo D → Option (Undo D)
hand_after merged fate kept undo = by_fate fate (Some undo) (joined_to merged kept undo) kept

-- the records that are put aside after one of this fate, newest last
abbrev pub aside_after : {D : Type 0} → Fate → Option (Undo D) → List (Undo D) → List (Undo D)
aside_after fate kept aside = by_fate fate (alone kept ++ aside) aside aside

-- records put in front of a chain, one after another
abbrev pub put_back : {X : Type 0} → List X → List X → List X
put_back [] chain = chain
put_back (undo ∷ aside) chain = put_back aside (undo ∷ chain)

-- whether each record stays, the first one behind one of this mark, so that nothing of the chain changes
abbrev pub stays_whole : {D : Type 0} → Cover → Option ℕ → List (Undo D) → Bool
stays_whole cover kept [] = true
stays_whole cover kept (undo ∷ chain) = by_fate (fate_of cover kept undo.stamp.mark) (stays_whole cover (Some undo.stamp.mark) chain) false false

-- the second record of a chain merges into the newest one, and each other one stays
abbrev pub SecondMerges : {D : Type 0} → Cover → List (Undo D) → Type 0
SecondMerges cover [] = ⊥
SecondMerges cover (newer ∷ []) = ⊥
SecondMerges cover (newer ∷ older ∷ rest) =
    (fate_of cover None newer.stamp.mark ≡ Keep) × (fate_of cover (Some newer.stamp.mark) older.stamp.mark ≡ Merge)
    × (stays_whole cover (Some newer.stamp.mark) rest ≡ true)

-- a chain whose newest two records are one
abbrev pub with_newest_joined : {D : Type 0} → (D → D → D) → List (Undo D) → List (Undo D)
with_newest_joined merged [] = []
with_newest_joined merged (newer ∷ []) = newer ∷ []
with_newest_joined merged (newer ∷ older ∷ rest) = joined merged newer older ∷ rest

-- what each outlook says of a chain
abbrev pub Foretells : {D : Type 0} → Outlook → Cover → List (Undo D) → Type 0
Foretells Stays cover chain = stays_whole cover None chain ≡ true
Foretells JoinsNewest cover chain = SecondMerges cover chain
Foretells Mixed cover chain = Unit {0}
