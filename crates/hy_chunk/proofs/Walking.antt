-- A step at each position that has to be looked at, one after the other.
use Rattle.std.proofs.Common.{◌≡◌, ℕ, ◌+◌, ◌<◌, ◌≤◌, Bool, List, length, refl, sym, ap, ◌∙◌, subst, arith, inl, inr}
use Rattle.std.proofs.Math.ListN.{set}
use Rattle.std.proofs.lemmas.Bool.{cases_lt}
use Rattle.hy_chain.specs.Chains.{Undo}
use Rattle.hy_undo.specs.Images.{Image}
use Rattle.hy_undo.specs.Places.{Place}
use Rattle.hy_undo.specs.Chunks.{Everywhere}
use Rattle.hy_chunk.specs.Fields.{nth}
use Rattle.hy_chunk.specs.Marks.{IsNextSet}
use Rattle.hy_chunk.specs.Settled.{HoldsUnset}
use Rattle.hy_chunk.proofs.Mapped.{DoneUpTo, one_more, everywhere}

-- a step leaves a position as it is whose chain is so
abbrev pub Leaves : (Place → Place) → (List (Undo Image) → Type 0) → Type 0
Leaves does holds = (p : Place) → holds p.chain → does p ≡ p

-- positions that are passed over have no bit set, and are as their step would leave them
passed : (does : Place → Place) (holds : List (Undo Image) → Type 0) (bits : List Bool) (old now : List Place) (from next : ℕ) → Leaves does holds
    → DoneUpTo does old now from → HoldsUnset holds bits now → IsNextSet bits from next → DoneUpTo does old now next
passed does holds bits old now from next leaves v unset found = record {
  size = v.size;
  done = λ k l m. elim (cases_lt k from) [
    | inl low ↦ v.done k low m
    | inr high ↦ sym (leaves (nth now k) (unset.unset k (omega (arith, m, v.size)) (found.passed k high l))) ∙ ap does (v.rest k high)
  ];
  rest = λ k l. v.rest k (omega (arith, l, found.reached));
}

pub walk_begins : (does : Place → Place) (holds : List (Undo Image) → Type 0) (bits : List Bool) (old : List Place) (place : ℕ) → Leaves does holds
    → HoldsUnset holds bits old → IsNextSet bits 0 place → DoneUpTo does old old place
walk_begins does holds bits old place leaves unset found =
    passed does holds bits old old 0 place leaves (record { size = refl; done = λ k l m. absurd (omega (arith, l)); rest = λ k l. refl }) unset found

pub walk_goes_on : (does : Place → Place) (holds : List (Undo Image) → Type 0) (bits : List Bool) (old now new : List Place) (place next : ℕ)
    → Leaves does holds → DoneUpTo does old now place → place < length now → new ≡ set now place (does (nth now place)) → HoldsUnset holds bits new
    → IsNextSet bits (place + 1) next → DoneUpTo does old new next
walk_goes_on does holds bits old now new place next leaves v within put unset found =
    passed does holds bits old new (place + 1) next leaves (one_more does old now new place within v put) unset found

pub walk_ends : (relates : Place → Place → Type 0) (does : Place → Place) (old new : List Place) (place : ℕ) → DoneUpTo does old new place
    → length old ≤ place → ((k : ℕ) → k < length old → relates (nth old k) (does (nth old k))) → Everywhere relates old new
walk_ends relates does old new place v end each =
    everywhere relates old new v.size (λ k l. subst (relates (nth old k)) (sym (v.done k (omega (arith, l, end)) l)) (each k l))
