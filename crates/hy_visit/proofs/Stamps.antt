-- What a chain's stamps alone tell: that marks fall, and how many are below a time.
use Rattle.std.proofs.Common.{◌≡◌, ℕ, ◌+◌, ◌<◌, List, [], ◌∷◌, map, refl, sym, ap, ◌∙◌, cond}
use Rattle.std.proofs.lemmas.List.Sums.{sum_by-cons}
use Rattle.std.specs.Prelude.{count_by, nat_lt}
use Rattle.std.specs.List.{AllByRecursion}
use Rattle.hy_stamp.specs.declared.Stamp.{Stamp}
use Rattle.hy_chain.specs.Chains.{Undo, Falls, Under}
use Rattle.hy_undo.specs.Images.{Image}

abbrev pub UnderStamps : ℕ → List Stamp → Type 0
UnderStamps mark stamps = AllByRecursion (λ stamp. stamp.mark < mark) stamps

abbrev pub FallsStamps : List Stamp → Type 0
FallsStamps [] = Unit {0}
FallsStamps (stamp ∷ stamps) = UnderStamps stamp.mark stamps × FallsStamps stamps

abbrev pub stamps_in : List (Undo Image) → List Stamp
stamps_in chain = map (λ undo. undo.stamp) chain

pub under_of : (mark : ℕ) (chain : List (Undo Image)) → Under mark chain → UnderStamps mark (stamps_in chain)
under_of mark [] h = tt
under_of mark (undo ∷ chain) h = (h.0, under_of mark chain h.1)

pub under_by : (mark : ℕ) (chain : List (Undo Image)) → UnderStamps mark (stamps_in chain) → Under mark chain
under_by mark [] h = tt
under_by mark (undo ∷ chain) h = (h.0, under_by mark chain h.1)

pub falls_of : (chain : List (Undo Image)) → Falls chain → FallsStamps (stamps_in chain)
falls_of [] h = tt
falls_of (undo ∷ chain) h = (under_of undo.stamp.mark chain h.0, falls_of chain h.1)

pub falls_by : (chain : List (Undo Image)) → FallsStamps (stamps_in chain) → Falls chain
falls_by [] h = tt
falls_by (undo ∷ chain) h = (under_by undo.stamp.mark chain h.0, falls_by chain h.1)

-- as many are below a time as of the stamps
pub count_of : (next : ℕ) (chain : List (Undo Image))
    → count_by (λ undo. nat_lt undo.stamp.mark next) chain ≡ count_by (λ stamp. nat_lt stamp.mark next) (stamps_in chain)
count_of next [] = refl
count_of next (undo ∷ chain) =
    sum_by-cons (λ (one : Undo Image). cond (nat_lt one.stamp.mark next) 1 0) undo chain
    ∙ ap (λ (n : ℕ). cond (nat_lt undo.stamp.mark next) 1 0 + n) (count_of next chain)
    ∙ sym (sum_by-cons (λ (stamp : Stamp). cond (nat_lt stamp.mark next) 1 0) undo.stamp (stamps_in chain))
