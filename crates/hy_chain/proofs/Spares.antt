-- Chains that are the first of some lists.
use Rattle.std.proofs.Common.{◌≡◌, ℕ, ◌<◌, List, [], length, get_or, take, ap, ◌∙◌, sym, arith, length-take}
use Rattle.std.proofs.Math.ListN.{set}
use Rattle.std.proofs.Math.Seq.{take-set-lt}
use Rattle.std.proofs.lemmas.List.{get_or-take}

-- a change of one of the first lists is one of the chains that these are
pub chain_changed : {X : Type 0} (n : ℕ) (old new value : List (List X)) (pos : ℕ) (f : List X → List X) → take n old ≡ value → pos < length value
    → new ≡ set old pos (f (get_or old pos [])) → take n new ≡ set value pos (f (get_or value pos []))
chain_changed {X} n old new value pos f is within e =
    let less : pos < n = omega (arith, ap length is, length-take {A = List X}) in
    let same : get_or value pos [] ≡ get_or old pos [] = ap (λ (xs : List (List X)). get_or xs pos []) (sym is) ∙ get_or-take n old pos [] less in
    ap (take n) e ∙ (take-set-lt n old pos (f (get_or old pos [])) less
    ∙ (ap (λ (xs : List (List X)). set xs pos (f (get_or old pos []))) is ∙ ap (λ (c : List X). set value pos (f c)) (sym same)))
