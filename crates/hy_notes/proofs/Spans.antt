-- Blocks from one on up to another.
use Rattle.std.proofs.Common.{◌≡◌, ℕ, zero, suc, ◌+◌, List, [], ◌∷◌, ◌++◌, take, drop, refl, sym, ap, ◌∙◌, arith, append_assoc, subst}
use Rattle.std.specs.Global.{Vec}
use Rattle.hy_value.specs.declared.change.Change.{Change}
use Rattle.hy_notes.specs.Notes.{order_of}
use Rattle.hy_notes.specs.Blocks.{joined, AreBehind}
use Rattle.std.specs.declared.cmp.Ordering.TheVariants.{Greater}
use Rattle.hy_notes.proofs.Joined.{all_right}

pub joined_cut : (xs : List (Vec Change)) (n : ℕ) → joined xs ≡ joined (take n xs) ++ joined (drop n xs)
joined_cut xs zero = refl
joined_cut [] (suc n) = refl
joined_cut (x ∷ xs) (suc n) =
    ap (λ (ns : List Change). x.items ++ ns) (joined_cut xs n) ∙ sym (append_assoc x.items (joined (take n xs)) (joined (drop n xs)))

-- some of the blocks from one on, and those behind them
pub joined_span : (xs : List (Vec Change)) (a m n : ℕ) → n ≡ a + m → joined (drop a xs) ≡ joined (take m (drop a xs)) ++ joined (drop n xs)
joined_span [] a m n e = none a m n
  where
    none : (a m n : ℕ) → ◌≡◌ {A = List Change} (joined (drop a [])) (joined (take m (drop a [])) ++ joined (drop n []))
    none zero zero zero = refl
    none zero zero (suc n) = refl
    none zero (suc m) zero = refl
    none zero (suc m) (suc n) = refl
    none (suc a) zero zero = refl
    none (suc a) zero (suc n) = refl
    none (suc a) (suc m) zero = refl
    none (suc a) (suc m) (suc n) = refl
joined_span (x ∷ xs) zero m n e =
    let same : m ≡ n = omega (arith, e) in
    joined_cut (x ∷ xs) m ∙ ap (λ (k : ℕ). joined (take m (x ∷ xs)) ++ joined (drop k (x ∷ xs))) same
joined_span (x ∷ xs) (suc a) m zero e = absurd (omega (arith, e))
joined_span (x ∷ xs) (suc a) m (suc n) e = joined_span xs a m n (omega (arith, e))

pub behind_further : (xs : List (Vec Change)) (a m n table pos : ℕ) → n ≡ a + m → AreBehind table pos (joined (drop a xs)) → AreBehind table pos (joined (drop n xs))
behind_further xs a m n table pos e all =
    all_right (λ note. order_of note table pos ≡ Greater) (joined (take m (drop a xs))) (joined (drop n xs)) (subst (AreBehind table pos) (joined_span xs a m n e) all)
