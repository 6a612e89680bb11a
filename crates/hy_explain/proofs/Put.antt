-- Texts that are put one behind another.
use Rattle.std.proofs.Common.{◌≡◌, ℕ, List, ◌++◌, ap, ◌∙◌, append_assoc}

pub two_put : (old a b x y : List ℕ) → x ≡ old ++ a → y ≡ x ++ b → y ≡ old ++ (a ++ b)
two_put old a b x y first second = second ∙ (ap (λ (t : List ℕ). t ++ b) first ∙ append_assoc old a b)

pub three_put : (old a b c x y z : List ℕ) → x ≡ old ++ a → y ≡ x ++ b → z ≡ y ++ c → z ≡ old ++ (a ++ b ++ c)
three_put old a b c x y z first second third = two_put old (a ++ b) c y z (two_put old a b x y first second) third

pub four_put : (old a b c d x y z w : List ℕ) → x ≡ old ++ a → y ≡ x ++ b → z ≡ y ++ c → w ≡ z ++ d → w ≡ old ++ (a ++ b ++ c ++ d)
four_put old a b c d x y z w first second third fourth = two_put old (a ++ b ++ c) d z w (three_put old a b c x y z first second third) fourth
