-- A law: an index among pictures is the index of what is pictured.
use Rattle.std.specs.Prelude.{◌≡◌, ℕ, ◌+◌, Bool, not, cond, nat_lt, List, [], ◌∷◌, Some, None, map, length, refl}
use Rattle.std.proofs.Common.{ap, ◌∙◌}
use Rattle.std.specs.List.{position, prefix_len}
use Rattle.std.proofs.lemmas.List.{length-map}

prefix_map : {A B : Type 0} (p : B → Bool) (f : A → B) (xs : List A) → prefix_len p (map f xs) ≡ prefix_len (λ x. p (f x)) xs
prefix_map p f [] = refl
prefix_map p f (x ∷ xs) = ap (λ n. cond (p (f x)) (1 + n) 0) (prefix_map p f xs)

-- an index among pictures is the index of what is pictured
pub position_map : {A B : Type 0} (test : B → Bool) (f : A → B) (xs : List A) → position test (map f xs) ≡ position (λ x. test (f x)) xs
position_map test f xs = ap (λ (p : ℕ × ℕ). cond (nat_lt p.0 p.1) (Some p.0) None) (ap (λ n. (n, length (map f xs))) (prefix_map (λ y. not (test y)) f xs) ∙ ap (λ l. (prefix_len (λ x. not (test (f x))) xs, l)) (length-map xs f))
