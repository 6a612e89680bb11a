-- A statement that is not refused has none of the refusals.
use Rattle.std.specs.Prelude.{nat_le}
use Rattle.std.specs.List.{All}
use Rattle.std.proofs.Common.{◌≡◌, Bool, true, false, cond, Option, None, Some, List, [], ◌∷◌, refl}
use Rattle.std.proofs.lemmas.List.Elements.{All-nil, All-cons}
use Rattle.hy_bind.specs.declared.refusals.BindFault.{BindFault}
use Rattle.hy_bind.specs.Refusals.{rank, first_of, fault_if}
use Rattle.hy_bind.specs.Statements.{first_of_all}

never : (b : Bool) (x y : BindFault) → cond b (Some x) (Some y) ≡ None → ⊥
never true x y h = absurd cc
never false x y h = absurd cc

-- of two refusals neither
pub neither : (one other : Option BindFault) → first_of one other ≡ None → (one ≡ None) × (other ≡ None)
neither None other h = (refl, h)
neither (Some x) None h = absurd cc
neither (Some x) (Some y) h = absurd (never (nat_le (rank x) (rank y)) x y h)

-- what would be refused is not so
pub not_so : (so : Bool) (x : BindFault) → fault_if so x ≡ None → so ≡ false
not_so true x h = absurd cc
not_so false x h = refl

-- none of these is refused
pub none_of_all : {A : Type 0} (f : A → Option BindFault) (xs : List A) → first_of_all f xs ≡ None → All (λ x. f x ≡ None) xs
none_of_all f [] h = All-nil (λ x. f x ≡ None)
none_of_all f (x ∷ xs) h = let parts = neither (f x) (first_of_all f xs) h in All-cons (λ y. f y ≡ None) x xs parts.0 (none_of_all f xs parts.1)
