-- The sign that stands first depends on the first two bytes alone.
use Rattle.std.proofs.Common.{◌≡◌, ℕ, ◌<◌, ◌≤◌, List, [], ◌∷◌, length, get_or, None, refl, arith}
use Rattle.hy_token.specs.Sign.{sign_of}

pub no_sign : (bytes : List ℕ) → length bytes < 1 → sign_of bytes ≡ None
unfolding sign_of
no_sign [] none = refl
no_sign (byte ∷ bytes) none = absurd (omega (arith, none))

pub first_two : (bytes : List ℕ) → 2 ≤ length bytes → sign_of (get_or bytes 0 0 ∷ get_or bytes 1 0 ∷ []) ≡ sign_of bytes
unfolding sign_of
first_two [] two = absurd (omega (arith, two))
first_two (byte ∷ []) two = absurd (omega (arith, two))
first_two (byte ∷ next ∷ bytes) two = refl
