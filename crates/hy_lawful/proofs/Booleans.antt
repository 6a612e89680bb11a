-- Tests that are joined.
use Rattle.std.proofs.Common.{◌≡◌, Bool, true, false, not, refl}
use Rattle.std.specs.Prelude.{◌&&◌, ◌||◌}

pub and_left : (b c : Bool) → (b && c) ≡ true → b ≡ true
and_left true c e = refl
and_left false c e = absurd cc

pub and_right : (b c : Bool) → (b && c) ≡ true → c ≡ true
and_right true c e = e
and_right false c e = absurd cc

pub and_true : (b c : Bool) → b ≡ true → c ≡ true → (b && c) ≡ true
and_true true c e f = f
and_true false c e f = absurd cc

pub or_first : (b c : Bool) → b ≡ true → (b || c) ≡ true
or_first true c e = refl
or_first false c e = absurd cc

pub or_second : (b c : Bool) → c ≡ true → (b || c) ≡ true
or_second true c e = refl
or_second false c e = e

pub or_left : (b c : Bool) → (b || c) ≡ false → b ≡ false
or_left true c e = absurd cc
or_left false c e = refl

pub or_right : (b c : Bool) → (b || c) ≡ false → c ≡ false
or_right true c e = absurd cc
or_right false c e = e

pub not_false : (b : Bool) → not b ≡ false → b ≡ true
not_false true e = refl
not_false false e = absurd cc

pub not_true : (b : Bool) → not b ≡ true → b ≡ false
not_true true e = absurd cc
not_true false e = refl
