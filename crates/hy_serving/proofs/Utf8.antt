-- Whether bytes are UTF-8.
use Rattle.std.proofs.Common.{◌≡◌, ℕ, Bool, true, false, Result, Ok, Err, List, refl, sym}
use Rattle.std.proofs.lemmas.Str.{IsUtf8-from_is_utf8, is_utf8-from_IsUtf8}
use Rattle.std.specs.Prelude.{is_ok, MatchResult}
use Rattle.std.specs.Str.{IsUtf8, is_utf8}

refused : (bytes : List ℕ) (told : Bool) → is_utf8 bytes ≡ told → (IsUtf8 bytes → ⊥) → told ≡ false
refused bytes true is none = absurd (none (IsUtf8-from_is_utf8 bytes is))
refused bytes false is none = refl

-- what reading bytes as a text comes to
pub read_is_text : {T E : Type 0} (bytes : List ℕ) (r : Result T E) (P : T → Type 0) (Q : E → Type 0)
    → MatchResult r (λ t. P t × IsUtf8 bytes) (λ e. (IsUtf8 bytes → ⊥) × Q e) → is_ok r ≡ is_utf8 bytes
read_is_text bytes (Ok t) P Q cases = sym (is_utf8-from_IsUtf8 bytes cases.1)
read_is_text bytes (Err e) P Q cases = sym (refused bytes (is_utf8 bytes) refl cases.0)
