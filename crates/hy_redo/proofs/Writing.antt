-- A write and a sync after it are one write, and two calls that leave all as it was are one.
use Rattle.std.proofs.Common.{◌≡◌, ℕ, List, Option, Some, sym, ◌∙◌, arith, inr, ⊎_elim}
use Rattle.hy_disk.specs.Calls.{Stays, Writes, Syncs}

module _ {D : Type 0} (held : D → Option (List ℕ)) (clock : D → ℕ) (image : D → List ℕ → Type 0) (image_since : D → ℕ → List ℕ → Type 0) where
  pub surely : ((disk : D) (bytes : List ℕ) → held disk ≡ Some bytes → image disk bytes) → (at count : ℕ) (before between after : D)
      → Writes clock image image_since at count before between → Syncs held clock image image_since between after → held after ≡ held between
      → Writes clock image image_since at count before after
  surely held_is_image at count before between after w s same = record {
    later = omega (arith, w.later, s.later);
    images = λ bytes now. w.images bytes (s.images bytes now);
    moments = λ time bytes le since.
        ⊎_elim (λ past. w.moments time bytes le past) (λ is. inr (w.images bytes (held_is_image between bytes (sym same ∙ is))))
        (s.moments time bytes (omega (arith, le, w.later)) since);
  }

  pub stays_on : (before between after : D) → Stays clock image image_since before between → Stays clock image image_since between after
      → Stays clock image image_since before after
  stays_on before between after s t = record {
    later = omega (arith, s.later, t.later);
    images = λ bytes now. s.images bytes (t.images bytes now);
    moments = λ time bytes le since. s.moments time bytes le (t.moments time bytes (omega (arith, le, s.later)) since);
  }
