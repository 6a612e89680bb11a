-- Buffers that texts are appended to.
use Rattle.std.proofs.Common.{◌≡◌, ℕ, List, ◌++◌, length, take, take-take, ap, sym, ◌∙◌, refl, arith}
use Rattle.std.proofs.lemmas.List.{length-take, take_at}
use Rattle.hy_value.specs.Print.{BeginsWith}

-- what begins with a text begins with what that text begins with
pub begins_again : (before middle after : List ℕ) → BeginsWith before middle → BeginsWith middle after → BeginsWith before after
begins_again before middle after h k =
    let front : take (length before) (take (length middle) after) ≡ take (length before) after
    = take-take (length before) (length middle) after (omega (arith, ap length h, length-take {A = ℕ} (length before) middle)) in
    sym front ∙ (ap (take (length before)) k ∙ h)

-- what begins with a text begins with the front of that text
pub begins_from : (before more middle after : List ℕ) → middle ≡ before ++ more → BeginsWith middle after → BeginsWith before after
begins_from before more middle after e h = begins_again before middle after (ap (take (length before)) e ∙ take_at before more (length before) refl) h
