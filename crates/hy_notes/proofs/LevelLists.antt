-- Lists of levels.
use Rattle.std.proofs.Common.{◌≡◌, ℕ, zero, suc, List, [], ◌∷◌, Option, None, Some, get_or, drop, take, map, refl, ap, slice_get}
use Rattle.hy_value.specs.declared.change.Change.{Change}
use Rattle.hy_notes.specs.declared.levels.Levels.{Levels}
use Rattle.hy_notes.specs.Levels.{noted_since, stretches_in, levels_of}

-- the first levels
pub first_levels : (f : ℕ → List Change) (begins : List ℕ) (count : ℕ) → map f (take count begins) ≡ take count (map f begins)
first_levels f begins zero = refl
first_levels f [] (suc count) = refl
first_levels f (k ∷ ks) (suc count) = ap (λ (levels : List (List Change)). f k ∷ levels) (first_levels f ks count)

-- a level that isn't open, and one that is
pub not_open : (f : ℕ → List Change) (begins : List ℕ) (level : ℕ) → ◌≡◌ {A = Option ℕ} (slice_get begins level) None → get_or (map f begins) level [] ≡ []
not_open f [] zero h = refl
not_open f [] (suc level) h = refl
not_open f (k ∷ ks) zero h = absurd (let e = h in cc)
not_open f (k ∷ ks) (suc level) h = not_open f ks level h

pub opened_at : (f : ℕ → List Change) (begins : List ℕ) (level begin : ℕ) → ◌≡◌ {A = Option ℕ} (slice_get begins level) (Some begin) → get_or (map f begins) level [] ≡ f begin
opened_at f [] zero begin h = absurd (let e = h in cc)
opened_at f [] (suc level) begin h = absurd (let e = h in cc)
opened_at f (k ∷ ks) zero begin h = ap f (some_is h)
  where
    some_is : {m n : ℕ} → ◌≡◌ {A = Option ℕ} (Some m) (Some n) → m ≡ n
    some_is e = cc
opened_at f (k ∷ ks) (suc level) begin h = opened_at f ks level begin h

pub same_levels : (levels others : Levels) (ns ms : List Change) → ns ≡ ms → stretches_in levels ≡ stretches_in others → levels.begins.items ≡ others.begins.items
    → levels_of levels ns ≡ levels_of others ms
same_levels levels others ns ms notes stretches begins =
    ap (λ (p : List Change × (List (List Change) × List ℕ)). map (λ begin. noted_since (drop begin p.1.0) p.0) p.1.1) (λ i. (notes i, (stretches i, begins i)))
