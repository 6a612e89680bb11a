-- What the calls of a disk do to the images that a crash may leave, now and at each moment since a time.
use Rattle.std.specs.Prelude.{◌≡◌, ◌⊎◌, ℕ, ◌≤◌, List, Option, Some}
use Rattle.hy_disk.specs.Bytes.{Touched}

-- some image among these was touched in the range, and became this
abbrev pub TouchedOf : ℕ → ℕ → (List ℕ → Type 0) → List ℕ → Type 0
TouchedOf at count images new = (old : List ℕ) × images old × Touched at count old new

-- Time goes on, and nothing else: no image is more, nor any since a time before.
pub record Stays {D : Type 0} (clock : D → ℕ) (image : D → List ℕ → Type 0) (image_since : D → ℕ → List ℕ → Type 0) (before after : D) : Type 0 where
  pub later : clock before ≤ clock after
  pub images : (bytes : List ℕ) → image after bytes → image before bytes
  pub moments : (time : ℕ) (bytes : List ℕ) → time ≤ clock before → image_since after time bytes → image_since before time bytes

-- Each image may be touched in the range that is written: after the call, and at each moment of it.
pub record Writes {D : Type 0} (clock : D → ℕ) (image : D → List ℕ → Type 0) (image_since : D → ℕ → List ℕ → Type 0)
    (at count : ℕ) (before after : D) : Type 0 where
  pub later : clock before ≤ clock after
  pub images : (bytes : List ℕ) → image after bytes → TouchedOf at count (image before) bytes
  pub moments : (time : ℕ) (bytes : List ℕ) → time ≤ clock before → image_since after time bytes
      → image_since before time bytes ⊎ TouchedOf at count (image before) bytes

-- No image is more, nor any since a time before but what a read gives.
pub record Syncs {D : Type 0} (held : D → Option (List ℕ)) (clock : D → ℕ) (image : D → List ℕ → Type 0)
    (image_since : D → ℕ → List ℕ → Type 0) (before after : D) : Type 0 where
  pub later : clock before ≤ clock after
  pub images : (bytes : List ℕ) → image after bytes → image before bytes
  pub moments : (time : ℕ) (bytes : List ℕ) → time ≤ clock before → image_since after time bytes
      → image_since before time bytes ⊎ (held after ≡ Some bytes)

-- a crash leaves what a read gives, and nothing else
abbrev pub IsDurable : Option (List ℕ) → (List ℕ → Type 0) → Type 0
IsDurable held images = (bytes : List ℕ) → images bytes → held ≡ Some bytes
