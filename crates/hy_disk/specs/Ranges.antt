-- Laws of bytes that are overwritten, offset by offset.
use Rattle.std.proofs.Common.{◌≡◌, ◌⊎◌, inl, inr, ℕ, zero, suc, ◌+◌, ◌-◌, ◌<◌, ◌≤◌, min, List, [], ◌∷◌, ◌++◌, length, take, drop, slice_get}
use Rattle.std.proofs.Common.{refl, ◌∙◌, ap, arith, length-append, length-take, length-drop}
use Rattle.std.proofs.lemmas.Option.{same_Some}
use Rattle.hy_disk.specs.Bytes.{overwritten}

-- two numbers that are equal name one byte
pub at_same : (xs : List ℕ) (i j : ℕ) → i ≡ j → slice_get xs i ≡ slice_get xs j
at_same xs i j same = ap (λ (k : ℕ). slice_get xs k) same

pub in_front : (xs ys : List ℕ) (i : ℕ) → i < length xs → slice_get (xs ++ ys) i ≡ slice_get xs i
in_front [] ys i less = absurd (omega (arith, less))
in_front (x ∷ xs) ys zero less = refl
in_front (x ∷ xs) ys (suc i) less = in_front xs ys i (omega (arith, less))

pub behind : (xs ys : List ℕ) (i : ℕ) → length xs ≤ i → slice_get (xs ++ ys) i ≡ slice_get ys (i - length xs)
behind [] ys i le = at_same ys i (i - 0) (omega arith)
behind (x ∷ xs) ys zero le = absurd (omega (arith, le))
behind (x ∷ xs) ys (suc i) le = behind xs ys i (omega (arith, le)) ∙ at_same ys (i - length xs) (suc i - length (x ∷ xs)) (omega arith)

pub at_taken : (n : ℕ) (xs : List ℕ) (i : ℕ) → i < n → slice_get (take n xs) i ≡ slice_get xs i
at_taken zero xs i less = absurd (omega (arith, less))
at_taken (suc n) [] i less = refl
at_taken (suc n) (x ∷ xs) zero less = refl
at_taken (suc n) (x ∷ xs) (suc i) less = at_taken n xs i (omega (arith, less))

pub at_dropped : (n : ℕ) (xs : List ℕ) (i : ℕ) → slice_get (drop n xs) i ≡ slice_get xs (n + i)
at_dropped zero xs i = at_same xs i (0 + i) (omega arith)
at_dropped (suc n) [] i = refl
at_dropped (suc n) (x ∷ xs) i = at_dropped n xs i ∙ at_same (x ∷ xs) (suc (n + i)) (suc n + i) (omega arith)

module _ (bytes : List ℕ) (at : ℕ) (from : List ℕ) where
  pub length-overwritten : length (overwritten bytes at from) ≡ min at (length bytes) + length from + (length bytes - (at + length from))
  length-overwritten =
      omega (
        arith,
        length-append (take at bytes ++ from) (drop (at + length from) bytes),
        length-append (take at bytes) from,
        length-take at bytes,
        length-drop (at + length from) bytes,
      )

  front_long : at ≤ length bytes → length (take at bytes ++ from) ≡ at + length from
  front_long within = omega (arith, within, length-append (take at bytes) from, length-take at bytes)

  -- outside the range the bytes are the old ones
  pub same_outside : (offset : ℕ) → offset < length bytes → (offset < at) ⊎ (at + length from ≤ offset)
      → slice_get (overwritten bytes at from) offset ≡ slice_get bytes offset
  same_outside offset less (inl before) =
      in_front (take at bytes ++ from) (drop (at + length from) bytes) offset
      (omega (arith, less, before, length-append (take at bytes) from, length-take at bytes))
      ∙ in_front (take at bytes) from offset (omega (arith, less, before, length-take at bytes))
      ∙ at_taken at bytes offset before
  same_outside offset less (inr after) =
      let long : length (take at bytes ++ from) ≡ at + length from = front_long (omega (arith, less, after)) in
      behind (take at bytes ++ from) (drop (at + length from) bytes) offset (omega (arith, long, after))
      ∙ at_dropped (at + length from) bytes (offset - length (take at bytes ++ from))
      ∙ at_same bytes (at + length from + (offset - length (take at bytes ++ from))) offset (omega (arith, long, after))

  -- in the range they are the new ones
  pub new_inside : (offset : ℕ) → at ≤ length bytes → at ≤ offset → offset < at + length from
      → slice_get (overwritten bytes at from) offset ≡ slice_get from (offset - at)
  new_inside offset within low high =
      let front : length (take at bytes) ≡ at = omega (arith, within, length-take at bytes) in
      in_front (take at bytes ++ from) (drop (at + length from) bytes) offset (omega (arith, high, front_long within))
      ∙ behind (take at bytes) from offset (omega (arith, front, low))
      ∙ at_same from (offset - length (take at bytes)) (offset - at) (omega (arith, front))

-- lists that are as long, and the same at each offset, are the same
pub same_bytes : (xs ys : List ℕ) → length xs ≡ length ys → ((offset : ℕ) → offset < length ys → slice_get xs offset ≡ slice_get ys offset) → xs ≡ ys
same_bytes [] [] long each = refl
same_bytes [] (y ∷ ys) long each = absurd (omega (arith, long))
same_bytes (x ∷ xs) [] long each = absurd (omega (arith, long))
same_bytes (x ∷ xs) (y ∷ ys) long each =
    let rest : xs ≡ ys = same_bytes xs ys (omega (arith, long)) (λ offset less. each (suc offset) (omega (arith, less))) in
    ap (λ (z : ℕ). z ∷ xs) (same_Some x y (each 0 (omega arith))) ∙ ap (λ (zs : List ℕ). y ∷ zs) rest
