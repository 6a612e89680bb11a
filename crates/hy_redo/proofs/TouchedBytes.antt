-- What is left of bytes that were written over or touched at an offset.
use Rattle.std.proofs.Common.{◌≡◌, ℕ, zero, suc, ◌+◌, ◌<◌, ◌≤◌, List, [], ◌∷◌, ◌++◌, length, get_or, take, drop}
use Rattle.std.proofs.Common.{Some, refl, sym, ap, ◌∙◌, append_assoc, length-append, arith, inl, inr, zero-add}
use Rattle.std.specs.Prelude.{slice_get}
use Rattle.std.proofs.lemmas.List.{take_at, drop_at, drop_more, take-append-drop, length-drop}
use Rattle.std.proofs.lemmas.Option.{same_Some, none-some, slice_get_within, slice_get-get_or}
use Rattle.std.proofs.Math.Nat.{suc-add}
use Rattle.hy_disk.specs.Bytes.{overwritten, Touched}

take_from_agree : (k : ℕ) (old new : List ℕ) → k ≤ length old → ((i : ℕ) → i < k → slice_get new i ≡ slice_get old i) → take k new ≡ take k old
take_from_agree zero old new le h = refl
take_from_agree (suc k) [] new le h = absurd (omega arith)
take_from_agree (suc k) (x ∷ old) [] le h = absurd (none-some x (h 0 (omega arith)))
take_from_agree (suc k) (x ∷ old) (y ∷ new) le h =
    let head : y ≡ x = same_Some y x (h 0 (omega arith)) in
    let rest : take k new ≡ take k old = take_from_agree k old new (omega arith) (λ i lt. h (suc i) (omega arith)) in
    ap (λ (z : ℕ). z ∷ take k new) head ∙ ap (λ (zs : List ℕ). x ∷ zs) rest

slice_get-drop : (k : ℕ) (xs : List ℕ) (i : ℕ) → slice_get (drop k xs) i ≡ slice_get xs (k + i)
slice_get-drop zero xs i = rw zero-add refl
slice_get-drop (suc k) [] i = refl
slice_get-drop (suc k) (x ∷ xs) i = slice_get-drop k xs i ∙ ap (slice_get (x ∷ xs)) (sym (suc-add k i))

module _ (front : List ℕ) (offset : ℕ) (long : length front ≡ offset) where
  split_one : (x : ℕ) (rest : List ℕ) → length (front ++ x ∷ rest) ≡ offset + 1 + length rest
  split_one x rest = omega (arith, length-append front (x ∷ rest))

  one_long : (x : ℕ) → length (front ++ x ∷ []) ≡ offset + 1
  one_long x = omega (arith, length-append front (x ∷ []))

  front_one : (x : ℕ) (rest : List ℕ) → take (offset + 1) (front ++ x ∷ rest) ≡ front ++ x ∷ []
  front_one x rest = ap (take (offset + 1)) (sym (append_assoc front (x ∷ []) rest)) ∙ take_at (front ++ x ∷ []) rest (offset + 1) (one_long x)

  behind_one : (x : ℕ) (rest : List ℕ) → drop (offset + 1) (front ++ x ∷ rest) ≡ rest
  behind_one x rest = ap (drop (offset + 1)) (sym (append_assoc front (x ∷ []) rest)) ∙ drop_at (front ++ x ∷ []) rest (offset + 1) (one_long x)

  -- what was touched behind a byte has the front and that byte
  pub touched_behind : (x : ℕ) (follows : List ℕ) (count : ℕ) (new : List ℕ) → Touched (offset + 1) count (front ++ x ∷ follows) new
      → new ≡ front ++ x ∷ drop (offset + 1) new
  touched_behind x follows count new touched =
      let old = front ++ x ∷ follows in
      let long_old = split_one x follows in
      let same : take (offset + 1) new ≡ take (offset + 1) old = take_from_agree (offset + 1) old new (omega arith)
      (λ i lt. touched i (omega arith) (inl lt)) in
      sym (take-append-drop (offset + 1) new) ∙ ap (λ (bs : List ℕ). bs ++ drop (offset + 1) new) (same ∙ front_one x follows)
      ∙ append_assoc front (x ∷ []) (drop (offset + 1) new)

  -- what was touched at a byte has the front, some byte, and what stood behind it
  pub touched_at : (x : ℕ) (text more new : List ℕ) → 0 < length text → Touched offset 1 (front ++ x ∷ (text ++ more)) new
      → (byte : ℕ) × (rest : List ℕ) × (new ≡ front ++ byte ∷ (text ++ rest))
  touched_at x text more new some touched =
      let behind = text ++ more in
      let old = front ++ x ∷ behind in
      let long_old = split_one x behind in
      let long_behind = length-append text more in
      let byte = get_or new offset 0 in
      let rest = drop (length text) (drop (offset + 1) new) in
      let before : take offset new ≡ front = take_from_agree offset old new (omega arith) (λ i lt. touched i (omega arith) (inl lt))
      ∙ take_at front (x ∷ behind) offset long in
      let next : slice_get new (offset + 1) ≡ Some (get_or old (offset + 1) 0) =
      touched (offset + 1) (omega arith) (inr (omega arith)) ∙ slice_get-get_or old (offset + 1) 0 (omega arith) in
      let within : offset + 1 < length new = slice_get_within new (offset + 1) (get_or old (offset + 1) 0) next in
      let same : take (length text) (drop (offset + 1) new) ≡ take (length text) (drop (offset + 1) old) =
      take_from_agree (length text) (drop (offset + 1) old) (drop (offset + 1) new) (omega (arith, length-drop (offset + 1) old))
      (λ i lt. slice_get-drop (offset + 1) new i ∙ touched (offset + 1 + i) (omega arith) (inr (omega arith)) ∙ sym (slice_get-drop (offset + 1) old i)) in
      let kept : take (length text) (drop (offset + 1) new) ≡ text =
      same ∙ ap (take (length text)) (behind_one x behind) ∙ take_at text more (length text) refl in
      let tail : drop (offset + 1) new ≡ text ++ rest = sym (take-append-drop (length text) (drop (offset + 1) new))
      ∙ ap (λ (bs : List ℕ). bs ++ rest) kept in
      let split : drop offset new ≡ byte ∷ drop (offset + 1) new = drop_more new offset 0 (omega arith) in (
        byte,
        rest,
        sym (take-append-drop offset new) ∙ ap (λ (bs : List ℕ). bs ++ drop offset new) before
            ∙ ap (λ (bs : List ℕ). front ++ bs) (split ∙ ap (λ (bs : List ℕ). byte ∷ bs) tail),
      )

  -- what was written behind a byte stands there
  pub written_behind : (x : ℕ) (follows text : List ℕ) → overwritten (front ++ x ∷ follows) (offset + 1) text ≡ front ++ x ∷
      (text ++ drop (offset + 1 + length text) (front ++ x ∷ follows))
  written_behind x follows text =
      let rest = drop (offset + 1 + length text) (front ++ x ∷ follows) in
      ap (λ (bs : List ℕ). bs ++ text ++ rest) (front_one x follows) ∙ append_assoc (front ++ x ∷ []) text rest ∙ append_assoc front (x ∷ []) (text ++ rest)

  -- a byte that was written over
  pub written_at : (x y : ℕ) (follows : List ℕ) → overwritten (front ++ x ∷ follows) offset (y ∷ []) ≡ front ++ y ∷ follows
  written_at x y follows =
      ap (λ (bs : List ℕ). bs ++ (y ∷ []) ++ drop (offset + 1) (front ++ x ∷ follows)) (take_at front (x ∷ follows) offset long)
      ∙ ap (λ (bs : List ℕ). front ++ (y ∷ []) ++ bs) (behind_one x follows) ∙ append_assoc front (y ∷ []) follows
