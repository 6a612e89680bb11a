-- How a transaction ended is read off the front of a text.
use Rattle.std.proofs.Common.{◌≡◌, ℕ, List, ◌∷◌, ◌++◌, refl, ap, arith, inl, inr}
use Rattle.std.proofs.lemmas.List.{append_assoc, append_cancel_left}
use Rattle.std.specs.Fmt.{decimal}
use Rattle.std.specs.Prelude.{codes}
use Rattle.hy_render.specs.declared.Names.{Names}
use Rattle.hy_bound.specs.declared.Ending.{Ending}
use Rattle.hy_bound.specs.declared.Ending.TheVariants.{Committed, Read, RolledBack, Conflict, Invalid, Range, Full}
use Rattle.hy_render.specs.Named.{AreTelling, IsNamedEnding}
use Rattle.hy_render.specs.Report.{line, table_name, label_name, place_name, ending_text}
use Rattle.hy_render.proofs.Reading.{Reads, AnyText, byte, behind_first}
use Rattle.hy_render.proofs.Labels.{reads_table, reads_label, reads_place}
use Rattle.hy_render.proofs.Replies.{EndsReplies, reads_count}

module _ (names : Names) (tell : AreTelling names) where
  -- endings are read, whatever follows: by the first three bytes, which of them it is
  pub reads_ending : Reads (IsNamedEnding names) AnyText (λ ending. line (ending_text names ending))
  reads_ending (Committed p) (Committed q) x y k l h i e =
      let whole : codes "committed " ++ (decimal p ++ 10 ∷ x) ≡ codes "committed " ++ (decimal q ++ 10 ∷ y) = simp append_assoc at e in
      let read = reads_count p q x y k l (append_cancel_left (codes "committed ") _ _ whole) in
      (ap Committed read.0, read.1)
  reads_ending Read Read x y k l h i e = (refl, append_cancel_left (line (codes "read")) x y e)
  reads_ending RolledBack RolledBack x y k l h i e = (refl, append_cancel_left (line (codes "rolledback")) x y e)
  reads_ending (Conflict t p a) (Conflict u q b) x y k l h i e =
      let whole : codes "conflict " ++ (place_name names t p ++ 32 ∷ (label_name names a ++ 10 ∷ x))
      ≡ codes "conflict " ++ (place_name names u q ++ 32 ∷ (label_name names b ++ 10 ∷ y)) = simp append_assoc (simp append_assoc at e) in
      let place = reads_place names tell (record { table = t; pos = p }) (record { table = u; pos = q }) _ _ k.0 l.0 (inr (inl refl)) (inr (inl refl)) (append_cancel_left (codes "conflict ") _ _ whole) in
      let other = reads_label names tell a b _ _ k.1 l.1 (inl refl) (inl refl) (behind_first 32 32 _ _ place.1) in
      (λ j. Conflict (place.0 j).table (place.0 j).pos (other.0 j), behind_first 10 10 x y other.1)
  reads_ending (Invalid t p a m) (Invalid u q b n) x y k l h i e =
      let whole : codes "invalid " ++ (place_name names t p ++ 32 ∷ (label_name names a ++ (codes " statement " ++ (decimal m ++ 10 ∷ x))))
      ≡ codes "invalid " ++ (place_name names u q ++ 32 ∷ (label_name names b ++ (codes " statement " ++ (decimal n ++ 10 ∷ y)))) = simp append_assoc (simp append_assoc at e) in
      let place = reads_place names tell (record { table = t; pos = p }) (record { table = u; pos = q }) _ _ k.0 l.0 (inr (inl refl)) (inr (inl refl)) (append_cancel_left (codes "invalid ") _ _ whole) in
      let other = reads_label names tell a b _ _ k.1 l.1 (inr (inl refl)) (inr (inl refl)) (behind_first 32 32 _ _ place.1) in
      let statement = reads_count m n x y k.2 l.2 (append_cancel_left (codes " statement ") _ _ other.1) in
      (λ j. Invalid (place.0 j).table (place.0 j).pos (other.0 j) (statement.0 j), statement.1)
  reads_ending (Range t p) (Range u q) x y k l h i e =
      let whole : codes "range " ++ (place_name names t p ++ 10 ∷ x)
      ≡ codes "range " ++ (place_name names u q ++ 10 ∷ y) = simp append_assoc (simp append_assoc at e) in
      let place = reads_place names tell (record { table = t; pos = p }) (record { table = u; pos = q }) _ _ k l (inl refl) (inl refl) (append_cancel_left (codes "range ") _ _ whole) in
      (λ j. Range (place.0 j).table (place.0 j).pos, behind_first 10 10 x y place.1)
  reads_ending (Full t) (Full u) x y k l h i e =
      let whole : codes "full " ++ (table_name names t ++ 10 ∷ x) ≡ codes "full " ++ (table_name names u ++ 10 ∷ y) = simp append_assoc at e in
      let table = reads_table names tell t u _ _ k l (inl refl) (inl refl) (append_cancel_left (codes "full ") _ _ whole) in
      (ap Full table.0, behind_first 10 10 x y table.1)
  reads_ending r s x y k l h i e = absurd (omega (arith, ap (byte 0) e, ap (byte 1) e, ap (byte 2) e))

  -- an ending stands behind the last reply
  pub ends_replies : (ending : Ending) (x : List ℕ) → EndsReplies (line (ending_text names ending) ++ x)
  ends_replies Read x = omega arith
  ends_replies ending x = omega arith
