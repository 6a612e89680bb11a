-- Replies are read off the front of a text.
use Rattle.std.proofs.Common.{◌≡◌, ◌≢◌, ℕ, ◌⊎◌, List, ◌∷◌, ◌++◌, length, refl, ap, arith, inl, inr}
use Rattle.std.proofs.lemmas.List.{append_assoc, append_cancel_left}
use Rattle.std.specs.Fmt.{decimal, signed_decimal}
use Rattle.std.specs.Prelude.{codes}
use Rattle.std.specs.List.{All, flat_map}
use Rattle.hy_value.specs.Print.{printed}
use Rattle.hy_bound.specs.declared.Grouped.{Grouped}
use Rattle.hy_bound.specs.declared.Reply.{Reply}
use Rattle.hy_bound.specs.declared.Reply.TheVariants.{Rows, Value as Total, Groups, Inserted, Duplicate, Updated, Deleted, Saved, Back, Released}
use Rattle.hy_render.specs.Named.{IsPrinted, IsPrintedGroup, IsPrintedReply}
use Rattle.hy_render.specs.Report.{line, row_line, group_line, reply_text}
use Rattle.hy_render.proofs.Reading.{Reads, AnyText, byte, behind_first, reads_list}
use Rattle.hy_render.proofs.Numbers.{reads_digits, reads_number, reads_signed}
use Rattle.hy_render.proofs.Values.{reads_value, reads_rows}

-- what follows begins no line of a row or a group
pub record EndsReply (x : List ℕ) : Type 0 where
  pub no_row : byte 3 x ≢ 32
  pub no_group : (byte 0 x ≢ 103) ⊎ (byte 5 x ≢ 32)

-- nor a reply, by its first bytes
pub record EndsReplies (x : List ℕ) : Type 0 where
  pub no_row : byte 3 x ≢ 32
  pub no_rows : byte 2 x ≢ 119
  pub no_value : byte 0 x ≢ 118
  pub no_group : byte 0 x ≢ 103
  pub no_inserted : byte 2 x ≢ 115
  pub no_deleted_or_duplicate : byte 0 x ≢ 100
  pub no_updated : byte 0 x ≢ 117
  pub no_saved_or_released : byte 3 x ≢ 101
  pub no_back : byte 0 x ≢ 98

-- lines of groups are read, whatever follows
reads_group : Reads IsPrintedGroup AnyText group_line
reads_group g o x y k l h i e =
    let whole : codes "group " ++ (printed g.value ++ 124 ∷ (signed_decimal g.total ++ 10 ∷ x))
    ≡ codes "group " ++ (printed o.value ++ 124 ∷ (signed_decimal o.total ++ 10 ∷ y)) = simp append_assoc at e in
    let value = reads_value g.value o.value _ _ k.value l.value (inr (inr refl)) (inr (inr refl)) (append_cancel_left (codes "group ") _ _ whole) in
    let total = reads_signed g.total o.total _ _ k.total l.total (inl refl) (inl refl) (behind_first 124 124 _ _ value.1) in
    (λ j. record { value = value.0 j; total = total.0 j }, behind_first 10 10 x y total.1)

-- groups are read where no further group follows
reads_groups : Reads (All IsPrintedGroup) EndsReply (flat_map group_line)
reads_groups = reads_list IsPrintedGroup AnyText EndsReply group_line reads_group (λ group x. tt) (λ x h. tt) apart
  where
    apart : (x : List ℕ) → EndsReply x → (group : Grouped) (z : List ℕ) → x ≡ group_line group ++ z → ⊥
    apart x h group z e = elim h.no_group [ inl first ↦ first (ap (byte 0) e) | inr sixth ↦ sixth (ap (byte 5) e) ]

-- a count at the end of a line is read
pub reads_count : (m n : ℕ) (x y : List ℕ) → IsPrinted m → IsPrinted n → decimal m ++ 10 ∷ x ≡ decimal n ++ 10 ∷ y → (m ≡ n) × (x ≡ y)
reads_count m n x y k l e = let read = reads_number m n (10 ∷ x) (10 ∷ y) k l (inl refl) (inl refl) e in (read.0, behind_first 10 10 x y read.1)

-- how many lines follow is skipped: the lines tell it
pub skips_count : (m n : ℕ) (x y : List ℕ) → decimal m ++ 10 ∷ x ≡ decimal n ++ 10 ∷ y → x ≡ y
skips_count m n x y e = behind_first 10 10 x y (reads_digits m n (10 ∷ x) (10 ∷ y) (inl refl) (inl refl) e).1

-- replies are read: by the first three bytes, which of them it is
pub reads_reply : Reads IsPrintedReply EndsReply reply_text
reads_reply (Rows r) (Rows s) x y k l h i e =
    let whole : codes "rows " ++ (decimal (length r) ++ 10 ∷ (flat_map row_line r ++ x))
    ≡ codes "rows " ++ (decimal (length s) ++ 10 ∷ (flat_map row_line s ++ y)) = simp append_assoc at e in
    let read = reads_rows r s x y k l h.no_row i.no_row (skips_count (length r) (length s) _ _ (append_cancel_left (codes "rows ") _ _ whole)) in
    (ap Rows read.0, read.1)
reads_reply (Total r) (Total s) x y k l h i e =
    let whole : codes "value " ++ (signed_decimal r ++ 10 ∷ x) ≡ codes "value " ++ (signed_decimal s ++ 10 ∷ y) = simp append_assoc at e in
    let read = reads_signed r s _ _ k l (inl refl) (inl refl) (append_cancel_left (codes "value ") _ _ whole) in
    (ap Total read.0, behind_first 10 10 x y read.1)
reads_reply (Groups r) (Groups s) x y k l h i e =
    let whole : codes "groups " ++ (decimal (length r) ++ 10 ∷ (flat_map group_line r ++ x))
    ≡ codes "groups " ++ (decimal (length s) ++ 10 ∷ (flat_map group_line s ++ y)) = simp append_assoc at e in
    let read = reads_groups r s x y k l h i (skips_count (length r) (length s) _ _ (append_cancel_left (codes "groups ") _ _ whole)) in
    (ap Groups read.0, read.1)
reads_reply Inserted Inserted x y k l h i e = (refl, append_cancel_left (line (codes "inserted")) x y e)
reads_reply Duplicate Duplicate x y k l h i e = (refl, append_cancel_left (line (codes "duplicate")) x y e)
reads_reply (Updated m) (Updated n) x y k l h i e =
    let whole : codes "updated " ++ (decimal m ++ 10 ∷ x) ≡ codes "updated " ++ (decimal n ++ 10 ∷ y) = simp append_assoc at e in
    let read = reads_count m n x y k l (append_cancel_left (codes "updated ") _ _ whole) in
    (ap Updated read.0, read.1)
reads_reply (Deleted m) (Deleted n) x y k l h i e =
    let whole : codes "deleted " ++ (decimal m ++ 10 ∷ x) ≡ codes "deleted " ++ (decimal n ++ 10 ∷ y) = simp append_assoc at e in
    let read = reads_count m n x y k l (append_cancel_left (codes "deleted ") _ _ whole) in
    (ap Deleted read.0, read.1)
reads_reply Saved Saved x y k l h i e = (refl, append_cancel_left (line (codes "saved")) x y e)
reads_reply Back Back x y k l h i e = (refl, append_cancel_left (line (codes "back")) x y e)
reads_reply Released Released x y k l h i e = (refl, append_cancel_left (line (codes "released")) x y e)
reads_reply r s x y k l h i e = absurd (omega (arith, ap (byte 0) e, ap (byte 1) e, ap (byte 2) e))

-- a reply begins no line of a row or a group
reply_ends : (reply : Reply) (x : List ℕ) → EndsReply (reply_text reply ++ x)
reply_ends (Groups groups) x = record { no_row = omega arith; no_group = inr (omega arith) }
reply_ends reply x = record { no_row = omega arith; no_group = inl (omega arith) }

-- what ends replies begins none
no_reply : (x : List ℕ) → EndsReplies x → (reply : Reply) (z : List ℕ) → x ≡ reply_text reply ++ z → ⊥
no_reply x h Inserted z e = h.no_inserted (ap (byte 2) e)
no_reply x h Saved z e = h.no_saved_or_released (ap (byte 3) e)
no_reply x h Released z e = h.no_saved_or_released (ap (byte 3) e)
no_reply x h reply z e = omega (arith, ap (byte 0) e, ap (byte 2) e)

-- replies are read where no further reply follows
pub reads_replies : Reads (All IsPrintedReply) EndsReplies (flat_map reply_text)
reads_replies = reads_list IsPrintedReply EndsReply EndsReplies reply_text reads_reply reply_ends (λ x h. record { no_row = h.no_row; no_group = inl h.no_group }) no_reply
