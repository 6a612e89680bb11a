-- Values and rows are read off the front of a text.
use Rattle.std.proofs.Common.{◌≡◌, ◌≢◌, ℕ, ◌<◌, ◌≤◌, ◌⊎◌, List, [], ◌∷◌, ◌++◌, refl, ap, sym, ◌∙◌, subst, arith, inl, inr, eq-eqb, ne_eqb}
use Rattle.std.proofs.lemmas.Bool.{cases_eq}
use Rattle.std.proofs.lemmas.List.Elements.{All-head, All-tail}
use Rattle.std.proofs.lemmas.List.{append_assoc, append_cancel_left}
use Rattle.std.specs.Fmt.{signed_decimal}
use Rattle.std.specs.Prelude.{None, Some, IfSome, codes, if◌then◌else◌}
use Rattle.std.specs.List.{All, flat_map}
use Rattle.hy_value.specs.declared.Value.{Value}
use Rattle.hy_value.specs.declared.Value.TheVariants.{Null, Int, Text}
use Rattle.hy_value.specs.Print.{doubled_quote, printed, printed_next, printed_row}
use Rattle.hy_render.specs.Named.{IsPrintedValue, IsPrintedRow}
use Rattle.hy_render.specs.Report.{row_or_none, row_line}
use Rattle.hy_render.proofs.Reading.{Reads, Begins, AnyText, byte, first_byte, behind_first, begins_longer, begins_weaker, goes_on, reads_list}
use Rattle.hy_render.proofs.Numbers.{EndsValue, IsDigitOrSign, reads_signed, signed_begins}

-- what follows a row or a name: a line's end or a space
abbrev pub EndsWord : List ℕ → Type 0
EndsWord x = Begins (λ b. (b ≡ 10) ⊎ (b ≡ 32)) x

-- a byte is a quote, which is doubled, or another byte
quote_or_other : (b : ℕ) → ((b ≡ 39) × (doubled_quote b ≡ 39 ∷ 39 ∷ [])) ⊎ ((b ≢ 39) × (doubled_quote b ≡ b ∷ []))
quote_or_other b =
    elim (cases_eq b 39) [
      | inl is ↦ inl (is, ap (λ test. if test then 39 ∷ 39 ∷ [] else b ∷ []) (eq-eqb b 39 is))
      | inr other ↦ inr (other, ap (λ test. if test then 39 ∷ 39 ∷ [] else b ∷ []) (ne_eqb b 39 other))
    ]

-- a quote that another byte follows is no byte of a text
apart_quote : (c : ℕ) (x rest : List ℕ) → EndsValue x → 39 ∷ x ≡ doubled_quote c ++ rest → ⊥
apart_quote c x rest h e = elim (quote_or_other c) [
  | inl is ↦
      let after : x ≡ 39 ∷ rest = behind_first 39 39 _ _ (e ∙ ap (λ ds. ds ++ rest) is.1) in
      let ends : EndsValue (39 ∷ rest) = subst EndsValue after h in
      omega arith
  | inr other ↦ let first : 39 ≡ c = ap (byte 0) (e ∙ ap (λ ds. ds ++ rest) other.1) in omega arith
]

-- a byte of a text is read, doubled if it is a quote
reads_byte : (b c : ℕ) (x y : List ℕ) → doubled_quote b ++ x ≡ doubled_quote c ++ y → (b ≡ c) × (x ≡ y)
reads_byte b c x y e = elim (quote_or_other b) [
  | inl one ↦ elim (quote_or_other c) [
    | inl other ↦
        let both : 39 ∷ 39 ∷ x ≡ 39 ∷ 39 ∷ y = sym (ap (λ ds. ds ++ x) one.1) ∙ (e ∙ ap (λ ds. ds ++ y) other.1) in
        (one.0 ∙ sym other.0, behind_first 39 39 x y (behind_first 39 39 _ _ both))
    | inr other ↦
        let first : 39 ≡ c = ap (byte 0) (sym (ap (λ ds. ds ++ x) one.1) ∙ (e ∙ ap (λ ds. ds ++ y) other.1)) in
        absurd (omega arith)
  ]
  | inr one ↦ elim (quote_or_other c) [
    | inl other ↦
        let first : b ≡ 39 = ap (byte 0) (sym (ap (λ ds. ds ++ x) one.1) ∙ (e ∙ ap (λ ds. ds ++ y) other.1)) in
        absurd (omega arith)
    | inr other ↦
        let both : b ∷ x ≡ c ∷ y = sym (ap (λ ds. ds ++ x) one.1) ∙ (e ∙ ap (λ ds. ds ++ y) other.1) in
        (ap (byte 0) both, behind_first b c x y both)
  ]
]

-- the bytes of a text, its quotes doubled, end where a quote comes that another byte follows
reads_quoted : (s t x y : List ℕ) → EndsValue x → EndsValue y → flat_map doubled_quote s ++ 39 ∷ x ≡ flat_map doubled_quote t ++ 39 ∷ y
    → (s ≡ t) × (x ≡ y)
reads_quoted [] [] x y h i e = (refl, behind_first 39 39 x y e)
reads_quoted [] (c ∷ t) x y h i e = absurd (apart_quote c x _ h (e ∙ append_assoc (doubled_quote c) (flat_map doubled_quote t) (39 ∷ y)))
reads_quoted (b ∷ s) [] x y h i e = absurd (apart_quote b y _ i (sym e ∙ append_assoc (doubled_quote b) (flat_map doubled_quote s) (39 ∷ x)))
reads_quoted (b ∷ s) (c ∷ t) x y h i e =
    let first = reads_byte b c _ _ (sym (append_assoc (doubled_quote b) (flat_map doubled_quote s) (39 ∷ x))
    ∙ (e ∙ append_assoc (doubled_quote c) (flat_map doubled_quote t) (39 ∷ y))) in
    let rest = reads_quoted s t x y h i first.1 in
    ((λ j. first.0 j ∷ rest.0 j), rest.1)

-- the first byte of a value
abbrev pub FirstOf : Value → ℕ → Type 0
FirstOf Null b = b ≡ 78
FirstOf (Int n) b = IsDigitOrSign b
FirstOf (Text text) b = b ≡ 39

-- each value begins so
begins_so : (v : Value) → Begins (FirstOf v) (printed v)
begins_so Null = refl
begins_so (Int n) = signed_begins n
begins_so (Text text) = refl

-- values are read: a number, NULL or a text, by the first byte
pub reads_value : Reads IsPrintedValue EndsValue printed
reads_value Null Null x y k l h i e = (refl, append_cancel_left (codes "NULL") x y e)
reads_value (Int m) (Int n) x y k l h i e = let read = reads_signed m n x y k l h i e in (ap Int read.0, read.1)
reads_value (Text s) (Text t) x y k l h i e =
    let whole : 39 ∷ (flat_map doubled_quote s ++ 39 ∷ x) ≡ 39 ∷ (flat_map doubled_quote t ++ 39 ∷ y) = simp append_assoc at e in
    let read = reads_quoted s t x y h i (behind_first 39 39 _ _ whole) in
    (ap Text read.0, read.1)
reads_value v w x y k l h i e =
    let both = first_byte (FirstOf v) (FirstOf w) _ _ (begins_longer (FirstOf v) (printed v) x (begins_so v)) (begins_longer (FirstOf w) (printed w) y (begins_so w)) e in
    absurd (omega arith)

-- how a value begins
pub value_begins : (v : Value) → Begins (λ b. (39 ≤ b) × (b < 79)) (printed v)
value_begins Null = (omega arith, omega arith)
value_begins (Int n) = begins_weaker IsDigitOrSign (λ b. (39 ≤ b) × (b < 79)) (λ b h. (omega arith, omega arith)) (signed_decimal n) (signed_begins n)
value_begins (Text text) = (omega arith, omega arith)

-- what ends a row ends its last value
ends_last : (x : List ℕ) → EndsWord x → EndsValue x
ends_last [] h = h
ends_last (b ∷ x) h = elim h [ inl is ↦ inl is | inr is ↦ inr (inl is) ]

-- what ends a row, or the bar before the next value, ends a value
ends_first : (values : List Value) (x : List ℕ) → EndsWord x → EndsValue (flat_map printed_next values ++ x)
ends_first values x h = goes_on EndsValue printed_next (λ v z. inr (inr refl)) values x (ends_last x h)

-- the values behind the first are read
reads_others : Reads (All IsPrintedValue) EndsWord (flat_map printed_next)
reads_others = reads_list IsPrintedValue EndsValue EndsWord printed_next reads_next (λ v x. inr (inr refl)) ends_last apart
  where
    reads_next : Reads IsPrintedValue EndsValue printed_next
    reads_next v w x y k l h i e = reads_value v w x y k l h i (behind_first 124 124 _ _ e)

    apart : (x : List ℕ) → EndsWord x → (v : Value) (z : List ℕ) → x ≡ printed_next v ++ z → ⊥
    apart [] h v z e = h
    apart (b ∷ x) h v z e = let bar : b ≡ 124 = ap (byte 0) e in omega arith

-- what ends a row begins no value
no_value : (x : List ℕ) (v : Value) (z : List ℕ) → EndsWord x → x ≡ printed v ++ z → ⊥
no_value x v z h e = let both = first_byte _ _ x _ h (begins_longer _ (printed v) z (value_begins v)) e in omega arith

-- rows are read, empty ones too
pub reads_row : Reads IsPrintedRow EndsWord printed_row
reads_row [] [] x y k l h i e = (refl, e)
reads_row [] (w ∷ ws) x y k l h i e = absurd (no_value x w _ h (e ∙ append_assoc (printed w) (flat_map printed_next ws) y))
reads_row (v ∷ vs) [] x y k l h i e = absurd (no_value y v _ i (sym e ∙ append_assoc (printed v) (flat_map printed_next vs) x))
reads_row (v ∷ vs) (w ∷ ws) x y k l h i e =
    let first = reads_value v w _ _ (All-head IsPrintedValue v vs k) (All-head IsPrintedValue w ws l) (ends_first vs x h) (ends_first ws y i) (simp append_assoc at e) in
    let rest = reads_others vs ws x y (All-tail IsPrintedValue v vs k) (All-tail IsPrintedValue w ws l) h i first.1 in
    ((λ j. first.0 j ∷ rest.0 j), rest.1)

-- no row is `none`
not_none : (v : List Value) (x y : List ℕ) → EndsWord x → printed_row v ++ x ≡ codes "none" ++ y → ⊥
not_none [] x y h e = let both = first_byte _ (λ b. b ≡ 110) x (codes "none" ++ y) h refl e in omega arith
not_none (v ∷ vs) x y h e =
    let begins = begins_longer _ (printed v ++ flat_map printed_next vs) x (begins_longer _ (printed v) (flat_map printed_next vs) (value_begins v)) in
    let both = first_byte _ (λ b. b ≡ 110) _ _ begins refl e in
    omega arith

-- a row that is there or not is read
pub reads_version : Reads (λ version. IfSome version IsPrintedRow) EndsWord row_or_none
reads_version None None x y k l h i e = (refl, append_cancel_left (codes "none") x y e)
reads_version None (Some w) x y k l h i e = absurd (not_none w y x i (sym e))
reads_version (Some v) None x y k l h i e = absurd (not_none v x y h e)
reads_version (Some v) (Some w) x y k l h i e = let read = reads_row v w x y k l h i e in (ap Some read.0, read.1)

-- lines of rows are read, whatever follows
reads_row_line : Reads IsPrintedRow AnyText row_line
reads_row_line v w x y k l h i e =
    let whole : codes "row " ++ (printed_row v ++ 10 ∷ x) ≡ codes "row " ++ (printed_row w ++ 10 ∷ y) = simp append_assoc at e in
    let read = reads_row v w (10 ∷ x) (10 ∷ y) k l (inl refl) (inl refl) (append_cancel_left (codes "row ") _ _ whole) in
    (read.0, behind_first 10 10 x y read.1)

-- rows are read where no further row follows
pub reads_rows : Reads (All IsPrintedRow) (λ x. byte 3 x ≢ 32) (flat_map row_line)
reads_rows = reads_list IsPrintedRow AnyText (λ x. byte 3 x ≢ 32) row_line reads_row_line (λ row x. tt) (λ x h. tt) (λ x h row z e. h (ap (byte 3) e))
