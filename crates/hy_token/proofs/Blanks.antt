-- Where spaces and comments end, by the offset in the bytes.
use Rattle.std.proofs.Common.{◌≡◌, ℕ, ◌+◌, ◌≤◌, Bool, true, false, List, [], ◌∷◌, length, get_or, length-drop, drop-drop, drop, refl, ap, sym, ◌∙◌, subst, suc, arith, nat_eq}
use Rattle.std.specs.Prelude.{codes}
use Rattle.std.specs.List.{prefix_len, starts_with}
use Rattle.std.proofs.lemmas.List.Sums.{prefix_len-le-length}
use Rattle.hy_token.specs.Lengths.{is_space, is_within_line, separates, piece_len, blank_from, blank_len}

-- what is left of a list past one more element
drop_one_more : (n b : ℕ) (bs : List ℕ) → drop (1 + n) (b ∷ bs) ≡ drop n bs
drop_one_more n b bs = let e : 1 + n ≡ suc n = omega arith in ap (λ m. drop m (b ∷ bs)) e

-- an open comment goes to the end of its line
abbrev EndsWithLine : List ℕ → Type 0
EndsWithLine bs = blank_from true bs ≡ prefix_len is_within_line bs + blank_from false (drop (prefix_len is_within_line bs) bs)

line_feed : (b : ℕ) → is_within_line b ≡ false → b ≡ 10
line_feed b h = grind arith

ends_with_line_more : (b : ℕ) (bs : List ℕ) (within : Bool) → is_within_line b ≡ within → EndsWithLine bs → EndsWithLine (b ∷ bs)
ends_with_line_more b bs true h rest =
    rw h (rw drop_one_more (omega (arith, rest)))
ends_with_line_more b bs false h rest =
    let P : ℕ → Type 0 = λ n. EndsWithLine (n ∷ bs) in subst P (sym (line_feed b h)) (omega arith)

ends_with_line : (bs : List ℕ) → EndsWithLine bs
ends_with_line [] = refl
ends_with_line (b ∷ bs) = ends_with_line_more b bs (is_within_line b) refl (ends_with_line bs)

within_line : (b : ℕ) → is_space b ≡ false → is_within_line b ≡ true
within_line b h = grind arith

-- a comment is open from its first minus sign on
comment_opens : (b : ℕ) (bs : List ℕ) → is_space b ≡ false → 1 + blank_from true bs ≡ blank_from true (b ∷ bs)
comment_opens b bs h = rw (within_line b h) refl

-- n is a piece of what is blank: what is blank after it is the rest, and without it nothing is blank
pub record IsPiece (bs : List ℕ) (n : ℕ) : Type 0 where
  pub within : n ≤ length bs
  pub steps : blank_from false bs ≡ n + blank_from false (drop n bs)
  pub stops : n ≡ 0 → blank_from false bs ≡ 0

piece_at : (b : ℕ) (bs : List ℕ) (space comment : Bool) → is_space b ≡ space → starts_with nat_eq (b ∷ bs) (codes "--") ≡ comment → IsPiece (b ∷ bs) (piece_len (b ∷ bs))
piece_at b bs true comment h k =
    let one : piece_len (b ∷ bs) ≡ 1 = rw h refl in
    subst (IsPiece (b ∷ bs)) (sym one) (record { within = omega arith; steps = rw h refl; stops = λ none. absurd (omega arith) })
piece_at b bs false true h k =
    let line : piece_len (b ∷ bs) ≡ prefix_len is_within_line (b ∷ bs) = rw (h, k) refl in
    let some : prefix_len is_within_line (b ∷ bs) ≡ 1 + prefix_len is_within_line bs = rw (within_line b h) refl in
    subst (IsPiece (b ∷ bs)) (sym line) (record {
      within = prefix_len-le-length is_within_line (b ∷ bs);
      steps = rw (h, k) (comment_opens b bs h ∙ ends_with_line (b ∷ bs));
      stops = λ none. absurd (omega (arith, some, none));
    })
piece_at b bs false false h k =
    let none : piece_len (b ∷ bs) ≡ 0 = rw (h, k) refl in
    subst (IsPiece (b ∷ bs)) (sym none) (record { within = omega arith; steps = omega arith; stops = λ _. rw (h, k) refl })

pub piece : (bs : List ℕ) → IsPiece bs (piece_len bs)
piece [] = record { within = omega arith; steps = refl; stops = λ _. refl }
piece (b ∷ bs) = piece_at b bs (is_space b) (starts_with nat_eq (b ∷ bs) (codes "--")) refl refl

pub ruleset blank_steps = (piece)

-- one more piece
pub blank_more : (bs : List ℕ) (i n whole : ℕ) → i ≤ length bs → n ≡ piece_len (drop i bs) → i + blank_from false (drop i bs) ≡ whole → (i + n ≤ length bs) × (i + n + blank_from false (drop (i + n) bs) ≡ whole)
blank_more bs i n whole in_range is_piece so_far =
    let here : IsPiece (drop i bs) n = subst (IsPiece (drop i bs)) (sym is_piece) (piece (drop i bs)) in
    let after : drop n (drop i bs) ≡ drop (i + n) bs = drop-drop n i bs in
    (omega (arith, here.within, length-drop i bs), omega (arith, so_far, here.steps, ap (blank_from false) after))

-- ---- seen at once

opens_comment : (b : ℕ) (bs : List ℕ) → separates b ≡ false → starts_with nat_eq (b ∷ bs) (codes "--") ≡ false
opens_comment b bs h = grind arith

nothing_blank : (b : ℕ) (bs : List ℕ) → separates b ≡ false → blank_from false (b ∷ bs) ≡ 0
nothing_blank b bs h = let no_space : is_space b ≡ false = grind arith in rw (no_space, opens_comment b bs h) refl

pub no_space : (bytes : List ℕ) → 1 ≤ length bytes → separates (get_or bytes 0 0) ≡ false → blank_len bytes ≡ 0
unfolding blank_len
no_space [] some h = absurd (omega (arith, some))
no_space (b ∷ bs) some h = nothing_blank b bs h

pub one_space : (bytes : List ℕ) → 2 ≤ length bytes → get_or bytes 0 0 ≡ 32 → separates (get_or bytes 1 0) ≡ false → blank_len bytes ≡ 1
unfolding blank_len
one_space [] two is h = absurd (omega (arith, two))
one_space (b ∷ []) two is h = absurd (omega (arith, two))
one_space (b ∷ c ∷ bs) two is h = rw is (ap (λ n. 1 + n) (nothing_blank c bs h))
