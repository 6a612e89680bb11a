-- Where a text ends, by the offset in the bytes.
use Rattle.std.proofs.Common.{◌≡◌, ◌≢◌, ℕ, ◌+◌, ◌<◌, ◌≤◌, Option, Some, None, List, [], ◌∷◌, length, get_or, drop, refl, ap, sym, ◌∙◌, arith}
use Rattle.std.specs.Option.{option_map}
use Rattle.std.proofs.lemmas.List.{at_drop_more}
use Rattle.hy_token.specs.Lengths.{text_rest_len}

-- a length as seen from k bytes before
abbrev pub moved : ℕ → Option ℕ → Option ℕ
moved k o = option_map (λ n. k + n) o

moved-moved : (i k : ℕ) (o : Option ℕ) → moved i (moved k o) ≡ moved (i + k) o
moved-moved i k None = refl
moved-moved i k (Some n) = let e : i + (k + n) ≡ i + k + n = omega arith in ap Some e

-- a character that is no quote
plain_head : (b : ℕ) (bs : List ℕ) → b ≢ 39 → 32 ≤ b → text_rest_len (b ∷ bs) ≡ moved 1 (text_rest_len bs)
plain_head b [] differs high = grind arith
plain_head b (c ∷ bs) differs high = grind arith

-- a character below U+0020
low_head : (b : ℕ) (bs : List ℕ) → b < 32 → text_rest_len (b ∷ bs) ≡ None
low_head b [] low = grind arith
low_head b (c ∷ bs) low = grind arith

-- two quotes
doubled_head : (b c : ℕ) (bs : List ℕ) → b ≡ 39 → c ≡ 39 → text_rest_len (b ∷ c ∷ bs) ≡ moved 2 (text_rest_len bs)
doubled_head b c bs quote again = rw (quote, again) refl

module _ (bs : List ℕ) (i : ℕ) where
  pub plain : i < length bs → get_or bs i 0 ≢ 39 → 32 ≤ get_or bs i 0 → text_rest_len (drop i bs) ≡ moved 1 (text_rest_len (drop (i + 1) bs))
  plain in_range differs high = at_drop_more text_rest_len bs i 0 in_range ∙ plain_head _ _ differs high

  pub low : i < length bs → get_or bs i 0 < 32 → text_rest_len (drop i bs) ≡ None
  low in_range is_low = at_drop_more text_rest_len bs i 0 in_range ∙ low_head _ _ is_low

  pub doubled : i + 1 < length bs → get_or bs i 0 ≡ 39 → get_or bs (i + 1) 0 ≡ 39 → text_rest_len (drop i bs) ≡ moved 2 (text_rest_len (drop (i + 2) bs))
  doubled in_range quote again =
      let one : i < length bs = omega arith in
      let two : i + 1 + 1 ≡ i + 2 = omega arith in
      at_drop_more text_rest_len bs i 0 one ∙ at_drop_more (λ rest. text_rest_len (get_or bs i 0 ∷ rest)) bs (i + 1) 0 in_range ∙ doubled_head _ _ (drop (i + 1 + 1) bs) quote again ∙ ap (λ n. moved 2 (text_rest_len (drop n bs))) two

  -- the text so far goes on past k more bytes
  pub text_more : (k : ℕ) (whole : Option ℕ) → text_rest_len (drop i bs) ≡ moved k (text_rest_len (drop (i + k) bs)) → moved i (text_rest_len (drop i bs)) ≡ whole → moved (i + k) (text_rest_len (drop (i + k) bs)) ≡ whole
  text_more k whole step so_far = sym (moved-moved i k _) ∙ ap (moved i) (sym step) ∙ so_far
