-- Reading as a loop does.
use Rattle.std.proofs.Common.{◌≡◌, ℕ, zero, suc, ◌-◌, ◌+◌, ◌≤◌, ◌<◌, List, ◌∷◌, length, drop, get_or, Option, Some, None, refl, sym, ap, ◌∙◌, arith}
use Rattle.std.proofs.lemmas.List.{at_drop_more, at_drop_all}
use Rattle.hy_token.specs.declared.Token.{Token}
use Rattle.hy_parse.specs.declared.Piece.{Piece}
use Rattle.hy_parse.specs.declared.cursor.Halt.{Halt}
use Rattle.hy_parse.specs.declared.cursor.Halt.TheVariants as halt
use Rattle.hy_parse.specs.Reading.{Read, Done, ◌>>=◌, Halts, seen, span_at, after, links_within}

-- ---- these tokens, one after the other

one_after : (tokens : List Token) (token : Token) (rest : List Piece) → after (token ∷ tokens) rest ≡ (span_at token rest >>= λ found. after tokens found.1)
unfolding after
one_after tokens token rest = refl

-- the tokens from the next one on
pub after_next : (tokens : List Token) (i : ℕ) (token : Token) (rest : List Piece) → i < length tokens → after (drop i tokens) rest ≡ (span_at (get_or tokens i token) rest >>= λ found. after (drop (i + 1) tokens) found.1)
after_next tokens i token rest lt = at_drop_more (λ (left : List Token). after left rest) tokens i token lt ∙ one_after (drop (i + 1) tokens) (get_or tokens i token) rest

pub after_done : (tokens : List Token) (i : ℕ) (rest : List Piece) → length tokens ≤ i → after (drop i tokens) rest ≡ Done tt rest
unfolding after
after_done tokens i rest le = at_drop_all (λ (left : List Token). after left rest) tokens i le

-- ---- steps that fail, and steps that do not

pub halted : {A B : Type 0} (e : Halt) (read : Read A) (k : A × List Piece → Read B) (total : Read B) → Halts e read → (read >>= k) ≡ total → Halts e total
halted halt.OutOfMemory read k total halts is = tt
halted {A} (halt.Stuck rest) read k total halts is = sym is ∙ ap (λ (r : Read A). r >>= k) halts

pub went_on : {A B : Type 0} (read : Read A) (k : A × List Piece → Read B) (total : Read B) (a : A) (rest : List Piece) → read ≡ Done a rest → (read >>= k) ≡ total → k (a, rest) ≡ total
went_on {A} read k total a rest done is = sym (ap (λ (r : Read A). r >>= k) done) ∙ is

-- ---- what is joined one after the other

module _ {A B C : Type 0} (sense : Piece → Option B) (join : A → B → C → A) (one : List Piece → Read C) where
  pub next : (most i : ℕ) (left : A) (rest behind : List Piece) (b : B) → i < most → seen sense rest ≡ Some (b, behind)
      → links_within sense join one (most - i) left rest ≡ (one behind >>= λ right. links_within sense join one (most - (i + 1)) (join left b right.0) right.1)
  unfolding links_within
  next most i left rest behind b lt is = let k : most - i ≡ suc (most - (i + 1)) = omega arith in rw (k, is) refl

  pub none : (n : ℕ) (left : A) (rest : List Piece) → seen sense rest ≡ None → links_within sense join one n left rest ≡ Done left rest
  unfolding links_within
  none zero left rest is = refl
  none (suc n) left rest is = rw is refl

  -- the turn of a loop that finds nothing more
  pub stops : (n : ℕ) (left : A) (rest : List Piece) (total : Read A) → seen sense rest ≡ None → links_within sense join one n left rest ≡ total → total ≡ Done left rest
  stops n left rest total is so_far = sym so_far ∙ none n left rest is

  -- one that fails
  pub fails : (e : Halt) (most i : ℕ) (left : A) (rest behind : List Piece) (b : B) (total : Read A) → i < most → seen sense rest ≡ Some (b, behind) → Halts e (one behind)
      → links_within sense join one (most - i) left rest ≡ total → Halts e total
  fails e most i left rest behind b total lt is halts so_far = halted e (one behind) _ total halts (sym (next most i left rest behind b lt is) ∙ so_far)

  -- one that goes on
  pub goes_on : (most i : ℕ) (left new : A) (rest behind last : List Piece) (b : B) (c : C) (total : Read A) → i < most → seen sense rest ≡ Some (b, behind) → one behind ≡ Done c last → new ≡ join left b c
      → links_within sense join one (most - i) left rest ≡ total → links_within sense join one (most - (i + 1)) new last ≡ total
  goes_on most i left new rest behind last b c total lt is done joined so_far =
      rw joined (went_on (one behind) (λ right. links_within sense join one (most - (i + 1)) (join left b right.0) right.1) total c last done (sym (next most i left rest behind b lt is) ∙ so_far))

  -- the end of the loop
  pub ends : (most i : ℕ) (left : A) (rest : List Piece) (total : Read A) → most ≤ i → links_within sense join one (most - i) left rest ≡ total → total ≡ Done left rest
  unfolding links_within
  ends most i left rest total le so_far = let k : most - i ≡ 0 = omega arith in sym (rw k at so_far)
