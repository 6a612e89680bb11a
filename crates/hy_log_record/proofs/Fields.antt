-- A number or a text that is read is the one that was written, and what was written is read again.
use Rattle.std.proofs.Common.{◌≡◌, ℕ, suc, ◌+◌, ◌^◌, ◌<◌, ◌≤◌, Bool, true, false, cond, ltb, leb, List, [], ◌∷◌, ◌++◌, length}
use Rattle.std.proofs.Common.{get_or, take, drop, Option, Some, None, All, refl, sym, ap, subst, ◌∙◌, append_assoc, arith, inl, inr}
use Rattle.std.specs.Prelude.{◌&&◌, is_ok, MatchResult, Result, Ok, Err}
use Rattle.std.specs.Int.{Width, w32, w64, from_be_bytes, to_be_bytes}
use Rattle.std.specs.List.{AllPass, list_all}
use Rattle.std.specs.Str.{IsUtf8, is_utf8}
use Rattle.std.proofs.lemmas.Bool.{cases_lt, ltb-false, le-ltb, leb-true, le-leb, and_parts, and_from}
use Rattle.std.proofs.lemmas.Str.{IsUtf8-from_is_utf8, is_utf8-from_IsUtf8}
use Rattle.std.proofs.lemmas.List.Sums.{AllPass-from_list_all, list_all-from_AllPass}
use Rattle.std.proofs.lemmas.List.{take_at, drop_at, take-append-drop, length-append, length-take, get_or-drop, get_or-take, get_or_past}
use Rattle.std.proofs.lemmas.Nat.{be_bytes_4, be_bytes_8, from_be_bytes-to_be_bytes_4, from_be_bytes-to_be_bytes_8}
use Rattle.hy_value.specs.TextBytes.{IsText, is_text}
use Rattle.hy_log_record.specs.Bytes.{be32, be64}
use Rattle.hy_log_record.specs.Reading.{◌>>=◌, u32_at, u64_at, text_if, text_at}

abbrev pub IsBytes : List ℕ → Type 0
IsBytes bytes = (i : ℕ) → get_or bytes i 0 < 256

IsBytes-drop : (n : ℕ) (bytes : List ℕ) → IsBytes bytes → IsBytes (drop n bytes)
IsBytes-drop n bytes h i = rw get_or-drop (h (n + i))

IsBytes-take : (n : ℕ) (bytes : List ℕ) → IsBytes bytes → IsBytes (take n bytes)
IsBytes-take n bytes h i =
    elim (cases_lt i n) [
      | inl lt ↦ rw (get_or-take n bytes i 0 lt) (h i)
      | inr le ↦ rw (get_or_past (take n bytes) i 0 (omega (arith, length-take n bytes))) (omega arith)
    ]

pub IsBytes-rest : (b : ℕ) (bytes : List ℕ) → IsBytes (b ∷ bytes) → IsBytes bytes
IsBytes-rest b bytes h i = h (suc i)

-- the value of a step that read something
pub bind_some : {A B : Type 0} (r : Option A) (f : A → Option B) (y : B) → (r >>= f) ≡ Some y → (x : A) × (r ≡ Some x) × (f x ≡ Some y)
bind_some (Some x) f y e = (x, refl, e)
bind_some None f y e = absurd cc

-- a test that let something pass, and one that was passed
pub short_some : {A : Type 0} (b : Bool) (x y : A) → cond b None (Some x) ≡ Some y → (b ≡ false) × (x ≡ y)
short_some true x y e = absurd cc
short_some false x y e = (refl, cc)

pub kept_some : {A : Type 0} (b : Bool) (x y : A) → cond b (Some x) None ≡ Some y → (b ≡ true) × (x ≡ y)
kept_some true x y e = (refl, cc)
kept_some false x y e = absurd cc

abbrev there : {A : Type 0} → A → Option A
there x = Some x

pub some_is : {A : Type 0} (x y : A) → there x ≡ there y → x ≡ y
some_is x y e = cc

-- what a reader took from the front
pub record Takes (bytes text rest : List ℕ) : Type 0 where
  pub parts : bytes ≡ text ++ rest
  pub rest_fits : IsBytes rest

pub Takes-then : (a x b y c : List ℕ) → Takes a x b → Takes b y c → Takes a (x ++ y) c
Takes-then a x b y c p q = record { parts = p.parts ∙ ap (λ (t : List ℕ). x ++ t) q.parts ∙ sym (append_assoc x y c); rest_fits = q.rest_fits }

pub Takes-head : (n : ℕ) (a x b : List ℕ) → Takes a x b → Takes (n ∷ a) (n ∷ x) b
Takes-head n a x b p = record { parts = ap (λ (t : List ℕ). n ∷ t) p.parts; rest_fits = p.rest_fits }

-- ---- numbers

abbrev number_at : Width → ℕ → List ℕ → Option (ℕ × List ℕ)
number_at w count bytes = cond (ltb (length bytes) count) None (Some (from_be_bytes w (take count bytes), drop count bytes))

record IsWide (w : Width) (count limit : ℕ) : Type 0 where
  len : (n : ℕ) → length (to_be_bytes w n) ≡ count
  back : (bytes : List ℕ) → length bytes ≡ count → IsBytes bytes → to_be_bytes w (from_be_bytes w bytes) ≡ bytes
  again : (n : ℕ) → n < limit → from_be_bytes w (to_be_bytes w n) ≡ n
  below : (bytes : List ℕ) → IsBytes bytes → from_be_bytes w bytes < limit

wide32 : IsWide w32 4 (2 ^ 32)
wide32 = record {
  len = λ n. refl;
  back = λ bytes len fits. be_bytes_4 bytes _ len fits refl;
  again = λ n lt. from_be_bytes-to_be_bytes_4 n lt;
  below = λ bytes fits. omega (arith, fits 0, fits 1, fits 2, fits 3);
}

wide64 : IsWide w64 8 (2 ^ 64)
wide64 = record {
  len = λ n. refl;
  back = λ bytes len fits. be_bytes_8 bytes _ len fits refl;
  again = λ n lt. from_be_bytes-to_be_bytes_8 n lt;
  below = λ bytes fits. omega (arith, fits 0, fits 1, fits 2, fits 3, fits 4, fits 5, fits 6, fits 7);
}

number_takes : (w : Width) (count limit : ℕ) (wide : IsWide w count limit) (bytes : List ℕ) (n : ℕ) (rest : List ℕ) → IsBytes bytes
    → number_at w count bytes ≡ Some (n, rest)
    → Takes bytes (to_be_bytes w n) rest × (n < limit)
number_takes w count limit wide bytes n rest fits e =
    let g = short_some (ltb (length bytes) count) (from_be_bytes w (take count bytes), drop count bytes) (n, rest) e in
    let long : count ≤ length bytes = ltb-false _ _ g.0 in
    let n-is : from_be_bytes w (take count bytes) ≡ n = ap (λ (p : ℕ × List ℕ). p.0) g.1 in
    let rest-is : drop count bytes ≡ rest = ap (λ (p : ℕ × List ℕ). p.1) g.1 in
    let front : to_be_bytes w n ≡ take count bytes = rw (← n-is) (wide.back (take count bytes) (omega (arith, length-take count bytes))
    (IsBytes-take count bytes fits)) in (
      record { parts = rw (front, ← rest-is) (sym (take-append-drop count bytes)); rest_fits = rw (← rest-is) (IsBytes-drop count bytes fits) },
      rw (← n-is) (wide.below (take count bytes) (IsBytes-take count bytes fits)),
    )

number_again : (w : Width) (count limit : ℕ) (wide : IsWide w count limit) (n : ℕ) (rest : List ℕ) → n < limit
    → number_at w count (to_be_bytes w n ++ rest) ≡ Some (n, rest)
number_again w count limit wide n rest lt =
    let len = wide.len n in
    let long : ltb (length (to_be_bytes w n ++ rest)) count ≡ false = le-ltb _ _ (omega (arith, length-append (to_be_bytes w n) rest)) in
    rw (long, take_at (to_be_bytes w n) rest count len, drop_at (to_be_bytes w n) rest count len, wide.again n lt) refl

pub u32_takes : (bytes : List ℕ) (x : ℕ × List ℕ) → IsBytes bytes → u32_at bytes ≡ Some x → Takes bytes (be32 x.0) x.1 × (x.0 < 2 ^ 32)
unfolding be32
u32_takes bytes x fits e = number_takes w32 4 (2 ^ 32) wide32 bytes x.0 x.1 fits e

pub u32_again : (n : ℕ) (rest : List ℕ) → n < 2 ^ 32 → u32_at (be32 n ++ rest) ≡ Some (n, rest)
unfolding be32
u32_again n rest lt = number_again w32 4 (2 ^ 32) wide32 n rest lt

pub u64_takes : (bytes : List ℕ) (x : ℕ × List ℕ) → IsBytes bytes → u64_at bytes ≡ Some x → Takes bytes (be64 x.0) x.1 × (x.0 < 2 ^ 64)
unfolding be64
u64_takes bytes x fits e = number_takes w64 8 (2 ^ 64) wide64 bytes x.0 x.1 fits e

pub u64_again : (n : ℕ) (rest : List ℕ) → n < 2 ^ 64 → u64_at (be64 n ++ rest) ≡ Some (n, rest)
unfolding be64
u64_again n rest lt = number_again w64 8 (2 ^ 64) wide64 n rest lt

-- ---- texts

above_from_test : (xs : List ℕ) → AllPass (λ b. leb 32 b) xs → All (λ b. 32 ≤ b) xs
above_from_test xs h = λ i d lt. leb-true 32 (get_or xs i d) (h i d lt)

test_from_above : (xs : List ℕ) → All (λ b. 32 ≤ b) xs → AllPass (λ b. leb 32 b) xs
test_from_above xs h = λ i d lt. le-leb 32 (get_or xs i d) (h i d lt)

text_from_test : (text : List ℕ) → is_text text ≡ true → IsText text
text_from_test text e =
    let p = and_parts (leb (length text) 255) (list_all (λ b. leb 32 b) text) e in
    record { short = leb-true _ _ p.0; printable = above_from_test text (AllPass-from_list_all (λ b. leb 32 b) text p.1) }

test_from_text : (text : List ℕ) → IsText text → is_text text ≡ true
test_from_text text t =
    and_from (leb (length text) 255) (list_all (λ b. leb 32 b) text) (le-leb _ _ t.short)
    (list_all-from_AllPass (λ b. leb 32 b) text (test_from_above text t.printable))

-- a text that is UTF-8
abbrev pub IsUtf8Text : List ℕ → Type 0
IsUtf8Text text = IsText text × IsUtf8 text

utf8_from_test : (text : List ℕ) → (is_text text && is_utf8 text) ≡ true → IsUtf8Text text
utf8_from_test text e =
    let p = and_parts (is_text text) (is_utf8 text) e in
    (text_from_test text p.0, IsUtf8-from_is_utf8 text p.1)

test_from_utf8 : (text : List ℕ) → IsUtf8Text text → (is_text text && is_utf8 text) ≡ true
test_from_utf8 text t = and_from (is_text text) (is_utf8 text) (test_from_text text t.0) (is_utf8-from_IsUtf8 text t.1)

-- what the standard library's test of UTF-8 tells is that test
pub tells_utf8 : {T E : Type 0} (bytes : List ℕ) (r : Result T E) (told : Bool) (P : T → Type 0) (Q : E → Type 0)
    → MatchResult r (λ t. P t × IsUtf8 bytes) (λ e. (IsUtf8 bytes → ⊥) × Q e) → told ≡ is_ok r → told ≡ is_utf8 bytes
tells_utf8 bytes (Ok t) true P Q cases is = sym (is_utf8-from_IsUtf8 bytes cases.1)
tells_utf8 bytes (Ok t) false P Q cases is = absurd cc
tells_utf8 bytes (Err e) true P Q cases is = absurd cc
tells_utf8 bytes (Err e) false P Q cases is = by_test (is_utf8 bytes) refl
  where
    by_test : (test : Bool) → is_utf8 bytes ≡ test → false ≡ is_utf8 bytes
    by_test true so = absurd (cases.0 (IsUtf8-from_is_utf8 bytes so))
    by_test false so = sym so

text_behind : (b : Bool) (count : ℕ) (bytes : List ℕ) (x : List ℕ × List ℕ) → IsBytes bytes → ltb (length bytes) count ≡ b
    → cond b None (text_if (take count bytes) (drop count bytes)) ≡ Some x → Takes (count ∷ bytes) (length x.0 ∷ x.0) x.1 × IsUtf8Text x.0
text_behind true count bytes x fits short e = absurd cc
text_behind false count bytes x fits long e =
    let text : List ℕ = take count bytes in
    let g = kept_some (is_text text && is_utf8 text) (text, drop count bytes) x e in
    let len : length text ≡ count = omega (arith, length-take count bytes, ltb-false _ _ long) in
    let first : Takes (count ∷ bytes) (count ∷ text) (drop count bytes) =
    record { parts = ap (λ (t : List ℕ). count ∷ t) (sym (take-append-drop count bytes)); rest_fits = IsBytes-drop count bytes fits } in
    let whole : Takes (count ∷ bytes) (length text ∷ text) (drop count bytes) =
    subst (λ (k : ℕ). Takes (count ∷ bytes) (k ∷ text) (drop count bytes)) (sym len) first in
    subst (λ (p : List ℕ × List ℕ). Takes (count ∷ bytes) (length p.0 ∷ p.0) p.1 × IsUtf8Text p.0) g.1 (whole, utf8_from_test text g.0)

pub text_takes : (bytes : List ℕ) (x : List ℕ × List ℕ) → IsBytes bytes → text_at bytes ≡ Some x → Takes bytes (length x.0 ∷ x.0) x.1 × IsUtf8Text x.0
text_takes [] x fits e = absurd cc
text_takes (count ∷ bytes) x fits e = text_behind (ltb (length bytes) count) count bytes x (IsBytes-rest count bytes fits) refl e

pub text_again : (text rest : List ℕ) → IsUtf8Text text → text_at (length text ∷ (text ++ rest)) ≡ Some (text, rest)
text_again text rest t =
    let long : ltb (length (text ++ rest)) (length text) ≡ false = le-ltb _ _ (omega (arith, length-append text rest)) in
    rw (long, take_at text rest (length text) refl, drop_at text rest (length text) refl, test_from_utf8 text t) refl
