-- A word need be compared only with the one reserved word of its length and its first letters.
use Rattle.std.proofs.Common.{◌≡◌, ℕ, ◌<◌, ◌≤◌, Bool, true, false, Option, Some, None, List, [], ◌∷◌, length, get_or, refl, ap, sym, ◌∙◌, arith}
use Rattle.std.proofs.lemmas.List.{length-map}
use Rattle.std.proofs.lemmas.Slice.Eq.{bytes_eq-Decides}
use Rattle.std.specs.Prelude.{find, IfSome}
use Rattle.std.specs.Bool.{then_some}
use Rattle.std.specs.Char.{to_ascii_lowercase}
use Rattle.std.specs.Str.{bytes_eq, str_to_ascii_lowercase}
use Rattle.hy_token.specs.Keyword.{keyword_of, keywords, word_spelling}
use Rattle.hy_token.specs.Letters.{candidate}
use Rattle.hy_token.specs.Spellings.{word_found}
use Rattle.hy_token.specs.declared.Keyword.{Keyword}
use Rattle.hy_token.specs.declared.Keyword.TheVariants as keyword
use Rattle.hy_token.proofs.Progress.{find_passes}

-- a reserved word in small letters
abbrev pub low_of : Keyword → List ℕ
low_of k = str_to_ascii_lowercase (word_spelling k)

-- the first of some reserved words that these small letters spell
abbrev pub among : List Keyword → List ℕ → Option Keyword
among ks low = find (λ k. bytes_eq (low_of k) low) ks

-- the reserved word that a word in small letters can be, where it is that one
abbrev pub confirmed : Option Keyword → List ℕ → Option Keyword
confirmed None low = None
confirmed (Some k) low = then_some (bytes_eq (low_of k) low) k

abbrev by_shape : List ℕ → Option Keyword
by_shape low = confirmed (candidate (length low) (get_or low 0 0) (get_or low 1 0)) low

shape_found : (k : Keyword) → by_shape (low_of k) ≡ Some k
shape_found keyword.And = refl
shape_found _ = refl

spelled : (low : List ℕ) (found : Option Keyword) → IfSome found (λ k. bytes_eq (low_of k) low ≡ true) → IfSome found (λ k. low_of k ≡ low)
spelled low None passes = tt
spelled low (Some k) passes = (bytes_eq-Decides (low_of k) low).0 passes

tested : (low : List ℕ) (k : Keyword) (test : Bool) → bytes_eq (low_of k) low ≡ test → IfSome (then_some test k) (λ k. low_of k ≡ low)
tested low k true h = (bytes_eq-Decides (low_of k) low).0 h
tested low k false h = tt

confirmed_spelled : (low : List ℕ) (found : Option Keyword) → IfSome (confirmed found low) (λ k. low_of k ≡ low)
confirmed_spelled low None = tt
confirmed_spelled low (Some k) = tested low k (bytes_eq (low_of k) low) refl

pub among_spelled : (low : List ℕ) → IfSome (among keywords low) (λ k. low_of k ≡ low)
among_spelled low = spelled low _ (find_passes (λ k. bytes_eq (low_of k) low) keywords)

-- two ways to look that both find each word by its spelling find the same
pub same_found : {X L : Type 0} (A B : L → Option X) (spell : X → L) → ((x : X) → A (spell x) ≡ Some x) → ((x : X) → B (spell x) ≡ Some x) → (low : L) (a b : Option X) → A low ≡ a → B low ≡ b
    → IfSome a (λ x. spell x ≡ low) → IfSome b (λ x. spell x ≡ low) → a ≡ b
same_found A B spell finds_a finds_b low None None is_a is_b of_a of_b = refl
same_found A B spell finds_a finds_b low a (Some y) is_a is_b of_a of_b = sym is_a ∙ ap A (sym of_b) ∙ finds_a y
same_found A B spell finds_a finds_b low (Some x) b is_a is_b of_a of_b = sym (finds_b x) ∙ ap B of_a ∙ is_b

by_shape_is : (low : List ℕ) → by_shape low ≡ among keywords low
unfolding keyword_of
by_shape_is low =
    same_found by_shape (among keywords) low_of shape_found (λ k. word_found k) low (by_shape low) (among keywords low) refl refl
    (confirmed_spelled low (candidate (length low) (get_or low 0 0) (get_or low 1 0)))
    (among_spelled low)

by_letters : (word : List ℕ) → 2 ≤ length word → confirmed (candidate (length word) (to_ascii_lowercase (get_or word 0 0)) (to_ascii_lowercase (get_or word 1 0))) (str_to_ascii_lowercase word) ≡ keyword_of word
unfolding keyword_of
by_letters [] two = absurd (omega (arith, two))
by_letters (a ∷ []) two = absurd (omega (arith, two))
by_letters (a ∷ b ∷ bytes) two =
    let word = a ∷ b ∷ bytes in
    let low = str_to_ascii_lowercase word in
    ap (λ n. confirmed (candidate n (to_ascii_lowercase a) (to_ascii_lowercase b)) low) (sym (length-map word to_ascii_lowercase)) ∙ by_shape_is low

-- what the one reserved word that a word can be says of it
pub of_its_shape : (word : List ℕ) (found : Option Keyword) → 2 ≤ length word → found ≡ candidate (length word) (to_ascii_lowercase (get_or word 0 0)) (to_ascii_lowercase (get_or word 1 0))
    → confirmed found (str_to_ascii_lowercase word) ≡ keyword_of word
of_its_shape word found two is = ap (λ o. confirmed o (str_to_ascii_lowercase word)) is ∙ by_letters word two

pub too_short : (word : List ℕ) → length word < 2 → None ≡ keyword_of word
unfolding keyword_of
too_short [] short = refl
too_short (a ∷ []) short = by_shape_is (to_ascii_lowercase a ∷ [])
too_short (a ∷ b ∷ bytes) short = absurd (omega (arith, short))
