-- Names and the numbers that they have.
use Rattle.std.specs.List.{All, AllPairs, list_any, position, prefix_len}
use Rattle.std.specs.Str.{bytes_eq}
use Rattle.std.proofs.Common.{◌≡◌, ◌≢◌, ℕ, suc, ◌+◌, ◌<◌, Bool, true, false, not, ◌||◌, is_some, cond, nat_lt, List, [], ◌∷◌, ◌++◌, Some, None, map, length, get_or, refl, sym, inl, inr, ◌∙◌, arith}
use Rattle.std.proofs.lemmas.Bool.{or_parts, lt-ltb, le-ltb, ltb-true, ltb-false, false≢true, cases_Bool}
use Rattle.std.proofs.lemmas.List.{get_or-map, length-map}
use Rattle.std.proofs.lemmas.List.Elements.{All-nil, All-cons, All-weaker}
use Rattle.std.proofs.lemmas.List.Folds.{list_any-append}
use Rattle.std.proofs.lemmas.List.Kept.{AllPairs-cons}
use Rattle.std.proofs.lemmas.List.Quantifiers.{position-Some}
use Rattle.std.proofs.lemmas.Slice.Eq.{bytes_eq-Decides}
use Rattle.hy_schema.specs.Names.{number_of}
use Rattle.hy_bind.specs.Statements.{comes_again, repeats}

-- ---- one name

-- a number is below how many names there are
pub number_within : (names : List (List ℕ)) (name : List ℕ) (number : ℕ) → number_of names name ≡ Some number → number < length names
number_within names name number is = (position-Some (bytes_eq name) names number [] is).0

-- the name of a number
pub name_at : List (List ℕ) → ℕ → List ℕ
name_at names number = get_or names number []

-- the name of the number of a name is that name
pub number_names : (names : List (List ℕ)) (name : List ℕ) (number : ℕ) → number_of names name ≡ Some number → name_at names number ≡ name
unfolding name_at
number_names names name number is = sym ((bytes_eq-Decides name (get_or names number [])).0 (position-Some (bytes_eq name) names number [] is).1)

suc_lt : (n l : ℕ) → nat_lt (1 + n) (suc l) ≡ nat_lt n l
suc_lt n l =
    elim (cases_Bool (nat_lt n l)) [
      | inl h ↦ let less = ltb-true n l h in lt-ltb (1 + n) (suc l) (omega (arith, less)) ∙ sym h
      | inr h ↦ let more = ltb-false n l h in le-ltb (1 + n) (suc l) (omega (arith, more)) ∙ sym h
    ]

there : {A : Type 0} (b : Bool) (x : A) → is_some (cond b (Some x) None) ≡ b
there true x = refl
there false x = refl

ordinal_or_not : (b : Bool) (n l : ℕ) (r : Bool) → is_some (cond (nat_lt n l) (Some n) None) ≡ r → is_some (cond (nat_lt (cond (not b) (1 + n) 0) (suc l)) (Some (cond (not b) (1 + n) 0)) None) ≡ (b || r)
ordinal_or_not true n l r h = there (nat_lt 0 (suc l)) 0 ∙ lt-ltb 0 (suc l) (omega arith)
ordinal_or_not false n l r h = there (nat_lt (1 + n) (suc l)) (1 + n) ∙ suc_lt n l ∙ sym (there (nat_lt n l) n) ∙ h

-- what has an ordinal is somewhere
has_ordinal : {A : Type 0} (test : A → Bool) (xs : List A) → is_some (position test xs) ≡ list_any test xs
has_ordinal test [] = refl
has_ordinal test (x ∷ xs) = ordinal_or_not (test x) (prefix_len (λ y. not (test y)) xs) (length xs) (list_any test xs) (has_ordinal test xs)

-- ---- names that come once

differ : (name other : List ℕ) → bytes_eq name other ≡ false → other ≢ name
differ name other h e = false≢true (sym h ∙ (bytes_eq-Decides name other).1 (sym e))

abbrev IsNew : List (List ℕ) → List ℕ → Type 0
IsNew before name = list_any (bytes_eq name) before ≡ false

not_before : (before : List (List ℕ)) (name other : List ℕ) → IsNew (before ++ other ∷ []) name → IsNew before name × (other ≢ name)
not_before before name other new =
    let parts = or_parts (list_any (bytes_eq name) before) (list_any (bytes_eq name) (other ∷ [])) (sym (list_any-append (bytes_eq name) before (other ∷ [])) ∙ new) in
    (parts.0, differ name other (or_parts (bytes_eq name other) false parts.1).0)

-- names of which none comes again are not among those before, and differ
once : (before names : List (List ℕ)) → comes_again before names ≡ false → All (IsNew before) names × AllPairs (λ one other. one ≢ other) names
once before [] h = (All-nil (IsNew before), λ i j d earlier within. absurd (omega (arith, within)))
once before (name ∷ names) h =
    let parts = or_parts (is_some (number_of before name)) (comes_again (before ++ name ∷ []) names) h in
    let rest = once (before ++ name ∷ []) names parts.1 in (
      All-cons (IsNew before) name names (sym (has_ordinal (bytes_eq name) before) ∙ parts.0) (All-weaker (IsNew (before ++ name ∷ [])) (IsNew before) (λ other new. (not_before before other name new).0) names rest.0),
      AllPairs-cons (λ one other. one ≢ other) name names (All-weaker (IsNew (before ++ name ∷ [])) (λ other. name ≢ other) (λ other new. (not_before before other name new).1) names rest.0) rest.1,
    )

-- where no name repeats the names differ
pub names_differ : (names : List (List ℕ)) → repeats names ≡ false → AllPairs (λ one other. one ≢ other) names
names_differ names h = (once [] names h).1

-- what has different pictures differs
pub pictures_differ : {A B : Type 0} (f : A → B) (xs : List A) → AllPairs (λ one other. one ≢ other) (map f xs) → AllPairs (λ one other. f one ≢ f other) xs
pictures_differ f xs differ i j d before within same =
    let many = length-map xs f in
    let earlier : i < length xs = omega (arith, before, within) in
    differ i j (f d) before (omega (arith, within, many)) (get_or-map f xs i d (f d) earlier ∙ same ∙ sym (get_or-map f xs j d (f d) within))
