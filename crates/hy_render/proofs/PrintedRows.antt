-- A row that is printed column by column.
use Rattle.std.proofs.Common.{◌≡◌, ℕ, ◌+◌, ◌<◌, List, [], ◌∷◌, ◌++◌, length, drop, take, get_or, add-one, ap, ◌∙◌, sym, subst, append_assoc, arith, refl, true≢false}
use Rattle.std.specs.List.{flat_map}
use Rattle.std.proofs.lemmas.List.{flat_map_more, take_more}
use Rattle.hy_value.specs.declared.Value.{Value}
use Rattle.hy_value.specs.declared.Value.TheVariants as value
use Rattle.std.specs.List.{list_any}
use Rattle.std.specs.Prelude.{Bool, true, false, ◌||◌, ◌==◌, cond}
use Rattle.hy_value.specs.Print.{printed, printed_next, printed_row, doubled_quote}

-- one more column
values_more : (vs : List Value) (i : ℕ) (v : Value) → i < length vs → v ≡ get_or vs i value.Null → take (i + 1) vs ≡ take i vs ++ v ∷ []
values_more vs i v low e = rw e (take_more vs i value.Null low)

next_printed : (out : List ℕ) (vs : List Value) (i : ℕ) (v : Value) → i + 1 < length vs → v ≡ get_or vs (i + 1) value.Null
    → (out ++ flat_map printed_next (take i (drop 1 vs))) ++ printed_next v ≡ out ++ flat_map printed_next (take (i + 1) (drop 1 vs))
next_printed out [] i v low e = absurd (omega arith)
next_printed out (x ∷ vs) i v low e =
    let next : v ≡ get_or vs i value.Null = subst (λ n. v ≡ get_or (x ∷ vs) n value.Null) (add-one i) e in
    flat_map_more printed_next out (take i vs) v ∙ ap (λ xs. out ++ flat_map printed_next xs) (sym (values_more vs i v (omega arith) next))

-- a bar, and then the next value
pub printed_more : (out before pushed after : List ℕ) (vs : List Value) (i : ℕ) (v : Value) → i + 1 < length vs → v ≡ get_or vs (i + 1) value.Null
    → before ≡ out ++ flat_map printed_next (take i (drop 1 vs)) → pushed ≡ before ++ 124 ∷ [] → after ≡ pushed ++ printed v
    → after ≡ out ++ flat_map printed_next (take (i + 1) (drop 1 vs))
printed_more out before pushed after vs i v low e f g h =
    h ∙ (ap (λ (xs : List ℕ). xs ++ printed v) g ∙ (append_assoc before (124 ∷ []) (printed v)
    ∙ (ap (λ (xs : List ℕ). xs ++ printed_next v) f ∙ next_printed out vs i v low e)))

-- the first value, and then those behind it
pub printed_whole : (out first after : List ℕ) (vs : List Value) (v : Value) → 0 < length vs → v ≡ get_or vs 0 value.Null
    → first ≡ out ++ printed v → after ≡ first ++ flat_map printed_next (drop 1 vs) → after ≡ out ++ printed_row vs
printed_whole out first after [] v low e f g = absurd (omega arith)
printed_whole out first after (x ∷ vs) v low e f g =
    g ∙ (ap (λ (xs : List ℕ). xs ++ flat_map printed_next vs) (f ∙ ap (λ w. out ++ printed w) e) ∙ append_assoc out (printed x) (flat_map printed_next vs))

-- a text without a quote is printed as it stands
pub plain_text : (text : List ℕ) → list_any (λ b. b == 39) text ≡ false → flat_map doubled_quote text ≡ text
plain_text [] e = refl
plain_text (b ∷ text) e = by_test (b == 39) refl e (λ f. plain_text text f)
  where
    by_test : (test : Bool) → (b == 39) ≡ test → (test || list_any (λ c. c == 39) text) ≡ false
        → (list_any (λ c. c == 39) text ≡ false → flat_map doubled_quote text ≡ text) → flat_map doubled_quote (b ∷ text) ≡ b ∷ text
    by_test true same f rest = absurd (true≢false f)
    by_test false other f rest = ap (λ (front : List ℕ). front ++ flat_map doubled_quote text) (ap (λ test. cond test (39 ∷ 39 ∷ []) (b ∷ [])) other) ∙ ap (λ (xs : List ℕ). b ∷ xs) (rest f)

-- a text between quotes
pub quoted : (out one two after inner : List ℕ) → one ≡ out ++ 39 ∷ [] → two ≡ one ++ inner → after ≡ two ++ 39 ∷ [] → after ≡ out ++ 39 ∷ (inner ++ 39 ∷ [])
quoted out one two after inner e f g =
    g ∙ (ap (λ (xs : List ℕ). xs ++ 39 ∷ []) (f ∙ ap (λ (xs : List ℕ). xs ++ inner) e)
    ∙ (append_assoc (out ++ 39 ∷ []) inner (39 ∷ []) ∙ append_assoc out (39 ∷ []) (inner ++ 39 ∷ [])))
