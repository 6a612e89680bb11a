-- A row that is printed column by column.
use Rattle.std.proofs.Common.{◌≡◌, ℕ, ◌+◌, ◌<◌, List, [], ◌∷◌, ◌++◌, length, drop, take, get_or, add-one, ap, ◌∙◌, sym, subst, append_assoc, arith}
use Rattle.std.specs.List.{flat_map}
use Rattle.std.proofs.lemmas.List.{flat_map_more}
use Rattle.hy_value.specs.declared.Value.{Value}
use Rattle.hy_value.specs.declared.Value.TheVariants as value
use Rattle.hy_value.specs.Print.{printed, printed_next, printed_row}
use Rattle.hy_value.proofs.Columns.{values_more}

next_printed : (out : List ℕ) (vs : List Value) (i : ℕ) (v : Value) → i + 1 < length vs → v ≡ get_or vs (i + 1) value.Null
    → (out ++ flat_map printed_next (take i (drop 1 vs))) ++ printed_next v ≡ out ++ flat_map printed_next (take (i + 1) (drop 1 vs))
next_printed out [] i v low e = absurd (omega arith)
next_printed out (x ∷ vs) i v low e =
    let next : v ≡ get_or vs i value.Null = subst (λ n. v ≡ get_or (x ∷ vs) n value.Null) (add-one i) e in
    flat_map_more printed_next out (take i vs) v ∙ ap (λ xs. out ++ flat_map printed_next xs) (sym (values_more vs i v (omega arith) next))

-- a bar, and then the next value
pub printed_more : (out before pushed after : List ℕ) (vs : List Value) (i : ℕ) (v : Value) → i + 1 < length vs → v ≡ get_or vs (i + 1) value.Null
    → before ≡ out ++ flat_map printed_next (take i (drop 1 vs)) → pushed ≡ before ++ 124 ∷ [] → after ≡ pushed ++ printed v
    → after ≡ out ++ flat_map printed_next (take (i + 1) (drop 1 vs))
printed_more out before pushed after vs i v low e f g h =
    h ∙ (ap (λ (xs : List ℕ). xs ++ printed v) g ∙ (append_assoc before (124 ∷ []) (printed v)
    ∙ (ap (λ (xs : List ℕ). xs ++ printed_next v) f ∙ next_printed out vs i v low e)))

-- the first value, and then those behind it
pub printed_whole : (out first after : List ℕ) (vs : List Value) (v : Value) → 0 < length vs → v ≡ get_or vs 0 value.Null
    → first ≡ out ++ printed v → after ≡ first ++ flat_map printed_next (drop 1 vs) → after ≡ out ++ printed_row vs
printed_whole out first after [] v low e f g = absurd (omega arith)
printed_whole out first after (x ∷ vs) v low e f g =
    g ∙ (ap (λ (xs : List ℕ). xs ++ flat_map printed_next vs) (f ∙ ap (λ w. out ++ printed w) e) ∙ append_assoc out (printed x) (flat_map printed_next vs))
