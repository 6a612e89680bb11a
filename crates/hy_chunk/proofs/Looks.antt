-- What is found and gathered of what a viewer sees, position by position.
use Rattle.std.proofs.Common.{◌≡◌, ℕ, zero, suc, ◌+◌, ◌<◌, Bool, true, false, List, [], ◌∷◌, ◌++◌, length, map, take, refl, sym, ap, ◌∙◌, arith, inl, inr}
use Rattle.std.specs.Prelude.{◌||◌}
use Rattle.std.specs.List.{flat_map, list_any}
use Rattle.std.proofs.lemmas.Bool.{cases_eq}
use Rattle.std.proofs.lemmas.List.{take_more, map_push, flat_map_more}
use Rattle.hy_value.specs.declared.Value.{Value}
use Rattle.hy_stamp.specs.declared.Viewer.{Viewer}
use Rattle.hy_undo.specs.Places.{Place, Cell, sees}
use Rattle.hy_undo.specs.Chunks.{rows_seen}
use Rattle.hy_chunk.specs.Fields.{nth, blank_with}

or_right : (a b : Bool) → b ≡ true → (a || b) ≡ true
or_right true b e = refl
or_right false b e = e

or_left : (a b : Bool) → a ≡ true → (a || b) ≡ true
or_left true b e = refl
or_left false b e = absurd (cc)

or_neither : (a b : Bool) → a ≡ false → b ≡ false → (a || b) ≡ false
or_neither true b e f = absurd (cc)
or_neither false b e f = f

pub found_at : (test : Cell → Bool) (viewer : Viewer) (places : List Place) (k : ℕ) → k < length places → test (sees viewer (nth places k)) ≡ true
    → list_any test (rows_seen viewer places) ≡ true
found_at test viewer [] k l e = absurd (omega arith)
found_at test viewer (p ∷ ps) zero l e = or_left (test (sees viewer p)) (list_any test (rows_seen viewer ps)) e
found_at test viewer (p ∷ ps) (suc k) l e = or_right (test (sees viewer p)) (list_any test (rows_seen viewer ps)) (found_at test viewer ps k (omega arith) e)

pub found_nowhere : (test : Cell → Bool) (viewer : Viewer) (places : List Place) → ((k : ℕ) → k < length places → test (sees viewer (nth places k)) ≡ false)
    → list_any test (rows_seen viewer places) ≡ false
found_nowhere test viewer [] none = refl
found_nowhere test viewer (p ∷ ps) none =
    or_neither (test (sees viewer p)) (list_any test (rows_seen viewer ps)) (none zero (omega arith))
    (found_nowhere test viewer ps (λ k l. none (suc k) (omega arith)))

pub none_more : (test : Cell → Bool) (viewer : Viewer) (places : List Place) (count : ℕ) → ((k : ℕ) → k < count → test (sees viewer (nth places k)) ≡ false)
    → test (sees viewer (nth places count)) ≡ false → (k : ℕ) → k < count + 1 → test (sees viewer (nth places k)) ≡ false
none_more test viewer places count none here k l =
    elim (cases_eq k count) [
      | inl same ↦ ap (λ (j : ℕ). test (sees viewer (nth places j))) same ∙ here
      | inr other ↦ none k (omega (arith, l, other))
    ]

-- what is gathered of one position more
pub gathered_more : (keeps : Cell → List (List Value)) (viewer : Viewer) (places : List Place) (count : ℕ) (before : List (List Value)) → count < length places
    → (before ++ flat_map keeps (rows_seen viewer (take count places))) ++ keeps (sees viewer (nth places count)) ≡ before ++ flat_map keeps
    (rows_seen viewer (take (count + 1) places))
gathered_more keeps viewer places count before l =
    flat_map_more keeps before (rows_seen viewer (take count places)) (sees viewer (nth places count))
    ∙ ap (λ (cells : List Cell). before ++ flat_map keeps cells)
    (sym (ap (map (sees viewer)) (take_more places count (blank_with []) l) ∙ map_push (sees viewer) (take count places) (nth places count)))
