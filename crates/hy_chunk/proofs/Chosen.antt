-- What is gathered at some positions alone, where nothing is wanted at the others.
use Rattle.std.proofs.Common.{◌≡◌, ◌≢◌, ℕ, zero, suc, ◌+◌, ◌<◌, ◌≤◌, List, [], ◌∷◌, ◌++◌}
use Rattle.std.proofs.Common.{length, get_or, take, None, refl, sym, ap, ◌∙◌, subst, arith, inl, inr}
use Rattle.std.specs.Prelude.{Contains}
use Rattle.std.specs.List.{AllByRecursion, flat_map}
use Rattle.std.specs.List.Sorted.{IsStrictlyIncreasing}
use Rattle.std.proofs.lemmas.Bool.{cases_eq}
use Rattle.std.proofs.lemmas.List.{get_or_default, length-map, take_more, flat_map_more}
use Rattle.hy_value.specs.declared.Value.{Value}
use Rattle.hy_stamp.specs.declared.Viewer.{Viewer}
use Rattle.hy_undo.specs.Places.{Place, Cell, sees}
use Rattle.hy_undo.specs.Chunks.{rows_seen}
use Rattle.hy_chunk.specs.Fields.{nth, blank_with}
use Rattle.hy_chunk.proofs.Found.{each_by, mapped_at}

-- each is above those before it, and none is below the first
abbrev pub Rises : ℕ → List ℕ → Type 0
Rises first [] = Unit {0}
Rises first (p ∷ ps) = (first ≤ p) × Rises (suc p) ps

rises_from : (first : ℕ) (p : ℕ) (ps : List ℕ) → first ≤ p → IsStrictlyIncreasing (p ∷ ps) → Rises first (p ∷ ps)
rises_from first p [] l up = (l, tt)
rises_from first p (q ∷ ps) l up = (
  l,
  rises_from (suc p) q ps (let less : p < q = up zero (omega arith) in omega (arith, less)) (λ k m.
      let e : ◌≡◌ {A = ℕ} (suc k + 1) (suc (k + 1)) = omega arith in
      subst (λ (j : ℕ). get_or {A = ℕ} (q ∷ ps) k 0 < get_or {A = ℕ} (p ∷ q ∷ ps) j 0) e (up (suc k) (omega (arith, m)))),
)

pub rises : (ps : List ℕ) → IsStrictlyIncreasing ps → Rises 0 ps
rises [] up = tt
rises (p ∷ ps) up = rises_from 0 p ps (omega arith) up

rises_on : (first : ℕ) (ps : List ℕ) (k : ℕ) → Rises first ps → k < length ps → first ≤ get_or ps k k
rises_on first [] k r l = absurd (omega arith)
rises_on first (p ∷ ps) zero r l = r.0
rises_on first (p ∷ ps) (suc k) r l =
    let on = rises_on (suc p) ps k r.1 (omega arith) in
    let same : get_or ps k k ≡ get_or ps k (suc k) = get_or_default ps k k (suc k) (omega arith) in
    omega (arith, on, r.0, same)

not_below : (first : ℕ) (ps : List ℕ) (p : ℕ) → Rises first ps → p < first → Contains ps p → ⊥
not_below first ps p r l c =
    let on = rises_on first ps c.0 r c.1 in
    let same : get_or ps c.0 c.0 ≡ p = get_or_default ps c.0 c.0 p c.1 ∙ c.2 in
    omega (arith, on, l, same)

behind : (p q : ℕ) (ps : List ℕ) → p ≢ q → Contains (p ∷ ps) q → Contains ps q
behind p q ps apart c = at c.0 c.1 c.2
  where
    at : (k : ℕ) → k < suc (length ps) → get_or (p ∷ ps) k q ≡ q → Contains ps q
    at zero l e = absurd (apart e)
    at (suc k) l e = (k, omega arith, e)

module _ (keeps : Cell → List (List Value)) (at : ℕ → List (List Value)) where
  chosen : (cells : List Cell) (first : ℕ) (ps : List ℕ) → ((k : ℕ) → k < length cells → at (first + k) ≡ keeps (get_or cells k None)) → Rises first ps
      → AllByRecursion (λ p. p < first + length cells) ps → ((k : ℕ) → first ≤ k → k < first + length cells → (Contains ps k → ⊥) → at k ≡ [])
      → flat_map at ps ≡ flat_map keeps cells
  chosen [] first [] each r all none = refl
  chosen [] first (p ∷ ps) each r all none = absurd (let l = r.0 in let m = all.0 in omega (arith, l, m))
  chosen (cell ∷ cells) first ps each r all none = by ps r all none (λ qs. chosen cells (suc first) qs next)
    where
      start : at first ≡ keeps cell
      start = ap at (let e : ◌≡◌ {A = ℕ} first (first + 0) = omega arith in e) ∙ each zero (omega arith)

      next : (k : ℕ) → k < length cells → at (suc first + k) ≡ keeps (get_or cells k None)
      next k l = ap at (let e : ◌≡◌ {A = ℕ} (suc first + k) (first + suc k) = omega arith in e) ∙ each (suc k) (omega (arith, l))

      further : (qs : List ℕ) → AllByRecursion (λ p. p < first + suc (length cells)) qs → AllByRecursion (λ p. p < suc first + length cells) qs
      further [] a = tt
      further (q ∷ qs) a = ((let l = a.0 in omega (arith, l)), further qs a.1)

      by : (qs : List ℕ) → Rises first qs → AllByRecursion (λ p. p < first + suc (length cells)) qs
          → ((k : ℕ) → first ≤ k → k < first + suc (length cells) → (Contains qs k → ⊥) → at k ≡ [])
          → ((us : List ℕ) → Rises (suc first) us → AllByRecursion (λ p. p < suc first + length cells) us
          → ((k : ℕ) → suc first ≤ k → k < suc first + length cells → (Contains us k → ⊥) → at k ≡ []) → flat_map at us ≡ flat_map keeps cells)
          → flat_map at qs ≡ keeps cell ++ flat_map keeps cells
      by [] q a n rest =
          rest [] tt tt (λ k l m c. n k (omega (arith, l)) (omega (arith, m)) c)
          ∙ ap (λ (xs : List (List Value)). xs ++ flat_map keeps cells)
          (sym (n first (omega arith) (omega arith) (λ c. let l = c.1 in omega (arith, l))) ∙ start)
      by (p ∷ qs) q a n rest = elim (cases_eq first p) [
        | inl same ↦ (λ i. at (sym same i) ++ rest qs (subst (λ (m : ℕ). Rises (suc m) qs) (sym same) q.1) (further qs a.1)
            (λ k l m c. n k (omega (arith, l)) (omega (arith, m)) (λ d. c (behind p k qs (λ e. absurd (omega (arith, e, l, same))) d))) i)
            ∙ ap (λ (xs : List (List Value)). xs ++ flat_map keeps cells) start
        | inr apart ↦
            let above : suc first ≤ p = (let l = q.0 in omega (arith, l, apart)) in
            rest (p ∷ qs) (above, q.1) (further (p ∷ qs) a) (λ k l m c. n k (omega (arith, l)) (omega (arith, m)) c)
            ∙ ap (λ (xs : List (List Value)). xs ++ flat_map keeps cells)
            (sym (n first (omega arith) (omega arith) (not_below (suc first) (p ∷ qs) first (above, q.1) (omega arith))) ∙ start)
      ]

-- what is gathered at the chosen positions is what is gathered of all
pub gathered_at_chosen : (keeps : Cell → List (List Value)) (viewer : Viewer) (places : List Place) (found : List ℕ) → IsStrictlyIncreasing found
    → ((p : ℕ) → Contains found p → p < length places)
    → ((k : ℕ) → k < length places → (Contains found k → ⊥) → keeps (sees viewer (nth places k)) ≡ [])
    → flat_map (λ p. keeps (sees viewer (nth places p))) found ≡ flat_map keeps (rows_seen viewer places)
gathered_at_chosen keeps viewer places found up all none =
    let size : length (rows_seen viewer places) ≡ length places = length-map places (sees viewer) in
    chosen keeps (λ p. keeps (sees viewer (nth places p))) (rows_seen viewer places) 0 found
    (λ k l. ap (λ (j : ℕ). keeps (sees viewer (nth places j))) (let e : ◌≡◌ {A = ℕ} (0 + k) k = omega arith in e)
    ∙ ap keeps (sym (mapped_at (sees viewer) places k (blank_with []))
    ∙ get_or_default (rows_seen viewer places) k (sees viewer (blank_with [])) None l))
    (rises found up) (each_by (λ p. p < 0 + length (rows_seen viewer places)) found (λ p c. let l = all p c in omega (arith, l, size)))
    (λ k l m c. none k (omega (arith, m, size)) c)

-- what is gathered at one position more
pub chosen_more : (at : ℕ → List (List Value)) (found : List ℕ) (count p : ℕ) (before : List (List Value)) → count < length found → p ≡ get_or found count 0
    → (before ++ flat_map at (take count found)) ++ at p ≡ before ++ flat_map at (take (count + 1) found)
chosen_more at found count p before l is =
    flat_map_more at before (take count found) p
    ∙ ap (λ (ps : List ℕ). before ++ flat_map at ps)
    (ap (λ (q : ℕ). take count found ++ q ∷ []) is ∙ sym (take_more found count 0 l))
