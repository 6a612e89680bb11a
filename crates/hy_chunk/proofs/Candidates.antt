-- A sweep over the candidates alone: at the other positions nothing is judged.
use Rattle.std.proofs.Common.{◌≡◌, ℕ, zero, suc, ◌+◌, ◌-◌, ◌<◌, ◌≤◌, Bool, true, false, List, [], ◌∷◌, ◌++◌}
use Rattle.std.proofs.Common.{length, get_or, Option, None, Some, Ok, cond, refl, sym, ap, ◌∙◌, subst, arith, inl, inr}
use Rattle.std.specs.Prelude.{Contains, is_some}
use Rattle.std.specs.List.Sorted.{IsStrictlyIncreasing}
use Rattle.std.proofs.lemmas.Bool.{both_ways, cases_eq, cases_lt, false_from_ne_true}
use Rattle.std.proofs.lemmas.List.{get_or_default, get_or_past, get_or_append_left}
use Rattle.std.proofs.lemmas.List.Elements.{Contains-get_or, Contains-append_left, Contains-append_right, Contains-append_cases}
use Rattle.hy_value.specs.declared.Value.{Value}
use Rattle.hy_stamp.specs.declared.Label.{Label}
use Rattle.hy_stamp.specs.declared.Viewer.{Viewer}
use Rattle.hy_bound.specs.Condition.{Condition}
use Rattle.hy_bound.specs.declared.Assign.{Assign}
use Rattle.hy_bound.specs.Predicate.{truth_at, truth_of}
use Rattle.hy_bound.specs.Records.{conjuncts}
use Rattle.hy_chain.specs.Chains.{Undo, newest, rival, seen}
use Rattle.hy_undo.specs.Images.{Image, before}
use Rattle.hy_undo.specs.Places.{Place, Cell, cell_of, in_place, sees}
use Rattle.hy_undo.specs.Sweeps.{verdict}
use Rattle.hy_chunk.specs.Candidates.{AreCandidates, IsBarred, IsPlain}
use Rattle.hy_chunk.specs.Fields.{nth}
use Rattle.hy_chunk.specs.Gathering.{Asks}
use Rattle.hy_chunk.specs.Keyed.{HaveUsed, KeysStay}
use Rattle.hy_chunk.specs.Masked.{BarsRow}
use Rattle.hy_chunk.specs.Writes.{judged_at}
use Rattle.hy_chunk.proofs.Masking.{barred_pred}
use Rattle.hy_chunk.proofs.Sweeping.{no_row}

-- ---- numbers that ascend

rising : (xs : List ℕ) → IsStrictlyIncreasing xs → (i gap : ℕ) → i + gap < length xs → get_or {A = ℕ} xs i 0 + gap ≤ get_or {A = ℕ} xs (i + gap) 0
rising xs up i zero l =
    let e : ◌≡◌ {A = ℕ} (get_or {A = ℕ} xs (i + zero) 0) (get_or {A = ℕ} xs i 0) =
    ap (λ (k : ℕ). get_or {A = ℕ} xs k 0) (let n : ◌≡◌ {A = ℕ} (i + zero) i = omega arith in n) in
    omega (arith, e)
rising xs up i (suc gap) l =
    let before = rising xs up i gap (omega (arith, l)) in
    let less : get_or {A = ℕ} xs (i + gap) 0 < get_or {A = ℕ} xs ((i + gap) + 1) 0 = up (i + gap) (omega (arith, l)) in
    let e : ◌≡◌ {A = ℕ} (get_or {A = ℕ} xs (i + suc gap) 0) (get_or {A = ℕ} xs ((i + gap) + 1) 0) =
    ap (λ (k : ℕ). get_or {A = ℕ} xs k 0) (let n : ◌≡◌ {A = ℕ} (i + suc gap) ((i + gap) + 1) = omega arith in n) in
    omega (arith, before, less, e)

rises_to : (xs : List ℕ) → IsStrictlyIncreasing xs → (i k : ℕ) → i ≤ k → k < length xs → get_or {A = ℕ} xs i 0 ≤ get_or {A = ℕ} xs k 0
rises_to xs up i k le l =
    let on = rising xs up i (k - i) (omega (arith, le, l)) in
    let e : ◌≡◌ {A = ℕ} (get_or {A = ℕ} xs (i + (k - i)) 0) (get_or {A = ℕ} xs k 0) =
    ap (λ (j : ℕ). get_or {A = ℕ} xs j 0) (let n : ◌≡◌ {A = ℕ} (i + (k - i)) k = omega (arith, le) in n) in
    omega (arith, on, e)

-- one more behind all
pub ascends_more : (xs : List ℕ) (x : ℕ) → IsStrictlyIncreasing xs → ((y : ℕ) → Contains xs y → y < x) → IsStrictlyIncreasing (xs ++ x ∷ [])
ascends_more xs x up below k l = elim (cases_lt (k + 1) (length xs)) [
  | inl inside ↦
      let less : get_or {A = ℕ} xs k 0 < get_or {A = ℕ} xs (k + 1) 0 = up k inside in
      let one = get_or_append_left {A = ℕ} xs (x ∷ []) 0 k (omega (arith, inside)) in
      let two = get_or_append_left {A = ℕ} xs (x ∷ []) 0 (k + 1) inside in
      omega (arith, less, one, two)
  | inr past ↦
      let size : length (xs ++ x ∷ []) ≡ length xs + 1 = longer xs in
      let here : k < length xs = omega (arith, l, size) in
      let less = below (get_or {A = ℕ} xs k 0) (Contains-get_or xs k 0 here) in
      let one = get_or_append_left {A = ℕ} xs (x ∷ []) 0 k here in
      let two = last xs (k + 1) (omega (arith, past, l, size)) in
      omega (arith, less, one, two)
]
  where
    longer : (ys : List ℕ) → length (ys ++ x ∷ []) ≡ length ys + 1
    longer [] = refl
    longer (y ∷ ys) = let rest = longer ys in omega (arith, rest)

    last : (ys : List ℕ) (j : ℕ) → j ≡ length ys → get_or {A = ℕ} (ys ++ x ∷ []) j 0 ≡ x
    last [] j e = ap (λ (i : ℕ). get_or {A = ℕ} (x ∷ []) i 0) e
    last (y ∷ ys) zero e = absurd (omega (arith, e))
    last (y ∷ ys) (suc j) e = last ys j (omega (arith, e))

-- ---- what is judged at a position where no row is selected

pub barred_none : (sets : Option (List Assign)) (pred : Condition) (viewer : Viewer) (pos : ℕ) (key : Option ℕ) (places : List Place) (place : ℕ)
    → KeysStay key places → place < length places → IsBarred pred key (nth places place)
    → judged_at sets pred viewer pos (nth places place) ≡ Ok None
barred_none sets pred viewer pos key places place stay l (inl plain) =
    let p : Place = nth places place in
    no_row sets pred pos (rival viewer p.chain) (sees viewer p)
    (ap (λ (chain : List (Undo Image)). truth_at pred (cell_of (seen before viewer p.version chain))) plain.chain ∙ plain.barred)
barred_none sets pred viewer pos key places place stay l (inr keyed) = by (sees viewer (nth places place)) refl
  where
    other : Option Label
    other = rival viewer (nth places place).chain

    by : (cell : Cell) → sees viewer (nth places place) ≡ cell → verdict sets pred pos other cell ≡ Ok None
    by None is = refl
    by (Some row) is = no_row sets pred pos other (Some row) (false_from_ne_true (truth_of pred row) (λ yes.
        let here = stay keyed.column viewer place row keyed.is_key l is in
        keyed.other here.0 (sym here.1 ∙ keyed.asks row yes)))

-- ---- where a sweep over candidates is

-- the candidate of this index, or how many positions there are
abbrev pub reach : List ℕ → List Place → ℕ → ℕ
reach found places i = get_or found i (length places)

pub reach_past : (found : List ℕ) (places : List Place) (i : ℕ) → length found ≤ i → length places ≤ reach found places i
reach_past found places i past = let e : reach found places i ≡ length places = get_or_past found i (length places) past in omega (arith, e)

module _ (pred : Condition) (key : Option ℕ) (places : List Place) (found : List ℕ) (c : AreCandidates pred key places found) where
  as_number : (i : ℕ) → i < length found → reach found places i ≡ get_or {A = ℕ} found i 0
  as_number i l = get_or_default found i (length places) 0 l

  -- the number that is read there
  pub at_reach : (i number : ℕ) → i < length found → number ≡ get_or {A = ℕ} found i 0 → number ≡ reach found places i
  at_reach i number l is = is ∙ sym (as_number i l)

  pub reach_inside : (i : ℕ) → i < length found → reach found places i < length places
  reach_inside i l = c.within (reach found places i) (Contains-get_or found i (length places) l)

  pub inside_at : (i number : ℕ) → i < length found → number ≡ get_or {A = ℕ} found i 0 → number < length places
  inside_at i number l is =
      let inside = reach_inside i l in
      omega (arith, inside, at_reach i number l is)

  pub reach_within : (i : ℕ) → reach found places i ≤ length places
  reach_within i = elim (cases_lt i (length found)) [
    | inl inside ↦ let l = reach_inside i inside in omega (arith, l)
    | inr past ↦ let e : reach found places i ≡ length places = get_or_past found i (length places) past in omega (arith, e)
  ]

  pub reach_rises : (i : ℕ) → i < length found → reach found places i + 1 ≤ reach found places (i + 1)
  reach_rises i l = elim (cases_lt (i + 1) (length found)) [
    | inl inside ↦
        let less : get_or {A = ℕ} found i 0 < get_or {A = ℕ} found (i + 1) 0 = c.ascends i inside in
        omega (arith, less, as_number i l, as_number (i + 1) inside)
    | inr past ↦
        let e : reach found places (i + 1) ≡ length places = get_or_past found (i + 1) (length places) past in
        let inside = reach_inside i l in
        omega (arith, e, inside)
  ]

  not_in_front : (j : ℕ) → j < reach found places 0 → Contains found j → ⊥
  not_in_front j less m =
      let here : get_or {A = ℕ} found m.0 0 ≡ j = get_or_default found m.0 0 j m.1 ∙ m.2 in
      let n = m.1 in
      let first = rises_to found c.ascends 0 m.0 (omega arith) n in
      omega (arith, less, here, first, as_number 0 (omega (arith, n)))

  not_between : (i j : ℕ) → i < length found → reach found places i + 1 ≤ j → j < reach found places (i + 1) → Contains found j → ⊥
  not_between i j l low high m =
      let here : get_or {A = ℕ} found m.0 0 ≡ j = get_or_default found m.0 0 j m.1 ∙ m.2 in
      let n = m.1 in
      elim (cases_lt m.0 (i + 1)) [
        | inl front ↦
            let on = rises_to found c.ascends m.0 i (omega (arith, front)) l in
            omega (arith, here, on, low, as_number i l)
        | inr behind ↦
            let on = rises_to found c.ascends (i + 1) m.0 behind n in
            omega (arith, here, on, high, as_number (i + 1) (omega (arith, behind, n)))
      ]

  module _ (stay : KeysStay key places) (sets : Option (List Assign)) (viewer : Viewer) (first : ℕ) where
    pub none_in_front : (j : ℕ) → 0 ≤ j → j < reach found places 0 → judged_at sets pred viewer (first + j) (nth places j) ≡ Ok None
    none_in_front j low less =
        let within = reach_within 0 in
        let l : j < length places = omega (arith, less, within) in
        barred_none sets pred viewer (first + j) key places j stay l (c.others j l (not_in_front j less))

    pub none_between : (i : ℕ) → i < length found → (j : ℕ) → reach found places i + 1 ≤ j → j < reach found places (i + 1)
        → judged_at sets pred viewer (first + j) (nth places j) ≡ Ok None
    none_between i l j low high =
        let within = reach_within (i + 1) in
        let inside : j < length places = omega (arith, high, within) in
        barred_none sets pred viewer (first + j) key places j stay inside (c.others j inside (not_between i j l low high))

-- ---- candidates that are found

-- the candidates among the first so many positions
pub record CandidatesTo (pred : Condition) (places : List Place) (found : List ℕ) (count : ℕ) : Type 0 where
  pub ascends : IsStrictlyIncreasing found
  pub below : (place : ℕ) → Contains found place → place < count
  pub others : (place : ℕ) → place < count → (Contains found place → ⊥) → IsPlain pred (nth places place)

none_among : (place : ℕ) → Contains [] place → ⊥
none_among place c = let l = c.1 in omega (arith, l)

pub to_none : (pred : Condition) (places : List Place) (found : List ℕ) → found ≡ [] → CandidatesTo pred places found 0
to_none pred places found is = subst (λ (xs : List ℕ). CandidatesTo pred places xs 0) (sym is) (record {
  ascends = λ k l. absurd (omega (arith, l));
  below = λ place c. absurd (none_among place c);
  others = λ place l out. absurd (omega (arith, l));
})

pub to_passed : (pred : Condition) (places : List Place) (found : List ℕ) (count : ℕ) → IsPlain pred (nth places count) → CandidatesTo pred places found count
    → CandidatesTo pred places found (count + 1)
to_passed pred places found count plain was = record {
  ascends = was.ascends;
  below = λ place c. let l = was.below place c in omega (arith, l);
  others = λ place l out. elim (cases_eq place count) [
    | inl same ↦ subst (λ (k : ℕ). IsPlain pred (nth places k)) (sym same) plain
    | inr other ↦ was.others place (omega (arith, l, other)) out
  ];
}

pub to_found : (pred : Condition) (places : List Place) (found now : List ℕ) (count : ℕ) → now ≡ found ++ count ∷ [] → CandidatesTo pred places found count
    → CandidatesTo pred places now (count + 1)
to_found pred places found now count is was = subst (λ (xs : List ℕ). CandidatesTo pred places xs (count + 1)) (sym is) (record {
  ascends = ascends_more found count was.ascends was.below;
  below = λ place c. elim (Contains-append_cases found (count ∷ []) place c) [
    | inl before ↦ let l = was.below place before in omega (arith, l)
    | inr here ↦ let e : count ≡ place = only place here in omega (arith, e)
  ];
  others = λ place l out. elim (cases_eq place count) [
    | inl same ↦ absurd (out (Contains-append_right found (count ∷ []) place (zero, omega arith, sym same)))
    | inr other ↦ was.others place (omega (arith, l, other)) (λ c. out (Contains-append_left found (count ∷ []) place c))
  ];
})
  where
    only : (place : ℕ) → Contains (count ∷ []) place → count ≡ place
    only place (zero, l, e) = e
    only place (suc k, l, e) = absurd (omega (arith, l))

pub to_all : (pred : Condition) (key : Option ℕ) (places : List Place) (found : List ℕ) (count : ℕ) → count ≡ length places
    → CandidatesTo pred places found count → AreCandidates pred key places found
to_all pred key places found count all was = record {
  ascends = was.ascends;
  within = λ place c. let l = was.below place c in omega (arith, l, all);
  others = λ place l out. inl (was.others place (omega (arith, l, all)) out);
}

-- those that the index finds
pub keyed_candidates : (pred : Condition) (key : Option ℕ) (column : ℕ) (value : Value) (places : List Place) (found : List ℕ) → key ≡ Some column
    → Asks pred column value → IsStrictlyIncreasing found → ((place : ℕ) → Contains found place → place < length places)
    → HaveUsed column value places found → AreCandidates pred key places found
keyed_candidates pred key column value places found is asks up within all = record {
  ascends = up;
  within = within;
  others = λ place l out. inr (record { column = column; value = value; is_key = is; asks = asks; other = λ used same. out (all place l used same) });
}

-- ---- what is in place

-- without a newest record there is none
pub none_newest : (chains : List (List (Undo Image))) (place : ℕ) → is_some (newest (get_or chains place [])) ≡ false → get_or chains place [] ≡ []
none_newest chains place e = by (get_or chains place []) e
  where
    by : (chain : List (Undo Image)) → is_some (newest chain) ≡ false → chain ≡ []
    by [] f = refl
    by (undo ∷ chain) f = absurd (both_ways true f refl)

pub barred_in_place : (pred : Condition) (place : Place) → BarsRow (conjuncts pred) place → truth_at pred (in_place place) ≡ false
barred_in_place pred place bars = by place.version.live
  where
    by : (live : Bool) → truth_at pred (cond live (Some place.version.row) None) ≡ false
    by true = barred_pred pred place bars
    by false = refl

pub none_in_place : (pred : Condition) (place : Place) → place.version.live ≡ false → truth_at pred (in_place place) ≡ false
none_in_place pred place gone = ap (λ (live : Bool). truth_at pred (cond live (Some place.version.row) None)) gone
