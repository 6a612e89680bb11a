-- A step at each position, one after the other.
use Rattle.std.proofs.Common.{◌≡◌, ℕ, zero, suc, ◌+◌, ◌<◌, ◌≤◌, List, [], ◌∷◌, length, sym, ap, ◌∙◌, arith, inl, inr}
use Rattle.std.proofs.Math.ListN.{set}
use Rattle.std.specs.List.{AllByRecursion}
use Rattle.std.proofs.lemmas.Bool.{cases_eq}
use Rattle.std.proofs.lemmas.List.{length-set, get_or-set_same, get_or-set_other}
use Rattle.hy_undo.specs.Places.{Place}
use Rattle.hy_undo.specs.Chunks.{Everywhere}
use Rattle.hy_chunk.specs.Fields.{blank_with, nth}

-- so many positions have had their step, and the others are as they were
pub record DoneUpTo (does : Place → Place) (old new : List Place) (count : ℕ) : Type 0 where
  pub size : length new ≡ length old
  pub done : (k : ℕ) → k < count → k < length old → nth new k ≡ does (nth old k)
  pub rest : (k : ℕ) → count ≤ k → nth new k ≡ nth old k

pub one_more : (does : Place → Place) (old now new : List Place) (count : ℕ) → count < length now → DoneUpTo does old now count
    → new ≡ set now count (does (nth now count))
    → DoneUpTo does old new (count + 1)
one_more does old now new count within v put =
    let d : Place = blank_with [] in
    let made : Place = does (nth now count) in
    record {
      size = ap length put ∙ (length-set now count made ∙ v.size);
      done = λ k l m. elim (cases_eq k count) [
        | inl same ↦
            ap (λ (ps : List Place). nth ps k) put
            ∙ (ap (λ (j : ℕ). nth (set now count made) j) same
            ∙ (get_or-set_same now count made d within
            ∙ (ap does (v.rest count (omega arith)) ∙ ap (λ (j : ℕ). does (nth old j)) (sym same))))
        | inr other ↦ ap (λ (ps : List Place). nth ps k) put ∙ (get_or-set_other now count k made d other ∙ v.done k (omega (arith, l, other)) m)
      ];
      rest = λ k l. ap (λ (ps : List Place). nth ps k) put
          ∙ (get_or-set_other now count k made d (λ e. absurd (omega (arith, e, l))) ∙ v.rest k (omega (arith, l)));
    }

-- a relation between the positions in turn
pub everywhere : (relates : Place → Place → Type 0) (old new : List Place) → length new ≡ length old
    → ((k : ℕ) → k < length old → relates (nth old k) (nth new k)) → Everywhere relates old new
everywhere relates [] [] size each = tt
everywhere relates [] (new ∷ news) size each = absurd (omega arith)
everywhere relates (old ∷ olds) [] size each = absurd (omega arith)
everywhere relates (old ∷ olds) (new ∷ news) size each =
    (each zero (omega arith), everywhere relates olds news (omega arith) (λ k l. each (suc k) (omega (arith, l))))

pub all_at : (has : Place → Type 0) (places : List Place) (k : ℕ) → AllByRecursion has places → k < length places → has (nth places k)
all_at has [] k all l = absurd (omega arith)
all_at has (p ∷ ps) zero all l = all.0
all_at has (p ∷ ps) (suc k) all l = all_at has ps k all.1 (omega arith)
