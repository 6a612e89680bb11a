-- The positions at which a condition may select a row are the only ones still after pruning.
use Rattle.std.proofs.Common.{◌≡◌, ℕ, zero, suc, ◌<◌, Bool, true, false, List, [], ◌∷◌, length, map, Option, refl, sym, ap, ◌∙◌, subst, arith, inl, inr}
use Rattle.hy_prune.specs.declared.Cover.{Cover}
use Rattle.hy_bound.specs.Condition.{Condition}
use Rattle.hy_bound.specs.Predicate.{column_of, truth_at}
use Rattle.hy_chain.specs.Chains.{Undo}
use Rattle.hy_chain.specs.Pruning.{pruned}
use Rattle.hy_undo.specs.declared.version.Version.{Version}
use Rattle.hy_undo.specs.Images.{Image, both}
use Rattle.hy_undo.specs.Places.{Place, cell_of}
use Rattle.hy_undo.specs.Chunks.{ChunkData, Pruned, Everywhere}
use Rattle.hy_chunk.specs.Candidates.{AreCandidates, IsBarred}
use Rattle.hy_chunk.specs.Fields.{nth}
use Rattle.hy_event.specs.Changing.{PrunesFirst}
use Rattle.hy_visit.proofs.Pruned.{as_many}

-- what changes everywhere changes at each position
changed_at : (does : Place → Place → Type 0) (olds news : List Place) (k : ℕ) → Everywhere does olds news → k < length olds → does (nth olds k) (nth news k)
changed_at does [] news k change l = absurd (omega (arith, l))
changed_at does (old ∷ olds) [] k change l = absurd change
changed_at does (old ∷ olds) (new ∷ news) zero change l = change.0
changed_at does (old ∷ olds) (new ∷ news) (suc k) change l = changed_at does olds news k change.1 (omega arith)

no_stamps : (chain : List (Undo Image)) → map (λ (undo : Undo Image). undo.stamp) chain ≡ [] → chain ≡ []
no_stamps [] e = refl
no_stamps (undo ∷ chain) e = absurd (cc)

-- where no row is selected, none is after pruning
still_barred : (cover : Cover) (pred : Condition) (key : Option ℕ) (old new : Place) → Pruned cover old new → IsBarred pred key old → IsBarred pred key new
still_barred cover pred key old new change (inl plain) = inl (record {
  chain = no_stamps new.chain
      (change.stamps ∙ ap (λ (chain : List (Undo Image)). map (λ (undo : Undo Image). undo.stamp) (pruned both cover chain)) plain.chain);
  barred = ap (λ (version : Version). truth_at pred (cell_of version)) change.version ∙ plain.barred;
})
still_barred cover pred key old new change (inr keyed) = inr (record {
  column = keyed.column;
  value = keyed.value;
  is_key = keyed.is_key;
  asks = keyed.asks;
  other = λ used same. keyed.other (sym change.used ∙ used) (ap (λ (version : Version). column_of version.row keyed.column) (sym change.version) ∙ same);
})

still_candidates : (cover : Cover) (pred : Condition) (key : Option ℕ) (olds news : List Place) (found : List ℕ) → Everywhere (Pruned cover) olds news
    → AreCandidates pred key olds found → AreCandidates pred key news found
still_candidates cover pred key olds news found change were =
    let size = as_many (Pruned cover) olds news change in
    record {
      ascends = were.ascends;
      within = λ place c. let l = were.within place c in omega (arith, l, size);
      others = λ place l out.
          let there : place < length olds = omega (arith, l, size) in
          still_barred cover pred key (nth olds place) (nth news place) (changed_at (Pruned cover) olds news place change there) (were.others place there out);
    }

pub candidates_stay : (prunes : Bool) (cover : Cover) (pred : Condition) (old new : ChunkData) (found : List ℕ) → PrunesFirst prunes cover old new
    → AreCandidates pred old.key old.places found → AreCandidates pred new.key new.places found
candidates_stay true cover pred old new found change were =
    let did = change.pruned refl in
    subst (λ (key : Option ℕ). AreCandidates pred key new.places found) (sym (ap (λ (chunk : ChunkData). chunk.key) did.others))
    (still_candidates cover pred old.key old.places new.places found did.places were)
candidates_stay false cover pred old new found change were =
    subst (λ (chunk : ChunkData). AreCandidates pred chunk.key chunk.places found) (sym (change.kept refl)) were
