-- A chunk is ready still after each call.
use Rattle.std.proofs.Common.{◌≡◌, ℕ, ℤ, zero, suc, Ok, Err, ◌+◌, ◌≤◌, List, [], ◌∷◌, length, Option, Some, Result, refl, sym, ap, ◌∙◌, subst, arith}
use Rattle.std.specs.Prelude.{slice_set, replicate, OnErr, IfOk}
use Rattle.std.proofs.lemmas.List.{get_or-set_other, length-set, length-replicate}
use Rattle.hy_value.specs.declared.Value.{Value}
use Rattle.hy_value.specs.declared.Value.TheVariants.{Int}
use Rattle.hy_value.specs.declared.Kind.{Kind}
use Rattle.hy_stamp.specs.declared.Label.{Label}
use Rattle.hy_stamp.specs.declared.Viewer.{Viewer}
use Rattle.hy_prune.specs.declared.Cover.{Cover}
use Rattle.hy_bound.specs.Condition.{Condition}
use Rattle.hy_bound.specs.declared.Assign.{Assign}
use Rattle.hy_value.specs.declared.change.Change.{Change}
use Rattle.hy_chain.specs.Pruning.{KeepsStamps, Shrinks}
use Rattle.hy_undo.specs.Images.{both}
use Rattle.hy_undo.specs.Places.{Place}
use Rattle.hy_undo.specs.Chunks.{ChunkData, Everywhere, AtOwn, StampedPlace, Pruned}
use Rattle.hy_undo.specs.Sweeps.{swept}
use Rattle.hy_chunk.specs.Fields.{blank_place, blank_with, nth}
use Rattle.hy_chunk.specs.Sound.{FitsRow}
use Rattle.hy_chunk.specs.Steps.{loaded_place}
use Rattle.hy_chunk.specs.Views.{Whole, with_places}
use Rattle.hy_chunk.specs.Writes.{FitsSets, IsDone}
use Rattle.hy_measured.specs.Ready.{AreUnused, PlacesInOrder, IsReady, two_numbers}
use Rattle.hy_measured.proofs.Fits.{pair_fits}
use Rattle.hy_measured.proofs.Visits.{places_later, none_yet, put_in_order, nth_in_order, everywhere_in_order, everywhere_many, stamped_in_order}
use Rattle.hy_measured.proofs.Visits.{pruned_in_order, done_in_order, done_many}

-- no position of a new chunk is used
pub none_used : (count : ℕ) (kinds : List Kind) → AreUnused 0 (replicate count (blank_place kinds))
none_used zero kinds place l = refl
none_used (suc count) kinds zero l = refl
none_used (suc count) kinds (suc place) l = none_used count kinds place (omega arith)

-- and none behind those that were loaded
pub unused_behind : (k : ℕ) (old new : Whole) (p : Place) → AreUnused k old.shown.places
    → new ≡ with_places old (slice_set old.shown.places k p) new.room → AreUnused (k + 1) new.shown.places
unused_behind k old new p none is place l =
    ap (λ (w : Whole). (nth w.shown.places place).used) is
    ∙ (ap (λ (q : Place). q.used) (get_or-set_other old.shown.places k place p (blank_with []) (λ e. absurd (omega (arith, e, l))))
    ∙ none place (omega (arith, l)))

module _ (most : ℕ) where
  pub later : (n m : ℕ) (whole : Whole) → n ≤ m → IsReady most n whole → IsReady most m whole
  later n m whole le r = record { kinds = r.kinds; key = r.key; few = r.few; ordered = places_later n m whole.shown.places le r.ordered }

  ready_with : (n m : ℕ) (old new : Whole) (places : List Place) (room : ℕ) → IsReady most n old → new ≡ with_places old places room
      → length places ≡ length old.shown.places
      → PlacesInOrder m places → IsReady most m new
  ready_with n m old new places room r e many ordered =
      subst (IsReady most m) (sym e) (record { kinds = r.kinds; key = r.key; few = omega (arith, many, r.few); ordered = ordered })

  pub at_first : (first next : ℕ) (whole : Whole) → whole.kinds ≡ two_numbers
      → whole.shown ≡ record { table = 0; first = first; width = 2; key = Some 0; places = replicate most (blank_place two_numbers) } → IsReady most next whole
  at_first first next whole kinds shown = record {
    kinds = kinds;
    key = ap (λ (d : ChunkData). d.key) shown;
    few = omega (arith, ap (λ (d : ChunkData). length d.places) shown, length-replicate most (blank_place two_numbers));
    ordered = subst (λ (d : ChunkData). PlacesInOrder next d.places) (sym shown) (none_yet next two_numbers most);
  }

  pub after_reserve : (next : ℕ) (old new : Whole) → IsReady most next old → new ≡ with_places old old.shown.places new.room → IsReady most next new
  after_reserve next old new r e = ready_with next next old new old.shown.places new.room r e refl r.ordered

  pub after_load : (next : ℕ) (row : List Value) (k : ℕ) (old new : Whole) → IsReady most next old
      → new ≡ with_places old (slice_set old.shown.places k (loaded_place row (nth old.shown.places k))) new.room → IsReady most next new
  after_load next row k old new r e =
      let olds : List Place = old.shown.places in
      let p : Place = loaded_place row (nth olds k) in
      ready_with next next old new (slice_set olds k p) new.room r e (length-set olds k p)
      (put_in_order next olds k p r.ordered (nth_in_order next olds k r.ordered))

  pub after_stamp : (id next : ℕ) (old new : Whole) → IsReady most next old → new ≡ with_places old new.shown.places new.room
      → Everywhere (AtOwn id (StampedPlace id next)) old.shown.places new.shown.places → IsReady most (next + 1) new
  after_stamp id next old new r e all =
      let does = AtOwn id (StampedPlace id next) in
      ready_with next (next + 1) old new new.shown.places new.room r e (everywhere_many does old.shown.places new.shown.places all)
      (everywhere_in_order next (next + 1) does (stamped_in_order id next) old.shown.places new.shown.places all r.ordered)

  pub after_prune : Shrinks both → KeepsStamps both → (cover : Cover) (next : ℕ) (old new : Whole) → IsReady most next old
      → new ≡ with_places old new.shown.places new.room
      → Everywhere (Pruned cover) old.shown.places new.shown.places → IsReady most next new
  after_prune shrinks keeps cover next old new r e all =
      ready_with next next old new new.shown.places new.room r e (everywhere_many (Pruned cover) old.shown.places new.shown.places all)
      (everywhere_in_order next next (Pruned cover) (pruned_in_order shrinks keeps cover next) old.shown.places new.shown.places all r.ordered)

  pub after_write : (sets : Option (List Assign)) (pred : Condition) (viewer : Viewer) (label : Label) (table first next : ℕ) (old new : Whole)
      (notes now : List Change) (count : ℕ)
      → viewer.start ≤ next → next ≤ viewer.id → IsReady most next old → new ≡ with_places old new.shown.places new.room
      → IsDone viewer label table first (swept sets pred viewer first old.shown.places) old.shown.places new.shown.places notes now count
      → IsReady most next new
  after_write sets pred viewer label table first next old new notes now count start id r e done =
      let olds : List Place = old.shown.places in
      let news : List Place = new.shown.places in
      ready_with next next old new news new.room r e (done_many viewer label table first (swept sets pred viewer first olds) olds news notes now count done)
      (done_in_order sets pred viewer label next start id table first olds news notes now count done r.ordered)

  -- ---- as the calls answer

  pub same_ready : (next : ℕ) (old new : Whole) → IsReady most next old → new ≡ old → IsReady most next new
  same_ready next old new r e = subst (IsReady most next) (sym e) r

  pub pair_ready : (next : ℕ) (whole : Whole) → IsReady most next whole → (first second : ℤ) (row : List Value) → row ≡ Int first ∷ Int second ∷ []
      → FitsRow whole.kinds row
  pair_ready next whole r first second row e = subst (λ (kinds : List Kind). FitsRow kinds row) (sym r.kinds) (pair_fits first second row e)

  pub sets_ready : (next : ℕ) (whole : Whole) → IsReady most next whole → (sets : List Assign) → FitsSets two_numbers (Some 0) sets
      → FitsSets whole.kinds whole.shown.key sets
  sets_ready next whole r sets fits =
      subst (λ (kinds : List Kind). FitsSets kinds whole.shown.key sets) (sym r.kinds)
      (subst (λ (key : Option ℕ). FitsSets two_numbers key sets) (sym r.key) fits)

  pub after_write_call : {B : Type 0} (same : Type 0) (result : Result ℕ B) (sets : Option (List Assign)) (pred : Condition) (viewer : Viewer)
      (label : Label) (table first next : ℕ) (old mid new : Whole)
      (notes now : List Change) → viewer.start ≤ next → next ≤ viewer.id → IsReady most next old
      → mid ≡ with_places old old.shown.places mid.room → new ≡ with_places mid new.shown.places new.room
      → IfOk result (λ count. IsDone viewer label table first (swept sets pred viewer first mid.shown.places) mid.shown.places new.shown.places notes
      now count) → OnErr result ((new ≡ mid) × same)
      → IsReady most next new
  after_write_call same (Ok count) sets pred viewer label table first next old mid new notes now start id r e f done kept =
      after_write sets pred viewer label table first next mid new notes now count start id (after_reserve next old mid r e) f done
  after_write_call same (Err b) sets pred viewer label table first next old mid new notes now start id r e f done kept = same_ready next mid new
      (after_reserve next old mid r e) kept.0
