-- A chunk is ready still after each call.
use Rattle.std.proofs.Common.{◌≡◌, ℕ, ℤ, zero, suc, Ok, Err, ◌+◌, ◌≤◌, List, [], ◌∷◌, length, Option, Some, Result, refl, sym, ap, ◌∙◌, subst, arith}
use Rattle.std.specs.Prelude.{slice_set, replicate, OnOk, OnErr, IfOk}
use Rattle.std.proofs.lemmas.List.{get_or-set_other, length-set, length-replicate}
use Rattle.hy_value.specs.declared.Value.{Value}
use Rattle.hy_value.specs.declared.Value.TheVariants.{Int}
use Rattle.hy_value.specs.declared.Kind.{Kind}
use Rattle.hy_stamp.specs.declared.Label.{Label}
use Rattle.hy_stamp.specs.declared.Viewer.{Viewer}
use Rattle.hy_prune.specs.declared.Cover.{Cover}
use Rattle.hy_bound.specs.Condition.{Condition}
use Rattle.hy_bound.specs.declared.Assign.{Assign}
use Rattle.hy_chunk.specs.declared.writes.RowWrite.{RowWrite}
use Rattle.hy_value.specs.declared.change.Change.{Change}
use Rattle.hy_chain.specs.Pruning.{KeepsStamps, Shrinks}
use Rattle.hy_undo.specs.Images.{both}
use Rattle.hy_undo.specs.Places.{Place, stamps}
use Rattle.hy_undo.specs.Chunks.{ChunkData, Everywhere, AtOwn, StampedPlace, Undone, Pruned, Placed}
use Rattle.hy_undo.specs.Sweeps.{swept}
use Rattle.hy_chunk.specs.Fields.{blank_place, blank_with, nth}
use Rattle.hy_chunk.specs.Sound.{FitsRow}
use Rattle.hy_chunk.specs.Steps.{loaded_place, IsPut}
use Rattle.hy_chunk.specs.Views.{Whole, with_places}
use Rattle.hy_chunk.specs.Writes.{FitsWrite, IsDone}
use Rattle.hy_engine_tests.specs.Ready.{AreInOrder, AreUnused, PlacesInOrder, IsReady, two_numbers}
use Rattle.hy_engine_tests.proofs.Fits.{pair_fits}
use Rattle.hy_engine_tests.proofs.Orders.{single}
use Rattle.hy_engine_tests.proofs.Visits.{places_later, none_yet, put_in_order, nth_in_order, everywhere_in_order, everywhere_many, stamped_in_order}
use Rattle.hy_engine_tests.proofs.Visits.{undone_in_order, pruned_in_order, done_in_order, done_many}

pub later : (n m : ℕ) (whole : Whole) → n ≤ m → IsReady n whole → IsReady m whole
later n m whole le r = record { kinds = r.kinds; key = r.key; few = r.few; ordered = places_later n m whole.shown.places le r.ordered }

ready_with : (n m : ℕ) (old new : Whole) (places : List Place) (room : ℕ) → IsReady n old → new ≡ with_places old places room
    → length places ≡ length old.shown.places
    → PlacesInOrder m places → IsReady m new
ready_with n m old new places room r e many ordered =
    subst (IsReady m) (sym e) (record { kinds = r.kinds; key = r.key; few = omega (arith, many, r.few); ordered = ordered })

pub at_first : (positions : ℕ) (whole : Whole) → positions ≤ 64 → whole.kinds ≡ two_numbers
    → whole.shown ≡ record { table = 0; first = 0; width = 2; key = Some 0; places = replicate positions (blank_place two_numbers) } → IsReady 1 whole
at_first positions whole few kinds shown = record {
  kinds = kinds;
  key = ap (λ (d : ChunkData). d.key) shown;
  few = omega (arith, few, ap (λ (d : ChunkData). length d.places) shown, length-replicate positions (blank_place two_numbers));
  ordered = subst (λ (d : ChunkData). PlacesInOrder 1 d.places) (sym shown) (none_yet 1 two_numbers positions);
}

pub after_reserve : (next : ℕ) (old new : Whole) → IsReady next old → new ≡ with_places old old.shown.places new.room → IsReady next new
after_reserve next old new r e = ready_with next next old new old.shown.places new.room r e refl r.ordered

pub after_load : (next : ℕ) (row : List Value) (k : ℕ) (old new : Whole) → IsReady next old
    → new ≡ with_places old (slice_set old.shown.places k (loaded_place row (nth old.shown.places k))) new.room → IsReady next new
after_load next row k old new r e =
    let olds : List Place = old.shown.places in
    let p : Place = loaded_place row (nth olds k) in
    ready_with next next old new (slice_set olds k p) new.room r e (length-set olds k p)
    (put_in_order next olds k p r.ordered (nth_in_order next olds k r.ordered))

pub after_stamp : (id next : ℕ) (old new : Whole) → IsReady next old → new ≡ with_places old new.shown.places new.room
    → Everywhere (AtOwn id (StampedPlace id next)) old.shown.places new.shown.places → IsReady (next + 1) new
after_stamp id next old new r e all =
    let does = AtOwn id (StampedPlace id next) in
    ready_with next (next + 1) old new new.shown.places new.room r e (everywhere_many does old.shown.places new.shown.places all)
    (everywhere_in_order next (next + 1) does (stamped_in_order id next) old.shown.places new.shown.places all r.ordered)

pub after_undo : (id next : ℕ) (old new : Whole) → IsReady next old → new ≡ with_places old new.shown.places new.room
    → Everywhere (AtOwn id (Undone id)) old.shown.places new.shown.places → IsReady next new
after_undo id next old new r e all =
    let does = AtOwn id (Undone id) in
    ready_with next next old new new.shown.places new.room r e (everywhere_many does old.shown.places new.shown.places all)
    (everywhere_in_order next next does (undone_in_order id next) old.shown.places new.shown.places all r.ordered)

pub after_prune : Shrinks both → KeepsStamps both → (cover : Cover) (next : ℕ) (old new : Whole) → IsReady next old
    → new ≡ with_places old new.shown.places new.room
    → Everywhere (Pruned cover) old.shown.places new.shown.places → IsReady next new
after_prune shrinks keeps cover next old new r e all =
    ready_with next next old new new.shown.places new.room r e (everywhere_many (Pruned cover) old.shown.places new.shown.places all)
    (everywhere_in_order next next (Pruned cover) (pruned_in_order shrinks keeps cover next) old.shown.places new.shown.places all r.ordered)

pub after_write : (sets : Option (List Assign)) (pred : Condition) (viewer : Viewer) (label : Label) (table first next : ℕ) (old new : Whole)
    (notes now : List Change) (count : ℕ)
    → viewer.start ≤ next → next ≤ viewer.id → IsReady next old → new ≡ with_places old new.shown.places new.room
    → IsDone viewer label table first (swept sets pred viewer first old.shown.places) old.shown.places new.shown.places notes now count → IsReady next new
after_write sets pred viewer label table first next old new notes now count start id r e done =
    let olds : List Place = old.shown.places in
    let news : List Place = new.shown.places in
    ready_with next next old new news new.room r e (done_many viewer label table first (swept sets pred viewer first olds) olds news notes now count done)
    (done_in_order sets pred viewer label next start id table first olds news notes now count done r.ordered)

pub after_place : (viewer : Viewer) (label : Label) (watermark : ℕ) (row : List Value) (next k : ℕ) (old new : Whole) → IsReady next old
    → new ≡ with_places old new.shown.places new.room → IsPut k (Placed viewer label watermark row) old.shown.places new.shown.places → IsReady next new
after_place viewer label watermark row next k old new r e put =
    let olds : List Place = old.shown.places in
    let news : List Place = new.shown.places in
    let p : Place = nth news k in
    let here : AreInOrder next (stamps p) = subst (AreInOrder next) (sym put.here.stamps) (single next (record { owner = label; mark = viewer.id })) in
    ready_with next next old new news new.room r e (ap (λ (ps : List Place). length ps) put.others ∙ length-set olds k p)
    (subst (PlacesInOrder next) (sym put.others) (put_in_order next olds k p r.ordered here))

-- ---- as the calls answer

pub same_ready : (next : ℕ) (old new : Whole) → IsReady next old → new ≡ old → IsReady next new
same_ready next old new r e = subst (IsReady next) (sym e) r

pub pair_ready : (next : ℕ) (whole : Whole) → IsReady next whole → (first second : ℤ) (row : List Value) → row ≡ Int first ∷ Int second ∷ []
    → FitsRow whole.kinds row
pair_ready next whole r first second row e = subst (λ (kinds : List Kind). FitsRow kinds row) (sym r.kinds) (pair_fits first second row e)

pub write_ready : (next : ℕ) (whole : Whole) → IsReady next whole → (kind : RowWrite) → FitsWrite two_numbers (Some 0) kind
    → FitsWrite whole.kinds whole.shown.key kind
write_ready next whole r kind fits =
    subst (λ (kinds : List Kind). FitsWrite kinds whole.shown.key kind) (sym r.kinds)
    (subst (λ (key : Option ℕ). FitsWrite two_numbers key kind) (sym r.key) fits)

-- no position of a new chunk is used
pub none_used : (count : ℕ) (kinds : List Kind) → AreUnused 0 (replicate count (blank_place kinds))
none_used zero kinds place l = refl
none_used (suc count) kinds zero l = refl
none_used (suc count) kinds (suc place) l = none_used count kinds place (omega arith)

-- and none behind those that were loaded
pub unused_behind : (k : ℕ) (old new : Whole) (p : Place) → AreUnused k old.shown.places
    → new ≡ with_places old (slice_set old.shown.places k p) new.room → AreUnused (k + 1) new.shown.places
unused_behind k old new p none is place l =
    ap (λ (w : Whole). (nth w.shown.places place).used) is
    ∙ (ap (λ (q : Place). q.used) (get_or-set_other old.shown.places k place p (blank_with []) (λ e. absurd (omega (arith, e, l))))
    ∙ none place (omega (arith, l)))

pub after_place_call : {A B : Type 0} (same : Type 0) (result : Result A B) (viewer : Viewer) (label : Label) (watermark : ℕ) (row : List Value)
    (next k : ℕ) (old mid new : Whole) → IsReady next old
    → mid ≡ with_places old old.shown.places mid.room → new ≡ with_places mid new.shown.places new.room
    → OnOk result (IsPut k (Placed viewer label watermark row) mid.shown.places new.shown.places) → OnErr result ((new ≡ mid) × same) → IsReady next new
after_place_call same (Ok a) viewer label watermark row next k old mid new r e f put kept = after_place viewer label watermark row next k mid new
    (after_reserve next old mid r e) f put
after_place_call same (Err b) viewer label watermark row next k old mid new r e f put kept = same_ready next mid new (after_reserve next old mid r e) kept.0

pub after_write_call : {B : Type 0} (same : Type 0) (result : Result ℕ B) (sets : Option (List Assign)) (pred : Condition) (viewer : Viewer)
    (label : Label) (table first next : ℕ) (old mid new : Whole)
    (notes now : List Change) → viewer.start ≤ next → next ≤ viewer.id → IsReady next old
    → mid ≡ with_places old old.shown.places mid.room → new ≡ with_places mid new.shown.places new.room
    → IfOk result (λ count. IsDone viewer label table first (swept sets pred viewer first mid.shown.places) mid.shown.places new.shown.places notes
    now count) → OnErr result ((new ≡ mid) × same)
    → IsReady next new
after_write_call same (Ok count) sets pred viewer label table first next old mid new notes now start id r e f done kept =
    after_write sets pred viewer label table first next mid new notes now count start id (after_reserve next old mid r e) f done
after_write_call same (Err b) sets pred viewer label table first next old mid new notes now start id r e f done kept = same_ready next mid new
    (after_reserve next old mid r e) kept.0
