use Rattle.std.proofs.Common.{◌≡◌, ℕ, ◌+◌, ◌<◌, ◌≤◌, Bool, true, false, List, length, map, Option, None, Some, Ok, refl, sym, ap, ◌∙◌, cond, subst, arith, inl, inr}
use Rattle.std.proofs.lemmas.Bool.{cases_eq}
use Rattle.hy_value.specs.declared.Kind.{Kind}
use Rattle.hy_chain.specs.Chains.{seen}
use Rattle.hy_notes.specs.Notes.{with_note}
use Rattle.hy_bound.specs.Predicate.{truth_at}
use Rattle.hy_undo.specs.declared.version.Version.{Version}
use Rattle.hy_undo.specs.Images.{before}
use Rattle.hy_undo.specs.Places.{Place, Cell, cell_of, sees}
use Rattle.hy_undo.specs.Sweeps.{swept}
use Rattle.hy_chunk.specs.Candidates.{AreCandidates}
use Rattle.hy_chunk.specs.Fields.{nth}
use Rattle.hy_chunk.specs.Keyed.{SameKey}
use Rattle.hy_chunk.specs.Sound.{FitsRow}
use Rattle.hy_chunk.specs.Views.{Whole}
use Rattle.hy_chunk.specs.Writes.{FitsWrite, sets_of, refusal_in, judged_at, notes_with, IsDone}
use Rattle.hy_chunk.proofs.Candidates.{reach, at_reach, inside_at, reach_past, reach_within, reach_rises, none_in_front, none_between}
use Rattle.hy_chunk.proofs.Over.{fits_length}
use Rattle.hy_chunk.proofs.TextRoom.{texts_fit}
use Rattle.hy_chunk.proofs.Sweeping.{unselected, is_live, new_judged, without_rival, is_in_range, is_in_place, here_ok, sets_within}
use Rattle.hy_chunk.proofs.SweepSteps.{SweptTo, swept_none, swept_past, swept_one, swept_all, InLevels, levels_none, levels_past, levels_one, levels_all}
use Rattle.hy_chunk.specs.Settled.{Settles}
use Rattle.hy_chunk.proofs.chunk.Chunk.write_all.Goals as goal

pub see-requires-clause-within : goal.see-requires-clause-within
see-requires-clause-within c =
    let sets = sets_of c.args.sweep.now.kind in
    let pred = c.args.sweep.now.pred.now in
    let viewer = c.args.sweep.now.viewer.now in
    let olds = c.self.inside.positions.places in
    let first : ℕ = c.self.inside.first in
    let key = c.self.inside.positions.key in
    let found = c.args.sweep.now.places.now in
    let candidates : AreCandidates pred key olds found =
    subst (λ (w : Whole). AreCandidates pred w.shown.key w.shown.places found) (sym c.self.view_is) c.requires.candidates in
    let v = c.loop-i.invariant in
    let i = c.loop-i.i in
    let inside : i < length found = omega (arith, c.loop-i-test.true) in
    let k = c.number_at-number.result in
    let is_k : k ≡ reach found olds i = at_reach pred key olds found candidates i k inside c.number_at-number.ensures in
    let l : k < length olds = inside_at pred key olds found candidates i k inside c.number_at-number.ensures in
    omega (arith, l, v.sweep.size)

pub make_next-requires-clause-width : goal.make_next-requires-clause-width
make_next-requires-clause-width c =
    let v = c.loop-i.invariant in v.next
    ∙ sym (fits_length c.loop-i.self-inside.positions.kinds c.see.new.version.row c.see.ensures.fits
    ∙ ap (λ (kinds : List Kind). length kinds) v.kinds)

pub make_next-requires-clause-within : goal.make_next-requires-clause-within
make_next-requires-clause-within c =
    let v = c.loop-i.invariant in sets_within c.args.self.now.kinds c.args.self.now.shown.key c.args.sweep.now.kind (length c.see.new.version.row)
    (fits_length c.loop-i.self-inside.positions.kinds c.see.new.version.row c.see.ensures.fits
    ∙ ap (λ (kinds : List Kind). length kinds) v.kinds ∙ (ap (λ (w : Whole). length w.kinds) c.self.view_is)) c.requires.fits

pub make_next-requires-clause-in_range : goal.make_next-requires-clause-in_range
make_next-requires-clause-in_range c =
    let sets = sets_of c.args.sweep.now.kind in
    let pred = c.args.sweep.now.pred.now in
    let viewer = c.args.sweep.now.viewer.now in
    let olds = c.self.inside.positions.places in
    let first : ℕ = c.self.inside.first in
    let key = c.self.inside.positions.key in
    let found = c.args.sweep.now.places.now in
    let candidates : AreCandidates pred key olds found =
    subst (λ (w : Whole). AreCandidates pred w.shown.key w.shown.places found) (sym c.self.view_is) c.requires.candidates in
    let v = c.loop-i.invariant in
    let i = c.loop-i.i in
    let inside : i < length found = omega (arith, c.loop-i-test.true) in
    let k = c.number_at-number.result in
    let is_k : k ≡ reach found olds i = at_reach pred key olds found candidates i k inside c.number_at-number.ensures in
    let l : k < length olds = inside_at pred key olds found candidates i k inside c.number_at-number.ensures in
    let here : SweptTo sets pred viewer c.args.label c.self.inside.table first olds c.args.changes.now.notes c.loop-i.self-inside.positions.places
    c.loop-i.changes.notes c.loop-i.written k =
    subst (SweptTo sets pred viewer c.args.label c.self.inside.table first olds c.args.changes.now.notes c.loop-i.self-inside.positions.places
    c.loop-i.changes.notes c.loop-i.written) (sym is_k) v.sweep in
    let p : Place = nth olds k in
    let version : Version = c.see.new.version in
    let same : nth c.loop-i.self-inside.positions.places k ≡ p = here.rest k (omega arith) in
    let is : version ≡ seen before viewer p.version p.chain = c.see.ensures.version ∙ ap (λ (q : Place). seen before viewer q.version q.chain) same in
    let ok : refusal_in (judged_at sets pred viewer (first + k) p) ≡ None = here_ok sets pred viewer c.self.inside.table first olds k l here.ok in
    let yes : truth_at pred (cell_of version) ≡ true = sym c.is_selected.ensures ∙ c.if-not-is_selected.false in
    is_in_range sets pred viewer (first + k) p version is yes ok

pub write_at-requires-clause-within : goal.write_at-requires-clause-within
write_at-requires-clause-within c =
    let sets = sets_of c.args.sweep.now.kind in
    let pred = c.args.sweep.now.pred.now in
    let viewer = c.args.sweep.now.viewer.now in
    let olds = c.self.inside.positions.places in
    let first : ℕ = c.self.inside.first in
    let key = c.self.inside.positions.key in
    let found = c.args.sweep.now.places.now in
    let candidates : AreCandidates pred key olds found =
    subst (λ (w : Whole). AreCandidates pred w.shown.key w.shown.places found) (sym c.self.view_is) c.requires.candidates in
    let v = c.loop-i.invariant in
    let i = c.loop-i.i in
    let inside : i < length found = omega (arith, c.loop-i-test.true) in
    let k = c.number_at-number.result in
    let is_k : k ≡ reach found olds i = at_reach pred key olds found candidates i k inside c.number_at-number.ensures in
    let l : k < length olds = inside_at pred key olds found candidates i k inside c.number_at-number.ensures in
    omega (arith, l, v.sweep.size)

pub write_at-requires-clause-live : goal.write_at-requires-clause-live
write_at-requires-clause-live c =
    let sets = sets_of c.args.sweep.now.kind in
    let pred = c.args.sweep.now.pred.now in
    let viewer = c.args.sweep.now.viewer.now in
    let olds = c.self.inside.positions.places in
    let first : ℕ = c.self.inside.first in
    let key = c.self.inside.positions.key in
    let found = c.args.sweep.now.places.now in
    let candidates : AreCandidates pred key olds found =
    subst (λ (w : Whole). AreCandidates pred w.shown.key w.shown.places found) (sym c.self.view_is) c.requires.candidates in
    let v = c.loop-i.invariant in
    let i = c.loop-i.i in
    let inside : i < length found = omega (arith, c.loop-i-test.true) in
    let k = c.number_at-number.result in
    let is_k : k ≡ reach found olds i = at_reach pred key olds found candidates i k inside c.number_at-number.ensures in
    let l : k < length olds = inside_at pred key olds found candidates i k inside c.number_at-number.ensures in
    let here : SweptTo sets pred viewer c.args.label c.self.inside.table first olds c.args.changes.now.notes c.loop-i.self-inside.positions.places
    c.loop-i.changes.notes c.loop-i.written k =
    subst (SweptTo sets pred viewer c.args.label c.self.inside.table first olds c.args.changes.now.notes c.loop-i.self-inside.positions.places
    c.loop-i.changes.notes c.loop-i.written) (sym is_k) v.sweep in
    let p : Place = nth olds k in
    let version : Version = c.see.new.version in
    let same : nth c.loop-i.self-inside.positions.places k ≡ p = here.rest k (omega arith) in
    let is : version ≡ seen before viewer p.version p.chain = c.see.ensures.version ∙ ap (λ (q : Place). seen before viewer q.version q.chain) same in
    let ok : refusal_in (judged_at sets pred viewer (first + k) p) ≡ None = here_ok sets pred viewer c.self.inside.table first olds k l here.ok in
    let yes : truth_at pred (cell_of version) ≡ true = sym c.is_selected.ensures ∙ c.if-not-is_selected.false in
    λ not_own. ap (λ (q : Place). q.version.live) same ∙ (ap (λ (x : Version). x.live) (sym (is_in_place sets pred viewer (first + k) p version is yes ok))
    ∙ is_live sets pred viewer (first + k) p version is yes)

pub write_at-requires-clause-fits : goal.write_at-requires-clause-fits
write_at-requires-clause-fits c =
    let v = c.loop-i.invariant in
    let kinds : c.args.self.now.kinds ≡ c.loop-i.self-inside.positions.kinds = sym (v.kinds ∙ ap (λ (w : Whole). w.kinds) c.self.view_is) in
    c.make_next.ensures.fits c.loop-i.self-inside.positions.kinds c.args.self.now.shown.key c.see.ensures.fits
    (subst (λ (ks : List Kind). FitsWrite ks c.args.self.now.shown.key c.args.sweep.now.kind) kinds c.requires.fits)

pub write_at-requires-clause-same_key : goal.write_at-requires-clause-same_key
write_at-requires-clause-same_key c =
    let sets = sets_of c.args.sweep.now.kind in
    let pred = c.args.sweep.now.pred.now in
    let viewer = c.args.sweep.now.viewer.now in
    let olds = c.self.inside.positions.places in
    let first : ℕ = c.self.inside.first in
    let key = c.self.inside.positions.key in
    let found = c.args.sweep.now.places.now in
    let candidates : AreCandidates pred key olds found =
    subst (λ (w : Whole). AreCandidates pred w.shown.key w.shown.places found) (sym c.self.view_is) c.requires.candidates in
    let v = c.loop-i.invariant in
    let i = c.loop-i.i in
    let inside : i < length found = omega (arith, c.loop-i-test.true) in
    let k = c.number_at-number.result in
    let is_k : k ≡ reach found olds i = at_reach pred key olds found candidates i k inside c.number_at-number.ensures in
    let l : k < length olds = inside_at pred key olds found candidates i k inside c.number_at-number.ensures in
    let here : SweptTo sets pred viewer c.args.label c.self.inside.table first olds c.args.changes.now.notes c.loop-i.self-inside.positions.places
    c.loop-i.changes.notes c.loop-i.written k =
    subst (SweptTo sets pred viewer c.args.label c.self.inside.table first olds c.args.changes.now.notes c.loop-i.self-inside.positions.places
    c.loop-i.changes.notes c.loop-i.written) (sym is_k) v.sweep in
    let p : Place = nth olds k in
    let version : Version = c.see.new.version in
    let same : nth c.loop-i.self-inside.positions.places k ≡ p = here.rest k (omega arith) in
    let is : version ≡ seen before viewer p.version p.chain = c.see.ensures.version ∙ ap (λ (q : Place). seen before viewer q.version q.chain) same in
    let ok : refusal_in (judged_at sets pred viewer (first + k) p) ≡ None = here_ok sets pred viewer c.self.inside.table first olds k l here.ok in
    let yes : truth_at pred (cell_of version) ≡ true = sym c.is_selected.ensures ∙ c.if-not-is_selected.false in
    let there : version ≡ (nth c.loop-i.self-inside.positions.places k).version =
    is_in_place sets pred viewer (first + k) p version is yes ok ∙ ap (λ (q : Place). q.version) (sym same) in
    let same_key : c.args.self.now.shown.key ≡ c.loop-i.self-inside.positions.key = sym (v.key ∙ ap (λ (w : Whole). w.shown.key) c.self.view_is) in
    subst (λ (which : Option ℕ). SameKey which c.make_next.new.next.row (nth c.loop-i.self-inside.positions.places k).version.row) same_key
    (subst (λ (x : Version). SameKey c.args.self.now.shown.key c.make_next.new.next.row x.row) there
    (c.make_next.ensures.same_key c.args.self.now.kinds c.args.self.now.shown.key c.requires.fits))

pub overflow_add-pos : goal.overflow_add-pos
overflow_add-pos c =
    let sets = sets_of c.args.sweep.now.kind in
    let pred = c.args.sweep.now.pred.now in
    let viewer = c.args.sweep.now.viewer.now in
    let olds = c.self.inside.positions.places in
    let first : ℕ = c.self.inside.first in
    let key = c.self.inside.positions.key in
    let found = c.args.sweep.now.places.now in
    let candidates : AreCandidates pred key olds found =
    subst (λ (w : Whole). AreCandidates pred w.shown.key w.shown.places found) (sym c.self.view_is) c.requires.candidates in
    let v = c.loop-i.invariant in
    let i = c.loop-i.i in
    let inside : i < length found = omega (arith, c.loop-i-test.true) in
    let k = c.number_at-number.result in
    let is_k : k ≡ reach found olds i = at_reach pred key olds found candidates i k inside c.number_at-number.ensures in
    let l : k < length olds = inside_at pred key olds found candidates i k inside c.number_at-number.ensures in
    omega (arith, l, v.first, c.self.invariant.numbered)

pub note-requires-clause-before : goal.note-requires-clause-before
note-requires-clause-before c =
    let v = c.loop-i.invariant in
    let wide : length c.see.new.version.row ≡ length c.args.self.now.kinds = fits_length c.loop-i.self-inside.positions.kinds
    c.see.new.version.row c.see.ensures.fits ∙ ap (λ (kinds : List Kind). length kinds) v.kinds ∙ (ap (λ (w : Whole). length w.kinds) c.self.view_is) in
    omega (arith, wide, c.requires.wide, v.notes_width)

pub note-requires-clause-after : goal.note-requires-clause-after
note-requires-clause-after c =
    let v = c.loop-i.invariant in
    let wide : length c.see.new.version.row ≡ length c.args.self.now.kinds = fits_length c.loop-i.self-inside.positions.kinds
    c.see.new.version.row c.see.ensures.fits ∙ ap (λ (kinds : List Kind). length kinds) v.kinds ∙ (ap (λ (w : Whole). length w.kinds) c.self.view_is) in
    omega (arith, wide, c.make_next.ensures.size, c.requires.wide, v.notes_width)

pub note-requires-clause-texts_before : goal.note-requires-clause-texts_before
note-requires-clause-texts_before c =
    let v = c.loop-i.invariant in
    let kinds : c.loop-i.self-inside.positions.kinds ≡ c.args.self.now.kinds = v.kinds ∙ ap (λ (w : Whole). w.kinds) c.self.view_is in
    let fits : FitsRow c.args.self.now.kinds c.see.new.version.row = subst (λ (all : List Kind). FitsRow all c.see.new.version.row) kinds c.see.ensures.fits in
    omega (arith, texts_fit c.args.self.now.kinds c.see.new.version.row fits, c.requires.long, v.notes_texts)

pub note-requires-clause-texts_after : goal.note-requires-clause-texts_after
note-requires-clause-texts_after c =
    let v = c.loop-i.invariant in
    let kinds : c.loop-i.self-inside.positions.kinds ≡ c.args.self.now.kinds = v.kinds ∙ ap (λ (w : Whole). w.kinds) c.self.view_is in
    let fits : FitsRow c.args.self.now.kinds c.see.new.version.row = subst (λ (all : List Kind). FitsRow all c.see.new.version.row) kinds c.see.ensures.fits in
    let next : FitsRow c.args.self.now.kinds c.make_next.new.next.row =
    c.make_next.ensures.fits c.args.self.now.kinds c.args.self.now.shown.key fits c.requires.fits in
    omega (arith, texts_fit c.args.self.now.kinds c.make_next.new.next.row next, c.requires.long, v.notes_texts)

pub overflow_add-written : goal.overflow_add-written
overflow_add-written c =
    let sets = sets_of c.args.sweep.now.kind in
    let pred = c.args.sweep.now.pred.now in
    let viewer = c.args.sweep.now.viewer.now in
    let olds = c.self.inside.positions.places in
    let first : ℕ = c.self.inside.first in
    let key = c.self.inside.positions.key in
    let found = c.args.sweep.now.places.now in
    let candidates : AreCandidates pred key olds found =
    subst (λ (w : Whole). AreCandidates pred w.shown.key w.shown.places found) (sym c.self.view_is) c.requires.candidates in
    let v = c.loop-i.invariant in
    let i = c.loop-i.i in
    let inside : i < length found = omega (arith, c.loop-i-test.true) in
    let k = c.number_at-number.result in
    let is_k : k ≡ reach found olds i = at_reach pred key olds found candidates i k inside c.number_at-number.ensures in
    let l : k < length olds = inside_at pred key olds found candidates i k inside c.number_at-number.ensures in
    omega (arith, l, is_k, v.sweep.few, c.self.invariant.numbered)

pub loop-i-init : goal.loop-i-init
loop-i-init c =
    let sets = sets_of c.args.sweep.now.kind in
    let pred = c.args.sweep.now.pred.now in
    let viewer = c.args.sweep.now.viewer.now in
    let olds = c.self.inside.positions.places in
    let first : ℕ = c.self.inside.first in
    let key = c.self.inside.positions.key in
    let found = c.args.sweep.now.places.now in
    let candidates : AreCandidates pred key olds found =
    subst (λ (w : Whole). AreCandidates pred w.shown.key w.shown.places found) (sym c.self.view_is) c.requires.candidates in
    let notes = c.args.changes.now.notes in
    let table = c.self.inside.table in
    let ok : refusal_in (swept sets pred viewer first olds) ≡ None =
    ap (λ (w : Whole). refusal_in (swept sets pred viewer w.shown.first w.shown.places)) c.self.view_is ∙ c.requires.ok in
    let none = swept_none sets pred viewer c.args.label table first olds notes ok in
    record {
      table = refl;
      first = refl;
      key = refl;
      kinds = refl;
      settles = c.self.invariant.settles;
      next = c.self.invariant.next_wide;
      wide = c.self.invariant.wide;
      sweep = swept_past sets pred viewer c.args.label table first olds notes olds notes 0 0 (reach found olds 0) (omega arith)
          (reach_within pred key olds found candidates 0) (none_in_front pred key olds found candidates c.keys_stay.ensures sets viewer first) none;
      levels = levels_past sets pred viewer c.args.label table first olds notes c.args.changes.now.levels c.args.changes.now.levels 0 (reach found olds 0)
          (omega arith) (reach_within pred key olds found candidates 0) (none_in_front pred key olds found candidates c.keys_stay.ensures sets viewer first)
          none.ok (levels_none sets pred viewer c.args.label table first olds notes c.args.changes.now.levels);
      room = omega arith;
      notes_room = omega arith;
      notes_width = refl;
      notes_texts = refl;
    }

pub loop-i-preserved-then-not-is_selected : goal.loop-i-preserved-then-not-is_selected
loop-i-preserved-then-not-is_selected c =
    let sets = sets_of c.args.sweep.now.kind in
    let pred = c.args.sweep.now.pred.now in
    let viewer = c.args.sweep.now.viewer.now in
    let olds = c.self.inside.positions.places in
    let first : ℕ = c.self.inside.first in
    let key = c.self.inside.positions.key in
    let found = c.args.sweep.now.places.now in
    let candidates : AreCandidates pred key olds found =
    subst (λ (w : Whole). AreCandidates pred w.shown.key w.shown.places found) (sym c.self.view_is) c.requires.candidates in
    let v = c.loop-i.invariant in
    let i = c.loop-i.i in
    let inside : i < length found = omega (arith, c.loop-i-test.true) in
    let k = c.number_at-number.result in
    let is_k : k ≡ reach found olds i = at_reach pred key olds found candidates i k inside c.number_at-number.ensures in
    let l : k < length olds = inside_at pred key olds found candidates i k inside c.number_at-number.ensures in
    let here : SweptTo sets pred viewer c.args.label c.self.inside.table first olds c.args.changes.now.notes c.loop-i.self-inside.positions.places
    c.loop-i.changes.notes c.loop-i.written k =
    subst (SweptTo sets pred viewer c.args.label c.self.inside.table first olds c.args.changes.now.notes c.loop-i.self-inside.positions.places
    c.loop-i.changes.notes c.loop-i.written) (sym is_k) v.sweep in
    let p : Place = nth olds k in
    let version : Version = c.see.new.version in
    let same : nth c.loop-i.self-inside.positions.places k ≡ p = here.rest k (omega arith) in
    let is : version ≡ seen before viewer p.version p.chain = c.see.ensures.version ∙ ap (λ (q : Place). seen before viewer q.version q.chain) same in
    let no : truth_at pred (cell_of version) ≡ false = sym c.is_selected.ensures ∙ c.if-not-is_selected.true in
    let none : judged_at sets pred viewer (first + k) p ≡ Ok None = unselected sets pred viewer (first + k) p version is no in
    let notes = c.args.changes.now.notes in
    let news = c.loop-i.self-inside.positions.places in
    let rises : k + 1 ≤ reach found olds (i + 1) = omega (arith, is_k, reach_rises pred key olds found candidates i inside) in
    let skips : (j : ℕ) → k ≤ j → j < reach found olds (i + 1) → judged_at sets pred viewer (first + j) (nth olds j) ≡ Ok None =
    λ j low high. elim (cases_eq j k) [
      | inl eq ↦ subst (λ (n : ℕ). judged_at sets pred viewer (first + n) (nth olds n) ≡ Ok None) (sym eq) none
      | inr other ↦ none_between pred key olds found candidates c.keys_stay.ensures sets viewer first i inside j (omega (arith, low, other, is_k)) high
    ] in
    record {
      table = v.table;
      first = v.first;
      key = v.key;
      kinds = v.kinds;
      settles = v.settles;
      next = v.next;
      wide = fits_length c.loop-i.self-inside.positions.kinds c.see.new.version.row c.see.ensures.fits ∙ ap (λ (kinds : List Kind). length kinds) v.kinds;
      sweep = swept_past sets pred viewer c.args.label c.self.inside.table first olds notes news c.loop-i.changes.notes c.loop-i.written k
          (reach found olds (i + 1)) (omega (arith, rises)) (reach_within pred key olds found candidates (i + 1)) skips here;
      levels = levels_past sets pred viewer c.args.label c.self.inside.table first olds notes c.args.changes.now.levels c.loop-i.changes.levels k
          (reach found olds (i + 1)) (omega (arith, rises)) (reach_within pred key olds found candidates (i + 1)) skips here.ok
          (subst (InLevels sets pred viewer c.args.label c.self.inside.table first olds notes c.args.changes.now.levels c.loop-i.changes.levels)
          (sym is_k) v.levels);
      room = omega (arith, v.room);
      notes_room = omega (arith, v.notes_room);
      notes_width = v.notes_width;
      notes_texts = v.notes_texts;
    }

pub loop-i-preserved : goal.loop-i-preserved
loop-i-preserved c =
    let sets = sets_of c.args.sweep.now.kind in
    let pred = c.args.sweep.now.pred.now in
    let viewer = c.args.sweep.now.viewer.now in
    let olds = c.self.inside.positions.places in
    let first : ℕ = c.self.inside.first in
    let key = c.self.inside.positions.key in
    let found = c.args.sweep.now.places.now in
    let candidates : AreCandidates pred key olds found =
    subst (λ (w : Whole). AreCandidates pred w.shown.key w.shown.places found) (sym c.self.view_is) c.requires.candidates in
    let v = c.loop-i.invariant in
    let i = c.loop-i.i in
    let inside : i < length found = omega (arith, c.loop-i-test.true) in
    let k = c.number_at-number.result in
    let is_k : k ≡ reach found olds i = at_reach pred key olds found candidates i k inside c.number_at-number.ensures in
    let l : k < length olds = inside_at pred key olds found candidates i k inside c.number_at-number.ensures in
    let here : SweptTo sets pred viewer c.args.label c.self.inside.table first olds c.args.changes.now.notes c.loop-i.self-inside.positions.places
    c.loop-i.changes.notes c.loop-i.written k =
    subst (SweptTo sets pred viewer c.args.label c.self.inside.table first olds c.args.changes.now.notes c.loop-i.self-inside.positions.places
    c.loop-i.changes.notes c.loop-i.written) (sym is_k) v.sweep in
    let p : Place = nth olds k in
    let version : Version = c.see.new.version in
    let same : nth c.loop-i.self-inside.positions.places k ≡ p = here.rest k (omega arith) in
    let is : version ≡ seen before viewer p.version p.chain = c.see.ensures.version ∙ ap (λ (q : Place). seen before viewer q.version q.chain) same in
    let ok : refusal_in (judged_at sets pred viewer (first + k) p) ≡ None = here_ok sets pred viewer c.self.inside.table first olds k l here.ok in
    let yes : truth_at pred (cell_of version) ≡ true = sym c.is_selected.ensures ∙ c.if-not-is_selected.false in
    let cell : Cell = cell_of c.make_next.new.next in
    let some : judged_at sets pred viewer (first + k) p ≡ Ok (Some cell) = new_judged sets pred viewer (first + k) p version is yes cell
    (without_rival sets pred viewer (first + k) p version is yes ok) c.make_next.ensures.cell in
    let live : version.live ≡ true = is_live sets pred viewer (first + k) p version is yes in
    let saw : Some version.row ≡ sees viewer p = ap (λ (b : Bool). cond b (Some version.row) None) (sym live) ∙ ap (λ (x : Version). cell_of x) is in
    let table = c.self.inside.table in
    let notes = c.args.changes.now.notes in
    let told : c.note.new.changes.notes ≡ with_note (record { table = table; pos = first + k; before = sees viewer p; after = cell }) c.loop-i.changes.notes =
    c.note.ensures.notes ∙ λ j. with_note (record { table = v.table j; pos = v.first j + k; before = saw j; after = cell }) c.loop-i.changes.notes in
    let told_levels : c.note.new.changes.levels
    ≡ map (with_note (record { table = table; pos = first + k; before = sees viewer p; after = cell })) c.loop-i.changes.levels =
    c.note.ensures.levels ∙ λ j. map (with_note (record { table = v.table j; pos = v.first j + k; before = saw j; after = cell })) c.loop-i.changes.levels in
    let after = c.write_at.new.self.places in
    let one = swept_one sets pred viewer c.args.label table first olds notes c.loop-i.self-inside.positions.places after c.loop-i.changes.notes
    c.note.new.changes.notes c.loop-i.written k cell l some c.write_at.ensures.places c.write_at.ensures.written told here in
    let rises : k + 1 ≤ reach found olds (i + 1) = omega (arith, is_k, reach_rises pred key olds found candidates i inside) in
    let skips : (j : ℕ) → k + 1 ≤ j → j < reach found olds (i + 1) → judged_at sets pred viewer (first + j) (nth olds j) ≡ Ok None =
    λ j low high. none_between pred key olds found candidates c.keys_stay.ensures sets viewer first i inside j (omega (arith, low, is_k)) high in
    let wide : length version.row ≡ length c.self.inside.positions.kinds =
    fits_length c.loop-i.self-inside.positions.kinds c.see.new.version.row c.see.ensures.fits ∙ ap (λ (kinds : List Kind). length kinds) v.kinds in
    record {
      table = v.table;
      first = v.first;
      key = c.write_at.ensures.key ∙ v.key;
      kinds = c.write_at.ensures.kinds ∙ v.kinds;
      settles = subst (Settles c.touch.new.self) (sym c.write_at.ensures.places)
          (c.touch.ensures c.loop-i.self-inside.positions.places (nth after k) v.settles);
      next = c.make_next.ensures.size ∙ wide;
      wide = wide;
      sweep = swept_past sets pred viewer c.args.label table first olds notes after c.note.new.changes.notes (c.loop-i.written + 1) (k + 1)
          (reach found olds (i + 1)) rises (reach_within pred key olds found candidates (i + 1)) skips one;
      levels = levels_past sets pred viewer c.args.label table first olds notes c.args.changes.now.levels c.note.new.changes.levels (k + 1)
          (reach found olds (i + 1)) rises (reach_within pred key olds found candidates (i + 1)) skips one.ok
          (levels_one sets pred viewer c.args.label table first olds notes c.args.changes.now.levels c.loop-i.changes.levels c.note.new.changes.levels k cell
          l some here.ok told_levels
          (subst (InLevels sets pred viewer c.args.label table first olds notes c.args.changes.now.levels c.loop-i.changes.levels) (sym is_k) v.levels));
      room = omega (arith, v.room, c.write_at.ensures.room);
      notes_room = omega (arith, v.notes_room, c.note.ensures.room);
      notes_width = c.note.ensures.width ∙ v.notes_width;
      notes_texts = c.note.ensures.texts ∙ v.notes_texts;
    }

pub touch-requires-clause-uncommitted : goal.touch-requires-clause-uncommitted
touch-requires-clause-uncommitted c =
    let sets = sets_of c.args.sweep.now.kind in
    let pred = c.args.sweep.now.pred.now in
    let viewer = c.args.sweep.now.viewer.now in
    let olds = c.self.inside.positions.places in
    let first : ℕ = c.self.inside.first in
    let key = c.self.inside.positions.key in
    let found = c.args.sweep.now.places.now in
    let candidates : AreCandidates pred key olds found =
    subst (λ (w : Whole). AreCandidates pred w.shown.key w.shown.places found) (sym c.self.view_is) c.requires.candidates in
    let v = c.loop-i.invariant in
    let i = c.loop-i.i in
    let inside : i < length found = omega (arith, c.loop-i-test.true) in
    let k = c.number_at-number.result in
    let is_k : k ≡ reach found olds i = at_reach pred key olds found candidates i k inside c.number_at-number.ensures in
    let l : k < length olds = inside_at pred key olds found candidates i k inside c.number_at-number.ensures in
    omega (arith, l, v.settles.released.size, v.sweep.size)

pub touch-requires-clause-unpruned : goal.touch-requires-clause-unpruned
touch-requires-clause-unpruned c =
    let sets = sets_of c.args.sweep.now.kind in
    let pred = c.args.sweep.now.pred.now in
    let viewer = c.args.sweep.now.viewer.now in
    let olds = c.self.inside.positions.places in
    let first : ℕ = c.self.inside.first in
    let key = c.self.inside.positions.key in
    let found = c.args.sweep.now.places.now in
    let candidates : AreCandidates pred key olds found =
    subst (λ (w : Whole). AreCandidates pred w.shown.key w.shown.places found) (sym c.self.view_is) c.requires.candidates in
    let v = c.loop-i.invariant in
    let i = c.loop-i.i in
    let inside : i < length found = omega (arith, c.loop-i-test.true) in
    let k = c.number_at-number.result in
    let is_k : k ≡ reach found olds i = at_reach pred key olds found candidates i k inside c.number_at-number.ensures in
    let l : k < length olds = inside_at pred key olds found candidates i k inside c.number_at-number.ensures in
    omega (arith, l, v.settles.at_rest.size, v.sweep.size)

pub returns-clause-done : goal.returns-clause-done
returns-clause-done c =
    let sets = sets_of c.args.sweep.now.kind in
    let pred = c.args.sweep.now.pred.now in
    let viewer = c.args.sweep.now.viewer.now in
    let olds = c.self.inside.positions.places in
    let first : ℕ = c.self.inside.first in
    let key = c.self.inside.positions.key in
    let found = c.args.sweep.now.places.now in
    let candidates : AreCandidates pred key olds found =
    subst (λ (w : Whole). AreCandidates pred w.shown.key w.shown.places found) (sym c.self.view_is) c.requires.candidates in
    let news = c.loop-i.self-inside.positions.places in
    let notes = c.args.changes.now.notes in
    let end : length olds ≤ reach found olds c.loop-i.i = reach_past found olds c.loop-i.i (omega (arith, c.loop-i-test.false)) in
    let ok : refusal_in (swept sets pred viewer first olds) ≡ None =
    ap (λ (w : Whole). refusal_in (swept sets pred viewer w.shown.first w.shown.places)) c.self.view_is ∙ c.requires.ok in
    subst (λ (w : Whole). IsDone viewer c.args.label w.shown.table w.shown.first (swept sets pred viewer w.shown.first w.shown.places) w.shown.places
    news notes c.loop-i.changes.notes c.loop-i.written) c.self.view_is
    (swept_all sets pred viewer c.args.label c.self.inside.table first olds notes news c.loop-i.changes.notes c.loop-i.written
    (reach found olds c.loop-i.i) end ok c.loop-i.invariant.sweep)

pub returns-clause-levels : goal.returns-clause-levels
returns-clause-levels c =
    let sets = sets_of c.args.sweep.now.kind in
    let pred = c.args.sweep.now.pred.now in
    let viewer = c.args.sweep.now.viewer.now in
    let olds = c.self.inside.positions.places in
    let found = c.args.sweep.now.places.now in
    let levels = c.args.changes.now.levels in
    let end : length olds ≤ reach found olds c.loop-i.i = reach_past found olds c.loop-i.i (omega (arith, c.loop-i-test.false)) in
    levels_all sets pred viewer c.args.label c.self.inside.table c.self.inside.first olds c.args.changes.now.notes levels c.loop-i.changes.levels
    (reach found olds c.loop-i.i) end c.loop-i.invariant.levels
    ∙ ap (λ (w : Whole). map (notes_with w.shown.table w.shown.first viewer (swept sets pred viewer w.shown.first w.shown.places) w.shown.places) levels)
    c.self.view_is

pub returns-clause-room : goal.returns-clause-room
returns-clause-room c =
    let v = c.loop-i.invariant in
    omega (arith, v.room, c.loop-i.auto.i-end, ap (λ (w : Whole). w.room) c.self.view_is)

pub returns-clause-notes_room : goal.returns-clause-notes_room
returns-clause-notes_room c =
    let v = c.loop-i.invariant in
    omega (arith, v.notes_room, c.loop-i.auto.i-end)
