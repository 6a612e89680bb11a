use Rattle.std.proofs.Common.{◌≡◌, ℕ, ◌+◌, ◌<◌, length, None, refl, sym, ap, ◌∙◌, subst, arith}
use Rattle.hy_chain.specs.Chains.{rival, seen}
use Rattle.hy_undo.specs.declared.version.Version.{Version}
use Rattle.hy_undo.specs.Images.{before}
use Rattle.hy_undo.specs.Places.{Place, cell_of}
use Rattle.hy_undo.specs.Sweeps.{verdict, swept}
use Rattle.hy_chunk.specs.Candidates.{AreCandidates}
use Rattle.hy_chunk.specs.Fields.{nth}
use Rattle.hy_chunk.specs.Views.{Held, Whole}
use Rattle.hy_chunk.specs.Writes.{sets_of, refusal_in, judged_at}
use Rattle.hy_chunk.proofs.Candidates.{reach, at_reach, inside_at, reach_inside, reach_within, reach_rises, none_in_front, none_between}
use Rattle.hy_chunk.proofs.Over.{fits_length}
use Rattle.hy_chunk.proofs.Wholes.{still_whole}
use Rattle.hy_chunk.proofs.Sweeping.{goes_on, refused_past}
use Rattle.hy_chunk.proofs.chunk.Chunk.refusal.Goals as goal

pub invariant_of-self-in-Some : goal.invariant_of-self-in-Some
invariant_of-self-in-Some c =
    let v = c.loop-i.invariant in
    let old = c.self.inside in
    let now = c.loop-i.self-inside in
    still_whole old.first (length old.positions.places) (length old.positions.kinds) (length old.seen.row) (length old.next.row)
    now.first (length now.positions.places) (length now.positions.kinds) (length c.see.new.version.row) (length now.next.row)
    c.self.invariant v.first (ap (λ (h : Held). length h.places) v.positions) (ap (λ (h : Held). length h.kinds) v.positions)
    (fits_length now.positions.kinds c.see.new.version.row c.see.ensures.fits ∙ ap (λ (h : Held). length h.kinds) v.positions) v.next
    v.settles

pub see-requires-clause-within : goal.see-requires-clause-within
see-requires-clause-within c =
    let sets = sets_of c.args.sweep.now.kind in
    let pred = c.args.sweep.now.pred.now in
    let viewer = c.args.sweep.now.viewer.now in
    let olds = c.self.inside.positions.places in
    let first : ℕ = c.self.inside.first in
    let key = c.self.inside.positions.key in
    let found = c.args.sweep.now.places.now in
    let candidates : AreCandidates pred key olds found =
    subst (λ (w : Whole). AreCandidates pred w.shown.key w.shown.places found) (sym c.self.view_is) c.requires in
    let v = c.loop-i.invariant in
    let i = c.loop-i.i in
    let inside : i < length found = omega (arith, c.loop-i-test.true) in
    let k = c.number_at-number.result in
    let is_k : k ≡ reach found olds i = at_reach pred key olds found candidates i k inside c.number_at-number.ensures in
    let l : k < length olds = inside_at pred key olds found candidates i k inside c.number_at-number.ensures in
    subst (λ (h : Held). k < length h.places) (sym v.positions) l

pub rival-rival-requires : goal.rival-rival-requires
rival-rival-requires c =
    let sets = sets_of c.args.sweep.now.kind in
    let pred = c.args.sweep.now.pred.now in
    let viewer = c.args.sweep.now.viewer.now in
    let olds = c.self.inside.positions.places in
    let first : ℕ = c.self.inside.first in
    let key = c.self.inside.positions.key in
    let found = c.args.sweep.now.places.now in
    let candidates : AreCandidates pred key olds found =
    subst (λ (w : Whole). AreCandidates pred w.shown.key w.shown.places found) (sym c.self.view_is) c.requires in
    let v = c.loop-i.invariant in
    let i = c.loop-i.i in
    let inside : i < length found = omega (arith, c.loop-i-test.true) in
    let k = c.number_at-number.result in
    let is_k : k ≡ reach found olds i = at_reach pred key olds found candidates i k inside c.number_at-number.ensures in
    let l : k < length olds = inside_at pred key olds found candidates i k inside c.number_at-number.ensures in
    subst (λ (h : Held). k < length h.places) (sym v.positions) l

pub overflow_add-pos : goal.overflow_add-pos
overflow_add-pos c =
    let sets = sets_of c.args.sweep.now.kind in
    let pred = c.args.sweep.now.pred.now in
    let viewer = c.args.sweep.now.viewer.now in
    let olds = c.self.inside.positions.places in
    let first : ℕ = c.self.inside.first in
    let key = c.self.inside.positions.key in
    let found = c.args.sweep.now.places.now in
    let candidates : AreCandidates pred key olds found =
    subst (λ (w : Whole). AreCandidates pred w.shown.key w.shown.places found) (sym c.self.view_is) c.requires in
    let v = c.loop-i.invariant in
    let i = c.loop-i.i in
    let inside : i < length found = omega (arith, c.loop-i-test.true) in
    let k = c.number_at-number.result in
    let is_k : k ≡ reach found olds i = at_reach pred key olds found candidates i k inside c.number_at-number.ensures in
    let l : k < length olds = inside_at pred key olds found candidates i k inside c.number_at-number.ensures in
    omega (arith, l, v.first, c.self.invariant.numbered)

pub loop-i-init : goal.loop-i-init
loop-i-init c =
    let sets = sets_of c.args.sweep.now.kind in
    let pred = c.args.sweep.now.pred.now in
    let viewer = c.args.sweep.now.viewer.now in
    let olds = c.self.inside.positions.places in
    let first : ℕ = c.self.inside.first in
    let key = c.self.inside.positions.key in
    let found = c.args.sweep.now.places.now in
    let candidates : AreCandidates pred key olds found =
    subst (λ (w : Whole). AreCandidates pred w.shown.key w.shown.places found) (sym c.self.view_is) c.requires in
    let none_first : ◌≡◌ {A = ℕ} (first + 0) first = omega arith in
    record {
      table = refl;
      first = refl;
      key = refl;
      positions = refl;
      settles = c.self.invariant.settles;
      next = c.self.invariant.next_wide;
      wide = c.self.invariant.wide;
      rest = refused_past sets pred viewer first olds 0 (reach found olds 0) (omega arith) (reach_within pred key olds found candidates 0)
          (none_in_front pred key olds found candidates c.keys_stay.ensures sets viewer first)
          ∙ ap (λ (n : ℕ). refusal_in (swept sets pred viewer n olds)) none_first;
    }

pub loop-i-preserved : goal.loop-i-preserved
loop-i-preserved c =
    let sets = sets_of c.args.sweep.now.kind in
    let pred = c.args.sweep.now.pred.now in
    let viewer = c.args.sweep.now.viewer.now in
    let olds = c.self.inside.positions.places in
    let first : ℕ = c.self.inside.first in
    let key = c.self.inside.positions.key in
    let found = c.args.sweep.now.places.now in
    let candidates : AreCandidates pred key olds found =
    subst (λ (w : Whole). AreCandidates pred w.shown.key w.shown.places found) (sym c.self.view_is) c.requires in
    let v = c.loop-i.invariant in
    let i = c.loop-i.i in
    let inside : i < length found = omega (arith, c.loop-i-test.true) in
    let k = c.number_at-number.result in
    let is_k : k ≡ reach found olds i = at_reach pred key olds found candidates i k inside c.number_at-number.ensures in
    let l : k < length olds = inside_at pred key olds found candidates i k inside c.number_at-number.ensures in
    let p : Place = nth olds k in
    let version : Version = c.see.new.version in
    let is : version ≡ seen before viewer p.version p.chain =
    c.see.ensures.version ∙ ap (λ (h : Held). seen before viewer (nth h.places k).version (nth h.places k).chain) v.positions in
    let other : c.rival-rival.result ≡ rival viewer p.chain = c.rival-rival.ensures ∙ ap (λ (h : Held). rival viewer (nth h.places k).chain) v.positions in
    let none : None ≡ refusal_in (judged_at sets pred viewer (first + k) p) =
    sym c.in_default.is ∙ (c.refusal_at.ensures ∙ λ j. refusal_in (verdict sets pred (v.first j + k) (other j) (cell_of (is j)))) in
    let place = reach found olds i in
    let here : None ≡ refusal_in (judged_at sets pred viewer (first + place) (nth olds place)) =
    none ∙ ap (λ (n : ℕ). refusal_in (judged_at sets pred viewer (first + n) (nth olds n))) is_k in
    record {
      table = v.table;
      first = v.first;
      key = v.key;
      positions = v.positions;
      settles = v.settles;
      next = v.next;
      wide = fits_length c.loop-i.self-inside.positions.kinds c.see.new.version.row c.see.ensures.fits ∙ ap (λ (h : Held). length h.kinds) v.positions;
      rest = refused_past sets pred viewer first olds (place + 1) (reach found olds (i + 1)) (reach_rises pred key olds found candidates i inside)
          (reach_within pred key olds found candidates (i + 1))
          (none_between pred key olds found candidates c.keys_stay.ensures sets viewer first i inside)
          ∙ (goes_on sets pred viewer first olds place (reach_inside pred key olds found candidates i inside) here ∙ v.rest);
    }
