use Rattle.std.proofs.Common.{◌≡◌, ◌<◌, ◌++◌, List, [], length, ap, ◌∙◌, arith, subst}
use Rattle.hy_value.specs.declared.Value.{Value}
use Rattle.hy_undo.specs.declared.version.Version.{Version}
use Rattle.hy_undo.specs.Places.{Cell, cell_of, sees}
use Rattle.hy_chunk.specs.Fields.{nth}
use Rattle.hy_chunk.specs.Gathering.{kept_by, conditions_of}
use Rattle.hy_chunk.specs.Views.{Held, Whole}
use Rattle.hy_chunk.proofs.Over.{fits_length}
use Rattle.hy_chunk.proofs.Placing.{part_more, part_passed}
use Rattle.hy_chunk.proofs.Wholes.{still_whole}
use Rattle.hy_chunk.proofs.chunk.Chunk.gather_by_row.Goals as goal

pub invariant_of-self-in_err-keep : goal.invariant_of-self-in_err-keep
invariant_of-self-in_err-keep c =
    let v = c.loop-place.invariant in
    still_whole c.self.inside.first (length c.self.inside.positions.places) (length c.self.inside.positions.kinds) (length c.self.inside.seen.row)
    (length c.self.inside.next.row)
    c.loop-place.self-inside.first (length c.loop-place.self-inside.positions.places) (length c.loop-place.self-inside.positions.kinds)
    (length c.see.new.version.row) (length c.loop-place.self-inside.next.row)
    c.self.invariant v.first (ap (λ (h : Held). length h.places) v.positions) (ap (λ (h : Held). length h.kinds) v.positions)
    (fits_length c.loop-place.self-inside.positions.kinds c.see.new.version.row c.see.ensures.fits
    ∙ ap (λ (h : Held). length h.kinds) c.loop-place.invariant.positions) v.next v.settles

pub loop-place-preserved : goal.loop-place-preserved
loop-place-preserved c =
    let old = c.self.inside.positions.places in
    let k = c.loop-place.place in
    let here : cell_of c.see.new.version ≡ sees c.args.viewer.now (nth old k) =
    ap (λ (v : Version). cell_of v) c.see.ensures.version ∙ ap (λ (h : Held). sees c.args.viewer.now (nth h.places k)) c.loop-place.invariant.positions in
    let v = c.loop-place.invariant in
    let within : k < length c.self.inside.positions.places =
    omega (arith, c.loop-place-test.true, c.requires.within, ap (λ (w : Whole). length w.shown.places) c.self.view_is) in
    let keeps : Cell → List (List Value) = kept_by c.args.wanted.now.columns (conditions_of c.args.wanted.now.pred.now c.args.wanted.now.keys) in
    record {
      table = v.table;
      first = v.first;
      key = v.key;
      positions = v.positions;
      settles = v.settles;
      next = v.next;
      wide = fits_length c.loop-place.self-inside.positions.kinds c.see.new.version.row c.see.ensures.fits
          ∙ ap (λ (h : Held). length h.kinds) c.loop-place.invariant.positions;
      least = omega (arith, v.least);
      most = omega (arith, c.loop-place-test.true);
      rows = c.in_ok-keep.ensures.rows
          ∙ ((λ i. v.rows i ++ keeps (here i))
          ∙ part_more keeps c.args.viewer.now old c.args.scan.now.part.first k c.args.gathered.now.rows v.least within);
      width = c.keep.ensures.width ∙ v.width;
    }

pub loop-place-preserved-then-is_passed : goal.loop-place-preserved-then-is_passed
loop-place-preserved-then-is_passed c =
    let v = c.loop-place.invariant in
    let old = c.self.inside.positions.places in
    let keeps : Cell → List (List Value) = kept_by c.args.wanted.now.columns (conditions_of c.args.wanted.now.pred.now c.args.wanted.now.keys) in
    let within : c.loop-place.place < length c.self.inside.positions.places =
    omega (arith, c.loop-place-test.true, c.requires.within, ap (λ (w : Whole). length w.shown.places) c.self.view_is) in
    let none : keeps (sees c.args.viewer.now (nth old c.loop-place.place)) ≡ [] =
    subst (λ (h : Held). keeps (sees c.args.viewer.now (nth h.places c.loop-place.place)) ≡ []) v.positions (c.is_passed.ensures c.if-is_passed.true c.args.viewer.now) in
    record {
      table = v.table;
      first = v.first;
      key = v.key;
      positions = v.positions;
      settles = v.settles;
      next = v.next;
      wide = v.wide;
      least = omega (arith, v.least);
      most = omega (arith, c.loop-place-test.true);
      rows = part_passed keeps c.args.viewer.now old c.args.scan.now.part.first c.loop-place.place c.args.gathered.now.rows c.loop-place.gathered.rows v.least
          within none v.rows;
      width = v.width;
    }
