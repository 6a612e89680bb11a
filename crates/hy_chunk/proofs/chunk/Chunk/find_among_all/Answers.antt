use Rattle.std.proofs.Common.{◌≡◌, ◌≤◌, Bool, length, sym, ap, ◌∙◌, arith}
use Rattle.std.specs.List.{list_any}
use Rattle.hy_value.specs.declared.Cmp.TheVariants.{Eq}
use Rattle.hy_bound.specs.Condition.{Compare}
use Rattle.hy_bound.specs.Predicate.{truth_at}
use Rattle.hy_bound.specs.declared.predicate.Side.TheVariants.{Literal}
use Rattle.hy_undo.specs.declared.version.Version.{Version}
use Rattle.hy_undo.specs.Places.{Cell, cell_of, sees}
use Rattle.hy_undo.specs.Chunks.{rows_seen}
use Rattle.hy_chunk.specs.Fields.{nth}
use Rattle.hy_chunk.specs.Views.{Held, Whole}
use Rattle.hy_chunk.proofs.Over.{fits_length}
use Rattle.hy_chunk.proofs.Looks.{found_at, found_nowhere, none_more}
use Rattle.hy_chunk.proofs.Wholes.{still_whole}
use Rattle.hy_chunk.proofs.chunk.Chunk.find_among_all.Goals as goal

pub invariant_of-self-then-has_value : goal.invariant_of-self-then-has_value
invariant_of-self-then-has_value c =
    let v = c.loop-place.invariant in
    still_whole c.self.inside.first (length c.self.inside.positions.places) (length c.self.inside.positions.kinds) (length c.self.inside.seen.row)
    (length c.self.inside.next.row)
    c.loop-place.self-inside.first (length c.loop-place.self-inside.positions.places) (length c.loop-place.self-inside.positions.kinds)
    (length c.see.new.version.row) (length c.loop-place.self-inside.next.row)
    c.self.invariant v.first (ap (λ (h : Held). length h.places) v.positions) (ap (λ (h : Held). length h.kinds) v.positions)
    (fits_length c.loop-place.self-inside.positions.kinds c.see.new.version.row c.see.ensures.fits
    ∙ ap (λ (h : Held). length h.kinds) c.loop-place.invariant.positions) v.next v.settles

pub returns-then-has_value-clause-found : goal.returns-then-has_value-clause-found
returns-then-has_value-clause-found c =
    let old = c.self.inside.positions.places in
    let k = c.loop-place.place in
    let here : cell_of c.see.new.version ≡ sees c.args.viewer.now (nth old k) =
    ap (λ (v : Version). cell_of v) c.see.ensures.version ∙ ap (λ (h : Held). sees c.args.viewer.now (nth h.places k)) c.loop-place.invariant.positions in
    let test : Cell → Bool = truth_at (Compare c.args.column Eq (Literal c.args.value.now)) in
    sym (ap (λ (w : Whole). list_any test (rows_seen c.args.viewer.now w.shown.places)) (sym c.self.view_is)
    ∙ found_at test c.args.viewer.now old k (omega (arith, c.loop-place-test.true, c.len-place-end.ensures))
    (ap test (sym here) ∙ (sym c.has_value.ensures ∙ c.if-has_value.true)))

pub loop-place-preserved : goal.loop-place-preserved
loop-place-preserved c =
    let old = c.self.inside.positions.places in
    let k = c.loop-place.place in
    let here : cell_of c.see.new.version ≡ sees c.args.viewer.now (nth old k) =
    ap (λ (v : Version). cell_of v) c.see.ensures.version ∙ ap (λ (h : Held). sees c.args.viewer.now (nth h.places k)) c.loop-place.invariant.positions in
    let test : Cell → Bool = truth_at (Compare c.args.column Eq (Literal c.args.value.now)) in
    let v = c.loop-place.invariant in
    record {
      table = v.table;
      first = v.first;
      key = v.key;
      positions = v.positions;
      settles = v.settles;
      next = v.next;
      wide = fits_length c.loop-place.self-inside.positions.kinds c.see.new.version.row c.see.ensures.fits
          ∙ ap (λ (h : Held). length h.kinds) c.loop-place.invariant.positions;
      none = none_more test c.args.viewer.now old k v.none (ap test (sym here) ∙ (sym c.has_value.ensures ∙ c.if-has_value.false));
    }

pub returns-clause-found : goal.returns-clause-found
returns-clause-found c =
    let old = c.self.inside.positions.places in
    let test : Cell → Bool = truth_at (Compare c.args.column Eq (Literal c.args.value.now)) in
    let end : length old ≤ c.loop-place.place = omega (arith, c.loop-place-test.false, c.len-place-end.ensures) in
    sym (ap (λ (w : Whole). list_any test (rows_seen c.args.viewer.now w.shown.places)) (sym c.self.view_is)
    ∙ found_nowhere test c.args.viewer.now old (λ k l. c.loop-place.invariant.none k (omega (arith, l, end))))
