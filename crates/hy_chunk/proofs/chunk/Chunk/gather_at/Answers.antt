use Rattle.std.proofs.Common.{◌≡◌, ◌<◌, ◌++◌, ℕ, List, length, sym, ap, ◌∙◌, subst, arith}
use Rattle.std.specs.Prelude.{Contains}
use Rattle.std.proofs.lemmas.List.Elements.{Contains-get_or}
use Rattle.hy_value.specs.declared.Value.{Value}
use Rattle.hy_undo.specs.declared.version.Version.{Version}
use Rattle.hy_undo.specs.Places.{Cell, cell_of, sees}
use Rattle.hy_chunk.specs.Fields.{nth}
use Rattle.hy_chunk.specs.Gathering.{kept_by, conditions_of}
use Rattle.hy_chunk.specs.Views.{Held, Whole}
use Rattle.hy_chunk.proofs.Chosen.{chosen_more}
use Rattle.hy_chunk.proofs.Over.{fits_length}
use Rattle.hy_chunk.proofs.Wholes.{still_whole}
use Rattle.hy_chunk.proofs.chunk.Chunk.gather_at.Goals as goal

pub see-requires-clause-within : goal.see-requires-clause-within
see-requires-clause-within c =
    let p = c.number_at.result in
    subst (λ (h : Held). p < length h.places) (sym c.loop-i.invariant.positions)
    (subst (λ (w : Whole). p < length w.shown.places) (sym c.self.view_is)
    (c.requires.within p (subst (λ (q : ℕ). Contains c.args.places.now q) (sym c.number_at.ensures)
    (Contains-get_or c.args.places.now c.loop-i.i 0 (omega (arith, c.loop-i-test.true))))))

pub invariant_of-self-in_err-keep : goal.invariant_of-self-in_err-keep
invariant_of-self-in_err-keep c =
    let v = c.loop-i.invariant in
    let old = c.self.inside in
    let now = c.loop-i.self-inside in
    still_whole old.first (length old.positions.places) (length old.positions.kinds) (length old.seen.row) (length old.next.row)
    now.first (length now.positions.places) (length now.positions.kinds) (length c.see.new.version.row) (length now.next.row)
    c.self.invariant v.first (ap (λ (h : Held). length h.places) v.positions) (ap (λ (h : Held). length h.kinds) v.positions)
    (fits_length now.positions.kinds c.see.new.version.row c.see.ensures.fits ∙ ap (λ (h : Held). length h.kinds) v.positions) v.next v.settles

pub loop-i-preserved : goal.loop-i-preserved
loop-i-preserved c =
    let old = c.self.inside.positions.places in
    let p = c.number_at.result in
    let here : cell_of c.see.new.version ≡ sees c.args.viewer.now (nth old p) =
    ap (λ (v : Version). cell_of v) c.see.ensures.version ∙ ap (λ (h : Held). sees c.args.viewer.now (nth h.places p)) c.loop-i.invariant.positions in
    let v = c.loop-i.invariant in
    let keeps : Cell → List (List Value) = kept_by c.args.wanted.now.columns (conditions_of c.args.wanted.now.pred.now c.args.wanted.now.keys) in
    let at : ℕ → List (List Value) = λ place. keeps (sees c.args.viewer.now (nth old place)) in
    record {
      table = v.table;
      first = v.first;
      positions = v.positions;
      settles = v.settles;
      next = v.next;
      wide = fits_length c.loop-i.self-inside.positions.kinds c.see.new.version.row c.see.ensures.fits ∙ ap (λ (h : Held). length h.kinds) v.positions;
      rows = c.in_ok-keep.ensures.rows
          ∙ ((λ i. v.rows i ++ keeps (here i))
          ∙ chosen_more at c.args.places.now c.loop-i.i p c.args.gathered.now.rows (omega (arith, c.loop-i-test.true)) c.number_at.ensures);
      width = c.keep.ensures.width ∙ v.width;
    }
