use Rattle.std.proofs.Common.{List, refl, sym, ap, subst, arith}
use Rattle.std.specs.List.{AllByRecursion}
use Rattle.hy_chain.specs.Chains.{Falls}
use Rattle.hy_undo.specs.Places.{Place}
use Rattle.hy_undo.specs.Chunks.{Everywhere, Pruned}
use Rattle.hy_chunk.specs.Fields.{nth}
use Rattle.hy_chunk.specs.Views.{Whole}
use Rattle.hy_chunk.proofs.Mapped.{all_at, everywhere}
use Rattle.hy_chunk.proofs.Settling.{rest_unpruned}
use Rattle.hy_chunk.proofs.chunk.Chunk.is_pruned.Goals as goal

-- what is at rest stays as it is
pub returns : goal.returns
returns c = λ below.
    let places = c.self.inside.positions.places in
    let cover = c.args.cover.now in
    let settled = c.self.inside.settled in
    let settles = c.self.invariant.settles in
    let was = ap (λ (w : Whole). w.shown.places) c.self.view_is in
    let falls = subst (AllByRecursion (λ (p : Place). Falls p.chain)) (sym was) c.requires in
    subst (λ (all : List Place). Everywhere (Pruned cover) all all) was
    (everywhere (Pruned cover) places places refl
    (λ k l. subst (Pruned cover (nth places k))
    (rest_unpruned cover settled.after (nth places k) (omega (arith, c.watermark.ensures, c.is_below.ensures.late below))
    (settles.at_rest.unset k l (c.is_below.ensures.blank below k (omega (arith, l, settles.at_rest.size)))))
    (c.places_step.ensures.prunes cover (nth places k) (all_at (λ (p : Place). Falls p.chain) places k falls l))))
