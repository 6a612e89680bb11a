use Rattle.std.proofs.Common.{◌≡◌, ◌+◌, List, take, ap, refl, subst, arith}
use Rattle.std.specs.List.{AllByRecursion}
use Rattle.hy_stamp.specs.declared.Viewer.{Viewer}
use Rattle.hy_chunk.specs.Views.{Whole}
use Rattle.hy_protocol.specs.declared.Phase.TheVariants.{Working}
use Rattle.hy_event.specs.declared.Open.{Open}
use Rattle.hy_session.specs.Passing.{GoesPast}
use Rattle.hy_session.proofs.PassedChunks.{gone_to}
use Rattle.hy_session.proofs.inserting.pass.Goals as goal

pub returns-then-passed-gt0-clause-gone : goal.returns-then-passed-gt0-clause-gone
returns-then-passed-gt0-clause-gone c =
    let visitor = c.args.visitor.now in
    let insertion = c.args.insertion.now in
    let visited = insertion.present.visited in
    let passed = c.count_passed-passed.result in
    let first : List Whole = take passed c.args.chunks.now in
    gone_to visitor insertion.table insertion.row.now visited c.alike-key.result.1 passed c.alike-key.result.0 c.args.now.now _ c.args.chunks.now
    c.alike-key.ensures.alike (omega (arith, c.count_passed-passed.ensures.few, c.min-most.ensures))
    (omega (arith, c.count_passed-passed.ensures.few, c.min-most.ensures))
    (subst
    (λ (v : Open). AllByRecursion
    (λ (chunk : Whole). GoesPast c.alike-key.result.0 (record { id = visitor.id; start = v.start }) insertion.row.now visitor.prunes v.cover chunk.shown) first)
    c.now.view_is
    (subst
    (λ (v : Viewer). AllByRecursion
    (λ (chunk : Whole). GoesPast c.alike-key.result.0 v insertion.row.now visitor.prunes c.now.inside.cover chunk.shown) first)
    c.viewer.ensures c.count_passed-passed.ensures.past))
    (λ some. ap (λ (v : Open). record v { phase = Working (visited + passed) 0 }) c.now.view_is)
    (λ none. absurd (omega (arith, none, c.if-passed-gt0.true)))

pub returns-else-passed-gt0-clause-gone : goal.returns-else-passed-gt0-clause-gone
returns-else-passed-gt0-clause-gone c =
    let visitor = c.args.visitor.now in
    let insertion = c.args.insertion.now in
    let passed = c.count_passed-passed.result in
    let first : List Whole = take passed c.args.chunks.now in
    gone_to visitor insertion.table insertion.row.now insertion.present.visited c.alike-key.result.1 passed c.alike-key.result.0 c.args.now.now
    c.args.now.now c.args.chunks.now c.alike-key.ensures.alike (omega (arith, c.count_passed-passed.ensures.few, c.min-most.ensures))
    (omega (arith, c.count_passed-passed.ensures.few, c.min-most.ensures))
    (subst
    (λ (v : Open). AllByRecursion
    (λ (chunk : Whole). GoesPast c.alike-key.result.0 (record { id = visitor.id; start = v.start }) insertion.row.now visitor.prunes v.cover chunk.shown) first)
    c.now.view_is
    (subst
    (λ (v : Viewer). AllByRecursion
    (λ (chunk : Whole). GoesPast c.alike-key.result.0 v insertion.row.now visitor.prunes c.now.inside.cover chunk.shown) first)
    c.viewer.ensures c.count_passed-passed.ensures.past))
    (λ some. absurd (omega (arith, some, c.if-passed-gt0.false))) (λ none. refl)
