use Rattle.std.proofs.Common.{length, List, ap, arith}
use Rattle.hy_prune.specs.Fates.{watermark_of}
use Rattle.hy_value.specs.declared.Kind.{Kind}
use Rattle.hy_chunk.specs.Sound.{most_texts}
use Rattle.hy_chunk.specs.Steps.{least_free}
use Rattle.hy_engine_tests.proofs.Wholes.{pair_ready, after_reserve, after_place_call}
use Rattle.hy_engine_tests.proofs.tried.Tried.place.Goals as goal

pub invariant_of-self : goal.invariant_of-self
invariant_of-self c = after_reserve c.self.inside.next c.self.inside.chunk c.reserve.new.self c.self.invariant c.reserve.ensures.all

pub place-requires-clause-fits : goal.place-requires-clause-fits
place-requires-clause-fits c =
    pair_ready c.self.inside.next c.reserve.new.self
    (after_reserve c.self.inside.next c.self.inside.chunk c.reserve.new.self c.self.invariant c.reserve.ensures.all)
    _ _ c.in_ok-row.row c.in_ok-row.ensures

pub place-requires-clause-wide : goal.place-requires-clause-wide
place-requires-clause-wide c =
    let ready = after_reserve c.self.inside.next c.self.inside.chunk c.reserve.new.self c.self.invariant c.reserve.ensures.all in
    omega (arith, ap (λ (kinds : List Kind). length kinds) ready.kinds, c.in_ok-changes.ensures.width)

pub place-requires-clause-long : goal.place-requires-clause-long
place-requires-clause-long c =
    let ready = after_reserve c.self.inside.next c.self.inside.chunk c.reserve.new.self c.self.invariant c.reserve.ensures.all in
    omega (arith, ap most_texts ready.kinds)

pub invariant_of-self-2 : goal.invariant_of-self-2
invariant_of-self-2 c =
    let w = watermark_of c.args.open.now.cover in
    after_place_call _ c.place.result c.args.open.now.viewer c.args.open.now.label w c.in_ok-row.row c.self.inside.next
    (least_free w c.reserve.new.self.shown.places)
    c.self.inside.chunk c.reserve.new.self c.place.new.self c.self.invariant c.reserve.ensures.all c.place.ensures.all c.place.ensures.places
    c.place.ensures.kept
