use Rattle.std.proofs.Common.{◌≡◌, List, Some, length, sym, ap, subst, arith}
use Rattle.hy_value.specs.declared.Kind.{Kind}
use Rattle.hy_chunk.specs.Sound.{most_texts}
use Rattle.hy_chunk.specs.Views.{Whole, with_places}
use Rattle.hy_measured.specs.Ready.{IsReady}
use Rattle.hy_measured.proofs.Wholes.{after_reserve, sets_ready, after_write_call}
use Rattle.hy_measured.proofs.ready.Ready.write.Goals as goal

pub write-count-requires-clause-wide : goal.write-count-requires-clause-wide
write-count-requires-clause-wide c =
    let reserved : c.reserve-2.new.self ≡ with_places c.self.inside.chunk c.self.inside.chunk.shown.places c.reserve-2.new.self.room =
    subst (λ (w : Whole). c.reserve-2.new.self ≡ with_places w w.shown.places c.reserve-2.new.self.room) c.find_candidates.ensures.all c.reserve-2.ensures.all in
    let ready = after_reserve c.self.inside.positions c.self.inside.next c.self.inside.chunk c.reserve-2.new.self c.self.invariant reserved in
    omega (arith, ap (λ (kinds : List Kind). length kinds) ready.kinds, c.in_ok-reserve.ensures.width)

pub write-count-requires-clause-long : goal.write-count-requires-clause-long
write-count-requires-clause-long c =
    let reserved : c.reserve-2.new.self ≡ with_places c.self.inside.chunk c.self.inside.chunk.shown.places c.reserve-2.new.self.room =
    subst (λ (w : Whole). c.reserve-2.new.self ≡ with_places w w.shown.places c.reserve-2.new.self.room) c.find_candidates.ensures.all c.reserve-2.ensures.all in
    let ready = after_reserve c.self.inside.positions c.self.inside.next c.self.inside.chunk c.reserve-2.new.self c.self.invariant reserved in
    omega (arith, ap most_texts ready.kinds)

pub write-count-requires-clause-fits : goal.write-count-requires-clause-fits
write-count-requires-clause-fits c =
    let reserved : c.reserve-2.new.self ≡ with_places c.self.inside.chunk c.self.inside.chunk.shown.places c.reserve-2.new.self.room =
    subst (λ (w : Whole). c.reserve-2.new.self ≡ with_places w w.shown.places c.reserve-2.new.self.room) c.find_candidates.ensures.all c.reserve-2.ensures.all in
    let ready = after_reserve c.self.inside.positions c.self.inside.next c.self.inside.chunk c.reserve-2.new.self c.self.invariant reserved in
    sets_ready c.self.inside.positions c.self.inside.next c.reserve-2.new.self ready c.in_ok-sets.sets c.in_ok-sets.ensures

pub invariant_of-self : goal.invariant_of-self
invariant_of-self c = subst (IsReady c.self.inside.positions c.self.inside.next) (sym c.find_candidates.ensures.all) c.self.invariant

pub invariant_of-self-in_err-reserve : goal.invariant_of-self-in_err-reserve
invariant_of-self-in_err-reserve c = subst (IsReady c.self.inside.positions c.self.inside.next) (sym c.find_candidates.ensures.all) c.self.invariant

pub invariant_of-self-in_err-reserve-2 : goal.invariant_of-self-in_err-reserve-2
invariant_of-self-in_err-reserve-2 c =
    let reserved : c.reserve-2.new.self ≡ with_places c.self.inside.chunk c.self.inside.chunk.shown.places c.reserve-2.new.self.room =
    subst (λ (w : Whole). c.reserve-2.new.self ≡ with_places w w.shown.places c.reserve-2.new.self.room) c.find_candidates.ensures.all c.reserve-2.ensures.all in
    after_reserve c.self.inside.positions c.self.inside.next c.self.inside.chunk c.reserve-2.new.self c.self.invariant reserved

pub invariant_of-self-2 : goal.invariant_of-self-2
invariant_of-self-2 c =
    let reserved : c.reserve-2.new.self ≡ with_places c.self.inside.chunk c.self.inside.chunk.shown.places c.reserve-2.new.self.room =
    subst (λ (w : Whole). c.reserve-2.new.self ≡ with_places w w.shown.places c.reserve-2.new.self.room) c.find_candidates.ensures.all c.reserve-2.ensures.all in
    after_write_call c.self.inside.positions _ c.write-count.result (Some c.in_ok-sets.sets) c.args.pred.now c.args.writer.now.viewer c.args.writer.now.label
    c.reserve-2.new.self.shown.table c.reserve-2.new.self.shown.first c.self.inside.next c.self.inside.chunk c.reserve-2.new.self c.write-count.new.self
    c.reserve.new.self.notes c.write-count.new.changes.notes c.in_ok-check_times.ensures.start c.in_ok-check_times.ensures.id c.self.invariant
    reserved c.write-count.ensures.all c.write-count.ensures.done c.write-count.ensures.kept
