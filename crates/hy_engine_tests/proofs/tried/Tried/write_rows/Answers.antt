use Rattle.std.proofs.Common.{◌≡◌, List, length, sym, ap, subst, arith}
use Rattle.hy_value.specs.declared.Kind.{Kind}
use Rattle.hy_chunk.specs.Sound.{most_texts}
use Rattle.hy_chunk.specs.Views.{Whole, with_places}
use Rattle.hy_chunk.specs.Writes.{sets_of}
use Rattle.hy_engine_tests.specs.Ready.{IsReady}
use Rattle.hy_engine_tests.proofs.Wholes.{after_reserve, write_ready, after_write_call}
use Rattle.hy_engine_tests.proofs.tried.Tried.write_rows.Goals as goal

pub write-requires-clause-wide : goal.write-requires-clause-wide
write-requires-clause-wide c =
    let reserved : c.reserve.new.self ≡ with_places c.self.inside.chunk c.self.inside.chunk.shown.places c.reserve.new.self.room =
    subst (λ (w : Whole). c.reserve.new.self ≡ with_places w w.shown.places c.reserve.new.self.room) c.find_candidates.ensures.all c.reserve.ensures.all in
    let ready = after_reserve c.self.inside.next c.self.inside.chunk c.reserve.new.self c.self.invariant reserved in
    omega (arith, ap (λ (kinds : List Kind). length kinds) ready.kinds, c.in_ok-changes.ensures.width)

pub write-requires-clause-long : goal.write-requires-clause-long
write-requires-clause-long c =
    let reserved : c.reserve.new.self ≡ with_places c.self.inside.chunk c.self.inside.chunk.shown.places c.reserve.new.self.room =
    subst (λ (w : Whole). c.reserve.new.self ≡ with_places w w.shown.places c.reserve.new.self.room) c.find_candidates.ensures.all c.reserve.ensures.all in
    let ready = after_reserve c.self.inside.next c.self.inside.chunk c.reserve.new.self c.self.invariant reserved in
    omega (arith, ap most_texts ready.kinds)

pub write-requires-clause-fits : goal.write-requires-clause-fits
write-requires-clause-fits c =
    let reserved : c.reserve.new.self ≡ with_places c.self.inside.chunk c.self.inside.chunk.shown.places c.reserve.new.self.room =
    subst (λ (w : Whole). c.reserve.new.self ≡ with_places w w.shown.places c.reserve.new.self.room) c.find_candidates.ensures.all c.reserve.ensures.all in
    let ready = after_reserve c.self.inside.next c.self.inside.chunk c.reserve.new.self c.self.invariant reserved in
    write_ready c.self.inside.next c.reserve.new.self ready c.args.kind c.requires

pub invariant_of-self : goal.invariant_of-self
invariant_of-self c = subst (IsReady c.self.inside.next) (sym c.find_candidates.ensures.all) c.self.invariant

pub invariant_of-self-in_err-changes : goal.invariant_of-self-in_err-changes
invariant_of-self-in_err-changes c = subst (IsReady c.self.inside.next) (sym c.find_candidates.ensures.all) c.self.invariant

pub invariant_of-self-in_err-reserve : goal.invariant_of-self-in_err-reserve
invariant_of-self-in_err-reserve c =
    let reserved : c.reserve.new.self ≡ with_places c.self.inside.chunk c.self.inside.chunk.shown.places c.reserve.new.self.room =
    subst (λ (w : Whole). c.reserve.new.self ≡ with_places w w.shown.places c.reserve.new.self.room) c.find_candidates.ensures.all c.reserve.ensures.all in
    after_reserve c.self.inside.next c.self.inside.chunk c.reserve.new.self c.self.invariant reserved

pub invariant_of-self-2 : goal.invariant_of-self-2
invariant_of-self-2 c =
    let reserved : c.reserve.new.self ≡ with_places c.self.inside.chunk c.self.inside.chunk.shown.places c.reserve.new.self.room =
    subst (λ (w : Whole). c.reserve.new.self ≡ with_places w w.shown.places c.reserve.new.self.room) c.find_candidates.ensures.all c.reserve.ensures.all in
    after_write_call _ c.write.result (sets_of c.args.kind) c.args.pred.now c.args.open.now.viewer c.args.open.now.label
    c.reserve.new.self.shown.table c.reserve.new.self.shown.first c.self.inside.next c.self.inside.chunk c.reserve.new.self c.write.new.self
    c.in_ok-changes.changes.notes c.write.new.changes.notes c.in_ok-check_times.ensures.start c.in_ok-check_times.ensures.id c.self.invariant
    reserved c.write.ensures.all c.write.ensures.done c.write.ensures.kept
