use Rattle.std.proofs.Common.{◌≡◌, length, ap, ◌∙◌, arith}
use Rattle.std.proofs.lemmas.List.{length-set}
use Rattle.hy_chunk.specs.Fields.{nth}
use Rattle.hy_chunk.specs.Steps.{loaded_place}
use Rattle.hy_chunk.specs.Views.{Whole}
use Rattle.hy_engine_tests.proofs.Wholes.{after_load, pair_ready, unused_behind}
use Rattle.hy_engine_tests.proofs.tried.load_rows.Goals as goal

pub load_at-requires-clause-within : goal.load_at-requires-clause-within
load_at-requires-clause-within c = omega (arith, c.loop-place-test.true, c.loop-place.invariant.many, c.requires.few)

pub load_at-requires-clause-unused : goal.load_at-requires-clause-unused
load_at-requires-clause-unused c = c.loop-place.invariant.unused c.loop-place.place (omega arith)

pub load_at-requires-clause-fits : goal.load_at-requires-clause-fits
load_at-requires-clause-fits c = pair_ready 1 c.loop-place.chunk c.loop-place.invariant.ready _ _ c.in_ok-row.row c.in_ok-row.ensures

pub loop-place-preserved : goal.loop-place-preserved
loop-place-preserved c =
    let old = c.loop-place.chunk in
    let new = c.load_at.new.self in
    let k = c.loop-place.place in
    let row = c.in_ok-row.row in
    let p = loaded_place row (nth old.shown.places k) in
    record {
      ready = after_load 1 row k old new c.loop-place.invariant.ready c.load_at.ensures.all;
      many = ap (λ (w : Whole). length w.shown.places) c.load_at.ensures.all ∙ (length-set old.shown.places k p ∙ c.loop-place.invariant.many);
      unused = unused_behind k old new p c.loop-place.invariant.unused c.load_at.ensures.all;
    }
