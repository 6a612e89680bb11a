use Rattle.std.proofs.Common.{◌≡◌, List, length, subst}
use Rattle.hy_value.specs.declared.Value.{Value}
use Rattle.hy_chunk.specs.Views.{with_places}
use Rattle.hy_world.proofs.LaidChunks.{next_there, next_unused, loaded_whole, with_row}
use Rattle.hy_world.proofs.opening.load_rows.Goals as goal

pub load_at-requires-clause-within : goal.load_at-requires-clause-within
load_at-requires-clause-within c =
    next_there c.args.chunk.now c.loop-place.chunk (length c.args.chunk.now.shown.places) c.loop-place.place c.args.rows.now c.loop-place-test.true
    c.requires.few c.loop-place.invariant

pub load_at-requires-clause-unused : goal.load_at-requires-clause-unused
load_at-requires-clause-unused c =
    next_unused c.args.chunk.now c.loop-place.chunk (length c.args.chunk.now.shown.places) c.loop-place.place c.args.rows.now c.loop-place-test.true
    c.requires.few c.loop-place.invariant

pub loop-place-preserved : goal.loop-place-preserved
loop-place-preserved c =
    loaded_whole c.args.chunk.now c.loop-place.chunk c.load_at.new.self (length c.args.chunk.now.shown.places) c.loop-place.place c.args.rows.now
    c.index-rows-place.result c.loop-place-test.true c.requires.few c.index-rows-place.is c.loop-place.invariant
    (subst (λ (row : List Value). c.load_at.new.self ≡ with_places c.loop-place.chunk (with_row c.loop-place.chunk.shown.places c.loop-place.place row) c.load_at.new.self.room)
    c.in_ok-values.ensures c.load_at.ensures.all)
