use Rattle.hy_chunk.proofs.TextPlaces.{still_ready}
use Rattle.hy_chunk.proofs.positions.add_images.Goals as goal

pub returns-clause-ready : goal.returns-clause-ready
returns-clause-ready c kinds ready = still_ready kinds c.args.spare.now c.reserve.new.self c.reserve.ensures.same.0 c.reserve.ensures.same.1 ready
