use Rattle.std.proofs.Common.{ap, ◌∙◌, arith}
use Rattle.hy_undo.specs.Stock.{blank}
use Rattle.hy_chunk.proofs.TextPlaces.{still_ready}
use Rattle.hy_chunk.proofs.positions.take_spare.Goals as goal

pub returns-clause-image : goal.returns-clause-image
returns-clause-image c kinds ready = c.take.ensures.image ∙ ap blank ready.columns

pub returns-clause-ready : goal.returns-clause-ready
returns-clause-ready c kinds ready = still_ready kinds c.args.spare.now c.take.new.self c.take.ensures.same.0 c.take.ensures.same.1 ready

pub returns-clause-free : goal.returns-clause-free
returns-clause-free c kinds ready = let texts = ready.texts in let free = c.take.ensures.free in omega (arith, texts, free)
