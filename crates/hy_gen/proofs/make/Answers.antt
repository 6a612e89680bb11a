use Rattle.hy_gen.proofs.Steps.{made_by_parts}
use Rattle.hy_gen.proofs.make.Goals as goal

pub returns : goal.returns
returns c =
    made_by_parts c.args.seed c.args.sessions c.args.txns c.new-draws.result.state _ _ _ _
    c.in_ok-catalog.ensures c.in_ok-rows.ensures c.in_ok-sessions.ensures c.new-draws.ensures c.new.ensures
