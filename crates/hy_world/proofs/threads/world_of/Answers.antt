use Rattle.hy_world.proofs.SharedWorlds.{shared_parts, world_back, shows_back}
use Rattle.hy_world.proofs.threads.world_of.Goals as goal

pub unshare-requires : goal.unshare-requires
unshare-requires g c = shared_parts g.K.Case.setting g.K.Case.kinds c.args.parts.items c.args.sessions.items c.requires.shared

pub invariant_of-result : goal.invariant_of-result
invariant_of-result g c =
    world_back g.K.Case.setting g.K.Case.kinds c.args.parts.items c.args.sessions.items c.args.shapes c.len-tables.result c.args.per_table
    c.in_ok-chunks.chunks.items c.in_ok-chunks.core c.requires.shared c.in_ok-chunks.ensures c.requires.shapes c.requires.per_table c.len-tables.ensures

pub returns-clause-shows : goal.returns-clause-shows
returns-clause-shows g c =
    shows_back g.K.Case.setting g.K.Case.kinds c.args.parts.items c.args.sessions.items c.args.shapes c.len-tables.result c.args.per_table
    c.in_ok-chunks.chunks.items c.in_ok-chunks.core c.requires.shared c.in_ok-chunks.ensures c.requires.shapes c.requires.per_table c.len-tables.ensures
