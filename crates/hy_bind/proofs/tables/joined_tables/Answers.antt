use Rattle.std.proofs.Common.{Some, rules}
use Rattle.std.proofs.lemmas.Iterator.{YieldsList-from_slice, YieldsList-from_map, items_from_collect}
use Rattle.std.proofs.lemmas.Iterator.Adapters.{YieldsList-from_once}
use Rattle.std.proofs.lemmas.Iterator.Consumers.{YieldsList-at, YieldsList-from_chain}
use Rattle.hy_bind.proofs.tables.joined_tables.Goals as goal

pub returns : goal.returns
returns c =
    items_from_collect _ c.collect.ensures.ran
    (YieldsList-from_chain (YieldsList-from_once (Some c.args.table) (cc))
    (YieldsList-at c.chain.ensures.second (YieldsList-from_map _ (λ join. join.table) (YieldsList-from_slice c.args.joins.now (cc)) c.map-joined.ensures.closure (λ x r q k. search rules)))
    (cc) (cc))
