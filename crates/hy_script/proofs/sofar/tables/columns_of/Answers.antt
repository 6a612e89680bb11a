use Rattle.std.proofs.Common.{rules}
use Rattle.std.proofs.lemmas.Iterator.{YieldsList-from_slice, YieldsList-from_map, items_from_collect}
use Rattle.hy_script.specs.Growing.{column_def}
use Rattle.hy_script.proofs.sofar.tables.columns_of.Goals as goal

pub returns : goal.returns
returns c = items_from_collect _ c.collect.ensures.ran (YieldsList-from_map _ (column_def c.args.script.now) (YieldsList-from_slice c.args.columns.now cc) c.map.ensures.closure (λ x r q k. search rules))
