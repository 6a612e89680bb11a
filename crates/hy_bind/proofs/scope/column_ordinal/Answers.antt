use Rattle.std.proofs.Common.{sym, ◌∙◌, rules, tests}
use Rattle.std.specs.Str.{bytes_eq}
use Rattle.std.proofs.lemmas.Iterator.{YieldsList-from_slice}
use Rattle.std.proofs.lemmas.Iterator.Search.{position_from_yields_List}
use Rattle.hy_bind.proofs.Ordinals.{ordinal_of_column}
use Rattle.hy_bind.proofs.scope.column_ordinal.Goals as goal

pub returns : goal.returns
returns c =
    position_from_yields_List (λ column. bytes_eq c.args.name.now column.name) _ _ c.position.result c.position.ensures.ran (YieldsList-from_slice c.args.columns.now cc) (λ x b q k. search (rules, tests))
    ∙ sym (ordinal_of_column c.args.columns.now c.args.name.now)
