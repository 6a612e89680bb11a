use Rattle.std.proofs.Common.{sym, ◌∙◌, rules, tests}
use Rattle.std.proofs.lemmas.Iterator.{YieldsList-from_slice}
use Rattle.std.proofs.lemmas.Iterator.Search.{any_from_yields_List}
use Rattle.hy_script.specs.Refusals.{is_unknown_in}
use Rattle.hy_script.proofs.Turns.{unknown_listed}
use Rattle.hy_script.proofs.sofar.schedule.any_unknown.Goals as goal

pub returns : goal.returns
returns c =
    let script = c.args.script.now in
    let names = c.args.names.now in
    any_from_yields_List (is_unknown_in script names) _ _ c.any.result c.any.ensures.ran (YieldsList-from_slice c.args.turns.now cc) (λ x b q k. search (rules, tests))
    ∙ sym (unknown_listed script names c.args.turns.now)
