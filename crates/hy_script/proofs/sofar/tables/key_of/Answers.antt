use Rattle.std.specs.List.{position}
use Rattle.std.proofs.Common.{◌≡◌, rules, tests, sym, ◌∙◌}
use Rattle.std.proofs.lemmas.Iterator.{YieldsList-from_slice}
use Rattle.std.proofs.lemmas.Iterator.Search.{position_from_yields_List}
use Rattle.hy_script.specs.Refusals.{is_key}
use Rattle.hy_script.proofs.Tables.{first_key}
use Rattle.hy_script.proofs.sofar.tables.key_of.Goals as goal

pub returns-in_err-ordinal : goal.returns-in_err-ordinal
returns-in_err-ordinal c =
    let found : c.position.result ≡ position is_key c.args.columns.now = position_from_yields_List is_key _ _ _ c.position.ensures.ran (YieldsList-from_slice c.args.columns.now cc) (λ x b q k. search (rules, tests)) in
    c.from_residual.ensures ∙ sym c.in_err-ordinal.was ∙ found ∙ sym (first_key c.args.columns.now)

pub returns : goal.returns
returns c =
    let found : c.position.result ≡ position is_key c.args.columns.now = position_from_yields_List is_key _ _ _ c.position.ensures.ran (YieldsList-from_slice c.args.columns.now cc) (λ x b q k. search (rules, tests)) in
    sym c.in_ok-ordinal.was ∙ found ∙ sym (first_key c.args.columns.now)
