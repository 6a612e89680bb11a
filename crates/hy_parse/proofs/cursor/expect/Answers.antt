use Rattle.std.proofs.Common.{sym, ◌∙◌}
use Rattle.std.proofs.lemmas.Result.{err_from_is_err_and}
use Rattle.hy_token.specs.declared.Token.TheVariants.{Reserved}
use Rattle.hy_token.specs.declared.Keyword.TheVariants.{And}
use Rattle.hy_parse.proofs.Loops.{after_next, after_done, halted, went_on}
use Rattle.hy_parse.proofs.cursor.expect.Goals as goal

pub returns-in_err-behind : goal.returns-in_err-behind
returns-in_err-behind c =
    let p = err_from_is_err_and c.from_residual.result c.from_residual.ensures.1 in
    rw (p.1, p.2) (halted c.in_err-behind.field-0.0 _ _ _ c.in_err-behind.ensures (sym (after_next c.args.tokens.now c.loop-token.token-index (Reserved And) c.loop-token.rest.now c.loop-token-test.true) ∙ c.loop-token.invariant))

pub loop-token-preserved : goal.loop-token-preserved
loop-token-preserved c = went_on _ _ _ _ c.in_ok-behind.behind.now c.in_ok-behind.ensures (sym (after_next c.args.tokens.now c.loop-token.token-index (Reserved And) c.loop-token.rest.now c.loop-token-test.true) ∙ c.loop-token.invariant)

pub returns : goal.returns
returns c = sym (sym (after_done c.args.tokens.now c.loop-token.token-index c.loop-token.rest.now c.loop-token-test.false) ∙ c.loop-token.invariant)
