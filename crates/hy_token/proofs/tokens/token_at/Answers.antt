use Rattle.std.proofs.Common.{sym, ◌∙◌, arith}
use Rattle.std.proofs.lemmas.Grind.{common_steps}
use Rattle.hy_token.proofs.Progress.{found_within}
use Rattle.hy_token.proofs.tokens.token_at.Goals as goal

-- the token ends within the script
pub overflow_add-result : goal.overflow_add-result
overflow_add-result c =
    let within = found_within _ (c.in-Some.token, c.in-Some.len) (sym c.first_token.ensures ∙ c.in-Some.is) in
    grind (arith, common_steps, within)
