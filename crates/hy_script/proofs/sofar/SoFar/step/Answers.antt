use Rattle.std.proofs.Common.{◌≡◌, Ok, ◌∙◌}
use Rattle.hy_token.specs.Token.{token_at}
use Rattle.hy_token.specs.declared.Token.TheVariants.{Reserved}
use Rattle.hy_script.proofs.Spaces.{found_again}
use Rattle.hy_script.proofs.sofar.SoFar.step.Goals as goal

pub statement_at-requires-clause-found : goal.statement_at-requires-clause-found
statement_at-requires-clause-found c =
    let seen = c.in-Ok-Reserved-default in
    let found : token_at c.args.input.now.script.now c.args.at ≡ Ok (Reserved seen.word, seen.span) = cc in
    found_again c.args.input.now.script.now c.args.at (Reserved seen.word) seen.span found ∙ found
