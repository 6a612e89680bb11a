use Rattle.std.proofs.Common.{◌+◌, ap, ◌∙◌}
use Rattle.hy_token.specs.Token.{lexed}
use Rattle.hy_token.proofs.Progress.{lexed-moved_on}
use Rattle.hy_token.proofs.tokens_are_local.Goals as goal

pub returns : goal.returns
returns c = record {
  same = λ xs ys at rest. ap (lexed at) rest;
  shifted = λ xs ys k at rest. ap (lexed (k + at)) rest ∙ lexed-moved_on k at _;
}
