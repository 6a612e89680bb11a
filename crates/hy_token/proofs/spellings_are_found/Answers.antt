use Rattle.hy_token.specs.Spellings.{word_found, sign_found}
use Rattle.hy_token.proofs.spellings_are_found.Goals as goal

pub returns : goal.returns
returns c = record { keywords = word_found; signs = sign_found }
