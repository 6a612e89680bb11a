use Rattle.std.proofs.Common.{◌∙◌, ap, option_and_then}
use Rattle.std.specs.Str.Parse.{ExplainsUnsignedError, HasUnsignedDigitsIfOk, ParsesUnsigned}
use Rattle.clap.specs.Words.{found_of}
use Rattle.clap.proofs.WalkLemmas.{one_text-rows}
use Rattle.hy_words.specs.Words.{number_of}
use Rattle.hy_words.proofs.Readings.{number_read, read_at}
use Rattle.hy_words.proofs.number.Goals as goal

pub returns : goal.returns
returns c =
    read_at number_of _ c.get_one.result c.get_one.ensures.none
    (λ t is. number_read _
    (λ u r. ParsesUnsigned 32 10 u r × ExplainsUnsignedError 10 u r × HasUnsignedDigitsIfOk u r)
    t c.get_one.result (λ x g. g.0) (c.get_one.ensures.value t is))
    ∙ ap (option_and_then number_of) (one_text-rows (found_of c.args.given.now) c.args.name.now)
