use Rattle.std.proofs.Common.{◌∙◌, ap, option_and_then}
use Rattle.clap.specs.Words.{found_of}
use Rattle.clap.proofs.WalkLemmas.{one_text-rows}
use Rattle.hy_words.specs.Words.{truth_of}
use Rattle.hy_words.proofs.Readings.{read_at, truth_read}
use Rattle.hy_words.proofs.truth.Goals as goal

pub returns : goal.returns
returns c =
    read_at truth_of _ c.get_one.result c.get_one.ensures.none (λ t is. truth_read _ t c.get_one.result (c.get_one.ensures.value t is))
    ∙ ap (option_and_then truth_of) (one_text-rows (found_of c.args.given.now) c.args.name.now)
