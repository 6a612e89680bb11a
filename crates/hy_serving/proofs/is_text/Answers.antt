use Rattle.std.proofs.Common.{◌∙◌}
use Rattle.hy_serving.proofs.Utf8.{read_is_text}
use Rattle.hy_serving.proofs.is_text.Goals as goal

pub returns : goal.returns
returns c = c.is_ok.ensures.value ∙ read_is_text c.args.bytes.now c.from_utf8.result _ _ c.from_utf8.ensures.cases
