use Rattle.hy_render.proofs.Telling.{text_tells}
use Rattle.hy_render.proofs.laws.text_tells_the_outcome.Goals as goal

pub returns : goal.returns
returns c = text_tells
