-- That the text of an outcome tells it.
use Rattle.std.specs.Prelude.{◌≡◌}
use Rattle.hy_render.specs.declared.Names.{Names}
use Rattle.hy_render.specs.declared.Outcome.{Outcome}
use Rattle.hy_render.specs.Named.{AreTelling, IsNamed}
use Rattle.hy_render.specs.Report.{text}

-- outcomes with one text are the same
abbrev pub TextTells : Type 0
TextTells = (names : Names) (one other : Outcome) → AreTelling names → IsNamed names one → IsNamed names other → text names one ≡ text names other → one ≡ other
