use Rattle.std.proofs.Common.{length, ap, sym, ◌∙◌}
use Rattle.hy_plan.proofs.Cells.{length-rows_of}
use Rattle.hy_plan.proofs.gathered.Gathered.len.Goals as goal

pub returns : goal.returns
returns c = sym (length-rows_of c.self.inside.len c.self.inside.columns.items) ∙ ap (λ gathered. length gathered.rows) c.self.view_is
