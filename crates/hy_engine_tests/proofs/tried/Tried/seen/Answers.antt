use Rattle.std.proofs.Common.{List, sym, ap, ◌∙◌, subst}
use Rattle.hy_value.specs.declared.Kind.{Kind}
use Rattle.hy_plan.specs.Cells.{GatheredRows}
use Rattle.hy_chunk.specs.Sound.{FitsRow}
use Rattle.hy_engine_tests.proofs.Fits.{both_columns}
use Rattle.hy_engine_tests.proofs.Wholes.{same_ready}
use Rattle.hy_engine_tests.proofs.tried.Tried.seen.Goals as goal

pub gather-requires : goal.gather-requires
gather-requires c = λ row fits.
    both_columns row (subst (λ (kinds : List Kind). FitsRow kinds row) c.self.invariant.kinds fits)
    ∙ sym (ap (λ (g : GatheredRows). g.width) c.in_ok-gathered.ensures)

pub invariant_of-self : goal.invariant_of-self
invariant_of-self c = same_ready c.self.inside.next c.self.inside.chunk c.gather-2.new.self c.self.invariant c.gather-2.ensures.all

pub numbers-requires : goal.numbers-requires
numbers-requires c = c.gather-2.ensures.width ∙ ap (λ (g : GatheredRows). g.width) c.in_ok-gathered.ensures

pub invariant_of-self-2 : goal.invariant_of-self-2
invariant_of-self-2 c = same_ready c.self.inside.next c.self.inside.chunk c.gather-2.new.self c.self.invariant c.gather-2.ensures.all
