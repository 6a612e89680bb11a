use Rattle.std.proofs.Common.{List, sym, ◌∙◌, subst}
use Rattle.hy_value.specs.declared.Kind.{Kind}
use Rattle.hy_chunk.specs.Sound.{FitsRow}
use Rattle.hy_measured.proofs.Fits.{second_column}
use Rattle.hy_measured.proofs.Wholes.{same_ready}
use Rattle.hy_measured.proofs.ready.Ready.balances.Goals as goal

pub gather-requires : goal.gather-requires
gather-requires c = λ row fits.
    second_column row (subst (λ (kinds : List Kind). FitsRow kinds row) c.self.invariant.kinds fits) ∙ sym c.requires

pub invariant_of-self : goal.invariant_of-self
invariant_of-self c = same_ready c.self.inside.positions c.self.inside.next c.self.inside.chunk c.gather.new.self c.self.invariant c.gather.ensures.all
