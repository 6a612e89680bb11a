use Rattle.std.proofs.Common.{sym, subst}
use Rattle.std.specs.Prelude.{All, ◌<◌, is_ok}
use Rattle.hy_prune.specs.OpenStarts.{OpenStarts, Rise}
use Rattle.hy_prune.proofs.Leaving.{rise_either}
use Rattle.hy_prune.proofs.active.Active.enter_reserved.Goals as goal

pub invariant_of-self : goal.invariant_of-self
invariant_of-self c =
    subst Rise (sym c.push-entered.ensures.items)
    (rise_either (is_ok c.push-entered.result) c.self.inside.starts.items c.args.start c.self.invariant
    (subst (λ (a : OpenStarts). All (λ other. other < c.args.start) a.starts) (sym c.self.view_is) c.requires.latest))
