use Rattle.std.proofs.Common.{ℕ, sym, subst, ◌∙◌}
use Rattle.hy_engine_tests.proofs.Wholes.{after_stamp}
use Rattle.hy_engine_tests.specs.Ready.{IsReady}
use Rattle.hy_engine_tests.proofs.tried.Tried.commit.Goals as goal

pub invariant_of-self : goal.invariant_of-self
invariant_of-self c =
    after_stamp c.args.open.now.viewer.id c.in_ok-time.time c.self.inside.chunk c.stamp.new.self
    (subst (λ (next : ℕ). IsReady next c.self.inside.chunk) (c.self.view_is ∙ sym c.in_ok-time.ensures.time) c.self.invariant) c.stamp.ensures.all
    c.stamp.ensures.places
