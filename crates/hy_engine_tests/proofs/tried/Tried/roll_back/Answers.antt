use Rattle.hy_engine_tests.proofs.Wholes.{after_undo}
use Rattle.hy_engine_tests.proofs.tried.Tried.roll_back.Goals as goal

pub invariant_of-self : goal.invariant_of-self
invariant_of-self c = after_undo c.args.open.now.viewer.id c.self.inside.next c.self.inside.chunk c.undo.new.self c.self.invariant c.undo.ensures.all
    c.undo.ensures.places
