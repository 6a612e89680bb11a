use Rattle.std.proofs.Common.{ap, sym, subst, ◌∙◌, List, ℕ}
use Rattle.hy_core.specs.Sound.{AreGiven}
use Rattle.hy_core.proofs.Opens.{left_as_it_was}
use Rattle.hy_core.proofs.Core.begin.Goals as goal

pub invariant_of-self-in-Err : goal.invariant_of-self-in-Err
invariant_of-self-in-Err c =
    subst (AreGiven c.self.inside.clock) (sym (left_as_it_was c.self.inside.clock c.next-start.result c.self.inside.active.starts
    c.reserve.new.self.starts c.enter_reserved.new.self.starts c.leave.new.self.starts c.self.invariant
    c.next-start.ensures c.reserve.ensures.starts c.enter_reserved.ensures.starts c.leave.ensures.starts)) c.self.invariant

pub returns-in-Err-clause-err : goal.returns-in-Err-clause-err
returns-in-Err-clause-err c =
    ap (λ (starts : List ℕ). record { next = c.self.inside.clock; active = starts; entries = c.self.inside.journal.entries; mark = c.self.inside.mark })
    (left_as_it_was c.self.inside.clock c.next-start.result c.self.inside.active.starts
    c.reserve.new.self.starts c.enter_reserved.new.self.starts c.leave.new.self.starts c.self.invariant
    c.next-start.ensures c.reserve.ensures.starts c.enter_reserved.ensures.starts c.leave.ensures.starts) ∙ c.self.view_is
