use Rattle.std.proofs.Common.{◌≡◌, refl, sym, subst, IfOk, OnErr}
use Rattle.hy_threads.specs.Knowledge.{holding, refused, settled}
use Rattle.hy_threads.specs.Visits.{Visits}
use Rattle.hy_threads.proofs.GivenBack.{may_be_given}
use Rattle.hy_threads.proofs.worker.Worker.visit_at.Goals as goal

pub give-requires-clause-held : goal.give-requires-clause-held
give-requires-clause-held g c κs within =
    let ready = c.self.invariant in let o = ready.0 in let k = c.args.point.part in
    let taken = c.take-part.ensures.taken o ready.1 in let p = c.take-part.result in
    let visit = c.visit-visited in let t = visit.new.session in let q = visit.new.part in
    let same : c.self.inside.session ≡ o.session = sym ready.2 in (
      holding (refused o k taken.0) k p,
      p,
      taken.1,
      refl,
      may_be_given (g.P.Parted.event k) g.P.Worked.is_blocked visit.result o.session p t q
          (subst (λ s. IfOk visit.result (λ v. Visits (g.P.Parted.event k) g.P.Worked.is_blocked v s p t q)) same visit.ensures.visited)
          (subst (λ s. OnErr visit.result ((t ≡ s) × (q ≡ p))) same visit.ensures.err),
    )

pub invariant_of-self : goal.invariant_of-self
invariant_of-self g c =
    let ready = c.self.invariant in let o = ready.0 in let k = c.args.point.part in
    let taken = c.take-part.ensures.taken o ready.1 in let p = c.take-part.result in
    (settled (holding (refused o k taken.0) k p) c.visit-visited.new.session, c.give.ensures.given (holding (refused o k taken.0) k p) taken.1, refl, refl)

pub invariant_of-self-else-not-is_blocked : goal.invariant_of-self-else-not-is_blocked
invariant_of-self-else-not-is_blocked g c =
    let ready = c.self.invariant in let o = ready.0 in let k = c.args.point.part in
    let taken = c.take-part.ensures.taken o ready.1 in let p = c.take-part.result in
    (settled (holding (refused o k taken.0) k p) c.visit-visited.new.session, c.give.ensures.given (holding (refused o k taken.0) k p) taken.1, refl, refl)
