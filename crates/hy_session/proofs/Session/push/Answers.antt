use Rattle.std.proofs.Common.{◌≡◌, ◌≤◌, length, ◌∙◌, sym, subst}
use Rattle.hy_event.specs.declared.SessionData.{SessionData}
use Rattle.hy_event.specs.Lines.{grown}
use Rattle.hy_limits.specs.declared.TheConstants.{MOST_TXNS}
use Rattle.hy_session.proofs.GrownScripts.{limited_after, of_list, of_list_err}
use Rattle.hy_session.proofs.Session.push.Goals as goal

pub invariant_of-self : goal.invariant_of-self
invariant_of-self c =
    let s = c.self.inside in
    let was = c.into_vec-txns.result.items in
    let made = c.grow-grew.new.txns.items in
    let after = c.from_vec.result in
    let is : was ≡ s.program = c.into_vec-txns.ensures ∙ c.replace.ensures.value in
    let same : after ≡ made = c.from_vec.ensures in
    let room : length (grown c.args.line s.program) ≤ MOST_TXNS =
    subst (λ (session : SessionData). length (grown c.args.line session.program) ≤ MOST_TXNS) (sym c.self.view_is) c.requires.room in (
      limited_after c.grow-grew.result s.chunks s.shapes s.program after (length s.done.items) s.spare.notes s.spare.levels s.prepared c.args.line
          c.self.invariant.0 room (of_list c.grow-grew.result s.program was made after c.args.line is same c.grow-grew.ensures.ok)
          (of_list_err c.grow-grew.result s.program was made after is same c.grow-grew.ensures.err),
      c.self.invariant.1,
      c.self.invariant.2,
    )
