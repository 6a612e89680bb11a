use Rattle.std.proofs.Common.{ap, sym, subst, ◌∙◌}
use Rattle.std.specs.Prelude.{position, ◌==◌, Contains}
use Rattle.hy_prune.specs.OpenStarts.{OpenStarts, Rise, without}
use Rattle.hy_prune.proofs.Leaving.{removed, rise_without, has_place}
use Rattle.hy_prune.proofs.active.Active.leave.Goals as goal

pub invariant_of-self : goal.invariant_of-self
invariant_of-self c =
    let out = c.remove-left.ensures.items ∙ removed c.args.start c.self.inside.starts.items c.in-Some.index
    (ap (position (λ other. other == c.args.start)) (sym c.as_slice.ensures.value) ∙ (sym c.index_of.ensures ∙ c.in-Some.is)) in
    subst Rise (sym out) (rise_without c.args.start c.self.inside.starts.items c.self.invariant)

pub returns-in-Some-clause-starts : goal.returns-in-Some-clause-starts
returns-in-Some-clause-starts c =
    c.remove-left.ensures.items
    ∙ (removed c.args.start c.self.inside.starts.items c.in-Some.index
    (ap (position (λ other. other == c.args.start)) (sym c.as_slice.ensures.value) ∙ (sym c.index_of.ensures ∙ c.in-Some.is))
    ∙ ap (λ (a : OpenStarts). without c.args.start a.starts) c.self.view_is)

pub returns-in_default : goal.returns-in_default
returns-in_default c =
    let there = has_place c.args.start c.self.inside.starts.items (subst (λ (a : OpenStarts). Contains a.starts c.args.start) (sym c.self.view_is) c.requires) in
    absurd (c.in_default.not-Some _ (c.index_of.ensures ∙ (ap (position (λ other. other == c.args.start)) c.as_slice.ensures.value ∙ there)))
