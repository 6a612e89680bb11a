use Rattle.std.proofs.Common.{◌≡◌, List, ap, ◌∙◌}
use Rattle.std.proofs.lemmas.Result.{on_ok_weaker}
use Rattle.hy_bound.specs.declared.Grouped.{Grouped}
use Rattle.hy_gathered.specs.Groups.{groups_by}
use Rattle.hy_gathered.specs.Tally.{Tallied, groups_in, merged}
use Rattle.hy_gathered.proofs.Merged.{groups_merged}
use Rattle.hy_gathered.proofs.tally.Tally.merge.Goals as goal

pub returns-clause-groups : goal.returns-clause-groups
returns-clause-groups c =
    let mine : groups_in c.self.inside.totals.entries ≡ c.args.self.now.groups = ap (λ (t : Tallied). t.groups) c.self.view_is in
    let theirs : groups_in c.other.inside.totals.entries ≡ c.args.other.now.groups = ap (λ (t : Tallied). t.groups) c.other.view_is in
    λ grouping rows others one two.
    on_ok_weaker c.add_all.result (λ is.
    is
    ∙ (ap (λ (those : List Grouped). merged those (groups_in c.other.inside.totals.entries)) (mine ∙ one)
    ∙ (ap (merged (groups_by grouping rows)) (theirs ∙ two) ∙ groups_merged grouping rows others)))
    c.add_all.ensures.ok
