use Rattle.std.proofs.Common.{ℕ, List, drop, take, map, ap, ◌∙◌}
use Rattle.hy_value.specs.declared.change.Change.{Change}
use Rattle.hy_notes.specs.Blocks.{notes_in}
use Rattle.hy_notes.specs.Levels.{noted_since, stretches_in}
use Rattle.hy_notes.specs.Noted.{Noted}
use Rattle.hy_notes.proofs.LevelLists.{first_levels}
use Rattle.hy_notes.proofs.changes.Changes.keep_levels.Goals as goal

pub returns-clause-levels : goal.returns-clause-levels
returns-clause-levels c =
    let levels = c.self.inside.levels in
    let notes = notes_in c.self.inside.notes in
    ap (λ (p : List (List Change) × List ℕ). map (λ begin. noted_since (drop begin p.0) notes) p.1) (λ i. (c.keep.ensures.stretches i, c.keep.ensures.begins i))
    ∙ (first_levels (λ begin. noted_since (drop begin (stretches_in levels)) notes) levels.begins.items c.args.count
    ∙ ap (λ (n : Noted). take c.args.count n.levels) c.self.view_is)
