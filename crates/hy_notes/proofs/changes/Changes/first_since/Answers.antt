use Rattle.std.proofs.Common.{◌≡◌, ℕ, List, [], get_or, drop, sym, ap, ◌∙◌, option_map, slice_get}
use Rattle.std.specs.List.{prefix_len}
use Rattle.hy_value.specs.declared.change.Change.{Change}
use Rattle.hy_notes.specs.Notes.{below, place_of}
use Rattle.hy_notes.specs.Blocks.{notes_in}
use Rattle.hy_notes.specs.Levels.{noted_since, stretches_in}
use Rattle.hy_notes.specs.Noted.{Noted}
use Rattle.hy_notes.proofs.LevelLists.{not_open, opened_at}
use Rattle.hy_notes.proofs.changes.Changes.first_since.Goals as goal

pub returns-in-None : goal.returns-in-None
returns-in-None c =
    let levels = c.self.inside.levels in
    let since : ℕ → List Change = (λ begin. noted_since (drop begin (stretches_in levels)) (notes_in c.self.inside.notes)) in
    let none : get_or c.args.self.now.levels c.args.level [] ≡ [] =
    ap (λ (n : Noted). get_or n.levels c.args.level []) (sym c.self.view_is) ∙ not_open since levels.begins.items c.args.level (sym c.begin.ensures ∙ c.in-None.is) in
    sym (ap (λ (ns : List Change). option_map place_of (slice_get ns (prefix_len (below c.args.table c.args.pos) ns))) none)

pub returns-in-Some : goal.returns-in-Some
returns-in-Some c =
    let levels = c.self.inside.levels in
    let since : ℕ → List Change = (λ begin. noted_since (drop begin (stretches_in levels)) (notes_in c.self.inside.notes)) in
    let is : get_or c.args.self.now.levels c.args.level [] ≡ since c.in-Some.begin =
    ap (λ (n : Noted). get_or n.levels c.args.level []) (sym c.self.view_is) ∙ opened_at since levels.begins.items c.args.level c.in-Some.begin (sym c.begin.ensures ∙ c.in-Some.is) in
    c.first_from.ensures ∙ sym (ap (λ (ns : List Change). option_map place_of (slice_get ns (prefix_len (below c.args.table c.args.pos) ns))) is)
