use Rattle.std.proofs.Common.{ℕ, ap, ◌∙◌}
use Rattle.std.specs.Global.{Vec}
use Rattle.hy_notes.specs.Blocks.{notes_in}
use Rattle.hy_notes.specs.Noted.{Noted}
use Rattle.hy_notes.proofs.LevelLists.{same_levels}
use Rattle.hy_notes.proofs.changes.Changes.reserve.Goals as goal

pub returns-in_err-rows-clause-levels : goal.returns-in_err-rows-clause-levels
returns-in_err-rows-clause-levels c =
    same_levels c.reserve-2.new.self c.self.inside.levels (notes_in c.reserve.new.self) (notes_in c.self.inside.notes) c.reserve.ensures.notes c.reserve-2.ensures.stretches
    (ap (λ (begins : Vec ℕ). begins.items) c.reserve-2.ensures.begins) ∙ ap (λ (n : Noted). n.levels) c.self.view_is

pub returns-clause-levels : goal.returns-clause-levels
returns-clause-levels c =
    same_levels c.reserve-2.new.self c.self.inside.levels (notes_in c.reserve.new.self) (notes_in c.self.inside.notes) c.reserve.ensures.notes c.reserve-2.ensures.stretches
    (ap (λ (begins : Vec ℕ). begins.items) c.reserve-2.ensures.begins) ∙ ap (λ (n : Noted). n.levels) c.self.view_is
