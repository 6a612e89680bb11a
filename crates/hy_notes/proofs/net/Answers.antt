use Rattle.std.proofs.Common.{rules, List, ap, ◌∙◌}
use Rattle.std.specs.Prelude.{filter}
use Rattle.std.proofs.lemmas.Fn.{filter_same}
use Rattle.hy_value.specs.declared.change.Change.{Change}
use Rattle.hy_notes.specs.Notes.{is_change}
use Rattle.hy_notes.proofs.net.Goals as goal

pub returns : goal.returns
returns c =
    c.from_vec.ensures
    ∙ (filter_same _ is_change _ (λ note b f' called. search rules) _ _ c.retain.ensures.filtered
    ∙ ap (λ (notes : List Change). filter is_change notes) c.into_vec-changes.ensures)
