use Rattle.std.proofs.Common.{Some, ap, sym, ◌∙◌}
use Rattle.hy_undo.specs.declared.noted.Noted.{Noted}
use Rattle.hy_undo.specs.Noted.{noted_value}
use Rattle.hy_value.specs.Refs.{referred}
use Rattle.hy_undo.specs.Images.{Image, older_or}
use Rattle.hy_undo.proofs.NotedLists.{noted_set}
use Rattle.hy_undo.proofs.delta.Delta.note.Goals as goal

pub returns-clause-values : goal.returns-clause-values
returns-clause-values c =
    noted_set c.self.inside.notes.items c.as_mut_slice-notes.result.now c.args.column c.index-notes-column.result c.note.new.self (referred c.args.old) c.args.self.now.values
    c.as_mut_slice-notes.ensures.value (ap (λ (i : Image). i.values) c.self.view_is) c.requires.within c.index-notes-column.is
    (c.note.ensures.noted ∙ ap (λ (n : Noted). older_or (Some (referred c.args.old)) (noted_value n)) (sym c.index-notes-column.is))
