use Rattle.std.proofs.Common.{◌≡◌, ℤ, Some, ap, sym, ◌∙◌, rules, to_z, of_z, w64, get_or}
use Rattle.hy_value.specs.declared.Value.TheVariants.{Int}
use Rattle.hy_undo.specs.declared.noted.Noted.{Noted}
use Rattle.hy_undo.specs.Noted.{noted_value}
use Rattle.hy_undo.specs.Images.{Image, older_or}
use Rattle.hy_undo.proofs.NotedLists.{noted_set}
use Rattle.hy_undo.proofs.delta.Delta.note_number.Goals as goal

pub returns-clause-values : goal.returns-clause-values
returns-clause-values c =
    let same : to_z w64 (of_z w64 c.args.old) ≡ c.args.old = search rules in
    let now = c.as_mut_slice-notes.result.now in
    let was = c.index-notes-column.result in
    noted_set c.self.inside.notes.items now c.args.column was c.note_number.new.self (Int c.args.old) c.args.self.now.values
    c.as_mut_slice-notes.ensures.value (ap (λ (i : Image). i.values) c.self.view_is) c.requires c.index-notes-column.is
    (c.note_number.ensures
    ∙ (ap (λ (n : ℤ). older_or (Some (Int n)) (noted_value (get_or now c.args.column was))) same
    ∙ ap (λ (n : Noted). older_or (Some (Int c.args.old)) (noted_value n)) (sym c.index-notes-column.is)))
