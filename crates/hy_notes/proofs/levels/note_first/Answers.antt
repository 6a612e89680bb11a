use Rattle.std.proofs.Common.{List, None, sym, ap, ◌∙◌, subst}
use Rattle.std.specs.Option.{option_copied}
use Rattle.hy_value.specs.declared.change.Change.{Change}
use Rattle.hy_notes.specs.Notes.{Cell, Ascends, with_note}
use Rattle.hy_notes.specs.Blocks.{notes_in}
use Rattle.hy_notes.specs.Levels.{before_at}
use Rattle.hy_notes.proofs.Adding.{ascends_with}
use Rattle.hy_notes.proofs.Since.{told_first}
use Rattle.hy_notes.proofs.levels.note_first.Goals as goal

pub returns-then-is_none-clause-told : goal.returns-then-is_none-clause-told
returns-then-is_none-clause-told c = λ table pos.
    let was = notes_in c.args.stretch.now in
    let new : Change = record { table = c.args.place.table; pos = c.args.place.pos; before = option_copied c.args.before; after = None } in
    ap (λ (ns : List Change). before_at ns table pos) (c.put_new.ensures.notes
    ∙ ap (λ (cell : Cell). with_note (record { table = c.args.place.table; pos = c.args.place.pos; before = cell; after = None }) was) c.keep-before.ensures.row)
    ∙ told_first new was c.requires.stretch.ascends table pos

pub returns-then-is_none-clause-stretch : goal.returns-then-is_none-clause-stretch
returns-then-is_none-clause-stretch c =
    let was = notes_in c.args.stretch.now in
    let new : Change = record { table = c.args.place.table; pos = c.args.place.pos; before = c.keep-before.result; after = None } in
    record { sound = c.put_new.ensures.sound; ascends = subst Ascends (sym c.put_new.ensures.notes) (ascends_with new was c.requires.stretch.ascends) }
