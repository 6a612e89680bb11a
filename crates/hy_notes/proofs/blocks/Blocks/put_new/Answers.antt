use Rattle.std.proofs.Common.{◌≡◌, ◌++◌, List, None, sym, ap, ◌∙◌, subst, rules}
use Rattle.hy_value.specs.declared.change.Change.{Change}
use Rattle.hy_notes.specs.Notes.{Ascends, note_at}
use Rattle.hy_notes.specs.Blocks.{notes_in, notes_at, notes_before, notes_behind}
use Rattle.hy_notes.proofs.Placing.{ascends_within}
use Rattle.hy_notes.proofs.Edits.{all_at}
use Rattle.hy_notes.proofs.Finding.{absent_in}
use Rattle.hy_notes.proofs.NoteAt.{apart_within}
use Rattle.hy_notes.proofs.blocks.Blocks.put_new.Goals as goal

pub count_below-at-requires : goal.count_below-at-requires
count_below-at-requires c =
    let b = c.args.self.now in
    let block = c.find-block.result in
    subst Ascends (sym c.notes.ensures)
    (ascends_within (notes_before b block) (notes_at b block) (notes_behind b block) (subst Ascends (all_at b block c.find-block.ensures.within) c.requires.ascends))

pub returns-clause-notes : goal.returns-clause-notes
returns-clause-notes c =
    let b = c.args.self.now in
    let block = c.find-block.result in
    let note = c.args.note in
    let pos = c.from-pos.result in
    let same : pos ≡ note.pos = search rules in
    let up : Ascends (notes_at b block) =
    ascends_within (notes_before b block) (notes_at b block) (notes_behind b block) (subst Ascends (all_at b block c.find-block.ensures.within) c.requires.ascends) in
    let none : note_at (notes_before b block ++ (notes_at b block ++ notes_behind b block)) note.table pos ≡ None =
    ap (λ (ns : List Change). note_at ns note.table pos) (sym (all_at b block c.find-block.ensures.within)) ∙ (ap (note_at (notes_in b) note.table) same ∙ c.requires.new) in
    c.put_note.ensures.notes
    ∙ absent_in b block note pos same c.find-block.ensures c.notes.result.now c.notes.result.now c.count_below-at.result c.notes.ensures c.notes.ensures c.count_below-at.ensures.count
    (apart_within (notes_before b block) (notes_at b block) (notes_behind b block) c.notes.result.now note.table pos c.count_below-at.result
    c.find-block.ensures.before up c.find-block.ensures.behind c.notes.ensures c.count_below-at.ensures.count none)
