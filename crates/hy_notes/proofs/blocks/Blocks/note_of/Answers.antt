use Rattle.std.proofs.Common.{◌≡◌, ◌++◌, List, None, Some, get_or, sym, ap, ◌∙◌, subst, rules}
use Rattle.std.specs.Prelude.{not}
use Rattle.hy_value.specs.declared.change.Change.{Change}
use Rattle.hy_notes.specs.Notes.{Ascends, note_at, told_by}
use Rattle.hy_notes.specs.Blocks.{notes_at, notes_before, notes_behind}
use Rattle.hy_notes.proofs.Placing.{ascends_within}
use Rattle.hy_notes.proofs.Edits.{all_at}
use Rattle.hy_notes.proofs.NoteAt.{told_within, absent_within}
use Rattle.hy_notes.proofs.blocks.Blocks.note_of.Goals as goal

pub count_below-at-requires : goal.count_below-at-requires
count_below-at-requires c =
    let b = c.args.self.now in
    let block = c.find-block.result in
    subst Ascends (sym c.notes-notes.ensures)
    (ascends_within (notes_before b block) (notes_at b block) (notes_behind b block) (subst Ascends (all_at b block c.find-block.ensures.within) c.requires.ascends))

pub returns-then-is_noted : goal.returns-then-is_noted
returns-then-is_noted c =
    let b = c.args.self.now in
    let block = c.find-block.result in
    let notes = c.notes-notes.result.now in
    let i = c.count_below-at.result in
    let note = c.index-notes-at.result in
    let up : Ascends (notes_at b block) =
    ascends_within (notes_before b block) (notes_at b block) (notes_behind b block) (subst Ascends (all_at b block c.find-block.ensures.within) c.requires.ascends) in
    let read : get_or notes i note ≡ note = search rules in
    let told : note_at (notes_before b block ++ (notes_at b block ++ notes_behind b block)) c.args.table c.args.pos ≡ Some (told_by (get_or notes i note)) =
    told_within (notes_before b block) (notes_at b block) (notes_behind b block) notes c.args.table c.args.pos i c.find-block.ensures.before up c.find-block.ensures.behind
    c.notes-notes.ensures c.count_below-at.ensures.count note (c.is_noted.ensures.noted c.if-is_noted.true) (c.is_noted.ensures.same c.if-is_noted.true note) in
    sym (ap (λ (ns : List Change). note_at ns c.args.table c.args.pos) (all_at b block c.find-block.ensures.within) ∙ (told ∙ ap (λ (n : Change). Some (told_by n)) read))

pub returns-else-is_noted : goal.returns-else-is_noted
returns-else-is_noted c =
    let b = c.args.self.now in
    let block = c.find-block.result in
    let up : Ascends (notes_at b block) =
    ascends_within (notes_before b block) (notes_at b block) (notes_behind b block) (subst Ascends (all_at b block c.find-block.ensures.within) c.requires.ascends) in
    let any : Change = record { table = 0; pos = 0; before = None; after = None } in
    sym (ap (λ (ns : List Change). note_at ns c.args.table c.args.pos) (all_at b block c.find-block.ensures.within)
    ∙ absent_within (notes_before b block) (notes_at b block) (notes_behind b block) c.notes-notes.result.now c.args.table c.args.pos c.count_below-at.result
    c.find-block.ensures.before up c.find-block.ensures.behind c.notes-notes.ensures c.count_below-at.ensures.count any (λ l. c.is_noted.ensures.other (ap not c.if-is_noted.false) l any))
