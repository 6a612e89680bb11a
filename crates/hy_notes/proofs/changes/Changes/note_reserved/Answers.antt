use Rattle.std.proofs.Common.{◌≡◌, ◌++◌, List, map, get_or, sym, ap, ◌∙◌, subst, rules}
use Rattle.std.specs.Prelude.{not, Option}
use Rattle.std.specs.Option.{option_copied}
use Rattle.std.specs.List.{insert}
use Rattle.std.proofs.Math.ListN.{set}
use Rattle.hy_value.specs.declared.Value.{Value}
use Rattle.hy_value.specs.declared.change.Change.{Change}
use Rattle.hy_notes.specs.Notes.{Ascends, with_after, with_note}
use Rattle.hy_notes.specs.Noted.{Noted}
use Rattle.hy_notes.specs.Levels.{stretches_in, levels_of, AreCovered}
use Rattle.hy_notes.specs.Blocks.{notes_in, notes_at, notes_before, notes_behind}
use Rattle.hy_notes.proofs.Adding.{ascends_with}
use Rattle.hy_notes.proofs.Placing.{ascends_within}
use Rattle.hy_notes.proofs.Edits.{all_at}
use Rattle.hy_notes.proofs.Finding.{noted_in, absent_in}
use Rattle.hy_notes.proofs.changes.Changes.note_reserved.Goals as goal

pub count_below-at-requires : goal.count_below-at-requires
count_below-at-requires c =
    let b = c.self.inside.notes in
    let block = c.find-block.result in
    subst Ascends (sym c.notes.ensures)
    (ascends_within (notes_before b block) (notes_at b block) (notes_behind b block) (subst Ascends (all_at b block c.find-block.ensures.within) c.self.invariant.ascends))

pub invariant_of-self : goal.invariant_of-self
invariant_of-self c =
    let b = c.self.inside.notes in
    let block = c.find-block.result in
    let new : Change = record { table = c.args.table; pos = c.args.pos; before = option_copied c.args.before; after = option_copied c.args.after } in
    let same : c.from-place.result ≡ c.args.pos = search rules in
    let made : notes_in c.put_after.new.self ≡ with_note new (notes_in b) =
    c.put_after.ensures.notes new
    ∙ (ap (λ (cell : Option (List Value)). notes_before b block
    ++ (set (notes_at b block) c.count_below-at.result (with_after (get_or (notes_at b block) c.count_below-at.result new) cell) ++ notes_behind b block)) c.keep-after.ensures.row
    ∙ noted_in b block new c.from-place.result same c.find-block.ensures c.notes.result.now c.notes-2.result.now c.count_below-at.result c.notes.ensures c.notes-2.ensures
    c.count_below-at.ensures.count (c.is_noted-noted.ensures.noted c.if-noted.true) (c.is_noted-noted.ensures.same c.if-noted.true)) in
    let covered : AreCovered (stretches_in c.note.new.self) (with_note new (notes_in b)) =
    c.note.ensures.covered (option_copied c.args.after) (notes_in b) c.self.invariant.ascends c.self.invariant.covered in
    record { ascends = subst Ascends (sym made) (ascends_with new (notes_in b) c.self.invariant.ascends); blocks = c.put_after.ensures.sound; marked = c.note.ensures.sound; covered = subst (AreCovered (stretches_in c.note.new.self)) (sym made) covered }

pub invariant_of-self-else-noted : goal.invariant_of-self-else-noted
invariant_of-self-else-noted c =
    let b = c.self.inside.notes in
    let block = c.find-block.result in
    let new : Change = record { table = c.args.table; pos = c.args.pos; before = option_copied c.args.before; after = option_copied c.args.after } in
    let same : c.from-place.result ≡ c.args.pos = search rules in
    let made : notes_in c.put_note.new.self ≡ with_note new (notes_in b) =
    c.put_note.ensures.notes
    ∙ (ap (λ (p : Option (List Value) × Option (List Value)). notes_before b block
    ++ (insert (notes_at b block) c.count_below-at.result (record { table = c.args.table; pos = c.args.pos; before = p.0; after = p.1 }) ++ notes_behind b block))
    (λ i. (c.keep-before.ensures.row i, c.keep-after.ensures.row i))
    ∙ absent_in b block new c.from-place.result same c.find-block.ensures c.notes.result.now c.notes-2.result.now c.count_below-at.result c.notes.ensures c.notes-2.ensures
    c.count_below-at.ensures.count (c.is_noted-noted.ensures.other (ap not c.if-noted.false))) in
    let covered : AreCovered (stretches_in c.note.new.self) (with_note new (notes_in b)) =
    c.note.ensures.covered (option_copied c.args.after) (notes_in b) c.self.invariant.ascends c.self.invariant.covered in
    record { ascends = subst Ascends (sym made) (ascends_with new (notes_in b) c.self.invariant.ascends); blocks = c.put_note.ensures.sound; marked = c.note.ensures.sound; covered = subst (AreCovered (stretches_in c.note.new.self)) (sym made) covered }

pub returns-then-noted-clause-notes : goal.returns-then-noted-clause-notes
returns-then-noted-clause-notes c =
    let b = c.self.inside.notes in
    let block = c.find-block.result in
    let new : Change = record { table = c.args.table; pos = c.args.pos; before = option_copied c.args.before; after = option_copied c.args.after } in
    let same : c.from-place.result ≡ c.args.pos = search rules in
    let made : notes_in c.put_after.new.self ≡ with_note new (notes_in b) =
    c.put_after.ensures.notes new
    ∙ (ap (λ (cell : Option (List Value)). notes_before b block
    ++ (set (notes_at b block) c.count_below-at.result (with_after (get_or (notes_at b block) c.count_below-at.result new) cell) ++ notes_behind b block)) c.keep-after.ensures.row
    ∙ noted_in b block new c.from-place.result same c.find-block.ensures c.notes.result.now c.notes-2.result.now c.count_below-at.result c.notes.ensures c.notes-2.ensures
    c.count_below-at.ensures.count (c.is_noted-noted.ensures.noted c.if-noted.true) (c.is_noted-noted.ensures.same c.if-noted.true)) in
    made ∙ ap (λ (n : Noted). with_note new n.notes) c.self.view_is

pub returns-else-noted-clause-notes : goal.returns-else-noted-clause-notes
returns-else-noted-clause-notes c =
    let b = c.self.inside.notes in
    let block = c.find-block.result in
    let new : Change = record { table = c.args.table; pos = c.args.pos; before = option_copied c.args.before; after = option_copied c.args.after } in
    let same : c.from-place.result ≡ c.args.pos = search rules in
    let made : notes_in c.put_note.new.self ≡ with_note new (notes_in b) =
    c.put_note.ensures.notes
    ∙ (ap (λ (p : Option (List Value) × Option (List Value)). notes_before b block
    ++ (insert (notes_at b block) c.count_below-at.result (record { table = c.args.table; pos = c.args.pos; before = p.0; after = p.1 }) ++ notes_behind b block))
    (λ i. (c.keep-before.ensures.row i, c.keep-after.ensures.row i))
    ∙ absent_in b block new c.from-place.result same c.find-block.ensures c.notes.result.now c.notes-2.result.now c.count_below-at.result c.notes.ensures c.notes-2.ensures
    c.count_below-at.ensures.count (c.is_noted-noted.ensures.other (ap not c.if-noted.false))) in
    made ∙ ap (λ (n : Noted). with_note new n.notes) c.self.view_is

pub returns-then-noted-clause-levels : goal.returns-then-noted-clause-levels
returns-then-noted-clause-levels c =
    let b = c.self.inside.notes in
    let block = c.find-block.result in
    let new : Change = record { table = c.args.table; pos = c.args.pos; before = option_copied c.args.before; after = option_copied c.args.after } in
    let same : c.from-place.result ≡ c.args.pos = search rules in
    let made : notes_in c.put_after.new.self ≡ with_note new (notes_in b) =
    c.put_after.ensures.notes new
    ∙ (ap (λ (cell : Option (List Value)). notes_before b block
    ++ (set (notes_at b block) c.count_below-at.result (with_after (get_or (notes_at b block) c.count_below-at.result new) cell) ++ notes_behind b block)) c.keep-after.ensures.row
    ∙ noted_in b block new c.from-place.result same c.find-block.ensures c.notes.result.now c.notes-2.result.now c.count_below-at.result c.notes.ensures c.notes-2.ensures
    c.count_below-at.ensures.count (c.is_noted-noted.ensures.noted c.if-noted.true) (c.is_noted-noted.ensures.same c.if-noted.true)) in
    ap (levels_of c.note.new.self) made
    ∙ (c.note.ensures.levels (option_copied c.args.after) (notes_in b) c.self.invariant.ascends c.self.invariant.covered
    ∙ ap (λ (n : Noted). map (with_note new) n.levels) c.self.view_is)

pub returns-else-noted-clause-levels : goal.returns-else-noted-clause-levels
returns-else-noted-clause-levels c =
    let b = c.self.inside.notes in
    let block = c.find-block.result in
    let new : Change = record { table = c.args.table; pos = c.args.pos; before = option_copied c.args.before; after = option_copied c.args.after } in
    let same : c.from-place.result ≡ c.args.pos = search rules in
    let made : notes_in c.put_note.new.self ≡ with_note new (notes_in b) =
    c.put_note.ensures.notes
    ∙ (ap (λ (p : Option (List Value) × Option (List Value)). notes_before b block
    ++ (insert (notes_at b block) c.count_below-at.result (record { table = c.args.table; pos = c.args.pos; before = p.0; after = p.1 }) ++ notes_behind b block))
    (λ i. (c.keep-before.ensures.row i, c.keep-after.ensures.row i))
    ∙ absent_in b block new c.from-place.result same c.find-block.ensures c.notes.result.now c.notes-2.result.now c.count_below-at.result c.notes.ensures c.notes-2.ensures
    c.count_below-at.ensures.count (c.is_noted-noted.ensures.other (ap not c.if-noted.false))) in
    ap (levels_of c.note.new.self) made
    ∙ (c.note.ensures.levels (option_copied c.args.after) (notes_in b) c.self.invariant.ascends c.self.invariant.covered
    ∙ ap (λ (n : Noted). map (with_note new) n.levels) c.self.view_is)
