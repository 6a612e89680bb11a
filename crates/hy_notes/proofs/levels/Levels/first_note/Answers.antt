use Rattle.std.proofs.Common.{◌≡◌, List, Option, drop, option_map, map, sym, ap, ◌∙◌}
use Rattle.std.specs.Option.{option_copied, option_or}
use Rattle.std.proofs.lemmas.List.{take_rest}
use Rattle.hy_notes.specs.declared.blocks.Blocks.{Blocks}
use Rattle.hy_notes.specs.Notes.{Cell}
use Rattle.hy_notes.specs.Blocks.{notes_in}
use Rattle.hy_notes.specs.Levels.{before_at, before_in, was_at}
use Rattle.hy_notes.proofs.Since.{was_from, before_told}
use Rattle.hy_notes.proofs.levels.Levels.first_note.Goals as goal

pub returns-in-Some : goal.returns-in-Some
returns-in-Some c =
    let self = c.args.self.now in
    let newest = before_at (notes_in self.newest) c.args.table c.args.pos in
    let first : was_at (map notes_in (drop c.args.begin self.older.items)) c.args.table c.args.pos ≡ before_in (option_copied c.first_note_of.result) =
    sym (c.first_note_of.ensures ∙ ap (λ (xs : List Blocks). was_at (map notes_in xs) c.args.table c.args.pos)
    (take_rest c.as_slice.result.now c.args.begin ∙ ap (drop c.args.begin) c.as_slice.ensures.value)) in
    sym (was_from self.older.items (notes_in self.newest) c.args.begin c.args.table c.args.pos c.requires.within
    ∙ ap (λ (x : Option Cell). option_or x newest) (first ∙ ap (λ o. before_in (option_copied o)) c.in-Some.is))

pub returns-in-None : goal.returns-in-None
returns-in-None c =
    let self = c.args.self.now in
    let newest = before_at (notes_in self.newest) c.args.table c.args.pos in
    let first : was_at (map notes_in (drop c.args.begin self.older.items)) c.args.table c.args.pos ≡ before_in (option_copied c.first_note_of.result) =
    sym (c.first_note_of.ensures ∙ ap (λ (xs : List Blocks). was_at (map notes_in xs) c.args.table c.args.pos)
    (take_rest c.as_slice.result.now c.args.begin ∙ ap (drop c.args.begin) c.as_slice.ensures.value)) in
    before_told (option_copied c.note_of.result)
    ∙ (ap (λ (told : Option (Cell × Cell)). option_map (λ (pair : Cell × Cell). pair.0) told) c.note_of.ensures
    ∙ sym (was_from self.older.items (notes_in self.newest) c.args.begin c.args.table c.args.pos c.requires.within
    ∙ ap (λ (x : Option Cell). option_or x newest) (first ∙ ap (λ o. before_in (option_copied o)) c.in-None.is)))
