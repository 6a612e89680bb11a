use Rattle.std.proofs.Common.{[], ◌∷◌, ◌++◌, length, map}
use Rattle.std.specs.Option.{option_copied}
use Rattle.hy_value.specs.declared.change.Change.{Change}
use Rattle.hy_notes.specs.Blocks.{notes_in}
use Rattle.hy_notes.specs.Levels.{stretches_in}
use Rattle.hy_notes.proofs.Since.{told_by_all, told_from, levels_with, covered_more, covered_still}
use Rattle.hy_notes.proofs.levels.Levels.note.Goals as goal

pub returns-then-not-is_empty-clause-levels : goal.returns-then-not-is_empty-clause-levels
returns-then-not-is_empty-clause-levels c = λ after notes up covered.
    let self = c.args.self.now in
    let new : Change = record { table = c.args.place.table; pos = c.args.place.pos; before = option_copied c.args.before; after = after } in
    levels_with (stretches_in self) (map notes_in self.older.items ++ notes_in c.note_first.new.stretch ∷ []) self.begins.items (length self.older.items) new notes up covered
    c.requires.sound.begins
    (told_from self.older.items (notes_in self.newest) (notes_in c.note_first.new.stretch) new.table new.pos new.before c.note_first.ensures.told)

pub returns-then-not-is_empty-clause-covered : goal.returns-then-not-is_empty-clause-covered
returns-then-not-is_empty-clause-covered c = λ after notes up covered.
    let self = c.args.self.now in
    let new : Change = record { table = c.args.place.table; pos = c.args.place.pos; before = option_copied c.args.before; after = after } in
    covered_more (stretches_in self) (map notes_in self.older.items ++ notes_in c.note_first.new.stretch ∷ []) new notes up covered
    (λ table pos. told_by_all (map notes_in self.older.items) (notes_in self.newest) (notes_in c.note_first.new.stretch) new.table new.pos new.before table pos
    (c.note_first.ensures.told table pos))

pub returns-else-not-is_empty-clause-covered : goal.returns-else-not-is_empty-clause-covered
returns-else-not-is_empty-clause-covered c = λ after notes up covered.
    let new : Change = record { table = c.args.place.table; pos = c.args.place.pos; before = option_copied c.args.before; after = after } in
    covered_still (stretches_in c.args.self.now) new notes up covered
