-- Notes in order, in blocks, with levels of them.
use Rattle.hy_notes.specs.declared.blocks.Blocks.{Blocks}
use Rattle.hy_notes.specs.declared.levels.Levels.{Levels}
use Rattle.hy_notes.specs.Notes.{Ascends}
use Rattle.hy_notes.specs.Blocks.{notes_in, AreBlocks}
use Rattle.hy_notes.specs.Levels.{stretches_in, AreLevels, AreCovered}

pub record Sound (notes : Blocks) (levels : Levels) : Type 0 where
  pub ascends : Ascends (notes_in notes)
  pub blocks : AreBlocks notes
  pub marked : AreLevels levels
  pub covered : AreCovered (stretches_in levels) (notes_in notes)
