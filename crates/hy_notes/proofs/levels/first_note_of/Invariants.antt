use Rattle.std.proofs.Common.{◌≡◌, drop, map}
use Rattle.std.specs.List.{AllByRecursion}
use Rattle.hy_notes.specs.Blocks.{notes_in}
use Rattle.hy_notes.specs.Levels.{was_at, IsStretch}
use Rattle.hy_notes.proofs.levels.first_note_of.Given as goal

-- what all stretches tell those tell that are left
abbrev pub invariant-loop-stretch : goal.invariant-loop-stretch
invariant-loop-stretch l = record {
  told : was_at (map notes_in (drop l.stretch-index l.stretches)) l.table l.pos ≡ was_at (map notes_in l.stretches) l.table l.pos;
  left : AllByRecursion IsStretch (drop l.stretch-index l.stretches);
}
