use Rattle.std.proofs.Common.{◌≡◌, drop}
use Rattle.hy_notes.specs.Blocks.{joined}
use Rattle.hy_notes.specs.Levels.{noted_since, stretches_in}
use Rattle.hy_notes.proofs.levels.Levels.first_of_blocks.Given as goal

-- none of the notes of the blocks so far is one since then
abbrev pub invariant-loop-block : goal.invariant-loop-block
invariant-loop-block l =
    noted_since (drop l.begin (stretches_in l.self)) (joined (drop l.block-index l.blocks)) ≡ noted_since (drop l.begin (stretches_in l.self)) (joined l.blocks)
