use Rattle.std.proofs.Common.{◌≡◌, ◌++◌, take, map}
use Rattle.hy_notes.specs.Notes.{place_of}
use Rattle.hy_notes.specs.Blocks.{joined}
use Rattle.hy_notes.proofs.blocks.Blocks.places.Given as goal

-- the places of the notes of the blocks so far
abbrev pub invariant-loop-block : goal.invariant-loop-block
invariant-loop-block l = l.places.items ≡ map place_of (l.self.first.items ++ joined (take l.block-index l.self.later.items))
