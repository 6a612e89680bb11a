use Rattle.std.proofs.Common.{◌≡◌, ◌++◌, drop, filter}
use Rattle.hy_notes.specs.Notes.{is_between}
use Rattle.hy_notes.specs.Blocks.{joined}
use Rattle.hy_notes.specs.Levels.{noted_since, stretches_in}
use Rattle.hy_notes.proofs.levels.Levels.notes_between.Given as goal

-- what is wanted of the blocks so far was pushed
abbrev pub invariant-loop-block : goal.invariant-loop-block
invariant-loop-block l =
    l.list.items ++ filter (is_between l.wanted.table l.wanted.from l.wanted.to) (noted_since (drop l.begin (stretches_in l.self)) (joined (drop l.block-index l.later)))
    ≡ l.initial.list.items ++ filter (is_between l.wanted.table l.wanted.from l.wanted.to) (noted_since (drop l.begin (stretches_in l.self)) (joined l.later))
