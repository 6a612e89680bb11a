use Rattle.std.proofs.Common.{◌≡◌, ◌+◌, ◌++◌, ◌≤◌, length, vec_len, vec_capacity}
use Rattle.std.specs.List.{AllByRecursion}
use Rattle.std.specs.Vec.Iter.{drain_items, DrainKeeps}
use Rattle.hy_notes.specs.Blocks.{joined, IsLater, IsBlank}
use Rattle.hy_notes.proofs.blocks.move_all.Given as goal

-- the notes so far were moved, and their blocks are blank, in the same room
abbrev pub invariant-loop-block : goal.invariant-loop-block
invariant-loop-block l =
    (goal.iterator-loop-block).can_next l.block-iterator
    × (goal.iterator-loop-block).is_finite l.block-iterator
    × DrainKeeps l.initial.block-iterator l.block-iterator
    × (l.list.items ++ joined (drain_items l.block-iterator) ≡ l.initial.list.items ++ joined (drain_items l.initial.block-iterator))
    × (vec_len l.list + length (joined (drain_items l.block-iterator)) ≤ vec_capacity l.list)
    × AllByRecursion IsLater (drain_items l.block-iterator)
    × AllByRecursion IsBlank l.blank.items
    × (vec_len l.blank + length (drain_items l.block-iterator) ≡ vec_len l.fn.blank + vec_len l.fn.later)
    × (vec_capacity l.blank ≡ vec_capacity l.initial.blank)
