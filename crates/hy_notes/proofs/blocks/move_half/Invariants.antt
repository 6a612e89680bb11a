use Rattle.std.proofs.Common.{◌≡◌, ◌+◌, ◌++◌, vec_len, vec_capacity}
use Rattle.std.specs.Vec.Iter.{drain_items, drain_len, DrainKeeps}
use Rattle.hy_notes.proofs.blocks.move_half.Given as goal

-- the notes so far were moved, in the same room
abbrev pub invariant-loop-note : goal.invariant-loop-note
invariant-loop-note l =
    (goal.iterator-loop-note).can_next l.note-iterator
    × (goal.iterator-loop-note).is_finite l.note-iterator
    × DrainKeeps l.initial.note-iterator l.note-iterator
    × (l.empty.items ++ drain_items l.note-iterator ≡ drain_items l.initial.note-iterator)
    × (vec_len l.empty + drain_len l.note-iterator ≡ drain_len l.initial.note-iterator)
    × (vec_capacity l.empty ≡ vec_capacity l.initial.empty)
