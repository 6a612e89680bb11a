use Rattle.std.proofs.Common.{◌≡◌, ◌≤◌, ◌++◌, map, length, Some, vec_len, vec_capacity}
use Rattle.hy_threads.specs.Rule.{content}
use Rattle.hy_threads.proofs.parts.take_from_slots.Given as goal

abbrev pub invariant-loop-slot : goal.invariant-loop-slot
invariant-loop-slot g l =
    (l.yielded ++ l.slot-iterator.rest.items ≡ l.fn.slots.items)
    × (map content l.yielded ≡ map Some l.parts.items)
    × (vec_len l.parts ≡ length l.yielded) × (vec_len l.fn.slots ≤ vec_capacity l.parts)
