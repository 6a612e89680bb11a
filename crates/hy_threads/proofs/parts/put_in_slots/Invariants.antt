use Rattle.std.proofs.Common.{◌≡◌, ◌≤◌, ◌++◌, map, length, Some, vec_len, vec_capacity}
use Rattle.hy_threads.specs.Rule.{content}
use Rattle.hy_threads.proofs.parts.put_in_slots.Given as goal

abbrev pub invariant-loop-part : goal.invariant-loop-part
invariant-loop-part g l =
    (l.yielded ++ l.part-iterator.rest.items ≡ l.fn.parts.items)
    × (map content l.slots.items ≡ map Some l.yielded)
    × (vec_len l.slots ≡ length l.yielded) × (vec_len l.fn.parts ≤ vec_capacity l.slots)
