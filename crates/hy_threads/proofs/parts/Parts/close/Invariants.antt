use Rattle.std.proofs.Common.{◌≡◌, ℕ, ◌-◌, ◌<◌, ◌≤◌, false, get_or, map, take, Some, vec_len, vec_capacity}
use Rattle.std.specs.Slots.{slots_filled, slots_len, slots_items}
use Rattle.std.specs.Slots.Ownership.{Filled}
use Rattle.hy_threads.specs.Rule.{content}
use Rattle.hy_threads.proofs.parts.Parts.close.Given as goal

abbrev pub invariant-loop-k : goal.invariant-loop-k
invariant-loop-k g l =
    Filled (slots_filled l.closed.slots) l.k (slots_len l.closed.slots)
    × ((j : ℕ) → j < l.k → get_or (slots_filled l.closed.slots) j false ≡ false)
    × (l.k ≤ slots_len l.closed.slots)
    × (slots_len l.closed.slots ≡ slots_len l.initial.closed.slots)
    × (slots_items l.closed.slots ≡ slots_items l.initial.closed.slots)
    × (vec_len l.parts ≡ l.k) × (slots_len l.closed.slots ≤ vec_capacity l.parts)
    × (map Some l.parts.items ≡ take l.k (map content (slots_items l.closed.slots)))

abbrev pub decreases-loop-k : goal.decreases-loop-k
decreases-loop-k g l = slots_len l.closed.slots - l.k
