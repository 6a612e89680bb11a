-- The moments of a disk, from the bytes that it began with and the writes and syncs since.
use Rattle.std.specs.Prelude.{◌≡◌, ℕ, Bool, IsFalse, List, [], ◌∷◌}
use Rattle.hy_disk.specs.declared.memory.Event.{Event}
use Rattle.hy_disk.specs.declared.memory.Event.TheVariants.{Write, Sync}
use Rattle.hy_disk.specs.Memory.{Moment, shown, wrote, synced}

-- a moment, and those before it, the newest first
pub record History : Type 0 where
  pub present : Moment
  pub earlier : List Moment

-- a disk whose bytes are all sure, and that had no moment before
abbrev pub fresh : List ℕ → History
fresh bytes = record { present = record { durable = bytes; pending = [] }; earlier = [] }

-- the moment after the event
abbrev pub moment_after : Moment → Event → Moment
moment_after moment (Write at bytes) = wrote moment at bytes.items
moment_after moment Sync = synced moment

-- after one event
abbrev pub after_event : History → Event → History
after_event history event = record { present = moment_after history.present event; earlier = history.present ∷ history.earlier }

-- after these events, of which the oldest comes first
abbrev pub after_events : History → List Event → History
after_events history [] = history
after_events history (event ∷ later) = after_events (after_event history event) later

-- the history of a disk that began with these bytes
abbrev pub history_of : List ℕ → List Event → History
history_of start events = after_events (fresh start) events

-- the bytes are what a read gives, and the mark says whether a write is pending
pub record Matches (history : History) (bytes : List ℕ) (is_pending : Bool) : Type 0 where
  pub bytes_are : bytes ≡ shown history.present
  pub unmarked : IsFalse is_pending → history.present.pending ≡ []
  pub marked : history.present.pending ≡ [] → IsFalse is_pending
