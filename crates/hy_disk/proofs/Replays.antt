-- How the history of a disk in memory goes on.
use Rattle.std.proofs.Common.{◌≡◌, ℕ, ◌+◌, ◌<◌, ◌≤◌, List, [], ◌∷◌, ◌++◌, length, Vec, refl, sym, ◌∙◌, ap, subst, arith, length-append}
use Rattle.std.specs.declared.alloc.Global.{Global}
use Rattle.std.specs.Prelude.{Bool, true, false}
use Rattle.hy_disk.specs.declared.memory.Event.{Event}
use Rattle.hy_disk.specs.declared.memory.Event.TheVariants.{Write, Sync}
use Rattle.hy_disk.specs.Bytes.{overwritten}
use Rattle.hy_disk.specs.Memory.{Moment, MemoryDisk, shown, moments}
use Rattle.hy_disk.specs.Replay.{History, Matches, moment_after, after_event, after_events, fresh, history_of}

-- one event more
pub after-push : (history : History) (events : List Event) (event : Event)
    → after_events history (events ++ event ∷ []) ≡ after_event (after_events history events) event
after-push history [] event = refl
after-push history (first ∷ later) event = after-push (after_event history first) later event

-- each event begins a moment
pub length-after : (history : History) (events : List Event) → length (after_events history events).earlier ≡ length history.earlier + length events
length-after history [] = omega arith
length-after history (event ∷ later) = omega (arith, length-after (after_event history event) later)

module _ (start : List ℕ) (events later : List Event) (event : Event) (pushed : later ≡ events ++ event ∷ []) where
  -- the event joins the history
  pub joins : history_of start later ≡ after_event (history_of start events) event
  joins = ap (after_events (fresh start)) pushed ∙ after-push (fresh start) events event

  -- what a disk with that history shows
  pub moment_is : (old : MemoryDisk) → (history_of start events).present ≡ old.present → (history_of start later).present ≡ moment_after old.present event
  moment_is old is = ap (λ (h : History). h.present) joins ∙ ap (λ (m : Moment). moment_after m event) is

  pub earlier_is : (old : MemoryDisk) → (history_of start events).present ≡ old.present
      → (history_of start events).earlier ≡ old.earlier → (history_of start later).earlier ≡ moments old
  earlier_is old is are =
      ap (λ (h : History). h.earlier) joins ∙ ap (λ (m : Moment). m ∷ (history_of start events).earlier) is ∙ ap (λ (ms : List Moment). old.present ∷ ms) are

-- the bytes and the mark, after a write
pub matches_written : (start : List ℕ) (events later : List Event) (bytes new : List ℕ) (mark : Bool) (at : ℕ) (written : Vec ℕ Global) (from : List ℕ)
    → later ≡ events ++ Write at written ∷ [] → written.items ≡ from → new ≡ overwritten bytes at from
    → Matches (history_of start events) bytes mark → Matches (history_of start later) new true
matches_written start events later bytes new mark at written from pushed copied done was =
    subst (λ (h : History). Matches h new true) (sym (joins start events later (Write at written) pushed)) record {
      bytes_are =
          done
          ∙ ap (λ (b : List ℕ). overwritten b at from) was.bytes_are
          ∙ ap (λ (f : List ℕ). overwritten (shown (history_of start events).present) at f) (sym copied);
      unmarked = λ no. cc;
      marked = λ no. cc;
    }

-- after a sync
pub matches_synced : (start : List ℕ) (events later : List Event) (bytes : List ℕ) (mark : Bool) → later ≡ events ++ Sync ∷ []
    → Matches (history_of start events) bytes mark → Matches (history_of start later) bytes false
matches_synced start events later bytes mark pushed was =
    subst (λ (h : History). Matches h bytes false) (sym (joins start events later Sync pushed)) record {
      bytes_are = was.bytes_are;
      unmarked = λ _. refl;
      marked = λ _. refl;
    }

-- where two were reserved, one is left
pub one_is_left : (events later : List Event) (event : Event) (room : ℕ) → later ≡ events ++ event ∷ [] → length events + 2 ≤ room → length later < room
one_is_left events later event room pushed enough = omega (arith, enough, ap length pushed, length-append events (event ∷ []))
