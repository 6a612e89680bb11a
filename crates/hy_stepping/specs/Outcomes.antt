-- What a world that has ended tells: the outcome of the state that it shows.
use Rattle.std.specs.Prelude.{◌≡◌, ℕ, ◌+◌, ◌*◌, List, [], Bool, true, false, Option, None, Some, map, filter, slice_get, length}
use Rattle.std.specs.List.{flat_map, range_with_len, list_all}
use Rattle.hy_value.specs.declared.Value.{Value}
use Rattle.hy_value.specs.Sorted.{sorted}
use Rattle.hy_bound.specs.Changes.{present}
use Rattle.hy_stamp.specs.declared.Viewer.{Viewer}
use Rattle.hy_notes.specs.Notes.{is_change}
use Rattle.hy_journal.specs.declared.CoreData.{CoreData}
use Rattle.hy_journal.specs.declared.Entry.{Entry}
use Rattle.hy_undo.specs.Places.{Place}
use Rattle.hy_undo.specs.Chunks.{rows_seen}
use Rattle.hy_render.specs.declared.Committed.{Committed}
use Rattle.hy_render.specs.declared.Outcome.{Outcome}
use Rattle.hy_event.specs.declared.SessionData.{SessionData}
use Rattle.hy_event.specs.declared.Need.{Need}
use Rattle.hy_event.specs.declared.Need.TheVariants.{Core, Chunk, Done}
use Rattle.hy_event.specs.Needs.{need_of}
use Rattle.hy_event.specs.Events.{Part, ChunkPart, CorePart}
use Rattle.hy_machine.specs.declared.Setting.{Setting}
use Rattle.hy_machine.specs.States.{State}
use Rattle.hy_machine.specs.Outcomes.{outcome_of}
use Rattle.hy_machine.specs.Runs.{all_ended_from}
use Rattle.hy_stepping.specs.Runnable.{IsShown}

-- ---- the end

abbrev pub is_done : Need → Bool
is_done Core = false
is_done (Chunk table chunk) = false
is_done Done = true

-- every session is at its end
abbrev pub are_done : List SessionData → Bool
are_done sessions = list_all (λ session. is_done (need_of session)) sessions

-- the sessions are at their end exactly where the machine's have ended
abbrev pub EndsAreTheMachines : Type 0
EndsAreTheMachines =
    (setting : Setting) (state : State) (parts : List Part) (sessions : List SessionData)
    → IsShown setting state parts sessions → are_done sessions ≡ all_ended_from setting 0 state.sessions

-- ---- what is told

-- who sees all that has committed: a viewer from the next time on, of an identifier that no transaction has
abbrev pub last_viewer : CoreData → Viewer
last_viewer core = record { id = core.next; start = core.next }

-- an entry of the journal, with what is a change of its notes
abbrev pub told_entry : Entry → Committed
told_entry entry = record { label = entry.label; changes = filter is_change entry.notes }

abbrev pub places_in : Option Part → List Place
places_in None = []
places_in (Some (ChunkPart chunk)) = chunk.places
places_in (Some (CorePart core)) = []

-- the rows of a chunk of a table, of so many chunks a table
abbrev pub chunk_rows : CoreData → List Part → ℕ → ℕ → ℕ → List (List Value)
chunk_rows core parts chunks table chunk = present (rows_seen (last_viewer core) (places_in (slice_get parts (table * chunks + chunk))))

-- the rows of a table, ascending
abbrev pub told_rows : CoreData → List Part → ℕ → ℕ → List (List Value)
told_rows core parts chunks table = sorted (flat_map (chunk_rows core parts chunks table) (range_with_len 0 chunks))

-- what is told of the core, the parts and the sessions, of so many tables of so many chunks
abbrev pub told_outcome : ℕ → ℕ → CoreData → List Part → List SessionData → Outcome
told_outcome tables chunks core parts sessions = record {
  txns = flat_map (λ session. session.done) sessions;
  order = map told_entry core.entries;
  tables = map (told_rows core parts chunks) (range_with_len 0 tables);
}

-- where all have ended, what is told is the machine's outcome
abbrev pub OutcomesAreTold : Type 0
OutcomesAreTold =
    (setting : Setting) (state : State) (parts : List Part) (sessions : List SessionData)
    → (shown : IsShown setting state parts sessions) → are_done sessions ≡ true
    → told_outcome (length setting.shapes) setting.chunks shown.shows.core parts sessions ≡ outcome_of setting state
