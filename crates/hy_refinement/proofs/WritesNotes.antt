-- The notes of a transaction after writes at positions of a chunk.
use Rattle.std.proofs.Common.{◌≡◌, ℕ, suc, ◌+◌, ◌<◌, ◌≤◌, List, [], ◌∷◌, length, Option, None, Some, refl, sym, ap, ◌∙◌, subst, arith}
use Rattle.std.specs.Prelude.{slice_get}
use Rattle.hy_stamp.specs.declared.Viewer.{Viewer}
use Rattle.hy_undo.specs.Places.{Place, Cell, sees}
use Rattle.hy_value.specs.declared.change.Change.{Change}
use Rattle.hy_event.specs.declared.Open.{Open}
use Rattle.hy_event.specs.Turns.{after_visit as visited_by}
use Rattle.hy_event.specs.Changing.{changes_from}
use Rattle.hy_machine.specs.declared.Setting.{Setting}
use Rattle.hy_machine.specs.States.{State, Open as MachineOpen}
use Rattle.hy_machine.specs.Writes.{Write}
use Rattle.hy_machine.specs.Steps.{after_visit}
use Rattle.hy_machine.specs.Positions.{item_at}
use Rattle.hy_machine.specs.Tables.{capacity}
use Rattle.hy_machine.specs.Sessions.{view}
use Rattle.hy_refinement.specs.Sessions.{NotesShow}
use Rattle.hy_machine.specs.Kept.{OwnFits, TrailFits}
use Rattle.hy_refinement.specs.Frames.{NotesFollowWrites, with_own, with_noted}
use Rattle.hy_refinement.proofs.Trails.{one_write_fits}
use Rattle.hy_refinement.proofs.WritesOwn.{writes_from, write_fits, write_away}
use Rattle.hy_refinement.proofs.WritesViews.{views_alike}

-- an open transaction with these notes
abbrev pub noting : Open → List Change → Open
noting now changes = visited_by changes now.phase now

-- an open transaction that wrote this
abbrev pub writing : MachineOpen → List Write → MachineOpen
writing current writes = after_visit writes current.phase current

module _ (follow : NotesFollowWrites) (setting : Setting) (state : State) (table : ℕ) (viewer : Viewer) (below : table < length setting.first) where
  -- from what the transaction sees at each position, its notes show what it writes there
  pub notes_written : (first : ℕ) (cells : List (Option Cell)) (places : List Place) (now : Open) (current : MachineOpen)
      → OwnFits setting current.begun.own → TrailFits setting current.begun → first + length cells ≤ capacity setting → length cells ≡ length places → NotesShow setting state now current
      → ((i : ℕ) (place : Place) → slice_get places i ≡ Some place → sees viewer place ≡ item_at (view setting state current.begun) table (first + i))
      → NotesShow setting state (noting now (changes_from table first viewer cells places)) (writing current (writes_from table first cells))
  notes_written first [] places now current fits trail room long shows seen = record { all = shows.all; saved = shows.saved }
  notes_written first (cell ∷ cells) [] now current fits trail room long shows seen = absurd (omega (arith, long))
  notes_written first (None ∷ cells) (place ∷ places) now current fits trail room long shows seen =
      notes_written (suc first) cells places now current fits trail (omega (arith, room)) (omega (arith, long)) shows
      (λ i one e. seen (suc i) one e ∙ ap (item_at (view setting state current.begun) table) (let s : first + suc i ≡ suc first + i = omega arith in s))
  notes_written first (Some cell ∷ cells) (place ∷ places) now current fits trail room long shows seen =
      notes_written (suc first) cells places (noting now (change ∷ [])) (with_own current write)
      (write_fits setting current.begun.own write fits below) (one_write_fits setting current.begun write trail) (omega (arith, room))
      (omega (arith, long)) one_noted later
    where
      write : Write
      write = record { table = table; pos = first; cell = cell }

      change : Change
      change = record { table = table; pos = first; before = sees viewer place; after = cell }

      here : sees viewer place ≡ item_at (view setting state current.begun) table first
      here = seen 0 place refl ∙ ap (item_at (view setting state current.begun) table) (let s : first + 0 ≡ first = omega arith in s)

      one_noted : NotesShow setting state (noting now (change ∷ [])) (with_own current write)
      one_noted = subst (λ (before : Cell). NotesShow setting state
          (with_noted now (record { table = table; pos = first; before = before; after = cell })) (with_own current write))
          (sym here)
          (follow setting state now current table first cell fits trail below (omega (arith, room)) shows)

      later : (i : ℕ) (one : Place) → slice_get places i ≡ Some one
          → sees viewer one ≡ item_at (view setting state (with_own current write).begun) table (suc first + i)
      later i one e =
          seen (suc i) one e
          ∙ (ap (item_at (view setting state current.begun) table) (let s : first + suc i ≡ suc first + i = omega arith in s)
          ∙ sym (views_alike setting state current.begun (with_own current write).begun table (suc first + i) fits
          (write_fits setting current.begun.own write fits below) refl
          (write_away setting current.begun.own write table (suc first + i) fits below (λ same. let at = same.1 in absurd (omega (arith, at))))))
