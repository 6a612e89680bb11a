-- What an open transaction noted since its newest savepoint of a name, and in which chunks.
use Rattle.std.proofs.Common.{◌≡◌, ℕ, ◌*◌, ◌≤◌, List, [], ◌∷◌, length, map, take, drop, Option, None, Some, false}
use Rattle.std.proofs.Common.{refl, sym, ap, ◌∙◌, subst, arith, zero-add}
use Rattle.std.specs.Prelude.{is_some}
use Rattle.std.specs.List.{list_any, range_with_len}
use Rattle.std.specs.Option.{unwrap_or}
use Rattle.hy_value.specs.declared.change.Change.{Change}
use Rattle.hy_bound.specs.declared.Shape.{Shape}
use Rattle.hy_bound.specs.Savepoints.{kept_by}
use Rattle.hy_bound.specs.SavedRelations.{BothKept, kept_alike}
use Rattle.hy_event.specs.declared.SessionData.{SessionData}
use Rattle.hy_event.specs.declared.Open.{Open}
use Rattle.hy_event.specs.Sessions.{lies_in, place_noted, savepoint_of, notes_since}
use Rattle.hy_event.specs.Events.{Part}
use Rattle.hy_render.specs.declared.Place.{Place}
use Rattle.hy_protocol.specs.Turns.{is_stamping}
use Rattle.hy_machine.specs.declared.Setting.{Setting}
use Rattle.hy_machine.specs.States.{State, Open as MachineOpen}
use Rattle.hy_machine.specs.Positions.{item_at}
use Rattle.hy_machine.specs.Tables.{Own, Tables, over}
use Rattle.hy_machine.specs.Writes.{Write, blank_own, with_writes}
use Rattle.hy_machine.specs.Saving.{count_at, own_at, own_since}
use Rattle.hy_machine.specs.Sessions.{snapshot, pair_of}
use Rattle.hy_refinement.specs.Numbers.{noted}
use Rattle.hy_refinement.specs.Sessions.{NotesHave, SinceHave, NotesShow, SessionIs, OpenShows}
use Rattle.hy_refinement.specs.Taken.{AtOpen}
use Rattle.hy_refinement.specs.Visits.{ChunksSinceAreTheMachines}
use Rattle.hy_refinement.proofs.BegunStates.{nothing_own}
use Rattle.hy_refinement.proofs.RivalTops.{open_shown}
use Rattle.hy_refinement.proofs.NotedPlaces.{PlacesAre, noted_places, some_noted, not_marked}
use Rattle.hy_refinement.proofs.NotedChunks.{lies_there, chunks_are}
use Rattle.hy_refinement.proofs.Trails.{since_fits, none_dropped}

-- since a savepoint that is made now nothing is noted
pub fresh_since : (setting : Setting) (tables : Tables) (trail : List Write) → SinceHave setting tables trail [] (length trail)
fresh_since setting tables trail =
    subst (λ (writes : List Write). NotesHave (over tables (with_writes (blank_own setting) (take (length trail) trail)))
    (with_writes (blank_own setting) writes) []) (sym (none_dropped trail)) (record {
      each = λ table pos.
          sym (ap (λ own. noted (pair_of (item_at (over tables (with_writes (blank_own setting) (take (length trail) trail))) table pos) own))
          (nothing_own setting table pos));
      ascends = tt;
    })

-- the places of notes are those that were written
pub places_noted : (tables : Tables) (own : Own) (notes : List Change) → NotesHave tables own notes → PlacesAre (map place_noted notes) own
places_noted tables own notes have table pos =
    noted_places notes table pos ∙ (ap is_some (have.each table pos) ∙ some_noted (item_at tables table pos) (item_at own table pos))

module _ (setting : Setting) (state : State) (parts : List Part) (sessions : List SessionData) (number : ℕ) (session : SessionData)
    (now : Open) (current : MachineOpen) (name : List ℕ)
    (at : AtOpen setting state parts sessions number session now current) (quiet : is_stamping current.phase ≡ false) where
  abbrev start : Tables
  start = snapshot setting state current.begun.prefix

  abbrev trail : List Write
  trail = current.begun.trail

  open_is : OpenShows setting state at.shown.shows.core number now current
  open_is = open_shown setting state at.shown.shows.core sessions number session now current at.shown.shows.sessions_show at.is_open

  shown : NotesShow setting state now current
  shown = open_is.notes_show (not_marked setting state number current at.shown.kept at.is_open.open_there quiet)

  -- its notes since the savepoint have what it saw then and what it wrote since
  pub since_shown : NotesHave (over start (own_at setting current.begun name)) (own_since setting current.begun name) (notes_since now name)
  since_shown =
      by (kept_by name (map savepoint_of now.saved)) (kept_by name current.begun.saved)
      (kept_alike (SinceHave setting start trail) name (map savepoint_of now.saved) current.begun.saved shown.saved)
    where
      by : (here : Option (List Change)) (there : Option ℕ) → BothKept (SinceHave setting start trail) here there
          → SinceHave setting start trail (unwrap_or here []) (unwrap_or there (length trail))
      by None None both = fresh_since setting start trail
      by None (Some count) both = absurd both
      by (Some notes) None both = absurd both
      by (Some notes) (Some count) both = both

pub chunks_since_are : ChunksSinceAreTheMachines
chunks_since_are setting state parts sessions number session now current name at quiet =
    chunks_are setting session places 0 session.shapes own
    (let fits = at.shown.kept.fits.shapes in let tables = (since_fits setting (drop count current.begun.trail)).tables in
    let shapes = ap (λ (shapes : List Shape). length shapes) is.shapes in omega (arith, fits, tables, shapes))
    is.chunks
    (λ k chunk.
    ap (λ (n : ℕ). list_any (lies_in session n chunk) places) (zero-add k)
    ∙ (lies_there session places own k chunk
    (places_noted (over (snapshot setting state current.begun.prefix) (own_at setting current.begun name)) own (notes_since now name)
    (since_shown setting state parts sessions number session now current name at quiet))
    ∙ ap (λ (rows : ℕ). list_any (λ (pos : ℕ). is_some (item_at own k pos)) (range_with_len (chunk * rows) rows)) is.rows))
  where
    own : Own
    own = own_since setting current.begun name

    count : ℕ
    count = count_at current.begun name

    places : List Place
    places = map place_noted (notes_since now name)

    is : SessionIs setting number session
    is = (at.shown.shows.sessions_show.each number session at.is_open.found).session_is
