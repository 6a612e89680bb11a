-- A chunk to a position of which a row comes shows the row.
use Rattle.std.proofs.Common.{◌≡◌, ℕ, ◌+◌, ◌*◌, ◌<◌, List, Some, true, sym, ap, ◌∙◌, subst, arith, inl, inr}
use Rattle.std.specs.Prelude.{slice_get, is_some}
use Rattle.std.proofs.lemmas.Bool.{cases_eq}
use Rattle.std.proofs.lemmas.Nat.{mul-add-lt}
use Rattle.std.proofs.lemmas.Option.{same_Some}
use Rattle.hy_value.specs.declared.Value.{Value}
use Rattle.hy_prune.specs.Fates.{watermark_of}
use Rattle.hy_undo.specs.Places.{Place}
use Rattle.hy_undo.specs.Chunks.{ChunkData, Placed}
use Rattle.hy_journal.specs.declared.CoreData.{CoreData}
use Rattle.hy_event.specs.declared.SessionData.{SessionData}
use Rattle.hy_event.specs.declared.Open.{Open}
use Rattle.hy_event.specs.Sessions.{label_of, viewer_of}
use Rattle.hy_event.specs.Changing.{OnlyPlaces, OnlyAt}
use Rattle.hy_machine.specs.declared.Setting.{Setting}
use Rattle.hy_machine.specs.States.{State, Open as MachineOpen}
use Rattle.hy_machine.specs.Writes.{Write, with_write}
use Rattle.hy_machine.specs.Positions.{item_at}
use Rattle.hy_machine.specs.Tables.{Own, capacity}
use Rattle.hy_machine.specs.Holding.{undone, is_free}
use Rattle.hy_machine.specs.Kept.{OwnFits}
use Rattle.hy_refinement.specs.Places.{PlaceShows}
use Rattle.hy_refinement.specs.Frames.{gone_on, sessions_on, KeepsStart, StandsElsewhere, ChunkShows, UnmovedPlacesShow}
use Rattle.hy_refinement.proofs.FramesLists.{got_set, got_other}
use Rattle.hy_refinement.proofs.FramesParts.{one_number}
use Rattle.hy_refinement.proofs.WritesOwn.{write_here, write_away, write_fits}
use Rattle.hy_refinement.proofs.WritesViews.{view_own, holds_own}
use Rattle.hy_refinement.proofs.WritesChunk.{AtWork, fits, stands}
use Rattle.hy_refinement.proofs.PlacesAlone.{free_there}
use Rattle.hy_refinement.proofs.PlacesShown.{placed_shows}

module _ (setting : Setting) (state : State) (core : CoreData) (sessions : List SessionData) (number : ℕ) (session : SessionData)
    (now then : Open) (current later : MachineOpen) (table chunk index : ℕ) (row : List Value)
    (work : AtWork setting state core sessions number session now current table chunk)
    (inside : index < setting.rows) (keeps : KeepsStart now then current later)
    (own : later.begun.own ≡ with_write current.begun.own (record { table = table; pos = chunk * setting.rows + index; cell = Some row }))
    (working : undone later.phase ≡ 0) where
  abbrev pos : ℕ
  pos = chunk * setting.rows + index

  abbrev write : Write
  write = record { table = table; pos = pos; cell = Some row }

  fits_before : OwnFits setting current.begun.own
  fits_before = fits setting state core sessions number session now current table chunk work

  fits_later : OwnFits setting later.begun.own
  fits_later = subst (λ (o : Own). OwnFits setting o) (sym own) (write_fits setting current.begun.own write fits_before work.table_below)

  pub within : pos < capacity setting
  within = let l = mul-add-lt chunk setting.rows index setting.chunks work.chunk_below inside in omega (arith, l)

  -- what it wrote elsewhere stays
  own_away : (other at : ℕ) → ((other ≡ table) × (at ≡ pos) → ⊥) → item_at later.begun.own other at ≡ item_at current.begun.own other at
  own_away other at apart =
      ap (λ (o : Own). item_at o other at) own ∙ write_away setting current.begun.own write other at fits_before work.table_below apart

  own_here : item_at later.begun.own table pos ≡ Some (Some row)
  own_here = ap (λ (o : Own). item_at o table pos) own ∙ write_here setting current.begun.own write fits_before work.table_below within

  -- it stands as before in other chunks
  pub placed_elsewhere : StandsElsewhere setting state number current later table chunk
  placed_elsewhere other another at apart below =
      stands setting state core sessions number session now current table chunk work then later other another (another * setting.rows + at) keeps working
      fits_later
      (own_away other (another * setting.rows + at) (λ same.
      apart (same.0, (one_number setting.rows another chunk at index below inside same.1).0)))

  -- the chunk shows the row
  pub chunk_placed : UnmovedPlacesShow → (between new : ChunkData) → ChunkShows setting state core sessions table chunk between
      → (only : OnlyPlaces (OnlyAt index (Placed (viewer_of session now) (label_of session) (watermark_of now.cover) row)) between new)
      → is_free setting state current.begun table pos ≡ true
      → ChunkShows setting (gone_on state number later) core (sessions_on sessions number session then) table chunk new
  chunk_placed unmoved between new shows only free at place e = elim (cases_eq at index) [
    | inl same ↦
        let there : slice_get new.places index ≡ Some only.places.becomes =
        ap (λ (places : List Place). slice_get places index) only.places.others
        ∙ got_set between.places index only.places.was only.places.becomes only.places.found in
        let it : only.places.becomes ≡ place = same_Some only.places.becomes place (sym there ∙ (ap (slice_get new.places) (sym same) ∙ e)) in
        subst (λ (n : ℕ). PlaceShows setting (gone_on state number later) core (sessions_on sessions number session then) table chunk
        (chunk * setting.rows + n) place) (sym same)
        (subst (λ (one : Place). PlaceShows setting (gone_on state number later) core (sessions_on sessions number session then) table chunk pos one) it
        (shows_row only.places.was only.places.becomes (shows index only.places.was only.places.found) only.places.change))
    | inr apart ↦
        let there : slice_get between.places at ≡ Some place =
        sym (ap (λ (places : List Place). slice_get places at) only.places.others ∙ got_other between.places index at only.places.becomes apart) ∙ e in
        unmoved setting state core sessions number session now then current later table chunk (chunk * setting.rows + at) place work.is_open keeps
        (stands setting state core sessions number session now current table chunk work then later table chunk (chunk * setting.rows + at) keeps working
        fits_later
        (own_away table (chunk * setting.rows + at) (λ same. let s = same.1 in apart (omega (arith, s)))))
        (shows at place there)
  ]
    where
      shows_row : (old becomes : Place) → PlaceShows setting state core sessions table chunk pos old
          → Placed (viewer_of session now) (label_of session) (watermark_of now.cover) row old becomes
          → PlaceShows setting (gone_on state number later) core (sessions_on sessions number session then) table chunk pos becomes
      shows_row old becomes place_shows placed =
          placed_shows setting state core sessions table chunk pos number session now current work (free_there setting state current.begun table pos free)
          old becomes then later row place_shows
          (record {
            is_open = work.is_open;
            unmarked = work.unmarked;
            ids_apart = work.ids_apart;
            start = keeps.start;
            holds_it = holds_own setting later table pos fits_later working ∙ ap is_some own_here;
          })
          (view_own setting state later.begun table pos (Some row) fits_later own_here)
          placed
