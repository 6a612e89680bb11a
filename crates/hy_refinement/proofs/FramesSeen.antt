-- What an open transaction that works sees in a chunk is what its view has there.
use Rattle.std.proofs.Common.{◌≡◌, ◌≢◌, ℕ, zero, suc, ◌+◌, ◌*◌, List, [], ◌∷◌, length, map, drop, Option, None, Some, Bool, true, false, cond}
use Rattle.std.proofs.Common.{refl, sym, ap, ◌∙◌, arith, inl, inr, is_some}
use Rattle.std.specs.Prelude.{slice_get, ◌&&◌}
use Rattle.std.specs.List.{range_with_len}
use Rattle.std.proofs.lemmas.Bool.{cases_Bool, and_from}
use Rattle.std.proofs.lemmas.Option.{same_Some}
use Rattle.hy_undo.specs.Places.{Place, sees}
use Rattle.hy_undo.specs.Chunks.{ChunkData, rows_seen}
use Rattle.hy_event.specs.declared.SessionData.{SessionData}
use Rattle.hy_event.specs.declared.Open.{Open}
use Rattle.hy_protocol.specs.declared.Phase.TheVariants as phase
use Rattle.hy_protocol.specs.Turns.{is_stamping}
use Rattle.hy_event.specs.Sessions.{viewer_of}
use Rattle.hy_event.specs.Events.{Part}
use Rattle.hy_machine.specs.declared.Setting.{Setting}
use Rattle.hy_machine.specs.States.{State, Open as MachineOpen}
use Rattle.hy_machine.specs.Positions.{item_at}
use Rattle.hy_machine.specs.Tables.{chunk_of, positions_in}
use Rattle.hy_machine.specs.Writes.{written_chunks, is_among}
use Rattle.hy_machine.specs.Sessions.{snapshot, view}
use Rattle.hy_machine.specs.Holding.{holds, undone}
use Rattle.hy_machine.specs.Kept.{OwnFits}
use Rattle.hy_refinement.specs.Sessions.{OpenShows}
use Rattle.hy_refinement.specs.Places.{cell_held}
use Rattle.hy_refinement.specs.Taken.{AtChunk}
use Rattle.hy_refinement.proofs.Orders.{tables_over}
use Rattle.hy_machine.specs.WrittenPlaces.{own_among}
use Rattle.hy_refinement.proofs.RivalTops.{open_shown}
use Rattle.hy_refinement.proofs.FramesTurns.{one_chunk}

-- ---- one position

none_there : {A : Type 0} (o : Option A) → is_some o ≡ false → o ≡ None
none_there None e = refl
none_there (Some x) e = absurd cc

-- of what was not undone it holds all that it wrote, so that its cell is the one of its view
pub held_cell : (setting : Setting) (state : State) (table pos : ℕ) (current : MachineOpen) → OwnFits setting current.begun.own → undone current.phase ≡ 0
    → cell_held setting state table pos current ≡ item_at (view setting state current.begun) table pos
held_cell setting state table pos current fits none = elim (cases_Bool (holds setting table pos (Some current))) [
  | inl yes' ↦
      ap (λ (b : Bool). cond b (item_at (view setting state current.begun) table pos) (item_at (snapshot setting state current.begun.prefix) table pos)) yes'
  | inr isnt ↦
      ap (λ (b : Bool). cond b (item_at (view setting state current.begun) table pos) (item_at (snapshot setting state current.begun.prefix) table pos)) isnt
      ∙ sym (tables_over (λ own. own) (snapshot setting state current.begun.prefix) current.begun.own table pos
      (none_there (item_at current.begun.own table pos) (unwritten isnt)))
]
  where
    unwritten : holds setting table pos (Some current) ≡ false → is_some (item_at current.begun.own table pos) ≡ false
    unwritten isnt = elim (cases_Bool (is_some (item_at current.begun.own table pos))) [
      | inr no' ↦ no'
      | inl wrote ↦
          let here : holds setting table pos (Some current) ≡ true =
          ap (λ (n : ℕ). is_some (item_at current.begun.own table pos)
          && is_among (drop n (written_chunks setting current.begun.own)) table (chunk_of setting pos)) none
          ∙ and_from (is_some (item_at current.begun.own table pos)) (is_among (written_chunks setting current.begun.own) table (chunk_of setting pos))
          wrote (own_among setting current.begun.own table pos fits wrote) in
          absurd (let e : true ≡ false = sym here ∙ isnt in cc)
    ]

-- ---- lists

maps_alike : {A B : Type 0} (f : A → B) (g : ℕ → B) (xs : List A) (first : ℕ) → ((i : ℕ) (x : A) → slice_get xs i ≡ Some x → f x ≡ g (first + i))
    → map f xs ≡ map g (range_with_len first (length xs))
maps_alike f g [] first same = refl
maps_alike {A} {B} f g (x ∷ xs) first same =
    ap (λ (y : B). y ∷ map f xs) (same zero x refl ∙ ap g (let e : first + zero ≡ first = omega arith in e))
    ∙ ap (λ (ys : List B). g first ∷ ys)
    (maps_alike f g xs (first + 1) (λ i y e. same (suc i) y e ∙ ap g (let s : first + suc i ≡ first + 1 + i = omega arith in s)))

-- ---- a chunk

module _ (setting : Setting) (state : State) (parts : List Part) (sessions : List SessionData) (number : ℕ) (session : SessionData)
    (now : Open) (current : MachineOpen) (table chunk : ℕ) (old : ChunkData)
    (at : AtChunk setting state parts sessions number session now current table chunk old)
    (visited count : ℕ) (phase_is : now.phase ≡ phase.Working visited count) where
  pub was_shown : OpenShows setting state at.at_open.shown.shows.core number now current
  was_shown = open_shown setting state at.at_open.shown.shows.core sessions number session now current at.at_open.shown.shows.sessions_show at.at_open.is_open

  pub at_work : (undone current.phase ≡ 0) × (is_stamping current.phase ≡ false)
  at_work =
      let stands : current.phase ≡ phase.Working visited count = sym was_shown.open_shows.phase ∙ phase_is in
      (ap undone stands, ap is_stamping stands)

  pub unmarked : state.mark ≢ Some number
  unmarked e =
      let marked = at.at_open.shown.kept.ranks.marked number e in
      let one : marked.0 ≡ current = same_Some marked.0 current (sym marked.1.0 ∙ at.at_open.is_open.open_there) in
      let stamps : true ≡ false = sym marked.1.1 ∙ (ap (λ (it : MachineOpen). is_stamping it.phase) one ∙ at_work.1) in
      absurd cc

  pub seen_at : (index : ℕ) (place : Place) → slice_get old.places index ≡ Some place
      → sees (viewer_of session now) place ≡ item_at (view setting state current.begun) table (chunk * setting.rows + index)
  seen_at index place e =
      (at.at_open.shown.shows.places_show table chunk index old place at.is_part e).viewer_sees number session now current at.at_open.is_open (inl unmarked)
      ∙ held_cell setting state table (chunk * setting.rows + index) current
      (at.at_open.shown.kept.fits.opens number current at.at_open.is_open.open_there).own at_work.0

  pub places_long : length old.places ≡ setting.rows
  places_long =
      let has = at.at_open.shown.shows.parts_are.chunks table chunk at.is_part.table_below at.is_part.chunk_below in
      ap (λ (part : ChunkData). length part.places)
      (one_chunk parts (table * setting.chunks + chunk) old has.part at.is_part.found has.is_part.found) ∙ has.chunk_is.places

  -- what it sees is the view, position by position
  pub seen_cells : rows_seen (viewer_of session now) old.places ≡ map (item_at (view setting state current.begun) table) (positions_in setting chunk)
  seen_cells =
      maps_alike (sees (viewer_of session now)) (item_at (view setting state current.begun) table) old.places (chunk * setting.rows) seen_at
      ∙ ap (λ (n : ℕ). map (item_at (view setting state current.begun) table) (range_with_len (chunk * setting.rows) n)) places_long
