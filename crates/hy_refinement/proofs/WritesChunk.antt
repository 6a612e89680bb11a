-- A chunk of which positions are written shows what is written.
use Rattle.std.proofs.Common.{◌≡◌, ℕ, zero, suc, ◌+◌, ◌-◌, ◌*◌, ◌<◌, ◌≤◌, List, length, Option, None, Some, Ok, true}
use Rattle.std.proofs.Common.{sym, ap, ◌∙◌, subst, arith, inl, inr}
use Rattle.std.specs.Prelude.{slice_get, is_some}
use Rattle.std.specs.Option.{option_or}
use Rattle.std.proofs.lemmas.Bool.{cases_lt}
use Rattle.std.proofs.lemmas.Nat.{mul-add-lt}
use Rattle.hy_stamp.specs.declared.Label.{Label}
use Rattle.hy_stamp.specs.declared.Viewer.{Viewer}
use Rattle.hy_stamp.specs.Times.{id_of}
use Rattle.hy_chain.specs.Chains.{rival}
use Rattle.hy_bound.specs.declared.Assign.{Assign}
use Rattle.hy_bound.specs.Condition.{Condition}
use Rattle.hy_undo.specs.Places.{Place, Cell, sees}
use Rattle.hy_undo.specs.Chunks.{ChunkData, Written}
use Rattle.hy_undo.specs.Sweeps.{verdict, swept, AllWritten}
use Rattle.hy_journal.specs.declared.CoreData.{CoreData}
use Rattle.hy_event.specs.declared.SessionData.{SessionData}
use Rattle.hy_event.specs.declared.Open.{Open}
use Rattle.hy_event.specs.Sessions.{label_of, viewer_of}
use Rattle.hy_machine.specs.declared.Setting.{Setting}
use Rattle.hy_machine.specs.States.{State, Open as MachineOpen}
use Rattle.hy_machine.specs.Positions.{item_at}
use Rattle.hy_machine.specs.Writes.{with_writes}
use Rattle.hy_machine.specs.Sessions.{view}
use Rattle.hy_machine.specs.Holding.{opponent, undone}
use Rattle.hy_protocol.specs.Statements.{kind_of}
use Rattle.hy_machine.specs.Visits.{verdict_at, verdict as verdict_there, swept as swept_there}
use Rattle.hy_refinement.specs.Transactions.{IsOpen}
use Rattle.hy_refinement.specs.Numbers.{CoreShows}
use Rattle.hy_refinement.specs.Places.{PlaceShows, cell_held, is_used}
use Rattle.hy_refinement.specs.Parts.{ChunkIs}
use Rattle.hy_refinement.specs.Pruned.{IsBelowIds}
use Rattle.hy_refinement.specs.Rivals.{RivalsAreOpponents}
use Rattle.hy_machine.specs.Kept.{Kept, OwnFits, TrailFits}
use Rattle.hy_refinement.specs.Shows.{SessionsShow}
use Rattle.hy_refinement.specs.Frames.{gone_on, sessions_on, KeepsStart, StandsAsBefore, StandsElsewhere, ChunkShows, UnmovedPlacesShow}
use Rattle.hy_refinement.proofs.WritesOpen.{unstamped_on}
use Rattle.hy_refinement.proofs.WritesOwn.{writes_from, writes_fit, writes_away, writes_at}
use Rattle.hy_refinement.proofs.WritesViews.{none_or_some, view_own, views_alike, holds_own, held_is_view, used_where_seen}
use Rattle.hy_refinement.proofs.WritesSweep.{as_verdict, as_sweep, same_verdict, same_sweep, swept_at, written_where_seen, WrittenBy, written_at}
use Rattle.hy_refinement.proofs.WritesPlace.{written_shows}

-- an open transaction at work in a chunk, in a state that is shown
pub record AtWork (setting : Setting) (state : State) (core : CoreData) (sessions : List SessionData) (number : ℕ) (session : SessionData)
    (now : Open) (current : MachineOpen) (table chunk : ℕ) : Type 0 where
  pub kept : Kept setting state
  pub below_ids : IsBelowIds core
  pub core_shows : CoreShows state core sessions
  pub sessions_show : SessionsShow setting state core sessions
  pub is_open : IsOpen state sessions number session now current
  pub unmarked : state.mark ≡ Some number → ⊥
  pub working : undone current.phase ≡ 0
  pub table_below : table < length setting.first
  pub chunk_below : chunk < setting.chunks
  pub ids_apart : (other : ℕ) (another : SessionData) (there : Open) (present : MachineOpen) → (other ≡ number → ⊥)
      → IsOpen state sessions other another there present → id_of (label_of session) ≡ id_of (label_of another) → ⊥

-- it goes on, and these cells are then its own in that chunk
pub record WritesOn (setting : Setting) (now then : Open) (current later : MachineOpen) (table chunk : ℕ) (cells : List (Option Cell)) : Type 0 where
  pub keeps : KeepsStart now then current later
  pub own : later.begun.own ≡ with_writes current.begun.own (writes_from table (chunk * setting.rows) cells)
  pub working : undone later.phase ≡ 0

-- the positions of a chunk lie in it
in_chunk : (chunk chunks rows index : ℕ) → chunk < chunks → index < rows → chunk * rows + index < chunks * rows
in_chunk chunk chunks rows index below within = let l = mul-add-lt chunk rows index chunks below within in omega (arith, l)

pub chunk_room : (chunk chunks rows long : ℕ) → chunk < chunks → long ≡ rows → chunk * rows + long ≤ chunks * rows
chunk_room chunk chunks zero long below e = omega (arith, e)
chunk_room chunk chunks (suc rows) long below e = let l = in_chunk chunk chunks (suc rows) rows below (omega arith) in omega (arith, l, e)

apart_chunks : (chunk another rows index : ℕ) → (another ≡ chunk → ⊥) → index < rows → chunk * rows ≤ another * rows + index
    → another * rows + index < chunk * rows + rows → ⊥
apart_chunks chunk another rows index apart within from to = elim (cases_lt another chunk) [
  | inl less ↦ absurd (let l = in_chunk another chunk rows index less within in omega (arith, l, from))
  | inr more ↦ elim (cases_lt chunk another) [
    | inr same ↦ absurd (apart (omega (arith, same, more)))
    | inl greater ↦
        let rest : ℕ = rows - 1 in
        let l = in_chunk chunk another rows rest greater (omega (arith, within)) in
        absurd (omega (arith, l, to, within))
  ]
]

module _ (setting : Setting) (state : State) (core : CoreData) (sessions : List SessionData) (number : ℕ) (session : SessionData)
    (now : Open) (current : MachineOpen) (table chunk : ℕ)
    (work : AtWork setting state core sessions number session now current table chunk) where
  pub fits : OwnFits setting current.begun.own
  fits = (work.kept.fits.opens number current work.is_open.open_there).own

  pub trail_fits : TrailFits setting current.begun
  trail_fits = (work.kept.fits.opens number current work.is_open.open_there).trail

  -- it sees its view
  pub sees_view : (pos : ℕ) (place : Place) → PlaceShows setting state core sessions table chunk pos place
      → sees (viewer_of session now) place ≡ item_at (view setting state current.begun) table pos
  sees_view pos place shows =
      shows.viewer_sees number session now current work.is_open (inl work.unmarked) ∙ held_is_view setting state current table pos fits work.working

  same_judgement : RivalsAreOpponents → (sets : Option (List Assign)) (pred : Condition) (pos : ℕ) (place : Place)
      → PlaceShows setting state core sessions table chunk pos place
      → verdict_at setting state number current.begun (kind_of sets) pred table pos
      ≡ as_verdict table (verdict sets pred pos (rival (viewer_of session now) place.chain) (sees (viewer_of session now) place))
  same_judgement rivals sets pred pos place shows = elim (none_or_some (sees viewer place)) [
    | inl none ↦
        ap (verdict_there (kind_of sets) pred table pos against) (sym seen ∙ none)
        ∙ sym (ap (λ (c : Cell). as_verdict table (verdict sets pred pos (rival viewer place.chain) c)) none)
    | inr some ↦
        let same : rival viewer place.chain ≡ against =
        rivals setting state core sessions table chunk pos place
        (record { kept = work.kept; below_ids = work.below_ids; core_shows = work.core_shows; sessions_show = work.sessions_show; place_shows = shows })
        number session now current work.is_open work.unmarked some.0 some.1 in
        ap (λ (o : Option Label). verdict_there (kind_of sets) pred table pos o (item_at (view setting state current.begun) table pos)) (sym same)
        ∙ (ap (verdict_there (kind_of sets) pred table pos (rival viewer place.chain)) (sym seen)
        ∙ same_verdict sets pred table pos (rival viewer place.chain) (sees viewer place))
  ]
    where
      viewer : Viewer
      viewer = viewer_of session now

      against : Option Label
      against = opponent setting state number current.begun.prefix table pos

      seen : sees (viewer_of session now) place ≡ item_at (view setting state current.begun) table pos
      seen = sees_view pos place shows

  -- the sweep of the chunk is the machine's
  pub same_swept : RivalsAreOpponents → (sets : Option (List Assign)) (pred : Condition) (part : ChunkData) → ChunkIs setting table chunk part
      → ChunkShows setting state core sessions table chunk part
      → swept_there setting state number current.begun (kind_of sets) pred table chunk
      ≡ as_sweep table (chunk * setting.rows) (swept sets pred (viewer_of session now) (chunk * setting.rows) part.places)
  same_swept rivals sets pred part is shows =
      same_sweep table (verdict_at setting state number current.begun (kind_of sets) pred table) sets pred (viewer_of session now) (chunk * setting.rows)
      part.places setting.rows is.places
      (λ i place e. same_judgement rivals sets pred (chunk * setting.rows + i) place (shows i place e))

  -- nobody is in the way at a position, and it is used
  pub record IsQuiet (i : ℕ) (place : Place) : Type 0 where
    pub no_rival : rival (viewer_of session now) place.chain ≡ None
    pub used : is_used setting state table (chunk * setting.rows + i) ≡ true

  -- so it is wherever a cell comes
  abbrev pub AreQuiet : List (Option Cell) → List Place → Type 0
  AreQuiet cells places = (i : ℕ) (place : Place) (cell : Cell) → slice_get places i ≡ Some place → slice_get cells i ≡ Some (Some cell) → IsQuiet i place

  -- where a sweep isn't refused it is so
  pub swept_quiet : (sets : Option (List Assign)) (pred : Condition) (cells : List (Option Cell)) (places : List Place)
      → ((i : ℕ) (place : Place) → slice_get places i ≡ Some place
      → PlaceShows setting state core sessions table chunk (chunk * setting.rows + i) place)
      → swept sets pred (viewer_of session now) (chunk * setting.rows) places ≡ Ok cells → AreQuiet cells places
  swept_quiet sets pred cells places shows ok i place cell was is =
      let pos : ℕ = chunk * setting.rows + i in
      let says = swept_at sets pred (viewer_of session now) (chunk * setting.rows) places cells ok i place (Some cell) was is in
      let seen = written_where_seen sets pred pos (rival (viewer_of session now) place.chain) (sees (viewer_of session now) place) cell says in
      let held_cell : cell_held setting state table pos current ≡ Some seen.0.0 =
      sym ((shows i place was).viewer_sees number session now current work.is_open (inl work.unmarked)) ∙ seen.0.1 in
      record {
        no_rival = seen.1;
        used = used_where_seen setting state number current table pos seen.0.0 work.kept work.is_open.open_there held_cell;
      }

  -- where its own cell is the same it stands as before
  pub stands : (then : Open) (later : MachineOpen) (other another pos : ℕ) → KeepsStart now then current later → undone later.phase ≡ 0
      → OwnFits setting later.begun.own
      → item_at later.begun.own other pos ≡ item_at current.begun.own other pos
      → StandsAsBefore setting state number other another pos current later
  stands then later other another pos keeps working fits_later same = record {
    holds_it = holds_own setting later other pos fits_later working
        ∙ (ap is_some same ∙ sym (holds_own setting current other pos fits work.working));
    cell = held_is_view setting state later other pos fits_later working
        ∙ (views_alike setting state current.begun later.begun other pos fits fits_later keeps.prefix_there same
        ∙ sym (held_is_view setting state current other pos fits work.working));
    unstamped = unstamped_on setting state number later other another work.unmarked;
  }

  module _ (then : Open) (later : MachineOpen) (cells : List (Option Cell)) (long : length cells ≡ setting.rows)
      (on : WritesOn setting now then current later table chunk cells) where
    fits_later : OwnFits setting later.begun.own
    fits_later = subst (λ own. OwnFits setting own) (sym on.own)
        (writes_fit setting table (chunk * setting.rows) cells current.begun.own fits work.table_below)

    -- it stands as before in other chunks
    pub stands_elsewhere : StandsElsewhere setting state number current later table chunk
    stands_elsewhere other another index apart within =
        stands then later other another (another * setting.rows + index) on.keeps on.working fits_later
        (ap (λ own. item_at own other (another * setting.rows + index)) on.own
        ∙ writes_away setting table (chunk * setting.rows) cells current.begun.own other (another * setting.rows + index) fits work.table_below
        (λ same from to. apart_chunks chunk another setting.rows index (λ there. apart (same, there)) within from (omega (arith, to, long))))

    own_at : (i : ℕ) (cell : Option Cell) → slice_get cells i ≡ Some cell
        → item_at later.begun.own table (chunk * setting.rows + i) ≡ option_or cell (item_at current.begun.own table (chunk * setting.rows + i))
    own_at i cell e =
        ap (λ own. item_at own table (chunk * setting.rows + i)) on.own
        ∙ writes_at setting table (chunk * setting.rows) cells current.begun.own i cell fits work.table_below
        (chunk_room chunk setting.chunks setting.rows (length cells) work.chunk_below long) e

    -- a position of the chunk shows what is so then
    abbrev pub ShowsThen : ℕ → Place → Type 0
    ShowsThen i place =
        PlaceShows setting (gone_on state number later) core (sessions_on sessions number session then) table chunk (chunk * setting.rows + i) place

    -- a position with a new cell shows it
    written_here : (i : ℕ) (old new : Place) (cell : Cell)
        → PlaceShows setting state core sessions table chunk (chunk * setting.rows + i) old → IsQuiet i old
        → slice_get cells i ≡ Some (Some cell) → Written (viewer_of session now) (label_of session) cell old new
        → ShowsThen i new
    written_here i old new cell shows quiet is w =
        let pos : ℕ = chunk * setting.rows + i in
        let own : item_at later.begun.own table pos ≡ Some cell = own_at i (Some cell) is in
        written_shows setting state core sessions table chunk pos old new number session now then current later cell work.below_ids work.core_shows shows
        (record {
          is_open = work.is_open;
          unmarked = work.unmarked;
          ids_apart = work.ids_apart;
          start = on.keeps.start;
          holds_it = holds_own setting later table pos fits_later on.working ∙ ap is_some own;
        })
        quiet.no_rival quiet.used
        (view_own setting state later.begun table pos cell fits_later own)
        w

    -- the chunk shows what is written
    pub chunk_written : UnmovedPlacesShow → (olds news : List Place)
        → ((i : ℕ) (place : Place) → slice_get olds i ≡ Some place
        → PlaceShows setting state core sessions table chunk (chunk * setting.rows + i) place)
        → AreQuiet cells olds
        → AllWritten (viewer_of session now) (label_of session) cells olds news
        → (i : ℕ) (place : Place) → slice_get news i ≡ Some place
        → ShowsThen i place
    chunk_written unmoved olds news shows quiet all i place e =
        let was = written_at (viewer_of session now) (label_of session) cells olds news all i place e in
        by_cell was.old (shows i was.old was.was) was.cell was.was was.cell_is was.by
      where
        by_cell : (old : Place) → PlaceShows setting state core sessions table chunk (chunk * setting.rows + i) old → (cell : Option Cell)
            → slice_get olds i ≡ Some old → slice_get cells i ≡ Some cell → WrittenBy (viewer_of session now) (label_of session) cell old place
            → ShowsThen i place
        by_cell old shows (Some cell) was is w = written_here i old place cell shows (quiet i old cell was is) is w
        by_cell old shows None was is same =
            subst (ShowsThen i) (sym same)
            (unmoved setting state core sessions number session now then current later table chunk (chunk * setting.rows + i) old work.is_open on.keeps
            (stands then later table chunk (chunk * setting.rows + i) on.keeps on.working fits_later (own_at i None is)) shows)
