-- An open transaction at work in a chunk that it visits.
use Rattle.std.proofs.Common.{◌≡◌, ℕ, List, Some, true, false, sym, ap, ◌∙◌, arith}
use Rattle.std.proofs.lemmas.Option.{same_Some}
use Rattle.hy_stamp.specs.declared.Label.{Label}
use Rattle.hy_stamp.specs.Times.{IsLabel, id_of}
use Rattle.hy_undo.specs.Chunks.{ChunkData}
use Rattle.hy_journal.specs.declared.CoreData.{CoreData}
use Rattle.hy_event.specs.declared.SessionData.{SessionData}
use Rattle.hy_event.specs.declared.Open.{Open}
use Rattle.hy_protocol.specs.declared.Phase.TheVariants as phase
use Rattle.hy_protocol.specs.Turns.{is_stamping}
use Rattle.hy_event.specs.Sessions.{label_of}
use Rattle.hy_event.specs.Events.{Part}
use Rattle.hy_machine.specs.declared.Setting.{Setting}
use Rattle.hy_machine.specs.States.{State, Open as MachineOpen}
use Rattle.hy_machine.specs.Holding.{undone}
use Rattle.hy_refinement.specs.Transactions.{IsOpen}
use Rattle.hy_refinement.specs.Taken.{AtChunk}
use Rattle.hy_refinement.proofs.RivalTops.{open_shown}
use Rattle.hy_refinement.proofs.WritesChunk.{AtWork}

module _ (one_id : (a b : Label) → IsLabel a → IsLabel b → id_of a ≡ id_of b → a ≡ b) (setting : Setting) (state : State) (parts : List Part)
    (sessions : List SessionData) (number : ℕ) (session : SessionData) (now : Open) (current : MachineOpen) (table chunk : ℕ) (old : ChunkData)
    (visited count : ℕ) (at : AtChunk setting state parts sessions number session now current table chunk old)
    (phase_is : now.phase ≡ phase.Working visited count) where
  abbrev core : CoreData
  core = at.at_open.shown.shows.core

  is : IsOpen state sessions number session now current
  is = at.at_open.is_open

  works : current.phase ≡ phase.Working visited count
  works =
      let shows_open = open_shown setting state core sessions number session now current at.at_open.shown.shows.sessions_show is in
      sym shows_open.open_shows.phase ∙ phase_is

  unmarked : state.mark ≡ Some number → ⊥
  unmarked e =
      let marked = at.at_open.shown.kept.ranks.marked number e in
      let same : marked.0 ≡ current = same_Some marked.0 current (sym marked.1.0 ∙ is.open_there) in
      absurd (let f : true ≡ false = sym marked.1.1 ∙ (ap (λ (c : MachineOpen). is_stamping c.phase) same ∙ ap is_stamping works) in cc)

  ids_apart : (other : ℕ) (another : SessionData) (there : Open) (present : MachineOpen) → (other ≡ number → ⊥)
      → IsOpen state sessions other another there present → id_of (label_of session) ≡ id_of (label_of another) → ⊥
  ids_apart other another there present apart one e =
      let shown = at.at_open.shown in
      let same = ap (λ (l : Label). l.session) (one_id (label_of session) (label_of another) (shown.labels number session now current is)
      (shown.labels other another there present one) e) in
      let mine = (shown.shows.sessions_show.each number session is.found).session_is.number_is in
      let theirs = (shown.shows.sessions_show.each other another one.found).session_is.number_is in
      apart (sym theirs ∙ (sym same ∙ mine))

  pub at_work_in : AtWork setting state core sessions number session now current table chunk
  at_work_in = record {
    kept = at.at_open.shown.kept;
    below_ids = at.at_open.shown.below_ids;
    core_shows = at.at_open.shown.shows.core_shows;
    sessions_show = at.at_open.shown.shows.sessions_show;
    is_open = is;
    unmarked = unmarked;
    working = ap undone works;
    table_below = let shapes = at.at_open.shown.kept.fits.shapes in let below = at.is_part.table_below in omega (arith, shapes, below);
    chunk_below = at.is_part.chunk_below;
    ids_apart = ids_apart;
  }
