-- What a transaction that goes back to a savepoint puts back in a chunk: at each position that it noted since, its own record is on
-- top, and the row that comes is of the types of the columns and has the key of the row that stood there before.
use Rattle.std.proofs.Common.{◌≡◌, ◌≢◌, ℕ, ◌+◌, ◌*◌, List, Option, None, Some, true, sym, ap, ◌∙◌, subst, inl, inr}
use Rattle.std.specs.Prelude.{IfSome, slice_get}
use Rattle.std.proofs.lemmas.Option.{same_Some}
use Rattle.hy_value.specs.declared.Kind.{Kind}
use Rattle.hy_value.specs.declared.Value.{Value}
use Rattle.hy_bound.specs.Predicate.{column_of}
use Rattle.hy_bound.specs.Records.{shape_of}
use Rattle.hy_stamp.specs.Times.{id_of}
use Rattle.hy_chain.specs.Chains.{newest}
use Rattle.hy_undo.specs.Places.{Cell, Place, cell_of}
use Rattle.hy_undo.specs.Chunks.{ChunkData, is_own}
use Rattle.hy_chunk.specs.Backing.{MayGoBack, behind}
use Rattle.hy_chunk.specs.Keyed.{SameKey}
use Rattle.hy_visit.specs.Backing.{MayAllGoBack}
use Rattle.hy_event.specs.declared.SessionData.{SessionData}
use Rattle.hy_event.specs.declared.Open.{Open}
use Rattle.hy_event.specs.Backing.{noted_before}
use Rattle.hy_event.specs.Events.{Part}
use Rattle.hy_event.specs.Sessions.{label_of, notes_since}
use Rattle.hy_protocol.specs.declared.Phase.TheVariants as phase
use Rattle.hy_protocol.specs.Turns.{is_stamping}
use Rattle.hy_machine.specs.declared.Setting.{Setting}
use Rattle.hy_machine.specs.States.{State, Open as MachineOpen}
use Rattle.hy_machine.specs.Positions.{item_at}
use Rattle.hy_machine.specs.Saving.{count_at}
use Rattle.hy_machine.specs.Sessions.{snapshot}
use Rattle.hy_machine.specs.Kept.{IsNow, KeysStay}
use Rattle.hy_lawful.specs.Rows.{RowsMeet, passes}
use Rattle.hy_refinement.specs.OwnRecords.{WasSeen, BehindOwnIsTheStart, NotesHaveWhatWasSeen}
use Rattle.hy_refinement.specs.Parts.{ChunkIs}
use Rattle.hy_refinement.specs.Rivals.{ShownAt}
use Rattle.hy_refinement.specs.Taken.{AtOpen}
use Rattle.hy_stepping.specs.Typed.{kinds_of}
use Rattle.hy_stepping.proofs.RowTypes.{is_typed, row_fits}

-- what is known of a reached state where a transaction goes back: the rows are of their types, and own rows keep their keys
pub record BackLaws (setting : Setting) (kinds : List (List Kind)) (state : State) : Type 0 where
  pub rows : RowsMeet (passes (is_typed kinds)) setting state
  pub keys : KeysStay setting state
  pub behind : BehindOwnIsTheStart
  pub seen : NotesHaveWhatWasSeen

-- a row that was seen passes what all rows pass
row_passes : (setting : Setting) (kinds : List (List Kind)) (state : State) → RowsMeet (passes (is_typed kinds)) setting state
    → (number : ℕ) (current : MachineOpen) → IsNow state number current → (name : List ℕ) (table pos : ℕ) (row : List Value)
    → WasSeen setting state current.begun name table pos (Some row) → is_typed kinds table row ≡ true
row_passes setting kinds state rows number current is_now name table pos row (inl own) =
    rows.opens number current is_now (count_at current.begun name) table pos (Some row) own
row_passes setting kinds state rows number current is_now name table pos row (inr start) =
    subst (λ (cell : Option (List Value)). IfSome cell (passes (is_typed kinds) table)) (sym start) (rows.tables current.begun.prefix table pos)

-- a row that was seen has the key of the row at the start, where there is one
same_key : (setting : Setting) (state : State) → KeysStay setting state → (number : ℕ) (current : MachineOpen) → IsNow state number current
    → (name : List ℕ) (table pos : ℕ) (key : Option ℕ) (row was : List Value) → (shape_of setting.shapes table).key ≡ key
    → WasSeen setting state current.begun name table pos (Some row) → item_at (snapshot setting state current.begun.prefix) table pos ≡ Some was
    → SameKey key row was
same_key setting state keys number current is_now name table pos None row was key_is seen start = tt
same_key setting state keys number current is_now name table pos (Some column) row was key_is (inl own) start =
    keys number current is_now (count_at current.begun name) table pos column was row key_is start own
same_key setting state keys number current is_now name table pos (Some column) row was key_is (inr at_start) start =
    ap (λ (row : List Value). column_of row column) (same_Some row was (at_start ∙ start))

-- ---- a chunk

module _ (setting : Setting) (kinds : List (List Kind)) (state : State) (parts : List Part) (sessions : List SessionData) (number : ℕ)
    (session : SessionData) (now : Open) (current : MachineOpen) (visited count : ℕ) (name : List ℕ) (table chunk : ℕ) (part : ChunkData)
    (laws : BackLaws setting kinds state) (at : AtOpen setting state parts sessions number session now current)
    (stands : current.phase ≡ phase.Working visited count) (working : now.phase ≡ phase.Working visited count)
    (chunk_is : ChunkIs setting table chunk part) where
  -- it has no entry yet
  unmarked : state.mark ≢ Some number
  unmarked e =
      let marked = at.shown.kept.ranks.marked number e in
      let same : marked.0 ≡ current = same_Some marked.0 current (sym marked.1.0 ∙ at.is_open.open_there) in
      absurd (let f = sym marked.1.1 ∙ (ap (λ (c : MachineOpen). is_stamping c.phase) same ∙ ap is_stamping stands) in cc)

  -- at a position
  module _ (pos : ℕ) (place : Place) (shown_at : ShownAt setting state at.shown.shows.core sessions table chunk pos place) (cell : Cell)
      (noted : noted_before (notes_since now name) table pos ≡ Some cell) where
    own : is_own (id_of (label_of session)) (newest place.chain) ≡ true
    own =
        (shown_at.place_shows.own_heads number session now current at.is_open (inl unmarked)).holds_it
        ∙ (laws.seen setting state parts sessions number session now current visited count name table pos cell at working noted).0

    seen : WasSeen setting state current.begun name table pos cell
    seen = (laws.seen setting state parts sessions number session now current visited count name table pos cell at working noted).1

    at_start : cell_of (behind place) ≡ item_at (snapshot setting state current.begun.prefix) table pos
    at_start = laws.behind setting state at.shown.shows.core sessions table chunk pos place shown_at number session now current at.is_open unmarked own

    goes_back : MayGoBack (kinds_of kinds table) part.key (id_of (label_of session)) cell place
    goes_back = record {
      own = own;
      fits = λ row is. row_fits (kinds_of kinds table) row
          (row_passes setting kinds state laws.rows number current at.is_open.open_there name table pos row
          (subst (λ (cell : Cell). WasSeen setting state current.begun name table pos cell) is seen));
      same_key = λ row was is stood.
          same_key setting state laws.keys number current at.is_open.open_there name table pos part.key row was (sym chunk_is.key)
          (subst (λ (cell : Cell). WasSeen setting state current.begun name table pos cell) is seen) (sym at_start ∙ stood);
    }

  pub all_go_back : ((index : ℕ) (place : Place) → slice_get part.places index ≡ Some place
      → ShownAt setting state at.shown.shows.core sessions table chunk (chunk * setting.rows + index) place)
      → MayAllGoBack (kinds_of kinds table) part.key (id_of (label_of session)) (notes_since now name) part
  all_go_back shown_at index place cell there noted =
      goes_back (chunk * setting.rows + index) place (shown_at index place there) cell
      (subst (λ (n : ℕ). noted_before (notes_since now name) table (n + index) ≡ Some cell) chunk_is.first
      (subst (λ (n : ℕ). noted_before (notes_since now name) n (part.first + index) ≡ Some cell) chunk_is.table_is noted))
