-- What an open transaction that goes back to a savepoint finds where it wrote.
use Rattle.std.specs.Prelude.{◌≡◌, ◌≢◌, ◌⊎◌, ℕ, List, Some, true}
use Rattle.hy_stamp.specs.Times.{id_of}
use Rattle.hy_chain.specs.Chains.{before_newest, newest}
use Rattle.hy_undo.specs.Images.{before}
use Rattle.hy_undo.specs.Places.{Cell, Place, cell_of}
use Rattle.hy_undo.specs.Chunks.{is_own}
use Rattle.hy_journal.specs.declared.CoreData.{CoreData}
use Rattle.hy_event.specs.declared.SessionData.{SessionData}
use Rattle.hy_event.specs.declared.Open.{Open}
use Rattle.hy_event.specs.Backing.{noted_before}
use Rattle.hy_event.specs.Events.{Part}
use Rattle.hy_event.specs.Sessions.{label_of, notes_since}
use Rattle.hy_protocol.specs.declared.Phase.TheVariants.{Working}
use Rattle.hy_machine.specs.declared.Setting.{Setting}
use Rattle.hy_machine.specs.States.{State, Begun, Open as MachineOpen}
use Rattle.hy_machine.specs.Positions.{item_at}
use Rattle.hy_machine.specs.Saving.{own_at}
use Rattle.hy_machine.specs.Sessions.{snapshot}
use Rattle.hy_machine.specs.Holding.{holds}
use Rattle.hy_refinement.specs.Transactions.{OfOpen}
use Rattle.hy_refinement.specs.Rivals.{ShownAt}
use Rattle.hy_refinement.specs.Taken.{AtOpen}

-- where the newest record of a position is that of an open transaction that has no entry yet, what stood there before it is
-- what the tables of its start have there
abbrev pub BehindOwnIsTheStart : Type 0
BehindOwnIsTheStart =
    (setting : Setting) (state : State) (core : CoreData) (sessions : List SessionData) (table chunk pos : ℕ) (place : Place)
    → ShownAt setting state core sessions table chunk pos place
    → OfOpen state sessions (λ number session now current.
    state.mark ≢ Some number → is_own (id_of (label_of session)) (newest place.chain) ≡ true
    → cell_of (before_newest before place.version place.chain) ≡ item_at (snapshot setting state current.begun.prefix) table pos)

-- a transaction saw this cell at a position when its newest savepoint of a name was made: its own, or that of its start
abbrev pub WasSeen : Setting → State → Begun → List ℕ → ℕ → ℕ → Cell → Type 0
WasSeen setting state begun name table pos cell =
    (item_at (own_at setting begun name) table pos ≡ Some cell) ⊎ (cell ≡ item_at (snapshot setting state begun.prefix) table pos)

-- where an open transaction at work noted a change since a savepoint it holds the position, and its note has what it saw there then
abbrev pub NotesHaveWhatWasSeen : Type 0
NotesHaveWhatWasSeen =
    (setting : Setting) (state : State) (parts : List Part) (sessions : List SessionData) (number : ℕ) (session : SessionData)
    (now : Open) (current : MachineOpen) (visited count : ℕ) (name : List ℕ) (table pos : ℕ) (cell : Cell)
    → AtOpen setting state parts sessions number session now current → now.phase ≡ Working visited count
    → noted_before (notes_since now name) table pos ≡ Some cell
    → (holds setting table pos (Some current) ≡ true) × WasSeen setting state current.begun name table pos cell
