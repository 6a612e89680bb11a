-- Which positions an INSERT may take.
use Rattle.std.specs.Prelude.{◌≡◌, ◌≢◌, ℕ, ◌<◌, List, [], Some, length, slice_index_or}
use Rattle.hy_prune.specs.Fates.{watermark_of}
use Rattle.hy_undo.specs.Places.{Place, is_free}
use Rattle.hy_journal.specs.declared.CoreData.{CoreData}
use Rattle.hy_event.specs.declared.SessionData.{SessionData}
use Rattle.hy_machine.specs.declared.Setting.{Setting}
use Rattle.hy_machine.specs.States.{State}
use Rattle.hy_machine.specs.Tables.{Tables, opening_tables}
use Rattle.hy_machine.specs.Holding.{is_free as is_free_there}
use Rattle.hy_refinement.specs.Transactions.{OfOpen}
use Rattle.hy_refinement.specs.Rivals.{ShownAt}

-- tables have a position
pub record HasPosition (tables : Tables) (table pos : ℕ) : Type 0 where
  pub table_below : table < length tables
  pub pos_below : pos < length (slice_index_or tables table [])

-- a position is free by the watermark of an open transaction that has no entry yet exactly where it is free for it in
-- the machine
abbrev pub FreeIsTheMachines : Type 0
FreeIsTheMachines =
    (setting : Setting) (state : State) (core : CoreData) (sessions : List SessionData) (table chunk pos : ℕ) (place : Place)
    → ShownAt setting state core sessions table chunk pos place → HasPosition (opening_tables setting) table pos
    → OfOpen state sessions (λ number session now current.
    state.mark ≢ Some number → is_free (watermark_of now.cover) place ≡ is_free_there setting state current.begun table pos)
