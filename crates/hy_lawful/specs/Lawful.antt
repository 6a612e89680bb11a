-- Lawful outcomes: those that the engine may give of a script, in whatever order its sessions take their steps.
use Rattle.std.specs.Prelude.{◌≡◌, ℕ, ◌<◌, ◌≤◌, List, IfSome, Some, length, slice_get, map}
use Rattle.std.specs.List.{AllByRecursion}
use Rattle.std.specs.Option.{option_map}
use Rattle.hy_bound.specs.declared.Ending.TheVariants.{Committed}
use Rattle.hy_render.specs.declared.TxnOutcome.{TxnOutcome}
use Rattle.hy_render.specs.declared.Committed.{Committed as Entry}
use Rattle.hy_render.specs.declared.Outcome.{Outcome}
use Rattle.hy_machine.specs.declared.Setting.{Setting}
use Rattle.hy_lawful.specs.Scripts.{labels_from}
use Rattle.hy_lawful.specs.Outcomes.{EachFrom, outcome_at, committed_at, later_than}
use Rattle.hy_lawful.specs.Positions.{ArePositions, places_of}
use Rattle.hy_lawful.specs.Endings.{MayEnd}
use Rattle.hy_lawful.specs.Overlaps.{NamesFull}

-- a transaction stands at this rank of the commit order, behind its start
pub record StandsAt (order : List Entry) (txn : TxnOutcome) (rank : ℕ) : Type 0 where
  pub later : txn.start ≤ rank
  pub stands : option_map (λ (entry : Entry). entry.label) (slice_get order rank) ≡ Some txn.label

-- a later transaction of a session starts no earlier than one before it, and behind its commit
pub record Follows (txn later : TxnOutcome) : Type 0 where
  pub start : txn.start ≤ later.start
  pub behind : IfSome (committed_at txn.ending) (λ (rank : ℕ). rank < later.start)

-- an outcome of a script is lawful
pub record Lawful (setting : Setting) (outcome : Outcome) : Type 0 where
  -- every transaction of the script has its outcome, once
  pub transactions : map (λ (txn : TxnOutcome). txn.label) outcome.txns ≡ labels_from 0 setting.programs
  -- what they wrote and what the entries change are positions of the tables
  pub places : AllByRecursion (λ (txn : TxnOutcome). ArePositions setting txn.wrote) outcome.txns
  pub changed_places : AllByRecursion (λ (entry : Entry). ArePositions setting (places_of entry.changes)) outcome.order
  -- every transaction reads from a prefix of the commit order on
  pub starts : AllByRecursion (λ (txn : TxnOutcome). txn.start ≤ length outcome.order) outcome.txns
  -- a committed transaction stands in the order, at its rank
  pub committed : AllByRecursion (λ (txn : TxnOutcome). IfSome (committed_at txn.ending) (StandsAt outcome.order txn)) outcome.txns
  -- what stands in the order has committed at its rank, and so stands there once
  pub order : EachFrom 0 (λ (rank : ℕ) (entry : Entry).
      option_map (λ (txn : TxnOutcome). txn.ending) (outcome_at outcome entry.label) ≡ Some (Committed rank)) outcome.order
  -- along a session starts never fall, and lie behind the commits before them
  pub sessions : AllByRecursion (λ (txn : TxnOutcome). AllByRecursion (Follows txn) (later_than outcome txn)) outcome.txns
  -- every ending is one that may come
  pub endings : AllByRecursion (λ (txn : TxnOutcome). MayEnd setting.programs outcome txn txn.ending) outcome.txns
  -- where a transaction is told that a table is full, the first rows of the table, and what was placed in it by those that
  -- may have taken room, are at least as many as its positions
  pub full : AllByRecursion (λ (txn : TxnOutcome). NamesFull setting outcome txn txn.ending) outcome.txns
