-- The point of a transaction in the serial order is its rank, or else its start.
use Rattle.std.proofs.Common.{◌≡◌, ℕ, ◌<◌, ◌≤◌, List, Option, None, Some, refl, ap, ◌∙◌, length, arith}
use Rattle.std.specs.Prelude.{slice_get, IfSome}
use Rattle.std.specs.List.{AllByRecursion}
use Rattle.std.specs.Option.{option_map, unwrap_or}
use Rattle.std.proofs.lemmas.List.{take_all}
use Rattle.std.proofs.lemmas.Option.{slice_get_within}
use Rattle.hy_bound.specs.declared.Reply.{Reply}
use Rattle.hy_stamp.specs.declared.Label.{Label}
use Rattle.hy_render.specs.declared.TxnOutcome.{TxnOutcome}
use Rattle.hy_render.specs.declared.Committed.{Committed as Entry}
use Rattle.hy_render.specs.declared.Outcome.{Outcome}
use Rattle.hy_machine.specs.declared.Setting.{Setting}
use Rattle.hy_lawful.specs.Outcomes.{committed_at, later_than}
use Rattle.hy_lawful.specs.Databases.{alone_at}
use Rattle.hy_lawful.specs.Lawful.{StandsAt, Follows}
use Rattle.hy_lawful.specs.Serial.{AreFirstOf, RepliesAreOfStart, ReplaysAt}
use Rattle.hy_serial.specs.Points.{point_of, HasItsPoint, EveryTransactionHasItsPoint}
use Rattle.hy_serial.proofs.Items.{all_so, all_both}

-- ---- where a transaction committed, if it did

point_behind_start : (order : List Entry) (txn : TxnOutcome) (rank : Option ℕ) → IfSome rank (StandsAt order txn) → txn.start ≤ unwrap_or rank txn.start
point_behind_start order txn None stands = omega arith
point_behind_start order txn (Some rank) stands = stands.later

entry_within : (order : List Entry) (rank : ℕ) (label : Label) (found : Option Entry) → slice_get order rank ≡ found
    → option_map (λ (entry : Entry). entry.label) found ≡ Some label → rank ≤ length order
entry_within order rank label None e stands = absurd cc
entry_within order rank label (Some entry) e stands =
    let within : rank < length order = slice_get_within order rank entry e in omega (arith, within)

point_within : (order : List Entry) (txn : TxnOutcome) (rank : Option ℕ) → IfSome rank (StandsAt order txn) → txn.start ≤ length order
    → unwrap_or rank txn.start ≤ length order
point_within order txn None stands within = within
point_within order txn (Some rank) stands within = entry_within order rank txn.label (slice_get order rank) refl stands.stands

all_first : (replies others : List Reply) → others ≡ replies → AreFirstOf replies others
all_first replies others same = take_all (length replies) others (omega (arith, ap (λ (all : List Reply). length all) same)) ∙ same

told_at_point : (setting : Setting) (order : List Entry) (txn : TxnOutcome) (rank : Option ℕ) → IfSome rank (ReplaysAt setting order txn)
    → RepliesAreOfStart setting order txn → AreFirstOf txn.replies (alone_at setting order txn.label (unwrap_or rank txn.start)).replies
told_at_point setting order txn None replays first = first
told_at_point setting order txn (Some rank) replays first =
    all_first txn.replies (alone_at setting order txn.label rank).replies replays.gives

point_before : (start later : ℕ) (rank : Option ℕ) → start ≤ later → IfSome rank (λ (at : ℕ). at < later) → unwrap_or rank start ≤ later
point_before start later None behind after = behind
point_before start later (Some rank) behind after = omega (arith, after)

-- ---- all transactions

-- what an outcome says of a transaction
record IsOrdered (setting : Setting) (outcome : Outcome) (txn : TxnOutcome) : Type 0 where
  starts : txn.start ≤ length outcome.order
  stands : IfSome (committed_at txn.ending) (StandsAt outcome.order txn)
  follows : AllByRecursion (Follows txn) (later_than outcome txn)
  first : RepliesAreOfStart setting outcome.order txn
  replays : IfSome (committed_at txn.ending) (ReplaysAt setting outcome.order txn)

has_its_point : (setting : Setting) (outcome : Outcome) (txn : TxnOutcome) → IsOrdered setting outcome txn → HasItsPoint setting outcome txn
has_its_point setting outcome txn is = record {
  began = point_behind_start outcome.order txn (committed_at txn.ending) is.stands;
  within = point_within outcome.order txn (committed_at txn.ending) is.stands is.starts;
  told = told_at_point setting outcome.order txn (committed_at txn.ending) is.replays is.first;
  later = all_so (Follows txn) (λ (later : TxnOutcome). point_of txn ≤ later.start) (later_than outcome txn)
      (λ later follows. point_before txn.start later.start (committed_at txn.ending) follows.start follows.behind) is.follows;
  seen = all_so (Follows txn) (λ (later : TxnOutcome). IfSome (committed_at txn.ending) (λ (rank : ℕ). rank < later.start)) (later_than outcome txn)
      (λ later follows. follows.behind) is.follows;
}

pub every_point : EveryTransactionHasItsPoint
every_point setting outcome lawful is_serial =
    let Starts : TxnOutcome → Type 0 = λ (txn : TxnOutcome). txn.start ≤ length outcome.order in
    let Stands : TxnOutcome → Type 0 = λ (txn : TxnOutcome). IfSome (committed_at txn.ending) (StandsAt outcome.order txn) in
    let Session : TxnOutcome → Type 0 = λ (txn : TxnOutcome). AllByRecursion (Follows txn) (later_than outcome txn) in
    let First : TxnOutcome → Type 0 = RepliesAreOfStart setting outcome.order in
    let Replayed : TxnOutcome → Type 0 = λ (txn : TxnOutcome). IfSome (committed_at txn.ending) (ReplaysAt setting outcome.order txn) in
    let Lawfully : TxnOutcome → Type 0 = λ (txn : TxnOutcome). Starts txn × (Stands txn × Session txn) in
    let Serially : TxnOutcome → Type 0 = λ (txn : TxnOutcome). First txn × Replayed txn in
    all_so (λ (txn : TxnOutcome). Lawfully txn × Serially txn) (HasItsPoint setting outcome) outcome.txns
    (λ txn h. has_its_point setting outcome txn
    (record { starts = h.0.0; stands = h.0.1.0; follows = h.0.1.1; first = h.1.0; replays = h.1.1 }))
    (all_both Lawfully Serially outcome.txns
    (all_both Starts (λ (txn : TxnOutcome). Stands txn × Session txn) outcome.txns lawful.starts
    (all_both Stands Session outcome.txns lawful.committed lawful.sessions))
    (all_both First Replayed outcome.txns is_serial.replies is_serial.replays))
