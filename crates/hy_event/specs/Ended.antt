-- What a transaction comes to where it ends.
use Rattle.std.specs.Prelude.{ℕ, List, [], Bool, false, ◌&&◌, ◌==◌, Option, None, Some, is_some, map, count_by, zip, length}
use Rattle.std.specs.List.{range_with_len}
use Rattle.hy_bound.specs.declared.Bound.{Bound}
use Rattle.hy_bound.specs.declared.Bound.TheVariants.{Select, Group, Insert, Update, Delete, Savepoint, RollbackTo, Release}
use Rattle.hy_bound.specs.declared.Txn.{Txn}
use Rattle.hy_bound.specs.declared.Ending.{Ending}
use Rattle.hy_render.specs.declared.TxnOutcome.{TxnOutcome}
use Rattle.hy_event.specs.declared.SessionData.{SessionData}
use Rattle.hy_event.specs.declared.Open.{Open}
use Rattle.hy_event.specs.Sessions.{txn_at, label_of, written}

-- whether a statement is an INSERT into a table
abbrev pub inserts_into : ℕ → Bound → Bool
inserts_into table (Select tables ons pred items) = false
inserts_into table (Group other pred key aggregate) = false
inserts_into table (Insert other row) = other == table
inserts_into table (Update other sets pred) = false
inserts_into table (Delete other pred) = false
inserts_into table (Savepoint name) = false
inserts_into table (RollbackTo name) = false
inserts_into table (Release name) = false

-- how many positions of a table answered statements took
abbrev pub placed_in : ℕ → List Bound → List (Option ℕ) → ℕ
placed_in table statements took = count_by (λ one. inserts_into table one.0 && is_some one.1) (zip statements took)

abbrev pub statements_in : Option Txn → List Bound
statements_in None = []
statements_in (Some txn) = txn.statements

-- what a session's open transaction comes to where it ends
abbrev pub outcome_of : SessionData → Open → Ending → TxnOutcome
outcome_of session now ending = record {
  label = label_of session;
  start = now.prefix;
  replies = now.replies;
  ending = ending;
  wrote = written now;
  placed = map (λ table. placed_in table (statements_in (txn_at session)) now.took) (range_with_len 0 (length session.shapes));
}
