-- Small sessions and cores, of which the worked rows are made.
use Rattle.std.specs.Prelude.{ℕ, List, [], ◌∷◌, ◌++◌, true, Option, None, Some}
use Rattle.hy_stamp.specs.declared.Label.{Label}
use Rattle.hy_bound.specs.declared.Bound.{Bound}
use Rattle.hy_bound.specs.declared.Record.{Record}
use Rattle.hy_bound.specs.declared.Reply.{Reply}
use Rattle.hy_bound.specs.declared.Reply.TheVariants.{Rows, Updated}
use Rattle.hy_bound.specs.declared.Txn.{Txn}
use Rattle.hy_bound.specs.Condition.{True}
use Rattle.hy_value.specs.declared.change.Change.{Change}
use Rattle.hy_journal.specs.declared.CoreData.{CoreData}
use Rattle.hy_journal.specs.declared.Entry.{Entry}
use Rattle.hy_plan.specs.ColumnSets.{named_columns}
use Rattle.hy_bound.specs.declared.Ending.{Ending}
use Rattle.hy_render.specs.declared.TxnOutcome.{TxnOutcome}
use Rattle.hy_undo.specs.Places.{Cell}
use Rattle.hy_event.specs.declared.SessionData.{SessionData}
use Rattle.hy_event.specs.declared.Open.{Open}
use Rattle.hy_protocol.specs.declared.Phase.{Phase}
use Rattle.hy_protocol.specs.declared.Phase.TheVariants.{Working, Stamping}
use Rattle.hy_meaning.specs.Statement.{Table}
use Rattle.hy_event.specs.Accounts.{number, account, accounts, is_account, joining, logged, committing, first}

-- ---- sessions: session 0, for a table of two chunks, at its first transaction

abbrev pub session_of : List Txn → Option Open → SessionData
session_of program now = record {
  number = 0;
  program = program;
  shapes = accounts;
  chunks = 2;
  rows = 1;
  prunes = true;
  done = [];
  now = now;
}

-- a session that knows a second table: accounts, and numbers of their owners
abbrev pub with_owners : SessionData → SessionData
with_owners session = record session { shapes = accounts ++ record { width = 2; key = None } ∷ [] }

-- a transaction that began first of all, at time 1
abbrev pub begun : Phase → Open
begun phase = record {
  start = 1;
  prefix = 0;
  cover = record { starts = 1 ∷ []; next = 2 };
  replies = [];
  records = [];
  took = [];
  gathered = [];
  notes = [];
  saved = [];
  wrote = [];
  time = 0;
  phase = phase;
}

-- the same once its first statement is answered
abbrev pub answered : Reply → Option ℕ → Record → List Change → Open
answered reply took read notes =
    record (begun (Working 0 0)) { replies = reply ∷ []; took = took ∷ []; records = read ∷ []; notes = notes }

-- a session whose open transaction has this one statement, and commits
abbrev pub running : Bound → Open → SessionData
running statement now = session_of (committing (statement ∷ []) ∷ []) (Some now)

-- the same once that transaction ended
abbrev pub ended : Bound → TxnOutcome → SessionData
ended statement outcome = record (session_of (committing (statement ∷ []) ∷ []) None) { done = outcome ∷ [] }

-- a session that joins accounts with their owners, of which it gathered one, 7 of account 1, before these accounts
abbrev pub joined_with : List Table → Open → SessionData
joined_with gathered now = with_owners (running joining (record now { gathered = ((number 1 ∷ number 7 ∷ []) ∷ []) ∷ gathered }))

-- the same with its answer: the accounts are recorded by the key that was looked up
abbrev pub join_answered : SessionData
join_answered = with_owners (running joining (record (begun (Working 0 0)) {
  replies = Rows ((number 7 ∷ number 100 ∷ []) ∷ []) ∷ [];
  took = None ∷ [];
  records =
      record { statement = 1; table = 1; pred = True; columns = named_columns 0 2 (0 ∷ 2 ∷ 1 ∷ 3 ∷ []) }
      ∷ record { statement = 1; table = 0; pred = is_account 1; columns = named_columns 2 2 (0 ∷ 2 ∷ 1 ∷ 3 ∷ []) }
      ∷ [];
}))

-- ---- notes and cores

-- a change of position 1
abbrev pub change : Cell → Cell → Change
change before after = record { table = 0; pos = 1; before = before; after = after }

-- account 2 was paid
abbrev pub paid : Change
paid = change (Some (account 2 100)) (Some (account 2 90))

-- the transaction that paid, before its COMMIT; with its entry; and how it ends
abbrev pub payer : Open
payer = answered (Updated 1) None (logged (is_account 2) (0 ∷ [])) (paid ∷ [])

abbrev pub payer_entered : ℕ → Open
payer_entered visited = record payer { notes = []; wrote = record { table = 0; pos = 1 } ∷ []; time = 2; phase = Stamping visited }

abbrev pub payer_ended : Ending → TxnOutcome
payer_ended ending = record {
  label = first;
  start = 0;
  replies = Updated 1 ∷ [];
  ending = ending;
  wrote = record { table = 0; pos = 1 } ∷ [];
  placed = 0 ∷ [];
}

-- a core with these open starts and entries
abbrev pub core_of : ℕ → List ℕ → List Entry → Option Label → CoreData
core_of next active entries mark = record { next = next; active = active; entries = entries; mark = mark }

-- an entry of a transaction that began at time 1, with its commit time
abbrev pub entry_at : Label → ℕ → List Change → Entry
entry_at label time notes = record { label = label; start = 1; time = time; notes = notes }
