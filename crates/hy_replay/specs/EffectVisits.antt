-- An UPDATE or a DELETE part by part: what it comes to by visits of some positions after others.
use Rattle.std.specs.Prelude.{◌≡◌, ℕ, zero, suc, ◌+◌, ◌*◌, List, [], Option, None, Some, Result, Ok, Err, length}
use Rattle.std.specs.List.{range_with_len}
use Rattle.hy_bound.specs.declared.Record.{Record}
use Rattle.hy_bound.specs.declared.WriteKind.{WriteKind}
use Rattle.hy_bound.specs.Condition.{Condition}
use Rattle.hy_plan.specs.Reads.{records_of}
use Rattle.hy_bound.specs.declared.Ending.{Ending}
use Rattle.hy_machine.specs.declared.Setting.{Setting}
use Rattle.hy_machine.specs.Writes.{Write, with_writes}
use Rattle.hy_machine.specs.Tables.{Tables, Own, over, positions_in}
use Rattle.hy_protocol.specs.Statements.{told_by}
use Rattle.hy_replay.specs.Ran.{One, one, writes_at}
use Rattle.hy_replay.specs.EffectUnseen.{change_of}

-- what visits have come to: the own writes, and how many rows were selected
pub record Visited : Type 0 where
  pub own : Own
  pub count : ℕ

-- what a visit adds, or why it is refused
abbrev pub visited_by : Visited → Result (List Write) Ending → Result Visited Ending
visited_by before (Err cause) = Err cause
visited_by before (Ok writes) = Ok (record { own = with_writes before.own writes; count = before.count + length writes })

-- a visit of some positions of a table: what is written there over the tables with the own writes of the visits before
abbrev pub visit : WriteKind → Condition → Tables → ℕ → List ℕ → Visited → Result Visited Ending
visit kind pred tables table positions before = visited_by before (writes_at kind pred (over tables before.own) table positions)

-- a visit after others, unless one of them was refused
abbrev pub then_visit : WriteKind → Condition → Tables → ℕ → List ℕ → Result Visited Ending → Result Visited Ending
then_visit kind pred tables table positions (Err cause) = Err cause
then_visit kind pred tables table positions (Ok before) = visit kind pred tables table positions before

-- the first so many chunks of a table, one after another
abbrev pub by_chunks : Setting → WriteKind → Condition → Tables → ℕ → ℕ → Visited → Result Visited Ending
by_chunks setting kind pred tables table zero before = Ok before
by_chunks setting kind pred tables table (suc chunks) before =
    then_visit kind pred tables table (positions_in setting chunks) (by_chunks setting kind pred tables table chunks before)

-- what a statement comes to whose visits come to this
abbrev pub answered_by : WriteKind → List Record → Result Visited Ending → Option One
answered_by kind records (Err cause) = None
answered_by kind records (Ok visited) = Some (record { own = visited.own; reply = told_by kind visited.count; records = records })

-- positions from one on, and then those behind them, come to what all of them come to at once: the same own writes, the
-- same count, and the same first refusal
abbrev pub VisitsAddUp : Type 0
VisitsAddUp =
    (kind : WriteKind) (pred : Condition) (tables : Tables) (table first many more : ℕ) (before : Visited)
    → then_visit kind pred tables table (range_with_len (first + many) more) (visit kind pred tables table (range_with_len first many) before)
    ≡ visit kind pred tables table (range_with_len first (many + more)) before

-- so do chunks one after another, of whatever size
abbrev pub ChunksAddUp : Type 0
ChunksAddUp =
    (setting : Setting) (kind : WriteKind) (pred : Condition) (tables : Tables) (table chunks : ℕ) (before : Visited)
    → by_chunks setting kind pred tables table chunks before
    ≡ visit kind pred tables table (range_with_len 0 (chunks * setting.rows)) before

-- an UPDATE or a DELETE is what its chunks come to, one after another
abbrev pub ChangesByChunks : Type 0
ChangesByChunks =
    (setting : Setting) (tables : Tables) (own : Own) (number : ℕ) (kind : WriteKind) (table : ℕ) (pred : Condition) (at : Option ℕ)
    → one setting tables own number (change_of kind table pred) at
    ≡ answered_by kind (records_of setting.shapes number (change_of kind table pred) [])
    (by_chunks setting kind pred tables table setting.chunks (record { own = own; count = 0 }))
