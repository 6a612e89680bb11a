-- What a session can ask of where it stands.
use Rattle.std.specs.Prelude.{ℕ, List, Bool, Option, Result}
use Rattle.hy_value.specs.declared.Value.{Value}
use Rattle.hy_bound.specs.declared.Aggregate.{Aggregate}
use Rattle.hy_bound.specs.declared.Items.{Items}
use Rattle.hy_bound.specs.declared.On.{On}
use Rattle.hy_bound.specs.declared.Reply.{Reply}
use Rattle.hy_bound.specs.declared.Shape.{Shape}
use Rattle.hy_bound.specs.declared.WriteKind.{WriteKind}
use Rattle.hy_bound.specs.Condition.{Condition}
use Rattle.hy_bound.specs.declared.Ending.{Ending}
use Rattle.hy_stamp.specs.declared.Label.{Label}

-- how tables lie: the columns of each, and how many chunks each has
pub record Layout : Type 0 where
  pub shapes : List Shape
  pub chunks : ℕ

-- what an INSERT finds out in a chunk of its table: whether its transaction sees a row that has the key of a row, the first
-- position that is free for it, and the write that puts a row at a position
pub record Places (W : Type 0) : Type 0 where
  pub sees_key : (table : ℕ) → List Value → (key : Option ℕ) → (chunk : ℕ) → Bool
  pub free_position : (table chunk : ℕ) → Option ℕ
  pub put : (table : ℕ) → List Value → (pos : ℕ) → W

-- what its open transaction finds out in chunks, and what is told of a write
pub record InChunks (W : Type 0) : Type 0 where
  -- the rows that a SELECT logs and its reply, and the reply of one with GROUP BY
  pub selected : List ℕ → List On → Condition → Items → List (List (List Value)) × Reply
  pub grouped : ℕ → Condition → ℕ → Aggregate → Reply
  -- what an UPDATE or a DELETE writes of a table in a chunk, or how it is refused there
  pub swept : WriteKind → Condition → (table chunk : ℕ) → Result (List W) Ending
  pub places : Places W
  -- the chunks that it wrote since its newest savepoint of a name, by table and then chunk, and what it writes in one of them to
  -- go back to what it saw there then
  pub written_since : List ℕ → List (ℕ × ℕ)
  pub taken_back : List ℕ → (table chunk : ℕ) → List W

-- what it finds out for itself and at the core
pub record AtCore : Type 0 where
  -- the transaction that stands between its entry and its end, if it is another session's
  pub blocked : Option Label
  -- whether it wrote nothing, and the chunks that it wrote, by table and then chunk
  pub wrote_nothing : Bool
  pub written : List (ℕ × ℕ)
  -- how it ends where a change that another one committed since its start hits what it read
  pub hit : Option Ending
  -- the rank of the last entry
  pub last : ℕ
