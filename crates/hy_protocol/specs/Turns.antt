-- What a session does in a step, as a value, over whatever is told of a write.
use Rattle.std.specs.Prelude.{ℕ, suc, List, [], Bool, true, false, Option, None, Some}
use Rattle.hy_bound.specs.declared.Bound.{Bound}
use Rattle.hy_bound.specs.declared.Record.{Record}
use Rattle.hy_bound.specs.declared.Reply.{Reply}
use Rattle.hy_bound.specs.declared.Ending.{Ending}
use Rattle.hy_stamp.specs.declared.Label.{Label}
use Rattle.hy_protocol.specs.declared.Phase.{Phase}
use Rattle.hy_protocol.specs.declared.Phase.TheVariants.{Working, Stamping, Undoing}

-- whether a transaction that stands so has its entry, and not its end
abbrev pub is_stamping : Phase → Bool
is_stamping (Working visited count) = false
is_stamping (Stamping visited) = true
is_stamping (Undoing visited cause) = false

-- what a session does next: nothing, its script being at its end; it waits for a transaction that stands between the
-- entry of its commit and its end; it begins its next transaction; its open transaction writes, and goes on to a phase
-- without an answer, or answers its present statement, an INSERT with the position that it took; its savepoints are those
-- after its present statement, which is answered so; the entry of its open transaction goes into the commit order; its open
-- transaction ends
pub data Turn (W : Type 0) : Type 0 where
  Done : Turn W
  Waits : (by : Label) → Turn W
  Begins : Turn W
  Visits : (writes : List W) (phase : Phase) → Turn W
  Answers : (writes : List W) (reply : Reply) (took : Option ℕ) (records : List Record) → Turn W
  Saves : (statement : Bound) (reply : Reply) → Turn W
  Enters : Turn W
  Ends : (ending : Ending) → Turn W

-- a visit that neither writes nor answers
abbrev pub goes_on : {W : Type 0} → ℕ → Turn W
goes_on visited = Visits [] (Working (suc visited) 0)

-- a transaction is refused: it will be undone, and end so
abbrev pub refused : {W : Type 0} → Ending → Turn W
refused ending = Visits [] (Undoing 0 ending)

-- a core step is taken unless another transaction stands between its entry and its end
abbrev pub unless_blocked : {W : Type 0} → Option Label → Turn W → Turn W
unless_blocked None turn = turn
unless_blocked (Some by) turn = Waits by
