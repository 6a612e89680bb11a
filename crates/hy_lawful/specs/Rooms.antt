-- How many positions of a table a transaction placed: it wrote them where no row was at its start.
use Rattle.std.specs.Prelude.{◌≡◌, ℕ, zero, suc, ◌+◌, ◌≤◌, Bool, not, ◌&&◌, if◌then◌else◌, is_some, Some, slice_get}
use Rattle.hy_machine.specs.declared.Setting.{Setting}
use Rattle.hy_machine.specs.States.{State, Finished}
use Rattle.hy_machine.specs.Positions.{item_at}
use Rattle.hy_machine.specs.Tables.{Tables, Own, capacity}
use Rattle.hy_machine.specs.Sessions.{session_at, snapshot}
use Rattle.hy_machine.specs.Outcomes.{placed_in}
use Rattle.hy_machine.specs.Runs.{IsReached}
use Rattle.hy_lawful.specs.Reached.{statements_at}

-- how many numbers below a bound pass a test
abbrev pub how_many : (ℕ → Bool) → ℕ → ℕ
how_many test zero = 0
how_many test (suc bound) = (if test bound then 1 else 0) + how_many test bound

-- whether a position was placed: it is among these own writes, and the tables of the start have no row there
abbrev pub has_placed : Tables → Own → ℕ → ℕ → Bool
has_placed tables own table pos = is_some (item_at own table pos) && not (is_some (item_at tables table pos))

-- a transaction that has ended placed no more positions of a table than its INSERTs took
abbrev pub ReachedPlaced : Type 0
ReachedPlaced = (setting : Setting) (state : State) → IsReached setting state → (number before : ℕ) (finished : Finished)
    → slice_get (session_at state number).done before ≡ Some finished → (table : ℕ)
    → how_many (has_placed (snapshot setting state finished.begun.prefix) finished.begun.own table) (capacity setting)
    ≤ placed_in table (statements_at setting number before) finished.begun.took
