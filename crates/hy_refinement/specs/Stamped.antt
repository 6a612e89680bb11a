-- Which chunks still have the marked transaction's own records, and how many entries count in a chunk.
use Rattle.std.specs.Prelude.{◌≡◌, ◌≢◌, ◌⊎◌, ℕ, ◌-◌, List, [], Bool, true, false, not, Option, None, Some, take, length, if◌then◌else◌}
use Rattle.hy_machine.specs.declared.Setting.{Setting}
use Rattle.hy_protocol.specs.declared.Phase.{Phase}
use Rattle.hy_protocol.specs.declared.Phase.TheVariants.{Working, Stamping, Undoing}
use Rattle.hy_machine.specs.States.{State, Open}
use Rattle.hy_machine.specs.Writes.{written_chunks, is_among}
use Rattle.hy_machine.specs.Sessions.{session_at}

-- how many of the chunks that a transaction wrote are stamped
abbrev pub stamped : Phase → ℕ
stamped (Working visited count) = 0
stamped (Stamping visited) = visited
stamped (Undoing visited cause) = 0

-- the chunks that an open transaction has stamped
abbrev pub stamped_chunks : Setting → Option Open → List (ℕ × ℕ)
stamped_chunks setting None = []
stamped_chunks setting (Some current) = take (stamped current.phase) (written_chunks setting current.begun.own)

-- some session is marked, and it has not stamped a chunk
abbrev pub is_unstamped_by : Setting → State → Option ℕ → ℕ → ℕ → Bool
is_unstamped_by setting state None table chunk = false
is_unstamped_by setting state (Some marked) table chunk = not (is_among (stamped_chunks setting (session_at state marked).now) table chunk)

abbrev pub is_unstamped : Setting → State → ℕ → ℕ → Bool
is_unstamped setting state table chunk = is_unstamped_by setting state state.mark table chunk

-- how many entries count in a chunk: where the marked session has not stamped it, the last one doesn't yet
abbrev pub entries_counted : Setting → State → ℕ → ℕ → ℕ
entries_counted setting state table chunk =
    if is_unstamped setting state table chunk then length state.order - 1 else length state.order

-- a session has not stamped a chunk
abbrev pub HasNotStamped : Setting → State → ℕ → ℕ → ℕ → Type 0
HasNotStamped setting state number table chunk = (state.mark ≢ Some number) ⊎ (is_unstamped setting state table chunk ≡ true)
