-- How many transactions have begun.
use Rattle.std.specs.Prelude.{ℕ, ◌+◌, Option, None, Some, length, sum_by}
use Rattle.hy_machine.specs.States.{State, Session, Open}

-- one where a transaction is open
abbrev pub count_open : Option Open → ℕ
count_open None = 0
count_open (Some current) = 1

-- how many transactions have begun, ended or open
abbrev pub count_begun : State → ℕ
count_begun state = sum_by (λ (session : Session). length session.done + count_open session.now) state.sessions
