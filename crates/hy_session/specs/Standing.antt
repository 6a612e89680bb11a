-- Where a session stands in its script, and which part it needs.
use Rattle.std.specs.Prelude.{ℕ, suc, ◌+◌, ◌-◌, ◌*◌, ◌^◌, min, nat_lt, Option, None, Some, length, if◌then◌else◌}
use Rattle.hy_event.specs.declared.SessionData.{SessionData}
use Rattle.hy_event.specs.declared.Open.{Open}
use Rattle.hy_event.specs.Events.{part_number}
use Rattle.hy_event.specs.Needs.{need_of}
use Rattle.hy_session.specs.declared.Standing.{Standing}

-- the number of the statement that comes next, from 1, since an open transaction has a reply for each one before it; 0 is
-- BEGIN. The number stands still at the end of its type
abbrev pub next_statement : Option Open → ℕ
next_statement None = 0
next_statement (Some now) = min (length now.replies + 1) (2 ^ 32 - 1)

-- where a session stands: its transactions are counted from 1, and those that have ended lie before the present one
abbrev pub standing_of : SessionData → Standing
standing_of session = record {
  session = session.number;
  txn = length session.done + 1;
  statement = next_statement session.now;
}

-- ---- the part that it needs

-- how many parts its tables have: their chunks, and the core
abbrev pub width_of : SessionData → ℕ
width_of session = suc (length session.shapes * session.chunks)

abbrev pub number_within : ℕ → Option ℕ → Option ℕ
number_within count None = None
number_within count (Some number) = if nat_lt number count then Some number else None

-- the number of the part that it needs for its next visit, if that is one of them
abbrev pub needed_number : SessionData → Option ℕ
needed_number session = number_within (width_of session) (part_number session (need_of session))
