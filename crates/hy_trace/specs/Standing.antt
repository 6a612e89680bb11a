-- Where a session stands before a step, and what is told of it after the step.
use Rattle.std.specs.Prelude.{ℕ, suc, List, Bool, nat_lt, Option, None, Some, length, if◌then◌else◌}
use Rattle.std.specs.Option.{option_and_then, option_map}
use Rattle.hy_bound.specs.declared.Ending.{Ending}
use Rattle.hy_bound.specs.declared.Reply.{Reply}
use Rattle.hy_bound.specs.declared.Txn.{Txn}
use Rattle.hy_protocol.specs.declared.Phase.{Phase}
use Rattle.hy_protocol.specs.declared.Phase.TheVariants.{Working, Stamping, Undoing}
use Rattle.hy_machine.specs.declared.Setting.{Setting}
use Rattle.hy_machine.specs.States.{State, Open, Finished}
use Rattle.hy_machine.specs.Sessions.{session_at, txn_at, label_of}
use Rattle.hy_session.specs.Latest.{last_of}
use Rattle.hy_stepping.specs.Standing.{answered_in, part_at, phase_in}
use Rattle.hy_trace.specs.declared.standing.At.{At}
use Rattle.hy_trace.specs.declared.standing.Work.{Work}
use Rattle.hy_trace.specs.declared.standing.Work.TheVariants.{Nothing, Begin, Statement, Commit, Rollback, Stamp, Undo}

-- what closes a transaction
abbrev pub closing_work : Bool → Work
closing_work commits = if commits then Commit else Rollback

-- what an open transaction is at that has answered so many of its statements
abbrev pub phase_work : Txn → ℕ → Phase → Work
phase_work txn answered (Working visited count) =
    if nat_lt answered (length txn.statements) then Statement (suc answered) else closing_work txn.commits
phase_work txn answered (Stamping visited) = Stamp
phase_work txn answered (Undoing visited cause) = Undo

-- what a session is at: this is the transaction of its script, where that is not at its end, and it is open if it stands
-- somewhere
abbrev pub session_work : Option Txn → Option Phase → ℕ → Work
session_work None phase answered = Nothing
session_work (Some txn) None answered = Begin
session_work (Some txn) (Some phase) answered = phase_work txn answered phase

-- where a session stands: its transaction, what it is at, and the part that it visits next
abbrev pub at_of : Setting → State → ℕ → At
at_of setting state number = record {
  label = label_of number (session_at state number);
  work = session_work (txn_at setting number (session_at state number)) (phase_in (session_at state number).now)
      (answered_in (session_at state number).now);
  part = part_at setting state number;
}

-- what is told of a session: how many commits its open transaction reads, the reply to the latest statement of it, and where
-- it stands; how the latest one ended; and how many entries the commit order has
pub record Told : Type 0 where
  pub prefix : Option ℕ
  pub reply : Option Reply
  pub phase : Option Phase
  pub ending : Option Ending
  pub entries : ℕ

abbrev pub told_of : State → ℕ → Told
told_of state number = record {
  prefix = option_map (λ (current : Open). current.begun.prefix) (session_at state number).now;
  reply = option_and_then (λ (current : Open). last_of current.begun.replies) (session_at state number).now;
  phase = phase_in (session_at state number).now;
  ending = option_map (λ (finished : Finished). finished.ending) (last_of (session_at state number).done);
  entries = length state.order;
}
