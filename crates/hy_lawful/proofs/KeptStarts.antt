-- In each state that the machine comes to, watermarks are at most starts, and starts at most commits and entries.
use Rattle.std.proofs.Common.{◌≡◌, ℕ, ◌≤◌, List, Option, Some, length, subst}
use Rattle.std.specs.Prelude.{IfSome}
use Rattle.hy_bound.specs.declared.Ending.{Ending}
use Rattle.hy_bound.specs.declared.Ending.TheVariants.{Committed}
use Rattle.hy_render.specs.declared.TxnOutcome.{TxnOutcome}
use Rattle.hy_machine.specs.declared.Setting.{Setting}
use Rattle.hy_machine.specs.States.{State, Open, Begun, Finished}
use Rattle.hy_machine.specs.Tables.{Entry}
use Rattle.hy_machine.specs.Sessions.{session_at}
use Rattle.hy_machine.specs.Outcomes.{txn_outcome_of}
use Rattle.hy_machine.specs.Runs.{IsReached}
use Rattle.hy_machine.specs.Kept.{IsNow, IsEnded, IsAtOrOpen, ended, at_work, Starts, LowsLieLow, NoneBeganSince}
use Rattle.hy_lawful.specs.Outcomes.{committed_at}
use Rattle.hy_lawful.proofs.Lists.{one_of}
use Rattle.hy_lawful.proofs.Fits.{Ends}
use Rattle.hy_lawful.proofs.Followers.{done_fits}
use Rattle.hy_lawful.proofs.Reached.{reached_fits}
use Rattle.hy_lawful.proofs.PassStates.{OpenPasses, NowPasses}
use Rattle.hy_lawful.proofs.PassSteps.{reached_passes}
use Rattle.hy_lawful.proofs.FoundLows.{NowLow, EndLow, SessionLow, LowsUnder, reached_low}
use Rattle.hy_lawful.proofs.FullMarks.{NowBefore, reached_before}
use Rattle.hy_lawful.proofs.KeptSteps.{EndStands, reached_stands}

-- an open transaction passes
pub open_passes : (setting : Setting) (state : State) → IsReached setting state → (number : ℕ) (current : Open) → IsNow state number current
    → OpenPasses setting state.order current
open_passes setting state r number current is = subst (NowPasses setting state.order) is ((reached_passes setting state r).sessions number).now

commits_later : (setting : Setting) (order : List Entry) (txn : TxnOutcome) (ending : Ending) (rank : ℕ) → ending ≡ Committed rank
    → Ends setting order txn ending → txn.start ≤ rank
commits_later setting order txn ending rank e h = (subst (Ends setting order txn) e h).later

ended_starts : (setting : Setting) (state : State) → IsReached setting state → (number before : ℕ) (finished : Finished) (rank : ℕ)
    → IsEnded state number before finished → finished.ending ≡ Committed rank
    → (finished.begun.low ≤ finished.begun.prefix) × (finished.begun.prefix ≤ rank)
ended_starts setting state r number before finished rank at e = (
  one_of EndStands (session_at state number).done (reached_stands setting state r number).done before finished at,
  commits_later setting state.order (txn_outcome_of setting number before finished) finished.ending rank e
      (done_fits setting state (reached_fits setting state r) number before finished at).ends,
)

pub starts_kept : (setting : Setting) (state : State) → IsReached setting state → Starts state
starts_kept setting state r = record {
  opens = λ number current is. ((open_passes setting state r number current is).low, (open_passes setting state r number current is).born.start);
  ended = ended_starts setting state r;
}

low_of : (setting : Setting) (state : State) → IsReached setting state → (start rank : ℕ) → start ≤ rank
    → ((other : ℕ) → SessionLow start (session_at state other)) → (begun : Begun) → IsAtOrOpen state rank begun → begun.low ≤ start
low_of setting state r start rank from lows begun (ended number before finished at e) =
    subst (λ (ending : Ending). IfSome (committed_at ending) (λ (rank : ℕ). start ≤ rank → finished.begun.low ≤ start)) e
    (one_of (EndLow start) (session_at state number).done (lows number).done before finished at) from
low_of setting state r start rank from lows begun (at_work number current is) = subst (NowLow start) is (lows number).now

pub lows_kept : (setting : Setting) (state : State) → IsReached setting state → LowsLieLow state
lows_kept setting state r number current is rank from =
    low_of setting state r current.begun.prefix rank from (subst (LowsUnder state) is (reached_low setting state r number))

pub none_began : (setting : Setting) (state : State) → IsReached setting state → NoneBeganSince state
none_began setting state r marked m number current is =
    subst (NowBefore (length state.order) (Some marked)) is
    (subst (λ (mark : Option ℕ). NowBefore (length state.order) mark (session_at state number).now) m (reached_before setting state r number))
