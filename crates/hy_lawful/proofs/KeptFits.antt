-- In each state that the machine comes to, open transactions are of their scripts, and stand where these let them.
use Rattle.std.proofs.Common.{◌≡◌, ℕ, ◌<◌, ◌≤◌, Option, None, Some, length, refl, subst, arith}
use Rattle.hy_bound.specs.declared.Txn.{Txn}
use Rattle.hy_machine.specs.declared.Setting.{Setting}
use Rattle.hy_protocol.specs.declared.Phase.{Phase}
use Rattle.hy_protocol.specs.declared.Phase.TheVariants.{Working, Stamping, Undoing}
use Rattle.hy_machine.specs.States.{State, Open, Begun}
use Rattle.hy_machine.specs.Sessions.{session_at, program_of, txn_at}
use Rattle.hy_machine.specs.Outcomes.{statements_in}
use Rattle.hy_machine.specs.Runs.{IsReached}
use Rattle.hy_machine.specs.Kept.{IsNow}
use Rattle.hy_machine.specs.Kept as kept
use Rattle.hy_lawful.specs.Reached.{statements_at}
use Rattle.hy_lawful.specs.Scripts.{ClosesWithCommit}
use Rattle.hy_lawful.specs.Scripts as scripts
use Rattle.hy_lawful.proofs.Lists.{over_past}
use Rattle.hy_lawful.proofs.Fits.{PhaseFits, OpenFits, NowFits}
use Rattle.hy_lawful.proofs.Reached.{reached_fits}
use Rattle.hy_lawful.proofs.KeptStands.{PhaseStands}
use Rattle.hy_lawful.proofs.Trails.{reached_trails}
use Rattle.hy_lawful.proofs.KeptSteps.{OpenStands, NowStands, reached_stands}

-- an open transaction fits
pub open_fits : (setting : Setting) (state : State) → IsReached setting state → (number : ℕ) (current : Open) → IsNow state number current
    → OpenFits setting state.order state.mark number (session_at state number).done current
open_fits setting state r number current is =
    subst (NowFits setting state.order state.mark number (session_at state number).done) is ((reached_fits setting state r).sessions number).now

phase_kept : (setting : Setting) (state : State) (number : ℕ) (begun : Begun) (txn : Option Txn) → txn_at setting number (session_at state number) ≡ txn
    → length (session_at state number).done < length (program_of setting number) → (phase : Phase)
    → PhaseFits setting state.order state.mark number (length (session_at state number).done) begun phase
    → PhaseStands setting (statements_in txn) begun phase → kept.PhaseFits setting txn begun phase
phase_kept setting state number begun None e there phase h s =
    absurd (omega (arith, there, over_past (program_of setting number) (length (session_at state number).done) e))
phase_kept setting state number begun (Some txn) e there (Working visited count) h s = record {
  answered = subst (λ (one : Option Txn). length begun.replies ≤ length (scripts.statements_in one)) e h;
  visits = s;
}
phase_kept setting state number begun (Some txn) e there (Stamping visited) h s = (
  subst ClosesWithCommit e h.1.ends.closes,
  (subst (λ (one : Option Txn). length begun.replies ≡ length (scripts.statements_in one)) e h.1.ends.answers, s),
)
phase_kept setting state number begun (Some txn) e there (Undoing visited cause) h s = s

open_kept : (setting : Setting) (state : State) → IsReached setting state → (number : ℕ) (current : Open) → IsNow state number current
    → kept.OpenFits setting state number current
open_kept setting state r number current is =
    let fits : OpenFits setting state.order state.mark number (session_at state number).done current = open_fits setting state r number current is in
    let stands : OpenStands setting (statements_at setting number (length (session_at state number).done)) current =
    subst (NowStands setting (statements_at setting number (length (session_at state number).done))) is (reached_stands setting state r number).now in
    record {
      own = stands.own;
      trail = reached_trails setting state r number current is;
      took = stands.took;
      phase = phase_kept setting state number current.begun (txn_at setting number (session_at state number)) refl fits.there current.phase fits.phase
          stands.phase;
    }

pub fits_kept : (setting : Setting) (state : State) → length setting.first ≡ length setting.shapes → IsReached setting state → kept.Fits setting state
fits_kept setting state same r = record {
  count = (reached_fits setting state r).count;
  shapes = same;
  within = λ number. ((reached_fits setting state r).sessions number).few;
  opens = open_kept setting state r;
}
