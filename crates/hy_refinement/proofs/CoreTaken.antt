-- A visit of the core is the machine's turn where parts and sessions after it show the state after that turn.
use Rattle.std.proofs.Common.{◌≡◌, ℕ, List, sym, ap, subst}
use Rattle.std.specs.Prelude.{slice_set}
use Rattle.hy_journal.specs.declared.CoreData.{CoreData}
use Rattle.hy_event.specs.declared.SessionData.{SessionData}
use Rattle.hy_protocol.specs.declared.Progress.{Progress}
use Rattle.hy_event.specs.Turns.{Step}
use Rattle.hy_event.specs.Events.{Part, CorePart}
use Rattle.hy_machine.specs.Writes.{Write}
use Rattle.hy_machine.specs.declared.Setting.{Setting}
use Rattle.hy_machine.specs.States.{State}
use Rattle.hy_protocol.specs.Turns.{Turn}
use Rattle.hy_machine.specs.Steps.{after_turn}
use Rattle.hy_refinement.specs.Shows.{Shows}
use Rattle.hy_refinement.specs.Taken.{IsTaken, core_number}

pub core_taken : (setting : Setting) (state : State) (parts : List Part) (sessions : List SessionData) (number : ℕ) (turn : Turn Write)
    (left : SessionData) (kept : CoreData)
    → Shows setting (after_turn setting state number turn).0 (slice_set parts (core_number setting) (CorePart kept)) (slice_set sessions number left)
    → (progress : Progress) (after : SessionData) (new : CoreData)
    → ◌≡◌ {A = Step} (after, progress) (left, (after_turn setting state number turn).1) → new ≡ kept
    → IsTaken setting state parts sessions number turn (core_number setting) progress after (CorePart new)
core_taken setting state parts sessions number turn left kept shows progress after new takes is = record {
  answer = sym (ap (λ (step : Step). step.1) takes);
  shows = subst (λ (session : SessionData). Shows setting (after_turn setting state number turn).0
      (slice_set parts (core_number setting) (CorePart new)) (slice_set sessions number session)) (sym (ap (λ (step : Step). step.0) takes))
      (subst (λ (core : CoreData). Shows setting (after_turn setting state number turn).0
      (slice_set parts (core_number setting) (CorePart core)) (slice_set sessions number left)) (sym is) shows);
}
