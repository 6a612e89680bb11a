-- A transaction that isn't marked has stamped no chunk before it goes on, and none then.
use Rattle.std.proofs.Common.{◌≡◌, ℕ, Option, None, Some, not, refl, ap}
use Rattle.hy_machine.specs.declared.Setting.{Setting}
use Rattle.hy_machine.specs.States.{State, Session, Open as MachineOpen}
use Rattle.hy_machine.specs.Writes.{is_among}
use Rattle.hy_refinement.specs.Stamped.{is_unstamped, is_unstamped_by, stamped_chunks}
use Rattle.hy_refinement.specs.Frames.{gone_on}
use Rattle.hy_refinement.proofs.FramesOpened.{stays_there}

pub unstamped_on : (setting : Setting) (state : State) (number : ℕ) (later : MachineOpen) (table chunk : ℕ) → (state.mark ≡ Some number → ⊥)
    → is_unstamped setting (gone_on state number later) table chunk ≡ is_unstamped setting state table chunk
unstamped_on setting state number later table chunk = by_mark state.mark
  where
    by_mark : (mark : Option ℕ) → (mark ≡ Some number → ⊥)
        → is_unstamped_by setting (gone_on state number later) mark table chunk ≡ is_unstamped_by setting state mark table chunk
    by_mark None apart = refl
    by_mark (Some marked) apart =
        ap (λ (one : Session). not (is_among (stamped_chunks setting one.now) table chunk))
        (stays_there state number marked later (λ same. apart (ap (λ (n : ℕ). Some n) same)))
