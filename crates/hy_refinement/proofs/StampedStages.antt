-- Which chunks the marked transaction has not stamped.
use Rattle.std.proofs.Common.{◌≡◌, ℕ, Option, Some, take, not, ap, ◌∙◌}
use Rattle.hy_protocol.specs.declared.Phase.{Phase}
use Rattle.hy_protocol.specs.declared.Phase.TheVariants as phase
use Rattle.hy_machine.specs.declared.Setting.{Setting}
use Rattle.hy_machine.specs.States.{State, Open as MachineOpen}
use Rattle.hy_machine.specs.Writes.{written_chunks, is_among}
use Rattle.hy_machine.specs.Sessions.{session_at}
use Rattle.hy_refinement.specs.Stamped.{is_unstamped, is_unstamped_by, stamped_chunks, stamped}

-- the chunks that are not stamped are those behind the stamped ones
pub unstamped_is : (setting : Setting) (state : State) (number visited table chunk : ℕ) (current : MachineOpen) → state.mark ≡ Some number
    → (session_at state number).now ≡ Some current → current.phase ≡ phase.Stamping visited
    → is_unstamped setting state table chunk ≡ not (is_among (take visited (written_chunks setting current.begun.own)) table chunk)
unstamped_is setting state number visited table chunk current mark there stage_is =
    ap (λ (mark : Option ℕ). is_unstamped_by setting state mark table chunk) mark
    ∙ (ap (λ (now : Option MachineOpen). not (is_among (stamped_chunks setting now) table chunk)) there
    ∙ ap (λ (s : Phase). not (is_among (take (stamped s) (written_chunks setting current.begun.own)) table chunk)) stage_is)
