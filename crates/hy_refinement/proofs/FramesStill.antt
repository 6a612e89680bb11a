-- A transaction that goes on with what it wrote, and no chunk more stamped or undone, stands everywhere as before.
use Rattle.std.proofs.Common.{◌≡◌, ℕ, Option, Some, None, Bool, cond, not, refl, sym, ap, ◌∙◌, inl, inr, is_some, drop, take, List}
use Rattle.std.specs.Prelude.{◌&&◌}
use Rattle.std.proofs.lemmas.Bool.{cases_eq}
use Rattle.hy_protocol.specs.declared.Phase.TheVariants as phase
use Rattle.hy_machine.specs.declared.Setting.{Setting}
use Rattle.hy_protocol.specs.declared.Phase.{Phase}
use Rattle.hy_machine.specs.States.{State, Session, Open as MachineOpen}
use Rattle.hy_machine.specs.Positions.{item_at}
use Rattle.hy_machine.specs.Tables.{Own, over, chunk_of}
use Rattle.hy_machine.specs.Writes.{written_chunks, is_among}
use Rattle.hy_machine.specs.Sessions.{session_at, snapshot}
use Rattle.hy_machine.specs.Holding.{holds, undone}
use Rattle.hy_refinement.specs.Stamped.{stamped, stamped_chunks, is_unstamped, is_unstamped_by}
use Rattle.hy_refinement.specs.Frames.{gone_on, StandsAsBefore}
use Rattle.hy_refinement.proofs.FramesOpened.{goes_there, stays_there}

-- where it has stamped the same chunks, the marked session has stamped a chunk or not as before
pub unstamped_still : (setting : Setting) (state : State) (number table chunk : ℕ) (current later : MachineOpen)
    → (session_at state number).now ≡ Some current → stamped_chunks setting (Some later) ≡ stamped_chunks setting (Some current)
    → is_unstamped setting (gone_on state number later) table chunk ≡ is_unstamped setting state table chunk
unstamped_still setting state number table chunk current later is same = by state.mark
  where
    at : (marked : ℕ) → stamped_chunks setting (session_at (gone_on state number later) marked).now ≡ stamped_chunks setting (session_at state marked).now
    at marked = elim (cases_eq marked number) [
      | inl e ↦
          ap (λ (n : ℕ). stamped_chunks setting (session_at (gone_on state number later) n).now) e
          ∙ (ap (λ (one : Session). stamped_chunks setting one.now) (goes_there state number current later is)
          ∙ (same ∙ (ap (stamped_chunks setting) (sym is) ∙ ap (λ (n : ℕ). stamped_chunks setting (session_at state n).now) (sym e))))
      | inr apart ↦ ap (λ (one : Session). stamped_chunks setting one.now) (stays_there state number marked later apart)
    ]

    by : (mark : Option ℕ) → is_unstamped_by setting (gone_on state number later) mark table chunk ≡ is_unstamped_by setting state mark table chunk
    by None = refl
    by (Some marked) = ap (λ (chunks : List (ℕ × ℕ)). not (is_among chunks table chunk)) (at marked)

-- it wrote the same, and holds and has stamped as much of it
pub record IsStill (current later : MachineOpen) : Type 0 where
  pub own : later.begun.own ≡ current.begun.own
  pub prefix : later.begun.prefix ≡ current.begun.prefix
  pub undone_same : undone later.phase ≡ undone current.phase
  pub stamped_same : stamped later.phase ≡ stamped current.phase

holds_by : Setting → ℕ → ℕ → Own → ℕ → Bool
holds_by setting table pos own count = is_some (item_at own table pos) && is_among (drop count (written_chunks setting own)) table (chunk_of setting pos)

holds_still : (setting : Setting) (table pos : ℕ) (current later : MachineOpen) → IsStill current later
    → holds setting table pos (Some later) ≡ holds setting table pos (Some current)
unfolding holds_by
holds_still setting table pos current later still =
    ap (λ (own : Own). holds_by setting table pos own (undone later.phase)) still.own
    ∙ ap (λ (count : ℕ). holds_by setting table pos current.begun.own count) still.undone_same

pub stands_still : (setting : Setting) (state : State) (number table chunk pos : ℕ) (current later : MachineOpen)
    → (session_at state number).now ≡ Some current → IsStill current later
    → StandsAsBefore setting state number table chunk pos current later
stands_still setting state number table chunk pos current later is still = record {
  holds_it = holds_still setting table pos current later still;
  cell =
      ap (λ (b : Bool). cond b (item_at (over (snapshot setting state later.begun.prefix) later.begun.own) table pos)
      (item_at (snapshot setting state later.begun.prefix) table pos)) (holds_still setting table pos current later still)
      ∙ (ap (λ (own : Own). cond (holds setting table pos (Some current)) (item_at (over (snapshot setting state later.begun.prefix) own) table pos)
      (item_at (snapshot setting state later.begun.prefix) table pos)) still.own
      ∙ ap (λ (prefix : ℕ). cond (holds setting table pos (Some current)) (item_at (over (snapshot setting state prefix) current.begun.own) table pos)
      (item_at (snapshot setting state prefix) table pos)) still.prefix);
  unstamped = unstamped_still setting state number table chunk current later is
      (ap (λ (own : Own). take (stamped later.phase) (written_chunks setting own)) still.own
      ∙ ap (λ (count : ℕ). take count (written_chunks setting current.begun.own)) still.stamped_same);
}

-- while it works it has neither stamped nor undone a chunk
pub works : (visited count : ℕ) (stands : Phase) → stands ≡ phase.Working visited count → (undone stands ≡ 0) × (stamped stands ≡ 0)
works visited count stands e = (ap undone e, ap stamped e)
