use Rattle.std.proofs.Common.{◌≡◌, ℕ, drop}
use Rattle.std.specs.Prelude.{slice_get}
use Rattle.std.specs.Option.{option_map}
use Rattle.hy_machine.specs.Tables.{Cell}
use Rattle.hy_lawful.specs.Cells.{after_changes}
use Rattle.hy_explain.proofs.behind.lay_changes.Given as goal

-- at each position what is left makes of what stands there what all make of what stood there first
abbrev pub invariant-loop-change : goal.invariant-loop-change
invariant-loop-change l = (pos : ℕ)
    → option_map (λ (cell : Cell). after_changes l.table pos cell (drop l.change-index l.changes)) (slice_get l.cells pos)
    ≡ option_map (λ (cell : Cell). after_changes l.table pos cell l.changes) (slice_get l.fn.cells pos)
