use Rattle.std.proofs.Common.{◌≡◌, drop}
use Rattle.std.specs.Option.{option_copied}
use Rattle.hy_lawful.specs.Cells.{after_changes}
use Rattle.hy_explain.proofs.found.after_changes.Given as goal

-- what is left makes of what stands there what all make of what stood there first
abbrev pub invariant-loop-change : goal.invariant-loop-change
invariant-loop-change l = after_changes l.table l.pos (option_copied l.now) (drop l.change-index l.changes)
    ≡ after_changes l.table l.pos (option_copied l.cell) l.changes
