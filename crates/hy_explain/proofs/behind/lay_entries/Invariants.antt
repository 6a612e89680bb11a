use Rattle.std.proofs.Common.{◌≡◌, ℕ, drop}
use Rattle.std.specs.Prelude.{slice_get}
use Rattle.std.specs.Option.{option_map}
use Rattle.hy_machine.specs.Tables.{Cell}
use Rattle.hy_lawful.specs.Cells.{after_changes}
use Rattle.hy_explain.specs.Behind.{changes_of, cells_after}
use Rattle.hy_explain.proofs.behind.lay_entries.Given as goal

-- at each position the entries that are left make of what stands there what all make of the first row
abbrev pub invariant-loop-entry : goal.invariant-loop-entry
invariant-loop-entry l = (pos : ℕ)
    → option_map (λ (cell : Cell). after_changes l.table pos cell (changes_of (drop l.entry-index l.entries))) (slice_get l.cells pos)
    ≡ slice_get (cells_after l.rows l.table l.entries l.positions) pos
