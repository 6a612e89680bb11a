use Rattle.std.proofs.Common.{◌≡◌, drop}
use Rattle.std.specs.Prelude.{[], flat_map, slice_get, slice_index_or}
use Rattle.std.specs.Option.{option_copied}
use Rattle.hy_render.specs.declared.Committed.{Committed as Entry}
use Rattle.hy_lawful.specs.Cells.{after_changes}
use Rattle.hy_explain.proofs.found.cell_before.Given as goal

-- what is left makes of what stands there what all make of what stood there first
abbrev pub invariant-loop-entry : goal.invariant-loop-entry
invariant-loop-entry l = after_changes l.table l.pos (option_copied l.cell) (flat_map (λ (entry : Entry). entry.changes) (drop l.entry-index l.entries))
    ≡ after_changes l.table l.pos (slice_get (slice_index_or l.rows l.table []) l.pos) (flat_map (λ (entry : Entry). entry.changes) l.entries)
