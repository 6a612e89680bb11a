use Rattle.std.specs.Option.{option_copied}
use Rattle.hy_validate.specs.TreeHits.{is_hit_number, Finds}
use Rattle.hy_validate.proofs.Sought.{HasBelow}
use Rattle.hy_validate.proofs.keys.first_in_row.Given as goal

-- the first record that the change hits, of those that seek a value in the columns so far
abbrev pub invariant-loop-column : goal.invariant-loop-column
invariant-loop-column l = Finds (is_hit_number l.records l.change) (HasBelow l.column l.change.table (option_copied l.row) l.keyed.places.items) l.first
