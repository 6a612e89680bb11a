use Rattle.std.proofs.Common.{List, ap, ◌∙◌}
use Rattle.std.specs.Option.{option_copied}
use Rattle.hy_value.specs.declared.change.Change.{Change}
use Rattle.hy_lawful.specs.Cells.{after_changes}
use Rattle.hy_explain.proofs.Pieces.{entry_passed}
use Rattle.hy_explain.proofs.found.cell_before.Goals as goal

pub loop-entry-preserved : goal.loop-entry-preserved
loop-entry-preserved c =
    let after = c.after_changes-cell.ensures
    ∙ ap (λ (changes : List Change). after_changes c.args.table c.args.pos (option_copied c.loop-entry.cell) changes) c.as_slice.ensures in
    entry_passed c.args.table c.args.pos _ _ _ _ c.loop-entry.entry-index c.entry-item.result c.loop-entry-test.true c.entry-item.is after
    c.loop-entry.invariant
