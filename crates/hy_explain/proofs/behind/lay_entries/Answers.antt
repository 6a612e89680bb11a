use Rattle.std.proofs.Common.{List, ap, ◌∙◌, arith}
use Rattle.std.specs.Prelude.{slice_get}
use Rattle.std.specs.Option.{option_map}
use Rattle.hy_value.specs.declared.change.Change.{Change}
use Rattle.hy_machine.specs.Tables.{Cell}
use Rattle.hy_lawful.specs.Cells.{after_changes}
use Rattle.hy_explain.proofs.Laid.{entry_laid, first_laid, all_laid}
use Rattle.hy_explain.proofs.behind.lay_entries.Goals as goal

pub loop-entry-init : goal.loop-entry-init
loop-entry-init c = λ pos.
    first_laid c.args.rows.now c.args.table c.args.entries.now c.args.positions c.in_ok-cells.cells c.in_ok-cells.ensures pos

pub loop-entry-preserved : goal.loop-entry-preserved
loop-entry-preserved c = λ pos.
    let laid = c.in_ok-lay_changes.ensures pos
    ∙ ap (λ (changes : List Change). option_map (λ (cell : Cell). after_changes c.args.table pos cell changes) (slice_get c.loop-entry.cells pos))
    c.as_slice.ensures in
    entry_laid c.args.table c.args.entries.now c.loop-entry.cells c.lay_changes.new.cells c.loop-entry.entry-index c.entry-item.result
    c.loop-entry-test.true c.entry-item.is pos laid
    ∙ c.loop-entry.invariant pos

pub returns : goal.returns
returns c = all_laid c.args.rows.now c.args.table c.args.entries.now c.args.positions c.loop-entry.entry-index c.loop-entry.cells (omega arith) c.loop-entry.invariant
