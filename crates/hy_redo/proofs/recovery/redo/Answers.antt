use Rattle.std.proofs.Common.{subst}
use Rattle.std.proofs.lemmas.List.{take_rest}
use Rattle.hy_redo.specs.Tables.{Held}
use Rattle.hy_redo.specs.Tests.{IsNext}
use Rattle.hy_redo.proofs.Pieces.{done_none, done_more}
use Rattle.hy_redo.proofs.recovery.redo.Goals as goal

pub entries-init : goal.entries-init
entries-init c =
    let so_far = c.args.so_far.now in
    done_none c.args.bytes.now so_far.tables.items so_far.last so_far.gate _ (take_rest c.args.bytes.now so_far.gate)

pub entries-preserved : goal.entries-preserved
entries-preserved c =
    let so_far = c.args.so_far.now in
    done_more c.args.bytes.now so_far.tables.items so_far.last so_far.gate c.entries.so_far.tables.items c.entries.so_far.last c.entries.rest.now
    c.in-Ok.entry c.in-Ok.behind.now c.put_changes.new.tables.items c.entries.invariant
    (subst (λ (ts : Held). IsNext ts c.entries.so_far.last c.entries.rest.now c.in-Ok.entry c.in-Ok.behind.now) c.as_slice.ensures.value
    c.in-Ok.ensures.next) c.put_changes.ensures
