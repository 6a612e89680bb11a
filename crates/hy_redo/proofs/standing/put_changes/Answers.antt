use Rattle.hy_redo.specs.Tables.{after_changes}
use Rattle.hy_redo.proofs.Deciding.{put_one}
use Rattle.hy_redo.proofs.standing.put_changes.Goals as goal

pub loop-change-preserved : goal.loop-change-preserved
loop-change-preserved c =
    put_one c.loop-change.tables.items c.put.new.tables.items c.loop-change.left.items c.pop.new.self.items c.in-Some.change
    (after_changes c.args.tables.now.items c.args.changes) c.in-Some.ensures.items c.put.ensures c.loop-change.invariant

pub loop-change-preserved-in-Some : goal.loop-change-preserved-in-Some
loop-change-preserved-in-Some c =
    put_one c.loop-change.tables.items c.put.new.tables.items c.loop-change.left.items c.pop.new.self.items c.in-Some.change
    (after_changes c.args.tables.now.items c.args.changes) c.in-Some.ensures.items c.put.ensures c.loop-change.invariant
