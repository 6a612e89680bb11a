use Rattle.std.proofs.Common.{◌≡◌, ◌++◌, drop}
use Rattle.std.specs.List.{flat_map}
use Rattle.hy_plan.specs.Reads.{recorded, select_reads_of}
use Rattle.hy_plan.proofs.reading.joined_records.Given as goal

-- the records so far and those of the other reads are all
abbrev pub invariant-loop-read : goal.invariant-loop-read
invariant-loop-read l =
    l.all ++ flat_map (recorded l.number) (drop l.read-index l.read-items)
    ≡ flat_map (recorded l.number) (select_reads_of l.shapes l.query.tables.now l.query.ons.now l.query.pred.now l.query.items.now l.gathered)
