use Rattle.std.proofs.Common.{[]}
use Rattle.hy_redo.specs.Crashes.{closed_of}
use Rattle.hy_redo_tests.proofs.logs.writes_one_change.Goals as goal

pub append-requires : goal.append-requires
append-requires g c = record { closed = closed_of _ [] _ c.in_ok-log.ensures.logs }
