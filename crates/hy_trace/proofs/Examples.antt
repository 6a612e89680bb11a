-- The worked row: it computes.
use Rattle.std.proofs.Common.{refl}
use Rattle.std.specs.Fmt.{digits}
use Rattle.hy_plan.specs.ColumnSets.{bits_where, columns_where, named_columns, union}
use Rattle.hy_machine.specs.Runs.{moves, repeated}
use Rattle.hy_trace.specs.Steps.{moves_taken, repeated_taken}
use Rattle.hy_trace.specs.Examples.{WriteSkewsAreTraced}

pub write_skew_traced : WriteSkewsAreTraced
unfolding moves repeated moves_taken repeated_taken bits_where columns_where named_columns union digits
write_skew_traced = refl
