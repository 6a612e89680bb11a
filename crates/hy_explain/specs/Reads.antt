-- What a statement reads of a table, and the first of its reads that a change hits.
use Rattle.std.specs.Prelude.{ℕ, List, [], Bool, ◌&&◌, ◌==◌, Option, None, Some, map, find}
use Rattle.hy_value.specs.declared.change.Change.{Change}
use Rattle.hy_bound.specs.declared.Bound.{Bound}
use Rattle.hy_bound.specs.declared.Bound.TheVariants.{Select, Group, Insert, Update, Delete, Savepoint, RollbackTo, Release}
use Rattle.hy_bound.specs.declared.Shape.{Shape}
use Rattle.hy_bound.specs.declared.Record.{Record}
use Rattle.hy_bound.specs.Records.{is_hit}
use Rattle.hy_plan.specs.declared.Plan.{Plan}
use Rattle.hy_plan.specs.declared.PlanPart.{PlanPart}
use Rattle.hy_plan.specs.Plans.{plan_for}
use Rattle.hy_plan.specs.Reads.{records_of}

-- what is taken of a table, as a record of its statement: where its rows are looked up by key, of all keys
abbrev pub read_of_part : ℕ → PlanPart → Record
read_of_part number part = record { statement = number; table = part.table; pred = part.pred; columns = part.columns }

-- what a SELECT reads, a record for each table; any other statement as it logs it
abbrev pub reads_by : List Shape → ℕ → Bound → Option Plan → List Record
reads_by shapes number statement None = records_of shapes number statement []
reads_by shapes number statement (Some plan) = map (read_of_part number) plan.parts

abbrev pub reads_of : List Shape → ℕ → Option Bound → List Record
reads_of shapes number None = []
reads_of shapes number (Some statement) = reads_by shapes number statement (plan_for shapes statement)

-- whether a change hits a record
abbrev pub is_hit_by : Change → Record → Bool
is_hit_by change of = of.table == change.table && is_hit of change.before change.after

-- the first record that a change hits
abbrev pub hit_of : List Record → Change → Option Record
hit_of reads change = find (is_hit_by change) reads
