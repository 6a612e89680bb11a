-- Before the first visit of a statement nothing is gathered.
use Rattle.std.proofs.Common.{◌≡◌, List, [], ◌∷◌, Option, None, Some, refl}
use Rattle.hy_bound.specs.declared.Bound.{Bound}
use Rattle.hy_bound.specs.declared.Bound.TheVariants.{Select, Group, Insert, Update, Delete, Savepoint, RollbackTo, Release}
use Rattle.hy_plan.specs.declared.PlanPart.{PlanPart}
use Rattle.hy_event.specs.Gathering.{select_read_plan}
use Rattle.hy_machine.specs.declared.Setting.{Setting}
use Rattle.hy_machine.specs.Tables.{Tables}
use Rattle.hy_refinement.specs.Sessions.{GatheredBy, tables_taken}

none_taken : (setting : Setting) (tables : Tables) (all others : List PlanPart) → [] ≡ tables_taken setting tables all 0 [] others
none_taken setting tables all [] = refl
none_taken setting tables all (part ∷ others) = refl

pub gathered_first : (setting : Setting) (tables : Tables) (statement : Option Bound) → GatheredBy setting tables 0 [] statement
gathered_first setting tables None = refl
gathered_first setting tables (Some (Select froms ons pred items)) =
    let parts : List PlanPart = (select_read_plan setting.shapes froms ons pred items).parts in none_taken setting tables parts parts
gathered_first setting tables (Some (Group table pred key aggregate)) = refl
gathered_first setting tables (Some (Insert table row)) = refl
gathered_first setting tables (Some (Update table sets pred)) = refl
gathered_first setting tables (Some (Delete table pred)) = refl
gathered_first setting tables (Some (Savepoint name)) = refl
gathered_first setting tables (Some (RollbackTo name)) = refl
gathered_first setting tables (Some (Release name)) = refl
