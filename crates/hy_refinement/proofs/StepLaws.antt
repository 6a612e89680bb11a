-- The laws on each kind of visit, together.
use Rattle.hy_refinement.specs.Waiting.{BlockersAreTheMachines}
use Rattle.hy_refinement.specs.Visits.{SelectsAreTaken, GroupsAreTaken, ChecksAreTaken, PlacesAreTaken, WritesAreTaken}
use Rattle.hy_refinement.specs.Visits.{StampsAreTaken, UndosAreTaken, BacksAreTaken, WrittenChunksAreTheMachines, ChunksSinceAreTheMachines}
use Rattle.hy_refinement.specs.CoreVisits.{BeginsAreTaken, ClosesAreTaken, LeavesAreTaken, NotesAreWrites, HitsAreTheMachines}
use Rattle.hy_refinement.specs.CoreVisits.{SavesAreTaken, EntersAreTaken, RefusalsAreTaken, WaitsAreTaken}

pub record StepLaws : Type 0 where
  pub blockers : BlockersAreTheMachines
  pub chunks : WrittenChunksAreTheMachines
  pub since : ChunksSinceAreTheMachines
  pub notes : NotesAreWrites
  pub hits : HitsAreTheMachines
  pub selects : SelectsAreTaken
  pub groups : GroupsAreTaken
  pub checks : ChecksAreTaken
  pub places : PlacesAreTaken
  pub writes : WritesAreTaken
  pub stamps : StampsAreTaken
  pub undos : UndosAreTaken
  pub backs : BacksAreTaken
  pub saves : SavesAreTaken
  pub begins : BeginsAreTaken
  pub closes : ClosesAreTaken
  pub leaves : LeavesAreTaken
  pub enters : EntersAreTaken
  pub refusals : RefusalsAreTaken
  pub waits : WaitsAreTaken
