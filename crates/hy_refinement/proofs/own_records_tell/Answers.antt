use Rattle.hy_refinement.proofs.OwnRecords.{behind_own}
use Rattle.hy_refinement.proofs.BackSeen.{notes_have}
use Rattle.hy_refinement.proofs.own_records_tell.Goals as goal

pub returns-clause-behind : goal.returns-clause-behind
returns-clause-behind c = behind_own

pub returns-clause-seen : goal.returns-clause-seen
returns-clause-seen c = notes_have
