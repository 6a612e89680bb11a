use Rattle.hy_refinement.proofs.Steps.{steps_are}
use Rattle.hy_refinement.proofs.visits.events_are_steps.Goals as goal

pub returns : goal.returns
returns c = steps_are (record {
  blockers = c.blockers_are_the_machines.ensures;
  chunks = c.written_chunks_are_the_machines.ensures;
  since = c.chunks_since_are_the_machines.ensures;
  notes = c.notes_are_writes.ensures;
  hits = c.hits_are_the_machines.ensures;
  selects = c.selects_are_taken.ensures;
  groups = c.groups_are_taken.ensures;
  checks = c.checks_are_taken.ensures;
  places = c.places_are_taken.ensures;
  writes = c.writes_are_taken.ensures;
  stamps = c.stamps_are_taken.ensures;
  undos = c.undos_are_taken.ensures;
  backs = c.backs_are_taken.ensures;
  saves = c.saves_are_taken.ensures;
  begins = c.begins_are_taken.ensures;
  closes = c.closes_are_taken.ensures;
  leaves = c.leaves_are_taken.ensures;
  enters = c.enters_are_taken.ensures;
  refusals = c.refusals_are_taken.ensures;
  waits = c.waits_are_taken.ensures;
})
