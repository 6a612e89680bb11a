use Rattle.hy_refinement.proofs.Hits.{hits_are}
use Rattle.hy_refinement.proofs.visits.hits_are_the_machines.Goals as goal

pub returns : goal.returns
returns c = hits_are (record {
  statements = c.hits_are_of_statements_and_rows.ensures.statements;
  rows = c.hits_are_of_statements_and_rows.ensures.rows;
  one = c.notes_tell.ensures.one;
})
