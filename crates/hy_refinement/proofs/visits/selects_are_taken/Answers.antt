use Rattle.hy_refinement.proofs.FramesSelects.{selects}
use Rattle.hy_refinement.proofs.visits.selects_are_taken.Goals as goal

pub returns : goal.returns
returns c =
    selects c.own_steps_show.ensures (record {
      alone = c.tables_are_looked_up_in_turn.ensures.alone;
      answers = c.looked_up_rows_answer.ensures;
      logs = c.looked_up_rows_log_the_same.ensures;
      wanted = c.wanted_rows_are_read_by_key.ensures;
    })
