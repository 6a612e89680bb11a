use Rattle.hy_service.proofs.LogsTold.{logs_told}
use Rattle.hy_service.proofs.laws.logs_tell_outcomes.Goals as goal

pub returns : goal.returns
returns c =
    logs_told c.services_are_sound.ensures c.services_can_be_logged.ensures (record {
      all = c.open_ones_are_dropped.ensures.all;
      runs = c.open_ones_are_dropped.ensures.runs;
      tell = c.logs_tell_orders.ensures;
      recover = c.crashes_recover.ensures.logs;
    })
