use Rattle.std.proofs.Common.{refl}
use Rattle.hy_stamp.specs.Times.{id_of}
use Rattle.hy_event.specs.Accounts.{chunk_of, first, paying, with_paid}
use Rattle.hy_event.specs.Examples.{payer_entered, running}
use Rattle.hy_event.proofs.Unpruned.{unpruned}
use Rattle.hy_event.proofs.examples.a_written_chunk_is_stamped.Goals as goal

pub returns-clause-stamps : goal.returns-clause-stamps
returns-clause-stamps c = record {
  between = chunk_of 1 (with_paid 2);
  chunk = record { places = (c.places_step.ensures.commits (id_of first) 2 (with_paid (id_of first)), tt); others = refl };
  prunes = unpruned (running paying (payer_entered 0)) (payer_entered 0).cover 1 (with_paid 2) refl;
  turn = refl;
}
