use Rattle.std.proofs.Common.{refl}
use Rattle.hy_protocol.specs.declared.Phase.{Phase}
use Rattle.hy_event.specs.Accounts.{account, chunk_of, paying, with_row}
use Rattle.hy_event.specs.Examples.{begun, running}
use Rattle.hy_event.proofs.Unpruned.{unpruned}
use Rattle.hy_event.proofs.examples.an_update_passes_what_it_does_not_select.Goals as goal

pub returns-clause-visit : goal.returns-clause-visit
returns-clause-visit c = record {
  between = chunk_of 0 (with_row (account 1 100));
  prunes = unpruned (running paying (begun (Phase.Working 0 0))) (begun (Phase.Working 0 0)).cover 0 (with_row (account 1 100)) refl;
  chunk = record { places = (refl, tt); others = refl };
  turn = refl;
}
