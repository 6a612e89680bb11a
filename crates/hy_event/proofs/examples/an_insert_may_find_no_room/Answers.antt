use Rattle.std.proofs.Common.{refl}
use Rattle.hy_protocol.specs.declared.Phase.{Phase}
use Rattle.hy_event.specs.Accounts.{account, chunk_of, opening, with_row}
use Rattle.hy_event.specs.Examples.{begun, running}
use Rattle.hy_event.proofs.Unpruned.{unpruned}
use Rattle.hy_event.proofs.examples.an_insert_may_find_no_room.Goals as goal

pub returns-clause-refused : goal.returns-clause-refused
returns-clause-refused c = record {
  between = chunk_of 1 (with_row (account 2 100));
  prunes = unpruned (running (opening 3) (begun (Phase.Working 3 0))) (begun (Phase.Working 3 0)).cover 1 (with_row (account 2 100)) refl;
  chunk = refl;
  turn = refl;
}
