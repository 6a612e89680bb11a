use Rattle.std.proofs.Common.{refl}
use Rattle.hy_protocol.specs.declared.Phase.{Phase}
use Rattle.hy_event.specs.Accounts.{account, chunk_of, with_old_record, with_row}
use Rattle.hy_event.specs.Examples.{begun}
use Rattle.hy_event.proofs.examples.an_update_prunes_first.Goals as goal

pub returns : goal.returns
returns c = record {
  between = chunk_of 0 (with_row (account 1 100));
  prunes = record {
    pruned = λ _. record {
      places = (c.places_step.ensures.prunes (begun (Phase.Working 0 0)).cover (with_old_record (account 1 100)) (tt, tt), tt);
      others = refl;
    };
    kept = λ no. absurd (cc);
  };
  chunk = record { places = (refl, tt); others = refl };
  turn = refl;
}
