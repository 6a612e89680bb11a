use Rattle.std.proofs.Common.{refl}
use Rattle.std.specs.Prelude.{[], ◌∷◌, None, false}
use Rattle.hy_stamp.specs.Times.{id_of}
use Rattle.hy_protocol.specs.declared.Phase.{Phase}
use Rattle.hy_event.specs.Accounts.{account, chunk_of, first, opening, unused, with_new, with_row}
use Rattle.hy_event.specs.Examples.{begun, running}
use Rattle.hy_event.proofs.Unpruned.{unpruned}
use Rattle.hy_event.proofs.examples.an_insert_takes_a_free_position.Goals as goal

pub returns-clause-passes : goal.returns-clause-passes
returns-clause-passes c = record {
  between = chunk_of 0 (with_row (account 1 100));
  prunes = unpruned (running (opening 2) (begun (Phase.Working 2 0))) (begun (Phase.Working 2 0)).cover 0 (with_row (account 1 100)) refl;
  chunk = refl;
  turn = refl;
}

pub returns-clause-takes : goal.returns-clause-takes
returns-clause-takes c = record {
  between = chunk_of 1 unused;
  prunes = unpruned (running (opening 2) (begun (Phase.Working 3 0))) (begun (Phase.Working 3 0)).cover 1 unused refl;
  chunk = record {
    places = record {
      was = unused;
      becomes = with_new;
      found = refl;
      change =
          c.places_step.ensures.places (record { id = id_of first; start = 1 }) first 1 (record { values = None ∷ None ∷ []; live = false })
          (with_row (account 2 100)).version unused refl (record { row = λ _. refl; chain = λ _. refl }) refl refl;
      others = refl;
    };
    others = refl;
  };
  turn = refl;
}
