use Rattle.std.proofs.Common.{refl}
use Rattle.std.specs.Prelude.{[], ◌∷◌, None, true}
use Rattle.hy_stamp.specs.Times.{id_of}
use Rattle.hy_protocol.specs.declared.Phase.{Phase}
use Rattle.hy_event.specs.Accounts.{account, chunk_of, closing, first, with_gone, with_row}
use Rattle.hy_event.specs.Examples.{begun, running}
use Rattle.hy_event.proofs.Unpruned.{unpruned}
use Rattle.hy_event.proofs.examples.a_delete_takes_the_row_away.Goals as goal

pub returns : goal.returns
returns c = record {
  between = chunk_of 1 (with_row (account 2 100));
  prunes = unpruned (running closing (begun (Phase.Working 1 0))) (begun (Phase.Working 1 0)).cover 1 (with_row (account 2 100)) refl;
  chunk = record {
    places = (
      c.places_step.ensures.writes (record { id = id_of first; start = 1 }) first (record { values = None ∷ None ∷ []; live = true })
          with_gone.version (with_row (account 2 100)) refl refl,
      tt,
    );
    others = refl;
  };
  turn = refl;
}
