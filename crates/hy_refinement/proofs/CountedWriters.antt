-- Where the commit order stays, and as many of its entries count in a chunk, the writers of a position are those that they were.
use Rattle.std.proofs.Common.{◌≡◌, ℕ, List, sym, ap, ◌∙◌, arith}
use Rattle.std.specs.Prelude.{slice_get}
use Rattle.hy_stamp.specs.declared.Stamp.{Stamp}
use Rattle.hy_journal.specs.declared.CoreData.{CoreData}
use Rattle.hy_journal.specs.declared.Entry.{Entry as Noted}
use Rattle.hy_machine.specs.declared.Setting.{Setting}
use Rattle.hy_machine.specs.States.{State}
use Rattle.hy_machine.specs.Tables.{Entry}
use Rattle.hy_refinement.specs.Stamped.{entries_counted}
use Rattle.hy_refinement.specs.Places.{IsOfWriter, IsLastWriter}

module _ (setting : Setting) (state after : State) (table chunk pos : ℕ) (order : after.order ≡ state.order)
    (counted : entries_counted setting after table chunk ≡ entries_counted setting state table chunk) where
  pub writer_still : (core new : CoreData) → new.entries ≡ core.entries → (stamp : Stamp) → IsOfWriter setting state core table chunk pos stamp
      → IsOfWriter setting after new table chunk pos stamp
  writer_still core new entries stamp w =
      let counts = w.counts in record {
        rank = w.rank;
        entered = w.entered;
        entry = w.entry;
        stands = ap (λ (entered : List Entry). slice_get entered w.rank) order ∙ w.stands;
        has = ap (λ (noted : List Noted). slice_get noted w.rank) entries ∙ w.has;
        counts = omega (arith, counts, counted);
        wrote = w.wrote;
        owner = w.owner;
        mark_is = w.mark_is;
      }

  pub last_writer_was : (rank : ℕ) (entered : Entry) → IsLastWriter setting after table chunk pos rank entered
      → IsLastWriter setting state table chunk pos rank entered
  last_writer_was rank entered last =
      let counts = last.counts in record {
        stands = sym (ap (λ (entries : List Entry). slice_get entries rank) order) ∙ last.stands;
        counts = omega (arith, counts, counted);
        wrote = last.wrote;
        last = λ other later less below e.
            last.last other later less (omega (arith, below, counted)) (ap (λ (entries : List Entry). slice_get entries other) order ∙ e);
      }
