use Rattle.std.proofs.Common.{List, [], ◌∷◌, ap, subst}
use Rattle.hy_value.specs.Refs.{referred}
use Rattle.hy_undo.specs.Places.{Place}
use Rattle.hy_chunk.specs.Gathering.{AreEnough, conditions_of}
use Rattle.hy_chunk.specs.Views.{Whole}
use Rattle.hy_chunk.proofs.Asking.{asked_one, found_one, nothing_kept}
use Rattle.hy_chunk.proofs.chunk.Chunk.places_wanted.Goals as goal

pub returns-in-Some-keys_of : goal.returns-in-Some-keys_of
returns-in-Some-keys_of c =
    let columns = c.args.wanted.now.columns in
    let conditions = conditions_of c.args.wanted.now.pred.now c.args.wanted.now.keys in
    let places = c.self.inside.positions.places in
    let found = c.in_ok-find_each.field-0.items in
    let told = c.in_ok-find_each.ensures in
    subst (λ (ps : List Place). AreEnough columns conditions ps found) (ap (λ (w : Whole). w.shown.places) c.self.view_is) (record {
      ascends = told.ascends;
      within = told.within;
      all = nothing_kept columns conditions c.in-Some.key c.in-Some-keys_of.values.now places found c.in-Some-keys_of.ensures told.all;
    })

pub returns-in_ok-find_used-in-Some-value_asked : goal.returns-in_ok-find_used-in-Some-value_asked
returns-in_ok-find_used-in-Some-value_asked c =
    let pred = c.args.wanted.now.pred.now in
    let columns = c.args.wanted.now.columns in
    let conditions = conditions_of pred c.args.wanted.now.keys in
    let places = c.self.inside.positions.places in
    let found = c.in_ok-find_used-in-Some-value_asked.field-0.items in
    let told = c.in_ok-find_used-in-Some-value_asked.ensures in
    let value = referred c.in-Some-value_asked.value in
    subst (λ (ps : List Place). AreEnough columns conditions ps found) (ap (λ (w : Whole). w.shown.places) c.self.view_is) (record {
      ascends = told.ascends;
      within = told.within;
      all = nothing_kept columns conditions c.in-Some.key (value ∷ []) places found
          (asked_one pred c.args.wanted.now.keys c.in-Some.key value c.in-Some-value_asked.ensures) (found_one c.in-Some.key value places found told.seen);
    })
