use Rattle.std.proofs.Common.{◌≡◌, ◌++◌, ℕ, List, ap, ◌∙◌, subst}
use Rattle.std.specs.Prelude.{Contains}
use Rattle.std.specs.List.{flat_map}
use Rattle.hy_value.specs.declared.Value.{Value}
use Rattle.hy_undo.specs.Places.{Cell, sees}
use Rattle.hy_undo.specs.Chunks.{rows_seen}
use Rattle.hy_chunk.specs.Fields.{nth}
use Rattle.hy_chunk.specs.Gathering.{AreEnough, conditions_of, gathered_by, kept_by}
use Rattle.hy_chunk.proofs.Asking.{ok_weaker, some_has}
use Rattle.hy_chunk.proofs.Chosen.{gathered_at_chosen}
use Rattle.hy_chunk.proofs.chunk.Chunk.gather_wanted.Goals as goal

pub gather_at-requires-clause-within : goal.gather_at-requires-clause-within
gather_at-requires-clause-within c =
    let columns = c.args.wanted.now.columns in
    let conditions = conditions_of c.args.wanted.now.pred.now c.args.wanted.now.keys in
    let enough = some_has c.in_ok-places.field-0 c.in-Some.places (λ places. AreEnough columns conditions c.args.self.now.shown.places places.items)
    c.in-Some.is c.in_ok-places.ensures in
    λ place m. enough.within place (subst (λ (found : List ℕ). Contains found place) c.as_slice.ensures.value m)

pub returns-in-Some-clause-rows : goal.returns-in-Some-clause-rows
returns-in-Some-clause-rows c =
    let columns = c.args.wanted.now.columns in
    let conditions = conditions_of c.args.wanted.now.pred.now c.args.wanted.now.keys in
    let places = c.args.self.now.shown.places in
    let viewer = c.args.viewer.now in
    let before = c.args.gathered.now.rows in
    let keeps : Cell → List (List Value) = kept_by columns conditions in
    let enough = some_has c.in_ok-places.field-0 c.in-Some.places (λ chosen. AreEnough columns conditions places chosen.items) c.in-Some.is
    c.in_ok-places.ensures in
    let all = gathered_at_chosen keeps viewer places c.in-Some.places.items enough.ascends enough.within (enough.all viewer) in
    ok_weaker c.gather_at.result (c.gather_at.new.gathered.rows ≡ before ++ flat_map (λ place. keeps (sees viewer (nth places place))) c.as_slice.result.now)
    (c.gather_at.new.gathered.rows ≡ before ++ gathered_by columns conditions (rows_seen viewer places))
    (λ e. e ∙ ap (λ (rows : List (List Value)). before ++ rows)
    (ap (λ (found : List ℕ). flat_map (λ place. keeps (sees viewer (nth places place))) found) c.as_slice.ensures.value ∙ all))
    c.gather_at.ensures.rows
