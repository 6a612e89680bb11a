use Rattle.std.proofs.Common.{ap, ◌∙◌}
use Rattle.hy_value.specs.Refs.{referred}
use Rattle.hy_chunk.specs.Views.{Held}
use Rattle.hy_chunk.proofs.Found.{found_all, found_used, found_within, key_is}
use Rattle.hy_chunk.proofs.Places.{Fields, fields}
use Rattle.hy_chunk.proofs.positions.Positions.find.Goals as goal

pub returns-clause-within : goal.returns-clause-within
returns-clause-within c =
    let f : Fields = fields c.self.inside in
    found_within f c.self.inside.columns.kinds c.self.inside.spare c.args.self.now.places (ap (λ (h : Held). h.places) c.self.view_is)
    c.self.invariant.sound c.self.inside.key c.args.column (ap (λ (h : Held). h.key) c.self.view_is ∙ key_is c.args.self.now.key c.args.column c.requires)
    c.self.inside.index c.self.invariant.indexed c.self.invariant.spared c.entries_are_a_set.ensures.finds (referred c.args.value) c.find.result c.find.ensures

pub returns-clause-all : goal.returns-clause-all
returns-clause-all c =
    let f : Fields = fields c.self.inside in
    found_all f c.self.inside.columns.kinds c.self.inside.spare c.args.self.now.places (ap (λ (h : Held). h.places) c.self.view_is)
    c.self.invariant.sound c.self.inside.key c.args.column (ap (λ (h : Held). h.key) c.self.view_is ∙ key_is c.args.self.now.key c.args.column c.requires)
    c.self.inside.index c.self.invariant.indexed c.self.invariant.spared c.entries_are_a_set.ensures.finds (referred c.args.value) c.find.result c.find.ensures

pub returns-clause-used : goal.returns-clause-used
returns-clause-used c =
    let f : Fields = fields c.self.inside in
    found_used f c.self.inside.columns.kinds c.self.inside.spare c.args.self.now.places (ap (λ (h : Held). h.places) c.self.view_is)
    c.self.invariant.sound c.self.inside.key c.args.column (ap (λ (h : Held). h.key) c.self.view_is ∙ key_is c.args.self.now.key c.args.column c.requires)
    c.self.inside.index c.self.invariant.indexed c.self.invariant.spared c.entries_are_a_set.ensures.finds (referred c.args.value) c.find.result c.find.ensures
