use Rattle.std.proofs.Common.{ℤ, List, ◌++◌, ap, ◌∙◌, arith}
use Rattle.hy_value.specs.declared.Value.{Value}
use Rattle.hy_plan.specs.Placed.{values_picked}
use Rattle.hy_plan.proofs.Picked.{known_put}
use Rattle.hy_plan.proofs.Results.{on_ok_then}
use Rattle.hy_plan.proofs.column.Column.put_placed.Goals as goal

pub returns-in-Some-clause-ok : goal.returns-in-Some-clause-ok
returns-in-Some-clause-ok g c =
    let rows = g.S.PlacedRows.rows c.args.source.now in
    let places = g.P.Places.places c.args.places.now in
    let numbers = c.self.inside.numbers.items in
    on_ok_then c.push_all.result
    (λ put.
    known_put rows numbers c.in-Some.known.now c.push_all.new.numbers.items c.self.inside.nulls.items c.self.inside.others.items c.truncate.new.self places
    c.args.column c.self.invariant (grind (arith, c.if-is_empty.ensures)) c.self.view_is (put ∙ ap (λ (ns : List ℤ). numbers ++ ns) c.in_ok-found.ensures)
    c.in-Some.ensures c.requires.places
    ∙ ap (λ (vs : List Value). vs ++ values_picked rows places c.args.column) c.truncate.ensures)
    c.push_all.ensures.ok
