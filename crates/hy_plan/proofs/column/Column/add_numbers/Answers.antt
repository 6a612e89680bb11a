use Rattle.std.proofs.Common.{ℕ, ℤ, pos, List, ◌++◌, ◌≤◌, length, get_or, ap, sym, ◌∙◌, arith}
use Rattle.std.proofs.lemmas.List.{length-map, take_all}
use Rattle.hy_plan.specs.Placed.{values_picked}
use Rattle.hy_plan.proofs.Picked.{known_put}
use Rattle.hy_plan.proofs.Results.{if_ok_both}
use Rattle.hy_plan.proofs.column.Column.add_numbers.Goals as goal

pub returns-in_ok-found-in-Some-clause-ok : goal.returns-in_ok-found-in-Some-clause-ok
returns-in_ok-found-in-Some-clause-ok g c =
    let rows = g.S.PlacedRows.rows c.args.source.now in
    let places = c.args.places.now in
    let numbers = c.self.inside.numbers.items in
    let at : ℕ → ℤ = λ place. get_or c.in-Some.known.now place (pos 0) in
    if_ok_both c.push_all.result
    (λ count many put.
    let all : length places ≤ count = omega (arith, many, ap length c.in_ok-found-in-Some.ensures, length-map places at) in
    known_put rows numbers c.in-Some.known.now c.push_all.new.numbers.items c.self.inside.nulls.items c.self.inside.others.items c.args.self.now places
    c.args.column c.self.invariant (grind (arith, c.if-not-is_empty.ensures)) c.self.view_is (put ∙ ap (λ (ns : List ℤ). numbers ++ ns) c.in_ok-found-in-Some.ensures)
    c.in-Some.ensures c.requires.places
    ∙ ap (λ (ps : List ℕ). c.args.self.now ++ values_picked rows ps c.args.column) (sym (take_all count places all)))
    c.push_all.ensures.count c.push_all.ensures.ok
