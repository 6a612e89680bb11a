use Rattle.std.proofs.Common.{◌≡◌, List, ◌+◌, ◌++◌, length, map, arith, ap, ◌∙◌}
use Rattle.std.proofs.lemmas.List.{length-map}
use Rattle.hy_value.specs.declared.Value.{Value}
use Rattle.hy_plan.specs.Cells.{GatheredRows, firsts}
use Rattle.hy_plan.specs.Placed.{values_picked}
use Rattle.hy_plan.proofs.Cells.{firsts_kept, reach_alike, seen_alike, seen_more, reach_next}
use Rattle.hy_plan.proofs.Picked.{reach_picked, rows_picked}
use Rattle.hy_plan.proofs.Results.{on_err_always}
use Rattle.hy_plan.proofs.gathered.Gathered.add_placed.Goals as goal

pub invariant_of-self : goal.invariant_of-self
invariant_of-self g c = reach_alike c.self.inside.len c.put_placed.new.columns.items c.self.inside.columns.items c.in_err-count.ensures.err c.self.invariant

pub returns-in_err-count-clause-err : goal.returns-in_err-count-clause-err
returns-in_err-count-clause-err g c =
    on_err_always c.from_residual.result
    (seen_alike c.self.inside.len c.put_placed.new.columns.items c.self.inside.columns.items c.in_err-count.ensures.err ∙ c.self.view_is)

pub invariant_of-self-in_err-self-inside : goal.invariant_of-self-in_err-self-inside
invariant_of-self-in_err-self-inside g c =
    let lists = map (values_picked (g.S.PlacedRows.rows c.args.source.now) (g.P.Places.places c.args.places.now)) c.args.columns.now in
    reach_alike c.self.inside.len c.put_placed.new.columns.items c.self.inside.columns.items
    (ap (firsts c.self.inside.len) c.in_ok-count.ensures.ok ∙ firsts_kept c.self.inside.len lists c.self.inside.columns.items c.self.invariant) c.self.invariant

pub returns-in_err-self-inside-clause-err : goal.returns-in_err-self-inside-clause-err
returns-in_err-self-inside-clause-err g c =
    let lists = map (values_picked (g.S.PlacedRows.rows c.args.source.now) (g.P.Places.places c.args.places.now)) c.args.columns.now in
    on_err_always c.from_residual-in_err-self-inside.result
    (seen_alike c.self.inside.len c.put_placed.new.columns.items c.self.inside.columns.items
    (ap (firsts c.self.inside.len) c.in_ok-count.ensures.ok ∙ firsts_kept c.self.inside.len lists c.self.inside.columns.items c.self.invariant)
    ∙ c.self.view_is)

pub invariant_of-self-2 : goal.invariant_of-self-2
invariant_of-self-2 g c =
    let rows = g.S.PlacedRows.rows c.args.source.now in
    let places = g.P.Places.places c.args.places.now in
    let columns = c.args.columns.now in
    let lists = map (values_picked rows places) columns in
    let even : length lists ≡ c.args.self.now.width = length-map columns (values_picked rows places) ∙ c.requires.width in
    let len : c.in_ok-self-inside.field-0 ≡ c.self.inside.len + length places = grind (arith, c.checked_add.ensures, c.in_ok-self-inside.ensures, c.in_ok-count.ensures.count) in
    reach_next c.self.inside.len (length places) c.in_ok-self-inside.field-0 lists c.self.inside.columns.items c.put_placed.new.columns.items c.args.self.now
    len c.in_ok-count.ensures.ok c.self.view_is even c.self.invariant (reach_picked rows places columns)

pub returns-clause-ok : goal.returns-clause-ok
returns-clause-ok g c =
    let rows = g.S.PlacedRows.rows c.args.source.now in
    let places = g.P.Places.places c.args.places.now in
    let columns = c.args.columns.now in
    let lists = map (values_picked rows places) columns in
    let even : length lists ≡ c.args.self.now.width = length-map columns (values_picked rows places) ∙ c.requires.width in
    let with_rows : List (List Value) → GatheredRows = λ more. record { width = c.args.self.now.width; rows = c.args.self.now.rows ++ more } in
    let len : c.in_ok-self-inside.field-0 ≡ c.self.inside.len + length places = grind (arith, c.checked_add.ensures, c.in_ok-self-inside.ensures, c.in_ok-count.ensures.count) in
    seen_more c.self.inside.len (length places) c.in_ok-self-inside.field-0 lists c.self.inside.columns.items c.put_placed.new.columns.items c.args.self.now
    len c.in_ok-count.ensures.ok c.self.view_is even c.self.invariant
    ∙ ap with_rows (rows_picked rows places columns)
