use Rattle.std.proofs.Common.{◌≡◌, List, [], ◌∷◌, ◌++◌, length, arith, ap, ◌∙◌}
use Rattle.std.proofs.lemmas.List.{length-map}
use Rattle.hy_value.specs.declared.Value.{Value}
use Rattle.hy_bound.specs.Projection.{projected}
use Rattle.hy_plan.specs.Cells.{GatheredRows, cells_of}
use Rattle.hy_plan.proofs.Cells.{reach_alike, seen_alike, seen_more, reach_next, reach_one, one_row}
use Rattle.hy_plan.proofs.Results.{on_err_always}
use Rattle.hy_plan.proofs.gathered.Gathered.push_projected.Goals as goal

pub invariant_of-self : goal.invariant_of-self
invariant_of-self c = reach_alike c.self.inside.len c.put_projected.new.columns.items c.self.inside.columns.items c.in_err-put_projected.ensures.err c.self.invariant

pub returns-in_err-put_projected-clause-err : goal.returns-in_err-put_projected-clause-err
returns-in_err-put_projected-clause-err c =
    on_err_always c.from_residual-in_err-put_projected.result
    (seen_alike c.self.inside.len c.put_projected.new.columns.items c.self.inside.columns.items c.in_err-put_projected.ensures.err ∙ c.self.view_is)

pub invariant_of-self-2 : goal.invariant_of-self-2
invariant_of-self-2 c =
    let row = projected c.args.columns c.args.row.now in
    let even : length (cells_of row) ≡ c.args.self.now.width = length-map row (λ value. value ∷ []) ∙ c.requires in
    reach_next c.self.inside.len 1 c.in_ok-len.len (cells_of row) c.self.inside.columns.items c.put_projected.new.columns.items c.args.self.now (grind (arith, c.checked_add.ensures, c.in_ok-len.ensures)) c.in_ok-put_projected.ensures.ok c.self.view_is even c.self.invariant (reach_one row)

pub returns-clause-ok : goal.returns-clause-ok
returns-clause-ok c =
    let row = projected c.args.columns c.args.row.now in
    let even : length (cells_of row) ≡ c.args.self.now.width = length-map row (λ value. value ∷ []) ∙ c.requires in
    let with_rows : List (List Value) → GatheredRows = λ rows. record { width = c.args.self.now.width; rows = c.args.self.now.rows ++ rows } in
    seen_more c.self.inside.len 1 c.in_ok-len.len (cells_of row) c.self.inside.columns.items c.put_projected.new.columns.items c.args.self.now (grind (arith, c.checked_add.ensures, c.in_ok-len.ensures)) c.in_ok-put_projected.ensures.ok c.self.view_is even c.self.invariant
    ∙ ap with_rows (one_row row)
