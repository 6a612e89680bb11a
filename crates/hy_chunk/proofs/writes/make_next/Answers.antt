use Rattle.std.proofs.Common.{List, sym, ap, ◌∙◌, subst}
use Rattle.hy_bound.specs.declared.Assign.{Assign}
use Rattle.hy_chunk.specs.declared.writes.RowWrite.{RowWrite}
use Rattle.hy_bound.specs.Assignment.{assigned}
use Rattle.hy_chunk.specs.Writes.{FitsWrite}
use Rattle.hy_chunk.proofs.Setting.{assigned_fits, assigned_length, assigned_same_key}
use Rattle.hy_chunk.proofs.writes.make_next.Goals as goal

pub returns-in-Set-clause-fits : goal.returns-in-Set-clause-fits
returns-in-Set-clause-fits c = λ kinds key r w.
    let row = c.args.row.now in
    assigned_fits kinds key c.in-Set.sets.now row row c.set_columns.new.next (subst (λ (kind : RowWrite). FitsWrite kinds key kind) c.in-Set.is w) r r
    (ap (λ (sets : List Assign). assigned sets row) (sym c.as_slice.ensures) ∙ c.set_columns.ensures)

pub returns-in-Set-clause-size : goal.returns-in-Set-clause-size
returns-in-Set-clause-size c = assigned_length c.as_slice.result.now c.args.row.now c.args.row.now c.set_columns.new.next c.set_columns.ensures

pub returns-in-Set-clause-same_key : goal.returns-in-Set-clause-same_key
returns-in-Set-clause-same_key c = λ kinds key w.
    let row = c.args.row.now in
    assigned_same_key kinds key c.in-Set.sets.now row row c.set_columns.new.next (subst (λ (kind : RowWrite). FitsWrite kinds key kind) c.in-Set.is w)
    (ap (λ (sets : List Assign). assigned sets row) (sym c.as_slice.ensures) ∙ c.set_columns.ensures)
