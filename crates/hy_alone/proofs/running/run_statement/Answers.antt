use Rattle.std.proofs.Common.{Some, sym, ap, ◌∙◌}
use Rattle.hy_bound.specs.declared.Bound.{Bound}
use Rattle.hy_meaning.specs.Statement.{mean}
use Rattle.hy_alone.proofs.running.run_statement.Goals as goal

pub returns-in_ok-insert-in-Insert : goal.returns-in_ok-insert-in-Insert
returns-in_ok-insert-in-Insert c =
    ap (λ (statement : Bound). mean c.args.shapes.now statement c.args.db.now) c.in-Insert.is ∙ ap Some (sym c.in_ok-insert-in-Insert.ensures)

pub returns-in_ok-delete-in-Delete : goal.returns-in_ok-delete-in-Delete
returns-in_ok-delete-in-Delete c =
    ap (λ (statement : Bound). mean c.args.shapes.now statement c.args.db.now) c.in-Delete.is ∙ ap Some (sym c.in_ok-delete-in-Delete.ensures)
