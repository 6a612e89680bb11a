use Rattle.std.proofs.lemmas.List.{take_rest}
use Rattle.hy_plan.proofs.Picked.{put_both}
use Rattle.hy_plan.proofs.Results.{on_ok_then}
use Rattle.hy_plan.proofs.column.Column.put_listed.Goals as goal

pub returns-clause-ok : goal.returns-clause-ok
returns-clause-ok g c =
    on_ok_then c.add_values.result
    (λ done.
    put_both (g.S.PlacedRows.rows c.args.source.now) c.args.places.now _ c.args.column c.in_ok-count.count c.args.len c.args.self.now c.truncate.new.self c.add_numbers.new.self c.add_values.new.self (take_rest c.args.places.now c.in_ok-count.count) c.truncate.ensures c.in_ok-count.ensures.ok done)
    c.add_values.ensures.ok
