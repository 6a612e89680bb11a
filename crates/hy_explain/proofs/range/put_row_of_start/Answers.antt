use Rattle.std.specs.Prelude.{codes}
use Rattle.std.proofs.lemmas.Result.{on_ok_weaker}
use Rattle.hy_value.specs.Print.{printed_row}
use Rattle.hy_explain.specs.Explained.{named}
use Rattle.hy_explain.proofs.Put.{four_put}
use Rattle.hy_explain.proofs.range.put_row_of_start.Goals as goal

pub returns : goal.returns
returns c =
    on_ok_weaker c.put_label.result (four_put c.args.out.now.items (codes "There stood ") (printed_row c.args.row.now) (codes " at the start of ")
    (named c.args.script.now c.args.label) c.put.new.out.items c.print_stored_row.new.out.items c.put-2.new.out.items c.put_label.new.out.items
    c.in_ok-put.ensures c.in_ok-print_stored_row.ensures.ok c.in_ok-put-2.ensures) c.put_label.ensures
