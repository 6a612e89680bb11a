use Rattle.std.specs.Prelude.{codes}
use Rattle.std.proofs.lemmas.Result.{on_ok_weaker}
use Rattle.hy_explain.specs.Choosing.{is_chosen}
use Rattle.hy_explain.specs.Words.{names_where}
use Rattle.hy_explain.proofs.Put.{three_put}
use Rattle.hy_explain.proofs.range.put_going_out.Goals as goal

pub returns : goal.returns
returns c =
    on_ok_weaker c.put-2.result (three_put c.args.out.now.items (codes ": by its values ") (names_where (is_chosen c.args.choice) c.args.columns.now)
    (codes " goes out.\n") c.put.new.out.items c.put_names.new.out.items c.put-2.new.out.items c.in_ok-put.ensures c.in_ok-put_names.ensures) c.put-2.ensures
