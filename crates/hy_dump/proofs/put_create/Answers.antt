use Rattle.std.proofs.Common.{ℕ, List, ◌++◌}
use Rattle.std.specs.Prelude.{codes}
use Rattle.std.proofs.lemmas.Result.{on_ok_weaker}
use Rattle.hy_dump.specs.Dump.{columns_text, enclosed}
use Rattle.hy_dump.proofs.Pieces.{spelled_put, two_put}
use Rattle.hy_dump.proofs.put_create.Goals as goal

pub returns : goal.returns
returns c =
    let table = c.args.table.now in
    let out : List ℕ = c.args.out.now.items in
    let word : List ℕ = codes "CREATE TABLE " in
    let named = spelled_put _ _ table.name _ c.in_ok-put-2.ensures c.as_bytes.ensures.bytes in
    let begun = two_put out word table.name _ _ c.in_ok-put.ensures named in
    on_ok_weaker c.put_column_list.result
    (two_put out (word ++ table.name) (enclosed (columns_text table.key 0 table.columns)) _ _ begun) c.put_column_list.ensures
