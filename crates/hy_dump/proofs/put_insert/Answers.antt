use Rattle.std.proofs.Common.{ℕ, List, ◌++◌}
use Rattle.std.specs.Prelude.{codes}
use Rattle.std.proofs.lemmas.Result.{on_ok_weaker}
use Rattle.hy_dump.specs.Dump.{enclosed, values_text}
use Rattle.hy_dump.proofs.Pieces.{spelled_put, two_put}
use Rattle.hy_dump.proofs.put_insert.Goals as goal

pub returns : goal.returns
returns c =
    let name : List ℕ = c.args.table.now.name in
    let out : List ℕ = c.args.out.now.items in
    let word : List ℕ = codes "INSERT INTO " in
    let values : List ℕ = codes " VALUES" in
    let named = spelled_put _ _ name _ c.in_ok-put-2.ensures c.as_bytes.ensures.bytes in
    let begun = two_put out word name _ _ c.in_ok-put.ensures named in
    let more = two_put out (word ++ name) values _ _ begun c.in_ok-put-3.ensures in
    on_ok_weaker c.put_value_list.result
    (two_put out ((word ++ name) ++ values) (enclosed (values_text 0 c.args.row.now)) _ _ more) c.put_value_list.ensures
