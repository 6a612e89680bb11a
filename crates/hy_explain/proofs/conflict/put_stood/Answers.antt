use Rattle.std.proofs.Common.{ℕ, List, ◌++◌}
use Rattle.std.specs.Prelude.{codes}
use Rattle.std.proofs.lemmas.Result.{on_ok_weaker}
use Rattle.hy_explain.specs.Explained.{named}
use Rattle.hy_explain.proofs.Pieces.{two_put}
use Rattle.hy_explain.proofs.conflict.put_stood.Goals as goal

pub returns : goal.returns
returns c =
    let out : List ℕ = c.args.out.now.items in
    let words : List ℕ = codes "There stood " in
    let since : List ℕ = codes " at the start of " in
    let name : List ℕ = named c.args.script.now c.args.label in
    let begun = two_put out words _ _ _ c.in_ok-put.ensures c.in_ok-put_version.ensures in
    let more = two_put out (words ++ _) since _ _ begun c.in_ok-put-2.ensures in
    let told = two_put out ((words ++ _) ++ since) name _ _ more c.in_ok-put_label.ensures in
    on_ok_weaker c.put-3.result (two_put out (((words ++ _) ++ since) ++ name) (codes ".\n") _ _ told) c.put-3.ensures
