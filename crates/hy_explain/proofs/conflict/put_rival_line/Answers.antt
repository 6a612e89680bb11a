use Rattle.std.proofs.Common.{ℕ, List, ◌++◌}
use Rattle.std.specs.Prelude.{codes}
use Rattle.std.proofs.lemmas.Result.{on_ok_weaker}
use Rattle.hy_explain.specs.Explained.{named}
use Rattle.hy_explain.proofs.Pieces.{two_put}
use Rattle.hy_explain.proofs.conflict.put_rival_line.Goals as goal

pub returns : goal.returns
returns c =
    let out : List ℕ = c.args.out.now.items in
    let name : List ℕ = named c.args.script.now c.args.other in
    let words : List ℕ = codes " had written there, and" in
    let begun = two_put out name words _ _ c.in_ok-put_label.ensures c.in_ok-put.ensures in
    let more = two_put out (name ++ words) _ _ _ begun c.in_ok-put_rival.ensures in
    on_ok_weaker c.put-2.result (two_put out ((name ++ words) ++ _) (codes ".\n") _ _ more) c.put-2.ensures
