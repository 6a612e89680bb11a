use Rattle.std.proofs.Common.{◌≡◌, ◌∙◌, not, rules, tests}
use Rattle.std.specs.Prelude.{◌||◌, nat_le}
use Rattle.std.proofs.lemmas.Iterator.{YieldsList-from_slice}
use Rattle.std.proofs.lemmas.Iterator.Search.{all_from_yields_List}
use Rattle.hy_render.specs.declared.TxnOutcome.{TxnOutcome}
use Rattle.hy_lawful.specs.Outcomes.{is_later}
use Rattle.hy_explain.proofs.Pieces.{all_reach}
use Rattle.hy_explain.proofs.full.reaches.Goals as goal

pub returns : goal.returns
returns c =
    all_from_yields_List (λ (later : TxnOutcome). not (is_later c.args.txn.now.label later) || nat_le c.args.rank later.start) _ _ c.all.result c.all.ensures.ran
    (YieldsList-from_slice _ cc) (λ x b q k. search (rules, tests))
    ∙ all_reach c.args.outcome.now c.args.txn.now c.args.rank
