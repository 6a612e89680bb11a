use Rattle.std.proofs.Common.{length, sym, subst}
use Rattle.hy_token.proofs.Progress.{Outcome, token_at-Outcome, ok_moves_on, ok_lies_within, err_within}
use Rattle.hy_token.proofs.next.Goals as goal

pub returns : goal.returns
returns c =
    let len = length c.args.bytes.now in
    let known = subst (Outcome len c.args.at) (sym c.token_at.ensures) (token_at-Outcome c.args.bytes.now c.args.at c.requires) in
    record {
      value = c.token_at.ensures;
      moves_on = ok_moves_on len c.args.at _ known;
      span = ok_lies_within len c.args.at _ known;
      bad = err_within len c.args.at _ known;
    }
