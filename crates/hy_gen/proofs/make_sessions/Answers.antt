use Rattle.std.proofs.Common.{◌<◌, ◌≤◌, ◌∙◌, arith}
use Rattle.hy_gen.proofs.Steps.{one_more, all_there, next_session, no_more_sessions}
use Rattle.hy_gen.proofs.make_sessions.Goals as goal

pub loop-session-preserved : goal.loop-session-preserved
loop-session-preserved c =
    let below : c.loop-session.session < c.args.count = omega arith in
    one_more c.loop-session.sessions.items _ _ _ _ _
    (next_session c.args.txns c.args.count c.loop-session.session c.loop-session.draws.state _ _ _ below
    c.in_ok-name_session.ensures c.in_ok-make_txns.ensures.txns c.in_ok-make_txns.ensures.moved)
    c.in_ok-push.ensures.items c.loop-session.invariant

pub returns : goal.returns
returns c =
    let ended : c.args.count ≤ c.loop-session.session = omega arith in
    c.from_vec.ensures ∙ all_there _ _ _ (no_more_sessions c.args.txns c.args.count c.loop-session.session c.loop-session.draws.state ended) c.loop-session.invariant
