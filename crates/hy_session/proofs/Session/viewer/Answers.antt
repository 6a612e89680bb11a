use Rattle.std.proofs.Common.{◌≤◌, length, subst, arith}
use Rattle.hy_limits.specs.declared.TheConstants.{MOST_TXNS}
use Rattle.hy_event.specs.declared.SessionData.{SessionData}
use Rattle.hy_session.proofs.SelectVisits.{named}
use Rattle.hy_session.proofs.Session.viewer.Goals as goal

pub id-requires : goal.id-requires
id-requires c =
    let few : length c.args.self.now.program ≤ MOST_TXNS =
    subst (λ (session : SessionData). length session.program ≤ MOST_TXNS) c.self.view_is c.self.invariant.0.few_txns in
    named c.args.self.now c.label-label.result c.label-label.ensures (omega arith) c.requires few
