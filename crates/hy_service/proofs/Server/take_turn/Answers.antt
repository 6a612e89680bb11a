use Rattle.std.proofs.Common.{sym, subst}
use Rattle.hy_service.proofs.LoggedTurns.{a_turn, answered_by, core_stays, kept_still, on_ok, run_still, turn_logs}
use Rattle.hy_growing.specs.Growing.{pushed}
use Rattle.hy_machine.specs.Runs.{whole_of}
use Rattle.hy_service.specs.Knowing.{ServerData}
use Rattle.hy_service.proofs.Server.take_turn.Goals as goal
use Rattle.hy_world.specs.Logged.{IsKept}

pub step_whole-requires : goal.step_whole-requires
step_whole-requires g c = record {
  kept = subst (λ (server : ServerData). IsKept g.D.Disk.image c.push.new.self.core.entries server.log c.args.disk.now) (sym c.self.view_is)
      (kept_still g.D.Disk.image c.args.world.now.core c.push.new.self.core c.args.self.now.log c.args.disk.now
      (core_stays c.args.session c.args.line c.args.world.now c.push.new.self c.requires.awaits c.in_ok-push.ensures.after) c.requires.kept);
}

pub returns-in_err-push-clause-logs : goal.returns-in_err-push-clause-logs
returns-in_err-push-clause-logs g c = λ setting state kinds shows can.
    let d = g.D.Disk in
    let next = pushed setting c.args.session c.args.line in
    run_still d.clock d.image_since next kinds (whole_of next state c.args.session) c.args.disk.now

pub returns-clause-answered : goal.returns-clause-answered
returns-clause-answered g c =
    on_ok c.step_whole.result
    (answered_by c.args.session c.args.line c.args.world.now c.push.new.self c.step_whole.new.self c.requires.awaits c.in_ok-push.ensures.after
    c.in_ok-push.ensures.grows c.step_whole.ensures.kinds) c.step_whole.ensures.follows

pub returns-clause-logs : goal.returns-clause-logs
returns-clause-logs g c =
    let d = g.D.Disk in
    turn_logs c.step_whole.result d.clock d.image_since c.logs_tell_orders.ensures c.args.session c.args.line c.args.world.now c.push.new.self
    c.step_whole.new.self c.args.disk.now c.step_whole.new.disk c.in_ok-push.ensures.grows c.step_whole.ensures.follows c.step_whole.ensures.under_way
    c.step_whole.ensures.logs
