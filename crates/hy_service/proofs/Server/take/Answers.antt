use Rattle.std.proofs.Common.{◌∙◌, Some, ap, cond}
use Rattle.hy_service.specs.Knowing.{ServerData}
use Rattle.hy_serving.specs.Saying.{ended}
use Rattle.hy_world.specs.Lines.{is_open_at}
use Rattle.hy_service.specs.Service.{taken}
use Rattle.hy_service.proofs.LoggedTurns.{kept_taken, still, taking_logs}
use Rattle.hy_service.proofs.Takings.{awaits_there, takes_line}
use Rattle.hy_service.proofs.Server.take.Goals as goal

pub take_turn-requires-clause-awaits : goal.take_turn-requires-clause-awaits
take_turn-requires-clause-awaits g c =
    let can = c.requires.known.1 in
    awaits_there c.awaited_lines_are_the_machines.ensures c.args.self.now.options c.requires.known.0 c.args.number c.args.line c.take_world.new.self.desk
    c.take_world.new.self.names c.in_ok-world.world can (c.in_ok-world.ensures.knows c.requires.known.0 can.unused c.requires.known.2)

pub take_turn-requires-clause-kept : goal.take_turn-requires-clause-kept
take_turn-requires-clause-kept g c =
    kept_taken g.D.Disk.image c.args.self.now c.in_ok-world.world.core.entries c.take_world.new.self.log c.args.disk.now c.in_ok-world.ensures.entries
    c.take_world.ensures.same.2 c.requires.kept

pub returns-in_err-world-clause-logs : goal.returns-in_err-world-clause-logs
returns-in_err-world-clause-logs g c = λ service can knows may.
    let d = g.D.Disk in
    let options = c.args.self.now.options in
    still d.clock d.image_since options (taken options service (Some (c.args.number, c.args.line))) c.args.disk.now

pub returns-in_err-take_turn-clause-logs : goal.returns-in_err-take_turn-clause-logs
returns-in_err-take_turn-clause-logs g c = λ service can knows.
    let d = g.D.Disk in
    taking_logs d.clock d.image_since c.args.self.now.options service c.args.number c.args.line c.in_ok-world.world c.args.disk.now c.take_turn.new.disk
    (c.in_ok-world.ensures.knows service can.unused knows).shows c.take_turn.ensures.logs

pub returns-in_err-answer-clause-logs : goal.returns-in_err-answer-clause-logs
returns-in_err-answer-clause-logs g c = λ service can knows.
    let d = g.D.Disk in
    taking_logs d.clock d.image_since c.args.self.now.options service c.args.number c.args.line c.in_ok-world.world c.args.disk.now c.take_turn.new.disk
    (c.in_ok-world.ensures.knows service can.unused knows).shows c.take_turn.ensures.logs

pub returns-clause-logs : goal.returns-clause-logs
returns-clause-logs g c = λ service can knows.
    let d = g.D.Disk in
    taking_logs d.clock d.image_since c.args.self.now.options service c.args.number c.args.line c.in_ok-world.world c.args.disk.now c.take_turn.new.disk
    (c.in_ok-world.ensures.knows service can.unused knows).shows c.take_turn.ensures.logs

pub returns-clause-takes : goal.returns-clause-takes
returns-clause-takes g c = λ service can knows.
    let server = c.take_world.new.self in
    let s = c.self.inside in
    let after : ServerData =
    record { options = s.options; prunes = s.prunes; desk = s.desk; names = s.names; world = s.world; log = s.log } in
    let is = c.self.view_is ∙ c.settle.ensures in
    let rest = c.take_turn.ensures.rest in
    takes_line c.sessions_tell.ensures c.args.self.now.options service c.args.number c.args.line server after c.in_ok-world.world c.take_turn.new.world
    c.is_begin-begins.result c.in_ok-answer.answer.items can (c.in_ok-world.ensures.knows service can.unused knows) c.in_ok-take_turn.ensures.answered
    (ap (λ (one : ServerData). one.options) is ∙ ap (λ (one : ServerData). one.options) rest ∙ c.take_world.ensures.same.0)
    (ap (λ (one : ServerData). one.names) is ∙ ap (λ (one : ServerData). one.names) rest)
    (ap (λ (one : ServerData). one.desk) is
    ∙ ap (λ (one : ServerData). cond (is_open_at c.take_turn.new.world.sessions c.args.number) one.desk (ended c.args.number one.desk)) rest)
    c.is_begin-begins.ensures c.in_ok-answer.ensures
