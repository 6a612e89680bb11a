use Rattle.std.proofs.Common.{◌≡◌, length, arith}
use Rattle.hy_serving.proofs.Bare.{heard_there}
use Rattle.hy_serving.proofs.Desk.hear_bare.Goals as goal

pub returns-in-Ok : goal.returns-in-Ok
returns-in-Ok c =
    let desk = c.args.self.now in
    let none : length desk.sofar.names ≡ 0 = omega (arith, c.len.ensures, c.if-len-eq0.true) in
    heard_there c.args.options.now desk c.args.line.now c.in_ok-ast.field-0 c.in-Ok.ast c.define.result c.define.new.self none c.in_ok-ast.ensures c.in-Ok.is c.define.ensures
