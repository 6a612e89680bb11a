use Rattle.std.proofs.Common.{ℕ, ◌≤◌, ◌∙◌, length, drop, sym, arith, length-drop, length-take}
use Rattle.std.proofs.lemmas.List.{take_rest}
use Rattle.hy_outside.proofs.PieceByPiece.{left-given}
use Rattle.hy_outside.proofs.memory.CleanSource.give.Goals as goal

pub returns-clause-given : goal.returns-clause-given
returns-clause-given c =
    let enough : c.min-count.result ≤ length (drop c.self.inside.taken c.self.inside.bytes.items) =
    omega (arith, length-drop {A = ℕ}, length-take {A = ℕ}, c.deref.ensures.len) in
    sym c.self.view_is
    ∙ left-given c.self.inside.bytes.items c.copy_front.new.into _ c.self.inside.taken c.min-count.result enough
    (rw (c.deref.ensures.value, take_rest c.self.inside.bytes.items c.self.inside.taken) at c.copy_front.ensures)
