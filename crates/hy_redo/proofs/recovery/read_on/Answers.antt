use Rattle.std.proofs.Common.{◌≡◌, ◌++◌, ℕ, length, arith, sym, subst}
use Rattle.hy_disk.specs.Bytes.{ReadsAt}
use Rattle.hy_redo.specs.Tests.{IsFrontOf}
use Rattle.hy_redo.proofs.Pieces.{next_front}
use Rattle.hy_redo.proofs.recovery.read_on.Goals as goal

pub returns-clause-front : goal.returns-clause-front
returns-clause-front g c =
    let bytes = c.args.bytes.now.items in
    let piece = c.in_ok-piece.piece.items in
    let is : c.extend_from_slice.new.self.items ≡ bytes ++ piece =
    cc (c.in_ok-extend_from_slice.ensures.items, c.deref.ensures.value) in
    let start : c.len-start.result ≡ length bytes = omega (arith, c.len-start.ensures, c.args.bytes.now.ok.0) in
    subst (IsFrontOf (g.D.Disk.held c.args.disk.now)) (sym is)
    (next_front (g.D.Disk.held c.args.disk.now) bytes piece c.requires.front
    (subst (λ (n : ℕ). ReadsAt (g.D.Disk.held c.args.disk.now) n piece) start c.in_ok-piece.ensures.bytes))
