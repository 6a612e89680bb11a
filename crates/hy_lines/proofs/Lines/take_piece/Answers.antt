use Rattle.std.proofs.Common.{◌≡◌, ℕ, ◌++◌, take, ap, ◌∙◌, arith, length-take}
use Rattle.std.proofs.KnownBytes.{Keeps-refl}
use Rattle.std.proofs.lemmas.Bool.{eqb-true}
use Rattle.hy_lines.proofs.Pieces.{Adds-nothing, Adds-piece}
use Rattle.hy_lines.proofs.Lines.take_piece.Goals as goal

pub returns-in_err-reserve-clause-adds : goal.returns-in_err-reserve-clause-adds
returns-in_err-reserve-clause-adds g c =
    Adds-nothing _ _ _ _ c.requires.none c.requires.going (Keeps-refl _)
    (c.reserve.ensures.items ∙ c.cut_front.ensures ∙ ap (λ r. r.kept) c.self.view_is)
    (ap (λ r. r.taken) c.self.view_is) (ap (λ r. r.done) c.self.view_is)

pub returns-in_default-clause-adds : goal.returns-in_default-clause-adds
returns-in_default-clause-adds g c =
    Adds-nothing _ _ _ _ c.requires.none c.requires.going c.in_default.ensures.failed
    (c.reserve.ensures.items ∙ c.cut_front.ensures ∙ ap (λ r. r.kept) c.self.view_is)
    (ap (λ r. r.taken) c.self.view_is) (ap (λ r. r.done) c.self.view_is)

pub returns-clause-adds : goal.returns-clause-adds
returns-clause-adds g c =
    let piece = take c.in-Ok.count c.read.new.into in
    let kept = c.reserve.ensures.items ∙ c.cut_front.ensures ∙ ap (λ r. r.kept) c.self.view_is in
    Adds-piece _ _ _ _ piece c.requires.none c.requires.going c.in-Ok.ensures.given
    ((rw c.unwrap.ensures at c.extend_from_slice.ensures.items) ∙ ap (λ xs. xs ++ piece) kept)
    (omega (arith, ap (λ r. r.taken) c.self.view_is, length-take {A = ℕ}, c.in-Ok.ensures.bound))
    (λ now.
    let none : c.in-Ok.count ≡ 0 = eqb-true c.in-Ok.count 0 now in (
      ap (λ n. take n c.read.new.into) none,
      c.in-Ok.ensures.end none (omega (arith, length-take {A = ℕ}, c.min-asked.ensures, c.requires.limit, ap (λ r. r.taken) c.self.view_is)),
    ))
