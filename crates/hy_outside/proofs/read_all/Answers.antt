use Rattle.std.proofs.Common.{ℕ, ◌∙◌, ◌++◌, length, take, ap, arith, length-append, length-take}
use Rattle.std.proofs.KnownBytes.{Consumes-trans}
use Rattle.hy_outside.proofs.PieceByPiece.{GivesAtMost-more, GivesPast-given}
use Rattle.hy_outside.proofs.read_all.Goals as goal

pub returns-then-count-limit-clause-too_long : goal.returns-then-count-limit-clause-too_long
returns-then-count-limit-clause-too_long g c = λ _.
    GivesPast-given _ _ (c.turns.bytes.items ++ take c.in-Ok.count c.read.new.into) c.args.limit
    (Consumes-trans _ _ _ _ _ c.turns.invariant.given c.in-Ok.ensures.given)
    (omega (arith, length-append {A = ℕ}, length-take {A = ℕ}, c.in-Ok.ensures.bound))

pub returns-then-count-limit-clause-given : goal.returns-then-count-limit-clause-given
returns-then-count-limit-clause-given g c =
    GivesAtMost-more _ _ _ c.turns.bytes.items (take c.in-Ok.count c.read.new.into) _ c.turns.invariant.given c.in-Ok.ensures.given
    (omega (arith, length-take {A = ℕ}, c.in-Ok.ensures.bound))

pub returns-in_err-extend_from_slice-clause-given : goal.returns-in_err-extend_from_slice-clause-given
returns-in_err-extend_from_slice-clause-given g c =
    GivesAtMost-more _ _ _ c.turns.bytes.items (take c.in-Ok.count c.read.new.into) _ c.turns.invariant.given c.in-Ok.ensures.given
    (omega (arith, length-take {A = ℕ}, c.in-Ok.ensures.bound))

pub returns-in_err-extend_from_slice-clause-within : goal.returns-in_err-extend_from_slice-clause-within
returns-in_err-extend_from_slice-clause-within g c = λ _.
    GivesAtMost-more _ _ _ c.turns.bytes.items (take c.in-Ok.count c.read.new.into) _ c.turns.invariant.given c.in-Ok.ensures.given
    (omega (arith, length-take {A = ℕ}, c.in-Ok.ensures.bound))

pub turns-preserved : goal.turns-preserved
turns-preserved g c = record {
  advanced = omega (arith, ap length c.in_ok-extend_from_slice.ensures.items, length-append {A = ℕ}, c.in-Ok.ensures.bound);
  within = omega (arith, ap length c.in_ok-extend_from_slice.ensures.items, length-append {A = ℕ}, c.in-Ok.ensures.bound);
  given = rw c.in_ok-extend_from_slice.ensures.items (Consumes-trans _ _ _ _ _ c.turns.invariant.given c.in-Ok.ensures.given);
  steady = c.in-Ok.ensures.steady ∙ c.turns.invariant.steady;
}
