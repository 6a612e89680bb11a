use Rattle.std.proofs.Common.{Bor, map}
use Rattle.hy_bound.specs.declared.predicate.Pred.{Pred}
use Rattle.hy_chunk.proofs.Masking.{JoinsSome}
use Rattle.hy_chunk.proofs.masks.admitted_by_all.Given as goal

abbrev pub invariant-loop-part : goal.invariant-loop-part
invariant-loop-part l = JoinsSome (map (λ (part : Bor Pred). part.now) l.parts) l.part-index l.positions.places l.found l.is_exact
