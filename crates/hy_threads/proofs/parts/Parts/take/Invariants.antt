use Rattle.std.proofs.Common.{◌≡◌, ℕ}
use Rattle.hy_threads.specs.Knowledge.{Visitor, Seated, refused}
use Rattle.hy_threads.proofs.parts.Parts.take.Given as goal

abbrev pub invariant-loop : goal.invariant-loop
invariant-loop g l =
    (goal.iterator-loop g).can_next l.iterator' × (goal.iterator-loop g).is_finite l.iterator'
    × (l.seat.home ≡ l.fn.seat.home) × (l.seat.id ≡ l.fn.seat.id)
    × ((o : Visitor g.row.P-Session.Denot g.row.P-Part.Denot) → l.fn.seat.knows ≡ Seated o → (n : ℕ) × (l.seat.knows ≡ Seated (refused o l.fn.k n)))
