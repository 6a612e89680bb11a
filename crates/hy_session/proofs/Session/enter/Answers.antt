use Rattle.std.proofs.Common.{List, sym, subst}
use Rattle.hy_bound.specs.Savepoints.{Saved}
use Rattle.hy_session.specs.Limits.{IsSavedInOrder}
use Rattle.hy_session.specs.Savepoints.{savepoints}
use Rattle.hy_notes.specs.Notes.{Ascends}
use Rattle.hy_session.specs.Seeking.{Rises}
use Rattle.hy_session.proofs.OrderedNotes.{open_rises}
use Rattle.hy_session.proofs.VisitNumbers.{room_stays}
use Rattle.hy_session.proofs.Session.enter.Goals as goal

pub invariant_of-self-2 : goal.invariant_of-self-2
invariant_of-self-2 c = (
  c.self.invariant.0,
  room_stays c.self.inside.now c.in-Some.now c.in-Some.is c.self.invariant.1 c.in-Some.now,
  record {
    notes = subst Ascends (sym c.in_ok-time.ensures.none) tt;
    saved = subst (λ (names : List (Saved (Unit {0}))). IsSavedInOrder (savepoints names c.enter.new.changes.levels)) (sym c.truncate.ensures) tt;
    wrote = subst Rises (sym c.in_ok-wrote.ensures) (open_rises c.self.inside.now c.in-Some.now c.self.invariant.2 c.in-Some.is);
  },
)
