use Rattle.std.proofs.Common.{◌≡◌}
use Rattle.hy_undo.proofs.spares.Spares.add_places.Given as goal

-- so many places are free, and the rest is as it was
abbrev pub invariant-loop-place : goal.invariant-loop-place
invariant-loop-place l = record {
  free : l.self.free ≡ l._place;
  count : l.self.count ≡ l.initial.self.count;
  columns : l.self.columns ≡ l.initial.self.columns;
  texts : l.self.texts ≡ l.initial.self.texts;
}
