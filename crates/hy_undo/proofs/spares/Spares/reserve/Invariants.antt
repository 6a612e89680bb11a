use Rattle.std.proofs.Common.{◌≡◌, ◌≤◌}
use Rattle.hy_undo.proofs.spares.Spares.reserve.Given as goal

-- there are so many, of as many columns and texts
abbrev pub invariant-loop-image : goal.invariant-loop-image
invariant-loop-image l = record {
  made : l._image ≤ l.self.count;
  kept : l.initial.self.count ≤ l.self.count;
  columns : l.self.columns ≡ l.initial.self.columns;
  texts : l.self.texts ≡ l.initial.self.texts;
}
