use Rattle.std.proofs.Common.{◌≡◌, ◌+◌, ◌≤◌, true, false, length, take}
use Rattle.hy_limits.specs.declared.TheConstants.{MOST_BYTES}
use Rattle.hy_lines.specs.Lines.{has_feed}
use Rattle.hy_lines.specs.Hearing.{Adds}
use Rattle.hy_lines.proofs.Lines.take_line.Given as goal

-- what is searched has no line feed, and each turn but the last takes a byte
abbrev pub invariant-turns : goal.invariant-turns
invariant-turns g l = record {
  adds : Adds (g.R.Source.rest l.fn.source) (g.R.Source.rest l.source) l.fn.self l.self;
  searched : l.searched ≤ length l.self.kept;
  none : has_feed (take l.searched l.self.kept) ≡ false;
  advanced : l.self.done ≡ false → l.counter ≤ l.self.taken;
  turns : l.counter ≤ MOST_BYTES + 1;
  waits : has_feed l.fn.self.kept ≡ true → l.source ≡ l.fn.source;
  over : l.fn.self.done ≡ true → l.source ≡ l.fn.source;
  steady : g.R.Source.faults l.source ≡ g.R.Source.faults l.fn.source;
}
