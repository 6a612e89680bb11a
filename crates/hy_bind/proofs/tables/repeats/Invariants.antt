use Rattle.std.proofs.Common.{◌≡◌, drop, map}
use Rattle.hy_bind.specs.Literals.{text_of_span}
use Rattle.hy_bind.specs.Statements.{comes_again, repeats}
use Rattle.hy_bind.proofs.tables.repeats.Given as goal

-- of the names so far none came twice
abbrev pub invariant-loop-span : goal.invariant-loop-span
invariant-loop-span l = comes_again l.names (map (text_of_span l.script) (drop l.span-index l.spans)) ≡ repeats (map (text_of_span l.script) l.spans)
