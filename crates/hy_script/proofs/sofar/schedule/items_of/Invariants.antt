use Rattle.std.proofs.Common.{◌≡◌, ◌++◌, map, drop}
use Rattle.hy_script.specs.Growing.{item_at}
use Rattle.hy_script.proofs.sofar.schedule.items_of.Given as goal

-- the items so far, and those of what is left
abbrev pub invariant-loop-turn : goal.invariant-loop-turn
invariant-loop-turn l = l.items ++ map (item_at l.script l.names) (drop l.turn-index l.turns) ≡ map (item_at l.script l.names) l.turns
