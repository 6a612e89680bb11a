use Rattle.std.proofs.Common.{◌≡◌, drop}
use Rattle.hy_notes.specs.Levels.{noted_since, stretches_in}
use Rattle.hy_notes.proofs.levels.Levels.first_of.Given as goal

-- none of the notes so far is one since then
abbrev pub invariant-loop-note : goal.invariant-loop-note
invariant-loop-note l = noted_since (drop l.begin (stretches_in l.self)) (drop l.note-index l.notes) ≡ noted_since (drop l.begin (stretches_in l.self)) l.notes
