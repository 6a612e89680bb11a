use Rattle.std.proofs.Common.{◌≡◌, ◌++◌, drop, filter}
use Rattle.hy_notes.specs.Notes.{is_between}
use Rattle.hy_notes.specs.Levels.{noted_since, stretches_in}
use Rattle.hy_notes.proofs.levels.Levels.push_between.Given as goal

-- what is wanted of the notes so far was pushed
abbrev pub invariant-loop-note : goal.invariant-loop-note
invariant-loop-note l =
    l.list.items ++ filter (is_between l.wanted.table l.wanted.from l.wanted.to) (noted_since (drop l.begin (stretches_in l.self)) (drop l.note-index l.notes))
    ≡ l.initial.list.items ++ filter (is_between l.wanted.table l.wanted.from l.wanted.to) (noted_since (drop l.begin (stretches_in l.self)) l.notes)
