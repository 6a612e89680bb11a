use Rattle.std.proofs.Common.{◌≡◌, ◌++◌, take, map}
use Rattle.hy_notes.specs.Notes.{place_of}
use Rattle.hy_notes.proofs.blocks.push_places.Given as goal

-- the places of the notes so far stand behind the others
abbrev pub invariant-loop-note : goal.invariant-loop-note
invariant-loop-note l = l.places.items ≡ l.initial.places.items ++ map place_of (take l.note-index l.notes)
