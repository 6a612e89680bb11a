use Rattle.std.proofs.Common.{◌≡◌, ◌++◌, Option, drop, filter, sym, ap, ◌∙◌, rules}
use Rattle.hy_notes.specs.Notes.{Cell, is_between}
use Rattle.hy_notes.specs.Levels.{was_at, note_from, noted_since, stretches_in}
use Rattle.hy_notes.proofs.Reading.{pushed, left_out}
use Rattle.hy_notes.proofs.levels.Levels.push_between.Goals as goal
use Rattle.hy_notes.proofs.levels.Levels.push_between.Goals.{then-has+in_ok-push_from, else-has}

pub loop-note-preserved : goal.loop-note-preserved
loop-note-preserved c =
    let stretches = drop c.args.begin (stretches_in c.args.self.now) in
    let wanted = c.args.wanted.now in
    let note = c.note-item.result in
    let all = c.args.list.now.items ++ filter (is_between wanted.table wanted.from wanted.to) (noted_since stretches c.args.notes.now) in
    elim c.if-has.branch [
      | then-has+in_ok-push_from w ↦
          let same : w.from.result ≡ note.pos = search rules in
          let more : w.push_from.new.list.items ≡ c.loop-note.list.items ++ note_from (was_at stretches note.table note.pos) note =
          w.in_ok-push_from.ensures
          ∙ ap (λ (was : Option Cell). c.loop-note.list.items ++ note_from was note) (w.first_note-was.ensures ∙ ap (was_at stretches note.table) same) in
          rw (w.list-is) (pushed stretches wanted.table wanted.from wanted.to c.args.notes.now c.loop-note.list.items c.loop-note.note-index note c.loop-note-test.true c.note-item.is all
          c.loop-note.invariant w.push_from.new.list.items (sym c.has.ensures ∙ w.if-has.true) more)
      | else-has w ↦
          rw (w.list-is) (left_out stretches wanted.table wanted.from wanted.to c.args.notes.now c.loop-note.list.items c.loop-note.note-index note c.loop-note-test.true c.note-item.is all
          c.loop-note.invariant (sym c.has.ensures ∙ w.if-has.false))
    ]
