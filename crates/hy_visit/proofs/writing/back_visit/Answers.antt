use Rattle.std.proofs.Common.{◌≡◌, ◌+◌, ◌-◌, ◌<◌, ◌≤◌, length, refl, sym, ap, ◌∙◌, subst, arith}
use Rattle.hy_value.specs.declared.Kind.{Kind}
use Rattle.hy_undo.specs.Chunks.{ChunkData, Written}
use Rattle.hy_notes.specs.Notes.{with_note}
use Rattle.std.specs.Prelude.{map, List, ℕ}
use Rattle.hy_chunk.specs.Backing.{MayGoBack, change_back}
use Rattle.hy_chunk.specs.Fields.{nth}
use Rattle.hy_chunk.specs.Sound.{most_texts}
use Rattle.hy_chunk.specs.Steps.{IsPut}
use Rattle.hy_chunk.specs.Views.{Whole, with_places}
use Rattle.hy_visit.proofs.Backs.{back_none, back_one, back_all, may_here, note_here}
use Rattle.hy_visit.proofs.writing.back_visit.Goals as goal

pub write_back-requires-clause-first : goal.write_back-requires-clause-first
write_back-requires-clause-first c =
    let v = c.loop-note.invariant in
    let old = c.args.chunk.now.shown in
    let here = note_here c.args.writer.now c.args.since.now old c.args.changes.now.notes c.args.changes.now.levels c.requires.order c.requires.within
    c.loop-note.note-index c.note-item.result (omega (arith, c.loop-note-test.true)) c.note-item.is in
    let first = here.first in
    omega (arith, first, ap (λ (w : Whole). w.shown.first) v.all)

pub write_back-requires-clause-within : goal.write_back-requires-clause-within
write_back-requires-clause-within c =
    let v = c.loop-note.invariant in
    let old = c.args.chunk.now.shown in
    let here = note_here c.args.writer.now c.args.since.now old c.args.changes.now.notes c.args.changes.now.levels c.requires.order c.requires.within
    c.loop-note.note-index c.note-item.result (omega (arith, c.loop-note-test.true)) c.note-item.is in
    let within = here.within in
    omega (arith, within, ap (λ (w : Whole). w.shown.first) v.all, v.back.size)

pub write_back-requires-clause-may : goal.write_back-requires-clause-may
write_back-requires-clause-may c =
    let v = c.loop-note.invariant in
    let note = c.note-item.result in
    let old = c.args.chunk.now in
    subst (λ (w : Whole). MayGoBack w.kinds w.shown.key c.args.writer.now.viewer.id note.before (nth w.shown.places (note.pos - w.shown.first)))
    (sym v.all)
    (may_here c.args.writer.now c.args.since.now old.shown c.args.changes.now.notes c.args.changes.now.levels c.requires.order c.requires.within
    c.loop-note.note-index note (omega (arith, c.loop-note-test.true)) c.note-item.is old.kinds old.shown.key c.requires.may c.loop-note.chunk.shown.places
    c.loop-note.changes.notes c.loop-note.changes.levels v.back)

pub write_back-requires-clause-room : goal.write_back-requires-clause-room
write_back-requires-clause-room c = let v = c.loop-note.invariant in omega (arith, v.room, c.requires.room, c.loop-note-test.true)

pub write_back-requires-clause-notes : goal.write_back-requires-clause-notes
write_back-requires-clause-notes c = let v = c.loop-note.invariant in omega (arith, v.notes_room, c.requires.notes, c.loop-note-test.true)

pub write_back-requires-clause-wide : goal.write_back-requires-clause-wide
write_back-requires-clause-wide c =
    let v = c.loop-note.invariant in omega (arith, c.requires.wide, v.notes_width, ap (λ (w : Whole). length w.kinds) v.all)

pub write_back-requires-clause-long : goal.write_back-requires-clause-long
write_back-requires-clause-long c =
    let v = c.loop-note.invariant in
    let kinds = ap (λ (w : Whole). most_texts w.kinds) v.all in
    omega (arith, c.requires.long, v.notes_texts, kinds)

pub loop-note-init : goal.loop-note-init
loop-note-init c = record {
  few = omega arith;
  all = refl;
  back = back_none c.args.writer.now c.args.since.now c.args.chunk.now.shown c.args.changes.now.notes c.args.changes.now.levels;
  room = omega arith;
  notes_room = omega arith;
  notes_width = refl;
  notes_texts = refl;
}

pub loop-note-preserved : goal.loop-note-preserved
loop-note-preserved c =
    let v = c.loop-note.invariant in
    let note = c.note-item.result in
    let writer = c.args.writer.now in
    let old = c.args.chunk.now.shown in
    let before = c.loop-note.chunk.shown in
    let after = c.write_back.new.self.shown.places in
    let did = c.write_back.ensures in
    let shown : before ≡ record old { places = before.places } = ap (λ (w : Whole). w.shown) v.all in
    record {
      few = omega (arith, c.loop-note-test.true);
      all = did.all ∙ ap (λ (w : Whole). with_places w after c.write_back.new.self.room) v.all;
      back = back_one writer c.args.since.now old c.args.changes.now.notes c.args.changes.now.levels c.requires.order c.requires.within
          c.loop-note.note-index note (omega (arith, c.loop-note-test.true)) c.note-item.is before.places after c.loop-note.changes.notes
          c.write_back.new.changes.notes c.loop-note.changes.levels c.write_back.new.changes.levels v.back
          (subst (λ (d : ChunkData). IsPut (note.pos - d.first) (Written writer.viewer writer.label note.before) before.places after) shown did.places)
          (did.noted ∙ ap (λ (d : ChunkData). with_note (change_back writer.viewer d note) c.loop-note.changes.notes) shown)
          (did.levels ∙ ap (λ (d : ChunkData). map (with_note (change_back writer.viewer d note)) c.loop-note.changes.levels) shown);
      room = omega (arith, v.room, did.room);
      notes_room = omega (arith, v.notes_room, did.notes_room);
      notes_width = did.notes_width ∙ v.notes_width;
      notes_texts = did.notes_texts ∙ v.notes_texts;
    }

pub returns-clause-done : goal.returns-clause-done
returns-clause-done c =
    let v = c.loop-note.invariant in
    back_all c.args.writer.now c.args.since.now c.args.chunk.now.shown c.args.changes.now.notes c.args.changes.now.levels c.requires.order c.requires.within
    c.loop-note.chunk.shown c.loop-note.changes.notes c.loop-note.changes.levels c.loop-note.note-index (omega (arith, c.loop-note-test.false))
    (ap (λ (w : Whole). w.shown) v.all) v.back

pub returns-clause-room : goal.returns-clause-room
returns-clause-room c = let v = c.loop-note.invariant in omega (arith, v.room, v.few)

pub returns-clause-notes_room : goal.returns-clause-notes_room
returns-clause-notes_room c = let v = c.loop-note.invariant in omega (arith, v.notes_room, v.few)
