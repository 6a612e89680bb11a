use Rattle.std.proofs.Common.{◌≡◌, ℕ, ◌-◌, ◌≤◌, List, length, map, sym, ap, ◌∙◌, subst}
use Rattle.std.specs.Prelude.{Option}
use Rattle.hy_value.specs.declared.Value.{Value}
use Rattle.hy_notes.specs.Notes.{with_note}
use Rattle.hy_notes.specs.Spares.{cell_width, cell_texts}
use Rattle.hy_undo.specs.declared.version.Version.{Version}
use Rattle.hy_undo.specs.Places.{Cell, cell_of, sees}
use Rattle.hy_undo.specs.Chunks.{Written}
use Rattle.hy_chunk.specs.Backing.{MayGoBack, change_back}
use Rattle.hy_chunk.specs.Fields.{nth}
use Rattle.hy_chunk.specs.Sound.{most_texts}
use Rattle.hy_chunk.specs.Steps.{IsPut}
use Rattle.hy_chunk.specs.Views.{Whole}
use Rattle.hy_chunk.proofs.BackAt.{cell_fits, within_texts, within_width}
use Rattle.hy_chunk.proofs.Over.{fits_length}
use Rattle.hy_chunk.proofs.chunk.Chunk.write_back.Goals as goal

pub put_cell-requires : goal.put_cell-requires
put_cell-requires c =
    let since = c.args.since.now in
    let kinds = c.self.inside.positions.kinds in
    let may : MayGoBack kinds c.self.inside.positions.key c.args.viewer.now.id since.before
    (nth c.self.inside.positions.places (since.pos - c.self.inside.first)) =
    subst (λ (w : Whole). MayGoBack w.kinds w.shown.key c.args.viewer.now.id since.before (nth w.shown.places (since.pos - w.shown.first)))
    (sym c.self.view_is) c.requires.may in
    λ row e. c.self.invariant.next_wide ∙ sym (fits_length kinds row (may.fits row e))

pub note_reserved-requires-clause-before : goal.note_reserved-requires-clause-before
note_reserved-requires-clause-before c =
    let kinds = c.self.inside.positions.kinds in
    subst (λ (cell : Cell). cell_width cell ≤ c.args.changes.now.width) (sym c.row_of-before.ensures)
    (within_width kinds c.args.changes.now.width (cell_of c.see.new.version) (cell_fits kinds c.see.new.version c.see.ensures.fits)
    (subst (λ (w : Whole). length w.kinds ≤ c.args.changes.now.width) (sym c.self.view_is) c.requires.wide))

pub note_reserved-requires-clause-after : goal.note_reserved-requires-clause-after
note_reserved-requires-clause-after c =
    let since = c.args.since.now in
    let kinds = c.self.inside.positions.kinds in
    let may : MayGoBack kinds c.self.inside.positions.key c.args.viewer.now.id since.before
    (nth c.self.inside.positions.places (since.pos - c.self.inside.first)) =
    subst (λ (w : Whole). MayGoBack w.kinds w.shown.key c.args.viewer.now.id since.before (nth w.shown.places (since.pos - w.shown.first)))
    (sym c.self.view_is) c.requires.may in
    subst (λ (cell : Cell). cell_width cell ≤ c.args.changes.now.width) (sym (c.row_of-after.ensures ∙ c.put_cell.ensures.cell))
    (within_width kinds c.args.changes.now.width since.before may.fits
    (subst (λ (w : Whole). length w.kinds ≤ c.args.changes.now.width) (sym c.self.view_is) c.requires.wide))

pub note_reserved-requires-clause-texts_before : goal.note_reserved-requires-clause-texts_before
note_reserved-requires-clause-texts_before c =
    let kinds = c.self.inside.positions.kinds in
    subst (λ (cell : Cell). cell_texts cell ≤ c.args.changes.now.texts) (sym c.row_of-before.ensures)
    (within_texts kinds c.args.changes.now.texts (cell_of c.see.new.version) (cell_fits kinds c.see.new.version c.see.ensures.fits)
    (subst (λ (w : Whole). most_texts w.kinds ≤ c.args.changes.now.texts) (sym c.self.view_is) c.requires.long))

pub note_reserved-requires-clause-texts_after : goal.note_reserved-requires-clause-texts_after
note_reserved-requires-clause-texts_after c =
    let since = c.args.since.now in
    let kinds = c.self.inside.positions.kinds in
    let may : MayGoBack kinds c.self.inside.positions.key c.args.viewer.now.id since.before
    (nth c.self.inside.positions.places (since.pos - c.self.inside.first)) =
    subst (λ (w : Whole). MayGoBack w.kinds w.shown.key c.args.viewer.now.id since.before (nth w.shown.places (since.pos - w.shown.first)))
    (sym c.self.view_is) c.requires.may in
    subst (λ (cell : Cell). cell_texts cell ≤ c.args.changes.now.texts) (sym (c.row_of-after.ensures ∙ c.put_cell.ensures.cell))
    (within_texts kinds c.args.changes.now.texts since.before may.fits
    (subst (λ (w : Whole). most_texts w.kinds ≤ c.args.changes.now.texts) (sym c.self.view_is) c.requires.long))

pub back_at-requires-clause-width : goal.back_at-requires-clause-width
back_at-requires-clause-width c = fits_length c.self.inside.positions.kinds c.see.new.version.row c.see.ensures.fits

pub back_at-requires-clause-may : goal.back_at-requires-clause-may
back_at-requires-clause-may c =
    let since = c.args.since.now in
    let kinds = c.self.inside.positions.kinds in
    let may : MayGoBack kinds c.self.inside.positions.key c.args.viewer.now.id since.before
    (nth c.self.inside.positions.places (since.pos - c.self.inside.first)) =
    subst (λ (w : Whole). MayGoBack w.kinds w.shown.key c.args.viewer.now.id since.before (nth w.shown.places (since.pos - w.shown.first)))
    (sym c.self.view_is) c.requires.may in
    subst (λ (cell : Cell). MayGoBack kinds c.self.inside.positions.key c.args.viewer.now.id cell
    (nth c.self.inside.positions.places (since.pos - c.self.inside.first))) (sym c.put_cell.ensures.cell) may

pub returns-clause-places : goal.returns-clause-places
returns-clause-places c =
    let since = c.args.since.now in
    let news = c.back_at.new.self.places in
    subst (λ (w : Whole). IsPut (since.pos - w.shown.first) (Written c.args.viewer.now c.args.label since.before) w.shown.places news) c.self.view_is
    (subst (λ (cell : Cell). IsPut (since.pos - c.self.inside.first) (Written c.args.viewer.now c.args.label cell) c.self.inside.positions.places news)
    c.put_cell.ensures.cell c.back_at.ensures.places)

pub returns-clause-noted : goal.returns-clause-noted
returns-clause-noted c =
    let since = c.args.since.now in
    let was = c.row_of-before.ensures ∙ ap (λ (v : Version). cell_of v) c.see.ensures.version in
    let is = c.row_of-after.ensures ∙ c.put_cell.ensures.cell in
    c.note_reserved.ensures.notes
    ∙ ((λ i. with_note (record { table = c.self.inside.table; pos = since.pos; before = was i; after = is i }) c.args.changes.now.notes)
    ∙ ap (λ (w : Whole). with_note (change_back c.args.viewer.now w.shown since) c.args.changes.now.notes) c.self.view_is)

pub returns-clause-levels : goal.returns-clause-levels
returns-clause-levels c =
    let since = c.args.since.now in
    let was = c.row_of-before.ensures ∙ ap (λ (v : Version). cell_of v) c.see.ensures.version in
    let is = c.row_of-after.ensures ∙ c.put_cell.ensures.cell in
    c.note_reserved.ensures.levels
    ∙ ((λ i. map (with_note (record { table = c.self.inside.table; pos = since.pos; before = was i; after = is i })) c.args.changes.now.levels)
    ∙ ap (λ (w : Whole). map (with_note (change_back c.args.viewer.now w.shown since)) c.args.changes.now.levels) c.self.view_is)
