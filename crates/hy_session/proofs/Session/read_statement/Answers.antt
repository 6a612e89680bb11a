use Rattle.std.proofs.Common.{◌≡◌, ℕ, ◌+◌, ◌*◌, ◌/◌, ◌<◌, ◌≤◌, List, Option, Some, None, length, ap, sym, ◌∙◌, subst, arith}
use Rattle.std.specs.Prelude.{slice_get}
use Rattle.std.specs.Borrow.{Bor}
use Rattle.std.specs.Option.{option_copied}
use Rattle.hy_plan.specs.declared.PlanPart.{PlanPart}
use Rattle.hy_plan.specs.Reads.{records_of}
use Rattle.hy_meaning.specs.Statement.{Table}
use Rattle.hy_gathered.specs.Answers.{spread_all}
use Rattle.hy_event.specs.declared.SessionData.{SessionData}
use Rattle.hy_event.specs.declared.Open.{Open}
use Rattle.hy_event.specs.Gathering.{with_rows}
use Rattle.hy_event.specs.Sessions.{viewer_of}
use Rattle.hy_visit.specs.Parts.{tables_found}
use Rattle.hy_visit.specs.Readers.{plan_by, told_of}
use Rattle.hy_session.proofs.SelectPlans.{found_in, has_part, part_there, wide_part}
use Rattle.hy_session.proofs.SelectSteps.{answer_step, less_by, more_step, most_by, rows_taken, taken_same}
use Rattle.hy_session.proofs.Session.read_statement.Goals as goal

pub unreachable-requires : goal.unreachable-requires
unreachable-requires c =
    let session = c.args.self.now in
    let reader = c.args.reader.now in
    let planned = c.requires.planned in
    let chunks : c.self.inside.chunks ≡ session.chunks = ap (λ (s : SessionData). s.chunks) c.self.view_is in
    let some : 0 < session.chunks = subst (λ (n : ℕ). 0 < n) chunks c.self.invariant.0.some_chunk in
    let none : slice_get reader.parts (c.args.present.now.visited / session.chunks) ≡ None =
    found_in _ session reader.parts c.args.present.now.visited _ _ c.self.view_is c.part.ensures
    (ap (λ (one : Option (Bor PlanPart)). option_copied one) c.in_default.is) in
    part_there reader.parts (c.args.present.now.visited / session.chunks)
    (has_part session.shapes c.args.present.now.statement.now (plan_by reader) session.chunks c.args.present.now.visited some planned c.requires.fits.left) none

pub gather_part-requires : goal.gather_part-requires
gather_part-requires c =
    let session = c.args.self.now in
    let reader = c.args.reader.now in
    let planned = c.requires.planned in
    let part = c.in-Some.part.now in
    let found : slice_get reader.parts (c.args.present.now.visited / session.chunks) ≡ Some part =
    found_in _ session reader.parts c.args.present.now.visited _ _ c.self.view_is c.part.ensures
    (ap (λ (one : Option (Bor PlanPart)). option_copied one) c.in-Some.is) in
    c.requires.fits.wide
    ∙ sym (wide_part session c.args.now.now c.args.present.now.statement.now (plan_by reader) part c.args.present.now.visited c.args.chunk.now.shown.table c.requires.fits.number
    planned found c.requires.fits.needed)

pub returns-then-from-parts-clause-step : goal.returns-then-from-parts-clause-step
returns-then-from-parts-clause-step c =
    let session = c.args.self.now in
    let reader = c.args.reader.now in
    let planned = c.requires.planned in
    let part = c.in-Some.part.now in
    let found : slice_get reader.parts (c.args.present.now.visited / session.chunks) ≡ Some part =
    found_in _ session reader.parts c.args.present.now.visited _ _ c.self.view_is c.part.ensures
    (ap (λ (one : Option (Bor PlanPart)). option_copied one) c.in-Some.is) in
    let places = c.args.chunk.now.shown.places in
    let before : c.as_slice-gathered.result.now ≡ c.args.now.now.gathered =
    c.as_slice-gathered.ensures.value ∙ ap (λ (now : Open). now.gathered) c.now.view_is in
    let rows : c.in_ok-piece.piece.rows ≡ rows_taken session c.args.now.now (plan_by reader) part places =
    c.in_ok-piece.ensures.rows
    ∙ taken_same c.viewer.result (viewer_of session c.args.now.now) part c.as_slice-parts.result.now reader.parts c.as_slice-gathered.result.now
    c.args.now.now.gathered places c.viewer.ensures c.as_slice-parts.ensures before in
    let chunks : c.self.inside.chunks ≡ session.chunks = ap (λ (s : SessionData). s.chunks) c.self.view_is in
    let number : ℕ = c.args.present.now.visited / c.self.inside.chunks in
    let same : number ≡ c.args.present.now.visited / session.chunks = ap (λ (n : ℕ). c.args.present.now.visited / n) chunks in
    let next : c.in_ok-next.next ≡ c.args.present.now.visited + 1 = grind (arith, c.checked_add.ensures, c.in_ok-next.ensures) in
    let left : c.in_ok-next.next < session.chunks * length reader.parts =
    less_by c.from.result c.from-2.result (length c.as_slice-parts.result.now) c.in_ok-next.next session.chunks (length reader.parts) c.from.ensures
    (c.from-2.ensures ∙ chunks) (ap (λ (those : List PlanPart). length those) c.as_slice-parts.ensures) c.if-from-parts.true in
    more_step session c.args.now.now c.args.present.now.visited c.args.present.now.statement.now places (plan_by reader) part number c.in_ok-next.next c.in_ok-piece.piece
    planned found same next left rows

pub returns-clause-step : goal.returns-clause-step
returns-clause-step c =
    let session = c.args.self.now in
    let reader = c.args.reader.now in
    let planned = c.requires.planned in
    let part = c.in-Some.part.now in
    let found : slice_get reader.parts (c.args.present.now.visited / session.chunks) ≡ Some part =
    found_in _ session reader.parts c.args.present.now.visited _ _ c.self.view_is c.part.ensures
    (ap (λ (one : Option (Bor PlanPart)). option_copied one) c.in-Some.is) in
    let places = c.args.chunk.now.shown.places in
    let before : c.as_slice-gathered.result.now ≡ c.args.now.now.gathered =
    c.as_slice-gathered.ensures.value ∙ ap (λ (now : Open). now.gathered) c.now.view_is in
    let rows : c.in_ok-piece.piece.rows ≡ rows_taken session c.args.now.now (plan_by reader) part places =
    c.in_ok-piece.ensures.rows
    ∙ taken_same c.viewer.result (viewer_of session c.args.now.now) part c.as_slice-parts.result.now reader.parts c.as_slice-gathered.result.now
    c.args.now.now.gathered places c.viewer.ensures c.as_slice-parts.ensures before in
    let chunks : c.self.inside.chunks ≡ session.chunks = ap (λ (s : SessionData). s.chunks) c.self.view_is in
    let number : ℕ = c.args.present.now.visited / c.self.inside.chunks in
    let same : number ≡ c.args.present.now.visited / session.chunks = ap (λ (n : ℕ). c.args.present.now.visited / n) chunks in
    let next : c.in_ok-next.next ≡ c.args.present.now.visited + 1 = grind (arith, c.checked_add.ensures, c.in_ok-next.ensures) in
    let done : session.chunks * length reader.parts ≤ c.in_ok-next.next =
    most_by c.from.result c.from-2.result (length c.as_slice-parts.result.now) c.in_ok-next.next session.chunks (length reader.parts) c.from.ensures
    (c.from-2.ensures ∙ chunks) (ap (λ (those : List PlanPart). length those) c.as_slice-parts.ensures) c.if-from-parts.false in
    let tables : tables_found c.found_with-found.result ≡ with_rows number c.in_ok-piece.piece.rows c.args.now.now.gathered =
    c.found_with-found.ensures ∙ ap (λ (those : List Table). with_rows number c.in_ok-piece.piece.rows those) before in
    answer_step session c.args.now.now c.args.present.now.visited c.args.present.now.statement.now places (plan_by reader) part number c.in_ok-next.next c.in_ok-piece.piece
    c.in_ok-reply.reply c.in_ok-reply.records planned found same next done rows
    (c.in_ok-reply.ensures.reply ∙ ap (λ (those : List Table). told_of reader.told (spread_all reader.parts those)) tables)
    (c.in_ok-reply.ensures.records
    ∙ ap (λ (those : List Table). records_of session.shapes (length c.args.now.now.replies + 1) c.args.present.now.statement.now (spread_all reader.parts those)) tables)
