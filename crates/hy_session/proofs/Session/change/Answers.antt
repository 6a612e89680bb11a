use Rattle.std.proofs.Common.{◌≡◌, ℕ, None, Some, Ok, length, vec_len, vec_capacity, ap, sym, subst, ◌∙◌, arith}
use Rattle.std.specs.Prelude.{slice_get}
use Rattle.std.specs.declared.alloc.AllocError.{AllocError}
use Rattle.hy_stamp.specs.Times.{id_of}
use Rattle.hy_event.specs.declared.SessionData.{SessionData}
use Rattle.hy_event.specs.declared.Open.{Open}
use Rattle.hy_protocol.specs.declared.Phase.TheVariants.{Working, Stamping, Undoing}
use Rattle.hy_event.specs.Sessions.{notes_since, txn_at}
use Rattle.hy_event.specs.Turns.{with_open}
use Rattle.hy_session.specs.contracts.Session.{the_view}
use Rattle.hy_session.specs.declared.Session.TheInside.{Inside}
use Rattle.hy_session.specs.Limits.{IsLimited, HasOrder, HasRoomFor}
use Rattle.hy_session.specs.declared.visitors.Visitor.{Visitor}
use Rattle.hy_session.specs.Short.{LeavesShort, visit_prunes}
use Rattle.hy_session.specs.Visitors.{IsVisitor, ShortAt}
use Rattle.hy_bound.specs.declared.Bound.{Bound}
use Rattle.hy_bound.specs.declared.Ending.TheVariants.{RolledBack}
use Rattle.hy_visit.specs.Backing.{MayAllGoBack}
use Rattle.hy_session.proofs.OrderedNotes.{open_saved, stamped_in_order, undone_in_order, worked_in_order}
use Rattle.hy_session.proofs.VisitNumbers.{room_stays, stamp_fits, undo_fits}
use Rattle.hy_session.proofs.OpenVisits.{closed, event_moves, stamped, undone, worked}
use Rattle.hy_session.proofs.Dispatch.{close_prunes_nothing, statement_is}
use Rattle.hy_session.proofs.ShortChains.{leaves_at, leaves_others, leaves_stamped, leaving_moves}
use Rattle.hy_session.proofs.Results.{got, got_none, ok_gives}
use Rattle.hy_session.proofs.Session.change.Goals as goal
use Rattle.hy_session.proofs.Session.change.Goals.{in-Working+in-Some-get, in-Working+in-None, in-Stamping, in-Undoing}

abbrev visitor_at : goal.Joined-now → Visitor
visitor_at c = record {
  label = c.label-label.result;
  id = c.id.result;
  shapes = c.as_slice-2.result;
  chunks = c.self.inside.chunks;
  prunes = c.self.inside.prunes;
}

visitor_is : (c : goal.Joined-now) → IsVisitor c.args.self.now (visitor_at c)
visitor_is c = record {
  label = c.label-label.ensures;
  id = c.id.ensures ∙ ap id_of c.label-label.ensures;
  shapes = c.as_slice-2.ensures ∙ ap (λ (v : SessionData). v.shapes) c.self.view_is;
  chunks = ap (λ (v : SessionData). v.chunks) c.self.view_is;
  prunes = ap (λ (v : SessionData). v.prunes) c.self.view_is;
}

txn_is : (c : goal.Joined-now) → txn_at c.args.self.now ≡ Some c.in-Some.txn.now
txn_is c =
    got c.args.self.now.program c.as_slice.result.now c.len.result (length c.args.self.now.done) c.in-Some.txn.now
    (c.as_slice.ensures ∙ ap (λ (v : SessionData). v.program) c.self.view_is)
    (omega (arith, c.len.ensures, c.self.inside.done.ok.0, ap (λ (v : SessionData). length v.done) c.self.view_is))
    c.in-Some.ensures.lookup.0 c.in-Some.ensures.lookup.1

open_is : (c : goal.Joined-now) → c.args.self.now.now ≡ Some c.in-Some-now.now
open_is c = ap (λ (v : SessionData). v.now) (sym c.self.view_is) ∙ c.in-Some-now.is

pub returns-clause-event : goal.returns-clause-event
returns-clause-event c =
    let session = c.args.self.now in
    let now = c.in-Some-now.now in
    let txn = c.in-Some.txn.now in
    let chunk = c.args.chunk.now in
    let seen = the_view c.self.inside in
    elim c.match-now.branch [
      | in-Working+in-Some-get w ↦
          let works : now.phase ≡ Working w.in-Working.visited w.in-Working.count = ap (λ (v : Open). v.phase) (sym c.now.view_is) ∙ w.in-Working.is in
          let present : slice_get txn.statements (length now.replies) ≡ Some w.in-Some-get.statement.now =
          got txn.statements w.as_slice-in-Working.result.now w.len-in-Working.result (length now.replies) w.in-Some-get.statement.now w.as_slice-in-Working.ensures
          (omega (arith, w.len-in-Working.ensures, c.now.inside.replies.ok.0, ap (λ (v : Open). length v.replies) c.now.view_is))
          w.in-Some-get.ensures.lookup.0 w.in-Some-get.ensures.lookup.1 in
          event_moves session chunk.shown c.match-now.result w.visit_statement.result _ (with_open w.visit_statement.new.now seen) c.match-now.chunk w.visit_statement.new.chunk
          w.result-is (ap the_view w.self-inside-is) w.chunk-is
          (worked session seen (visitor_at c) txn now w.visit_statement.new.now chunk w.visit_statement.new.chunk.shown w.visit_statement.result c.self.view_is (visitor_is c) (txn_is c) (open_is c)
          w.in-Working.visited w.in-Working.count w.in-Some-get.statement.now works present w.visit_statement.ensures.event)
      | in-Working+in-None w ↦
          let works : now.phase ≡ Working w.in-Working.visited w.in-Working.count = ap (λ (v : Open). v.phase) (sym c.now.view_is) ∙ w.in-Working.is in
          let none : slice_get txn.statements (length now.replies) ≡ None =
          got_none txn.statements w.as_slice-in-Working.result.now w.len-in-Working.result (length now.replies) w.as_slice-in-Working.ensures
          (omega (arith, w.len-in-Working.ensures, c.now.inside.replies.ok.0, ap (λ (v : Open). length v.replies) c.now.view_is))
          w.in-None.ensures.lookup.0 in
          event_moves session chunk.shown c.match-now.result (Ok w.undo.result) _ (with_open w.undo.new.now seen) c.match-now.chunk w.undo.new.chunk
          w.result-is (ap the_view w.self-inside-is) w.chunk-is
          (closed {E = AllocError} session seen (visitor_at c) txn now w.undo.new.now chunk w.undo.new.chunk.shown (Ok w.undo.result)
          c.self.view_is (visitor_is c) (txn_is c) (open_is c)
          w.in-Working.visited w.in-Working.count c.requires.near works none w.undo.ensures.event)
      | in-Stamping w ↦
          let stands : now.phase ≡ Stamping w.in-Stamping.visited = ap (λ (v : Open). v.phase) (sym c.now.view_is) ∙ w.in-Stamping.is in
          event_moves session chunk.shown c.match-now.result (Ok w.stamp.result) _ (with_open w.stamp.new.now seen) c.match-now.chunk w.stamp.new.chunk
          w.result-is (ap the_view w.self-inside-is) w.chunk-is
          (stamped {E = AllocError} session seen (visitor_at c) txn now w.stamp.new.now chunk w.stamp.new.chunk.shown (Ok w.stamp.result)
          c.self.view_is (visitor_is c) (txn_is c) (open_is c)
          w.in-Stamping.visited stands w.stamp.ensures.event)
      | in-Undoing w ↦
          let stands : now.phase ≡ Undoing w.in-Undoing.visited w.in-Undoing.cause = ap (λ (v : Open). v.phase) (sym c.now.view_is) ∙ w.in-Undoing.is in
          event_moves session chunk.shown c.match-now.result (Ok w.undo-in-Undoing.result) _ (with_open w.undo-in-Undoing.new.now seen) c.match-now.chunk
          w.undo-in-Undoing.new.chunk w.result-is (ap the_view w.self-inside-is) w.chunk-is
          (undone {E = AllocError} session seen (visitor_at c) txn now w.undo-in-Undoing.new.now chunk w.undo-in-Undoing.new.chunk.shown
          (Ok w.undo-in-Undoing.result) c.self.view_is
          (visitor_is c) (txn_is c) (open_is c) w.in-Undoing.visited w.in-Undoing.cause stands w.undo-in-Undoing.ensures.event)
    ]

pub returns-clause-short : goal.returns-clause-short
returns-clause-short c =
    let session = c.args.self.now in
    let now = c.in-Some-now.now in
    let txn = c.in-Some.txn.now in
    elim c.match-now.branch [
      | in-Working+in-Some-get w ↦
          let works : now.phase ≡ Working w.in-Working.visited w.in-Working.count = ap (λ (v : Open). v.phase) (sym c.now.view_is) ∙ w.in-Working.is in
          let present : slice_get txn.statements (length now.replies) ≡ Some w.in-Some-get.statement.now =
          got txn.statements w.as_slice-in-Working.result.now w.len-in-Working.result (length now.replies) w.in-Some-get.statement.now w.as_slice-in-Working.ensures
          (omega (arith, w.len-in-Working.ensures, c.now.inside.replies.ok.0, ap (λ (v : Open). length v.replies) c.now.view_is))
          w.in-Some-get.ensures.lookup.0 w.in-Some-get.ensures.lookup.1 in
          leaving_moves session c.match-now.result w.visit_statement.result c.match-now.chunk w.visit_statement.new.chunk w.result-is w.chunk-is
          (ok_gives w.visit_statement.result (ShortAt (visitor_at c) w.in-Working.visited w.in-Some-get.statement.now now.cover w.visit_statement.new.chunk.shown)
          (LeavesShort session session.now w.visit_statement.new.chunk.shown)
          (λ short. leaves_at session (visitor_at c) now w.visit_statement.new.chunk.shown (visitor_is c) (open_is c) txn w.in-Working.visited w.in-Working.count
          w.in-Some-get.statement.now (txn_is c) works present short)
          w.visit_statement.ensures.short)
      | in-Working+in-None w ↦
          let works : now.phase ≡ Working w.in-Working.visited w.in-Working.count = ap (λ (v : Open). v.phase) (sym c.now.view_is) ∙ w.in-Working.is in
          let none : slice_get txn.statements (length now.replies) ≡ None =
          got_none txn.statements w.as_slice-in-Working.result.now w.len-in-Working.result (length now.replies) w.as_slice-in-Working.ensures
          (omega (arith, w.len-in-Working.ensures, c.now.inside.replies.ok.0, ap (λ (v : Open). length v.replies) c.now.view_is))
          w.in-None.ensures.lookup.0 in
          leaving_moves session c.match-now.result (Ok w.undo.result) c.match-now.chunk w.undo.new.chunk w.result-is w.chunk-is
          (leaves_others session now w.undo.new.chunk.shown (open_is c)
          (close_prunes_nothing session txn now (txn_is c) (open_is c) w.in-Working.visited w.in-Working.count works none))
      | in-Stamping w ↦
          leaving_moves session c.match-now.result (Ok w.stamp.result) c.match-now.chunk w.stamp.new.chunk w.result-is w.chunk-is
          (leaves_stamped session (visitor_at c) now w.stamp.new.chunk.shown (visitor_is c) (open_is c) w.stamp.ensures.short)
      | in-Undoing w ↦
          let stands : now.phase ≡ Undoing w.in-Undoing.visited w.in-Undoing.cause = ap (λ (v : Open). v.phase) (sym c.now.view_is) ∙ w.in-Undoing.is in
          leaving_moves session c.match-now.result (Ok w.undo-in-Undoing.result) c.match-now.chunk w.undo-in-Undoing.new.chunk w.result-is
          w.chunk-is (leaves_others session now w.undo-in-Undoing.new.chunk.shown (open_is c) (ap (visit_prunes session now) stands))
    ]

pub visit_statement-requires-clause-order : goal.visit_statement-requires-clause-order
visit_statement-requires-clause-order c =
    let session = c.args.self.now in
    let opened : session.now ≡ Some c.in-Some-now.now = ap (λ (v : SessionData). v.now) (sym c.self.view_is) ∙ c.in-Some-now.is in
    open_saved session.now c.in-Some-now.now (subst (λ (s : SessionData). HasOrder s.now) c.self.view_is c.self.invariant.2) opened

pub visit_statement-requires-clause-back : goal.visit_statement-requires-clause-back
visit_statement-requires-clause-back c = λ name is.
    let session = c.args.self.now in
    let txn = c.in-Some.txn.now in
    let now = c.in-Some-now.now in
    let chunk = c.args.chunk.now in
    let statement = c.in-Some-get.statement.now in
    let there : txn_at session ≡ Some txn =
    got session.program c.as_slice.result.now c.len.result (length session.done) txn
    (c.as_slice.ensures ∙ ap (λ (v : SessionData). v.program) c.self.view_is)
    (omega (arith, c.len.ensures, c.self.inside.done.ok.0, ap (λ (v : SessionData). length v.done) c.self.view_is))
    c.in-Some.ensures.lookup.0 c.in-Some.ensures.lookup.1 in
    let opened : session.now ≡ Some now = ap (λ (v : SessionData). v.now) (sym c.self.view_is) ∙ c.in-Some-now.is in
    let works : now.phase ≡ Working c.in-Working.visited c.in-Working.count = ap (λ (v : Open). v.phase) (sym c.now.view_is) ∙ c.in-Working.is in
    let present : slice_get txn.statements (length now.replies) ≡ Some statement =
    got txn.statements c.as_slice-in-Working.result.now c.len-in-Working.result (length now.replies) statement c.as_slice-in-Working.ensures
    (omega (arith, c.len-in-Working.ensures, c.now.inside.replies.ok.0, ap (λ (v : Open). length v.replies) c.now.view_is))
    c.in-Some-get.ensures.lookup.0 c.in-Some-get.ensures.lookup.1 in
    subst (λ (id : ℕ). MayAllGoBack chunk.kinds chunk.shown.key id (notes_since now name) chunk.shown) (sym (c.id.ensures ∙ ap id_of c.label-label.ensures))
    ((c.requires.near.opened now opened).back c.in-Working.visited c.in-Working.count name works
    (statement_is session txn now there opened c.in-Working.visited c.in-Working.count works statement present ∙ ap (λ (b : Bound). Some b) is))

pub stamp-requires-clause-few : goal.stamp-requires-clause-few
stamp-requires-clause-few c =
    let session = c.args.self.now in
    let there : txn_at session ≡ Some c.in-Some.txn.now =
    got session.program c.as_slice.result.now c.len.result (length session.done) c.in-Some.txn.now
    (c.as_slice.ensures ∙ ap (λ (v : SessionData). v.program) c.self.view_is)
    (omega (arith, c.len.ensures, c.self.inside.done.ok.0, ap (λ (v : SessionData). length v.done) c.self.view_is))
    c.in-Some.ensures.lookup.0 c.in-Some.ensures.lookup.1 in
    let opened : session.now ≡ Some c.in-Some-now.now = ap (λ (v : SessionData). v.now) (sym c.self.view_is) ∙ c.in-Some-now.is in
    let stands : c.in-Some-now.now.phase ≡ Stamping c.in-Stamping.visited =
    ap (λ (v : Open). v.phase) (sym c.now.view_is) ∙ c.in-Stamping.is in
    stamp_fits session (the_view c.self.inside) c.in-Some.txn.now c.in-Some-now.now c.in-Stamping.visited c.args.chunk.now.shown.table
    c.requires.near.number c.self.view_is c.self.invariant.0.few_chunks there opened stands c.requires.near.needed

pub undo-requires-in-Undoing : goal.undo-requires-in-Undoing
undo-requires-in-Undoing c =
    let session = c.args.self.now in
    let there : txn_at session ≡ Some c.in-Some.txn.now =
    got session.program c.as_slice.result.now c.len.result (length session.done) c.in-Some.txn.now
    (c.as_slice.ensures ∙ ap (λ (v : SessionData). v.program) c.self.view_is)
    (omega (arith, c.len.ensures, c.self.inside.done.ok.0, ap (λ (v : SessionData). length v.done) c.self.view_is))
    c.in-Some.ensures.lookup.0 c.in-Some.ensures.lookup.1 in
    let opened : session.now ≡ Some c.in-Some-now.now = ap (λ (v : SessionData). v.now) (sym c.self.view_is) ∙ c.in-Some-now.is in
    let stands : c.in-Some-now.now.phase ≡ Undoing c.in-Undoing.visited c.in-Undoing.cause =
    ap (λ (v : Open). v.phase) (sym c.now.view_is) ∙ c.in-Undoing.is in
    record {
      few = undo_fits session (the_view c.self.inside) c.in-Some.txn.now c.in-Some-now.now c.in-Undoing.visited c.in-Undoing.cause
          c.args.chunk.now.shown.table c.requires.near.number c.self.view_is c.self.invariant.0.few_chunks there opened stands c.requires.near.needed;
    }

abbrev Holds : Inside → Type 0
Holds s =
    IsLimited s.chunks s.shapes s.program (length s.done.items) s.spare.notes s.spare.levels s.prepared
    × HasRoomFor s.now (length s.shapes) (vec_len s.done) (vec_capacity s.done) s.counts.items (vec_capacity s.counts)
    × HasOrder s.now

pub invariant_of-self : goal.invariant_of-self
invariant_of-self c =
    let session = c.args.self.now in
    let now = c.in-Some-now.now in
    let chunk = c.args.chunk.now.shown in
    let tell = c.notes_tell.ensures.more in
    let room = room_stays c.self.inside.now now c.in-Some-now.is c.self.invariant.1 in
    let order : HasOrder session.now = subst (λ (s : SessionData). HasOrder s.now) c.self.view_is c.self.invariant.2 in
    elim c.match-now.branch [
      | in-Working+in-Some-get w ↦
          subst Holds (sym w.self-inside-is) (
            c.self.invariant.0,
            room w.visit_statement.new.now,
            worked_in_order tell session (visitor_at c) now w.visit_statement.new.now chunk w.visit_statement.new.chunk.shown (visitor_is c) (open_is c) order
                w.in-Working.visited w.in-Working.count w.in-Some-get.statement.now w.visit_statement.result w.visit_statement.ensures.event w.visit_statement.ensures.kept,
          )
      | in-Working+in-None w ↦
          subst Holds (sym w.self-inside-is) (
            c.self.invariant.0,
            room w.undo.new.now,
            undone_in_order tell session (visitor_at c) now w.undo.new.now chunk w.undo.new.chunk.shown (visitor_is c) (open_is c) order
                0 RolledBack w.undo.result w.undo.ensures.event,
          )
      | in-Stamping w ↦
          subst Holds (sym w.self-inside-is) (
            c.self.invariant.0,
            room w.stamp.new.now,
            stamped_in_order tell session (visitor_at c) now w.stamp.new.now chunk w.stamp.new.chunk.shown (visitor_is c) (open_is c) order
                w.in-Stamping.visited w.stamp.result w.stamp.ensures.event,
          )
      | in-Undoing w ↦
          subst Holds (sym w.self-inside-is) (
            c.self.invariant.0,
            room w.undo-in-Undoing.new.now,
            undone_in_order tell session (visitor_at c) now w.undo-in-Undoing.new.now chunk w.undo-in-Undoing.new.chunk.shown
                (visitor_is c) (open_is c) order w.in-Undoing.visited w.in-Undoing.cause w.undo-in-Undoing.result w.undo-in-Undoing.ensures.event,
          )
    ]
