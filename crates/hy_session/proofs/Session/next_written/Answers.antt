use Rattle.std.proofs.Common.{arith, ◌≡◌, ℕ, ◌*◌, ◌/◌, ◌∙◌, ap, sym, subst}
use Rattle.std.specs.Prelude.{nat_lt}
use Rattle.std.specs.Bool.{then_some}
use Rattle.hy_event.specs.declared.SessionData.{SessionData}
use Rattle.hy_session.specs.Savepoints.{places_since}
use Rattle.hy_session.specs.Seeking.{IsNextChunk, first_from}
use Rattle.hy_session.proofs.NextChunks.{next_by, no_rows, none_next}
use Rattle.hy_session.proofs.Session.next_written.Goals as goal

pub returns-in_err-pos : goal.returns-in_err-pos
returns-in_err-pos c =
    let session = c.args.self.now in
    let places = places_since c.args.now.now c.args.savepoint in
    let rows : c.self.inside.rows ≡ session.rows = ap (λ (s : SessionData). s.rows) c.self.view_is in
    let first : c.args.from * session.rows ≡ c.from.result * c.from-2.result = cc in
    subst (IsNextChunk session places c.args.table c.args.from) (sym c.from_residual.ensures)
    (none_next session places c.args.table c.args.from
    (ap (λ (n : ℕ). first_from c.args.table n places) first ∙ (sym c.first_since.ensures ∙ c.in_err-pos.was)))

pub returns-in_err-chunk : goal.returns-in_err-chunk
returns-in_err-chunk c =
    let session = c.args.self.now in
    let rows : c.self.inside.rows ≡ session.rows = ap (λ (s : SessionData). s.rows) c.self.view_is in
    let none : session.rows ≡ 0 = omega (arith, rows, c.in_err-chunk.ensures) in
    subst (IsNextChunk session (places_since c.args.now.now c.args.savepoint) c.args.table c.args.from) (sym c.from_residual-in_err-chunk.ensures)
    (no_rows session (places_since c.args.now.now c.args.savepoint) c.args.table c.args.from none)

pub returns : goal.returns
returns c =
    let session = c.args.self.now in
    let places = places_since c.args.now.now c.args.savepoint in
    let rows : c.self.inside.rows ≡ session.rows = ap (λ (s : SessionData). s.rows) c.self.view_is in
    let chunks : c.self.inside.chunks ≡ session.chunks = ap (λ (s : SessionData). s.chunks) c.self.view_is in
    let first : c.args.from * session.rows ≡ c.from.result * c.from-2.result = cc in
    subst (IsNextChunk session places c.args.table c.args.from)
    (sym (c.then_some.ensures ∙ ap (λ (n : ℕ). then_some (nat_lt c.in_ok-chunk.chunk n) c.in_ok-chunk.chunk) chunks))
    (next_by session places c.args.table c.args.from c.in_ok-pos.pos c.requires (omega (arith, rows, c.in_ok-chunk.ensures.0))
    (ap (λ (n : ℕ). first_from c.args.table n places) first ∙ (sym c.first_since.ensures ∙ c.in_ok-pos.was))
    c.in_ok-chunk.chunk (c.in_ok-chunk.ensures.1 ∙ ap (λ (n : ℕ). c.in_ok-pos.pos / n) rows))
