use Rattle.std.proofs.Common.{arith, ◌≡◌, ◌+◌, ◌<◌, ℕ, List, length, drop, ap, sym, ◌∙◌}
use Rattle.std.specs.List.{slice_get}
use Rattle.hy_event.specs.declared.SessionData.{SessionData}
use Rattle.hy_event.specs.Needs.{chunk_or_core}
use Rattle.hy_event.specs.Sessions.{chunks_from}
use Rattle.hy_session.specs.Savepoints.{places_since}
use Rattle.hy_session.proofs.WrittenChunks.{tables_more}
use Rattle.hy_session.proofs.Session.left_of_written.Goals as goal

pub returns-in-Ok : goal.returns-in-Ok
returns-in-Ok c =
    let tables : length c.self.inside.shapes ≡ length c.args.self.now.shapes = ap (λ (session : SessionData). length session.shapes) c.self.view_is in
    let within : c.loop-table.table < length c.args.self.now.shapes = omega (arith, tables, c.len-table-end.ensures, c.loop-table-test.true) in
    ap chunk_or_core
    (sym (c.in-Ok.ensures (chunks_from c.args.self.now (places_since c.args.now.now c.args.savepoint) (c.loop-table.table + 1)
    (drop (c.loop-table.table + 1) c.args.self.now.shapes)))
    ∙ (ap (λ (chunks : List (ℕ × ℕ)). slice_get chunks c.loop-table.left)
    (sym (tables_more c.args.self.now (places_since c.args.now.now c.args.savepoint) c.loop-table.table c.args.self.now.shapes within)) ∙ c.loop-table.invariant))

pub loop-table-preserved : goal.loop-table-preserved
loop-table-preserved c =
    let tables : length c.self.inside.shapes ≡ length c.args.self.now.shapes = ap (λ (session : SessionData). length session.shapes) c.self.view_is in
    let within : c.loop-table.table < length c.args.self.now.shapes = omega (arith, tables, c.len-table-end.ensures, c.loop-table-test.true) in
    sym (c.in-Err.ensures (chunks_from c.args.self.now (places_since c.args.now.now c.args.savepoint) (c.loop-table.table + 1)
    (drop (c.loop-table.table + 1) c.args.self.now.shapes)))
    ∙ (ap (λ (chunks : List (ℕ × ℕ)). slice_get chunks c.loop-table.left)
    (sym (tables_more c.args.self.now (places_since c.args.now.now c.args.savepoint) c.loop-table.table c.args.self.now.shapes within)) ∙ c.loop-table.invariant)

pub seek_in_table-requires-clause-within : goal.seek_in_table-requires-clause-within
seek_in_table-requires-clause-within c =
    let tables : length c.self.inside.shapes ≡ length c.args.self.now.shapes = ap (λ (session : SessionData). length session.shapes) c.self.view_is in
    omega (arith, tables, c.len-table-end.ensures, c.loop-table-test.true)
