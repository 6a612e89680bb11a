use Rattle.std.proofs.Common.{arith, ℕ, ◌-◌, ◌*◌, ◌^◌, ◌<◌, ◌≤◌, Bool, length, subst}
use Rattle.std.proofs.Math.Nat.{mul-le-mul_right}
use Rattle.hy_event.specs.declared.SessionData.{SessionData}
use Rattle.std.specs.List.{list_any}
use Rattle.hy_event.specs.Sessions.{lies_in}
use Rattle.hy_session.specs.Savepoints.{places_since}
use Rattle.hy_session.specs.Seeking.{IsFirstChunk}
use Rattle.hy_session.proofs.RangeSeeks.{is_among_others, is_behind, is_here, is_until}
use Rattle.hy_session.proofs.Session.seek_in_table.Goals as goal

pub returns-then-left-eq0 : goal.returns-then-left-eq0
returns-then-left-eq0 c = λ others.
    let found : IsFirstChunk c.args.self.now (places_since c.args.now.now c.args.savepoint) c.args.table c.loop-next.chunk c.in-Some.next = c.in-Some.ensures in
    let test : ℕ → Bool = λ chunk. list_any (lies_in c.args.self.now c.args.table chunk) (places_since c.args.now.now c.args.savepoint) in
    is_here test (λ (chunk : ℕ). (c.args.table, chunk)) c.in-Some.next _ c.loop-next.left others _ found.within found.written c.if-left-eq0.true
    (is_until test (λ (chunk : ℕ). (c.args.table, chunk)) c.loop-next.chunk c.in-Some.next _ c.loop-next.left others _ found.after
    (omega (arith, found.within)) found.first (c.loop-next.invariant.seeks others))

pub loop-next-preserved : goal.loop-next-preserved
loop-next-preserved c =
    let found : IsFirstChunk c.args.self.now (places_since c.args.now.now c.args.savepoint) c.args.table c.loop-next.chunk c.in-Some.next = c.in-Some.ensures in
    let test : ℕ → Bool = λ chunk. list_any (lies_in c.args.self.now c.args.table chunk) (places_since c.args.now.now c.args.savepoint) in
    record {
      within = omega (arith, found.within);
      seeks = λ others.
          is_behind test (λ (chunk : ℕ). (c.args.table, chunk)) c.in-Some.next _ c.loop-next.left (c.loop-next.left - 1) others _ found.within found.written
          (omega (arith, c.if-left-eq0.false))
          (is_until test (λ (chunk : ℕ). (c.args.table, chunk)) c.loop-next.chunk c.in-Some.next _ c.loop-next.left others _ found.after
          (omega (arith, found.within)) found.first (c.loop-next.invariant.seeks others));
    }

pub returns : goal.returns
returns c = λ others.
    let test : ℕ → Bool = λ chunk. list_any (lies_in c.args.self.now c.args.table chunk) (places_since c.args.now.now c.args.savepoint) in
    is_among_others test (λ (chunk : ℕ). (c.args.table, chunk)) c.loop-next.chunk c.args.self.now.chunks c.loop-next.left others _ c.loop-next.invariant.within
    c.in_default.ensures (c.loop-next.invariant.seeks others)

pub overflow_add-chunk : goal.overflow_add-chunk
overflow_add-chunk c =
    let session = c.args.self.now in
    let found : IsFirstChunk session (places_since c.args.now.now c.args.savepoint) c.args.table c.loop-next.chunk c.in-Some.next = c.in-Some.ensures in
    let few : length session.shapes * session.chunks < 2 ^ 32 =
    subst (λ (s : SessionData). length s.shapes * s.chunks < 2 ^ 32) c.self.view_is c.self.invariant.0.few_chunks in
    let some : 1 ≤ length session.shapes = omega (arith, c.requires.within) in
    let enough : 1 * session.chunks ≤ length session.shapes * session.chunks = mul-le-mul_right session.chunks some in
    omega (arith, found.within, few, enough)
