use Rattle.std.proofs.Common.{rules, arith, ◌≡◌, ◌+◌, [], ◌∷◌, ◌++◌, length, sym, ap, ◌∙◌, subst, vec_len, length-append}
use mathlib.Core.List.{map-append}
use lib.ListN.{length-map}
use Rattle.hy_threads.specs.Knowledge.{First, keeper, joined}
use Rattle.hy_threads.specs.Seats.{number_of}
use Rattle.hy_threads.specs.Tasks.{AreOf, session_of}
use Rattle.hy_threads.proofs.WorkerRows.{regaining, are_of_at, joined_next, snoc_more}
use Rattle.hy_threads.proofs.runs.join_all.Goals as goal

pub join-requires-clause-ours : goal.join-requires-clause-ours
join-requires-clause-ours g c κs within =
    let l = c.loop-worker in let w = c.in-Some.worker in let more = c.next.new.self.rest.items in let home = c.args.parts.now in
    let h : l.worker-iterator.rest.items ≡ w ∷ more = search rules in
    let whole = sym l.invariant.0 ∙ ap (λ xs. l.yielded ++ xs) h in
    let at = are_of_at home 0 l.yielded w more (subst (AreOf home 0) whole c.requires.workers) in
    (l.invariant.1, c.end-seat.ensures.seat.0 ∙ at.0, c.requires.ours.1)

pub push_reserved-requires : goal.push_reserved-requires
push_reserved-requires g c =
    let l = c.loop-worker in let w = c.in-Some.worker in let more = c.next.new.self.rest.items in
    let h : l.worker-iterator.rest.items ≡ w ∷ more = search rules in
    let whole = ap length (sym l.invariant.0 ∙ ap (λ xs. l.yielded ++ xs) h) in
    let long = length-append l.yielded (w ∷ more) in
    let all : vec_len c.args.workers ≡ length c.args.workers.items = search rules in
    let done = l.invariant.4 in let room = l.invariant.5 in omega arith

pub loop-worker-preserved : goal.loop-worker-preserved
loop-worker-preserved g c =
    let l = c.loop-worker in let w = c.in-Some.worker in let ss = l.sessions.items in let home = c.args.parts.now in
    let rest = l.worker-iterator.rest.items in let more = c.next.new.self.rest.items in
    let h : rest ≡ w ∷ more = search rules in
    let whole = sym l.invariant.0 ∙ ap (λ xs. l.yielded ++ xs) h in
    let at = are_of_at home 0 l.yielded w more (subst (AreOf home 0) whole c.requires.workers) in
    let ready = c.end-seat.ensures.ready in let o = ready.0 in let s = c.end-seat.result.1 in
    let counted : length ss ≡ length l.yielded = ap length l.invariant.3 ∙ length-map l.yielded session_of in
    let number : o.number ≡ length ss =
    sym (ap number_of ready.1) ∙ (c.end-seat.ensures.seat.1 ∙ (at.1 ∙ (let e : 0 + length l.yielded ≡ length ss = omega (arith, counted) in e))) in
    let pushed = c.push_reserved.ensures.items in let count = vec_len c.args.workers in (
      snoc_more l.yielded more w ∙ (ap (λ xs. l.yielded ++ xs) (sym h) ∙ l.invariant.0),
      c.join.ensures.same.0 ∙ l.invariant.1,
      c.join.ensures.joined ∙ ((λ i. joined (l.invariant.2 i) (ready.1 i)) ∙ (joined_next g.row.P-Part.Denot count ss rest more w o s h number ready.2
          ∙ (λ i. First (keeper count (regaining (sym pushed i) (length more)))))),
      pushed ∙ ((λ i. l.invariant.3 i ++ c.end-seat.ensures.session i ∷ []) ∙ sym (map-append session_of l.yielded (w ∷ []))),
      (let len = c.push_reserved.ensures.len in let done = l.invariant.4 in let long = length-append l.yielded (w ∷ []) in omega arith),
      (let same = c.push_reserved.ensures.capacity in let room = l.invariant.5 in omega arith),
    )
