use Rattle.std.proofs.Common.{rules, arith, ◌≡◌, ℕ, ◌+◌, [], ◌∷◌, ◌++◌, length, map, None, refl, sym, ap, ◌∙◌, subst, vec_len, length-append}
use mathlib.Core.List.{map-append}
use lib.ListN.{length-map}
use Rattle.hy_threads.specs.Knowledge.{keeper, visitor, parent, child}
use Rattle.hy_threads.specs.Seats.{number_of}
use Rattle.hy_threads.specs.Tasks.{AreOf, session_of}
use Rattle.hy_threads.proofs.WorkerRows.{keeping, kept_next, child_next, parent_next, snoc_more, are_of_snoc}
use Rattle.hy_threads.proofs.runs.seat_all.Goals as goal

pub split-seat-requires-clause-next : goal.split-seat-requires-clause-next
split-seat-requires-clause-next g c κs within =
    let l = c.loop-session in let n : ℕ = length l.yielded in
    let rest = l.session-iterator.rest.items in let s = c.in-Some.session in let more = c.next.new.self.rest.items in
    let h : rest ≡ s ∷ more = search rules in
    (keeper n (keeping n rest), s, l.invariant.2, kept_next g.row.P-Part.Denot n rest more s h)

pub new-requires-after_bounds : goal.new-requires-after_bounds
new-requires-after_bounds g c κs within =
    let l = c.loop-session in let n : ℕ = length l.yielded in
    let rest = l.session-iterator.rest.items in let s = c.in-Some.session in let more = c.next.new.self.rest.items in
    let h : rest ≡ s ∷ more = search rules in
    (visitor n s None [], c.split-seat.ensures.child ∙ (ap child l.invariant.2 ∙ child_next g.row.P-Part.Denot n rest more s h), refl, refl)

pub push_reserved-requires : goal.push_reserved-requires
push_reserved-requires g c =
    let l = c.loop-session in let s = c.in-Some.session in let more = c.next.new.self.rest.items in
    let h : l.session-iterator.rest.items ≡ s ∷ more = search rules in
    let whole = ap length (sym l.invariant.0 ∙ ap (λ xs. l.yielded ++ xs) h) in
    let long = length-append l.yielded (s ∷ more) in
    let all : vec_len c.args.sessions ≡ length c.args.sessions.items = search rules in
    let done = l.invariant.5 in let room = l.invariant.6 in omega arith

pub loop-session-preserved : goal.loop-session-preserved
loop-session-preserved g c =
    let l = c.loop-session in let n : ℕ = length l.yielded in let ws = l.workers.items in
    let rest = l.session-iterator.rest.items in let s = c.in-Some.session in let more = c.next.new.self.rest.items in
    let h : rest ≡ s ∷ more = search rules in
    let knows = c.split-seat.ensures.child ∙ (ap child l.invariant.2 ∙ child_next g.row.P-Part.Denot n rest more s h) in
    let as_many = sym (length-map ws session_of) ∙ ap length l.invariant.4 in
    let number : c.new.result.number ≡ 0 + length ws =
    c.new.ensures.seat.1 ∙ (ap number_of knows ∙ (let e : n ≡ 0 + length ws = omega (arith, as_many) in e)) in
    let at : c.new.result.home ≡ c.args.parts.now = c.new.ensures.seat.0 ∙ c.split-seat.ensures.same.2 in
    let pushed = c.push_reserved.ensures.items in (
      snoc_more l.yielded more s ∙ (ap (λ xs. l.yielded ++ xs) (sym h) ∙ l.invariant.0),
      c.split-seat.ensures.same.0 ∙ l.invariant.1,
      c.split-seat.ensures.parent ∙ (ap parent l.invariant.2 ∙ parent_next g.row.P-Part.Denot l.yielded rest more s h),
      subst (AreOf c.args.parts.now 0) (sym pushed) (are_of_snoc c.args.parts.now 0 ws c.new.result l.invariant.3 at number),
      ap (λ vs. map session_of vs) pushed ∙ (map-append session_of ws (c.new.result ∷ []) ∙ (λ i. l.invariant.4 i ++ c.new.ensures.session.0 i ∷ [])),
      (let len = c.push_reserved.ensures.len in let done = l.invariant.5 in let long = length-append l.yielded (s ∷ []) in omega arith),
      (let same = c.push_reserved.ensures.capacity in let room = l.invariant.6 in omega arith),
    )
