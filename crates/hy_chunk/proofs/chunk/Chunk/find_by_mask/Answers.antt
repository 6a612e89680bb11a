use Rattle.std.proofs.Common.{◌≡◌, ◌+◌, length, refl, ap, ◌∙◌, subst, arith}
use Rattle.hy_chunk.specs.Candidates.{AreCandidates, IsPlain}
use Rattle.hy_chunk.specs.Fields.{nth}
use Rattle.hy_chunk.specs.Views.{Held, Whole}
use Rattle.hy_chunk.proofs.Candidates.{CandidatesTo, to_none, to_passed, to_found, to_all}
use Rattle.hy_chunk.proofs.chunk.Chunk.find_by_mask.Goals.{then-may_select+in_ok-push, else-may_select}
use Rattle.hy_chunk.proofs.chunk.Chunk.find_by_mask.Goals as goal

pub loop-place-init : goal.loop-place-init
loop-place-init c = record {
  table = refl;
  first = refl;
  positions = refl;
  next = c.self.invariant.next_wide;
  wide = c.self.invariant.wide;
  settles = c.self.invariant.settles;
  most = omega arith;
  found = to_none c.args.pred.now c.self.inside.positions.places c.new-found.result.items c.new-found.ensures.items;
}

pub loop-place-preserved : goal.loop-place-preserved
loop-place-preserved c =
    let v = c.loop-place.invariant in
    let places = c.self.inside.positions.places in
    let k = c.loop-place.place in
    let pred = c.args.pred.now in
    let more : CandidatesTo pred places c.if-may_select.found.items (k + 1) = elim c.if-may_select.branch [
      | then-may_select+in_ok-push w ↦
          rw (w.found-is) (to_found pred places c.loop-place.found.items w.push.new.self.items k w.in_ok-push.ensures.items v.found)
      | else-may_select w ↦
          rw (w.found-is) (to_passed pred places c.loop-place.found.items k
          (subst (λ (h : Held). IsPlain pred (nth h.places k)) v.positions (c.may_select.ensures.barred w.if-may_select.false)) v.found)
    ] in
    record {
      table = v.table;
      first = v.first;
      positions = v.positions;
      next = v.next;
      wide = c.may_select.ensures.width ∙ ap (λ (h : Held). length h.kinds) v.positions;
      settles = v.settles;
      most = omega (arith, c.loop-place-test.true, c.len-place-end.ensures);
      found = more;
    }

pub returns-clause-found : goal.returns-clause-found
returns-clause-found c =
    let places = c.self.inside.positions.places in
    let v = c.loop-place.invariant in
    let end : c.loop-place.place ≡ length places = omega (arith, v.most, c.loop-place-test.false, c.len-place-end.ensures) in
    subst (λ (w : Whole). AreCandidates c.args.pred.now w.shown.key w.shown.places c.loop-place.found.items) c.self.view_is
    (to_all c.args.pred.now c.self.inside.positions.key places c.loop-place.found.items c.loop-place.place end v.found)
