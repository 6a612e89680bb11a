use Rattle.std.proofs.Common.{◌/◌, ◌*◌, ◌∙◌, arith}
use Rattle.hy_kernel.proofs.Gathered.{none_before, places_more, whole_part}
use Rattle.hy_kernel.proofs.words.places_without.Goals as goal

pub loop-k-init : goal.loop-k-init
loop-k-init c = record {
  found = c.in_ok-found.ensures.items ∙ none_before c.args.words.now c.args.others.now c.args.first c.args.end (c.args.first / 64) (omega arith);
  room = omega (arith, c.in_ok-found.ensures.exact, c.in_ok-found.ensures.len, c.saturating_sub.ensures);
}

pub loop-k-preserved : goal.loop-k-preserved
loop-k-preserved c =
    let room = c.loop-k.invariant.room in
    record {
      found = places_more c.args.words.now c.args.others.now c.args.first c.args.end c.loop-k.k c.word_without-word.result c.loop-k.found.items c.push_set.new.found.items
          c.loop-k.invariant.found c.push_set.ensures.found c.word_without-word.ensures;
      room = omega (arith, room, c.loop-k-test.true, c.push_set.ensures.few, c.push_set.ensures.room);
    }

pub returns : goal.returns
returns c =
    c.loop-k.invariant.found
    ∙ whole_part c.args.words.now c.args.others.now c.args.first c.args.end (64 * c.loop-k.k) (omega (arith, c.loop-k-test.false))
