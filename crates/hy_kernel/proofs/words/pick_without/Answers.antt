use Rattle.std.proofs.Common.{ℕ, ◌/◌, ◌*◌, ◌<◌, ◌∙◌, length, ap, arith}
use Rattle.std.proofs.lemmas.List.Elements.{All-same}
use Rattle.hy_kernel.specs.Bits.{values_at}
use Rattle.hy_kernel.proofs.Gathered.{none_before, numbers_more, whole_part, word_within}
use Rattle.hy_kernel.proofs.words.pick_without.Goals as goal

pub loop-k-init : goal.loop-k-init
loop-k-init c = record {
  found =
      c.in_ok-found.ensures.items
      ∙ ap (values_at c.args.values.now) (none_before c.args.words.now c.args.others.now c.args.first c.args.end (c.args.first / 64) (omega arith));
  room = omega (arith, c.in_ok-found.ensures.exact, c.in_ok-found.ensures.len, c.saturating_sub.ensures);
}

pub push_picked-requires-clause-within : goal.push_picked-requires-clause-within
push_picked-requires-clause-within c =
    All-same (λ (place : ℕ). place < length c.args.values.now) _ _ c.word_without-word.ensures
    (word_within c.args.words.now c.args.others.now c.args.first c.args.end (λ (place : ℕ). place < length c.args.values.now) c.loop-k.k c.requires.places)

pub loop-k-preserved : goal.loop-k-preserved
loop-k-preserved c =
    let room = c.loop-k.invariant.room in
    record {
      found = numbers_more c.args.words.now c.args.others.now c.args.first c.args.end c.args.values.now c.loop-k.k c.word_without-word.result c.loop-k.found.items
          c.push_picked.new.found.items c.loop-k.invariant.found c.push_picked.ensures.found c.word_without-word.ensures;
      room = omega (arith, room, c.loop-k-test.true, c.push_picked.ensures.few, c.push_picked.ensures.room);
    }

pub returns : goal.returns
returns c =
    c.loop-k.invariant.found
    ∙ ap (values_at c.args.values.now)
    (whole_part c.args.words.now c.args.others.now c.args.first c.args.end (64 * c.loop-k.k) (omega (arith, c.loop-k-test.false)))
