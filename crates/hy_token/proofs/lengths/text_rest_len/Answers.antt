use Rattle.std.proofs.Common.{ap, sym, ◌∙◌, arith}
use Rattle.hy_token.proofs.Texts.{moved, plain, low, doubled, text_more}
use Rattle.hy_token.proofs.lengths.text_rest_len.Goals as goal

pub returns-then-bytes-len-lt32-clause-value : goal.returns-then-bytes-len-lt32-clause-value
returns-then-bytes-len-lt32-clause-value c =
    sym (ap (moved c.loop-len.len) (low c.args.bytes.now c.loop-len.len c.loop-len-test.true c.if-bytes-len-lt32.true)) ∙ c.loop-len.invariant.so_far

pub loop-len-preserved-then-bytes-len-ne39 : goal.loop-len-preserved-then-bytes-len-ne39
loop-len-preserved-then-bytes-len-ne39 c =
    let bytes = c.args.bytes.now in
    let len = c.loop-len.len in
    record {
      in_range = omega arith;
      so_far = text_more bytes len 1 _ (plain bytes len c.loop-len-test.true c.if-bytes-len-ne39.true c.if-bytes-len-lt32.false) c.loop-len.invariant.so_far;
    }

pub loop-len-preserved : goal.loop-len-preserved
loop-len-preserved c =
    let bytes = c.args.bytes.now in
    let len = c.loop-len.len in
    record {
      in_range = omega arith;
      so_far = text_more bytes len 2 _ (doubled bytes len c.if-len-bytes.true c.if-bytes-len-ne39.false c.if-bytes-len-eq39.true) c.loop-len.invariant.so_far;
    }
