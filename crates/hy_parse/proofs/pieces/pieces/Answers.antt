use Rattle.std.proofs.Common.{◌-◌, ◌+◌, length, Ok, refl, sym, ◌∙◌}
use Rattle.hy_parse.specs.Pieces.{most_pieces}
use Rattle.hy_parse.proofs.Gathering.{at_start, at_bad, at_piece}
use Rattle.hy_parse.proofs.Spans.{first_within}
use Rattle.hy_parse.proofs.pieces.pieces.Goals as goal

pub returns-in-Err : goal.returns-in-Err
returns-in-Err c =
    let bytes = c.args.bytes.now in
    let most = most_pieces (length bytes) c.args.first in
    at_bad bytes c.clear.new.self.items _ (most - 0) c.args.first c.in-Err.bad c.in-Err.is
    (at_start bytes c.args.at most c.args.first c.clear.new.self.items c.requires.found refl c.clear.ensures.items)

pub loop-init : goal.loop-init
loop-init c = record {
  in_range = rw c.in-Ok.is at (first_within c.args.bytes.now c.args.at c.args.first c.requires.found c.requires.in_range c.tokens_move_on.ensures);
  so_far = at_start c.args.bytes.now c.args.at _ (Ok c.in-Ok.found) c.clear.new.self.items (sym c.in-Ok.is ∙ c.requires.found) c.most_pieces-end.ensures c.clear.ensures.items;
}

pub returns-in-Err-next : goal.returns-in-Err-next
returns-in-Err-next c =
    let found = c.loop.found in
    at_bad c.args.bytes.now c.push.new.self.items _ (c.most_pieces-end.result - (c.loop.counter + 1)) c.next.result c.in-Err-next.bad c.in-Err-next.is
    (at_piece c.args.bytes.now c.loop.pieces.items _ _ c.loop.counter (Ok found) c.next.result found.0 found.1 c.push.new.self.items c.loop-test.true refl c.in_ok-push.ensures.items c.if-is_same.ensures c.if-is_same-2.ensures c.next.ensures.value c.loop.invariant.so_far)

pub loop-preserved : goal.loop-preserved
loop-preserved c =
    let found = c.loop.found in
    record {
      in_range = c.in-Ok-next.ensures.span.within;
      so_far = rw c.in-Ok-next.is at (at_piece c.args.bytes.now c.loop.pieces.items _ _ c.loop.counter (Ok found) c.next.result found.0 found.1 c.push.new.self.items c.loop-test.true refl c.in_ok-push.ensures.items c.if-is_same.ensures c.if-is_same-2.ensures c.next.ensures.value c.loop.invariant.so_far);
    }
