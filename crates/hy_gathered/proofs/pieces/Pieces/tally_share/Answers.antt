use Rattle.std.proofs.Common.{◌≡◌, ◌-◌, ◌<◌, ◌≤◌, ◌^◌, List, length, take, ap, sym, ◌∙◌, arith}
use Rattle.std.specs.Prelude.{min}
use Rattle.std.proofs.lemmas.List.{length-append, length-drop, length-take}
use Rattle.hy_plan.specs.Cells.{GatheredRows}
use Rattle.hy_meaning.specs.Statement.{Table}
use Rattle.hy_gathered.specs.Groups.{groups_by}
use Rattle.hy_gathered.specs.Pieces.{rows_in_pieces}
use Rattle.hy_gathered.specs.Shares.{run_of}
use Rattle.hy_gathered.proofs.Piled.{pieces_few, pieces_taken}
use Rattle.hy_gathered.proofs.Shared.{run_of_pieces, share_is_ordered}
use Rattle.hy_gathered.proofs.pieces.Pieces.tally_share.Goals as goal

pub overflow_add-before : goal.overflow_add-before
overflow_add-before c =
    let pieces = c.deref-piece-items.result.now in
    let few = pieces_few pieces c.loop-piece.piece-index c.piece-item.result c.loop-piece-test.true c.piece-item.is in
    let all : length (rows_in_pieces pieces) ≡ length c.args.self.now =
    ap (λ (those : List GatheredRows). length (rows_in_pieces those)) c.deref-piece-items.ensures.value ∙ ap length c.self.view_is in
    let size : length c.args.self.now < 2 ^ 64 = omega (arith, c.self.invariant, ap length c.self.view_is) in
    omega (arith, few, all, size, c.loop-piece.invariant.before, c.len-rows.ensures)

pub loop-piece-preserved : goal.loop-piece-preserved
loop-piece-preserved c =
    let pieces = c.deref-piece-items.result.now in
    let index = c.loop-piece.piece-index in
    let piece = c.piece-item.result in
    let from = c.share_run-from.result.0 in
    let to = c.share_run-from.result.1 in
    let first = c.min-first.result in
    let last = c.min-last.result in
    let before : Table = rows_in_pieces (take index pieces) in
    let so_far = c.loop-piece.invariant.before in
    let ordered = share_is_ordered c.self.inside.len c.args.number in
    let order : from ≤ to = omega (arith, c.share_run-from.ensures.begin, c.share_run-from.ensures.end, ordered) in
    let begins : first ≡ min (from - length before) (length piece.rows) =
    omega (arith, c.min-first.ensures, c.saturating_sub.ensures, c.len-rows.ensures, so_far) in
    let ends : last ≡ min (to - length before) (length piece.rows) =
    omega (arith, c.min-last.ensures, c.saturating_sub-in-loop-piece.ensures, c.len-rows.ensures, so_far) in
    let run = run_of_pieces pieces index piece from to first last order c.loop-piece-test.true c.piece-item.is begins ends in
    let more = ap length (pieces_taken pieces index piece c.loop-piece-test.true c.piece-item.is) in
    let longer = length-append before piece.rows in
    let count = ap length run in
    let both = length-append (run_of from to before) (run_of first last piece.rows) in
    let dropped = length-drop first (take last piece.rows) in
    let taken = length-take last piece.rows in
    record {
      before = omega (arith, more, longer, so_far, c.len-rows.ensures);
      so = (
        (omega (arith, count, both, dropped, taken, ends, c.loop-piece.invariant.so.0, c.in_ok-add_run.ensures.rows)),
        c.in_ok-add_run.ensures.groups (run_of from to before) c.loop-piece.invariant.so.1 ∙ ap (groups_by c.args.grouping) (sym run),
      );
    }
