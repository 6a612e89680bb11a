use Rattle.std.proofs.Common.{length, take}
use Rattle.hy_gathered.specs.Groups.{IsTallyOf}
use Rattle.hy_gathered.specs.Shares.{share_begin}
use Rattle.hy_gathered.proofs.pieces.Pieces.merge_shares.Given as goal

-- the rows of the shares so far are counted
abbrev pub invariant-loop-share : goal.invariant-loop-share
invariant-loop-share l = IsTallyOf l.grouping (take (share_begin (length l.self) l.share-index) l.self) l.all
