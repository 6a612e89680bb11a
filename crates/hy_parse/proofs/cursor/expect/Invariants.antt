use Rattle.std.proofs.Common.{◌≡◌, drop}
use Rattle.hy_parse.specs.Reading.{after}
use Rattle.hy_parse.proofs.cursor.expect.Given as goal

abbrev pub invariant-loop-token : goal.invariant-loop-token
invariant-loop-token l = after (drop l.token-index l.tokens) l.rest ≡ after l.tokens l.pieces
