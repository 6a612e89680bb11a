use Rattle.std.proofs.Common.{◌≡◌, length, drop}
use Rattle.hy_token.specs.Keyword.{same_but_case}
use Rattle.hy_token.proofs.keywords.is_same_but_case.Given as goal

-- the words are as long, and they are the same just where what is left of them is
abbrev pub invariant-loop-i : goal.invariant-loop-i
invariant-loop-i l = record {
  as_long : length l.a ≡ length l.b;
  so_far : same_but_case (drop l.i l.a) (drop l.i l.b) ≡ same_but_case l.a l.b;
}
