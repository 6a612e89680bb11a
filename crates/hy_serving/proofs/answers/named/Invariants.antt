use Rattle.std.proofs.Common.{◌≡◌, ◌++◌, drop, true}
use Rattle.hy_serving.specs.Answers.{fronted, prefix}
use Rattle.hy_serving.proofs.answers.named.Given as goal

-- what stands there, and what is left with its fronts
abbrev pub invariant-loop-byte : goal.invariant-loop-byte
invariant-loop-byte l =
    l.out.items ++ fronted (prefix l.name) l.begins (drop l.byte-index l.text) ≡ l.fn.out.items ++ fronted (prefix l.name) true l.text
