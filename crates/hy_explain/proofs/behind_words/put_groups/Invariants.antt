use Rattle.std.proofs.Common.{◌≡◌, ◌++◌, map, drop}
use Rattle.hy_explain.specs.Behind.{group_words, listed, listed_from}
use Rattle.hy_explain.proofs.behind_words.put_groups.Given as goal

-- what stands there and those that are left give the whole
abbrev pub invariant-loop-group : goal.invariant-loop-group
invariant-loop-group l = l.out.items ++ listed_from l.before (map group_words (drop l.group-index l.groups))
    ≡ l.fn.out.items ++ listed (map group_words l.groups)
