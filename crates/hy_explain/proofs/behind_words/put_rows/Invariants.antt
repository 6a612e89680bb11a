use Rattle.std.proofs.Common.{◌≡◌, ◌++◌, map, drop}
use Rattle.hy_value.specs.Print.{printed_row}
use Rattle.hy_explain.specs.Behind.{listed, listed_from}
use Rattle.hy_explain.proofs.behind_words.put_rows.Given as goal

-- what stands there and those that are left give the whole
abbrev pub invariant-loop-row : goal.invariant-loop-row
invariant-loop-row l = l.out.items ++ listed_from l.before (map printed_row (drop l.row-index l.rows))
    ≡ l.fn.out.items ++ listed (map printed_row l.rows)
