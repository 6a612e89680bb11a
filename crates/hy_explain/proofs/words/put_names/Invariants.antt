use Rattle.std.proofs.Common.{◌≡◌, ◌++◌, drop}
use Rattle.hy_explain.specs.Words.{names_from, names_where}
use Rattle.hy_explain.specs.Choosing.{is_chosen}
use Rattle.hy_explain.proofs.words.put_names.Given as goal

-- what stands there and the names of what is left give the whole
abbrev pub invariant-loop-number : goal.invariant-loop-number
invariant-loop-number l = l.out.items ++ names_from (is_chosen l.choice) l.came l.number (drop l.number l.columns)
    ≡ l.fn.out.items ++ names_where (is_chosen l.choice) l.columns
