use Rattle.std.proofs.Common.{◌≡◌, ℕ, ◌-◌, ◌≤◌, ◌++◌, cond, length, take, ap, ◌∙◌, arith}
use Rattle.std.specs.Prelude.{Bool, true, false, ℤ, List, replicate, vec_len}
use Rattle.hy_plan.specs.Numbers.{numbered}
use Rattle.hy_plan.proofs.Numbers.{told}
use Rattle.hy_plan.proofs.column.tell_all.Goals as goal

-- whether they could be told or not
either : (numbers : List ℤ) (nulls marks : List Bool) (len k : ℕ) (done : Bool) → length nulls ≤ length numbers → len ≡ length numbers
    → marks ≡ cond done (take len nulls ++ replicate k false) nulls → numbered numbers marks ≡ numbered numbers nulls
either numbers nulls marks len k true few all is =
    told numbers nulls marks k few (is ∙ ap (λ (n : ℕ). take n nulls ++ replicate k false) all)
either numbers nulls marks len k false few all is = ap (numbered numbers) is

pub returns-clause-same : goal.returns-clause-same
returns-clause-same c =
    either c.args.numbers.now.items c.args.nulls.now.items c.resize.new.self.items c.len.result (c.len.result - vec_len c.args.nulls.now) _
    c.requires (omega (arith, c.len.ensures)) c.resize.ensures.items
