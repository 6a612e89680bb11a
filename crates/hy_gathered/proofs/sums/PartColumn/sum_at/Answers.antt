use Rattle.std.proofs.Common.{◌≡◌, ◌∙◌, rules, to_z, of_z}
use mir.Syntax.{w128}
use Rattle.hy_gathered.proofs.Halves.{total_is}
use Rattle.hy_gathered.proofs.sums.PartColumn.sum_at.Goals as goal

pub returns-in-Some-clause-value : goal.returns-in-Some-clause-value
returns-in-Some-clause-value c =
    let same : to_z w128 (of_z w128 c.sum_halves.result) ≡ c.sum_halves.result = search rules in
    same ∙ (c.sum_halves.ensures.value ∙ total_is c.args.self c.args.place c.in-Some.numbers.now c.args.piece.now.rows c.requires.place c.in-Some.ensures)
