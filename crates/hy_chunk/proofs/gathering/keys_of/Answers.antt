use Rattle.std.proofs.Common.{Option, sym, ◌∙◌, subst}
use Rattle.hy_chunk.specs.Gathering.{AsksOneOf, conditions_of}
use Rattle.hy_chunk.specs.declared.gathering.Keys.{Keys}
use Rattle.hy_chunk.proofs.Asking.{keys_ask}
use Rattle.hy_chunk.proofs.gathering.keys_of.Goals as goal

pub returns-in-Some : goal.returns-in-Some
returns-in-Some c =
    let pred = c.args.wanted.now.pred.now in
    subst (λ (keys : Option Keys). AsksOneOf (conditions_of pred keys) c.args.column c.in-Some.keys.values.now) (sym c.in-Some.is)
    (keys_ask pred c.in-Some.keys c.args.column (sym c.are_few.ensures ∙ c.if-are_few.true))
