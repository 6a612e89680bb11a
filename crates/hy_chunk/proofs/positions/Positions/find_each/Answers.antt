use Rattle.std.proofs.Common.{subst, arith}
use Rattle.hy_value.specs.declared.Value.{Value}
use Rattle.hy_chunk.specs.Keyed.{AreFound}
use Rattle.hy_chunk.proofs.FoundEach.{found_for_each, found_more}
use Rattle.hy_chunk.proofs.positions.Positions.find_each.Goals as goal

pub loop-value-preserved : goal.loop-value-preserved
loop-value-preserved c =
    found_more c.args.column c.args.values.now c.args.self.now.places c.loop-value.found.items c.add_places.new.found.items c.loop-value.value-index
    c.value-item.result
    c.find.result c.loop-value.invariant (omega (arith, c.loop-value-test.true)) c.value-item.is c.in_ok-add_places.ensures c.find.ensures.within
    (subst (λ (v : Value). AreFound c.args.column v c.args.self.now.places c.find.result) c.refer.ensures c.find.ensures.all)

pub returns-clause-within : goal.returns-clause-within
returns-clause-within c = λ place m. c.loop-value.invariant.within place (c.sort_once.ensures.adds_none place m)

pub returns-clause-all : goal.returns-clause-all
returns-clause-all c =
    found_for_each c.args.column c.args.values.now c.args.self.now.places c.loop-value.found.items c.sort_once.new.numbers.items c.loop-value.value-index
    c.loop-value.invariant (omega (arith, c.loop-value-test.false)) c.sort_once.ensures.keeps
