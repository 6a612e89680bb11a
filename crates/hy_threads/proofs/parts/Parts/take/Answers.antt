use Rattle.std.proofs.Common.{rules, refl, ◌∙◌, suc}
use Rattle.hy_threads.specs.Knowledge.{refused}
use Rattle.hy_threads.proofs.Refusals.{refused_none, refused_more}
use Rattle.hy_threads.proofs.parts.Parts.take.Goals as goal

pub try_take-requires-clause-free : goal.try_take-requires-clause-free
try_take-requires-clause-free g c κs within =
    let free = c.requires.free in let w = c.loop.invariant.4 free.0 free.1 in (refused free.0 c.args.k w.0, w.1, free.2)

pub returns-in-Some-try_take-clause-taken : goal.returns-in-Some-try_take-clause-taken
returns-in-Some-try_take-clause-taken g c = λ o is.
    let w = c.loop.invariant.4 o is in let t = c.in-Some-try_take.ensures.won (refused o c.args.k w.0) w.1 in (w.0, t.0, t.1)

pub loop-preserved : goal.loop-preserved
loop-preserved g c = (
  tt,
  tt,
  c.try_take.ensures.same.0 ∙ c.loop.invariant.2,
  c.try_take.ensures.same.1 ∙ c.loop.invariant.3,
  λ o is. let w = c.loop.invariant.4 o is in
      (suc w.0, c.in_default.ensures.lost (refused o c.args.k w.0) w.1 ∙ refused_more o c.args.k w.0),
)

pub loop-init : goal.loop-init
loop-init g c = (search rules, search rules, refl, refl, λ o is. (0, is ∙ refused_none o c.args.k))
