use Rattle.std.proofs.Common.{subst, sym}
use Rattle.std.specs.Prelude.{IfOk}
use Rattle.hy_machine.specs.declared.Setting.{Setting}
use Rattle.hy_world.specs.SomeRuns.{ShowsSomeRun}
use Rattle.hy_world.proofs.SharedWorlds.{case_shared, some_shown}
use Rattle.hy_world.proofs.threads.run_case.Goals as goal

pub run_shared-requires-after_bounds : goal.run_shared-requires-after_bounds
run_shared-requires-after_bounds g c κs within =
    case_shared
    (record {
      cores_near = c.cores_are_near.ensures;
      chunks_there = c.needed_chunks_are_there.ensures;
      chunks_near = c.chunks_are_near.ensures;
      visits_steps = c.visits_are_steps.ensures;
    })
    c.the_opening_is_shown.ensures c.args.setting g.K.Case.setting c.args.kinds.now g.K.Case.kinds c.args.prunes c.in_ok-shapes.field-0 c.in_ok-parts.parts.items
    c.requires.setting c.requires.kinds c.requires.runnable c.requires.typed c.in_ok-shapes.ensures c.in_ok-parts.ensures

pub returns : goal.returns
returns g c =
    subst (λ (setting : Setting). IfOk c.world_of.result (λ world. ShowsSomeRun setting world)) (sym c.requires.setting)
    (some_shown c.world_of.result c.ends_are_the_machines.ensures g.K.Case.setting g.K.Case.kinds c.in_ok-parts-2.parts.items
    c.in_ok-parts-2.sessions.items c.in_ok-parts-2.ensures.shared c.in_ok-parts-2.ensures.ended c.world_of.ensures.shows c.world_of.ensures.sessions)
