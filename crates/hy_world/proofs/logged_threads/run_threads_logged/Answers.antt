use Rattle.std.proofs.Common.{refl}
use Rattle.hy_world.proofs.GroupedWorlds.{ran_told}
use Rattle.hy_world.proofs.logged_threads.run_threads_logged.Goals as goal

pub run_case-world-requires-clause-setting : goal.run_case-world-requires-clause-setting
run_case-world-requires-clause-setting g c κs within = refl

pub run_case-world-requires-clause-kinds : goal.run_case-world-requires-clause-kinds
run_case-world-requires-clause-kinds g c κs within = refl

pub run_case-world-requires-clause-before : goal.run_case-world-requires-clause-before
run_case-world-requires-clause-before g c κs within =
    record { time_is = refl; left = λ earlier bytes left. left; only = λ earlier bytes left. left; failed_is = refl }

pub run_case-world-requires-clause-runnable : goal.run_case-world-requires-clause-runnable
run_case-world-requires-clause-runnable g c κs within = c.requires.runnable

pub run_case-world-requires-clause-typed : goal.run_case-world-requires-clause-typed
run_case-world-requires-clause-typed g c κs within = c.requires.typed

pub run_case-world-requires-clause-empty : goal.run_case-world-requires-clause-empty
run_case-world-requires-clause-empty g c κs within = record { count = refl; sound = refl; logs = c.requires.log }

pub returns-clause-ran : goal.returns-clause-ran
returns-clause-ran g c =
    let d = g.D.Disk in
    ran_told d.clock d.image d.image_since c.logs_recover_tables.ensures c.ends_are_the_machines.ensures c.runs_are_steps.ensures.ends
    c.args.setting c.args.kinds.now c.run_case-world.result.0 c.finish.result c.args.disk c.run_case-world.result.1
    c.run_case-world.ensures.ran c.finish.ensures.outcome

pub returns-clause-fault : goal.returns-clause-fault
returns-clause-fault g c = λ is. c.run_case-world.ensures.fault (c.finish.ensures.fault is)

pub returns-clause-steady : goal.returns-clause-steady
returns-clause-steady g c = λ other. c.run_case-world.ensures.steady (λ broken. other (c.finish.ensures.broken broken))
