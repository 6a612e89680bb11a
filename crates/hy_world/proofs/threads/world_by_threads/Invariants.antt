use Rattle.hy_world.proofs.threads.world_by_threads.Given as goal

-- the setting of the run, and the types of its tables
abbrev pub ghosts-run_case : goal.ghosts-run_case
ghosts-run_case g a = record { setting = a.setting; kinds = a.kinds.now; time = 0; before = λ time bytes. ⊥; failed = 0 }
