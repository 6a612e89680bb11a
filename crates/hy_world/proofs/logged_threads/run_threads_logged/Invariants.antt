use Rattle.hy_world.proofs.logged_threads.run_threads_logged.Given as goal

-- the setting of the run, the types of its tables, and what the disk was before
abbrev pub ghosts-run_case : goal.ghosts-run_case
ghosts-run_case g a = record {
  setting = a.setting;
  kinds = a.kinds.now;
  time = g.D.Disk.clock a.log.disk;
  before = g.D.Disk.image_since a.log.disk;
  failed = g.D.Disk.faults a.log.disk;
}
