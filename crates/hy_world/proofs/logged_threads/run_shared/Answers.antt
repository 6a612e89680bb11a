use denote.Exit.{yes}
use denote.Param.Send.{arg_send, arg_sync, param_send, param_sync}
use Rattle.hy_world.proofs.GroupedWorlds.{logged_wide}
use Rattle.hy_world.proofs.SentSessions.{logged_session_send, logged_session_sync}
use Rattle.hy_world.proofs.logged_threads.run_shared.Goals as goal

pub run_all-requires-clause-wide : goal.run_all-requires-clause-wide
run_all-requires-clause-wide g c κs within =
    let d = g.D.Disk in
    let k = g.K.Case in
    logged_wide d.clock d.image d.image_since d.faults k.setting k.kinds k.time k.before k.failed c.args.parts.items c.args.sessions.items
    c.args.parts.len c.requires c.args.parts.ok.0

pub run_all-requires-send-P-Session : goal.run_all-requires-send-P-Session
run_all-requires-send-P-Session g c κs within = param_send _ _ (arg_send _ yes _ logged_session_send)

pub run_all-requires-sync-P-Session : goal.run_all-requires-sync-P-Session
run_all-requires-sync-P-Session g c κs within = param_sync _ _ (arg_sync _ yes _ logged_session_sync)
