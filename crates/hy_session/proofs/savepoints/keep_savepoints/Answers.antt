use Rattle.std.proofs.Common.{◌≡◌, [], map}
use Rattle.hy_bound.specs.Savepoints.{saved_after}
use Rattle.hy_event.specs.Sessions.{savepoint_of}
use Rattle.hy_event.specs.Turns.{saved_of}
use Rattle.hy_session.specs.Savepoints.{savepoints}
use Rattle.hy_session.proofs.OpenSavepoints.{kept_again, kept_long, kept_so}
use Rattle.hy_session.proofs.Results.{err_gives, ok_gives}
use Rattle.hy_session.proofs.savepoints.keep_savepoints.Goals as goal

pub returns-clause-saved : goal.returns-clause-saved
returns-clause-saved c =
    let names = c.args.saved.now in
    let levels = c.args.notes.now.levels in
    let now = c.keep_open-kept.new.savepoints in
    let later = c.keep_levels.new.self.levels in
    ok_gives c.keep_open-kept.result (now ≡ saved_after c.args.statement.now names tt)
    (savepoints now later ≡ map saved_of (saved_after c.args.statement.now (map savepoint_of (savepoints names levels)) []))
    (kept_so c.args.statement.now names now levels c.open_for.new.notes.levels later c.len.result c.requires.long
    c.in_ok-open_for.ensures.levels c.len.ensures c.keep_levels.ensures.levels)
    c.keep_open-kept.ensures.ok

pub returns-clause-long : goal.returns-clause-long
returns-clause-long c =
    kept_long c.keep_open-kept.result c.args.statement.now c.args.saved.now c.keep_open-kept.new.savepoints c.args.notes.now.levels
    c.open_for.new.notes.levels c.keep_levels.new.self.levels c.len.result c.requires.long c.in_ok-open_for.ensures.levels c.len.ensures
    c.keep_levels.ensures.levels c.keep_open-kept.ensures.ok c.keep_open-kept.ensures.err

pub returns-clause-levels_kept : goal.returns-clause-levels_kept
returns-clause-levels_kept c =
    let names = c.args.saved.now in
    let levels = c.args.notes.now.levels in
    let now = c.keep_open-kept.new.savepoints in
    let later = c.keep_levels.new.self.levels in
    err_gives c.keep_open-kept.result (now ≡ names) (later ≡ levels)
    (kept_again c.args.statement.now names now levels c.open_for.new.notes.levels later c.len.result c.requires.long
    c.in_ok-open_for.ensures.levels c.len.ensures c.keep_levels.ensures.levels)
    c.keep_open-kept.ensures.err
