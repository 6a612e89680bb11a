use Rattle.std.proofs.Common.{◌≡◌, true, false, ap, sym}
use Rattle.hy_journal.specs.declared.Entry.{Entry}
use Rattle.hy_redo.specs.Tests.{stand_test}
use Rattle.hy_redo.proofs.Deciding.{stands_from_test, none_there}
use Rattle.hy_redo.proofs.recovery.entry_of_body.Goals as goal

pub returns-then-not-stand-clause-none : goal.returns-then-not-stand-clause-none
returns-then-not-stand-clause-none c =
    let tables = c.args.tables.now in
    let e : stand_test tables c.args.last c.in_ok-entry.entry.time c.in_ok-entry.entry.notes ≡ false = cc (c.as_slice.ensures, c.stand.ensures) in
    λ h. none_there tables c.args.last c.in_ok-entry.entry c.args.body.now c.in_ok-entry.ensures.found c.in_ok-entry.ensures.net
    c.bodies_are_one.ensures.bodies e

pub returns-clause-found : goal.returns-clause-found
returns-clause-found c =
    let net = sym (ap (λ (e : Entry). e.notes) c.in_ok-entry.ensures.net) in
    let e : stand_test c.args.tables.now c.args.last c.in_ok-entry.entry.time c.in_ok-entry.entry.notes ≡ true = cc (c.as_slice.ensures, c.stand.ensures) in
    record {
      body = c.in_ok-entry.ensures.found;
      stands = stands_from_test c.args.tables.now c.args.last c.in_ok-entry.entry net c.in_ok-entry.ensures.found.of e;
      net = net;
    }
