use Rattle.std.proofs.Common.{◌≡◌, ◌∷◌, ◌++◌, ◌∙◌, [], refl, subst}
use Rattle.hy_service.specs.Knowing.{HasNoted, IsToTake}
use Rattle.hy_service.specs.Service.{after}
use Rattle.hy_service.proofs.HeardLines.{hears_turn, kept_same, logs_turn, may_take}
use Rattle.hy_service.proofs.LoggedTurns.{still}
use Rattle.hy_service.proofs.Server.hear.Goals as goal

-- ---- the line was not noted

pub returns-in_err-note-clause-logs : goal.returns-in_err-note-clause-logs
returns-in_err-note-clause-logs g c = λ lines knows.
    let d = g.D.Disk in
    let options = c.args.self.now.options in
    still d.clock d.image_since options (after options (lines ++ c.args.line.now ∷ [])) c.args.disk.now

-- ---- END

pub returns-in-End-clause-hears : goal.returns-in-End-clause-hears
returns-in-End-clause-hears g c = λ lines knows.
    subst (HasNoted lines c.args.line.now c.args.self.now c.note.new.self) c.in-End.is (c.in_ok-note.ensures.noted lines knows)

pub returns-in-End-clause-kept : goal.returns-in-End-clause-kept
returns-in-End-clause-kept g c =
    kept_same g.D.Disk.image c.args.self.now c.note.new.self c.args.disk.now c.note.ensures.same.1 c.note.ensures.same.2 c.requires.kept

pub returns-in-End-clause-logs : goal.returns-in-End-clause-logs
returns-in-End-clause-logs g c = λ lines knows.
    let d = g.D.Disk in
    let options = c.args.self.now.options in
    still d.clock d.image_since options (after options (lines ++ c.args.line.now ∷ [])) c.args.disk.now

-- ---- a line that its text alone answers

pub returns-in-Answer-clause-hears : goal.returns-in-Answer-clause-hears
returns-in-Answer-clause-hears g c = λ lines knows.
    subst (HasNoted lines c.args.line.now c.args.self.now c.note.new.self) c.in-Answer.is (c.in_ok-note.ensures.noted lines knows)

pub returns-in-Answer-clause-kept : goal.returns-in-Answer-clause-kept
returns-in-Answer-clause-kept g c =
    kept_same g.D.Disk.image c.args.self.now c.note.new.self c.args.disk.now c.note.ensures.same.1 c.note.ensures.same.2 c.requires.kept

pub returns-in-Answer-clause-logs : goal.returns-in-Answer-clause-logs
returns-in-Answer-clause-logs g c = λ lines knows.
    let d = g.D.Disk in
    let options = c.args.self.now.options in
    still d.clock d.image_since options (after options (lines ++ c.args.line.now ∷ [])) c.args.disk.now

-- ---- a line that its session takes

pub take-requires-clause-known : goal.take-requires-clause-known
take-requires-clause-known g c =
    let lines = c.requires.known.0 in
    let due = subst (HasNoted lines c.args.line.now c.args.self.now c.note.new.self) c.in-Turn.is (c.in_ok-note.ensures.noted lines c.requires.known.1) in
    may_take lines c.args.line.now c.args.self.now c.note.new.self c.in-Turn.number c.in-Turn.line due c.note.ensures.same.0

pub take-requires-clause-kept : goal.take-requires-clause-kept
take-requires-clause-kept g c =
    kept_same g.D.Disk.image c.args.self.now c.note.new.self c.args.disk.now c.note.ensures.same.1 c.note.ensures.same.2 c.requires.kept

pub returns-in_err-take-in-Turn-clause-logs : goal.returns-in_err-take-in-Turn-clause-logs
returns-in_err-take-in-Turn-clause-logs g c = λ lines knows.
    let d = g.D.Disk in
    let due = subst (HasNoted lines c.args.line.now c.args.self.now c.note.new.self) c.in-Turn.is (c.in_ok-note.ensures.noted lines knows) in
    logs_turn d.clock d.image_since c.lines_are_heard.ensures c.services_can_be_logged.ensures lines c.args.line.now c.args.self.now c.note.new.self
    c.in-Turn.number c.in-Turn.line c.args.disk.now c.take.new.disk knows due c.note.ensures.same.0 c.take.ensures.logs

pub returns-in_ok-take-in-Turn-clause-hears : goal.returns-in_ok-take-in-Turn-clause-hears
returns-in_ok-take-in-Turn-clause-hears g c = λ lines knows.
    let due = subst (HasNoted lines c.args.line.now c.args.self.now c.note.new.self) c.in-Turn.is (c.in_ok-note.ensures.noted lines knows) in
    hears_turn c.lines_are_heard.ensures lines c.args.line.now c.args.self.now c.note.new.self c.take.new.self c.in-Turn.number c.in-Turn.line
    c.in_ok-take-in-Turn.field-0.items knows due c.note.ensures.same.0 c.take.ensures.same.0 c.in_ok-take-in-Turn.ensures.takes

pub returns-in_ok-take-in-Turn-clause-logs : goal.returns-in_ok-take-in-Turn-clause-logs
returns-in_ok-take-in-Turn-clause-logs g c = λ lines knows.
    let d = g.D.Disk in
    let due = subst (HasNoted lines c.args.line.now c.args.self.now c.note.new.self) c.in-Turn.is (c.in_ok-note.ensures.noted lines knows) in
    logs_turn d.clock d.image_since c.lines_are_heard.ensures c.services_can_be_logged.ensures lines c.args.line.now c.args.self.now c.note.new.self
    c.in-Turn.number c.in-Turn.line c.args.disk.now c.take.new.disk knows due c.note.ensures.same.0 c.take.ensures.logs
