use Rattle.std.proofs.Common.{◌∙◌, sym}
use Rattle.hy_threads.specs.declared.worked.Visited.TheVariants.{Moved}
use Rattle.hy_world.proofs.GroupedVisits.{core_goes, core_waits, owed_so}
use Rattle.hy_world.proofs.grouped.LoggedSession.go_on.Goals as goal

pub returns-then-is_blocked-clause-visited : goal.returns-then-is_blocked-clause-visited
returns-then-is_blocked-clause-visited c = λ d sound.
    core_waits c.args.number c.args.self.now c.args.part.now c.visit_part.new.part c.in_ok-visit_part.field-0 c.visit_part.new.session d
    c.requires.running c.requires.free c.requires.needed c.in_ok-visit_part.ensures.visit c.visit_part.ensures.types
    (sym c.to_visited-visited.ensures ∙ c.is_blocked.ensures.blocked c.if-is_blocked.true) sound

pub returns-then-awaits-clause-visited : goal.returns-then-awaits-clause-visited
returns-then-awaits-clause-visited c = λ d sound.
    core_goes c.args.number c.args.self.now _ c.args.part.now c.visit_part.new.part c.in_ok-visit_part.field-0 c.visit_part.new.session Moved d
    c.requires.running c.requires.free c.requires.needed c.requires.core c.in_ok-visit_part.ensures.visit c.visit_part.ensures.types
    (λ e. c.is_blocked.ensures.other c.if-is_blocked.false (c.to_visited-visited.ensures ∙ e)) (λ e. absurd (cc e))
    (owed_so c.args.self.now c.args.part.now c.visit_part.new.part c.visit_part.new.session c.is_open-was_open.result c.count_entries-before.result
    c.count_entries.result c.owed_behind-self.result c.is_open-was_open.ensures c.count_entries-before.ensures c.count_entries.ensures
    c.owed_behind-self.ensures) sound

pub returns-clause-visited : goal.returns-clause-visited
returns-clause-visited c = λ d sound.
    core_goes c.args.number c.args.self.now _ c.args.part.now c.visit_part.new.part c.in_ok-visit_part.field-0 c.visit_part.new.session
    c.to_visited-visited.result d
    c.requires.running c.requires.free c.requires.needed c.requires.core c.in_ok-visit_part.ensures.visit c.visit_part.ensures.types
    (λ e. c.is_blocked.ensures.other c.if-is_blocked.false (c.to_visited-visited.ensures ∙ e))
    (c.is_blocked.ensures.other c.if-is_blocked.false)
    (owed_so c.args.self.now c.args.part.now c.visit_part.new.part c.visit_part.new.session c.is_open-was_open.result c.count_entries-before.result
    c.count_entries.result c.owed_behind-self.result c.is_open-was_open.ensures c.count_entries-before.ensures c.count_entries.ensures
    c.owed_behind-self.ensures) sound
