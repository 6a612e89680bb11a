use Rattle.std.proofs.Common.{◌≡◌, All, ap, sym, subst}
use Rattle.hy_event.specs.declared.SessionData.{SessionData}
use Rattle.hy_journal.specs.declared.CoreData.{CoreData}
use Rattle.hy_world.specs.Openings.{layout_of}
use Rattle.hy_world.proofs.OpenedWorlds.{world_opened, shown_opened}
use Rattle.hy_world.proofs.TableKinds.{kinds_opened}
use Rattle.hy_world.proofs.BlockedSteps.{new_prune}
use Rattle.hy_world.proofs.world.World.open.Goals as goal

pub invariant_of-result : goal.invariant_of-result
invariant_of-result c =
    world_opened c.the_opening_is_shown.ensures c.args.setting c.args.kinds.now _ c.len-tables.result _ c.requires.runnable c.requires.typed
    c.in_ok-shapes.ensures c.len-tables.ensures

pub returns-clause-shows : goal.returns-clause-shows
returns-clause-shows c =
    shown_opened c.the_opening_is_shown.ensures c.args.setting c.args.kinds.now _ c.len-tables.result _ c.requires.runnable c.requires.typed
    c.in_ok-shapes.ensures c.len-tables.ensures

pub returns-clause-entries : goal.returns-clause-entries
returns-clause-entries c = ap (λ (core : CoreData). core.entries) c.in_ok-shapes.ensures.core

pub returns-clause-kinds : goal.returns-clause-kinds
returns-clause-kinds c =
    kinds_opened c.args.setting c.args.kinds.now _ _ c.len-tables.result c.requires.runnable c.requires.typed c.in_ok-shapes.ensures c.len-tables.ensures

pub returns-clause-prunes : goal.returns-clause-prunes
returns-clause-prunes c =
    subst (All (λ (session : SessionData). session.prunes ≡ c.args.prunes)) (sym c.in_ok-shapes.ensures.sessions)
    (new_prune c.args.setting.shapes (layout_of c.args.setting) c.args.prunes 0 c.args.setting.programs)
