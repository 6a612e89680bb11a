use Rattle.std.proofs.Common.{◌*◌, ◌^◌, ◌<◌, List, length, ap, ◌∙◌, refl, sym, subst}
use Rattle.hy_bound.specs.declared.Shape.{Shape}
use Rattle.hy_world.specs.Openings.{sessions_from, layout_of}
use Rattle.hy_world.proofs.OpenedWorlds.{core_is, txns_few}
use Rattle.hy_world.proofs.BlockedSteps.{few_chunks}
use Rattle.hy_world.proofs.opening.open_all.Goals as goal

pub all_sessions-requires-clause-txns : goal.all_sessions-requires-clause-txns
all_sessions-requires-clause-txns c = txns_few c.args.setting c.requires.runnable

pub all_sessions-requires-clause-numbered : goal.all_sessions-requires-clause-numbered
all_sessions-requires-clause-numbered c =
    subst (λ (shapes : List Shape). length shapes * c.args.setting.chunks < 2 ^ 32) (sym c.as_slice.ensures)
    (few_chunks c.args.setting c.requires.runnable)

pub returns : goal.returns
returns c =
    let setting = c.args.setting in
    record {
      shapes = refl;
      per_table = refl;
      laid = c.in_ok-chunks.ensures;
      core = core_is c.new.result c.new.ensures.next c.new.ensures.active c.new.ensures.entries c.new.ensures.mark;
      sessions = c.in_ok-sessions.ensures
          ∙ ap (λ (shapes : List Shape). sessions_from shapes (layout_of setting) c.args.prunes 0 setting.programs) c.as_slice.ensures;
    }
