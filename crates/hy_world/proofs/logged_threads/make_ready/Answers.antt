use Rattle.std.proofs.Common.{◌≡◌, ◌∙◌, ◌*◌, ℕ, length, ap}
use Rattle.hy_machine.specs.declared.Setting.{Setting}
use Rattle.hy_journal.specs.declared.CoreData.{CoreData}
use Rattle.hy_world.specs.LoggedRuns.{fresh_sessions}
use Rattle.hy_world.specs.Shared.{parts_shared}
use Rattle.hy_world.proofs.SharedWorlds.{case_shared}
use Rattle.hy_world.proofs.logged_threads.make_ready.Goals as goal

pub returns : goal.returns
returns g c =
    let opened = c.in_ok-shapes.field-0 in
    let opens = c.in_ok-shapes.ensures in
    let count : c.len-core_part.result ≡ length c.args.setting.shapes * c.args.setting.chunks = c.len-core_part.ensures ∙ (opened.chunks.ok.0 ∙ opens.laid.many) in
    record {
      chunks = opened.chunks.items;
      parts_are = c.in_ok-parts.ensures ∙ ap (λ (core : CoreData). parts_shared opened.chunks.items core) opens.core;
      plain = opened.sessions.items;
      sessions_are = c.in_ok-sessions.ensures ∙ ap (λ (n : ℕ). fresh_sessions n opened.sessions.items)
          (count ∙ ap (λ (s : Setting). length s.shapes * s.chunks) c.requires.setting);
      shared = case_shared
          (record {
            cores_near = c.cores_are_near.ensures;
            chunks_there = c.needed_chunks_are_there.ensures;
            chunks_near = c.chunks_are_near.ensures;
            visits_steps = c.visits_are_steps.ensures;
          })
          c.the_opening_is_shown.ensures c.args.setting g.K.Case.setting c.args.kinds.now g.K.Case.kinds c.args.prunes opened
          c.in_ok-parts.parts.items c.requires.setting c.requires.kinds c.requires.runnable c.requires.typed opens c.in_ok-parts.ensures;
      shapes_are = opens.shapes ∙ ap (λ (s : Setting). s.shapes) c.requires.setting;
      per_table_is = opens.per_table ∙ ap (λ (s : Setting). s.chunks) c.requires.setting;
    }
