use Rattle.std.proofs.Common.{ap, sym, ◌∙◌}
use Rattle.hy_event.specs.Needs.{need_of}
use Rattle.hy_world.specs.Kinds.{shared_by}
use Rattle.hy_world.specs.Shared.{chunk_shared}
use Rattle.hy_world.proofs.SharedWorlds.{visit_near}
use Rattle.hy_world.proofs.shared.visit_part.Goals as goal

pub visit_or_pass-requires : goal.visit_or_pass-requires
visit_or_pass-requires c =
    let session = c.args.session.now in
    record {
      near = visit_near (need_of session) session c.args.part.now c.deref_mut.result.now
          (sym c.part.view_is ∙ ap shared_by c.in-Chunk.is ∙ ap chunk_shared (sym c.deref_mut.ensures.value)) c.requires;
    }
