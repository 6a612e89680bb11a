use Rattle.std.proofs.Common.{ℕ, List, [], ◌++◌, ap, ◌∙◌, append_assoc}
use Rattle.std.specs.Prelude.{codes, slice_index_or}
use Rattle.hy_render.specs.Report.{line}
use Rattle.hy_serving.specs.Answers.{prefix}
use Rattle.hy_service.specs.Knowing.{ServerData}
use Rattle.hy_service.specs.Service.{dropped_text}
use Rattle.hy_service.proofs.Server.drop_if_open.Goals as goal

pub returns-clause-told : goal.returns-clause-told
returns-clause-told c = λ there.
    c.in_ok-print_dropped.ensures ∙ append_assoc c.args.out.now.items (prefix c.name_at.result.now) (line (codes "dropped")) ∙ ap (λ (name : List ℕ). c.args.out.now.items ++ dropped_text name) c.name_at.ensures
    ∙ ap (λ (s : ServerData). c.args.out.now.items ++ dropped_text (slice_index_or s.names.sessions c.args.number [])) c.self.view_is
