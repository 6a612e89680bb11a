use Rattle.std.proofs.Common.{◌≡◌, ℕ, List, length, map, subst, sym, ap, ◌∙◌}
use Rattle.hy_bound.specs.declared.Shape.{Shape}
use Rattle.hy_stepping.specs.Outcomes.{told_entry}
use Rattle.hy_render.specs.declared.Outcome.{Outcome}
use Rattle.hy_world.specs.Finished.{tables_back, HaveTheirWidths}
use Rattle.hy_world.specs.Follows.{Tells}
use Rattle.hy_world.specs.Worlds.{WorldData}
use Rattle.hy_world.proofs.OutcomesRead.{tells, widths_are}
use Rattle.hy_world.proofs.world.World.finish.Goals as goal

pub all_rows-requires-clause-wide : goal.all_rows-requires-clause-wide
all_rows-requires-clause-wide c =
    let world = c.self.inside in
    subst (λ (shapes : List Shape). HaveTheirWidths shapes world.per_table world.chunks.items) (sym c.as_slice.ensures)
    (widths_are world.shapes world.tables world.per_table world.chunks.items world.core world.sessions.items c.self.invariant)

pub returns-clause-tells : goal.returns-clause-tells
returns-clause-tells c =
    let world = c.self.inside in
    let outcome : Outcome = record { txns = c.in_ok-txns.txns; order = c.in_ok-order.order; tables = c.in_ok-tables.tables } in
    let back =
    c.in_ok-tables.ensures
    ∙ (ap (λ (next : ℕ). tables_back (record { id = next; start = next }) world.chunks.items c.as_slice.result.now world.per_table
    (length c.as_slice.result.now)) c.next-next.ensures
    ∙ ap (λ (shapes : List Shape). tables_back (record { id = world.core.next; start = world.core.next }) world.chunks.items shapes world.per_table
    (length shapes)) c.as_slice.ensures) in
    let order = c.in_ok-order.ensures ∙ ap (map told_entry) c.into_entries.ensures in
    subst (λ (shown : WorldData). Tells shown outcome) c.self.view_is
    (tells c.outcomes_are_told.ensures c.reached_tables_fit.ensures world.shapes world.tables world.per_table world.chunks.items world.core
    world.sessions.items outcome c.self.invariant c.in_ok-txns.ensures order back)

pub returns-clause-order : goal.returns-clause-order
returns-clause-order c =
    subst (λ (shown : WorldData). c.in_ok-order.order ≡ map told_entry shown.core.entries) c.self.view_is
    (c.in_ok-order.ensures ∙ ap (map told_entry) c.into_entries.ensures)
