use Rattle.std.proofs.Common.{◌≡◌, arith, false, ap, subst}
use Rattle.std.specs.Prelude.{IfOk, OnErr}
use Rattle.hy_event.specs.declared.Need.TheVariants.{Core}
use Rattle.hy_protocol.specs.declared.Progress.TheVariants.{Blocked}
use Rattle.hy_stamp.specs.declared.Label.{Label}
use Rattle.hy_world.specs.Asks.{has_entry_at}
use Rattle.hy_world.specs.Openings.{prunings}
use Rattle.hy_world.specs.Follows.{Steps}
use Rattle.hy_world.specs.Worlds.{WorldData}
use Rattle.hy_world.proofs.Visits.{not_core, core_near}
use Rattle.hy_world.proofs.KeptWorlds.{Fields, world_of, core_put, core_steps, core_kept}
use Rattle.hy_world.specs.Logged.{GrowByOne}
use Rattle.hy_world.proofs.WorldFields.{session_within, session_read}
use Rattle.hy_world.proofs.Growing.{visit_grows}
use Rattle.hy_world.proofs.BlockedSteps.{core_blocked, core_prunes, entered_at}
use Rattle.hy_world.proofs.world.World.visit_core.Goals as goal

pub index_mut-session-requires : goal.index_mut-session-requires
index_mut-session-requires c =
    let s = c.self.inside in
    let fields : Fields =
    record { shapes = s.shapes; tables = s.tables; per_table = s.per_table; chunks = s.chunks.items; core = s.core; sessions = s.sessions.items } in
    omega (arith, s.sessions.ok.0, session_within fields c.args.self.now c.args.number Core c.self.view_is c.requires not_core)

pub visit_core-requires-clause-needs : goal.visit_core-requires-clause-needs
visit_core-requires-clause-needs c =
    let s = c.self.inside in
    let fields : Fields =
    record { shapes = s.shapes; tables = s.tables; per_table = s.per_table; chunks = s.chunks.items; core = s.core; sessions = s.sessions.items } in
    let at = session_read fields c.args.self.now c.args.number c.index_mut-session.result.now Core c.self.view_is c.requires not_core
    c.index_mut-session.ensures.value in
    at.needs

pub visit_core-requires-clause-near : goal.visit_core-requires-clause-near
visit_core-requires-clause-near c =
    let s = c.self.inside in
    let fields : Fields =
    record { shapes = s.shapes; tables = s.tables; per_table = s.per_table; chunks = s.chunks.items; core = s.core; sessions = s.sessions.items } in
    let at = session_read fields c.args.self.now c.args.number c.index_mut-session.result.now Core c.self.view_is c.requires not_core
    c.index_mut-session.ensures.value in
    core_near c.cores_are_near.ensures c.self.invariant.setting c.self.invariant.state (world_of fields) c.args.number c.index_mut-session.result.now
    c.self.invariant.shows at

pub invariant_of-self : goal.invariant_of-self
invariant_of-self c =
    let s = c.self.inside in
    let fields : Fields =
    record { shapes = s.shapes; tables = s.tables; per_table = s.per_table; chunks = s.chunks.items; core = s.core; sessions = s.sessions.items } in
    let at = session_read fields c.args.self.now c.args.number c.index_mut-session.result.now Core c.self.view_is c.requires not_core
    c.index_mut-session.ensures.value in
    core_kept c.visit_core.result c.visits_are_steps.ensures fields c.args.number c.index_mut-session.result.now c.visit_core.new.self c.visit_core.new.core at
    (c.visit_core.ensures.event, c.visit_core.ensures.kept) c.self.invariant

pub returns-clause-step : goal.returns-clause-step
returns-clause-step c =
    let s = c.self.inside in
    let fields : Fields =
    record { shapes = s.shapes; tables = s.tables; per_table = s.per_table; chunks = s.chunks.items; core = s.core; sessions = s.sessions.items } in
    let at = session_read fields c.args.self.now c.args.number c.index_mut-session.result.now Core c.self.view_is c.requires not_core
    c.index_mut-session.ensures.value in
    let new : WorldData = world_of (core_put fields c.args.number c.visit_core.new.self c.visit_core.new.core) in
    subst (λ (world : WorldData). IfOk c.visit_core.result (λ progress. Steps c.args.number progress world new)) c.self.view_is
    (core_steps c.visit_core.result c.visits_are_steps.ensures (world_of fields) c.args.number c.index_mut-session.result.now c.visit_core.new.self
    c.visit_core.new.core at (c.visit_core.ensures.event, c.visit_core.ensures.kept))

pub returns-clause-grows : goal.returns-clause-grows
returns-clause-grows c =
    subst (λ (world : WorldData). GrowByOne world.core.entries c.visit_core.new.core.entries) c.self.view_is
    (visit_grows c.visit_core.result c.index_mut-session.result.now c.visit_core.new.self c.self.inside.core c.visit_core.new.core
    c.visit_core.ensures.event c.visit_core.ensures.kept)

pub returns-clause-entered : goal.returns-clause-entered
returns-clause-entered c =
    let s = c.self.inside in
    let fields : Fields =
    record { shapes = s.shapes; tables = s.tables; per_table = s.per_table; chunks = s.chunks.items; core = s.core; sessions = s.sessions.items } in
    let at = session_read fields c.args.self.now c.args.number c.index_mut-session.result.now Core c.self.view_is c.requires not_core
    c.index_mut-session.ensures.value in
    subst (λ (world : WorldData). OnErr c.visit_core.result (has_entry_at world.sessions c.args.number ≡ false)) c.self.view_is
    (entered_at c.visit_core.result fields.sessions c.args.number c.index_mut-session.result.now at.found c.visit_core.ensures.entered)

pub returns-clause-blocked : goal.returns-clause-blocked
returns-clause-blocked c =
    let s = c.self.inside in
    let fields : Fields =
    record { shapes = s.shapes; tables = s.tables; per_table = s.per_table; chunks = s.chunks.items; core = s.core; sessions = s.sessions.items } in
    let at = session_read fields c.args.self.now c.args.number c.index_mut-session.result.now Core c.self.view_is c.requires not_core
    c.index_mut-session.ensures.value in
    let new : WorldData = world_of (core_put fields c.args.number c.visit_core.new.self c.visit_core.new.core) in
    subst (λ (world : WorldData). IfOk c.visit_core.result (λ progress. (by : Label) → progress ≡ Blocked by → new ≡ world)) c.self.view_is
    (core_blocked c.visit_core.result (world_of fields) c.args.number c.index_mut-session.result.now c.visit_core.new.self c.visit_core.new.core at
    (c.visit_core.ensures.event, c.visit_core.ensures.kept))

pub returns-clause-prunes : goal.returns-clause-prunes
returns-clause-prunes c =
    let s = c.self.inside in
    let fields : Fields =
    record { shapes = s.shapes; tables = s.tables; per_table = s.per_table; chunks = s.chunks.items; core = s.core; sessions = s.sessions.items } in
    let at = session_read fields c.args.self.now c.args.number c.index_mut-session.result.now Core c.self.view_is c.requires not_core
    c.index_mut-session.ensures.value in
    let new : WorldData = world_of (core_put fields c.args.number c.visit_core.new.self c.visit_core.new.core) in
    subst (λ (world : WorldData). prunings new.sessions ≡ prunings world.sessions) c.self.view_is
    (core_prunes c.visit_core.result fields.sessions c.args.number c.index_mut-session.result.now c.visit_core.new.self fields.core c.visit_core.new.core at.found
    (c.visit_core.ensures.event, c.visit_core.ensures.kept))

pub returns-clause-kinds : goal.returns-clause-kinds
returns-clause-kinds c = ap (λ (world : WorldData). world.kinds) c.self.view_is
