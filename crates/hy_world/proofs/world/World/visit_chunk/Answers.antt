use Rattle.std.proofs.Common.{◌≡◌, ◌∙◌, arith, false, ap, subst, refl, inl}
use Rattle.std.specs.Prelude.{IfOk, OnErr}
use Rattle.hy_event.specs.declared.Need.TheVariants.{Chunk}
use Rattle.hy_protocol.specs.declared.Progress.TheVariants.{Blocked}
use Rattle.hy_stamp.specs.declared.Label.{Label}
use Rattle.hy_world.specs.Asks.{has_entry_at}
use Rattle.hy_world.specs.Openings.{prunings}
use Rattle.hy_world.specs.Follows.{Steps}
use Rattle.hy_world.specs.Worlds.{WorldData}
use Rattle.hy_world.specs.Logged.{GrowByOne}
use Rattle.hy_world.proofs.Visits.{not_chunk}
use Rattle.hy_world.proofs.KeptWorlds.{Fields, world_of, chunk_put, chunk_steps, chunk_kept, chunk_stays, types_stay}
use Rattle.hy_world.proofs.WorldFields.{session_within, chunk_within, chunk_read, chunk_visited}
use Rattle.hy_world.proofs.BlockedSteps.{chunk_blocked, chunk_prunes, entered_at}
use Rattle.hy_world.proofs.world.World.visit_chunk.Goals as goal

pub index_mut-session-requires : goal.index_mut-session-requires
index_mut-session-requires c =
    let s = c.self.inside in
    let fields : Fields =
    record { shapes = s.shapes; tables = s.tables; per_table = s.per_table; chunks = s.chunks.items; core = s.core; sessions = s.sessions.items } in
    omega (
      arith,
      s.sessions.ok.0,
      session_within fields c.args.self.now c.args.number (Chunk c.args.table c.args.chunk) c.self.view_is c.requires
          (not_chunk c.args.table c.args.chunk),
    )

pub index_mut-part-requires : goal.index_mut-part-requires
index_mut-part-requires c =
    let s = c.self.inside in
    let fields : Fields =
    record { shapes = s.shapes; tables = s.tables; per_table = s.per_table; chunks = s.chunks.items; core = s.core; sessions = s.sessions.items } in
    omega (
      arith,
      s.chunks.ok.0,
      chunk_within c.needed_chunks_are_there.ensures fields c.args.self.now c.args.number c.index_mut-session.result.now
          c.args.table c.args.chunk c.place_of-place.result c.self.view_is c.requires c.index_mut-session.ensures.value c.place_of-place.ensures c.self.invariant,
    )

pub visit_chunk-requires : goal.visit_chunk-requires
visit_chunk-requires c =
    let s = c.self.inside in
    let fields : Fields =
    record { shapes = s.shapes; tables = s.tables; per_table = s.per_table; chunks = s.chunks.items; core = s.core; sessions = s.sessions.items } in
    let at = chunk_read c.needed_chunks_are_there.ensures fields c.args.self.now c.args.number c.index_mut-session.result.now c.args.table c.args.chunk
    c.place_of-place.result c.index_mut-part.result.now c.self.view_is c.requires c.index_mut-session.ensures.value c.place_of-place.ensures
    c.index_mut-part.ensures.value c.self.invariant in
    let near = chunk_visited c.needed_chunks_are_there.ensures c.chunks_are_near.ensures fields c.args.number c.index_mut-session.result.now c.args.table
    c.args.chunk c.place_of-place.result c.index_mut-part.result.now at c.self.invariant in
    record { near = near }

pub invariant_of-self : goal.invariant_of-self
invariant_of-self c =
    let s = c.self.inside in
    let fields : Fields =
    record { shapes = s.shapes; tables = s.tables; per_table = s.per_table; chunks = s.chunks.items; core = s.core; sessions = s.sessions.items } in
    let at = chunk_read c.needed_chunks_are_there.ensures fields c.args.self.now c.args.number c.index_mut-session.result.now c.args.table c.args.chunk
    c.place_of-place.result c.index_mut-part.result.now c.self.view_is c.requires c.index_mut-session.ensures.value c.place_of-place.ensures
    c.index_mut-part.ensures.value c.self.invariant in
    chunk_kept c.visit_chunk.result c.needed_chunks_are_there.ensures c.visits_are_steps.ensures fields c.args.number
    c.index_mut-session.result.now c.visit_chunk.new.self c.args.table c.args.chunk c.place_of-place.result c.index_mut-part.result.now c.visit_chunk.new.chunk at
    (record { event = c.visit_chunk.ensures.event; kept = c.visit_chunk.ensures.kept; kinds = c.visit_chunk.ensures.kinds }) c.self.invariant

pub returns-clause-step : goal.returns-clause-step
returns-clause-step c =
    let s = c.self.inside in
    let fields : Fields =
    record { shapes = s.shapes; tables = s.tables; per_table = s.per_table; chunks = s.chunks.items; core = s.core; sessions = s.sessions.items } in
    let at = chunk_read c.needed_chunks_are_there.ensures fields c.args.self.now c.args.number c.index_mut-session.result.now c.args.table c.args.chunk
    c.place_of-place.result c.index_mut-part.result.now c.self.view_is c.requires c.index_mut-session.ensures.value c.place_of-place.ensures
    c.index_mut-part.ensures.value c.self.invariant in
    let new : WorldData = world_of (chunk_put fields c.args.number c.visit_chunk.new.self c.place_of-place.result c.visit_chunk.new.chunk) in
    subst (λ (world : WorldData). IfOk c.visit_chunk.result (λ progress. Steps c.args.number progress world new)) c.self.view_is
    (chunk_steps c.visit_chunk.result c.needed_chunks_are_there.ensures c.visits_are_steps.ensures fields c.args.number
    c.index_mut-session.result.now c.visit_chunk.new.self c.args.table c.args.chunk c.place_of-place.result c.index_mut-part.result.now c.visit_chunk.new.chunk at
    (record { event = c.visit_chunk.ensures.event; kept = c.visit_chunk.ensures.kept; kinds = c.visit_chunk.ensures.kinds }))

pub returns-clause-err : goal.returns-clause-err
returns-clause-err c =
    let s = c.self.inside in
    let fields : Fields =
    record { shapes = s.shapes; tables = s.tables; per_table = s.per_table; chunks = s.chunks.items; core = s.core; sessions = s.sessions.items } in
    let at = chunk_read c.needed_chunks_are_there.ensures fields c.args.self.now c.args.number c.index_mut-session.result.now c.args.table c.args.chunk
    c.place_of-place.result c.index_mut-part.result.now c.self.view_is c.requires c.index_mut-session.ensures.value c.place_of-place.ensures
    c.index_mut-part.ensures.value c.self.invariant in
    let new : WorldData = world_of (chunk_put fields c.args.number c.visit_chunk.new.self c.place_of-place.result c.visit_chunk.new.chunk) in
    subst (λ (world : WorldData). OnErr c.visit_chunk.result (new ≡ world)) c.self.view_is
    (chunk_stays c.visit_chunk.result fields c.args.number c.index_mut-session.result.now c.visit_chunk.new.self c.args.table
    c.args.chunk c.place_of-place.result c.index_mut-part.result.now c.visit_chunk.new.chunk at
    (record { event = c.visit_chunk.ensures.event; kept = c.visit_chunk.ensures.kept; kinds = c.visit_chunk.ensures.kinds }))

pub returns-clause-grows : goal.returns-clause-grows
returns-clause-grows c =
    subst (λ (world : WorldData). GrowByOne world.core.entries c.self.inside.core.entries) c.self.view_is (inl refl)

pub returns-clause-entered : goal.returns-clause-entered
returns-clause-entered c =
    let s = c.self.inside in
    let fields : Fields =
    record { shapes = s.shapes; tables = s.tables; per_table = s.per_table; chunks = s.chunks.items; core = s.core; sessions = s.sessions.items } in
    let at = chunk_read c.needed_chunks_are_there.ensures fields c.args.self.now c.args.number c.index_mut-session.result.now c.args.table c.args.chunk
    c.place_of-place.result c.index_mut-part.result.now c.self.view_is c.requires c.index_mut-session.ensures.value c.place_of-place.ensures
    c.index_mut-part.ensures.value c.self.invariant in
    subst (λ (world : WorldData). OnErr c.visit_chunk.result (has_entry_at world.sessions c.args.number ≡ false)) c.self.view_is
    (entered_at c.visit_chunk.result fields.sessions c.args.number c.index_mut-session.result.now at.at.found c.visit_chunk.ensures.entered)

pub returns-clause-blocked : goal.returns-clause-blocked
returns-clause-blocked c =
    let s = c.self.inside in
    let fields : Fields =
    record { shapes = s.shapes; tables = s.tables; per_table = s.per_table; chunks = s.chunks.items; core = s.core; sessions = s.sessions.items } in
    let at = chunk_read c.needed_chunks_are_there.ensures fields c.args.self.now c.args.number c.index_mut-session.result.now c.args.table c.args.chunk
    c.place_of-place.result c.index_mut-part.result.now c.self.view_is c.requires c.index_mut-session.ensures.value c.place_of-place.ensures
    c.index_mut-part.ensures.value c.self.invariant in
    let new : WorldData = world_of (chunk_put fields c.args.number c.visit_chunk.new.self c.place_of-place.result c.visit_chunk.new.chunk) in
    subst (λ (world : WorldData). IfOk c.visit_chunk.result (λ progress. (by : Label) → progress ≡ Blocked by → new ≡ world)) c.self.view_is
    (chunk_blocked c.visit_chunk.result c.index_mut-session.result.now c.visit_chunk.new.self c.index_mut-part.result.now c.visit_chunk.new.chunk
    (new ≡ world_of fields) (record { event = c.visit_chunk.ensures.event; kept = c.visit_chunk.ensures.kept; kinds = c.visit_chunk.ensures.kinds }))

pub returns-clause-prunes : goal.returns-clause-prunes
returns-clause-prunes c =
    let s = c.self.inside in
    let fields : Fields =
    record { shapes = s.shapes; tables = s.tables; per_table = s.per_table; chunks = s.chunks.items; core = s.core; sessions = s.sessions.items } in
    let at = chunk_read c.needed_chunks_are_there.ensures fields c.args.self.now c.args.number c.index_mut-session.result.now c.args.table c.args.chunk
    c.place_of-place.result c.index_mut-part.result.now c.self.view_is c.requires c.index_mut-session.ensures.value c.place_of-place.ensures
    c.index_mut-part.ensures.value c.self.invariant in
    let new : WorldData = world_of (chunk_put fields c.args.number c.visit_chunk.new.self c.place_of-place.result c.visit_chunk.new.chunk) in
    subst (λ (world : WorldData). prunings new.sessions ≡ prunings world.sessions) c.self.view_is
    (chunk_prunes c.visit_chunk.result fields.sessions c.args.number c.index_mut-session.result.now c.visit_chunk.new.self c.index_mut-part.result.now
    c.visit_chunk.new.chunk at.at.found (record { event = c.visit_chunk.ensures.event; kept = c.visit_chunk.ensures.kept; kinds = c.visit_chunk.ensures.kinds }))

pub returns-clause-kinds : goal.returns-clause-kinds
returns-clause-kinds c =
    let s = c.self.inside in
    let fields : Fields =
    record { shapes = s.shapes; tables = s.tables; per_table = s.per_table; chunks = s.chunks.items; core = s.core; sessions = s.sessions.items } in
    let at = chunk_read c.needed_chunks_are_there.ensures fields c.args.self.now c.args.number c.index_mut-session.result.now c.args.table c.args.chunk
    c.place_of-place.result c.index_mut-part.result.now c.self.view_is c.requires c.index_mut-session.ensures.value c.place_of-place.ensures
    c.index_mut-part.ensures.value c.self.invariant in
    types_stay fields c.args.number c.index_mut-session.result.now c.visit_chunk.new.self c.args.table c.args.chunk c.place_of-place.result
    c.index_mut-part.result.now c.visit_chunk.new.chunk at c.visit_chunk.ensures.kinds
    ∙ ap (λ (world : WorldData). world.kinds) c.self.view_is
