use Rattle.std.proofs.Common.{List, ap, arith, subst, sym}
use Rattle.std.specs.List.{All}
use Rattle.std.proofs.lemmas.List.Elements.{All-take, All-drop}
use Rattle.hy_chunk.specs.Views.{Whole}
use Rattle.hy_event.specs.declared.SessionData.{SessionData}
use Rattle.hy_event.specs.declared.Need.TheVariants.{Chunk}
use Rattle.hy_session.specs.Passing.{MayBePassed}
use Rattle.hy_world.specs.Follows.{MovesOn}
use Rattle.hy_world.specs.Worlds.{WorldData}
use Rattle.hy_world.proofs.Visits.{not_chunk}
use Rattle.hy_world.proofs.KeptWorlds.{Fields, Holds, world_of}
use Rattle.hy_world.proofs.WorldFields.{session_within, session_read, chunk_within}
use Rattle.hy_world.proofs.PassedChunks.{all_may, first_behind, passes_kept, passes_move, put_back, session_put}
use Rattle.hy_world.proofs.world.World.pass_chunks.Goals as goal

pub index_mut-session-requires : goal.index_mut-session-requires
index_mut-session-requires c =
    let s = c.self.inside in
    let fields : Fields =
    record { shapes = s.shapes; tables = s.tables; per_table = s.per_table; chunks = s.chunks.items; core = s.core; sessions = s.sessions.items } in
    omega (
      arith,
      s.sessions.ok.0,
      session_within fields c.args.self.now c.args.number (Chunk c.args.table c.args.chunk) c.self.view_is c.requires
          (not_chunk c.args.table c.args.chunk),
    )

pub slice_bounds-pass-start : goal.slice_bounds-pass-start
slice_bounds-pass-start c =
    let s = c.self.inside in
    let fields : Fields =
    record { shapes = s.shapes; tables = s.tables; per_table = s.per_table; chunks = s.chunks.items; core = s.core; sessions = s.sessions.items } in
    omega (
      arith,
      s.chunks.ok.0,
      c.as_mut_slice.ensures.len,
      chunk_within c.needed_chunks_are_there.ensures fields c.args.self.now c.args.number c.index_mut-session.result.now
          c.args.table c.args.chunk c.place_of-place.result c.self.view_is c.requires c.index_mut-session.ensures.value c.place_of-place.ensures c.self.invariant,
    )

pub slice_bounds-pass-count : goal.slice_bounds-pass-count
slice_bounds-pass-count c =
    let s = c.self.inside in
    let fields : Fields =
    record { shapes = s.shapes; tables = s.tables; per_table = s.per_table; chunks = s.chunks.items; core = s.core; sessions = s.sessions.items } in
    omega (
      arith,
      s.chunks.ok.0,
      c.as_mut_slice.ensures.len,
      chunk_within c.needed_chunks_are_there.ensures fields c.args.self.now c.args.number c.index_mut-session.result.now
          c.args.table c.args.chunk c.place_of-place.result c.self.view_is c.requires c.index_mut-session.ensures.value c.place_of-place.ensures c.self.invariant,
    )

pub slice_bounds-pass-end : goal.slice_bounds-pass-end
slice_bounds-pass-end c =
    let s = c.self.inside in
    let fields : Fields =
    record { shapes = s.shapes; tables = s.tables; per_table = s.per_table; chunks = s.chunks.items; core = s.core; sessions = s.sessions.items } in
    omega (
      arith,
      s.chunks.ok.0,
      c.as_mut_slice.ensures.len,
      chunk_within c.needed_chunks_are_there.ensures fields c.args.self.now c.args.number c.index_mut-session.result.now
          c.args.table c.args.chunk c.place_of-place.result c.self.view_is c.requires c.index_mut-session.ensures.value c.place_of-place.ensures c.self.invariant,
    )

pub pass-requires : goal.pass-requires
pass-requires c =
    let s = c.self.inside in
    let fields : Fields =
    record { shapes = s.shapes; tables = s.tables; per_table = s.per_table; chunks = s.chunks.items; core = s.core; sessions = s.sessions.items } in
    let all : All MayBePassed c.as_mut_slice.result.now = subst (All MayBePassed) (sym c.as_mut_slice.ensures.value)
    (all_may c.chunks_may_be_passed.ensures fields c.self.invariant) in
    All-take MayBePassed _ _ (All-drop MayBePassed _ _ all)

pub returns-clause-moves : goal.returns-clause-moves
returns-clause-moves c =
    let s = c.self.inside in
    let fields : Fields =
    record { shapes = s.shapes; tables = s.tables; per_table = s.per_table; chunks = s.chunks.items; core = s.core; sessions = s.sessions.items } in
    let session : SessionData = c.index_mut-session.result.now in
    let at = session_read fields c.args.self.now c.args.number session (Chunk c.args.table c.args.chunk) c.self.view_is c.requires
    (not_chunk c.args.table c.args.chunk) c.index_mut-session.ensures.value in
    let put : Fields = session_put fields c.args.number c.pass.new.self in
    let back = put_back s.chunks c.place_of-place.result c.as_mut_slice.result.now c.pass.new.chunks c.pass.ensures.all c.as_mut_slice.ensures.value in
    subst (λ (chunks : List Whole). MovesOn c.args.number c.args.self.now (world_of (record put { chunks = chunks }))) (sym back)
    (subst (λ (world : WorldData). MovesOn c.args.number world (world_of put)) c.self.view_is
    (passes_move c.passes_are_steps.ensures fields c.args.number session c.pass.new.self c.args.table c.args.chunk c.place_of-place.result _ at
    c.place_of-place.ensures (first_behind s.chunks.items c.as_mut_slice.result.now c.place_of-place.result _ c.pass.result c.as_mut_slice.ensures.value)
    (c.pass.ensures.passes c.args.table c.args.chunk at.needs)))

pub invariant_of-self : goal.invariant_of-self
invariant_of-self c =
    let s = c.self.inside in
    let fields : Fields =
    record { shapes = s.shapes; tables = s.tables; per_table = s.per_table; chunks = s.chunks.items; core = s.core; sessions = s.sessions.items } in
    let session : SessionData = c.index_mut-session.result.now in
    let at = session_read fields c.args.self.now c.args.number session (Chunk c.args.table c.args.chunk) c.self.view_is c.requires
    (not_chunk c.args.table c.args.chunk) c.index_mut-session.ensures.value in
    let put : Fields = session_put fields c.args.number c.pass.new.self in
    let back = put_back s.chunks c.place_of-place.result c.as_mut_slice.result.now c.pass.new.chunks c.pass.ensures.all c.as_mut_slice.ensures.value in
    subst (λ (chunks : List Whole). Holds (record put { chunks = chunks })) (sym back)
    (passes_kept c.passes_are_steps.ensures fields c.args.number session c.pass.new.self c.args.table c.args.chunk c.place_of-place.result _ at
    c.place_of-place.ensures (first_behind s.chunks.items c.as_mut_slice.result.now c.place_of-place.result _ c.pass.result c.as_mut_slice.ensures.value)
    (c.pass.ensures.passes c.args.table c.args.chunk at.needs) c.self.invariant)

pub returns-clause-entries : goal.returns-clause-entries
returns-clause-entries c = ap (λ (world : WorldData). world.core.entries) c.self.view_is
