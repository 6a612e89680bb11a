use Rattle.std.proofs.Common.{◌≡◌, arith, subst}
use Rattle.std.specs.Prelude.{OnOk, OnErr}
use Rattle.hy_world.specs.Lines.{Grows, HasLine}
use Rattle.hy_world.specs.Worlds.{WorldData}
use Rattle.hy_world.proofs.KeptWorlds.{Fields, world_of}
use Rattle.hy_world.proofs.Pushes.{session_there, is_awaiting, has_room, session_put, holds_still, grows_shown, has_line, stays_so}
use Rattle.hy_world.proofs.world.World.push.Goals as goal

pub index_mut-session-requires : goal.index_mut-session-requires
index_mut-session-requires c =
    let s = c.self.inside in
    let fields : Fields =
    record { shapes = s.shapes; tables = s.tables; per_table = s.per_table; chunks = s.chunks.items; core = s.core; sessions = s.sessions.items } in
    omega (arith, s.sessions.ok.0, session_there fields c.args.self.now c.args.number c.args.line c.self.view_is c.requires)

pub push-requires : goal.push-requires
push-requires c =
    let s = c.self.inside in
    let fields : Fields =
    record { shapes = s.shapes; tables = s.tables; per_table = s.per_table; chunks = s.chunks.items; core = s.core; sessions = s.sessions.items } in
    let at = is_awaiting fields c.args.self.now c.args.number c.index_mut-session.result.now c.args.line c.self.view_is c.requires
    c.index_mut-session.ensures.value in
    record { room = has_room fields c.args.number c.index_mut-session.result.now c.args.line c.self.invariant at }

pub invariant_of-self : goal.invariant_of-self
invariant_of-self c =
    let s = c.self.inside in
    let fields : Fields =
    record { shapes = s.shapes; tables = s.tables; per_table = s.per_table; chunks = s.chunks.items; core = s.core; sessions = s.sessions.items } in
    let at = is_awaiting fields c.args.self.now c.args.number c.index_mut-session.result.now c.args.line c.self.view_is c.requires
    c.index_mut-session.ensures.value in
    holds_still c.push.result c.awaited_lines_are_the_machines.ensures c.lines_are_shown.ensures.shown c.lines_are_shown.ensures.typed fields c.args.number
    c.index_mut-session.result.now c.push.new.self c.args.line at (record { ok = c.push.ensures.ok; err = c.push.ensures.err }) c.self.invariant

pub returns-clause-grows : goal.returns-clause-grows
returns-clause-grows c =
    let s = c.self.inside in
    let fields : Fields =
    record { shapes = s.shapes; tables = s.tables; per_table = s.per_table; chunks = s.chunks.items; core = s.core; sessions = s.sessions.items } in
    let at = is_awaiting fields c.args.self.now c.args.number c.index_mut-session.result.now c.args.line c.self.view_is c.requires
    c.index_mut-session.ensures.value in
    let new : WorldData = world_of (session_put fields c.args.number c.push.new.self) in
    subst (λ (world : WorldData). OnOk c.push.result (Grows c.args.number c.args.line world new)) c.self.view_is
    (grows_shown c.push.result c.awaited_lines_are_the_machines.ensures c.lines_are_shown.ensures.shown fields c.args.number
    c.index_mut-session.result.now c.push.new.self c.args.line at (record { ok = c.push.ensures.ok; err = c.push.ensures.err }))

pub returns-clause-after : goal.returns-clause-after
returns-clause-after c =
    let s = c.self.inside in
    let fields : Fields =
    record { shapes = s.shapes; tables = s.tables; per_table = s.per_table; chunks = s.chunks.items; core = s.core; sessions = s.sessions.items } in
    let at = is_awaiting fields c.args.self.now c.args.number c.index_mut-session.result.now c.args.line c.self.view_is c.requires
    c.index_mut-session.ensures.value in
    let new : WorldData = world_of (session_put fields c.args.number c.push.new.self) in
    subst (λ (world : WorldData). OnOk c.push.result (HasLine c.args.number c.args.line world new)) c.self.view_is
    (has_line c.push.result fields c.args.number c.index_mut-session.result.now c.push.new.self c.args.line at
    (record { ok = c.push.ensures.ok; err = c.push.ensures.err }))

pub returns-clause-err : goal.returns-clause-err
returns-clause-err c =
    let s = c.self.inside in
    let fields : Fields =
    record { shapes = s.shapes; tables = s.tables; per_table = s.per_table; chunks = s.chunks.items; core = s.core; sessions = s.sessions.items } in
    let at = is_awaiting fields c.args.self.now c.args.number c.index_mut-session.result.now c.args.line c.self.view_is c.requires
    c.index_mut-session.ensures.value in
    let new : WorldData = world_of (session_put fields c.args.number c.push.new.self) in
    subst (λ (world : WorldData). OnErr c.push.result (new ≡ world)) c.self.view_is
    (stays_so c.push.result fields c.args.number c.index_mut-session.result.now c.push.new.self c.args.line at
    (record { ok = c.push.ensures.ok; err = c.push.ensures.err }))
