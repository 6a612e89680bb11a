use Rattle.std.proofs.Common.{ℕ, List, Option, sym, subst, ◌∙◌, arith, rules}
use Rattle.hy_redo.specs.Tests.{IsFrontOf}
use Rattle.hy_redo.specs.Recovery.{HasNoHeader, DamagedIn}
use Rattle.hy_disk.specs.Bytes.{HasLength}
use Rattle.hy_redo.proofs.Writing.{stays_on}
use Rattle.hy_redo.specs.declared.errors.RecoverError.TheVariants.{Damaged}
use Rattle.hy_redo.proofs.Pieces.{none_front, no_header, advanced, comes_to_tables, comes_to_damage, read_further}
use Rattle.hy_redo.proofs.recovery.redo_disk.Goals as goal

pub read_on-requires-clause-front : goal.read_on-requires-clause-front
read_on-requires-clause-front g c =
    subst (IsFrontOf (g.D.Disk.held c.len.new.self)) (sym c.new-bytes.ensures.items) (none_front (g.D.Disk.held c.len.new.self))

pub returns-in_default-clause-damaged : goal.returns-in_default-clause-damaged
returns-in_default-clause-damaged g c =
    let held = g.D.Disk.held c.len.new.self in
    let bytes = c.read_on.new.bytes.items in
    subst (λ (h : Option (List ℕ)). DamagedIn c.args.tables h (Damaged 0)) c.len.ensures.held
    (no_header c.args.tables held c.in_ok-len.len bytes
    (subst (λ (h : Option (List ℕ)). HasLength h c.in_ok-len.len) (sym c.len.ensures.held) c.in_ok-len.ensures.count)
    c.in_ok-read_on.ensures.front c.in_ok-read_on.ensures.long (subst HasNoHeader c.deref.ensures.value c.in_default.ensures.none))

pub returns-then-not-wants_more-clause-found : goal.returns-then-not-wants_more-clause-found
returns-then-not-wants_more-clause-found g c =
    let d = g.D.Disk in
    let before = c.pieces.so_far in
    let now = c.redo-stop.new.so_far in
    let r = advanced c.args.tables c.in_ok-len.len c.pieces.bytes.items c.deref-in-pieces.result.now c.deref-in-pieces.ensures.value
    (d.held c.pieces.disk) before.tables.items now.tables.items before.last now.last before.gate now.gate c.pieces.invariant.0
    c.redo-stop.ensures.redone c.redo-stop.ensures.inside in
    comes_to_tables c.args.tables c.in_ok-len.len c.pieces.bytes.items c.deref-in-pieces.result.now c.deref-in-pieces.ensures.value
    (d.held c.args.disk.now) (d.held c.pieces.disk) c.pieces.invariant.1 now.tables.items now.last now.gate r c.redo-stop.result c.redo-stop.ensures.stop
    c.result_of_stop.result c.result_of_stop.ensures

pub returns-then-not-wants_more-clause-damaged : goal.returns-then-not-wants_more-clause-damaged
returns-then-not-wants_more-clause-damaged g c =
    let d = g.D.Disk in
    let before = c.pieces.so_far in
    let now = c.redo-stop.new.so_far in
    let r = advanced c.args.tables c.in_ok-len.len c.pieces.bytes.items c.deref-in-pieces.result.now c.deref-in-pieces.ensures.value
    (d.held c.pieces.disk) before.tables.items now.tables.items before.last now.last before.gate now.gate c.pieces.invariant.0
    c.redo-stop.ensures.redone c.redo-stop.ensures.inside in
    comes_to_damage c.args.tables c.in_ok-len.len c.pieces.bytes.items c.deref-in-pieces.result.now c.deref-in-pieces.ensures.value
    (d.held c.args.disk.now) (d.held c.pieces.disk) c.pieces.invariant.1 now.tables.items now.last now.gate r c.redo-stop.result c.redo-stop.ensures.stop
    c.result_of_stop.result c.result_of_stop.ensures
    (λ short. omega (arith, c.wants_more.ensures.ended c.if-not-wants_more.true short, c.pieces.bytes.ok.0))

pub pieces-preserved : goal.pieces-preserved
pieces-preserved g c =
    let d = g.D.Disk in
    let before = c.pieces.so_far in
    let now = c.redo-stop.new.so_far in
    let held = d.held c.pieces.disk in
    let bytes = c.pieces.bytes.items in
    let longer = c.read_on-in-pieces.new.bytes.items in
    let r = advanced c.args.tables c.in_ok-len.len bytes c.deref-in-pieces.result.now c.deref-in-pieces.ensures.value
    held before.tables.items now.tables.items before.last now.last before.gate now.gate c.pieces.invariant.0
    c.redo-stop.ensures.redone c.redo-stop.ensures.inside in (
      read_further c.args.tables c.in_ok-len.len bytes longer held (d.held c.read_on-in-pieces.new.disk) now.tables.items now.last now.gate r
          c.read_on-in-pieces.ensures.held c.in_ok-read_on-2.ensures.front c.in_ok-read_on-2.ensures.more c.in_ok-read_on-2.ensures.within,
      c.read_on-in-pieces.ensures.held ∙ c.pieces.invariant.1,
      stays_on d.held d.clock d.image d.image_since c.args.disk.now c.pieces.disk c.read_on-in-pieces.new.disk c.pieces.invariant.2
          c.read_on-in-pieces.ensures.stays,
      search rules,
    )
