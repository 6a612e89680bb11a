use Rattle.std.proofs.Common.{map, refl, subst, sym}
use Rattle.hy_redo.specs.declared.errors.AppendError.TheVariants.{DiskFault, OutOfMemory}
use Rattle.hy_world.specs.Grouped.{session_in, shared_in}
use Rattle.hy_world.specs.Shared.{AreShared}
use Rattle.hy_world.proofs.GroupedWorlds.{back_short, back_whole, failed_so, log_last, taken_apart}
use Rattle.hy_world.proofs.logged_threads.come_back.Goals as goal

pub take_log-parts-requires : goal.take_log-parts-requires
take_log-parts-requires g c =
    let all = c.requires.shared in log_last g.K.Case.setting all.core all.durability all.log c.args.parts.items all.has

pub returns-then-is_broken-clause-ran : goal.returns-then-is_broken-clause-ran
returns-then-is_broken-clause-ran g c =
    let d = g.D.Disk in
    let k = g.K.Case in
    let all = c.requires.shared in
    let back = taken_apart k.setting all.core all.durability all.log c.args.parts.items c.take_log-parts.result.0.items c.take_log-parts.result.1 all.has
    c.take_log-parts.ensures in
    λ before is gate first.
    back_short d.clock d.image d.image_since d.faults k.setting k.kinds k.time k.before k.failed before is c.args.parts.items c.args.sessions.items
    c.logs_recover_tables.ensures c.entries_tell_changes.ensures all c.take_log-parts.result.1 back.log_is DiskFault

pub returns-then-is_broken-clause-fault : goal.returns-then-is_broken-clause-fault
returns-then-is_broken-clause-fault g c =
    let d = g.D.Disk in
    let k = g.K.Case in
    let all = c.requires.shared in
    let back = taken_apart k.setting all.core all.durability all.log c.args.parts.items c.take_log-parts.result.0.items c.take_log-parts.result.1 all.has
    c.take_log-parts.ensures in
    let so = failed_so d.faults k.failed c.take_log-parts.result.1 all.log back.log_is all.kept.faulty in
    λ is. so.0 c.if-is_broken.true

pub returns-then-is_broken-clause-steady : goal.returns-then-is_broken-clause-steady
returns-then-is_broken-clause-steady g c = λ other. absurd (other refl)

pub returns-then-is_starved-clause-ran : goal.returns-then-is_starved-clause-ran
returns-then-is_starved-clause-ran g c =
    let d = g.D.Disk in
    let k = g.K.Case in
    let all = c.requires.shared in
    let back = taken_apart k.setting all.core all.durability all.log c.args.parts.items c.take_log-parts.result.0.items c.take_log-parts.result.1 all.has
    c.take_log-parts.ensures in
    λ before is gate first.
    back_short d.clock d.image d.image_since d.faults k.setting k.kinds k.time k.before k.failed before is c.args.parts.items c.args.sessions.items
    c.logs_recover_tables.ensures c.entries_tell_changes.ensures all c.take_log-parts.result.1 back.log_is OutOfMemory

pub returns-then-is_starved-clause-fault : goal.returns-then-is_starved-clause-fault
returns-then-is_starved-clause-fault g c = λ is. absurd (cc is)

pub returns-then-is_starved-clause-steady : goal.returns-then-is_starved-clause-steady
returns-then-is_starved-clause-steady g c =
    let d = g.D.Disk in
    let k = g.K.Case in
    let all = c.requires.shared in
    let back = taken_apart k.setting all.core all.durability all.log c.args.parts.items c.take_log-parts.result.0.items c.take_log-parts.result.1 all.has
    c.take_log-parts.ensures in
    let so = failed_so d.faults k.failed c.take_log-parts.result.1 all.log back.log_is all.kept.faulty in
    λ other. so.1 c.if-is_broken.false

pub same-shapes : goal.same-shapes
same-shapes g c = refl

pub world_back-requires-clause-parts : goal.world_back-requires-clause-parts
world_back-requires-clause-parts g c =
    let d = g.D.Disk in
    let k = g.K.Case in
    let all = c.requires.shared in
    let back = taken_apart k.setting all.core all.durability all.log c.args.parts.items c.take_log-parts.result.0.items c.take_log-parts.result.1 all.has
    c.take_log-parts.ensures in
    back.none_is_log

pub world_back-requires-clause-shared : goal.world_back-requires-clause-shared
world_back-requires-clause-shared g c =
    let d = g.D.Disk in
    let k = g.K.Case in
    let all = c.requires.shared in
    let back = taken_apart k.setting all.core all.durability all.log c.args.parts.items c.take_log-parts.result.0.items c.take_log-parts.result.1 all.has
    c.take_log-parts.ensures in
    subst (λ shared. AreShared k.setting k.kinds shared (map session_in c.args.sessions.items)) (sym back.front_is) all.shared

pub world_back-requires-clause-shapes : goal.world_back-requires-clause-shapes
world_back-requires-clause-shapes g c = c.requires.shapes

pub world_back-requires-clause-per_table : goal.world_back-requires-clause-per_table
world_back-requires-clause-per_table g c = c.requires.per_table

pub returns-in-Ok-clause-ran : goal.returns-in-Ok-clause-ran
returns-in-Ok-clause-ran g c =
    let d = g.D.Disk in
    let k = g.K.Case in
    let all = c.requires.shared in
    let back = taken_apart k.setting all.core all.durability all.log c.args.parts.items c.take_log-parts.result.0.items c.take_log-parts.result.1 all.has
    c.take_log-parts.ensures in
    λ before is gate first.
    back_whole d.clock d.image d.image_since d.faults k.setting k.kinds k.time k.before k.failed before is c.args.parts.items c.args.sessions.items
    c.logs_recover_tables.ensures c.entries_tell_changes.ensures c.ends_are_the_machines.ensures g.met.D.Disk.now_alone gate first all
    c.take_log-parts.result.1 back.log_is c.if-is_broken.false (c.requires.ended c.if-is_starved.false)
    (map shared_in c.take_log-parts.result.0.items) back.front_is c.in-Ok.world c.in-Ok.ensures.shows c.in-Ok.ensures.sessions c.in-Ok.ensures.core

pub returns-in-Ok-clause-fault : goal.returns-in-Ok-clause-fault
returns-in-Ok-clause-fault g c = λ is. absurd (cc is)

pub returns-in-Ok-clause-steady : goal.returns-in-Ok-clause-steady
returns-in-Ok-clause-steady g c =
    let d = g.D.Disk in
    let k = g.K.Case in
    let all = c.requires.shared in
    let back = taken_apart k.setting all.core all.durability all.log c.args.parts.items c.take_log-parts.result.0.items c.take_log-parts.result.1 all.has
    c.take_log-parts.ensures in
    let so = failed_so d.faults k.failed c.take_log-parts.result.1 all.log back.log_is all.kept.faulty in
    λ other. so.1 c.if-is_broken.false

pub returns-in-Err-clause-ran : goal.returns-in-Err-clause-ran
returns-in-Err-clause-ran g c =
    let d = g.D.Disk in
    let k = g.K.Case in
    let all = c.requires.shared in
    let back = taken_apart k.setting all.core all.durability all.log c.args.parts.items c.take_log-parts.result.0.items c.take_log-parts.result.1 all.has
    c.take_log-parts.ensures in
    λ before is gate first.
    back_short d.clock d.image d.image_since d.faults k.setting k.kinds k.time k.before k.failed before is c.args.parts.items c.args.sessions.items
    c.logs_recover_tables.ensures c.entries_tell_changes.ensures all c.take_log-parts.result.1 back.log_is OutOfMemory

pub returns-in-Err-clause-fault : goal.returns-in-Err-clause-fault
returns-in-Err-clause-fault g c = λ is. absurd (cc is)

pub returns-in-Err-clause-steady : goal.returns-in-Err-clause-steady
returns-in-Err-clause-steady g c =
    let d = g.D.Disk in
    let k = g.K.Case in
    let all = c.requires.shared in
    let back = taken_apart k.setting all.core all.durability all.log c.args.parts.items c.take_log-parts.result.0.items c.take_log-parts.result.1 all.has
    c.take_log-parts.ensures in
    let so = failed_so d.faults k.failed c.take_log-parts.result.1 all.log back.log_is all.kept.faulty in
    λ other. so.1 c.if-is_broken.false
