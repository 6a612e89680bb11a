use Rattle.std.proofs.Common.{◌≡◌, ◌+◌, length, Err, subst, ap, ◌∙◌}
use Rattle.std.specs.Prelude.{option_map}
use Rattle.std.proofs.lemmas.Result.{err_from_is_err_and}
use Rattle.hy_disk.specs.Bytes.{overwritten}
use Rattle.hy_redo.proofs.Appending.{reaches_behind, reaches_gate, nothing_yet, still_logs}
use Rattle.hy_redo.proofs.Appending.{staging, is_staged, opening, with_more, memory_only, whole_next}
use Rattle.hy_redo.proofs.log.append_at.Goals as goal

pub write_surely-requires-clause-within : goal.write_surely-requires-clause-within
write_surely-requires-clause-within g c =
    let d = g.D.Disk in let m = g.met.D.Disk in
    reaches_behind d.held d.clock d.image d.image_since m.held_is_image m.now_alone c.requires.some.0 c.args.gate c.args.disk.now c.requires.closed

pub returns-in_err-next-clause-moments : goal.returns-in_err-next-clause-moments
returns-in_err-next-clause-moments g c =
    let d = g.D.Disk in let m = g.met.D.Disk in
    λ entries more batch logs. nothing_yet d.held d.clock d.image d.image_since m.held_is_image m.now_alone more c.args.gate c.args.disk.now entries logs

pub returns-in_err-write_surely-clause-moments : goal.returns-in_err-write_surely-clause-moments
returns-in_err-write_surely-clause-moments g c =
    let d = g.D.Disk in let m = g.met.D.Disk in
    λ entries more batch logs. staging d.held d.clock d.image d.image_since m.held_is_image m.now_alone more c.args.gate c.args.disk.now entries
    logs (length c.args.bytes.now) c.write_surely.new.disk c.write_surely.ensures.writes

pub returns-in_err-write_surely-clause-still : goal.returns-in_err-write_surely-clause-still
returns-in_err-write_surely-clause-still g c =
    let d = g.D.Disk in let m = g.met.D.Disk in
    λ h entries logs. still_logs d.held d.clock d.image d.image_since m.held_is_image m.now_alone c.requires.some.0 c.args.gate c.args.disk.now
    entries logs (length c.args.bytes.now) c.write_surely.new.disk c.write_surely.ensures.writes

pub write_surely-requires-2-clause-within : goal.write_surely-requires-2-clause-within
write_surely-requires-2-clause-within g c =
    let d = g.D.Disk in let m = g.met.D.Disk in
    let written = subst (λ t. d.held c.write_surely.new.disk ≡ option_map (λ bytes. overwritten bytes (c.args.gate + 1) t) (d.held c.args.disk.now))
    c.requires.some.1.bytes c.in_ok-write_surely.ensures.written in
    reaches_gate d.held d.clock d.image d.image_since m.held_is_image m.now_alone c.requires.some.0 c.args.gate c.args.disk.now
    c.write_surely.new.disk c.requires.closed written

pub returns-in_err-write_surely-2-clause-moments : goal.returns-in_err-write_surely-2-clause-moments
returns-in_err-write_surely-2-clause-moments g c =
    let d = g.D.Disk in let m = g.met.D.Disk in
    λ entries more batch logs.
    let written = subst (λ t. d.held c.write_surely.new.disk ≡ option_map (λ bytes. overwritten bytes (c.args.gate + 1) t) (d.held c.args.disk.now))
    batch.bytes c.in_ok-write_surely.ensures.written in
    let staged = is_staged d.held d.clock d.image d.image_since m.held_is_image m.now_alone more c.args.gate c.args.disk.now entries logs
    c.write_surely.new.disk written c.in_ok-write_surely.ensures.durable in
    opening d.held d.clock d.image d.image_since m.held_is_image m.now_alone more c.args.gate c.args.disk.now entries logs
    (length c.args.bytes.now) c.write_surely.new.disk c.write_surely-2.new.disk
    batch.some batch.has c.write_surely.ensures.writes staged c.write_surely-2.ensures.writes

pub returns-in_err-write_surely-2-clause-still : goal.returns-in_err-write_surely-2-clause-still
returns-in_err-write_surely-2-clause-still g c =
    let d = g.D.Disk in let m = g.met.D.Disk in
    λ h entries logs.
    let p = err_from_is_err_and c.from_residual-in_err-write_surely-2.result c.from_residual-in_err-write_surely-2.ensures.1 in
    let stays = c.write_surely-2.ensures.stays (c.in_err-write_surely-2.was ∙ ap (λ e. Err e) (memory_only _ _ _ p.1 p.2 h)) in
    λ bytes now. still_logs d.held d.clock d.image d.image_since m.held_is_image m.now_alone c.requires.some.0 c.args.gate c.args.disk.now entries
    logs (length c.args.bytes.now) c.write_surely.new.disk c.write_surely.ensures.writes bytes (stays.images bytes now)

pub returns-clause-moments : goal.returns-clause-moments
returns-clause-moments g c =
    let d = g.D.Disk in let m = g.met.D.Disk in
    λ entries more batch logs.
    let written = subst (λ t. d.held c.write_surely.new.disk ≡ option_map (λ bytes. overwritten bytes (c.args.gate + 1) t) (d.held c.args.disk.now))
    batch.bytes c.in_ok-write_surely.ensures.written in
    let staged = is_staged d.held d.clock d.image d.image_since m.held_is_image m.now_alone more c.args.gate c.args.disk.now entries logs
    c.write_surely.new.disk written c.in_ok-write_surely.ensures.durable in
    opening d.held d.clock d.image d.image_since m.held_is_image m.now_alone more c.args.gate c.args.disk.now entries logs
    (length c.args.bytes.now) c.write_surely.new.disk c.write_surely-2.new.disk
    batch.some batch.has c.write_surely.ensures.writes staged c.write_surely-2.ensures.writes

pub returns-clause-done : goal.returns-clause-done
returns-clause-done g c =
    let d = g.D.Disk in let m = g.met.D.Disk in
    λ entries more batch logs.
    let written = subst (λ t. d.held c.write_surely.new.disk ≡ option_map (λ bytes. overwritten bytes (c.args.gate + 1) t) (d.held c.args.disk.now))
    batch.bytes c.in_ok-write_surely.ensures.written in
    let staged = is_staged d.held d.clock d.image d.image_since m.held_is_image m.now_alone more c.args.gate c.args.disk.now entries logs
    c.write_surely.new.disk written c.in_ok-write_surely.ensures.durable in
    with_more d.held d.clock d.image d.image_since m.held_is_image m.now_alone more c.args.gate c.args.disk.now entries logs
    c.write_surely.new.disk c.write_surely-2.new.disk
    batch.some batch.has staged c.in_ok-write_surely-2.ensures.written c.in_ok-write_surely-2.ensures.durable

pub returns-clause-bytes : goal.returns-clause-bytes
returns-clause-bytes g c =
    let d = g.D.Disk in
    λ entries more batch whole.
    let written = subst (λ t. d.held c.write_surely.new.disk ≡ option_map (λ bytes. overwritten bytes (c.args.gate + 1) t) (d.held c.args.disk.now))
    batch.bytes c.in_ok-write_surely.ensures.written in
    whole_next entries more c.args.gate batch.some (d.held c.args.disk.now) (d.held c.write_surely.new.disk)
    (d.held c.write_surely-2.new.disk) whole written c.in_ok-write_surely-2.ensures.written
