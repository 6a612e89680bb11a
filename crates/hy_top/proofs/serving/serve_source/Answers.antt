use Rattle.std.proofs.Common.{◌≡◌, ℕ, Err, true, ap, arith, inl, inr, refl, rules, subst}
use Rattle.hy_outside.specs.Faults.{Rose}
use Rattle.hy_top.proofs.Logging.{found_some, writes_so}
use Rattle.hy_top.proofs.ServingCalls.{gives_at_most, gives_none, making_failed, nothing_left, nothing_served, served_logged}
use Rattle.hy_top.proofs.serving.serve_source.Goals as goal

-- ---- without a log

pub returns-then-not-keeps-clause-served : goal.returns-then-not-keeps-clause-served
returns-then-not-keeps-clause-served g c = inl c.serve_unlogged.ensures.serves

pub returns-then-not-keeps-clause-given : goal.returns-then-not-keeps-clause-given
returns-then-not-keeps-clause-given g c = gives_at_most _ _ _ _ _ _ _ c.serve_unlogged.ensures.serves

pub returns-then-not-keeps-clause-read_fault : goal.returns-then-not-keeps-clause-read_fault
returns-then-not-keeps-clause-read_fault g c =
    λ three. (c.serve_unlogged.ensures.read_fault three, c.serve_unlogged.ensures.serves.no_outcome (inl three))

pub returns-then-not-keeps-clause-no_memory : goal.returns-then-not-keeps-clause-no_memory
returns-then-not-keeps-clause-no_memory g c = λ five. c.serve_unlogged.ensures.serves.no_outcome (inr (inl five))

-- ---- with a log that was made

pub returns-in-Ok-clause-served : goal.returns-in-Ok-clause-served
returns-in-Ok-clause-served g c = inl c.serve_on_log.ensures.serves

pub returns-in-Ok-clause-leaves : goal.returns-in-Ok-clause-leaves
returns-in-Ok-clause-leaves g c = λ on.
    let d = g.D.Disk in
    served_logged d.held d.clock d.image d.image_since c.args.options _ _ c.serve_on_log.result.status c.serve_on_log.result.outcome c.args.disk.now
    c.create.new.disk c.serve_on_log.new.disk _ (λ seven. omega (arith, seven, c.serve_on_log.ensures.statuses.1)) c.in-Ok.ensures.begun
    c.in-Ok.ensures.logs c.serve_on_log.ensures.logged

pub returns-in-Ok-clause-given : goal.returns-in-Ok-clause-given
returns-in-Ok-clause-given g c = gives_at_most _ _ _ _ _ _ _ c.serve_on_log.ensures.serves

pub returns-in-Ok-clause-read_fault : goal.returns-in-Ok-clause-read_fault
returns-in-Ok-clause-read_fault g c =
    λ three. (c.serve_on_log.ensures.read_fault three, c.serve_on_log.ensures.serves.no_outcome (inl three))

pub returns-in-Ok-clause-no_memory : goal.returns-in-Ok-clause-no_memory
returns-in-Ok-clause-no_memory g c = λ five. c.serve_on_log.ensures.serves.no_outcome (inr (inl five))

pub returns-in-Ok-clause-disk_fault : goal.returns-in-Ok-clause-disk_fault
returns-in-Ok-clause-disk_fault g c = λ six.
    let d = g.D.Disk in
    let was : d.faults c.create.new.disk ≡ d.faults c.args.disk.now = c.in-Ok.ensures.steady (λ is. cc is) in (
      subst (λ (n : ℕ). Rose n (d.faults c.serve_on_log.new.disk)) was (c.serve_on_log.ensures.disk_fault six),
      c.serve_on_log.ensures.serves.no_outcome (inr (inr six)),
    )

-- ---- the disk has bytes

pub returns-in-Err-NotEmpty-clause-served : goal.returns-in-Err-NotEmpty-clause-served
returns-in-Err-NotEmpty-clause-served g c =
    let on : c.args.keeps ≡ true = first_of (cc, search (rules)) in
    let found = found_some (g.D.Disk.held c.args.disk.now) (c.in-Err-NotEmpty.ensures.not_empty (ap Err c.in-Err-NotEmpty.field-0-is)) in
    inr (
      on,
      refl,
      record {
        found = found.0;
        own = found.1;
        some = found.2;
        nothing_is_run = c.without_outcome.ensures.nothing;
        writes = writes_so 7 c.write.result _ _ _ _ _ c.without_outcome.ensures.status refl c.write.ensures.writes;
      },
    )

pub returns-in-Err-NotEmpty-clause-leaves : goal.returns-in-Err-NotEmpty-clause-leaves
returns-in-Err-NotEmpty-clause-leaves g c = λ on.
    let d = g.D.Disk in
    nothing_left d.held d.clock d.image d.image_since c.args.options _ _ c.without_outcome.result.status c.without_outcome.result.outcome c.args.disk.now
    c.create.new.disk c.without_outcome.ensures.nothing (record {
      reads = c.in-Err-NotEmpty.ensures.as_it_was (ap Err c.in-Err-NotEmpty.field-0-is);
      stays = c.in-Err-NotEmpty.ensures.untouched (ap Err c.in-Err-NotEmpty.field-0-is);
    })

pub returns-in-Err-NotEmpty-clause-given : goal.returns-in-Err-NotEmpty-clause-given
returns-in-Err-NotEmpty-clause-given g c = gives_none (g.R.Source.rest c.args.source.now)

-- ---- the disk failed

pub returns-in-Err-DiskFault-clause-served : goal.returns-in-Err-DiskFault-clause-served
returns-in-Err-DiskFault-clause-served g c =
    inl (nothing_served c.args.options (g.R.Source.rest c.args.source.now) (g.W.Sink.written c.args.sink.now) c.without_outcome-in-Err-DiskFault.result.status
    c.without_outcome-in-Err-DiskFault.result.outcome (inr c.without_outcome-in-Err-DiskFault.ensures.status) c.without_outcome-in-Err-DiskFault.ensures.nothing)

pub returns-in-Err-DiskFault-clause-leaves : goal.returns-in-Err-DiskFault-clause-leaves
returns-in-Err-DiskFault-clause-leaves g c = λ on.
    let d = g.D.Disk in
    let six = c.without_outcome-in-Err-DiskFault.ensures.status in
    making_failed d.held d.clock d.image d.image_since c.args.options _ _ c.without_outcome-in-Err-DiskFault.result.status
    c.without_outcome-in-Err-DiskFault.result.outcome c.args.disk.now c.create.new.disk (λ seven. omega (arith, seven, six))
    c.without_outcome-in-Err-DiskFault.ensures.nothing (c.in-Err-DiskFault.ensures.cut (ap Err c.in-Err-DiskFault.field-0-is))

pub returns-in-Err-DiskFault-clause-given : goal.returns-in-Err-DiskFault-clause-given
returns-in-Err-DiskFault-clause-given g c = gives_none (g.R.Source.rest c.args.source.now)

-- ---- memory ran out

pub returns-in-Err-OutOfMemory-clause-served : goal.returns-in-Err-OutOfMemory-clause-served
returns-in-Err-OutOfMemory-clause-served g c =
    inl (nothing_served c.args.options (g.R.Source.rest c.args.source.now) (g.W.Sink.written c.args.sink.now)
    c.without_outcome-in-Err-OutOfMemory.result.status c.without_outcome-in-Err-OutOfMemory.result.outcome
    (inl c.without_outcome-in-Err-OutOfMemory.ensures.status) c.without_outcome-in-Err-OutOfMemory.ensures.nothing)

pub returns-in-Err-OutOfMemory-clause-leaves : goal.returns-in-Err-OutOfMemory-clause-leaves
returns-in-Err-OutOfMemory-clause-leaves g c = λ on.
    let d = g.D.Disk in
    nothing_left d.held d.clock d.image d.image_since c.args.options _ _ c.without_outcome-in-Err-OutOfMemory.result.status
    c.without_outcome-in-Err-OutOfMemory.result.outcome c.args.disk.now c.create.new.disk c.without_outcome-in-Err-OutOfMemory.ensures.nothing (record {
      reads = c.in-Err-OutOfMemory.ensures.kept (ap Err c.in-Err-OutOfMemory.field-0-is);
      stays = c.in-Err-OutOfMemory.ensures.unchanged (ap Err c.in-Err-OutOfMemory.field-0-is);
    })

pub returns-in-Err-OutOfMemory-clause-given : goal.returns-in-Err-OutOfMemory-clause-given
returns-in-Err-OutOfMemory-clause-given g c = gives_none (g.R.Source.rest c.args.source.now)
