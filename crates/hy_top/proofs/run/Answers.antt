use Rattle.std.proofs.Common.{◌∙◌, Some, refl, ap, arith, subst}
use Rattle.std.proofs.Math.Logic.{⊎_elim}
use Rattle.hy_words.specs.Words.{IsWithin}
use Rattle.hy_words.specs.declared.Command.TheVariants.{Serve, Gen}
use Rattle.hy_top.proofs.Answering.{nothing_read, nothing_answered, nothing_made}
use Rattle.hy_top.proofs.Logging.{asked_syncs, still_syncs}
use Rattle.hy_top.proofs.ServingCalls.{keeps_so, makes_none, nothing_asked_left, nothing_asked_served, reads_none, reads_so, served_otherwise, served_so, serves_so, uses_so}
use Rattle.hy_top.proofs.run.Goals as goal

-- ---- memory runs out before the words are read

pub returns-in-Err-OutOfMemory-clause-bytes : goal.returns-in-Err-OutOfMemory-clause-bytes
returns-in-Err-OutOfMemory-clause-bytes g c = nothing_read _ _ _

pub returns-in-Err-OutOfMemory-clause-answers : goal.returns-in-Err-OutOfMemory-clause-answers
returns-in-Err-OutOfMemory-clause-answers g c =
    let d = g.D.Disk in
    nothing_answered d.held d.clock d.image d.image_since _ _ _ _

pub returns-in-Err-OutOfMemory-clause-made : goal.returns-in-Err-OutOfMemory-clause-made
returns-in-Err-OutOfMemory-clause-made g c = nothing_made _ _ _

pub returns-in-Err-OutOfMemory-clause-serves : goal.returns-in-Err-OutOfMemory-clause-serves
returns-in-Err-OutOfMemory-clause-serves g c = nothing_asked_served _ _ _ _

pub returns-in-Err-OutOfMemory-clause-leaves : goal.returns-in-Err-OutOfMemory-clause-leaves
returns-in-Err-OutOfMemory-clause-leaves g c =
    let d = g.D.Disk in
    nothing_asked_left d.held d.clock d.image d.image_since _ _ _ _

pub returns-in-Err-OutOfMemory-clause-syncs : goal.returns-in-Err-OutOfMemory-clause-syncs
returns-in-Err-OutOfMemory-clause-syncs g c =
    let d = g.D.Disk in
    asked_syncs d.held d.clock d.image d.image_since _ _

-- ---- a command that makes its script

pub returns-in-Ok-Gen-clause-bytes : goal.returns-in-Ok-Gen-clause-bytes
returns-in-Ok-Gen-clause-bytes g c =
    let arm = c.in-Ok-Gen in
    reads_none _ (Gen arm.seed arm.sessions arm.txns arm.threads) _ (arm.ensures.accepted ∙ ap Some arm.field-0-is) refl

pub returns-in-Ok-Gen-clause-answers : goal.returns-in-Ok-Gen-clause-answers
returns-in-Ok-Gen-clause-answers g c =
    let arm = c.in-Ok-Gen in
    reads_none _ (Gen arm.seed arm.sessions arm.txns arm.threads) _ (arm.ensures.accepted ∙ ap Some arm.field-0-is) refl

pub returns-in-Ok-Gen-clause-serves : goal.returns-in-Ok-Gen-clause-serves
returns-in-Ok-Gen-clause-serves g c =
    let arm = c.in-Ok-Gen in
    served_otherwise _ (Gen arm.seed arm.sessions arm.txns arm.threads) _ (arm.ensures.accepted ∙ ap Some arm.field-0-is) refl

pub returns-in-Ok-Gen-clause-leaves : goal.returns-in-Ok-Gen-clause-leaves
returns-in-Ok-Gen-clause-leaves g c =
    let arm = c.in-Ok-Gen in
    served_otherwise _ (Gen arm.seed arm.sessions arm.txns arm.threads) _ (arm.ensures.accepted ∙ ap Some arm.field-0-is) refl

pub returns-in-Ok-Gen-clause-unwritten : goal.returns-in-Ok-Gen-clause-unwritten
returns-in-Ok-Gen-clause-unwritten g c =
    λ short other. ⊎_elim (λ three. absurd (c.run_made.ensures.statuses.2 three))
    (λ more. ⊎_elim (λ five. (c.run_made.ensures.no_memory five).0) (λ six. absurd (omega (arith, six, c.run_made.ensures.statuses.3))) more) short

-- ---- a command that serves

pub serve_source-requires : goal.serve_source-requires
serve_source-requires g c =
    let arm = c.in-Ok-Serve in
    subst IsWithin arm.field-0-is arm.ensures.within

pub returns-in-Ok-Serve-clause-bytes : goal.returns-in-Ok-Serve-clause-bytes
returns-in-Ok-Serve-clause-bytes g c =
    let arm = c.in-Ok-Serve in
    reads_none _ (Serve arm.log arm.chunks arm.rows) _ (arm.ensures.accepted ∙ ap Some arm.field-0-is) refl

pub returns-in-Ok-Serve-clause-answers : goal.returns-in-Ok-Serve-clause-answers
returns-in-Ok-Serve-clause-answers g c =
    let arm = c.in-Ok-Serve in
    reads_none _ (Serve arm.log arm.chunks arm.rows) _ (arm.ensures.accepted ∙ ap Some arm.field-0-is) refl

pub returns-in-Ok-Serve-clause-made : goal.returns-in-Ok-Serve-clause-made
returns-in-Ok-Serve-clause-made g c =
    let arm = c.in-Ok-Serve in
    makes_none _ arm.log arm.chunks arm.rows _ (arm.ensures.accepted ∙ ap Some arm.field-0-is)

pub returns-in-Ok-Serve-clause-serves : goal.returns-in-Ok-Serve-clause-serves
returns-in-Ok-Serve-clause-serves g c =
    let arm = c.in-Ok-Serve in
    served_so _ arm.log arm.chunks arm.rows _ (arm.ensures.accepted ∙ ap Some arm.field-0-is) c.serve_source.ensures.served

pub returns-in-Ok-Serve-clause-leaves : goal.returns-in-Ok-Serve-clause-leaves
returns-in-Ok-Serve-clause-leaves g c =
    let arm = c.in-Ok-Serve in
    served_so _ arm.log arm.chunks arm.rows _ (arm.ensures.accepted ∙ ap Some arm.field-0-is) c.serve_source.ensures.leaves

pub returns-in-Ok-Serve-clause-unwritten : goal.returns-in-Ok-Serve-clause-unwritten
returns-in-Ok-Serve-clause-unwritten g c =
    let arm = c.in-Ok-Serve in
    λ short none. absurd (serves_so _ arm.log arm.chunks arm.rows (arm.ensures.accepted ∙ ap Some arm.field-0-is) none)

pub returns-in-Ok-Serve-clause-refused_disk : goal.returns-in-Ok-Serve-clause-refused_disk
returns-in-Ok-Serve-clause-refused_disk g c =
    let arm = c.in-Ok-Serve in
    λ refused none. absurd (serves_so _ arm.log arm.chunks arm.rows (arm.ensures.accepted ∙ ap Some arm.field-0-is) none)

pub returns-in-Ok-Serve-clause-untouched : goal.returns-in-Ok-Serve-clause-untouched
returns-in-Ok-Serve-clause-untouched g c =
    let arm = c.in-Ok-Serve in
    λ none. c.serve_source.ensures.untouched (uses_so _ arm.log arm.chunks arm.rows (arm.ensures.accepted ∙ ap Some arm.field-0-is) none)

pub returns-in-Ok-Serve-clause-held : goal.returns-in-Ok-Serve-clause-held
returns-in-Ok-Serve-clause-held g c =
    let arm = c.in-Ok-Serve in
    keeps_so _ arm.log arm.chunks arm.rows _ (arm.ensures.accepted ∙ ap Some arm.field-0-is) (λ none. ap g.D.Disk.held (c.serve_source.ensures.untouched none))

pub returns-in-Ok-Serve-clause-syncs : goal.returns-in-Ok-Serve-clause-syncs
returns-in-Ok-Serve-clause-syncs g c =
    let arm = c.in-Ok-Serve in
    let d = g.D.Disk in
    keeps_so _ arm.log arm.chunks arm.rows _ (arm.ensures.accepted ∙ ap Some arm.field-0-is)
    (λ none. still_syncs d.held d.clock d.image d.image_since c.args.disk.now c.serve_source.new.disk (c.serve_source.ensures.untouched none))

-- ---- a command that reads a script

pub returns-in-Ok-clause-answers : goal.returns-in-Ok-clause-answers
returns-in-Ok-clause-answers g c = reads_so _ c.in-Ok.command _ c.in-Ok.ensures.accepted c.run_command.ensures.answers

pub returns-in-Ok-clause-unwritten : goal.returns-in-Ok-clause-unwritten
returns-in-Ok-clause-unwritten g c =
    λ short other. ⊎_elim (λ three. (c.run_command.ensures.read_fault three).1)
    (λ more. ⊎_elim (λ five. (c.run_command.ensures.no_memory five).0) (λ six. (c.run_command.ensures.disk_fault six).1) more) short
