use Rattle.std.proofs.Common.{refl, arith}
use Rattle.std.proofs.lemmas.Bool.{false≢true}
use Rattle.hy_script.specs.Reading.{too_long, not_utf8}
use Rattle.hy_script.proofs.Runs.{as_bytes}
use Rattle.hy_script.proofs.read.Goals as goal

pub returns-then-bytes-gt-MOST_BYTES : goal.returns-then-bytes-gt-MOST_BYTES
returns-then-bytes-gt-MOST_BYTES c = too_long c.if-bytes-gt-MOST_BYTES.true

pub returns-then-not-is_utf8 : goal.returns-then-not-is_utf8
returns-then-not-is_utf8 c = not_utf8 (omega (arith, c.if-bytes-gt-MOST_BYTES.false)) (λ text. false≢true (c.if-not-is_utf8.ensures.1 text))

pub returns : goal.returns
returns c = as_bytes c.args.bytes.now c.args.options.now c.statements.result (omega (arith, c.if-bytes-gt-MOST_BYTES.false)) (c.if-not-is_utf8.ensures.0 refl) c.statements.ensures
