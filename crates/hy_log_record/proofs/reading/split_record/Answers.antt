use Rattle.std.proofs.Common.{ℕ, List, Bor, arith}
use Rattle.hy_log_record.proofs.Records.{parts_of, none_of}
use Rattle.hy_log_record.proofs.reading.split_record.Goals as goal

abbrev Parts : Type 0
Parts = Bor (List ℕ) × Bor (List ℕ)

abbrev body_in : Parts → List ℕ
body_in x = x.0.now

abbrev rest_in : Parts → List ℕ
rest_in x = x.1.now

pub returns-clause-parts : goal.returns-clause-parts
returns-clause-parts c = parts_of body_in rest_in c.args.bytes.now c.record_front.result (λ i. omega (arith, c.type_inv.bytes i)) c.record_front.ensures

pub returns-clause-none : goal.returns-clause-none
returns-clause-none c = none_of body_in rest_in c.args.bytes.now c.record_front.result c.record_front.ensures
