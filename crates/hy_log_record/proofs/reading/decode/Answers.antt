use Rattle.std.proofs.Common.{◌<◌, ◌^◌, length, arith}
use Rattle.hy_log_record.proofs.Entries.{is_found, is_net, is_none}
use Rattle.hy_log_record.proofs.reading.decode.Goals as goal

pub returns-clause-found : goal.returns-clause-found
returns-clause-found c =
    let short : length c.args.bytes.now < 2 ^ 64 = omega arith in
    is_found c.args.tables.now c.args.bytes.now c.read_entry.result (λ i. omega (arith, c.type_inv.bytes i)) short c.read_entry.ensures

pub returns-clause-net : goal.returns-clause-net
returns-clause-net c =
    let short : length c.args.bytes.now < 2 ^ 64 = omega arith in
    is_net c.args.tables.now c.args.bytes.now c.read_entry.result (λ i. omega (arith, c.type_inv.bytes i)) short c.read_entry.ensures

pub returns-clause-malformed : goal.returns-clause-malformed
returns-clause-malformed c = is_none c.args.tables.now c.args.bytes.now c.read_entry.result c.read_entry.ensures
