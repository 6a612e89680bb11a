use Rattle.hy_log_record.proofs.Fields.{tells_utf8}
use Rattle.hy_log_record.proofs.reading.is_utf8.Goals as goal

pub returns : goal.returns
returns c = tells_utf8 c.args.bytes.now c.from_utf8.result c.is_ok.result _ _ c.from_utf8.ensures.cases c.is_ok.ensures.value
