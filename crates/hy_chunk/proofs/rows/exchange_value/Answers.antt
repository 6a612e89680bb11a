use Rattle.std.proofs.Common.{sym, ◌∙◌}
use Rattle.hy_chunk.proofs.Exchanged.{same_rows}
use Rattle.hy_chunk.proofs.rows.exchange_value.Goals as goal

pub returns-else-has_other-clause-rows : goal.returns-else-has_other-clause-rows
returns-else-has_other-clause-rows c =
    same_rows c.args.columns.now.rows c.args.place c.args.column c.args.value.now (sym (c.has_other.ensures c.args.value.now) ∙ c.if-has_other.false)
