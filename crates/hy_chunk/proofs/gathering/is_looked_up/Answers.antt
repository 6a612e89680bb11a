use Rattle.std.proofs.Common.{sym, ◌∙◌}
use Rattle.hy_chunk.proofs.Gathers.{not_looked_up, few_looked_up}
use Rattle.hy_chunk.proofs.gathering.is_looked_up.Goals as goal

pub returns-then-not-truth : goal.returns-then-not-truth
returns-then-not-truth c =
    not_looked_up c.args.pred.now c.args.keys.column c.args.row.now c.args.keys.values.now (sym c.truth.ensures ∙ c.if-not-truth.true)

pub returns-else-keys-gt-MOST_KEYS : goal.returns-else-keys-gt-MOST_KEYS
returns-else-keys-gt-MOST_KEYS c =
    c.has_one.ensures
    ∙ few_looked_up c.args.pred.now c.args.keys.column c.args.row.now c.args.keys.values.now (sym c.truth.ensures ∙ c.if-not-truth.false)
    c.if-keys-gt-MOST_KEYS.false
