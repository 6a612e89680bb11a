use Rattle.std.proofs.Common.{sym, ap, ◌∙◌, arith}
use Rattle.hy_value.specs.Refs.{referred}
use Rattle.hy_value.specs.declared.Value.{Value}
use Rattle.hy_index.specs.Entries.{entry, without_entry}
use Rattle.hy_chunk.proofs.Indexing.{taken}
use Rattle.hy_chunk.proofs.lookup.take_key.Goals as goal

pub remove-requires : goal.remove-requires
remove-requires c =
    (c.requires.keys.exact (entry (referred c.value_at.result) c.args.place)).1 (sym c.flag_at.ensures ∙ c.if-flag_at.true, c.value_at.ensures)

pub returns-then-flag_at-clause-keys : goal.returns-then-flag_at-clause-keys
returns-then-flag_at-clause-keys c =
    taken c.args.key c.args.columns.now.rows c.args.used.now c.args.place c.entries_are_a_set.ensures.takes c.args.index.now c.remove.new.self
    (omega (arith, c.requires.within, c.requires.as_many)) c.requires.keys (sym c.flag_at.ensures ∙ c.if-flag_at.true)
    (c.remove.ensures.entries ∙ ap (λ (v : Value). without_entry (entry v c.args.place) c.args.index.now.entries) c.value_at.ensures) c.remove.ensures.room
