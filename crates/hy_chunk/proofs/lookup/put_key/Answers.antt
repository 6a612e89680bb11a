use Rattle.std.proofs.Common.{ℕ, Option, sym, ap, ◌∙◌, subst, arith, true}
use Rattle.std.proofs.Math.ListN.{set}
use Rattle.hy_value.specs.declared.Kind.{Kind}
use Rattle.hy_value.specs.declared.Value.{Value}
use Rattle.hy_index.specs.Entries.{entry, with_entry}
use Rattle.hy_index.specs.Kinds.{IsOfKind}
use Rattle.hy_bound.specs.Predicate.{column_of}
use Rattle.hy_chunk.specs.Keyed.{IsIndexed, key_kind}
use Rattle.hy_chunk.proofs.Indexing.{has_room, entered, key_fits}
use Rattle.hy_chunk.proofs.lookup.put_key.Goals as goal

pub add-requires-clause-kind : goal.add-requires-clause-kind
add-requires-clause-kind c =
    subst (λ (v : Value). IsOfKind c.take_key.new.index.kind v) (sym c.value_in.ensures)
    (subst (λ (k : Kind). IsOfKind k (column_of c.args.row.now c.in-Some.key))
    (sym (c.take_key.ensures.kind ∙ (c.requires.kind ∙ ap (key_kind c.args.columns.now.kinds) c.in-Some.is)))
    (key_fits c.args.columns.now.kinds c.args.row.now c.in-Some.key c.requires.row))

pub add-requires-clause-room : goal.add-requires-clause-room
add-requires-clause-room c =
    has_room c.in-Some.key c.args.columns.now.rows c.args.used.now c.args.place c.take_key.new.index
    (omega (arith, c.requires.within, c.requires.as_many)) c.take_key.ensures.keys

pub returns-in-Some-clause-indexed : goal.returns-in-Some-clause-indexed
returns-in-Some-clause-indexed c =
    subst (λ (key : Option ℕ). IsIndexed key (set c.args.columns.now.rows c.args.place c.args.row.now) (set c.args.used.now c.args.place true)
    c.add.new.self) (sym c.in-Some.is)
    (entered c.in-Some.key c.args.columns.now.rows c.args.used.now c.args.place c.take_key.new.index
    (omega (arith, c.requires.within, c.requires.as_many)) c.take_key.ensures.keys
    c.entries_are_a_set.ensures.adds c.add.new.self c.requires.within c.args.row.now
    (c.add.ensures.entries ∙ ap (λ (v : Value). with_entry (entry v c.args.place) c.take_key.new.index.entries) c.value_in.ensures) c.add.ensures.room)
