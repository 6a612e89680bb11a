use Rattle.std.proofs.Common.{◌++◌, ℤ, map, sym, ap, ◌∙◌, rules, w64}
use Rattle.std.specs.Prelude.{filter}
use Rattle.std.proofs.lemmas.Int.{to_z-of_z}
use Rattle.hy_value.specs.Refs.{referred}
use Rattle.hy_value.specs.declared.Value.TheVariants.{Int}
use Rattle.hy_value.specs.declared.refs.ValueRef.{ValueRef}
use Rattle.hy_index.specs.Entries.{IndexEntry, has_key}
use Rattle.hy_index.specs.Indexed.{Indexed}
use Rattle.hy_index.specs.Positions.{positions_of}
use Rattle.hy_index.proofs.Mapped.{same_positions}
use Rattle.hy_index.proofs.Parting as parts
use Rattle.hy_index.proofs.KeyIndex.find.Goals as goal
use Rattle.hy_index.proofs.KeyIndex.find.Goals.{in-Null, in-Int, in-Text}

pub returns : goal.returns
returns c =
    let i = c.self.inside in
    let all = i.nulls.entries ++ (i.numbers.entries ++ i.texts.entries) in
    elim c.match-key.branch [
      | in-Null w ↦
          ap positions_of w.part-is
          ∙ (same_positions _ w.find.result.now
          ∙ (ap (map (λ (e : IndexEntry). e.pos)) (w.find.ensures)
          ∙ (sym (ap (map (λ (e : IndexEntry). e.pos)) (parts.find_null i.kind i.nulls i.numbers i.texts c.self.invariant))
          ∙ (ap (λ (key : ValueRef). map (λ (e : IndexEntry). e.pos) (filter (has_key (referred key))
          all)) (sym w.in-Null.is)
          ∙ ap (λ (index : Indexed). map (λ (e : IndexEntry). e.pos) (filter (has_key (referred c.args.key)) index.entries)) c.self.view_is))))
      | in-Int w ↦
          ap positions_of w.part-is
          ∙ (same_positions _ w.find-in-Int.result.now
          ∙ (ap (map (λ (e : IndexEntry). e.pos)) (w.find-in-Int.ensures ∙ ap (λ (n : ℤ). filter (has_key (Int n)) i.numbers.entries)
          (to_z-of_z w64 w.in-Int.number (search rules)))
          ∙ (sym (ap (map (λ (e : IndexEntry). e.pos)) (parts.find_number i.kind i.nulls i.numbers i.texts c.self.invariant w.in-Int.number))
          ∙ (ap (λ (key : ValueRef). map (λ (e : IndexEntry). e.pos) (filter (has_key (referred key))
          all)) (sym w.in-Int.is)
          ∙ ap (λ (index : Indexed). map (λ (e : IndexEntry). e.pos) (filter (has_key (referred c.args.key)) index.entries)) c.self.view_is))))
      | in-Text w ↦
          ap positions_of w.part-is
          ∙ (same_positions _ w.find-in-Text.result.now
          ∙ (ap (map (λ (e : IndexEntry). e.pos)) (w.find-in-Text.ensures)
          ∙ (sym (ap (map (λ (e : IndexEntry). e.pos)) (parts.find_text i.kind i.nulls i.numbers i.texts c.self.invariant w.in-Text.text.now))
          ∙ (ap (λ (key : ValueRef). map (λ (e : IndexEntry). e.pos) (filter (has_key (referred key))
          all)) (sym w.in-Text.is)
          ∙ ap (λ (index : Indexed). map (λ (e : IndexEntry). e.pos) (filter (has_key (referred c.args.key)) index.entries)) c.self.view_is))))
    ]
