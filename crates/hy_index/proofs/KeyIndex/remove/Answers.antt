use Rattle.std.proofs.Common.{◌++◌, ℤ, List, sym, ap, ◌∙◌, subst, rules, w64}
use Rattle.std.specs.Prelude.{Contains}
use Rattle.std.proofs.lemmas.Int.{to_z-of_z}
use Rattle.hy_value.specs.Refs.{referred}
use Rattle.hy_value.specs.declared.Value.TheVariants.{Null, Int, Text}
use Rattle.hy_value.specs.declared.refs.ValueRef.{ValueRef}
use Rattle.hy_index.specs.Entries.{IndexEntry, entry, without_entry}
use Rattle.hy_index.specs.Indexed.{Indexed}
use Rattle.hy_index.proofs.Parting as parts
use Rattle.hy_index.proofs.KeyIndex.remove.Goals as goal

pub invariant_of-self : goal.invariant_of-self
invariant_of-self c =
    let i = c.self.inside in
    parts.less_nulls i.kind i.nulls i.numbers i.texts c.self.invariant (entry Null c.args.pos) c.remove.new.self
    (c.remove.ensures.entries) c.remove.ensures.len c.remove.ensures.capacity

pub returns-in-Null-clause-entries : goal.returns-in-Null-clause-entries
returns-in-Null-clause-entries c =
    let i = c.self.inside in
    let all = i.nulls.entries ++ (i.numbers.entries ++ i.texts.entries) in
    ap (λ (es : List IndexEntry). es ++ (i.numbers.entries ++ i.texts.entries))
    (c.remove.ensures.entries)
    ∙ (sym (parts.without_null i.kind i.nulls i.numbers i.texts c.self.invariant c.args.pos)
    ∙ (ap (λ (key : ValueRef). without_entry (entry (referred key) c.args.pos)
    all) (sym c.in-Null.is)
    ∙ ap (λ (index : Indexed). without_entry (entry (referred c.args.key) c.args.pos) index.entries) c.self.view_is))

pub invariant_of-self-in-Int : goal.invariant_of-self-in-Int
invariant_of-self-in-Int c =
    let i = c.self.inside in
    parts.less_numbers i.kind i.nulls i.numbers i.texts c.self.invariant (entry (Int c.in-Int.number) c.args.pos) c.remove-in-Int.new.self
    (c.remove-in-Int.ensures.entries ∙ ap (λ (n : ℤ). without_entry (entry (Int n) c.args.pos) i.numbers.entries)
    (to_z-of_z w64 c.in-Int.number (search rules))) c.remove-in-Int.ensures.len c.remove-in-Int.ensures.capacity

pub remove-requires-in-Int : goal.remove-requires-in-Int
remove-requires-in-Int c =
    let i = c.self.inside in
    let all = i.nulls.entries ++ (i.numbers.entries ++ i.texts.entries) in
    subst (λ (n : ℤ). Contains i.numbers.entries (entry (Int n) c.args.pos)) (sym (to_z-of_z w64 c.in-Int.number (search rules)))
    (parts.in_numbers i.kind i.nulls i.numbers i.texts c.self.invariant c.args.pos c.in-Int.number
    (subst (λ (key : ValueRef). Contains all (entry (referred key) c.args.pos)) c.in-Int.is
    (subst (λ (index : Indexed). Contains index.entries (entry (referred c.args.key) c.args.pos)) (sym c.self.view_is) c.requires)))

pub returns-in-Int-clause-entries : goal.returns-in-Int-clause-entries
returns-in-Int-clause-entries c =
    let i = c.self.inside in
    let all = i.nulls.entries ++ (i.numbers.entries ++ i.texts.entries) in
    ap (λ (es : List IndexEntry). i.nulls.entries ++ (es ++ i.texts.entries))
    (c.remove-in-Int.ensures.entries ∙ ap (λ (n : ℤ). without_entry (entry (Int n) c.args.pos) i.numbers.entries)
    (to_z-of_z w64 c.in-Int.number (search rules)))
    ∙ (sym (parts.without_number i.kind i.nulls i.numbers i.texts c.self.invariant c.args.pos c.in-Int.number)
    ∙ (ap (λ (key : ValueRef). without_entry (entry (referred key) c.args.pos)
    all) (sym c.in-Int.is)
    ∙ ap (λ (index : Indexed). without_entry (entry (referred c.args.key) c.args.pos) index.entries) c.self.view_is))

pub invariant_of-self-in-Text : goal.invariant_of-self-in-Text
invariant_of-self-in-Text c =
    let i = c.self.inside in
    parts.less_texts i.kind i.nulls i.numbers i.texts c.self.invariant (entry (Text c.in-Text.text.now) c.args.pos) c.remove-in-Text.new.self
    (c.remove-in-Text.ensures.entries) c.remove-in-Text.ensures.len c.remove-in-Text.ensures.capacity

pub remove-requires-in-Text : goal.remove-requires-in-Text
remove-requires-in-Text c =
    let i = c.self.inside in
    let all = i.nulls.entries ++ (i.numbers.entries ++ i.texts.entries) in
    parts.in_texts i.kind i.nulls i.numbers i.texts c.self.invariant c.args.pos c.in-Text.text.now
    (subst (λ (key : ValueRef). Contains all (entry (referred key) c.args.pos)) c.in-Text.is
    (subst (λ (index : Indexed). Contains index.entries (entry (referred c.args.key) c.args.pos)) (sym c.self.view_is) c.requires))

pub returns-in-Text-clause-entries : goal.returns-in-Text-clause-entries
returns-in-Text-clause-entries c =
    let i = c.self.inside in
    let all = i.nulls.entries ++ (i.numbers.entries ++ i.texts.entries) in
    ap (λ (es : List IndexEntry). i.nulls.entries ++ (i.numbers.entries ++ es))
    (c.remove-in-Text.ensures.entries)
    ∙ (sym (parts.without_text i.kind i.nulls i.numbers i.texts c.self.invariant c.args.pos c.in-Text.text.now)
    ∙ (ap (λ (key : ValueRef). without_entry (entry (referred key) c.args.pos)
    all) (sym c.in-Text.is)
    ∙ ap (λ (index : Indexed). without_entry (entry (referred c.args.key) c.args.pos) index.entries) c.self.view_is))
