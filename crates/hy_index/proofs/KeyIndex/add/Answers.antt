use Rattle.std.proofs.Common.{◌<◌, ◌++◌, ℤ, ℕ, List, sym, ap, ◌∙◌, subst, arith, rules, w64}
use Rattle.std.specs.Prelude.{Contains}
use Rattle.std.proofs.lemmas.Int.{to_z-of_z}
use Rattle.hy_value.specs.Refs.{referred}
use Rattle.hy_value.specs.declared.Value.TheVariants.{Int, Text}
use Rattle.hy_value.specs.declared.refs.ValueRef.{ValueRef}
use Rattle.hy_index.specs.Entries.{IndexEntry, entry, with_entry}
use Rattle.hy_index.specs.Indexed.{Indexed}
use Rattle.hy_index.specs.Parts.{capacity_of, count_all}
use Rattle.hy_index.proofs.Parting as parts
use Rattle.hy_index.proofs.KeyIndex.add.Goals as goal

pub invariant_of-self : goal.invariant_of-self
invariant_of-self c =
    let i = c.self.inside in
    let room : count_all i.nulls i.numbers i.texts
    < capacity_of i.kind i.nulls i.numbers i.texts =
    omega (arith, c.requires.room, ap (λ (index : Indexed). index.room) c.self.view_is) in
    parts.more_nulls i.kind i.nulls i.numbers i.texts c.self.invariant c.args.pos c.add.new.self room
    (c.add.ensures.entries) c.add.ensures.len c.add.ensures.capacity

pub returns-in-Null-clause-entries : goal.returns-in-Null-clause-entries
returns-in-Null-clause-entries c =
    let i = c.self.inside in
    let all = i.nulls.entries ++ (i.numbers.entries ++ i.texts.entries) in
    ap (λ (es : List IndexEntry). es ++ (i.numbers.entries ++ i.texts.entries))
    (c.add.ensures.entries)
    ∙ (sym (parts.with_null i.kind i.nulls i.numbers i.texts c.self.invariant c.args.pos)
    ∙ (ap (λ (key : ValueRef). with_entry (entry (referred key) c.args.pos)
    all) (sym c.in-Null.is)
    ∙ ap (λ (index : Indexed). with_entry (entry (referred c.args.key) c.args.pos) index.entries) c.self.view_is))

pub invariant_of-self-in-Int : goal.invariant_of-self-in-Int
invariant_of-self-in-Int c =
    let i = c.self.inside in
    let room : count_all i.nulls i.numbers i.texts
    < capacity_of i.kind i.nulls i.numbers i.texts =
    omega (arith, c.requires.room, ap (λ (index : Indexed). index.room) c.self.view_is) in
    parts.more_numbers i.kind i.nulls i.numbers i.texts c.self.invariant c.args.pos c.add-in-Int.new.self room c.in-Int.number
    (c.add-in-Int.ensures.entries ∙ ap (λ (n : ℤ). with_entry (entry (Int n) c.args.pos) i.numbers.entries) (to_z-of_z w64 c.in-Int.number (search rules)))
    c.add-in-Int.ensures.len c.add-in-Int.ensures.capacity

pub add-requires-in-Int-clause-absent : goal.add-requires-in-Int-clause-absent
add-requires-in-Int-clause-absent c there =
    let i = c.self.inside in
    let all = i.nulls.entries ++ (i.numbers.entries ++ i.texts.entries) in
    c.requires.absent (subst (λ (index : Indexed). Contains index.entries (entry (referred c.args.key) c.args.pos)) c.self.view_is
    (subst (λ (key : ValueRef). Contains all (entry (referred key) c.args.pos)) (sym c.in-Int.is)
    (parts.of_numbers i.kind i.nulls i.numbers i.texts c.self.invariant (entry (Int c.in-Int.number) c.args.pos)
    (subst (λ (n : ℤ). Contains i.numbers.entries (entry (Int n) c.args.pos)) (to_z-of_z w64 c.in-Int.number (search rules)) there))))

pub returns-in-Int-clause-entries : goal.returns-in-Int-clause-entries
returns-in-Int-clause-entries c =
    let i = c.self.inside in
    let all = i.nulls.entries ++ (i.numbers.entries ++ i.texts.entries) in
    ap (λ (es : List IndexEntry). i.nulls.entries ++ (es ++ i.texts.entries))
    (c.add-in-Int.ensures.entries ∙ ap (λ (n : ℤ). with_entry (entry (Int n) c.args.pos) i.numbers.entries) (to_z-of_z w64 c.in-Int.number (search rules)))
    ∙ (sym (parts.with_number i.kind i.nulls i.numbers i.texts c.self.invariant c.args.pos c.in-Int.number)
    ∙ (ap (λ (key : ValueRef). with_entry (entry (referred key) c.args.pos)
    all) (sym c.in-Int.is)
    ∙ ap (λ (index : Indexed). with_entry (entry (referred c.args.key) c.args.pos) index.entries) c.self.view_is))

pub invariant_of-self-in-Text : goal.invariant_of-self-in-Text
invariant_of-self-in-Text c =
    let i = c.self.inside in
    let room : count_all i.nulls i.numbers i.texts
    < capacity_of i.kind i.nulls i.numbers i.texts =
    omega (arith, c.requires.room, ap (λ (index : Indexed). index.room) c.self.view_is) in
    parts.more_texts i.kind i.nulls i.numbers i.texts c.self.invariant c.args.pos c.add-in-Text.new.self room c.in-Text.text.now
    (c.add-in-Text.ensures.entries ∙ ap (λ (t : List ℕ). with_entry (entry (Text t) c.args.pos) i.texts.entries) c.copy.ensures)
    c.add-in-Text.ensures.len c.add-in-Text.ensures.capacity

pub add-requires-in-Text-clause-absent : goal.add-requires-in-Text-clause-absent
add-requires-in-Text-clause-absent c there =
    let i = c.self.inside in
    let all = i.nulls.entries ++ (i.numbers.entries ++ i.texts.entries) in
    c.requires.absent (subst (λ (index : Indexed). Contains index.entries (entry (referred c.args.key) c.args.pos)) c.self.view_is
    (subst (λ (key : ValueRef). Contains all (entry (referred key) c.args.pos)) (sym c.in-Text.is)
    (parts.of_texts i.kind i.nulls i.numbers i.texts c.self.invariant (entry (Text c.in-Text.text.now) c.args.pos)
    (subst (λ (n : List ℕ). Contains i.texts.entries (entry (Text n) c.args.pos)) (c.copy.ensures) there))))

pub returns-in-Text-clause-entries : goal.returns-in-Text-clause-entries
returns-in-Text-clause-entries c =
    let i = c.self.inside in
    let all = i.nulls.entries ++ (i.numbers.entries ++ i.texts.entries) in
    ap (λ (es : List IndexEntry). i.nulls.entries ++ (i.numbers.entries ++ es))
    (c.add-in-Text.ensures.entries ∙ ap (λ (t : List ℕ). with_entry (entry (Text t) c.args.pos) i.texts.entries) c.copy.ensures)
    ∙ (sym (parts.with_text i.kind i.nulls i.numbers i.texts c.self.invariant c.args.pos c.in-Text.text.now)
    ∙ (ap (λ (key : ValueRef). with_entry (entry (referred key) c.args.pos)
    all) (sym c.in-Text.is)
    ∙ ap (λ (index : Indexed). with_entry (entry (referred c.args.key) c.args.pos) index.entries) c.self.view_is))
