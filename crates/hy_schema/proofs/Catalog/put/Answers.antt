use Rattle.std.proofs.Common.{[], ◌∷◌, ◌++◌, length, ap, ◌∙◌, arith}
use Rattle.std.proofs.lemmas.List.{length-map}
use Rattle.hy_schema.specs.Names.{table_number}
use Rattle.hy_schema.proofs.Entries.{Ends, ends}
use Rattle.hy_schema.proofs.Catalog.put.Goals as goal

after_put : (c : goal.Joined-branch-3) → Ends c.self.inside.tables.entries c.insert.new.self.entries c.args.def
after_put c =
    ends c.self.inside.tables.entries c.insert.new.self.entries c.in_ok-name.name c.args.def c.self.invariant.0
    (c.in_ok-name.ensures.items ∙ c.as_bytes.ensures.bytes)
    (ap (λ tables. table_number tables c.args.def.name) c.self.view_is ∙ c.requires.0)
    c.in_ok-insert.ensures.entries

pub invariant_of-self-2 : goal.invariant_of-self-2
invariant_of-self-2 c =
    let before = length-map c.self.inside.tables.entries (λ entry. entry.1) in
    let view = ap (λ tables. length tables) c.self.view_is in
    ((after_put c).named, omega (arith, before, view, c.requires.1, (after_put c).longer))

pub returns-clause-added : goal.returns-clause-added
returns-clause-added c = (after_put c).tables ∙ ap (λ tables. tables ++ c.args.def ∷ []) c.self.view_is
