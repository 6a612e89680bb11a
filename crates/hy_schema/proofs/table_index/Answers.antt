use Rattle.std.proofs.Common.{◌≡◌, ℕ, ◌<◌, List, [], Option, Some, None, length, sym, ◌∙◌, rules, tests, arith}
use Rattle.std.specs.Prelude.{IfSome}
use Rattle.std.specs.Str.{bytes_eq}
use Rattle.std.proofs.lemmas.Iterator.{YieldsList-from_slice}
use Rattle.std.proofs.lemmas.Iterator.Search.{position_from_yields_List}
use Rattle.std.proofs.lemmas.List.{length-map}
use Rattle.std.proofs.lemmas.List.Quantifiers.{position-Some}
use Rattle.hy_schema.specs.declared.TableDef.{TableDef}
use Rattle.hy_schema.specs.Indexes.{position_map}
use Rattle.hy_schema.specs.Names.{table_names, table_number}
use Rattle.hy_schema.proofs.table_index.Goals as goal

pub returns-clause-number : goal.returns-clause-number
returns-clause-number c =
    position_from_yields_List (λ table. bytes_eq c.args.name.now table.name) _ _ c.position.result c.position.ensures.ran (YieldsList-from_slice c.args.tables.now cc)
    (λ x b q k. search (rules, tests))
    ∙ sym (position_map (bytes_eq c.args.name.now) (λ (table : TableDef). table.name) c.args.tables.now)

-- what was found is below how many tables there are
found_within : (tables : List TableDef) (name : List ℕ) (found : Option ℕ) → found ≡ table_number tables name → IfSome found (λ number. number < length tables)
found_within tables name None is = tt
found_within tables name (Some number) is =
    let within = (position-Some (bytes_eq name) (table_names tables) number [] (sym is)).0 in
    let names = length-map tables (λ (table : TableDef). table.name) in
    omega (arith, within, names)

pub returns-clause-within : goal.returns-clause-within
returns-clause-within c = found_within c.args.tables.now c.args.name.now c.position.result (returns-clause-number c)
