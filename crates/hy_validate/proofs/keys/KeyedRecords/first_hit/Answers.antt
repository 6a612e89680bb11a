use Rattle.std.proofs.Common.{rules, ◌≡◌, List, Option, length, sym, arith, subst}
use Rattle.std.specs.Option.{option_copied}
use Rattle.hy_value.specs.declared.Value.{Value}
use Rattle.hy_validate.specs.Keys.{HasNumber, HasTrue}
use Rattle.hy_validate.specs.TreeHits.{is_hit_number, Finds, earlier_of}
use Rattle.hy_validate.proofs.Least.{finds_none}
use Rattle.hy_validate.proofs.Sought.{in_either_row}
use Rattle.hy_validate.proofs.keys.KeyedRecords.first_hit.Goals as goal

pub returns-then-is_empty : goal.returns-then-is_empty
returns-then-is_empty c =
    let places = c.args.self.now.places.items in
    let none : length places ≡ 0 = search rules in
    finds_none (is_hit_number c.args.records.now c.args.change.now) (HasNumber places) (λ n a t. let l = a.2 in absurd (omega arith))

pub returns : goal.returns
returns c =
    let change = c.args.change.now in
    let is_hit = is_hit_number c.args.records.now change in
    let places = c.args.self.now.places.items in
    let less : c.earlier.result ≡ earlier_of c.first_in_row-before.result c.first_in_row-after.result = search rules in
    let before : option_copied c.as_ref.result ≡ change.before = search rules in
    let after : option_copied c.as_ref-2.result ≡ change.after = search rules in
    subst (Finds is_hit (HasNumber places)) (sym less)
    (in_either_row c.args.records.now change places c.first_in_row-before.result c.first_in_row-after.result c.requires.keyed.of_keys
    (subst (λ (o : Option (List Value)). Finds is_hit (HasTrue change.table o places) c.first_in_row-before.result) before c.first_in_row-before.ensures)
    (subst (λ (o : Option (List Value)). Finds is_hit (HasTrue change.table o places) c.first_in_row-after.result) after c.first_in_row-after.ensures))
