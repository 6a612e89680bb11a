use Rattle.std.proofs.Common.{rules, ◌≡◌, ◌++◌, [], ◌∷◌, List, true, sym, subst}
use Rattle.std.specs.Prelude.{All}
use Rattle.hy_value.specs.declared.ColMask.{ColMask}
use Rattle.hy_value.specs.Columns.{has_column, with}
use Rattle.hy_validate.specs.declared.keys.Keyed.{Keyed}
use Rattle.hy_validate.specs.Keys.{keyed}
use Rattle.hy_validate.proofs.Masked.{masked_more}
use Rattle.hy_validate.proofs.keys.KeyedRecords.add.Goals as goal

pub returns-clause-masked : goal.returns-clause-masked
returns-clause-masked c =
    let places = c.args.self.now.places.items in
    let columns : c.with-self.result ≡ with c.args.self.now.columns c.args.key.column = search rules in
    let pushed : c.push.new.self.items ≡ places ++ keyed c.args.key c.args.number ∷ [] = search rules in
    subst (λ (ps : List Keyed). All (λ (place : Keyed). has_column c.with-self.result place.key.column ≡ true) ps) (sym pushed)
    (subst (λ (mask : ColMask). All (λ (place : Keyed). has_column mask place.key.column ≡ true) (places ++ keyed c.args.key c.args.number ∷ [])) (sym columns)
    (masked_more c.args.self.now.columns places c.args.key c.args.number c.requires.masked c.requires.column))
