use Rattle.std.proofs.Common.{◌≡◌, ℕ, ◌++◌, [], ◌∷◌, sym, ap, ◌∙◌}
use Rattle.hy_validate.specs.Keys.{keyed}
use Rattle.hy_validate.proofs.Filing.{filed_by_key, filed_in_group}
use Rattle.hy_validate.proofs.tree.file.Goals as goal

pub returns-in_ok-add-in-Some : goal.returns-in_ok-add-in-Some
returns-in_ok-add-in-Some c =
    let old = c.args.keyed.now in
    let key = c.in-Some.key in
    let is : c.in_ok-as_number-in-Some.field-0 ≡ c.args.number = c.in_ok-as_number-in-Some.ensures in
    filed_by_key c.args.records.now c.args.number c.index-records-number.result old c.add.new.self c.args.groups.now.items key
    c.requires.within (sym c.index-records-number.is) c.in-Some.ensures c.in_ok-add-in-Some.ensures.masked
    (c.in_ok-add-in-Some.ensures.added ∙ ap (λ (n : ℕ). old.places.items ++ keyed key n ∷ []) is) c.requires.filed

pub returns-in_ok-file-in-None : goal.returns-in_ok-file-in-None
returns-in_ok-file-in-None c =
    filed_in_group c.args.records.now c.args.number c.args.keyed.now c.args.groups.now.items c.file.new.groups.items
    c.requires.filed c.in_ok-file-in-None.ensures
