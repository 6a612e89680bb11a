use Rattle.std.specs.Prelude.{slice_set}
use Rattle.std.proofs.Common.{List, ap, subst, sym, ◌∙◌, arith}
use Rattle.std.proofs.lemmas.List.{get_or_default}
use Rattle.hy_serving.specs.declared.Place.{Place}
use Rattle.hy_serving.specs.Saying.{HasRoom, no_txns, with_statement}
use Rattle.hy_serving.proofs.Sets.{set_again}
use Rattle.hy_serving.proofs.Desk.add.Goals as goal

pub add-requires : goal.add-requires
add-requires c =
    let before = c.replace-place.ensures.before ∙ get_or_default c.args.self.now.places c.args.number c.replace-place.result no_txns (omega (arith, c.if-number-len.false)) in
    subst HasRoom (sym before) c.requires

pub returns : goal.returns
returns c =
    let places = c.args.self.now.places in
    let number = c.args.number in
    let before = c.replace-place.ensures.before ∙ get_or_default places number c.replace-place.result no_txns (omega (arith, c.if-number-len.false)) in
    let put =
    c.replace.ensures.after
    ∙ ap (λ (all : List Place). slice_set all number c.add.new.self) c.replace-place.ensures.after
    ∙ set_again places number c.unused.result c.add.new.self
    ∙ ap (slice_set places number) (c.in_ok-add.ensures ∙ ap (λ (place : Place). with_statement place c.args.bound.now) before) in
    ap (λ (all : List Place). record c.args.self.now { places = all }) put
