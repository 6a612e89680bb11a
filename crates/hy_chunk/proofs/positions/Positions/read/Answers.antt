use Rattle.std.proofs.Common.{◌≡◌, false, List, refl, sym, ap, ◌∙◌, subst, arith}
use Rattle.std.proofs.lemmas.List.{get_or_read}
use Rattle.hy_value.specs.declared.Kind.{Kind}
use Rattle.hy_undo.specs.Places.{Place}
use Rattle.hy_chunk.specs.Views.{Held}
use Rattle.hy_chunk.specs.Sound.{FitsRow}
use Rattle.hy_chunk.proofs.Places.{Fields, fields, at, nth_is, in_rows, in_live, fits_there}
use Rattle.hy_chunk.proofs.positions.Positions.read.Goals as goal

pub read-requires-clause-within : goal.read-requires-clause-within
read-requires-clause-within c =
    let f : Fields = fields c.self.inside in
    in_rows f c.self.inside.columns.kinds c.self.inside.spare c.args.self.now.places (ap (λ (h : Held). h.places) c.self.view_is)
    c.self.invariant.sound c.args.place c.requires.within

pub index-requires : goal.index-requires
index-requires c =
    let f : Fields = fields c.self.inside in
    omega (
      arith,
      in_live f c.self.inside.columns.kinds c.self.inside.spare c.args.self.now.places (ap (λ (h : Held). h.places) c.self.view_is)
          c.self.invariant.sound c.args.place c.requires.within,
      c.self.inside.live.ok.0,
    )

pub returns-clause-version : goal.returns-clause-version
returns-clause-version c =
    let f : Fields = fields c.self.inside in
    let live = get_or_read f.live c.args.place c.index.result.now
    (in_live f c.self.inside.columns.kinds c.self.inside.spare c.args.self.now.places (ap (λ (h : Held). h.places) c.self.view_is)
    c.self.invariant.sound c.args.place c.requires.within) c.index.ensures false in
    let read : record { row = c.read.new.row; live = c.index.result.now } ≡ (at f c.args.place).version = λ i. record
    { row = c.read.ensures i; live = live i } in
    read ∙ ap (λ (p : Place). p.version) (sym (nth_is f c.args.self.now.places c.args.place (ap (λ (h : Held). h.places) c.self.view_is) c.requires.within))

pub returns-clause-fits : goal.returns-clause-fits
returns-clause-fits c =
    let f : Fields = fields c.self.inside in
    let kinds : f.rows ≡ f.rows = refl in
    subst (λ (ks : List Kind). FitsRow ks c.read.new.row) (ap (λ (h : Held). h.kinds) c.self.view_is)
    (subst (FitsRow c.self.inside.columns.kinds) (sym c.read.ensures)
    (fits_there f c.self.inside.columns.kinds c.self.inside.spare c.args.self.now.places (ap (λ (h : Held). h.places) c.self.view_is)
    c.self.invariant.sound c.args.place c.requires.within).row)
