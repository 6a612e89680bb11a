use Rattle.std.proofs.Common.{◌≡◌, ℕ, List, Some, sym, ap, ◌∙◌, subst}
use Rattle.hy_value.specs.declared.Kind.{Kind}
use Rattle.hy_chain.specs.Chains.{before_newest}
use Rattle.hy_undo.specs.declared.version.Version.{Version}
use Rattle.hy_undo.specs.Images.{before}
use Rattle.hy_undo.specs.Places.{Place, cell_of}
use Rattle.hy_undo.specs.Chunks.{Written}
use Rattle.hy_chunk.specs.Backing.{behind, emptied_place}
use Rattle.hy_chunk.specs.Fields.{nth}
use Rattle.hy_chunk.specs.Keyed.{SparesKey}
use Rattle.hy_chunk.specs.Sound.{FitsPlace, FitsRow}
use Rattle.hy_chunk.specs.Steps.{loaded_place}
use Rattle.hy_chunk.specs.Views.{Held}
use Rattle.hy_chunk.proofs.BackAt.{back_emptied, back_loaded, back_same_key, behind_fits, put_so}
use Rattle.hy_chunk.proofs.Over.{fits_length}
use Rattle.hy_chunk.proofs.Places.{Fields, fields, at, nth_is, in_chains, fits_there}
use Rattle.hy_chunk.proofs.Spared.{spares_at}
use Rattle.hy_chunk.proofs.positions.Positions.back_at.Goals as goal

pub see_before-requires : goal.see_before-requires
see_before-requires c =
    let f : Fields = fields c.self.inside in
    let view = ap (λ (h : Held). h.places) c.self.view_is in
    in_chains f c.self.inside.columns.kinds c.self.inside.spare c.args.self.now.places view c.self.invariant.sound c.args.place c.requires.within

pub write_at-requires-clause-same_key : goal.write_at-requires-clause-same_key
write_at-requires-clause-same_key c =
    let f : Fields = fields c.self.inside in
    let view = ap (λ (h : Held). h.places) c.self.view_is in
    let there = nth_is f c.args.self.now.places c.args.place view c.requires.within in
    let was_is : c.see_before.new.base ≡ behind (nth c.args.self.now.places c.args.place) =
    c.see_before.ensures ∙ (λ i. before_newest before (c.read.ensures.version i) (sym there i).chain) in
    back_same_key c.args.self.now.kinds c.args.self.now.key c.args.viewer.now c.args.version.now (nth c.args.self.now.places c.args.place) c.requires.may
    c.see_before.new.base was_is
    (λ k e. subst (λ (p : Place). SparesKey k p.chain) (sym there)
    (spares_at c.self.inside.key f.chains k (ap (λ (h : Held). h.key) c.self.view_is ∙ e) c.self.invariant.spared c.args.place))
    c.if-not-version.false c.if-was.true

pub returns-then-not-version-clause-places : goal.returns-then-not-version-clause-places
returns-then-not-version-clause-places c =
    let old : Place = nth c.args.self.now.places c.args.place in
    put_so (Written c.args.viewer.now c.args.label (cell_of c.args.version.now)) c.args.self.now.places c.empty_at.new.self.places c.args.place
    (emptied_place old) c.requires.within c.empty_at.ensures.places
    (back_emptied c.args.self.now.kinds c.args.self.now.key c.args.viewer.now c.args.version.now old c.requires.may c.places_step.ensures c.args.label
    c.if-not-version.true)

pub returns-then-was-clause-width : goal.returns-then-was-clause-width
returns-then-was-clause-width c =
    let f : Fields = fields c.self.inside in
    let view = ap (λ (h : Held). h.places) c.self.view_is in
    let there = nth_is f c.args.self.now.places c.args.place view c.requires.within in
    let was_is : c.see_before.new.base ≡ behind (nth c.args.self.now.places c.args.place) =
    c.see_before.ensures ∙ (λ i. before_newest before (c.read.ensures.version i) (sym there i).chain) in
    let fits : FitsPlace c.args.self.now.kinds (nth c.args.self.now.places c.args.place) =
    subst (FitsPlace c.args.self.now.kinds) (sym there)
    (subst (λ (ks : List Kind). FitsPlace ks (at f c.args.place)) (ap (λ (h : Held). h.kinds) c.self.view_is)
    (fits_there f c.self.inside.columns.kinds c.self.inside.spare c.args.self.now.places view c.self.invariant.sound c.args.place c.requires.within)) in
    fits_length c.args.self.now.kinds c.see_before.new.base.row
    (subst (λ (v : Version). FitsRow c.args.self.now.kinds v.row) (sym was_is)
    (behind_fits c.args.self.now.kinds (nth c.args.self.now.places c.args.place).version (nth c.args.self.now.places c.args.place).chain fits.row fits.images))

pub returns-else-was-clause-places : goal.returns-else-was-clause-places
returns-else-was-clause-places c =
    let f : Fields = fields c.self.inside in
    let view = ap (λ (h : Held). h.places) c.self.view_is in
    let there = nth_is f c.args.self.now.places c.args.place view c.requires.within in
    let was_is : c.see_before.new.base ≡ behind (nth c.args.self.now.places c.args.place) =
    c.see_before.ensures ∙ (λ i. before_newest before (c.read.ensures.version i) (sym there i).chain) in
    let fits : FitsPlace c.args.self.now.kinds (nth c.args.self.now.places c.args.place) =
    subst (FitsPlace c.args.self.now.kinds) (sym there)
    (subst (λ (ks : List Kind). FitsPlace ks (at f c.args.place)) (ap (λ (h : Held). h.kinds) c.self.view_is)
    (fits_there f c.self.inside.columns.kinds c.self.inside.spare c.args.self.now.places view c.self.invariant.sound c.args.place c.requires.within)) in
    let old : Place = nth c.args.self.now.places c.args.place in
    put_so (Written c.args.viewer.now c.args.label (cell_of c.args.version.now)) c.args.self.now.places c.load_at.new.self.places c.args.place
    (loaded_place c.args.version.now.row old) c.requires.within c.load_at.ensures.places
    (back_loaded c.args.self.now.kinds c.args.self.now.key c.args.viewer.now c.args.version.now old c.requires.may c.places_step.ensures c.args.label
    c.see_before.new.base was_is fits c.if-not-version.false c.if-was.false)

pub returns-else-was-clause-width : goal.returns-else-was-clause-width
returns-else-was-clause-width c =
    let f : Fields = fields c.self.inside in
    let view = ap (λ (h : Held). h.places) c.self.view_is in
    let there = nth_is f c.args.self.now.places c.args.place view c.requires.within in
    let was_is : c.see_before.new.base ≡ behind (nth c.args.self.now.places c.args.place) =
    c.see_before.ensures ∙ (λ i. before_newest before (c.read.ensures.version i) (sym there i).chain) in
    let fits : FitsPlace c.args.self.now.kinds (nth c.args.self.now.places c.args.place) =
    subst (FitsPlace c.args.self.now.kinds) (sym there)
    (subst (λ (ks : List Kind). FitsPlace ks (at f c.args.place)) (ap (λ (h : Held). h.kinds) c.self.view_is)
    (fits_there f c.self.inside.columns.kinds c.self.inside.spare c.args.self.now.places view c.self.invariant.sound c.args.place c.requires.within)) in
    fits_length c.args.self.now.kinds c.see_before.new.base.row
    (subst (λ (v : Version). FitsRow c.args.self.now.kinds v.row) (sym was_is)
    (behind_fits c.args.self.now.kinds (nth c.args.self.now.places c.args.place).version (nth c.args.self.now.places c.args.place).chain fits.row fits.images))
