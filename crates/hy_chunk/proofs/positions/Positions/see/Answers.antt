use Rattle.std.proofs.Common.{◌≡◌, List, [], get_or, sym, ap, ◌∙◌, subst}
use Rattle.hy_value.specs.declared.Kind.{Kind}
use Rattle.hy_chain.specs.Chains.{Undo, seen}
use Rattle.hy_undo.specs.declared.version.Version.{Version}
use Rattle.hy_undo.specs.Images.{Image, before}
use Rattle.hy_undo.specs.Places.{Place}
use Rattle.hy_chunk.proofs.Ranges.{outside_none}
use Rattle.hy_chunk.specs.Views.{Held}
use Rattle.hy_chunk.specs.Fields.{nth}
use Rattle.hy_chunk.specs.Sound.{FitsRow, FitsChain}
use Rattle.hy_chunk.proofs.Places.{Fields, fields, at, nth_is, in_chains, fits_there}
use Rattle.hy_chunk.proofs.SeeAt.{seen_fits}
use Rattle.hy_chunk.proofs.positions.Positions.see.Goals as goal

pub see-requires : goal.see-requires
see-requires c =
    let f : Fields = fields c.self.inside in
    in_chains f c.self.inside.columns.kinds c.self.inside.spare c.args.self.now.places (ap (λ (h : Held). h.places) c.self.view_is)
    c.self.invariant.sound c.args.place c.requires.within

pub returns-then-is_in-clause-version : goal.returns-then-is_in-clause-version
returns-then-is_in-clause-version c =
    let f : Fields = fields c.self.inside in
    let there : nth c.args.self.now.places c.args.place ≡ at f c.args.place = nth_is f c.args.self.now.places c.args.place
    (ap (λ (h : Held). h.places) c.self.view_is) c.requires.within in
    c.see.ensures ∙ λ i. seen before c.args.viewer.now (c.read.ensures.version i) (sym there i).chain

pub returns-then-is_in-clause-fits : goal.returns-then-is_in-clause-fits
returns-then-is_in-clause-fits c =
    let f : Fields = fields c.self.inside in
    let kinds = ap (λ (h : Held). h.kinds) c.self.view_is in
    subst (λ (v : Version). FitsRow c.args.self.now.kinds v.row) (sym c.see.ensures)
    (seen_fits c.args.self.now.kinds c.args.viewer.now c.read.new.version (get_or f.chains c.args.place []) c.read.ensures.fits
    (subst (λ (ks : List Kind). FitsChain ks (get_or f.chains c.args.place [])) kinds
    (fits_there f c.self.inside.columns.kinds c.self.inside.spare c.args.self.now.places (ap (λ (h : Held). h.places) c.self.view_is)
    c.self.invariant.sound c.args.place c.requires.within).images))

pub returns-else-is_in-clause-version : goal.returns-else-is_in-clause-version
returns-else-is_in-clause-version c =
    let f : Fields = fields c.self.inside in
    let there : nth c.args.self.now.places c.args.place ≡ at f c.args.place = nth_is f c.args.self.now.places c.args.place
    (ap (λ (h : Held). h.places) c.self.view_is) c.requires.within in
    let none = outside_none c.self.inside.versioned f.chains c.args.place c.self.invariant.covered (sym c.is_in.ensures ∙ c.if-is_in.false) in
    c.read.ensures.version
    ∙ ap (λ (chain : List (Undo Image)). seen before c.args.viewer.now (nth c.args.self.now.places c.args.place).version chain)
    (sym (ap (λ (p : Place). p.chain) there ∙ none))
