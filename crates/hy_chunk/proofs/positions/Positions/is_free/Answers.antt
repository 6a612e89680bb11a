use Rattle.std.proofs.Common.{◌≡◌, false, [], get_or, sym, ap, ◌∙◌, arith}
use Rattle.std.proofs.lemmas.List.{get_or_read}
use Rattle.hy_chain.specs.Chains.{newest}
use Rattle.hy_chunk.specs.Views.{Held}
use Rattle.hy_chunk.proofs.Places.{Fields, fields, nth_is, in_live, in_used, in_deaths, in_chains}
use Rattle.hy_undo.specs.Places.{is_free, is_older}
use Rattle.std.specs.Prelude.{◌&&◌, ◌||◌, not, nat_lt}
use Rattle.hy_chunk.proofs.positions.Positions.is_free.Goals as goal

pub head-newest-requires : goal.head-newest-requires
head-newest-requires c =
    let f : Fields = fields c.self.inside in
    in_chains f c.self.inside.columns.kinds c.self.inside.spare c.args.self.now.places (ap (λ (h : Held). h.places) c.self.view_is)
    c.self.invariant.sound c.args.place c.requires

pub index-requires : goal.index-requires
index-requires c =
    let f : Fields = fields c.self.inside in
    omega (
      arith,
      in_used f c.self.inside.columns.kinds c.self.inside.spare c.args.self.now.places (ap (λ (h : Held). h.places) c.self.view_is)
          c.self.invariant.sound c.args.place c.requires,
      c.self.inside.used.ok.0,
    )

pub index-requires-2 : goal.index-requires-2
index-requires-2 c =
    let f : Fields = fields c.self.inside in
    omega (
      arith,
      in_live f c.self.inside.columns.kinds c.self.inside.spare c.args.self.now.places (ap (λ (h : Held). h.places) c.self.view_is)
          c.self.invariant.sound c.args.place c.requires,
      c.self.inside.live.ok.0,
    )

pub index-requires-3 : goal.index-requires-3
index-requires-3 c =
    let f : Fields = fields c.self.inside in
    omega (
      arith,
      in_deaths f c.self.inside.columns.kinds c.self.inside.spare c.args.self.now.places
          (ap (λ (h : Held). h.places) c.self.view_is) c.self.invariant.sound c.args.place c.requires,
      c.self.inside.deaths.ok.0,
    )

pub returns : goal.returns
returns c =
    let f : Fields = fields c.self.inside in
    let w = c.args.watermark in
    let used = get_or_read f.used c.args.place c.index.result.now
    (in_used f c.self.inside.columns.kinds c.self.inside.spare c.args.self.now.places (ap (λ (h : Held). h.places) c.self.view_is)
    c.self.invariant.sound c.args.place c.requires) c.index.ensures false in
    let live = get_or_read f.live c.args.place c.index-2.result.now
    (in_live f c.self.inside.columns.kinds c.self.inside.spare c.args.self.now.places (ap (λ (h : Held). h.places) c.self.view_is)
    c.self.invariant.sound c.args.place c.requires) c.index-2.ensures false in
    let death = get_or_read f.deaths c.args.place c.index-3.result.now
    (in_deaths f c.self.inside.columns.kinds c.self.inside.spare c.args.self.now.places (ap (λ (h : Held). h.places) c.self.view_is)
    c.self.invariant.sound c.args.place c.requires) c.index-3.ensures 0 in
    let older : c.is_before.result ≡ is_older w (newest (get_or f.chains c.args.place [])) = c.is_before.ensures ∙ ap (is_older w) c.head-newest.ensures in
    c.free_by.ensures ∙ ((λ i. not (used i) || (not (live i) && (older i && nat_lt (death i) w)))
    ∙ ap (is_free w) (sym (nth_is f c.args.self.now.places c.args.place (ap (λ (h : Held). h.places) c.self.view_is) c.requires)))
