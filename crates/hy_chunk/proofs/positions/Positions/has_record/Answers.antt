use Rattle.std.proofs.Common.{sym, ap, ◌∙◌}
use Rattle.std.specs.Prelude.{is_some}
use Rattle.hy_undo.specs.Places.{Place}
use Rattle.hy_chunk.specs.Views.{Held}
use Rattle.hy_chunk.proofs.Candidates.{none_newest}
use Rattle.hy_chunk.proofs.Places.{Fields, fields, in_chains, nth_is}
use Rattle.hy_chunk.proofs.Ranges.{outside_none}
use Rattle.hy_chunk.proofs.positions.Positions.has_record.Goals as goal

pub head-requires : goal.head-requires
head-requires c =
    let f : Fields = fields c.self.inside in
    in_chains f c.self.inside.columns.kinds c.self.inside.spare c.args.self.now.places (ap (λ (h : Held). h.places) c.self.view_is)
    c.self.invariant.sound c.args.place c.requires

pub returns-then-is_in : goal.returns-then-is_in
returns-then-is_in c = λ none.
    let f : Fields = fields c.self.inside in
    ap (λ (p : Place). p.chain) (nth_is f c.args.self.now.places c.args.place (ap (λ (h : Held). h.places) c.self.view_is) c.requires)
    ∙ none_newest f.chains c.args.place (sym (c.is_some.ensures ∙ ap is_some c.head.ensures) ∙ none)

pub returns-else-is_in : goal.returns-else-is_in
returns-else-is_in c = λ out.
    let f : Fields = fields c.self.inside in
    ap (λ (p : Place). p.chain) (nth_is f c.args.self.now.places c.args.place (ap (λ (h : Held). h.places) c.self.view_is) c.requires)
    ∙ outside_none c.self.inside.versioned f.chains c.args.place c.self.invariant.covered (sym c.is_in.ensures ∙ out)
