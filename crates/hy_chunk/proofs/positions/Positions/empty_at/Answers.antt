use Rattle.std.proofs.Common.{◌≡◌, Bool, false, List, length, get_or, sym, ap, ◌∙◌, arith}
use Rattle.std.proofs.Math.ListN.{set}
use Rattle.std.proofs.lemmas.List.{set-get_or}
use Rattle.hy_chunk.specs.Views.{Held}
use Rattle.hy_chunk.proofs.BackAt.{emptied_sound, emptied_places, no_both}
use Rattle.hy_chunk.proofs.Places.{Fields, fields, in_live}
use Rattle.hy_chunk.proofs.Vacating.{in_vacant, shows_put}
use Rattle.hy_chunk.proofs.positions.Positions.empty_at.Goals as goal

pub put_flag-requires : goal.put_flag-requires
put_flag-requires c =
    let f : Fields = fields c.self.inside in
    let view = ap (λ (h : Held). h.places) c.self.view_is in
    omega (arith, in_live f c.self.inside.columns.kinds c.self.inside.spare c.args.self.now.places view c.self.invariant.sound c.args.place c.requires, c.self.inside.live.ok.0)

pub set-requires : goal.set-requires
set-requires c =
    let f : Fields = fields c.self.inside in
    let view = ap (λ (h : Held). h.places) c.self.view_is in
    in_vacant c.args.place f.used f.live c.self.inside.vacant c.self.invariant.vacated
    (in_live f c.self.inside.columns.kinds c.self.inside.spare c.args.self.now.places view c.self.invariant.sound c.args.place c.requires)

pub invariant_of-self : goal.invariant_of-self
invariant_of-self c =
    let f : Fields = fields c.self.inside in
    let view = ap (λ (h : Held). h.places) c.self.view_is in
    record {
      sound = emptied_sound f c.self.inside.columns.kinds c.self.inside.spare c.args.self.now.places view c.self.invariant.sound c.args.place c.requires
          c.put_flag.new.flags.items c.put_flag.ensures;
      vacated = shows_put c.args.place f.used f.live c.self.inside.vacant f.used c.put_flag.new.flags.items c.set.new.self
          (get_or f.used c.args.place false) false
          (in_live f c.self.inside.columns.kinds c.self.inside.spare c.args.self.now.places view c.self.invariant.sound c.args.place c.requires)
          (c.self.invariant.sound.uses ∙ sym c.self.invariant.sound.lives) c.self.invariant.vacated (sym (set-get_or f.used c.args.place false))
          c.put_flag.ensures
          (c.set.ensures ∙ ap (λ (b : Bool). set c.self.inside.vacant c.args.place b) (no_both (get_or f.used c.args.place false)));
      numbered = c.self.invariant.numbered;
      covered = c.self.invariant.covered;
      keyed = c.self.invariant.keyed;
      indexed = c.self.invariant.indexed;
      spared = c.self.invariant.spared;
    }

pub returns-clause-places : goal.returns-clause-places
returns-clause-places c =
    let f : Fields = fields c.self.inside in
    let view = ap (λ (h : Held). h.places) c.self.view_is in
    emptied_places f c.self.inside.columns.kinds c.self.inside.spare c.args.self.now.places view c.self.invariant.sound c.args.place c.requires
    c.put_flag.new.flags.items c.put_flag.ensures
