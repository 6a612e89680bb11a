use Rattle.std.proofs.Common.{[], get_or, None, ap}
use Rattle.hy_chunk.proofs.Spared.{spare_changed, pruned_spares}
use Rattle.hy_chain.specs.Pruning.{pruned}
use Rattle.hy_undo.specs.Images.{both}
use Rattle.hy_chunk.proofs.Ranges.{covers_less, pruned_none}
use Rattle.hy_chunk.specs.Views.{Held}
use Rattle.hy_chunk.proofs.Places.{Fields, fields, in_chains}
use Rattle.hy_chunk.proofs.PruneAt.{pruned_sound, pruned_places}
use Rattle.hy_chunk.proofs.positions.Positions.prune_at.Goals as goal

pub prune-requires : goal.prune-requires
prune-requires c =
    let f : Fields = fields c.self.inside in
    in_chains f c.self.inside.columns.kinds c.self.inside.spare c.args.self.now.places (ap (λ (h : Held). h.places) c.self.view_is)
    c.self.invariant.sound c.args.place c.requires

pub invariant_of-self : goal.invariant_of-self
invariant_of-self c =
    let f : Fields = fields c.self.inside in
    record {
      sound = pruned_sound f c.self.inside.columns.kinds c.self.inside.spare c.args.self.now.places (ap (λ (h : Held). h.places) c.self.view_is)
          c.self.invariant.sound c.args.place c.requires c.args.cover.now c.prune.new.self.chains c.prune.ensures.chains;
      vacated = c.self.invariant.vacated;
      numbered = c.self.invariant.numbered;
      keyed = c.self.invariant.keyed;
      indexed = c.self.invariant.indexed;
      spared = spare_changed c.self.inside.key f.chains c.prune.new.self.chains c.args.place (pruned both c.args.cover.now (get_or f.chains c.args.place []))
          c.prune.ensures.chains c.self.invariant.spared (λ k e s. pruned_spares k c.args.cover.now None (get_or f.chains c.args.place []) s);
      covered = covers_less c.self.inside.versioned f.chains c.prune.new.self.chains c.args.place
          (pruned both c.args.cover.now (get_or f.chains c.args.place [])) c.self.invariant.covered
          c.prune.ensures.chains (pruned_none c.args.cover.now (get_or f.chains c.args.place []));
    }

pub returns-clause-places : goal.returns-clause-places
returns-clause-places c =
    let f : Fields = fields c.self.inside in
    pruned_places f c.self.inside.columns.kinds c.self.inside.spare c.args.self.now.places (ap (λ (h : Held). h.places) c.self.view_is)
    c.self.invariant.sound c.args.place c.requires c.args.cover.now c.prune.new.self.chains c.prune.ensures.chains
