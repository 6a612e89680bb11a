use Rattle.std.proofs.Common.{subst, sym, ap, ◌∙◌}
use Rattle.hy_chain.specs.Links.{Sound, chains_of}
use Rattle.hy_chain.proofs.lists.Lists.new.Goals as goal
use Rattle.hy_chain.proofs.Linking.{blank_sound, blank_chains}

pub invariant_of-result : goal.invariant_of-result
invariant_of-result g c = subst (Sound c.new-nodes.result) (sym (c.in_ok-heads.ensures.items_if_clones_equal (λ y e. e))) (blank_sound c.new-nodes.result c.args.lists)

pub returns : goal.returns
returns g c = ap (chains_of c.new-nodes.result) (c.in_ok-heads.ensures.items_if_clones_equal (λ y e. e)) ∙ blank_chains c.new-nodes.result c.args.lists
