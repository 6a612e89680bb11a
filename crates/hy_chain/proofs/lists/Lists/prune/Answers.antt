use Rattle.std.proofs.Common.{ℕ, [], None, get_or, sym, ap, ◌∙◌, inl, inr}
use Rattle.std.proofs.Math.ListN.{set}
use Rattle.std.proofs.lemmas.Bool.{cases_eq}
use Rattle.std.proofs.lemmas.List.{get_or-set_same, get_or-set_other, length-set, set-get_or}
use Rattle.hy_chain.specs.Pruning.{pruned}
use Rattle.hy_chain.specs.Settling.{put_back}
use Rattle.hy_chain.proofs.Settlings.{same_lists, unchanged, joins}
use Rattle.hy_chain.proofs.lists.Lists.prune.Goals as goal

pub returns-in-Stays-clause-chains : goal.returns-in-Stays-clause-chains
returns-in-Stays-clause-chains g c =
    let before = c.args.self.now.chains in
    let same = unchanged g.D.Image.merged c.args.cover.now None (get_or before c.args.list []) c.in-Stays.ensures in
    sym (ap (set before c.args.list) same ∙ set-get_or before c.args.list [])

pub returns-in-JoinsNewest-clause-chains : goal.returns-in-JoinsNewest-clause-chains
returns-in-JoinsNewest-clause-chains g c =
    let before = c.args.self.now.chains in
    let joined = joins g.D.Image.merged c.args.cover.now (get_or before c.args.list []) c.in-JoinsNewest.ensures in
    c.join_newest.ensures.chains ∙ sym (ap (set before c.args.list) joined)

pub returns-in-Mixed-clause-chains : goal.returns-in-Mixed-clause-chains
returns-in-Mixed-clause-chains g c =
    let before = c.args.self.now.chains in
    let after = c.move_back.new.self.chains in
    let result = pruned g.D.Image.merged c.args.cover.now (get_or before c.args.list []) in
    same_lists after (set before c.args.list result) []
    (c.move_back.ensures.lists ∙ (c.prune_aside.ensures.lists ∙ sym (length-set before c.args.list result)))
    (λ i. elim (cases_eq i c.args.list) [
      | inl here ↦
          ap (λ (k : ℕ). get_or after k []) here
          ∙ (c.move_back.ensures.list
          ∙ (ap (put_back (get_or c.prune_aside.new.self.chains c.args.aside [])) c.prune_aside.ensures.empty
          ∙ (c.prune_aside.ensures.aside
          ∙ (sym (get_or-set_same before c.args.list result [] c.requires.within) ∙ ap (λ (k : ℕ). get_or (set before c.args.list result) k []) (sym here)))))
      | inr away ↦ elim (cases_eq i c.args.aside) [
        | inl spare ↦
            ap (λ (k : ℕ). get_or after k []) spare
            ∙ (c.move_back.ensures.empty
            ∙ (sym c.requires.clear
            ∙ (ap (λ (k : ℕ). get_or before k []) (sym spare) ∙ sym (get_or-set_other before c.args.list i result [] away))))
        | inr other ↦
            c.move_back.ensures.others i away other
            ∙ (c.prune_aside.ensures.others i away other ∙ sym (get_or-set_other before c.args.list i result [] away))
      ]
    ])
