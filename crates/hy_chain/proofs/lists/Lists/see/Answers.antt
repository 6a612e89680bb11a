use Rattle.std.proofs.Common.{◌≡◌, ◌<◌, ◌-◌, ◌+◌, ℕ, List, [], length, get_or, zero, sym, ap, ◌∙◌, subst, arith}
use Rattle.hy_chain.specs.Chains.{Undo, seen}
use Rattle.hy_chain.specs.Links.{walk, Lies}
use Rattle.hy_chain.specs.Histories.{Histories}
use Rattle.hy_chain.proofs.Linking.{chain_read, own_lies, first_node, parted, length_chains, seen_end, seen_past}
use Rattle.hy_chain.proofs.lists.Lists.see.Goals as goal

pub returns-in_default : goal.returns-in_default
returns-in_default g c =
    let lies = c.loop-passed.invariant.lies in
    let left : 0 < c.index-head.result.now.len - c.loop-passed._passed = omega (arith, c.loop-passed-test.true) in
    let node = first_node c.self.inside.nodes (c.index-head.result.now.len - c.loop-passed._passed) c.loop-passed.key lies.0 lies.1 left in
    absurd (let e = c.in_default.ensures in let f = node.1 in cc)

pub returns-then-stops : goal.returns-then-stops
returns-then-stops g c =
    let lies = c.loop-passed.invariant.lies in
    let left : 0 < c.index-head.result.now.len - c.loop-passed._passed = omega (arith, c.loop-passed-test.true) in
    let ends = seen_end g.D.Image.applied c.args.viewer.now c.loop-passed.base c.self.inside.nodes (c.index-head.result.now.len - c.loop-passed._passed) c.loop-passed.key lies.0 c.in-Some.node.now lies.1 left
    (sym c.in-Some.ensures) (sym c.is_end-stops.ensures ∙ c.if-stops.true) in
    sym ends ∙ c.loop-passed.invariant.told

pub returns : goal.returns
returns g c =
    let none : ◌≡◌ {A = ℕ} (c.index-head.result.now.len - c.loop-passed._passed) zero = omega (arith, c.loop-passed-test.false) in
    sym (ap (λ (n : ℕ). seen g.D.Image.applied c.args.viewer.now c.loop-passed.base (walk c.self.inside.nodes n c.loop-passed.key)) none) ∙ c.loop-passed.invariant.told

pub loop-passed-init : goal.loop-passed-init
loop-passed-init g c =
    let sizes = ap (λ (h : Histories g.row.D.Denot). length h.chains) c.self.view_is in
    let within : c.args.list < length c.self.inside.heads.items = omega (arith, c.requires, sizes, length_chains c.self.inside.nodes c.self.inside.heads.items) in
    let all : c.index-head.result.now.len ≡ c.index-head.result.now.len - 0 = omega arith in
    let read = ap (λ (h : Histories g.row.D.Denot). get_or h.chains c.args.list []) (sym c.self.view_is)
    ∙ (chain_read c.self.inside.nodes c.self.inside.heads.items c.args.list c.index-head.result.now within c.index-head.ensures
    ∙ ap (λ (n : ℕ). walk c.self.inside.nodes n c.index-head.result.now.key) all) in
    record {
      told = sym (ap (λ (chain : List (Undo g.row.D.Denot)). seen g.D.Image.applied c.args.viewer.now c.args.base.now chain) read);
      lies = (
        c.self.invariant.keys c.args.list,
        subst (λ (n : ℕ). Lies c.self.inside.nodes n c.index-head.result.now.key (c.self.invariant.keys c.args.list)) all
            (own_lies c.self.inside.nodes c.self.inside.heads.items c.self.invariant c.args.list c.index-head.result.now within c.index-head.ensures),
      );
    }

pub loop-passed-preserved : goal.loop-passed-preserved
loop-passed-preserved g c =
    let lies = c.loop-passed.invariant.lies in
    let left : 0 < c.index-head.result.now.len - c.loop-passed._passed = omega (arith, c.loop-passed-test.true) in
    let less : c.index-head.result.now.len - c.loop-passed._passed - 1 ≡ c.index-head.result.now.len - (c.loop-passed._passed + 1) = omega arith in
    let p = parted c.self.inside.nodes (c.index-head.result.now.len - c.loop-passed._passed) c.loop-passed.key lies.0 c.in-Some.node.now lies.1 left (sym c.in-Some.ensures) in
    let past = seen_past g.D.Image.applied c.args.viewer.now c.loop-passed.base c.self.inside.nodes (c.index-head.result.now.len - c.loop-passed._passed) c.loop-passed.key lies.0 c.in-Some.node.now lies.1 left
    (sym c.in-Some.ensures) (sym c.is_end-stops.ensures ∙ c.if-stops.false) in
    record {
      told = ap (λ (b : g.row.D-Base.Denot). seen g.D.Image.applied c.args.viewer.now b (walk c.self.inside.nodes (c.index-head.result.now.len - (c.loop-passed._passed + 1)) c.in-Some.node.now.older)) c.apply.ensures
          ∙ (ap (λ (n : ℕ). seen g.D.Image.applied c.args.viewer.now (g.D.Image.applied c.in-Some.node.now.image c.loop-passed.base) (walk c.self.inside.nodes n c.in-Some.node.now.older)) (sym less)
          ∙ (sym past ∙ c.loop-passed.invariant.told));
      lies = (p.rest, subst (λ (n : ℕ). Lies c.self.inside.nodes n c.in-Some.node.now.older p.rest) less p.lies);
    }
