use Rattle.std.proofs.Common.{rules, ◌≡◌, ◌+◌, length, sym, arith, subst}
use Rattle.hy_validate.specs.Groups.{IsFiled}
use Rattle.hy_validate.specs.TreeHits.{is_hit_number, Finds, earlier_of}
use Rattle.hy_validate.proofs.Earliness.{InFirst, one_group_more, all_groups}
use Rattle.hy_validate.proofs.Least.{finds_none}
use Rattle.hy_validate.proofs.groups.first_among.Goals as goal

pub loop-group-init : goal.loop-group-init
loop-group-init c =
    finds_none (is_hit_number c.args.records.now c.args.change.now) (InFirst c.args.groups.now 0) (λ n a t. let l = a.below in absurd (omega arith))

pub first_in-requires : goal.first_in-requires
first_in-requires c =
    subst (IsFiled c.args.records.now (length c.args.records.now)) (sym c.group-item.is)
    (c.requires.filed c.loop-group.group-index c.group-item.result (omega arith))

pub loop-group-preserved : goal.loop-group-preserved
loop-group-preserved c =
    let is_hit = is_hit_number c.args.records.now c.args.change.now in
    let less : c.earlier-first.result ≡ earlier_of c.loop-group.first c.first_in.result = search rules in
    subst (Finds is_hit (InFirst c.args.groups.now (c.loop-group.group-index + 1))) (sym less)
    (one_group_more c.args.groups.now c.loop-group.group-index c.group-item.result is_hit c.loop-group.first c.first_in.result
    (omega arith) (sym c.group-item.is) c.loop-group.invariant c.first_in.ensures)

pub returns : goal.returns
returns c =
    all_groups c.args.groups.now (is_hit_number c.args.records.now c.args.change.now) c.loop-group.group-index c.loop-group.first
    (omega arith) c.loop-group.invariant
