use Rattle.std.proofs.Common.{◌+◌, is_none, drop, ap, sym, ◌∙◌, arith}
use Rattle.std.proofs.lemmas.Grind.{common_steps}
use Rattle.hy_bind.specs.declared.refusals.BindFault.TheVariants as fault
use Rattle.hy_bind.specs.Refusals.{first_of, fault_if}
use Rattle.hy_bind.specs.Scope.{scope_of}
use Rattle.hy_bind.specs.Statements.{columns_fault}
use Rattle.hy_bind.proofs.Firsts.{first_more, at_next}
use Rattle.hy_bind.proofs.listed.columns.Goals as goal

pub loop-reference-preserved : goal.loop-reference-preserved
loop-reference-preserved c =
    let h = c.missing.ensures ∙ ap (λ found. fault_if (is_none found) fault.UnknownColumn) c.resolve-found.ensures in
    let xs = c.args.references.now in
    let i = c.loop-reference.reference-index in
    let f = columns_fault (scope_of c.args.scope.now) in
    let e = first_more c.loop-reference.fault c.missing.result (f (drop (i + 1) xs)) (f (drop i xs)) (f xs)
    (at_next f xs i _ (omega arith) ∙ ap (λ one. first_of one (f (drop (i + 1) xs))) (sym h)) c.loop-reference.invariant.0 in
    (cc, grind (arith, common_steps, c.resolve-found.ensures, c.in_ok-number.ensures, c.in_ok-push.ensures.items, c.loop-reference.invariant.1))
