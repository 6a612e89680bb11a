use Rattle.std.proofs.Common.{◌≡◌, ℕ, suc, ◌+◌, ◌-◌, ◌^◌, ◌<◌, ◌≤◌, length, take, get_or, List, ◌∷◌, ◌++◌, [], Option, Some, None, Bool, true, false, cond, refl, ap, sym, ◌∙◌, subst, arith}
use Rattle.std.specs.Prelude.{IfSome}
use Rattle.std.specs.Str.{bytes_eq}
use Rattle.std.proofs.lemmas.List.{length-take-le}
use Rattle.std.proofs.Math.Seq.{take-suc}
use Rattle.hy_bound.specs.Savepoints.{Saved, newest}
use Rattle.hy_bound.proofs.Newest.{newest_last}
use Rattle.hy_bound.proofs.savepoints.newest_savepoint.Goals as goal
use Rattle.hy_bound.proofs.savepoints.newest_savepoint.Goals.{then-eq, else-eq}

-- the newest of one more than was looked at
next : (name : List ℕ) (saved : List (Saved (Unit {0}))) (number : ℕ) (one : Saved (Unit {0})) → number < length saved → get_or saved number one ≡ one
    → newest name (take (number + 1) saved) ≡ cond (bytes_eq name one.name) (Some number) (newest name (take number saved))
next name saved number one less is =
    ap (newest name) ((let s : number + 1 ≡ suc number = omega arith in ap (λ (n : ℕ). take n saved) s)
    ∙ (take-suc saved number one less ∙ ap (λ (last : Saved (Unit {0})). take number saved ++ last ∷ []) is))
    ∙ (newest_last name (take number saved) one
    ∙ ap (λ (n : ℕ). cond (bytes_eq name one.name) (Some n) (newest name (take number saved))) (length-take-le number saved (omega (arith, less))))

pub loop-number-preserved : goal.loop-number-preserved
loop-number-preserved c =
    let less : c.loop-number.number < length c.args.savepoints.now = omega (arith, c.loop-number-test.true, c.loop-number.auto.number-end) in
    let here = next c.args.name.now c.args.savepoints.now c.loop-number.number c.index-savepoints-number.result less (sym c.index-savepoints-number.is) in
    let named : c.index-savepoints-number.result.name ≡ c.as_bytes-in-loop-number.result.now =
    ap (λ (saved : Saved (Unit {0})). saved.name) (sym c.saved.view_is) ∙ sym c.as_bytes-in-loop-number.ensures.bytes in
    let told : bytes_eq c.args.name.now c.index-savepoints-number.result.name ≡ bytes_eq c.as_bytes.result.now c.as_bytes-in-loop-number.result.now =
    ap (bytes_eq c.args.name.now) named ∙ ap (λ (mine : List ℕ). bytes_eq mine c.as_bytes-in-loop-number.result.now) (sym c.as_bytes.ensures.bytes) in
    elim c.if-eq.branch [
      | then-eq w ↦ (
        w.found-is ∙ sym (here ∙ ap (λ (b : Bool). cond b (Some c.loop-number.number) (newest c.args.name.now (take c.loop-number.number c.args.savepoints.now))) (told ∙ sym w.if-eq.ensures)),
        subst (λ (found : Option ℕ). IfSome found (λ number. number < 2 ^ 64 - 1)) (sym w.found-is) (omega (arith, c.loop-number-test.true, c.loop-number.end-fits)),
      )
      | else-eq w ↦ (
        w.found-is ∙ (c.loop-number.invariant.0 ∙ sym (here ∙ ap (λ (b : Bool). cond b (Some c.loop-number.number) (newest c.args.name.now (take c.loop-number.number c.args.savepoints.now))) (told ∙ sym w.if-eq.ensures))),
        subst (λ (found : Option ℕ). IfSome found (λ number. number < 2 ^ 64 - 1)) (sym w.found-is) c.loop-number.invariant.1,
      )
    ]
