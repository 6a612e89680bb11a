use Rattle.std.proofs.Common.{◌≡◌, ℕ, ◌-◌, min, ◌<◌, ◌≤◌, Some, length, ◌++◌, ap, ◌∙◌, arith}
use Rattle.std.specs.List.{insert}
use Rattle.std.proofs.lemmas.List.{length-take, length-drop}
use Rattle.hy_notes.specs.Blocks.{notes_at, notes_before, notes_behind}
use Rattle.hy_notes.proofs.Halves.{most_at, into_low, into_high}
use Rattle.hy_notes.proofs.blocks.Blocks.put_note.Goals as goal

pub put_within-requires-then-at-le-LEAST-clause-within : goal.put_within-requires-then-at-le-LEAST-clause-within
put_within-requires-then-at-le-LEAST-clause-within c =
    let e : length (notes_at c.split.new.self c.args.block) ≡ min 64 (length (notes_at c.args.self.now c.args.block)) = ap length c.split.ensures.kept ∙ length-take 64 (notes_at c.args.self.now c.args.block) in
    let le : c.args.at ≤ 64 = c.if-at-le-LEAST.true in
    let within : c.args.at ≤ length (notes_at c.args.self.now c.args.block) = c.requires.within in
    omega (arith, e, le, within)

pub put_within-requires-then-at-le-LEAST-clause-most : goal.put_within-requires-then-at-le-LEAST-clause-most
put_within-requires-then-at-le-LEAST-clause-most c =
    let e : length (notes_at c.split.new.self c.args.block) ≡ min 64 (length (notes_at c.args.self.now c.args.block)) = ap length c.split.ensures.kept ∙ length-take 64 (notes_at c.args.self.now c.args.block) in
    let most : length (notes_at c.split.new.self c.args.block) < 128 = omega (arith, e) in
    most

pub put_within-requires-else-at-le-LEAST-clause-within : goal.put_within-requires-else-at-le-LEAST-clause-within
put_within-requires-else-at-le-LEAST-clause-within c =
    let e : length (notes_at c.split.new.self (Some c.behind.result)) ≡ length (notes_at c.args.self.now c.args.block) - 64 =
    ap (λ (n : ℕ). length (notes_at c.split.new.self (Some n))) c.behind.ensures ∙ (ap length c.split.ensures.moved ∙ length-drop 64 (notes_at c.args.self.now c.args.block)) in
    let within : c.args.at ≤ length (notes_at c.args.self.now c.args.block) = c.requires.within in
    omega (arith, e, within)

pub put_within-requires-else-at-le-LEAST-clause-most : goal.put_within-requires-else-at-le-LEAST-clause-most
put_within-requires-else-at-le-LEAST-clause-most c =
    let e : length (notes_at c.split.new.self (Some c.behind.result)) ≡ length (notes_at c.args.self.now c.args.block) - 64 =
    ap (λ (n : ℕ). length (notes_at c.split.new.self (Some n))) c.behind.ensures ∙ (ap length c.split.ensures.moved ∙ length-drop 64 (notes_at c.args.self.now c.args.block)) in
    let m = most_at c.args.self.now c.args.block c.requires.sound c.requires.block in
    let most : length (notes_at c.split.new.self (Some c.behind.result)) < 128 = omega (arith, e, m) in
    most

pub returns-then-at-le-LEAST-clause-notes : goal.returns-then-at-le-LEAST-clause-notes
returns-then-at-le-LEAST-clause-notes c =
    let s = c.split.ensures in
    c.put_within-then-at-le-LEAST.ensures.notes
    ∙ into_low c.args.self.now c.split.new.self c.args.block s.next s.before s.kept s.moved s.behind c.args.at c.args.note c.if-at-le-LEAST.true c.requires.within

pub returns-else-at-le-LEAST-clause-notes : goal.returns-else-at-le-LEAST-clause-notes
returns-else-at-le-LEAST-clause-notes c =
    let s = c.split.ensures in
    let mid = c.split.new.self in
    let more : 64 < c.args.at = c.if-at-le-LEAST.false in
    let within : c.args.at ≤ length (notes_at c.args.self.now c.args.block) = c.requires.within in
    c.put_within-else-at-le-LEAST.ensures.notes
    ∙ (ap (λ (n : ℕ). notes_before mid (Some n) ++ (insert (notes_at mid (Some n)) (c.args.at - 64) c.args.note ++ notes_behind mid (Some n))) c.behind.ensures
    ∙ into_high c.args.self.now mid c.args.block s.next s.before s.kept s.moved s.behind c.args.at c.args.note (omega (arith, more)) (omega (arith, more, within)))
