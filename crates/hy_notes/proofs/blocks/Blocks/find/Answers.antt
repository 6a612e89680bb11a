use Rattle.std.proofs.Common.{◌≡◌, ℕ, suc, ◌-◌, ◌<◌, ◌≤◌, true, false, List, length, drop, sym, arith, subst}
use Rattle.std.specs.List.Sorted.{IsPartitionPoint}
use Rattle.std.specs.Global.{Vec}
use Rattle.hy_value.specs.declared.change.Change.{Change}
use Rattle.hy_notes.specs.Notes.{Ascends}
use Rattle.hy_notes.specs.Blocks.{joined, begins, AreBehind}
use Rattle.hy_notes.proofs.Placing.{ascends_right, behind_from, before_block}
use Rattle.hy_notes.proofs.blocks.Blocks.find.Goals as goal

pub count_begun-begun-requires-clause-ascends : goal.count_begun-begun-requires-clause-ascends
count_begun-begun-requires-clause-ascends c =
    let self = c.args.self.now in
    subst (λ (xs : List (Vec Change)). Ascends (joined xs)) (sym c.as_slice.ensures.value) (ascends_right self.first.items (joined self.later.items) c.requires.ascends)

pub returns-then-begun-eq0 : goal.returns-then-begun-eq0
returns-then-begun-eq0 c =
    let self = c.args.self.now in
    let up = ascends_right self.first.items (joined self.later.items) c.requires.ascends in
    let point : IsPartitionPoint (λ b. begins c.args.table c.args.pos b ≡ true) (λ b. begins c.args.table c.args.pos b ≡ false) self.later.items c.count_begun-begun.result =
    subst (λ (xs : List (Vec Change)). IsPartitionPoint (λ b. begins c.args.table c.args.pos b ≡ true) (λ b. begins c.args.table c.args.pos b ≡ false) xs c.count_begun-begun.result) c.as_slice.ensures.value c.count_begun-begun.ensures.parted in
    let all : AreBehind c.args.table c.args.pos (joined (drop c.count_begun-begun.result self.later.items)) = behind_from self.later.items c.count_begun-begun.result c.args.table c.args.pos up point in
    record { within = tt; before = tt; behind = subst (λ (n : ℕ). AreBehind c.args.table c.args.pos (joined (drop n self.later.items))) c.if-begun-eq0.true all }

pub returns-else-begun-eq0 : goal.returns-else-begun-eq0
returns-else-begun-eq0 c =
    let self = c.args.self.now in
    let begun = c.count_begun-begun.result in
    let up = ascends_right self.first.items (joined self.later.items) c.requires.ascends in
    let point : IsPartitionPoint (λ b. begins c.args.table c.args.pos b ≡ true) (λ b. begins c.args.table c.args.pos b ≡ false) self.later.items begun =
    subst (λ (xs : List (Vec Change)). IsPartitionPoint (λ b. begins c.args.table c.args.pos b ≡ true) (λ b. begins c.args.table c.args.pos b ≡ false) xs begun) c.as_slice.ensures.value c.count_begun-begun.ensures.parted in
    let bound : begun ≤ length self.later.items = subst (λ (xs : List (Vec Change)). begun ≤ length xs) c.as_slice.ensures.value c.count_begun-begun.ensures.within in
    let one : begun ≡ suc (begun - 1) = omega (arith, c.if-begun-eq0.false) in
    let within : begun - 1 < length self.later.items = omega (arith, bound, one) in
    let less : begun - 1 < begun = omega (arith, one) in
    let all : AreBehind c.args.table c.args.pos (joined (drop begun self.later.items)) = behind_from self.later.items begun c.args.table c.args.pos up point in
    record {
      within = within;
      before = before_block self.first.items self.later.items (begun - 1) c.args.table c.args.pos self.first c.requires.ascends within (point.0 (begun - 1) self.first (omega arith) less);
      behind = subst (λ (n : ℕ). AreBehind c.args.table c.args.pos (joined (drop n self.later.items))) one all;
    }
