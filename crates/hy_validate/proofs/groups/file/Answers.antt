use Rattle.std.proofs.Common.{rules, ◌≡◌, ℕ, ◌<◌, ◌∷◌, [], ◌++◌, List, length, get_or, sym, ap, ◌∙◌, arith, subst}
use Rattle.std.specs.Prelude.{All}
use Rattle.hy_bound.specs.Condition.{Condition}
use Rattle.hy_validate.specs.declared.groups.Group.{Group}
use Rattle.hy_validate.specs.FirstConditions.{first_condition_of}
use Rattle.hy_validate.specs.Groups.{IsOf, IsTakenIn}
use Rattle.hy_validate.proofs.Filing.{one_in_its_group, one_in_a_new_group}
use Rattle.hy_validate.proofs.groups.file.Goals as goal

pub returns-in_ok-add-in-Some : goal.returns-in_ok-add-in-Some
returns-in_ok-add-in-Some c =
    let logged = c.index-records-number.result in
    let group = c.index_mut.result.now in
    let groups = c.args.groups.now.items in
    let there : get_or groups c.in-Some.at group ≡ group = search rules in
    let len = ap length c.as_slice.ensures.value in
    let within : c.in-Some.at < length groups = omega (arith, len, c.in-Some.ensures.within) in
    let found : IsOf logged.table c.first_condition-first.result.now group =
    subst (λ (g : Group). IsOf logged.table c.first_condition-first.result.now g) there
    (subst (λ (gs : List Group). IsOf logged.table c.first_condition-first.result.now (get_or gs c.in-Some.at group))
    c.as_slice.ensures.value (c.in-Some.ensures.of group)) in
    let of : IsOf logged.table (first_condition_of logged.pred) group =
    subst (λ (first : Condition). IsOf logged.table first group) c.first_condition-first.ensures found in
    let same : IsOf group.table group.first.now c.add.new.self = c.add.ensures.of in
    let is : c.in_ok-number.number ≡ c.args.number = c.in_ok-number.ensures in
    let numbers : c.add.new.self.numbers.items ≡ group.numbers.items ++ c.args.number ∷ [] =
    c.in_ok-add-in-Some.ensures.numbers ∙ ap (λ (n : ℕ). group.numbers.items ++ n ∷ []) is in
    one_in_its_group c.args.records.now c.args.number logged groups c.in-Some.at group c.add.new.self
    c.requires.within (sym c.index-records-number.is) within there of same numbers c.requires.grouped

pub returns-in_ok-push-in-None : goal.returns-in_ok-push-in-None
returns-in_ok-push-in-None c =
    let logged = c.index-records-number.result in
    let group = c.in_ok-new-in-None.field-0 in
    let groups = c.args.groups.now.items in
    let first : c.first_condition-first.result.now ≡ first_condition_of logged.pred = c.first_condition-first.ensures in
    let none : All (λ g. IsOf logged.table (first_condition_of logged.pred) g → ⊥) groups =
    subst (λ (f : Condition). All (λ g. IsOf logged.table f g → ⊥) groups) first
    (subst (λ (gs : List Group). All (λ g. IsOf logged.table c.first_condition-first.result.now g → ⊥) gs) c.as_slice.ensures.value c.in-None.ensures.none) in
    let of : IsOf logged.table (first_condition_of logged.pred) group =
    subst (λ (f : Condition). IsOf logged.table f group) first c.in_ok-new-in-None.ensures.of in
    let numbers : group.numbers.items ≡ c.args.number ∷ [] = c.in_ok-new-in-None.ensures.numbers ∙ ap (λ (n : ℕ). n ∷ []) c.in_ok-number.ensures in
    let pushed : c.push.new.self.items ≡ groups ++ group ∷ [] = search rules in
    subst (λ (gs : List Group). IsTakenIn c.args.records.now c.args.number groups gs) (sym pushed)
    (one_in_a_new_group c.args.records.now c.args.number logged groups group c.requires.within
    (sym c.index-records-number.is) none of numbers c.requires.grouped)
