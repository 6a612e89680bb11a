use Rattle.std.proofs.Common.{ℕ, List, [], ap, sym, ◌∙◌}
use Rattle.std.specs.Prelude.{None, filter}
use Rattle.hy_bound.specs.Predicate.{truth_of}
use Rattle.hy_bound.specs.Records.{select_conditions}
use Rattle.hy_meaning.specs.Statement.{Table, product, shown, answer_of}
use Rattle.hy_plan.specs.Plans.{plan_of}
use Rattle.hy_plan.specs.Reads.{select_named}
use Rattle.hy_plan.specs.Restricted.{conditions_named}
use Rattle.hy_plan.specs.declared.Plan.{Plan}
use Rattle.hy_gathered.specs.Answers.{spread_all}
use Rattle.hy_laws.specs.Lookups.{looked_up}
use Rattle.hy_laws.proofs.LookedUp.{looked_up_again}
use Rattle.hy_laws.proofs.AsRead.{looked_up_read}
use Rattle.hy_laws.proofs.look_ups.looked_up_rows_answer.Goals as goal

-- what is looked up answers as what is gathered of it by restrictions alone
pub returns : goal.returns
returns c shapes numbers ons pred items tables fits keys =
    let plan : Plan = plan_of shapes numbers ons pred items in
    let now : List Table = spread_all plan.parts (looked_up plan.parts tables) in
    let named : List ℕ = select_named ons pred items in
    let again = looked_up_again shapes (select_conditions ons pred) named (conditions_named ons pred items) 0 [] None ons numbers tables fits in
    ap (λ (ts : List Table). shown items (filter (truth_of plan.rest) (product ts))) (sym again.1)
    ∙ (c.gathered_rows_answer.ensures shapes numbers ons pred items now again.0
    ∙ (ap (answer_of ons pred items) (looked_up_read shapes numbers ons pred items tables fits)
    ∙ sym (c.answers_depend_on_what_is_read.ensures shapes numbers ons pred items tables fits keys)))
