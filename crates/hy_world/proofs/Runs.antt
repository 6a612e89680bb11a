-- A run of a world that shows the opening comes to the machine's outcome.
use Rattle.std.proofs.Common.{◌≡◌, List, ◌∙◌, true, Result, Ok, Err}
use Rattle.std.specs.Prelude.{IfOk}
use Rattle.hy_render.specs.declared.Outcome.{Outcome}
use Rattle.hy_bound.specs.declared.schedule.Item.{Item}
use Rattle.hy_machine.specs.declared.Setting.{Setting}
use Rattle.hy_machine.specs.States.{State}
use Rattle.hy_machine.specs.Outcomes.{outcome_of}
use Rattle.hy_machine.specs.Runs.{RunsEnd, opening_of, items_of, rounds_of, run_of}
use Rattle.hy_stepping.specs.Outcomes.{EndsAreTheMachines, are_done}
use Rattle.hy_world.specs.Follows.{Follows, Tells}
use Rattle.hy_world.specs.Worlds.{WorldData, ShowsState, parts_of}

-- a schedule, and then the rounds
abbrev pub all_of : List Item → Setting → State → State
all_of items setting state = rounds_of setting (items_of setting state items)

pub run_told : {E : Type 0} (r : Result Outcome E) → EndsAreTheMachines → RunsEnd → (setting : Setting) (items : List Item) (world new : WorldData)
    → ShowsState setting (opening_of setting) world → Follows (all_of items) world new → IfOk r (λ outcome. Tells new outcome)
    → IfOk r (λ outcome. outcome ≡ outcome_of setting (run_of setting items))
run_told (Ok outcome) are ends setting items world new shows follows tells =
    let last : ShowsState setting (run_of setting items) new = follows setting (opening_of setting) shows in
    let over : are_done new.sessions ≡ true =
    are setting (run_of setting items) (parts_of new.chunks new.core) new.sessions last.shown ∙ ends setting items in
    tells setting (run_of setting items) last over
run_told (Err e) are ends setting items world new shows follows tells = tt
