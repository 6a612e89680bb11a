-- Steps of sessions in any order, after which every session has ended, are a run by a schedule of single steps.
use Rattle.std.proofs.Common.{◌≡◌, ◌∙◌, ℕ, zero, suc, List, [], ◌∷◌, Bool, false, true, cond, map, ap, sym, subst, refl, Result, Ok, Err}
use Rattle.std.specs.Prelude.{IfOk}
use Rattle.hy_bound.specs.declared.schedule.Item.{Item}
use Rattle.hy_machine.specs.declared.Setting.{Setting}
use Rattle.hy_machine.specs.States.{State}
use Rattle.hy_machine.specs.Measures.{measure_of}
use Rattle.hy_machine.specs.Steps.{step_of}
use Rattle.hy_machine.specs.Runs.{RunsAreSteps, RunsEnd, IsReached, opening_of, after_steps, all_ended_from, items_of, repeated, round_of, rounds_of, run_of}
use Rattle.hy_render.specs.declared.Outcome.{Outcome}
use Rattle.hy_stepping.specs.Outcomes.{EndsAreTheMachines, are_done}
use Rattle.hy_world.specs.Follows.{Tells}
use Rattle.hy_world.specs.SomeRuns.{IsSomeRun, ShowsSomeRun}
use Rattle.hy_world.specs.Worlds.{WorldData, ShowsState, parts_of}

-- one step of a session
abbrev pub single : ℕ → Item
single number = record { session = number; whole = false }

pub singles_step : (setting : Setting) (state : State) (numbers : List ℕ) → items_of setting state (map single numbers) ≡ after_steps setting state numbers
singles_step setting state [] = refl
singles_step setting state (number ∷ numbers) = singles_step setting (step_of setting state number).0 numbers

chosen : (b : Bool) (one other : State) → b ≡ true → cond b one other ≡ one
chosen true one other is = refl
chosen false one other is = absurd (cc is)

-- where every session has ended, rounds change nothing
no_more : (most : ℕ) (setting : Setting) (state : State) → all_ended_from setting 0 state.sessions ≡ true → repeated most setting state ≡ state
unfolding repeated
no_more zero setting state ended = refl
no_more (suc most) setting state ended =
    chosen (all_ended_from setting 0 state.sessions) state (repeated most setting (round_of setting state)) ended

pub run_by_steps : (setting : Setting) (state : State) → IsReached setting state → all_ended_from setting 0 state.sessions ≡ true
    → (schedule : List Item) × (run_of setting schedule ≡ state)
run_by_steps setting state reached ended =
    let last : items_of setting (opening_of setting) (map single reached.0) ≡ state =
    singles_step setting (opening_of setting) reached.0 ∙ sym reached.1 in
    (map single reached.0, ap (rounds_of setting) last ∙ no_more (measure_of setting state) setting state ended)

-- so a world that shows such a state shows a run by some schedule
pub shows_some_run : (setting : Setting) (world : WorldData) (state : State) → ShowsState setting state world
    → all_ended_from setting 0 state.sessions ≡ true → ShowsSomeRun setting world
shows_some_run setting world state shows ended =
    let by = run_by_steps setting state shows.shown.reached ended in
    record { schedule = by.0; shows = subst (λ (last : State). ShowsState setting last world) (sym by.1) shows }

-- and what it tells is what the machine comes to by some steps
pub some_run_told : {E : Type 0} (r : Result Outcome E) → EndsAreTheMachines → RunsAreSteps → RunsEnd → (setting : Setting) (world : WorldData)
    → ShowsSomeRun setting world → IfOk r (λ outcome. Tells world outcome) → IfOk r (λ outcome. IsSomeRun setting outcome)
some_run_told (Ok outcome) are steps ends setting world some tells =
    let last : State = run_of setting some.schedule in
    let over : are_done world.sessions ≡ true =
    are setting last (parts_of world.chunks world.core) world.sessions some.shows.shown ∙ ends setting some.schedule in
    record {
      state = last;
      reached = steps setting some.schedule;
      ended = ends setting some.schedule;
      outcome_is = tells setting last some.shows over;
    }
some_run_told (Err e) are steps ends setting world some tells = tt
