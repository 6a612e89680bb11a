-- What of a run is left after a part of it, for each state that a world shows.
use Rattle.std.proofs.Common.{◌≡◌, ◌∙◌, sym, subst, Result, Ok, Err}
use Rattle.std.specs.Prelude.{OnErr}
use Rattle.hy_machine.specs.declared.Setting.{Setting}
use Rattle.hy_machine.specs.States.{State}
use Rattle.hy_world.specs.Follows.{Follows}
use Rattle.hy_world.specs.Logged.{Extend, Approaches}
use Rattle.hy_world.specs.Worlds.{WorldData, ShowsState}
use Rattle.hy_world.proofs.Logs.{none_behind, extend_then}

-- a state is shown from which the rest leads to the end
pub record IsAhead (setting : Setting) (rest : State → State) (last : State) (now : WorldData) : Type 0 where
  pub state : State
  pub shows : ShowsState setting state now
  pub leads : rest state ≡ last

-- of each state that was shown, the rest leads to what the whole makes of it
abbrev pub Ahead : (Setting → State → State) → (Setting → State → State) → WorldData → WorldData → Type 0
Ahead rest whole from now = (setting : Setting) (state : State) → ShowsState setting state from → IsAhead setting (rest setting) (whole setting state) now

-- before anything is done all is left
pub all_ahead : (rest whole : Setting → State → State) (now : WorldData)
    → ((setting : Setting) (state : State) → ShowsState setting state now → rest setting state ≡ whole setting state) → Ahead rest whole now now
all_ahead rest whole now leads = λ setting state shows. record { state = state; shows = shows; leads = leads setting state shows }

-- what is done goes from the rest
pub goes_on : (rest done left whole : Setting → State → State) (from now next : WorldData) → Ahead rest whole from now → Follows done now next
    → ((setting : Setting) (state : State) → ShowsState setting state now → left setting (done setting state) ≡ rest setting state) → Ahead left whole from next
goes_on rest done left whole from now next ahead follows leads = λ setting state shows.
    let here = ahead setting state shows in
    record {
      state = done setting here.state;
      shows = follows setting here.state here.shows;
      leads = leads setting here.state here.shows ∙ here.leads;
    }

-- where what is left changes nothing, the whole is done
pub all_done : (rest whole : Setting → State → State) (from now : WorldData) → Ahead rest whole from now
    → ((setting : Setting) (state : State) → ShowsState setting state now → rest setting state ≡ state) → Follows whole from now
all_done rest whole from now ahead stays = λ setting state shows.
    let here = ahead setting state shows in
    subst (λ (last : State). ShowsState setting last now) (sym (stays setting here.state here.shows) ∙ here.leads) here.shows

-- ---- what breaks off

-- it is said of a result that is an error
pub if_err : {T E : Type 0} (r : Result T E) (P : Type 0) → P → OnErr r P
if_err (Ok x) P h = tt
if_err (Err e) P h = h

-- what is done is on its way
pub near_done : (makes : Setting → State → State) (from now : WorldData) → Follows makes from now → Approaches makes from now
near_done makes from now follows = λ setting state shows.
    record { state = makes setting state; shows = follows setting state shows; first = none_behind (makes setting state).order }

-- nothing is done yet of what makes the order grow
pub near_undone : (makes : Setting → State → State) (now : WorldData)
    → ((setting : Setting) (state : State) → Extend state.order (makes setting state).order) → Approaches makes now now
near_undone makes now grows = λ setting state shows. record { state = state; shows = shows; first = grows setting state }

-- a first part breaks off, behind which the order grows
pub breaks_early : (first last : Setting → State → State) (from next : WorldData) → Approaches first from next
    → ((setting : Setting) (state : State) → Extend state.order (last setting state).order)
    → Approaches (λ setting state. last setting (first setting state)) from next
breaks_early first last from next near grows = λ setting state shows.
    let there = near setting state shows in
    let made : State = first setting state in
    record {
      state = there.state;
      shows = there.shows;
      first = extend_then there.state.order made.order (last setting made).order there.first (grows setting made);
    }

-- or the last one, behind a first one that is done
pub breaks_late : (first last : Setting → State → State) (from now next : WorldData) → Follows first from now → Approaches last now next
    → Approaches (λ setting state. last setting (first setting state)) from next
breaks_late first last from now next follows near = λ setting state shows. near setting (first setting state) (follows setting state shows)

-- a part of the rest breaks off
pub breaks_off : (rest done whole : Setting → State → State) (from now next : WorldData) → Ahead rest whole from now → Approaches done now next
    → ((setting : Setting) (state : State) → ShowsState setting state now → Extend (done setting state).order (rest setting state).order)
    → Approaches whole from next
breaks_off rest done whole from now next ahead near grows = λ setting state shows.
    let here = ahead setting state shows in
    let there = near setting here.state here.shows in
    record {
      state = there.state;
      shows = there.shows;
      first = subst (λ (last : State). Extend there.state.order last.order) here.leads
          (extend_then there.state.order (done setting here.state).order (rest setting here.state).order there.first (grows setting here.state here.shows));
    }
