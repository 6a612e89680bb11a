-- What of a run's steps is left to trace after some of them, for each state that a world shows.
use Rattle.std.proofs.Common.{◌≡◌, ℕ, suc, ◌+◌, List, [], ◌∷◌, ◌++◌, length, refl, ap, sym, ◌∙◌, subst, arith, append_assoc}
use Rattle.std.proofs.lemmas.List.{append-nil, length-append}
use Rattle.hy_protocol.specs.declared.Progress.{Progress}
use Rattle.hy_render.specs.declared.Names.{Names}
use Rattle.hy_machine.specs.declared.Setting.{Setting}
use Rattle.hy_machine.specs.States.{State}
use Rattle.hy_machine.specs.Runs.{after_steps}
use Rattle.hy_world.specs.Worlds.{WorldData, ShowsState}
use Rattle.hy_trace.specs.Trace.{lines_from}
use Rattle.hy_trace.specs.Traced.{Lines, AreLines, Writes, WritesStep}
use Rattle.hy_trace.proofs.Taken.{steps_joined}
use Rattle.hy_trace.proofs.Written.{lines_joined}

-- steps that are taken from a state
abbrev pub Taking : Type 0
Taking = Setting → State → List ℕ

-- steps are traced from a state to one that is shown, and then these are left of all
pub record IsAhead (names : Names) (rest : Taking) (all : List ℕ) (setting : Setting) (from : State) (now : WorldData) (before after : Lines) : Type 0 where
  pub done : List ℕ
  pub are : AreLines names setting from done now before after
  pub split : all ≡ done ++ rest setting (after_steps setting from done)

-- so for each state that was shown
abbrev pub Ahead : Names → Taking → Taking → WorldData → WorldData → Lines → Lines → Type 0
Ahead names rest all from now before after =
    (setting : Setting) (state : State) → ShowsState setting state from → IsAhead names rest (all setting state) setting state now before after

-- no step
none_done : (names : Names) (setting : Setting) (state : State) (now : WorldData) (lines : Lines) → ShowsState setting state now
    → AreLines names setting state [] now lines lines
none_done names setting state now lines shows = record { shows = shows; text = sym (append-nil lines.1); count = omega arith }

-- steps, and then others
both_done : (names : Names) (setting : Setting) (state : State) (xs ys : List ℕ) (now next : WorldData) (before mid after : Lines)
    → AreLines names setting state xs now before mid → AreLines names setting (after_steps setting state xs) ys next mid after
    → AreLines names setting state (xs ++ ys) next before after
both_done names setting state xs ys now next before mid after first second = record {
  shows = subst (λ (last : State). ShowsState setting last next) (sym (steps_joined setting state xs ys)) second.shows;
  text =
      let here : State = after_steps setting state xs in
      let one : List ℕ = lines_from names setting before.0 state xs in
      second.text
      ∙ (ap (λ (n : ℕ). mid.1 ++ lines_from names setting n here ys) first.count
      ∙ (ap (λ (text : List ℕ). text ++ lines_from names setting (before.0 + length xs) here ys) first.text
      ∙ (append_assoc before.1 one (lines_from names setting (before.0 + length xs) here ys)
      ∙ ap (λ (text : List ℕ). before.1 ++ text) (sym (lines_joined names setting before.0 state xs ys)))));
  count =
      let long = length-append xs ys in
      let first_count = first.count in
      let second_count = second.count in
      omega (arith, long, first_count, second_count);
}

-- before anything is traced all is left
pub all_ahead : (names : Names) (rest all : Taking) (now : WorldData) (lines : Lines)
    → ((setting : Setting) (state : State) → ShowsState setting state now → rest setting state ≡ all setting state) → Ahead names rest all now now lines lines
all_ahead names rest all now lines same = λ setting state shows.
    record { done = []; are = none_done names setting state now lines shows; split = sym (same setting state shows) }

-- what is traced goes from the rest
pub goes_on : (names : Names) (rest part left all : Taking) (from now next : WorldData) (before mid after : Lines)
    → Ahead names rest all from now before mid → Writes names part now next mid after
    → ((setting : Setting) (state : State) → ShowsState setting state now
    → rest setting state ≡ part setting state ++ left setting (after_steps setting state (part setting state)))
    → Ahead names left all from next before after
goes_on names rest part left all from now next before mid after ahead writes splits = λ setting state shows.
    let here = ahead setting state shows in
    let mids : State = after_steps setting state here.done in
    let these : List ℕ = part setting mids in
    record {
      done = here.done ++ these;
      are = both_done names setting state here.done these now next before mid after here.are (writes setting mids here.are.shows);
      split =
          here.split
          ∙ (ap (λ (steps : List ℕ). here.done ++ steps) (splits setting mids here.are.shows)
          ∙ (sym (append_assoc here.done these (left setting (after_steps setting mids these)))
          ∙ ap (λ (last : State). (here.done ++ these) ++ left setting last) (sym (steps_joined setting state here.done these))));
    }

-- where none is left, all are traced
pub all_done : (names : Names) (rest all : Taking) (from now : WorldData) (before after : Lines) → Ahead names rest all from now before after
    → ((setting : Setting) (state : State) → ShowsState setting state now → rest setting state ≡ []) → Writes names all from now before after
all_done names rest all from now before after ahead none = λ setting state shows.
    let here = ahead setting state shows in
    let same : here.done ≡ all setting state =
    sym (here.split ∙ (ap (λ (steps : List ℕ). here.done ++ steps) (none setting (after_steps setting state here.done) here.are.shows)
    ∙ append-nil here.done)) in
    subst (λ (steps : List ℕ). AreLines names setting state steps now before after) same here.are

-- one step
pub one_written : (names : Names) (number : ℕ) (stepped : Progress) (now next : WorldData) (before after : Lines)
    → WritesStep names number stepped now next before after → Writes names (λ setting state. number ∷ []) now next before after
one_written names number stepped now next before after writes = λ setting state shows.
    let here = writes setting state shows in
    record { shows = here.shows; text = here.text; count = let counted = here.count in omega (arith, counted) }

-- a first part, and then another from where it leads
pub then_written : (names : Names) (first second all : Taking) (from now next : WorldData) (before mid after : Lines)
    → Writes names first from now before mid → Writes names second now next mid after
    → ((setting : Setting) (state : State) → all setting state ≡ first setting state ++ second setting (after_steps setting state (first setting state)))
    → Writes names all from next before after
then_written names first second all from now next before mid after one other splits = λ setting state shows.
    let here = one setting state shows in
    let there = other setting (after_steps setting state (first setting state)) here.shows in
    subst (λ (steps : List ℕ). AreLines names setting state steps next before after) (sym (splits setting state))
    (both_done names setting state (first setting state) (second setting (after_steps setting state (first setting state))) now next before mid after here there)
