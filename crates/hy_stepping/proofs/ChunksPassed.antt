-- A session may go past each chunk, and where it does the machine's steps go on.
use Rattle.std.proofs.Common.{◌≡◌, ℕ, zero, suc, ◌+◌, ◌*◌, List, [], ◌∷◌, length, Some, refl, ap, ◌∙◌, sym, subst, arith}
use Rattle.std.proofs.Math.ListN.{set}
use Rattle.std.specs.Prelude.{slice_get, ◌/◌, ◌%◌}
use Rattle.std.proofs.lemmas.Nat.{div-add-mod', div_below, mod_below}
use Rattle.std.proofs.lemmas.Option.{same_Some}
use Rattle.hy_chain.specs.Chains.{Falls}
use Rattle.hy_undo.specs.Places.{Place}
use Rattle.hy_chunk.specs.Views.{Whole}
use Rattle.hy_event.specs.declared.SessionData.{SessionData}
use Rattle.hy_event.specs.declared.Need.{Need}
use Rattle.hy_protocol.specs.declared.Progress.TheVariants.{Moved}
use Rattle.hy_event.specs.Needs.{need_of}
use Rattle.hy_event.specs.Events.{Part, ChunkPart, NeededVisit, part_number}
use Rattle.hy_machine.specs.declared.Setting.{Setting}
use Rattle.hy_machine.specs.States.{State}
use Rattle.hy_machine.specs.Runs.{is_moved}
use Rattle.hy_machine.specs.Steps.{step_of}
use Rattle.hy_refinement.specs.Parts.{IsChunkPart}
use Rattle.hy_session.specs.Passing.{Passes}
use Rattle.hy_stepping.specs.Runnable.{IsShown}
use Rattle.hy_stepping.specs.Steps.{ChunksMayBePassed, VisitsAreSteps, ArePartsFrom, ArePassed, PassesAreSteps}
use Rattle.hy_stepping.proofs.ChunkMarks.{all_places}

-- ---- each chunk

pub may_pass : ChunksMayBePassed
may_pass setting state parts sessions number chunk shown below found =
    let some = shown.runnable.some_chunk in
    let table : ℕ = number / setting.chunks in
    let index : ℕ = number % setting.chunks in
    let is_part : IsChunkPart setting parts table index chunk.shown =
    record {
      table_below = div_below number setting.chunks (length setting.shapes) some below;
      chunk_below = mod_below number setting.chunks some;
      found = ap (slice_get parts) (div-add-mod' number setting.chunks) ∙ found;
    } in
    all_places (λ (place : Place). Falls place.chain) chunk.shown.places
    (λ at place e. (shown.shows.places_show table index at chunk.shown place is_part e).falls)

-- ---- lists in which an element is put

set_got : {A : Type 0} (xs : List A) (i : ℕ) (x : A) → slice_get xs i ≡ Some x → set xs i x ≡ xs
set_got [] i x e = refl
set_got (y ∷ xs) zero x e = ap (λ z. z ∷ xs) (sym (same_Some y x e))
set_got (y ∷ xs) (suc i) x e = ap (λ zs. y ∷ zs) (set_got xs i x e)

got_set : {A : Type 0} (xs : List A) (i : ℕ) (x y : A) → slice_get xs i ≡ Some x → slice_get (set xs i y) i ≡ Some y
got_set [] i x y e = absurd (cc e)
got_set (z ∷ xs) zero x y e = refl
got_set (z ∷ xs) (suc i) x y e = got_set xs i x y e

set_twice : {A : Type 0} (xs : List A) (i : ℕ) (x y : A) → set (set xs i x) i y ≡ set xs i y
set_twice [] i x y = refl
set_twice (z ∷ xs) zero x y = refl
set_twice (z ∷ xs) (suc i) x y = ap (λ zs. z ∷ zs) (set_twice xs i x y)

-- ---- one after another

module _ (steps : VisitsAreSteps) (setting : Setting) (parts : List Part) (number table : ℕ) where
  passed_from : (chunks : List Whole) (state : State) (sessions : List SessionData) (session after : SessionData) (chunk : ℕ)
      → IsShown setting state parts sessions → slice_get sessions number ≡ Some session
      → ArePartsFrom parts (table * setting.chunks + chunk) chunks → Passes session table chunk chunks after
      → ArePassed setting state number (length chunks) parts sessions after
  passed_from [] state sessions session after chunk shown found at same = record {
    last = state;
    moves = refl;
    shown = subst (IsShown setting state parts) (sym (ap (set sessions number) same ∙ set_got sessions number session found)) shown;
  }
  passed_from (one ∷ chunks) state sessions session after chunk shown found at passed =
      let next : SessionData = passed.0 in
      let is = passed.1 in
      let place : ℕ = table * setting.chunks + chunk in
      let many : session.chunks ≡ setting.chunks = (shown.shows.sessions_show.each number session found).session_is.chunks in
      let numbered : part_number session (need_of session) ≡ Some place =
      ap (part_number session) is.needed ∙ ap (λ (n : ℕ). Some (table * n + chunk)) many in
      let Visit : Need → Type 0 = λ need. NeededVisit need session (ChunkPart one.shown) Moved next (ChunkPart one.shown) in
      let step = steps setting state parts sessions number session place (ChunkPart one.shown) Moved next (ChunkPart one.shown) shown found at.0 numbered
      (subst Visit (sym is.needed) is.event) in
      let stays : set parts place (ChunkPart one.shown) ≡ parts = set_got parts place (ChunkPart one.shown) at.0 in
      let here : IsShown setting (step_of setting state number).0 parts (set sessions number next) =
      subst (λ (ps : List Part). IsShown setting (step_of setting state number).0 ps (set sessions number next)) stays step.shown in
      let follows : suc place ≡ table * setting.chunks + suc chunk = omega arith in
      let there = passed_from chunks (step_of setting state number).0 (set sessions number next) next after (suc chunk) here
      (got_set sessions number session next found) (subst (λ (n : ℕ). ArePartsFrom parts n chunks) follows at.1) passed.2 in
      record {
        last = there.last;
        moves = (ap is_moved step.answer, there.moves);
        shown = subst (IsShown setting there.last parts) (set_twice sessions number next after) there.shown;
      }

pub passes_shown : VisitsAreSteps → PassesAreSteps
passes_shown steps setting state parts sessions number session table chunk chunks after shown found at passed =
    passed_from steps setting parts number table chunks state sessions session after chunk shown found at passed
