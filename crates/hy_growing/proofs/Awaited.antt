-- Where the laws of a line end: a COMMIT for a transaction that has ended by ROLLBACK, to which no steps lead; and a turn at a
-- script's end, which begins the transaction that a line adds.
use Rattle.std.proofs.Common.{◌≡◌, ◌⊎◌, ℕ, zero, suc, List, [], ◌∷◌, map, refl, ap, ◌∙◌, sym, false, inl, inr}
use Rattle.hy_bound.specs.declared.Ending.{Ending}
use Rattle.hy_machine.specs.declared.Setting.{Setting}
use Rattle.hy_machine.specs.States.{State, Finished}
use Rattle.hy_machine.specs.Sessions.{session_at}
use Rattle.hy_machine.specs.Steps.{step_of}
use Rattle.hy_machine.specs.Begun.{count_open}
use Rattle.hy_machine.specs.Runs.{opening_of, after_steps, items_of, moves}
use Rattle.hy_event.specs.declared.lines.SessionLine.TheVariants.{Begin, Commit}
use Rattle.hy_event.specs.Lines.{opened}
use Rattle.hy_growing.specs.Growing.{pushed, whole_item, AnyLineIsReached, AnyItemsGoOn}

-- no tables, and a session with a transaction that says nothing
abbrev short : Setting
short = record { chunks = 0; rows = 0; shapes = []; first = []; programs = (opened false ∷ []) ∷ [] }

abbrev long : Setting
long = pushed short 0 Commit

-- the transaction begins and ends
abbrev rolled : State
rolled = after_steps short (opening_of short) (0 ∷ 0 ∷ [])

abbrev began : State
began = (step_of long (opening_of long) 0).0

abbrev committed : State
committed = (step_of long began 0).0

-- how the session's transactions ended
abbrev endings : State → List Ending
endings state = map (λ (finished : Finished). finished.ending) (session_at state 0).done

from_committed : (numbers : List ℕ) → after_steps long committed numbers ≡ committed
from_committed [] = refl
from_committed (zero ∷ numbers) = from_committed numbers
from_committed (suc number ∷ numbers) = from_committed numbers

from_began : (numbers : List ℕ) → (after_steps long began numbers ≡ began) ⊎ (after_steps long began numbers ≡ committed)
from_began [] = inl refl
from_began (zero ∷ numbers) = inr (from_committed numbers)
from_began (suc number ∷ numbers) = from_began numbers

from_opening : (numbers : List ℕ) → (after_steps long (opening_of long) numbers ≡ opening_of long)
    ⊎ ((after_steps long (opening_of long) numbers ≡ began) ⊎ (after_steps long (opening_of long) numbers ≡ committed))
from_opening [] = inl refl
from_opening (zero ∷ numbers) = inr (from_began numbers)
from_opening (suc number ∷ numbers) = from_opening numbers

not_opening : rolled ≡ opening_of long → ⊥
not_opening e =
    let same : endings rolled ≡ endings (opening_of long) = ap endings e in
    absurd (cc same)

not_began : rolled ≡ began → ⊥
not_began e =
    let same : endings rolled ≡ endings began = ap endings e in
    absurd (cc same)

not_committed : rolled ≡ committed → ⊥
not_committed e =
    let same : endings rolled ≡ endings committed = ap endings e in
    absurd (cc same)

pub any_line_fails : AnyLineIsReached → ⊥
any_line_fails any =
    let reached = any short rolled 0 Commit ((0 ∷ 0 ∷ []), refl) (inl (record { closed = refl; all = refl })) in
    elim (from_opening reached.0) [
      | inl e ↦ not_opening (reached.1 ∙ e)
      | inr (inl e) ↦ not_began (reached.1 ∙ e)
      | inr (inr e) ↦ not_committed (reached.1 ∙ e)
    ]

-- ---- turns that were not answered

-- no tables, and a session with nothing to do
abbrev idle : Setting
idle = record { chunks = 0; rows = 0; shapes = []; first = []; programs = [] ∷ [] }

abbrev begins : Setting
begins = pushed idle 0 (Begin false)

-- how many transactions the session has open
abbrev open_count : State → ℕ
open_count state = count_open (session_at state 0).now

idles : items_of idle (opening_of idle) (map whole_item (0 ∷ [])) ≡ opening_of idle
unfolding moves
idles = refl

has_begun : open_count (items_of begins (opening_of begins) (map whole_item (0 ∷ []))) ≡ 1
unfolding moves
has_begun = refl

pub any_items_fail : AnyItemsGoOn → ⊥
any_items_fail any =
    let same = any idle (opening_of idle) (0 ∷ []) 0 (Begin false) idles (record { closed = refl; all = refl }) in
    let none : 1 ≡ 0 = sym has_begun ∙ ap open_count same in
    absurd (cc none)
