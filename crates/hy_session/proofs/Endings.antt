-- A session whose open transaction ends.
use Rattle.std.proofs.Common.{◌≡◌, ℕ, List, [], ◌∷◌, ◌++◌, ap, ◌∙◌, sym, refl, map, length, false, None, Some}
use Rattle.std.specs.Prelude.{if◌then◌else◌}
use Rattle.std.specs.List.{range_with_len}
use Rattle.hy_bound.specs.declared.Ending.{Ending}
use Rattle.hy_render.specs.declared.Place.{Place}
use Rattle.hy_render.specs.declared.TxnOutcome.{TxnOutcome}
use Rattle.hy_stamp.specs.declared.Label.{Label}
use Rattle.hy_event.specs.declared.SessionData.{SessionData}
use Rattle.hy_event.specs.declared.Open.{Open}
use Rattle.hy_protocol.specs.declared.Phase.{Phase}
use Rattle.hy_protocol.specs.declared.Phase.TheVariants.{Working, Stamping, Undoing}
use Rattle.hy_protocol.specs.Turns.{is_stamping}
use Rattle.hy_event.specs.Ended.{outcome_of, placed_in, statements_in}
use Rattle.hy_event.specs.Sessions.{label_of, txn_at, written, written_in}
use Rattle.hy_event.specs.Turns.{done_with, with_ended}

-- the positions that it wrote: it kept them at its entry, or they were given
written_at : (now : Open) (phase : Phase) (places : List Place) → (is_stamping phase ≡ false → places ≡ written_in now phase)
    → (if is_stamping phase then now.wrote else places) ≡ written_in now phase
written_at now (Working visited count) places given = given refl
written_at now (Stamping visited) places given = refl
written_at now (Undoing visited cause) places given = given refl

-- how many positions of each table it took
abbrev pub placed_of : SessionData → Open → List ℕ
placed_of session now = map (λ table. placed_in table (statements_in (txn_at session)) now.took) (range_with_len 0 (length session.shapes))

-- an outcome of these parts
abbrev pub outcome_by : Open → Ending → Label → List Place → List ℕ → TxnOutcome
outcome_by now ending label wrote placed =
    record { label = label; start = now.prefix; replies = now.replies; ending = ending; wrote = wrote; placed = placed }

-- its outcome stands behind those of the others
pub ended_by : (session : SessionData) (now : Open) (ending : Ending) (label : Label) (places wrote : List Place) (placed : List ℕ) (done : List TxnOutcome)
    → session.now ≡ Some now → label ≡ label_of session → (is_stamping now.phase ≡ false → places ≡ written now)
    → wrote ≡ (if is_stamping now.phase then now.wrote else places) → placed ≡ placed_of session now
    → done ≡ session.done ++ outcome_by now ending label wrote placed ∷ [] → record session { done = done; now = None } ≡ with_ended ending session
ended_by session now ending label places wrote placed done opened labelled given wrote_is placed_is after =
    let same : outcome_by now ending label wrote placed ≡ outcome_of session now ending =
    ap (λ (l : Label). outcome_by now ending l wrote placed) labelled
    ∙ (ap (λ (w : List Place). outcome_by now ending (label_of session) w placed) (wrote_is ∙ written_at now now.phase places given)
    ∙ ap (outcome_by now ending (label_of session) (written now)) placed_is) in
    let all : done ≡ done_with session ending session.now =
    after ∙ (ap (λ (last : TxnOutcome). session.done ++ last ∷ []) same ∙ ap (done_with session ending) (sym opened)) in
    ap (λ (outcomes : List TxnOutcome). record session { done = outcomes; now = None }) all
