-- What is kept is how the present statement is run, where its numbers are those of the present statement.
use Rattle.std.proofs.Common.{◌≡◌, ℕ, List, Option, None, Some, length, refl, ap, ◌∙◌}
use Rattle.std.specs.Option.{option_map_or}
use Rattle.std.proofs.lemmas.Option.{none-some}
use Rattle.std.specs.Prelude.{slice_get}
use Rattle.hy_bound.specs.declared.Bound.{Bound}
use Rattle.hy_bound.specs.declared.Txn.{Txn}
use Rattle.hy_event.specs.Ended.{statements_in}
use Rattle.hy_event.specs.declared.SessionData.{SessionData}
use Rattle.hy_event.specs.declared.Open.{Open}
use Rattle.hy_protocol.specs.declared.Phase.{Phase}
use Rattle.hy_protocol.specs.declared.Phase.TheVariants.{Working, Stamping, Undoing}
use Rattle.hy_session.specs.declared.prepared.Prepared.{Prepared}
use Rattle.hy_session.specs.Preparing.{IsKept, IsPlanFor, IsRunBy, statement_at, statement_by, statement_of}

module _ (session : SessionData) (kept : Prepared) (holds : IsKept session.shapes session.program (Some kept))
    (same_txn : kept.txn ≡ length session.done) where
  by_phase : (now : Open) (phase : Phase) → kept.statement ≡ length now.replies → (statement : Bound)
      → statement_by session now phase ≡ Some statement → IsRunBy session.shapes statement kept.reader
  by_phase now (Working visited count) same statement present = holds.runs kept refl statement
      (ap (λ (txn : ℕ). statement_at session.program txn kept.statement) same_txn
      ∙ (ap (λ (number : ℕ). statement_at session.program (length session.done) number) same ∙ present))
  by_phase now (Stamping visited) same statement present = elim (none-some statement present) [ ]
  by_phase now (Undoing visited cause) same statement present = elim (none-some statement present) [ ]

  by_turn : (turn : Option Open) → kept.statement ≡ option_map_or (λ (now : Open). length now.replies) turn 0 → (statement : Bound)
      → statement_of session turn ≡ Some statement → IsRunBy session.shapes statement kept.reader
  by_turn None same statement present = elim (none-some statement present) [ ]
  by_turn (Some now) same statement present = by_phase now now.phase same statement present

  -- so what is kept under the numbers of the present statement is for it
  pub kept_is_for : kept.statement ≡ option_map_or (λ (now : Open). length now.replies) session.now 0 → IsPlanFor session kept.reader
  kept_is_for same = by_turn session.now same
