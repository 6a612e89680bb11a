-- Where a statement goes past chunks, its session does, and its open transaction keeps what it has.
use Rattle.std.proofs.Common.{◌≡◌, ℕ, List, [], ◌∷◌, Option, None, Some, length, refl, ap, ◌∙◌, sym, subst}
use Rattle.std.specs.Borrow.{Bor}
use Rattle.std.specs.Option.{option_copied}
use Rattle.std.specs.Prelude.{IfSome, slice_get}
use Rattle.hy_bound.specs.declared.Bound.{Bound}
use Rattle.hy_bound.specs.declared.Bound.TheVariants.{Select, Group, Insert, Update, Delete, Savepoint, RollbackTo, Release}
use Rattle.hy_bound.specs.declared.Shape.{Shape}
use Rattle.hy_bound.specs.declared.Txn.{Txn}
use Rattle.hy_plan.specs.declared.PlanPart.{PlanPart}
use Rattle.hy_chunk.specs.Views.{Whole}
use Rattle.hy_visit.specs.Readers.{IsPlanOf, plan_by}
use Rattle.hy_protocol.specs.declared.Phase.TheVariants.{Working}
use Rattle.hy_event.specs.declared.SessionData.{SessionData}
use Rattle.hy_event.specs.declared.Open.{Open}
use Rattle.hy_event.specs.declared.Need.TheVariants.{Chunk}
use Rattle.hy_event.specs.Needs.{need_of}
use Rattle.hy_event.specs.Sessions.{txn_at}
use Rattle.hy_event.specs.Turns.{with_open}
use Rattle.hy_session.specs.declared.prepared.Prepared.{Prepared}
use Rattle.hy_session.specs.declared.visitors.Visitor.{Visitor}
use Rattle.hy_session.specs.Passing.{GoneBy, GoneNowhere, IsFirstPart, Passes, ReadOn, ReadTo}
use Rattle.hy_session.specs.Preparing.{IsKept, statement_at}
use Rattle.hy_session.specs.Visitors.{IsVisitor}
use Rattle.hy_session.proofs.PassedChunks.{gone_keeps, session_passes}
use Rattle.hy_session.proofs.ReadChunks.{session_reads}
use Rattle.hy_session.proofs.SparedChunks.{session_spares}

-- what is taken of the first table of a SELECT is by the plan that is kept, if it is known
abbrev pub IsKnownPart : Option Prepared → ℕ → ℕ → Option PlanPart → Type 0
IsKnownPart prepared txn number None = Unit {0}
IsKnownPart prepared txn number (Some part) = IsFirstPart prepared txn number part

module _ (session : SessionData) (visitor : Visitor) (txn : Txn) (now after : Open) (visited count : ℕ) (is : IsVisitor session visitor)
    (there : txn_at session ≡ Some txn) (opened : session.now ≡ Some now) (works : now.phase ≡ Working visited count) where
  nowhere : (chunks : List Whole) → GoneNowhere now chunks after → (table number : ℕ) → Passes session table number chunks (with_open after session)
  nowhere chunks gone table number =
      subst (λ (all : List Whole). Passes session table number all (with_open after session)) (sym gone.none)
      (ap (λ (o : Option Open). record session { now = o }) (ap (λ (one : Open). Some one) gone.same ∙ sym opened))

  module _ (prepared : Option Prepared) (kept : IsKept session.shapes session.program prepared)
      (at : (statement : Bound) → slice_get txn.statements (length now.replies) ≡ Some statement
      → statement_at session.program (length session.done) (length now.replies) ≡ Some statement) where
    reads : (statement : Bound) (part : Option PlanPart) (chunks : List Whole) → slice_get txn.statements (length now.replies) ≡ Some statement
        → IsKnownPart prepared (length session.done) (length now.replies) part → ReadOn visitor.chunks part visited now chunks after
        → (table number : ℕ) → need_of session ≡ Chunk table number → Passes session table number chunks (with_open after session)
    reads statement None chunks present known gone table number need = nowhere chunks gone table number
    reads statement (Some part) chunks present known gone table number need =
        let whole : Prepared = record { txn = length session.done; statement = length now.replies; reader = known.reader } in
        let plans : IsKept session.shapes session.program (Some whole) =
        subst (λ (p : Option Prepared). IsKept session.shapes session.program p) known.kept kept in
        let planned : IsPlanOf session.shapes statement (plan_by known.reader) = (plans.runs whole refl statement (at statement present)).planned in
        session_reads session visitor txn now after visited count statement known.reader part chunks is there opened works present planned known.first gone
        table number need

    pub session_goes : (statement : Bound) (part : Option PlanPart) (chunks : List Whole) → slice_get txn.statements (length now.replies) ≡ Some statement
        → IsKnownPart prepared (length session.done) (length now.replies) part → GoneBy visitor statement part visited count now chunks after
        → (table number : ℕ) → need_of session ≡ Chunk table number → Passes session table number chunks (with_open after session)
    session_goes (Select tables ons pred items) part chunks present known gone = reads (Select tables ons pred items) part chunks present known gone
    session_goes (Group table pred key aggregate) part chunks present known gone = reads (Group table pred key aggregate) part chunks present known gone
    session_goes (Insert table row) part chunks present known gone =
        session_passes session visitor txn now after visited count table row chunks is there opened works present gone
    session_goes (Update table sets pred) part chunks present known gone =
        session_spares session visitor txn now after visited count table (Some sets) pred (Update table sets pred) chunks is there opened works present refl gone
    session_goes (Delete table pred) part chunks present known gone =
        session_spares session visitor txn now after visited count table None pred (Delete table pred) chunks is there opened works present refl gone
    session_goes (Savepoint name) part chunks present known gone = λ table number need. nowhere chunks gone table number
    session_goes (RollbackTo name) part chunks present known gone = λ table number need. nowhere chunks gone table number
    session_goes (Release name) part chunks present known gone = λ table number need. nowhere chunks gone table number

-- what doesn't depend on where it stands stays
module _ (P : Open → Type 0) (step : (now : Open) (visited count : ℕ) → P now → P (record now { phase = Working visited count })) (visitor : Visitor)
    (visited count : ℕ) (now after : Open) (chunks : List Whole) (h : P now) where
  stays : GoneNowhere now chunks after → P after
  stays gone = subst P (sym gone.same) h

  stays_read : (part : Option PlanPart) → ReadOn visitor.chunks part visited now chunks after → P after
  stays_read None gone = stays gone
  stays_read (Some part) gone = subst P (sym gone.gone.moved) (gone_keeps P step 0 visited (length chunks) now h)

  pub gone_stays : (statement : Bound) (part : Option PlanPart) → GoneBy visitor statement part visited count now chunks after → P after
  gone_stays (Select tables ons pred items) part gone = stays_read part gone
  gone_stays (Group table pred key aggregate) part gone = stays_read part gone
  gone_stays (Insert table row) part gone = subst P (sym gone.moved) (gone_keeps P step 0 visited (length chunks) now h)
  gone_stays (Update table sets pred) part gone = subst P (sym gone.moved) (gone_keeps P step count visited (length chunks) now h)
  gone_stays (Delete table pred) part gone = subst P (sym gone.moved) (gone_keeps P step count visited (length chunks) now h)
  gone_stays (Savepoint name) part gone = stays gone
  gone_stays (RollbackTo name) part gone = stays gone
  gone_stays (Release name) part gone = stays gone

-- what is known of the kept plan, by the session's own numbers
pub known_part : (prepared : Option Prepared) (txn number at to : ℕ) (part : Option (Bor PlanPart)) → txn ≡ at → number ≡ to
    → IfSome part (λ one. IsFirstPart prepared txn number one.now) → IsKnownPart prepared at to (option_copied part)
known_part prepared txn number at to None e f is = tt
known_part prepared txn number at to (Some part) e f is =
    subst (λ (n : ℕ). IsFirstPart prepared n to part.now) e (subst (λ (n : ℕ). IsFirstPart prepared txn n part.now) f is)
