-- What holds of sessions stays true as the commit order grows and as another session is marked.
use Rattle.std.proofs.Common.{◌≡◌, ℕ, zero, suc, ◌<◌, ◌≤◌, List, [], ◌∷◌, ◌++◌, Option, None, Some, length, refl, ap, arith, inl, inr, ◌⊎◌}
use Rattle.std.proofs.lemmas.List.{length-append}
use Rattle.std.proofs.lemmas.Option.{same_Some}
use Rattle.hy_stamp.specs.declared.Label.{Label}
use Rattle.hy_bound.specs.declared.Ending.{Ending}
use Rattle.hy_bound.specs.declared.Ending.TheVariants.{Committed, Read, RolledBack, Conflict, Invalid, Range, Full}
use Rattle.hy_render.specs.declared.TxnOutcome.{TxnOutcome}
use Rattle.hy_machine.specs.declared.Setting.{Setting}
use Rattle.hy_protocol.specs.declared.Phase.{Phase}
use Rattle.hy_protocol.specs.declared.Phase.TheVariants.{Working, Stamping, Undoing}
use Rattle.hy_machine.specs.States.{Session, Open, Begun, Finished}
use Rattle.hy_machine.specs.Tables.{Entry}
use Rattle.hy_machine.specs.Outcomes.{txn_outcome_of}
use Rattle.hy_lawful.proofs.Lists.{each_so}
use Rattle.hy_lawful.proofs.Fits.{label_at, Ends, EndsAs, DoneFits, PhaseFits, NowFits, SessionFits}

-- an order has the entries of another one at their ranks
pub record Grows (order grown : List Entry) : Type 0 where
  pub stands : (rank : ℕ) (label : Label) → label_at order rank ≡ Some label → label_at grown rank ≡ Some label
  pub longer : length order ≤ length grown

pub grows_not : (order : List Entry) → Grows order order
grows_not order = record { stands = λ rank label e. e; longer = omega arith }

label_kept : (order more : List Entry) (rank : ℕ) (label : Label) → label_at order rank ≡ Some label → label_at (order ++ more) rank ≡ Some label
label_kept [] more rank label e = absurd cc
label_kept (entry ∷ order) more zero label e = e
label_kept (entry ∷ order) more (suc rank) label e = label_kept order more rank label e

pub grows_by : (order more : List Entry) → Grows order (order ++ more)
grows_by order more = record { stands = label_kept order more; longer = omega (arith, length-append order more) }

-- the label at a rank of an order with an entry more
pub label_of_more : (order : List Entry) (entry : Entry) (rank : ℕ) (label : Label) → label_at (order ++ entry ∷ []) rank ≡ Some label
    → (label_at order rank ≡ Some label) ⊎ ((rank ≡ length order) × (entry.label ≡ label))
label_of_more [] entry zero label e = inr (refl, same_Some entry.label label e)
label_of_more [] entry (suc rank) label e = absurd cc
label_of_more (first ∷ order) entry zero label e = inl e
label_of_more (first ∷ order) entry (suc rank) label e = elim (label_of_more order entry rank label e) [
  | inl h ↦ inl h
  | inr h ↦ inr (ap suc h.0, h.1)
]

pub last_label : (order : List Entry) (entry : Entry) → label_at (order ++ entry ∷ []) (length order) ≡ Some entry.label
last_label [] entry = refl
last_label (first ∷ order) entry = last_label order entry

pub label_within : (order : List Entry) (rank : ℕ) (label : Label) → label_at order rank ≡ Some label → rank < length order
label_within [] rank label e = absurd cc
label_within (entry ∷ order) zero label e = omega arith
label_within (entry ∷ order) (suc rank) label e = omega (arith, label_within order rank label e)

pub ends_grow : (setting : Setting) (order grown : List Entry) (txn : TxnOutcome) → Grows order grown → (ending : Ending)
    → Ends setting order txn ending → Ends setting grown txn ending
ends_grow setting order grown txn g (Committed rank) h = record { ends = h.ends; later = h.later; stands = g.stands rank txn.label h.stands }
ends_grow setting order grown txn g Read h = h
ends_grow setting order grown txn g RolledBack h = h
ends_grow setting order grown txn g (Conflict table pos other) h = h
ends_grow setting order grown txn g (Invalid table pos other statement) h = record {
  answers = h.answers;
  closes = h.closes;
  wrote = h.wrote;
  named = h.named;
  rank = h.rank;
  since = h.since;
  stands = g.stands h.rank other h.stands;
}
ends_grow setting order grown txn g (Range table pos) h = h
ends_grow setting order grown txn g (Full table) h = h

pub ends_as_grow : (setting : Setting) (order grown : List Entry) (number before : ℕ) (finished : Finished) → Grows order grown
    → EndsAs setting order number before finished → EndsAs setting grown number before finished
ends_as_grow setting order grown number before finished g h =
    ends_grow setting order grown (txn_outcome_of setting number before finished) g finished.ending h

done_grows : (setting : Setting) (order grown : List Entry) (number before : ℕ) (finished : Finished) → Grows order grown
    → DoneFits setting order number before finished → DoneFits setting grown number before finished
done_grows setting order grown number before finished g h = record {
  start = omega (arith, h.start, g.longer);
  own = h.own;
  ends = ends_as_grow setting order grown number before finished g h.ends;
}

phase_grows : (setting : Setting) (order grown : List Entry) (mark new : Option ℕ) (number before : ℕ) (begun : Begun) → Grows order grown
    → (mark ≡ Some number → ⊥) → (phase : Phase) → PhaseFits setting order mark number before begun phase
    → PhaseFits setting grown new number before begun phase
phase_grows setting order grown mark new number before begun g n (Working visited count) h = h
phase_grows setting order grown mark new number before begun g n (Stamping visited) h = absurd (n h.0)
phase_grows setting order grown mark new number before begun g n (Undoing visited cause) h =
    ends_as_grow setting order grown number before (record { begun = begun; ending = cause }) g h

now_grows : (setting : Setting) (order grown : List Entry) (mark new : Option ℕ) (number : ℕ) (done : List Finished) → Grows order grown
    → (mark ≡ Some number → ⊥) → (now : Option Open) → NowFits setting order mark number done now → NowFits setting grown new number done now
now_grows setting order grown mark new number done g n None h = tt
now_grows setting order grown mark new number done g n (Some current) h = record {
  there = h.there;
  above = h.above;
  start = omega (arith, h.start, g.longer);
  own = h.own;
  records = h.records;
  phase = phase_grows setting order grown mark new number (length done) current.begun g n current.phase h.phase;
}

pub session_grows : (setting : Setting) (order grown : List Entry) (mark new : Option ℕ) (number : ℕ) (session : Session) → Grows order grown
    → (mark ≡ Some number → ⊥) → SessionFits setting order mark number session → SessionFits setting grown new number session
session_grows setting order grown mark new number session g n h = record {
  done = each_so 0 (DoneFits setting order number) (DoneFits setting grown number) session.done
      (λ before finished. done_grows setting order grown number before finished g) h.done;
  few = h.few;
  climbs = h.climbs;
  top = omega (arith, h.top, g.longer);
  now = now_grows setting order grown mark new number session.done g n session.now h.now;
}
