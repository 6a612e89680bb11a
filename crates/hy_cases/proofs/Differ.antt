-- Tests by which values are told apart that a case has.
use Rattle.std.proofs.Common.{◌≡◌, sym, ◌∙◌, ap, ℕ, Bool, true, false, List, [], ◌∷◌, ℤ, pos, negsuc}
use Rattle.std.specs.Prelude.{Option, None, Some, not, ◌&&◌, ◌==◌, IsTrue, IsFalse}
use Rattle.hy_value.specs.declared.Value.{Value}
use Rattle.hy_value.specs.declared.Value.TheVariants as value
use Rattle.hy_bound.specs.declared.Grouped.{Grouped}
use Rattle.hy_bound.specs.declared.Reply.{Reply}
use Rattle.hy_bound.specs.declared.Reply.TheVariants as reply
use Rattle.hy_bound.specs.declared.Ending.{Ending}
use Rattle.hy_bound.specs.declared.Ending.TheVariants.{Committed, Read, RolledBack, Conflict, Invalid, Range, Full}
use Rattle.hy_render.specs.declared.Outcome.{Outcome}
use Rattle.hy_render.specs.declared.Place.{Place}
use Rattle.hy_render.specs.declared.TxnOutcome.{TxnOutcome}
use Rattle.hy_lawful.specs.Outcomes.{is_label}

-- values that a test tells apart are not the same
pub differ : {A : Type 0} (same : A → A → Bool) {a b : A} → a ≡ b → IsTrue (same a a) → IsFalse (same a b) → ⊥
differ same {a} {b} e itself other = let no : true ≡ false = sym itself ∙ ap (same a) e ∙ other in absurd cc

pub not_true : false ≡ true → ⊥
not_true e = absurd cc

pub not_false : true ≡ false → ⊥
not_false e = absurd cc

abbrev pub same_list : {A : Type 0} → (A → A → Bool) → List A → List A → Bool
same_list same [] [] = true
same_list same [] (y ∷ ys) = false
same_list same (x ∷ xs) [] = false
same_list same (x ∷ xs) (y ∷ ys) = same x y && same_list same xs ys

abbrev pub same_option : {A : Type 0} → (A → A → Bool) → Option A → Option A → Bool
same_option same None None = true
same_option same None (Some y) = false
same_option same (Some x) None = false
same_option same (Some x) (Some y) = same x y

abbrev pub same_integer : ℤ → ℤ → Bool
same_integer (pos m) (pos n) = m == n
same_integer (pos m) (negsuc n) = false
same_integer (negsuc m) (pos n) = false
same_integer (negsuc m) (negsuc n) = m == n

abbrev pub same_number : ℕ → ℕ → Bool
same_number m n = m == n

abbrev pub same_value : Value → Value → Bool
same_value value.Null value.Null = true
same_value (value.Int m) (value.Int n) = same_integer m n
same_value (value.Text s) (value.Text t) = same_list same_number s t
same_value one other = false

abbrev pub same_row : List Value → List Value → Bool
same_row = same_list same_value

abbrev pub same_rows : List (List Value) → List (List Value) → Bool
same_rows = same_list same_row

abbrev pub same_grouped : Grouped → Grouped → Bool
same_grouped one other = same_value one.value other.value && same_integer one.total other.total

abbrev pub same_reply : Reply → Reply → Bool
same_reply (reply.Rows rows) (reply.Rows others) = same_rows rows others
same_reply (reply.Value total) (reply.Value other) = same_integer total other
same_reply (reply.Groups groups) (reply.Groups others) = same_list same_grouped groups others
same_reply reply.Inserted reply.Inserted = true
same_reply reply.Duplicate reply.Duplicate = true
same_reply (reply.Updated count) (reply.Updated other) = count == other
same_reply (reply.Deleted count) (reply.Deleted other) = count == other
same_reply reply.Saved reply.Saved = true
same_reply reply.Back reply.Back = true
same_reply reply.Released reply.Released = true
same_reply one other = false

abbrev pub same_replies : List Reply → List Reply → Bool
same_replies = same_list same_reply

abbrev pub same_cause : Ending → Ending → Bool
same_cause (Invalid table place other statement) (Invalid of at rival number) =
    table == of && (place == at && (is_label other rival && statement == number))
same_cause one other = false

abbrev pub same_ending : Ending → Ending → Bool
same_ending (Committed rank) (Committed other) = rank == other
same_ending Read Read = true
same_ending RolledBack RolledBack = true
same_ending (Conflict table place other) (Conflict of at rival) = table == of && (place == at && is_label other rival)
same_ending (Range table place) (Range of at) = table == of && place == at
same_ending (Full table) (Full of) = table == of
same_ending one other = false

abbrev pub same_place : Place → Place → Bool
same_place place other = place.table == other.table && place.pos == other.pos

-- whether transactions have come to the same, and whether the ones of two outcomes have not
abbrev same_told : TxnOutcome → TxnOutcome → Bool
same_told txn other = is_label txn.label other.label && (txn.start == other.start && (same_replies txn.replies other.replies
    && (same_ending txn.ending other.ending && same_list same_place txn.wrote other.wrote)))

abbrev pub differs : Outcome → Outcome → Bool
differs outcome other = not (same_list same_told outcome.txns other.txns)
