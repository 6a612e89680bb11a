-- The desk and the machine agree on a session after its turn, and on the others.
use Rattle.std.proofs.Common.{◌≡◌, ℕ, suc, List, [], ◌∷◌, Option, Some, None, length, refl, sym, ap, ◌∙◌}
use Rattle.std.specs.Option.{option_map}
use Rattle.std.proofs.lemmas.List.{length_push}
use Rattle.hy_bound.specs.declared.Bound.{Bound}
use Rattle.hy_bound.specs.declared.Txn.{Txn}
use Rattle.hy_event.specs.declared.lines.SessionLine.{SessionLine}
use Rattle.hy_event.specs.declared.lines.SessionLine.TheVariants.{Begin, Statement, Commit, Rollback}
use Rattle.hy_event.specs.Lines.{with_last, opened, with_statement, committing, grown}
use Rattle.hy_machine.specs.declared.Setting.{Setting}
use Rattle.hy_machine.specs.States.{State, Session, Open}
use Rattle.hy_machine.specs.Sessions.{session_at, program_of}
use Rattle.hy_growing.specs.Growing.{IsReady, IsClosingLine}
use Rattle.hy_script.specs.declared.Options.{Options}
use Rattle.hy_script.specs.declared.judging.Standing.{Standing}
use Rattle.hy_script.specs.Refusals.{with_bound}
use Rattle.hy_serving.specs.declared.Place.{Place}
use Rattle.hy_serving.specs.Saying.{place_at}
use Rattle.hy_session.specs.Latest.{last_of}
use Rattle.hy_service.specs.Service.{Service, setting_of}
use Rattle.hy_service.specs.Sound.{AgreesAt, standing_in, standing_of}
use Rattle.hy_service.proofs.Noted.{txns_with, standing_with}
use Rattle.hy_service.proofs.Standings.{standing_in_more, last_push, last_with}

-- ---- a session that is as it was

pub agrees_other : (options : Options) (before after : Service) (number : ℕ) → AgreesAt options before number
    → place_at after.desk number ≡ place_at before.desk number
    → program_of (setting_of options after) number ≡ program_of (setting_of options before) number
    → session_at after.state number ≡ session_at before.state number → AgreesAt options after number
agrees_other options before after number agrees place program session = record {
  txns = ap (λ (one : Place). one.txns) place ∙ (agrees.txns ∙ ap length (sym program));
  standing = ap (λ (one : Place). one.standing) place ∙ (agrees.standing
      ∙ (ap (λ (one : Session). standing_of one.now (program_of (setting_of options before) number)) (sym session)
      ∙ ap (standing_of (session_at after.state number).now) (sym program)));
}

-- ---- the session of a line

last_length : {A : Type 0} (change : A → A) (xs : List A) → length (with_last change xs) ≡ length xs
last_length change [] = refl
last_length change (x ∷ []) = refl
last_length change (x ∷ y ∷ xs) = ap suc (last_length change (y ∷ xs))

grown_length : (line : SessionLine) (txns : List Txn) → txns_with line (length txns) ≡ length (grown line txns)
grown_length (Begin read_only) txns = sym (length_push txns (opened read_only))
grown_length (Statement bound) txns = sym (last_length (with_statement bound) txns)
grown_length Commit txns = sym (last_length committing txns)
grown_length Rollback txns = refl

said_standing : (bound : Bound) (txn : Option Txn)
    → option_map (λ (one : Standing). with_bound one bound) (option_map standing_in txn) ≡ option_map standing_in (option_map (with_statement bound) txn)
said_standing bound None = refl
said_standing bound (Some txn) = ap Some (sym (standing_in_more bound txn))

-- what its open transaction comes to with a line that doesn't close it
open_standing : (setting : Setting) (state : State) (number : ℕ) (line : SessionLine) (txns : List Txn) (current : Open) → IsReady setting state number line
    → (IsClosingLine line → ⊥) → standing_with line (standing_of (session_at state number).now txns) ≡ standing_of (Some current) (grown line txns)
open_standing setting state number (Begin read_only) txns current ready goes_on = ap (option_map standing_in) (sym (last_push txns (opened read_only)))
open_standing setting state number (Statement bound) txns current ready goes_on =
    ap (λ (now : Option Open). option_map (λ (one : Standing). with_bound one bound) (standing_of now txns)) ready.open_now
    ∙ (said_standing bound (last_of txns) ∙ ap (option_map standing_in) (sym (last_with (with_statement bound) txns)))
open_standing setting state number Commit txns current ready goes_on = absurd (goes_on tt)
open_standing setting state number Rollback txns current ready goes_on = absurd (goes_on tt)

-- its script is longer by the line, and the desk has counted the transaction that it may begin
pub record IsCounted (options : Options) (before after : Service) (number : ℕ) (line : SessionLine) : Type 0 where
  pub agreed : AgreesAt options before number
  pub txns : (place_at after.desk number).txns ≡ txns_with line (place_at before.desk number).txns
  pub program : program_of (setting_of options after) number ≡ grown line (program_of (setting_of options before) number)

counted_txns : (options : Options) (before after : Service) (number : ℕ) (line : SessionLine) → IsCounted options before after number line
    → (place_at after.desk number).txns ≡ length (program_of (setting_of options after) number)
counted_txns options before after number line counted =
    counted.txns ∙ (ap (txns_with line) counted.agreed.txns
    ∙ (grown_length line (program_of (setting_of options before) number) ∙ ap length (sym counted.program)))

-- its transaction is open still
pub agrees_open : (options : Options) (setting : Setting) (before after : Service) (number : ℕ) (line : SessionLine) (current : Open)
    → IsCounted options before after number line → IsReady setting before.state number line → (IsClosingLine line → ⊥)
    → (place_at after.desk number).standing ≡ standing_with line (place_at before.desk number).standing
    → (session_at after.state number).now ≡ Some current → AgreesAt options after number
agrees_open options setting before after number line current counted ready goes_on standing now = record {
  txns = counted_txns options before after number line counted;
  standing = standing ∙ (ap (standing_with line) counted.agreed.standing
      ∙ (open_standing setting before.state number line (program_of (setting_of options before) number) current ready goes_on
      ∙ (ap (standing_of (Some current)) (sym counted.program)
      ∙ ap (λ (one : Option Open). standing_of one (program_of (setting_of options after) number)) (sym now))));
}

-- it has ended
pub agrees_closed : (options : Options) (before after : Service) (number : ℕ) (line : SessionLine) → IsCounted options before after number line
    → (place_at after.desk number).standing ≡ None → (session_at after.state number).now ≡ None → AgreesAt options after number
agrees_closed options before after number line counted standing now = record {
  txns = counted_txns options before after number line counted;
  standing = standing ∙ ap (λ (one : Option Open). standing_of one (program_of (setting_of options after) number)) (sym now);
}
