-- A sound service that has taken a line of a session is sound still.
use Rattle.std.proofs.Common.{◌≡◌, ◌≢◌, ℕ, ◌<◌, true, false, List, [], ◌∷◌, ◌++◌, Option, Some, None, length, map, refl, sym, ap, ◌∙◌, subst, arith, inl, inr}
use Rattle.std.specs.Prelude.{is_some, if◌then◌else◌}
use Rattle.std.proofs.lemmas.Bool.{cases_eq}
use Rattle.std.proofs.lemmas.List.{length-append, length-set, get_or-set_same}
use Rattle.hy_limits.specs.declared.TheConstants.{MOST_SESSIONS}
use Rattle.hy_schema.specs.declared.TableDef.{TableDef}
use Rattle.hy_bound.specs.declared.Txn.{Txn}
use Rattle.hy_bind.specs.Shapes.{catalog_shapes}
use Rattle.hy_event.specs.declared.lines.SessionLine.{SessionLine}
use Rattle.hy_event.specs.Lines.{grown}
use Rattle.hy_machine.specs.declared.Setting.{Setting}
use Rattle.hy_machine.specs.States.{Open}
use Rattle.hy_machine.specs.Sessions.{session_at, program_of}
use Rattle.hy_growing.specs.Growing.{pushed, BetweenLines, IsAnswered, IsClosingLine}
use Rattle.hy_growing.specs.Growing.{LinesGoOn, AnswersAreWhole, ClosingsEnd, OthersStay, SessionsStayBetween}
use Rattle.hy_script.specs.declared.Options.{Options}
use Rattle.hy_script.specs.declared.stocks.Stock.{Stock}
use Rattle.hy_serving.specs.declared.Desk.{Desk}
use Rattle.hy_serving.specs.declared.Place.{Place}
use Rattle.hy_serving.specs.Fitting.{FitsDesk}
use Rattle.hy_serving.specs.Saying.{desk_after, ended, place_at}
use Rattle.hy_setting.specs.Kinds.{catalog_kinds}
use Rattle.hy_stepping.specs.Pushed.{LinesAreRunnable, LinesAreTyped}
use Rattle.hy_service.specs.Service.{Service, after_turn, noted, setting_of, setting_with, taken}
use Rattle.hy_service.specs.Sound.{AgreesAt, CanTake, IsSound}
use Rattle.hy_service.specs.Laws.{LinesCanBeTaken, TakingStaysSound}
use Rattle.hy_service.proofs.Noted.{IsNoted, line_noted, ended_own, ended_other}
use Rattle.hy_service.proofs.Agreeing.{IsCounted, agrees_other, agrees_open, agrees_closed}
use Rattle.hy_service.proofs.Turns.{last_answered, closes_there}

-- the laws of the crates below on which this rests
pub record Laws : Type 0 where
  pub heard : (options : Options) (desk : Desk) (line : List ℕ) → FitsDesk options desk → FitsDesk options (desk_after options desk line)
  pub ended : (options : Options) (desk : Desk) (number : ℕ) → FitsDesk options desk → FitsDesk options (ended number desk)
  pub go_on : LinesGoOn
  pub whole : AnswersAreWhole
  pub closed : ClosingsEnd
  pub others : OthersStay
  pub between : SessionsStayBetween
  pub runnable : LinesAreRunnable
  pub typed : LinesAreTyped

-- ---- a line of which the desk alone has heard

abbrev pub with_desk : Service → Desk → Service
with_desk service desk = record service { desk = desk }

-- the desk was another before that, with which the service was sound
pub record HasHeard (options : Options) (old : Desk) (service : Service) (number : ℕ) (line : SessionLine) : Type 0 where
  pub can : CanTake options service number line
  pub desk : FitsDesk options service.desk
  pub between : BetweenLines (setting_of options service) service.turns service.state
  pub noted : IsNoted old service.desk number line
  pub agrees : (other : ℕ) → other < MOST_SESSIONS → AgreesAt options (with_desk service old) other

-- the session took its turn
abbrev turned : Options → Service → ℕ → SessionLine → Service
turned options service number line = after_turn (pushed (setting_of options service) number line) service number

-- and the desk has these places
abbrev turned_at : Options → Service → ℕ → SessionLine → List Place → Service
turned_at options service number line places = with_desk (turned options service number line) (record service.desk { places = places })

-- a service is settled where it is sound as it is, or with the transaction ended on its desk
settles : (options : Options) (number : ℕ) (service : Service) (now : Option Open) → (session_at service.state number).now ≡ now
    → ((current : Open) → (session_at service.state number).now ≡ Some current → IsSound options service)
    → ((session_at service.state number).now ≡ None → IsSound options (record service { desk = ended number service.desk }))
    → IsSound options (if is_some now then service else record service { desk = ended number service.desk })
settles options number service None is stays_open has_ended = has_ended is
settles options number service (Some current) is stays_open has_ended = stays_open current is

module _ (laws : Laws) (options : Options) (old : Desk) (service : Service) (number : ℕ) (line : SessionLine)
    (heard : HasHeard options old service number line) where
  there : number < length service.programs
  there = omega (arith, heard.can.within, heard.can.all)

  between : BetweenLines (pushed (setting_of options service) number line) (service.turns ++ number ∷ []) (turned options service number line).state
  between = laws.between (setting_of options service) service.state service.turns number line heard.between heard.can.ready there

  turn_answered : IsAnswered (pushed (setting_of options service) number line) number service.state (turned options service number line).state
  turn_answered =
      last_answered laws.whole (pushed (setting_of options service) number line) service.turns service.state number (turned options service number line).state
      (laws.go_on (setting_of options service) service.state service.turns number line heard.between.answered heard.can.ready) between.answered

  -- it is sound where the desk agrees
  sound_by : (places : List Place) → FitsDesk options (record service.desk { places = places })
      → ((other : ℕ) → other < MOST_SESSIONS → AgreesAt options (turned_at options service number line places) other)
      → IsSound options (turned_at options service number line places)
  sound_by places fits agrees = record {
    desk = fits;
    unnamed = λ none. let clash : true ≡ false = sym heard.can.named ∙ none in absurd cc;
    runnable = laws.runnable (setting_of options service) number line heard.can.runnable there heard.can.fits;
    typed = laws.typed (setting_of options service) (catalog_kinds service.desk.sofar.catalog) number line heard.can.typed heard.can.typed_line;
    unused = λ none. absurd (omega (arith, ap (λ (turns : List ℕ). length turns) none, length-append service.turns (number ∷ [])));
    all = length-set service.programs number (grown line (program_of (setting_of options service) number)) ∙ heard.can.all;
    between = between;
    agrees = agrees;
  }

  -- the desk agrees on the others, whose places are as they were, where it does on the line's session
  agrees_all : (places : List Place) → ((other : ℕ) → other ≢ number → place_at (record service.desk { places = places }) other ≡ place_at service.desk other)
      → AgreesAt options (turned_at options service number line places) number
      → (other : ℕ) → other < MOST_SESSIONS → AgreesAt options (turned_at options service number line places) other
  agrees_all places same own other few = elim (cases_eq other number) [
    | inl is ↦ subst (AgreesAt options (turned_at options service number line places)) (sym is) own
    | inr apart ↦
        let stay = laws.others (setting_of options service) service.state (turned options service number line).state number other line apart turn_answered in
        agrees_other options (with_desk service old) (turned_at options service number line places) other (heard.agrees other few)
        (same other apart ∙ heard.noted.others other apart) stay.1 stay.0
  ]

  counted : (places : List Place) → (place_at (record service.desk { places = places }) number).txns ≡ (place_at service.desk number).txns
      → IsCounted options (with_desk service old) (turned_at options service number line places) number line
  counted places same = record {
    agreed = heard.agrees number heard.can.within;
    txns = same ∙ ap (λ (place : Place). place.txns) heard.noted.place;
    program = get_or-set_same service.programs number (grown line (program_of (setting_of options service) number)) [] there;
  }

  -- a closing line leaves no transaction open
  goes_on : (current : Open) → (session_at (turned options service number line).state number).now ≡ Some current → IsClosingLine line → ⊥
  goes_on current now closes =
      let end = laws.closed (setting_of options service) service.state (turned options service number line).state number line closes heard.can.ready there
      (closes_there (setting_of options service) service.state number line closes heard.can.ready) turn_answered in
      let none : (session_at (turned options service number line).state number).now ≡ None = end.closed in
      absurd cc

  stays_open : (current : Open) → (session_at (turned options service number line).state number).now ≡ Some current
      → IsSound options (turned options service number line)
  stays_open current now =
      sound_by service.desk.places heard.desk
      (agrees_all service.desk.places (λ other apart. refl)
      (agrees_open options (setting_of options service) (with_desk service old) (turned options service number line) number line current
      (counted service.desk.places refl) heard.can.ready (goes_on current now) (ap (λ (place : Place). place.standing) heard.noted.place) now))

  has_ended : (session_at (turned options service number line).state number).now ≡ None
      → IsSound options (with_desk (turned options service number line) (ended number service.desk))
  has_ended now =
      let places : List Place = (ended number service.desk).places in
      sound_by places (laws.ended options service.desk number heard.desk)
      (agrees_all places (λ other apart. ended_other service.desk number other apart)
      (agrees_closed options (with_desk service old) (turned_at options service number line places) number line
      (counted places (ap (λ (place : Place). place.txns) (ended_own service.desk number)))
      (ap (λ (place : Place). place.standing) (ended_own service.desk number)) now))

  pub taken_sound : IsSound options (taken options service (Some (number, line)))
  taken_sound =
      let after : Service = turned options service number line in
      settles options number after (session_at after.state number).now refl stays_open has_ended

-- ---- the desk hears it

abbrev setting_by : Options → List (List Txn) → List TableDef → List Stock → Setting
setting_by options programs catalog stocks = record {
  chunks = options.chunks;
  rows = options.rows;
  shapes = catalog_shapes catalog;
  first = map (λ (stock : Stock). stock.rows) stocks;
  programs = programs;
}

same_setting : (options : Options) (old new : Desk) (programs : List (List Txn)) (number : ℕ) (line : SessionLine) → IsNoted old new number line
    → setting_with options old programs ≡ setting_with options new programs
same_setting options old new programs number line one =
    ap (λ (catalog : List TableDef). setting_by options programs catalog old.sofar.stocks) (sym one.catalog)
    ∙ ap (setting_by options programs new.sofar.catalog) (sym one.stocks)

pub taking_sound : Laws → LinesCanBeTaken → TakingStaysSound
taking_sound laws can options service text number line sound is =
    subst (λ (found : Option (ℕ × SessionLine)). IsSound options (taken options (noted options service text) found)) (sym is)
    (taken_sound laws options service.desk (noted options service text) number line (record {
      can = can options service text number line sound is;
      desk = laws.heard options service.desk text sound.desk;
      between = subst (λ (setting : Setting). BetweenLines setting service.turns service.state)
          (same_setting options service.desk (desk_after options service.desk text) service.programs number line one) sound.between;
      noted = one;
      agrees = sound.agrees;
    }))
  where
    one : IsNoted service.desk (desk_after options service.desk text) number line
    one = line_noted options service.desk text number line sound.desk is
