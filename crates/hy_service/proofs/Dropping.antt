-- Sessions that have a transaction open are dropped one after another: how far that has come.
use Rattle.std.proofs.Common.{◌≡◌, ◌⊎◌, ℕ, suc, ◌+◌, ◌-◌, ◌<◌, Bool, true, false, cond, List, [], ◌∷◌, ◌++◌, Option, None, Some, is_some, option_map, length, map, slice_index_or, refl, ap, ◌∙◌, sym, subst, inl, inr, add-one, arith, append-nil, append_assoc, flat_map}
use Rattle.std.proofs.lemmas.Bool.{cases_Bool, false≢true}
use Rattle.std.proofs.lemmas.Grind.{flat_map-append}
use Rattle.std.proofs.lemmas.Option.{slice_get-get_or}
use Rattle.hy_bound.specs.declared.Txn.{Txn}
use Rattle.hy_limits.specs.declared.TheConstants.{MOST_SESSIONS}
use Rattle.hy_machine.specs.declared.Setting.{Setting}
use Rattle.hy_machine.specs.States.{State, Open}
use Rattle.hy_machine.specs.Sessions.{session_at, program_of}
use Rattle.hy_machine.specs.Runs.{whole_of, items_of}
use Rattle.hy_growing.specs.Growing.{IsResting, open_before, whole_item}
use Rattle.hy_render.specs.declared.Names.{Names}
use Rattle.hy_script.specs.declared.Options.{Options}
use Rattle.hy_script.specs.declared.judging.Standing.{Standing}
use Rattle.hy_serving.specs.declared.Desk.{Desk}
use Rattle.hy_serving.specs.Saying.{place_at, without_rows}
use Rattle.hy_session.specs.Latest.{last_of}
use Rattle.hy_world.specs.Follows.{Follows}
use Rattle.hy_world.specs.Worlds.{WorldData, ShowsState}
use Rattle.hy_service.specs.Knowing.{Drops, KnowsSessions}
use Rattle.hy_service.specs.Service.{Service, dropped_text, dropped_line, setting_of}
use Rattle.hy_service.specs.Sound.{IsSound, standing_of, standing_in}

-- ---- which are open

last_some : {B : Type 0} (txns : List Txn) (f : Txn → B) → 0 < length txns → is_some (option_map f (last_of txns)) ≡ true
last_some [] f some = absurd (omega (arith, some))
last_some (txn ∷ txns) f some =
    let there : length (txn ∷ txns) - 1 < length (txn ∷ txns) = omega arith in
    ap (λ (last : Option Txn). is_some (option_map f last)) (slice_get-get_or (txn ∷ txns) (length (txn ∷ txns) - 1) txn there)

-- a session that has a transaction open has one in its script
resting_some : (setting : Setting) (state : State) (number : ℕ) → IsResting setting state number → is_some (session_at state number).now ≡ true
    → 0 < length (program_of setting number)
resting_some setting state number (inl ends) open_now = absurd (false≢true (sym (ap (λ (now : Option Open). is_some now) ends.closed) ∙ open_now))
resting_some setting state number (inr waits) open_now = omega (arith, waits.0.last)

standing_there : (now : Option Open) (txns : List Txn) → (is_some now ≡ true → 0 < length txns) → is_some (standing_of now txns) ≡ is_some now
standing_there None txns some = refl
standing_there (Some current) txns some = last_some txns standing_in (some refl)

-- the desk knows which sessions have a transaction open
pub open_on_desk : (options : Options) (service : Service) (desk : Desk) (number : ℕ) → IsSound options service → desk ≡ without_rows service.desk
    → number < MOST_SESSIONS → is_some (place_at desk number).standing ≡ is_some (session_at service.state number).now
open_on_desk options service desk number sound is within =
    let there : number < length (setting_of options service).programs = subst (λ (most : ℕ). number < most) (sym sound.all) within in
    ap (λ (one : Desk). is_some (place_at one number).standing) is
    ∙ ap (λ (standing : Option Standing). is_some standing) (sound.agrees number within).standing
    ∙ standing_there (session_at service.state number).now (program_of (setting_of options service) number)
    (resting_some (setting_of options service) service.state number (sound.between.resting number there))

-- ---- one after another

-- the state after a whole item of each session before this one that had a transaction open
abbrev pub dropped_to : Setting → State → ℕ → State
dropped_to setting state number = items_of setting state (map whole_item (open_before state number))

-- the sessions before this one are dropped: the world shows the state after that, and each was told
pub record HasDropped (options : Options) (service : Service) (number : ℕ) (world : WorldData) (before now : List ℕ) : Type 0 where
  pub told : now ≡ before ++ flat_map (dropped_line service) (open_before service.state number)
  pub shows : ShowsState (setting_of options service) (dropped_to (setting_of options service) service.state number) world

pub none_dropped : (options : Options) (service : Service) (world : WorldData) (before : List ℕ)
    → ShowsState (setting_of options service) service.state world → HasDropped options service 0 world before before
none_dropped options service world before shows = record { told = sym (append-nil before); shows = shows }

item_then : (setting : Setting) (state : State) (numbers : List ℕ) (number : ℕ)
    → items_of setting state (map whole_item (numbers ++ number ∷ [])) ≡ whole_of setting (items_of setting state (map whole_item numbers)) number
item_then setting state [] number = refl
item_then setting state (first ∷ numbers) number = item_then setting (whole_of setting state first) numbers number

adds_open : (state : State) (number : ℕ) → is_some (session_at state number).now ≡ true
    → open_before state (suc number) ≡ open_before state number ++ number ∷ []
adds_open state number t = ap (λ (b : Bool). cond b (open_before state number ++ number ∷ []) (open_before state number)) t

adds_none : (state : State) (number : ℕ) → is_some (session_at state number).now ≡ false
    → open_before state (suc number) ≡ open_before state number
adds_none state number f = ap (λ (b : Bool). cond b (open_before state number ++ number ∷ []) (open_before state number)) f

-- a session that has a transaction open is dropped
open_dropped : (options : Options) (service : Service) (number : ℕ) (old new : WorldData) (before mid now : List ℕ)
    → is_some (session_at service.state number).now ≡ true → Follows (λ setting state. whole_of setting state number) old new
    → now ≡ mid ++ dropped_line service number → HasDropped options service number old before mid → HasDropped options service (suc number) new before now
open_dropped options service number old new before mid now t follows told dropped = record {
  told = subst (λ (numbers : List ℕ). now ≡ before ++ flat_map (dropped_line service) numbers) (sym (adds_open service.state number t))
      (told_then (flat_map (dropped_line service) opened) (dropped_line service number) dropped.told told
      ∙ ap (λ (text : List ℕ). before ++ text) (sym (flat_map_push (dropped_line service) opened number)));
  shows = subst (λ (numbers : List ℕ). ShowsState setting (items_of setting service.state (map whole_item numbers)) new)
      (sym (adds_open service.state number t))
      (subst (λ (next : State). ShowsState setting next new) (sym (item_then setting service.state opened number))
      (follows setting (dropped_to setting service.state number) dropped.shows));
}
  where
    setting : Setting
    setting = setting_of options service

    opened : List ℕ
    opened = open_before service.state number

    told_then : (first second : List ℕ) → mid ≡ before ++ first → now ≡ mid ++ second → now ≡ before ++ (first ++ second)
    told_then first second e f = f ∙ ap (λ (text : List ℕ). text ++ second) e ∙ append_assoc before first second

    flat_map_push : (f : ℕ → List ℕ) (xs : List ℕ) (x : ℕ) → flat_map f (xs ++ x ∷ []) ≡ flat_map f xs ++ f x
    flat_map_push f xs x = flat_map-append f xs (x ∷ []) ∙ ap (λ (text : List ℕ). flat_map f xs ++ text) (append-nil (f x))

-- one that has none stays as it is
other_kept : (options : Options) (service : Service) (number : ℕ) (old new : WorldData) (before mid now : List ℕ)
    → is_some (session_at service.state number).now ≡ false → new ≡ old → now ≡ mid → HasDropped options service number old before mid
    → HasDropped options service (suc number) new before now
other_kept options service number old new before mid now f same kept dropped = record {
  told = subst (λ (numbers : List ℕ). now ≡ before ++ flat_map (dropped_line service) numbers) (sym (adds_none service.state number f))
      (kept ∙ dropped.told);
  shows = subst (λ (numbers : List ℕ). ShowsState setting (items_of setting service.state (map whole_item numbers)) new)
      (sym (adds_none service.state number f))
      (subst (λ (world : WorldData). ShowsState setting (dropped_to setting service.state number) world) (sym same) dropped.shows);
}
  where
    setting : Setting
    setting = setting_of options service

-- so one more is dropped, if the desk has a transaction of it open
pub one_more : (options : Options) (service : Service) (desk : Desk) (names : Names) (number : ℕ) (first old new : WorldData) (before mid now : List ℕ)
    → IsSound options service → KnowsSessions options service desk names first → number < MOST_SESSIONS
    → (is_some (place_at desk number).standing ≡ true → Follows (λ setting state. whole_of setting state number) old new)
    → (is_some (place_at desk number).standing ≡ true → now ≡ mid ++ dropped_text (slice_index_or names.sessions number []))
    → (is_some (place_at desk number).standing ≡ false → (new ≡ old) × (now ≡ mid))
    → HasDropped options service number old before mid → HasDropped options service (number + 1) new before now
one_more options service desk names number first old new before mid now sound knows within follows told kept dropped =
    subst (λ (n : ℕ). HasDropped options service n new before now) (sym (add-one number)) (by_case (cases_Bool (is_some (session_at service.state number).now)))
  where
    same : is_some (place_at desk number).standing ≡ is_some (session_at service.state number).now
    same = open_on_desk options service desk number sound knows.desk_is within

    named : dropped_text (slice_index_or names.sessions number []) ≡ dropped_line service number
    named = ap (λ (all : Names). dropped_text (slice_index_or all.sessions number [])) knows.names_are

    by_case : (is_some (session_at service.state number).now ≡ true) ⊎ (is_some (session_at service.state number).now ≡ false)
        → HasDropped options service (suc number) new before now
    by_case (inl t) = open_dropped options service number old new before mid now t (follows (same ∙ t))
        (told (same ∙ t) ∙ ap (λ (text : List ℕ). mid ++ text) named) dropped
    by_case (inr f) = other_kept options service number old new before mid now f (kept (same ∙ f)).0 (kept (same ∙ f)).1 dropped

-- and at the end all are
pub all_dropped : (options : Options) (service : Service) (number : ℕ) (world : WorldData) (before now : List ℕ) → number ≡ MOST_SESSIONS
    → HasDropped options service number world before now → Drops options service world before now
all_dropped options service number world before now e dropped = record {
  told = subst (λ (most : ℕ). now ≡ before ++ flat_map (dropped_line service) (open_before service.state most)) e dropped.told;
  shows = subst (λ (most : ℕ). ShowsState (setting_of options service) (dropped_to (setting_of options service) service.state most) world) e dropped.shows;
}
