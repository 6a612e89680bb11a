-- A turn of a session over a world that keeps a log: what a crash leaves is the log of some first entries of the order that it comes to.
use Rattle.std.proofs.Common.{◌≡◌, ◌⊎◌, ℕ, Bool, true, false, cond, List, [], ◌∷◌, Option, None, Some, Result, Ok, Err, is_some, sym, ap, ◌∙◌, subst, inl, inr, append-nil, le_refl}
use Rattle.std.specs.Prelude.{OnOk, OnErr}
use Rattle.std.proofs.Math.Logic.{⊎_elim}
use Rattle.hy_value.specs.declared.Kind.{Kind}
use Rattle.hy_event.specs.declared.lines.SessionLine.{SessionLine}
use Rattle.hy_growing.specs.Growing.{pushed}
use Rattle.hy_journal.specs.declared.CoreData.{CoreData}
use Rattle.hy_journal.specs.declared.Entry.{Entry}
use Rattle.hy_machine.specs.declared.Setting.{Setting}
use Rattle.hy_machine.specs.States.{State}
use Rattle.hy_machine.specs.Sessions.{session_at}
use Rattle.hy_machine.specs.Runs.{whole_of}
use Rattle.hy_script.specs.declared.Options.{Options}
use Rattle.hy_serving.specs.Saying.{ended}
use Rattle.hy_stepping.specs.Texts.{CanBeLogged}
use Rattle.hy_world.specs.Follows.{Follows}
use Rattle.hy_world.specs.Lines.{Awaits, Grows, HasLine}
use Rattle.hy_world.specs.Logged.{Approaches, IsKept, IsUnderWay, Logs, LogsRun, LogsTellOrders}
use Rattle.hy_world.specs.Worlds.{WorldData, ShowsState}
use Rattle.hy_service.specs.Knowing.{HasAnswered, ServerData}
use Rattle.hy_service.specs.Logging.{CanLog, KeepsUp, LogsAt, entries_in, kinds_at}
use Rattle.hy_service.specs.Service.{Service, after_turn, setting_of, taken}

-- ---- a world

-- a session's turn
abbrev pub a_turn : ℕ → Setting → State → State
a_turn number setting state = whole_of setting state number

-- what an answer to a line says, on what it was made of
pub on_ok : {T E : Type 0} (r : Result T E) {A B : Type 0} → (A → B) → OnOk r A → OnOk r B
on_ok (Ok x) f holds = f holds
on_ok (Err e) f holds = tt

-- a line changes neither the types nor the core
pub kinds_stay : (number : ℕ) (line : SessionLine) (old new : WorldData) → Awaits old number line → HasLine number line old new → new.kinds ≡ old.kinds
kinds_stay number line old new awaits has = ap (λ (world : WorldData). world.kinds) (has awaits.session awaits.found)

pub core_stays : (number : ℕ) (line : SessionLine) (old new : WorldData) → Awaits old number line → HasLine number line old new → new.core ≡ old.core
core_stays number line old new awaits has = ap (λ (world : WorldData). world.core) (has awaits.session awaits.found)

-- what was kept of one core is kept of the same
pub kept_still : {D : Type 0} (image : D → List ℕ → Type 0) (old new : CoreData) (log : Option ℕ) (disk : D) → new ≡ old
    → IsKept image old.entries log disk → IsKept image new.entries log disk
kept_still image old new log disk same kept = subst (λ (core : CoreData). IsKept image core.entries log disk) (sym same) kept

pub answered_by : (number : ℕ) (line : SessionLine) (old grown new : WorldData) → Awaits old number line → HasLine number line old grown
    → Grows number line old grown → new.kinds ≡ grown.kinds → Follows (a_turn number) grown new → HasAnswered number line old new
answered_by number line old grown new awaits has grows kinds follows = record {
  kinds = kinds ∙ kinds_stay number line old grown awaits has;
  shows = λ setting state shows. follows (pushed setting number line) state (grows setting state shows);
}

-- to its end, or as far as it came
on_way : {T E : Type 0} (r : Result T E) (makes : Setting → State → State) (old new : WorldData) → OnOk r (Follows makes old new)
    → OnErr r (Approaches makes old new) → Approaches makes old new
on_way (Ok x) makes old new follows near = λ setting state shows. record {
  state = makes setting state;
  shows = follows setting state shows;
  first = record { others = []; behind = sym (append-nil (makes setting state).order) };
}
on_way (Err e) makes old new follows near = near

pub turn_logs : {T E D : Type 0} (r : Result T E) (clock : D → ℕ) (image_since : D → ℕ → List ℕ → Type 0) → LogsTellOrders → (number : ℕ)
    (line : SessionLine) (old grown new : WorldData) (before after : D) → Grows number line old grown → OnOk r (Follows (a_turn number) grown new)
    → OnErr r (Approaches (a_turn number) grown new) → Logs clock image_since grown.core.entries new.core.entries before after
    → (setting : Setting) (state : State) (kinds : List (List Kind)) → ShowsState setting state old → CanBeLogged kinds (pushed setting number line)
    → LogsRun clock image_since (pushed setting number line) kinds (whole_of (pushed setting number line) state number) before after
turn_logs r clock image_since law number line old grown new before after grows follows near logs = λ setting state kinds shows can.
    let next : Setting = pushed setting number line in
    let way : IsUnderWay next (whole_of next state number).order new =
    on_way r (a_turn number) grown new follows near next state (grows setting state shows) in
    record {
      later = logs.later;
      moments = λ time bytes le left.
          ⊎_elim (λ earlier. inl earlier) (λ is. inr (law.first next kinds (whole_of next state number) new way can bytes is))
          (logs.moments time bytes le left);
    }

-- nothing was done
pub run_still : {D : Type 0} (clock : D → ℕ) (image_since : D → ℕ → List ℕ → Type 0) (setting : Setting) (kinds : List (List Kind)) (state : State)
    (disk : D) → LogsRun clock image_since setting kinds state disk disk
run_still clock image_since setting kinds state disk = record { later = le_refl (clock disk); moments = λ time bytes le left. inl left }

-- ---- a service

-- the service that has taken a line, settled or not
settled_logs : {D : Type 0} (clock : D → ℕ) (image_since : D → ℕ → List ℕ → Type 0) (options : Options) (next : Service) (number : ℕ) (before after : D)
    → (so : Bool) → (CanLog options next → LogsAt clock image_since options next before after)
    → CanLog options (cond so next (record next { desk = ended number next.desk }))
    → LogsAt clock image_since options (cond so next (record next { desk = ended number next.desk })) before after
settled_logs clock image_since options next number before after true logs can = logs can
settled_logs clock image_since options next number before after false logs can = logs can

pub taking_logs : {D : Type 0} (clock : D → ℕ) (image_since : D → ℕ → List ℕ → Type 0) (options : Options) (service : Service) (number : ℕ)
    (line : SessionLine) (world : WorldData) (before after : D) → ShowsState (setting_of options service) service.state world
    → ((setting : Setting) (state : State) (kinds : List (List Kind)) → ShowsState setting state world → CanBeLogged kinds (pushed setting number line)
    → LogsRun clock image_since (pushed setting number line) kinds (whole_of (pushed setting number line) state number) before after)
    → CanLog options (taken options service (Some (number, line)))
    → LogsAt clock image_since options (taken options service (Some (number, line))) before after
taking_logs clock image_since options service number line world before after shows logs =
    let next : Service = after_turn (pushed (setting_of options service) number line) service number in
    settled_logs clock image_since options next number before after (is_some (session_at next.state number).now)
    (λ can. logs (setting_of options service) service.state (kinds_at service) shows can)

-- nothing was done
pub still : {D : Type 0} (clock : D → ℕ) (image_since : D → ℕ → List ℕ → Type 0) (options : Options) (service : Service) (disk : D)
    → LogsAt clock image_since options service disk disk
still clock image_since options service disk = run_still clock image_since (setting_of options service) (kinds_at service) service.state disk

-- a server's world is taken out of it: what was kept of its entries is kept of the world's
pub kept_taken : {D : Type 0} (image : D → List ℕ → Type 0) (old : ServerData) (entries : List Entry) (log : Option ℕ) (disk : D)
    → entries ≡ entries_in old.world → log ≡ old.log → KeepsUp image old disk → IsKept image entries log disk
kept_taken image old entries log disk same log_is kept =
    subst (λ (es : List Entry). IsKept image es log disk) (sym same) (subst (λ (l : Option ℕ). IsKept image (entries_in old.world) l disk) (sym log_is) kept)
