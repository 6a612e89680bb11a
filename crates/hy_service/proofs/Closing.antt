-- What a server that is closed comes to: where its open transactions are dropped, every session has ended, and the outcome is that
-- of the lines.
use Rattle.std.proofs.Common.{◌≡◌, ℕ, true, List, ◌++◌, Option, None, Some, IfNone, length, ap, ◌∙◌, sym, subst, append_assoc}
use Rattle.hy_bind.specs.Shapes.{catalog_shapes}
use Rattle.hy_bound.specs.declared.Txn.{Txn}
use Rattle.hy_machine.specs.declared.Setting.{Setting}
use Rattle.hy_machine.specs.States.{State}
use Rattle.hy_machine.specs.Outcomes.{outcome_of}
use Rattle.hy_growing.specs.Growing.{AreDropped, DropsEnd, DropsAreRuns, OpenOnesAreDropped}
use Rattle.hy_limits.specs.declared.TheConstants.{MOST_SESSIONS}
use Rattle.hy_render.specs.declared.Names.{Names}
use Rattle.hy_render.specs.declared.Outcome.{Outcome}
use Rattle.hy_render.specs.Report.{final_text}
use Rattle.hy_script.specs.declared.Options.{Options}
use Rattle.hy_serving.specs.declared.Desk.{Desk}
use Rattle.hy_serving.specs.Saying.{first_rows}
use Rattle.hy_setting.specs.Kinds.{catalog_kinds}
use Rattle.hy_stepping.specs.Outcomes.{EndsAreTheMachines, are_done}
use Rattle.hy_stepping.specs.Runnable.{IsRunnable}
use Rattle.hy_stepping.specs.Typed.{AreTyped}
use Rattle.hy_world.specs.Follows.{Tells}
use Rattle.hy_world.specs.Worlds.{WorldData, ShowsState, parts_of}
use Rattle.hy_service.specs.Knowing.{Drops, Knows, KnowsBy, KnowsSessions, ServerData}
use Rattle.hy_service.specs.Laws.{ServicesAreSound}
use Rattle.hy_service.specs.Service.{Service, after, closing, closing_of, dropped_lines, names_of, no_programs, outcome_after, outcome_at, setting_of, setting_with}
use Rattle.hy_service.specs.Sound.{IsSound, IsUnused}
use Rattle.hy_service.proofs.Dropping.{dropped_to}

-- ---- before there is a world

-- the engine can run sessions that have nothing to do over what a desk has
abbrev pub CanOpen : Options → Desk → Type 0
CanOpen options desk = IsRunnable (setting_with options desk no_programs)
    × AreTyped (catalog_kinds desk.sofar.catalog) (catalog_shapes desk.sofar.catalog) (first_rows desk) no_programs

can_open_at : (options : Options) (service : Service) (desk : Desk) (names : Names) (world : Option WorldData) → IsSound options service
    → KnowsBy options service desk names world → IfNone world (CanOpen options desk)
can_open_at options service desk names (Some world) sound knows = tt
can_open_at options service desk names None sound knows =
    let none : service.programs ≡ no_programs = (sound.unused knows.turns).0 in
    let runnable : IsRunnable (setting_with options service.desk no_programs) =
    subst (λ (programs : List (List Txn)). IsRunnable (setting_with options service.desk programs)) none sound.runnable in
    let typed : AreTyped (catalog_kinds service.desk.sofar.catalog) (catalog_shapes service.desk.sofar.catalog) (first_rows service.desk) no_programs =
    subst (λ (programs : List (List Txn)). AreTyped (catalog_kinds service.desk.sofar.catalog) (catalog_shapes service.desk.sofar.catalog)
    (first_rows service.desk) programs) none sound.typed in
    subst (CanOpen options) (sym knows.desk_is) (runnable, typed)

pub can_open : ServicesAreSound → (lines : List (List ℕ)) (server : ServerData) → Knows lines server → IfNone server.world (CanOpen server.options server.desk)
can_open sound lines server knows =
    can_open_at server.options (after server.options lines) server.desk server.names server.world (sound server.options lines knows.sized) knows.knows

-- ---- the outcome

-- where so many sessions are dropped, every session has ended, and what the world tells is the outcome of the turns
dropped_outcome : EndsAreTheMachines → OpenOnesAreDropped → DropsEnd → DropsAreRuns → (options : Options) (service : Service) (most : ℕ) (world : WorldData)
    (outcome : Outcome) → IsSound options service → length service.programs ≡ most
    → ShowsState (setting_of options service) (dropped_to (setting_of options service) service.state most) world → Tells world outcome
    → outcome ≡ outcome_at options service
dropped_outcome ends drops over runs options service most world outcome sound all shows tells =
    tells setting next shows done ∙ ap (outcome_of setting) (sym (runs setting service.state next service.turns sound.between dropped).1)
  where
    setting : Setting
    setting = setting_of options service

    next : State
    next = dropped_to setting service.state most

    dropped : AreDropped setting service.turns service.state (length setting.programs) next
    dropped = subst (λ (many : ℕ). AreDropped setting service.turns service.state (length setting.programs) (dropped_to setting service.state many)) all
        (drops setting service.state service.turns sound.between)

    done : are_done world.sessions ≡ true
    done = ends setting next (parts_of world.chunks world.core) world.sessions shows.shown ∙ over setting service.state next service.turns dropped

-- ---- what is told

closing_told : (options : Options) (service : Service) (names : Names) (outcome : Outcome) (before mid now : List ℕ) → mid ≡ before ++ dropped_lines service
    → now ≡ mid ++ final_text names outcome → names ≡ names_of service.desk → outcome ≡ outcome_at options service → now ≡ before ++ closing_of options service
closing_told options service names outcome before mid now dropped told named is =
    joined (dropped_lines service) (final_text (names_of service.desk) (outcome_at options service)) dropped final
  where
    final : now ≡ mid ++ final_text (names_of service.desk) (outcome_at options service)
    final = told ∙ ap (λ (all : Names). mid ++ final_text all outcome) named ∙ ap (λ (one : Outcome). mid ++ final_text (names_of service.desk) one) is

    joined : (first second : List ℕ) → mid ≡ before ++ first → now ≡ mid ++ second → now ≡ before ++ (first ++ second)
    joined first second e f = f ∙ ap (λ (text : List ℕ). text ++ second) e ∙ append_assoc before first second

-- ---- a server that is closed

-- What became of a server's world: it is there, its open transactions are dropped, and it tells an outcome.
pub record HasClosed (options : Options) (service : Service) (names : Names) (before mid : List ℕ) (outcome : Outcome) : Type 0 where
  pub world : WorldData
  pub names_are : names ≡ names_of service.desk
  pub drops : Drops options service world before mid
  pub tells : Tells world outcome

pub has_closed : ServicesAreSound → (lines : List (List ℕ)) (server next : ServerData) (world last : WorldData) (before mid : List ℕ) (outcome : Outcome)
    → Knows lines server → next.options ≡ server.options
    → ((service : Service) → IsUnused server.options service → KnowsBy server.options service server.desk server.names server.world
    → KnowsSessions server.options service next.desk next.names world)
    → ((service : Service) → IsSound next.options service → KnowsSessions next.options service next.desk next.names world
    → Drops next.options service last before mid)
    → Tells last outcome → HasClosed server.options (after server.options lines) next.names before mid outcome
has_closed sound lines server next world last before mid outcome knows same opens drops tells =
    record { world = last; names_are = there.names_are; drops = dropped; tells = tells }
  where
    service : Service
    service = after server.options lines

    sound_here : IsSound server.options service
    sound_here = sound server.options lines knows.sized

    there : KnowsSessions server.options service next.desk next.names world
    there = opens service sound_here.unused knows.knows

    dropped : Drops server.options service last before mid
    dropped = subst (λ (options : Options). (one : Service) → IsSound options one → KnowsSessions options one next.desk next.names world
        → Drops options one last before mid) same drops service sound_here there

pub closed_outcome : ServicesAreSound → EndsAreTheMachines → OpenOnesAreDropped → DropsEnd → DropsAreRuns → (lines : List (List ℕ)) (server : ServerData)
    (names : Names) (before mid : List ℕ) (outcome : Outcome) → Knows lines server
    → HasClosed server.options (after server.options lines) names before mid outcome → outcome ≡ outcome_after server.options lines
closed_outcome sound ends drops over runs lines server names before mid outcome knows closed =
    let here : IsSound server.options (after server.options lines) = sound server.options lines knows.sized in
    dropped_outcome ends drops over runs server.options (after server.options lines) MOST_SESSIONS closed.world outcome here here.all
    closed.drops.shows closed.tells

pub closed_text : (lines : List (List ℕ)) (server : ServerData) (names : Names) (before mid now : List ℕ) (outcome : Outcome)
    → HasClosed server.options (after server.options lines) names before mid outcome → outcome ≡ outcome_after server.options lines
    → now ≡ mid ++ final_text names outcome → now ≡ before ++ closing server.options lines
closed_text lines server names before mid now outcome closed is told =
    closing_told server.options (after server.options lines) names outcome before mid now closed.drops.told told closed.names_are is
