-- What contracts see of a server, and which service it knows.
use Rattle.std.specs.Prelude.{◌≡◌, ℕ, Bool, true, false, List, [], ◌∷◌, ◌++◌, Option, Some, None, map, refl}
use Rattle.std.specs.Coded.{Coded, code_by, coded×, coded_ℕ, coded_bool, coded_option}
use Rattle.hy_event.specs.declared.lines.SessionLine.{SessionLine}
use Rattle.hy_growing.specs.Growing.{open_before, pushed, whole_item}
use Rattle.hy_limits.specs.declared.TheConstants.{MOST_SESSIONS}
use Rattle.hy_machine.specs.declared.Setting.{Setting}
use Rattle.hy_machine.specs.States.{State}
use Rattle.hy_machine.specs.Runs.{items_of, whole_of}
use Rattle.hy_script.specs.declared.Options.{Options}
use Rattle.hy_script.specs.contracts.Options as options_data
use Rattle.hy_render.specs.declared.Names.{Names}
use Rattle.hy_render.specs.contracts.Names as names_data
use Rattle.hy_serving.specs.declared.Desk.{Desk}
use Rattle.hy_serving.specs.contracts.Desk as desk_data
use Rattle.hy_serving.specs.Saying.{fresh, saying, without_rows}
use Rattle.hy_setting.specs.Kinds.{catalog_kinds}
use Rattle.hy_world.specs.Lines.{open_prefix_at, latest_reply_at, latest_ending_at}
use Rattle.hy_world.specs.Worlds.{WorldData, ShowsState, world_code}
use Rattle.hy_service.specs.declared.Next.{Next}
use Rattle.hy_service.specs.declared.Next.TheVariants as nexts
use Rattle.hy_service.specs.Sound.{CanTake, has_sessions}
use Rattle.hy_service.specs.Service.{IsSized, Service, after, answer, ends, is_begin, is_ended_by, names_of, noted, dropped_lines, session_line, setting_of, taken, told_at, told_by}

-- a server's options, desk and world, and where it keeps a log the offset of its closed gate
pub record ServerData : Type 0 where
  pub options : Options
  pub prunes : Bool
  pub desk : Desk
  pub names : Names
  pub world : Option WorldData
  pub log : Option ℕ

abbrev pub server_code : Coded ServerData
server_code =
    code_by (Options × (Bool × (Desk × (Names × (Option WorldData × Option ℕ)))))
    (coded× options_data.the_row.coded (coded× coded_bool (coded× desk_data.the_row.coded (coded× names_data.the_row.coded
    (coded× (coded_option world_code) (coded_option coded_ℕ))))))
    (λ s. (s.options, (s.prunes, (s.desk, (s.names, (s.world, s.log))))))
    (λ p. record { options = p.0; prunes = p.1.0; desk = p.1.1.0; names = p.1.1.1.0; world = p.1.1.1.1.0; log = p.1.1.1.1.1 }) (λ _. refl)

abbrev pub fresh_server : Options → Bool → Option ℕ → ServerData
fresh_server options prunes log =
    record { options = options; prunes = prunes; desk = fresh; names = record { tables = []; sessions = [] }; world = None; log = log }

-- Before the first line of a session all is on the desk.
pub record KnowsDefinitions (service : Service) (desk : Desk) (names : Names) : Type 0 where
  pub desk_is : desk ≡ service.desk
  pub sessions : names.sessions ≡ service.desk.sofar.names
  pub turns : service.turns ≡ []

-- From then on there is a world, which shows the state, and the desk has no first rows.
pub record KnowsSessions (options : Options) (service : Service) (desk : Desk) (names : Names) (world : WorldData) : Type 0 where
  pub desk_is : desk ≡ without_rows service.desk
  pub names_are : names ≡ names_of service.desk
  pub kinds : world.kinds ≡ catalog_kinds service.desk.sofar.catalog
  pub shows : ShowsState (setting_of options service) service.state world

abbrev pub KnowsBy : Options → Service → Desk → Names → Option WorldData → Type 0
KnowsBy options service desk names None = KnowsDefinitions service desk names
KnowsBy options service desk names (Some world) = (has_sessions service.desk ≡ true) × KnowsSessions options service desk names world

-- A server knows the service after these lines, none of which is END.
pub record Knows (lines : List (List ℕ)) (server : ServerData) : Type 0 where
  pub sized : IsSized server.options
  pub no_end : is_ended_by server.options lines ≡ false
  pub knows : KnowsBy server.options (after server.options lines) server.desk server.names server.world

-- what a session of a world is told of its turn
abbrev pub told_of : Names → Bool → WorldData → ℕ → List ℕ
told_of names begins world number =
    told_by names begins (open_prefix_at world.sessions number) (latest_reply_at world.sessions number) (latest_ending_at world.sessions number)

-- a name, where there is one
abbrev pub listed : Option (List ℕ) → List (List ℕ)
listed None = []
listed (Some name) = name ∷ []

-- A session of a world took a line, and its turn up to the answer.
pub record HasAnswered (number : ℕ) (line : SessionLine) (old new : WorldData) : Type 0 where
  pub kinds : new.kinds ≡ old.kinds
  pub shows : (setting : Setting) (state : State) → ShowsState setting state old
      → ShowsState (pushed setting number line) (whole_of (pushed setting number line) state number) new

-- A server takes a line of a session: what is told is what the session is told, and then the server knows the service after it.
pub record Takes (service : Service) (number : ℕ) (line : SessionLine) (told : List ℕ) (server : ServerData) : Type 0 where
  pub told_is : told ≡ told_at (taken server.options service (Some (number, line))) number (is_begin line)
  pub knows : KnowsBy server.options (taken server.options service (Some (number, line))) server.desk server.names server.world

-- Each transaction that is open takes its session's turn, in which it is rolled back, and the session is told.
pub record Drops (options : Options) (service : Service) (world : WorldData) (before after : List ℕ) : Type 0 where
  pub told : after ≡ before ++ dropped_lines service
  pub shows : ShowsState (setting_of options service)
      (items_of (setting_of options service) service.state (map whole_item (open_before service.state MOST_SESSIONS))) world

-- A server hears a line after these: what it answers is the answer to it, none at END.
abbrev pub Hears : List (List ℕ) → List ℕ → ServerData → ServerData → Option (List ℕ) → Type 0
Hears lines line old new None =
    (ends (saying old.options (after old.options lines).desk line) ≡ true) × Knows lines new
Hears lines line old new (Some told) =
    (told ≡ answer old.options (after old.options lines) line) × Knows (lines ++ line ∷ []) new

-- a line's text alone gave this answer
abbrev pub IsAnswer : List ℕ → Next → Type 0
IsAnswer text nexts.End = ⊥
IsAnswer text (nexts.Answer told) = told.items ≡ text
IsAnswer text (nexts.Turn number told) = ⊥

-- After these lines one was noted that this session is to take.
pub record IsToTake (lines : List (List ℕ)) (line : List ℕ) (old new : ServerData) (number : ℕ) (told : SessionLine) : Type 0 where
  pub says : session_line (saying old.options (after old.options lines).desk line) ≡ Some (number, told)
  pub can : CanTake old.options (noted old.options (after old.options lines) line) number told
  pub knows : KnowsBy old.options (noted old.options (after old.options lines) line) new.desk new.names new.world

-- so it is with what was noted of a line
abbrev pub HasNoted : List (List ℕ) → List ℕ → ServerData → ServerData → Next → Type 0
HasNoted lines line old new nexts.End = Hears lines line old new None
HasNoted lines line old new (nexts.Answer told) = Hears lines line old new (Some told.items)
HasNoted lines line old new (nexts.Turn number told) = IsToTake lines line old new number told
