-- The world that is opened at the first line of a session: it may be opened, and then shows what the service knows.
use Rattle.std.specs.Prelude.{IfNone, IfOk, OnOk}
use Rattle.std.proofs.Common.{◌≡◌, ℕ, List, [], Option, None, Some, Result, Ok, Err, map, refl, sym, ap, ◌∙◌, subst}
use Rattle.hy_bind.specs.Shapes.{catalog_shapes}
use Rattle.hy_bound.specs.declared.Txn.{Txn}
use Rattle.hy_machine.specs.Runs.{opening_of}
use Rattle.hy_machine.specs.States.{State}
use Rattle.hy_render.specs.declared.Names.{Names}
use Rattle.hy_schema.specs.declared.TableDef.{TableDef}
use Rattle.hy_script.specs.declared.Options.{Options}
use Rattle.hy_serving.specs.declared.Desk.{Desk}
use Rattle.hy_serving.specs.Saying.{first_rows, without_rows}
use Rattle.hy_setting.specs.Kinds.{catalog_kinds}
use Rattle.hy_stepping.specs.Runnable.{IsRunnable}
use Rattle.hy_stepping.specs.Typed.{AreTyped}
use Rattle.hy_world.specs.Worlds.{WorldData, ShowsState}
use Rattle.hy_service.specs.Knowing.{KnowsBy, KnowsDefinitions, KnowsSessions, ServerData}
use Rattle.hy_service.specs.Service.{Service, no_programs, setting_of, setting_with}
use Rattle.hy_service.specs.Sound.{IsTypedService, IsUnused}

-- the world of a desk may be opened
abbrev pub MayOpen : Options → Desk → Type 0
MayOpen options desk = IsRunnable (setting_with options desk no_programs)
    × AreTyped (catalog_kinds desk.sofar.catalog) (catalog_shapes desk.sofar.catalog) (first_rows desk) no_programs

-- it may be where there is none yet
pub can_open : (options : Options) (service : Service) (desk : Desk) (names : Names) (world : Option WorldData) → IsRunnable (setting_of options service)
    → IsTypedService options service → IsUnused options service → KnowsBy options service desk names world → IfNone world (MayOpen options desk)
can_open options service desk names None runnable typed unused knows =
    let same : service.programs ≡ no_programs = (unused knows.turns).0 in
    subst (MayOpen options) (sym knows.desk_is) (
      subst (λ (programs : List (List Txn)). IsRunnable (setting_with options service.desk programs)) same runnable,
      subst (λ (programs : List (List Txn)). AreTyped (catalog_kinds service.desk.sofar.catalog) (catalog_shapes service.desk.sofar.catalog)
          (first_rows service.desk) programs)
          same typed,
    )
can_open options service desk names (Some world) runnable typed unused knows = tt

-- and shows the state then
shown_then : (options : Options) (service : Service) (world : WorldData) → IsUnused options service → service.turns ≡ []
    → ShowsState (setting_with options service.desk no_programs) (opening_of (setting_with options service.desk no_programs)) world
    → ShowsState (setting_of options service) service.state world
shown_then options service world unused turns shows =
    let then = unused turns in
    subst (λ (state : State). ShowsState (setting_of options service) state world) (sym then.1)
    (subst (λ (programs : List (List Txn)). ShowsState (setting_with options service.desk programs)
    (opening_of (setting_with options service.desk programs)) world)
    (sym then.0) shows)

-- the names that are printed, where there is a world of these tables
abbrev pub with_tables : Names → Desk → Names
with_tables names desk = record names { tables = map (λ (table : TableDef). table.name) desk.sofar.catalog }

-- of these tables and sessions
abbrev names_by : List (List ℕ) → List (List ℕ) → Names
names_by tables sessions = record { tables = tables; sessions = sessions }

abbrev table_names : Desk → List (List ℕ)
table_names desk = map (λ (table : TableDef). table.name) desk.sofar.catalog

-- so it is known what was
pub knows_opened : (options : Options) (service : Service) (desk left : Desk) (names now : Names) (world : WorldData) → IsUnused options service
    → KnowsDefinitions service desk names → left ≡ without_rows desk → now ≡ with_tables names desk
    → ShowsState (setting_with options desk no_programs) (opening_of (setting_with options desk no_programs)) world
    → world.kinds ≡ catalog_kinds desk.sofar.catalog → KnowsSessions options service left now world
knows_opened options service desk left names now world unused knows left_is now_is shows kinds = record {
  desk_is = left_is ∙ ap without_rows knows.desk_is;
  names_are = now_is
      ∙ ap (names_by (table_names desk)) knows.sessions
      ∙ ap (λ (one : Desk). names_by (table_names one) service.desk.sofar.names) knows.desk_is;
  kinds = kinds ∙ ap (λ (one : Desk). catalog_kinds one.sofar.catalog) knows.desk_is;
  shows = shown_then options service world unused knows.turns
      (subst (λ (one : Desk). ShowsState (setting_with options one no_programs) (opening_of (setting_with options one no_programs)) world) knows.desk_is
      shows);
}

-- ---- by the steps of a server

-- and where there was none it is, if it could be opened
knows_if_opened : {E : Type 0} (r : Result WorldData E) (options : Options) (service : Service) (old new : ServerData) (left : Option WorldData)
    → IsUnused options service → old.world ≡ None → KnowsBy options service old.desk old.names old.world
    → IfOk r (λ (world : WorldData). ShowsState (setting_with options old.desk no_programs) (opening_of (setting_with options old.desk no_programs)) world)
    → IfOk r (λ (world : WorldData). world.kinds ≡ catalog_kinds old.desk.sofar.catalog)
    → OnOk r (new ≡ record old { desk = without_rows old.desk; names = with_tables old.names old.desk; world = left })
    → IfOk r (λ (world : WorldData). KnowsSessions options service new.desk new.names world)
knows_if_opened (Err e) options service old new left unused none knows shows kinds opened = tt
knows_if_opened (Ok world) options service old new left unused none knows shows kinds opened =
    knows_opened options service old.desk new.desk old.names new.names world unused (subst (KnowsBy options service old.desk old.names) none knows)
    (ap (λ (s : ServerData). s.desk) opened) (ap (λ (s : ServerData). s.names) opened) shows kinds

-- so by what is seen of it
pub knows_if_seen : {E : Type 0} (r : Result WorldData E) (service : Service) (old given new : ServerData) (left : Option WorldData) → old ≡ given
    → IsUnused given.options service → None ≡ old.world → KnowsBy given.options service given.desk given.names given.world
    → IfOk r (λ (world : WorldData). ShowsState (setting_with old.options old.desk no_programs)
    (opening_of (setting_with old.options old.desk no_programs)) world)
    → IfOk r (λ (world : WorldData). world.kinds ≡ catalog_kinds old.desk.sofar.catalog)
    → OnOk r (new ≡ record old { desk = without_rows old.desk; names = with_tables old.names old.desk; world = left })
    → IfOk r (λ (world : WorldData). KnowsSessions given.options service new.desk new.names world)
knows_if_seen r service old given new left seen unused none knows shows kinds opened =
    subst (λ (s : ServerData). IfOk r (λ (world : WorldData). KnowsSessions s.options service new.desk new.names world)) seen
    (knows_if_opened r old.options service old new left (subst (λ (s : ServerData). IsUnused s.options service) (sym seen) unused) (sym none)
    (subst (λ (s : ServerData). KnowsBy s.options service s.desk s.names s.world) (sym seen) knows) shows kinds opened)
