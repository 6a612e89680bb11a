-- What a line says to a session of a sound service can be taken.
use Rattle.std.specs.List.{All}
use Rattle.std.specs.Option.{option_map}
use Rattle.std.specs.Prelude.{IsTrue, slice_get}
use Rattle.std.proofs.Common.{◌≡◌, ℕ, ◌<◌, Bool, true, false, List, [], Option, Some, None, length, map, sym, ap, ◌∙◌, subst, inl, inr}
use Rattle.std.proofs.lemmas.List.Elements.{All-get_or}
use Rattle.std.proofs.lemmas.Option.{get_or_from_slice_get, none-some, same_Some, slice_get_within}
use Rattle.hy_schema.specs.declared.TableDef.{TableDef}
use Rattle.hy_bound.specs.declared.Bound.{Bound}
use Rattle.hy_bound.specs.declared.Txn.{Txn}
use Rattle.hy_bound.specs.Agreement.{HasItsKey}
use Rattle.hy_bound.specs.Fits.{FitsSession, FitsTxn, MayStand}
use Rattle.hy_bound.specs.OpenSavepoints.{is_opened}
use Rattle.hy_bind.specs.Shapes.{catalog_shapes}
use Rattle.hy_event.specs.declared.lines.SessionLine.{SessionLine}
use Rattle.hy_event.specs.declared.lines.SessionLine.TheVariants as said
use Rattle.hy_growing.specs.Growing.{IsAtEnd, IsReady, IsResting, IsUncommitted}
use Rattle.hy_machine.specs.declared.Setting.{Setting}
use Rattle.hy_machine.specs.States.{Open}
use Rattle.hy_machine.specs.Runs.{opening_of}
use Rattle.hy_machine.specs.Sessions.{program_of, session_at}
use Rattle.hy_script.specs.declared.Options.{Options}
use Rattle.hy_script.specs.declared.judging.Standing.{Standing}
use Rattle.hy_script.specs.declared.stocks.Stock.{Stock}
use Rattle.hy_script.specs.Refusals.{no_statements}
use Rattle.hy_serving.specs.declared.Desk.{Desk}
use Rattle.hy_serving.specs.declared.Saying.{Saying}
use Rattle.hy_serving.specs.declared.Saying.TheVariants.{Nothing, Ends, Defines, Begins, Says, Closes, Refused}
use Rattle.hy_serving.specs.Fitting.{FitsDesk}
use Rattle.hy_serving.specs.Saying.{desk_after, first_rows, place_at, saying}
use Rattle.hy_serving.specs.Suiting.{SuitsDesk, SuitsSession}
use Rattle.hy_setting.specs.Kinds.{catalog_kinds}
use Rattle.hy_setting.specs.Typing.{WhatIsBoundIsTyped}
use Rattle.hy_stepping.specs.Pushed.{FitsLine, FitsNext, IsTypedLine}
use Rattle.hy_stepping.specs.Runnable.{IsRunnable}
use Rattle.hy_stepping.specs.Typed.{AreTyped}
use Rattle.hy_limits.specs.declared.TheConstants.{MOST_STATEMENTS, MOST_TXNS}
use Rattle.hy_service.specs.Laws.{LinesCanBeTaken}
use Rattle.hy_service.specs.Service.{Service, session_line, setting_of, setting_with}
use Rattle.hy_service.specs.Sound.{AgreesAt, CanTake, IsSound, IsTypedService, IsUnused, standing_in, standing_of}
use Rattle.hy_service.proofs.Noted.{IsNoted, MayCome, line_noted}
use Rattle.hy_service.proofs.Standings.{in_read_only, in_statements, last_at, of_last, opened_after}

-- the laws of the crates below on which this rests
pub record Laws : Type 0 where
  pub suit : (options : Options) (desk : Desk) (line : List ℕ) → All HasItsKey (catalog_shapes desk.sofar.catalog)
      → SuitsDesk line desk (saying options desk line)
  pub keys : (options : Options) (desk : Desk) → FitsDesk options desk → All HasItsKey (catalog_shapes desk.sofar.catalog)
  pub typed : WhatIsBoundIsTyped

-- ---- what suits

-- where what a line says to a session is this, that suits it
abbrev SuitsLine : List ℕ → Desk → ℕ → SessionLine → Type 0
SuitsLine line desk number (said.Begin read_only) = Unit {0}
SuitsLine line desk number (said.Statement bound) = SuitsSession line desk number bound
SuitsLine line desk number said.Commit = Unit {0}
SuitsLine line desk number said.Rollback = Unit {0}

abbrev SuitsIf : List ℕ → Desk → Option (ℕ × SessionLine) → Type 0
SuitsIf line desk None = Unit {0}
SuitsIf line desk (Some (number, told)) = SuitsLine line desk number told

suits_if : (line : List ℕ) (desk : Desk) (what : Saying) → SuitsDesk line desk what → SuitsIf line desk (session_line what)
suits_if line desk Nothing suits = tt
suits_if line desk Ends suits = tt
suits_if line desk Defines suits = tt
suits_if line desk (Begins number read_only name) suits = tt
suits_if line desk (Says number bound) suits = suits
suits_if line desk (Closes number true) suits = tt
suits_if line desk (Closes number false) suits = tt
suits_if line desk (Refused name cause) suits = tt

suited : Laws → (options : Options) (desk : Desk) (line : List ℕ) (number : ℕ) (told : SessionLine) → FitsDesk options desk
    → session_line (saying options desk line) ≡ Some (number, told) → SuitsLine line desk number told
suited laws options desk line number told fits is =
    subst (SuitsIf line desk) is (suits_if line desk (saying options desk line) (laws.suit options desk line (laws.keys options desk fits)))

-- ---- the open transaction

-- the desk knows what the next statement of the one that waits is judged by
last_standing : (options : Options) (service : Service) (number : ℕ) → AgreesAt options service number
    → (waits : IsUncommitted (setting_of options service) service.state number) → (place_at service.desk number).standing ≡ Some (standing_in waits.0.txn)
last_standing options service number agrees waits =
    let program : List Txn = program_of (setting_of options service) number in
    agrees.standing
    ∙ ap (λ (now : Option Open). standing_of now program) waits.0.open_now
    ∙ ap (λ (last : Option Txn). option_map standing_in last)
    (last_at program (length (session_at service.state number).done) waits.0.txn waits.0.last waits.0.here)

-- where the desk knows of one the session waits in it
awaited : (options : Options) (service : Service) (number : ℕ) → AgreesAt options service number → IsResting (setting_of options service) service.state number
    → (standing : Standing) → (place_at service.desk number).standing ≡ Some standing → IsUncommitted (setting_of options service) service.state number
awaited options service number agrees (inl ends) standing is =
    let program : List Txn = program_of (setting_of options service) number in
    let none : (place_at service.desk number).standing ≡ None = agrees.standing ∙ ap (λ (now : Option Open). standing_of now program) ends.closed in
    absurd (none-some standing (sym none ∙ is))
awaited options service number agrees (inr waits) standing is = waits

-- else the session is at its script's end
at_end : (options : Options) (service : Service) (number : ℕ) → AgreesAt options service number → IsResting (setting_of options service) service.state number
    → (place_at service.desk number).standing ≡ None → IsAtEnd (setting_of options service) service.state number
at_end options service number agrees (inl ends) none = ends
at_end options service number agrees (inr waits) none =
    absurd (none-some (standing_in waits.0.txn) (sym none ∙ last_standing options service number agrees waits))

-- so the session awaits a line that may come
ready_at : (options : Options) (service : Service) (number : ℕ) (told : SessionLine) → AgreesAt options service number
    → IsResting (setting_of options service) service.state number → MayCome told (place_at service.desk number)
    → IsReady (setting_of options service) service.state number told
ready_at options service number (said.Begin read_only) agrees rests came = at_end options service number agrees rests came.0
ready_at options service number (said.Statement bound) agrees rests came = (awaited options service number agrees rests came.0 came.1).0
ready_at options service number said.Commit agrees rests came = (awaited options service number agrees rests came.0 came.1).0
ready_at options service number said.Rollback agrees rests came = (awaited options service number agrees rests came.0 came.1).0

-- ---- the line fits

-- each transaction of a script that the engine runs fits
fitted : (setting : Setting) (number i : ℕ) (txn : Txn) → IsRunnable setting → number < length setting.programs
    → slice_get (program_of setting number) i ≡ Some txn → FitsTxn setting.shapes txn
fitted setting number i txn runnable below here =
    let program : List Txn = program_of setting number in
    let session = All-get_or (FitsSession setting.shapes) setting.programs number [] below runnable.fits.sessions in
    subst (FitsTxn setting.shapes) (get_or_from_slice_get program i txn txn here) (session.fit i txn (slice_get_within program i txn here))

-- a statement that suits may come next
next_fits : (options : Options) (service : Service) (number : ℕ) (line : List ℕ) (bound : Bound) (txn : Txn) → FitsTxn (setting_of options service).shapes txn
    → (suits : SuitsSession line service.desk number bound) → suits.standing ≡ standing_in txn → FitsNext (setting_of options service).shapes bound txn
next_fits options service number line bound txn fits suits same = record {
  room = subst (λ (many : ℕ). many < MOST_STATEMENTS) (ap (λ (one : Standing). one.statements) same ∙ in_statements txn) suits.suits.room;
  fits = suits.suits.fits;
  stands = subst (λ (read_only : Bool). MayStand read_only bound) (ap (λ (one : Standing). one.read_only) same ∙ in_read_only txn) suits.suits.stands;
  opened = opened_after (no_statements txn.read_only) txn.statements bound fits.savepoints
      (subst (λ (one : Standing). IsTrue (is_opened one.savepoints bound)) same suits.suits.opened);
}

fits_at : (options : Options) (service : Service) (number : ℕ) (line : List ℕ) (told : SessionLine) → IsRunnable (setting_of options service)
    → number < length service.programs → AgreesAt options service number → IsResting (setting_of options service) service.state number
    → MayCome told (place_at service.desk number) → SuitsLine line service.desk number told
    → FitsLine (setting_of options service).shapes (program_of (setting_of options service) number) told
fits_at options service number line (said.Begin read_only) runnable below agrees rests came suits = subst (λ (many : ℕ). many < MOST_TXNS) agrees.txns came.1
fits_at options service number line (said.Statement bound) runnable below agrees rests came suits =
    let setting : Setting = setting_of options service in
    let program : List Txn = program_of setting number in
    let at : ℕ = length (session_at service.state number).done in
    let waits = awaited options service number agrees rests suits.standing suits.there in
    let txn : Txn = waits.0.txn in
    let same = same_Some suits.standing (standing_in txn) (sym suits.there ∙ last_standing options service number agrees waits) in
    let fits = fitted setting number at txn runnable below waits.0.here in
    of_last (FitsNext setting.shapes bound) program at txn waits.0.last waits.0.here (next_fits options service number line bound txn fits suits same)
fits_at options service number line said.Commit runnable below agrees rests came suits = tt
fits_at options service number line said.Rollback runnable below agrees rests came suits = tt

typed_at : WhatIsBoundIsTyped → (desk : Desk) (number : ℕ) (line : List ℕ) (told : SessionLine) → SuitsLine line desk number told
    → IsTypedLine (catalog_kinds desk.sofar.catalog) (catalog_shapes desk.sofar.catalog) told
typed_at law desk number line (said.Begin read_only) suits = tt
typed_at law desk number line (said.Statement bound) suits = law.statements line desk.sofar.catalog bound suits.suits.was
typed_at law desk number line said.Commit suits = tt
typed_at law desk number line said.Rollback suits = tt

-- ---- the desk after the line

-- the setting that these tables with their first rows make
abbrev setting_by : Options → List TableDef → List Stock → List (List Txn) → Setting
setting_by options catalog stocks programs = record {
  chunks = options.chunks;
  rows = options.rows;
  shapes = catalog_shapes catalog;
  first = map (λ stock. stock.rows) stocks;
  programs = programs;
}

-- the line leaves the setting as it is
pub same_setting : (options : Options) (desk after : Desk) (number : ℕ) (told : SessionLine) (programs : List (List Txn)) → IsNoted desk after number told
    → setting_with options after programs ≡ setting_with options desk programs
same_setting options desk after number told programs is =
    ap (λ (catalog : List TableDef). setting_by options catalog after.sofar.stocks programs) is.catalog
    ∙ ap (λ (stocks : List Stock). setting_by options desk.sofar.catalog stocks programs) is.stocks

same_types : (options : Options) (service : Service) (after : Desk) (number : ℕ) (told : SessionLine) → IsNoted service.desk after number told
    → IsTypedService options service → IsTypedService options (record service { desk = after })
same_types options service after number told is typed =
    subst (λ (catalog : List TableDef). AreTyped (catalog_kinds catalog) (catalog_shapes catalog) (first_rows after) service.programs) (sym is.catalog)
    (subst (λ (stocks : List Stock). AreTyped (catalog_kinds service.desk.sofar.catalog) (catalog_shapes service.desk.sofar.catalog)
    (map (λ stock. stock.rows) stocks) service.programs)
    (sym is.stocks) typed)

same_unused : (options : Options) (service : Service) (after : Desk) → setting_with options after service.programs ≡ setting_of options service
    → IsUnused options service → IsUnused options (record service { desk = after })
same_unused options service after same unused none = let was = unused none in (was.0, was.1 ∙ ap opening_of (sym same))

-- what suits before the line can be taken after it
taken_after : WhatIsBoundIsTyped → (options : Options) (service : Service) (after : Desk) (line : List ℕ) (number : ℕ) (told : SessionLine)
    → IsSound options service → IsNoted service.desk after number told → SuitsLine line service.desk number told
    → CanTake options (record service { desk = after }) number told
taken_after law options service after line number told sound is suits = record {
  named = is.named;
  runnable = subst IsRunnable (sym same) sound.runnable;
  typed = same_types options service after number told is sound.typed;
  unused = same_unused options service after same sound.unused;
  all = sound.all;
  within = is.within;
  ready = subst (λ (one : Setting). IsReady one service.state number told) (sym same) (ready_at options service number told agrees rests is.came);
  fits = subst (λ (one : Setting). FitsLine one.shapes (program_of one number) told) (sym same)
      (fits_at options service number line told sound.runnable below agrees rests is.came suits);
  typed_line = subst (λ (catalog : List TableDef). IsTypedLine (catalog_kinds catalog) (catalog_shapes catalog) told) (sym is.catalog)
      (typed_at law service.desk number line told suits);
}
  where
    same : setting_with options after service.programs ≡ setting_of options service
    same = same_setting options service.desk after number told service.programs is

    below : number < length service.programs
    below = subst (λ (many : ℕ). number < many) (sym sound.all) is.within

    agrees : AgreesAt options service number
    agrees = sound.agrees number is.within

    rests : IsResting (setting_of options service) service.state number
    rests = sound.between.resting number below

pub lines_taken : Laws → LinesCanBeTaken
lines_taken laws options service line number told sound is =
    taken_after laws.typed options service (desk_after options service.desk line) line number told sound
    (line_noted options service.desk line number told sound.desk is)
    (suited laws options service.desk line number told sound.desk is)
