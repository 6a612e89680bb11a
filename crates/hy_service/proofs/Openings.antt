-- A service in which no session has taken a turn is sound.
use Rattle.std.specs.List.{All, AllZip}
use Rattle.std.proofs.Common.{◌≡◌, ℕ, zero, suc, ◌*◌, ◌^◌, ◌<◌, ◌≤◌, List, [], ◌∷◌, None, length, map, get_or, replicate, refl, ap, sym, subst, ◌∙◌, arith}
use Rattle.std.proofs.lemmas.List.{length-replicate}
use Rattle.std.proofs.lemmas.List.Elements.{All-nil, All-replicate}
use Rattle.std.proofs.lemmas.Nat.{mul-le}
use Rattle.hy_limits.specs.declared.TheConstants.{MOST_SESSIONS}
use Rattle.hy_value.specs.declared.Kind.{Kind}
use Rattle.hy_value.specs.declared.Value.{Value}
use Rattle.hy_schema.specs.declared.TableDef.{TableDef}
use Rattle.hy_bound.specs.declared.Bound.TheVariants.{Insert}
use Rattle.hy_bound.specs.declared.Shape.{Shape}
use Rattle.hy_bound.specs.declared.Txn.{Txn}
use Rattle.hy_bound.specs.Fits.{Fits, FitsSession, FitsTxn}
use Rattle.hy_bind.specs.Shapes.{catalog_shapes}
use Rattle.hy_session.specs.Near.{IsTyped}
use Rattle.hy_script.specs.declared.Options.{Options}
use Rattle.hy_machine.specs.States.{Session, State}
use Rattle.hy_machine.specs.Sessions.{program_of}
use Rattle.hy_machine.specs.Sessions as machine
use Rattle.hy_machine.specs.Runs.{opening_of}
use Rattle.hy_growing.specs.Growing.{BetweenLines, EmptyScriptsAreBetween}
use Rattle.hy_stepping.specs.Runnable.{IsRunnable}
use Rattle.hy_stepping.specs.Typed.{IsTypedTxn}
use Rattle.hy_serving.specs.declared.Desk.{Desk}
use Rattle.hy_serving.specs.Fitting.{FitsDesk, WereHeard}
use Rattle.hy_serving.specs.Saying.{desk_after, first_rows, fresh}
use Rattle.hy_setting.specs.Kinds.{catalog_kinds}
use Rattle.hy_setting.specs.Typing.{WhatIsBoundIsTyped}
use Rattle.hy_service.specs.Service.{IsSized, Service, no_programs, opening, setting_of}
use Rattle.hy_service.specs.Sound.{AgreesAt, IsSound, IsTypedService, standing_of}

-- the laws of the crates below on which this rests
pub record Laws : Type 0 where
  pub heard : (options : Options) (desk : Desk) (line : List ℕ) → FitsDesk options desk → FitsDesk options (desk_after options desk line)
  pub begins : (options : Options) (desk : Desk) (sessions : List (List Txn)) → FitsDesk options desk → length sessions ≤ MOST_SESSIONS
      → All (FitsSession (catalog_shapes desk.sofar.catalog)) sessions
      → Fits (catalog_shapes desk.sofar.catalog) (options.chunks * options.rows) (first_rows desk) sessions
  pub typed : WhatIsBoundIsTyped
  pub between : EmptyScriptsAreBetween

-- how large the tables are, as far as the engine asks for it
pub record HasSizes (options : Options) : Type 0 where
  pub some_chunk : 0 < options.chunks
  pub few_chunks : options.chunks ≤ 64
  pub some_row : 0 < options.rows
  pub numbered : options.chunks * options.rows < 2 ^ 32

-- no session has taken a turn
pub record IsNew (options : Options) (service : Service) : Type 0 where
  pub turns : service.turns ≡ []
  pub programs : service.programs ≡ no_programs
  pub state : service.state ≡ opening_of (setting_of options service)

-- at most 64 chunks of at most 1024 rows
pub sizes_of : (options : Options) → IsSized options → HasSizes options
sizes_of options sized =
    let most : options.chunks * options.rows ≤ 64 * 1024 = mul-le options.chunks options.rows 64 1024 sized.1 sized.3 in
    record { some_chunk = sized.0; few_chunks = sized.1; some_row = sized.2; numbered = omega arith }

-- ---- scripts that say nothing

-- each of them is empty
none_at : (count number : ℕ) → get_or (replicate {A = List Txn} count []) number [] ≡ []
none_at zero number = refl
none_at (suc count) zero = refl
none_at (suc count) (suc number) = none_at count number

-- each session is as at first
fresh_at : (programs : List (List Txn)) (number : ℕ) → get_or (map (λ (txns : List Txn). machine.fresh) programs) number machine.fresh ≡ machine.fresh
fresh_at [] number = refl
fresh_at (program ∷ programs) zero = refl
fresh_at (program ∷ programs) (suc number) = fresh_at programs number

pub empty_at : (options : Options) (service : Service) → service.programs ≡ no_programs → (number : ℕ) → program_of (setting_of options service) number ≡ []
empty_at options service programs number = ap (λ (all : List (List Txn)). get_or all number []) programs ∙ none_at MOST_SESSIONS number

many : (service : Service) → service.programs ≡ no_programs → length service.programs ≡ MOST_SESSIONS
many service programs = ap (λ (all : List (List Txn)). length all) programs ∙ length-replicate {A = List Txn} MOST_SESSIONS []

-- whatever holds of an empty script holds of each
all_empty : (holds : List Txn → Type 0) (service : Service) → service.programs ≡ no_programs → holds [] → All holds service.programs
all_empty holds service programs empty = subst (All holds) (sym programs) (All-replicate holds MOST_SESSIONS [] empty)

-- ---- tables and first rows

-- a row has values of these types where an INSERT of it has
abbrev HasTypes : List Kind → List Value → Type 0
HasTypes kinds row = IsTyped kinds None (Insert 0 row)

typed_of : WhatIsBoundIsTyped → (def : TableDef) (rows : List (List Value)) → WereHeard def rows → All (HasTypes (map (λ column. column.kind) def.columns)) rows
typed_of law def rows heard place other within =
    let given = heard place other within in
    law.rows given.0 def (get_or rows place other) given.1

typed_rows : WhatIsBoundIsTyped → (catalog : List TableDef) (first : List (List (List Value))) → AllZip WereHeard catalog first
    → AllZip (λ (types : List Kind) (rows : List (List Value)). All (HasTypes types) rows) (catalog_kinds catalog) first
typed_rows law [] [] heard = tt
typed_rows law [] (rows ∷ first) heard = heard
typed_rows law (def ∷ catalog) [] heard = heard
typed_rows law (def ∷ catalog) (rows ∷ first) heard = (typed_of law def rows heard.0, typed_rows law catalog first heard.1)

-- ---- soundness

runs : Laws → (options : Options) (service : Service) → HasSizes options → FitsDesk options service.desk → service.programs ≡ no_programs
    → IsRunnable (setting_of options service)
runs laws options service sizes fits programs =
    let count = many service programs in
    let shapes : List Shape = catalog_shapes service.desk.sofar.catalog in
    record {
      fits = laws.begins options service.desk service.programs fits (omega arith)
          (all_empty (FitsSession shapes) service programs (record { few = omega arith; fit = All-nil (FitsTxn shapes) }));
      some_chunk = sizes.some_chunk;
      few_chunks = sizes.few_chunks;
      some_row = sizes.some_row;
      numbered = sizes.numbered;
    }

-- a transaction is of the types of the columns of the tables
abbrev IsTypedFor : Options → Service → Txn → Type 0
IsTypedFor options service = IsTypedTxn (catalog_kinds service.desk.sofar.catalog) (setting_of options service).shapes

types : Laws → (options : Options) (service : Service) → FitsDesk options service.desk → service.programs ≡ no_programs → IsTypedService options service
types laws options service fits programs = record {
  tables = laws.typed.tables service.desk.sofar.catalog;
  rows = typed_rows laws.typed service.desk.sofar.catalog (first_rows service.desk) fits.rows;
  statements = all_empty (λ (txns : List Txn). All (IsTypedFor options service) txns) service programs (All-nil (IsTypedFor options service));
}

lies_between : Laws → (options : Options) (service : Service) → IsNew options service → BetweenLines (setting_of options service) service.turns service.state
lies_between laws options service new =
    subst (λ (turns : List ℕ). BetweenLines (setting_of options service) turns service.state) (sym new.turns)
    (subst (λ (state : State). BetweenLines (setting_of options service) [] state) (sym new.state)
    (laws.between (setting_of options service) (empty_at options service new.programs)))

pub new_sound : Laws → (options : Options) (service : Service) → HasSizes options → FitsDesk options service.desk → IsNew options service
    → ((number : ℕ) → number < MOST_SESSIONS → AgreesAt options service number) → IsSound options service
new_sound laws options service sizes fits new agrees = record {
  desk = fits;
  unnamed = λ none. new.turns;
  runnable = runs laws options service sizes fits new.programs;
  typed = types laws options service fits new.programs;
  unused = λ turns. (new.programs, new.state);
  all = many service new.programs;
  between = lies_between laws options service new;
  agrees = agrees;
}

-- ---- before the first line

opened : (options : Options) (number : ℕ) → AgreesAt options (opening options) number
opened options number = record {
  txns = sym (ap (λ (txns : List Txn). length txns) (empty_at options (opening options) refl number));
  standing = sym (ap (λ (session : Session). standing_of session.now (program_of (setting_of options (opening options)) number)) (fresh_at no_programs number));
}

pub opening_sound : Laws → ((options : Options) → FitsDesk options fresh) → (options : Options) → IsSized options → IsSound options (opening options)
opening_sound laws first options sized =
    new_sound laws options (opening options) (sizes_of options sized) (first options) (record { turns = refl; programs = refl; state = refl })
    (λ number within. opened options number)
