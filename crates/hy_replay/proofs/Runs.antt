-- Statements one after another over tables that differ unseen come to the same, and leave rows of their tables' widths.
use Rattle.std.proofs.Common.{◌≡◌, ℕ, zero, suc, ◌≤◌, ◌⊎◌, inl, inr, List, [], ◌∷◌, ◌++◌, Option, None, Some, length, refl, ap, sym, ◌∙◌, subst, arith}
use Rattle.std.specs.List.{All}
use Rattle.std.specs.Option.{option_and_then, option_map}
use Rattle.std.proofs.lemmas.Bool.{cases_lt}
use Rattle.std.proofs.lemmas.List.{get_or_past}
use Rattle.std.proofs.lemmas.Option.{same_Some}
use Rattle.hy_bound.specs.declared.Bound.{Bound}
use Rattle.hy_bound.specs.declared.Record.{Record}
use Rattle.hy_bound.specs.declared.Shape.{Shape}
use Rattle.hy_bound.specs.Agreement.{HasItsKey}
use Rattle.hy_bound.specs.Fits.{FitsShape, FitsStatement}
use Rattle.hy_bound.specs.Records.{no_shape, shape_of}
use Rattle.hy_bound.specs.Savepoints.{Saved, saved_after, value_after}
use Rattle.hy_bound.specs.SavedRelations.{AllKeep, alike_same, saved_after_alike, value_after_alike}
use Rattle.hy_machine.specs.declared.Setting.{Setting}
use Rattle.hy_machine.specs.Positions.{item_at}
use Rattle.hy_machine.specs.Tables.{Tables, Own, capacity}
use Rattle.hy_machine.specs.Writes.{blank_own}
use Rattle.hy_replay.specs.Laws.{AreTables, HaveWidths, DifferUnseen, RunsAgain, RunsKeepWidths}
use Rattle.hy_replay.specs.Ran.{One, one, taken_back, Ran, after_one, ran_from, ran}
use Rattle.hy_replay.specs.TakenBack.{Grows, back_again, back_grows}
use Rattle.hy_replay.proofs.Cells.{FitsOwn, writes_fit, writes_grow, blank_fits, over_widths}
use Rattle.hy_replay.proofs.Changes.{ShapesFit}
use Rattle.hy_replay.proofs.Selects.{KeepsRecords, KeepsReplies}
use Rattle.hy_replay.proofs.Views.{BothFit}
use Rattle.hy_replay.proofs.Hits.{front_missed, others_missed}
use Rattle.hy_replay.proofs.Statements.{one_leaves, one_again}
use Rattle.hy_replay.proofs.TakenBack.{back_fits}
use Rattle.hy_replay.proofs.Writes.{LeavesWrites}
use Rattle.hy_replay.proofs.Truths.{SelectsByRead}

-- ---- shapes and statements that fit

fits_key : (shape : Shape) → FitsShape shape → HasItsKey shape × (shape.width ≤ 32)
fits_key shape fits = (fits.key, fits.few)

-- a table that isn't there has no key and no columns
pub shapes_fit : (shapes : List Shape) → All FitsShape shapes → ShapesFit shapes
shapes_fit shapes fit table = elim (cases_lt table (length shapes)) [
  | inl there ↦ fits_key (shape_of shapes table) (fit table no_shape there)
  | inr past ↦ subst (λ (shape : Shape). HasItsKey shape × (shape.width ≤ 32)) (sym (get_or_past shapes table no_shape past))
      (λ key e. absurd cc, omega arith)
]

all_first : {X : Type 0} (P : X → Type 0) (x : X) (xs : List X) → All P (x ∷ xs) → P x
all_first P x xs h = h zero x (omega arith)

all_rest : {X : Type 0} (P : X → Type 0) (x : X) (xs : List X) → All P (x ∷ xs) → All P xs
all_rest P x xs h k d below = h (suc k) d (omega arith)

-- ---- a statement and those behind it

-- what a run came to, by its first statement and the others
pub record Parts (first : Option One) (others : One → Option Ran) (given : Ran) : Type 0 where
  pub one : One
  pub rest : Ran
  pub first_is : first ≡ Some one
  pub rest_is : others one ≡ Some rest
  pub is : after_one one rest ≡ given

mapped : (one : One) (others : Option Ran) (given : Ran) → option_map (after_one one) others ≡ Some given
    → (rest : Ran) × ((others ≡ Some rest) × (after_one one rest ≡ given))
mapped one None given e = absurd cc
mapped one (Some rest) given e = (rest, (refl, same_Some (after_one one rest) given e))

pub parts_of : (first : Option One) (others : One → Option Ran) (given : Ran)
    → option_and_then (λ (first : One). option_map (after_one first) (others first)) first ≡ Some given → Parts first others given
parts_of None others given e = absurd cc
parts_of (Some one) others given e =
    let parts = mapped one (others one) given e in
    record { one = one; rest = parts.0; first_is = refl; rest_is = parts.1.0; is = parts.1.1 }

leaves_fit : (setting : Setting) (own : Own) (given : One) → FitsOwn setting own → LeavesWrites setting own given → FitsOwn setting given.own
leaves_fit setting own given fits leaves = subst (FitsOwn setting) (sym leaves.is) (writes_fit setting own leaves.writes fits leaves.fit)

leaves_grow : (setting : Setting) (own : Own) (given : One) → FitsOwn setting own → LeavesWrites setting own given → Grows own given.own
leaves_grow setting own given fits leaves table pos e =
    writes_grow own leaves.writes (length setting.first) (capacity setting) table pos fits.shape
    (ap (λ (own : Own). item_at own table pos) (sym leaves.is) ∙ e)

-- own writes fit, and so does what savepoints keep
record FitsRun (setting : Setting) (own : Own) (saved : List (Saved Own)) : Type 0 where
  own_fits : FitsOwn setting own
  kept_fit : AllKeep (FitsOwn setting) saved

-- the own writes and the savepoints that the statements behind a statement begin with
abbrev pub own_then : Tables → List (Saved Own) → Bound → One → Own
own_then tables saved statement first = value_after (taken_back tables) statement saved first.own

abbrev pub saved_then : List (Saved Own) → Bound → One → List (Saved Own)
saved_then saved statement first = saved_after statement saved first.own

-- the statements behind the first
abbrev pub behind : Setting → Tables → List (Saved Own) → ℕ → Bound → List Bound → List (Option ℕ) → One → Option Ran
behind setting tables saved number statement statements took first =
    ran_from setting tables (own_then tables saved statement first) (saved_then saved statement first) (suc number) statements took

-- what a statement leaves of a run that fits
record Leaves (setting : Setting) (tables : Tables) (own : Own) (saved : List (Saved Own)) (statement : Bound) (first : One) : Type 0 where
  grows : Grows own first.own
  grows_then : Grows first.own (own_then tables saved statement first)
  fits_then : FitsRun setting (own_then tables saved statement first) (saved_then saved statement first)

statement_leaves : (setting : Setting) (tables : Tables) (own : Own) (saved : List (Saved Own)) (number : ℕ) (statement : Bound) (at : Option ℕ) (first : One)
    → FitsStatement setting.shapes statement → AreTables setting tables → HaveWidths setting.shapes tables → FitsRun setting own saved
    → one setting tables own number statement at ≡ Some first → Leaves setting tables own saved statement first
statement_leaves setting tables own saved number statement at first stands are wide fits e =
    let leaves : LeavesWrites setting own first = one_leaves setting tables own number statement at first are wide fits.own_fits stands e in
    let left : FitsOwn setting first.own = leaves_fit setting own first fits.own_fits leaves in
    record {
      grows = leaves_grow setting own first fits.own_fits leaves;
      grows_then = value_after_alike (λ was same. FitsOwn setting was) (λ later same. Grows first.own later) (taken_back tables) (taken_back tables)
          statement saved saved first.own first.own fits.kept_fit (λ table pos none. none) (λ was same kept. back_grows tables was first.own);
      fits_then = record {
        own_fits = value_after_alike (λ was same. FitsOwn setting was) (λ later same. FitsOwn setting later) (taken_back tables) (taken_back tables)
            statement saved saved first.own first.own fits.kept_fit left (λ was same kept. back_fits setting tables was first.own are wide kept left);
        kept_fit = saved_after_alike (λ was same. FitsOwn setting was) statement saved saved first.own first.own fits.kept_fit left;
      };
    }

run_grows : (setting : Setting) (tables : Tables) (own : Own) (saved : List (Saved Own)) (number : ℕ) (statements : List Bound)
    (took : List (Option ℕ)) (given : Ran)
    → All (FitsStatement setting.shapes) statements → AreTables setting tables → HaveWidths setting.shapes tables → FitsRun setting own saved
    → ran_from setting tables own saved number statements took ≡ Some given → Grows own given.own
run_grows setting tables own saved number [] took given stand are wide fits e table pos n =
    ap (λ (given : Ran). item_at given.own table pos) (same_Some (record { own = own; saved = saved; replies = []; records = [] }) given e) ∙ n
run_grows setting tables own saved number (statement ∷ statements) [] given stand are wide fits e table pos n = absurd cc
run_grows setting tables own saved number (statement ∷ statements) (at ∷ took) given stand are wide fits e table pos n =
    let parts = parts_of (one setting tables own number statement at) (behind setting tables saved number statement statements took) given e in
    let leaves = statement_leaves setting tables own saved number statement at parts.one
    (all_first (FitsStatement setting.shapes) statement statements stand) are wide fits parts.first_is in
    leaves.grows table pos (leaves.grows_then table pos
    (run_grows setting tables (own_then tables saved statement parts.one) (saved_then saved statement parts.one) (suc number) statements took parts.rest
    (all_rest (FitsStatement setting.shapes) statement statements stand) are wide leaves.fits_then parts.rest_is table pos
    (ap (λ (given : Ran). item_at given.own table pos) parts.is ∙ n)))

-- ---- tables that differ unseen

-- tables that differ unseen differ so for less that is own, and for the first of the records
unseen_first : (tables others : Tables) (own later : Own) (records more : List Record) → Grows own later → DifferUnseen tables others later (records ++ more)
    → DifferUnseen tables others own records
unseen_first tables others own later records more grows unseen table pos = elim (unseen table pos) [
  | inl same ↦ inl same
  | inr apart ↦ inr (record {
    apart = grows table pos apart.apart;
    missed = front_missed records more table (item_at tables table pos) (item_at others table pos) apart.missed;
  })
]

-- and for the others
unseen_rest : (tables others : Tables) (later : Own) (records more : List Record) → DifferUnseen tables others later (records ++ more)
    → DifferUnseen tables others later more
unseen_rest tables others later records more unseen table pos = elim (unseen table pos) [
  | inl same ↦ inl same
  | inr apart ↦ inr (record {
    apart = apart.apart;
    missed = others_missed records more table (item_at tables table pos) (item_at others table pos) apart.missed;
  })
]

-- and what is own then is the same over both
then_again : (tables others : Tables) (own : Own) (saved : List (Saved Own)) (statement : Bound) (records : List Record)
    → DifferUnseen tables others own records
    → value_after (taken_back tables) statement saved own ≡ value_after (taken_back others) statement saved own
then_again tables others own saved statement records unseen =
    value_after_alike (λ was same. was ≡ same) (λ later same. later ≡ same) (taken_back tables) (taken_back others) statement saved saved own own
    (alike_same saved) refl (λ was same e. ap (λ (one : Own). taken_back tables one own) e ∙ back_again tables others same own at_each)
  where
    at_each : (table pos : ℕ) → (item_at tables table pos ≡ item_at others table pos) ⊎ (item_at own table pos ≡ None)
    at_each table pos = elim (unseen table pos) [
      | inl same ↦ inl same
      | inr apart ↦ inr apart.apart
    ]

run_again : KeepsRecords → KeepsReplies → SelectsByRead
    → (setting : Setting) (tables others : Tables) (own : Own) (saved : List (Saved Own)) (number : ℕ) (statements : List Bound)
    (took : List (Option ℕ)) (given : Ran)
    → BothFit setting tables others → All (FitsStatement setting.shapes) statements → FitsRun setting own saved
    → ran_from setting tables own saved number statements took ≡ Some given → DifferUnseen tables others given.own given.records
    → ran_from setting others own saved number statements took ≡ Some given
run_again keeps replies selects setting tables others own saved number [] took given fit stand fits e unseen = e
run_again keeps replies selects setting tables others own saved number (statement ∷ statements) [] given fit stand fits e unseen = e
run_again keeps replies selects setting tables others own saved number (statement ∷ statements) (at ∷ took) given fit stand fits e unseen =
    let parts = parts_of (one setting tables own number statement at) (behind setting tables saved number statement statements took) given e in
    let more : All (FitsStatement setting.shapes) statements = all_rest (FitsStatement setting.shapes) statement statements stand in
    let leaves = statement_leaves setting tables own saved number statement at parts.one
    (all_first (FitsStatement setting.shapes) statement statements stand) fit.are fit.wide fits parts.first_is in
    let now : Own = own_then tables saved statement parts.one in
    let kept : List (Saved Own) = saved_then saved statement parts.one in
    let differ : DifferUnseen tables others parts.rest.own (parts.one.records ++ parts.rest.records) =
    subst (λ (given : Ran). DifferUnseen tables others given.own given.records) (sym parts.is) unseen in
    let grows : Grows now parts.rest.own =
    run_grows setting tables now kept (suc number) statements took parts.rest more fit.are fit.wide leaves.fits_then parts.rest_is in
    let here : DifferUnseen tables others parts.one.own parts.one.records =
    unseen_first tables others parts.one.own parts.rest.own parts.one.records parts.rest.records
    (λ table pos none. leaves.grows_then table pos (grows table pos none)) differ in
    let first : one setting others own number statement at ≡ Some parts.one =
    one_again keeps replies selects setting tables others own number statement at parts.one fit fits.own_fits parts.first_is here in
    let rest : ran_from setting others now kept (suc number) statements took ≡ Some parts.rest =
    run_again keeps replies selects setting tables others now kept (suc number) statements took parts.rest fit more leaves.fits_then
    parts.rest_is (unseen_rest tables others parts.rest.own parts.one.records parts.rest.records differ) in
    ap (option_and_then (λ (one : One). option_map (after_one one) (behind setting others saved number statement statements took one))) first
    ∙ (ap (λ (own : Own). option_map (after_one parts.one) (ran_from setting others own kept (suc number) statements took))
    (sym (then_again tables others parts.one.own saved statement parts.one.records here))
    ∙ (ap (option_map (after_one parts.one)) rest ∙ ap Some parts.is))

start_fits : (setting : Setting) → FitsRun setting (blank_own setting) []
start_fits setting = record { own_fits = blank_fits setting; kept_fit = tt }

pub runs_again : KeepsRecords → KeepsReplies → SelectsByRead → RunsAgain
runs_again keeps replies selects setting tables others statements took given shapes stand are also wide wide_too e unseen =
    let fit : BothFit setting tables others =
    record { shapes = shapes_fit setting.shapes shapes; are = are; others_are = also; wide = wide; others_wide = wide_too } in
    run_again keeps replies selects setting tables others (blank_own setting) [] 1 statements took given fit stand (start_fits setting) e unseen

-- ---- widths

run_fits : (setting : Setting) (tables : Tables) (own : Own) (saved : List (Saved Own)) (number : ℕ) (statements : List Bound)
    (took : List (Option ℕ)) (given : Ran)
    → All (FitsStatement setting.shapes) statements → AreTables setting tables → HaveWidths setting.shapes tables → FitsRun setting own saved
    → ran_from setting tables own saved number statements took ≡ Some given → FitsOwn setting given.own
run_fits setting tables own saved number [] took given stand are wide fits e =
    subst (λ (given : Ran). FitsOwn setting given.own) (same_Some (record { own = own; saved = saved; replies = []; records = [] }) given e) fits.own_fits
run_fits setting tables own saved number (statement ∷ statements) [] given stand are wide fits e = absurd cc
run_fits setting tables own saved number (statement ∷ statements) (at ∷ took) given stand are wide fits e =
    let parts = parts_of (one setting tables own number statement at) (behind setting tables saved number statement statements took) given e in
    let leaves = statement_leaves setting tables own saved number statement at parts.one
    (all_first (FitsStatement setting.shapes) statement statements stand) are wide fits parts.first_is in
    subst (λ (given : Ran). FitsOwn setting given.own) parts.is
    (run_fits setting tables (own_then tables saved statement parts.one) (saved_then saved statement parts.one) (suc number) statements took parts.rest
    (all_rest (FitsStatement setting.shapes) statement statements stand) are wide leaves.fits_then parts.rest_is)

-- what a transaction's statements write fits
pub own_fits : (setting : Setting) (tables : Tables) (statements : List Bound) (took : List (Option ℕ)) (given : Ran)
    → All (FitsStatement setting.shapes) statements → AreTables setting tables → HaveWidths setting.shapes tables
    → ran setting tables statements took ≡ Some given → FitsOwn setting given.own
own_fits setting tables statements took given stand are wide e =
    run_fits setting tables (blank_own setting) [] 1 statements took given stand are wide (start_fits setting) e

pub runs_keep_widths : RunsKeepWidths
runs_keep_widths setting tables statements took given stand are wide e =
    over_widths setting tables given.own are wide (own_fits setting tables statements took given stand are wide e)
