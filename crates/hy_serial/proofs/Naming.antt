-- All that a lawful and serializable outcome mentions has a name.
use Rattle.std.specs.Prelude.{◌*◌, ◌&&◌, ◌||◌, ◌==◌, IfSome, slice_get, slice_index_or}
use Rattle.std.specs.List.{AllByRecursion, AllZip, list_all, list_any, range_with_len}
use Rattle.std.specs.Option.{IsSomeAnd, option_map, option_or}
use Rattle.std.proofs.Common.{◌≡◌, ℕ, zero, suc, ◌+◌, ◌<◌, ◌≤◌, Bool, true, false, List, [], ◌∷◌, ◌++◌, Option, None, Some, length, map, drop, refl, sym, ap, subst, ◌∙◌, arith}
use Rattle.std.proofs.lemmas.Bool.{eqb-true, ltb-true}
use Rattle.std.proofs.lemmas.List.{length-map}
use Rattle.std.proofs.lemmas.List.Elements.{All-from_recursion, recursion_from_All}
use Rattle.std.proofs.lemmas.List.FromFn.{length-range_with_len}
use Rattle.hy_stamp.specs.declared.Label.{Label}
use Rattle.hy_bound.specs.declared.Bound.{Bound}
use Rattle.hy_bound.specs.declared.Bound.TheVariants.{Select, Group, Insert, Update, Delete, Savepoint, RollbackTo, Release}
use Rattle.hy_bound.specs.declared.Record.{Record}
use Rattle.hy_bound.specs.declared.Shape.{Shape}
use Rattle.hy_bound.specs.declared.Txn.{Txn}
use Rattle.hy_bound.specs.Fits.{Fits, FitsRows, FitsSession, FitsStatement, FitsTxn}
use Rattle.hy_value.specs.declared.change.Change.{Change}
use Rattle.hy_render.specs.declared.Names.{Names}
use Rattle.hy_render.specs.declared.Place.{Place}
use Rattle.hy_bound.specs.declared.Ending.{Ending}
use Rattle.hy_bound.specs.declared.Ending.TheVariants.{Committed, Read, RolledBack, Conflict, Invalid, Range, Full}
use Rattle.hy_render.specs.declared.TxnOutcome.{TxnOutcome}
use Rattle.hy_render.specs.declared.Committed.{Committed as Entry}
use Rattle.hy_render.specs.declared.Outcome.{Outcome}
use Rattle.hy_render.specs.Named.{IsPrinted, IsNamedPlace, IsNamedEnding, IsNamedTxn, IsNamedChange, IsNamedEntry, IsNamed}
use Rattle.hy_machine.specs.declared.Setting.{Setting}
use Rattle.hy_machine.specs.Validation.{invalid_at, record_hit, hit_among, first_hit}
use Rattle.hy_lawful.specs.Scripts.{numbered, txn_of, statements_in, statements_of, labels_of, labels_from}
use Rattle.hy_lawful.specs.Outcomes.{EachFrom, outcome_at, refused_statement}
use Rattle.hy_lawful.specs.Positions.{is_position, ArePositions, places_of}
use Rattle.hy_lawful.specs.Passing.{has_place}
use Rattle.hy_lawful.specs.Endings.{updates, inserts, MayEnd}
use Rattle.hy_lawful.specs.Refusing.{IsRefusedBy}
use Rattle.hy_lawful.specs.Written.{inserted_in, PlacesWhatItInserts}
use Rattle.hy_lawful.specs.Lawful.{Lawful}
use Rattle.hy_lawful.specs.Serial.{IsSerial}
use Rattle.hy_serial.specs.Naming.{IsPrintedEnding, IsPrintedTxn, IsPrintedChange, IsPrintedEntry, IsPrintedOutcome, AreNamesOf, OutcomesAreNamed}
use Rattle.hy_serial.proofs.Items.{and_left, and_right, all_so, all_both}
use Rattle.hy_serial.proofs.Outcomes.{printed_so, has_label}

-- ---- lists

all_append : {X : Type 0} (P : X → Type 0) (xs ys : List X) → AllByRecursion P xs → AllByRecursion P ys → AllByRecursion P (xs ++ ys)
all_append P [] ys all more = more
all_append P (x ∷ xs) ys all more = (all.0, all_append P xs ys all.1 more)

all_of_map : {X Y : Type 0} (P : Y → Type 0) (f : X → Y) (xs : List X) → AllByRecursion P (map f xs) → AllByRecursion (λ x. P (f x)) xs
all_of_map P f [] all = tt
all_of_map P f (x ∷ xs) all = (all.0, all_of_map P f xs all.1)

all_drop : {X : Type 0} (P : X → Type 0) (n : ℕ) (xs : List X) → AllByRecursion P xs → AllByRecursion P (drop n xs)
all_drop P zero xs all = all
all_drop P (suc n) [] all = tt
all_drop P (suc n) (x ∷ xs) all = all_drop P n xs all.1

each_all : {X : Type 0} (P : ℕ → X → Type 0) (Q : X → Type 0) (first : ℕ) (xs : List X) → ((n : ℕ) (x : X) → P n x → Q x) → EachFrom first P xs
    → AllByRecursion Q xs
each_all P Q first [] f each = tt
each_all P Q first (x ∷ xs) f each = (f first x each.0, each_all P Q (suc first) xs f each.1)

all_at : {X : Type 0} (P : X → Type 0) (xs : List X) (n : ℕ) (d : X) → AllByRecursion P xs → P d → P (slice_index_or xs n d)
all_at P [] n d all rest = rest
all_at P (x ∷ xs) zero d all rest = all.0
all_at P (x ∷ xs) (suc n) d all rest = all_at P xs n d all.1 rest

all_get : {X : Type 0} (P : X → Type 0) (xs : List X) (n : ℕ) → AllByRecursion P xs → IfSome (slice_get xs n) P
all_get P [] n all = tt
all_get P (x ∷ xs) zero all = all.0
all_get P (x ∷ xs) (suc n) all = all_get P xs n all.1

-- what passes a test that each passes, of those that pass another
all_any : {X : Type 0} (P : X → Type 0) (every some : X → Bool) (xs : List X) → ((x : X) → every x ≡ true → some x ≡ true → P x)
    → list_all every xs ≡ true → list_any some xs ≡ true → (x : X) × P x
all_any P every some [] f all any = absurd cc
all_any {X = X} P every some (x ∷ xs) f all any =
    by_first (some x) refl any (all_any P every some xs f (and_right (every x) (list_all every xs) all))
  where
    by_first : (b : Bool) → some x ≡ b → (b || list_any some xs) ≡ true → (list_any some xs ≡ true → (x : X) × P x) → (x : X) × P x
    by_first true is any later = (x, f x (and_left (every x) (list_all every xs) all) is)
    by_first false is any later = later any

-- ---- sessions

labels_of_within : (many session number : ℕ) (txns : List Txn) → session < many → AllByRecursion (λ (label : Label). label.session < many) (labels_of session number txns)
labels_of_within many session number [] there = tt
labels_of_within many session number (txn ∷ txns) there = (there, labels_of_within many session (suc number) txns there)

labels_within : (many first : ℕ) (programs : List (List Txn)) → first + length programs ≤ many
    → AllByRecursion (λ (label : Label). label.session < many) (labels_from first programs)
labels_within many first [] few = tt
labels_within many first (txns ∷ programs) few =
    all_append (λ (label : Label). label.session < many) (labels_of first 1 txns) (labels_from (suc first) programs)
    (labels_of_within many first 1 txns (omega (arith, few))) (labels_within many (suc first) programs (omega (arith, few)))

abbrev IsThere : Setting → TxnOutcome → Type 0
IsThere setting txn = txn.label.session < length setting.programs

sessions_there : (setting : Setting) (outcome : Outcome) → Lawful setting outcome → AllByRecursion (IsThere setting) outcome.txns
sessions_there setting outcome lawful =
    let Within : Label → Type 0 = λ (label : Label). label.session < length setting.programs in
    all_of_map Within (λ (txn : TxnOutcome). txn.label) outcome.txns
    (subst (AllByRecursion Within) (sym lawful.transactions) (labels_within (length setting.programs) 0 setting.programs (omega arith)))

-- a label that has an outcome is of a session that is there
label_there : (setting : Setting) (outcome : Outcome) (label : Label) (txn : TxnOutcome) → Lawful setting outcome → outcome_at outcome label ≡ Some txn
    → label.session < length setting.programs
label_there setting outcome label txn lawful is =
    subst (λ (label : Label). label.session < length setting.programs) (has_label outcome label txn is)
    (printed_so (IsThere setting) outcome (sessions_there setting outcome lawful) label txn is)

-- so is one of whose outcome something is known
known_there : (setting : Setting) (outcome : Outcome) (label : Label) (Q : TxnOutcome → Type 0) → Lawful setting outcome
    → IsSomeAnd (outcome_at outcome label) Q → label.session < length setting.programs
known_there setting outcome label Q lawful known = by_outcome (outcome_at outcome label) refl known
  where
    by_outcome : (found : Option TxnOutcome) → outcome_at outcome label ≡ found → IsSomeAnd found Q → label.session < length setting.programs
    by_outcome None is known = absurd known
    by_outcome (Some txn) is known = label_there setting outcome label txn lawful is

-- ---- tables

as_many : (room : ℕ) (shapes : List Shape) (first : List (List (List _))) → AllZip (FitsRows room) shapes first → length first ≡ length shapes
as_many room [] [] fits = refl
as_many room [] (rows ∷ first) fits = absurd fits
as_many room (shape ∷ shapes) [] fits = absurd fits
as_many room (shape ∷ shapes) (rows ∷ first) fits = ap suc (as_many room shapes first fits.1)

abbrev IsTable : Setting → ℕ → Type 0
IsTable setting table = table < length setting.first

place_there : (setting : Setting) (places : List Place) (table pos : ℕ) → list_all (is_position setting) places ≡ true → has_place places table pos ≡ true
    → IsTable setting table
place_there setting places table pos there has =
    (all_any (λ (place : Place). IsTable setting table) (is_position setting) (λ (place : Place). place.table == table && place.pos == pos) places
    (λ place is same. subst (IsTable setting) (eqb-true place.table table (and_left _ _ same)) (ltb-true _ _ (and_left _ _ is))) there has).1

positions_there : (setting : Setting) (places : List Place) → list_all (is_position setting) places ≡ true
    → AllByRecursion (λ (place : Place). IsTable setting place.table) places
positions_there setting [] there = tt
positions_there setting (place ∷ places) there =
    (ltb-true _ _ (and_left _ _ (and_left _ _ there)), positions_there setting places (and_right (is_position setting place) _ there))

abbrev ChangesAreThere : Setting → Entry → Type 0
ChangesAreThere setting entry = AllByRecursion (λ (change : Change). IsTable setting change.table) entry.changes

changes_there : (setting : Setting) (entry : Entry) → ArePositions setting (places_of entry.changes) → ChangesAreThere setting entry
changes_there setting entry are =
    all_of_map (λ (place : Place). IsTable setting place.table) (λ (change : Change). record { table = change.table; pos = change.pos }) entry.changes
    (positions_there setting (places_of entry.changes) are.there)

-- the table of a hit is that of a change
hit_there : (setting : Setting) (records : List Record) (label : Label) (changes : List Change) (table pos : ℕ) (other : Label) (statement : ℕ)
    → AllByRecursion (λ (change : Change). IsTable setting change.table) changes → hit_among records label changes ≡ Some (Invalid table pos other statement)
    → IsTable setting table
hit_there setting records label [] table pos other statement all hit = absurd cc
hit_there setting records label (change ∷ changes) table pos other statement all hit =
    by_record (record_hit records change.table change.before change.after) hit (hit_there setting records label changes table pos other statement all.1)
  where
    by_record : (found : Option ℕ)
        → option_or (option_map (invalid_at label change.table change.pos) found) (hit_among records label changes) ≡ Some (Invalid table pos other statement)
        → (hit_among records label changes ≡ Some (Invalid table pos other statement) → IsTable setting table) → IsTable setting table
    by_record None hit later = later hit
    by_record (Some number) hit later = let same : change.table ≡ table = cc in subst (IsTable setting) same all.0

hits_there : (setting : Setting) (records : List Record) (entries : List Entry) (table pos : ℕ) (other : Label) (statement : ℕ)
    → AllByRecursion (ChangesAreThere setting) entries → first_hit records entries ≡ Some (Invalid table pos other statement) → IsTable setting table
hits_there setting records [] table pos other statement all hit = absurd cc
hits_there setting records (entry ∷ entries) table pos other statement all hit =
    by_first (hit_among records entry.label entry.changes) refl hit (hits_there setting records entries table pos other statement all.1)
  where
    by_first : (found : Option Ending) → hit_among records entry.label entry.changes ≡ found
        → option_or found (first_hit records entries) ≡ Some (Invalid table pos other statement)
        → (first_hit records entries ≡ Some (Invalid table pos other statement) → IsTable setting table) → IsTable setting table
    by_first None is hit later = later hit
    by_first (Some one) is hit later = hit_there setting records entry.label entry.changes table pos other statement all.0 (is ∙ hit)

-- ---- statements

abbrev IsFit : Setting → Bound → Type 0
IsFit setting statement = FitsStatement setting.shapes statement

statements_fit : (setting : Setting) → Fits setting.shapes (setting.chunks * setting.rows) setting.first setting.programs → (label : Label)
    → AllByRecursion (IsFit setting) (statements_of setting.programs label)
statements_fit setting fits label =
    by_txn (txn_of setting.programs label)
    (by_number label.txn (slice_index_or setting.programs label.session [])
    (all_at (AllByRecursion (FitsTxn setting.shapes)) setting.programs label.session []
    (all_so (FitsSession setting.shapes) (AllByRecursion (FitsTxn setting.shapes)) setting.programs
    (λ txns fits. recursion_from_All (FitsTxn setting.shapes) txns fits.fit) (recursion_from_All (FitsSession setting.shapes) setting.programs fits.sessions)) tt))
  where
    by_number : (number : ℕ) (txns : List Txn) → AllByRecursion (FitsTxn setting.shapes) txns → IfSome (numbered txns number) (FitsTxn setting.shapes)
    by_number zero txns fit = tt
    by_number (suc before) txns fit = all_get (FitsTxn setting.shapes) txns before fit

    by_txn : (txn : Option Txn) → IfSome txn (FitsTxn setting.shapes) → AllByRecursion (IsFit setting) (statements_in txn)
    by_txn None fit = tt
    by_txn (Some txn) fit = recursion_from_All (FitsStatement setting.shapes) txn.statements fit.fit

refused_fits : (setting : Setting) → Fits setting.shapes (setting.chunks * setting.rows) setting.first setting.programs → (txn : TxnOutcome)
    → IfSome (refused_statement setting.programs txn) (IsFit setting)
refused_fits setting fits txn =
    all_get (IsFit setting) (statements_of setting.programs txn.label) (length txn.replies) (statements_fit setting fits txn.label)

updated_there : (setting : Setting) (table : ℕ) (statement : Option Bound) → IfSome statement (IsFit setting) → updates table statement ≡ true
    → table < length setting.shapes
updated_there setting table None fit is = absurd cc
updated_there setting table (Some (Select tables ons pred items)) fit is = absurd cc
updated_there setting table (Some (Group of pred key aggregate)) fit is = absurd cc
updated_there setting table (Some (Insert of row)) fit is = absurd cc
updated_there setting table (Some (Update of sets pred)) fit is = subst (λ (t : ℕ). t < length setting.shapes) (eqb-true of table is) fit.0
updated_there setting table (Some (Delete of pred)) fit is = absurd cc
updated_there setting table (Some (Savepoint name)) fit is = absurd cc
updated_there setting table (Some (RollbackTo name)) fit is = absurd cc
updated_there setting table (Some (Release name)) fit is = absurd cc

inserted_there : (setting : Setting) (table : ℕ) (statement : Option Bound) → IfSome statement (IsFit setting) → inserts table statement ≡ true
    → table < length setting.shapes
inserted_there setting table None fit is = absurd cc
inserted_there setting table (Some (Select tables ons pred items)) fit is = absurd cc
inserted_there setting table (Some (Group of pred key aggregate)) fit is = absurd cc
inserted_there setting table (Some (Insert of row)) fit is = subst (λ (t : ℕ). t < length setting.shapes) (eqb-true of table is) fit.0
inserted_there setting table (Some (Update of sets pred)) fit is = absurd cc
inserted_there setting table (Some (Delete of pred)) fit is = absurd cc
inserted_there setting table (Some (Savepoint name)) fit is = absurd cc
inserted_there setting table (Some (RollbackTo name)) fit is = absurd cc
inserted_there setting table (Some (Release name)) fit is = absurd cc

-- ---- an outcome

-- what the naming rests on
record Given (setting : Setting) (names : Names) (outcome : Outcome) : Type 0 where
  fits : Fits setting.shapes (setting.chunks * setting.rows) setting.first setting.programs
  are : AreNamesOf setting names
  lawful : Lawful setting outcome
  serial : IsSerial setting outcome

module _ (setting : Setting) (names : Names) (outcome : Outcome) (given : Given setting names outcome) where
  tables_same : length setting.first ≡ length names.tables
  tables_same = as_many (setting.chunks * setting.rows) setting.shapes setting.first given.fits.first_rows ∙ sym given.are.tables

  table_named : (table : ℕ) → IsTable setting table → table < length names.tables
  table_named table there = subst (λ (many : ℕ). table < many) tables_same there

  shape_named : (table : ℕ) → table < length setting.shapes → table < length names.tables
  shape_named table there = subst (λ (many : ℕ). table < many) (sym given.are.tables) there

  session_named : (session : ℕ) → session < length setting.programs → session < length names.sessions
  session_named session there = subst (λ (many : ℕ). session < many) (sym given.are.sessions) there

  other_named : (label : Label) (Q : TxnOutcome → Type 0) → IsSomeAnd (outcome_at outcome label) Q → label.session < length names.sessions
  other_named label Q known = session_named label.session (known_there setting outcome label Q given.lawful known)

  wrote_there : (label : Label) (table pos : ℕ) → IsSomeAnd (outcome_at outcome label) (λ (rival : TxnOutcome). has_place rival.wrote table pos ≡ true) → IsTable setting table
  wrote_there label table pos known = by_outcome (outcome_at outcome label) refl known
    where
      by_outcome : (found : Option TxnOutcome) → outcome_at outcome label ≡ found → IsSomeAnd found (λ (rival : TxnOutcome). has_place rival.wrote table pos ≡ true)
          → IsTable setting table
      by_outcome None is known = absurd known
      by_outcome (Some rival) is known =
          place_there setting rival.wrote table pos
          (printed_so (λ (txn : TxnOutcome). ArePositions setting txn.wrote) outcome given.lawful.places label rival is).there known

  ending_named : (txn : TxnOutcome) (ending : Ending) → MayEnd setting.programs outcome txn ending → IsRefusedBy setting outcome txn ending → IsPrintedEnding ending
      → IsNamedEnding names ending
  ending_named txn (Committed rank) may refused printed = printed
  ending_named txn Read may refused printed = tt
  ending_named txn RolledBack may refused printed = tt
  ending_named txn (Conflict table pos other) may refused printed = (
    record { named = table_named table (wrote_there other table pos refused.wrote); printed = printed.0 },
    record { named = other_named other _ may.rival; printed = printed.1 },
  )
  ending_named txn (Invalid table pos other statement) may refused printed = (
    record {
      named =
          table_named table
          (hits_there setting _ (drop txn.start outcome.order) table pos other statement
          (all_drop (ChangesAreThere setting) txn.start outcome.order
          (all_so (λ (entry : Entry). ArePositions setting (places_of entry.changes)) (ChangesAreThere setting) outcome.order (changes_there setting) given.lawful.changed_places))
          refused.hit);
      printed = printed.0;
    },
    record { named = other_named other _ may.since; printed = printed.1 },
    printed.2,
  )
  ending_named txn (Range table pos) may refused printed =
      record { named = shape_named table (updated_there setting table (refused_statement setting.programs txn) (refused_fits setting given.fits txn) may); printed = printed }
  ending_named txn (Full table) may refused printed =
      shape_named table (inserted_there setting table (refused_statement setting.programs txn) (refused_fits setting given.fits txn) may)

  txn_named : (txn : TxnOutcome) → IsThere setting txn → ArePositions setting txn.wrote → MayEnd setting.programs outcome txn txn.ending
      → IsRefusedBy setting outcome txn txn.ending → PlacesWhatItInserts setting txn → IsPrintedTxn txn → IsNamedTxn names txn
  txn_named txn there places may refused inserted printed =
      let placed : length txn.placed ≡ length setting.first =
      ap (λ (counts : List ℕ). length counts) (sym inserted) ∙ length-map (range_with_len 0 (length setting.first)) (inserted_in (statements_of setting.programs txn.label) txn.replies)
      ∙ length-range_with_len 0 (length setting.first) in
      record {
        label = record { named = session_named txn.label.session there; printed = printed.number };
        start = printed.start;
        replies = printed.replies;
        ending = ending_named txn txn.ending may refused printed.ending;
        wrote =
            All-from_recursion (λ (place : Place). IsNamedPlace names place.table place.pos) txn.wrote
            (all_so (λ (place : Place). IsTable setting place.table × IsPrinted place.pos) (λ (place : Place). IsNamedPlace names place.table place.pos) txn.wrote
            (λ place is. record { named = table_named place.table is.0; printed = is.1 })
            (all_both (λ (place : Place). IsTable setting place.table) (λ (place : Place). IsPrinted place.pos) txn.wrote
            (positions_there setting txn.wrote places.there) (recursion_from_All (λ (place : Place). IsPrinted place.pos) txn.wrote printed.wrote)));
        each_table = placed ∙ tables_same;
        placed = printed.placed;
      }

  change_named : (change : Change) → IsTable setting change.table × IsPrintedChange change → IsNamedChange names change
  change_named change is = record {
    place = record { named = table_named change.table is.0; printed = is.1.pos };
    before = is.1.before;
    after = is.1.after;
  }

  entry_named : (entry : Entry) → entry.label.session < length setting.programs → ChangesAreThere setting entry → IsPrintedEntry entry → IsNamedEntry names entry
  entry_named entry session changes printed = record {
    label = record { named = session_named entry.label.session session; printed = printed.number };
    changes =
        All-from_recursion (IsNamedChange names) entry.changes
        (all_so (λ (change : Change). IsTable setting change.table × IsPrintedChange change) (IsNamedChange names) entry.changes change_named
        (all_both (λ (change : Change). IsTable setting change.table) IsPrintedChange entry.changes changes
        (recursion_from_All IsPrintedChange entry.changes printed.changes)));
  }

  known_txns : (txns : List TxnOutcome) → AllByRecursion (IsThere setting) txns → AllByRecursion (λ (txn : TxnOutcome). ArePositions setting txn.wrote) txns
      → AllByRecursion (λ (txn : TxnOutcome). MayEnd setting.programs outcome txn txn.ending) txns
      → AllByRecursion (λ (txn : TxnOutcome). IsRefusedBy setting outcome txn txn.ending) txns → AllByRecursion (PlacesWhatItInserts setting) txns
      → AllByRecursion IsPrintedTxn txns → AllByRecursion (IsNamedTxn names) txns
  known_txns [] there places may refused inserted printed = tt
  known_txns (txn ∷ txns) there places may refused inserted printed = (
    txn_named txn there.0 places.0 may.0 refused.0 inserted.0 printed.0,
    known_txns txns there.1 places.1 may.1 refused.1 inserted.1 printed.1,
  )

  known_entries : (entries : List Entry) → AllByRecursion (λ (entry : Entry). entry.label.session < length setting.programs) entries
      → AllByRecursion (λ (entry : Entry). ArePositions setting (places_of entry.changes)) entries → AllByRecursion IsPrintedEntry entries
      → AllByRecursion (IsNamedEntry names) entries
  known_entries [] there places printed = tt
  known_entries (entry ∷ entries) there places printed = (
    entry_named entry there.0 (changes_there setting entry places.0) printed.0,
    known_entries entries there.1 places.1 printed.1,
  )

  entries_there : AllByRecursion (λ (entry : Entry). entry.label.session < length setting.programs) outcome.order
  entries_there = each_all _ (λ (entry : Entry). entry.label.session < length setting.programs) 0 outcome.order entry_there given.lawful.order
    where
      by_outcome : (label : Label) (rank : ℕ) (found : Option TxnOutcome) → outcome_at outcome label ≡ found
          → option_map (λ (txn : TxnOutcome). txn.ending) found ≡ Some (Committed rank) → label.session < length setting.programs
      by_outcome label rank None is ends = absurd cc
      by_outcome label rank (Some txn) is ends = label_there setting outcome label txn given.lawful is

      entry_there : (rank : ℕ) (entry : Entry)
          → option_map (λ (txn : TxnOutcome). txn.ending) (outcome_at outcome entry.label) ≡ Some (Committed rank)
          → entry.label.session < length setting.programs
      entry_there rank entry ends = by_outcome entry.label rank (outcome_at outcome entry.label) refl ends

  all_named : IsPrintedOutcome outcome → IsNamed names outcome
  all_named printed = record {
    txns =
        All-from_recursion (IsNamedTxn names) outcome.txns
        (known_txns outcome.txns (sessions_there setting outcome given.lawful) given.lawful.places given.lawful.endings given.serial.refusals given.serial.inserted
        (recursion_from_All IsPrintedTxn outcome.txns printed.txns));
    order =
        All-from_recursion (IsNamedEntry names) outcome.order
        (known_entries outcome.order entries_there given.lawful.changed_places (recursion_from_All IsPrintedEntry outcome.order printed.order));
    tables = printed.tables;
  }

pub outcomes_named : OutcomesAreNamed
outcomes_named setting names outcome fits are lawful serial printed =
    all_named setting names outcome (record { fits = fits; are = are; lawful = lawful; serial = serial }) printed
