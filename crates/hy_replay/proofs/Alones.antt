-- What statements over tables of positions come to is what they give alone, over the bags of the tables' rows.
use Rattle.std.proofs.Common.{◌≡◌, ℕ, suc, List, [], ◌∷◌, ◌++◌, Option, None, Some, Bool, true, false, length, refl, ap, sym, ◌∙◌, subst}
use Rattle.std.proofs.Math.ListN.{set}
use Rattle.std.specs.Prelude.{cond, not, filter}
use Rattle.std.specs.List.{AllByRecursion, list_any}
use Rattle.std.specs.Option.{option_map}
use Rattle.std.proofs.lemmas.List.{length-set, length-map}
use Rattle.std.proofs.lemmas.List.Sorted.{IsPermutation-trans}
use Rattle.std.proofs.lemmas.Option.{same_Some}
use Rattle.hy_value.specs.Sorted.{sorted}
use Rattle.hy_value.specs.Sorting.{sorted_twice}
use Rattle.hy_bound.specs.declared.Bound.{Bound}
use Rattle.hy_bound.specs.declared.Bound.TheVariants.{Select, Group, Insert, Update, Delete, Savepoint, RollbackTo, Release}
use Rattle.hy_bound.specs.declared.Record.{Record}
use Rattle.hy_bound.specs.declared.Reply.{Reply}
use Rattle.hy_bound.specs.declared.Reply.TheVariants as reply
use Rattle.hy_bound.specs.declared.Shape.{Shape}
use Rattle.hy_bound.specs.Changes.{present}
use Rattle.hy_bound.specs.Condition.{Condition}
use Rattle.hy_bound.specs.Predicate.{truth_of}
use Rattle.hy_bound.specs.Records.{shape_of}
use Rattle.hy_bound.specs.Savepoints.{Saved, saved_after, value_after}
use Rattle.hy_bound.specs.SavedRelations.{AreAlike, alike_wider, saved_after_alike, value_after_alike}
use Rattle.hy_plan.specs.Reads.{records_of}
use Rattle.hy_meaning.specs.Serial.{and_then, goes_on, database_back, alone_from}
use Rattle.hy_meaning.specs.Statement.{Table, Database, rows_in, gathered_by, has_key_of, updated_rows, with_table, mean}
use Rattle.hy_laws.specs.Bags.{SameBags}
use Rattle.hy_machine.specs.declared.Setting.{Setting}
use Rattle.hy_machine.specs.Tables.{Cell, Tables, Own, capacity, over}
use Rattle.hy_machine.specs.Writes.{blank_own}
use Rattle.hy_replay.specs.Ran.{One, Ran, one, taken_back, after_one, ran_from, ran}
use Rattle.hy_replay.specs.TakenBack.{Grows, back_grows}
use Rattle.hy_replay.specs.Laws.{AreTables, bags_of}
use Rattle.hy_replay.specs.BagLaws.{IsPosition, alone_as, and_logged, logged_from, RunsAreAlone, RunsLogAlone}
use Rattle.hy_replay.proofs.OverCells.{Alike, HavePositions, blank_alike, over_blank, over_length}
use Rattle.hy_replay.proofs.Presents.{rows_of, IsKept, same_rows, bags_kept, kept_is_bags, filter_kept, set_kept, kept_at}
use Rattle.hy_replay.proofs.BagMeanings.{Means, Steps, step_grows}
use Rattle.hy_replay.proofs.BagStatements.{one_steps}
use Rattle.hy_replay.proofs.Runs.{parts_of, own_then, saved_then, behind}
use Rattle.hy_replay.proofs.TakenBack.{back_alike, over_back_alike}

-- ---- that only the bag of rows matters

abbrev pub LogsSame : Type 0
LogsSame = (shapes : List Shape) (number : ℕ) (statement : Bound) (db others : Database) → SameBags db others
    → records_of shapes number statement (gathered_by statement db) ≡ records_of shapes number statement (gathered_by statement others)

abbrev pub RepliesSame : Type 0
RepliesSame = (shapes : List Shape) (statement : Bound) (db others : Database) → SameBags db others
    → option_map (λ given. given.0) (mean shapes statement db) ≡ option_map (λ given. given.0) (mean shapes statement others)

abbrev pub LeavesSame : Type 0
LeavesSame = (shapes : List Shape) (statement : Bound) (db others : Database) → SameBags db others → (after afters : Database)
    → option_map (λ given. given.1) (mean shapes statement db) ≡ Some after → option_map (λ given. given.1) (mean shapes statement others) ≡ Some afters
    → length db ≡ length others → SameBags after afters

-- ---- a statement keeps tables sorted

record IsLeft (db after : Database) : Type 0 where
  kept : IsKept after
  long : length after ≡ length db

left_set : (db : Database) (table : ℕ) (rows : Table) → IsKept db → sorted rows ≡ rows → IsLeft db (set db table rows)
left_set db table rows k e = record { kept = set_kept db table rows k e; long = length-set db table rows }

left_as : (db : Database) (made given : Reply × Database) → IsLeft db made.1 → Some made ≡ Some given → IsLeft db given.1
left_as db made given left e = subst (λ (one : Reply × Database). IsLeft db one.1) (same_Some made given e) left

left_cond : (b : Bool) (db : Database) (one other : Reply × Database) → IsLeft db one.1 → IsLeft db other.1 → IsLeft db (cond b one other).1
left_cond true db one other l r = l
left_cond false db one other l r = r

left_update : (pred : Condition) (table : ℕ) (db : Database) (rows : Option Table) (given : Reply × Database) → IsKept db
    → with_table pred table db rows ≡ Some given → IsLeft db given.1
left_update pred table db None given k e = absurd cc
left_update pred table db (Some rows) given k e = left_as db _ given (left_set db table (sorted rows) k (sorted_twice rows)) e

mean_left : (shapes : List Shape) (statement : Bound) (db : Database) (given : Reply × Database) → IsKept db → mean shapes statement db ≡ Some given
    → IsLeft db given.1
mean_left shapes (Select from ons pred items) db given k e = left_as db _ given (record { kept = k; long = refl }) e
mean_left shapes (Group table pred key aggregate) db given k e = left_as db _ given (record { kept = k; long = refl }) e
mean_left shapes (Insert table row) db given k e =
    let rows : Table = sorted (rows_in db table ++ row ∷ []) in
    left_as db _ given (left_cond (list_any (has_key_of row (shape_of shapes table).key) (rows_in db table)) db (reply.Duplicate, db)
    (reply.Inserted, set db table rows) (record { kept = k; long = refl })
    (left_set db table rows k (sorted_twice (rows_in db table ++ row ∷ [])))) e
mean_left shapes (Update table sets pred) db given k e = left_update pred table db (updated_rows sets pred (rows_in db table)) given k e
mean_left shapes (Delete table pred) db given k e =
    left_as db _ given (left_set db table (filter (λ row. not (truth_of pred row)) (rows_in db table)) k
    (filter_kept (λ row. not (truth_of pred row)) (rows_in db table) (kept_at db table k))) e
mean_left shapes (Savepoint name) db given k e = left_as db _ given (record { kept = k; long = refl }) e
mean_left shapes (RollbackTo name) db given k e = left_as db _ given (record { kept = k; long = refl }) e
mean_left shapes (Release name) db given k e = left_as db _ given (record { kept = k; long = refl }) e

-- ---- a statement over bags

mean_bags : RepliesSame → LeavesSame → (shapes : List Shape) (statement : Bound) (before after : Tables) (told : Reply)
    → Means shapes statement before after told → length after ≡ length before → mean shapes statement (bags_of before) ≡ Some (told, bags_of after)
mean_bags replies leaves shapes statement before after told means long = by_given (mean shapes statement (bags_of before)) refl
  where
    same_reply : option_map (λ given. given.0) (mean shapes statement (bags_of before)) ≡ Some told
    same_reply = replies shapes statement (bags_of before) (rows_of before) (same_rows before) ∙ ap (option_map (λ given. given.0)) means.given

    as_long : length (bags_of before) ≡ length (rows_of before)
    as_long = length-map before (λ (cells : List Cell). sorted (present cells)) ∙ sym (length-map before (λ (cells : List Cell). present cells))

    same_bags : (given : Reply × Database) → mean shapes statement (bags_of before) ≡ Some given → SameBags given.1 (rows_of after)
    same_bags given e table = IsPermutation-trans _ (rows_in means.db table) _
        (leaves shapes statement (bags_of before) (rows_of before) (same_rows before) given.1 means.db (ap (option_map (λ one. one.1)) e)
        (ap (option_map (λ one. one.1)) means.given) as_long table) (means.bags table)

    same_database : (given : Reply × Database) → mean shapes statement (bags_of before) ≡ Some given → given.1 ≡ bags_of after
    same_database given e =
        let left : IsLeft (bags_of before) given.1 = mean_left shapes statement (bags_of before) given (bags_kept before) e in
        kept_is_bags given.1 after left.kept (same_bags given e)
        (left.long ∙ (length-map before (λ (cells : List Cell). sorted (present cells)) ∙ sym long))

    by_given : (given : Option (Reply × Database)) → mean shapes statement (bags_of before) ≡ given
        → mean shapes statement (bags_of before) ≡ Some (told, bags_of after)
    by_given None e = absurd (cc (same_reply, ap (option_map (λ one. one.0)) e))
    by_given (Some given) e =
        let first : given.0 ≡ told = same_Some given.0 told (sym (ap (option_map (λ one. one.0)) e) ∙ same_reply) in
        e ∙ (ap (λ one. Some (one, given.1)) first ∙ ap (λ one. Some (told, one)) (same_database given e))

-- ---- statements, one after another

-- own writes are as long as the tables, and make of them this database
record Stands (tables : Tables) (own : Own) (db : Database) : Type 0 where
  alike : Alike tables own
  same : bags_of (over tables own) ≡ db

-- so does what a savepoint keeps for a run, for what it keeps alone, and its positions are own still
abbrev KeptAlone : Tables → Own → Own → Database → Type 0
KeptAlone tables own was db = Stands tables was db × Grows was own

-- and what there is after going back
abbrev BackAlone : Tables → Own → Own → Database → Type 0
BackAlone tables own now db = Stands tables now db × Grows own now

record RunsAlone (setting : Setting) (tables : Tables) (own : Own) (others : List (Saved Database)) (number : ℕ) (statements : List Bound) (given : Ran)
    : Type 0 where
  alone : alone_from setting.shapes others number statements (bags_of (over tables own)) ≡ alone_as tables given
  logs : given.records ≡ logged_from setting.shapes others number statements (bags_of (over tables own))

-- what the statements behind a statement begin with, in a run and alone
record Behind (tables : Tables) (own now : Own) (saved : List (Saved Own)) (others : List (Saved Database)) (statement : Bound) : Type 0 where
  stands : Stands tables now (value_after database_back statement others (bags_of (over tables own)))
  kept : AreAlike (KeptAlone tables now) (saved_after statement saved own) (saved_after statement others (bags_of (over tables own)))

goes_back : (tables : Tables) (positions : ℕ) → HavePositions positions tables → (own : Own) → Alike tables own → (was : Own) (db : Database)
    → KeptAlone tables own was db → BackAlone tables own (taken_back tables was own) db
goes_back tables positions h own alike was db kept = (
  record {
    alike = back_alike tables was own alike;
    same = ap bags_of (over_back_alike tables was own positions h kept.0.alike alike kept.1) ∙ kept.0.same;
  },
  back_grows tables was own,
)

kept_longer : (tables : Tables) (own more : Own) (saved : List (Saved Own)) (others : List (Saved Database)) → Grows own more
    → AreAlike (KeptAlone tables own) saved others → AreAlike (KeptAlone tables more) saved others
kept_longer tables own more saved others grown =
    alike_wider (KeptAlone tables own) (KeptAlone tables more) (λ was db kept. (kept.0, λ table pos none. kept.1 table pos (grown table pos none)))
    saved others

behind_of : (tables : Tables) (positions : ℕ) → HavePositions positions tables → (own : Own) → Alike tables own
    → (saved : List (Saved Own)) (others : List (Saved Database)) (statement : Bound) → AreAlike (KeptAlone tables own) saved others
    → Behind tables own (value_after (taken_back tables) statement saved own) saved others statement
behind_of tables positions h own alike saved others statement kept =
    let db : Database = bags_of (over tables own) in
    let stands : Stands tables own db = record { alike = alike; same = refl } in
    let now : BackAlone tables own (value_after (taken_back tables) statement saved own) (value_after database_back statement others db) =
    value_after_alike (KeptAlone tables own) (BackAlone tables own) (taken_back tables) database_back statement saved others own db kept
    (stands, λ table pos none. none) (goes_back tables positions h own alike) in
    record {
      stands = now.0;
      kept = kept_longer tables own (value_after (taken_back tables) statement saved own) (saved_after statement saved own)
          (saved_after statement others db) now.1
          (saved_after_alike (KeptAlone tables own) statement saved others own db kept (stands, λ table pos none. none));
    }

first_alone : LogsSame → RepliesSame → LeavesSame → (setting : Setting) (tables : Tables) (own now : Own) (saved : List (Saved Own))
    (others : List (Saved Database)) (number : ℕ) (statement : Bound) (statements : List Bound) (first : One) (rest : Ran)
    → Steps setting tables own number statement first → Behind tables first.own now saved others statement
    → RunsAlone setting tables now (saved_after statement others (bags_of (over tables first.own))) (suc number) statements rest
    → RunsAlone setting tables own others number (statement ∷ statements) (after_one first rest)
first_alone log replies leaves setting tables own now saved others number statement statements first rest step behind later = record {
  alone = ap (λ given. goes_on number (bags_of (over tables own)) given (λ left. alone_from setting.shapes (saved_after statement others left) (suc number)
      statements (value_after database_back statement others left))) meant
      ∙ ap (and_then first.reply) (ap (alone_from setting.shapes kept (suc number) statements) (sym behind.stands.same) ∙ later.alone);
  logs = ap (λ (records : List Record). records ++ rest.records) logged
      ∙ (ap (λ (records : List Record). here ++ records)
      (later.logs ∙ ap (logged_from setting.shapes kept (suc number) statements) behind.stands.same)
      ∙ ap (λ given. and_logged here given (λ left. logged_from setting.shapes (saved_after statement others left) (suc number)
      statements (value_after database_back statement others left))) (sym meant));
}
  where
    kept : List (Saved Database)
    kept = saved_after statement others (bags_of (over tables first.own))

    here : List Record
    here = records_of setting.shapes number statement (gathered_by statement (bags_of (over tables own)))

    meant : mean setting.shapes statement (bags_of (over tables own)) ≡ Some (first.reply, bags_of (over tables first.own))
    meant = mean_bags replies leaves setting.shapes statement (over tables own) (over tables first.own) first.reply step.means
        (over_length tables first.own ∙ sym (over_length tables own))

    logged : first.records ≡ here
    logged = step.logs ∙ sym (log setting.shapes number statement (bags_of (over tables own)) (rows_of (over tables own)) (same_rows (over tables own)))

runs_alone : LogsSame → RepliesSame → LeavesSame → (setting : Setting) (tables : Tables) → HavePositions (capacity setting) tables
    → (own : Own) → Alike tables own → (saved : List (Saved Own)) (others : List (Saved Database)) → AreAlike (KeptAlone tables own) saved others
    → (number : ℕ) (statements : List Bound) (took : List (Option ℕ)) (given : Ran) → AllByRecursion (IsPosition setting) took
    → ran_from setting tables own saved number statements took ≡ Some given → RunsAlone setting tables own others number statements given
runs_alone log replies leaves setting tables h own alike saved others kept number [] took given within e =
    subst (RunsAlone setting tables own others number []) (same_Some (record { own = own; saved = saved; replies = []; records = [] }) given e)
    (record { alone = refl; logs = refl })
runs_alone log replies leaves setting tables h own alike saved others kept number (statement ∷ statements) [] given within e = absurd cc
runs_alone log replies leaves setting tables h own alike saved others kept number (statement ∷ statements) (at ∷ took) given within e =
    let parts = parts_of (one setting tables own number statement at) (behind setting tables saved number statement statements took) given e in
    let step : Steps setting tables own number statement parts.one =
    one_steps setting tables own number statement at parts.one alike h within.0 parts.first_is in
    let left : Own = parts.one.own in
    let now : Behind tables left (own_then tables saved statement parts.one) saved others statement =
    behind_of tables (capacity setting) h left step.alike saved others statement
    (kept_longer tables own left saved others (step_grows setting tables own number statement parts.one alike h step) kept) in
    subst (RunsAlone setting tables own others number (statement ∷ statements)) parts.is
    (first_alone log replies leaves setting tables own (own_then tables saved statement parts.one) saved others number statement statements parts.one
    parts.rest step now (runs_alone log replies leaves setting tables h (own_then tables saved statement parts.one) now.stands.alike
    (saved_then saved statement parts.one) (saved_after statement others (bags_of (over tables left))) now.kept (suc number) statements took parts.rest within.1
    parts.rest_is))

-- ---- a transaction

start_alone : LogsSame → RepliesSame → LeavesSame → (setting : Setting) (tables : Tables) (statements : List Bound) (took : List (Option ℕ)) (given : Ran)
    → AreTables setting tables → AllByRecursion (IsPosition setting) took → ran setting tables statements took ≡ Some given
    → RunsAlone setting tables (blank_own setting) [] 1 statements given
start_alone log replies leaves setting tables statements took given are within e =
    runs_alone log replies leaves setting tables are.long (blank_own setting) (blank_alike (capacity setting) tables setting.first are.many are.long)
    [] [] tt 1 statements took given within e

pub runs_are_alone : LogsSame → RepliesSame → LeavesSame → RunsAreAlone
runs_are_alone log replies leaves setting tables statements took given are within e =
    ap (λ (view : Tables). alone_from setting.shapes [] 1 statements (bags_of view)) (sym (over_blank (capacity setting) tables setting.first))
    ∙ (start_alone log replies leaves setting tables statements took given are within e).alone

pub runs_log_alone : LogsSame → RepliesSame → LeavesSame → RunsLogAlone
runs_log_alone log replies leaves setting tables statements took given are within e =
    (start_alone log replies leaves setting tables statements took given are within e).logs
    ∙ ap (λ (view : Tables). logged_from setting.shapes [] 1 statements (bags_of view)) (over_blank (capacity setting) tables setting.first)
