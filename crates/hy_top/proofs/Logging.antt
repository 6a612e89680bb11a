-- What the log of a run recovers to: the tables after some first entries of its commit order, and in the end its own.
use Rattle.std.proofs.Common.{◌≡◌, ◌⊎◌, ℕ, ◌<◌, ◌≤◌, List, [], ◌∷◌, Bool, true, false, Option, None, Some, IsNone, IfSome, Result, Ok, Err, length, map, ap, sym, subst, refl, ◌∙◌, inl, inr, le_refl, le_trans, arith}
use Rattle.std.proofs.Math.Logic.{⊎_elim}
use Rattle.std.specs.Prelude.{IfOk, OnErr}
use mathlib.Core.List.{map-map}
use Rattle.std.proofs.lemmas.List.{take_all}
use Rattle.hy_log_record.specs.declared.HeldTable.{HeldTable}
use Rattle.hy_machine.specs.Tables.{Entry, history, opening_tables}
use Rattle.hy_machine.specs.Outcomes.{outcome_of, rows_sorted}
use Rattle.hy_machine.specs.Runs.{RunsAreSteps, RunsEnd, opening_of, run_of}
use Rattle.hy_machine.specs.declared.Setting.{Setting}
use Rattle.hy_render.specs.declared.Outcome.{Outcome}
use Rattle.hy_script.specs.declared.Script.{Script}
use Rattle.hy_setting.specs.Kinds.{catalog_kinds}
use Rattle.hy_disk.specs.Bytes.{IsOwn}
use Rattle.hy_disk.specs.Calls.{Syncs}
use Rattle.hy_redo.specs.Crashes.{AreLogsOf, IsBegun, IsBegunAtMost}
use Rattle.hy_stepping.specs.Texts.{CanBeLogged}
use Rattle.hy_bound.specs.declared.schedule.Item.{Item}
use Rattle.hy_value.specs.declared.Kind.{Kind}
use Rattle.hy_words.specs.declared.Command.{Command}
use Rattle.hy_world.specs.Logged.{RecoversAfter, IsDurable, HasLogged, LogsRun}
use Rattle.hy_redo.specs.declared.errors.AppendError.{AppendError}
use Rattle.hy_world.specs.LoggedRuns.{RanLogged}
use Rattle.hy_world.specs.Worlds.{WorldData, ShowsState}
use Rattle.hy_top.specs.Program.{MayCome, comes_to, keeps_log, scheduled}
use Rattle.hy_top.specs.Reports.{IsRestored, IsLoggedSince, Writes, Runs, GaveUp, IsLogOfScript, KeepsLog, KeepsLogOf, HasKept, IsHalfMade, IsLogged, LeavesLog, LeavesLogOf, tables_after}
use Rattle.hy_top.specs.Settings.{setting_at}
use Rattle.hy_top.proofs.Answering.{no_outcome, given_is_there, leaves_stay}

restored_after : (script : Script) (count : ℕ) (bytes : List ℕ)
    → RecoversAfter (setting_at script) (catalog_kinds script.catalog) (run_of (setting_at script) script.schedule) count bytes
    → IsRestored script bytes (Ok (tables_after script count))
restored_after script count bytes found =
    (found.0, found.1, sym (ap (map rows_sorted) found.2) ∙ map-map rows_sorted (λ (table : HeldTable). table.rows) found.0)

-- after all entries these are the tables of the outcome
all_after : (script : Script) → tables_after script (length (run_of (setting_at script) script.schedule).order) ≡ (comes_to script).tables
all_after script =
    let order = (run_of (setting_at script) script.schedule).order in
    ap (λ (entries : List Entry). map rows_sorted (history (opening_tables (setting_at script)) entries)) (take_all (length order) order (le_refl (length order)))

pub logged_since : {D : Type 0} (image : D → List ℕ → Type 0) (image_since : D → ℕ → List ℕ → Type 0) (script : Script) (outcome : Outcome)
    (time : ℕ) (disk : D) → outcome ≡ comes_to script → HasLogged image image_since outcome.order time disk
    → IsDurable image image_since (setting_at script) (catalog_kinds script.catalog) (run_of (setting_at script) script.schedule) time disk
    → IsLoggedSince image image_since script outcome time disk
logged_since image image_since script outcome time disk is has durable = record {
  has = has;
  now = λ bytes left.
      subst (λ tables. IsRestored script bytes (Ok tables)) (all_after script ∙ ap (λ (other : Outcome). other.tables) (sym is))
      (restored_after script (length (run_of (setting_at script) script.schedule).order) bytes (durable.now bytes left));
  moments = λ bytes left.
      let some = durable.moments bytes left in
      (some.0, restored_after script some.0 bytes some.1);
}

-- ---- what is told of a log

-- a text that was written, by the names that a report has for its status and its bytes
pub writes_so : (done status code : ℕ) (before after : Option (List ℕ)) (bytes text : List ℕ) → code ≡ status → bytes ≡ text
    → Writes done status before after bytes → Writes done code before after text
writes_so done status code before after bytes text same is w =
    subst (λ (s : ℕ). Writes done s before after text) (sym same) (subst (λ (b : List ℕ). Writes done status before after b) is w)

-- where a disk tells bytes it has some, and of any other there are some that it may have had
pub found_some : (held : Option (List ℕ)) → IfSome held (λ own. 0 < length own) → (found : List ℕ) × IsOwn held found × (0 < length found)
found_some None some = (0 ∷ [], tt, omega arith)
found_some (Some own) some = (own, refl, some)

-- ---- what a crash leaves

pub keeps_so : {D : Type 0} (clock : D → ℕ) (image_since : D → ℕ → List ℕ → Type 0) (script : Script) (before after : D)
    → LogsRun clock image_since (setting_at script) (catalog_kinds script.catalog) (run_of (setting_at script) script.schedule) before after
    → KeepsLog clock image_since script before after
keeps_so clock image_since script before after logs = record {
  later = logs.later;
  moments = λ time bytes le left.
      ⊎_elim (λ earlier. inl earlier)
      (λ is. inr (record { count = is.count; log = is.log; restored = restored_after script is.count bytes is.recovers }))
      (logs.moments time bytes le left);
}

pub keeps_run : {D : Type 0} (clock : D → ℕ) (image_since : D → ℕ → List ℕ → Type 0) (script : Script) (setting : Setting) (schedule : List Item)
    (world : WorldData) (before after : D) → setting ≡ setting_at script → schedule ≡ script.schedule → ShowsState setting (opening_of setting) world
    → CanBeLogged (catalog_kinds script.catalog) (setting_at script)
    → ((other : Setting) (kinds : List (List Kind)) → ShowsState other (opening_of other) world → CanBeLogged kinds other
    → LogsRun clock image_since other kinds (run_of other schedule) before after)
    → KeepsLog clock image_since script before after
keeps_run clock image_since script setting schedule world before after same items shows can moments =
    let own : Setting = setting_at script in
    keeps_so clock image_since script before after
    (subst (λ (other : List Item). LogsRun clock image_since own (catalog_kinds script.catalog) (run_of own other) before after) items
    (moments own (catalog_kinds script.catalog) (subst (λ (s : Setting). ShowsState s (opening_of s) world) same shows) can))

-- a log that was not touched
pub keeps_still : {D : Type 0} (clock : D → ℕ) (image_since : D → ℕ → List ℕ → Type 0) (script : Script) (disk : D)
    → KeepsLog clock image_since script disk disk
keeps_still clock image_since script disk = record { later = le_refl (clock disk); moments = λ time bytes le left. inl left }

half_made : {D : Type 0} (held : D → Option (List ℕ)) (clock : D → ℕ) (image : D → List ℕ → Type 0) (image_since : D → ℕ → List ℕ → Type 0)
    (script : Script) (before after : D) → IsBegun held clock image image_since before after → (time : ℕ) (bytes : List ℕ) → time ≤ clock before
    → image_since after time bytes
    → image_since before time bytes ⊎ (IsHalfMade (held before) (image before) bytes ⊎ IsLogOfScript script bytes)
half_made held clock image image_since script before after begun time bytes le left =
    ⊎_elim (λ earlier. inl earlier) (λ touched. inr (inl (record { empty = begun.empty; touched = touched }))) (begun.writes.moments time bytes le left)

-- the disk failed before the log was made, or while it was
pub leaves_cut : {D : Type 0} (held : D → Option (List ℕ)) (clock : D → ℕ) (image : D → List ℕ → Type 0) (image_since : D → ℕ → List ℕ → Type 0)
    (script : Script) (status : ℕ) (given : Option Outcome) (before after : D) → status ≡ 6 → IsNone given
    → IsBegunAtMost held clock image image_since before after → LeavesLog held clock image image_since script status given before after
leaves_cut held clock image image_since script status given before after six nothing (inl stay) =
    leaves_stay held clock image image_since script status given before after nothing stay
leaves_cut held clock image image_since script status given before after six nothing (inr begun) = record {
  stays = λ none done. absurd (done (inr six));
  short = λ five. absurd (omega (arith, five, six));
  cut = λ is. inl (inr begun);
  safe = record { later = begun.writes.later; moments = half_made held clock image image_since script before after begun };
  logged = no_outcome (λ outcome. IsLogged held clock image image_since script outcome before after) given nothing;
}

logged_so : {D : Type 0} (held : D → Option (List ℕ)) (clock : D → ℕ) (image : D → List ℕ → Type 0) (image_since : D → ℕ → List ℕ → Type 0)
    (script : Script) (given : Option Outcome) (before made after : D) → IsBegun held clock image image_since before made
    → KeepsLog clock image_since script made after → IfSome given (λ outcome. IsLoggedSince image image_since script outcome (clock made) after)
    → IfSome given (λ outcome. IsLogged held clock image image_since script outcome before after)
logged_so held clock image image_since script None before made after begun keeps since = tt
logged_so held clock image image_since script (Some outcome) before made after begun keeps since =
    record { made = made; making = begun; keeps = keeps; since = since }

-- a log that was made, and then kept
has_kept : {D : Type 0} (held : D → Option (List ℕ)) (clock : D → ℕ) (image : D → List ℕ → Type 0) (image_since : D → ℕ → List ℕ → Type 0)
    → ((disk : D) (bytes : List ℕ) → image_since disk (clock disk) bytes → image disk bytes) → (script : Script) (before made after : D) (gate : ℕ)
    → IsBegun held clock image image_since before made → AreLogsOf (image made) [] gate → KeepsLog clock image_since script made after
    → HasKept held clock image image_since script before after
has_kept held clock image image_since alone script before made after gate begun empty keeps = record {
  made = made;
  making = begun;
  gate = gate;
  empty = empty;
  since = λ bytes left.
      ⊎_elim (λ earlier. inl (alone made bytes earlier)) (λ is. inr is) (keeps.moments (clock made) bytes (le_refl (clock made)) left);
}

-- the log was made, and then kept
pub leaves_kept : {D : Type 0} (held : D → Option (List ℕ)) (clock : D → ℕ) (image : D → List ℕ → Type 0) (image_since : D → ℕ → List ℕ → Type 0)
    → ((disk : D) (bytes : List ℕ) → image_since disk (clock disk) bytes → image disk bytes) → (script : Script) (status : ℕ) (given : Option Outcome)
    (before made after : D) (gate : ℕ) → IsBegun held clock image image_since before made → AreLogsOf (image made) [] gate
    → KeepsLog clock image_since script made after → IfSome given (λ outcome. IsLoggedSince image image_since script outcome (clock made) after)
    → (IsNone given → GaveUp status) → LeavesLog held clock image image_since script status given before after
leaves_kept held clock image image_since alone script status given before made after gate begun empty keeps since gave = record {
  stays = λ none done. absurd (done (gave none));
  short = λ five. inr (has_kept held clock image image_since alone script before made after gate begun empty keeps);
  cut = λ six. inr (has_kept held clock image image_since alone script before made after gate begun empty keeps);
  safe = record {
    later = le_trans begun.writes.later keeps.later;
    moments = λ time bytes le left.
        ⊎_elim (λ earlier. half_made held clock image image_since script before made begun time bytes le earlier) (λ is. inr (inr is))
        (keeps.moments time bytes (le_trans le begun.writes.later) left);
  };
  logged = logged_so held clock image image_since script given before made after begun keeps since;
}

-- ---- on threads, or by the schedule

-- what a run by a schedule comes to may come of the script, if that is its own or it is on threads
pub comes_so : RunsAreSteps → RunsEnd → (script : Script) (schedule : List Item) (outcome : Outcome) → outcome ≡ comes_to (scheduled script schedule)
    → MayCome true script outcome
comes_so steps ends script schedule outcome is = record {
  state = run_of (setting_at script) schedule;
  reached = steps (setting_at script) schedule;
  ended = ends (setting_at script) schedule;
  outcome_is = is;
}

-- nothing was put into the log
pub kept_nothing : {D : Type 0} (clock : D → ℕ) (image : D → List ℕ → Type 0) (image_since : D → ℕ → List ℕ → Type 0) (threads : Bool)
    (script : Script) (disk : D) → KeepsLogOf clock image image_since threads script None disk disk
kept_nothing clock image image_since threads script disk = record {
  schedule = script.schedule;
  own = λ is. refl;
  comes = tt;
  keeps = keeps_still clock image_since (scheduled script script.schedule) disk;
  logged = tt;
}

-- what the log has is there too where the outcome isn't told
pub kept_untold : {D : Type 0} (clock : D → ℕ) (image : D → List ℕ → Type 0) (image_since : D → ℕ → List ℕ → Type 0) (threads : Bool)
    (script : Script) (given : Option Outcome) (before after : D) → KeepsLogOf clock image image_since threads script given before after
    → KeepsLogOf clock image image_since threads script None before after
kept_untold clock image image_since threads script given before after kept =
    record { schedule = kept.schedule; own = kept.own; comes = tt; keeps = kept.keeps; logged = tt }

-- by the script's own schedule
pub kept_own : {D : Type 0} (clock : D → ℕ) (image : D → List ℕ → Type 0) (image_since : D → ℕ → List ℕ → Type 0) (threads : Bool)
    (script : Script) (outcome : Outcome) (before after : D) → outcome ≡ comes_to (scheduled script script.schedule)
    → KeepsLog clock image_since (scheduled script script.schedule) before after
    → IsLoggedSince image image_since (scheduled script script.schedule) outcome (clock before) after
    → KeepsLogOf clock image image_since threads script (Some outcome) before after
kept_own clock image image_since threads script outcome before after is keeps logged =
    record { schedule = script.schedule; own = λ same. refl; comes = is; keeps = keeps; logged = logged }

pub cut_own : {D : Type 0} (clock : D → ℕ) (image : D → List ℕ → Type 0) (image_since : D → ℕ → List ℕ → Type 0) (threads : Bool)
    (script : Script) (before after : D) → KeepsLog clock image_since (scheduled script script.schedule) before after
    → KeepsLogOf clock image image_since threads script None before after
cut_own clock image image_since threads script before after keeps =
    record { schedule = script.schedule; own = λ same. refl; comes = tt; keeps = keeps; logged = tt }

-- by the schedule that the threads decided
pub kept_by : {D : Type 0} (clock : D → ℕ) (image : D → List ℕ → Type 0) (image_since : D → ℕ → List ℕ → Type 0) (script : Script)
    (schedule : List Item) (outcome : Outcome) (before after : D) → outcome ≡ comes_to (scheduled script schedule)
    → LogsRun clock image_since (setting_at script) (catalog_kinds script.catalog) (run_of (setting_at script) schedule) before after
    → HasLogged image image_since outcome.order (clock before) after
    → IsDurable image image_since (setting_at script) (catalog_kinds script.catalog) (run_of (setting_at script) schedule) (clock before) after
    → KeepsLogOf clock image image_since true script (Some outcome) before after
kept_by clock image image_since script schedule outcome before after is logs has durable = record {
  schedule = schedule;
  own = λ same. absurd (cc same);
  comes = is;
  keeps = keeps_so clock image_since (scheduled script schedule) before after logs;
  logged = logged_since image image_since (scheduled script schedule) outcome (clock before) after is has durable;
}

pub cut_by : {D : Type 0} (clock : D → ℕ) (image : D → List ℕ → Type 0) (image_since : D → ℕ → List ℕ → Type 0) (script : Script)
    (schedule : List Item) (before after : D)
    → LogsRun clock image_since (setting_at script) (catalog_kinds script.catalog) (run_of (setting_at script) schedule) before after
    → KeepsLogOf clock image image_since true script None before after
cut_by clock image image_since script schedule before after logs = record {
  schedule = schedule;
  own = λ same. absurd (cc same);
  comes = tt;
  keeps = keeps_so clock image_since (scheduled script schedule) before after logs;
  logged = tt;
}

-- so of what a run on threads comes to
pub ran_keeps : {D : Type 0} (clock : D → ℕ) (image : D → List ℕ → Type 0) (image_since : D → ℕ → List ℕ → Type 0) (script : Script) (setting : Setting)
    (kinds : List (List Kind)) (r : Result Outcome AppendError) (before after : D) → setting ≡ setting_at script → kinds ≡ catalog_kinds script.catalog
    → CanBeLogged (catalog_kinds script.catalog) (setting_at script) → RanLogged clock image image_since setting kinds r before after
    → IfOk r (λ outcome. KeepsLogOf clock image image_since true script (Some outcome) before after)
    × OnErr r (KeepsLogOf clock image image_since true script None before after)
ran_keeps clock image image_since script setting kinds r before after same are can ran =
    by r (subst (λ (s : Setting). RanLogged clock image image_since s (catalog_kinds script.catalog) r before after) same
    (subst (λ (k : List (List Kind)). RanLogged clock image image_since setting k r before after) are ran))
  where
    by : (r : Result Outcome AppendError) → RanLogged clock image image_since (setting_at script) (catalog_kinds script.catalog) r before after
        → IfOk r (λ outcome. KeepsLogOf clock image image_since true script (Some outcome) before after)
        × OnErr r (KeepsLogOf clock image image_since true script None before after)
    by (Ok outcome) told = (
      kept_by clock image image_since script told.schedule outcome before after told.outcome (told.moments can) told.logged (told.durable can),
      tt,
    )
    by (Err e) told = (tt, cut_by clock image image_since script told.schedule before after (told.moments can))

-- and its outcome may come of the script
pub ran_comes : {D : Type 0} (clock : D → ℕ) (image : D → List ℕ → Type 0) (image_since : D → ℕ → List ℕ → Type 0) → RunsAreSteps → RunsEnd
    → (script : Script) (setting : Setting) (kinds : List (List Kind)) (r : Result Outcome AppendError) (before after : D) → setting ≡ setting_at script
    → RanLogged clock image image_since setting kinds r before after → IfOk r (λ outcome. MayCome true script outcome)
ran_comes clock image image_since steps ends script setting kinds (Ok outcome) before after same ran =
    comes_so steps ends script ran.schedule outcome
    (ran.outcome ∙ ap (λ (s : Setting). outcome_of s (run_of s ran.schedule)) same)
ran_comes clock image image_since steps ends script setting kinds (Err e) before after same ran = tt

-- it is said of a result that is an error
pub if_err : {T E : Type 0} (r : Result T E) (P : Type 0) → P → OnErr r P
if_err (Ok x) P h = tt
if_err (Err e) P h = h

-- the outcome of a report is another name of it
pub kept_given : {D : Type 0} (clock : D → ℕ) (image : D → List ℕ → Type 0) (image_since : D → ℕ → List ℕ → Type 0) (threads : Bool)
    (script : Script) (given other : Option Outcome) (before after : D) → other ≡ given
    → KeepsLogOf clock image image_since threads script given before after → KeepsLogOf clock image image_since threads script other before after
kept_given clock image image_since threads script given other before after same kept =
    subst (λ (o : Option Outcome). KeepsLogOf clock image image_since threads script o before after) (sym same) kept

-- a log was made, and kept
pub leaves_kept_of : {D : Type 0} (held : D → Option (List ℕ)) (clock : D → ℕ) (image : D → List ℕ → Type 0) (image_since : D → ℕ → List ℕ → Type 0)
    → ((disk : D) (bytes : List ℕ) → image_since disk (clock disk) bytes → image disk bytes) → (threads : Bool) (script : Script) (status : ℕ)
    (given : Option Outcome) (before made after : D) (gate : ℕ) → IsBegun held clock image image_since before made → AreLogsOf (image made) [] gate
    → KeepsLogOf clock image image_since threads script given made after → (IsNone given → GaveUp status)
    → LeavesLogOf held clock image image_since threads script status given before after
leaves_kept_of held clock image image_since alone threads script status given before made after gate begun empty kept gave = record {
  schedule = kept.schedule;
  own = kept.own;
  comes = kept.comes;
  leaves = leaves_kept held clock image image_since alone (scheduled script kept.schedule) status given before made after gate begun empty kept.keeps
      kept.logged gave;
}

-- where there is no outcome, the run gave up
pub gave_up : (threads : Bool) (script : Script) (status : ℕ) (given : Option Outcome) (before after : Option (List ℕ))
    → (GaveUp status × IsNone given) ⊎ Runs threads script status given before after → IsNone given → GaveUp status
gave_up threads script status given before after (inl gave) none = gave.0
gave_up threads script status given before after (inr ran) none = absurd (given_is_there given ran.given ran.outcome_is none)

-- a disk that nothing was done to
pub same_syncs : {D : Type 0} (held : D → Option (List ℕ)) (clock : D → ℕ) (image : D → List ℕ → Type 0) (image_since : D → ℕ → List ℕ → Type 0)
    (disk : D) → Syncs held clock image image_since disk disk
same_syncs held clock image image_since disk =
    record { later = le_refl (clock disk); images = λ bytes left. left; moments = λ time bytes le left. inl left }

pub still_syncs : {D : Type 0} (held : D → Option (List ℕ)) (clock : D → ℕ) (image : D → List ℕ → Type 0) (image_since : D → ℕ → List ℕ → Type 0)
    (old new : D) → new ≡ old → Syncs held clock image image_since old new
still_syncs {D} held clock image image_since old new same =
    subst (λ (disk : D). Syncs held clock image image_since old disk) (sym same) (same_syncs held clock image image_since old)

pub asked_syncs : {D : Type 0} (held : D → Option (List ℕ)) (clock : D → ℕ) (image : D → List ℕ → Type 0) (image_since : D → ℕ → List ℕ → Type 0)
    (asked : Option Command) (disk : D) → IfSome asked (λ command. keeps_log command ≡ false → Syncs held clock image image_since disk disk)
asked_syncs held clock image image_since None disk = tt
asked_syncs held clock image image_since (Some command) disk = λ other. same_syncs held clock image image_since disk
