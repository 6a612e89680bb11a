-- Parts of a run that keeps a log, one after another.
use Rattle.std.proofs.Common.{◌≡◌, ℕ, suc, ◌*◌, ◌≤◌, List, [], ◌∷◌, ◌++◌, Option, None, Some, Result, Ok, Err, true, is_some, length, map, take, drop, arith, refl, ap, sym, subst, ◌∙◌, inl, inr, le_refl, le_trans, append_assoc, append-nil}
use Rattle.std.specs.Prelude.{filter}
use Rattle.std.proofs.Math.Logic.{⊎_elim}
use Rattle.std.proofs.Math.Seq.{drop-append_seam, drop-length, take-append_seam}
use Rattle.std.proofs.lemmas.List.{take_all, take-append-le, length-append, length-map, map-append}
use Rattle.hy_journal.specs.declared.Entry.{Entry}
use Rattle.hy_redo.specs.Logs.{IsLogOf}
use Rattle.hy_redo.specs.Crashes.{AreLogsOf, Appends, IsBeforeOrAfter, next_gate}
use Rattle.hy_world.specs.Logged.{LogsTellOrders, Extend, GrowByOne, IsLogOfFirst, IsLogButTheLast, IsKept, IsKeptButTheLast, Logs, IsKeptSince, IsUnderWay, RecoversAfter, IsDurable, IsLogOfRun, LogsRun}
use Rattle.hy_value.specs.declared.Kind.{Kind}
use Rattle.hy_stamp.specs.declared.Label.{Label}
use Rattle.hy_value.specs.declared.change.Change.{Change}
use Rattle.hy_notes.specs.Notes.{is_change}
use Rattle.hy_render.specs.declared.Committed.{Committed}
use Rattle.hy_journal.specs.declared.CoreData.{CoreData}
use Rattle.hy_machine.specs.declared.Setting.{Setting}
use Rattle.hy_machine.specs.States.{State}
use Rattle.hy_machine.specs.Tables.{Entry as Entered, history, opening_tables}
use Rattle.hy_machine.specs.Sessions.{snapshot}
use Rattle.hy_machine.specs.Validation.{committed_of}
use Rattle.hy_refinement.specs.CoreVisits.{EntriesTellChanges}
use Rattle.hy_refinement.specs.Numbers.{EntryShows, EntriesShow}
use Rattle.hy_stepping.specs.Outcomes.{told_entry}
use Rattle.hy_stepping.specs.Texts.{CanBeLogged}
use Rattle.hy_stepping.specs.Logs.{LogsRecoverTables}
use Rattle.hy_world.specs.Worlds.{WorldData, ShowsState, parts_of}
use Rattle.hy_world.proofs.Parts.{core_is, how_many}

-- ---- entries

pub none_behind : {A : Type 0} (entries : List A) → Extend entries entries
none_behind entries = record { others = []; behind = sym (append-nil entries) }

pub extend_then : {A : Type 0} (a b c : List A) → Extend a b → Extend b c → Extend a c
extend_then {A} a b c h k = record {
  others = h.others ++ k.others;
  behind = k.behind ∙ (ap (λ (x : List A). x ++ k.others) h.behind ∙ append_assoc a h.others k.others);
}

first_further : (old new : List Entry) (bytes : List ℕ) → Extend old new → IsLogOfFirst old bytes → IsLogOfFirst new bytes
first_further old new bytes more h =
    record { first = h.first; gate = h.gate; are_first = extend_then h.first old new h.are_first more; log = h.log }

-- what stands behind the old entries is the one that is new, if there is one
pub new_behind : (old new : List Entry) → GrowByOne old new → old ++ drop (length old) new ≡ new
new_behind old new (inl same) =
    subst (λ (x : List Entry). old ++ drop (length old) x ≡ x) (sym same) (ap (λ (x : List Entry). old ++ x) (drop-length old) ∙ append-nil old)
new_behind old new (inr more) =
    subst (λ (x : List Entry). old ++ drop (length old) x ≡ x) (sym more.1)
    (ap (λ (x : List Entry). old ++ x) (drop-append_seam old (more.0 ∷ [])))

pub one_new : (old new : List Entry) → GrowByOne old new → length (drop (length old) new) ≤ 1
one_new old new (inl same) =
    subst (λ (x : List Entry). length (drop (length old) x) ≤ 1) (sym same) (omega (arith, ap length (drop-length old)))
one_new old new (inr more) =
    subst (λ (x : List Entry). length (drop (length old) x) ≤ 1) (sym more.1) (omega (arith, ap length (drop-append_seam old (more.0 ∷ []))))

-- ---- parts of a run

pub nothing_done : {D : Type 0} (clock : D → ℕ) (image_since : D → ℕ → List ℕ → Type 0) (entries : List Entry) (disk : D)
    → Logs clock image_since entries entries disk disk
nothing_done clock image_since entries disk =
    record { grow = none_behind entries; later = le_refl (clock disk); moments = λ time bytes le left. inl left }

pub logs_then : {D : Type 0} (clock : D → ℕ) (image_since : D → ℕ → List ℕ → Type 0) (a b c : List Entry) (first second third : D)
    → Logs clock image_since a b first second → Logs clock image_since b c second third → Logs clock image_since a c first third
logs_then clock image_since a b c first second third h k = record {
  grow = extend_then a b c h.grow k.grow;
  later = le_trans h.later k.later;
  moments = λ time bytes le left.
      ⊎_elim (λ earlier. ⊎_elim (λ before. inl before) (λ is. inr (first_further b c bytes k.grow is)) (h.moments time bytes le earlier))
      (λ is. inr is) (k.moments time bytes (le_trans le h.later) left);
}

before_or_after : (entries more : List Entry) (gate : ℕ) (bytes : List ℕ) → IsBeforeOrAfter entries more gate bytes
    → IsLogOfFirst (entries ++ more) bytes
before_or_after entries more gate bytes (inl log) =
    record { first = entries; gate = gate; are_first = record { others = more; behind = refl }; log = log }
before_or_after entries more gate bytes (inr log) =
    record { first = entries ++ more; gate = next_gate gate more; are_first = none_behind (entries ++ more); log = log }

-- entries are appended
pub appended : {D : Type 0} (clock : D → ℕ) (image_since : D → ℕ → List ℕ → Type 0) (entries more : List Entry) (gate : ℕ)
    (before after : D) → Appends clock image_since entries more gate before after
    → Logs clock image_since entries (entries ++ more) before after
appended clock image_since entries more gate before after h = record {
  grow = record { others = more; behind = refl };
  later = h.later;
  moments = λ time bytes le left. ⊎_elim (λ earlier. inl earlier) (λ is. inr (before_or_after entries more gate bytes is)) (h.moments time bytes le left);
}

one_more : (entries more : List Entry) → length more ≤ 1 → GrowByOne entries (entries ++ more)
one_more entries [] few = inl (append-nil entries)
one_more entries (entry ∷ []) few = inr (entry, refl)
one_more entries (entry ∷ next ∷ others) few = absurd (omega (arith, few))

-- where it broke off, a crash leaves the log of all entries, or of all but the one that was to be appended
but_the_last : (entries more : List Entry) (gate : ℕ) (bytes : List ℕ) → length more ≤ 1 → IsBeforeOrAfter entries more gate bytes
    → IsLogButTheLast (entries ++ more) bytes
but_the_last entries more gate bytes few (inl log) = record { first = entries; gate = gate; but_last = one_more entries more few; log = log }
but_the_last entries more gate bytes few (inr log) =
    record { first = entries ++ more; gate = next_gate gate more; but_last = inl refl; log = log }

pub append_cut : {D : Type 0} (clock : D → ℕ) (image : D → List ℕ → Type 0) (image_since : D → ℕ → List ℕ → Type 0)
    → ((disk : D) (time : ℕ) (bytes : List ℕ) → time ≤ clock disk → image disk bytes → image_since disk time bytes)
    → (entries more : List Entry) (gate : ℕ) (before after : D) → length more ≤ 1 → Appends clock image_since entries more gate before after
    → (bytes : List ℕ) → image after bytes → IsLogButTheLast (entries ++ more) bytes
append_cut clock image image_since counts entries more gate before after few h bytes left =
    but_the_last entries more gate bytes few (h.each bytes (counts after (clock before) bytes h.later left))

-- a log that is kept has all entries
pub all_kept : {D : Type 0} (image : D → List ℕ → Type 0) (entries : List Entry) (log : Option ℕ) (disk : D) → IsKept image entries log disk
    → IsKeptButTheLast image entries log disk
all_kept image entries None disk kept = tt
all_kept image entries (Some gate) disk kept = λ bytes left. record { first = entries; gate = gate; but_last = inl refl; log = kept bytes left }

-- or none is, where no log is kept
pub passed_by : {D : Type 0} (clock : D → ℕ) (image_since : D → ℕ → List ℕ → Type 0) (entries more : List Entry) (disk : D)
    → Logs clock image_since entries (entries ++ more) disk disk
passed_by clock image_since entries more disk = record {
  grow = record { others = more; behind = refl };
  later = le_refl (clock disk);
  moments = λ time bytes le left. inl left;
}

pub ok_is_no_error : {T E : Type 0} (x : T) (e : E) → ◌≡◌ {A = Result T E} (Ok x) (Err e) → ⊥
ok_is_no_error x e h = absurd cc

-- ---- a whole run

-- a log that is kept has a gate
gate_of : {D : Type 0} (image : D → List ℕ → Type 0) (entries : List Entry) (log : Option ℕ) (disk : D) → is_some log ≡ true
    → IsKept image entries log disk → (gate : ℕ) × AreLogsOf (image disk) entries gate
gate_of image entries None disk some kept = absurd cc
gate_of image entries (Some gate) disk some kept = (gate, kept)

-- from a disk each of whose images is the log of what was entered before
pub kept_since : {D : Type 0} (clock : D → ℕ) (image : D → List ℕ → Type 0) (image_since : D → ℕ → List ℕ → Type 0)
    → ((disk : D) (bytes : List ℕ) → image_since disk (clock disk) bytes → image disk bytes) → (old new : List Entry) (gate : ℕ) (log : Option ℕ)
    (before after : D) → AreLogsOf (image before) old gate → is_some log ≡ true → IsKept image new log after
    → Logs clock image_since old new before after → IsKeptSince image image_since new (clock before) after
kept_since clock image image_since alone old new gate log before after first some kept logs =
    let here = gate_of image new log after some kept in
    record {
      gate = here.0;
      logged = here.1;
      moments = λ bytes left.
          ⊎_elim (λ earlier. record { first = old; gate = gate; are_first = logs.grow; log = first bytes (alone before bytes earlier) }) (λ is. is)
          (logs.moments (clock before) bytes (le_refl (clock before)) left);
    }

core_shown : (setting : Setting) (state : State) (world : WorldData) → (shows : ShowsState setting state world) → shows.shown.shows.core ≡ world.core
core_shown setting state world shows =
    core_is world.chunks world.core shows.shown.shows.core (length setting.shapes * setting.chunks)
    (omega (arith, shows.shown.shows.parts_are.count, how_many world.chunks world.core)) shows.shown.shows.parts_are.core_last

-- the log of the first entries of a world recovers to the tables of the state that it shows, after as many entries
recovers_after : LogsRecoverTables → (setting : Setting) (kinds : List (List Kind)) (state : State) (world : WorldData) → ShowsState setting state world
    → CanBeLogged kinds setting → (count gate : ℕ) (bytes : List ℕ) → IsLogOf (take count world.core.entries) gate bytes
    → RecoversAfter setting kinds state count bytes
recovers_after law setting kinds state world shows typed count gate bytes log =
    law setting kinds state (parts_of world.chunks world.core) world.sessions shows.shown typed count gate bytes
    (subst (λ (core : CoreData). IsLogOf (take count core.entries) gate bytes) (sym (core_shown setting state world shows)) log)

-- all entries are as many as the state's
all_taken : (setting : Setting) (state : State) (world : WorldData) → ShowsState setting state world
    → take (length state.order) world.core.entries ≡ world.core.entries
all_taken setting state world shows =
    let count : length world.core.entries ≡ length state.order =
    ap (λ (core : CoreData). length core.entries) (sym (core_shown setting state world shows)) ∙ shows.shown.shows.core_shows.entries_show.count in
    take_all (length state.order) world.core.entries (omega (arith, count))

first_taken : (first entries : List Entry) → Extend first entries → take (length first) entries ≡ first
first_taken first entries more = ap (take (length first)) more.behind ∙ take-append_seam first more.others

pub is_durable : {D : Type 0} (image : D → List ℕ → Type 0) (image_since : D → ℕ → List ℕ → Type 0) → LogsRecoverTables → (setting : Setting)
    (kinds : List (List Kind)) (state : State) (world : WorldData) (time : ℕ) (disk : D) → ShowsState setting state world
    → CanBeLogged kinds setting → IsKeptSince image image_since world.core.entries time disk
    → IsDurable image image_since setting kinds state time disk
is_durable image image_since law setting kinds state world time disk shows typed kept = record {
  now = λ bytes left. recovers_after law setting kinds state world shows typed (length state.order) kept.gate bytes
      (subst (λ (entries : List Entry). IsLogOf entries kept.gate bytes) (sym (all_taken setting state world shows)) (kept.logged bytes left));
  moments = λ bytes left.
      let is = kept.moments bytes left in (
        length is.first,
        recovers_after law setting kinds state world shows typed (length is.first) is.gate bytes
            (subst (λ (entries : List Entry). IsLogOf entries is.gate bytes) (sym (first_taken is.first world.core.entries is.are_first)) is.log),
      );
}

-- ---- a run that broke off, or came to its end

-- the entries of a world are those of the state that it shows
entries_count : (setting : Setting) (state : State) (world : WorldData) → ShowsState setting state world → length world.core.entries ≡ length state.order
entries_count setting state world shows =
    ap (λ (core : CoreData). length core.entries) (sym (core_shown setting state world shows)) ∙ shows.shown.shows.core_shows.entries_show.count

abbrev committed : Label → List Change → Committed
committed label changes = record { label = label; changes = changes }

entries_tell : EntriesTellChanges → (entries : List Entry) (order : List Entered) → EntriesShow order entries → map told_entry entries ≡ map committed_of order
entries_tell one [] [] show = refl
entries_tell one [] (entered ∷ order) show = absurd (omega (arith, show.count))
entries_tell one (entry ∷ entries) [] show = absurd (omega (arith, show.count))
entries_tell one (entry ∷ entries) (entered ∷ order) show =
    let here : EntryShows entered entry = show.each 0 entered entry refl refl in
    let same : told_entry entry ≡ committed_of entered =
    ap (λ (label : Label). committed label (filter is_change entry.notes)) here.label ∙ ap (committed entered.label) (one entered entry here) in
    ap (λ (new : Committed). new ∷ map told_entry entries) same
    ∙ ap (λ (others : List Committed). committed_of entered ∷ others) (entries_tell one entries order (record {
      count = omega (arith, show.count);
      each = λ rank other another e f. show.each (suc rank) other another e f;
    }))

world_tells : EntriesTellChanges → (setting : Setting) (state : State) (world : WorldData) → ShowsState setting state world
    → map told_entry world.core.entries ≡ map committed_of state.order
world_tells one setting state world shows =
    ap (λ (core : CoreData). map told_entry core.entries) (sym (core_shown setting state world shows))
    ∙ entries_tell one shows.shown.shows.core.entries state.order shows.shown.shows.core_shows.entries_show

-- what the first entries tell is the first part of the order
first_told : (first others entries : List Entry) (now order more : List Entered) → entries ≡ first ++ others → map told_entry entries ≡ map committed_of now
    → order ≡ now ++ more → map told_entry first ≡ take (length first) (map committed_of order)
first_told first others entries now order more parted tells behind =
    let all : map committed_of order ≡ map told_entry first ++ (map told_entry others ++ map committed_of more) =
    ap (map committed_of) behind ∙ (map-append committed_of now more
    ∙ (ap (λ (x : List Committed). x ++ map committed_of more) (sym tells ∙ (ap (map told_entry) parted ∙ map-append told_entry first others))
    ∙ append_assoc (map told_entry first) (map told_entry others) (map committed_of more))) in
    sym (ap (λ (x : List Committed). take (length first) x) all
    ∙ (ap (λ n. take n (map told_entry first ++ (map told_entry others ++ map committed_of more))) (sym (length-map first told_entry))
    ∙ take-append_seam (map told_entry first) (map told_entry others ++ map committed_of more)))

-- the machine's rows after the first entries are those of every run that has these first
same_snapshot : (setting : Setting) (now state : State) (more : List Entered) (count : ℕ) → state.order ≡ now.order ++ more → count ≤ length now.order
    → snapshot setting now count ≡ snapshot setting state count
same_snapshot setting now state more count behind within =
    ap (history (opening_tables setting)) (sym (ap (take count) behind ∙ take-append-le count now.order more within))

log_of_run : LogsRecoverTables → EntriesTellChanges → (setting : Setting) (kinds : List (List Kind)) (state : State) (world : WorldData)
    → IsUnderWay setting state.order world → CanBeLogged kinds setting → (bytes : List ℕ)
    → IsLogOfFirst world.core.entries bytes → IsLogOfRun setting kinds state bytes
log_of_run law one setting kinds state world way typed bytes is =
    let count : ℕ = length is.first in
    let within : count ≤ length way.state.order =
    omega (arith, entries_count setting way.state world way.shows, ap length is.are_first.behind, length-append is.first is.are_first.others) in
    let found : RecoversAfter setting kinds way.state count bytes =
    recovers_after law setting kinds way.state world way.shows typed count is.gate bytes
    (subst (λ (entries : List Entry). IsLogOf entries is.gate bytes) (sym (first_taken is.first world.core.entries is.are_first)) is.log) in
    record {
      count = count;
      log = record {
        entries = is.first;
        tell = first_told is.first is.are_first.others world.core.entries way.state.order state.order way.first.others is.are_first.behind
            (world_tells one setting way.state world way.shows) way.first.behind;
        gate = is.gate;
        log = is.log;
      };
      recovers = (found.0, found.1, found.2 ∙ same_snapshot setting way.state state way.first.others count way.first.behind within);
    }

pub logs_run : {D : Type 0} (clock : D → ℕ) (image_since : D → ℕ → List ℕ → Type 0) → LogsRecoverTables → EntriesTellChanges
    → (setting : Setting) (kinds : List (List Kind)) (state : State) (old : List Entry) (new : WorldData) (before after : D)
    → IsUnderWay setting state.order new → CanBeLogged kinds setting
    → Logs clock image_since old new.core.entries before after → LogsRun clock image_since setting kinds state before after
logs_run clock image_since law one setting kinds state old new before after way typed logs = record {
  later = logs.later;
  moments = λ time bytes le left.
      ⊎_elim (λ earlier. inl earlier) (λ is. inr (log_of_run law one setting kinds state new way typed bytes is)) (logs.moments time bytes le left);
}

-- ---- for all worlds

-- the log of all entries of a world recovers to the tables of the state that it shows
recovers_all : LogsRecoverTables → (setting : Setting) (kinds : List (List Kind)) (state : State) (world : WorldData) → ShowsState setting state world
    → CanBeLogged kinds setting → (gate : ℕ) (bytes : List ℕ) → IsLogOf world.core.entries gate bytes
    → RecoversAfter setting kinds state (length state.order) bytes
recovers_all law setting kinds state world shows typed gate bytes log =
    recovers_after law setting kinds state world shows typed (length state.order) gate bytes
    (subst (λ (entries : List Entry). IsLogOf entries gate bytes) (sym (all_taken setting state world shows)) log)

pub tell_orders : LogsRecoverTables → EntriesTellChanges → LogsTellOrders
tell_orders law one = record { order = world_tells one; all = recovers_all law; first = log_of_run law one }
