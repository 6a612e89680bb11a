-- Parts and sessions that keep a log: at the opening of a run, and when they come back at its end.
use Rattle.std.proofs.Common.{◌≡◌, ◌⊎◌, inl, inr, ℕ, zero, suc, ◌*◌, ◌<◌, ◌≤◌, List, [], ◌∷◌, ◌++◌, Bool, true, false, Option, None, Some}
use Rattle.std.proofs.Common.{length, map, take, get_or, refl, ap, ◌∙◌, sym, subst, arith, Result, Ok, Err, le_refl}
use Rattle.std.specs.Prelude.{slice_get, nat_lt, ◌&&◌, is_some, IfOk, if◌then◌else◌}
use Rattle.std.specs.Option.{option_map}
use Rattle.std.specs.List.{All, AllByRecursion}
use Rattle.std.proofs.Math.Logic.{⊎_elim}
use Rattle.std.proofs.Math.Seq.{take-append_seam}
use Rattle.std.proofs.lemmas.Bool.{lt-ltb, ltb-true}
use Rattle.std.proofs.lemmas.List.{length-append, length-map, map-append, take_all}
use Rattle.std.proofs.lemmas.List.Elements.{recursion_from_All}
use Rattle.std.proofs.lemmas.Option.{same_Some, slice_get-map}
use Rattle.hy_value.specs.declared.Kind.{Kind}
use Rattle.hy_bound.specs.declared.schedule.Item.{Item}
use Rattle.hy_journal.specs.declared.CoreData.{CoreData}
use Rattle.hy_journal.specs.declared.Entry.{Entry}
use Rattle.hy_undo.specs.Chunks.{ChunkData}
use Rattle.hy_chunk.specs.Views.{Whole}
use Rattle.hy_event.specs.declared.SessionData.{SessionData}
use Rattle.hy_event.specs.Events.{Part, ChunkPart, CorePart, part_number}
use Rattle.hy_event.specs.Needs.{need_of}
use Rattle.hy_machine.specs.declared.Setting.{Setting}
use Rattle.hy_machine.specs.States.{State}
use Rattle.hy_machine.specs.Runs.{IsReached, RunsEnd, opening_of, items_of, rounds_of, run_of}
use Rattle.hy_outside.specs.Faults.{Rose}
use Rattle.hy_redo.specs.Crashes.{AreLogsOf}
use Rattle.hy_redo.specs.declared.errors.AppendError.{AppendError}
use Rattle.hy_refinement.specs.Shows.{blank_core}
use Rattle.hy_refinement.specs.CoreVisits.{EntriesTellChanges}
use Rattle.hy_session.specs.Standing.{needed_number, number_within, width_of}
use Rattle.hy_stepping.specs.Logs.{LogsRecoverTables}
use Rattle.hy_stepping.specs.Outcomes.{EndsAreTheMachines, are_done, is_done, told_entry}
use Rattle.hy_stepping.specs.Runnable.{IsShown}
use Rattle.hy_stepping.specs.Texts.{CanBeLogged}
use Rattle.hy_world.specs.declared.grouped.Durability.{Durability}
use Rattle.hy_world.specs.declared.grouped.KeptLog.{KeptLog}
use Rattle.hy_world.specs.declared.grouped.LoggedPart.{LoggedPart}
use Rattle.hy_world.specs.declared.grouped.LoggedPart.TheVariants as part
use Rattle.hy_world.specs.declared.grouped.LoggedSession.{LoggedSession}
use Rattle.hy_world.specs.declared.grouped.Stage.{Stage}
use Rattle.hy_world.specs.declared.grouped.Stage.TheVariants.{Running, Appending, Reporting, Stopped}
use Rattle.hy_render.specs.declared.Outcome.{Outcome}
use Rattle.hy_world.specs.Follows.{Tells}
use Rattle.hy_world.specs.Grouped.{AreLogged, HasParts, IsOwed, StageHolds, FailedSince, awaits, fresh_session, is_over, logged_number, logged_point, logged_width, number_at}
use Rattle.hy_world.specs.Grouped.{session_in, shared_in}
use Rattle.hy_world.specs.Logged.{Extend, IsKeptSince, Logs, LogsRun}
use Rattle.hy_world.specs.LoggedRuns.{AreWithLog, IsBefore, IsEmptyLog, IsLastCore, IsNoLog, IsWorldLogged, RanLogged, fresh_sessions, nothing_durable}
use Rattle.hy_world.specs.Points.{visit_at, point_of}
use Rattle.hy_world.specs.Shared.{SharedData, ChunkOf, CoreOf, AreParts, AreShared, IsChunk, chunk_shared, part_of, parts_shared}
use Rattle.hy_world.specs.SomeRuns.{ShowsSomeRun}
use Rattle.hy_world.specs.Worlds.{WorldData, ShowsState, parts_of}
use Rattle.hy_world.proofs.ListsAt.{got, below, got_take, read_got, got_is}
use Rattle.hy_world.proofs.Logs.{is_durable, kept_since, logs_run, none_behind}
use Rattle.hy_world.proofs.Orders.{rounds_grow}
use Rattle.hy_world.proofs.SharedWorlds.{done_by, last_of, parts_many, shared_parts, some_shown}
use Rattle.hy_world.proofs.SomeSchedules.{single, singles_step}

-- ---- lists

-- a list with one more element is that list and that element
same_snoc : {A : Type 0} (xs ys : List A) (x y : A) → xs ++ x ∷ [] ≡ ys ++ y ∷ [] → (xs ≡ ys) × (x ≡ y)
same_snoc [] [] x y e = (refl, cc e)
same_snoc [] (z ∷ []) x y e = absurd (cc e)
same_snoc [] (z ∷ w ∷ ys) x y e = absurd (cc e)
same_snoc (z ∷ []) [] x y e = absurd (cc e)
same_snoc (z ∷ w ∷ xs) [] x y e = absurd (cc e)
same_snoc {A = A} (z ∷ xs) (w ∷ ys) x y e =
    let head : z ≡ w = cc e in
    let tail : xs ++ x ∷ [] ≡ ys ++ y ∷ [] = cc e in
    let rest = same_snoc xs ys x y tail in
    (ap (λ (v : A). v ∷ xs) head ∙ ap (λ (vs : List A). w ∷ vs) rest.0, rest.1)

-- how many chunks there are, which is the number of the core
abbrev chunk_count : Setting → ℕ
chunk_count setting = length setting.shapes * setting.chunks

-- ---- parts with a log behind them

-- so are chunks, a core and a log
abbrev with_log : {D : Type 0} → List SharedData → SharedData → Durability → KeptLog D → List (LoggedPart D)
with_log chunks core d log = map part.Chunk chunks ++ part.Core core d ∷ part.Log log ∷ []

with_log_many : {D : Type 0} (chunks : List SharedData) (core : SharedData) (d : Durability) (log : KeptLog D)
    → length (with_log chunks core d log) ≡ suc (suc (length chunks))
with_log_many [] core d log = refl
with_log_many (chunk ∷ chunks) core d log = ap suc (with_log_many chunks core d log)

with_log_chunk : {D : Type 0} (chunks : List SharedData) (core : SharedData) (d : Durability) (log : KeptLog D) (number : ℕ) (p : LoggedPart D)
    → number < length chunks → slice_get (with_log chunks core d log) number ≡ Some p → (shared : SharedData) × (p ≡ part.Chunk shared)
with_log_chunk [] core d log number p less at = absurd (omega arith)
with_log_chunk (chunk ∷ chunks) core d log zero p less at = (chunk, sym (same_Some (part.Chunk chunk) p at))
with_log_chunk (chunk ∷ chunks) core d log (suc number) p less at = with_log_chunk chunks core d log number p (omega arith) at

with_log_core : {D : Type 0} (chunks : List SharedData) (core : SharedData) (d : Durability) (log : KeptLog D)
    → slice_get (with_log chunks core d log) (length chunks) ≡ Some (part.Core core d)
with_log_core [] core d log = refl
with_log_core (chunk ∷ chunks) core d log = with_log_core chunks core d log

with_log_last : {D : Type 0} (chunks : List SharedData) (core : SharedData) (d : Durability) (log : KeptLog D)
    → slice_get (with_log chunks core d log) (suc (length chunks)) ≡ Some (part.Log log)
with_log_last [] core d log = refl
with_log_last (chunk ∷ chunks) core d log = with_log_last chunks core d log

with_log_shared : {D : Type 0} (chunks : List SharedData) (core : SharedData) (d : Durability) (log : KeptLog D)
    → map shared_in (take (suc (length chunks)) (with_log chunks core d log)) ≡ chunks ++ core ∷ []
with_log_shared [] core d log = refl
with_log_shared (chunk ∷ chunks) core d log = ap (λ (xs : List SharedData). chunk ∷ xs) (with_log_shared chunks core d log)

-- ---- sessions that have done nothing

fresh_at : (core_part : ℕ) (sessions : List SessionData) (number : ℕ) (s : LoggedSession) → slice_get (fresh_sessions core_part sessions) number ≡ Some s
    → (session : SessionData) × (s ≡ fresh_session session core_part)
fresh_at core_part [] number s e = absurd (cc e)
fresh_at core_part (session ∷ sessions) zero s e = (session, sym (same_Some (fresh_session session core_part) s e))
fresh_at core_part (session ∷ sessions) (suc number) s e = fresh_at core_part sessions number s e

fresh_sessions_in : (core_part : ℕ) (sessions : List SessionData) → map session_in (fresh_sessions core_part sessions) ≡ sessions
fresh_sessions_in core_part [] = refl
fresh_sessions_in core_part (session ∷ sessions) = ap (λ (xs : List SessionData). session ∷ xs) (fresh_sessions_in core_part sessions)

fresh_running : (core_part : ℕ) (session : SessionData) (s : LoggedSession) → s ≡ fresh_session session core_part → s.stage ≡ Running
fresh_running core_part session s is = ap (λ (u : LoggedSession). u.stage) is

-- ---- the opening

module _ {D : Type 0} (clock : D → ℕ) (image : D → List ℕ → Type 0) (image_since : D → ℕ → List ℕ → Type 0) (faults : D → ℕ)
    (time : ℕ) (before : ℕ → List ℕ → Type 0) (failed : ℕ) where
  opened_at : (setting : Setting) (kinds : List (List Kind)) (chunks : List SharedData) (sessions : List SessionData) (log : KeptLog D)
      → chunk_count setting ≡ length chunks → AreShared setting kinds (chunks ++ CoreOf blank_core ∷ []) sessions → IsEmptyLog image log
      → IsBefore clock image_since faults time before failed log.disk
      → AreLogged clock image image_since faults setting kinds time before failed
      (with_log chunks (CoreOf blank_core) nothing_durable log) (fresh_sessions (chunk_count setting) sessions)
  opened_at setting kinds chunks sessions log many shared empty is_before =
      let first = empty.count in
      let now = is_before.time_is in
      record {
        core = blank_core;
        durability = nothing_durable;
        log = log;
        has = record {
          count = with_log_many chunks (CoreOf blank_core) nothing_durable log ∙ ap (λ (n : ℕ). suc (suc n)) (sym many);
          chunks = λ number p less at. with_log_chunk chunks (CoreOf blank_core) nothing_durable log number p (omega (arith, less, many)) at;
          at_core = ap (slice_get (with_log chunks (CoreOf blank_core) nothing_durable log)) many ∙ with_log_core chunks (CoreOf blank_core) nothing_durable log;
          at_log = ap (λ (n : ℕ). slice_get (with_log chunks (CoreOf blank_core) nothing_durable log) (suc n)) many
              ∙ with_log_last chunks (CoreOf blank_core) nothing_durable log;
        };
        shared = subst (λ (all : List SessionData). AreShared setting kinds
            (map shared_in (take (suc (chunk_count setting)) (with_log chunks (CoreOf blank_core) nothing_durable log))) all)
            (sym (fresh_sessions_in (chunk_count setting) sessions))
            (subst (λ (all : List SharedData). AreShared setting kinds all sessions)
            (sym (ap (λ (n : ℕ). map shared_in (take (suc n) (with_log chunks (CoreOf blank_core) nothing_durable log))) many
            ∙ with_log_shared chunks (CoreOf blank_core) nothing_durable log)) shared);
        placed = λ number s at.
            let is = fresh_at (chunk_count setting) sessions number s at in ap (λ (u : LoggedSession). u.core_part) is.1;
        kept = record {
          in_log = omega arith;
          within = omega (arith, first);
          logged = λ sound. subst (λ (n : ℕ). AreLogsOf (image log.disk) (take n []) log.log) (sym empty.count) empty.logs;
          from = record { later = omega (arith, now); moments = λ earlier bytes le left. inl (is_before.left earlier bytes left) };
          faulty = subst (FailedSince failed (faults log.disk)) (sym empty.sound) (sym is_before.failed_is);
          known = λ broken. absurd (cc broken);
          quiet = λ idle sound. (empty.count, empty.sound);
        };
        served = record {
          taker = None;
          one = λ number s at taken.
              let is = fresh_at (chunk_count setting) sessions number s at in
              absurd (cc (ap (λ (u : LoggedSession). u.stage) is.1, taken));
          busy = refl;
          stages = λ number s at.
              let is = fresh_at (chunk_count setting) sessions number s at in
              subst (StageHolds [] nothing_durable log) (sym (ap (λ (u : LoggedSession). u.stage) is.1)) tt;
          owe = λ number s at.
              let is = fresh_at (chunk_count setting) sessions number s at in
              let none : s.owed ≡ 0 = ap (λ (u : LoggedSession). u.owed) is.1 in omega (arith, none);
          covered = inl (omega arith);
        };
      }

  pub opened_logged : (setting : Setting) (kinds : List (List Kind)) (chunks : List Whole) (shared : List SharedData) (sessions : List SessionData)
      (log : KeptLog D) (parts : List (LoggedPart D)) → shared ≡ parts_shared chunks blank_core → AreShared setting kinds shared sessions
      → AreWithLog shared log parts → IsEmptyLog image log → IsBefore clock image_since faults time before failed log.disk
      → AreLogged clock image image_since faults setting kinds time before failed parts (fresh_sessions (chunk_count setting) sessions)
  opened_logged setting kinds chunks shared sessions log parts is holds with empty is_before =
      let same = same_snoc with.chunks (map chunk_shared chunks) with.core (CoreOf blank_core) (sym with.shared_are ∙ is) in
      let here : AreShared setting kinds (with.chunks ++ CoreOf blank_core ∷ []) sessions =
      subst (λ (all : List SharedData). AreShared setting kinds all sessions)
      (with.shared_are ∙ ap (λ (core : SharedData). with.chunks ++ core ∷ []) same.1) holds in
      let many = parts_many setting kinds (with.chunks ++ CoreOf blank_core ∷ []) sessions here in
      let longer = length-append with.chunks (CoreOf blank_core ∷ []) in
      subst (λ (all : List (LoggedPart D)). AreLogged clock image image_since faults setting kinds time before failed all (fresh_sessions (chunk_count setting) sessions))
      (ap (λ (core : SharedData). with_log with.chunks core nothing_durable log) (sym same.1) ∙ sym with.parts_are)
      (opened_at setting kinds with.chunks sessions log (omega (arith, many, longer)) here empty is_before)

-- ---- the end: parts

-- the log at the end of the parts is the one that holds, and before it are the parts without a log
pub record IsTakenApart {D : Type 0} (setting : Setting) (front : List (LoggedPart D)) (log known : KeptLog D) (parts : List (LoggedPart D)) : Type 0 where
  pub log_is : log ≡ known
  pub front_is : map shared_in front ≡ map shared_in (take (suc (length setting.shapes * setting.chunks)) parts)
  pub none_is_log : AllByRecursion IsNoLog front

last_here : {A : Type 0} (xs : List A) (y : A) → slice_get (xs ++ y ∷ []) (length xs) ≡ Some y
last_here [] y = refl
last_here (x ∷ xs) y = last_here xs y

in_front : {A : Type 0} (xs ys : List A) (n : ℕ) → n < length xs → slice_get (xs ++ ys) n ≡ slice_get xs n
in_front [] ys n h = absurd (omega arith)
in_front (x ∷ xs) ys zero h = refl
in_front (x ∷ xs) ys (suc n) h = in_front xs ys n (omega arith)

no_log_by : {D : Type 0} (p : LoggedPart D) (shared : SharedData) → p ≡ part.Chunk shared → IsNoLog p
no_log_by p shared e = subst IsNoLog (sym e) tt

no_log_core : {D : Type 0} (p : LoggedPart D) (shared : SharedData) (d : Durability) → p ≡ part.Core shared d → IsNoLog p
no_log_core p shared d e = subst IsNoLog (sym e) tt

less_or_same : (i n : ℕ) → i < suc n → (i < n) ⊎ (i ≡ n)
less_or_same zero zero h = inr refl
less_or_same zero (suc n) h = inl (omega arith)
less_or_same (suc i) zero h = absurd (omega arith)
less_or_same (suc i) (suc n) h = ⊎_elim (λ (less : i < n). inl (omega (arith, less))) (λ (e : i ≡ n). inr (ap suc e)) (less_or_same i n (omega arith))

pub taken_apart : {D : Type 0} (setting : Setting) (core : CoreData) (d : Durability) (known : KeptLog D) (parts front : List (LoggedPart D)) (log : KeptLog D)
    → HasParts setting parts core d known → parts ≡ front ++ part.Log log ∷ [] → IsTakenApart setting front log known parts
taken_apart {D = D} setting core d known parts front log has is =
    let whole = ap length is in
    let longer = length-append front (part.Log log ∷ []) in
    let count = has.count in
    let many : length front ≡ suc (chunk_count setting) = omega (arith, whole, longer, count) in
    record {
      log_is =
          let there : slice_get parts (suc (chunk_count setting)) ≡ Some (part.Log log) =
          ap (λ (xs : List (LoggedPart D)). slice_get xs (suc (chunk_count setting))) is
          ∙ (ap (slice_get (front ++ part.Log log ∷ [])) (sym many) ∙ last_here front (part.Log log)) in
          let same = same_Some (part.Log log) (part.Log known) (sym there ∙ has.at_log) in cc same;
      front_is = ap (map shared_in)
          (sym (ap (λ (n : ℕ). take n parts) (sym many) ∙ (ap (take (length front)) is ∙ take-append_seam front (part.Log log ∷ []))));
      none_is_log = recursion_from_All IsNoLog front (λ i other h.
          let here : slice_get parts i ≡ Some (get_or front i other) =
          ap (λ (xs : List (LoggedPart D)). slice_get xs i) is ∙ (in_front front (part.Log log ∷ []) i h ∙ read_got front i other h) in
          elim (less_or_same i (chunk_count setting) (omega (arith, h, many))) [
            | inl less ↦ let found = has.chunks i (get_or front i other) less here in no_log_by (get_or front i other) found.0 found.1
            | inr e ↦
                no_log_core (get_or front i other) (CoreOf core) d
                (same_Some (get_or front i other) (part.Core (CoreOf core) d) (sym here ∙ (ap (slice_get parts) e ∙ has.at_core)))
          ]);
    }

-- ---- the end: sessions

no_point : (s : LoggedSession) (found : Option ℕ) → option_map (visit_at s.session) found ≡ None → found ≡ None
no_point s None e = refl
no_point s (Some number) e = absurd (cc e)

within_none : (count number : ℕ) → number < count → number_within count (Some number) ≡ None → ⊥
within_none count number less e = let yes = lt-ltb number count less in cc

-- a number that is below another bound too
own_none : (count other : ℕ) (given : Option ℕ) → count ≡ other → number_within count (number_within other given) ≡ None → number_within other given ≡ None
own_none count other given same e = by count other given (number_within other given) same refl e
  where
    less_by : (count number found : ℕ) (less : Bool) → nat_lt number count ≡ less → (if less then Some number else None) ≡ Some found → found < count
    less_by count number found true h f = let is = same_Some number found f in let lt = ltb-true number count h in omega (arith, is, lt)
    less_by count number found false h f = absurd (cc f)

    below_by : (count : ℕ) (given : Option ℕ) (found : ℕ) → number_within count given ≡ Some found → found < count
    below_by count None found f = absurd (cc f)
    below_by count (Some number) found f = less_by count number found (nat_lt number count) refl f

    by : (count other : ℕ) (given found : Option ℕ) → count ≡ other → number_within other given ≡ found → number_within count found ≡ None
        → number_within other given ≡ None
    by count other given None same is f = is
    by count other given (Some number) same is f =
        let less = below_by other given number is in absurd (within_none count number (omega (arith, same, less)) f)

-- a session that has no next visit, where no fault is known, is at its end and owes nothing
pub record IsOver (s : LoggedSession) : Type 0 where
  pub point : point_of s.session ≡ None
  pub owes : s.owed ≡ 0

over_by : (s : LoggedSession) (waits : Bool) → awaits s ≡ waits → (if waits then Some s.core_part else number_within (suc s.core_part) (needed_number s.session)) ≡ None
    → (awaits s ≡ false) × (number_within (suc s.core_part) (needed_number s.session) ≡ None)
over_by s true is e = absurd (cc e)
over_by s false is e = (is, e)

owes_by : (owed : ℕ) (over : Bool) → (nat_lt 0 owed && over) ≡ false → over ≡ true → owed ≡ 0
owes_by zero over e is = refl
owes_by (suc owed) over e is =
    let yes = lt-ltb 0 (suc owed) (omega arith) in
    let never : false ≡ true = sym e ∙ (ap (λ (b : Bool). b && over) yes ∙ is) in absurd (cc never)

over_yes : (session : SessionData) (some : Bool) → is_done (need_of session) ≡ true → (if some then is_done (need_of session) else true) ≡ true
over_yes session true done = done
over_yes session false done = refl

-- ---- the end: what holds

-- a list of chunks, as parts
chunk_list : (front : List SharedData) → AllByRecursion IsChunk front → (chunks : List ChunkData) × (map part_of front ≡ map ChunkPart chunks)
chunk_list [] all = ([], refl)
chunk_list (ChunkOf kinds chunk ∷ front) all =
    let rest = chunk_list front all.1 in (chunk ∷ rest.0, ap (λ (parts : List Part). ChunkPart chunk ∷ parts) rest.1)
chunk_list (CoreOf core ∷ front) all = absurd all.0

-- some run goes on from each state that the machine comes to
run_ahead : (setting : Setting) (state : State) → IsReached setting state → (schedule : List Item) × Extend state.order (run_of setting schedule).order
run_ahead setting state reached =
    let last : items_of setting (opening_of setting) (map single reached.0) ≡ state =
    singles_step setting (opening_of setting) reached.0 ∙ sym reached.1 in
    (map single reached.0, subst (λ (now : State). Extend state.order (rounds_of setting now).order) (sym last) (rounds_grow setting state))

module _ {D : Type 0} (clock : D → ℕ) (image : D → List ℕ → Type 0) (image_since : D → ℕ → List ℕ → Type 0) (faults : D → ℕ)
    (setting : Setting) (kinds : List (List Kind)) (time : ℕ) (since : ℕ → List ℕ → Type 0) (failed : ℕ) (before : D)
    (is_before : IsBefore clock image_since faults time since failed before) (parts : List (LoggedPart D)) (sessions : List LoggedSession) where
  -- what holds of all parts and sessions since the disk was so
  abbrev Holds : Type 0
  Holds = AreLogged clock image image_since faults setting kinds time since failed parts sessions

  shared_at : Holds → (number : ℕ) (p : LoggedPart D) → number < suc (chunk_count setting) → slice_get parts number ≡ Some p
      → slice_get (map shared_in (take (suc (chunk_count setting)) parts)) number ≡ Some (shared_in p)
  shared_at all number p less at =
      slice_get-map shared_in (take (suc (chunk_count setting)) parts) number
      ∙ ap (option_map shared_in) (got_take parts (suc (chunk_count setting)) number less ∙ at)

  session_at : (i : ℕ) (s : LoggedSession) → slice_get sessions i ≡ Some s → slice_get (map session_in sessions) i ≡ Some s.session
  session_at i s at = slice_get-map session_in sessions i ∙ ap (option_map session_in) at

  -- the parts that are shared without a log, the last of which is the core
  pub shared_with : (all : Holds) → AreParts (map shared_in (take (suc (chunk_count setting)) parts))
  shared_with all = shared_parts setting kinds (map shared_in (take (suc (chunk_count setting)) parts)) (map session_in sessions) all.shared

  pub core_is : (all : Holds) → (shared_with all).core ≡ all.core
  core_is all =
      let are = shared_with all in
      let long = parts_many setting kinds (map shared_in (take (suc (chunk_count setting)) parts)) (map session_in sessions) all.shared in
      let whole = ap length are.are in
      let longer = length-append are.front (CoreOf are.core ∷ []) in
      let many : length are.front ≡ chunk_count setting = omega (arith, long, whole, longer) in
      let here : Some (CoreOf are.core) ≡ Some (CoreOf all.core) =
      sym (last_here are.front (CoreOf are.core)) ∙ (ap (slice_get (are.front ++ CoreOf are.core ∷ [])) many
      ∙ (ap (λ (xs : List SharedData). slice_get xs (chunk_count setting)) (sym are.are)
      ∙ shared_at all (chunk_count setting) (part.Core (CoreOf all.core) all.durability) (omega arith) all.has.at_core)) in
      let is : CoreOf are.core ≡ CoreOf all.core = same_Some (CoreOf are.core) (CoreOf all.core) here in cc is

  -- the world of what is shared without a log
  pub seen : (all : Holds) → (world : WorldData) × (ShowsState setting all.shared.state world) × (world.core ≡ all.core)
  seen all =
      let are = shared_with all in
      let chunks = chunk_list are.front are.chunks in
      let seen_parts : map part_of (map shared_in (take (suc (chunk_count setting)) parts)) ≡ parts_of chunks.0 are.core =
      ap (map part_of) are.are
      ∙ (map-append part_of are.front (CoreOf are.core ∷ []) ∙ ap (λ (xs : List Part). xs ++ CorePart are.core ∷ []) chunks.1) in (
        record {
          tables = length setting.shapes;
          per_table = setting.chunks;
          kinds = [];
          chunks = chunks.0;
          core = are.core;
          sessions = map session_in sessions;
        },
        record {
          tables = refl;
          per_table = refl;
          shown = subst (λ (seen : List Part). IsShown setting all.shared.state seen (map session_in sessions)) seen_parts all.shared.shown;
        },
        core_is all,
      )

  logs_of : (all : Holds) → Logs clock image_since [] all.core.entries before all.log.disk
  logs_of all =
      let now = is_before.time_is in
      let later = all.kept.from.later in
      record {
        grow = record { others = all.core.entries; behind = refl };
        later = omega (arith, now, later);
        moments = λ earlier bytes le left.
            ⊎_elim (λ was. inl (is_before.only earlier bytes was)) (λ is. inr is) (all.kept.from.moments earlier bytes (omega (arith, le, now)) left);
      }

  -- where a run broke off, its log is that of some run
  pub broke_off : LogsRecoverTables → EntriesTellChanges → (all : Holds) → (schedule : List Item)
      × (CanBeLogged kinds setting → LogsRun clock image_since setting kinds (run_of setting schedule) before all.log.disk)
  broke_off law one all =
      let world = seen all in
      let ahead = run_ahead setting all.shared.state all.shared.shown.reached in (
        ahead.0,
        λ can.
            logs_run clock image_since law one setting kinds (run_of setting ahead.0) [] world.0 before all.log.disk
            (record { state = all.shared.state; shows = world.1; first = ahead.1 }) can
            (subst (λ (core : CoreData). Logs clock image_since [] core.entries before all.log.disk) (sym world.2) (logs_of all)),
      )

  -- ---- where every session is at its end

  over_at : (all : Holds) → all.durability.is_broken ≡ false → (i : ℕ) (s : LoggedSession) (stage : Stage) → slice_get sessions i ≡ Some s
      → s.stage ≡ stage → number_at s stage ≡ None
      → (awaits s ≡ false) × (number_within (suc s.core_part) (needed_number s.session) ≡ None)
  over_at all sound i s Running at is none = over_by s (awaits s) refl none
  over_at all sound i s (Appending upto batch) at is none = absurd (cc none)
  over_at all sound i s (Reporting report) at is none = absurd (cc none)
  over_at all sound i s Stopped at is none =
      let broken : all.durability.is_broken ≡ true =
      subst (StageHolds all.core.entries all.durability all.log) is (all.served.stages i s at) in
      absurd (cc (sound, broken))

  pub session_over : (all : Holds) → all.durability.is_broken ≡ false → (i : ℕ) (s : LoggedSession) → slice_get sessions i ≡ Some s
      → logged_point s ≡ None → IsOver s
  session_over all sound i s at none =
      let over = over_at all sound i s s.stage at refl (no_point s (logged_number s) none) in
      let is = (all.shared.shown.shows.sessions_show.each i s.session (session_at i s at)).session_is in
      let placed = all.placed i s at in
      let wide : width_of s.session ≡ suc (chunk_count setting) = rw (is.shapes, is.chunks) refl in
      let needs : needed_number s.session ≡ None =
      own_none (suc s.core_part) (width_of s.session) (part_number s.session (need_of s.session)) (omega (arith, placed, wide)) over.1 in
      let done : is_done (need_of s.session) ≡ true =
      done_by setting kinds (map shared_in (take (suc (chunk_count setting)) parts)) (map session_in sessions) i s.session (need_of s.session) all.shared
      (session_at i s at) refl needs in
      record {
        point = ap (option_map (visit_at s.session)) needs;
        owes = owes_by s.owed (is_over s.session) over.0 (over_yes s.session (is_some s.session.now) done);
      }

  each_over : (all : Holds) → all.durability.is_broken ≡ false → All (λ (s : LoggedSession). logged_point s ≡ None) sessions
      → (i : ℕ) (s : LoggedSession) → slice_get sessions i ≡ Some s → IsOver s
  each_over all sound none i s at =
      session_over all sound i s at (subst (λ (u : LoggedSession). logged_point u ≡ None) (got_is sessions i s s at) (none i s (below sessions i s at)))

  -- so no session has a next visit without a log
  pub none_left : (all : Holds) → all.durability.is_broken ≡ false → All (λ (s : LoggedSession). logged_point s ≡ None) sessions
      → All (λ (session : SessionData). point_of session ≡ None) (map session_in sessions)
  none_left all sound none = λ i other h.
      let many = length-map sessions session_in in
      let less : i < length sessions = omega (arith, h, many) in
      let found = got sessions i less in
      subst (λ (session : SessionData). point_of session ≡ None) (sym (got_is (map session_in sessions) i other found.0.session (session_at i found.0 found.1)))
      (each_over all sound none i found.0 found.1).point

  -- and the log has all entries
  pub all_logged : (all : Holds) → all.log.is_broken ≡ false → all.durability.is_broken ≡ false
      → All (λ (s : LoggedSession). logged_point s ≡ None) sessions → AreLogsOf (image all.log.disk) all.core.entries all.log.log
  all_logged all sound known none =
      let enough : length all.core.entries ≤ all.durability.durable =
      ⊎_elim (λ (durable : length all.core.entries ≤ all.durability.durable). durable)
      (λ (owed : IsOwed sessions (length all.core.entries)).
      let over = each_over all known none owed.number owed.session owed.found in
      let nothing = over.owes in
      let least = owed.owes in omega (arith, nothing, least)) all.served.covered in
      let first = all.kept.in_log in
      let last = all.kept.within in
      subst (λ (entries : List Entry). AreLogsOf (image all.log.disk) entries all.log.log)
      (take_all all.log.count all.core.entries (omega (arith, enough, first))) (all.kept.logged sound)

  -- so that it has been kept since the disk was so
  pub kept_whole : ((disk : D) (bytes : List ℕ) → image_since disk (clock disk) bytes → image disk bytes) → (gate : ℕ)
      → AreLogsOf (image before) [] gate → (all : Holds) → all.log.is_broken ≡ false → all.durability.is_broken ≡ false
      → All (λ (s : LoggedSession). logged_point s ≡ None) sessions → IsKeptSince image image_since all.core.entries (clock before) all.log.disk
  kept_whole alone gate first all sound known none =
      kept_since clock image image_since alone [] all.core.entries gate (Some all.log.log) before all.log.disk first refl
      (all_logged all sound known none) (logs_of all)

  -- a log of which no fault is known to itself has none that the core knows
  pub none_known : (all : Holds) → all.log.is_broken ≡ false → all.durability.is_broken ≡ false
  none_known all sound = by all.durability.is_broken refl
    where
      by : (broken : Bool) → all.durability.is_broken ≡ broken → all.durability.is_broken ≡ false
      by true is = let yes = all.kept.known is in absurd (cc (yes, sound))
      by false is = is

  -- ---- what comes back

  -- of a run that broke off
  pub back_short : LogsRecoverTables → EntriesTellChanges → (all : Holds) → (log : KeptLog D) → log ≡ all.log → (e : AppendError)
      → IsWorldLogged clock image image_since setting kinds (Err e) before log.disk
  back_short law one all log same e =
      let off = broke_off law one all in
      record {
        schedule = off.0;
        shows = tt;
        kept = tt;
        moments = subst (λ (l : KeptLog D). CanBeLogged kinds setting → LogsRun clock image_since setting kinds (run_of setting off.0) before l.disk) (sym same) off.1;
      }

  -- and of one that came to its end
  pub back_whole : LogsRecoverTables → EntriesTellChanges → EndsAreTheMachines
      → ((disk : D) (bytes : List ℕ) → image_since disk (clock disk) bytes → image disk bytes) → (gate : ℕ) → AreLogsOf (image before) [] gate
      → (all : Holds) → (log : KeptLog D) → log ≡ all.log → log.is_broken ≡ false → All (λ (s : LoggedSession). logged_point s ≡ None) sessions
      → (shared : List SharedData) → shared ≡ map shared_in (take (suc (chunk_count setting)) parts) → (world : WorldData)
      → (state : State) × ShowsState setting state world → world.sessions ≡ map session_in sessions → IsLastCore shared world.core
      → IsWorldLogged clock image image_since setting kinds (Ok world) before log.disk
  back_whole law one ends alone gate first all log same sound none shared shared_is world shows is last =
      let here : all.log.is_broken ≡ false = ap (λ (l : KeptLog D). l.is_broken) (sym same) ∙ sound in
      let known = none_known all here in
      let some : ShowsSomeRun setting world =
      some_shown {E = AppendError} (Ok world) ends setting kinds (map shared_in (take (suc (chunk_count setting)) parts)) (map session_in sessions) all.shared
      (none_left all known none) shows is in
      let are = shared_with all in
      let core : world.core ≡ all.core = last are.front are.core (shared_is ∙ are.are) ∙ core_is all in
      record {
        schedule = some.schedule;
        shows = some.shows;
        kept = subst (λ (c : CoreData). IsKeptSince image image_since c.entries (clock before) log.disk) (sym core)
            (subst (λ (l : KeptLog D). IsKeptSince image image_since all.core.entries (clock before) l.disk) (sym same)
            (kept_whole alone gate first all here known none));
        moments = λ can.
            subst (λ (l : KeptLog D). LogsRun clock image_since setting kinds (run_of setting some.schedule) before l.disk) (sym same)
            (logs_run clock image_since law one setting kinds (run_of setting some.schedule) [] world before all.log.disk
            (record { state = run_of setting some.schedule; shows = some.shows; first = none_behind (run_of setting some.schedule).order }) can
            (subst (λ (c : CoreData). Logs clock image_since [] c.entries before all.log.disk) (sym core) (logs_of all)));
      }

-- ---- the threads

-- no session needs a part that isn't there
pub logged_wide : {D : Type 0} (clock : D → ℕ) (image : D → List ℕ → Type 0) (image_since : D → ℕ → List ℕ → Type 0) (faults : D → ℕ)
    (setting : Setting) (kinds : List (List Kind)) (time : ℕ) (since : ℕ → List ℕ → Type 0) (failed : ℕ) (parts : List (LoggedPart D))
    (sessions : List LoggedSession) (count : ℕ) → AreLogged clock image image_since faults setting kinds time since failed parts sessions
    → count ≡ length parts → All (λ (s : LoggedSession). logged_width s ≤ count) sessions
logged_wide clock image image_since faults setting kinds time since failed parts sessions count all is = λ i d h.
    let placed = all.placed i (get_or sessions i d) (read_got sessions i d h) in
    let many = all.has.count in
    omega (arith, placed, many, is)

-- ---- the call

-- a disk to which nothing was done
pub untouched : {D : Type 0} (clock : D → ℕ) (image : D → List ℕ → Type 0) (image_since : D → ℕ → List ℕ → Type 0) (setting : Setting)
    (kinds : List (List Kind)) (e : AppendError) (before after : D) → after ≡ before
    → IsWorldLogged clock image image_since setting kinds (Err e) before after
untouched {D = D} clock image image_since setting kinds e before after same =
    subst (λ (disk : D). IsWorldLogged clock image image_since setting kinds (Err e) before disk) (sym same) (record {
      schedule = [];
      shows = tt;
      kept = tt;
      moments = λ can. record { later = le_refl (clock before); moments = λ earlier bytes le left. inl left };
    })

-- what a world tells is what the machine comes to, and its log is the one that was kept
pub ran_told : {D : Type 0} (clock : D → ℕ) (image : D → List ℕ → Type 0) (image_since : D → ℕ → List ℕ → Type 0) → LogsRecoverTables
    → EndsAreTheMachines → RunsEnd → (setting : Setting) (kinds : List (List Kind)) (w : Result WorldData AppendError) (r : Result Outcome AppendError)
    (before after : D) → IsWorldLogged clock image image_since setting kinds w before after
    → IfOk r (λ outcome. (world : WorldData) × (w ≡ Ok world) × Tells world outcome × (outcome.order ≡ map told_entry world.core.entries))
    → RanLogged clock image image_since setting kinds r before after
ran_told clock image image_since law ends over setting kinds w (Err e) before after logged told =
    record { schedule = logged.schedule; outcome = tt; logged = tt; durable = λ can. tt; moments = logged.moments }
ran_told clock image image_since law ends over setting kinds w (Ok outcome) before after logged told =
    let world = told.0 in
    let here = subst (λ (r : Result WorldData AppendError). IsWorldLogged clock image image_since setting kinds r before after) told.1 logged in
    let last : State = run_of setting here.schedule in
    let done : are_done world.sessions ≡ true =
    ends setting last (parts_of world.chunks world.core) world.sessions here.shows.shown ∙ over setting here.schedule in
    record {
      schedule = here.schedule;
      outcome = told.2 setting last here.shows done;
      logged = record { entries = world.core.entries; tell = sym told.3; kept = here.kept };
      durable = λ can. is_durable image image_since law setting kinds last world (clock before) after here.shows can here.kept;
      moments = here.moments;
    }

-- the log is the last of the parts
pub log_last : {D : Type 0} (setting : Setting) (core : CoreData) (d : Durability) (known : KeptLog D) (parts : List (LoggedPart D))
    → HasParts setting parts core d known → (front : List (LoggedPart D)) × (log : KeptLog D) × (parts ≡ front ++ part.Log log ∷ [])
log_last setting core d known parts has =
    (take (suc (chunk_count setting)) parts, known, last_of parts (suc (chunk_count setting)) (part.Log known) has.count has.at_log)

-- what a log that comes back tells of its disk's faults
pub failed_so : {D : Type 0} (faults : D → ℕ) (failed : ℕ) (log known : KeptLog D) → log ≡ known
    → FailedSince failed (faults known.disk) known.is_broken
    → (log.is_broken ≡ true → Rose failed (faults log.disk)) × (log.is_broken ≡ false → faults log.disk ≡ failed)
failed_so {D = D} faults failed log known same h =
    let here : FailedSince failed (faults log.disk) log.is_broken =
    subst (λ (l : KeptLog D). FailedSince failed (faults l.disk) l.is_broken) (sym same) h in (
      λ broken. subst (FailedSince failed (faults log.disk)) broken here,
      λ sound. subst (FailedSince failed (faults log.disk)) sound here,
    )

-- parts with a core are some
pub some_parts : (parts : List SharedData) (chunks : List Whole) (core : CoreData) → parts ≡ parts_shared chunks core → 0 < length parts
some_parts parts chunks core is =
    let many = ap length is in
    let longer = length-append (map chunk_shared chunks) (CoreOf core ∷ []) in omega (arith, many, longer)
