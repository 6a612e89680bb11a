-- The laws of parts and sessions that keep a log: a visit may be made where the session needs the part, it keeps what holds of all of them,
-- and the part that a session needs is one of those that are there.
use Rattle.std.proofs.Common.{◌≡◌, ◌⊎◌, inl, inr, ℕ, zero, suc, ◌*◌, ◌<◌, ◌≤◌, List, [], ◌∷◌, ◌++◌, Bool, true, false, Option, None, Some}
use Rattle.std.proofs.Common.{length, map, take, drop, refl, ap, ◌∙◌, sym, subst, arith, is_some, le_refl, le_trans, append_assoc, append-nil}
use Rattle.std.specs.Prelude.{slice_get, slice_set, nat_lt, nat_eq, ◌&&◌, if◌then◌else◌}
use Rattle.std.specs.Option.{option_map}
use Rattle.std.proofs.Math.Logic.{⊎_elim}
use Rattle.std.proofs.Math.Seq.{take-set-lt}
use Rattle.std.proofs.lemmas.Bool.{eqb-true, ltb-true}
use Rattle.std.proofs.lemmas.List.{length-append, length-take-le, map-set, take-append-drop, take-append-le, take-set-le, take_all}
use Rattle.std.proofs.lemmas.Option.{same_Some, slice_get-map, slice_get_within}
use Rattle.hy_threads.specs.Laws.{NearFollows, EventKeeps}
use Rattle.hy_threads.specs.declared.gate.Moment.TheVariants.{Before}
use Rattle.hy_threads.specs.declared.gate.Point.{Point}
use Rattle.hy_outside.specs.Faults.{Rose}
use Rattle.hy_value.specs.declared.Kind.{Kind}
use Rattle.hy_journal.specs.declared.CoreData.{CoreData}
use Rattle.hy_journal.specs.declared.Entry.{Entry}
use Rattle.hy_event.specs.declared.SessionData.{SessionData}
use Rattle.hy_event.specs.Events.{part_number}
use Rattle.hy_event.specs.Needs.{need_of}
use Rattle.hy_machine.specs.declared.Setting.{Setting}
use Rattle.hy_redo.specs.Crashes.{AreLogsOf, IsBeforeOrAfter, closed_of, next_gate}
use Rattle.hy_redo.specs.Logs.{IsBatchOf}
use Rattle.hy_session.specs.Standing.{needed_number, number_within, width_of}
use Rattle.hy_world.specs.declared.grouped.Durability.{Durability}
use Rattle.hy_world.specs.declared.grouped.KeptLog.{KeptLog}
use Rattle.hy_world.specs.declared.grouped.LoggedPart.{LoggedPart}
use Rattle.hy_world.specs.declared.grouped.LoggedPart.TheVariants as part
use Rattle.hy_world.specs.declared.grouped.LoggedSession.{LoggedSession}
use Rattle.hy_world.specs.declared.grouped.Report.{Report}
use Rattle.hy_world.specs.declared.grouped.Report.TheVariants.{Durable, Short, Failed}
use Rattle.hy_world.specs.declared.grouped.Stage.{Stage}
use Rattle.hy_world.specs.declared.grouped.Stage.TheVariants.{Running, Appending, Reporting, Stopped}
use Rattle.hy_world.specs.Grouped.{AreLogged, AreServed, AppendsEntries, CoreVisit, FailedSince, GoesOn, GoesOnAtCore, HasParts, IsAppended}
use Rattle.hy_world.specs.Grouped.{IsKeptLog, IsLoggedFrom, IsLoggedNear, IsLoggedVisit, IsOwed, IsToAppend, IsToReport, MayAppend, MayVisitCore}
use Rattle.hy_world.specs.Grouped.{HoldsCore, MayVisitLogged, StageHolds, awaits, entries_in, has_taken, logged_number}
use Rattle.hy_world.specs.Grouped.{logged_point, logged_width, number_at, reported, session_in, shared_in}
use Rattle.hy_world.specs.Logged.{Extend, IsLogOfFirst}
use Rattle.hy_world.specs.Points.{visit_at}
use Rattle.hy_world.specs.Shared.{SharedData, ChunkOf, CoreOf, AreShared, IsVisit, MayVisit}
use Rattle.hy_world.specs.SharedLaws.{got_by, near_by, set_cases, visit_keeps_at}

-- ---- lists

-- what is put at an index is there, and what stands elsewhere stays
put_there : {A : Type 0} (xs : List A) (k : ℕ) (x y : A) → slice_get xs k ≡ Some x → slice_get (slice_set xs k y) k ≡ Some y
put_there [] k x y e = absurd (cc e)
put_there (z ∷ xs) zero x y e = refl
put_there (z ∷ xs) (suc k) x y e = put_there xs k x y e

put_elsewhere : {A : Type 0} (xs : List A) (k j : ℕ) (y : A) → (j ≡ k → ⊥) → slice_get (slice_set xs k y) j ≡ slice_get xs j
put_elsewhere [] k j y other = refl
put_elsewhere (z ∷ xs) zero zero y other = absurd (other refl)
put_elsewhere (z ∷ xs) zero (suc j) y other = refl
put_elsewhere (z ∷ xs) (suc k) zero y other = refl
put_elsewhere (z ∷ xs) (suc k) (suc j) y other = put_elsewhere xs k j y (λ e. other (ap suc e))

put_again : {A : Type 0} (xs : List A) (k : ℕ) (x : A) → slice_get xs k ≡ Some x → slice_set xs k x ≡ xs
put_again [] k x e = refl
put_again {A = A} (z ∷ xs) zero x e = ap (λ (w : A). w ∷ xs) (sym (same_Some z x e))
put_again {A = A} (z ∷ xs) (suc k) x e = ap (λ (ws : List A). z ∷ ws) (put_again xs k x e)

put_length : {A : Type 0} (xs : List A) (k : ℕ) (y : A) → length (slice_set xs k y) ≡ length xs
put_length [] k y = refl
put_length (z ∷ xs) zero y = refl
put_length (z ∷ xs) (suc k) y = ap suc (put_length xs k y)

got_taken : {A : Type 0} (xs : List A) (m k : ℕ) → k < m → slice_get (take m xs) k ≡ slice_get xs k
got_taken xs zero k h = absurd (omega arith)
got_taken [] (suc m) k h = refl
got_taken (x ∷ xs) (suc m) zero h = refl
got_taken (x ∷ xs) (suc m) (suc k) h = got_taken xs m k (omega arith)

-- the first entries of a list stand first in a longer one
extended : (count : ℕ) (old new : List Entry) → Extend old new → count ≤ length old → take count new ≡ take count old
extended count old new more within = ap (take count) more.behind ∙ take-append-le count old more.others within

longer : (old new : List Entry) → Extend old new → length old ≤ length new
longer old new more = omega (arith, ap length more.behind, length-append old more.others)

further : (old new : List Entry) (bytes : List ℕ) → Extend old new → IsLogOfFirst old bytes → IsLogOfFirst new bytes
further old new bytes more is = record {
  first = is.first;
  gate = is.gate;
  are_first = record {
    others = is.are_first.others ++ more.others;
    behind = more.behind ∙ (ap (λ (x : List Entry). x ++ more.others) is.are_first.behind ∙ append_assoc is.first is.are_first.others more.others);
  };
  log = is.log;
}

-- which of two numbers is the greater
compared : (k n : ℕ) → (k < n) ⊎ ((k ≡ n) ⊎ (n < k))
compared zero zero = inr (inl refl)
compared zero (suc n) = inl (omega arith)
compared (suc k) zero = inr (inr (omega arith))
compared (suc k) (suc n) = elim (compared k n) [
  | inl less ↦ inl (omega (arith, less))
  | inr rest ↦ inr (⊎_elim (λ (e : k ≡ n). inl (ap suc e)) (λ (more : n < k). inr (omega (arith, more))) rest)
]

-- an element of a list in which one was put is that one, or another that was there
put_cases : {A : Type 0} (xs : List A) (k j : ℕ) (x y z : A) → slice_get xs k ≡ Some z → slice_get (slice_set xs k y) j ≡ Some x
    → ((j ≡ k) × (y ≡ x)) ⊎ ((j ≡ k → ⊥) × (slice_get xs j ≡ Some x))
put_cases [] k j x y z there e = absurd (cc there)
put_cases (w ∷ xs) zero zero x y z there e = inl (refl, same_Some y x e)
put_cases (w ∷ xs) zero (suc j) x y z there e = inr ((λ h. absurd (cc h)), e)
put_cases (w ∷ xs) (suc k) zero x y z there e = inr ((λ h. absurd (cc h)), e)
put_cases (w ∷ xs) (suc k) (suc j) x y z there e = elim (put_cases xs k j x y z there e) [
  | inl h ↦ inl (ap suc h.0, h.1)
  | inr h ↦ inr ((λ same. h.0 (omega (arith, same))), h.1)
]

-- ---- where the parts stand

-- how many chunks there are, which is the number of the core
abbrev chunk_count : Setting → ℕ
chunk_count setting = length setting.shapes * setting.chunks

where_is : {D : Type 0} (setting : Setting) (parts : List (LoggedPart D)) (core : CoreData) (d : Durability) (log : KeptLog D) (k : ℕ) (p : LoggedPart D)
    → HasParts setting parts core d log → slice_get parts k ≡ Some p
    → ((k < chunk_count setting) × ((shared : SharedData) × (p ≡ part.Chunk shared)))
    ⊎ (((k ≡ chunk_count setting) × (p ≡ part.Core (CoreOf core) d)) ⊎ ((k ≡ suc (chunk_count setting)) × (p ≡ part.Log log)))
where_is setting parts core d log k p has at =
    let below = slice_get_within parts k p at in
    elim (compared k (chunk_count setting)) [
      | inl less ↦ inl (less, has.chunks k p less at)
      | inr rest ↦ inr (elim rest [
        | inl e ↦ inl (e, same_Some p (part.Core (CoreOf core) d) (sym at ∙ (ap (slice_get parts) e ∙ has.at_core)))
        | inr more ↦
            let e : k ≡ suc (chunk_count setting) = omega (arith, below, has.count, more) in
            inr (e, same_Some p (part.Log log) (sym at ∙ (ap (slice_get parts) e ∙ has.at_log)))
      ])
    ]

chunk_at : {D : Type 0} (setting : Setting) (parts : List (LoggedPart D)) (core : CoreData) (d : Durability) (log : KeptLog D) (k : ℕ) (shared : SharedData)
    → HasParts setting parts core d log → slice_get parts k ≡ Some (part.Chunk shared) → k < chunk_count setting
chunk_at setting parts core d log k shared has at = elim (where_is setting parts core d log k (part.Chunk shared) has at) [
  | inl h ↦ h.0
  | inr rest ↦ elim rest [ inl h ↦ absurd (cc h.1) | inr h ↦ absurd (cc h.1) ]
]

-- a part that is the core is this one, and knows this
core_at : {D : Type 0} (setting : Setting) (parts : List (LoggedPart D)) (core : CoreData) (d : Durability) (log : KeptLog D) (k : ℕ) (shared : SharedData)
    (known : Durability) → HasParts setting parts core d log → slice_get parts k ≡ Some (part.Core shared known)
    → (k ≡ chunk_count setting) × (shared ≡ CoreOf core) × (known ≡ d)
core_at setting parts core d log k shared known has at = elim (where_is setting parts core d log k (part.Core shared known) has at) [
  | inl h ↦ absurd (cc h.1.1)
  | inr rest ↦ elim rest [ inl h ↦ (h.0, cc h.1, cc h.1) | inr h ↦ absurd (cc h.1) ]
]

log_at : {D : Type 0} (setting : Setting) (parts : List (LoggedPart D)) (core : CoreData) (d : Durability) (log : KeptLog D) (k : ℕ) (other : KeptLog D)
    → HasParts setting parts core d log → slice_get parts k ≡ Some (part.Log other) → (k ≡ suc (chunk_count setting)) × (other ≡ log)
log_at setting parts core d log k other has at = elim (where_is setting parts core d log k (part.Log other) has at) [
  | inl h ↦ absurd (cc h.1.1)
  | inr rest ↦ elim rest [ inl h ↦ absurd (cc h.1) | inr h ↦ (h.0, cc h.1) ]
]

chunk_put : {D : Type 0} (setting : Setting) (parts : List (LoggedPart D)) (core : CoreData) (d : Durability) (log : KeptLog D) (k : ℕ) (new : SharedData)
    → k < chunk_count setting → HasParts setting parts core d log → HasParts setting (slice_set parts k (part.Chunk new)) core d log
chunk_put setting parts core d log k new less has = record {
  count = put_length parts k (part.Chunk new) ∙ has.count;
  chunks = λ number p within at. elim (set_cases parts k number p (part.Chunk new) at) [
    | inl h ↦ (new, sym h.1)
    | inr h ↦ has.chunks number p within h
  ];
  at_core = put_elsewhere parts k (chunk_count setting) (part.Chunk new) (λ e. absurd (omega (arith, e, less))) ∙ has.at_core;
  at_log = put_elsewhere parts k (suc (chunk_count setting)) (part.Chunk new) (λ e. absurd (omega (arith, e, less))) ∙ has.at_log;
}

core_put : {D : Type 0} (setting : Setting) (parts : List (LoggedPart D)) (core new : CoreData) (d known : Durability) (log : KeptLog D) (k : ℕ)
    → k ≡ chunk_count setting → HasParts setting parts core d log → HasParts setting (slice_set parts k (part.Core (CoreOf new) known)) new known log
core_put setting parts core new d known log k here has = record {
  count = put_length parts k (part.Core (CoreOf new) known) ∙ has.count;
  chunks = λ number p within at. elim (set_cases parts k number p (part.Core (CoreOf new) known) at) [
    | inl h ↦ let e = h.0 in absurd (omega (arith, e, here, within))
    | inr h ↦ has.chunks number p within h
  ];
  at_core = subst (λ (n : ℕ). slice_get (slice_set parts n (part.Core (CoreOf new) known)) (chunk_count setting) ≡ Some (part.Core (CoreOf new) known)) (sym here)
      (put_there parts (chunk_count setting) (part.Core (CoreOf core) d) (part.Core (CoreOf new) known) has.at_core);
  at_log = put_elsewhere parts k (suc (chunk_count setting)) (part.Core (CoreOf new) known) (λ e. absurd (omega (arith, e, here))) ∙ has.at_log;
}

log_put : {D : Type 0} (setting : Setting) (parts : List (LoggedPart D)) (core : CoreData) (d : Durability) (log new : KeptLog D) (k : ℕ)
    → k ≡ suc (chunk_count setting) → HasParts setting parts core d log → HasParts setting (slice_set parts k (part.Log new)) core d new
log_put setting parts core d log new k here has = record {
  count = put_length parts k (part.Log new) ∙ has.count;
  chunks = λ number p within at. elim (set_cases parts k number p (part.Log new) at) [
    | inl h ↦ let e = h.0 in absurd (omega (arith, e, here, within))
    | inr h ↦ has.chunks number p within h
  ];
  at_core = put_elsewhere parts k (chunk_count setting) (part.Log new) (λ e. absurd (omega (arith, e, here))) ∙ has.at_core;
  at_log = subst (λ (n : ℕ). slice_get (slice_set parts n (part.Log new)) (suc (chunk_count setting)) ≡ Some (part.Log new)) (sym here)
      (put_there parts (suc (chunk_count setting)) (part.Log log) (part.Log new) has.at_log);
}

-- ---- parts and sessions as they are shared without a log

abbrev parts_in : {D : Type 0} → Setting → List (LoggedPart D) → List SharedData
parts_in setting parts = map shared_in (take (suc (chunk_count setting)) parts)

abbrev sessions_in : List LoggedSession → List SessionData
sessions_in sessions = map session_in sessions

part_there : {D : Type 0} (setting : Setting) (parts : List (LoggedPart D)) (k : ℕ) (p : LoggedPart D) → k < suc (chunk_count setting)
    → slice_get parts k ≡ Some p → slice_get (parts_in setting parts) k ≡ Some (shared_in p)
part_there setting parts k p less at =
    slice_get-map shared_in (take (suc (chunk_count setting)) parts) k
    ∙ ap (option_map shared_in) (got_taken parts (suc (chunk_count setting)) k less ∙ at)

session_there : (sessions : List LoggedSession) (i : ℕ) (s : LoggedSession) → slice_get sessions i ≡ Some s
    → slice_get (sessions_in sessions) i ≡ Some s.session
session_there sessions i s at = slice_get-map session_in sessions i ∙ ap (option_map session_in) at

part_put : {D : Type 0} (setting : Setting) (parts : List (LoggedPart D)) (k : ℕ) (q : LoggedPart D) → k < suc (chunk_count setting)
    → parts_in setting (slice_set parts k q) ≡ slice_set (parts_in setting parts) k (shared_in q)
part_put setting parts k q less =
    ap (map shared_in) (take-set-lt (suc (chunk_count setting)) parts k q less) ∙ map-set shared_in (take (suc (chunk_count setting)) parts) k q

session_put : (sessions : List LoggedSession) (i : ℕ) (t : LoggedSession)
    → sessions_in (slice_set sessions i t) ≡ slice_set (sessions_in sessions) i t.session
session_put sessions i t = map-set session_in sessions i t

-- a visit that is one without a log too keeps what is shown
shared_moves : {D : Type 0} (setting : Setting) (kinds : List (List Kind)) (parts : List (LoggedPart D)) (sessions : List LoggedSession) (i k : ℕ)
    (s t : LoggedSession) (p q : LoggedPart D) → AreShared setting kinds (parts_in setting parts) (sessions_in sessions)
    → slice_get sessions i ≡ Some s → slice_get parts k ≡ Some p → k < suc (chunk_count setting) → IsVisit k s.session (shared_in p) t.session (shared_in q)
    → AreShared setting kinds (parts_in setting (slice_set parts k q)) (sessions_in (slice_set sessions i t))
shared_moves setting kinds parts sessions i k s t p q shared at here less visit =
    subst (λ (all : List SharedData). AreShared setting kinds all (sessions_in (slice_set sessions i t))) (sym (part_put setting parts k q less))
    (subst (λ (all : List SessionData). AreShared setting kinds (slice_set (parts_in setting parts) k (shared_in q)) all) (sym (session_put sessions i t))
    (visit_keeps_at setting kinds (parts_in setting parts) (sessions_in sessions) i k s.session t.session (shared_in p) (shared_in q) shared
    (session_there sessions i s at) (part_there setting parts k p less here) visit))

sessions_stay : (sessions : List LoggedSession) (i : ℕ) (s t : LoggedSession) → slice_get sessions i ≡ Some s → t.session ≡ s.session
    → sessions_in (slice_set sessions i t) ≡ sessions_in sessions
sessions_stay sessions i s t at same =
    session_put sessions i t ∙ (ap (slice_set (sessions_in sessions) i) same ∙ put_again (sessions_in sessions) i s.session (session_there sessions i s at))

-- and so does one that leaves the part and the session as they are shared without a log
shared_stays : {D : Type 0} (setting : Setting) (kinds : List (List Kind)) (parts others : List (LoggedPart D)) (sessions : List LoggedSession) (i : ℕ)
    (s t : LoggedSession) → AreShared setting kinds (parts_in setting parts) (sessions_in sessions) → slice_get sessions i ≡ Some s → t.session ≡ s.session
    → parts_in setting others ≡ parts_in setting parts → AreShared setting kinds (parts_in setting others) (sessions_in (slice_set sessions i t))
shared_stays setting kinds parts others sessions i s t shared at same as_before =
    subst (λ (all : List SharedData). AreShared setting kinds all (sessions_in (slice_set sessions i t))) (sym as_before)
    (subst (λ (all : List SessionData). AreShared setting kinds (parts_in setting parts) all) (sym (sessions_stay sessions i s t at same)) shared)

-- the core with the same entries, or the log
core_stays : {D : Type 0} (setting : Setting) (parts : List (LoggedPart D)) (k : ℕ) (p q : LoggedPart D) → k ≡ chunk_count setting
    → slice_get parts k ≡ Some p → shared_in q ≡ shared_in p → parts_in setting (slice_set parts k q) ≡ parts_in setting parts
core_stays setting parts k p q here at same =
    let less : k < suc (chunk_count setting) = omega (arith, here) in
    part_put setting parts k q less ∙ (ap (slice_set (parts_in setting parts) k) same ∙ put_again (parts_in setting parts) k (shared_in p) (part_there setting parts k p less at))

log_stays : {D : Type 0} (setting : Setting) (parts : List (LoggedPart D)) (k : ℕ) (q : LoggedPart D) → k ≡ suc (chunk_count setting)
    → parts_in setting (slice_set parts k q) ≡ parts_in setting parts
log_stays setting parts k q here =
    let within : suc (chunk_count setting) ≤ k = omega (arith, here) in ap (map shared_in) (take-set-le (suc (chunk_count setting)) parts k q within)

-- ---- who has taken entries, and what is owed

-- a session owes so many entries by itself, or others do
owed_or : (sessions : List LoggedSession) (i : ℕ) (s t : LoggedSession) (count : ℕ) → slice_get sessions i ≡ Some s → IsOwed sessions count
    → (count ≤ s.owed) ⊎ IsOwed (slice_set sessions i t) count
owed_or sessions i s t count at owed = elim (compared owed.number i) [
  | inl less ↦ inr (record {
    number = owed.number;
    session = owed.session;
    found = put_elsewhere sessions i owed.number t (λ e. absurd (omega (arith, e, less))) ∙ owed.found;
    owes = owed.owes;
  })
  | inr rest ↦ elim rest [
    | inl e ↦
        let same : owed.session ≡ s = same_Some owed.session s (sym owed.found ∙ (ap (slice_get sessions) e ∙ at)) in
        inl (subst (λ (u : LoggedSession). count ≤ u.owed) same owed.owes)
    | inr more ↦ inr (record {
      number = owed.number;
      session = owed.session;
      found = put_elsewhere sessions i owed.number t (λ e. absurd (omega (arith, e, more))) ∙ owed.found;
      owes = owed.owes;
    })
  ]
]

owed_here : (sessions : List LoggedSession) (i : ℕ) (s t : LoggedSession) (count : ℕ) → slice_get sessions i ≡ Some s → count ≤ t.owed
    → IsOwed (slice_set sessions i t) count
owed_here sessions i s t count at owes = record { number = i; session = t; found = put_there sessions i s t at; owes = owes }

-- a session that owes what it owed
owed_still : (sessions : List LoggedSession) (i : ℕ) (s t : LoggedSession) (count durable : ℕ) → slice_get sessions i ≡ Some s → t.owed ≡ s.owed
    → (count ≤ durable) ⊎ IsOwed sessions count → (count ≤ durable) ⊎ IsOwed (slice_set sessions i t) count
owed_still sessions i s t count durable at same covered = elim covered [
  | inl durable ↦ inl durable
  | inr owed ↦ elim (owed_or sessions i s t count at owed) [
    | inl own ↦ inr (owed_here sessions i s t count at (omega (arith, own, same)))
    | inr other ↦ inr other
  ]
]

-- a session that is told: what it owed is durable
owed_durable : (sessions : List LoggedSession) (i : ℕ) (s t : LoggedSession) (count durable : ℕ) → slice_get sessions i ≡ Some s → s.owed ≤ durable
    → (count ≤ durable) ⊎ IsOwed sessions count → (count ≤ durable) ⊎ IsOwed (slice_set sessions i t) count
owed_durable sessions i s t count durable at told covered = elim covered [
  | inl durable ↦ inl durable
  | inr owed ↦ elim (owed_or sessions i s t count at owed) [
    | inl own ↦ inl (omega (arith, own, told))
    | inr other ↦ inr other
  ]
]

-- the stage of a session that has taken no entries says no more than that a fault is known
stage_untaken : {D : Type 0} (entries others : List Entry) (d known : Durability) (log new : KeptLog D) (stage : Stage)
    → (has_taken stage ≡ true → ⊥) → (d.is_broken ≡ true → known.is_broken ≡ true) → StageHolds entries d log stage → StageHolds others known new stage
stage_untaken entries others d known log new Running none broken holds = tt
stage_untaken entries others d known log new (Appending upto batch) none broken holds = absurd (none refl)
stage_untaken entries others d known log new (Reporting report) none broken holds = absurd (none refl)
stage_untaken entries others d known log new Stopped none broken holds = broken holds

-- and that of each stays true of more entries
stage_further : {D : Type 0} (entries others : List Entry) (d : Durability) (log : KeptLog D) (stage : Stage) → Extend entries others
    → log.count ≤ length entries → StageHolds entries d log stage → StageHolds others d log stage
stage_further entries others d log Running more within holds = tt
stage_further entries others d log (Appending upto batch) more within holds = record {
  sound = holds.sound;
  none_yet = holds.none_yet;
  more = holds.more;
  batch_is = holds.batch_is;
  within = le_trans holds.within (longer entries others more);
  follow = extended upto entries others more holds.within
      ∙ (holds.follow ∙ ap (λ (x : List Entry). x ++ holds.more) (sym (extended log.count entries others more within)));
}
stage_further entries others d log (Reporting report) more within holds = holds
stage_further entries others d log Stopped more within holds = holds

running_untaken : (stage : Stage) → stage ≡ Running → has_taken stage ≡ true → ⊥
running_untaken stage is taken = let none : has_taken stage ≡ false = ap has_taken is in absurd (cc (taken, none))

running_holds : {D : Type 0} (entries : List Entry) (d : Durability) (log : KeptLog D) (stage : Stage) → stage ≡ Running → StageHolds entries d log stage
running_holds entries d log stage is = subst (StageHolds entries d log) (sym is) tt

-- a session that goes on, where the commit order may have become longer
served_running : {D : Type 0} (entries others : List Entry) (d : Durability) (log : KeptLog D) (sessions : List LoggedSession) (i : ℕ) (s t : LoggedSession)
    → AreServed entries d log sessions → slice_get sessions i ≡ Some s → t.stage ≡ Running → Extend entries others → log.count ≤ length entries
    → t.owed ≤ length others → (length others ≤ d.durable) ⊎ IsOwed (slice_set sessions i t) (length others)
    → AreServed others d log (slice_set sessions i t)
served_running entries others d log sessions i s t served at running more within owes covered = record {
  taker = served.taker;
  one = λ number u found taken. elim (put_cases sessions i number u t s at found) [
    | inl h ↦ absurd (running_untaken t.stage running (ap (λ (w : LoggedSession). has_taken w.stage) h.1 ∙ taken))
    | inr h ↦ served.one number u h.1 taken
  ];
  busy = served.busy;
  stages = λ number u found. elim (put_cases sessions i number u t s at found) [
    | inl h ↦ running_holds others d log u.stage (ap (λ (w : LoggedSession). w.stage) (sym h.1) ∙ running)
    | inr h ↦ stage_further entries others d log u.stage more within (served.stages number u h.1)
  ];
  owe = λ number u found. elim (put_cases sessions i number u t s at found) [
    | inl h ↦ subst (λ (w : LoggedSession). w.owed ≤ length others) h.1 owes
    | inr h ↦ le_trans (served.owe number u h.1) (longer entries others more)
  ];
  covered = covered;
}

no_more : (entries : List Entry) → Extend entries entries
no_more entries = record { others = []; behind = sym (append-nil entries) }

-- it stops, since the log is broken
served_stopped : {D : Type 0} (entries : List Entry) (d : Durability) (log : KeptLog D) (sessions : List LoggedSession) (i : ℕ) (s : LoggedSession)
    → AreServed entries d log sessions → slice_get sessions i ≡ Some s → d.is_broken ≡ true
    → AreServed entries d log (slice_set sessions i (record s { stage = Stopped }))
served_stopped entries d log sessions i s served at broken = record {
  taker = served.taker;
  one = λ number u found taken. elim (put_cases sessions i number u (record s { stage = Stopped }) s at found) [
    | inl h ↦ let none : has_taken u.stage ≡ false = ap (λ (w : LoggedSession). has_taken w.stage) (sym h.1) in absurd (cc (taken, none))
    | inr h ↦ served.one number u h.1 taken
  ];
  busy = served.busy;
  stages = λ number u found. elim (put_cases sessions i number u (record s { stage = Stopped }) s at found) [
    | inl h ↦ subst (λ (w : LoggedSession). StageHolds entries d log w.stage) h.1 broken
    | inr h ↦ served.stages number u h.1
  ];
  owe = λ number u found. elim (put_cases sessions i number u (record s { stage = Stopped }) s at found) [
    | inl h ↦ subst (λ (w : LoggedSession). w.owed ≤ length entries) h.1 (served.owe i s at)
    | inr h ↦ served.owe number u h.1
  ];
  covered = owed_still sessions i s (record s { stage = Stopped }) (length entries) d.durable at refl served.covered;
}

none_taken : (taker : Option ℕ) (number : ℕ) → is_some taker ≡ false → taker ≡ Some number → ⊥
none_taken taker number none is = let yes : is_some taker ≡ true = ap is_some is in absurd (cc (none, yes))

-- it takes entries, where nobody has: from then on it alone has
served_taking : {D : Type 0} (entries : List Entry) (d : Durability) (log : KeptLog D) (sessions : List LoggedSession) (i : ℕ) (s : LoggedSession)
    (upto : ℕ) (batch : List ℕ) → AreServed entries d log sessions → slice_get sessions i ≡ Some s → d.is_appending ≡ false
    → IsToAppend entries (record d { is_appending = true }) log upto batch
    → AreServed entries (record d { is_appending = true }) log (slice_set sessions i (record s { stage = Appending upto batch }))
served_taking entries d log sessions i s upto batch served at idle next =
    let t : LoggedSession = record s { stage = Appending upto batch } in
    let none : (number : ℕ) → served.taker ≡ Some number → ⊥ = λ number. none_taken served.taker number (sym served.busy ∙ idle) in
    record {
      taker = Some i;
      one = λ number u found taken. elim (put_cases sessions i number u t s at found) [
        | inl h ↦ ap Some (sym h.0)
        | inr h ↦ absurd (none number (served.one number u h.1 taken))
      ];
      busy = refl;
      stages = λ number u found. elim (put_cases sessions i number u t s at found) [
        | inl h ↦ subst (λ (w : LoggedSession). StageHolds entries (record d { is_appending = true }) log w.stage) h.1 next
        | inr h ↦
            stage_untaken entries entries d (record d { is_appending = true }) log log u.stage (λ taken. none number (served.one number u h.1 taken))
            (λ broken. broken) (served.stages number u h.1)
      ];
      owe = λ number u found. elim (put_cases sessions i number u t s at found) [
        | inl h ↦ subst (λ (w : LoggedSession). w.owed ≤ length entries) h.1 (served.owe i s at)
        | inr h ↦ served.owe number u h.1
      ];
      covered = owed_still sessions i s t (length entries) d.durable at refl served.covered;
    }

-- where one session has taken entries, no other has
alone : {D : Type 0} (entries : List Entry) (d : Durability) (log : KeptLog D) (sessions : List LoggedSession) (i number : ℕ) (s u : LoggedSession)
    → AreServed entries d log sessions → slice_get sessions i ≡ Some s → has_taken s.stage ≡ true → slice_get sessions number ≡ Some u
    → (number ≡ i → ⊥) → has_taken u.stage ≡ true → ⊥
alone entries d log sessions i number s u served at mine found other taken =
    let same : Some number ≡ Some i = sym (served.one number u found taken) ∙ served.one i s at mine in other (same_Some number i same)

-- it appended them, and is to report that
served_appended : {D : Type 0} (entries : List Entry) (d : Durability) (log new : KeptLog D) (sessions : List LoggedSession) (i : ℕ) (s : LoggedSession)
    (report : Report) → AreServed entries d log sessions → slice_get sessions i ≡ Some s → has_taken s.stage ≡ true → IsToReport d new report
    → AreServed entries d new (slice_set sessions i (record s { stage = Reporting report }))
served_appended entries d log new sessions i s report served at mine next =
    let t : LoggedSession = record s { stage = Reporting report } in
    record {
      taker = served.taker;
      one = λ number u found taken. elim (put_cases sessions i number u t s at found) [
        | inl h ↦ served.one i s at mine ∙ ap Some (sym h.0)
        | inr h ↦ served.one number u h.1 taken
      ];
      busy = served.busy;
      stages = λ number u found. elim (put_cases sessions i number u t s at found) [
        | inl h ↦ subst (λ (w : LoggedSession). StageHolds entries d new w.stage) h.1 next
        | inr h ↦
            stage_untaken entries entries d d log new u.stage (alone entries d log sessions i number s u served at mine h.1 h.0) (λ broken. broken)
            (served.stages number u h.1)
      ];
      owe = λ number u found. elim (put_cases sessions i number u t s at found) [
        | inl h ↦ subst (λ (w : LoggedSession). w.owed ≤ length entries) h.1 (served.owe i s at)
        | inr h ↦ served.owe number u h.1
      ];
      covered = owed_still sessions i s t (length entries) d.durable at refl served.covered;
    }

-- it reported: nobody has entries, and no less is durable
served_reported : {D : Type 0} (entries : List Entry) (d known : Durability) (log : KeptLog D) (sessions : List LoggedSession) (i : ℕ) (s : LoggedSession)
    → AreServed entries d log sessions → slice_get sessions i ≡ Some s → has_taken s.stage ≡ true → known.is_appending ≡ false
    → (d.is_broken ≡ true → known.is_broken ≡ true) → d.durable ≤ known.durable
    → AreServed entries known log (slice_set sessions i (record s { stage = Running }))
served_reported entries d known log sessions i s served at mine idle broken more =
    let t : LoggedSession = record s { stage = Running } in
    record {
      taker = None;
      one = λ number u found taken. elim (put_cases sessions i number u t s at found) [
        | inl h ↦ let none : has_taken u.stage ≡ false = ap (λ (w : LoggedSession). has_taken w.stage) (sym h.1) in absurd (cc (taken, none))
        | inr h ↦ absurd (alone entries d log sessions i number s u served at mine h.1 h.0 taken)
      ];
      busy = idle;
      stages = λ number u found. elim (put_cases sessions i number u t s at found) [
        | inl h ↦ running_holds entries known log u.stage (ap (λ (w : LoggedSession). w.stage) (sym h.1))
        | inr h ↦
            stage_untaken entries entries d known log log u.stage (alone entries d log sessions i number s u served at mine h.1 h.0) broken
            (served.stages number u h.1)
      ];
      owe = λ number u found. elim (put_cases sessions i number u t s at found) [
        | inl h ↦ subst (λ (w : LoggedSession). w.owed ≤ length entries) h.1 (served.owe i s at)
        | inr h ↦ served.owe number u h.1
      ];
      covered = elim (owed_still sessions i s t (length entries) d.durable at refl served.covered) [
        | inl durable ↦ inl (le_trans durable more)
        | inr owed ↦ inr owed
      ];
    }

busy_with : {D : Type 0} (entries : List Entry) (d : Durability) (log : KeptLog D) (sessions : List LoggedSession) (i : ℕ) (s : LoggedSession)
    → AreServed entries d log sessions → slice_get sessions i ≡ Some s → has_taken s.stage ≡ true → d.is_appending ≡ true
busy_with entries d log sessions i s served at mine = served.busy ∙ ap is_some (served.one i s at mine)

-- ---- the log

module _ {D : Type 0} (clock : D → ℕ) (image : D → List ℕ → Type 0) (image_since : D → ℕ → List ℕ → Type 0) (faults : D → ℕ)
    (time : ℕ) (before : ℕ → List ℕ → Type 0) (failed : ℕ) where
  abbrev Kept : List Entry → Durability → KeptLog D → Type 0
  Kept entries d log = IsKeptLog clock image image_since faults time before failed entries d log

  kept_further : (entries others : List Entry) (d : Durability) (log : KeptLog D) → Kept entries d log → Extend entries others → Kept others d log
  kept_further entries others d log kept more = record {
    in_log = kept.in_log;
    within = le_trans kept.within (longer entries others more);
    logged = λ sound. subst (λ (x : List Entry). AreLogsOf (image log.disk) x log.log) (sym (extended log.count entries others more kept.within)) (kept.logged sound);
    from = record {
      later = kept.from.later;
      moments = λ earlier bytes le left.
          ⊎_elim (λ was. inl was) (λ is. inr (further entries others bytes more is)) (kept.from.moments earlier bytes le left);
    };
    faulty = kept.faulty;
    known = kept.known;
    quiet = kept.quiet;
  }

  kept_taking : (entries : List Entry) (d : Durability) (log : KeptLog D) → Kept entries d log → Kept entries (record d { is_appending = true }) log
  kept_taking entries d log kept = record {
    in_log = kept.in_log;
    within = kept.within;
    logged = kept.logged;
    from = kept.from;
    faulty = kept.faulty;
    known = kept.known;
    quiet = λ idle sound. absurd (cc idle);
  }

  first_of : (entries more : List Entry) (log : KeptLog D) (upto : ℕ) → take upto entries ≡ take log.count entries ++ more → (gate : ℕ) (bytes : List ℕ)
      → IsBeforeOrAfter (take log.count entries) more gate bytes → IsLogOfFirst entries bytes
  first_of entries more log upto follow gate bytes (inl is) = record {
    first = take log.count entries;
    gate = gate;
    are_first = record { others = drop log.count entries; behind = sym (take-append-drop log.count entries) };
    log = is;
  }
  first_of entries more log upto follow gate bytes (inr is) = record {
    first = take log.count entries ++ more;
    gate = next_gate gate more;
    are_first = record {
      others = drop upto entries;
      behind = sym (take-append-drop upto entries) ∙ ap (λ (x : List Entry). x ++ drop upto entries) follow;
    };
    log = is;
  }

  -- a batch was being appended
  from_appended : (entries : List Entry) (d : Durability) (log new : KeptLog D) (upto : ℕ) (batch : List ℕ) (report : Report) → Kept entries d log
      → IsToAppend entries d log upto batch → IsAppended clock image image_since faults upto batch log new report
      → IsLoggedFrom clock image_since time before entries new.disk
  from_appended entries d log new upto batch report kept next done =
      let logs = kept.logged next.sound in
      let appends = done.moments (take log.count entries) next.more next.batch_is logs in
      record {
        later = le_trans kept.from.later done.later;
        moments = λ earlier bytes le left.
            ⊎_elim (λ was. kept.from.moments earlier bytes le was) (λ is. inr (first_of entries next.more log upto next.follow log.log bytes is))
            (appends.moments earlier bytes (le_trans le kept.from.later) left);
      }

  failed_as : (old new : D) (broken known : Bool) → known ≡ broken → faults new ≡ faults old → FailedSince failed (faults old) broken
      → FailedSince failed (faults new) known
  failed_as old new broken known same steady h =
      subst (λ (b : Bool). FailedSince failed (faults new) b) (sym same) (subst (λ (n : ℕ). FailedSince failed n broken) (sym steady) h)

  not_failed : (disk : D) (broken : Bool) → broken ≡ false → FailedSince failed (faults disk) broken → faults disk ≡ failed
  not_failed disk broken sound h = subst (FailedSince failed (faults disk)) sound h

  -- so many entries are in the log then as were before, and those of the batch
  upto_above : (entries more : List Entry) (count upto : ℕ) → count ≤ length entries → upto ≤ length entries → take upto entries ≡ take count entries ++ more
      → count ≤ upto
  upto_above entries more count upto few within follow =
      let same = ap length follow in
      let one = length-take-le upto entries within in
      let other = length-take-le count entries few in
      let both = length-append (take count entries) more in
      omega (arith, same, one, other, both)

  kept_appended : (entries : List Entry) (d : Durability) (log new : KeptLog D) (upto : ℕ) (batch : List ℕ) (report : Report) → Kept entries d log
      → d.is_appending ≡ true → IsToAppend entries d log upto batch → IsAppended clock image image_since faults upto batch log new report
      → Kept entries d new
  kept_appended entries d log new upto batch (Durable count) kept busy next done =
      let leaves = done.leaves in
      let above = upto_above entries next.more log.count upto kept.within next.within next.follow in
      let many : new.count ≡ upto = leaves.1 in
      let first = kept.in_log in
      let within = next.within in
      record {
        in_log = omega (arith, many, above, first);
        within = omega (arith, many, within);
        logged = λ sound.
            subst (λ (n : ℕ). AreLogsOf (image new.disk) (take n entries) new.log) (sym many)
            (subst (λ (x : List Entry). AreLogsOf (image new.disk) x new.log) (sym next.follow)
            (leaves.4 (take log.count entries) next.more next.batch_is (kept.logged next.sound)));
        from = from_appended entries d log new upto batch (Durable count) kept next done;
        faulty = failed_as log.disk new.disk log.is_broken new.is_broken leaves.2 leaves.3 kept.faulty;
        known = λ broken. leaves.2 ∙ kept.known broken;
        quiet = λ idle sound. absurd (cc (idle, busy));
      }
  kept_appended entries d log new upto batch Short kept busy next done =
      let leaves = done.leaves in
      let many : new.count ≡ log.count = leaves.0 in
      let first = kept.in_log in
      let within = kept.within in
      record {
        in_log = omega (arith, many, first);
        within = omega (arith, many, within);
        logged = λ sound.
            subst (λ (n : ℕ). AreLogsOf (image new.disk) (take n entries) new.log) (sym many)
            (leaves.3 (take log.count entries) (kept.logged next.sound));
        from = from_appended entries d log new upto batch Short kept next done;
        faulty = failed_as log.disk new.disk log.is_broken new.is_broken leaves.1 leaves.2 kept.faulty;
        known = λ broken. leaves.1 ∙ kept.known broken;
        quiet = λ idle sound. absurd (cc (idle, busy));
      }
  kept_appended entries d log new upto batch Failed kept busy next done =
      let leaves = done.leaves in
      let many : new.count ≡ log.count = leaves.0 in
      let broken : new.is_broken ≡ true = leaves.1 in
      let first = kept.in_log in
      let within = kept.within in
      record {
        in_log = omega (arith, many, first);
        within = omega (arith, many, within);
        logged = λ sound. absurd (cc (sound, broken));
        from = from_appended entries d log new upto batch Failed kept next done;
        faulty = subst (λ (b : Bool). FailedSince failed (faults new.disk) b) (sym broken)
            (subst (λ (n : ℕ). Rose n (faults new.disk)) (not_failed log.disk log.is_broken next.sound kept.faulty) leaves.2);
        known = λ h. broken;
        quiet = λ idle sound. absurd (cc (idle, busy));
      }

  to_report : (entries : List Entry) (d : Durability) (log new : KeptLog D) (upto : ℕ) (batch : List ℕ) (report : Report)
      → IsToAppend entries d log upto batch → IsAppended clock image image_since faults upto batch log new report → IsToReport d new report
  to_report entries d log new upto batch (Durable count) next done = let leaves = done.leaves in (leaves.2 ∙ next.sound, leaves.1 ∙ sym leaves.0)
  to_report entries d log new upto batch Short next done = let leaves = done.leaves in (leaves.1 ∙ next.sound, leaves.0 ∙ next.none_yet)
  to_report entries d log new upto batch Failed next done = done.leaves.1

  kept_reported : (entries : List Entry) (d : Durability) (log : KeptLog D) (report : Report) → Kept entries d log → IsToReport d log report
      → Kept entries (reported d report) log
  kept_reported entries d log (Durable count) kept to = record {
    in_log = let many = to.1 in omega (arith, many);
    within = kept.within;
    logged = kept.logged;
    from = kept.from;
    faulty = kept.faulty;
    known = kept.known;
    quiet = λ idle sound. (to.1, to.0);
  }
  kept_reported entries d log Short kept to = record {
    in_log = kept.in_log;
    within = kept.within;
    logged = kept.logged;
    from = kept.from;
    faulty = kept.faulty;
    known = kept.known;
    quiet = λ idle sound. (to.1, to.0);
  }
  kept_reported entries d log Failed kept to = record {
    in_log = kept.in_log;
    within = kept.within;
    logged = kept.logged;
    from = kept.from;
    faulty = kept.faulty;
    known = λ h. to;
    quiet = λ idle sound. absurd (cc sound);
  }

  idle_then : (d : Durability) (report : Report) → (reported d report).is_appending ≡ false
  idle_then d (Durable count) = refl
  idle_then d Short = refl
  idle_then d Failed = refl

  broken_then : (d : Durability) (report : Report) → d.is_broken ≡ true → (reported d report).is_broken ≡ true
  broken_then d (Durable count) h = h
  broken_then d Short h = h
  broken_then d Failed h = refl

  durable_then : (entries : List Entry) (d : Durability) (log : KeptLog D) (report : Report) → Kept entries d log → IsToReport d log report
      → d.durable ≤ (reported d report).durable
  durable_then entries d log (Durable count) kept to = let first = kept.in_log in let many = to.1 in omega (arith, first, many)
  durable_then entries d log Short kept to = le_refl d.durable
  durable_then entries d log Failed kept to = le_refl d.durable

  -- ---- a visit keeps what holds

  abbrev Holds : Setting → List (List Kind) → List (LoggedPart D) → List LoggedSession → Type 0
  Holds setting kinds parts sessions = AreLogged clock image image_since faults setting kinds time before failed parts sessions

  abbrev ArePlaced : Setting → List LoggedSession → Type 0
  ArePlaced setting sessions = (number : ℕ) (s : LoggedSession) → slice_get sessions number ≡ Some s → s.core_part ≡ chunk_count setting

  placed_put : (setting : Setting) (sessions : List LoggedSession) (i : ℕ) (s t : LoggedSession) → ArePlaced setting sessions
      → slice_get sessions i ≡ Some s → t.core_part ≡ s.core_part → ArePlaced setting (slice_set sessions i t)
  placed_put setting sessions i s t placed at same = λ number u found. elim (put_cases sessions i number u t s at found) [
    | inl h ↦ ap (λ (w : LoggedSession). w.core_part) (sym h.1) ∙ (same ∙ placed i s at)
    | inr h ↦ placed number u h.1
  ]

  -- of a chunk, as without a log
  chunk_keeps : (setting : Setting) (kinds : List (List Kind)) (parts : List (LoggedPart D)) (sessions : List LoggedSession) (i k : ℕ)
      (s t : LoggedSession) (old new : SharedData) → Holds setting kinds parts sessions → slice_get sessions i ≡ Some s
      → slice_get parts k ≡ Some (part.Chunk old) → GoesOn k s old t new s.owed
      → Holds setting kinds (slice_set parts k (part.Chunk new)) (slice_set sessions i t)
  chunk_keeps setting kinds parts sessions i k s t old new all at here goes =
      let less = chunk_at setting parts all.core all.durability all.log k old all.has here in
      let owes : t.owed ≤ length all.core.entries = let mine = all.served.owe i s at in let same = goes.owes in omega (arith, mine, same) in
      record {
        core = all.core;
        durability = all.durability;
        log = all.log;
        has = chunk_put setting parts all.core all.durability all.log k new less all.has;
        shared = shared_moves setting kinds parts sessions i k s t (part.Chunk old) (part.Chunk new) all.shared at here (omega (arith, less)) goes.visit;
        placed = placed_put setting sessions i s t all.placed at goes.placed;
        kept = all.kept;
        served = served_running all.core.entries all.core.entries all.durability all.log sessions i s t all.served at goes.stays
            (no_more all.core.entries) all.kept.within owes
            (owed_still sessions i s t (length all.core.entries) all.durability.durable at goes.owes all.served.covered);
      }

  -- the core by itself, at its number
  core_holds : (setting : Setting) (kinds : List (List Kind)) (parts : List (LoggedPart D)) (sessions : List LoggedSession) (k : ℕ)
      → (core new : CoreData) (d known : Durability) (log : KeptLog D) → k ≡ chunk_count setting → HasParts setting parts core d log
      → AreShared setting kinds (parts_in setting (slice_set parts k (part.Core (CoreOf new) known))) (sessions_in sessions)
      → ArePlaced setting sessions → Kept new.entries known log → AreServed new.entries known log sessions
      → Holds setting kinds (slice_set parts k (part.Core (CoreOf new) known)) sessions
  core_holds setting kinds parts sessions k core new d known log number has shared placed kept served = record {
    core = new;
    durability = known;
    log = log;
    has = core_put setting parts core new d known log k number has;
    shared = shared;
    placed = placed;
    kept = kept;
    served = served;
  }

  -- the entries that a session owes behind a visit are there, and none is forgotten
  owed_by : (sessions : List LoggedSession) (i : ℕ) (s t : LoggedSession) (old new : List Entry) (durable : ℕ) (keeps : Bool) → slice_get sessions i ≡ Some s
      → t.owed ≡ (if keeps then s.owed else length new) → (keeps ≡ true → length new ≡ length old) → s.owed ≤ length old → Extend old new
      → (length old ≤ durable) ⊎ IsOwed sessions (length old)
      → (t.owed ≤ length new) × ((length new ≤ durable) ⊎ IsOwed (slice_set sessions i t) (length new))
  owed_by sessions i s t old new durable true at owes same within more covered =
      let count = same refl in (
        omega (arith, owes, within, count),
        owed_still sessions i s t (length new) durable at owes (subst (λ (n : ℕ). (n ≤ durable) ⊎ IsOwed sessions n) (sym count) covered),
      )
  owed_by sessions i s t old new durable false at owes same within more covered =
      (omega (arith, owes), inr (owed_here sessions i s t (length new) at (omega (arith, owes))))

  both_true : (a b : Bool) → (a && b) ≡ true → b ≡ true
  both_true true b h = h
  both_true false b h = absurd (cc h)

  -- of the core, as without a log
  core_goes : (setting : Setting) (kinds : List (List Kind)) (parts : List (LoggedPart D)) (sessions : List LoggedSession) (i k : ℕ)
      (s t : LoggedSession) (core new : CoreData) (d : Durability) (log : KeptLog D) → k ≡ chunk_count setting → HasParts setting parts core d log
      → AreShared setting kinds (parts_in setting parts) (sessions_in sessions) → ArePlaced setting sessions → Kept core.entries d log
      → AreServed core.entries d log sessions → slice_get sessions i ≡ Some s → slice_get parts k ≡ Some (part.Core (CoreOf core) d)
      → GoesOnAtCore k s (CoreOf core) d t (CoreOf new) d
      → Holds setting kinds (slice_set parts k (part.Core (CoreOf new) d)) (slice_set sessions i t)
  core_goes setting kinds parts sessions i k s t core new d log number has shared placed kept served at here goes =
      let test : Bool = is_some s.session.now && nat_eq (length new.entries) (length core.entries) in
      let owed = owed_by sessions i s t core.entries new.entries d.durable test at goes.goes_on.owes
      (λ (yes : test ≡ true). eqb-true (length new.entries) (length core.entries) (both_true (is_some s.session.now) (nat_eq (length new.entries) (length core.entries)) yes))
      (served.owe i s at) goes.grows served.covered in
      core_holds setting kinds parts (slice_set sessions i t) k core new d d log number has
      (shared_moves setting kinds parts sessions i k s t (part.Core (CoreOf core) d) (part.Core (CoreOf new) d) shared at here (omega (arith, number))
      goes.goes_on.visit)
      (placed_put setting sessions i s t placed at goes.goes_on.placed)
      (kept_further core.entries new.entries d log kept goes.grows)
      (served_running core.entries new.entries d log sessions i s t served at goes.goes_on.stays goes.grows kept.within owed.0 owed.1)

  -- of the core, which leaves the session and the core as they are without a log
  core_told : (setting : Setting) (kinds : List (List Kind)) (parts : List (LoggedPart D)) (sessions : List LoggedSession) (i k : ℕ)
      (s t : LoggedSession) (core : CoreData) (d known : Durability) (log : KeptLog D) → k ≡ chunk_count setting → HasParts setting parts core d log
      → AreShared setting kinds (parts_in setting parts) (sessions_in sessions) → ArePlaced setting sessions → slice_get sessions i ≡ Some s
      → slice_get parts k ≡ Some (part.Core (CoreOf core) d) → t.session ≡ s.session → t.core_part ≡ s.core_part → Kept core.entries known log
      → AreServed core.entries known log (slice_set sessions i t)
      → Holds setting kinds (slice_set parts k (part.Core (CoreOf core) known)) (slice_set sessions i t)
  core_told setting kinds parts sessions i k s t core d known log number has shared placed at here same there kept served =
      core_holds setting kinds parts (slice_set sessions i t) k core core d known log number has
      (shared_stays setting kinds parts (slice_set parts k (part.Core (CoreOf core) known)) sessions i s t shared at same
      (core_stays setting parts k (part.Core (CoreOf core) d) (part.Core (CoreOf core) known) number here refl))
      (placed_put setting sessions i s t placed at there) kept served

  -- a session that is told
  served_told : (entries : List Entry) (d : Durability) (log : KeptLog D) (sessions : List LoggedSession) (i : ℕ) (s : LoggedSession)
      → AreServed entries d log sessions → slice_get sessions i ≡ Some s → s.stage ≡ Running → s.owed ≤ d.durable → log.count ≤ length entries
      → AreServed entries d log (slice_set sessions i (record s { owed = 0 }))
  served_told entries d log sessions i s served at running durable within =
      served_running entries entries d log sessions i s (record s { owed = 0 }) served at running (no_more entries) within (omega arith)
      (owed_durable sessions i s (record s { owed = 0 }) (length entries) d.durable at durable served.covered)

  -- the entries that are taken come next in the log
  taken_next : (entries : List Entry) (d : Durability) (log : KeptLog D) (batch : List ℕ) → Kept entries d log → d.is_appending ≡ false → d.is_broken ≡ false
      → IsBatchOf (drop d.durable entries) batch → IsToAppend entries (record d { is_appending = true }) log (length entries) batch
  taken_next entries d log batch kept idle sound is =
      let quiet = kept.quiet idle sound in
      record {
        sound = quiet.1;
        none_yet = quiet.0;
        more = drop d.durable entries;
        batch_is = is;
        within = le_refl (length entries);
        follow = take_all (length entries) entries (le_refl (length entries))
            ∙ (sym (take-append-drop log.count entries) ∙ ap (λ (n : ℕ). take log.count entries ++ drop n entries) quiet.0);
      }

  stage_of : LoggedSession → Stage
  stage_of s = s.stage

  taken_at : (s : LoggedSession) (report : Report) → s.stage ≡ Reporting report → has_taken s.stage ≡ true
  taken_at s report is = ap has_taken is

  -- what holds after a visit of the core at which all is as it was before
  core_keeps : (setting : Setting) (kinds : List (List Kind)) (parts : List (LoggedPart D)) (sessions : List LoggedSession) (i k : ℕ)
      (s t : LoggedSession) (core : CoreData) (new : SharedData) (d known : Durability) (log : KeptLog D) → k ≡ chunk_count setting
      → HasParts setting parts core d log → AreShared setting kinds (parts_in setting parts) (sessions_in sessions) → ArePlaced setting sessions
      → Kept core.entries d log → AreServed core.entries d log sessions → slice_get sessions i ≡ Some s
      → slice_get parts k ≡ Some (part.Core (CoreOf core) d) → CoreVisit k s (CoreOf core) d t new known → Holds setting kinds (slice_set parts k (part.Core new known)) (slice_set sessions i t)
  core_keeps setting kinds parts sessions i k s t core (ChunkOf types chunk) d known log number has shared placed kept served at here (inl goes) =
      absurd (goes.goes_on.visit.types)
  core_keeps setting kinds parts sessions i k s t core (CoreOf new) d known log number has shared placed kept served at here (inl goes) =
      subst (λ (e : Durability). Holds setting kinds (slice_set parts k (part.Core (CoreOf new) e)) (slice_set sessions i t)) (sym goes.same)
      (core_goes setting kinds parts sessions i k s t core new d log number has shared placed kept served at here
      (subst (λ (e : Durability). GoesOnAtCore k s (CoreOf core) d t (CoreOf new) e) goes.same goes))
  core_keeps setting kinds parts sessions i k s t core new d known log number has shared placed kept served at here (inr (inl stops)) =
      subst (λ (x : SharedData). Holds setting kinds (slice_set parts k (part.Core x known)) (slice_set sessions i t)) (sym stops.stays)
      (subst (λ (e : Durability). Holds setting kinds (slice_set parts k (part.Core (CoreOf core) e)) (slice_set sessions i t)) (sym stops.same)
      (subst (λ (u : LoggedSession). Holds setting kinds (slice_set parts k (part.Core (CoreOf core) d)) (slice_set sessions i u)) (sym stops.after_is)
      (core_told setting kinds parts sessions i k s (record s { stage = Stopped }) core d d log number has shared placed at here refl refl kept
      (served_stopped core.entries d log sessions i s served at stops.broken))))
  core_keeps setting kinds parts sessions i k s t core new d known log number has shared placed kept served at here (inr (inr (inl told))) =
      subst (λ (x : SharedData). Holds setting kinds (slice_set parts k (part.Core x known)) (slice_set sessions i t)) (sym told.stays)
      (subst (λ (e : Durability). Holds setting kinds (slice_set parts k (part.Core (CoreOf core) e)) (slice_set sessions i t)) (sym told.same)
      (subst (λ (u : LoggedSession). Holds setting kinds (slice_set parts k (part.Core (CoreOf core) d)) (slice_set sessions i u)) (sym told.after_is)
      (core_told setting kinds parts sessions i k s (record s { owed = 0 }) core d d log number has shared placed at here refl refl kept
      (served_told core.entries d log sessions i s served at told.running told.durable kept.within))))
  core_keeps setting kinds parts sessions i k s t core new d known log number has shared placed kept served at here (inr (inr (inr (inl takes)))) =
      let after : LoggedSession = record s { stage = Appending (length core.entries) takes.batch } in
      let busy : Durability = record d { is_appending = true } in
      subst (λ (x : SharedData). Holds setting kinds (slice_set parts k (part.Core x known)) (slice_set sessions i t)) (sym takes.stays)
      (subst (λ (e : Durability). Holds setting kinds (slice_set parts k (part.Core (CoreOf core) e)) (slice_set sessions i t)) (sym takes.known_is)
      (subst (λ (u : LoggedSession). Holds setting kinds (slice_set parts k (part.Core (CoreOf core) busy)) (slice_set sessions i u)) (sym takes.after_is)
      (core_told setting kinds parts sessions i k s after core d busy log number has shared placed at here refl refl (kept_taking core.entries d log kept)
      (served_taking core.entries d log sessions i s (length core.entries) takes.batch served at takes.idle
      (taken_next core.entries d log takes.batch kept takes.idle takes.sound takes.batch_is)))))
  core_keeps setting kinds parts sessions i k s t core new d known log number has shared placed kept served at here (inr (inr (inr (inr reports)))) =
      let to : IsToReport d log reports.report =
      subst (StageHolds core.entries d log) reports.reporting (served.stages i s at) in
      subst (λ (x : SharedData). Holds setting kinds (slice_set parts k (part.Core x known)) (slice_set sessions i t)) (sym reports.stays)
      (subst (λ (e : Durability). Holds setting kinds (slice_set parts k (part.Core (CoreOf core) e)) (slice_set sessions i t)) (sym reports.known_is)
      (subst (λ (u : LoggedSession). Holds setting kinds (slice_set parts k (part.Core (CoreOf core) (reported d reports.report))) (slice_set sessions i u))
      (sym reports.after_is)
      (core_told setting kinds parts sessions i k s (record s { stage = Running }) core d (reported d reports.report) log number has shared placed at here refl refl
      (kept_reported core.entries d log reports.report kept to)
      (served_reported core.entries d (reported d reports.report) log sessions i s served at (taken_at s reports.report reports.reporting)
      (idle_then d reports.report) (broken_then d reports.report) (durable_then core.entries d log reports.report kept to)))))

  -- of the log
  log_keeps : (setting : Setting) (kinds : List (List Kind)) (parts : List (LoggedPart D)) (sessions : List LoggedSession) (i k : ℕ)
      (s t : LoggedSession) (core : CoreData) (d : Durability) (log new : KeptLog D) → k ≡ suc (chunk_count setting) → HasParts setting parts core d log
      → AreShared setting kinds (parts_in setting parts) (sessions_in sessions) → ArePlaced setting sessions → Kept core.entries d log
      → AreServed core.entries d log sessions → slice_get sessions i ≡ Some s → AppendsEntries clock image image_since faults s log t new
      → Holds setting kinds (slice_set parts k (part.Log new)) (slice_set sessions i t)
  log_keeps setting kinds parts sessions i k s t core d log new number has shared placed kept served at done =
      let after : LoggedSession = record s { stage = Reporting done.report } in
      let next : IsToAppend core.entries d log done.upto done.batch = subst (StageHolds core.entries d log) done.appending (served.stages i s at) in
      let mine : has_taken s.stage ≡ true = ap has_taken done.appending in
      subst (λ (u : LoggedSession). Holds setting kinds (slice_set parts k (part.Log new)) (slice_set sessions i u)) (sym done.after_is)
      (record {
        core = core;
        durability = d;
        log = new;
        has = log_put setting parts core d log new k number has;
        shared = shared_stays setting kinds parts (slice_set parts k (part.Log new)) sessions i s after shared at refl
            (log_stays setting parts k (part.Log new) number);
        placed = placed_put setting sessions i s after placed at refl;
        kept = kept_appended core.entries d log new done.upto done.batch done.report kept (busy_with core.entries d log sessions i s served at mine) next done.appended;
        served = served_appended core.entries d log new sessions i s done.report served at mine
            (to_report core.entries d log new done.upto done.batch done.report next done.appended);
      })

  logged_keeps_at : (setting : Setting) (kinds : List (List Kind)) (parts : List (LoggedPart D)) (sessions : List LoggedSession) (i k : ℕ)
      (s t : LoggedSession) (p q : LoggedPart D) → Holds setting kinds parts sessions → slice_get sessions i ≡ Some s → slice_get parts k ≡ Some p
      → IsLoggedVisit clock image image_since faults k s p t q → Holds setting kinds (slice_set parts k q) (slice_set sessions i t)
  logged_keeps_at setting kinds parts sessions i k s t (part.Chunk old) (part.Chunk new) all at here visit =
      chunk_keeps setting kinds parts sessions i k s t old new all at here visit
  logged_keeps_at setting kinds parts sessions i k s t (part.Chunk old) (part.Core new known) all at here visit = absurd visit
  logged_keeps_at setting kinds parts sessions i k s t (part.Chunk old) (part.Log new) all at here visit = absurd visit
  logged_keeps_at setting kinds parts sessions i k s t (part.Core old d) (part.Chunk new) all at here visit = absurd visit
  logged_keeps_at setting kinds parts sessions i k s t (part.Core old d) (part.Core new known) all at here visit =
      let is = core_at setting parts all.core all.durability all.log k old d all.has here in
      let same : ◌≡◌ {A = LoggedPart D} (part.Core old d) (part.Core (CoreOf all.core) all.durability) =
      ap (λ (x : SharedData). part.Core x d) is.1 ∙ ap (λ (e : Durability). part.Core (CoreOf all.core) e) is.2 in
      core_keeps setting kinds parts sessions i k s t all.core new all.durability known all.log is.0 all.has all.shared all.placed all.kept all.served at
      (here ∙ ap Some same)
      (subst (λ (e : Durability). CoreVisit k s (CoreOf all.core) e t new known) is.2
      (subst (λ (x : SharedData). CoreVisit k s x d t new known) is.1 visit))
  logged_keeps_at setting kinds parts sessions i k s t (part.Core old d) (part.Log new) all at here visit = absurd visit
  logged_keeps_at setting kinds parts sessions i k s t (part.Log old) (part.Chunk new) all at here visit = absurd visit
  logged_keeps_at setting kinds parts sessions i k s t (part.Log old) (part.Core new known) all at here visit = absurd visit
  logged_keeps_at setting kinds parts sessions i k s t (part.Log old) (part.Log new) all at here visit =
      let is = log_at setting parts all.core all.durability all.log k old all.has here in
      log_keeps setting kinds parts sessions i k s t all.core all.durability all.log new is.0 all.has all.shared all.placed all.kept all.served at
      (subst (λ (l : KeptLog D). AppendsEntries clock image image_since faults s l t new) is.1 visit)

  pub logged_keeps : (setting : Setting) (kinds : List (List Kind))
      → EventKeeps (Holds setting kinds) (IsLoggedVisit clock image image_since faults)
  logged_keeps setting kinds parts sessions i k s t p q all at_session at_part visit =
      logged_keeps_at setting kinds parts sessions i k s t p q all (got_by sessions i s at_session) (got_by parts k p at_part) visit

  -- ---- a visit may be made

  numbers_are : (setting : Setting) (kinds : List (List Kind)) (parts : List (LoggedPart D)) (sessions : List LoggedSession) (i : ℕ) (s : LoggedSession)
      → Holds setting kinds parts sessions → slice_get sessions i ≡ Some s → s.core_part ≡ chunk_count setting
  numbers_are setting kinds parts sessions i s all at = all.placed i s at

  near_core : (setting : Setting) (kinds : List (List Kind)) (parts : List (LoggedPart D)) (sessions : List LoggedSession) (i k : ℕ)
      (s : LoggedSession) (shared : SharedData) (d : Durability) → (all : Holds setting kinds parts sessions) → slice_get sessions i ≡ Some s
      → slice_get parts k ≡ Some (part.Core shared d) → (awaits s ≡ false → MayVisit (need_of s.session) s.session shared)
      → MayVisitCore s shared d Running
  near_core setting kinds parts sessions i k s shared d all at here may =
      let is = core_at setting parts all.core all.durability all.log k shared d all.has here in
      let many : entries_in shared ≡ all.core.entries = ap entries_in is.1 in
      let count = ap length many in
      let known = ap (λ (e : Durability). e.durable) is.2 in
      let one = all.kept.in_log in
      let two = all.kept.within in
      let mine = all.served.owe i s at in
      (subst HoldsCore (sym is.1) tt, omega (arith, count, known, one, two), omega (arith, count, mine), may)

  within_count : (count number found : ℕ) (less : Bool) → nat_lt number count ≡ less → (if less then Some number else None) ≡ Some found
      → (number ≡ found) × (found < count)
  within_count count number found true h e =
      let same = same_Some number found e in let lt = ltb-true number count h in (same, omega (arith, same, lt))
  within_count count number found false h e = absurd (cc e)

  own_number : (count : ℕ) (given : Option ℕ) (found : ℕ) → number_within count given ≡ Some found → (given ≡ Some found) × (found < count)
  own_number count None found e = absurd (cc e)
  own_number count (Some number) found e = let is = within_count count number found (nat_lt number count) refl e in (ap Some is.0, is.1)

  -- where a session goes on as without a log
  near_own : (setting : Setting) (kinds : List (List Kind)) (parts : List (LoggedPart D)) (sessions : List LoggedSession) (i k : ℕ)
      (s : LoggedSession) (p : LoggedPart D) → Holds setting kinds parts sessions → slice_get sessions i ≡ Some s → slice_get parts k ≡ Some p
      → number_within (suc s.core_part) (needed_number s.session) ≡ Some k → (k < suc (chunk_count setting)) × MayVisit (need_of s.session) s.session (shared_in p)
  near_own setting kinds parts sessions i k s p all at here needs =
      let within = own_number (suc s.core_part) (needed_number s.session) k needs in
      let own = own_number (width_of s.session) (part_number s.session (need_of s.session)) k within.0 in
      let count = numbers_are setting kinds parts sessions i s all at in
      let below = within.1 in
      let less : k < suc (chunk_count setting) = omega (arith, below, count) in (
        less,
        near_by setting kinds (parts_in setting parts) (sessions_in sessions) i k s.session (shared_in p) (need_of s.session) all.shared
            (session_there sessions i s at) (part_there setting parts k p less here) refl own.0,
      )

  -- by whether its transaction has ended
  near_running : (setting : Setting) (kinds : List (List Kind)) (parts : List (LoggedPart D)) (sessions : List LoggedSession) (i k : ℕ)
      (s : LoggedSession) (p : LoggedPart D) (waits : Bool) → Holds setting kinds parts sessions → slice_get sessions i ≡ Some s
      → slice_get parts k ≡ Some p → s.stage ≡ Running → awaits s ≡ waits
      → (if waits then Some s.core_part else number_within (suc s.core_part) (needed_number s.session)) ≡ Some k → MayVisitLogged image s p
  near_running setting kinds parts sessions i k s (part.Chunk shared) true all at here running is needs =
      let less = chunk_at setting parts all.core all.durability all.log k shared all.has here in
      let count = numbers_are setting kinds parts sessions i s all at in
      let same = same_Some s.core_part k needs in absurd (omega (arith, less, count, same))
  near_running setting kinds parts sessions i k s (part.Core shared d) true all at here running is needs =
      subst (MayVisitCore s shared d) (sym running)
      (near_core setting kinds parts sessions i k s shared d all at here (λ free. absurd (cc (is, free))))
  near_running setting kinds parts sessions i k s (part.Log log) true all at here running is needs =
      let last = log_at setting parts all.core all.durability all.log k log all.has here in
      let number = last.0 in
      let count = numbers_are setting kinds parts sessions i s all at in
      let same = same_Some s.core_part k needs in absurd (omega (arith, number, count, same))
  near_running setting kinds parts sessions i k s (part.Chunk shared) false all at here running is needs =
      let own = near_own setting kinds parts sessions i k s (part.Chunk shared) all at here needs in (running, is, own.1)
  near_running setting kinds parts sessions i k s (part.Core shared d) false all at here running is needs =
      let own = near_own setting kinds parts sessions i k s (part.Core shared d) all at here needs in
      subst (MayVisitCore s shared d) (sym running) (near_core setting kinds parts sessions i k s shared d all at here (λ free. own.1))
  near_running setting kinds parts sessions i k s (part.Log log) false all at here running is needs =
      let own = near_own setting kinds parts sessions i k s (part.Log log) all at here needs in
      let last = log_at setting parts all.core all.durability all.log k log all.has here in
      let number = last.0 in
      let less = own.0 in absurd (omega (arith, number, less))

  near_appending : (setting : Setting) (kinds : List (List Kind)) (parts : List (LoggedPart D)) (sessions : List LoggedSession) (i k : ℕ)
      (s : LoggedSession) (p : LoggedPart D) (upto : ℕ) (batch : List ℕ) → Holds setting kinds parts sessions → slice_get sessions i ≡ Some s
      → slice_get parts k ≡ Some p → s.stage ≡ Appending upto batch → Some (suc s.core_part) ≡ Some k → MayVisitLogged image s p
  near_appending setting kinds parts sessions i k s (part.Chunk shared) upto batch all at here is needs =
      let less = chunk_at setting parts all.core all.durability all.log k shared all.has here in
      let count = numbers_are setting kinds parts sessions i s all at in
      let same = same_Some (suc s.core_part) k needs in absurd (omega (arith, less, count, same))
  near_appending setting kinds parts sessions i k s (part.Core shared d) upto batch all at here is needs =
      let core = core_at setting parts all.core all.durability all.log k shared d all.has here in
      let number = core.0 in
      let count = numbers_are setting kinds parts sessions i s all at in
      let same = same_Some (suc s.core_part) k needs in absurd (omega (arith, number, count, same))
  near_appending setting kinds parts sessions i k s (part.Log log) upto batch all at here is needs =
      let last = log_at setting parts all.core all.durability all.log k log all.has here in
      let next : IsToAppend all.core.entries all.durability all.log upto batch =
      subst (StageHolds all.core.entries all.durability all.log) is (all.served.stages i s at) in
      subst (MayAppend image log) (sym is)
      (subst (λ (l : KeptLog D). MayAppend image l (Appending upto batch)) (sym last.1) (
        closed_of (image all.log.disk) (take all.log.count all.core.entries) all.log.log (all.kept.logged next.sound),
        (next.more, next.batch_is),
      ))

  near_reporting : (setting : Setting) (kinds : List (List Kind)) (parts : List (LoggedPart D)) (sessions : List LoggedSession) (i k : ℕ)
      (s : LoggedSession) (p : LoggedPart D) (report : Report) → Holds setting kinds parts sessions → slice_get sessions i ≡ Some s
      → slice_get parts k ≡ Some p → s.stage ≡ Reporting report → Some s.core_part ≡ Some k → MayVisitLogged image s p
  near_reporting setting kinds parts sessions i k s (part.Chunk shared) report all at here is needs =
      let less = chunk_at setting parts all.core all.durability all.log k shared all.has here in
      let count = numbers_are setting kinds parts sessions i s all at in
      let same = same_Some s.core_part k needs in absurd (omega (arith, less, count, same))
  near_reporting setting kinds parts sessions i k s (part.Core shared d) report all at here is needs = subst (MayVisitCore s shared d) (sym is) tt
  near_reporting setting kinds parts sessions i k s (part.Log log) report all at here is needs =
      let last = log_at setting parts all.core all.durability all.log k log all.has here in
      let number = last.0 in
      let count = numbers_are setting kinds parts sessions i s all at in
      let same = same_Some s.core_part k needs in absurd (omega (arith, number, count, same))

  near_at : (setting : Setting) (kinds : List (List Kind)) (parts : List (LoggedPart D)) (sessions : List LoggedSession) (i k : ℕ)
      (s : LoggedSession) (p : LoggedPart D) (stage : Stage) → Holds setting kinds parts sessions → slice_get sessions i ≡ Some s
      → slice_get parts k ≡ Some p → s.stage ≡ stage → number_at s stage ≡ Some k → MayVisitLogged image s p
  near_at setting kinds parts sessions i k s p Running all at here is needs =
      near_running setting kinds parts sessions i k s p (awaits s) all at here is refl needs
  near_at setting kinds parts sessions i k s p (Appending upto batch) all at here is needs =
      near_appending setting kinds parts sessions i k s p upto batch all at here is needs
  near_at setting kinds parts sessions i k s p (Reporting report) all at here is needs =
      near_reporting setting kinds parts sessions i k s p report all at here is needs
  near_at setting kinds parts sessions i k s p Stopped all at here is needs = absurd (cc needs)

  pub logged_near : (setting : Setting) (kinds : List (List Kind)) → NearFollows (Holds setting kinds) (IsLoggedNear image)
  logged_near setting kinds parts sessions i k s p all at_session at_part =
      λ needs. near_at setting kinds parts sessions i k s p s.stage all (got_by sessions i s at_session) (got_by parts k p at_part) refl needs

-- ---- the points

before_by : (session : SessionData) (found : Option ℕ) (point : Point) → option_map (visit_at session) found ≡ Some point
    → (point.moment ≡ Before) × (point.answered ≡ false)
before_by session None point e = absurd (cc e)
before_by session (Some number) point e =
    let same = same_Some (visit_at session number) point e in (ap (λ (p : Point). p.moment) (sym same), ap (λ (p : Point). p.answered) (sym same))

-- a visit that is needed has not begun
pub logged_points_come_before : (s : LoggedSession) (point : Point) → logged_point s ≡ Some point → (point.moment ≡ Before) × (point.answered ≡ false)
logged_points_come_before s point e = before_by s.session (logged_number s) point e

within_below : (count number found : ℕ) (less : Bool) → nat_lt number count ≡ less → (if less then Some number else None) ≡ Some found → found < count
within_below count number found true h e = let same = same_Some number found e in let lt = ltb-true number count h in omega (arith, same, lt)
within_below count number found false h e = absurd (cc e)

number_below : (count : ℕ) (given : Option ℕ) (found : ℕ) → number_within count given ≡ Some found → found < count
number_below count None found e = absurd (cc e)
number_below count (Some number) found e = within_below count number found (nat_lt number count) refl e

running_below : (s : LoggedSession) (waits : Bool) (k : ℕ)
    → (if waits then Some s.core_part else number_within (suc s.core_part) (needed_number s.session)) ≡ Some k → k < suc s.core_part
running_below s true k e = let same = same_Some s.core_part k e in omega (arith, same)
running_below s false k e = number_below (suc s.core_part) (needed_number s.session) k e

stage_below : (s : LoggedSession) (stage : Stage) (k : ℕ) → number_at s stage ≡ Some k → k < logged_width s
stage_below s Running k e = let less = running_below s (awaits s) k e in omega (arith, less)
stage_below s (Appending upto batch) k e = let same = same_Some (suc s.core_part) k e in omega (arith, same)
stage_below s (Reporting report) k e = let same = same_Some s.core_part k e in omega (arith, same)
stage_below s Stopped k e = absurd (cc e)

point_below : (s : LoggedSession) (found : Option ℕ) (point : Point) → logged_number s ≡ found → option_map (visit_at s.session) found ≡ Some point
    → point.part < logged_width s
point_below s None point h e = absurd (cc e)
point_below s (Some number) point h e =
    let same = same_Some (visit_at s.session number) point e in
    subst (λ (n : ℕ). n < logged_width s) (ap (λ (p : Point). p.part) same) (stage_below s s.stage number h)

-- its part is one of the parts
pub logged_points_lie_within : (s : LoggedSession) (point : Point) → logged_point s ≡ Some point → point.part < logged_width s
logged_points_lie_within s point e = point_below s (logged_number s) point refl e

-- ---- a visit leaves how many parts there are

width_with : (s t : LoggedSession) → t.core_part ≡ s.core_part → logged_width t ≡ logged_width s
width_with s t same = ap (λ (n : ℕ). suc (suc n)) same

abbrev part_of_core : LoggedSession → ℕ
part_of_core s = s.core_part

core_width : (number : ℕ) (s t : LoggedSession) (old new : SharedData) (d known : Durability) → CoreVisit number s old d t new known
    → logged_width t ≡ logged_width s
core_width number s t old new d known (inl goes) = width_with s t goes.goes_on.placed
core_width number s t old new d known (inr (inl stops)) = width_with s t (ap part_of_core stops.after_is)
core_width number s t old new d known (inr (inr (inl told))) = width_with s t (ap part_of_core told.after_is)
core_width number s t old new d known (inr (inr (inr (inl takes)))) = width_with s t (ap part_of_core takes.after_is)
core_width number s t old new d known (inr (inr (inr (inr reports)))) = width_with s t (ap part_of_core reports.after_is)

pub logged_visits_keep_width : {D : Type 0} (clock : D → ℕ) (image : D → List ℕ → Type 0) (image_since : D → ℕ → List ℕ → Type 0) (faults : D → ℕ)
    (number : ℕ) (s t : LoggedSession) (p q : LoggedPart D) → IsLoggedVisit clock image image_since faults number s p t q → logged_width t ≡ logged_width s
logged_visits_keep_width clock image image_since faults number s t (part.Chunk old) (part.Chunk new) visit = width_with s t visit.placed
logged_visits_keep_width clock image image_since faults number s t (part.Chunk old) (part.Core new known) visit = absurd visit
logged_visits_keep_width clock image image_since faults number s t (part.Chunk old) (part.Log new) visit = absurd visit
logged_visits_keep_width clock image image_since faults number s t (part.Core old d) (part.Chunk new) visit = absurd visit
logged_visits_keep_width clock image image_since faults number s t (part.Core old d) (part.Core new known) visit =
    core_width number s t old new d known visit
logged_visits_keep_width clock image image_since faults number s t (part.Core old d) (part.Log new) visit = absurd visit
logged_visits_keep_width clock image image_since faults number s t (part.Log old) (part.Chunk new) visit = absurd visit
logged_visits_keep_width clock image image_since faults number s t (part.Log old) (part.Core new known) visit = absurd visit
logged_visits_keep_width clock image image_since faults number s t (part.Log old) (part.Log new) visit = width_with s t (ap part_of_core visit.after_is)
