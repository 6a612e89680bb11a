-- A step that is blocked leaves a world as it was, no step changes who prunes, and where a step finds no memory its session's open
-- transaction has no entry.
use Rattle.std.proofs.Common.{◌≡◌, ℕ, zero, suc, ◌*◌, ◌<◌, ◌≤◌, ◌^◌, List, [], ◌∷◌, Bool, false, length, refl, ap, ◌∙◌, subst, arith}
use Rattle.std.proofs.Common.{Some, Result, Ok, Err}
use Rattle.std.proofs.Math.ListN.{set}
use Rattle.std.proofs.Math.Nat.{mul-le-mul_right}
use Rattle.std.specs.Prelude.{slice_get, IfOk, OnErr}
use Rattle.std.specs.List.{All}
use Rattle.std.specs.Option.{option_map}
use Rattle.std.proofs.lemmas.List.{map-set}
use Rattle.std.proofs.lemmas.Option.{slice_get-map}
use Rattle.hy_bound.specs.declared.Shape.{Shape}
use Rattle.hy_bound.specs.declared.Txn.{Txn}
use Rattle.hy_chunk.specs.Views.{Whole}
use Rattle.hy_journal.specs.declared.CoreData.{CoreData}
use Rattle.hy_stamp.specs.declared.Label.{Label}
use Rattle.hy_machine.specs.declared.Setting.{Setting}
use Rattle.hy_event.specs.declared.SessionData.{SessionData}
use Rattle.hy_event.specs.declared.Need.TheVariants.{Core}
use Rattle.hy_protocol.specs.declared.Progress.{Progress}
use Rattle.hy_protocol.specs.declared.Progress.TheVariants.{Blocked}
use Rattle.hy_session.specs.Entered.{has_entry}
use Rattle.hy_session.specs.declared.Layout.{Layout}
use Rattle.hy_stepping.specs.Runnable.{IsRunnable}
use Rattle.hy_world.specs.Asks.{entry_in, has_entry_at}
use Rattle.hy_world.specs.Openings.{prunings, sessions_from}
use Rattle.hy_world.specs.Worlds.{WorldData}
use Rattle.hy_world.proofs.KeptWorlds.{CoreVisited, ChunkVisited, core_same}
use Rattle.hy_world.proofs.Parts.{set_got}
use Rattle.hy_world.proofs.VisitsLeave.{CameTo, IsWaiting, came_layout, chunk_turned, core_came}
use Rattle.hy_world.proofs.Visits.{IsAt, with_core}

-- ---- who prunes

-- sessions that have done nothing prune as was asked
pub new_prune : (shapes : List Shape) (layout : Layout) (prunes : Bool) (number : ℕ) (programs : List (List Txn))
    → All (λ (session : SessionData). session.prunes ≡ prunes) (sessions_from shapes layout prunes number programs)
new_prune shapes layout prunes number [] k d below = absurd (omega (arith, below))
new_prune shapes layout prunes number (program ∷ programs) zero d below = refl
new_prune shapes layout prunes number (program ∷ programs) (suc k) d below = new_prune shapes layout prunes (suc number) programs k d (omega (arith, below))

put_prunes : (sessions : List SessionData) (number : ℕ) (session after : SessionData) → slice_get sessions number ≡ Some session
    → after.prunes ≡ session.prunes → prunings (set sessions number after) ≡ prunings sessions
put_prunes sessions number session after at same =
    let prunes : SessionData → Bool = λ one. one.prunes in
    map-set prunes sessions number after
    ∙ (ap (set (prunings sessions) number) same
    ∙ set_got (prunings sessions) number session.prunes (slice_get-map prunes sessions number ∙ ap (option_map prunes) at))

pub core_prunes : {E : Type 0} (r : Result Progress E) (sessions : List SessionData) (number : ℕ) (session after : SessionData) (core new : CoreData)
    → slice_get sessions number ≡ Some session → CoreVisited r session core after new → prunings (set sessions number after) ≡ prunings sessions
core_prunes (Ok progress) sessions number session after core new at visited =
    put_prunes sessions number session after at (came_layout session core progress after new (core_came session core progress after new visited.0)).prunes
core_prunes (Err e) sessions number session after core new at visited =
    put_prunes sessions number session after at (ap (λ (s : SessionData). s.prunes) visited.1.0)

pub chunk_prunes : {E : Type 0} (r : Result Progress E) (sessions : List SessionData) (number : ℕ) (session after : SessionData) (part new : Whole)
    → slice_get sessions number ≡ Some session → ChunkVisited r session part after new → prunings (set sessions number after) ≡ prunings sessions
chunk_prunes (Ok progress) sessions number session after part new at visited =
    put_prunes sessions number session after at (chunk_turned session part.shown progress after new.shown visited.event).layout.prunes
chunk_prunes (Err e) sessions number session after part new at visited =
    put_prunes sessions number session after at (ap (λ (s : SessionData). s.prunes) visited.kept.0)

-- ---- what is blocked

pub core_blocked : {E : Type 0} (r : Result Progress E) (world : WorldData) (number : ℕ) (session after : SessionData) (new : CoreData)
    → IsAt world.sessions number session Core → CoreVisited r session world.core after new
    → IfOk r (λ progress. (by : Label) → progress ≡ Blocked by → with_core world number after new ≡ world)
core_blocked (Ok progress) world number session after new at visited = λ by is.
    let waits : IsWaiting session world.core by after new =
    subst (λ (p : Progress). CameTo session world.core p after new) is (core_came session world.core progress after new visited.0) in
    core_same world number session after new at waits.same waits.core_same
core_blocked (Err e) world number session after new at visited = tt

-- a visit of a chunk never is
pub chunk_blocked : {E : Type 0} (r : Result Progress E) (session after : SessionData) (part new : Whole) (Same : Type 0)
    → ChunkVisited r session part after new → IfOk r (λ progress. (by : Label) → progress ≡ Blocked by → Same)
chunk_blocked (Ok progress) session after part new Same visited = λ by is.
    absurd ((chunk_turned session part.shown progress after new.shown visited.event).going by is)
chunk_blocked (Err e) session after part new Same visited = tt

-- ---- want of memory

pub entered_at : {E : Type 0} (r : Result Progress E) (sessions : List SessionData) (number : ℕ) (session : SessionData)
    → slice_get sessions number ≡ Some session → OnErr r (has_entry session ≡ false) → OnErr r (has_entry_at sessions number ≡ false)
entered_at (Ok progress) sessions number session at h = tt
entered_at (Err e) sessions number session at h = ap entry_in at ∙ h

-- ---- a setting's chunks have numbers of 32 bits
pub few_chunks : (setting : Setting) → IsRunnable setting → length setting.shapes * setting.chunks < 2 ^ 32
few_chunks setting runnable =
    let tables : length setting.shapes ≤ 16 = omega (arith, runnable.fits.few_tables) in
    let all : length setting.shapes * setting.chunks ≤ 16 * setting.chunks = mul-le-mul_right setting.chunks tables in
    let few : setting.chunks ≤ 64 = runnable.few_chunks in
    omega (arith, all, few)
