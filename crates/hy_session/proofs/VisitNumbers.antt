-- A stamp or an undo visit has a number of 32 bits: there are no more of them than chunks.
use Rattle.std.proofs.Common.{◌≡◌, ℕ, suc, ◌+◌, ◌*◌, ◌^◌, ◌<◌, ◌≤◌, List, [], ◌∷◌, length, length-append, ap, sym, subst, ◌∙◌, refl, arith}
use Rattle.std.proofs.Common.{Bool, Option, None, Some}
use Rattle.std.specs.Prelude.{filter, slice_get}
use Rattle.std.specs.List.{list_any, range_with_len}
use Rattle.std.proofs.lemmas.List.{length-map}
use Rattle.std.proofs.lemmas.List.FromFn.{length-range_with_len}
use Rattle.std.proofs.lemmas.List.Sums.{count_by-le-length, length-filter}
use Rattle.std.proofs.lemmas.Option.{slice_get_within}
use Rattle.std.proofs.Math.Nat.{suc-mul}
use Rattle.hy_bound.specs.declared.Shape.{Shape}
use Rattle.hy_bound.specs.declared.Txn.{Txn}
use Rattle.hy_render.specs.declared.Place.{Place}
use Rattle.hy_event.specs.declared.SessionData.{SessionData}
use Rattle.hy_event.specs.declared.Open.{Open}
use Rattle.hy_event.specs.declared.Need.TheVariants.{Chunk}
use Rattle.hy_protocol.specs.declared.Phase.TheVariants.{Stamping, Undoing}
use Rattle.hy_event.specs.Needs.{chunk_or_core, need_of, phase_need, written_need}
use Rattle.hy_event.specs.Sessions.{chunks_from, chunks_in_table, lies_in, txn_at, written, written_chunks}
use Rattle.hy_bound.specs.declared.Ending.{Ending}
use Rattle.hy_session.specs.Limits.{HasRoomFor}
use Rattle.hy_session.proofs.Dispatch.{session_needs}

few_in_table : (session : SessionData) (places : List Place) (table : ℕ) → length (chunks_in_table session places table) ≤ session.chunks
few_in_table session places table =
    let test : ℕ → Bool = λ chunk. list_any (lies_in session table chunk) places in
    let numbers : List ℕ = range_with_len 0 session.chunks in
    let mapped : length (chunks_in_table session places table) ≡ length (filter test numbers) =
    length-map (filter test numbers) (λ (chunk : ℕ). (table, chunk)) in
    let counted = length-filter test numbers in
    let few = count_by-le-length test numbers in
    let all = length-range_with_len 0 session.chunks in
    omega (arith, mapped, counted, few, all)

few_from : (session : SessionData) (places : List Place) (table : ℕ) (shapes : List Shape)
    → length (chunks_from session places table shapes) ≤ length shapes * session.chunks
few_from session places table [] = omega arith
few_from session places table (shape ∷ shapes) =
    let both = length-append (chunks_in_table session places table) (chunks_from session places (suc table) shapes) in
    let here = few_in_table session places table in
    let there = few_from session places (suc table) shapes in
    let all = suc-mul (length shapes) session.chunks in
    omega (arith, both, here, there, all)

is_there : (chunks : List (ℕ × ℕ)) (visited table number : ℕ) (found : Option (ℕ × ℕ)) → slice_get chunks visited ≡ found
    → chunk_or_core found ≡ Chunk table number → visited < length chunks
is_there chunks visited table number None e need = absurd (cc need)
is_there chunks visited table number (Some chunk) e need = slice_get_within chunks visited chunk e

-- where a chunk is left to stamp or to undo
pub few_visits : (session : SessionData) (now : Open) (visited table number : ℕ) → length session.shapes * session.chunks < 2 ^ 32
    → written_need session now visited ≡ Chunk table number → visited + 1 < 2 ^ 32
few_visits session now visited table number few need =
    let within = is_there (written_chunks session now) visited table number (slice_get (written_chunks session now) visited) refl need in
    let all = few_from session (written now) 0 session.shapes in
    omega (arith, few, within, all)

module _ (session seen : SessionData) (txn : Txn) (now : Open) where
  pub stamp_fits : (visited table number : ℕ) → seen ≡ session → length seen.shapes * seen.chunks < 2 ^ 32 → txn_at session ≡ Some txn
      → session.now ≡ Some now → now.phase ≡ Stamping visited → need_of session ≡ Chunk table number → visited + 1 < 2 ^ 32
  stamp_fits visited table number same few there opened stands needed =
      few_visits session now visited table number (subst (λ (s : SessionData). length s.shapes * s.chunks < 2 ^ 32) same few)
      (sym (session_needs session txn now there opened ∙ ap (phase_need session txn now) stands) ∙ needed)

  pub undo_fits : (visited : ℕ) (cause : Ending) (table number : ℕ) → seen ≡ session → length seen.shapes * seen.chunks < 2 ^ 32 → txn_at session ≡ Some txn
      → session.now ≡ Some now → now.phase ≡ Undoing visited cause → need_of session ≡ Chunk table number → visited + 1 < 2 ^ 32
  undo_fits visited cause table number same few there opened stands needed =
      few_visits session now visited table number (subst (λ (s : SessionData). length s.shapes * s.chunks < 2 ^ 32) same few)
      (sym (session_needs session txn now there opened ∙ ap (phase_need session txn now) stands) ∙ needed)

-- an open transaction that changes keeps the room for its end
pub room_stays : {tables ended outcomes room : ℕ} {counts : List ℕ} (before : Option Open) (now : Open) → before ≡ Some now
    → HasRoomFor before tables ended outcomes counts room → (after : Open) → HasRoomFor (Some after) tables ended outcomes counts room
room_stays {tables = tables} {ended = ended} {outcomes = outcomes} {room = room} {counts = counts} before now is has after =
    subst (λ (one : Option Open). HasRoomFor one tables ended outcomes counts room) is has
