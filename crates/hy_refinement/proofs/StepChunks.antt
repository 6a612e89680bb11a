-- Chunks that an open transaction wrote are chunks, its stamp and undo visits need them one after another, and where none
-- are left it holds nothing.
use Rattle.std.proofs.Common.{◌≡◌, ℕ, zero, suc, ◌+◌, ◌<◌, ◌≤◌, List, [], ◌∷◌, ◌++◌, length, map, drop, get_or, Option, None, Some, Bool, true, false}
use Rattle.std.proofs.Common.{not, refl, sym, ap, ◌∙◌, subst, arith}
use Rattle.std.specs.Prelude.{slice_get, filter, is_some}
use Rattle.std.specs.List.{AllByRecursion, list_any, range_with_len}
use Rattle.std.proofs.lemmas.Bool.{cond_both, and_left, and_right, or_parts}
use Rattle.std.proofs.lemmas.Option.{same_Some}
use Rattle.hy_event.specs.declared.SessionData.{SessionData}
use Rattle.hy_event.specs.declared.Open.{Open}
use Rattle.hy_event.specs.declared.Need.TheVariants.{Core, Chunk}
use Rattle.hy_event.specs.Sessions.{written_chunks as chunks_written}
use Rattle.hy_event.specs.Needs.{written_need, chunk_or_core}
use Rattle.hy_machine.specs.declared.Setting.{Setting}
use Rattle.hy_machine.specs.States.{Open as MachineOpen}
use Rattle.hy_machine.specs.Positions.{item_at}
use Rattle.hy_machine.specs.Tables.{Cell, Own, chunk_of}
use Rattle.hy_machine.specs.Writes.{chunks_in_table, chunks_from, written_chunks, has_written_in, is_among, wrote_nothing}
use Rattle.hy_machine.specs.Holding.{undone}
use Rattle.hy_refinement.specs.CoreVisits.{HoldsNothing}
use Rattle.hy_refinement.proofs.NeededParts.{same_chunk, core_is_no_chunk, chunk_is_no_core}

-- ---- chunks

abbrev AllBelow : ℕ → List (ℕ × ℕ) → Type 0
AllBelow most ones = AllByRecursion (λ (one : ℕ × ℕ). one.1 < most) ones

in_range : (table first many most : ℕ) (keep : ℕ → Bool) → first + many ≤ most
    → AllBelow most (map (λ chunk. (table, chunk)) (filter keep (range_with_len first many)))
in_range table first zero most keep le = tt
in_range table first (suc many) most keep le =
    let rest = in_range table (first + 1) many most keep (omega (arith, le)) in
    cond_both (keep first) (first ∷ filter keep (range_with_len (first + 1) many)) (filter keep (range_with_len (first + 1) many))
    (λ (chunks : List ℕ). AllBelow most (map (λ chunk. (table, chunk)) chunks))
    (λ e. (omega (arith, le), rest)) (λ e. rest)

all_append : (most : ℕ) (ones others : List (ℕ × ℕ)) → AllBelow most ones → AllBelow most others → AllBelow most (ones ++ others)
all_append most [] others a b = b
all_append most (one ∷ ones) others a b = (a.0, all_append most ones others a.1 b)

all_from : (setting : Setting) (table : ℕ) (own : Own) → AllBelow setting.chunks (chunks_from setting table own)
all_from setting table [] = tt
all_from setting table (cells ∷ own) =
    all_append setting.chunks (chunks_in_table setting table cells) (chunks_from setting (suc table) own)
    (in_range table 0 setting.chunks setting.chunks (has_written_in setting cells) (omega arith)) (all_from setting (suc table) own)

all_at : (most : ℕ) (ones : List (ℕ × ℕ)) (index : ℕ) (one : ℕ × ℕ) → AllBelow most ones → slice_get ones index ≡ Some one → one.1 < most
all_at most [] index one all e = absurd cc
all_at most (first ∷ ones) zero one all e = subst (λ (x : ℕ × ℕ). x.1 < most) (same_Some first one e) all.0
all_at most (first ∷ ones) (suc index) one all e = all_at most ones index one all.1 e

-- a chunk that was written has the number of a chunk
pub written_below : (setting : Setting) (own : Own) (index table chunk : ℕ) → slice_get (written_chunks setting own) index ≡ Some (table, chunk)
    → chunk < setting.chunks
written_below setting own index table chunk e =
    all_at setting.chunks (written_chunks setting own) index (table, chunk) (all_from setting 0 own) e

-- ---- which chunk is needed

-- the chunk that a stamp or an undo visit needs, or the core where none is left
pub needs_chunk : (one : Option (ℕ × ℕ)) (table chunk : ℕ) → chunk_or_core one ≡ Chunk table chunk → one ≡ Some (table, chunk)
needs_chunk None table chunk e = absurd (core_is_no_chunk table chunk e)
needs_chunk (Some one) table chunk e =
    let same = same_chunk one.0 one.1 table chunk e in
    ap (λ (t : ℕ). Some (t, one.1)) same.0 ∙ ap (λ (c : ℕ). Some (table, c)) same.1

pub needs_core : (ones : List (ℕ × ℕ)) (visited : ℕ) → chunk_or_core (slice_get ones visited) ≡ Core → length ones ≤ visited
needs_core [] visited e = omega arith
needs_core (one ∷ ones) zero e = absurd (chunk_is_no_core one.0 one.1 e)
needs_core (one ∷ ones) (suc visited) e = let le = needs_core ones visited e in omega (arith, le)

pub needs_none : (one : Option (ℕ × ℕ)) → chunk_or_core one ≡ Core → one ≡ None
needs_none None e = refl
needs_none (Some one) e = absurd (chunk_is_no_core one.0 one.1 e)

pub chunk_left : (setting : Setting) (session : SessionData) (now : Open) (current : MachineOpen) (visited table chunk : ℕ)
    → chunks_written session now ≡ written_chunks setting current.begun.own → written_need session now visited ≡ Chunk table chunk
    → slice_get (written_chunks setting current.begun.own) visited ≡ Some (table, chunk)
chunk_left setting session now current visited table chunk same need =
    needs_chunk (slice_get (written_chunks setting current.begun.own) visited) table chunk
    (ap (λ (ones : List (ℕ × ℕ)). chunk_or_core (slice_get ones visited)) (sym same) ∙ need)

pub none_left : (setting : Setting) (session : SessionData) (now : Open) (current : MachineOpen) (visited : ℕ)
    → chunks_written session now ≡ written_chunks setting current.begun.own → written_need session now visited ≡ Core
    → length (written_chunks setting current.begun.own) ≤ visited
none_left setting session now current visited same need =
    needs_core (written_chunks setting current.begun.own) visited
    (ap (λ (ones : List (ℕ × ℕ)). chunk_or_core (slice_get ones visited)) (sym same) ∙ need)

-- ---- nothing is held

-- behind the last of a list nothing is left
drop_past : {X : Type 0} (xs : List X) (n : ℕ) → length xs ≤ n → drop n xs ≡ []
drop_past [] zero le = refl
drop_past [] (suc n) le = refl
drop_past (x ∷ xs) zero le = absurd (omega (arith, le))
drop_past (x ∷ xs) (suc n) le = drop_past xs n (omega (arith, le))

-- where all chunks that were written are undone nothing is held
pub undone_all : (setting : Setting) (current : MachineOpen) → length (written_chunks setting current.begun.own) ≤ undone current.phase
    → HoldsNothing setting current
undone_all setting current le table pos =
    and_right (is_some (item_at current.begun.own table pos))
    (is_among (drop (undone current.phase) (written_chunks setting current.begun.own)) table (chunk_of setting pos))
    (ap (λ (chunks : List (ℕ × ℕ)). is_among chunks table (chunk_of setting pos))
    (drop_past (written_chunks setting current.begun.own) (undone current.phase) le))

none_some : (cells : List (Option Cell)) (pos : ℕ) → list_any is_some cells ≡ false → is_some (get_or cells pos None) ≡ false
none_some [] pos e = refl
none_some (cell ∷ cells) zero e = (or_parts (is_some cell) (list_any is_some cells) e).0
none_some (cell ∷ cells) (suc pos) e = none_some cells pos (or_parts (is_some cell) (list_any is_some cells) e).1

none_written : (own : Own) (table pos : ℕ) → list_any (list_any is_some) own ≡ false → is_some (item_at own table pos) ≡ false
none_written [] table pos e = refl
none_written (cells ∷ own) zero pos e = none_some cells pos (or_parts (list_any is_some cells) (list_any (list_any is_some) own) e).0
none_written (cells ∷ own) (suc table) pos e = none_written own table pos (or_parts (list_any is_some cells) (list_any (list_any is_some) own) e).1

not_true : (b : Bool) → not b ≡ true → b ≡ false
not_true true e = absurd cc
not_true false e = refl

-- who wrote nothing holds nothing
pub nothing_held : (setting : Setting) (current : MachineOpen) → wrote_nothing current.begun.own ≡ true → HoldsNothing setting current
nothing_held setting current e table pos =
    and_left (is_some (item_at current.begun.own table pos))
    (is_among (drop (undone current.phase) (written_chunks setting current.begun.own)) table (chunk_of setting pos))
    (none_written current.begun.own table pos (not_true (list_any (list_any is_some) current.begun.own) e))
