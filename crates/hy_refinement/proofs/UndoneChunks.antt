-- An undo visit ends the hold of one chunk, and of no other: no chunk stands twice among those that a transaction wrote.
use Rattle.std.proofs.Common.{◌≡◌, ℕ, zero, suc, ◌+◌, ◌*◌, ◌<◌, List, [], ◌∷◌, drop, Some, Bool, false, sym, ap, ◌∙◌}
use Rattle.std.proofs.Common.{subst}
use Rattle.std.specs.Prelude.{◌||◌, ◌&&◌, ◌==◌, slice_get, is_some}
use Rattle.std.proofs.lemmas.Bool.{eqb-true, and_parts, and_right, false_from_ne_true}
use Rattle.std.proofs.lemmas.Nat.{div-mul-add}
use Rattle.std.proofs.lemmas.Option.{same_Some}
use Rattle.hy_machine.specs.declared.Setting.{Setting}
use Rattle.hy_machine.specs.States.{Open as MachineOpen}
use Rattle.hy_machine.specs.Positions.{item_at}
use Rattle.hy_machine.specs.Tables.{Own, chunk_of}
use Rattle.hy_machine.specs.Writes.{written_chunks, is_among}
use Rattle.hy_machine.specs.Holding.{holds, undone}
use Rattle.hy_machine.specs.OwnChunks.{AllApart, written_apart}

-- ---- one chunk after another

dropped_here : (chunks : List (ℕ × ℕ)) (k : ℕ) (one : ℕ × ℕ) → slice_get chunks k ≡ Some one → drop k chunks ≡ one ∷ drop (suc k) chunks
dropped_here [] k one e = absurd cc
dropped_here (first ∷ chunks) zero one e = ap (λ (x : ℕ × ℕ). x ∷ chunks) (same_Some first one e)
dropped_here (first ∷ chunks) (suc k) one e = dropped_here chunks k one e

once_there : (chunks : List (ℕ × ℕ)) (k : ℕ) (one : ℕ × ℕ) → AllApart chunks → slice_get chunks k ≡ Some one
    → is_among (drop (suc k) chunks) one.0 one.1 ≡ false
once_there [] k one none e = absurd cc
once_there (first ∷ chunks) zero one none e = subst (λ (x : ℕ × ℕ). is_among chunks x.0 x.1 ≡ false) (same_Some first one e) none.0
once_there (first ∷ chunks) (suc k) one none e = once_there chunks k one none.1 e

-- behind a chunk that was written it does not stand again
pub not_again : (setting : Setting) (own : Own) (k table chunk : ℕ) → slice_get (written_chunks setting own) k ≡ Some (table, chunk)
    → is_among (drop (suc k) (written_chunks setting own)) table chunk ≡ false
not_again setting own k table chunk e = once_there (written_chunks setting own) k (table, chunk) (written_apart setting own) e

-- and the others are left
pub others_left : (setting : Setting) (own : Own) (k table chunk other another : ℕ) → slice_get (written_chunks setting own) k ≡ Some (table, chunk)
    → ((other ≡ table) × (another ≡ chunk) → ⊥)
    → is_among (drop k (written_chunks setting own)) other another ≡ is_among (drop (suc k) (written_chunks setting own)) other another
others_left setting own k table chunk other another e apart =
    ap (λ (chunks : List (ℕ × ℕ)). is_among chunks other another) (dropped_here (written_chunks setting own) k (table, chunk) e)
    ∙ ap (λ (b : Bool). b || is_among (drop (suc k) (written_chunks setting own)) other another) (false_from_ne_true (table == other && chunk == another) (λ t.
    let both = and_parts (table == other) (chunk == another) t in
    apart (sym (eqb-true table other both.0), sym (eqb-true chunk another both.1))))

-- ---- holding

-- a position of a chunk is in that chunk
pub chunk_is_of : (setting : Setting) (chunk index : ℕ) → index < setting.rows → chunk_of setting (chunk * setting.rows + index) ≡ chunk
chunk_is_of setting chunk index less = div-mul-add chunk setting.rows index less

-- an open transaction that undid one chunk more holds nothing in it
pub holds_not : (setting : Setting) (table chunk pos k : ℕ) (later : MachineOpen) → chunk_of setting pos ≡ chunk → undone later.phase ≡ suc k
    → slice_get (written_chunks setting later.begun.own) k ≡ Some (table, chunk) → holds setting table pos (Some later) ≡ false
holds_not setting table chunk pos k later of_chunk done e =
    and_right (is_some (item_at later.begun.own table pos))
    (is_among (drop (undone later.phase) (written_chunks setting later.begun.own)) table (chunk_of setting pos))
    (ap (λ (n : ℕ). is_among (drop n (written_chunks setting later.begun.own)) table (chunk_of setting pos)) done
    ∙ (ap (λ (n : ℕ). is_among (drop (suc k) (written_chunks setting later.begun.own)) table n) of_chunk
    ∙ not_again setting later.begun.own k table chunk e))

-- and what it held in the others
pub holds_still : (setting : Setting) (table chunk other another pos k : ℕ) (current later : MachineOpen) → chunk_of setting pos ≡ another
    → undone current.phase ≡ k → undone later.phase ≡ suc k → later.begun.own ≡ current.begun.own
    → slice_get (written_chunks setting current.begun.own) k ≡ Some (table, chunk) → ((other ≡ table) × (another ≡ chunk) → ⊥)
    → holds setting other pos (Some later) ≡ holds setting other pos (Some current)
holds_still setting table chunk other another pos k current later of_chunk before after own e apart =
    ap (λ (own : Own). is_some (item_at own other pos) && is_among (drop (undone later.phase) (written_chunks setting own)) other (chunk_of setting pos)) own
    ∙ ap (λ (b : Bool). is_some (item_at current.begun.own other pos) && b)
    (ap (λ (n : ℕ). is_among (drop n (written_chunks setting current.begun.own)) other (chunk_of setting pos)) after
    ∙ (ap (λ (n : ℕ). is_among (drop (suc k) (written_chunks setting current.begun.own)) other n) of_chunk
    ∙ (sym (others_left setting current.begun.own k table chunk other another e apart)
    ∙ (ap (λ (n : ℕ). is_among (drop k (written_chunks setting current.begun.own)) other n) (sym of_chunk)
    ∙ ap (λ (n : ℕ). is_among (drop n (written_chunks setting current.begun.own)) other (chunk_of setting pos)) (sym before)))))
