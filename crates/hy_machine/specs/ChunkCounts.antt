-- How many chunks may be written.
use Rattle.std.proofs.Common.{◌≡◌, ℕ, zero, suc, ◌+◌, ◌*◌, ◌≤◌, List, [], ◌∷◌, Some, None, Bool, length, drop}
use Rattle.std.proofs.Common.{replicate, get_or, refl, ap, sym, ◌∙◌, arith, inl, inr}
use Rattle.std.proofs.Math.ListN.{set}
use Rattle.std.specs.List.{filter, range_with_len}
use Rattle.std.proofs.lemmas.Bool.{cases_Bool}
use Rattle.std.proofs.lemmas.List.{length-append, length-map, length-set}
use Rattle.hy_machine.specs.declared.Setting.{Setting}
use Rattle.hy_machine.specs.States.{Begun}
use Rattle.hy_machine.specs.Tables.{Own, capacity}
use Rattle.hy_machine.specs.Writes.{Write, blank_own, with_write, with_writes, chunks_in_table, chunks_from, has_written_in}
use Rattle.hy_machine.specs.Saving.{count_at, own_since, written_since}

filter_few : {A : Type 0} (p : A → Bool) (xs : List A) → length (filter p xs) ≤ length xs
filter_few p [] = omega arith
filter_few p (x ∷ xs) = elim (cases_Bool (p x)) [
  | inl t ↦ rw t (omega (arith, filter_few p xs))
  | inr f ↦ rw f (omega (arith, filter_few p xs))
]

range_length : (a n : ℕ) → length (range_with_len a n) ≡ n
range_length a zero = refl
range_length a (suc n) = ap suc (range_length (a + 1) n)

-- of each table at most all chunks are written
pub chunks_few : (setting : Setting) (table : ℕ) (own : Own) → length (chunks_from setting table own) ≤ setting.chunks * length own
chunks_few setting table [] = omega arith
chunks_few setting table (cells ∷ own) =
    let one : length (chunks_in_table setting table cells) ≤ setting.chunks =
    rw (length-map {B = ℕ × ℕ} (filter (has_written_in setting cells) (range_with_len 0 setting.chunks)) (λ (chunk : ℕ). (table, chunk)))
    (omega (arith, filter_few (has_written_in setting cells) (range_with_len 0 setting.chunks), range_length 0 setting.chunks)) in
    let rest = chunks_few setting (suc table) own in
    rw (length-append (chunks_in_table setting table cells) (chunks_from setting (suc table) own)) (grind (arith, one, rest))

pub with_writes_length : (own : Own) (writes : List Write) → length (with_writes own writes) ≡ length own
with_writes_length own [] = refl
with_writes_length own (write ∷ writes) =
    with_writes_length (with_write own write) writes
    ∙ length-set own write.table (set (get_or own write.table []) write.pos (Some write.cell))

-- so it is for what was written since a savepoint
pub since_few : (setting : Setting) (begun : Begun) (name : List ℕ) → length (written_since setting begun name) ≤ setting.chunks * length setting.first
since_few setting begun name =
    let tables : length (own_since setting begun name) ≡ length setting.first =
    with_writes_length (blank_own setting) (drop (count_at begun name) begun.trail)
    ∙ length-map setting.first (λ rows. replicate (capacity setting) None) in
    rw (sym tables) (chunks_few setting 0 (own_since setting begun name))
