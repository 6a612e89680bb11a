-- A position that a transaction wrote lies in a chunk that it wrote.
use Rattle.std.proofs.Common.{◌≡◌, ℕ, zero, suc, ◌+◌, ◌*◌, ◌/◌, ◌%◌, ◌<◌, List, [], ◌∷◌, ◌++◌, Option, None, Bool, true, false, is_some}
use Rattle.std.proofs.Common.{length, map, get_or, cond, refl, ap, sym, ◌∙◌, subst, arith, inl, inr, zero-add, add-zero}
use Rattle.std.specs.Prelude.{◌&&◌, ◌||◌, ◌==◌, filter}
use Rattle.std.specs.List.{AllByRecursion, list_any, range_with_len}
use Rattle.std.proofs.lemmas.Bool.{cases_Bool, eq-eqb, eqb-true, or_left, or_right, and_from}
use Rattle.std.proofs.lemmas.List.Folds.{list_any-append}
use Rattle.std.proofs.lemmas.Nat.{div-add-mod', div_below}
use Rattle.std.proofs.Math.Nat.{mod-lt}
use Rattle.hy_machine.specs.declared.Setting.{Setting}
use Rattle.hy_machine.specs.Positions.{item_at}
use Rattle.hy_machine.specs.Tables.{Cell, Own, capacity, chunk_of}
use Rattle.hy_machine.specs.Writes.{has_written_in, chunks_in_table, chunks_from, written_chunks, is_among}
use Rattle.hy_machine.specs.Kept.{OwnFits}

pub any_in_range : (f : ℕ → Bool) (first n i : ℕ) → i < n → f (first + i) ≡ true → list_any f (range_with_len first n) ≡ true
any_in_range f first zero i h e = absurd (omega (arith, h))
any_in_range f first (suc n) zero h e =
    or_left (f first) (list_any f (range_with_len (first + 1) n)) (ap f (sym (add-zero first)) ∙ e)
any_in_range f first (suc n) (suc i) h e =
    or_right (f first) (list_any f (range_with_len (first + 1) n))
    (any_in_range f (first + 1) n i (omega (arith, h)) (ap f (let s : first + 1 + i ≡ first + suc i = omega arith in s) ∙ e))

among_kept : (keep : ℕ → Bool) (table chunk : ℕ) (chunks : List ℕ) → keep chunk ≡ true → list_any (λ (one : ℕ). one == chunk) chunks ≡ true
    → is_among (map (λ (chunk : ℕ). (table, chunk)) (filter keep chunks)) table chunk ≡ true
among_kept keep table chunk [] k e = absurd cc
among_kept keep table chunk (one ∷ chunks) k e = elim (cases_Bool (one == chunk)) [
  | inl t ↦ rw (ap keep (eqb-true one chunk t) ∙ k)
      (or_left (table == table && one == chunk) (is_among (map (λ (chunk : ℕ). (table, chunk)) (filter keep chunks)) table chunk)
      (and_from (table == table) (one == chunk) (eq-eqb table table refl) t))
  | inr f ↦ if_kept (keep one)
      (among_kept keep table chunk chunks k (sym (ap (λ b. b || list_any (λ (one : ℕ). one == chunk) chunks) f) ∙ e))
]
  where
    if_kept : (b : Bool) → is_among (map (λ (chunk : ℕ). (table, chunk)) (filter keep chunks)) table chunk ≡ true
        → is_among (map (λ (chunk : ℕ). (table, chunk)) (cond b (one ∷ filter keep chunks) (filter keep chunks))) table chunk ≡ true
    if_kept true h =
        or_right (table == table && one == chunk) (is_among (map (λ (chunk : ℕ). (table, chunk)) (filter keep chunks)) table chunk) h
    if_kept false h = h

got_there : {X : Type 0} (items : List (Option X)) (pos : ℕ) → is_some (get_or items pos None) ≡ true → pos < length items
got_there [] pos e = absurd cc
got_there (item ∷ items) zero e = omega arith
got_there (item ∷ items) (suc pos) e = omega (arith, got_there items pos e)

some_rows : (chunks rows pos : ℕ) → pos < chunks * rows → 0 < rows
some_rows chunks zero pos h = absurd (omega (arith, h))
some_rows chunks (suc rows) pos h = omega arith

own_below : (n : ℕ) (own : Own) (table pos : ℕ) → AllByRecursion (λ (items : List (Option Cell)). length items ≡ n) own
    → is_some (item_at own table pos) ≡ true → pos < n
own_below n [] table pos long e = absurd cc
own_below n (cells ∷ own) zero pos long e = omega (arith, long.0, got_there cells pos e)
own_below n (cells ∷ own) (suc table) pos long e = own_below n own table pos long.1 e

-- where something is written the chunks have positions
pub own_rows : (setting : Setting) (own : Own) (table pos : ℕ) → OwnFits setting own → is_some (item_at own table pos) ≡ true → 0 < setting.rows
own_rows setting own table pos fits e =
    some_rows setting.chunks setting.rows pos (own_below (capacity setting) own table pos fits.positions e)

among_table : (setting : Setting) (table : ℕ) (cells : List (Option Cell)) (pos : ℕ) → length cells ≡ capacity setting
    → is_some (get_or cells pos None) ≡ true → is_among (chunks_in_table setting table cells) table (chunk_of setting pos) ≡ true
among_table setting table cells pos long e =
    let within : pos < setting.chunks * setting.rows = omega (arith, long, got_there cells pos e) in
    let rows : 0 < setting.rows = some_rows setting.chunks setting.rows pos within in
    let chunk : ℕ = pos / setting.rows in
    let below : chunk < setting.chunks = div_below pos setting.rows setting.chunks rows within in
    among_kept (has_written_in setting cells) table chunk (range_with_len 0 setting.chunks)
    (any_in_range (λ (pos : ℕ). is_some (get_or cells pos None)) (chunk * setting.rows) setting.rows (pos % setting.rows)
    (mod-lt pos rows) (ap (λ (n : ℕ). is_some (get_or cells n None)) (div-add-mod' pos setting.rows) ∙ e))
    (any_in_range (λ (one : ℕ). one == chunk) 0 setting.chunks chunk below (eq-eqb (0 + chunk) chunk (zero-add chunk)))

pub among_joined : (chunks others : List (ℕ × ℕ)) (table chunk : ℕ)
    → is_among (chunks ++ others) table chunk ≡ (is_among chunks table chunk || is_among others table chunk)
among_joined chunks others table chunk = list_any-append (λ (one : ℕ × ℕ). one.0 == table && one.1 == chunk) chunks others

among_from : (setting : Setting) (first : ℕ) (own : Own) (table pos : ℕ)
    → AllByRecursion (λ (items : List (Option Cell)). length items ≡ capacity setting) own
    → is_some (item_at own table pos) ≡ true → is_among (chunks_from setting first own) (first + table) (chunk_of setting pos) ≡ true
among_from setting first [] table pos long e = absurd cc
among_from setting first (cells ∷ own) zero pos long e =
    among_joined (chunks_in_table setting first cells) (chunks_from setting (suc first) own) (first + 0) (chunk_of setting pos)
    ∙ or_left (is_among (chunks_in_table setting first cells) (first + 0) (chunk_of setting pos))
    (is_among (chunks_from setting (suc first) own) (first + 0) (chunk_of setting pos))
    (subst (λ (n : ℕ). is_among (chunks_in_table setting first cells) n (chunk_of setting pos) ≡ true) (sym (add-zero first))
    (among_table setting first cells pos long.0 e))
among_from setting first (cells ∷ own) (suc table) pos long e =
    among_joined (chunks_in_table setting first cells) (chunks_from setting (suc first) own) (first + suc table) (chunk_of setting pos)
    ∙ or_right (is_among (chunks_in_table setting first cells) (first + suc table) (chunk_of setting pos))
    (is_among (chunks_from setting (suc first) own) (first + suc table) (chunk_of setting pos))
    (subst (λ (n : ℕ). is_among (chunks_from setting (suc first) own) n (chunk_of setting pos) ≡ true)
    (let s : suc first + table ≡ first + suc table = omega arith in s)
    (among_from setting (suc first) own table pos long.1 e))

pub own_among : (setting : Setting) (own : Own) (table pos : ℕ) → OwnFits setting own → is_some (item_at own table pos) ≡ true
    → is_among (written_chunks setting own) table (chunk_of setting pos) ≡ true
own_among setting own table pos fits e =
    subst (λ (n : ℕ). is_among (written_chunks setting own) n (chunk_of setting pos) ≡ true) (zero-add table)
    (among_from setting 0 own table pos fits.positions e)
