-- The chunks that a transaction wrote are each written once, so that one more of them is among the first ones, and no other.
use Rattle.std.proofs.Common.{◌≡◌, ℕ, zero, suc, ◌+◌, ◌<◌, List, [], ◌∷◌, ◌++◌, map, take, Bool, true, false, cond, refl, sym, ap, ◌∙◌, Some, arith, inl, inr}
use Rattle.std.specs.Prelude.{◌&&◌, ◌||◌, ◌==◌, slice_get, filter}
use Rattle.std.specs.List.{range_with_len}
use Rattle.std.proofs.lemmas.Bool.{cases_eq, eq-eqb, ne_eqb, or_left, or_right, and_from}
use Rattle.std.proofs.lemmas.List.Folds.{list_any-append}
use Rattle.std.proofs.lemmas.Option.{same_Some}
use Rattle.hy_machine.specs.declared.Setting.{Setting}
use Rattle.hy_machine.specs.Tables.{Own}
use Rattle.hy_machine.specs.Writes.{has_written_in, chunks_in_table, chunks_from, written_chunks, is_among}

-- a chunk is this one
abbrev is_it : ℕ → ℕ → ℕ × ℕ → Bool
is_it table chunk one = one.0 == table && one.1 == chunk

-- no chunk is there twice
abbrev pub AllApart : List (ℕ × ℕ) → Type 0
AllApart [] = Unit {0}
AllApart (one ∷ chunks) = (is_among chunks one.0 one.1 ≡ false) × AllApart chunks

it_is : (table chunk : ℕ) (one : ℕ × ℕ) → one ≡ (table, chunk) → is_it table chunk one ≡ true
it_is table chunk one e =
    and_from (one.0 == table) (one.1 == chunk) (eq-eqb one.0 table (ap (λ (o : ℕ × ℕ). o.0) e)) (eq-eqb one.1 chunk (ap (λ (o : ℕ × ℕ). o.1) e))

it_is_not : (table chunk other another : ℕ) → ((other ≡ table) × (another ≡ chunk) → ⊥) → is_it other another (table, chunk) ≡ false
it_is_not table chunk other another apart = elim (cases_eq table other) [
  | inr away ↦ ap (λ (b : Bool). b && (chunk == another)) (ne_eqb table other away)
  | inl same ↦ elim (cases_eq chunk another) [
    | inl both ↦ absurd (apart (sym same, sym both))
    | inr away ↦ ap (λ (b : Bool). b && (chunk == another)) (eq-eqb table other same) ∙ ne_eqb chunk another away
  ]
]

or_false : (a b : Bool) → a ≡ false → b ≡ false → (a || b) ≡ false
or_false true b e f = absurd cc
or_false false b e f = f

among_first : (table chunk : ℕ) (one : ℕ × ℕ) (chunks : List (ℕ × ℕ)) → is_it table chunk one ≡ true → is_among (one ∷ chunks) table chunk ≡ true
among_first table chunk one chunks e = or_left (is_it table chunk one) (is_among chunks table chunk) e

among_behind : (table chunk : ℕ) (one : ℕ × ℕ) (chunks : List (ℕ × ℕ)) → is_among chunks table chunk ≡ true → is_among (one ∷ chunks) table chunk ≡ true
among_behind table chunk one chunks e = or_right (is_it table chunk one) (is_among chunks table chunk) e

among_at : (chunks : List (ℕ × ℕ)) (k table chunk : ℕ) → slice_get chunks k ≡ Some (table, chunk) → is_among chunks table chunk ≡ true
among_at [] k table chunk e = absurd cc
among_at (one ∷ chunks) zero table chunk e = among_first table chunk one chunks (it_is table chunk one (same_Some one (table, chunk) e))
among_at (one ∷ chunks) (suc k) table chunk e = among_behind table chunk one chunks (among_at chunks k table chunk e)

-- ---- one more of them

-- a chunk is not among those before it
pub not_before : (chunks : List (ℕ × ℕ)) (k table chunk : ℕ) → AllApart chunks → slice_get chunks k ≡ Some (table, chunk)
    → is_among (take k chunks) table chunk ≡ false
not_before [] k table chunk apart e = absurd cc
not_before (one ∷ chunks) zero table chunk apart e = refl
not_before (one ∷ chunks) (suc k) table chunk apart e =
    or_false (is_it table chunk one) (is_among (take k chunks) table chunk) not_first (not_before chunks k table chunk apart.1 e)
  where
    not_first : is_it table chunk one ≡ false
    not_first = elim (cases_eq one.0 table) [
      | inr away ↦ ap (λ (b : Bool). b && (one.1 == chunk)) (ne_eqb one.0 table away)
      | inl same ↦ elim (cases_eq one.1 chunk) [
        | inr away ↦ ap (λ (b : Bool). b && (one.1 == chunk)) (eq-eqb one.0 table same) ∙ ne_eqb one.1 chunk away
        | inl both ↦ absurd (
            let f : is_among chunks one.0 one.1 ≡ true =
            ap (λ (n : ℕ). is_among chunks n one.1) same ∙ (ap (λ (n : ℕ). is_among chunks table n) both ∙ among_at chunks k table chunk e) in
            let g = sym f ∙ apart.0 in cc)
      ]
    ]

-- with it, it is
pub is_with_it : (chunks : List (ℕ × ℕ)) (k table chunk : ℕ) → slice_get chunks k ≡ Some (table, chunk) → is_among (take (suc k) chunks) table chunk ≡ true
is_with_it [] k table chunk e = absurd cc
is_with_it (one ∷ chunks) zero table chunk e = among_first table chunk one [] (it_is table chunk one (same_Some one (table, chunk) e))
is_with_it (one ∷ chunks) (suc k) table chunk e = among_behind table chunk one (take (suc k) chunks) (is_with_it chunks k table chunk e)

-- another is among them exactly where it was
pub others_with_it : (chunks : List (ℕ × ℕ)) (k table chunk other another : ℕ) → slice_get chunks k ≡ Some (table, chunk)
    → ((other ≡ table) × (another ≡ chunk) → ⊥) → is_among (take (suc k) chunks) other another ≡ is_among (take k chunks) other another
others_with_it [] k table chunk other another e apart = absurd cc
others_with_it (one ∷ chunks) zero table chunk other another e apart =
    or_false (is_it other another one) false
    (ap (is_it other another) (same_Some one (table, chunk) e) ∙ it_is_not table chunk other another apart) refl
others_with_it (one ∷ chunks) (suc k) table chunk other another e apart =
    ap (λ (b : Bool). is_it other another one || b) (others_with_it chunks k table chunk other another e apart)

-- ---- the chunks that were written

-- chunks of a table, of which those that are kept count
abbrev kept_of : (ℕ → Bool) → ℕ → List ℕ → List (ℕ × ℕ)
kept_of keep table range = map (λ (chunk : ℕ). (table, chunk)) (filter keep range)

none_with : (keep : ℕ → Bool) (table one : ℕ) (range : List ℕ) (other chunk : ℕ) → ((other ≡ table) × (chunk ≡ one) → ⊥)
    → is_among (kept_of keep table range) other chunk ≡ false → is_among (kept_of keep table (one ∷ range)) other chunk ≡ false
none_with keep table one range other chunk apart none = by_kept (keep one)
  where
    by_kept : (b : Bool) → is_among (map (λ (chunk : ℕ). (table, chunk)) (cond b (one ∷ filter keep range) (filter keep range))) other chunk ≡ false
    by_kept true = or_false (is_it other chunk (table, one)) (is_among (kept_of keep table range) other chunk) (it_is_not table one other chunk apart) none
    by_kept false = none

none_below : (keep : ℕ → Bool) (table first n chunk : ℕ) → chunk < first → is_among (kept_of keep table (range_with_len first n)) table chunk ≡ false
none_below keep table first zero chunk l = refl
none_below keep table first (suc n) chunk l =
    none_with keep table first (range_with_len (first + 1) n) table chunk (λ same. absurd (let e = same.1 in omega (arith, e, l)))
    (none_below keep table (first + 1) n chunk (omega (arith, l)))

apart_with : (keep : ℕ → Bool) (table one : ℕ) (range : List ℕ) (others : List (ℕ × ℕ)) → is_among (kept_of keep table range ++ others) table one ≡ false
    → AllApart (kept_of keep table range ++ others) → AllApart (kept_of keep table (one ∷ range) ++ others)
apart_with keep table one range others none apart = by_kept (keep one)
  where
    by_kept : (b : Bool) → AllApart (map (λ (chunk : ℕ). (table, chunk)) (cond b (one ∷ filter keep range) (filter keep range)) ++ others)
    by_kept true = (none, apart)
    by_kept false = apart

-- of another table there are none
none_of_table : (keep : ℕ → Bool) (table : ℕ) (range : List ℕ) (other chunk : ℕ) → (table ≡ other → ⊥)
    → is_among (kept_of keep table range) other chunk ≡ false
none_of_table keep table [] other chunk apart = refl
none_of_table keep table (one ∷ range) other chunk apart =
    none_with keep table one range other chunk (λ same. apart (sym same.0)) (none_of_table keep table range other chunk apart)

none_of_earlier : (setting : Setting) (first : ℕ) (own : Own) (table chunk : ℕ) → table < first → is_among (chunks_from setting first own) table chunk ≡ false
none_of_earlier setting first [] table chunk l = refl
none_of_earlier setting first (cells ∷ own) table chunk l =
    list_any-append (is_it table chunk) (chunks_in_table setting first cells) (chunks_from setting (suc first) own)
    ∙ or_false (is_among (chunks_in_table setting first cells) table chunk) (is_among (chunks_from setting (suc first) own) table chunk)
    (none_of_table (has_written_in setting cells) first (range_with_len 0 setting.chunks) table chunk (λ e. absurd (omega (arith, e, l))))
    (none_of_earlier setting (suc first) own table chunk (omega (arith, l)))

range_apart : (keep : ℕ → Bool) (table first n : ℕ) (others : List (ℕ × ℕ)) → AllApart others → ((chunk : ℕ) → is_among others table chunk ≡ false)
    → AllApart (kept_of keep table (range_with_len first n) ++ others)
range_apart keep table first zero others apart none = apart
range_apart keep table first (suc n) others apart none =
    apart_with keep table first (range_with_len (first + 1) n) others
    (list_any-append (is_it table first) (kept_of keep table (range_with_len (first + 1) n)) others
    ∙ or_false (is_among (kept_of keep table (range_with_len (first + 1) n)) table first) (is_among others table first)
    (none_below keep table (first + 1) n first (omega arith)) (none first))
    (range_apart keep table (first + 1) n others apart none)

from_apart : (setting : Setting) (first : ℕ) (own : Own) → AllApart (chunks_from setting first own)
from_apart setting first [] = tt
from_apart setting first (cells ∷ own) =
    range_apart (has_written_in setting cells) first 0 setting.chunks (chunks_from setting (suc first) own) (from_apart setting (suc first) own)
    (λ chunk. none_of_earlier setting (suc first) own first chunk (omega arith))

pub written_apart : (setting : Setting) (own : Own) → AllApart (written_chunks setting own)
written_apart setting own = from_apart setting 0 own
