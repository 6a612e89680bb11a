-- Entries that are encoded one after another, each behind an open gate.
use Rattle.std.proofs.Common.{◌≡◌, ℕ, ◌+◌, ◌<◌, ◌≤◌, List, [], ◌∷◌, ◌++◌, length, get_or, take, drop, refl, ap, sym, subst, ◌∙◌, append_assoc}
use Rattle.std.specs.List.{flat_map, AllByRecursion}
use Rattle.std.proofs.lemmas.List.{take_more, take_all, flat_map_more}
use Rattle.hy_journal.specs.declared.Entry.{Entry}
use Rattle.hy_log_record.specs.Bytes.{record_of, HasBytes}
use Rattle.hy_redo.specs.Logs.{gated, closing}
use Rattle.hy_redo.proofs.Appending.{closing_is}

has_more : (entries : List Entry) (entry : Entry) → AllByRecursion HasBytes entries → HasBytes entry → AllByRecursion HasBytes (entries ++ entry ∷ [])
has_more [] entry all has = (has, tt)
has_more (first ∷ entries) entry all has = (all.0, has_more entries entry all.1 has)

-- these bytes are those of the entries, each of which has bytes
pub record AreGated (entries : List Entry) (bytes : List ℕ) : Type 0 where
  pub bytes_are : bytes ≡ flat_map gated entries
  pub has : AllByRecursion HasBytes entries

pub none_gated : AreGated [] []
none_gated = record { bytes_are = refl; has = tt }

one_more : (entries : List Entry) (entry : Entry) (old begun next : List ℕ) → AreGated entries old → begun ≡ old ++ 1 ∷ [] → next ≡ begun ++ record_of entry
    → HasBytes entry → AreGated (entries ++ entry ∷ []) next
one_more entries entry old begun next so_far begins is has = record {
  bytes_are = is ∙ ap (λ (bs : List ℕ). bs ++ record_of entry) begins ∙ append_assoc old (1 ∷ []) (record_of entry)
      ∙ ap (λ (bs : List ℕ). bs ++ gated entry) so_far.bytes_are ∙ flat_map_more gated [] entries entry;
  has = has_more entries entry so_far.has has;
}

pub more_gated : (entries : List Entry) (i : ℕ) (entry d : Entry) (old begun next : List ℕ) → i < length entries → entry ≡ get_or entries i d
    → AreGated (take i entries) old → begun ≡ old ++ 1 ∷ [] → next ≡ begun ++ record_of entry → HasBytes entry
    → AreGated (take (i + 1) entries) next
more_gated entries i entry d old begun next below at so_far begins is has =
    subst (λ (es : List Entry). AreGated es next) (ap (λ (e : Entry). take i entries ++ e ∷ []) at ∙ sym (take_more entries i d below))
    (one_more (take i entries) entry old begun next so_far begins is has)

pub all_gated : (entries : List Entry) (i : ℕ) (bytes : List ℕ) → length entries ≤ i → AreGated (take i entries) bytes → AreGated entries bytes
all_gated entries i bytes past so_far = subst (λ (es : List Entry). AreGated es bytes) (take_all i entries past) so_far

-- with a closed gate behind them, and without the first gate
pub closed_behind : (entries : List Entry) (bytes whole : List ℕ) → 0 < length entries → AreGated entries bytes → whole ≡ bytes ++ 0 ∷ []
    → drop 1 whole ≡ closing entries
closed_behind entries bytes whole some are is =
    ap (drop 1) (is ∙ ap (λ (bs : List ℕ). bs ++ 0 ∷ []) are.bytes_are ∙ closing_is entries some)
