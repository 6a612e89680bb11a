-- The rule of the table, and what a take and a give tell.
use Rattle.std.specs.Prelude.{◌≡◌, ◌≢◌, ◌⊎◌, ℕ, ◌+◌, ◌*◌, List, [], ◌∷◌, map, length, slice_index, Option, Some, None}
use mathlib.Core.Option.{some}
use mathlib.Core.Option as maybe
use lib.ListN.{get_elem?}
use Rattle.atomic_table.specs.Table.{State, Me, Step, rest}
use Rattle.crossbeam_utils.specs.Padded.{padded_value}
use Rattle.crossbeam_utils.specs.declared.cache_padded.CachePadded.{CachePadded}
use Rattle.hy_threads.specs.Knowledge.{Visitor, Knowledge, Spent, First, Seated, holding, refused, settled}

-- The word of the part k is the word 8 * k of the table, so that no two of them lie in one cache line. The words between stay as they are.

-- a part lies in its slot, in cache lines of its own
abbrev pub Slot : Type 0 → Type 0
Slot D = Option (CachePadded D)

module _ {D : Type 0} where
  abbrev pub content : Slot D → Option D
  content None = None
  content (Some y) = Some (padded_value y)

  -- each part lies in its slot
  abbrev pub AreHome : List (Slot D) → List D → Type 0
  AreHome slots parts = map content slots ≡ map Some parts

  -- the part k is at home, as p
  abbrev pub IsHome : List ℕ → List (maybe.Option (Slot D)) → ℕ → D → Type 0
  IsHome words homes k p = (slice_index words (8 * k) ≡ 0) × ((y : CachePadded D) × (get_elem? homes k ≡ some (some (Some y))) × (padded_value y ≡ p))

module _ {S D : Type 0} where
  -- the part k is out with the session's seat that its word names, which took it as p
  abbrev pub IsOut : List ℕ → List (Knowledge S D) → (ℕ → ℕ) → ℕ → D → Type 0
  IsOut words views owner k p =
      (o : Visitor S D) × (get_elem? views (owner o.number) ≡ some (Seated o)) × (o.held ≡ Some (k, p)) × (slice_index words (8 * k) ≡ 1 + o.number)

  abbrev pub IsHomeOrOut : List ℕ → List (maybe.Option (Slot D)) → List (Knowledge S D) → (ℕ → ℕ) → ℕ → D → Type 0
  IsHomeOrOut words homes views owner k p = IsHome words homes k p ⊎ IsOut words views owner k p

  -- what the seat j knows is so: its session is with no other seat, and the part that it has is as it took it
  abbrev pub IsSo : List ℕ → List D → List S → List (Option S) → (ℕ → ℕ) → ℕ → Knowledge S D → Type 0
  IsSo words parts sessions kept owner j Spent = Unit {0}
  IsSo words parts sessions kept owner j (First r) = (j ≡ 0) × (r.kept ≡ kept)
  IsSo words parts sessions kept owner j (Seated o) =
      (owner o.number ≡ j) × (get_elem? sessions o.number ≡ some o.session) × (get_elem? kept o.number ≡ some None)
      × ((k : ℕ) (p : D) → o.held ≡ Some (k, p) → (get_elem? parts k ≡ some p) × (slice_index words (8 * k) ≡ 1 + o.number))

-- Every part and every session is accounted for, and the fact holds of the parts as they were given last, and of the
-- sessions as they were told last. `kept` is what the first seat keeps, and `owner` says which seat has the session of a number
pub record IsAccounted {S D : Type 0} (fact : List D → List S → Type 0) (s : State (Slot D) (Knowledge S D)) : Type 0 where
  pub parts : List D
  pub sessions : List S
  pub kept : List (Option S)
  pub owner : ℕ → ℕ
  pub fact_holds : fact parts sessions
  pub word_each : length s.words ≡ 8 * length parts
  pub slot_each : length s.homes ≡ length parts
  pub each_part : (k : ℕ) (p : D) → get_elem? parts k ≡ some p → IsHomeOrOut s.words s.homes s.views owner k p
  pub each_seat : (j : ℕ) (v : Knowledge S D) → get_elem? s.views j ≡ some v → IsSo s.words parts sessions kept owner j v
  pub each_kept : (i : ℕ) (x : S) → get_elem? kept i ≡ some (Some x) → get_elem? sessions i ≡ some x
  pub kept_each : length kept ≡ length sessions

module _ {S D : Type 0} where
  -- a take was won, with the part and its near fact; or lost, with the refusal
  abbrev pub Took : (ℕ → S → D → Type 0) → Step (Slot D) → Me (Slot D) (Knowledge S D) → ℕ → Me (Slot D) (Knowledge S D) → Type 0
  Took near st m found m' = (o : Visitor S D) (k : ℕ) → m.0 ≡ Seated o → st.word ≡ 8 * k
      → (found ≡ 0 → (y : CachePadded D) × (m' ≡ (Seated (holding o k (padded_value y)), (k, Some y) ∷ []))
      × near k o.session (padded_value y))
      × (found ≢ 0 → m' ≡ (Seated (refused o k 1), m.1))

  -- the part was given back, and the seat has the session that was told
  abbrev pub Gave : Option S → Step (Slot D) → Me (Slot D) (Knowledge S D) → ℕ → Me (Slot D) (Knowledge S D) → Type 0
  Gave told st m found m' = (o : Visitor S D) (t : S) → m.0 ≡ Seated o → told ≡ Some t → m' ≡ (Seated (settled o t), rest m.1)
