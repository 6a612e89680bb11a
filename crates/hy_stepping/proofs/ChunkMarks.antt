-- Behind the newest record of the transaction that stamps, all marks at a position are below its commit time.
use Rattle.std.proofs.Common.{◌≡◌, ℕ, zero, suc, ◌-◌, ◌<◌, List, [], ◌∷◌, length, Some, Bool, true, false, cond, Contains}
use Rattle.std.proofs.Common.{refl, sym, ap, ◌∙◌, arith, inl, inr}
use Rattle.std.specs.Prelude.{slice_get}
use Rattle.std.specs.List.{AllByRecursion}
use Rattle.std.proofs.lemmas.Bool.{cases_Bool}
use Rattle.hy_stamp.specs.declared.Label.{Label}
use Rattle.hy_stamp.specs.declared.Stamp.{Stamp}
use Rattle.hy_stamp.specs.Times.{IsLabel, id_of}
use Rattle.hy_chain.specs.Chains.{Undo, Under}
use Rattle.hy_chain.specs.Pruning.{stamps_of}
use Rattle.hy_undo.specs.Images.{Image}
use Rattle.hy_undo.specs.Places.{Place, stamps}
use Rattle.hy_journal.specs.declared.CoreData.{CoreData}
use Rattle.hy_journal.specs.declared.Entry.{Entry}
use Rattle.hy_visit.specs.Pruning.{UnderOwn}
use Rattle.hy_event.specs.declared.SessionData.{SessionData}
use Rattle.hy_event.specs.declared.Open.{Open}
use Rattle.hy_event.specs.Sessions.{label_of}
use Rattle.hy_machine.specs.declared.Setting.{Setting}
use Rattle.hy_machine.specs.States.{State, Open as MachineOpen}
use Rattle.hy_refinement.specs.Stamped.{is_unstamped, entries_counted}
use Rattle.hy_refinement.specs.Transactions.{IsOpen}
use Rattle.hy_refinement.specs.Places.{IsOwnStamp, IsOfWriter}
use Rattle.hy_refinement.specs.Rivals.{ShownAt}
use Rattle.hy_refinement.specs.Labels.{HaveLabels}

-- what holds at each position holds of all
pub all_places : (holds : Place → Type 0) (places : List Place) → ((index : ℕ) (place : Place) → slice_get places index ≡ Some place → holds place)
    → AllByRecursion holds places
all_places holds [] each = tt
all_places holds (place ∷ places) each = (each zero place refl, all_places holds places (λ index other e. each (suc index) other e))

-- members of a list
first_of : {A : Type 0} (x : A) (xs : List A) → Contains (x ∷ xs) x
first_of x xs = (zero, omega arith, refl)

behind : {A : Type 0} (x y : A) (xs : List A) → Contains xs y → Contains (x ∷ xs) y
behind x y xs c = (suc c.0, omega (arith, c.1), c.2)

under_all : (time : ℕ) (chain : List (Undo Image)) → ((stamp : Stamp) → Contains (stamps_of chain) stamp → stamp.mark < time) → Under time chain
under_all time [] low = tt
under_all time (undo ∷ chain) low =
    (low undo.stamp (first_of undo.stamp (stamps_of chain)), under_all time chain (λ stamp c. low stamp (behind undo.stamp stamp (stamps_of chain) c)))

-- labels that have one identifier are one
abbrev pub IdsDiffer : Type 0
IdsDiffer = (a b : Label) → IsLabel a → IsLabel b → id_of a ≡ id_of b → a ≡ b

-- ---- a position, while a transaction stamps whose entry is the last

module _ (setting : Setting) (state : State) (core : CoreData) (sessions : List SessionData) (table chunk pos : ℕ) (place : Place)
    (shown : ShownAt setting state core sessions table chunk pos place) (labels : HaveLabels state sessions) (differ : IdsDiffer)
    (number : ℕ) (session : SessionData) (now : Open) (current : MachineOpen) (is : IsOpen state sessions number session now current)
    (mark : state.mark ≡ Some number) (last : Entry) (has_last : slice_get core.entries (length state.order - 1) ≡ Some last) where
  abbrev id : ℕ
  id = id_of (label_of session)

  -- where it has not stamped the chunk, writers are those of the entries before
  writer_before : is_unstamped setting state table chunk ≡ true → (stamp : Stamp) → IsOfWriter setting state core table chunk pos stamp
      → stamp.mark < last.time
  writer_before unstamped stamp w =
      let counted : entries_counted setting state table chunk ≡ length state.order - 1 =
      ap (λ (b : Bool). cond b (length state.order - 1) (length state.order)) unstamped in
      let m = w.mark_is in
      let before : w.rank < length state.order - 1 = let counts = w.counts in omega (arith, counts, counted) in
      let rises = shown.core_shows.times_rise.rise w.rank (length state.order - 1) w.entry last before w.has has_last in
      omega (arith, m, rises)

  -- a time is no identifier
  writer_is_other : (stamp : Stamp) → IsOfWriter setting state core table chunk pos stamp → stamp.mark ≡ id → ⊥
  writer_is_other stamp w own =
      let m = w.mark_is in
      let below = shown.core_shows.times_apart.times w.rank w.entry w.has in
      let low = shown.below_ids in
      absurd (omega (arith, own, m, below, low))

  -- where it has stamped the chunk, a transaction whose own record is there is another one
  owner_is_other : is_unstamped setting state table chunk ≡ false → (stamp : Stamp) → IsOwnStamp setting state sessions table chunk stamp
      → stamp.mark ≡ id → ⊥
  owner_is_other stamped stamp its own =
      let same : label_of its.session ≡ label_of session =
      differ (label_of its.session) (label_of session) (labels its.number its.session its.now its.current its.is_open)
      (labels number session now current is) (sym its.mark_is ∙ own) in
      let its_number = (shown.sessions_show.each its.number its.session its.is_open.found).session_is.number_is in
      let own_number = (shown.sessions_show.each number session is.found).session_is.number_is in
      let one : its.number ≡ number = sym its_number ∙ (ap (λ (label : Label). label.session) same ∙ own_number) in
      elim its.not_stamped [
        | inl unmarked ↦ unmarked (mark ∙ ap (λ (n : ℕ). Some n) (sym one))
        | inr unstamped ↦ absurd (let e : true ≡ false = sym unstamped ∙ stamped in cc)
      ]

  own_behind : (undo : Undo Image) (chain : List (Undo Image)) → stamps place ≡ undo.stamp ∷ stamps_of chain → undo.stamp.mark ≡ id
      → Under last.time chain
  own_behind undo chain e own = elim (cases_Bool (is_unstamped setting state table chunk)) [
    | inl unstamped ↦ under_all last.time chain (λ stamp c.
        writer_before unstamped stamp (shown.place_shows.times_are_writers.behind undo.stamp (stamps_of chain) e stamp c))
    | inr stamped ↦ elim (shown.place_shows.times_are_writers.top undo.stamp (stamps_of chain) e) [
      | inl its ↦ absurd (owner_is_other stamped undo.stamp its own)
      | inr w ↦ absurd (writer_is_other undo.stamp w own)
    ]
  ]

  pub under_own : UnderOwn id last.time place.chain
  under_own = by_chain place.chain refl
    where
      by_chain : (chain : List (Undo Image)) → place.chain ≡ chain → UnderOwn id last.time chain
      by_chain [] e = tt
      by_chain (undo ∷ chain) e = own_behind undo chain (ap (λ (one : List (Undo Image)). stamps_of one) e)
