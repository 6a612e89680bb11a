-- What an open transaction wrote, in order, tells what is own, what was own at a savepoint, and what was written since.
use Rattle.std.proofs.Common.{◌≡◌, ℕ, zero, suc, ◌+◌, ◌*◌, ◌<◌, ◌≤◌, List, [], ◌∷◌, ◌++◌, Option, None, Some, true, false, is_some}
use Rattle.std.proofs.Common.{length, take, drop, refl, ap, sym, ◌∙◌, arith, inl, inr, append_assoc}
use Rattle.std.specs.Prelude.{slice_get, option_and_then}
use Rattle.std.specs.List.{AllByRecursion, flat_map, range_with_len}
use Rattle.std.specs.Option.{option_map, option_or, unwrap_or}
use Rattle.std.proofs.lemmas.Bool.{cases_eq}
use Rattle.std.proofs.lemmas.List.{length-append, append-nil, take-append-drop, take-append-le, drop-append-le, drop_all}
use Rattle.std.proofs.lemmas.Option.{same_Some}
use Rattle.hy_bound.specs.declared.Bound.{Bound}
use Rattle.hy_bound.specs.declared.Bound.TheVariants.{Select, Group, Insert, Update, Delete, Savepoint, RollbackTo, Release}
use Rattle.hy_bound.specs.Savepoints.{Saved, newest, oldest, saved_after, kept_by}
use Rattle.hy_machine.specs.declared.Setting.{Setting}
use Rattle.hy_machine.specs.States.{State, Begun}
use Rattle.hy_machine.specs.Positions.{item_at}
use Rattle.hy_machine.specs.Tables.{Cell, Tables, Own, over}
use Rattle.hy_machine.specs.Writes.{Write, blank_own, with_writes, with_trail, written_chunks}
use Rattle.hy_machine.specs.Visits.{write_of}
use Rattle.hy_machine.specs.Sessions.{snapshot}
use Rattle.hy_machine.specs.Saving.{count_at, own_at, own_since, written_since, write_back_at, taken_back}
use Rattle.hy_machine.specs.Steps.{beginning}
use Rattle.hy_machine.specs.Kept.{OwnFits, TrailFits}
use Rattle.hy_machine.specs.OwnCells.{SamePlaces, IsApart, IsOfOwn, same_places, more_places, fitting_places, writes_fit, blank_fits, blank_at}
use Rattle.hy_machine.specs.OwnCells.{blank_in_chunks, put_there, writes_joined, writes_leave, writes_laid, writes_again, same_chunks}

-- ---- what is kept of an open transaction

-- a transaction that wrote these more
abbrev pub with_more : Begun → List Write → Begun
with_more begun writes = record begun { own = with_writes begun.own writes; trail = with_trail begun.trail writes }

pub with_trail_joined : (trail writes : List Write) → with_trail trail writes ≡ trail ++ writes
with_trail_joined trail [] = sym (append-nil trail)
with_trail_joined trail (write ∷ writes) = with_trail_joined (trail ++ write ∷ []) writes ∙ append_assoc trail (write ∷ []) writes

-- each of these savepoints was made behind so many writes at most
abbrev AreWithin : ℕ → List (Saved ℕ) → Type 0
AreWithin most saved = AllByRecursion (λ (one : Saved ℕ). one.was ≤ most) saved

within_longer : (most more : ℕ) (saved : List (Saved ℕ)) → most ≤ more → AreWithin most saved → AreWithin more saved
within_longer most more [] less within = tt
within_longer most more (one ∷ saved) less within = (omega (arith, less, within.0), within_longer most more saved less within.1)

within_once_more : (most : ℕ) (saved : List (Saved ℕ)) (name : List ℕ) → AreWithin most saved
    → AreWithin most (saved ++ record { name = name; was = most } ∷ [])
within_once_more most [] name within = (omega arith, tt)
within_once_more most (one ∷ saved) name within = (within.0, within_once_more most saved name within.1)

within_taken : (most count : ℕ) (saved : List (Saved ℕ)) → AreWithin most saved → AreWithin most (take count saved)
within_taken most zero saved within = tt
within_taken most (suc count) [] within = tt
within_taken most (suc count) (one ∷ saved) within = (within.0, within_taken most count saved within.1)

within_oldest : (most : ℕ) (saved : List (Saved ℕ)) (count : Option ℕ) → AreWithin most saved → AreWithin most (oldest saved count)
within_oldest most saved None within = within
within_oldest most saved (Some count) within = within_taken most count saved within

within_after : (most : ℕ) (saved : List (Saved ℕ)) (statement : Bound) → AreWithin most saved → AreWithin most (saved_after statement saved most)
within_after most saved (Select tables ons pred items) within = within
within_after most saved (Group table pred key aggregate) within = within
within_after most saved (Insert table row) within = within
within_after most saved (Update table sets pred) within = within
within_after most saved (Delete table pred) within = within
within_after most saved (Savepoint name) within = within_once_more most saved name within
within_after most saved (RollbackTo name) within = within_oldest most saved (option_map suc (newest name saved)) within
within_after most saved (Release name) within = within_oldest most saved (newest name saved) within

-- nothing was written where a transaction begins
pub begins_fit : (setting : Setting) (state : State) → TrailFits setting (beginning setting state)
begins_fit setting state = record { own_is = refl; within = tt }

-- it is kept where a transaction writes, and where its savepoints are those after a statement
pub more_fits : (setting : Setting) (begun : Begun) (writes : List Write) → TrailFits setting begun → TrailFits setting (with_more begun writes)
more_fits setting begun writes fits = record {
  own_is = ap (λ (own : Own). with_writes own writes) fits.own_is
      ∙ (sym (writes_joined (blank_own setting) begun.trail writes)
      ∙ ap (with_writes (blank_own setting)) (sym (with_trail_joined begun.trail writes)));
  within = within_longer (length begun.trail) (length (with_trail begun.trail writes)) begun.saved
      (omega (arith, length-append begun.trail writes, ap length (with_trail_joined begun.trail writes))) fits.within;
}

pub saving_fits : (setting : Setting) (begun : Begun) (statement : Bound) → TrailFits setting begun
    → TrailFits setting (record begun { saved = saved_after statement begun.saved (length begun.trail) })
saving_fits setting begun statement fits =
    record { own_is = fits.own_is; within = within_after (length begun.trail) begun.saved statement fits.within }

-- ---- what was own at a savepoint, and what was written since

-- what is written over nothing has a place for each position
pub trail_fits : (setting : Setting) (writes : List Write) → OwnFits setting (with_writes (blank_own setting) writes)
trail_fits setting writes = writes_fit setting (blank_own setting) writes (blank_fits setting)

-- what is own is what was written behind the first writes of a trail, or else what these wrote
pub trail_laid : (setting : Setting) (trail : List Write) (n table pos : ℕ)
    → item_at (with_writes (blank_own setting) trail) table pos
    ≡ option_or (item_at (with_writes (blank_own setting) (drop n trail)) table pos) (item_at (with_writes (blank_own setting) (take n trail)) table pos)
trail_laid setting trail n table pos =
    let blank : Own = blank_own setting in
    let first : Own = with_writes blank (take n trail) in
    ap (λ (own : Own). item_at own table pos)
    (ap (with_writes blank) (sym (take-append-drop n trail)) ∙ writes_joined blank (take n trail) (drop n trail))
    ∙ writes_laid first blank (item_at first table pos) (drop n trail) table pos (more_places blank blank (take n trail) (same_places blank))
    (sym (ap (λ (one : Option Cell). option_or one (item_at first table pos)) (blank_at setting table pos)))

-- what is own is what was written since the savepoint, or else what was own then
pub own_laid : (setting : Setting) (begun : Begun) (name : List ℕ) → TrailFits setting begun → (table pos : ℕ)
    → item_at begun.own table pos ≡ option_or (item_at (own_since setting begun name) table pos) (item_at (own_at setting begun name) table pos)
own_laid setting begun name fits table pos =
    ap (λ (own : Own). item_at own table pos) fits.own_is ∙ trail_laid setting begun.trail (count_at begun name) table pos

-- where nothing was written since, the same is own as then
pub own_still : (setting : Setting) (begun : Begun) (name : List ℕ) → TrailFits setting begun → (table pos : ℕ)
    → item_at (own_since setting begun name) table pos ≡ None → item_at begun.own table pos ≡ item_at (own_at setting begun name) table pos
own_still setting begun name fits table pos none =
    own_laid setting begun name fits table pos
    ∙ ap (λ (one : Option Cell). option_or one (item_at (own_at setting begun name) table pos)) none

-- where something was written since, that is own
pub since_own : (setting : Setting) (begun : Begun) (name : List ℕ) → TrailFits setting begun → (table pos : ℕ) (cell : Cell)
    → item_at (own_since setting begun name) table pos ≡ Some cell → item_at begun.own table pos ≡ Some cell
since_own setting begun name fits table pos cell is =
    own_laid setting begun name fits table pos
    ∙ ap (λ (one : Option Cell). option_or one (item_at (own_at setting begun name) table pos)) is

-- what was own then is own
pub then_own : (setting : Setting) (begun : Begun) (name : List ℕ) → TrailFits setting begun → (table pos : ℕ)
    → is_some (item_at (own_at setting begun name) table pos) ≡ true → is_some (item_at begun.own table pos) ≡ true
then_own setting begun name fits table pos is =
    ap is_some (own_laid setting begun name fits table pos) ∙ or_own (item_at (own_since setting begun name) table pos)
  where
    or_own : (since : Option Cell) → is_some (option_or since (item_at (own_at setting begun name) table pos)) ≡ true
    or_own None = is
    or_own (Some cell) = refl

-- ---- what is written to go back

kept_within : (most : ℕ) (saved : List (Saved ℕ)) (at n : ℕ) → AreWithin most saved → option_map (λ one. one.was) (slice_get saved at) ≡ Some n
    → n ≤ most
kept_within most [] at n within is = absurd cc
kept_within most (one ∷ saved) zero n within is = omega (arith, within.0, same_Some one.was n is)
kept_within most (one ∷ saved) (suc at) n within is = kept_within most saved at n within.1 is

-- how much was written before a savepoint is within the trail
pub count_within : (setting : Setting) (begun : Begun) (name : List ℕ) (n : ℕ) → TrailFits setting begun → kept_by name begun.saved ≡ Some n
    → n ≤ length begun.trail
count_within setting begun name n fits is = by_number (newest name begun.saved) is
  where
    by_number : (at : Option ℕ) → option_map (λ one. one.was) (option_and_then (slice_get begun.saved) at) ≡ Some n → n ≤ length begun.trail
    by_number None is = absurd cc
    by_number (Some at) is = kept_within (length begun.trail) begun.saved at n fits.within is

-- what is written more leaves what was own then, and is written since
pub then_stays : (setting : Setting) (begun : Begun) (name : List ℕ) (n : ℕ) (writes : List Write) → TrailFits setting begun → kept_by name begun.saved ≡ Some n
    → own_at setting (with_more begun writes) name ≡ own_at setting begun name
then_stays setting begun name n writes fits kept =
    let within : n ≤ length begun.trail = count_within setting begun name n fits kept in
    ap (with_writes (blank_own setting))
    (ap (λ (at : Option ℕ). take (unwrap_or at (length (with_trail begun.trail writes))) (with_trail begun.trail writes)) kept
    ∙ (ap (take n) (with_trail_joined begun.trail writes)
    ∙ (take-append-le n begun.trail writes within ∙ ap (λ (at : Option ℕ). take (unwrap_or at (length begun.trail)) begun.trail) (sym kept))))

pub since_more : (setting : Setting) (begun : Begun) (name : List ℕ) (n : ℕ) (writes : List Write) → TrailFits setting begun → kept_by name begun.saved ≡ Some n
    → own_since setting (with_more begun writes) name ≡ with_writes (own_since setting begun name) writes
since_more setting begun name n writes fits kept =
    let within : n ≤ length begun.trail = count_within setting begun name n fits kept in
    ap (with_writes (blank_own setting))
    (ap (λ (at : Option ℕ). drop (unwrap_or at (length (with_trail begun.trail writes))) (with_trail begun.trail writes)) kept
    ∙ (ap (drop n) (with_trail_joined begun.trail writes)
    ∙ (drop-append-le n begun.trail writes within
    ∙ ap (λ (at : Option ℕ). drop (unwrap_or at (length begun.trail)) begun.trail ++ writes) (sym kept))))
    ∙ writes_joined (blank_own setting) (drop (count_at begun name) begun.trail) writes

-- where no savepoint has the name nothing was written since
pub none_since : (setting : Setting) (begun : Begun) (name : List ℕ) → kept_by name begun.saved ≡ None → written_since setting begun name ≡ []
none_since setting begun name none =
    ap (λ (trail : List Write). written_chunks setting (with_writes (blank_own setting) trail))
    (ap (λ (at : Option ℕ). drop (unwrap_or at (length begun.trail)) begun.trail) none ∙ drop_all (length begun.trail) begun.trail (omega arith))
    ∙ blank_in_chunks setting

-- a write back of a chunk at positions from this one on, so many of them: it is of one that was written since
pub record IsBack (since : Own) (table first many : ℕ) (write : Write) : Type 0 where
  pub table_is : write.table ≡ table
  pub low : first ≤ write.pos
  pub high : write.pos < first + many
  pub there : is_some (item_at since table write.pos) ≡ true

backs_sooner : (since : Own) (table first many : ℕ) (writes : List Write) → AllByRecursion (IsBack since table (first + 1) many) writes
    → AllByRecursion (IsBack since table first (suc many)) writes
backs_sooner since table first many [] all = tt
backs_sooner since table first many (write ∷ writes) all = (
  record { table_is = all.0.table_is; low = omega (arith, all.0.low); high = omega (arith, all.0.high); there = all.0.there },
  backs_sooner since table first many writes all.1,
)

backs_in : (seen : Tables) (since : Own) (table first many : ℕ)
    → AllByRecursion (IsBack since table first many) (flat_map (write_back_at seen since table) (range_with_len first many))
backs_in seen since table first zero = tt
backs_in seen since table first (suc many) =
    one_more (item_at since table first) refl
    (backs_sooner since table first many (flat_map (write_back_at seen since table) (range_with_len (first + 1) many))
    (backs_in seen since table (first + 1) many))
  where
    rest : List Write
    rest = flat_map (write_back_at seen since table) (range_with_len (first + 1) many)

    one_more : (own : Option Cell) → item_at since table first ≡ own → AllByRecursion (IsBack since table first (suc many)) rest
        → AllByRecursion (IsBack since table first (suc many)) (write_of table first (option_map (λ own. item_at seen table first) own) ++ rest)
    one_more None e all = all
    one_more (Some cell) e all = (record { table_is = refl; low = omega arith; high = omega arith; there = ap is_some e }, all)

backs_own : (since : Own) (table first many : ℕ) (writes : List Write) → AllByRecursion (IsBack since table first many) writes
    → AllByRecursion (IsOfOwn since) writes
backs_own since table first many [] all = tt
backs_own since table first many (write ∷ writes) all = (
  ap (λ (n : ℕ). is_some (item_at since n write.pos)) all.0.table_is ∙ all.0.there,
  backs_own since table first many writes all.1,
)

backs_apart : (since : Own) (table first many other pos : ℕ) (writes : List Write)
    → (other ≡ table → first ≤ pos → pos < first + many → is_some (item_at since table pos) ≡ true → ⊥)
    → AllByRecursion (IsBack since table first many) writes → AllByRecursion (IsApart other pos) writes
backs_apart since table first many other pos [] apart all = tt
backs_apart since table first many other pos (write ∷ writes) apart all = (
  (λ e. apart (e.0 ∙ all.0.table_is) (omega (arith, e.1, all.0.low)) (omega (arith, e.1, all.0.high))
      (ap (λ (n : ℕ). is_some (item_at since table n)) e.1 ∙ all.0.there)),
  backs_apart since table first many other pos writes apart all.1,
)

-- each is written at a position that was written since
pub back_since : (setting : Setting) (state : State) (begun : Begun) (name : List ℕ) (table chunk : ℕ)
    → AllByRecursion (IsOfOwn (own_since setting begun name)) (taken_back setting state begun name table chunk)
back_since setting state begun name table chunk =
    let since : Own = own_since setting begun name in
    let seen : Tables = over (snapshot setting state begun.prefix) (own_at setting begun name) in
    backs_own since table (chunk * setting.rows) setting.rows (taken_back setting state begun name table chunk)
    (backs_in seen since table (chunk * setting.rows) setting.rows)

-- so that the chunks that were written since stay
pub back_stays : (setting : Setting) (state : State) (begun : Begun) (name : List ℕ) (visited : ℕ) (chunk : ℕ × ℕ) → TrailFits setting begun
    → slice_get (written_since setting begun name) visited ≡ Some chunk
    → written_since setting (with_more begun (taken_back setting state begun name chunk.0 chunk.1)) name ≡ written_since setting begun name
back_stays setting state begun name visited chunk fits here = by_kept (kept_by name begun.saved) refl
  where
    writes : List Write
    writes = taken_back setting state begun name chunk.0 chunk.1

    by_kept : (at : Option ℕ) → kept_by name begun.saved ≡ at → written_since setting (with_more begun writes) name ≡ written_since setting begun name
    by_kept None none =
        let never : None ≡ Some chunk = sym (ap (λ (chunks : List (ℕ × ℕ)). slice_get chunks visited) (none_since setting begun name none)) ∙ here in
        absurd cc
    by_kept (Some n) kept =
        let since : Own = own_since setting begun name in
        ap (written_chunks setting) (since_more setting begun name n writes fits kept)
        ∙ same_chunks setting (with_writes since writes) since
        ((writes_fit setting since writes (trail_fits setting (drop (count_at begun name) begun.trail))).tables
        ∙ sym (trail_fits setting (drop (count_at begun name) begun.trail)).tables)
        (λ table pos. writes_again since writes table pos (back_since setting state begun name chunk.0 chunk.1))

backs_seen : (seen : Tables) (since own : Own) (table first many pos : ℕ) → SamePlaces own since → first ≤ pos → pos < first + many
    → is_some (item_at since table pos) ≡ true
    → item_at (with_writes own (flat_map (write_back_at seen since table) (range_with_len first many))) table pos ≡ Some (item_at seen table pos)
backs_seen seen since own table first zero pos same low high is = absurd (omega (arith, low, high))
backs_seen seen since own table first (suc many) pos same low high is =
    ap (λ (own : Own). item_at own table pos) (writes_joined own (write_back_at seen since table first) rest) ∙ elim (cases_eq pos first) [
      | inl e ↦
          writes_leave (with_writes own (write_back_at seen since table first)) rest table pos
          (backs_apart since table (first + 1) many table pos rest (λ same more less is. omega (arith, e, more)) (backs_in seen since table (first + 1) many))
          ∙ (ap (λ (n : ℕ). item_at (with_writes own (write_back_at seen since table n)) table pos) (sym e) ∙ here (item_at since table pos) refl)
      | inr n ↦
          backs_seen seen since (with_writes own (write_back_at seen since table first)) table (first + 1) many pos
          (more_places own since (write_back_at seen since table first) same) (omega (arith, low, n)) (omega (arith, high)) is
    ]
  where
    rest : List Write
    rest = flat_map (write_back_at seen since table) (range_with_len (first + 1) many)

    here : (there : Option Cell) → item_at since table pos ≡ there
        → item_at (with_writes own (write_of table pos (option_map (λ own. item_at seen table pos) there))) table pos ≡ Some (item_at seen table pos)
    here None e = absurd (let never : false ≡ true = ap is_some (sym e) ∙ is in cc)
    here (Some cell) e = put_there own since table pos (item_at seen table pos) same is

-- a position of the chunk that was written since has what was seen there then
pub back_seen : (setting : Setting) (state : State) (begun : Begun) (name : List ℕ) (own : Own) (table chunk pos : ℕ) → OwnFits setting own
    → chunk * setting.rows ≤ pos → pos < chunk * setting.rows + setting.rows
    → is_some (item_at (own_since setting begun name) table pos) ≡ true
    → item_at (with_writes own (taken_back setting state begun name table chunk)) table pos
    ≡ Some (item_at (over (snapshot setting state begun.prefix) (own_at setting begun name)) table pos)
back_seen setting state begun name own table chunk pos fits low high is =
    let since : Own = own_since setting begun name in
    let seen : Tables = over (snapshot setting state begun.prefix) (own_at setting begun name) in
    backs_seen seen since own table (chunk * setting.rows) setting.rows pos
    (fitting_places setting own since fits (trail_fits setting (drop (count_at begun name) begun.trail))) low high is

-- and every other position stays
pub back_leaves : (setting : Setting) (state : State) (begun : Begun) (name : List ℕ) (own : Own) (table chunk other pos : ℕ)
    → (other ≡ table → chunk * setting.rows ≤ pos → pos < chunk * setting.rows + setting.rows
    → item_at (own_since setting begun name) table pos ≡ None)
    → item_at (with_writes own (taken_back setting state begun name table chunk)) other pos ≡ item_at own other pos
back_leaves setting state begun name own table chunk other pos none =
    let since : Own = own_since setting begun name in
    let seen : Tables = over (snapshot setting state begun.prefix) (own_at setting begun name) in
    writes_leave own (taken_back setting state begun name table chunk) other pos
    (backs_apart since table (chunk * setting.rows) setting.rows other pos (taken_back setting state begun name table chunk)
    (λ same low high is. let never : false ≡ true = ap is_some (sym (none same low high)) ∙ is in absurd cc)
    (backs_in seen since table (chunk * setting.rows) setting.rows))
