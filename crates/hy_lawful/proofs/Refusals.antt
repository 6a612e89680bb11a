-- Why a statement is refused, and why validation refuses a transaction.
use Rattle.std.proofs.Common.{◌≡◌, ℕ, zero, suc, ◌+◌, ◌≤◌, List, [], ◌∷◌, Option, None, Some, Bool, true, false, Result}
use Rattle.std.proofs.Common.{Ok, Err, map, cond, refl, subst, arith, inl, inr}
use Rattle.std.specs.Option.{option_map}
use Rattle.std.specs.Prelude.{◌&&◌, ◌==◌}
use Rattle.std.specs.List.{AllByRecursion, range_with_len}
use Rattle.hy_bound.specs.Records.{is_hit}
use Rattle.std.proofs.lemmas.Option.{same_Some}
use Rattle.hy_value.specs.declared.Value.{Value}
use Rattle.hy_bound.specs.declared.Record.{Record}
use Rattle.hy_bound.specs.declared.WriteKind.{WriteKind}
use Rattle.hy_bound.specs.declared.WriteKind.TheVariants as kind
use Rattle.hy_bound.specs.Condition.{Condition}
use Rattle.hy_bound.specs.Predicate.{truth_of}
use Rattle.hy_value.specs.declared.change.Change.{Change}
use Rattle.hy_stamp.specs.declared.Label.{Label}
use Rattle.hy_bound.specs.declared.Ending.{Ending}
use Rattle.hy_bound.specs.declared.Ending.TheVariants.{Committed, Read, RolledBack, Conflict, Invalid, Range, Full}
use Rattle.hy_machine.specs.Tables.{Entry, Cell}
use Rattle.hy_machine.specs.Writes.{Write}
use Rattle.hy_machine.specs.Visits.{new_cell, judged, verdict, and_write, sweep}
use Rattle.hy_machine.specs.Validation.{committed_of, record_hit, invalid_at, change_hits, hit_among, first_hit}
use Rattle.hy_lawful.proofs.Lists.{or_some}
use Rattle.hy_lawful.proofs.Fits.{label_at}

-- ---- statements

abbrev pub IsSet : WriteKind → Type 0
IsSet (kind.Set sets) = Unit {0}
IsSet kind.Delete = ⊥

-- a position of a table is refused: by an opponent, or since a value that is set is out of range
abbrev pub Refuses : WriteKind → ℕ → ℕ → Option Label → Ending → Type 0
Refuses kind table pos opponent (Committed rank) = ⊥
Refuses kind table pos opponent Read = ⊥
Refuses kind table pos opponent RolledBack = ⊥
Refuses kind table pos opponent (Conflict of at other) = (table ≡ of) × (opponent ≡ Some other) × (pos ≡ at)
Refuses kind table pos opponent (Invalid of at other statement) = ⊥
Refuses kind table pos opponent (Range of at) = (table ≡ of) × IsSet kind
Refuses kind table pos opponent (Full of) = ⊥

none_new : (kind : WriteKind) (row : List Value) → new_cell kind row ≡ None → IsSet kind
none_new (kind.Set sets) row e = tt
none_new kind.Delete row e = absurd cc

judged_refuses : (kind : WriteKind) (table pos : ℕ) (opponent : Option Label) (row : List Value) (cell : Option Cell) (cause : Ending)
    → new_cell kind row ≡ cell
    → judged table pos opponent cell ≡ Err cause → Refuses kind table pos opponent cause
judged_refuses kind table pos (Some other) row cell cause n e =
    let same : Conflict table pos other ≡ cause = cc in subst (Refuses kind table pos (Some other)) same (refl, refl, refl)
judged_refuses kind table pos None row None cause n e =
    let same : Range table pos ≡ cause = cc in subst (Refuses kind table pos None) same (refl, none_new kind row n)
judged_refuses kind table pos None row (Some cell) cause n e = absurd cc

pub verdict_refuses : (kind : WriteKind) (pred : Condition) (table pos : ℕ) (opponent : Option Label) (cell : Cell) (cause : Ending)
    → verdict kind pred table pos opponent cell ≡ Err cause → Refuses kind table pos opponent cause
verdict_refuses kind pred table pos opponent None cause e = absurd cc
verdict_refuses kind pred table pos opponent (Some row) cause e = by_truth (truth_of pred row) e
  where
    by_truth : (b : Bool) → cond b (judged table pos opponent (new_cell kind row)) (Ok None) ≡ Err cause → Refuses kind table pos opponent cause
    by_truth true h = judged_refuses kind table pos opponent row (new_cell kind row) cause refl h
    by_truth false h = absurd cc

pub and_refuses : (P : Ending → Type 0) (table pos : ℕ) (here : Result (Option Cell) Ending) (others : Result (List Write) Ending) (cause : Ending)
    → ((one : Ending) → here ≡ Err one → P one) → (others ≡ Err cause → P cause) → and_write table pos here others ≡ Err cause → P cause
and_refuses P table pos (Err one) others cause f g e = let same : one ≡ cause = cc in subst P same (f one refl)
and_refuses P table pos (Ok cell) (Err one) cause f g e = g e
and_refuses P table pos (Ok cell) (Ok writes) cause f g e = absurd cc

-- a visit is refused as one of its positions is
pub sweep_refuses : (P : Ending → Type 0) (table : ℕ) (judge : ℕ → Result (Option Cell) Ending) (positions : List ℕ) (cause : Ending)
    → ((pos : ℕ) (one : Ending) → judge pos ≡ Err one → P one) → sweep table judge positions ≡ Err cause → P cause
sweep_refuses P table judge [] cause f e = absurd cc
sweep_refuses P table judge (pos ∷ positions) cause f e =
    and_refuses P table pos (judge pos) (sweep table judge positions) cause (f pos) (sweep_refuses P table judge positions cause f) e

-- the same of a visit of the positions from one on
pub range_refuses : (P : Ending → Type 0) (table : ℕ) (judge : ℕ → Result (Option Cell) Ending) (first many : ℕ) (cause : Ending)
    → ((pos : ℕ) (one : Ending) → first ≤ pos → judge pos ≡ Err one → P one) → sweep table judge (range_with_len first many) ≡ Err cause → P cause
range_refuses P table judge first zero cause f e = absurd cc
range_refuses P table judge first (suc many) cause f e =
    and_refuses P table first (judge first) (sweep table judge (range_with_len (first + 1) many)) cause (λ one. f first one (omega arith))
    (range_refuses P table judge (first + 1) many cause (λ pos one from. f pos one (omega (arith, from)))) e

-- a position is refused whose row is selected: by an opponent, or since a value goes out of range
pub verdict_fails : (P : Ending → Type 0) (kind : WriteKind) (pred : Condition) (table pos : ℕ) (opponent : Option Label) (cell : Cell) (cause : Ending)
    → ((row : List Value) (other : Label) → cell ≡ Some row → truth_of pred row ≡ true → opponent ≡ Some other → P (Conflict table pos other))
    → ((row : List Value) → cell ≡ Some row → truth_of pred row ≡ true → new_cell kind row ≡ None → P (Range table pos))
    → verdict kind pred table pos opponent cell ≡ Err cause → P cause
verdict_fails P kind pred table pos opponent None cause f g e = absurd cc
verdict_fails P kind pred table pos opponent (Some row) cause f g e = by_truth (truth_of pred row) refl e
  where
    by_judge : truth_of pred row ≡ true → (other : Option Label) → opponent ≡ other → (new : Option Cell) → new_cell kind row ≡ new
        → judged table pos other new ≡ Err cause → P cause
    by_judge t (Some other) o new n h = let same : Conflict table pos other ≡ cause = cc in subst P same (f row other refl t o)
    by_judge t None o None n h = let same : Range table pos ≡ cause = cc in subst P same (g row refl t n)
    by_judge t None o (Some new) n h = absurd cc

    by_truth : (b : Bool) → truth_of pred row ≡ b → cond b (judged table pos opponent (new_cell kind row)) (Ok None) ≡ Err cause → P cause
    by_truth true t h = by_judge t opponent refl (new_cell kind row) refl h
    by_truth false t h = absurd cc

-- ---- validation

-- a statement that is hit has a record
record_is : (Q : ℕ → Type 0) (records : List Record) (table : ℕ) (before after : Cell) (statement : ℕ)
    → AllByRecursion (λ (of : Record). Q of.statement) records
    → record_hit records table before after ≡ Some statement → Q statement
record_is Q [] table before after statement h e = absurd cc
record_is Q (of ∷ others) table before after statement h e =
    by_hit (of.table == table && is_hit of before after) (record_is Q others table before after statement h.1) e
  where
    by_hit : (b : Bool) → (record_hit others table before after ≡ Some statement → Q statement)
        → cond b (Some of.statement) (record_hit others table before after) ≡ Some statement → Q statement
    by_hit true f k = subst Q (same_Some of.statement statement k) h.0
    by_hit false f k = f k

hits_are : (P : Ending → Type 0) (Q : ℕ → Type 0) (records : List Record) (other : Label) (changes : List Change) (cause : Ending)
    → AllByRecursion (λ (of : Record). Q of.statement) records → ((table pos statement : ℕ) → Q statement → P (Invalid table pos other statement))
    → hit_among records other changes ≡ Some cause → P cause
hits_are P Q records other [] cause q f e = absurd cc
hits_are P Q records other (change ∷ changes) cause q f e = elim (or_some (change_hits records other change) (hit_among records other changes) cause e) [
  | inl h ↦ by_hit (record_hit records change.table change.before change.after) refl h
  | inr h ↦ hits_are P Q records other changes cause q f h
]
  where
    by_hit : (hit : Option ℕ) → record_hit records change.table change.before change.after ≡ hit
        → option_map (invalid_at other change.table change.pos) hit ≡ Some cause → P cause
    by_hit None k h = absurd cc
    by_hit (Some statement) k h = subst P (same_Some (Invalid change.table change.pos other statement) cause h)
        (f change.table change.pos statement (record_is Q records change.table change.before change.after statement q k))

-- the transaction that invalidates another one has an entry, and the statement that it hits a record
pub first_hit_is : (P : Ending → Type 0) (Q : ℕ → Type 0) (records : List Record) (entries : List Entry) (cause : Ending)
    → AllByRecursion (λ (of : Record). Q of.statement) records
    → ((i : ℕ) (label : Label) → label_at entries i ≡ Some label → (table pos statement : ℕ) → Q statement → P (Invalid table pos label statement))
    → first_hit records (map committed_of entries) ≡ Some cause → P cause
first_hit_is P Q records [] cause q f e = absurd cc
first_hit_is P Q records (entry ∷ entries) cause q f e =
    elim (or_some (hit_among records entry.label (committed_of entry).changes) (first_hit records (map committed_of entries)) cause e) [
      | inl h ↦ hits_are P Q records entry.label (committed_of entry).changes cause q (f 0 entry.label refl) h
      | inr h ↦ first_hit_is P Q records entries cause q (λ i label. f (suc i) label) h
    ]

pub any_record : (records : List Record) → AllByRecursion (λ (of : Record). Unit {0}) records
any_record [] = tt
any_record (of ∷ records) = (tt, any_record records)

-- what validation refuses is invalid
pub is_invalid : (P : Ending → Type 0) (records : List Record) (entries : List Entry) (cause : Ending)
    → ((table pos : ℕ) (label : Label) (statement : ℕ) → P (Invalid table pos label statement)) → first_hit records (map committed_of entries) ≡ Some cause
    → P cause
is_invalid P records entries cause f e =
    first_hit_is P (λ (number : ℕ). Unit {0}) records entries cause (any_record records) (λ i label at table pos statement q. f table pos label statement) e
