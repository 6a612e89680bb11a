-- A begun transaction stays begun along steps, with its start, and what it wrote stays written.
use Rattle.std.proofs.Common.{◌≡◌, ℕ, zero, suc, ◌<◌, List, [], ◌∷◌, ◌++◌, Option, None, Some, true, is_some, get_or, length, refl, ap, sym, ◌∙◌}
use Rattle.std.proofs.Common.{subst, arith}
use Rattle.std.proofs.Common.{inl, inr}
use Rattle.std.proofs.Math.ListN.{set}
use Rattle.std.specs.Prelude.{slice_get}
use Rattle.std.specs.Option.{option_map}
use Rattle.std.proofs.lemmas.List.{get_or-set_same, append-nil}
use Rattle.std.proofs.lemmas.Option.{same_Some}
use Rattle.hy_bound.specs.declared.Txn.{Txn}
use Rattle.hy_bound.specs.declared.Ending.{Ending}
use Rattle.hy_machine.specs.declared.Setting.{Setting}
use Rattle.hy_protocol.specs.declared.Phase.TheVariants.{Stamping}
use Rattle.hy_machine.specs.States.{State, Session, Open, Begun, Finished}
use Rattle.hy_machine.specs.Tables.{Entry, Cell, Own}
use Rattle.hy_machine.specs.Writes.{Write, with_write, with_writes}
use Rattle.hy_protocol.specs.Turns.{Turn, Done, Waits, Begins, Visits, Answers, Saves, Enters, Ends}
use Rattle.hy_machine.specs.Turns.{session_turn}
use Rattle.hy_machine.specs.Positions.{item_at}
use Rattle.hy_machine.specs.Sessions.{session_at, txn_at, entry_of}
use Rattle.hy_machine.specs.Steps.{with_open, beginning, with_changed, with_ended, after_visit, after_answer, after_saving, order_with, after_turn, step_of}
use Rattle.hy_lawful.proofs.Fits.{Fits}
use Rattle.hy_lawful.proofs.Moves.{moved_to, sessions_moved}
use Rattle.hy_lawful.proofs.PassHolds.{write_cases}
use Rattle.hy_lawful.proofs.Reached.{is_there}
use Rattle.hy_lawful.proofs.FullStarts.{Later, begins_fresh, step_later}

-- ---- what is written stays written

item_there : (own : Own) (table pos : ℕ) → is_some (item_at own table pos) ≡ true → (table < length own) × (pos < length (get_or own table []))
item_there [] table pos e = absurd cc
item_there (items ∷ own) zero pos e = (omega arith, in_items items pos e)
  where
    in_items : (items : List (Option Cell)) (pos : ℕ) → is_some (get_or items pos None) ≡ true → pos < length items
    in_items [] pos e = absurd cc
    in_items (item ∷ items) zero e = omega arith
    in_items (item ∷ items) (suc pos) e = omega (arith, in_items items pos e)
item_there (items ∷ own) (suc table) pos e = let h = item_there own table pos e in (omega (arith, h.0), h.1)

write_kept : (own : Own) (write : Write) (table pos : ℕ) → is_some (item_at own table pos) ≡ true → is_some (item_at (with_write own write) table pos) ≡ true
write_kept own write table pos e = elim (write_cases own write table pos) [
  | inl same ↦ ap is_some same ∙ e
  | inr here ↦ subst (λ (t : ℕ). is_some (item_at (with_write own write) t pos) ≡ true) (sym here.0)
      (subst (λ (p : ℕ). is_some (item_at (with_write own write) write.table p) ≡ true) (sym here.1) (at_write
      (subst (λ (t : ℕ). is_some (item_at own t write.pos) ≡ true) here.0 (subst (λ (p : ℕ). is_some (item_at own table p) ≡ true) here.1 e))))
]
  where
    at_write : is_some (item_at own write.table write.pos) ≡ true → is_some (item_at (with_write own write) write.table write.pos) ≡ true
    at_write e =
        let there = item_there own write.table write.pos e in
        ap (λ (items : List (Option Cell)). is_some (get_or items write.pos None))
        (get_or-set_same own write.table (set (get_or own write.table []) write.pos (Some write.cell)) [] there.0)
        ∙ ap is_some (get_or-set_same (get_or own write.table []) write.pos (Some write.cell) None there.1)

writes_kept : (writes : List Write) (own : Own) (table pos : ℕ) → is_some (item_at own table pos) ≡ true
    → is_some (item_at (with_writes own writes) table pos) ≡ true
writes_kept [] own table pos e = e
writes_kept (write ∷ writes) own table pos e = writes_kept writes (with_write own write) table pos (write_kept own write table pos e)

-- ---- begun transactions

abbrev pub beguns_from : List Finished → Option Open → List Begun
beguns_from [] None = []
beguns_from [] (Some current) = current.begun ∷ []
beguns_from (finished ∷ done) now = finished.begun ∷ beguns_from done now

abbrev pub beguns_of : Session → List Begun
beguns_of session = beguns_from session.done session.now

-- a session has begun this transaction, with so many before it
abbrev pub HasBegun : State → ℕ → ℕ → Begun → Type 0
HasBegun state number before begun = slice_get (beguns_of (session_at state number)) before ≡ Some begun

pub ended_begun : (done : List Finished) (now : Option Open) (before : ℕ) (finished : Finished) → slice_get done before ≡ Some finished
    → slice_get (beguns_from done now) before ≡ Some finished.begun
ended_begun [] now before finished e = absurd cc
ended_begun (first ∷ done) now zero finished e = ap (λ (f : Finished). Some f.begun) (same_Some first finished e)
ended_begun (first ∷ done) now (suc before) finished e = ended_begun done now before finished e

pub open_begun : (done : List Finished) (current : Open) → slice_get (beguns_from done (Some current)) (length done) ≡ Some current.begun
open_begun [] current = refl
open_begun (first ∷ done) current = open_begun done current

-- a transaction that has gone on
pub record GoneOn (begun later : Begun) : Type 0 where
  pub prefix : later.prefix ≡ begun.prefix
  pub wrote : (table pos : ℕ) → is_some (item_at begun.own table pos) ≡ true → is_some (item_at later.own table pos) ≡ true

gone_none : (begun later : Begun) → begun ≡ later → GoneOn begun later
gone_none begun later e = record {
  prefix = ap (λ (b : Begun). b.prefix) (sym e);
  wrote = λ table pos w. subst (λ (b : Begun). is_some (item_at b.own table pos) ≡ true) e w;
}

pub record StillHas (beguns : List Begun) (before : ℕ) (begun : Begun) : Type 0 where
  pub later : Begun
  pub has : slice_get beguns before ≡ Some later
  pub gone : GoneOn begun later

still_same : (beguns others : List Begun) → others ≡ beguns → (before : ℕ) (begun : Begun) → slice_get beguns before ≡ Some begun
    → StillHas others before begun
still_same beguns others same before begun e =
    record { later = begun; has = ap (λ (l : List Begun). slice_get l before) same ∙ e; gone = gone_none begun begun refl }

changed_still : (change : Open → Open) → ((current : Open) → GoneOn current.begun (change current).begun) → (done : List Finished) (now : Option Open)
    (before : ℕ) (begun : Begun) → slice_get (beguns_from done now) before ≡ Some begun
    → StillHas (beguns_from done (option_map change now)) before begun
changed_still change gone [] None before begun e = absurd cc
changed_still change gone [] (Some current) zero begun e =
    record {
      later = (change current).begun;
      has = refl;
      gone = subst (λ (b : Begun). GoneOn b (change current).begun) (same_Some current.begun begun e) (gone current);
    }
changed_still change gone [] (Some current) (suc before) begun e = absurd cc
changed_still change gone (finished ∷ done) now zero begun e =
    record { later = finished.begun; has = refl; gone = gone_none begun finished.begun (sym (same_Some finished.begun begun e)) }
changed_still change gone (finished ∷ done) now (suc before) begun e =
    let rest : StillHas (beguns_from done (option_map change now)) before begun = changed_still change gone done now before begun e in
    record { later = rest.later; has = rest.has; gone = rest.gone }

ended_beguns : (ending : Ending) (done : List Finished) (current : Open)
    → beguns_from (done ++ record { begun = current.begun; ending = ending } ∷ []) None ≡ beguns_from done (Some current)
ended_beguns ending [] current = refl
ended_beguns ending (finished ∷ done) current = ap (λ (l : List Begun). finished.begun ∷ l) (ended_beguns ending done current)

ends_beguns : (ending : Ending) (done : List Finished) (now : Option Open)
    → beguns_of (with_ended ending (record { done = done; now = now })) ≡ beguns_of (record { done = done; now = now })
ends_beguns ending done None = refl
ends_beguns ending done (Some current) = ended_beguns ending done current

begun_still : (new : Open) (done : List Finished) (before : ℕ) (begun : Begun) → slice_get (beguns_from done None) before ≡ Some begun
    → slice_get (beguns_from done (Some new)) before ≡ Some begun
begun_still new [] before begun e = absurd cc
begun_still new (finished ∷ done) zero begun e = e
begun_still new (finished ∷ done) (suc before) begun e = begun_still new done before begun e

-- ---- steps

-- a state that comes after a step
pub record Goes (state later : State) : Type 0 where
  pub starts : Later state later
  pub entries : List Entry
  pub order : later.order ≡ state.order ++ entries
  pub keeps : (number before : ℕ) (begun : Begun) → HasBegun state number before begun → StillHas (beguns_of (session_at later number)) before begun

pub goes_nowhere : (state : State) → Later state state → Goes state state
goes_nowhere state l = record {
  starts = l;
  entries = [];
  order = sym (append-nil state.order);
  keeps = λ number before begun e. still_same (beguns_of (session_at state number)) (beguns_of (session_at state number)) refl before begun e;
}

goes_moved : (state : State) (order entries : List Entry) (mark : Option ℕ) (number : ℕ) (session : Session) → number < length state.sessions
    → Later state (moved_to state order mark number session) → order ≡ state.order ++ entries
    → ((before : ℕ) (begun : Begun) → HasBegun state number before begun → StillHas (beguns_of session) before begun)
    → Goes state (moved_to state order mark number session)
goes_moved state order entries mark number session there l same keeps = record {
  starts = l;
  entries = entries;
  order = same;
  keeps = sessions_moved (λ other one. (before : ℕ) (begun : Begun) → HasBegun state other before begun → StillHas (beguns_of one) before begun)
      state order mark number session there keeps
      (λ other apart before begun e. still_same (beguns_of (session_at state other)) (beguns_of (session_at state other)) refl before begun e);
}

order_entries : (setting : Setting) (state : State) (number : ℕ) (now : Option Open)
    → (entries : List Entry) × (order_with setting state number now ≡ state.order ++ entries)
order_entries setting state number None = ([], sym (append-nil state.order))
order_entries setting state number (Some current) = (entry_of setting state number current.begun ∷ [], refl)

gone_writes : (begun : Begun) (writes : List Write) (later : Begun) → later.prefix ≡ begun.prefix → later.own ≡ with_writes begun.own writes
    → GoneOn begun later
gone_writes begun writes later p o = record {
  prefix = p;
  wrote = λ table pos w. ap (λ (own : Own). is_some (item_at own table pos)) o ∙ writes_kept writes begun.own table pos w;
}

turn_goes : (setting : Setting) (state : State) (number : ℕ) → number < length state.sessions → (turn : Turn Write)
    → (turn ≡ Begins → (session_at state number).now ≡ None) → Later state (after_turn setting state number turn).0
    → Goes state (after_turn setting state number turn).0
turn_goes setting state number there Done h l = goes_nowhere state l
turn_goes setting state number there (Waits by) h l = goes_nowhere state l
turn_goes setting state number there Begins h l =
    goes_moved state state.order [] state.mark number (with_open (beginning setting state) (session_at state number)) there l (sym (append-nil state.order))
    (λ before begun e. record {
      later = begun;
      has = begun_still _ (session_at state number).done before begun
          (subst (λ (now : Option Open). slice_get (beguns_from (session_at state number).done now) before ≡ Some begun) (h refl) e);
      gone = gone_none begun begun refl;
    })
turn_goes setting state number there (Visits writes phase) h l =
    goes_moved state state.order [] state.mark number (with_changed (after_visit writes phase) (session_at state number)) there l
    (sym (append-nil state.order))
    (changed_still (after_visit writes phase) (λ current. gone_writes current.begun writes (after_visit writes phase current).begun refl refl)
    (session_at state number).done (session_at state number).now)
turn_goes setting state number there (Answers writes reply took records) h l =
    goes_moved state state.order [] state.mark number (with_changed (after_answer writes reply took records) (session_at state number)) there l
    (sym (append-nil state.order))
    (changed_still (after_answer writes reply took records)
    (λ current. gone_writes current.begun writes (after_answer writes reply took records current).begun refl refl)
    (session_at state number).done (session_at state number).now)
turn_goes setting state number there (Saves statement reply) h l =
    goes_moved state state.order [] state.mark number (with_changed (after_saving statement reply) (session_at state number)) there l
    (sym (append-nil state.order))
    (changed_still (after_saving statement reply)
    (λ current. gone_writes current.begun [] (after_saving statement reply current).begun refl refl)
    (session_at state number).done (session_at state number).now)
turn_goes setting state number there Enters h l =
    let more = order_entries setting state number (session_at state number).now in
    goes_moved state (order_with setting state number (session_at state number).now) more.0 (Some number) number
    (with_changed (after_visit [] (Stamping 0)) (session_at state number)) there l more.1
    (changed_still (after_visit [] (Stamping 0)) (λ current. gone_writes current.begun [] (after_visit [] (Stamping 0) current).begun refl refl)
    (session_at state number).done (session_at state number).now)
turn_goes setting state number there (Ends ending) h l =
    goes_moved state state.order [] None number (with_ended ending (session_at state number)) there l (sym (append-nil state.order))
    (still_same (beguns_of (session_at state number)) (beguns_of (with_ended ending (session_at state number)))
    (ends_beguns ending (session_at state number).done (session_at state number).now))

by_txn : (setting : Setting) (state : State) (number : ℕ) → Fits setting state → (txn : Option Txn) → txn_at setting number (session_at state number) ≡ txn
    → Later state (after_turn setting state number (session_turn setting state number txn (session_at state number).now)).0
    → Goes state (after_turn setting state number (session_turn setting state number txn (session_at state number).now)).0
by_txn setting state number fits None e l = goes_nowhere state l
by_txn setting state number fits (Some txn) e l =
    turn_goes setting state number (is_there setting state number txn fits e) (session_turn setting state number (Some txn) (session_at state number).now)
    (begins_fresh setting state number txn fits e (session_at state number).now refl) l

pub step_goes : (setting : Setting) (state : State) (number : ℕ) → Fits setting state → Goes state (step_of setting state number).0
step_goes setting state number fits =
    by_txn setting state number fits (txn_at setting number (session_at state number)) refl (step_later setting state number fits)
