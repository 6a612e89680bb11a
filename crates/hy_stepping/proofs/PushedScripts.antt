-- A script that is a line longer: it has what it had, it fits where the line fits, and it is of its tables' types where the line is.
use Rattle.std.proofs.Common.{◌≡◌, ◌≢◌, ℕ, zero, suc, ◌<◌, ◌*◌, List, [], ◌∷◌, ◌++◌, length, set, refl, sym, ap, subst, arith, inl, inr, Bool, Some}
use Rattle.std.specs.Prelude.{slice_get}
use Rattle.std.specs.List.{All}
use Rattle.std.proofs.lemmas.Bool.{cases_lt}
use Rattle.std.proofs.lemmas.List.{length-set, length_push, set_past}
use Rattle.std.proofs.lemmas.List.Elements.{All-nil, All-cons, All-head, All-tail, All-push, All-set, All-get_or}
use Rattle.hy_value.specs.declared.Kind.{Kind}
use Rattle.hy_bound.specs.declared.Bound.{Bound}
use Rattle.hy_bound.specs.declared.Shape.{Shape}
use Rattle.hy_bound.specs.declared.Txn.{Txn}
use Rattle.hy_bound.specs.Fits.{Fits, FitsSession, FitsStatement, FitsTxn, MayStand}
use Rattle.hy_machine.specs.declared.Setting.{Setting}
use Rattle.hy_machine.specs.States.{State}
use Rattle.hy_machine.specs.Sessions.{program_of, session_at}
use Rattle.hy_event.specs.declared.lines.SessionLine.{SessionLine}
use Rattle.hy_event.specs.declared.lines.SessionLine.TheVariants.{Begin, Statement, Commit, Rollback}
use Rattle.hy_event.specs.Lines.{with_last, opened, with_statement, committing, grown}
use Rattle.hy_growing.specs.Growing.{pushed, IsReady}
use Rattle.hy_stepping.specs.Typed.{IsTypedIn, IsTypedTxn}
use Rattle.hy_stepping.specs.Pushed.{OfLast, FitsNext, FitsLine, IsTypedLine, LinesAreRunnable, LinesAreTyped}

-- ---- lists in which one element is another one

pub got_set : {A : Type 0} (xs : List A) (k : ℕ) (x y : A) → slice_get xs k ≡ Some x → slice_get (set xs k y) k ≡ Some y
got_set [] k x y e = absurd cc
got_set (z ∷ xs) zero x y e = refl
got_set (z ∷ xs) (suc k) x y e = got_set xs k x y e

pub got_other : {A : Type 0} (xs : List A) (k other : ℕ) (y : A) → other ≢ k → slice_get (set xs k y) other ≡ slice_get xs other
got_other [] k other y apart = refl
got_other (z ∷ xs) zero zero y apart = absurd (apart refl)
got_other (z ∷ xs) zero (suc other) y apart = refl
got_other (z ∷ xs) (suc k) zero y apart = refl
got_other (z ∷ xs) (suc k) (suc other) y apart = got_other xs k other y (λ e. apart (ap suc e))

-- ---- lists whose last element is another one

pub last_length : {A : Type 0} (change : A → A) (xs : List A) → length (with_last change xs) ≡ length xs
last_length change [] = refl
last_length change (x ∷ []) = refl
last_length change (x ∷ y ∷ xs) = ap suc (last_length change (y ∷ xs))

pub last_before : {A : Type 0} (change : A → A) (xs : List A) (i : ℕ) → suc i < length xs → slice_get (with_last change xs) i ≡ slice_get xs i
last_before change [] i h = absurd (omega (arith, h))
last_before change (x ∷ []) i h = absurd (omega (arith, h))
last_before change (x ∷ y ∷ xs) zero h = refl
last_before change (x ∷ y ∷ xs) (suc i) h = last_before change (y ∷ xs) i (omega (arith, h))

pub last_here : {A : Type 0} (change : A → A) (xs : List A) (i : ℕ) (one : A) → suc i ≡ length xs → slice_get xs i ≡ Some one
    → slice_get (with_last change xs) i ≡ Some (change one)
last_here change [] i one h e = absurd (cc e)
last_here change (x ∷ []) zero one h e = let same : x ≡ one = cc e in ap (λ z. Some (change z)) same
last_here change (x ∷ []) (suc i) one h e = absurd (cc e)
last_here change (x ∷ y ∷ xs) zero one h e = absurd (omega (arith, h))
last_here change (x ∷ y ∷ xs) (suc i) one h e = last_here change (y ∷ xs) i one (omega (arith, h)) e

pub append_before : {A : Type 0} (xs ys : List A) (i : ℕ) → i < length xs → slice_get (xs ++ ys) i ≡ slice_get xs i
append_before [] ys i h = absurd (omega (arith, h))
append_before (x ∷ xs) ys zero h = refl
append_before (x ∷ xs) ys (suc i) h = append_before xs ys i (omega (arith, h))

pub append_here : {A : Type 0} (xs : List A) (x : A) (i : ℕ) → i ≡ length xs → slice_get (xs ++ x ∷ []) i ≡ Some x
append_here [] x zero e = refl
append_here [] x (suc i) e = absurd (omega (arith, e))
append_here (y ∷ xs) x zero e = absurd (omega (arith, e))
append_here (y ∷ xs) x (suc i) e = append_here xs x i (omega (arith, e))

-- what holds of each holds then, if it holds of what the last one becomes
all_last : {A : Type 0} (P Q : A → Type 0) (change : A → A) (xs : List A) → ((x : A) → P x → Q x → P (change x)) → All P xs → OfLast Q xs
    → All P (with_last change xs)
all_last P Q change [] keeps all last = all
all_last P Q change (x ∷ []) keeps all last = All-cons P (change x) [] (keeps x (All-head P x [] all) last) (All-nil P)
all_last P Q change (x ∷ y ∷ xs) keeps all last =
    All-cons P x (with_last change (y ∷ xs)) (All-head P x (y ∷ xs) all)
    (all_last P Q change (y ∷ xs) keeps (All-tail P x (y ∷ xs) all) last)

of_last : {A : Type 0} (Q : A → Type 0) (xs : List A) → ((x : A) → Q x) → OfLast Q xs
of_last Q [] each = tt
of_last Q (x ∷ []) each = each x
of_last Q (x ∷ y ∷ xs) each = of_last Q (y ∷ xs) each

-- ---- a line

-- the transactions that have ended are as they were
pub grown_before : (setting : Setting) (state : State) (number : ℕ) (line : SessionLine) (i : ℕ) → IsReady setting state number line
    → i < length (session_at state number).done
    → slice_get (grown line (program_of setting number)) i ≡ slice_get (program_of setting number) i
grown_before setting state number (Begin read_only) i ready below =
    append_before (program_of setting number) (opened read_only ∷ []) i (let all = ready.all in omega (arith, all, below))
grown_before setting state number (Statement statement) i ready below =
    last_before (with_statement statement) (program_of setting number) i (let last = ready.last in omega (arith, last, below))
grown_before setting state number Commit i ready below =
    last_before committing (program_of setting number) i (let last = ready.last in omega (arith, last, below))
grown_before setting state number Rollback i ready below = refl

-- ---- what fits

opened_fits : (shapes : List Shape) (read_only : Bool) → FitsTxn shapes (opened read_only)
opened_fits shapes read_only = record {
  few = omega arith;
  fit = All-nil (FitsStatement shapes);
  stand = All-nil (MayStand read_only);
  savepoints = refl;
}

said_fits : (shapes : List Shape) (statement : Bound) (txn : Txn) → FitsTxn shapes txn → FitsNext shapes statement txn
    → FitsTxn shapes (with_statement statement txn)
said_fits shapes statement txn fits next = record {
  few = let long = length_push txn.statements statement in let room = next.room in omega (arith, long, room);
  fit = All-push (FitsStatement shapes) txn.statements statement fits.fit next.fits;
  stand = All-push (MayStand txn.read_only) txn.statements statement fits.stand next.stands;
  savepoints = next.opened;
}

commit_fits : (shapes : List Shape) (txn : Txn) → FitsTxn shapes txn → FitsTxn shapes (committing txn)
commit_fits shapes txn fits = record { few = fits.few; fit = fits.fit; stand = fits.stand; savepoints = fits.savepoints }

grown_fits : (shapes : List Shape) (txns : List Txn) (line : SessionLine) → FitsSession shapes txns → FitsLine shapes txns line
    → FitsSession shapes (grown line txns)
grown_fits shapes txns (Begin read_only) fits room = record {
  few = let long = length_push txns (opened read_only) in omega (arith, long, room);
  fit = All-push (FitsTxn shapes) txns (opened read_only) fits.fit (opened_fits shapes read_only);
}
grown_fits shapes txns (Statement statement) fits next = record {
  few = let long = last_length (with_statement statement) txns in let few = fits.few in omega (arith, long, few);
  fit = all_last (FitsTxn shapes) (FitsNext shapes statement) (with_statement statement) txns (said_fits shapes statement) fits.fit next;
}
grown_fits shapes txns Commit fits next = record {
  few = let long = last_length committing txns in let few = fits.few in omega (arith, long, few);
  fit = all_last (FitsTxn shapes) (λ txn. Unit {0}) committing txns (λ txn one also. commit_fits shapes txn one) fits.fit
      (of_last (λ txn. Unit {0}) txns (λ txn. tt));
}
grown_fits shapes txns Rollback fits next = fits

pub pushed_fits : (setting : Setting) (room number : ℕ) (line : SessionLine) → number < length setting.programs
    → FitsLine setting.shapes (program_of setting number) line → Fits setting.shapes room setting.first setting.programs
    → Fits setting.shapes room setting.first (pushed setting number line).programs
pushed_fits setting room number line below next fits = record {
  few_tables = fits.few_tables;
  tables = fits.tables;
  first_rows = fits.first_rows;
  few_sessions =
      let long = length-set setting.programs number (grown line (program_of setting number)) in
      let few = fits.few_sessions in omega (arith, long, few);
  sessions = All-set (FitsSession setting.shapes) setting.programs number (grown line (program_of setting number))
      (grown_fits setting.shapes (program_of setting number) line
      (All-get_or (FitsSession setting.shapes) setting.programs number [] below fits.sessions) next) fits.sessions;
}

pub lines_runnable : LinesAreRunnable
lines_runnable setting number line runnable below next = record {
  fits = pushed_fits setting (setting.chunks * setting.rows) number line below next runnable.fits;
  some_chunk = runnable.some_chunk;
  few_chunks = runnable.few_chunks;
  some_row = runnable.some_row;
  numbered = runnable.numbered;
}

-- ---- what is typed

grown_typed : (kinds : List (List Kind)) (shapes : List Shape) (txns : List Txn) (line : SessionLine) → All (IsTypedTxn kinds shapes) txns
    → IsTypedLine kinds shapes line → All (IsTypedTxn kinds shapes) (grown line txns)
grown_typed kinds shapes txns (Begin read_only) all typed =
    All-push (IsTypedTxn kinds shapes) txns (opened read_only) all (All-nil (IsTypedIn kinds shapes))
grown_typed kinds shapes txns (Statement statement) all typed =
    all_last (IsTypedTxn kinds shapes) (λ txn. IsTypedIn kinds shapes statement) (with_statement statement) txns
    (λ txn one next. All-push (IsTypedIn kinds shapes) txn.statements statement one next) all
    (of_last (λ txn. IsTypedIn kinds shapes statement) txns (λ txn. typed))
grown_typed kinds shapes txns Commit all typed =
    all_last (IsTypedTxn kinds shapes) (λ txn. Unit {0}) committing txns (λ txn one next. one) all (of_last (λ txn. Unit {0}) txns (λ txn. tt))
grown_typed kinds shapes txns Rollback all typed = all

pub lines_typed : LinesAreTyped
lines_typed setting kinds number line typed of_line = record {
  tables = typed.tables;
  rows = typed.rows;
  statements = elim (cases_lt number (length setting.programs)) [
    | inl below ↦
        All-set each setting.programs number longer
        (grown_typed kinds setting.shapes (program_of setting number) line (All-get_or each setting.programs number [] below typed.statements) of_line)
        typed.statements
    | inr past ↦ subst (All each) (sym (set_past setting.programs number longer past)) typed.statements
  ];
}
  where
    each : List Txn → Type 0
    each txns = All (IsTypedTxn kinds setting.shapes) txns

    longer : List Txn
    longer = grown line (program_of setting number)
