-- What the next statement of a transaction is judged by, where its script is longer by a line.
use Rattle.std.proofs.Common.{◌≡◌, ℕ, zero, suc, ◌+◌, ◌-◌, Bool, true, false, List, [], ◌∷◌, ◌++◌, Some, length, refl, sym, ap, ◌∙◌, subst, arith}
use Rattle.std.specs.Prelude.{IsTrue, ◌&&◌, slice_get}
use Rattle.std.specs.Option.{option_map}
use Rattle.std.proofs.lemmas.Bool.{and_parts}
use Rattle.std.proofs.lemmas.List.{length_push}
use Rattle.std.proofs.lemmas.Option.{same_Some}
use Rattle.hy_bound.specs.declared.Bound.{Bound}
use Rattle.hy_bound.specs.declared.Txn.{Txn}
use Rattle.hy_bound.specs.OpenSavepoints.{is_opened, are_opened}
use Rattle.hy_bound.specs.Savepoints.{saved_after}
use Rattle.hy_event.specs.Lines.{committing, opened, with_last, with_statement}
use Rattle.hy_script.specs.declared.judging.Standing.{Standing}
use Rattle.hy_script.specs.Refusals.{no_statements, with_bound}
use Rattle.hy_session.specs.Latest.{last_of}
use Rattle.hy_stepping.specs.Pushed.{OfLast}
use Rattle.hy_service.specs.Sound.{standing_after, standing_in}

-- ---- a statement more

pub standing_after_more : (standing : Standing) (bounds : List Bound) (bound : Bound)
    → standing_after standing (bounds ++ bound ∷ []) ≡ with_bound (standing_after standing bounds) bound
standing_after_more standing [] bound = refl
standing_after_more standing (first ∷ bounds) bound = standing_after_more (with_bound standing first) bounds bound

pub standing_in_more : (bound : Bound) (txn : Txn) → standing_in (with_statement bound txn) ≡ with_bound (standing_in txn) bound
standing_in_more bound txn = standing_after_more (no_statements txn.read_only) txn.statements bound

pub standing_in_opened : (read_only : Bool) → standing_in (opened read_only) ≡ no_statements read_only
standing_in_opened read_only = refl

pub standing_in_committing : (txn : Txn) → standing_in (committing txn) ≡ standing_in txn
standing_in_committing txn = refl

-- ---- what it is made of

pub after_statements : (standing : Standing) (bounds : List Bound) → (standing_after standing bounds).statements ≡ standing.statements + length bounds
after_statements standing [] = omega arith
after_statements standing (first ∷ bounds) = let rest = after_statements (with_bound standing first) bounds in omega (arith, rest)

pub after_read_only : (standing : Standing) (bounds : List Bound) → (standing_after standing bounds).read_only ≡ standing.read_only
after_read_only standing [] = refl
after_read_only standing (first ∷ bounds) = after_read_only (with_bound standing first) bounds

pub in_statements : (txn : Txn) → (standing_in txn).statements ≡ length txn.statements
in_statements txn = let many = after_statements (no_statements txn.read_only) txn.statements in omega (arith, many)

pub in_read_only : (txn : Txn) → (standing_in txn).read_only ≡ txn.read_only
in_read_only txn = after_read_only (no_statements txn.read_only) txn.statements

and_also : (one other : Bool) → IsTrue one → IsTrue other → IsTrue (one && other)
and_also true other e f = f
and_also false other e f = absurd cc

-- the savepoints that a statement more names are open, where it may stand there
pub opened_after : (standing : Standing) (bounds : List Bound) (bound : Bound) → IsTrue (are_opened standing.savepoints bounds)
    → IsTrue (is_opened (standing_after standing bounds).savepoints bound) → IsTrue (are_opened standing.savepoints (bounds ++ bound ∷ []))
opened_after standing [] bound all one = and_also (is_opened standing.savepoints bound) true one refl
opened_after standing (first ∷ bounds) bound all one =
    let parts = and_parts (is_opened standing.savepoints first) (are_opened (saved_after first standing.savepoints tt) bounds) all in
    and_also (is_opened standing.savepoints first) (are_opened (saved_after first standing.savepoints tt) (bounds ++ bound ∷ [])) parts.0
    (opened_after (with_bound standing first) bounds bound parts.1 one)

-- ---- the last of a list

pub last_at : {A : Type 0} (xs : List A) (i : ℕ) (x : A) → suc i ≡ length xs → slice_get xs i ≡ Some x → last_of xs ≡ Some x
last_at xs i x last here = let at : length xs - 1 ≡ i = omega (arith, last) in ap (slice_get xs) at ∙ here

behind : {A : Type 0} (xs : List A) (x : A) → slice_get (xs ++ x ∷ []) (length xs) ≡ Some x
behind [] x = refl
behind (y ∷ xs) x = behind xs x

pub last_push : {A : Type 0} (xs : List A) (x : A) → last_of (xs ++ x ∷ []) ≡ Some x
last_push xs x = let many = length_push xs x in last_at (xs ++ x ∷ []) (length xs) x (omega (arith, many)) (behind xs x)

changed_length : {A : Type 0} (change : A → A) (xs : List A) → length (with_last change xs) ≡ length xs
changed_length change [] = refl
changed_length change (x ∷ []) = refl
changed_length change (x ∷ y ∷ xs) = ap suc (changed_length change (y ∷ xs))

changed_last : {A : Type 0} (change : A → A) (xs : List A) (i : ℕ) → suc i ≡ length xs → slice_get (with_last change xs) i ≡ option_map change (slice_get xs i)
changed_last change [] i last = absurd (omega (arith, last))
changed_last change (x ∷ []) zero last = refl
changed_last change (x ∷ []) (suc i) last = absurd (omega (arith, last))
changed_last change (x ∷ y ∷ xs) zero last = absurd (omega (arith, last))
changed_last change (x ∷ y ∷ xs) (suc i) last = changed_last change (y ∷ xs) i (omega (arith, last))

pub last_with : {A : Type 0} (change : A → A) (xs : List A) → last_of (with_last change xs) ≡ option_map change (last_of xs)
last_with change [] = refl
last_with change (x ∷ xs) =
    let many = changed_length change (x ∷ xs) in
    let at : length (with_last change (x ∷ xs)) - 1 ≡ length xs = omega (arith, many) in
    let old : length (x ∷ xs) - 1 ≡ length xs = omega arith in
    ap (slice_get (with_last change (x ∷ xs))) at
    ∙ (changed_last change (x ∷ xs) (length xs) refl ∙ ap (λ i. option_map change (slice_get (x ∷ xs) i)) (sym old))

-- what is said of the last holds of it
pub of_last : {A : Type 0} (Q : A → Type 0) (xs : List A) (i : ℕ) (x : A) → suc i ≡ length xs → slice_get xs i ≡ Some x → Q x → OfLast Q xs
of_last Q [] i x last here holds = tt
of_last Q (y ∷ []) zero x last here holds = subst Q (sym (same_Some y x here)) holds
of_last Q (y ∷ []) (suc i) x last here holds = absurd (omega (arith, last))
of_last Q (y ∷ z ∷ xs) zero x last here holds = absurd (omega (arith, last))
of_last Q (y ∷ z ∷ xs) (suc i) x last here holds = of_last Q (z ∷ xs) i x (omega (arith, last)) here holds
