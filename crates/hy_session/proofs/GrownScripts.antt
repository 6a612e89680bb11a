-- Scripts that are a line longer: their last transaction, and how many they have.
use Rattle.std.proofs.Common.{◌≡◌, ℕ, zero, suc, ◌≤◌, List, [], ◌∷◌, Option, None, length, get_or, set, refl, ap, ◌∙◌, sym, subst, arith, Result, Ok, Err}
use Rattle.std.specs.Prelude.{OnOk, OnErr}
use Rattle.std.proofs.lemmas.List.{length-append}
use Rattle.std.proofs.lemmas.Option.{none-some}
use Rattle.hy_value.specs.declared.change.Change.{Change}
use Rattle.hy_bound.specs.declared.Shape.{Shape}
use Rattle.hy_bound.specs.declared.Txn.{Txn}
use Rattle.hy_event.specs.declared.lines.SessionLine.{SessionLine}
use Rattle.hy_event.specs.declared.lines.SessionLine.TheVariants.{Begin, Statement, Commit, Rollback}
use Rattle.hy_event.specs.Lines.{with_last, opened, with_statement, committing, grown}
use Rattle.hy_limits.specs.declared.TheConstants.{MOST_TXNS}
use Rattle.hy_session.specs.declared.prepared.Prepared.{Prepared}
use Rattle.hy_session.specs.Limits.{IsLimited}

-- the last element is changed where a changed one is put in its place
pub set_last : {A : Type 0} (change : A → A) (xs : List A) (n : ℕ) (x : A) → suc n ≡ length xs → x ≡ get_or xs n x
    → set xs n (change x) ≡ with_last change xs
set_last change [] n x h e = absurd (omega (arith, h))
set_last change (y ∷ []) zero x h e = ap (λ z. change z ∷ []) e
set_last change (y ∷ []) (suc n) x h e = absurd (omega (arith, h))
set_last change (y ∷ z ∷ xs) zero x h e = absurd (omega (arith, h))
set_last change (y ∷ z ∷ xs) (suc n) x h e = ap (λ ys. y ∷ ys) (set_last change (z ∷ xs) n x (omega (arith, h)) e)

last_length : {A : Type 0} (change : A → A) (xs : List A) → length (with_last change xs) ≡ length xs
last_length change [] = refl
last_length change (x ∷ []) = refl
last_length change (x ∷ y ∷ xs) = ap suc (last_length change (y ∷ xs))

-- a line takes no transaction away
as_many : (line : SessionLine) (txns : List Txn) → length txns ≤ length (grown line txns)
as_many (Begin read_only) txns = omega (arith, length-append txns (opened read_only ∷ []))
as_many (Statement statement) txns = omega (arith, last_length (with_statement statement) txns)
as_many Commit txns = omega (arith, last_length committing txns)
as_many Rollback txns = omega arith

-- where there is room for the line, what is limited stays so
pub limited_after : {T E : Type 0} (r : Result T E) (chunks : ℕ) (shapes : List Shape) (program after : List Txn) (ended : ℕ) (spare : List Change)
    (levels : List (List Change)) (prepared : Option Prepared) (line : SessionLine) → IsLimited chunks shapes program ended spare levels prepared
    → length (grown line program) ≤ MOST_TXNS → OnOk r (after ≡ grown line program) → OnErr r (after ≡ program)
    → IsLimited chunks shapes after ended spare levels None
limited_after r chunks shapes program after ended spare levels prepared line limited room ok err =
    record {
      some_chunk = limited.some_chunk;
      few_chunks = limited.few_chunks;
      few_tables = limited.few_tables;
      few_txns = few r ok err;
      few_ended = many r ok err;
      none_noted = limited.none_noted;
      none_saved = limited.none_saved;
      kept = record { runs = λ kept is. elim (none-some kept is) [ ] };
    }
  where
    few : {T E : Type 0} (r : Result T E) → OnOk r (after ≡ grown line program) → OnErr r (after ≡ program) → length after ≤ MOST_TXNS
    few (Ok x) ok err = subst (λ (txns : List Txn). length txns ≤ MOST_TXNS) (sym ok) room
    few (Err e) ok err = subst (λ (txns : List Txn). length txns ≤ MOST_TXNS) (sym err) limited.few_txns

    many : {T E : Type 0} (r : Result T E) → OnOk r (after ≡ grown line program) → OnErr r (after ≡ program) → ended ≤ length after
    many (Ok x) ok err =
        let more = as_many line program in
        let kept = limited.few_ended in
        let same = ap (λ (txns : List Txn). length txns) ok in
        omega (arith, more, kept, same)
    many (Err e) ok err = subst (λ (txns : List Txn). ended ≤ length txns) (sym err) limited.few_ended

-- what a call makes of a list, told of the list that it is
pub of_list : {T E : Type 0} (r : Result T E) (program before made after : List Txn) (line : SessionLine) → before ≡ program → after ≡ made
    → OnOk r (made ≡ grown line before) → OnOk r (after ≡ grown line program)
of_list (Ok x) program before made after line is same ok = same ∙ (ok ∙ ap (grown line) is)
of_list (Err e) program before made after line is same ok = tt

pub of_list_err : {T E : Type 0} (r : Result T E) (program before made after : List Txn) → before ≡ program → after ≡ made
    → OnErr r (made ≡ before) → OnErr r (after ≡ program)
of_list_err (Ok x) program before made after is same err = tt
of_list_err (Err e) program before made after is same err = same ∙ (err ∙ is)
