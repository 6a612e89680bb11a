-- Values put back, column by column.
use Rattle.std.proofs.Common.{◌≡◌, ℕ, zero, suc, ◌<◌, ◌≤◌, List, [], ◌∷◌, length, get_or, Option, None, Some, refl, sym, ap, ◌∙◌, arith, inl, inr, ◌+◌}
use Rattle.std.proofs.Math.ListN.{set}
use Rattle.std.proofs.lemmas.Bool.{cases_eq}
use Rattle.std.proofs.lemmas.List.{get_or-set_same, get_or-set_other, length-set}
use Rattle.hy_value.specs.declared.Value.{Value}
use Rattle.hy_value.specs.declared.Value.TheVariants.{Null}
use Rattle.hy_undo.specs.Images.{old_or, put_back, older_or, with_older}

pub length-put_back : (row : List Value) (noted : List (Option Value)) → length (put_back row noted) ≡ length row
length-put_back [] noted = refl
length-put_back (value ∷ row) [] = refl
length-put_back (value ∷ row) (old ∷ noted) = let r = length-put_back row noted in omega (arith, r)

pub put_back-at : (row : List Value) (noted : List (Option Value)) (k : ℕ) (d : Value) → k < length row → get_or (put_back row noted) k d ≡ old_or (get_or row k d) (get_or noted k None)
put_back-at [] noted k d l = absurd (omega arith)
put_back-at (value ∷ row) [] zero d l = refl
put_back-at (value ∷ row) [] (suc k) d l = refl
put_back-at (value ∷ row) (old ∷ noted) zero d l = refl
put_back-at (value ∷ row) (old ∷ noted) (suc k) d l = put_back-at row noted k d (omega arith)

older_or-none : (new : Option Value) → older_or new None ≡ new
older_or-none new = refl

older_none : (old : Option Value) → older_or None old ≡ old
older_none None = refl
older_none (Some value) = refl

pub with_older-at : (newer older : List (Option Value)) (k : ℕ) → get_or (with_older newer older) k None ≡ older_or (get_or newer k None) (get_or older k None)
with_older-at [] older zero = sym (older_none (get_or older zero None))
with_older-at [] older (suc k) = sym (older_none (get_or older (suc k) None))
with_older-at (new ∷ newer) [] zero = refl
with_older-at (new ∷ newer) [] (suc k) = refl
with_older-at (new ∷ newer) (old ∷ older) zero = refl
with_older-at (new ∷ newer) (old ∷ older) (suc k) = with_older-at newer older k

pub length-with_older_more : (newer older : List (Option Value)) → length newer ≤ length older → length (with_older newer older) ≡ length older
length-with_older_more [] older l = refl
length-with_older_more (new ∷ newer) [] l = absurd (omega arith)
length-with_older_more (new ∷ newer) (old ∷ older) l = let r = length-with_older_more newer older (omega arith) in omega (arith, r)

pub length-with_older_fewer : (newer older : List (Option Value)) → length older ≤ length newer → length (with_older newer older) ≡ length newer
length-with_older_fewer [] [] l = refl
length-with_older_fewer [] (old ∷ older) l = absurd (omega arith)
length-with_older_fewer (new ∷ newer) [] l = refl
length-with_older_fewer (new ∷ newer) (old ∷ older) l = let r = length-with_older_fewer newer older (omega arith) in omega (arith, r)

pub get_or_any : {A : Type 0} (xs : List A) (i : ℕ) (d e : A) → i < length xs → get_or xs i d ≡ get_or xs i e
get_or_any [] i d e l = absurd (omega arith)
get_or_any (x ∷ xs) zero d e l = refl
get_or_any (x ∷ xs) (suc i) d e l = get_or_any xs i d e (omega arith)

-- the columns up to one have what was noted, the others what they had
pub record PutUpTo (noted : List (Option Value)) (first row : List Value) (column : ℕ) : Type 0 where
  pub size : length row ≡ length first
  pub done : (k : ℕ) (d : Value) → k < column → get_or row k d ≡ old_or (get_or first k d) (get_or noted k None)
  pub rest : (k : ℕ) (d : Value) → column ≤ k → get_or row k d ≡ get_or first k d

pub put_more : (noted : List (Option Value)) (first row made : List Value) (column : ℕ) (old : Option Value) → PutUpTo noted first row column → column < length noted → column < length row
    → old ≡ get_or noted column old → ((d : Value) → made ≡ set row column (old_or (get_or row column d) old)) → PutUpTo noted first made (column + 1)
put_more noted first row made column old v within there is put =
    let here : old ≡ get_or noted column None = is ∙ get_or_any noted column old None within in
    record {
      size = ap length (put Null) ∙ (length-set row column (old_or (get_or row column Null) old) ∙ v.size);
      done = λ k d l. elim (cases_eq k column) [
        | inl same ↦
            ap (λ (xs : List Value). get_or xs k d) (put d)
            ∙ (ap (λ (j : ℕ). get_or (set row column (old_or (get_or row column d) old)) j d) same
            ∙ (get_or-set_same row column (old_or (get_or row column d) old) d there
            ∙ (ap (λ (x : Value). old_or x old) (v.rest column d (omega arith))
            ∙ (ap (old_or (get_or first column d)) here
            ∙ ap (λ (j : ℕ). old_or (get_or first j d) (get_or noted j None)) (sym same)))))
        | inr other ↦
            ap (λ (xs : List Value). get_or xs k d) (put d)
            ∙ (get_or-set_other row column k (old_or (get_or row column d) old) d other ∙ v.done k d (omega (arith, l, other)))
      ];
      rest = λ k d l.
          ap (λ (xs : List Value). get_or xs k d) (put d)
          ∙ (get_or-set_other row column k (old_or (get_or row column d) old) d (λ e. absurd (omega (arith, e, l))) ∙ v.rest k d (omega (arith, l)));
    }
