-- Blank before-images as they come and go.
use Rattle.std.proofs.Common.{◌≡◌, ℕ, ◌+◌, ◌-◌, ◌*◌, ◌≤◌, List, [], ◌∷◌, ◌++◌, length, sym, ap, ◌∙◌, subst, arith}
use Rattle.std.specs.List.{AllByRecursion}
use Rattle.std.proofs.lemmas.List.{length-append}
use Rattle.hy_undo.specs.Images.{Image}
use Rattle.hy_undo.specs.Stock.{blank, IsStocked}

all_behind : {A : Type 0} (P : A → Type 0) (xs : List A) (x : A) → AllByRecursion P xs → P x → AllByRecursion P (xs ++ x ∷ [])
all_behind P [] x all p = (p, tt)
all_behind P (y ∷ xs) x all p = (all.0, all_behind P xs x all.1 p)

all_front : {A : Type 0} (P : A → Type 0) (xs : List A) (x : A) → AllByRecursion P (xs ++ x ∷ []) → AllByRecursion P xs × P x
all_front P [] x all = (tt, all.0)
all_front P (y ∷ xs) x all = let rest = all_front P xs x all.1 in ((all.0, rest.0), rest.1)

one_more : (n t : ℕ) → (n + 1) * t ≡ n * t + t
one_more n t = omega arith

longer : {A : Type 0} (xs : List A) (x : A) → length (xs ++ x ∷ []) ≡ length xs + 1
longer xs x = length-append xs (x ∷ [])

-- one more, for the texts of which there are free places
pub stocked_more : (images more : List Image) (image : Image) (columns texts free places : ℕ) → IsStocked images columns texts free places → more ≡ images ++ image ∷ []
    → image ≡ blank columns → texts ≤ free → IsStocked more columns texts (free - texts) places
stocked_more images more image columns texts free places s e b le = record {
  blank = subst (AllByRecursion (λ (i : Image). i ≡ blank columns)) (sym e) (all_behind (λ (i : Image). i ≡ blank columns) images image s.blank b);
  kept =
      let kept = s.kept in
      let size : length more * texts ≡ length images * texts + texts = ap (λ (n : ℕ). n * texts) (ap length e ∙ longer images image) ∙ one_more (length images) texts in
      omega (arith, kept, size, le);
}

-- one fewer: the places for its texts are free
pub stocked_fewer : (images fewer : List Image) (image : Image) (columns texts free places : ℕ) → IsStocked images columns texts free places → images ≡ fewer ++ image ∷ []
    → IsStocked fewer columns texts (free + texts) places × (image ≡ blank columns)
stocked_fewer images fewer image columns texts free places s e =
    let all = all_front (λ (i : Image). i ≡ blank columns) fewer image (subst (AllByRecursion (λ (i : Image). i ≡ blank columns)) e s.blank) in
    let kept = s.kept in
    let size : length images * texts ≡ length fewer * texts + texts = ap (λ (n : ℕ). n * texts) (ap length e ∙ longer fewer image) ∙ one_more (length fewer) texts in
    (record { blank = all.0; kept = omega (arith, kept, size) }, all.1)
