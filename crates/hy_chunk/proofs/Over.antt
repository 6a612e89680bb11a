-- A list over another one, as far as some place.
use Rattle.std.proofs.Common.{◌≡◌, ℕ, zero, suc, ◌+◌, ◌<◌, ◌≤◌, List, [], ◌∷◌, length, get_or, Option, None, refl, sym, ap, ◌∙◌, arith, add-one, subst}
use Rattle.std.proofs.Math.ListN.{set}
use Rattle.std.proofs.lemmas.List.{set-set, get_or-set_same, get_or_default}
use Rattle.hy_value.specs.declared.Value.{Value}
use Rattle.hy_value.specs.declared.Kind.{Kind}
use Rattle.hy_column.specs.Cells.{FitsKind}
use Rattle.hy_chunk.specs.Sound.{FitsRow, FitsImage}
use Rattle.hy_chunk.specs.Noting.{change_noted, changes_noted}

-- the first so many of the new list, and the old one behind them
abbrev pub over : {A : Type 0} → ℕ → List A → List A → List A
over zero news olds = olds
over (suc count) [] olds = olds
over (suc count) (new ∷ news) [] = []
over (suc count) (new ∷ news) (old ∷ olds) = new ∷ over count news olds

pub length_over : {A : Type 0} (count : ℕ) (news olds : List A) → length (over count news olds) ≡ length olds
length_over zero news olds = refl
length_over (suc count) [] olds = refl
length_over (suc count) (new ∷ news) [] = refl
length_over (suc count) (new ∷ news) (old ∷ olds) = let e = length_over count news olds in omega (arith, e)

-- all of a list as long
pub over_all : {A : Type 0} (count : ℕ) (news olds : List A) → length news ≡ length olds → length news ≤ count → over count news olds ≡ news
over_all zero [] [] e l = refl
over_all zero [] (old ∷ olds) e l = absurd (omega arith)
over_all zero (new ∷ news) olds e l = absurd (omega arith)
over_all (suc count) [] [] e l = refl
over_all (suc count) [] (old ∷ olds) e l = absurd (omega arith)
over_all (suc count) (new ∷ news) [] e l = absurd (omega arith)
over_all {A} (suc count) (new ∷ news) (old ∷ olds) e l = ap (λ (xs : List A). new ∷ xs) (over_all count news olds (omega arith) (omega arith))

-- what is not yet covered is old
pub over_at : {A : Type 0} (count : ℕ) (news olds : List A) (d : A) → length news ≡ length olds → get_or (over count news olds) count d ≡ get_or olds count d
over_at zero news olds d e = refl
over_at (suc count) [] [] d e = refl
over_at (suc count) [] (old ∷ olds) d e = absurd (omega arith)
over_at (suc count) (new ∷ news) [] d e = absurd (omega arith)
over_at (suc count) (new ∷ news) (old ∷ olds) d e = over_at count news olds d (omega arith)

more_by : {A : Type 0} (count : ℕ) (news olds : List A) (x : A) → count < length news → length news ≡ length olds → x ≡ get_or news count x
    → set (over count news olds) count x ≡ over (suc count) news olds
more_by zero [] olds x l e is = absurd (omega arith)
more_by zero (new ∷ news) [] x l e is = absurd (omega arith)
more_by {A} zero (new ∷ news) (old ∷ olds) x l e is = ap (λ (y : A). y ∷ olds) is
more_by (suc count) [] olds x l e is = absurd (omega arith)
more_by (suc count) (new ∷ news) [] x l e is = absurd (omega arith)
more_by {A} (suc count) (new ∷ news) (old ∷ olds) x l e is = ap (λ (xs : List A). new ∷ xs) (more_by count news olds x (omega arith) (omega arith) is)

-- one more
pub over_more : {A : Type 0} (count : ℕ) (news olds : List A) (x : A) → count < length news → length news ≡ length olds → x ≡ get_or news count x
    → set (over count news olds) count x ≡ over (count + 1) news olds
over_more {A} count news olds x l e is = more_by count news olds x l e is ∙ ap (λ (n : ℕ). over n news olds) (sym (add-one count))

-- a row of many is covered one value further
pub row_more : {A : Type 0} (rows made now : List (List A)) (place column : ℕ) (news : List A) (x : A) → place < length rows
    → now ≡ set rows place (over column news (get_or rows place [])) → made ≡ set now place (set (get_or now place []) column x)
    → column < length news → length news ≡ length (get_or rows place []) → x ≡ get_or news column x
    → made ≡ set rows place (over (column + 1) news (get_or rows place []))
row_more {A} rows made now place column news x within is put less size at =
    let first = over column news (get_or rows place []) in
    put ∙ (ap (λ (all : List (List A)). set all place (set (get_or all place []) column x)) is
    ∙ (set-set rows place first (set (get_or (set rows place first) place []) column x)
    ∙ ap (set rows place) (ap (λ (row : List A). set row column x) (get_or-set_same rows place first [] within)
    ∙ over_more column news (get_or rows place []) x less size at)))

-- the row that is covered
pub row_now : {A : Type 0} (rows now : List (List A)) (place : ℕ) (row : List A) → place < length rows → now ≡ set rows place row → get_or now place [] ≡ row
row_now {A} rows now place row within is = ap (λ (all : List (List A)). get_or all place []) is ∙ get_or-set_same rows place row [] within

pub fits_length : (kinds : List Kind) (row : List Value) → FitsRow kinds row → length row ≡ length kinds
fits_length [] [] f = refl
fits_length [] (v ∷ row) f = absurd f
fits_length (k ∷ kinds) [] f = absurd f
fits_length (k ∷ kinds) (v ∷ row) f = let e = fits_length kinds row f.1 in omega (arith, e)

pub image_length : (kinds : List Kind) (image : List (Option Value)) → FitsImage kinds image → length image ≡ length kinds
image_length [] [] f = refl
image_length [] (v ∷ image) f = absurd f
image_length (k ∷ kinds) [] f = absurd f
image_length (k ∷ kinds) (v ∷ image) f = let e = image_length kinds image f.1 in omega (arith, e)

pub fits_at : (kinds : List Kind) (row : List Value) (column : ℕ) (k : Kind) (v : Value) → FitsRow kinds row → column < length kinds
    → FitsKind (get_or kinds column k) (get_or row column v)
fits_at [] row column k v f l = absurd (omega arith)
fits_at (kind ∷ kinds) [] column k v f l = absurd f
fits_at (kind ∷ kinds) (value ∷ row) zero k v f l = f.0
fits_at (kind ∷ kinds) (value ∷ row) (suc column) k v f l = fits_at kinds row column k v f.1 (omega arith)

-- a value read from a row fits
pub value_fits : (kinds now : List Kind) (row : List Value) (column : ℕ) (k : Kind) (v w : Value) → now ≡ kinds → FitsRow kinds row → column < length kinds
    → w ≡ v → v ≡ get_or row column v → FitsKind (get_or now column k) w
value_fits kinds now row column k v w e f l same is =
    subst (λ (x : Value). FitsKind (get_or now column k) x) (sym (same ∙ is))
    (subst (λ (ks : List Kind). FitsKind (get_or ks column k) (get_or row column v)) (sym e) (fits_at kinds row column k v f l))

pub changes_length : (olds news : List Value) (image : List (Option Value)) → length news ≡ length olds → length image ≡ length olds
    → length (changes_noted olds news image) ≡ length image
changes_length [] news image e f = refl
changes_length (old ∷ olds) [] image e f = absurd (omega arith)
changes_length (old ∷ olds) (new ∷ news) [] e f = absurd (omega arith)
changes_length (old ∷ olds) (new ∷ news) (noted ∷ image) e f = let r = changes_length olds news image (omega arith) (omega arith) in omega (arith, r)

pub changes_at : (olds news : List Value) (image : List (Option Value)) (column : ℕ) (c d : Value) (n : Option Value) → length news ≡ length olds
    → length image ≡ length olds → column < length olds
    → get_or (changes_noted olds news image) column n ≡ change_noted (get_or olds column c) (get_or news column d) (get_or image column None)
changes_at [] news image column c d n e f l = absurd (omega arith)
changes_at (old ∷ olds) [] image column c d n e f l = absurd (omega arith)
changes_at (old ∷ olds) (new ∷ news) [] column c d n e f l = absurd (omega arith)
changes_at (old ∷ olds) (new ∷ news) (noted ∷ image) zero c d n e f l = refl
changes_at (old ∷ olds) (new ∷ news) (noted ∷ image) (suc column) c d n e f l = changes_at olds news image column c d n (omega arith) (omega arith)
    (omega arith)

-- a copy of a value read from a list
pub copied_at : {A : Type 0} (xs row : List A) (column : ℕ) (v w : A) → w ≡ v → v ≡ get_or xs column v → xs ≡ row → column < length row
    → w ≡ get_or row column w
copied_at {A} xs row column v w same is e l =
    same ∙ (is ∙ (ap (λ (ys : List A). get_or ys column v) e ∙ get_or_default row column v w l))

-- an image notes one change more
pub values_more : (olds news now : List Value) (image old made : List (Option Value)) (column : ℕ) (v d : Value) → length news ≡ length olds
    → length image ≡ length olds
    → column < length olds → v ≡ get_or news column v → now ≡ over column news olds → old ≡ over column (changes_noted olds news image) image
    → made ≡ set old column (change_noted (get_or now column d) v (get_or old column None)) → made ≡ over (column + 1) (changes_noted olds news image) image
values_more olds news now image old made column v d e f l at rows values put =
    let all = changes_noted olds news image in
    let size : length all ≡ length image = changes_length olds news image e f in
    let read : get_or now column d ≡ get_or olds column d = ap (λ (xs : List Value). get_or xs column d) rows ∙ over_at column news olds d e in
    let noted : get_or old column None ≡ get_or image column None =
    ap (λ (xs : List (Option Value)). get_or xs column None) values ∙ over_at column all image None size in
    let x : Option Value = change_noted (get_or olds column d) (get_or news column v) (get_or image column None) in
    let change : change_noted (get_or now column d) v (get_or old column None) ≡ x = λ i. change_noted (read i) (at i) (noted i) in
    let is : x ≡ get_or all column x = sym (changes_at olds news image column d v x e f l) in
    put ∙ (ap (λ (xs : List (Option Value)). set xs column (change_noted (get_or now column d) v (get_or old column None))) values
    ∙ (ap (set (over column all image) column) change ∙ over_more column all image x (omega (arith, l, size, f)) size is))
