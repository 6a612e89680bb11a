-- What is noted of columns, as values, and merged.
use Rattle.std.proofs.Common.{◌≡◌, ℕ, ◌<◌, ◌≤◌, ◌++◌, List, length, map, take, drop, get_or, Option, None, Some, sym, ap, ◌∙◌, arith}
use Rattle.std.proofs.Math.ListN.{get_or-map, set}
use Rattle.std.proofs.Math.Seq.{take-append_seam}
use Rattle.std.specs.List.{refill}
use Rattle.std.proofs.lemmas.List.{length-map, get_or-map as get-map, length-set, map-set}
use Rattle.hy_value.specs.declared.Value.{Value}
use Rattle.hy_undo.specs.declared.noted.Noted.{Noted}
use Rattle.hy_undo.specs.declared.noted.Noted.TheVariants.{Nothing}
use Rattle.hy_undo.specs.Images.{older_or, with_older}
use Rattle.hy_undo.specs.Noted.{noted_value}
use Rattle.hy_undo.proofs.Putting.{get_or_any}
use Rattle.hy_undo.proofs.MergedLists.{filled, covered}

-- what is noted of a column
pub noted_at : (notes : List Noted) (k : ℕ) → get_or (map noted_value notes) k None ≡ noted_value (get_or notes k Nothing)
noted_at notes k = get_or-map noted_value notes k Nothing

pub noted_length : (notes : List Noted) → length (map noted_value notes) ≡ length notes
noted_length notes = length-map notes noted_value

-- the note of a column, as a value
pub here_noted : (notes : List Noted) (k : ℕ) (note : Noted) → k < length notes → note ≡ get_or notes k note → noted_value note ≡ get_or (map noted_value notes) k (noted_value note)
here_noted notes k note l is = ap noted_value is ∙ sym (get-map noted_value notes k note (noted_value note) l)

at_both : (newer older made : List Noted) (k : ℕ) → noted_value (get_or made k Nothing) ≡ older_or (noted_value (get_or newer k Nothing)) (noted_value (get_or older k Nothing))
    → get_or (map noted_value made) k None ≡ older_or (get_or (map noted_value newer) k None) (get_or (map noted_value older) k None)
at_both newer older made k e =
    noted_at made k
    ∙ (e ∙ (ap (λ (new : Option Value). older_or new (noted_value (get_or older k Nothing))) (sym (noted_at newer k)) ∙ ap (older_or (get_or (map noted_value newer) k None)) (sym (noted_at older k))))

at_one : (first made : List Noted) (k : ℕ) → get_or made k Nothing ≡ get_or first k Nothing → get_or (map noted_value made) k None ≡ get_or (map noted_value first) k None
at_one first made k e = noted_at made k ∙ (ap noted_value e ∙ sym (noted_at first k))

-- notes that are the merged ones as far as a column, and the newer ones behind it
pub covered_notes : (newer older made : List Noted) (column : ℕ) → length older ≤ length newer → length made ≡ length newer → length older ≤ column
    → ((k : ℕ) → k < column → noted_value (get_or made k Nothing) ≡ older_or (noted_value (get_or newer k Nothing)) (noted_value (get_or older k Nothing)))
    → ((k : ℕ) → column ≤ k → get_or made k Nothing ≡ get_or newer k Nothing) → map noted_value made ≡ with_older (map noted_value newer) (map noted_value older)
covered_notes newer older made column le size end done rest =
    covered (map noted_value newer) (map noted_value older) (map noted_value made) column (omega (arith, noted_length newer, noted_length older)) (noted_length made ∙ (size ∙ sym (noted_length newer)))
    (omega (arith, noted_length older)) (λ k l. at_both newer older made k (done k l)) (λ k l. at_one newer made k (rest k l))

-- the same, and the older ones behind it
pub filled_notes : (newer older made : List Noted) (column : ℕ) → length newer ≤ length older → length made ≡ length older → length newer ≤ column
    → ((k : ℕ) → k < column → noted_value (get_or made k Nothing) ≡ older_or (noted_value (get_or newer k Nothing)) (noted_value (get_or older k Nothing)))
    → ((k : ℕ) → column ≤ k → get_or made k Nothing ≡ get_or older k Nothing) → map noted_value made ≡ with_older (map noted_value newer) (map noted_value older)
filled_notes newer older made column le size end done rest =
    filled (map noted_value newer) (map noted_value older) (map noted_value made) column (omega (arith, noted_length newer, noted_length older)) (noted_length made ∙ (size ∙ sym (noted_length older)))
    (omega (arith, noted_length newer)) (λ k l. at_both newer older made k (done k l)) (λ k l. at_one older made k (rest k l))

filled_whole : (xs ws : List Noted) → length ws ≡ length xs → refill (length xs) xs ws ≡ ws
filled_whole xs ws size = ap (λ (n : ℕ). take n (ws ++ drop (length ws) xs)) (sym size) ∙ take-append_seam ws (drop (length ws) xs)

-- a column is noted, if nothing was
pub noted_set : (notes now : List Noted) (k : ℕ) (was note : Noted) (old : Value) (values : List (Option Value)) → now ≡ notes → map noted_value notes ≡ values → k < length values
    → was ≡ get_or now k was → noted_value note ≡ older_or (Some old) (noted_value was)
    → map noted_value (refill (length notes) notes (set now k note)) ≡ set values k (older_or (Some old) (get_or values k None))
noted_set notes now k was note old values same view l is noted =
    let size : length (set now k note) ≡ length notes = length-set now k note ∙ ap length same in
    let within : k < length notes = let e = ap length view in omega (arith, e, l, noted_length notes) in
    let there : noted_value was ≡ get_or values k None =
    ap noted_value (is ∙ (ap (λ (xs : List Noted). get_or xs k was) same ∙ get_or_any notes k was Nothing within))
    ∙ (sym (noted_at notes k) ∙ ap (λ (vs : List (Option Value)). get_or vs k None) view) in
    ap (map noted_value) (filled_whole notes (set now k note) size)
    ∙ (ap (λ (xs : List Noted). map noted_value (set xs k note)) same
    ∙ (map-set noted_value notes k note
    ∙ (ap (λ (vs : List (Option Value)). set vs k (noted_value note)) view ∙ ap (set values k) (noted ∙ ap (older_or (Some old)) there))))
