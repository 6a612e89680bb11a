-- The savepoints of an open transaction: their names beside the levels of its notes, and that what is noted since each is in order.
use Rattle.std.proofs.Common.{◌≡◌, ℕ, zero, suc, ◌<◌, ◌≤◌, List, [], ◌∷◌, ◌++◌, length, map, take, Option, None, Some, refl, sym, ap, ◌∙◌, subst, arith}
use Rattle.std.specs.Prelude.{Result, Ok, Err, OnOk, OnErr, slice_get, slice_index_or, option_and_then}
use Rattle.std.specs.List.{AllByRecursion}
use Rattle.std.proofs.lemmas.List.{length-append, length-take, length-take-le, take-append-le}
use Rattle.std.specs.Option.{option_map, unwrap_or}
use Rattle.std.proofs.lemmas.List.{length-map}
use Rattle.hy_value.specs.declared.change.Change.{Change}
use Rattle.hy_notes.specs.Notes.{Ascends, with_note, noted_in_all}
use Rattle.hy_notes.specs.Telling.{NotesTell}
use Rattle.hy_bound.specs.declared.Bound.{Bound}
use Rattle.hy_bound.specs.declared.Bound.TheVariants.{Select, Group, Insert, Update, Delete, Savepoint, RollbackTo, Release}
use Rattle.hy_bound.specs.Savepoints.{Saved, newest, oldest, saved_after, kept_by}
use Rattle.hy_bound.specs.SavedRelations.{AreAlike, newest_alike}
use Rattle.hy_event.specs.declared.SavedNotes.{SavedNotes}
use Rattle.hy_event.specs.Sessions.{savepoint_of}
use Rattle.hy_event.specs.Turns.{note_since, saved_of, with_notes, with_since}
use Rattle.hy_session.specs.Limits.{IsSavedInOrder}
use Rattle.hy_session.specs.Savepoints.{savepoints, noted_since, opened_by}

-- ---- order

pub more_in_order : NotesTell → (changes notes : List Change) → Ascends notes → Ascends (with_notes notes changes)
more_in_order tell [] notes up = up
more_in_order tell (change ∷ changes) notes up = more_in_order tell changes _ (tell change notes 0 0 up).1

one_in_order : NotesTell → (change : Change) (saved : List SavedNotes) → IsSavedInOrder saved → IsSavedInOrder (map (note_since change) saved)
one_in_order tell change [] order = tt
one_in_order tell change (one ∷ saved) order = ((tell change one.since 0 0 order.0).1, one_in_order tell change saved order.1)

pub since_in_order : NotesTell → (changes : List Change) (saved : List SavedNotes) → IsSavedInOrder saved → IsSavedInOrder (with_since saved changes)
since_in_order tell [] saved order = order
since_in_order tell (change ∷ changes) saved order = since_in_order tell changes (map (note_since change) saved) (one_in_order tell change saved order)

-- what is kept of savepoints is in order
abbrev KeepOrder : List (Saved (List Change)) → Type 0
KeepOrder saved = AllByRecursion (λ (one : Saved (List Change)). Ascends one.was) saved

kept_in_order : (saved : List SavedNotes) → IsSavedInOrder saved → KeepOrder (map savepoint_of saved)
kept_in_order [] order = tt
kept_in_order (one ∷ saved) order = (order.0, kept_in_order saved order.1)

told_in_order : (saved : List (Saved (List Change))) → KeepOrder saved → IsSavedInOrder (map saved_of saved)
told_in_order [] order = tt
told_in_order (one ∷ saved) order = (order.0, told_in_order saved order.1)

taken_in_order : (saved : List (Saved (List Change))) (count : ℕ) → KeepOrder saved → KeepOrder (take count saved)
taken_in_order [] zero order = tt
taken_in_order [] (suc count) order = tt
taken_in_order (one ∷ saved) zero order = tt
taken_in_order (one ∷ saved) (suc count) order = (order.0, taken_in_order saved count order.1)

oldest_in_order : (saved : List (Saved (List Change))) (count : Option ℕ) → KeepOrder saved → KeepOrder (oldest saved count)
oldest_in_order saved None order = order
oldest_in_order saved (Some count) order = taken_in_order saved count order

new_in_order : (saved : List (Saved (List Change))) (name : List ℕ) → KeepOrder saved → KeepOrder (saved ++ record { name = name; was = [] } ∷ [])
new_in_order [] name order = (tt, tt)
new_in_order (one ∷ saved) name order = (order.0, new_in_order saved name order.1)

after_in_order : (statement : Bound) (saved : List (Saved (List Change))) → KeepOrder saved → KeepOrder (saved_after statement saved [])
after_in_order (Select tables ons pred items) saved order = order
after_in_order (Group table pred key aggregate) saved order = order
after_in_order (Insert table row) saved order = order
after_in_order (Update table sets pred) saved order = order
after_in_order (Delete table pred) saved order = order
after_in_order (Savepoint name) saved order = new_in_order saved name order
after_in_order (RollbackTo name) saved order = oldest_in_order saved (option_map suc (newest name saved)) order
after_in_order (Release name) saved order = oldest_in_order saved (newest name saved) order

pub saved_in_order : (statement : Bound) (saved : List SavedNotes) → IsSavedInOrder saved
    → IsSavedInOrder (map saved_of (saved_after statement (map savepoint_of saved) []))
saved_in_order statement saved order =
    told_in_order (saved_after statement (map savepoint_of saved) []) (after_in_order statement (map savepoint_of saved) (kept_in_order saved order))

-- ---- names and levels

abbrev Names : Type 0
Names = List (Saved (Unit {0}))

-- notes of changes in each level are notes since each savepoint
one_noted : (change : Change) (names : Names) (levels : List (List Change))
    → savepoints names (map (with_note change) levels) ≡ map (note_since change) (savepoints names levels)
one_noted change [] levels = refl
one_noted change (name ∷ names) [] = refl
one_noted change (name ∷ names) (since ∷ levels) =
    ap (λ (others : List SavedNotes). record { name = name.name; since = with_note change since } ∷ others) (one_noted change names levels)

pub all_noted : (changes : List Change) (names : Names) (levels : List (List Change))
    → savepoints names (noted_in_all changes levels) ≡ with_since (savepoints names levels) changes
all_noted [] names levels = refl
all_noted (change ∷ changes) names levels =
    all_noted changes names (map (with_note change) levels)
    ∙ ap (λ (saved : List SavedNotes). with_since saved changes) (one_noted change names levels)

-- levels that are each noted in are all noted in
pub in_each : (changes : List Change) (levels : List (List Change)) → map (λ since. with_notes since changes) levels ≡ noted_in_all changes levels
in_each [] levels = same levels
  where
    same : (levels : List (List Change)) → map (λ since. with_notes since []) levels ≡ levels
    same [] = refl
    same (since ∷ levels) = ap (λ (others : List (List Change)). since ∷ others) (same levels)
in_each (change ∷ changes) levels = again levels ∙ in_each changes (map (with_note change) levels)
  where
    again : (levels : List (List Change))
        → map (λ since. with_notes since (change ∷ changes)) levels ≡ map (λ since. with_notes since changes) (map (with_note change) levels)
    again [] = refl
    again (since ∷ levels) = ap (λ (others : List (List Change)). with_notes (with_note change since) changes ∷ others) (again levels)

pub noted_long : (changes : List Change) (levels : List (List Change)) → length (noted_in_all changes levels) ≡ length levels
noted_long [] levels = refl
noted_long (change ∷ changes) levels = noted_long changes (map (with_note change) levels) ∙ mapped_long levels
  where
    mapped_long : (levels : List (List Change)) → length (map (with_note change) levels) ≡ length levels
    mapped_long [] = refl
    mapped_long (since ∷ levels) = ap suc (mapped_long levels)

-- levels that are each changed are as many
pub mapped_long : (does : List Change → List Change) (levels later start : List (List Change)) → later ≡ map does levels → levels ≡ start
    → length later ≡ length start
mapped_long does levels later start is same =
    ap (λ (l : List (List Change)). length l) is ∙ (length-map levels does ∙ ap (λ (l : List (List Change)). length l) same)

-- what was noted since the savepoint of a number is its level
pub level_is : (names : Names) (levels : List (List Change)) (number : ℕ) → length names ≡ length levels
    → noted_since (savepoints names levels) number ≡ slice_index_or levels number []
level_is [] [] number long = refl
level_is [] (since ∷ levels) number long = absurd (omega (arith, long))
level_is (name ∷ names) [] number long = absurd (omega (arith, long))
level_is (name ∷ names) (since ∷ levels) zero long = refl
level_is (name ∷ names) (since ∷ levels) (suc number) long = level_is names levels number (omega (arith, long))

-- the savepoints have these names
pub names_alike : (names : Names) (levels : List (List Change)) → length names ≡ length levels
    → AreAlike (λ (one : Unit {0}) (since : List Change). Unit {0}) names (map savepoint_of (savepoints names levels))
names_alike [] levels long = tt
names_alike (name ∷ names) [] long = absurd (omega (arith, long))
names_alike (name ∷ names) (since ∷ levels) long = ((refl, tt), names_alike names levels (omega (arith, long)))

pub newest_is : (name : List ℕ) (names : Names) (levels : List (List Change)) → length names ≡ length levels
    → newest name names ≡ newest name (map savepoint_of (savepoints names levels))
newest_is name names levels long =
    newest_alike (λ (one : Unit {0}) (since : List Change). Unit {0}) name names (map savepoint_of (savepoints names levels)) (names_alike names levels long)

-- what was noted since the newest savepoint of a name
since_kept : (saved : List SavedNotes) (number : ℕ)
    → unwrap_or (option_map (λ (one : Saved (List Change)). one.was) (slice_get (map savepoint_of saved) number)) [] ≡ noted_since saved number
since_kept [] number = refl
since_kept (one ∷ saved) zero = refl
since_kept (one ∷ saved) (suc number) = since_kept saved number

pub since_newest : (name : List ℕ) (saved : List SavedNotes) (number : ℕ) → newest name (map savepoint_of saved) ≡ Some number
    → unwrap_or (kept_by name (map savepoint_of saved)) [] ≡ noted_since saved number
since_newest name saved number is =
    ap (λ (at : Option ℕ). unwrap_or (option_map (λ (one : Saved (List Change)). one.was) (option_and_then (slice_get (map savepoint_of saved)) at)) []) is
    ∙ since_kept saved number

pub since_none : (name : List ℕ) (saved : List SavedNotes) → newest name (map savepoint_of saved) ≡ None → unwrap_or (kept_by name (map savepoint_of saved)) [] ≡ []
since_none name saved none =
    ap (λ (at : Option ℕ). unwrap_or (option_map (λ (one : Saved (List Change)). one.was) (option_and_then (slice_get (map savepoint_of saved)) at)) []) none

-- ---- after a statement

taken : (names : Names) (levels : List (List Change)) (count : ℕ) → length names ≡ length levels
    → savepoints (take count names) (take count levels) ≡ map saved_of (take count (map savepoint_of (savepoints names levels)))
taken [] levels zero long = refl
taken [] levels (suc count) long = refl
taken (name ∷ names) [] count long = absurd (omega (arith, long))
taken (name ∷ names) (since ∷ levels) zero long = refl
taken (name ∷ names) (since ∷ levels) (suc count) long =
    ap (λ (others : List SavedNotes). record { name = name.name; since = since } ∷ others) (taken names levels count (omega (arith, long)))

same_told : (saved : List SavedNotes) → saved ≡ map saved_of (map savepoint_of saved)
same_told [] = refl
same_told (one ∷ saved) = ap (λ (others : List SavedNotes). one ∷ others) (same_told saved)

one_more : (names : Names) (levels : List (List Change)) (name : List ℕ) → length names ≡ length levels
    → savepoints (names ++ record { name = name; was = tt } ∷ []) (levels ++ [] ∷ [])
    ≡ map saved_of (map savepoint_of (savepoints names levels) ++ record { name = name; was = [] } ∷ [])
one_more [] [] name long = refl
one_more [] (since ∷ levels) name long = absurd (omega (arith, long))
one_more (first ∷ names) [] name long = absurd (omega (arith, long))
one_more (first ∷ names) (since ∷ levels) name long =
    ap (λ (others : List SavedNotes). record { name = first.name; since = since } ∷ others) (one_more names levels name (omega (arith, long)))

take_whole : {A : Type 0} (xs : List A) (count : ℕ) → length xs ≡ count → take count xs ≡ xs
take_whole {A = A} [] zero long = refl
take_whole {A = A} [] (suc count) long = refl
take_whole {A = A} (x ∷ xs) zero long = absurd (omega (arith, long))
take_whole {A = A} (x ∷ xs) (suc count) long = ap (λ (others : List A). x ∷ others) (take_whole xs count (omega (arith, long)))

pub stays : (names : Names) (levels : List (List Change)) → length names ≡ length levels → take (length names) levels ≡ levels
stays names levels long = take_whole levels (length names) (sym long)

unchanged : (names : Names) (levels : List (List Change)) → length names ≡ length levels
    → savepoints names (take (length names) levels) ≡ map saved_of (map savepoint_of (savepoints names levels))
unchanged names levels long = ap (savepoints names) (stays names levels long) ∙ same_told (savepoints names levels)

cut : (names : Names) (levels : List (List Change)) (count : ℕ) → length names ≡ length levels
    → savepoints (take count names) (take (length (take count names)) levels) ≡ map saved_of (take count (map savepoint_of (savepoints names levels)))
cut names levels count long = ap (savepoints (take count names)) (shorter names levels count long) ∙ taken names levels count long
  where
    shorter : (names : Names) (levels : List (List Change)) (count : ℕ) → length names ≡ length levels → take (length (take count names)) levels ≡ take count levels
    shorter [] [] zero long = refl
    shorter [] [] (suc count) long = refl
    shorter [] (since ∷ levels) count long = absurd (omega (arith, long))
    shorter (name ∷ names) [] count long = absurd (omega (arith, long))
    shorter (name ∷ names) (since ∷ levels) zero long = refl
    shorter (name ∷ names) (since ∷ levels) (suc count) long =
        ap (λ (others : List (List Change)). since ∷ others) (shorter names levels count (omega (arith, long)))

kept_few : (names : Names) (levels : List (List Change)) (count : Option ℕ) → length names ≡ length levels
    → savepoints (oldest names count) (take (length (oldest names count)) levels) ≡ map saved_of (oldest (map savepoint_of (savepoints names levels)) count)
kept_few names levels None long = unchanged names levels long
kept_few names levels (Some count) long = cut names levels count long

-- names and levels behind a statement are its savepoints
pub saved_so : (statement : Bound) (names : Names) (levels : List (List Change)) → length names ≡ length levels
    → savepoints (saved_after statement names tt) (take (length (saved_after statement names tt)) (opened_by statement levels))
    ≡ map saved_of (saved_after statement (map savepoint_of (savepoints names levels)) [])
saved_so (Select tables ons pred items) names levels long = unchanged names levels long
saved_so (Group table pred key aggregate) names levels long = unchanged names levels long
saved_so (Insert table row) names levels long = unchanged names levels long
saved_so (Update table sets pred) names levels long = unchanged names levels long
saved_so (Delete table pred) names levels long = unchanged names levels long
saved_so (Savepoint name) names levels long =
    ap (savepoints (names ++ record { name = name; was = tt } ∷ []))
    (take_whole (levels ++ [] ∷ []) (length (names ++ record { name = name; was = tt } ∷ []))
    (longer levels [] ∙ (ap suc (sym long) ∙ sym (longer names (record { name = name; was = tt }))))) ∙ one_more names levels name long
  where
    longer : {A : Type 0} (xs : List A) (x : A) → length (xs ++ x ∷ []) ≡ suc (length xs)
    longer [] x = refl
    longer (one ∷ xs) x = ap suc (longer xs x)
saved_so (RollbackTo name) names levels long =
    kept_few names levels (option_map suc (newest name names)) long
    ∙ ap (λ (at : Option ℕ). map saved_of (oldest (map savepoint_of (savepoints names levels)) (option_map suc at))) (newest_is name names levels long)
saved_so (Release name) names levels long =
    kept_few names levels (newest name names) long
    ∙ ap (λ (at : Option ℕ). map saved_of (oldest (map savepoint_of (savepoints names levels)) at)) (newest_is name names levels long)

-- where nothing changed the names, closing the levels behind them leaves those that were
pub closed_again : (statement : Bound) (names : Names) (levels : List (List Change)) → length names ≡ length levels
    → take (length names) (opened_by statement levels) ≡ levels
closed_again (Select tables ons pred items) names levels long = stays names levels long
closed_again (Group table pred key aggregate) names levels long = stays names levels long
closed_again (Insert table row) names levels long = stays names levels long
closed_again (Update table sets pred) names levels long = stays names levels long
closed_again (Delete table pred) names levels long = stays names levels long
closed_again (Savepoint name) names levels long =
    take-append-le (length names) levels ([] ∷ []) (omega (arith, long)) ∙ stays names levels long
closed_again (RollbackTo name) names levels long = stays names levels long
closed_again (Release name) names levels long = stays names levels long

-- so many levels as names are left
pub closed_long : (statement : Bound) (names : Names) (levels : List (List Change)) → length names ≡ length levels
    → length (saved_after statement names tt) ≡ length (take (length (saved_after statement names tt)) (opened_by statement levels))
closed_long statement names levels long = sym (length-take-le (length (saved_after statement names tt)) (opened_by statement levels) (few statement))
  where
    fewer : (count : ℕ) → length (take count names) ≤ length levels
    fewer count = let less = length-take count names in omega (arith, less, long)

    kept : (count : Option ℕ) → length (oldest names count) ≤ length levels
    kept None = omega (arith, long)
    kept (Some count) = fewer count

    few : (statement : Bound) → length (saved_after statement names tt) ≤ length (opened_by statement levels)
    few (Select tables ons pred items) = omega (arith, long)
    few (Group table pred key aggregate) = omega (arith, long)
    few (Insert table row) = omega (arith, long)
    few (Update table sets pred) = omega (arith, long)
    few (Delete table pred) = omega (arith, long)
    few (Savepoint name) =
        let a = length-append names (record { name = name; was = tt } ∷ []) in let b = length-append levels ([] ∷ []) in omega (arith, a, b, long)
    few (RollbackTo name) = kept (option_map suc (newest name names))
    few (Release name) = kept (newest name names)

-- ---- names that become those behind a statement, and levels that are closed behind them

closed_behind : (statement : Bound) (now : Names) (levels opened later : List (List Change)) (count : ℕ)
    → opened ≡ opened_by statement levels → count ≡ length now → later ≡ take count opened → later ≡ take (length now) (opened_by statement levels)
closed_behind statement now levels opened later count opens counted taken =
    taken ∙ (ap (λ (n : ℕ). take n opened) counted ∙ ap (take (length now)) opens)

pub kept_so : (statement : Bound) (names now : Names) (levels opened later : List (List Change)) (count : ℕ) → length names ≡ length levels
    → opened ≡ opened_by statement levels → count ≡ length now → later ≡ take count opened → now ≡ saved_after statement names tt
    → savepoints now later ≡ map saved_of (saved_after statement (map savepoint_of (savepoints names levels)) [])
kept_so statement names now levels opened later count long opens counted taken is =
    ap (savepoints now) (closed_behind statement now levels opened later count opens counted taken)
    ∙ (ap (λ (list : Names). savepoints list (take (length list) (opened_by statement levels))) is ∙ saved_so statement names levels long)

pub kept_again : (statement : Bound) (names now : Names) (levels opened later : List (List Change)) (count : ℕ) → length names ≡ length levels
    → opened ≡ opened_by statement levels → count ≡ length now → later ≡ take count opened → now ≡ names → later ≡ levels
kept_again statement names now levels opened later count long opens counted taken is =
    closed_behind statement now levels opened later count opens counted taken
    ∙ (ap (λ (list : Names). take (length list) (opened_by statement levels)) is ∙ closed_again statement names levels long)

pub kept_long : {A E : Type 0} (result : Result A E) (statement : Bound) (names now : Names) (levels opened later : List (List Change)) (count : ℕ)
    → length names ≡ length levels → opened ≡ opened_by statement levels → count ≡ length now → later ≡ take count opened
    → OnOk result (now ≡ saved_after statement names tt) → OnErr result (now ≡ names) → length now ≡ length later
kept_long (Ok x) statement names now levels opened later count long opens counted taken is other =
    ap length is
    ∙ (closed_long statement names levels long
    ∙ (ap (λ (list : Names). length (take (length list) (opened_by statement levels))) (sym is)
    ∙ sym (ap length (closed_behind statement now levels opened later count opens counted taken))))
kept_long (Err e) statement names now levels opened later count long opens counted taken other is =
    ap length is ∙ (long ∙ sym (ap length (kept_again statement names now levels opened later count long opens counted taken is)))
