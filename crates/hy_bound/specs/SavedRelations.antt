-- Savepoints of two kinds that have the same names and keep what is related: they stay so along the same statements.
use Rattle.std.proofs.Common.{◌≡◌, ℕ, zero, suc, List, [], ◌∷◌, ◌++◌, Option, None, Some, length, refl, ap, ◌∙◌, subst}
use Rattle.std.specs.Prelude.{slice_get, take, if◌then◌else◌, option_and_then}
use Rattle.std.specs.Option.{option_map, option_or}
use Rattle.std.specs.Str.{bytes_eq}
use Rattle.hy_bound.specs.declared.Bound.{Bound}
use Rattle.hy_bound.specs.declared.Bound.TheVariants.{Select, Group, Insert, Update, Delete, Savepoint, RollbackTo, Release}
use Rattle.hy_bound.specs.Savepoints.{Saved, newest, kept_by, oldest, saved_after, back_from, value_after}

-- two lists of savepoints have the same names, one by one, and what they keep is related
abbrev pub AreAlike : {A B : Type 0} → (A → B → Type 0) → List (Saved A) → List (Saved B) → Type 0
AreAlike R [] [] = Unit {0}
AreAlike R [] (other ∷ others) = ⊥
AreAlike R (one ∷ saved) [] = ⊥
AreAlike R (one ∷ saved) (other ∷ others) = ((one.name ≡ other.name) × R one.was other.was) × AreAlike R saved others

-- each savepoint keeps what has this property
abbrev pub AllKeep : {A : Type 0} → (A → Type 0) → List (Saved A) → Type 0
AllKeep P saved = AreAlike (λ was same. P was) saved saved

-- neither is kept, or both are, and are related
abbrev pub BothKept : {A B : Type 0} → (A → B → Type 0) → Option A → Option B → Type 0
BothKept R None None = Unit {0}
BothKept R None (Some other) = ⊥
BothKept R (Some one) None = ⊥
BothKept R (Some one) (Some other) = R one other

-- ---- what they have in common

pub alike_same : {A : Type 0} (saved : List (Saved A)) → AreAlike (λ was same. was ≡ same) saved saved
alike_same [] = tt
alike_same (one ∷ saved) = ((refl, refl), alike_same saved)

pub alike_wider : {A B : Type 0} (R S : A → B → Type 0) → ((a : A) (b : B) → R a b → S a b) → (saved : List (Saved A)) (others : List (Saved B))
    → AreAlike R saved others → AreAlike S saved others
alike_wider R S wider [] [] h = tt
alike_wider R S wider [] (other ∷ others) h = absurd h
alike_wider R S wider (one ∷ saved) [] h = absurd h
alike_wider R S wider (one ∷ saved) (other ∷ others) h =
    ((h.0.0, wider one.was other.was h.0.1), alike_wider R S wider saved others h.1)

pub alike_long : {A B : Type 0} (R : A → B → Type 0) (saved : List (Saved A)) (others : List (Saved B)) → AreAlike R saved others
    → length saved ≡ length others
alike_long R [] [] h = refl
alike_long R [] (other ∷ others) h = absurd h
alike_long R (one ∷ saved) [] h = absurd h
alike_long R (one ∷ saved) (other ∷ others) h = ap suc (alike_long R saved others h.1)

pub newest_alike : {A B : Type 0} (R : A → B → Type 0) (name : List ℕ) (saved : List (Saved A)) (others : List (Saved B)) → AreAlike R saved others
    → newest name saved ≡ newest name others
newest_alike R name [] [] h = refl
newest_alike R name [] (other ∷ others) h = absurd h
newest_alike R name (one ∷ saved) [] h = absurd h
newest_alike R name (one ∷ saved) (other ∷ others) h =
    ap (λ (behind : Option ℕ). option_or (option_map suc behind) (if bytes_eq name one.name then Some 0 else None)) (newest_alike R name saved others h.1)
    ∙ ap (λ (named : List ℕ). option_or (option_map suc (newest name others)) (if bytes_eq name named then Some 0 else None)) h.0.0

get_alike : {A B : Type 0} (R : A → B → Type 0) (saved : List (Saved A)) (others : List (Saved B)) → AreAlike R saved others → (at : ℕ)
    → BothKept R (option_map (λ one. one.was) (slice_get saved at)) (option_map (λ one. one.was) (slice_get others at))
get_alike R [] [] h at = tt
get_alike R [] (other ∷ others) h at = absurd h
get_alike R (one ∷ saved) [] h at = absurd h
get_alike R (one ∷ saved) (other ∷ others) h zero = h.0.1
get_alike R (one ∷ saved) (other ∷ others) h (suc at) = get_alike R saved others h.1 at

kept_at : {A B : Type 0} (R : A → B → Type 0) (saved : List (Saved A)) (others : List (Saved B)) → AreAlike R saved others → (at : Option ℕ)
    → BothKept R (option_map (λ one. one.was) (option_and_then (slice_get saved) at)) (option_map (λ one. one.was) (option_and_then (slice_get others) at))
kept_at R saved others h None = tt
kept_at R saved others h (Some at) = get_alike R saved others h at

-- what the newest savepoints of a name keep is related
pub kept_alike : {A B : Type 0} (R : A → B → Type 0) (name : List ℕ) (saved : List (Saved A)) (others : List (Saved B)) → AreAlike R saved others
    → BothKept R (kept_by name saved) (kept_by name others)
kept_alike R name saved others h =
    subst (λ (at : Option ℕ). BothKept R (kept_by name saved) (option_map (λ one. one.was) (option_and_then (slice_get others) at)))
    (newest_alike R name saved others h) (kept_at R saved others h (newest name saved))

-- ---- after a statement

take_alike : {A B : Type 0} (R : A → B → Type 0) (saved : List (Saved A)) (others : List (Saved B)) → AreAlike R saved others → (count : ℕ)
    → AreAlike R (take count saved) (take count others)
take_alike R [] [] h zero = tt
take_alike R [] [] h (suc count) = tt
take_alike R [] (other ∷ others) h count = absurd h
take_alike R (one ∷ saved) [] h count = absurd h
take_alike R (one ∷ saved) (other ∷ others) h zero = tt
take_alike R (one ∷ saved) (other ∷ others) h (suc count) = (h.0, take_alike R saved others h.1 count)

oldest_alike : {A B : Type 0} (R : A → B → Type 0) (saved : List (Saved A)) (others : List (Saved B)) → AreAlike R saved others → (count : Option ℕ)
    → AreAlike R (oldest saved count) (oldest others count)
oldest_alike R saved others h None = h
oldest_alike R saved others h (Some count) = take_alike R saved others h count

pub added_alike : {A B : Type 0} (R : A → B → Type 0) (name : List ℕ) (saved : List (Saved A)) (others : List (Saved B)) (a : A) (b : B)
    → AreAlike R saved others → R a b
    → AreAlike R (saved ++ record { name = name; was = a } ∷ []) (others ++ record { name = name; was = b } ∷ [])
added_alike R name [] [] a b h r = ((refl, r), tt)
added_alike R name [] (other ∷ others) a b h r = absurd h
added_alike R name (one ∷ saved) [] a b h r = absurd h
added_alike R name (one ∷ saved) (other ∷ others) a b h r = (h.0, added_alike R name saved others a b h.1 r)

-- a statement that left related values leaves savepoints of the same names that keep what is related
pub saved_after_alike : {A B : Type 0} (R : A → B → Type 0) (statement : Bound) (saved : List (Saved A)) (others : List (Saved B)) (a : A) (b : B)
    → AreAlike R saved others → R a b → AreAlike R (saved_after statement saved a) (saved_after statement others b)
saved_after_alike R (Select tables ons pred items) saved others a b h r = h
saved_after_alike R (Group table pred key aggregate) saved others a b h r = h
saved_after_alike R (Insert table row) saved others a b h r = h
saved_after_alike R (Update table sets pred) saved others a b h r = h
saved_after_alike R (Delete table pred) saved others a b h r = h
saved_after_alike R (Savepoint name) saved others a b h r = added_alike R name saved others a b h r
saved_after_alike R (RollbackTo name) saved others a b h r =
    subst (λ (at : Option ℕ). AreAlike R (oldest saved (option_map suc (newest name saved))) (oldest others (option_map suc at)))
    (newest_alike R name saved others h) (oldest_alike R saved others h (option_map suc (newest name saved)))
saved_after_alike R (Release name) saved others a b h r =
    subst (λ (at : Option ℕ). AreAlike R (oldest saved (newest name saved)) (oldest others at))
    (newest_alike R name saved others h) (oldest_alike R saved others h (newest name saved))

back_alike : {A B : Type 0} (R S : A → B → Type 0) (back : A → A → A) (other_back : B → B → B) (a : A) (b : B) (one : Option A) (other : Option B) → S a b
    → ((was : A) (kept : B) → R was kept → S (back was a) (other_back kept b)) → BothKept R one other → S (back_from back a one) (back_from other_back b other)
back_alike R S back other_back a b None None s goes h = s
back_alike R S back other_back a b None (Some other) s goes h = absurd h
back_alike R S back other_back a b (Some one) None s goes h = absurd h
back_alike R S back other_back a b (Some one) (Some other) s goes h = goes one other h

-- and related values, by whatever relation going back from them to what is kept gives
pub value_after_alike : {A B : Type 0} (R S : A → B → Type 0) (back : A → A → A) (other_back : B → B → B) (statement : Bound)
    (saved : List (Saved A)) (others : List (Saved B)) (a : A) (b : B) → AreAlike R saved others → S a b
    → ((was : A) (kept : B) → R was kept → S (back was a) (other_back kept b))
    → S (value_after back statement saved a) (value_after other_back statement others b)
value_after_alike R S back other_back (Select tables ons pred items) saved others a b h s goes = s
value_after_alike R S back other_back (Group table pred key aggregate) saved others a b h s goes = s
value_after_alike R S back other_back (Insert table row) saved others a b h s goes = s
value_after_alike R S back other_back (Update table sets pred) saved others a b h s goes = s
value_after_alike R S back other_back (Delete table pred) saved others a b h s goes = s
value_after_alike R S back other_back (Savepoint name) saved others a b h s goes = s
value_after_alike R S back other_back (RollbackTo name) saved others a b h s goes =
    back_alike R S back other_back a b (kept_by name saved) (kept_by name others) s goes (kept_alike R name saved others h)
value_after_alike R S back other_back (Release name) saved others a b h s goes = s
