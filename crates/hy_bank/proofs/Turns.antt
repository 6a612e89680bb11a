-- Transactions of a commit order, each with its rank: when they have run in turn.
use Rattle.std.proofs.Common.{◌≡◌, ℕ, zero, suc, ◌+◌, List, [], ◌∷◌, None, subst, ap, ◌∙◌, map, arith}
use Rattle.std.specs.Prelude.{take}
use Rattle.std.specs.List.{AllByRecursion}
use Rattle.hy_bound.specs.declared.Bound.{Bound}
use Rattle.hy_bound.specs.declared.Shape.{Shape}
use Rattle.hy_meaning.specs.Statement.{Database}
use Rattle.hy_meaning.specs.Serial.{alone_of, serial}
use Rattle.hy_lawful.specs.Outcomes.{EachFrom}
use Rattle.hy_bank.specs.Bank.{IsOfBank, NoneStops}

-- ---- what is said of each item

pub each_so : {X : Type 0} (first : ℕ) (P Q : ℕ → X → Type 0) (xs : List X) → ((n : ℕ) (x : X) → P n x → Q n x) → EachFrom first P xs → EachFrom first Q xs
each_so first P Q [] f h = tt
each_so first P Q (x ∷ xs) f h = (f first x h.0, each_so (suc first) P Q xs f h.1)

pub all_mapped : {X Y : Type 0} (P : Y → Type 0) (f : X → Y) (xs : List X) → AllByRecursion (λ x. P (f x)) xs → AllByRecursion P (map f xs)
all_mapped P f [] h = tt
all_mapped P f (x ∷ xs) h = (h.0, all_mapped P f xs h.1)

pub all_both : {X : Type 0} (P Q : X → Type 0) (xs : List X) → AllByRecursion P xs → AllByRecursion Q xs → AllByRecursion (λ x. P x × Q x) xs
all_both P Q [] h k = tt
all_both P Q (x ∷ xs) h k = ((h.0, k.0), all_both P Q xs h.1 k.1)

pub all_so : {X : Type 0} (P Q : X → Type 0) (xs : List X) → ((x : X) → P x → Q x) → AllByRecursion P xs → AllByRecursion Q xs
all_so P Q [] f h = tt
all_so P Q (x ∷ xs) f h = (f x h.0, all_so P Q xs f h.1)

pub all_in_front : {X : Type 0} (P : X → Type 0) (n : ℕ) (xs : List X) → AllByRecursion P xs → AllByRecursion P (take n xs)
all_in_front P zero xs h = tt
all_in_front P (suc n) [] h = tt
all_in_front P (suc n) (x ∷ xs) h = (h.0, all_in_front P n xs h.1)

-- ---- transactions in turn

-- a transaction of the bank that runs from the database at its rank on, and does not stop
pub record GoesOn (shapes : List Shape) (at : ℕ → Database) (rank : ℕ) (statements : List Bound) : Type 0 where
  pub is_of_bank : IsOfBank statements
  pub runs_on : (alone_of shapes statements (at rank)).stop ≡ None

pub all_of_bank : {X : Type 0} (shapes : List Shape) (at : ℕ → Database) (statements_of : X → List Bound) (first : ℕ) (xs : List X)
    → EachFrom first (λ (rank : ℕ) (x : X). GoesOn shapes at rank (statements_of x)) xs → AllByRecursion IsOfBank (map statements_of xs)
all_of_bank shapes at statements_of first [] h = tt
all_of_bank shapes at statements_of first (x ∷ xs) h = (h.0.is_of_bank, all_of_bank shapes at statements_of (suc first) xs h.1)

-- where the database of each rank is that of the transactions before it, none stops
pub none_stop : {X : Type 0} (shapes : List Shape) (at : ℕ → Database) (statements_of : X → List Bound) (first : ℕ) (xs : List X) (db : Database)
    → ((n : ℕ) → at (first + n) ≡ serial shapes (map statements_of (take n xs)) db)
    → EachFrom first (λ (rank : ℕ) (x : X). GoesOn shapes at rank (statements_of x)) xs → NoneStops shapes (map statements_of xs) db
none_stop shapes at statements_of first [] db same h = tt
none_stop shapes at statements_of first (x ∷ xs) db same h =
    let here : at first ≡ db = ap at (let e : first ≡ first + 0 = omega arith in e) ∙ same 0 in (
      subst (λ (d : Database). (alone_of shapes (statements_of x) d).stop ≡ None) here h.0.runs_on,
      none_stop shapes at statements_of (suc first) xs (alone_of shapes (statements_of x) db).database
          (λ n. ap at (let e : suc first + n ≡ first + suc n = omega arith in e) ∙ same (suc n)) h.1,
    )

-- of the first transactions none stops either
pub none_stop_in_front : (shapes : List Shape) (n : ℕ) (orders : List (List Bound)) (db : Database) → NoneStops shapes orders db
    → NoneStops shapes (take n orders) db
none_stop_in_front shapes zero orders db h = tt
none_stop_in_front shapes (suc n) [] db h = tt
none_stop_in_front shapes (suc n) (statements ∷ orders) db h =
    (h.0, none_stop_in_front shapes n orders (alone_of shapes statements db).database h.1)
