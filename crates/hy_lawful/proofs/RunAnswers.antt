-- The answered statements of a transaction have run: one more answer is one more statement that ran.
use Rattle.std.proofs.Common.{◌≡◌, ℕ, zero, suc, ◌+◌, ◌≤◌, List, [], ◌∷◌, ◌++◌, Option, None, Some, length, take, refl, ap, sym, ◌∙◌, subst, arith}
use Rattle.std.proofs.Common.{append_assoc}
use Rattle.std.specs.Prelude.{slice_get, option_and_then}
use Rattle.std.specs.List.{AllByRecursion}
use Rattle.std.specs.Option.{option_map}
use Rattle.std.proofs.lemmas.List.{length-append, append-nil, take-append-le}
use Rattle.std.proofs.lemmas.Option.{same_Some}
use Rattle.hy_bound.specs.declared.Bound.{Bound}
use Rattle.hy_bound.specs.declared.Record.{Record}
use Rattle.hy_bound.specs.declared.Reply.{Reply}
use Rattle.hy_bound.specs.Savepoints.{Saved, saved_after, value_after}
use Rattle.hy_bound.specs.SavedRelations.{AreAlike, alike_wider}
use Rattle.hy_machine.specs.declared.Setting.{Setting}
use Rattle.hy_machine.specs.States.{Begun}
use Rattle.hy_machine.specs.Writes.{Write, blank_own, with_writes, with_trail}
use Rattle.hy_machine.specs.Tables.{Tables, Own}
use Rattle.hy_machine.specs.Trails.{with_trail_joined}
use Rattle.hy_replay.specs.Ran.{One, Ran, one, taken_back, after_one, ran_from, ran}
use Rattle.hy_replay.specs.BagLaws.{IsPosition}
use Rattle.hy_lawful.proofs.Lists.{all_more}

-- what statements came to, and then one more of this kind
abbrev pub with_answer : Tables → Bound → Ran → One → Ran
with_answer tables statement given first = record {
  own = value_after (taken_back tables) statement given.saved first.own;
  saved = saved_after statement given.saved first.own;
  replies = given.replies ++ first.reply ∷ [];
  records = given.records ++ first.records;
}

-- a statement after none
ran_one : (setting : Setting) (tables : Tables) (own : Own) (saved : List (Saved Own)) (number : ℕ) (statement : Bound) (at : Option ℕ) (given : Ran)
    (first : One) → ran_from setting tables own saved number [] [] ≡ Some given → one setting tables given.own number statement at ≡ Some first
    → ran_from setting tables own saved number (statement ∷ []) (at ∷ []) ≡ Some (with_answer tables statement given first)
ran_one setting tables own saved number statement at given first e o =
    let nothing : Ran = record { own = own; saved = saved; replies = []; records = [] } in
    let same : nothing ≡ given = same_Some nothing given e in
    let start : one setting tables own number statement at ≡ Some first =
    ap (λ (before : Ran). one setting tables before.own number statement at) same ∙ o in
    ap (λ (got : Option One). option_and_then (λ (one : One). option_map (after_one one)
    (ran_from setting tables (value_after (taken_back tables) statement saved one.own) (saved_after statement saved one.own) (suc number) [] [])) got) start
    ∙ (ap (λ (records : List Record). Some (record {
      own = value_after (taken_back tables) statement saved first.own;
      saved = saved_after statement saved first.own;
      replies = first.reply ∷ [];
      records = records;
    })) (append-nil first.records)
    ∙ ap (λ (before : Ran). Some (with_answer tables statement before first)) same)

-- what a statement and those behind it came to
pub record Went (setting : Setting) (tables : Tables) (own : Own) (saved : List (Saved Own)) (number : ℕ) (statement : Bound) (statements : List Bound)
    (at : Option ℕ) (took : List (Option ℕ)) (given : Ran) : Type 0 where
  pub first : One
  pub rest : Ran
  pub first_is : one setting tables own number statement at ≡ Some first
  pub rest_is : ran_from setting tables (value_after (taken_back tables) statement saved first.own) (saved_after statement saved first.own) (suc number)
      statements took ≡ Some rest
  pub both : after_one first rest ≡ given

pub went : (setting : Setting) (tables : Tables) (own : Own) (saved : List (Saved Own)) (number : ℕ) (statement : Bound) (statements : List Bound)
    (at : Option ℕ) (took : List (Option ℕ)) (given : Ran) → ran_from setting tables own saved number (statement ∷ statements) (at ∷ took) ≡ Some given
    → Went setting tables own saved number statement statements at took given
went setting tables own saved number statement statements at took given e = by_first (one setting tables own number statement at) refl e
  where
    by_rest : (first : One) → one setting tables own number statement at ≡ Some first → (rest : Option Ran)
        → ran_from setting tables (value_after (taken_back tables) statement saved first.own) (saved_after statement saved first.own) (suc number)
        statements took ≡ rest → option_map (after_one first) rest ≡ Some given
        → Went setting tables own saved number statement statements at took given
    by_rest first f None r e = absurd cc
    by_rest first f (Some rest) r e =
        record { first = first; rest = rest; first_is = f; rest_is = r; both = same_Some (after_one first rest) given e }

    by_first : (got : Option One) → one setting tables own number statement at ≡ got
        → option_and_then (λ (one : One). option_map (after_one one) (ran_from setting tables (value_after (taken_back tables) statement saved one.own)
        (saved_after statement saved one.own) (suc number) statements took)) got ≡ Some given
        → Went setting tables own saved number statement statements at took given
    by_first None f e = absurd cc
    by_first (Some first) f e = by_rest first f
        (ran_from setting tables (value_after (taken_back tables) statement saved first.own) (saved_after statement saved first.own) (suc number)
        statements took) refl e

-- a statement after others
pub ran_more : (setting : Setting) (tables : Tables) (own : Own) (saved : List (Saved Own)) (number : ℕ) (statements : List Bound)
    (took : List (Option ℕ)) (given : Ran) (next : ℕ) (statement : Bound) (at : Option ℕ) (first : One) → length took ≡ length statements
    → number + length statements ≡ next
    → ran_from setting tables own saved number statements took ≡ Some given → one setting tables given.own next statement at ≡ Some first
    → ran_from setting tables own saved number (statements ++ statement ∷ []) (took ++ at ∷ []) ≡ Some (with_answer tables statement given first)
ran_more setting tables own saved number [] [] given next statement at first l n e o =
    ran_one setting tables own saved number statement at given first e
    (ap (λ (of : ℕ). one setting tables given.own of statement at) (let same : number ≡ next = omega arith in same) ∙ o)
ran_more setting tables own saved number [] (other ∷ took) given next statement at first l n e o = absurd (omega arith)
ran_more setting tables own saved number (before ∷ statements) [] given next statement at first l n e o = absurd (omega arith)
ran_more setting tables own saved number (before ∷ statements) (other ∷ took) given next statement at first l n e o =
    let w : Went setting tables own saved number before statements other took given =
    went setting tables own saved number before statements other took given e in
    let left : Own = value_after (taken_back tables) before saved w.first.own in
    let made : List (Saved Own) = saved_after before saved w.first.own in
    let later : ran_from setting tables left made (suc number) (statements ++ statement ∷ []) (took ++ at ∷ [])
    ≡ Some (with_answer tables statement w.rest first) =
    ran_more setting tables left made (suc number) statements took w.rest next statement at first (omega arith) (omega arith) w.rest_is
    (ap (λ (before : Ran). one setting tables before.own next statement at) w.both ∙ o) in
    ap (λ (got : Option One). option_and_then (λ (one : One). option_map (after_one one)
    (ran_from setting tables (value_after (taken_back tables) before saved one.own) (saved_after before saved one.own) (suc number)
    (statements ++ statement ∷ []) (took ++ at ∷ []))) got)
    w.first_is
    ∙ (ap (option_map (after_one w.first)) later
    ∙ (ap (λ (records : List Record). Some (record {
      own = value_after (taken_back tables) statement w.rest.saved first.own;
      saved = saved_after statement w.rest.saved first.own;
      replies = w.first.reply ∷ (w.rest.replies ++ first.reply ∷ []);
      records = records;
    })) (sym (append_assoc w.first.records w.rest.records first.records))
    ∙ ap (λ (all : Ran). Some (with_answer tables statement all first)) w.both))

-- ---- the first statements of a transaction

next_taken : {X : Type 0} (xs : List X) (n : ℕ) (x : X) → slice_get xs n ≡ Some x → take (suc n) xs ≡ take n xs ++ x ∷ []
next_taken [] n x e = absurd cc
next_taken (y ∷ xs) zero x e = ap (λ one. one ∷ []) (same_Some y x e)
next_taken (y ∷ xs) (suc n) x e = ap (λ rest. y ∷ rest) (next_taken xs n x e)

taken_length : {X : Type 0} (xs : List X) (n : ℕ) (x : X) → slice_get xs n ≡ Some x → length (take n xs) ≡ n
taken_length [] n x e = absurd cc
taken_length (y ∷ xs) zero x e = refl
taken_length (y ∷ xs) (suc n) x e = ap suc (taken_length xs n x e)

-- what was own behind so many writes of a trail
pub record OwnBehind (setting : Setting) (trail : List Write) (count : ℕ) (was : Own) : Type 0 where
  pub within : count ≤ length trail
  pub own_is : was ≡ with_writes (blank_own setting) (take count trail)

-- the answered statements of a transaction came to this over tables; what they came to has the savepoints that are open, and
-- what was own when they were made
pub record IsRun (setting : Setting) (tables : Tables) (statements : List Bound) (begun : Begun) (given : Ran) : Type 0 where
  pub came_to : ran setting tables (take (length begun.replies) statements) begun.took ≡ Some given
  pub replies : given.replies ≡ begun.replies
  pub records : given.records ≡ begun.records
  pub positions : AllByRecursion (IsPosition setting) begun.took
  pub took : length begun.took ≡ length begun.replies
  pub saved : AreAlike (OwnBehind setting begun.trail) begun.saved given.saved

-- what is written, replied, taken and recorded is what the next statement comes to, and no savepoint is made or left
pub record AnswersNext (setting : Setting) (tables : Tables) (statements : List Bound) (begun : Begun) (given : Ran) (writes : List Write) (reply : Reply)
    (at : Option ℕ) (records : List Record) : Type 0 where
  pub statement : Bound
  pub here : slice_get statements (length begun.replies) ≡ Some statement
  pub position : IsPosition setting at
  pub gives : one setting tables given.own (suc (length begun.replies)) statement at
      ≡ Some (record { own = with_writes begun.own writes; reply = reply; records = records })
  pub stays : value_after (taken_back tables) statement given.saved (with_writes begun.own writes) ≡ with_writes begun.own writes
  pub saved : saved_after statement given.saved (with_writes begun.own writes) ≡ given.saved

-- what is replied, and the savepoints that are open then, are what the next statement comes to
pub record SavesNext (setting : Setting) (tables : Tables) (statements : List Bound) (begun : Begun) (given : Ran) (statement : Bound) (reply : Reply)
    : Type 0 where
  pub here : slice_get statements (length begun.replies) ≡ Some statement
  pub gives : one setting tables given.own (suc (length begun.replies)) statement None ≡ Some (record { own = given.own; reply = reply; records = [] })
  pub own : value_after (taken_back tables) statement given.saved given.own ≡ begun.own
  pub saved : AreAlike (OwnBehind setting begun.trail) (saved_after statement begun.saved (length begun.trail)) (saved_after statement given.saved given.own)

-- ---- one more answer

-- a transaction after one more answer
abbrev pub answered : Begun → List Write → Reply → Option ℕ → List Record → Begun
answered begun writes reply at records = record begun {
  own = with_writes begun.own writes;
  trail = with_trail begun.trail writes;
  took = begun.took ++ at ∷ [];
  replies = begun.replies ++ reply ∷ [];
  records = begun.records ++ records;
}

-- and after a statement that makes savepoints, or leaves some
abbrev pub saved_answered : Begun → Bound → Reply → Begun
saved_answered begun statement reply = answered (record begun { saved = saved_after statement begun.saved (length begun.trail) }) [] reply None []

-- savepoints keep what they kept where more is written
pub longer_saved : (setting : Setting) (trail writes : List Write) (saved : List (Saved ℕ)) (others : List (Saved Own))
    → AreAlike (OwnBehind setting trail) saved others → AreAlike (OwnBehind setting (with_trail trail writes)) saved others
longer_saved setting trail writes saved others h =
    alike_wider (OwnBehind setting trail) (OwnBehind setting (with_trail trail writes))
    (λ count was behind. record {
      within = omega (arith, behind.within, length-append trail writes, ap length (with_trail_joined trail writes));
      own_is = behind.own_is
          ∙ ap (with_writes (blank_own setting)) (sym (ap (take count) (with_trail_joined trail writes) ∙ take-append-le count trail writes behind.within));
    })
    saved others h

-- one more statement is answered so
statement_more : (setting : Setting) (tables : Tables) (statements : List Bound) (begun : Begun) (given : Ran) (statement : Bound) (at : Option ℕ)
    (reply : Reply) (first : One) → IsRun setting tables statements begun given → slice_get statements (length begun.replies) ≡ Some statement
    → one setting tables given.own (suc (length begun.replies)) statement at ≡ Some first
    → ran setting tables (take (length (begun.replies ++ reply ∷ [])) statements) (begun.took ++ at ∷ []) ≡ Some (with_answer tables statement given first)
statement_more setting tables statements begun given statement at reply first run here gives =
    let many : ℕ = length begun.replies in
    let more : length (begun.replies ++ reply ∷ []) ≡ suc many = length-append begun.replies (reply ∷ []) ∙ omega arith in
    let few : length (take many statements) ≡ many = taken_length statements many statement here in
    ap (λ (first : List Bound). ran setting tables first (begun.took ++ at ∷ []))
    (ap (λ (n : ℕ). take n statements) more ∙ next_taken statements many statement here)
    ∙ ran_more setting tables (blank_own setting) [] 1 (take many statements) begun.took given (suc many) statement at first
    (run.took ∙ sym few) (omega (arith, few)) run.came_to gives

took_more : (begun : Begun) (at : Option ℕ) (reply : Reply) → length begun.took ≡ length begun.replies
    → length (begun.took ++ at ∷ []) ≡ length (begun.replies ++ reply ∷ [])
took_more begun at reply took = omega (arith, took, length-append begun.took (at ∷ []), length-append begun.replies (reply ∷ []))

pub run_more : (setting : Setting) (tables : Tables) (statements : List Bound) (begun : Begun) (given : Ran) (writes : List Write) (reply : Reply)
    (at : Option ℕ) (records : List Record) → IsRun setting tables statements begun given
    → (a : AnswersNext setting tables statements begun given writes reply at records)
    → IsRun setting tables statements (answered begun writes reply at records)
    (with_answer tables a.statement given (record { own = with_writes begun.own writes; reply = reply; records = records }))
run_more setting tables statements begun given writes reply at records run a = record {
  came_to = statement_more setting tables statements begun given a.statement at reply
      (record { own = with_writes begun.own writes; reply = reply; records = records }) run a.here a.gives;
  replies = ap (λ (replies : List Reply). replies ++ reply ∷ []) run.replies;
  records = ap (λ (all : List Record). all ++ records) run.records;
  positions = all_more (IsPosition setting) begun.took at run.positions a.position;
  took = took_more begun at reply run.took;
  saved = subst (AreAlike (OwnBehind setting (with_trail begun.trail writes)) begun.saved) (sym a.saved)
      (longer_saved setting begun.trail writes begun.saved given.saved run.saved);
}

pub run_saved : (setting : Setting) (tables : Tables) (statements : List Bound) (begun : Begun) (given : Ran) (statement : Bound) (reply : Reply)
    → IsRun setting tables statements begun given → SavesNext setting tables statements begun given statement reply
    → IsRun setting tables statements (saved_answered begun statement reply)
    (with_answer tables statement given (record { own = given.own; reply = reply; records = [] }))
run_saved setting tables statements begun given statement reply run a = record {
  came_to = statement_more setting tables statements begun given statement None reply
      (record { own = given.own; reply = reply; records = [] }) run a.here a.gives;
  replies = ap (λ (replies : List Reply). replies ++ reply ∷ []) run.replies;
  records = ap (λ (all : List Record). all ++ []) run.records;
  positions = all_more (IsPosition setting) begun.took None run.positions tt;
  took = took_more begun None reply run.took;
  saved = a.saved;
}
