-- A transaction none of whose statements changes rows has written nothing, and each places as many inserts as were answered so.
use Rattle.std.proofs.Common.{◌≡◌, ℕ, zero, suc, ◌+◌, ◌<◌, List, [], ◌∷◌, Option, None, Some, Bool, true, false, length, take, map}
use Rattle.std.proofs.Common.{cond, is_some, refl, ap, sym, ◌∙◌, subst, arith}
use Rattle.std.specs.Prelude.{slice_get, replicate, ◌||◌, ◌&&◌, ◌==◌, zip}
use Rattle.std.specs.List.{list_any, range_with_len}
use Rattle.std.proofs.lemmas.List.Sums.{sum_by-cons}
use Rattle.std.proofs.lemmas.Option.{same_Some}
use Rattle.hy_value.specs.declared.Value.{Value}
use Rattle.hy_bound.specs.declared.Bound.{Bound}
use Rattle.hy_bound.specs.declared.Bound.TheVariants.{Select, Group, Insert, Update, Delete, Savepoint, RollbackTo, Release}
use Rattle.hy_bound.specs.declared.Reply.{Reply}
use Rattle.hy_bound.specs.Savepoints.{Saved, saved_after, value_after}
use Rattle.hy_bound.specs.declared.WriteKind.{WriteKind}
use Rattle.hy_bound.specs.declared.WriteKind.TheVariants as kind
use Rattle.hy_bound.specs.Condition.{Condition}
use Rattle.hy_bound.specs.declared.Ending.{Ending}
use Rattle.hy_bound.specs.declared.Ending.TheVariants.{Committed, Read, RolledBack, Conflict, Invalid, Range, Full}
use Rattle.hy_machine.specs.declared.Setting.{Setting}
use Rattle.hy_machine.specs.States.{Begun, Finished}
use Rattle.hy_machine.specs.Tables.{Entry, Cell, Tables, Own, capacity}
use Rattle.hy_machine.specs.Writes.{blank_own, written}
use Rattle.hy_machine.specs.Outcomes.{placed_by, placed_in, placed_from}
use Rattle.hy_replay.specs.Ran.{One, Ran, one, taken_back, ran_from}
use Rattle.hy_lawful.specs.Endings.{inserts}
use Rattle.hy_lawful.specs.Written.{is_change, is_inserted, inserted_in}
use Rattle.hy_lawful.proofs.Booleans.{or_left, or_right}
use Rattle.hy_lawful.proofs.Lists.{chosen}
use Rattle.hy_lawful.proofs.Tables.{none_from}
use Rattle.hy_lawful.proofs.RunAnswers.{Went, went}
use Rattle.hy_lawful.proofs.WroteBacks.{after_holds, nothing_back}
use Rattle.hy_lawful.proofs.WroteSweeps.{change_of, HadSwept, HadWritten}
use Rattle.hy_lawful.proofs.WroteStates.{EndedWrote}

-- ---- readers

read_leaves : (setting : Setting) (tables : Tables) (own : Own) (number : ℕ) (statement : Bound) (at : Option ℕ) (first : One)
    → is_change statement ≡ false → one setting tables own number statement at ≡ Some first → first.own ≡ own
read_leaves setting tables own number (Select from ons pred items) at first r e = ap (λ (one : One). one.own) (sym (same_Some _ first e))
read_leaves setting tables own number (Group table pred key aggregate) at first r e = ap (λ (one : One). one.own) (sym (same_Some _ first e))
read_leaves setting tables own number (Insert table row) at first r e = absurd cc
read_leaves setting tables own number (Update table sets pred) at first r e = absurd cc
read_leaves setting tables own number (Delete table pred) at first r e = absurd cc
read_leaves setting tables own number (Savepoint name) at first r e = ap (λ (one : One). one.own) (sym (same_Some _ first e))
read_leaves setting tables own number (RollbackTo name) at first r e = ap (λ (one : One). one.own) (sym (same_Some _ first e))
read_leaves setting tables own number (Release name) at first r e = ap (λ (one : One). one.own) (sym (same_Some _ first e))

-- where nothing is own, nothing is after statements that change no rows, whether they go back to a savepoint or not
reads_leave : (setting : Setting) (tables : Tables) (own : Own) (saved : List (Saved Own)) (number : ℕ) (statements : List Bound)
    (took : List (Option ℕ)) (given : Ran) → list_any (list_any is_some) own ≡ false → list_any is_change statements ≡ false
    → ran_from setting tables own saved number statements took ≡ Some given → given.own ≡ own
reads_leave setting tables own saved number [] took given nothing r e = ap (λ (ran : Ran). ran.own) (sym (same_Some _ given e))
reads_leave setting tables own saved number (statement ∷ statements) [] given nothing r e = absurd cc
reads_leave setting tables own saved number (statement ∷ statements) (at ∷ took) given nothing r e =
    let w : Went setting tables own saved number statement statements at took given =
    went setting tables own saved number statement statements at took given e in
    let same : w.first.own ≡ own =
    read_leaves setting tables own number statement at w.first (or_left (is_change statement) (list_any is_change statements) r) w.first_is in
    let left : value_after (taken_back tables) statement saved w.first.own ≡ own =
    after_holds (λ (other : Own). other ≡ own) (taken_back tables) statement saved w.first.own same
    (λ was. ap (taken_back tables was) same ∙ nothing_back tables was own nothing) in
    ap (λ (ran : Ran). ran.own) (sym w.both)
    ∙ reads_leave setting tables own (saved_after statement saved w.first.own) (suc number) statements took w.rest nothing
    (or_right (is_change statement) (list_any is_change statements) r)
    (subst (λ (other : Own). ran_from setting tables other (saved_after statement saved w.first.own) (suc number) statements took ≡ Some w.rest)
    left w.rest_is)

none_taken : {X : Type 0} (p : X → Bool) (xs : List X) (n : ℕ) → list_any p xs ≡ false → list_any p (take n xs) ≡ false
none_taken p [] zero h = refl
none_taken p [] (suc n) h = refl
none_taken p (x ∷ xs) zero h = refl
none_taken p (x ∷ xs) (suc n) h =
    ap (λ (b : Bool). b || list_any p (take n xs)) (or_left (p x) (list_any p xs) h) ∙ none_taken p xs n (or_right (p x) (list_any p xs) h)

none_there : {X : Type 0} (p : X → Bool) (xs : List X) (i : ℕ) (x : X) → list_any p xs ≡ false → slice_get xs i ≡ Some x → p x ≡ false
none_there p [] i x h e = absurd cc
none_there p (y ∷ xs) zero x h e = ap p (sym (same_Some y x e)) ∙ or_left (p y) (list_any p xs) h
none_there p (y ∷ xs) (suc i) x h e = none_there p xs i x (or_right (p y) (list_any p xs) h) e

blank_cells : (n : ℕ) → list_any (λ (item : Option Cell). is_some item) (replicate n None) ≡ false
blank_cells zero = refl
blank_cells (suc n) = blank_cells n

blank_tables : (n : ℕ) (rows : List (List (List Value)))
    → list_any (list_any (λ (item : Option Cell). is_some item)) (map (λ (one : List (List Value)). replicate n None) rows) ≡ false
blank_tables n [] = refl
blank_tables n (one ∷ rows) =
    ap (λ (b : Bool). b || list_any (list_any (λ (item : Option Cell). is_some item)) (map (λ (one : List (List Value)). replicate n None) rows))
    (blank_cells n)
    ∙ blank_tables n rows

change_changes : (kind : WriteKind) (pred : Condition) (table : ℕ) → is_change (change_of kind pred table) ≡ true
change_changes (kind.Set sets) pred table = refl
change_changes kind.Delete pred table = refl

never_swept : (setting : Setting) (tables : Tables) (statements : List Bound) (begun : Begun) (given : Ran) (table pos : ℕ)
    → list_any is_change statements ≡ false → HadSwept setting tables statements begun given table pos → given.own ≡ begun.own
never_swept setting tables statements begun given table pos r s =
    let reads : is_change (change_of s.kind s.pred table) ≡ false =
    none_there is_change statements (length begun.replies) (change_of s.kind s.pred table) r s.here in
    absurd (let never : false ≡ true = sym reads ∙ change_changes s.kind s.pred table in cc)

nothing_more : (setting : Setting) (tables : Tables) (statements : List Bound) (begun : Begun) (given : Ran) (ending : Ending)
    → list_any is_change statements ≡ false → HadWritten setting tables statements begun given ending → given.own ≡ begun.own
nothing_more setting tables statements begun given (Committed rank) r h = h
nothing_more setting tables statements begun given Read r h = h
nothing_more setting tables statements begun given RolledBack r h = h
nothing_more setting tables statements begun given (Conflict table pos other) r h = never_swept setting tables statements begun given table pos r h
nothing_more setting tables statements begun given (Invalid table pos other statement) r h = h
nothing_more setting tables statements begun given (Range table pos) r h = never_swept setting tables statements begun given table pos r h
nothing_more setting tables statements begun given (Full table) r h = h

-- a transaction that only reads has written nothing
pub readers_write_nothing : (setting : Setting) (order : List Entry) (statements : List Bound) (finished : Finished)
    → EndedWrote setting order statements finished → list_any is_change statements ≡ false → written finished.begun.own ≡ []
readers_write_nothing setting order statements finished ended r =
    ap written (sym (nothing_more setting _ statements finished.begun ended.given finished.ending r ended.wrote)
    ∙ reads_leave setting _ (blank_own setting) [] 1 (take (length finished.begun.replies) statements) finished.begun.took ended.given
    (blank_tables (capacity setting) setting.first) (none_taken is_change statements (length finished.begun.replies) r) ended.run.came_to)
    ∙ none_from 0 (blank_own setting) (blank_tables (capacity setting) setting.first)

-- ---- inserts

-- whether one more is inserted where a statement was answered so
abbrev inserted_by : ℕ → Bound → Reply → ℕ
inserted_by table statement answer = cond (inserts table (Some statement) && is_inserted answer) 1 0

placed_so : (setting : Setting) (tables : Tables) (own : Own) (number table : ℕ) (statement : Bound) (at : Option ℕ) (first : One)
    → one setting tables own number statement at ≡ Some first → inserted_by table statement first.reply ≡ placed_by table statement at
placed_so setting tables own number table (Select from ons pred items) None first e = refl
placed_so setting tables own number table (Select from ons pred items) (Some pos) first e = refl
placed_so setting tables own number table (Group of pred key aggregate) None first e = refl
placed_so setting tables own number table (Group of pred key aggregate) (Some pos) first e = refl
placed_so setting tables own number table (Update of sets pred) None first e = refl
placed_so setting tables own number table (Update of sets pred) (Some pos) first e = refl
placed_so setting tables own number table (Delete of pred) None first e = refl
placed_so setting tables own number table (Delete of pred) (Some pos) first e = refl
placed_so setting tables own number table (Savepoint name) None first e = refl
placed_so setting tables own number table (Savepoint name) (Some pos) first e = refl
placed_so setting tables own number table (RollbackTo name) None first e = refl
placed_so setting tables own number table (RollbackTo name) (Some pos) first e = refl
placed_so setting tables own number table (Release name) None first e = refl
placed_so setting tables own number table (Release name) (Some pos) first e = refl
placed_so setting tables own number table (Insert of row) None first e =
    ap (λ (one : One). inserted_by table (Insert of row) one.reply) (sym (chosen _ _ first e)) ∙ no_more (of == table)
  where
    no_more : (b : Bool) → cond {A = ℕ} (b && false) 1 0 ≡ 0
    no_more true = refl
    no_more false = refl
placed_so setting tables own number table (Insert of row) (Some pos) first e =
    ap (λ (one : One). inserted_by table (Insert of row) one.reply) (sym (chosen _ _ first e)) ∙ one_more (of == table)
  where
    one_more : (b : Bool) → cond {A = ℕ} (b && true) 1 0 ≡ cond {A = ℕ} b 1 0
    one_more true = refl
    one_more false = refl

pub inserts_counted : (setting : Setting) (tables : Tables) (own : Own) (saved : List (Saved Own)) (number table : ℕ) (statements : List Bound)
    (replies : List Reply) (took : List (Option ℕ)) (given : Ran) → length took ≡ length replies
    → ran_from setting tables own saved number (take (length replies) statements) took ≡ Some given → given.replies ≡ replies
    → inserted_in statements replies table ≡ placed_in table statements took
inserts_counted setting tables own saved number table [] replies took given l e r = refl
inserts_counted setting tables own saved number table (statement ∷ statements) [] [] given l e r = refl
inserts_counted setting tables own saved number table (statement ∷ statements) [] (at ∷ took) given l e r = absurd (omega arith)
inserts_counted setting tables own saved number table (statement ∷ statements) (answer ∷ replies) [] given l e r = absurd (omega arith)
inserts_counted setting tables own saved number table (statement ∷ statements) (answer ∷ replies) (at ∷ took) given l e r =
    let w : Went setting tables own saved number statement (take (length replies) statements) at took given =
    went setting tables own saved number statement (take (length replies) statements) at took given e in
    let same : w.first.reply ∷ w.rest.replies ≡ answer ∷ replies = ap (λ (ran : Ran). ran.replies) w.both ∙ r in
    let head : w.first.reply ≡ answer = cc in
    let tail : w.rest.replies ≡ replies = cc in
    sum_by-cons (λ (answer : Bound × Reply). inserted_by table answer.0 answer.1) (statement, answer) (zip statements replies)
    ∙ (ap (λ (n : ℕ). n + inserted_in statements replies table)
    (ap (inserted_by table statement) (sym head) ∙ placed_so setting tables own number table statement at w.first w.first_is)
    ∙ ap (λ (n : ℕ). placed_by table statement at + n)
    (inserts_counted setting tables (value_after (taken_back tables) statement saved w.first.own) (saved_after statement saved w.first.own) (suc number)
    table statements replies took w.rest (omega (arith, l)) w.rest_is tail))

-- of each table
pub placed_below : {A : Type 0} (count : ℕ → ℕ) (statements : List Bound) (took : List (Option ℕ)) (first end : ℕ) (tables : List A)
    → first + length tables ≡ end → ((table : ℕ) → table < end → count table ≡ placed_in table statements took)
    → map count (range_with_len first (length tables)) ≡ placed_from first statements took tables
placed_below count statements took first end [] l f = refl
placed_below count statements took first end (one ∷ tables) l f =
    ap (λ (n : ℕ). n ∷ map count (range_with_len (first + 1) (length tables))) (f first (omega (arith, l)))
    ∙ (ap (λ (n : ℕ). placed_in first statements took ∷ map count (range_with_len n (length tables)))
    (let same : first + 1 ≡ suc first = omega arith in same)
    ∙ ap (λ (rest : List ℕ). placed_in first statements took ∷ rest)
    (placed_below count statements took (suc first) end tables (omega (arith, l)) f))

-- a transaction placed as many inserts as were answered so
pub places_what_it_inserts : (setting : Setting) (order : List Entry) (statements : List Bound) (finished : Finished)
    → EndedWrote setting order statements finished
    → map (inserted_in statements finished.begun.replies) (range_with_len 0 (length setting.first))
    ≡ placed_from 0 statements finished.begun.took setting.first
places_what_it_inserts setting order statements finished ended =
    placed_below (inserted_in statements finished.begun.replies) statements finished.begun.took 0 (length setting.first) setting.first (omega arith)
    (λ table below. inserts_counted setting _ (blank_own setting) [] 1 table statements finished.begun.replies finished.begun.took ended.given
    ended.run.took ended.run.came_to ended.run.replies)
