-- Rows of workers: seats that were made or joined one after another, and workers that ran.
use Rattle.std.proofs.Common.{◌≡◌, ◌≢◌, ℕ, zero, suc, ◌+◌, ◌<◌, ◌≤◌, arith, refl, sym, ap, ◌∙◌, subst, Bool, true, false, Option, Some, None, Result, Ok, Err, is_err, OnOk}
use Rattle.std.proofs.Common.{List, [], ◌∷◌, ◌++◌, map, length, replicate, get_or, set, All, Any, MatchBool, length-append}
use Rattle.std.specs.List.{AllZip, list_any}
use Rattle.std.proofs.lemmas.List.Elements.{All-map, length_all_zip}
use Rattle.std.proofs.lemmas.List.Folds.{Any-from_list_any}
use Rattle.std.proofs.lemmas.Bool.{or_parts, true≢false}
use mathlib.Core.Option.{some}
use lib.ListN.{get_elem?, take, drop}
use Rattle.hy_threads.specs.Knowledge.{Visitor, Knowledge, First, Seated, keeper, visitor, newly_seated, parent, child, joined}
use Rattle.hy_threads.specs.Seats.{Home}
use Rattle.hy_threads.specs.Tasks.{Task, session_of, AreOf, Fits, IsSameWorker, HasEnded, HasStarved, HasStopped, Stops}

mid_at : {S : Type 0} (n : ℕ) (s : S) (xs : List (Option S)) → get_elem? (replicate n None ++ Some s ∷ xs) n ≡ some (Some s)
mid_at zero s xs = refl
mid_at (suc n) s xs = mid_at n s xs

mid_set : {S : Type 0} (n : ℕ) (x : Option S) (xs : List (Option S)) → set (replicate n None ++ x ∷ xs) n None ≡ replicate (suc n) None ++ xs
mid_set zero x xs = refl
mid_set {S} (suc n) x xs = ap {B = List (Option S)} (λ l. None ∷ l) (mid_set n x xs)

join_set : {S : Type 0} (done : List S) (m : ℕ) (s : S)
    → set (map Some done ++ replicate (suc m) None) (length done) (Some s) ≡ map Some (done ++ s ∷ []) ++ replicate m None
join_set [] m s = refl
join_set {S} (x ∷ xs) m s = ap {B = List (Option S)} (λ l. Some x ∷ l) (join_set xs m s)

-- what the first seat keeps while seats are made: n sessions are with theirs, and these are not
abbrev pub keeping : {S : Type 0} → ℕ → List S → List (Option S)
keeping n rest = replicate n None ++ map Some rest

-- what it keeps while seats are joined: these sessions are back, and n are not
abbrev pub regaining : {S : Type 0} → List S → ℕ → List (Option S)
regaining done n = map Some done ++ replicate n None

module _ {S : Type 0} (D : Type 0) where
  -- the next session is there
  pub kept_next : (n : ℕ) (rest more : List S) (s : S) → rest ≡ s ∷ more → get_elem? (keeping n rest) n ≡ some (Some s)
  kept_next n rest more s e = ap (λ l. get_elem? (keeping n l) n) e ∙ mid_at n s (map Some more)

  -- the seat that is made has it
  pub child_next : (n : ℕ) (rest more : List S) (s : S) → rest ≡ s ∷ more
      → ◌≡◌ {A = Knowledge S D} (child (First (keeper n (keeping n rest)))) (Seated (visitor n s None []))
  child_next n rest more s e = ap (newly_seated n) (kept_next n rest more s e)

  -- the first seat keeps one less
  pub parent_next : (done rest more : List S) (s : S) → rest ≡ s ∷ more
      → ◌≡◌ {A = Knowledge S D} (parent (First (keeper (length done) (keeping (length done) rest))))
      (First (keeper (length (done ++ s ∷ [])) (keeping (length (done ++ s ∷ [])) more)))
  parent_next done rest more s e =
      let n : ℕ = length done in
      let made : n + 1 ≡ suc n = omega arith in
      let long : suc n ≡ length (done ++ s ∷ []) = omega (arith, length-append done (s ∷ [])) in
      let kept : set (keeping n rest) n None ≡ keeping (suc n) more = ap (λ l. set (keeping n l) n None) e ∙ mid_set n (Some s) (map Some more) in
      (λ i. First (keeper (made i) (kept i))) ∙ (λ i. First (keeper (long i) (keeping (long i) more)))

  -- a seat that is joined gives its session back
  pub joined_next : {A : Type 0} (count : ℕ) (done : List S) (rest more : List A) (w : A) (o : Visitor S D) (s : S)
      → rest ≡ w ∷ more → o.number ≡ length done → o.session ≡ s
      → ◌≡◌ {A = Knowledge S D} (joined (First (keeper count (regaining done (length rest)))) (Seated o))
      (First (keeper count (regaining (done ++ s ∷ []) (length more))))
  joined_next count done rest more w o s e number is =
      let kept : set (regaining done (length rest)) o.number (Some o.session) ≡ regaining (done ++ s ∷ []) (length more) =
      (λ i. set (regaining done (length (e i))) (number i) (Some (is i))) ∙ join_set done (length more) s in
      (λ i. First (keeper count (kept i)))

pub snoc_more : {A : Type 0} (xs ys : List A) (a : A) → (xs ++ a ∷ []) ++ ys ≡ xs ++ a ∷ ys
snoc_more [] ys a = refl
snoc_more {A} (x ∷ xs) ys a = ap {B = List A} (λ l. x ∷ l) (snoc_more xs ys a)

take_front : {A : Type 0} (new more : List A) (n : ℕ) → n ≡ length new → take n (new ++ more) ≡ new
take_front [] more zero e = refl
take_front [] more (suc n) e = absurd (omega arith)
take_front (x ∷ xs) more zero e = absurd (omega arith)
take_front {A} (x ∷ xs) more (suc n) e = ap {B = List A} (λ l. x ∷ l) (take_front xs more n (omega arith))

pub zip_from : {A : Type 0} (R : A → A → Type 0) (xs ys : List A) → length ys ≡ length xs
    → ((k : ℕ) (d : A) → k < length xs → R (get_or xs k d) (get_or ys k d)) → AllZip R xs ys
zip_from R [] [] len h = tt
zip_from R [] (y ∷ ys) len h = absurd (omega arith)
zip_from R (x ∷ xs) [] len h = absurd (omega arith)
zip_from R (x ∷ xs) (y ∷ ys) len h = (h 0 x (omega arith), zip_from R xs ys (omega arith) (λ k d below. h (suc k) d (omega arith)))

module _ {S : Type 0} (home : Home) where
  -- one more worker
  pub are_of_snoc : (n : ℕ) (ws : List (Task S)) (w : Task S) → AreOf home n ws → w.home ≡ home → w.number ≡ n + length ws → AreOf home n (ws ++ w ∷ [])
  are_of_snoc n [] w h at number = let here : w.number ≡ n = omega arith in (at, here, tt)
  are_of_snoc n (v ∷ vs) w h at number = (h.0, h.1, are_of_snoc (n + 1) vs w h.2 at (omega arith))

  -- the worker behind those that are done
  pub are_of_at : (n : ℕ) (done : List (Task S)) (w : Task S) (more : List (Task S)) → AreOf home n (done ++ w ∷ more)
      → (w.home ≡ home) × (w.number ≡ n + length done)
  are_of_at n [] w more h = let number = h.1 in (h.0, omega arith)
  are_of_at n (v ∷ vs) w more h = let more_of = are_of_at (n + 1) vs w more h.2 in let number = more_of.1 in (more_of.0, omega arith)

  module _ (width_of : S → ℕ) where
    pub are_of_same : (n : ℕ) (vs ws : List (Task S)) → AreOf home n vs → AllZip (IsSameWorker width_of) vs ws → AreOf home n ws
    are_of_same n [] [] h same = tt
    are_of_same n [] (w ∷ ws) h same = absurd same
    are_of_same n (v ∷ vs) [] h same = absurd same
    are_of_same n (v ∷ vs) (w ∷ ws) h same = (same.0.0 ∙ h.0, same.0.1 ∙ h.1, are_of_same (n + 1) vs ws h.2 same.1)

    -- workers of these parts whose sessions need none beyond them
    pub all_fit : (n m : ℕ) (ws : List (Task S)) → AreOf home n ws → m ≤ home.slots → All (λ s. width_of s ≤ m) (map session_of ws)
        → All (Fits width_of home) ws
    all_fit n m [] h le wide k d below = absurd (omega arith)
    all_fit n m (w ∷ ws) h le wide zero d below = let here = wide 0 w.session (omega arith) in (h.0, omega arith)
    all_fit n m (w ∷ ws) h le wide (suc k) d below = all_fit (n + 1) m ws h.2 le (λ i s low. wide (suc i) s (omega arith)) k d (omega arith)

-- rows of the same workers, in order
module _ {S : Type 0} (width_of : S → ℕ) where
  abbrev pub AreSame : List (Task S) → List (Task S) → Type 0
  AreSame vs ws = (k : ℕ) (d : Task S) → k < length vs → IsSameWorker width_of (get_or vs k d) (get_or ws k d)

  same_still : (u v w : Task S) → IsSameWorker width_of u v → IsSameWorker width_of v w → IsSameWorker width_of u w
  same_still u v w before after = (after.0 ∙ before.0, after.1 ∙ before.1, after.2 ∙ before.2)

  pub are_same : (ws : List (Task S)) → AreSame ws ws
  are_same ws k d below = (refl, refl, refl)

  pub are_same_still : (us vs ws : List (Task S)) → length vs ≡ length us → AreSame us vs → AreSame vs ws → AreSame us ws
  are_same_still us vs ws as_many before after k d below =
      same_still (get_or us k d) (get_or vs k d) (get_or ws k d) (before k d below) (after k d (omega arith))

  -- one of them went on
  pub are_same_at : (vs ws : List (Task S)) (k : ℕ) (w : Task S) → length ws ≡ length vs → AreSame vs ws → k < length ws
      → ((d : Task S) → IsSameWorker width_of (get_or ws k d) w) → AreSame vs (set ws k w)
  are_same_at [] ws k w as_many h low new i d below = absurd (omega arith)
  are_same_at (v ∷ vs) [] k w as_many h low new i d below = absurd (omega arith)
  are_same_at (v ∷ vs) (u ∷ us) zero w as_many h low new zero d below = same_still v u w (h 0 d below) (new d)
  are_same_at (v ∷ vs) (u ∷ us) zero w as_many h low new (suc i) d below = h (suc i) d below
  are_same_at (v ∷ vs) (u ∷ us) (suc k) w as_many h low new zero d below = h 0 d below
  are_same_at (v ∷ vs) (u ∷ us) (suc k) w as_many h low new (suc i) d below =
      are_same_at vs us k w (omega arith) (λ j e lower. h (suc j) e (omega arith)) (omega arith) new i d (omega arith)

  -- and need no parts beyond those that they needed
  pub fit_still : (home : Home) (vs ws : List (Task S)) → length ws ≡ length vs → All (Fits width_of home) vs → AreSame vs ws → All (Fits width_of home) ws
  fit_still home vs ws as_many fit same k d below =
      let fits = fit k d (omega arith) in let now = same k d (omega arith) in let wide = now.2 in let within = fits.1 in
      (now.0 ∙ fits.0, omega arith)

module _ {S P : Type 0} (point_of : S → Option P) where
  -- how a worker that stopped is, by whether it starved
  abbrev Stopped : Task S → Bool → Type 0
  Stopped w starved = MatchBool starved (point_of w.session ≢ None) (point_of w.session ≡ None)

  ended_of : (w : Task S) → w.starved ≡ false → HasStopped point_of w → HasEnded point_of w
  ended_of w fed stopped = subst (Stopped w) fed stopped

  starved_of : (w : Task S) → w.starved ≡ true → HasStopped point_of w → HasStarved point_of w
  starved_of w is stopped = (is, subst (Stopped w) is stopped)

  pub stopped_all : (width_of : S → ℕ) (vs ws : List (Task S)) → length ws ≡ length vs
      → ((k : ℕ) (d : Task S) → k < length vs → Stops width_of point_of (get_or vs k d) (get_or ws k d)) → All (HasStopped point_of) ws
  stopped_all width_of vs ws as_many each k d below = (each k d (omega arith)).1

  -- workers that stopped, none of which starved, are at their ends
  pub all_ended : (ws : List (Task S)) → All (HasStopped point_of) ws → list_any (λ w. w.starved) ws ≡ false → All (HasEnded point_of) ws
  all_ended [] stopped none k d below = absurd (omega arith)
  all_ended (w ∷ ws) stopped none zero d below = ended_of w (or_parts w.starved (list_any (λ (z : Task S). z.starved) ws) none).0 (stopped 0 w (omega arith))
  all_ended (w ∷ ws) stopped none (suc k) d below =
      all_ended ws (λ i e low. stopped (suc i) e (omega arith)) (or_parts w.starved (list_any (λ (z : Task S). z.starved) ws) none).1 k d (omega arith)

  -- one that starved is not
  pub one_starved : (ws : List (Task S)) → All (HasStopped point_of) ws → list_any (λ w. w.starved) ws ≡ true → Any (HasStarved point_of) ws
  one_starved ws stopped some_one =
      let found = Any-from_list_any (λ (w : Task S). w.starved) ws some_one in
      (found.0, found.1, found.2, found.3, starved_of found.1 found.4 (subst (HasStopped point_of) found.3 (stopped found.0 found.1 found.2)))

-- The workers that ran, as the list that they were lent from has them: its first n elements are those that were written. They are of the
-- parts, and where each ended so did its session.
module _ {S P : Type 0} (width_of : S → ℕ) (point_of : S → Option P) (ws news : List (Task S)) (n : ℕ)
    (all : n ≡ length ws) (same : AllZip (IsSameWorker width_of) ws news) where
  abbrev lent : List (Task S)
  lent = take n (news ++ drop (length news) ws)

  written : lent ≡ news
  written = take_front news (drop (length news) ws) n (all ∙ length_all_zip (IsSameWorker width_of) ws news same)

  pub back_of_home : (home : Home) → AreOf home 0 ws → AreOf home 0 lent
  back_of_home home of_home = subst (AreOf home 0) (sym written) (are_of_same home width_of 0 ws news of_home same)

  pub back_ended : All (HasEnded point_of) news → All (λ s. point_of s ≡ None) (map session_of lent)
  back_ended ended = subst (λ vs. All (λ s. point_of s ≡ None) (map session_of vs)) (sym written)
      (All-map (λ s. point_of s ≡ None) session_of news ended)

-- what holds where a call was done, of one that did not fail
pub where_done : {A E : Type 0} (r : Result A E) (Done : Type 0) → is_err r ≡ false → OnOk r Done → Done
where_done (Ok v) Done fed done = done
where_done (Err e) Done fed done = absurd (true≢false fed)
