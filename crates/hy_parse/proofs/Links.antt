-- Readers of what is joined one after the other: chains of operators, lists with commas, and the like.
use Rattle.std.proofs.Common.{◌≡◌, ℕ, zero, suc, ◌≤◌, Bool, false, List, [], ◌∷◌, ◌++◌, length, Option, Some, None, inl, inr, refl, sym, ap, subst, ◌∙◌, arith, append_assoc}
use Rattle.std.specs.List.{flat_map, AllByRecursion}
use Rattle.std.proofs.lemmas.List.{length-append}
use Rattle.hy_token.specs.declared.Token.{Token}
use Rattle.hy_parse.specs.declared.Piece.{Piece}
use Rattle.hy_parse.specs.Grammar.{Mark, Marks, Match}
use Rattle.hy_parse.specs.Reading.{Read, Done, Stuck, ◌>>=◌, seen, links_within, links_at}
use Rattle.hy_parse.proofs.Loops.{none}
use Rattle.hy_parse.proofs.Readers.{Reads, Takes, Breaks, IsLocal, Stops, Covers, HeadStops, token_of, head_stops, takes_then, breaks_then, breaks_first, takes_behind, breaks_behind, then_done, then_stuck, match_parts}

-- what is read from the front of pieces leaves no more than there were
shrinks : {F A : Type 0} {read : List Piece → Read A} {write : F → List Mark} {view : F → A} {Fits : F → Type 0} {goes_on : Token → Bool} → Reads read write view Fits goes_on
    → (ps rest : List Piece) (a : A) → read ps ≡ Done a rest → length rest ≤ length ps
shrinks law ps rest a e = let t = law.done ps rest a e in omega (arith, ap length t.3.parts, length-append t.3.front rest)

then_same : {A B : Type 0} (r : Read A) (k l : A × List Piece → Read B) → ((a : A) (rest : List Piece) → r ≡ Done a rest → k (a, rest) ≡ l (a, rest)) → (r >>= k) ≡ (r >>= l)
then_same (Done a rest) k l same = same a rest refl
then_same (Stuck rest) k l same = refl

-- What a joining piece is: its mark, what it does, and the tokens that it may be.
pub record Joins {A B C O : Type 0} (sense : Piece → Option B) (join : A → B → C → A) (mark : O → Mark) (step : A → O → C → A) (joins : Token → Bool) : Type 0 where
  pub sound : (p : Piece) (b : B) → sense p ≡ Some b → (o : O) × Marks p (mark o) × ((left : A) (c : C) → join left b c ≡ step left o c)
  pub complete : (p : Piece) (o : O) → Marks p (mark o) → (b : B) × (sense p ≡ Some b) × ((left : A) (c : C) → join left b c ≡ step left o c)
  pub others : (p : Piece) → joins p.token ≡ false → sense p ≡ None

-- the pieces of a joining piece and what it joins
abbrev pub linked : {O G : Type 0} → (O → Mark) → (G → List Mark) → O × G → List Mark
linked mark write og = mark og.0 ∷ write og.1

-- everything joined from the left on
abbrev pub all_joined : {A C O G : Type 0} → (A → O → C → A) → (G → C) → A → List (O × G) → A
all_joined step view left [] = left
all_joined step view left (og ∷ ogs) = all_joined step view (step left og.0 (view og.1)) ogs

abbrev pub AllFit : {O G : Type 0} → (G → Type 0) → List (O × G) → Type 0
AllFit {O} {G} Fits ogs = AllByRecursion (λ (og : O × G). Fits og.1) ogs

module _ {A B C O G : Type 0} (sense : Piece → Option B) (join : A → B → C → A) (mark : O → Mark) (step : A → O → C → A) (joins : Token → Bool) (joined : Joins sense join mark step joins)
    (read : List Piece → Read C) (write : G → List Mark) (view : G → C) (Fits : G → Type 0) (goes_one goes_on : Token → Bool) (one : Reads read write view Fits goes_one)
    (covers_one : Covers goes_on goes_one) (covers_joins : Covers goes_on joins) (apart : (o : O) → goes_one (token_of (mark o)) ≡ false) where
  abbrev links : A → List Piece → Read A
  links left ps = links_at sense join read left ps

  abbrev link : O × G → List Mark
  link og = linked mark write og

  abbrev joining : A → List (O × G) → A
  joining left ogs = all_joined step view left ogs

  -- what is read behind a joining piece
  abbrev behind : A → B → C × List Piece → Read A
  behind left b right = links (join left b right.0) right.1

  unseen : (p : Piece) (qs : List Piece) → sense p ≡ None → seen sense (p ∷ qs) ≡ None
  unseen p qs is = rw is refl

  is_seen : (p : Piece) (qs : List Piece) (b : B) → sense p ≡ Some b → seen sense (p ∷ qs) ≡ Some (b, qs)
  is_seen p qs b is = rw is refl

  one_more : (n : ℕ) (left : A) (p : Piece) (qs : List Piece) (b : B) → sense p ≡ Some b → links_within sense join read (suc n) left (p ∷ qs) ≡ (read qs >>= λ right. links_within sense join read n (join left b right.0) right.1)
  unfolding links_within
  one_more n left p qs b is = rw is refl

  enough_one : (n m : ℕ) (left : A) (p : Piece) (qs : List Piece) (o : Option B) → sense p ≡ o → ((a : A) (rs : List Piece) → length rs ≤ length qs → links_within sense join read n a rs ≡ links_within sense join read m a rs)
      → links_within sense join read (suc n) left (p ∷ qs) ≡ links_within sense join read (suc m) left (p ∷ qs)
  enough_one n m left p qs None is more = none sense join read (suc n) left (p ∷ qs) (unseen p qs is) ∙ sym (none sense join read (suc m) left (p ∷ qs) (unseen p qs is))
  enough_one n m left p qs (Some b) is more =
      one_more n left p qs b is ∙ then_same (read qs) (λ right. links_within sense join read n (join left b right.0) right.1) (λ right. links_within sense join read m (join left b right.0) right.1)
      (λ c rest e. more (join left b c) rest (shrinks one qs rest c e)) ∙ sym (one_more m left p qs b is)

  -- more turns than pieces change nothing
  enough : (n m : ℕ) (left : A) (ps : List Piece) → length ps ≤ n → length ps ≤ m → links_within sense join read n left ps ≡ links_within sense join read m left ps
  enough n m left [] le lf = none sense join read n left [] refl ∙ sym (none sense join read m left [] refl)
  enough zero m left (p ∷ qs) le lf = absurd (omega (arith, le))
  enough (suc n) zero left (p ∷ qs) le lf = absurd (omega (arith, lf))
  enough (suc n) (suc m) left (p ∷ qs) le lf = enough_one n m left p qs (sense p) refl (λ a rs short. enough n m a rs (omega (arith, short, le)) (omega (arith, short, lf)))

  -- a joining piece, and what is read behind it
  link_next : (left : A) (p : Piece) (b : B) → sense p ≡ Some b → (qs : List Piece) → links left (p ∷ qs) ≡ (read qs >>= behind left b)
  link_next left p b is qs =
      one_more (length qs) left p qs b is ∙ then_same (read qs) (λ right. links_within sense join read (length qs) (join left b right.0) right.1) (behind left b)
      (λ c rest e. enough (length qs) (length rest) (join left b c) rest (shrinks one qs rest c e) (omega arith))

  link_none : (left : A) (ps : List Piece) → seen sense ps ≡ None → links left ps ≡ Done left ps
  link_none left ps is = none sense join read (length ps) left ps is

  -- ---- what was read

  abbrev Found : A → List Piece → List Piece → A → Type 0
  Found left ps rest value = (ogs : List (O × G)) × AllFit Fits ogs × (value ≡ joining left ogs) × Takes (links left) ps rest (flat_map link ogs) (joining left ogs)

  ended : (left : A) (ps : List Piece) → seen sense ps ≡ None → IsLocal (links left) (Some left) [] ps
  ended left [] is = tt
  ended left (p ∷ qs) is = λ other. link_none left (p ∷ other) (still p qs other (sense p) refl is)
    where
      still : (p : Piece) (qs other : List Piece) (o : Option B) → sense p ≡ o → seen sense (p ∷ qs) ≡ None → seen sense (p ∷ other) ≡ None
      still p qs other None e is = unseen p other e
      still p qs other (Some b) e is = let no = sym (is_seen p qs b e) ∙ is in absurd cc

  found_none : (left : A) (ps rest : List Piece) (value : A) → seen sense ps ≡ None → links left ps ≡ Done value rest → Found left ps rest value
  found_none left ps rest value is e =
      let both = sym (link_none left ps is) ∙ e in
      let same : left ≡ value = cc in
      let ends : ps ≡ rest = cc in
      let none : List (O × G) = [] in
      (none, tt, sym same, record { front = []; parts = ends; matches = tt; local = subst (λ (r : List Piece). IsLocal (links left) (Some left) [] r) ends (ended left ps is) })

  found_more : (left : A) (p : Piece) (qs rest : List Piece) (value : A) (b : B) → sense p ≡ Some b → ((a : A) (mid : List Piece) → length mid ≤ length qs → links a mid ≡ Done value rest → Found a mid rest value)
      → links left (p ∷ qs) ≡ Done value rest → Found left (p ∷ qs) rest value
  found_more left p qs rest value b is more e =
      let s = then_done (read qs) (behind left b) value rest (sym (link_next left p b is qs) ∙ e) in
      let t = one.done qs s.1 s.0 s.2 in
      let o = joined.sound p b is in
      let stepped : join left b s.0 ≡ step left o.0 (view t.0) = ap (λ (c : C). join left b c) t.2 ∙ o.2 left (view t.0) in
      let u = more (step left o.0 (view t.0)) s.1 (shrinks one qs s.1 s.0 s.2) (ap (λ (a : A). links a s.1) (sym stepped) ∙ s.3) in
      let og : O × G = (o.0, t.0) in
      let last = joining (step left o.0 (view t.0)) u.0 in
      let second = subst (λ (a : A). Takes (links a) s.1 rest (flat_map link u.0) last) (sym (o.2 left (view t.0))) u.3 in (
        og ∷ u.0,
        (t.1, u.1),
        u.2,
        takes_behind (λ rs. read rs >>= behind left b) (links left) p qs rest (mark o.0) (write t.0 ++ flat_map link u.0) last (link_next left p b is) o.1
            (takes_then read (behind left b) qs s.1 rest (write t.0) (flat_map link u.0) (view t.0) last t.3 second),
      )

  found_one : (left : A) (p : Piece) (qs rest : List Piece) (value : A) (o : Option B) → sense p ≡ o → ((a : A) (mid : List Piece) → length mid ≤ length qs → links a mid ≡ Done value rest → Found a mid rest value)
      → links left (p ∷ qs) ≡ Done value rest → Found left (p ∷ qs) rest value
  found_one left p qs rest value None is more e = found_none left (p ∷ qs) rest value (unseen p qs is) e
  found_one left p qs rest value (Some b) is more e = found_more left p qs rest value b is more e

  found : (n : ℕ) (left : A) (ps rest : List Piece) (value : A) → length ps ≤ n → links left ps ≡ Done value rest → Found left ps rest value
  found n left [] rest value le e = found_none left [] rest value refl e
  found zero left (p ∷ qs) rest value le e = absurd (omega (arith, le))
  found (suc n) left (p ∷ qs) rest value le e = found_one left p qs rest value (sense p) refl (λ a mid short. found n a mid rest value (omega (arith, short, le))) e

  -- ---- where it stopped

  abbrev Broke : A → List Piece → List Piece → Type 0
  Broke left ps rest = (ogs : List (O × G)) × AllFit Fits ogs × Breaks (links left) ps rest (flat_map link ogs)

  broke_more : (left : A) (p : Piece) (qs rest : List Piece) (b : B) → sense p ≡ Some b → ((a : A) (mid : List Piece) → length mid ≤ length qs → links a mid ≡ Stuck rest → Broke a mid rest)
      → links left (p ∷ qs) ≡ Stuck rest → Broke left (p ∷ qs) rest
  broke_more left p qs rest b is more e =
      let o = joined.sound p b is in
      elim (then_stuck (read qs) (behind left b) rest (sym (link_next left p b is qs) ∙ e)) [
        | inl first ↦ (
            let t = one.stuck qs rest first in
            let ogs : List (O × G) = (o.0, t.0) ∷ [] in
            (ogs, (t.1, tt), breaks_behind (λ rs. read rs >>= behind left b) (links left) p qs rest (mark o.0) (write t.0 ++ []) (link_next left p b is) o.1 (breaks_first read (behind left b) qs rest (write t.0) [] t.2)))
        | inr s ↦ (
            let t = one.done qs s.1 s.0 s.2 in
            let stepped : join left b s.0 ≡ step left o.0 (view t.0) = ap (λ (c : C). join left b c) t.2 ∙ o.2 left (view t.0) in
            let u = more (step left o.0 (view t.0)) s.1 (shrinks one qs s.1 s.0 s.2) (ap (λ (a : A). links a s.1) (sym stepped) ∙ s.3) in
            let og : O × G = (o.0, t.0) in
            let second = subst (λ (a : A). Breaks (links a) s.1 rest (flat_map link u.0)) (sym (o.2 left (view t.0))) u.2 in (
              og ∷ u.0,
              (t.1, u.1),
              breaks_behind (λ rs. read rs >>= behind left b) (links left) p qs rest (mark o.0) (write t.0 ++ flat_map link u.0) (link_next left p b is) o.1
                  (breaks_then read (behind left b) qs s.1 rest (write t.0) (flat_map link u.0) (view t.0) t.3 second),
            ))
      ]

  broke_none : (left : A) (ps rest : List Piece) → seen sense ps ≡ None → links left ps ≡ Stuck rest → Broke left ps rest
  broke_none left ps rest is e = let no = sym (link_none left ps is) ∙ e in absurd cc

  broke_one : (left : A) (p : Piece) (qs rest : List Piece) (o : Option B) → sense p ≡ o → ((a : A) (mid : List Piece) → length mid ≤ length qs → links a mid ≡ Stuck rest → Broke a mid rest)
      → links left (p ∷ qs) ≡ Stuck rest → Broke left (p ∷ qs) rest
  broke_one left p qs rest None is more e = broke_none left (p ∷ qs) rest (unseen p qs is) e
  broke_one left p qs rest (Some b) is more e = broke_more left p qs rest b is more e

  broke : (n : ℕ) (left : A) (ps rest : List Piece) → length ps ≤ n → links left ps ≡ Stuck rest → Broke left ps rest
  broke n left [] rest le e = broke_none left [] rest refl e
  broke zero left (p ∷ qs) rest le e = absurd (omega (arith, le))
  broke (suc n) left (p ∷ qs) rest le e = broke_one left p qs rest (sense p) refl (λ a mid short. broke n a mid rest (omega (arith, short, le))) e

  -- ---- what is written so is read

  no_join : (rest : List Piece) → Stops goes_on rest → seen sense rest ≡ None
  no_join [] stops = refl
  no_join (p ∷ rest) stops = unseen p rest (joined.others p (covers_joins p.token stops))

  others_stop : (ogs : List (O × G)) → HeadStops goes_one goes_on (flat_map link ogs)
  others_stop [] = covers_one
  others_stop (og ∷ ogs) = apart og.0

  complete : (front rest : List Piece) (left : A) (ogs : List (O × G)) → AllFit Fits ogs → Match front (flat_map link ogs) → Stops goes_on rest → links left (front ++ rest) ≡ Done (joining left ogs) rest
  complete [] rest left [] fits m stops = link_none left rest (no_join rest stops)
  complete (p ∷ front) rest left [] fits m stops = absurd m
  complete [] rest left (og ∷ ogs) fits m stops = absurd m
  complete (p ∷ front) rest left (og ∷ ogs) fits m stops =
      let o = joined.complete p og.0 m.0 in
      let s = match_parts front (write og.1) (flat_map link ogs) m.1 in
      link_next left p o.0 o.1 (front ++ rest) ∙ ap (λ (qs : List Piece). read (qs ++ rest) >>= behind left o.0) s.parts ∙ ap (λ (qs : List Piece). read qs >>= behind left o.0) (append_assoc s.front s.back rest)
      ∙ ap (λ (r : Read C). r >>= behind left o.0) (one.complete s.front (s.back ++ rest) og.1 fits.0 s.first (head_stops goes_one goes_on (flat_map link ogs) s.back rest (others_stop ogs) s.second stops))
      ∙ ap (λ (a : A). links a (s.back ++ rest)) (o.2 left (view og.1)) ∙ complete s.back rest (step left og.0 (view og.1)) ogs fits.1 s.second stops

  pub links_reads : (left : A) → Reads {F = List (O × G)} (λ ps. links_at sense join read left ps) (flat_map link) (joining left) (AllFit Fits) goes_on
  links_reads left = record {
    done = λ ps rest value e. found (length ps) left ps rest value (omega arith) e;
    stuck = λ ps rest e. broke (length ps) left ps rest (omega arith) e;
    complete = λ front rest ogs fits m stops. complete front rest left ogs fits m stops;
    some = (let none : List (O × G) = [] in (none, tt));
  }
