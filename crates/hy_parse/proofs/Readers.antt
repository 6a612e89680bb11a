-- What it is that a reader reads what is written so and nothing else, and stops at the first piece with
-- which nothing goes on; and how readers are put together.
use Rattle.std.proofs.Common.{◌≡◌, Bool, false, List, [], ◌∷◌, ◌++◌, map, Option, Some, None, ◌⊎◌, inl, inr, refl, sym, ap, subst, ◌∙◌, append_assoc}
use Rattle.std.specs.Prelude.{MatchOption}
use Rattle.std.specs.Option.{option_map_or}
use Rattle.hy_token.specs.declared.Token.{Token}
use Rattle.hy_parse.specs.declared.Piece.{Piece}
use Rattle.hy_parse.specs.Grammar.{Mark, Any, At, Marks, Match}
use Rattle.hy_parse.specs.Reading.{Read, Done, Stuck, ◌>>=◌, piece_at}

-- ---- marks

pub match_append : (ps : List Piece) (ms : List Mark) (qs : List Piece) (ns : List Mark) → Match ps ms → Match qs ns → Match (ps ++ qs) (ms ++ ns)
match_append [] [] qs ns m n = n
match_append [] (x ∷ ms) qs ns m n = absurd m
match_append (p ∷ ps) [] qs ns m n = absurd m
match_append (p ∷ ps) (x ∷ ms) qs ns m n = (m.0, match_append ps ms qs ns m.1 n)

-- the pieces of two rows of marks
pub record Parts (ps : List Piece) (ms ns : List Mark) : Type 0 where
  pub front : List Piece
  pub back : List Piece
  pub parts : ps ≡ front ++ back
  pub first : Match front ms
  pub second : Match back ns

pub match_parts : (ps : List Piece) (ms ns : List Mark) → Match ps (ms ++ ns) → Parts ps ms ns
match_parts ps [] ns m = record { front = []; back = ps; parts = refl; first = tt; second = m }
match_parts [] (x ∷ ms) ns m = absurd m
match_parts (p ∷ ps) (x ∷ ms) ns m =
    let s = match_parts ps ms ns m.1 in
    record { front = p ∷ s.front; back = s.back; parts = ap (λ (qs : List Piece). p ∷ qs) s.parts; first = (m.0, s.first); second = s.second }

piece_of : Mark → Piece
piece_of (Any token) = record { token = token; span = record { start = 0; end = 0 } }
piece_of (At token span) = record { token = token; span = span }

piece_marks : (m : Mark) → Marks (piece_of m) m
unfolding piece_of
piece_marks (Any token) = refl
piece_marks (At token span) = refl

-- pieces for these marks
pub filled : List Mark → List Piece
filled ms = map piece_of ms

pub filled_match : (ms : List Mark) → Match (filled ms) ms
unfolding filled
filled_match [] = tt
filled_match (m ∷ ms) = (piece_marks m, filled_match ms)

-- ---- what a reader did

abbrev pub outcome : {A : Type 0} → Option A → List Piece → Read A
outcome (Some value) rest = Done value rest
outcome None rest = Stuck rest

-- the outcome depends on no piece behind the first of the rest
abbrev pub IsLocal : {A : Type 0} → (List Piece → Read A) → Option A → List Piece → List Piece → Type 0
IsLocal read o front [] = Unit {0}
IsLocal read o front (p ∷ rest) = (other : List Piece) → read (front ++ p ∷ other) ≡ outcome o (p ∷ other)

-- it read pieces of these marks
pub record Takes {A : Type 0} (read : List Piece → Read A) (ps rest : List Piece) (ms : List Mark) (value : A) : Type 0 where
  pub front : List Piece
  pub parts : ps ≡ front ++ rest
  pub matches : Match front ms
  pub local : IsLocal read (Some value) front rest

-- it read pieces with which these marks begin, and no other piece goes on
pub record Breaks {A : Type 0} (read : List Piece → Read A) (ps rest : List Piece) (ms : List Mark) : Type 0 where
  pub front : List Piece
  pub more : List Piece
  pub parts : ps ≡ front ++ rest
  pub begins : Match (front ++ more) ms
  pub local : IsLocal read None front rest

-- what was read before, whatever comes further on
through : {A : Type 0} (read : List Piece → Read A) (value : A) (front mid back : List Piece) (p : Piece) (rest : List Piece) → mid ≡ back ++ p ∷ rest → IsLocal read (Some value) front mid → (other : List Piece) → read (front ++ (back ++ p ∷ other)) ≡ Done value (back ++ p ∷ other)
through read value front mid [] p rest is local other = subst (λ (m : List Piece). IsLocal read (Some value) front m) is local other
through read value front mid (q ∷ back) p rest is local other = subst (λ (m : List Piece). IsLocal read (Some value) front m) is local (back ++ p ∷ other)

local_then : {A B : Type 0} (read : List Piece → Read A) (k : A × List Piece → Read B) (value : A) (o : Option B) (front mid back rest : List Piece) → mid ≡ back ++ rest
    → IsLocal read (Some value) front mid → IsLocal (λ qs. k (value, qs)) o back rest → IsLocal (λ qs. read qs >>= k) o (front ++ back) rest
local_then read k value o front mid back [] is first second = tt
local_then {A} read k value o front mid back (p ∷ rest) is first second = λ other.
    ap (λ (qs : List Piece). read qs >>= k) (append_assoc front back (p ∷ other)) ∙ ap (λ (r : Read A). r >>= k) (through read value front mid back p rest is first other) ∙ second other

pub takes_then : {A B : Type 0} (read : List Piece → Read A) (k : A × List Piece → Read B) (ps mid rest : List Piece) (ms ns : List Mark) (value : A) (last : B)
    → Takes read ps mid ms value → Takes (λ qs. k (value, qs)) mid rest ns last → Takes (λ qs. read qs >>= k) ps rest (ms ++ ns) last
takes_then read k ps mid rest ms ns value last one two = record {
  front = one.front ++ two.front;
  parts = one.parts ∙ ap (λ (qs : List Piece). one.front ++ qs) two.parts ∙ sym (append_assoc one.front two.front rest);
  matches = match_append one.front ms two.front ns one.matches two.matches;
  local = local_then read k value (Some last) one.front mid two.front rest two.parts one.local two.local;
}

pub breaks_then : {A B : Type 0} (read : List Piece → Read A) (k : A × List Piece → Read B) (ps mid rest : List Piece) (ms ns : List Mark) (value : A)
    → Takes read ps mid ms value → Breaks (λ qs. k (value, qs)) mid rest ns → Breaks (λ qs. read qs >>= k) ps rest (ms ++ ns)
breaks_then read k ps mid rest ms ns value one two = record {
  front = one.front ++ two.front;
  more = two.more;
  parts = one.parts ∙ ap (λ (qs : List Piece). one.front ++ qs) two.parts ∙ sym (append_assoc one.front two.front rest);
  begins = subst (λ (qs : List Piece). Match qs (ms ++ ns)) (sym (append_assoc one.front two.front two.more)) (match_append one.front ms (two.front ++ two.more) ns one.matches two.begins);
  local = local_then read k value None one.front mid two.front rest two.parts one.local two.local;
}

local_first : {A B : Type 0} (read : List Piece → Read A) (k : A × List Piece → Read B) (front rest : List Piece) → IsLocal read None front rest → IsLocal (λ qs. read qs >>= k) None front rest
local_first read k front [] local = tt
local_first {A} read k front (p ∷ rest) local = λ other. ap (λ (r : Read A). r >>= k) (local other)

pub breaks_first : {A B : Type 0} (read : List Piece → Read A) (k : A × List Piece → Read B) (ps rest : List Piece) (ms ns : List Mark) → Breaks read ps rest ms → Breaks (λ qs. read qs >>= k) ps rest (ms ++ ns)
breaks_first read k ps rest ms ns one = record {
  front = one.front;
  more = one.more ++ filled ns;
  parts = one.parts;
  begins = subst (λ (qs : List Piece). Match qs (ms ++ ns)) (append_assoc one.front one.more (filled ns)) (match_append (one.front ++ one.more) ms (filled ns) ns one.begins (filled_match ns));
  local = local_first read k one.front rest one.local;
}

-- ---- one reader in place of another

-- two readers with the same outcome wherever the pieces begin as these do
abbrev pub Agrees : {A : Type 0} → (List Piece → Read A) → (List Piece → Read A) → List Piece → List Piece → Type 0
Agrees read other front [] = Unit {0}
Agrees read other front (p ∷ rest) = (more : List Piece) → other (front ++ p ∷ more) ≡ read (front ++ p ∷ more)

local_instead : {A : Type 0} (read instead : List Piece → Read A) (o : Option A) (front rest : List Piece) → Agrees read instead front rest → IsLocal read o front rest → IsLocal instead o front rest
local_instead read instead o front [] agrees local = tt
local_instead read instead o front (p ∷ rest) agrees local = λ other. agrees other ∙ local other

pub takes_instead : {A : Type 0} (read instead : List Piece → Read A) (ps rest : List Piece) (ms : List Mark) (value : A) → ((front : List Piece) → ps ≡ front ++ rest → Agrees read instead front rest) → Takes read ps rest ms value → Takes instead ps rest ms value
takes_instead read instead ps rest ms value agrees one = record { front = one.front; parts = one.parts; matches = one.matches; local = local_instead read instead (Some value) one.front rest (agrees one.front one.parts) one.local }

pub breaks_instead : {A : Type 0} (read instead : List Piece → Read A) (ps rest : List Piece) (ms : List Mark) → ((front : List Piece) → ps ≡ front ++ rest → Agrees read instead front rest) → Breaks read ps rest ms → Breaks instead ps rest ms
breaks_instead read instead ps rest ms agrees one = record { front = one.front; more = one.more; parts = one.parts; begins = one.begins; local = local_instead read instead None one.front rest (agrees one.front one.parts) one.local }

-- ---- a piece in front

local_behind : {A : Type 0} (read whole : List Piece → Read A) (q : Piece) (o : Option A) (front rest : List Piece) → ((qs : List Piece) → whole (q ∷ qs) ≡ read qs) → IsLocal read o front rest → IsLocal whole o (q ∷ front) rest
local_behind read whole q o front [] is local = tt
local_behind read whole q o front (p ∷ rest) is local = λ other. is (front ++ p ∷ other) ∙ local other

pub takes_behind : {A : Type 0} (read whole : List Piece → Read A) (q : Piece) (ps rest : List Piece) (m : Mark) (ms : List Mark) (value : A) → ((qs : List Piece) → whole (q ∷ qs) ≡ read qs) → Marks q m → Takes read ps rest ms value → Takes whole (q ∷ ps) rest (m ∷ ms) value
takes_behind read whole q ps rest m ms value is marks one = record {
  front = q ∷ one.front;
  parts = ap (λ (qs : List Piece). q ∷ qs) one.parts;
  matches = (marks, one.matches);
  local = local_behind read whole q (Some value) one.front rest is one.local;
}

pub breaks_behind : {A : Type 0} (read whole : List Piece → Read A) (q : Piece) (ps rest : List Piece) (m : Mark) (ms : List Mark) → ((qs : List Piece) → whole (q ∷ qs) ≡ read qs) → Marks q m → Breaks read ps rest ms → Breaks whole (q ∷ ps) rest (m ∷ ms)
breaks_behind read whole q ps rest m ms is marks one = record {
  front = q ∷ one.front;
  more = one.more;
  parts = ap (λ (qs : List Piece). q ∷ qs) one.parts;
  begins = (marks, one.begins);
  local = local_behind read whole q None one.front rest is one.local;
}

-- ---- readers

-- what comes next is none of the tokens with which it might have gone on
abbrev pub Stops : (Token → Bool) → List Piece → Type 0
Stops goes_on [] = Unit {0}
Stops goes_on (p ∷ ps) = goes_on p.token ≡ false

-- A reader reads what is written so, and nothing else, and gives the view of it.
pub record Reads {F A : Type 0} (read : List Piece → Read A) (write : F → List Mark) (view : F → A) (Fits : F → Type 0) (goes_on : Token → Bool) : Type 0 where
  pub done : (ps rest : List Piece) (value : A) → read ps ≡ Done value rest → (f : F) × Fits f × (value ≡ view f) × Takes read ps rest (write f) (view f)
  pub stuck : (ps rest : List Piece) → read ps ≡ Stuck rest → (f : F) × Fits f × Breaks read ps rest (write f)
  pub complete : (front rest : List Piece) (f : F) → Fits f → Match front (write f) → Stops goes_on rest → read (front ++ rest) ≡ Done (view f) rest
  pub some : (f : F) × Fits f

pub then_done : {A B : Type 0} (r : Read A) (k : A × List Piece → Read B) (last : B) (rest : List Piece) → (r >>= k) ≡ Done last rest → (value : A) × (mid : List Piece) × (r ≡ Done value mid) × (k (value, mid) ≡ Done last rest)
then_done (Done value mid) k last rest e = (value, mid, refl, e)
then_done (Stuck mid) k last rest e = absurd cc

pub then_stuck : {A B : Type 0} (r : Read A) (k : A × List Piece → Read B) (rest : List Piece) → (r >>= k) ≡ Stuck rest → (r ≡ Stuck rest) ⊎ ((value : A) × (mid : List Piece) × (r ≡ Done value mid) × (k (value, mid) ≡ Stuck rest))
then_stuck (Done value mid) k rest e = inr (value, mid, refl, e)
then_stuck {A} (Stuck mid) k rest e = let same : mid ≡ rest = cc in inl (ap (λ (r : List Piece). Stuck r) same)

abbrev pub token_of : Mark → Token
token_of (Any token) = token
token_of (At token span) = token

-- the token of the first mark
abbrev pub head_of : List Mark → Option Token
head_of [] = None
head_of (m ∷ ms) = Some (token_of m)

pub marks_token : (p : Piece) (m : Mark) → Marks p m → p.token ≡ token_of m
marks_token p (Any token) is = is
marks_token p (At token span) is = ap (λ (q : Piece). q.token) is

-- every token that stops the one reader stops the other
abbrev pub Covers : (Token → Bool) → (Token → Bool) → Type 0
Covers wider goes_on = (token : Token) → wider token ≡ false → goes_on token ≡ false

-- what is written so does not begin with a token that goes on, nor does what follows it if it is empty
abbrev pub HeadStops : (Token → Bool) → (Token → Bool) → List Mark → Type 0
HeadStops goes_on behind ms = MatchOption (head_of ms) (Covers behind goes_on) (λ token. goes_on token ≡ false)

pub stops_covered : (wider goes_on : Token → Bool) → Covers wider goes_on → (ps : List Piece) → Stops wider ps → Stops goes_on ps
stops_covered wider goes_on covers [] stops = tt
stops_covered wider goes_on covers (p ∷ ps) stops = covers p.token stops

pub head_stops : (goes_on behind : Token → Bool) (ms : List Mark) (ps rest : List Piece) → HeadStops goes_on behind ms → Match ps ms → Stops behind rest → Stops goes_on (ps ++ rest)
head_stops goes_on behind [] [] rest head matches stops = stops_covered behind goes_on head rest stops
head_stops goes_on behind [] (p ∷ ps) rest head matches stops = absurd matches
head_stops goes_on behind (m ∷ ms) [] rest head matches stops = absurd matches
head_stops goes_on behind (m ∷ ms) (p ∷ ps) rest head matches stops = ap goes_on (marks_token p m matches.0) ∙ head

-- what is written behind does not go on with what stands in front
abbrev pub Follows : {F G : Type 0} → (Token → Bool) → (F → G → List Mark) → (F → Type 0) → (F → G → Type 0) → (Token → Bool) → Type 0
Follows {F} {G} goes_on write' Fits Fits' goes_on' = (f : F) (g : G) → Fits f → Fits' f g → HeadStops goes_on goes_on' (write' f g)

pub then_read : {A B F G : Type 0} {read : List Piece → Read A} {write : F → List Mark} {view : F → A} {Fits : F → Type 0} {goes_on : Token → Bool} {write' : F → G → List Mark} {view' : F → G → B} {Fits' : F → G → Type 0} {goes_on' : Token → Bool}
    → (k : A × List Piece → Read B) → Reads read write view Fits goes_on → ((f : F) → Fits f → Reads (λ qs. k (view f, qs)) (write' f) (view' f) (Fits' f) goes_on') → Follows goes_on write' Fits Fits' goes_on'
    → Reads {F = F × G} (λ qs. read qs >>= k) (λ fg. write fg.0 ++ write' fg.0 fg.1) (λ fg. view' fg.0 fg.1) (λ fg. Fits fg.0 × Fits' fg.0 fg.1) goes_on'
then_read {A} {B} {F} {G} {read} {write} {view} {Fits} {goes_on} {write'} {view'} {Fits'} {goes_on'} k one others follows = record {
  done = λ ps rest last e. (
      let s = then_done (read ps) k last rest e in
      let t = one.done ps s.1 s.0 s.2 in
      let moved : k (view t.0, s.1) ≡ Done last rest = ap (λ (a : A). k (a, s.1)) (sym t.2) ∙ s.3 in
      let u = (others t.0 t.1).done s.1 rest last moved in
      ((t.0, u.0), (t.1, u.1), u.2, takes_then read k ps s.1 rest (write t.0) (write' t.0 u.0) (view t.0) (view' t.0 u.0) t.3 u.3));
  stuck = λ ps rest e. elim (then_stuck (read ps) k rest e) [
    | inl first ↦ (
        let t = one.stuck ps rest first in
        let g = (others t.0 t.1).some in
        ((t.0, g.0), (t.1, g.1), breaks_first read k ps rest (write t.0) (write' t.0 g.0) t.2))
    | inr s ↦ (
        let t = one.done ps s.1 s.0 s.2 in
        let moved : k (view t.0, s.1) ≡ Stuck rest = ap (λ (a : A). k (a, s.1)) (sym t.2) ∙ s.3 in
        let u = (others t.0 t.1).stuck s.1 rest moved in
        ((t.0, u.0), (t.1, u.1), breaks_then read k ps s.1 rest (write t.0) (write' t.0 u.0) (view t.0) t.3 u.2))
  ];
  complete = λ front rest fg fits matches stops. (
      let s = match_parts front (write fg.0) (write' fg.0 fg.1) matches in
      ap (λ (qs : List Piece). read (qs ++ rest) >>= k) s.parts ∙ ap (λ (qs : List Piece). read qs >>= k) (append_assoc s.front s.back rest)
      ∙ ap (λ (r : Read A). r >>= k) (one.complete s.front (s.back ++ rest) fg.0 fits.0 s.first (head_stops goes_on goes_on' (write' fg.0 fg.1) s.back rest (follows fg.0 fg.1 fits.0 fits.1) s.second stops))
      ∙ (others fg.0 fits.0).complete s.back rest fg.1 fits.1 s.second stops);
  some = (let g = (others one.some.0 one.some.1).some in ((one.some.0, g.0), (one.some.1, g.1)));
}

-- ---- what is read from nothing, and the same reader seen otherwise

abbrev pub nothing : Token → Bool
nothing token = false

abbrev pub Always : {F : Type 0} → F → Type 0
Always f = Unit {0}

no_piece : (ps : List Piece) → Match ps [] → ps ≡ []
no_piece [] m = refl
no_piece (p ∷ ps) m = absurd m

at_once : {A : Type 0} (read : List Piece → Read A) (o : Option A) (ps : List Piece) → ((qs : List Piece) → read qs ≡ outcome o qs) → IsLocal read o [] ps
at_once read o [] is = tt
at_once read o (p ∷ ps) is = λ other. is (p ∷ other)

pub finish : {A : Type 0} (value : A) → Reads {F = Unit {0}} (λ ps. Done value ps) (λ u. []) (λ u. value) Always nothing
finish {A} value = record {
  done = λ ps rest x e. (
      let same : value ≡ x = cc in
      let ends : ps ≡ rest = cc in
      (tt, tt, sym same, record { front = []; parts = ends; matches = tt; local = at_once (λ qs. Done value qs) (Some value) rest (λ qs. refl) }));
  stuck = λ ps rest e. absurd cc;
  complete = λ front rest f fits matches stops. ap (λ (qs : List Piece). Done value (qs ++ rest)) (no_piece front matches);
  some = (tt, tt);
}

pub recast : {A F G : Type 0} {read : List Piece → Read A} {write : F → List Mark} {view : F → A} {Fits : F → Type 0} {goes_on : Token → Bool} (write' : G → List Mark) (view' : G → A) (Fits' : G → Type 0)
    → Reads read write view Fits goes_on → ((f : F) → Fits f → (g : G) × Fits' g × (view f ≡ view' g) × (write f ≡ write' g)) → ((g : G) → Fits' g → (f : F) × Fits f × (view f ≡ view' g) × (write f ≡ write' g))
    → Reads read write' view' Fits' goes_on
recast {A} {F} {G} {read} {write} {view} {Fits} {goes_on} write' view' Fits' law there back = record {
  done = λ ps rest x e. (
      let s = law.done ps rest x e in
      let t = there s.0 s.1 in
      let seen_so = subst (λ (a : A). Takes read ps rest (write s.0) a) t.2 s.3 in
      (t.0, t.1, s.2 ∙ t.2, subst (λ (ms : List Mark). Takes read ps rest ms (view' t.0)) t.3 seen_so));
  stuck = λ ps rest e. (
      let s = law.stuck ps rest e in
      let t = there s.0 s.1 in
      (t.0, t.1, subst (λ (ms : List Mark). Breaks read ps rest ms) t.3 s.2));
  complete = λ front rest g fits matches stops. (
      let t = back g fits in
      law.complete front rest t.0 t.1 (subst (λ (ms : List Mark). Match front ms) (sym t.3) matches) stops ∙ ap (λ (a : A). Done a rest) t.2);
  some = (let s = law.some in let t = there s.0 s.1 in (t.0, t.1));
}

-- what was read, made something else
pub then_last : {A B F : Type 0} {read : List Piece → Read A} {write : F → List Mark} {view : F → A} {Fits : F → Type 0} {goes_on : Token → Bool} → Reads read write view Fits goes_on → (make : A → B)
    → Reads (λ qs. read qs >>= λ x. Done (make x.0) x.1) write (λ f. make (view f)) Fits goes_on
then_last {A} {B} {F} {read} {write} {view} {Fits} {goes_on} one make = record {
  done = λ ps rest last e. (
      let s = then_done (read ps) (λ x. Done (make x.0) x.1) last rest e in
      let t = one.done ps s.1 s.0 s.2 in
      let same : make s.0 ≡ last = cc (s.3) in
      let ends : s.1 ≡ rest = cc (s.3) in
      let known = subst (λ (r : List Piece). Takes read ps r (write t.0) (view t.0)) ends t.3 in
      (t.0, t.1, sym same ∙ ap make t.2, record { front = known.front; parts = known.parts; matches = known.matches; local = local_last (view t.0) known.front rest known.local }));
  stuck = λ ps rest e. elim (then_stuck (read ps) (λ x. Done (make x.0) x.1) rest e) [
    | inl first ↦ (
        let t = one.stuck ps rest first in
        (t.0, t.1, record { front = t.2.front; more = t.2.more; parts = t.2.parts; begins = t.2.begins; local = local_first read (λ x. Done (make x.0) x.1) t.2.front rest t.2.local }))
    | inr s ↦ absurd (cc (s.3))
  ];
  complete = λ front rest f fits matches stops. ap (λ (r : Read A). r >>= λ x. Done (make x.0) x.1) (one.complete front rest f fits matches stops);
  some = one.some;
}
  where
    local_last : (value : A) (front rest : List Piece) → IsLocal read (Some value) front rest → IsLocal (λ qs. read qs >>= λ x. Done (make x.0) x.1) (Some (make value)) front rest
    local_last value front [] local = tt
    local_last value front (p ∷ rest) local = λ other. ap (λ (r : Read A). r >>= λ x. Done (make x.0) x.1) (local other)

-- a reader that may go on with more
pub widen : {A F : Type 0} {read : List Piece → Read A} {write : F → List Mark} {view : F → A} {Fits : F → Type 0} {goes_on : Token → Bool} (wider : Token → Bool) → Covers wider goes_on
    → Reads read write view Fits goes_on → Reads read write view Fits wider
widen {A} {F} {read} {write} {view} {Fits} {goes_on} wider covers law = record {
  done = law.done;
  stuck = law.stuck;
  complete = λ front rest f fits matches stops. law.complete front rest f fits matches (stops_covered wider goes_on covers rest stops);
  some = law.some;
}

local_same : {A : Type 0} (read other : List Piece → Read A) (o : Option A) (front rest : List Piece) → ((ps : List Piece) → read ps ≡ other ps) → IsLocal read o front rest → IsLocal other o front rest
local_same read other o front rest same local = local_instead read other o front rest (agree rest) local
  where
    agree : (rest : List Piece) → Agrees read other front rest
    agree [] = tt
    agree (p ∷ rest) = λ more. sym (same (front ++ p ∷ more))

-- another reader with the same outcomes
pub instead : {A F : Type 0} {write : F → List Mark} {view : F → A} {Fits : F → Type 0} {goes_on : Token → Bool} (read other : List Piece → Read A) → ((ps : List Piece) → read ps ≡ other ps)
    → Reads read write view Fits goes_on → Reads other write view Fits goes_on
instead {A} {F} {write} {view} {Fits} {goes_on} read other same law = record {
  done = λ ps rest x e. (
      let s = law.done ps rest x (same ps ∙ e) in
      (s.0, s.1, s.2, record { front = s.3.front; parts = s.3.parts; matches = s.3.matches; local = local_same read other (Some (view s.0)) s.3.front rest same s.3.local }));
  stuck = λ ps rest e. (
      let s = law.stuck ps rest (same ps ∙ e) in
      (s.0, s.1, record { front = s.2.front; more = s.2.more; parts = s.2.parts; begins = s.2.begins; local = local_same read other None s.2.front rest same s.2.local }));
  complete = λ front rest f fits matches stops. sym (same (front ++ rest)) ∙ law.complete front rest f fits matches stops;
  some = law.some;
}

-- ---- one piece

module _ {A F : Type 0} (sense : Piece → Option A) (mark : F → Mark) (view : F → A) (Fits : F → Type 0)
    (sound : (p : Piece) (a : A) → sense p ≡ Some a → (f : F) × Fits f × (a ≡ view f) × Marks p (mark f)) (complete : (p : Piece) (f : F) → Fits f → Marks p (mark f) → sense p ≡ Some (view f)) (example : (f : F) × Fits f) where
  senses : (p : Piece) (qs : List Piece) (o : Option A) → sense p ≡ o → piece_at sense (p ∷ qs) ≡ option_map_or (λ a. Done a qs) o (Stuck (p ∷ qs))
  unfolding piece_at
  senses p qs None is = rw is refl
  senses p qs (Some a) is = rw is refl

  sensed : (p : Piece) (rest : List Piece) (a : A) → sense p ≡ Some a → IsLocal (piece_at sense) (Some a) (p ∷ []) rest
  sensed p [] a is = tt
  sensed p (q ∷ rest) a is = λ other. senses p (q ∷ other) (Some a) is

  piece_done : (p : Piece) (qs rest : List Piece) (value : A) (o : Option A) → sense p ≡ o → piece_at sense (p ∷ qs) ≡ Done value rest → (f : F) × Fits f × (value ≡ view f) × Takes (piece_at sense) (p ∷ qs) rest (mark f ∷ []) (view f)
  piece_done p qs rest value None is e = let same = sym (senses p qs None is) ∙ e in absurd cc
  piece_done p qs rest value (Some a) is e =
      let same = sym (senses p qs (Some a) is) ∙ e in
      let given : a ≡ value = cc in
      let ends : qs ≡ rest = cc in
      let s = sound p a is in
      (s.0, s.1, sym given ∙ s.2, record { front = p ∷ []; parts = ap (λ (r : List Piece). p ∷ r) ends; matches = (s.3, tt); local = sensed p rest (view s.0) (complete p s.0 s.1 s.3) })

  unsensed : (p : Piece) (rest : List Piece) → sense p ≡ None → IsLocal (piece_at sense) None [] (p ∷ rest)
  unsensed p rest is = λ other. senses p other None is

  piece_stuck : (p : Piece) (qs rest : List Piece) (o : Option A) → sense p ≡ o → piece_at sense (p ∷ qs) ≡ Stuck rest → Breaks (piece_at sense) (p ∷ qs) rest (mark example.0 ∷ [])
  piece_stuck p qs rest None is e =
      let same = sym (senses p qs None is) ∙ e in
      let ends : p ∷ qs ≡ rest = cc in
      record { front = []; more = filled (mark example.0 ∷ []); parts = ends; begins = filled_match (mark example.0 ∷ []); local = subst (λ (r : List Piece). IsLocal (piece_at sense) None [] r) ends (unsensed p qs is) }
  piece_stuck p qs rest (Some a) is e = let same = sym (senses p qs (Some a) is) ∙ e in absurd cc

  all_done : (ps rest : List Piece) (value : A) → piece_at sense ps ≡ Done value rest → (f : F) × Fits f × (value ≡ view f) × Takes (piece_at sense) ps rest (mark f ∷ []) (view f)
  unfolding piece_at
  all_done [] rest value e = absurd cc
  all_done (p ∷ qs) rest value e = piece_done p qs rest value (sense p) refl e

  all_stuck : (ps rest : List Piece) → piece_at sense ps ≡ Stuck rest → Breaks (piece_at sense) ps rest (mark example.0 ∷ [])
  unfolding piece_at
  all_stuck [] rest e =
      let ends : [] ≡ rest = cc in
      record { front = []; more = filled (mark example.0 ∷ []); parts = ends; begins = filled_match (mark example.0 ∷ []); local = subst (λ (r : List Piece). IsLocal (piece_at sense) None [] r) ends tt }
  all_stuck (p ∷ qs) rest e = piece_stuck p qs rest (sense p) refl e

  all_complete : (front rest : List Piece) (f : F) → Fits f → Match front (mark f ∷ []) → piece_at sense (front ++ rest) ≡ Done (view f) rest
  all_complete [] rest f fits matches = absurd matches
  all_complete (p ∷ q ∷ front) rest f fits matches = absurd matches.1
  all_complete (p ∷ []) rest f fits matches = senses p rest (Some (view f)) (complete p f fits matches.0)

  pub piece_reads : Reads (piece_at sense) (λ f. mark f ∷ []) view Fits nothing
  piece_reads = record {
    done = all_done;
    stuck = λ ps rest e. (example.0, example.1, all_stuck ps rest e);
    complete = λ front rest f fits matches stops. all_complete front rest f fits matches;
    some = example;
  }
