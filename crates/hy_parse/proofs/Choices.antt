-- Readers of fixed tokens, and readers that choose by the first token.
use Rattle.std.proofs.Common.{◌≡◌, ℕ, Bool, true, false, cond, List, [], ◌∷◌, ◌++◌, map, Option, Some, None, ◌⊎◌, inl, inr, refl, sym, ap, subst, ◌∙◌}
use Rattle.std.specs.Str.{bytes_eq}
use Rattle.std.proofs.lemmas.Option.{same_Some, cond_some}
use Rattle.std.proofs.lemmas.Slice.Eq.{bytes_eq-Decides}
use Rattle.hy_token.specs.Keyword.{keyword_of, word_spelling}
use Rattle.hy_token.specs.Sign.{sign_of, sign_spelling}
use Rattle.hy_token.specs.declared.Keyword.{Keyword}
use Rattle.hy_token.specs.declared.Sign.{Sign}
use Rattle.hy_token.specs.declared.Span.{Span}
use Rattle.hy_token.specs.declared.Token.{Token}
use Rattle.hy_token.specs.declared.Token.TheVariants as token
use Rattle.hy_token.specs.Spellings.{word_found, sign_found}
use Rattle.hy_parse.specs.declared.Piece.{Piece}
use Rattle.hy_parse.specs.Grammar.{Mark, Any, At, Marks, Match}
use Rattle.hy_parse.specs.Reading.{Read, Done, Stuck, ◌>>=◌, same, begins, span_of, span_at, piece_at, after}
use Rattle.hy_parse.proofs.Readers.{Reads, Takes, Breaks, IsLocal, Stops, Covers, HeadStops, Always, nothing, head_of, head_stops, marks_token, filled, filled_match, takes_instead, breaks_instead, Agrees, takes_behind, breaks_behind, then_read, recast, piece_reads}

-- ---- tokens

same_bytes : (xs ys : List ℕ) → bytes_eq xs ys ≡ true → xs ≡ ys
same_bytes xs ys h = (bytes_eq-Decides xs ys).0 h

bytes_same : (xs : List ℕ) → bytes_eq xs xs ≡ true
bytes_same xs = (bytes_eq-Decides xs xs).1 refl

same_word : (a b : Keyword) → bytes_eq (word_spelling a) (word_spelling b) ≡ true → a ≡ b
same_word a b h =
    let spelled = same_bytes (word_spelling a) (word_spelling b) h in
    same_Some a b (sym (word_found a) ∙ ap keyword_of spelled ∙ word_found b)

same_sign : (a b : Sign) → bytes_eq (sign_spelling a) (sign_spelling b) ≡ true → a ≡ b
same_sign a b h =
    let spelled = same_bytes (sign_spelling a) (sign_spelling b) h in
    same_Some a b (sym (sign_found a) ∙ ap sign_of spelled ∙ sign_found b)

pub same_is : (a b : Token) → same a b ≡ true → a ≡ b
same_is (token.Reserved a) (token.Reserved b) h = ap (λ (k : Keyword). token.Reserved k) (same_word a b h)
same_is (token.Sign a) (token.Sign b) h = ap (λ (s : Sign). token.Sign s) (same_sign a b h)
same_is token.Name token.Name h = refl
same_is token.Integer token.Integer h = refl
same_is token.Text token.Text h = refl
same_is token.End token.End h = refl
same_is _ _ h = absurd cc

pub same_self : (a : Token) → same a a ≡ true
same_self (token.Reserved a) = bytes_same (word_spelling a)
same_self (token.Sign a) = bytes_same (sign_spelling a)
same_self token.Name = refl
same_self token.Integer = refl
same_self token.Text = refl
same_self token.End = refl

-- ---- the span of a token

pub span_sound : (t : Token) (p : Piece) (a : Span) → span_of t p ≡ Some a → (s : Span) × Unit {0} × (a ≡ s) × Marks p (At t s)
span_sound t p a e =
    let c = cond_some (same t p.token) p.span a e in
    let named : Token → Piece = λ token. record { token = token; span = p.span } in
    let placed : Span → Piece = λ span. record { token = t; span = span } in
    (a, tt, refl, ap named (sym (same_is t p.token c.0)) ∙ ap placed c.1)

pub span_complete : (t : Token) (p : Piece) (s : Span) → Unit {0} → Marks p (At t s) → span_of t p ≡ Some s
span_complete t p s fits is = ap (span_of t) is ∙ rw (same_self t) refl

pub span_reads : (t : Token) → Reads (span_at t) (λ s. At t s ∷ []) (λ s. s) Always nothing
span_reads t = piece_reads (span_of t) (λ s. At t s) (λ s. s) Always (span_sound t) (span_complete t) (record { start = 0; end = 0 }, tt)

-- ---- fixed tokens

pub stops_nothing : (ps : List Piece) → Stops nothing ps
stops_nothing [] = tt
stops_nothing (p ∷ ps) = refl

taken : (ts : List Token) (t : Token) (p : Piece) → same t p.token ≡ true → (qs : List Piece) → after (t ∷ ts) (p ∷ qs) ≡ after ts qs
unfolding after piece_at
taken ts t p is qs = rw is refl

refused : (ts : List Token) (t : Token) (p : Piece) (qs : List Piece) → same t p.token ≡ false → after (t ∷ ts) (p ∷ qs) ≡ Stuck (p ∷ qs)
unfolding after piece_at
refused ts t p qs is = rw is refl

abbrev pub fixed : List Token → List Mark
fixed ts = map (λ t. Any t) ts

after_head_done : (ts : List Token) (t : Token) (p : Piece) (qs rest : List Piece) (u : Unit {0}) (b : Bool) → same t p.token ≡ b → (after ts qs ≡ Done u rest → Takes (after ts) qs rest (fixed ts) tt) → after (t ∷ ts) (p ∷ qs) ≡ Done u rest → Takes (after (t ∷ ts)) (p ∷ qs) rest (fixed (t ∷ ts)) tt
after_head_done ts t p qs rest u true is more e = takes_behind (after ts) (after (t ∷ ts)) p qs rest (Any t) (fixed ts) tt (taken ts t p is) (sym (same_is t p.token is)) (more (sym (taken ts t p is qs) ∙ e))
after_head_done ts t p qs rest u false is more e = let no = sym (refused ts t p qs is) ∙ e in absurd cc

at_end : {A : Type 0} (read : List Piece → Read A) (o : Option A) (front : List Piece) (ps : List Piece) → ps ≡ [] → IsLocal read o front ps
at_end read o front ps is = subst (λ (qs : List Piece). IsLocal read o front qs) (sym is) tt

none_local : (rest : List Piece) → IsLocal (after []) (Some tt) [] rest
unfolding after
none_local [] = tt
none_local (p ∷ rest) = λ other. refl

after_done : (ts : List Token) (ps rest : List Piece) (u : Unit {0}) → after ts ps ≡ Done u rest → Takes (after ts) ps rest (fixed ts) tt
unfolding after piece_at
after_done [] ps rest u e = let ends : ps ≡ rest = cc in record { front = []; parts = ends; matches = tt; local = none_local rest }
after_done (t ∷ ts) [] rest u e = absurd cc
after_done (t ∷ ts) (p ∷ qs) rest u e = after_head_done ts t p qs rest u (same t p.token) refl (after_done ts qs rest u) e

-- nothing was read
pub no_front : {A : Type 0} (read : List Piece → Read A) (ps rest : List Piece) (ms : List Mark) → ps ≡ rest → IsLocal read None [] ps → Breaks read ps rest ms
no_front read ps rest ms is local = record { front = []; more = filled ms; parts = is; begins = filled_match ms; local = subst (λ (r : List Piece). IsLocal read None [] r) is local }

after_head_stuck : (ts : List Token) (t : Token) (p : Piece) (qs rest : List Piece) (b : Bool) → same t p.token ≡ b → (after ts qs ≡ Stuck rest → Breaks (after ts) qs rest (fixed ts)) → after (t ∷ ts) (p ∷ qs) ≡ Stuck rest → Breaks (after (t ∷ ts)) (p ∷ qs) rest (fixed (t ∷ ts))
after_head_stuck ts t p qs rest true is more e = breaks_behind (after ts) (after (t ∷ ts)) p qs rest (Any t) (fixed ts) (taken ts t p is) (sym (same_is t p.token is)) (more (sym (taken ts t p is qs) ∙ e))
after_head_stuck ts t p qs rest false is more e =
    let no = sym (refused ts t p qs is) ∙ e in
    let ends : p ∷ qs ≡ rest = cc in
    no_front (after (t ∷ ts)) (p ∷ qs) rest (fixed (t ∷ ts)) ends (λ other. refused ts t p other is)

after_stuck : (ts : List Token) (ps rest : List Piece) → after ts ps ≡ Stuck rest → Breaks (after ts) ps rest (fixed ts)
unfolding after piece_at
after_stuck [] ps rest e = absurd cc
after_stuck (t ∷ ts) [] rest e = let ends : [] ≡ rest = cc in no_front (after (t ∷ ts)) [] rest (fixed (t ∷ ts)) ends tt
after_stuck (t ∷ ts) (p ∷ qs) rest e = after_head_stuck ts t p qs rest (same t p.token) refl (after_stuck ts qs rest) e

after_complete : (ts : List Token) (front rest : List Piece) → Match front (fixed ts) → after ts (front ++ rest) ≡ Done tt rest
unfolding after
after_complete [] [] rest m = refl
after_complete [] (p ∷ front) rest m = absurd m
after_complete (t ∷ ts) [] rest m = absurd m
after_complete (t ∷ ts) (p ∷ front) rest m = taken ts t p (ap (same t) m.0 ∙ same_self t) (front ++ rest) ∙ after_complete ts front rest m.1

pub after_reads : (ts : List Token) → Reads {F = Unit {0}} (after ts) (λ u. fixed ts) (λ u. tt) Always nothing
after_reads ts = record {
  done = λ ps rest u e. (tt, tt, refl, after_done ts ps rest u e);
  stuck = λ ps rest e. (tt, tt, after_stuck ts ps rest e);
  complete = λ front rest u fits m stops. after_complete ts front rest m;
  some = (tt, tt);
}

-- ---- one after the other, where the first goes on with nothing

covers_nothing : (wider : Token → Bool) → Covers wider nothing
covers_nothing wider t stops = refl

pub head_nothing : (behind : Token → Bool) (ms : List Mark) → HeadStops nothing behind ms
head_nothing behind [] = covers_nothing behind
head_nothing behind (m ∷ ms) = refl

pub then_one : {A B F G : Type 0} {read : List Piece → Read A} {write : F → List Mark} {view : F → A} {Fits : F → Type 0} {write' : F → G → List Mark} {view' : F → G → B} {Fits' : F → G → Type 0} {goes_on' : Token → Bool}
    → (k : A × List Piece → Read B) → Reads read write view Fits nothing → ((f : F) → Fits f → Reads (λ qs. k (view f, qs)) (write' f) (view' f) (Fits' f) goes_on')
    → Reads {F = F × G} (λ qs. read qs >>= k) (λ fg. write fg.0 ++ write' fg.0 fg.1) (λ fg. view' fg.0 fg.1) (λ fg. Fits fg.0 × Fits' fg.0 fg.1) goes_on'
then_one {write' = write'} {goes_on' = goes_on'} k one others = then_read k one others (λ f g ff gg. head_nothing goes_on' (write' f g))

pub then_fixed : {B G : Type 0} {write' : G → List Mark} {view' : G → B} {Fits' : G → Type 0} {goes_on' : Token → Bool} (ts : List Token) (k : Unit {0} × List Piece → Read B)
    → Reads (λ qs. k (tt, qs)) write' view' Fits' goes_on' → Reads (λ qs. after ts qs >>= k) (λ g. fixed ts ++ write' g) view' Fits' goes_on'
then_fixed {write' = write'} {view' = view'} {Fits' = Fits'} ts k others =
    recast (λ g. fixed ts ++ write' g) view' Fits' (then_one k (after_reads ts) (λ u fits. others)) (λ ug fits. (ug.1, fits.1, refl, refl)) (λ g fits. ((tt, g), (tt, fits), refl, refl))

-- ---- a choice by the first token

abbrev pub of_sum : {X F G : Type 0} → (F → X) → (G → X) → F ⊎ G → X
of_sum left right (inl f) = left f
of_sum left right (inr g) = right g

abbrev pub fits_sum : {F G : Type 0} → (F → Type 0) → (G → Type 0) → F ⊎ G → Type 0
fits_sum left right (inl f) = left f
fits_sum left right (inr g) = right g

abbrev choice : {A : Type 0} → Token → (List Piece → Read A) → (List Piece → Read A) → List Piece → Read A
choice t one other ps = cond (begins t ps) (one ps) (other ps)

-- the first token stays the same, whatever comes behind the next piece
begins_still : (t : Token) (front : List Piece) (p : Piece) (rest more : List Piece) → begins t (front ++ p ∷ more) ≡ begins t (front ++ p ∷ rest)
begins_still t [] p rest more = refl
begins_still t (q ∷ front) p rest more = refl

chosen : {A : Type 0} (t : Token) (one other : List Piece → Read A) (ps : List Piece) → begins t ps ≡ true → choice t one other ps ≡ one ps
chosen t one other ps is = rw is refl

passed_by : {A : Type 0} (t : Token) (one other : List Piece → Read A) (ps : List Piece) → begins t ps ≡ false → choice t one other ps ≡ other ps
passed_by t one other ps is = rw is refl

agrees_one : {A : Type 0} (t : Token) (one other : List Piece → Read A) (ps front rest : List Piece) → begins t ps ≡ true → ps ≡ front ++ rest → Agrees one (choice t one other) front rest
agrees_one t one other ps front [] is parts = tt
agrees_one t one other ps front (p ∷ rest) is parts = λ more. chosen t one other (front ++ p ∷ more) (begins_still t front p rest more ∙ ap (begins t) (sym parts) ∙ is)

agrees_other : {A : Type 0} (t : Token) (one other : List Piece → Read A) (ps front rest : List Piece) → begins t ps ≡ false → ps ≡ front ++ rest → Agrees other (choice t one other) front rest
agrees_other t one other ps front [] is parts = tt
agrees_other t one other ps front (p ∷ rest) is parts = λ more. passed_by t one other (front ++ p ∷ more) (begins_still t front p rest more ∙ ap (begins t) (sym parts) ∙ is)

head_begins : (t : Token) (ms : List Mark) (ps rest : List Piece) → head_of ms ≡ Some t → Match ps ms → begins t (ps ++ rest) ≡ true
head_begins t [] ps rest head m = absurd cc
head_begins t (x ∷ ms) [] rest head m = absurd m
head_begins t (x ∷ ms) (p ∷ ps) rest head m = ap (same t) (marks_token p x m.0 ∙ same_Some _ _ head) ∙ same_self t

begins_other : (t : Token) (ps : List Piece) → Stops (same t) ps → begins t ps ≡ false
begins_other t [] stops = refl
begins_other t (p ∷ ps) stops = stops

module _ {A F G : Type 0} {read : List Piece → Read A} {write : F → List Mark} {view : F → A} {Fits : F → Type 0} {read' : List Piece → Read A} {write' : G → List Mark} {view' : G → A} {Fits' : G → Type 0} {goes_on : Token → Bool} (t : Token)
    (one : Reads read write view Fits goes_on) (other : Reads read' write' view' Fits' goes_on) (opens : (f : F) → Fits f → head_of (write f) ≡ Some t) (differs : (g : G) → Fits' g → HeadStops (same t) goes_on (write' g)) where
  choice_done : (ps rest : List Piece) (value : A) (b : Bool) → begins t ps ≡ b → choice t read read' ps ≡ Done value rest
      → (f : F ⊎ G) × fits_sum Fits Fits' f × (value ≡ of_sum view view' f) × Takes (choice t read read') ps rest (of_sum write write' f) (of_sum view view' f)
  choice_done ps rest value true is e =
      let s = one.done ps rest value (sym (chosen t read read' ps is) ∙ e) in
      (inl s.0, s.1, s.2, takes_instead read (choice t read read') ps rest (write s.0) (view s.0) (λ front parts. agrees_one t read read' ps front rest is parts) s.3)
  choice_done ps rest value false is e =
      let s = other.done ps rest value (sym (passed_by t read read' ps is) ∙ e) in
      (inr s.0, s.1, s.2, takes_instead read' (choice t read read') ps rest (write' s.0) (view' s.0) (λ front parts. agrees_other t read read' ps front rest is parts) s.3)

  choice_stuck : (ps rest : List Piece) (b : Bool) → begins t ps ≡ b → choice t read read' ps ≡ Stuck rest → (f : F ⊎ G) × fits_sum Fits Fits' f × Breaks (choice t read read') ps rest (of_sum write write' f)
  choice_stuck ps rest true is e =
      let s = one.stuck ps rest (sym (chosen t read read' ps is) ∙ e) in
      (inl s.0, s.1, breaks_instead read (choice t read read') ps rest (write s.0) (λ front parts. agrees_one t read read' ps front rest is parts) s.2)
  choice_stuck ps rest false is e =
      let s = other.stuck ps rest (sym (passed_by t read read' ps is) ∙ e) in
      (inr s.0, s.1, breaks_instead read' (choice t read read') ps rest (write' s.0) (λ front parts. agrees_other t read read' ps front rest is parts) s.2)

  choice_complete : (front rest : List Piece) (f : F ⊎ G) → fits_sum Fits Fits' f → Match front (of_sum write write' f) → Stops goes_on rest → choice t read read' (front ++ rest) ≡ Done (of_sum view view' f) rest
  choice_complete front rest (inl f) fits m stops = chosen t read read' (front ++ rest) (head_begins t (write f) front rest (opens f fits) m) ∙ one.complete front rest f fits m stops
  choice_complete front rest (inr g) fits m stops = passed_by t read read' (front ++ rest) (begins_other t (front ++ rest) (head_stops (same t) goes_on (write' g) front rest (differs g fits) m stops)) ∙ other.complete front rest g fits m stops

  pub choice_reads : Reads {F = F ⊎ G} (λ ps. cond (begins t ps) (read ps) (read' ps)) (of_sum write write') (of_sum view view') (fits_sum Fits Fits') goes_on
  choice_reads = record {
    done = λ ps rest value e. choice_done ps rest value (begins t ps) refl e;
    stuck = λ ps rest e. choice_stuck ps rest (begins t ps) refl e;
    complete = choice_complete;
    some = (let s = one.some in (inl s.0, s.1));
  }
