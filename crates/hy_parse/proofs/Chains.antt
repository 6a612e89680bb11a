-- Chains of operators, which are trees that grow to the left, and lists.
use Rattle.std.proofs.Common.{◌≡◌, Bool, false, List, [], ◌∷◌, ◌++◌, map, Option, None, refl, sym, ap, subst, ◌∙◌, append_assoc}
use Rattle.std.specs.List.{flat_map, AllByRecursion}
use Rattle.std.proofs.lemmas.List.{append-nil}
use Rattle.hy_token.specs.declared.Span.{Span}
use Rattle.hy_token.specs.declared.Token.{Token}
use Rattle.hy_token.specs.declared.Sign.TheVariants.{Comma}
use Rattle.hy_parse.specs.declared.Piece.{Piece}
use Rattle.hy_parse.specs.Grammar.{Mark, Any, At, Marks, separated, HasItem}
use Rattle.hy_parse.specs.Reading.{Read, ◌>>=◌, same, sign, span_of, links_at, items_at}
use Rattle.hy_parse.proofs.Readers.{Reads, Covers, HeadStops, token_of, then_read, recast}
use Rattle.hy_parse.proofs.Choices.{span_sound, span_complete}
use Rattle.hy_parse.proofs.Links.{Joins, linked, all_joined, AllFit, links_reads}

-- ---- chains

-- a tree as its first operand and what is joined to it
pub record Spine {T O : Type 0} (step : T → O → T → T) (Fits : T → Type 0) (tree : T) : Type 0 where
  pub first : T
  pub rest : List (O × T)
  pub first_fits : Fits first
  pub rest_fit : AllFit Fits rest
  pub whole : all_joined step (λ t. t) first rest ≡ tree

joined_push : {T O : Type 0} (step : T → O → T → T) (first : T) (rest : List (O × T)) (o : O) (right : T) → all_joined step (λ t. t) first (rest ++ (o, right) ∷ []) ≡ step (all_joined step (λ t. t) first rest) o right
joined_push step first [] o right = refl
joined_push step first (ot ∷ rest) o right = joined_push step (step first ot.0 ot.1) rest o right

fit_push : {T O : Type 0} (Fits : T → Type 0) (rest : List (O × T)) (o : O) (right : T) → AllFit Fits rest → Fits right → AllFit Fits (rest ++ (o, right) ∷ [])
fit_push Fits [] o right fit fits = (fits, tt)
fit_push Fits (ot ∷ rest) o right fit fits = (fit.0, fit_push Fits rest o right fit.1 fits)

pub spine_first : {T O : Type 0} (step : T → O → T → T) (Fits : T → Type 0) (tree : T) → Fits tree → Spine step Fits tree
spine_first step Fits tree fits = record { first = tree; rest = []; first_fits = fits; rest_fit = tt; whole = refl }

pub spine_step : {T O : Type 0} (step : T → O → T → T) (Fits : T → Type 0) (left : T) (o : O) (right : T) → Spine step Fits left → Fits right → Spine step Fits (step left o right)
spine_step {T} step Fits left o right spine fits = record {
  first = spine.first;
  rest = spine.rest ++ (o, right) ∷ [];
  first_fits = spine.first_fits;
  rest_fit = fit_push Fits spine.rest o right spine.rest_fit fits;
  whole = joined_push step spine.first spine.rest o right ∙ ap (λ (t : T). step t o right) spine.whole;
}

module _ {T B O : Type 0} (sense : Piece → Option B) (join : T → B → T → T) (mark : O → Mark) (step : T → O → T → T) (joins : Token → Bool) (joined : Joins sense join mark step joins)
    (read : List Piece → Read T) (write : T → List Mark) (Fits Grown : T → Type 0) (goes_one goes_on : Token → Bool) (one : Reads read write (λ t. t) Fits goes_one)
    (covers_one : Covers goes_on goes_one) (covers_joins : Covers goes_on joins) (apart : (o : O) → goes_one (token_of (mark o)) ≡ false)
    (writes : (left : T) (o : O) (right : T) → write (step left o right) ≡ write left ++ mark o ∷ write right) (starts : (t : T) → Fits t → Grown t) (grows : (left : T) (o : O) (right : T) → Grown left → Fits right → Grown (step left o right))
    (spine : (t : T) → Grown t → Spine step Fits t) where
  grown : (left : T) (rest : List (O × T)) → Grown left → AllFit Fits rest → Grown (all_joined step (λ t. t) left rest)
  grown left [] fits fit = fits
  grown left (ot ∷ rest) fits fit = grown (step left ot.0 ot.1) rest (grows left ot.0 ot.1 fits fit.0) fit.1

  written : (left : T) (rest : List (O × T)) → write left ++ flat_map (linked mark write) rest ≡ write (all_joined step (λ t. t) left rest)
  written left [] = append-nil (write left)
  written left (ot ∷ rest) =
      let others = flat_map (linked mark write) rest in
      sym (append_assoc (write left) (linked mark write ot) others) ∙ ap (λ (ms : List Mark). ms ++ others) (sym (writes left ot.0 ot.1)) ∙ written (step left ot.0 ot.1) rest

  others_stop : (rest : List (O × T)) → HeadStops goes_one goes_on (flat_map (linked mark write) rest)
  others_stop [] = covers_one
  others_stop (ot ∷ rest) = apart ot.0

  pub chain_reads : Reads (λ ps. read ps >>= λ first. links_at sense join read first.0 first.1) write (λ t. t) Grown goes_on
  chain_reads =
      recast write (λ t. t) Grown
      (then_read (λ first. links_at sense join read first.0 first.1) one (λ t fits. links_reads sense join mark step joins joined read write (λ t. t) Fits goes_one goes_on one covers_one covers_joins apart t) (λ t rest ft fr. others_stop rest))
      (λ f fits. (all_joined step (λ t. t) f.0 f.1, grown f.0 f.1 (starts f.0 fits.0) fits.1, refl, written f.0 f.1))
      (λ t fits. (let s = spine t fits in ((s.first, s.rest), (s.first_fits, s.rest_fit), s.whole, written s.first s.rest ∙ ap write s.whole)))

-- ---- lists

module _ {X B C O G : Type 0} (sense : Piece → Option B) (join : List X → B → C → List X) (mark : O → Mark) (step : List X → O → C → List X) (joins : Token → Bool) (joined : Joins sense join mark step joins)
    (read : List Piece → Read C) (write : G → List Mark) (view : G → C) (Fits : G → Type 0) (goes_one goes_on : Token → Bool) (one : Reads read write view Fits goes_one)
    (covers_one : Covers goes_on goes_one) (covers_joins : Covers goes_on joins) (apart : (o : O) → goes_one (token_of (mark o)) ≡ false)
    (make : O × G → X) (parts : X → O × G) (adds : (xs : List X) (og : O × G) → step xs og.0 (view og.1) ≡ xs ++ make og ∷ []) (made : (x : X) → make (parts x) ≡ x) where
  all_made : (before : List X) (ogs : List (O × G)) → all_joined step view before ogs ≡ before ++ map make ogs
  all_made before [] = sym (append-nil before)
  all_made before (og ∷ ogs) = all_made (step before og.0 (view og.1)) ogs ∙ ap (λ (xs : List X). xs ++ map make ogs) (adds before og) ∙ append_assoc before (make og ∷ []) (map make ogs)

  all_parts : (xs : List X) → map make (map parts xs) ≡ xs
  all_parts [] = refl
  all_parts (x ∷ xs) = ap (λ (y : X). y ∷ map make (map parts xs)) (made x) ∙ ap (λ (ys : List X). x ∷ ys) (all_parts xs)

  module _ (mark_all : X → List Mark) (FitsAll : X → Type 0) (marks : (og : O × G) → linked mark write og ≡ mark_all (make og)) (fits_made : (og : O × G) → Fits og.1 → FitsAll (make og)) (fits_parts : (x : X) → FitsAll x → Fits (parts x).1) where
    all_marks : (ogs : List (O × G)) → flat_map (linked mark write) ogs ≡ flat_map mark_all (map make ogs)
    all_marks [] = refl
    all_marks (og ∷ ogs) = ap (λ (ms : List Mark). ms ++ flat_map (linked mark write) ogs) (marks og) ∙ ap (λ (ms : List Mark). mark_all (make og) ++ ms) (all_marks ogs)

    all_fit : (ogs : List (O × G)) → AllFit Fits ogs → AllByRecursion FitsAll (map make ogs)
    all_fit [] fit = tt
    all_fit (og ∷ ogs) fit = (fits_made og fit.0, all_fit ogs fit.1)

    parts_fit : (xs : List X) → AllByRecursion FitsAll xs → AllFit Fits (map parts xs)
    parts_fit [] fit = tt
    parts_fit (x ∷ xs) fit = (fits_parts x fit.0, parts_fit xs fit.1)

    pub list_reads : (before : List X) → Reads (λ ps. links_at sense join read before ps) (flat_map mark_all) (λ xs. before ++ xs) (AllByRecursion FitsAll) goes_on
    list_reads before =
        recast (flat_map mark_all) (λ xs. before ++ xs) (AllByRecursion FitsAll)
        (links_reads sense join mark step joins joined read write view Fits goes_one goes_on one covers_one covers_joins apart before)
        (λ ogs fit. (map make ogs, all_fit ogs fit, all_made before ogs, all_marks ogs))
        (λ xs fit. (map parts xs, parts_fit xs fit, all_made before (map parts xs) ∙ ap (λ (ys : List X). before ++ ys) (all_parts xs), all_marks (map parts xs) ∙ ap (flat_map mark_all) (all_parts xs)))

-- ---- joining tokens

module _ (t : Token) where
  no_span : (p : Piece) → same t p.token ≡ false → span_of t p ≡ None
  no_span p is = rw is refl

  -- a token whose span is kept
  pub at_joins : {A C : Type 0} (join : A → Span → C → A) → Joins (span_of t) join (λ s. At t s) join (same t)
  at_joins join = record {
    sound = λ p b e. (let s = span_sound t p b e in (b, subst (λ (at : Span). Marks p (At t at)) (sym s.2) s.3, λ left c. refl));
    complete = λ p s is. (s, span_complete t p s tt is, λ left c. refl);
    others = no_span;
  }

  -- a token whose span is not
  pub any_joins : {A C : Type 0} (join : A → C → A) → Joins {O = Unit {0}} (span_of t) (λ left at c. join left c) (λ u. Any t) (λ left u c. join left c) (same t)
  any_joins join = record {
    sound = λ p b e. (let s = span_sound t p b e in (tt, ap (λ (q : Piece). q.token) s.3, λ left c. refl));
    complete = λ p u is. (p.span, ap (λ (token : Token). span_of t (record { token = token; span = p.span })) is ∙ span_complete t (record { token = t; span = p.span }) p.span tt refl, λ left c. refl);
    others = no_span;
  }

-- a list with commas between, behind other items
pub items_reads : {X : Type 0} {read : List Piece → Read X} {write : X → List Mark} {Fits : X → Type 0} {goes_one : Token → Bool} (goes_on : Token → Bool) (before : List X) → Reads read write (λ x. x) Fits goes_one
    → Covers goes_on goes_one → Covers goes_on (same (sign Comma)) → goes_one (sign Comma) ≡ false → Reads (items_at before read) (separated write) (λ xs. before ++ xs) (λ xs. HasItem xs × AllByRecursion Fits xs) goes_on
unfolding items_at
items_reads {X} {read} {write} {Fits} {goes_one} goes_on before one covers_one covers_comma apart =
    let comma = any_joins (sign Comma) (λ (items : List X) (item : X). items ++ item ∷ []) in
    let others = λ (first : X). list_reads (span_of (sign Comma)) (λ items at item. items ++ item ∷ []) (λ (u : Unit {0}). Any (sign Comma)) (λ items u item. items ++ item ∷ []) (same (sign Comma)) comma read write (λ x. x) Fits goes_one goes_on one covers_one covers_comma (λ u. apart)
    (λ ux. ux.1) (λ x. (tt, x)) (λ xs ux. refl) (λ x. refl) (λ x. Any (sign Comma) ∷ write x) Fits (λ ux. refl) (λ ux fits. fits) (λ x fits. fits) (before ++ first ∷ []) in
    recast (separated write) (λ xs. before ++ xs) (λ xs. HasItem xs × AllByRecursion Fits xs)
    (then_read (λ first. links_at (span_of (sign Comma)) (λ items at item. items ++ item ∷ []) read (before ++ first.0 ∷ []) first.1) one (λ x fits. others x) (λ x xs fx fxs. elim xs as (λ ys. HeadStops goes_one goes_on (flat_map (λ y. Any (sign Comma) ∷ write y) ys)) [ [] ↦ covers_one | y ∷ ys ↦ apart ]))
    (λ f fits. (f.0 ∷ f.1, (tt, (fits.0, fits.1)), append_assoc before (f.0 ∷ []) f.1, refl))
    (elim [ [] ↦ λ fits. absurd fits.0 | x ∷ xs ↦ λ fits. ((x, xs), (fits.1.0, fits.1.1), append_assoc before (x ∷ []) xs, refl) ])
