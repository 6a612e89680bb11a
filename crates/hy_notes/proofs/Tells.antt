-- What notes tell.
use Rattle.std.proofs.Common.{◌≡◌, ℕ, Bool, true, false, List, [], ◌∷◌, Option, None, Some, refl, sym, ap, ◌∙◌, inl, inr}
use Rattle.std.specs.Prelude.{if◌then◌else◌, ◌==◌, ◌&&◌}
use Rattle.std.specs.List.{AllByRecursion}
use Rattle.std.specs.Ordering.{ordering_reverse}
use Rattle.std.specs.declared.cmp.Ordering.{Ordering}
use Rattle.std.specs.declared.cmp.Ordering.TheVariants.{Less, Equal, Greater}
use Rattle.std.proofs.lemmas.Bool.{cases_Bool}
use Rattle.hy_value.specs.declared.change.Change.{Change}
use Rattle.hy_notes.specs.Notes.{Cell, order_of, Ascends, with_after, with_note, note_at}
use Rattle.hy_notes.specs.Telling.{before_or, NotesTell, TellingIsOne}
use Rattle.hy_notes.proofs.Orders.{note_cmp, notes_total, same_place, at, at_place, apart_less}
use Rattle.hy_notes.proofs.Adding.{by_order, ascends_with, all_less}

-- a position of a note is not noted behind it
pub none_behind : (x : Change) (xs : List Change) (table pos : ℕ) → AllByRecursion (λ later. note_cmp x later ≡ Less) xs → at x table pos ≡ true → note_at xs table pos ≡ None
none_behind x [] table pos all h = refl
none_behind x (y ∷ ys) table pos all h =
    ap (λ (b : Bool). if b then Some (y.before, y.after) else note_at ys table pos) (apart_less x y table pos all.0 h) ∙ none_behind x ys table pos all.1 h

abbrev told : Bool → Change → Option (Cell × Cell) → Option (Cell × Cell)
told b new was = if b then Some (before_or new.before was, new.after) else was

told_first : (b c : Bool) (n new : Change) (rest : Option (Cell × Cell)) → (b ≡ true → c ≡ false)
    → (if b then Some (n.before, n.after) else told c new rest) ≡ told c new (if b then Some (n.before, n.after) else rest)
told_first true c n new rest apart = sym (ap (λ (d : Bool). told d new (Some (n.before, n.after))) (apart refl))
told_first false c n new rest apart = refl

told_same : (b : Bool) (n new : Change) (rest : Option (Cell × Cell)) → (if b then Some (n.before, new.after) else rest) ≡ told b new (if b then Some (n.before, n.after) else rest)
told_same true n new rest = refl
told_same false n new rest = refl

told_new : (b : Bool) (new : Change) (was : Option (Cell × Cell)) → (b ≡ true → was ≡ None) → (if b then Some (new.before, new.after) else was) ≡ told b new was
told_new true new was none = sym (ap (λ (w : Option (Cell × Cell)). Some (before_or new.before w, new.after)) (none refl))
told_new false new was none = refl

same_at : (n new : Change) (table pos : ℕ) → order_of n new.table new.pos ≡ Equal → at n table pos ≡ at new table pos
same_at n new table pos e =
    let is = same_place n new.table new.pos e in
    ap (λ (p : ℕ × ℕ). p.0 == table && p.1 == pos) (λ i. (is.0 i, is.1 i))

tells_more : (new : Change) (notes : List Change) (table pos : ℕ) → Ascends notes → note_at (with_note new notes) table pos ≡ told (at new table pos) new (note_at notes table pos)
tells_more new [] table pos up = told_new (at new table pos) new None (λ h. refl)
tells_more new (n ∷ ns) table pos up = step (order_of n new.table new.pos) refl (tells_more new ns table pos up.1)
  where
    step : (o : Ordering) → order_of n new.table new.pos ≡ o → note_at (with_note new ns) table pos ≡ told (at new table pos) new (note_at ns table pos)
        → note_at (with_note new (n ∷ ns)) table pos ≡ told (at new table pos) new (note_at (n ∷ ns) table pos)
    step Less e rest =
        ap (λ (o : Ordering). note_at (by_order o (n ∷ with_note new ns) (with_after n new.after ∷ ns) (new ∷ n ∷ ns)) table pos) e
        ∙ (ap (λ (w : Option (Cell × Cell)). if at n table pos then Some (n.before, n.after) else w) rest
        ∙ told_first (at n table pos) (at new table pos) n new (note_at ns table pos) (apart_less n new table pos e))
    step Equal e rest =
        ap (λ (o : Ordering). note_at (by_order o (n ∷ with_note new ns) (with_after n new.after ∷ ns) (new ∷ n ∷ ns)) table pos) e
        ∙ (told_same (at n table pos) n new (note_at ns table pos) ∙ ap (λ (b : Bool). told b new (note_at (n ∷ ns) table pos)) (same_at n new table pos e))
    step Greater e rest =
        let less : note_cmp new n ≡ Less = notes_total.antisymm new n ∙ ap ordering_reverse e in
        ap (λ (o : Ordering). note_at (by_order o (n ∷ with_note new ns) (with_after n new.after ∷ ns) (new ∷ n ∷ ns)) table pos) e
        ∙ told_new (at new table pos) new (note_at (n ∷ ns) table pos) (λ h.
        ap (λ (b : Bool). if b then Some (n.before, n.after) else note_at ns table pos) (apart_less new n table pos less h)
        ∙ none_behind new ns table pos (all_less new n ns less up.0) h)

pub notes_tell_more : NotesTell
notes_tell_more new notes table pos up = (tells_more new notes table pos up, ascends_with new notes up)

pub at_itself : (n : Change) → at n n.table n.pos ≡ true
at_itself n = at_place n n.table n.pos refl refl

pub found : (n : Change) (ns : List Change) (table pos : ℕ) → at n table pos ≡ true → note_at (n ∷ ns) table pos ≡ Some (n.before, n.after)
found n ns table pos h = ap (λ (b : Bool). if b then Some (n.before, n.after) else note_at ns table pos) h

pub passed : (n : Change) (ns : List Change) (table pos : ℕ) → at n table pos ≡ false → note_at (n ∷ ns) table pos ≡ note_at ns table pos
passed n ns table pos h = ap (λ (b : Bool). if b then Some (n.before, n.after) else note_at ns table pos) h

-- a note before all of some is not told by them
not_among : (n : Change) (os : List Change) → AllByRecursion (λ later. note_cmp n later ≡ Less) os → note_at os n.table n.pos ≡ None
not_among n os all = none_behind n os n.table n.pos all (at_itself n)

made_of : (n o : Change) → n.table ≡ o.table → n.pos ≡ o.pos → n.before ≡ o.before → n.after ≡ o.after → n ≡ o
made_of n o t p b a = λ i. record { table = t i; pos = p i; before = b i; after = a i }

some_same : (p q : Cell × Cell) → ◌≡◌ {A = Option (Cell × Cell)} (Some p) (Some q) → p ≡ q
some_same p q e = cc

pub telling_is_one : TellingIsOne
telling_is_one [] [] up vp same = refl
telling_is_one [] (o ∷ os) up vp same = absurd (let f = sym (same o.table o.pos) ∙ refl in let g = sym (found o os o.table o.pos (at_itself o)) ∙ sym (same o.table o.pos) in cc)
telling_is_one (n ∷ ns) [] up vp same = absurd (let g = sym (found n ns n.table n.pos (at_itself n)) ∙ same n.table n.pos in cc)
telling_is_one (n ∷ ns) (o ∷ os) up vp same = step (note_cmp n o) refl (λ h. telling_is_one ns os up.1 vp.1 h)
  where
    step : (r : Ordering) → note_cmp n o ≡ r → (((table pos : ℕ) → note_at ns table pos ≡ note_at os table pos) → ns ≡ os) → n ∷ ns ≡ o ∷ os
    step Less e rest =
        let none : note_at (o ∷ os) n.table n.pos ≡ None = not_among n (o ∷ os) (e, all_less n o os e vp.0) in
        absurd (let g = sym (found n ns n.table n.pos (at_itself n)) ∙ (same n.table n.pos ∙ none) in cc)
    step Greater e rest =
        let less : note_cmp o n ≡ Less = notes_total.antisymm o n ∙ ap ordering_reverse e in
        let none : note_at (n ∷ ns) o.table o.pos ≡ None = not_among o (n ∷ ns) (less, all_less o n ns less up.0) in
        absurd (let g = sym (found o os o.table o.pos (at_itself o)) ∙ (sym (same o.table o.pos) ∙ none) in cc)
    step Equal e rest =
        let is = same_place n o.table o.pos e in
        let here : ◌≡◌ {A = Option (Cell × Cell)} (Some (n.before, n.after)) (Some (o.before, o.after)) =
        sym (found n ns n.table n.pos (at_itself n)) ∙ (same n.table n.pos ∙ found o os n.table n.pos (at_place o n.table n.pos (sym is.0) (sym is.1))) in
        let pair = some_same (n.before, n.after) (o.before, o.after) here in
        let first : n ≡ o = made_of n o is.0 is.1 (ap (λ (p : Cell × Cell). p.0) pair) (ap (λ (p : Cell × Cell). p.1) pair) in
        let later : ns ≡ os = rest (λ table pos. elim (cases_Bool (at n table pos)) [
          | inl h ↦ none_behind n ns table pos up.0 h ∙ sym (none_behind o os table pos vp.0 (sym (same_at n o table pos e) ∙ h))
          | inr h ↦ sym (passed n ns table pos h) ∙ (same table pos ∙ passed o os table pos (sym (same_at n o table pos e) ∙ h))
        ]) in
        ap (λ (x : Change). x ∷ ns) first ∙ ap (λ (xs : List Change). o ∷ xs) later
