-- Notes since stretches began, with one more.
use Rattle.std.proofs.Common.{◌≡◌, ℕ, zero, suc, ◌≤◌, Bool, true, false, List, [], ◌∷◌, ◌++◌, Option, None, Some, length, drop, map, option_map, refl, sym, ap, ◌∙◌, arith, append_assoc}
use Rattle.std.specs.Prelude.{if◌then◌else◌, ◌==◌, ◌&&◌}
use Rattle.std.specs.Option.{option_or, unwrap_or}
use Rattle.std.specs.List.{AllByRecursion}
use Rattle.std.specs.Ordering.{ordering_then, nat_cmp, ordering_reverse}
use Rattle.std.specs.declared.cmp.Ordering.{Ordering}
use Rattle.std.specs.declared.cmp.Ordering.TheVariants.{Less, Equal, Greater}
use Rattle.hy_value.specs.declared.change.Change.{Change}
use Rattle.hy_notes.specs.Notes.{Cell, order_of, Ascends, with_after, with_note, note_at, told_by}
use Rattle.hy_notes.specs.declared.blocks.Blocks.{Blocks}
use Rattle.hy_notes.specs.Blocks.{notes_in, AreBehind}
use Rattle.hy_notes.specs.Levels.{before_at, before_in, was_at, note_from, noted_since, first_told, AreCovered}
use Rattle.hy_notes.specs.Telling.{before_or}
use Rattle.hy_notes.proofs.Orders.{note_cmp, notes_total, same_place, at, at_place, apart_less, apart_more}
use Rattle.hy_notes.proofs.Adding.{by_order}
use Rattle.hy_notes.proofs.Placing.{all_behind, own_with}
use Rattle.hy_notes.proofs.Tells.{at_itself, notes_tell_more}
use Rattle.hy_notes.proofs.NoteAt.{none_behind_it}

pub or_none : (x : Option Cell) → option_or x None ≡ x
or_none None = refl
or_none (Some x) = refl

or_assoc : (x y z : Option Cell) → option_or x (option_or y z) ≡ option_or (option_or x y) z
or_assoc None y z = refl
or_assoc (Some x) y z = refl

told_or : (b : Bool) (before : Cell) (x y : Option Cell) → option_or x (if b then Some (unwrap_or y before) else y) ≡ (if b then Some (unwrap_or (option_or x y) before) else option_or x y)
told_or b before None y = refl
told_or true before (Some x) y = refl
told_or false before (Some x) y = refl

-- where a row is noted in the last stretch, all tell it
pub told_by_all : (olds : List (List Change)) (s more : List Change) (at_table at_pos : ℕ) (before : Cell) (table pos : ℕ)
    → before_at more table pos ≡ first_told at_table at_pos before table pos (before_at s table pos)
    → was_at (olds ++ more ∷ []) table pos ≡ first_told at_table at_pos before table pos (was_at (olds ++ s ∷ []) table pos)
told_by_all [] s more at_table at_pos before table pos h =
    or_none (before_at more table pos) ∙ (h ∙ ap (λ (x : Option Cell). first_told at_table at_pos before table pos x) (sym (or_none (before_at s table pos))))
told_by_all (o ∷ os) s more at_table at_pos before table pos h =
    ap (λ (x : Option Cell). option_or (before_at o table pos) x) (told_by_all os s more at_table at_pos before table pos h)
    ∙ told_or (at_table == table && at_pos == pos) before (before_at o table pos) (was_at (os ++ s ∷ []) table pos)

-- the stretches from one on
pub drop_stretches : (olds : List Blocks) (last : List Change) (k : ℕ) → k ≤ length olds → drop k (map notes_in olds ++ last ∷ []) ≡ map notes_in (drop k olds) ++ last ∷ []
drop_stretches olds last zero l = refl
drop_stretches [] last (suc k) l = absurd (omega (arith, l))
drop_stretches (o ∷ os) last (suc k) l = drop_stretches os last k (omega (arith, l))

told_one : (b : Bool) (before after : Cell) (was : Option (Cell × Cell))
    → option_map (λ (pair : Cell × Cell). pair.0) (if b then Some (before_or before was, after) else was)
    ≡ (if b then Some (unwrap_or (option_map (λ (pair : Cell × Cell). pair.0) was) before) else option_map (λ (pair : Cell × Cell). pair.0) was)
told_one true before after None = refl
told_one true before after (Some pair) = refl
told_one false before after was = refl

-- a note tells its row before where nothing was told
pub told_first : (new : Change) (notes : List Change) → Ascends notes → (table pos : ℕ)
    → before_at (with_note new notes) table pos ≡ first_told new.table new.pos new.before table pos (before_at notes table pos)
told_first new notes up table pos =
    ap (λ (told : Option (Cell × Cell)). option_map (λ (pair : Cell × Cell). pair.0) told) (notes_tell_more new notes table pos up).0
    ∙ told_one (at new table pos) new.before new.after (note_at notes table pos)

-- what the stretches from one on tell, by those but the newest
pub was_from : (olds : List Blocks) (last : List Change) (k table pos : ℕ) → k ≤ length olds
    → was_at (drop k (map notes_in olds ++ last ∷ [])) table pos ≡ option_or (was_at (map notes_in (drop k olds)) table pos) (before_at last table pos)
was_from olds last k table pos l =
    ap (λ (ss : List (List Change)). was_at ss table pos) (drop_stretches olds last k l) ∙ was_last (map notes_in (drop k olds))
  where
    was_last : (ss : List (List Change)) → was_at (ss ++ last ∷ []) table pos ≡ option_or (was_at ss table pos) (before_at last table pos)
    was_last [] = or_none (before_at last table pos)
    was_last (s ∷ ss) =
        ap (λ (x : Option Cell). option_or (before_at s table pos) x) (was_last ss) ∙ or_assoc (before_at s table pos) (was_at ss table pos) (before_at last table pos)

pub before_told : (note : Option Change) → before_in note ≡ option_map (λ (pair : Cell × Cell). pair.0) (option_map told_by note)
before_told None = refl
before_told (Some n) = refl

-- where it is noted in the newest stretch, it is told from each on
pub told_from : (olds : List Blocks) (s more : List Change) (at_table at_pos : ℕ) (before : Cell)
    → ((table pos : ℕ) → before_at more table pos ≡ first_told at_table at_pos before table pos (before_at s table pos))
    → (k table pos : ℕ) → k ≤ length olds → was_at (drop k (map notes_in olds ++ more ∷ [])) table pos
    ≡ first_told at_table at_pos before table pos (was_at (drop k (map notes_in olds ++ s ∷ [])) table pos)
told_from olds s more at_table at_pos before told k table pos l =
    ap (λ (ss : List (List Change)). was_at ss table pos) (drop_stretches olds more k l)
    ∙ (told_by_all (map notes_in (drop k olds)) s more at_table at_pos before table pos (told table pos)
    ∙ ap (λ (ss : List (List Change)). first_told at_table at_pos before table pos (was_at ss table pos)) (sym (drop_stretches olds s k l)))

or_is_none : (x y : Option Cell) → option_or x y ≡ None → y ≡ None
or_is_none None y h = h
or_is_none (Some x) y h = absurd (let f = h in cc)

pub none_dropped : (stretches : List (List Change)) (k table pos : ℕ) → was_at stretches table pos ≡ None → was_at (drop k stretches) table pos ≡ None
none_dropped stretches zero table pos h = h
none_dropped [] (suc k) table pos h = refl
none_dropped (s ∷ ss) (suc k) table pos h = none_dropped ss k table pos (or_is_none (before_at s table pos) (was_at ss table pos) h)

-- what holds of notes, whatever row was before, holds of those since
pub since_all : (P : Change → Type 0) (stretches : List (List Change)) (ns : List Change) → ((n : Change) (before : Cell) → P n → P (record n { before = before }))
    → AllByRecursion P ns → AllByRecursion P (noted_since stretches ns)
since_all P stretches [] any all = tt
since_all P stretches (n ∷ ns) any all = step (was_at stretches n.table n.pos) (since_all P stretches ns any all.1)
  where
    step : (w : Option Cell) → AllByRecursion P (noted_since stretches ns) → AllByRecursion P (note_from w n ++ noted_since stretches ns)
    step None rest = rest
    step (Some before) rest = (any n before all.0, rest)

pub since_behind : (stretches : List (List Change)) (ns : List Change) (table pos : ℕ) → AreBehind table pos ns → AreBehind table pos (noted_since stretches ns)
since_behind stretches ns table pos all = since_all (λ note. order_of note table pos ≡ Greater) stretches ns (λ n before h. h) all

pub since_append : (stretches : List (List Change)) (xs ys : List Change) → noted_since stretches (xs ++ ys) ≡ noted_since stretches xs ++ noted_since stretches ys
since_append stretches [] ys = refl
since_append stretches (x ∷ xs) ys =
    ap (λ (ns : List Change). note_from (was_at stretches x.table x.pos) x ++ ns) (since_append stretches xs ys)
    ∙ sym (append_assoc (note_from (was_at stretches x.table x.pos) x) (noted_since stretches xs) (noted_since stretches ys))

-- stretches that tell the same have the same notes since
pub since_same : (stretches others : List (List Change)) (ns : List Change) → AllByRecursion (λ n. was_at others n.table n.pos ≡ was_at stretches n.table n.pos) ns
    → noted_since others ns ≡ noted_since stretches ns
since_same stretches others [] all = refl
since_same stretches others (n ∷ ns) all = ap (λ (p : Option Cell × List Change). note_from p.0 n ++ p.1) (λ i. (all.0 i, since_same stretches others ns all.1 i))

front_less : (new n : Change) (w : Option Cell) (rest : List Change) → order_of n new.table new.pos ≡ Less → with_note new (note_from w n ++ rest) ≡ note_from w n ++ with_note new rest
front_less new n None rest e = refl
front_less new n (Some before) rest e =
    let m : Change = record n { before = before } in
    ap (λ (o : Ordering). by_order o (m ∷ with_note new rest) (with_after m new.after ∷ rest) (new ∷ m ∷ rest)) e

same_made : (n new : Change) → order_of n new.table new.pos ≡ Equal → record n { before = new.before; after = new.after } ≡ new
same_made n new e = let is = same_place n new.table new.pos e in λ i. record new { table = is.0 i; pos = is.1 i }

front_same : (new n : Change) (w : Option Cell) (rest : List Change) → order_of n new.table new.pos ≡ Equal → AreBehind new.table new.pos rest
    → note_from (Some (unwrap_or w new.before)) (with_after n new.after) ++ rest ≡ with_note new (note_from w n ++ rest)
front_same new n None rest e behind = ap (λ (m : Change). m ∷ rest) (same_made n new e) ∙ sym (own_with new [] rest behind)
front_same new n (Some before) rest e behind =
    let m : Change = record n { before = before } in
    sym (ap (λ (o : Ordering). by_order o (m ∷ with_note new rest) (with_after m new.after ∷ rest) (new ∷ m ∷ rest)) e)

-- notes behind one are behind another of the same position
behind_same : (n new : Change) (ns : List Change) → order_of n new.table new.pos ≡ Equal → AllByRecursion (λ later. note_cmp n later ≡ Less) ns → AreBehind new.table new.pos ns
behind_same n new [] e all = tt
behind_same n new (y ∷ ys) e all =
    let is = same_place n new.table new.pos e in
    let less : note_cmp new y ≡ Less = ap (λ (p : ℕ × ℕ). ordering_then (nat_cmp p.0 y.table) (nat_cmp p.1 y.pos)) (λ i. (sym is.0 i, sym is.1 i)) ∙ all.0 in
    (notes_total.antisymm y new ∙ ap ordering_reverse less, behind_same n new ys e all.1)

-- stretches with one more row noted
module _ (stretches others : List (List Change)) (new : Change)
    (told : (table pos : ℕ) → was_at others table pos ≡ first_told new.table new.pos new.before table pos (was_at stretches table pos)) where
  was_else : (table pos : ℕ) → at new table pos ≡ false → was_at others table pos ≡ was_at stretches table pos
  was_else table pos h =
      told table pos ∙ ap (λ (b : Bool). if b then Some (unwrap_or (was_at stretches table pos) new.before) else was_at stretches table pos) h

  was_here : (table pos : ℕ) → at new table pos ≡ true → was_at others table pos ≡ Some (unwrap_or (was_at stretches table pos) new.before)
  was_here table pos h =
      told table pos ∙ ap (λ (b : Bool). if b then Some (unwrap_or (was_at stretches table pos) new.before) else was_at stretches table pos) h

  behind_else : (ns : List Change) → AreBehind new.table new.pos ns → AllByRecursion (λ n. was_at others n.table n.pos ≡ was_at stretches n.table n.pos) ns
  behind_else [] all = tt
  behind_else (n ∷ ns) all =
      let less : note_cmp new n ≡ Less = notes_total.antisymm new n ∙ ap ordering_reverse all.0 in
      (was_else n.table n.pos (apart_more new n n.table n.pos less (at_itself n)), behind_else ns all.1)

  new_alone : (w : Option Cell) → was_at stretches new.table new.pos ≡ None → was_at others new.table new.pos ≡ Some new.before
  new_alone w none = was_here new.table new.pos (at_itself new) ∙ ap (λ (x : Option Cell). Some (unwrap_or x new.before)) none

  pub since_with : (ns : List Change) → Ascends ns → (note_at ns new.table new.pos ≡ None → was_at stretches new.table new.pos ≡ None)
      → noted_since others (with_note new ns) ≡ with_note new (noted_since stretches ns)
  since_with [] up covered = ap (λ (w : Option Cell). note_from w new ++ []) (new_alone None (covered refl))
  since_with (n ∷ ns) up covered = step (order_of n new.table new.pos) refl (since_with ns up.1)
    where
      step : (o : Ordering) → order_of n new.table new.pos ≡ o
          → ((note_at ns new.table new.pos ≡ None → was_at stretches new.table new.pos ≡ None) → noted_since others (with_note new ns) ≡ with_note new (noted_since stretches ns))
          → noted_since others (with_note new (n ∷ ns)) ≡ with_note new (noted_since stretches (n ∷ ns))
      step Less e rest =
          let apart : at n new.table new.pos ≡ false = apart_more n new new.table new.pos e (at_itself new) in
          let here : was_at others n.table n.pos ≡ was_at stretches n.table n.pos = was_else n.table n.pos (apart_less n new n.table n.pos e (at_itself n)) in
          let more = rest (λ none. covered (ap (λ (b : Bool). if b then Some (n.before, n.after) else note_at ns new.table new.pos) apart ∙ none)) in
          ap (λ (o : Ordering). noted_since others (by_order o (n ∷ with_note new ns) (with_after n new.after ∷ ns) (new ∷ n ∷ ns))) e
          ∙ (ap (λ (p : Option Cell × List Change). note_from p.0 n ++ p.1) (λ i. (here i, more i))
          ∙ sym (front_less new n (was_at stretches n.table n.pos) (noted_since stretches ns) e))
      step Equal e rest =
          let is = same_place n new.table new.pos e in
          let here = was_here n.table n.pos (at_place new n.table n.pos (sym is.0) (sym is.1)) in
          let behind = behind_same n new ns e up.0 in
          ap (λ (o : Ordering). noted_since others (by_order o (n ∷ with_note new ns) (with_after n new.after ∷ ns) (new ∷ n ∷ ns))) e
          ∙ (ap (λ (p : Option Cell × List Change). note_from p.0 (with_after n new.after) ++ p.1) (λ i. (here i, since_same stretches others ns (behind_else ns behind) i))
          ∙ front_same new n (was_at stretches n.table n.pos) (noted_since stretches ns) e (since_behind stretches ns new.table new.pos behind))
      step Greater e rest =
          let behind : AreBehind new.table new.pos (n ∷ ns) = (e, all_behind n ns new.table new.pos e up.0) in
          let here = new_alone None (covered (none_behind_it (n ∷ ns) new.table new.pos behind)) in
          ap (λ (o : Ordering). noted_since others (by_order o (n ∷ with_note new ns) (with_after n new.after ∷ ns) (new ∷ n ∷ ns))) e
          ∙ (ap (λ (p : Option Cell × List Change). note_from p.0 new ++ p.1) (λ i. (here i, since_same stretches others (n ∷ ns) (behind_else (n ∷ ns) behind) i))
          ∙ sym (own_with new [] (noted_since stretches (n ∷ ns)) (since_behind stretches (n ∷ ns) new.table new.pos behind)))

told_none : (b : Bool) (was : Option (Cell × Cell)) (pair : Cell × Cell) → (if b then Some pair else was) ≡ None → (b ≡ false) × (was ≡ None)
told_none true was pair h = absurd (let f = h in cc)
told_none false was pair h = (refl, h)

-- what was noted before one more note was noted
pub none_before_more : (new : Change) (notes : List Change) (table pos : ℕ) → Ascends notes → note_at (with_note new notes) table pos ≡ None
    → (at new table pos ≡ false) × (note_at notes table pos ≡ None)
none_before_more new notes table pos up none =
    told_none (at new table pos) (note_at notes table pos) (before_or new.before (note_at notes table pos), new.after) (sym (notes_tell_more new notes table pos up).0 ∙ none)

pub covered_still : (stretches : List (List Change)) (new : Change) (notes : List Change) → Ascends notes → AreCovered stretches notes → AreCovered stretches (with_note new notes)
covered_still stretches new notes up covered = λ table pos none. covered table pos (none_before_more new notes table pos up none).1

pub covered_more : (stretches others : List (List Change)) (new : Change) (notes : List Change) → Ascends notes → AreCovered stretches notes
    → ((table pos : ℕ) → was_at others table pos ≡ first_told new.table new.pos new.before table pos (was_at stretches table pos)) → AreCovered others (with_note new notes)
covered_more stretches others new notes up covered told = λ table pos none.
    let was = none_before_more new notes table pos up none in
    was_else stretches others new told table pos was.0 ∙ covered table pos was.1

-- each level with one more note
pub levels_with : (stretches others : List (List Change)) (begins : List ℕ) (most : ℕ) (new : Change) (notes : List Change) → Ascends notes → AreCovered stretches notes
    → AllByRecursion (λ begin. begin ≤ most) begins
    → ((begin table pos : ℕ) → begin ≤ most → was_at (drop begin others) table pos ≡ first_told new.table new.pos new.before table pos (was_at (drop begin stretches) table pos))
    → map (λ begin. noted_since (drop begin others) (with_note new notes)) begins ≡ map (with_note new) (map (λ begin. noted_since (drop begin stretches) notes) begins)
levels_with stretches others [] most new notes up covered all told = refl
levels_with stretches others (k ∷ ks) most new notes up covered all told =
    let first = since_with (drop k stretches) (drop k others) new (λ table pos. told k table pos all.0) notes up
    (λ none. none_dropped stretches k new.table new.pos (covered new.table new.pos none)) in
    ap (λ (p : List Change × List (List Change)). p.0 ∷ p.1) (λ i. (first i, levels_with stretches others ks most new notes up covered all.1 told i))
