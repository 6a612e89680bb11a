-- One more note among others.
use Rattle.std.proofs.Common.{◌≡◌, ℕ, ◌<◌, false, List, [], ◌∷◌, length, get_or, refl, sym, ap, ◌∙◌, arith, subst}
use Rattle.std.specs.Prelude.{if◌then◌else◌}
use Rattle.std.specs.List.{prefix_len, AllByRecursion, insert}
use Rattle.std.specs.Ordering.{is_lt, is_eq, ordering_reverse}
use Rattle.std.specs.declared.cmp.Ordering.{Ordering}
use Rattle.std.specs.declared.cmp.Ordering.TheVariants.{Less, Equal, Greater}
use Rattle.std.proofs.Math.ListN.{set}
use Rattle.hy_value.specs.declared.change.Change.{Change}
use Rattle.hy_notes.specs.Notes.{order_of, Ascends, below, with_after, with_note}
use Rattle.hy_notes.proofs.Orders.{note_cmp, notes_total}
use Rattle.hy_notes.proofs.Prefixes.{passes, fails}

-- one of three, by how a note stands to the new one
abbrev pub by_order : Ordering → List Change → List Change → List Change → List Change
by_order o less same more = if is_lt o then less else if is_eq o then same else more

-- where the position is noted, its note has the new row after it
pub noted : (new : Change) (notes : List Change) (d : Change) → prefix_len (below new.table new.pos) notes < length notes
    → order_of (get_or notes (prefix_len (below new.table new.pos) notes) d) new.table new.pos ≡ Equal
    → set notes (prefix_len (below new.table new.pos) notes) (with_after (get_or notes (prefix_len (below new.table new.pos) notes) d) new.after) ≡ with_note new notes
noted new [] d l is = absurd (omega arith)
noted new (n ∷ ns) d l is = step (order_of n new.table new.pos) refl (λ m e. noted new ns d m e) l is
  where
    step : (o : Ordering) → order_of n new.table new.pos ≡ o
        → (prefix_len (below new.table new.pos) ns < length ns → order_of (get_or ns (prefix_len (below new.table new.pos) ns) d) new.table new.pos ≡ Equal
        → set ns (prefix_len (below new.table new.pos) ns) (with_after (get_or ns (prefix_len (below new.table new.pos) ns) d) new.after) ≡ with_note new ns)
        → prefix_len (below new.table new.pos) (n ∷ ns) < length (n ∷ ns) → order_of (get_or (n ∷ ns) (prefix_len (below new.table new.pos) (n ∷ ns)) d) new.table new.pos ≡ Equal
        → set (n ∷ ns) (prefix_len (below new.table new.pos) (n ∷ ns)) (with_after (get_or (n ∷ ns) (prefix_len (below new.table new.pos) (n ∷ ns)) d) new.after) ≡ with_note new (n ∷ ns)
    step Less e rest l is =
        let k = passes (below new.table new.pos) n ns (ap is_lt e) in
        ap (λ (j : ℕ). set (n ∷ ns) j (with_after (get_or (n ∷ ns) j d) new.after)) k
        ∙ (ap (λ (xs : List Change). n ∷ xs) (rest (omega (arith, l, k)) (ap (λ (j : ℕ). order_of (get_or (n ∷ ns) j d) new.table new.pos) (sym k) ∙ is))
        ∙ sym (ap (λ (o : Ordering). by_order o (n ∷ with_note new ns) (with_after n new.after ∷ ns) (new ∷ n ∷ ns)) e))
    step Equal e rest l is =
        let k = fails (below new.table new.pos) n ns (ap is_lt e) in
        ap (λ (j : ℕ). set (n ∷ ns) j (with_after (get_or (n ∷ ns) j d) new.after)) k
        ∙ sym (ap (λ (o : Ordering). by_order o (n ∷ with_note new ns) (with_after n new.after ∷ ns) (new ∷ n ∷ ns)) e)
    step Greater e rest l is =
        let k = fails (below new.table new.pos) n ns (ap is_lt e) in
        absurd (let f = sym (ap (λ (j : ℕ). order_of (get_or (n ∷ ns) j d) new.table new.pos) k) ∙ is in let g = e in cc)

-- where it is not, the new note is put there
pub absent : (new : Change) (notes : List Change) (d : Change)
    → (prefix_len (below new.table new.pos) notes < length notes → is_eq (order_of (get_or notes (prefix_len (below new.table new.pos) notes) d) new.table new.pos) ≡ false)
    → insert notes (prefix_len (below new.table new.pos) notes) new ≡ with_note new notes
absent new [] d not = refl
absent new (n ∷ ns) d not = step (order_of n new.table new.pos) refl (λ other. absent new ns d other) not
  where
    step : (o : Ordering) → order_of n new.table new.pos ≡ o
        → ((prefix_len (below new.table new.pos) ns < length ns → is_eq (order_of (get_or ns (prefix_len (below new.table new.pos) ns) d) new.table new.pos) ≡ false)
        → insert ns (prefix_len (below new.table new.pos) ns) new ≡ with_note new ns)
        → (prefix_len (below new.table new.pos) (n ∷ ns) < length (n ∷ ns) → is_eq (order_of (get_or (n ∷ ns) (prefix_len (below new.table new.pos) (n ∷ ns)) d) new.table new.pos) ≡ false)
        → insert (n ∷ ns) (prefix_len (below new.table new.pos) (n ∷ ns)) new ≡ with_note new (n ∷ ns)
    step Less e rest not =
        let k = passes (below new.table new.pos) n ns (ap is_lt e) in
        ap (λ (j : ℕ). insert (n ∷ ns) j new) k
        ∙ (ap (λ (xs : List Change). n ∷ xs) (rest (λ l. ap (λ (j : ℕ). is_eq (order_of (get_or (n ∷ ns) j d) new.table new.pos)) (sym k) ∙ not (omega (arith, l, k))))
        ∙ sym (ap (λ (o : Ordering). by_order o (n ∷ with_note new ns) (with_after n new.after ∷ ns) (new ∷ n ∷ ns)) e))
    step Equal e rest not =
        let k = fails (below new.table new.pos) n ns (ap is_lt e) in
        absurd (let f = ap is_eq e in let g = ap (λ (j : ℕ). is_eq (order_of (get_or (n ∷ ns) j d) new.table new.pos)) (sym k) ∙ not (omega (arith, k)) in cc)
    step Greater e rest not =
        let k = fails (below new.table new.pos) n ns (ap is_lt e) in
        ap (λ (j : ℕ). insert (n ∷ ns) j new) k
        ∙ sym (ap (λ (o : Ordering). by_order o (n ∷ with_note new ns) (with_after n new.after ∷ ns) (new ∷ n ∷ ns)) e)

all_with : (x new : Change) (xs : List Change) → note_cmp x new ≡ Less → AllByRecursion (λ later. note_cmp x later ≡ Less) xs → AllByRecursion (λ later. note_cmp x later ≡ Less) (with_note new xs)
all_with x new [] less all = (less, tt)
all_with x new (y ∷ ys) less all =
    elim (order_of y new.table new.pos) as (λ (o : Ordering). AllByRecursion (λ later. note_cmp x later ≡ Less) (by_order o (y ∷ with_note new ys) (with_after y new.after ∷ ys) (new ∷ y ∷ ys))) [
      | Less ↦ (all.0, all_with x new ys less all.1)
      | Equal ↦ (all.0, all.1)
      | Greater ↦ (less, (all.0, all.1))
    ]

pub all_less : (x y : Change) (xs : List Change) → note_cmp x y ≡ Less → AllByRecursion (λ later. note_cmp y later ≡ Less) xs → AllByRecursion (λ later. note_cmp x later ≡ Less) xs
all_less x y [] less all = tt
all_less x y (z ∷ zs) less all = (notes_total.trans x y z less all.0, all_less x y zs less all.1)

-- notes ascend with one more
pub ascends_with : (new : Change) (notes : List Change) → Ascends notes → Ascends (with_note new notes)
ascends_with new [] up = (tt, tt)
ascends_with new (n ∷ ns) up = step (order_of n new.table new.pos) refl (ascends_with new ns up.1)
  where
    step : (o : Ordering) → order_of n new.table new.pos ≡ o → Ascends (with_note new ns) → Ascends (with_note new (n ∷ ns))
    step Less e rest =
        subst (λ (o : Ordering). Ascends (by_order o (n ∷ with_note new ns) (with_after n new.after ∷ ns) (new ∷ n ∷ ns))) (sym e) (all_with n new ns e up.0, rest)
    step Equal e rest =
        subst (λ (o : Ordering). Ascends (by_order o (n ∷ with_note new ns) (with_after n new.after ∷ ns) (new ∷ n ∷ ns))) (sym e) (up.0, up.1)
    step Greater e rest =
        let less : note_cmp new n ≡ Less = notes_total.antisymm new n ∙ ap ordering_reverse e in
        subst (λ (o : Ordering). Ascends (by_order o (n ∷ with_note new ns) (with_after n new.after ∷ ns) (new ∷ n ∷ ns))) (sym e) ((less, all_less new n ns less up.0), (up.0, up.1))

-- what the code does, by what it knows of an index in a copy of the notes
module _ (new : Change) (notes first second : List Change) (at : ℕ) (e : first ≡ notes) (f : second ≡ notes) (count : at ≡ prefix_len (below new.table new.pos) first) where
  here : at ≡ prefix_len (below new.table new.pos) notes
  here = count ∙ ap (prefix_len (below new.table new.pos)) e

  pub put_noted : at < length second → ((d : Change) → order_of (get_or second at d) new.table new.pos ≡ Equal) → set notes at (with_after (get_or notes at new) new.after) ≡ with_note new notes
  put_noted within same =
      ap (λ (k : ℕ). set notes k (with_after (get_or notes k new) new.after)) here
      ∙ noted new notes new (omega (arith, within, here, ap length f))
      (ap (λ (k : ℕ). order_of (get_or notes k new) new.table new.pos) (sym here) ∙ (ap (λ (xs : List Change). order_of (get_or xs at new) new.table new.pos) (sym f) ∙ same new))

  pub put_absent : (at < length second → (d : Change) → is_eq (order_of (get_or second at d) new.table new.pos) ≡ false) → insert notes at new ≡ with_note new notes
  put_absent other =
      ap (λ (k : ℕ). insert notes k new) here
      ∙ absent new notes new (λ l.
      ap (λ (k : ℕ). is_eq (order_of (get_or notes k new) new.table new.pos)) (sym here)
      ∙ (ap (λ (xs : List Change). is_eq (order_of (get_or xs at new) new.table new.pos)) (sym f) ∙ other (omega (arith, l, here, ap length f)) new))
