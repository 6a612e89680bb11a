-- What a transaction came to is read off the front of a text.
use Rattle.std.proofs.Common.{◌≡◌, ◌≢◌, ℕ, zero, suc, ◌+◌, ◌<◌, ◌≤◌, List, [], ◌∷◌, ◌++◌, length, refl, ap, sym, ◌∙◌, arith, inl, inr, ne_eqb}
use Rattle.std.proofs.lemmas.List.{append_assoc, append_cancel_left}
use Rattle.std.proofs.lemmas.List.Elements.{All-head, All-tail}
use Rattle.std.specs.Fmt.{decimal}
use Rattle.std.specs.Prelude.{codes, if◌then◌else◌}
use Rattle.std.specs.List.{All, flat_map}
use Rattle.hy_stamp.specs.declared.Label.{Label}
use Rattle.hy_render.specs.declared.Names.{Names}
use Rattle.hy_render.specs.declared.TxnOutcome.{TxnOutcome}
use Rattle.hy_render.specs.Named.{AreTelling, IsNamedLabel, IsNamedPlace, IsNamedTxn, IsPrinted}
use Rattle.hy_render.specs.Report.{line, word, table_name, label_name, place_name, reply_text, ending_text, wrote_line, placed_line, placed_lines, start_line, txn_text}
use Rattle.hy_render.proofs.Reading.{Reads, AnyText, byte, behind_first, reads_list}
use Rattle.hy_render.proofs.Replies.{reads_count, reads_replies}
use Rattle.hy_render.proofs.Endings.{reads_ending, ends_replies}
use Rattle.hy_render.proofs.Labels.{reads_table, reads_place, reads_label}

-- what follows begins no line of a transaction's but the first
pub record EndsTxn (x : List ℕ) : Type 0 where
  pub no_wrote : byte 0 x ≢ 119
  pub no_placed : byte 0 x ≢ 112

module _ (names : Names) (tell : AreTelling names) where
  -- the first line of a transaction is read
  reads_start : (k l : Label) (m n : ℕ) (x y : List ℕ) → IsNamedLabel names k → IsNamedLabel names l → IsPrinted m → IsPrinted n
      → start_line names k m ++ x ≡ start_line names l n ++ y → (k ≡ l) × (m ≡ n) × (x ≡ y)
  reads_start k l m n x y i j p q e =
      let whole : codes "txn " ++ (label_name names k ++ (codes " start " ++ (decimal m ++ 10 ∷ x)))
      ≡ codes "txn " ++ (label_name names l ++ (codes " start " ++ (decimal n ++ 10 ∷ y))) = simp append_assoc (simp append_assoc at e) in
      let label = reads_label names tell k l _ _ i j (inr (inl refl)) (inr (inl refl)) (append_cancel_left (codes "txn ") _ _ whole) in
      let start = reads_count m n x y p q (append_cancel_left (codes " start ") _ _ label.1) in
      (label.0, start.0, start.1)

  -- positions are read where no further one follows
  reads_wrote : Reads (All (λ place. IsNamedPlace names place.table place.pos)) (λ x. byte 0 x ≢ 119) (flat_map (wrote_line names))
  reads_wrote = reads_list (λ place. IsNamedPlace names place.table place.pos) AnyText (λ x. byte 0 x ≢ 119) (wrote_line names) reads_one
      (λ place x. tt) (λ x h. tt) (λ x h place z e. h (ap (byte 0) e))
    where
      reads_one : Reads (λ place. IsNamedPlace names place.table place.pos) AnyText (wrote_line names)
      reads_one p q x y k l h i e =
          let whole : codes "wrote " ++ (place_name names p.table p.pos ++ 10 ∷ x)
          ≡ codes "wrote " ++ (place_name names q.table q.pos ++ 10 ∷ y) = simp append_assoc (simp append_assoc at e) in
          let place = reads_place names tell p q _ _ k l (inl refl) (inl refl) (append_cancel_left (codes "wrote ") _ _ whole) in
          (place.0, behind_first 10 10 x y place.1)

  -- the lines of the tables from one on that has inserts
  placed_text : ℕ → ℕ → List ℕ → List ℕ → List ℕ
  placed_text table count counts x = codes "placed " ++ (table_name names table ++ 32 ∷ (decimal count ++ 10 ∷ (placed_lines names (suc table) counts ++ x)))

  -- a count that isn't 0 has a line
  placed_some : (table m : ℕ) (ms x : List ℕ) → placed_lines names table (suc m ∷ ms) ++ x ≡ placed_text table (suc m) ms x
  unfolding placed_text
  placed_some table m ms x =
      let has_line : placed_line names table (suc m) ≡ line (codes "placed " ++ word (table_name names table) ++ decimal (suc m)) =
      ap (λ test. if test then [] else line (codes "placed " ++ word (table_name names table) ++ decimal (suc m))) (ne_eqb (suc m) 0 (λ e. omega arith)) in
      ap (λ first. (first ++ placed_lines names (suc table) ms) ++ x) has_line ∙ simp append_assoc

  -- the lines of the tables behind one begin with no line of it
  not_placed : (table other : ℕ) (ms x z : List ℕ) → table < other → other + length ms ≤ length names.tables → byte 0 x ≢ 112
      → placed_lines names other ms ++ x ≡ codes "placed " ++ (table_name names table ++ 32 ∷ z) → ⊥
  unfolding placed_text
  not_placed table other [] x z behind all h e = h (ap (byte 0) e)
  not_placed table other (zero ∷ ms) x z behind all h e = not_placed table (suc other) ms x z (omega arith) (omega arith) h e
  not_placed table other (suc m ∷ ms) x z behind all h e =
      let read = reads_table names tell other table _ _ (omega arith) (omega arith) (inr refl) (inr refl)
      (append_cancel_left (codes "placed ") _ _ (sym (placed_some other m ms x) ∙ e)) in
      omega (arith, read.0)

  -- counts, one for each table from here on, are read though those of 0 have no line
  reads_placed : (table : ℕ) (ms ns x y : List ℕ) → length ms ≡ length ns → table + length ms ≤ length names.tables → All IsPrinted ms → All IsPrinted ns
      → byte 0 x ≢ 112 → byte 0 y ≢ 112
      → placed_lines names table ms ++ x ≡ placed_lines names table ns ++ y → (ms ≡ ns) × (x ≡ y)
  unfolding placed_text
  reads_placed table [] [] x y same all k l h i e = (refl, e)
  reads_placed table [] (n ∷ ns) x y same all k l h i e = absurd (omega arith)
  reads_placed table (m ∷ ms) [] x y same all k l h i e = absurd (omega arith)
  reads_placed table (zero ∷ ms) (zero ∷ ns) x y same all k l h i e =
      let rest = reads_placed (suc table) ms ns x y (omega arith) (omega arith) (All-tail IsPrinted zero ms k) (All-tail IsPrinted zero ns l) h i e in
      ((λ j. zero ∷ rest.0 j), rest.1)
  reads_placed table (zero ∷ ms) (suc n ∷ ns) x y same all k l h i e =
      absurd (not_placed table (suc table) ms x (decimal (suc n) ++ 10 ∷ (placed_lines names (suc table) ns ++ y)) (omega arith) (omega arith) h (e ∙ placed_some table n ns y))
  reads_placed table (suc m ∷ ms) (zero ∷ ns) x y same all k l h i e =
      absurd (not_placed table (suc table) ns y (decimal (suc m) ++ 10 ∷ (placed_lines names (suc table) ms ++ x)) (omega arith) (omega arith) i (sym e ∙ placed_some table m ms x))
  reads_placed table (suc m ∷ ms) (suc n ∷ ns) x y same all k l h i e =
      let whole = sym (placed_some table m ms x) ∙ (e ∙ placed_some table n ns y) in
      let count = reads_count (suc m) (suc n) _ _ (All-head IsPrinted (suc m) ms k) (All-head IsPrinted (suc n) ns l)
      (behind_first 32 32 _ _ (append_cancel_left (table_name names table) _ _ (append_cancel_left (codes "placed ") _ _ whole))) in
      let rest = reads_placed (suc table) ms ns x y (omega arith) (omega arith) (All-tail IsPrinted (suc m) ms k) (All-tail IsPrinted (suc n) ns l) h i count.1 in
      ((λ j. count.0 j ∷ rest.0 j), rest.1)

  -- counts begin no line of a position
  placed_no_wrote : (table : ℕ) (ms x : List ℕ) → byte 0 x ≢ 119 → byte 0 (placed_lines names table ms ++ x) ≢ 119
  unfolding placed_text
  placed_no_wrote table [] x h = h
  placed_no_wrote table (zero ∷ ms) x h = placed_no_wrote (suc table) ms x h
  placed_no_wrote table (suc m ∷ ms) x h = omega (arith, ap (byte 0) (placed_some table m ms x))

  -- transactions that came to the same are the same
  same_txn : (r s : TxnOutcome) → r.label ≡ s.label → r.start ≡ s.start → r.replies ≡ s.replies → r.ending ≡ s.ending → r.wrote ≡ s.wrote → r.placed ≡ s.placed
      → r ≡ s
  same_txn r s a b c d f g = λ j. record { label = a j; start = b j; replies = c j; ending = d j; wrote = f j; placed = g j }

  -- a transaction is read where the next one, or the order, follows
  pub reads_txn : Reads (IsNamedTxn names) EndsTxn (txn_text names)
  reads_txn r s x y k l h i e =
      let whole : start_line names r.label r.start ++ (flat_map reply_text r.replies ++ (line (ending_text names r.ending) ++ (flat_map (wrote_line names) r.wrote ++ (placed_lines names 0 r.placed ++ x))))
      ≡ start_line names s.label s.start ++ (flat_map reply_text s.replies ++ (line (ending_text names s.ending) ++ (flat_map (wrote_line names) s.wrote ++ (placed_lines names 0 s.placed ++ y)))) =
      simp append_assoc (simp append_assoc at e) in
      let start = reads_start r.label s.label r.start s.start _ _ k.label l.label k.start l.start whole in
      let replies = reads_replies r.replies s.replies _ _ k.replies l.replies (ends_replies names tell r.ending _) (ends_replies names tell s.ending _) start.2 in
      let ending = reads_ending names tell r.ending s.ending _ _ k.ending l.ending tt tt replies.1 in
      let wrote = reads_wrote r.wrote s.wrote _ _ k.wrote l.wrote (placed_no_wrote 0 r.placed x h.no_wrote) (placed_no_wrote 0 s.placed y i.no_wrote) ending.1 in
      let placed = reads_placed 0 r.placed s.placed x y (k.each_table ∙ sym l.each_table) (omega (arith, k.each_table)) k.placed l.placed h.no_placed i.no_placed wrote.1 in
      (same_txn r s start.0 start.1 replies.0 ending.0 wrote.0 placed.0, placed.1)

  -- transactions are read where the order follows
  pub reads_txns : Reads (All (IsNamedTxn names)) (λ x. byte 0 x ≡ 111) (flat_map (txn_text names))
  reads_txns = reads_list (IsNamedTxn names) EndsTxn (λ x. byte 0 x ≡ 111) (txn_text names) reads_txn (λ txn x. omega arith) (λ x h. omega arith) (λ x h txn z e. omega (arith, ap (byte 0) e))
