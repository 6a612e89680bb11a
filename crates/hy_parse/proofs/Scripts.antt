-- What parsing says of the bytes of a script.
use Rattle.std.proofs.Common.{◌≡◌, ℕ, ◌<◌, ◌≤◌, List, [], ◌∷◌, ◌++◌, length, Result, Ok, Err, ◌⊎◌, inl, inr, refl, sym, ap, subst, ◌∙◌, append_assoc, arith}
use Rattle.std.specs.List.{AllByRecursion}
use Rattle.std.proofs.lemmas.List.{append-nil, length-append}
use Rattle.hy_ast.specs.Trees.{Statement}
use Rattle.hy_parse.specs.declared.Piece.{Piece}
use Rattle.hy_parse.specs.declared.Ending.{Ending}
use Rattle.hy_parse.specs.declared.Ending.TheVariants.{Closed, Cut, Bad}
use Rattle.hy_parse.specs.Pieces.{Pieces, pieces_of}
use Rattle.hy_parse.specs.Grammar.{IsUnfit, Match, marks, IsWritten, Begins}
use Rattle.hy_parse.specs.Reading.{Read, Done, Stuck, read_statement}
use Rattle.hy_parse.specs.Parsing.{Fault, offset_of, ending_fault, fault_of, judged, parsed, Parses, IsClosed, Breaks, offset_in}
use Rattle.hy_parse.proofs.Sentences.{sound, complete, stops_first}
use Rattle.hy_parse.proofs.Closings.{Tidy, tidy, closes, closed_last, last_is, nothing_behind}
use Rattle.hy_parse.proofs.Spans.{StandsIn, StandIn, TokensMove, stand_in, stands_behind}

closed_is : (ending : Ending) → IsClosed ending → ending ≡ Closed (offset_of ending)
closed_is (Closed at) closed = refl
closed_is (Cut at) closed = absurd closed
closed_is (Bad at) closed = absurd closed

pieces_tidy : (bytes : List ℕ) (at : ℕ) → Tidy (pieces_of bytes at).pieces (pieces_of bytes at).ending
pieces_tidy bytes at = tidy _ bytes at

-- ---- what was judged

judged_ok : (r : Read Statement) (ending : Ending) (s : Statement) (end : ℕ) → judged r ending ≡ Ok (s, end) → (rest : List Piece) × (r ≡ Done s rest) × (offset_of ending ≡ end)
judged_ok (Done t rest) ending s end e =
    let read : Statement × ℕ = (t, offset_of ending) in
    let given : Statement × ℕ = (s, end) in
    let same : read ≡ given = cc in
    (rest, ap (λ (found : Statement × ℕ). Done found.0 rest) same, ap (λ (found : Statement × ℕ). found.1) same)
judged_ok (Stuck rest) ending s end e = absurd cc

judged_err : (r : Read Statement) (ending : Ending) (fault : Fault) → judged r ending ≡ Err fault → (rest : List Piece) × (r ≡ Stuck rest) × (fault_of rest ending ≡ fault)
judged_err (Done t rest) ending fault e = absurd cc
judged_err (Stuck rest) ending fault e = (rest, refl, cc)

-- ---- statements

-- the pieces of a sentence are all the pieces
whole : (ending : Ending) (ps front rest : List Piece) (s : Statement) → Tidy ps ending → ps ≡ front ++ rest → IsWritten front s → (rest ≡ []) × IsClosed ending
whole ending ps front rest s is parts written =
    let last = last_is s front written.matches in
    let all : ps ≡ last.0 ++ last.1 ∷ rest = parts ∙ ap (λ (qs : List Piece). qs ++ rest) last.2 ∙ append_assoc last.0 (last.1 ∷ []) rest in
    closes ending last.0 last.1 rest (subst (λ (qs : List Piece). Tidy qs ending) all is) last.3

parsed_sound : (bytes : List ℕ) (at : ℕ) (s : Statement) (end : ℕ) → parsed bytes at ≡ Ok (s, end) → Parses bytes at s end
unfolding parsed
parsed_sound bytes at s end e =
    let ps = pieces_of bytes at in
    let j = judged_ok (read_statement ps.pieces) ps.ending s end e in
    let t = sound ps.pieces j.0 s j.1 in
    let w = whole ps.ending ps.pieces t.0 j.0 s (pieces_tidy bytes at) t.1 t.2 in
    let all : ps.pieces ≡ t.0 = t.1 ∙ ap (λ (rest : List Piece). t.0 ++ rest) w.0 ∙ append-nil t.0 in
    record {
      closed = closed_is ps.ending w.1 ∙ ap (λ (n : ℕ). Closed n) j.2;
      written = subst (λ (qs : List Piece). IsWritten qs s) (sym all) t.2;
      within = t.3;
    }

parsed_complete : (bytes : List ℕ) (at : ℕ) (s : Statement) (end : ℕ) → Parses bytes at s end → parsed bytes at ≡ Ok (s, end)
unfolding parsed
parsed_complete bytes at s end parses =
    let ps = pieces_of bytes at in
    let reading : read_statement ps.pieces ≡ Done s [] = ap read_statement (sym (append-nil ps.pieces)) ∙ complete ps.pieces [] s parses.written parses.within in
    ap (λ (r : Read Statement). judged r ps.ending) reading ∙ ap (λ (ending : Ending). judged (Done s []) ending) parses.closed

pub statement_parses : (bytes : List ℕ) (at : ℕ) (s : Statement) (end : ℕ) → (parsed bytes at ≡ Ok (s, end) → Parses bytes at s end) × (Parses bytes at s end → parsed bytes at ≡ Ok (s, end))
statement_parses bytes at s end = (parsed_sound bytes at s end, parsed_complete bytes at s end)

-- ---- faults

-- closed pieces are not read to their end in vain
not_in_vain : (ending : Ending) (front : List Piece) → Tidy front ending → Begins front → read_statement front ≡ Stuck [] → IsClosed ending → ⊥
not_in_vain ending front is begins stuck closed =
    let last = closed_last ending front is closed in
    let regrouped : front ++ begins.more ≡ last.0 ++ last.1 ∷ begins.more = ap (λ (qs : List Piece). qs ++ begins.more) last.2 ∙ append_assoc last.0 (last.1 ∷ []) begins.more in
    let none = nothing_behind begins.statement last.0 last.1 begins.more last.3 (subst (λ (qs : List Piece). Match qs (marks begins.statement)) regrouped begins.written.matches) in
    let reading = complete (front ++ begins.more) [] begins.statement begins.written begins.within in
    let same : (front ++ begins.more) ++ [] ≡ front = append-nil (front ++ begins.more) ∙ ap (λ (qs : List Piece). front ++ qs) none ∙ append-nil front in
    let both = sym reading ∙ ap read_statement same ∙ stuck in
    absurd (cc both)

fault_breaks : (bytes : List ℕ) (at : ℕ) (fault : Fault) → parsed bytes at ≡ Err fault → Breaks bytes at fault
unfolding parsed
fault_breaks bytes at fault e =
    let ps = pieces_of bytes at in
    let j = judged_err (read_statement ps.pieces) ps.ending fault e in
    let t = stops_first ps.pieces j.0 j.1 in
    record {
      front = t.0;
      rest = j.0;
      parts = t.1;
      begins = t.2;
      unfit = t.3;
      unclosed = λ none closed. (
          let all : ps.pieces ≡ t.0 = t.1 ∙ ap (λ (rest : List Piece). t.0 ++ rest) none ∙ append-nil t.0 in
          let stuck : read_statement t.0 ≡ Stuck [] = ap read_statement (sym all) ∙ j.1 ∙ ap (λ (rest : List Piece). Stuck rest) none in
          not_in_vain ps.ending t.0 (subst (λ (qs : List Piece). Tidy qs ps.ending) all (pieces_tidy bytes at)) t.2 stuck closed);
      offset = sym j.2;
    }

-- what begins a sentence begins one shorter
shorter : (front more : List Piece) → Begins (front ++ more) → Begins front
shorter front more begins = record {
  more = more ++ begins.more;
  statement = begins.statement;
  written = subst (λ (ps : List Piece). IsWritten ps begins.statement) (append_assoc front more begins.more) begins.written;
  within = begins.within;
}

-- one of two splits of a list is the shorter
record Longer (front rest front' : List Piece) : Type 0 where
  head : Piece
  middle : List Piece
  behind : List Piece
  longer : front' ≡ front ++ head ∷ middle
  is : rest ≡ head ∷ behind

lengthen : (p q : Piece) (front rest front' : List Piece) → p ≡ q → Longer front rest front' → Longer (p ∷ front) rest (q ∷ front')
lengthen p q front rest front' same l = record {
  head = l.head;
  middle = l.middle;
  behind = l.behind;
  longer = ap (λ (x : Piece). x ∷ front') (sym same) ∙ ap (λ (qs : List Piece). p ∷ qs) l.longer;
  is = l.is;
}

compared : (front rest front' rest' : List Piece) → front ++ rest ≡ front' ++ rest' → (rest ≡ rest') ⊎ (Longer front rest front' ⊎ Longer front' rest' front)
compared [] rest [] rest' e = inl e
compared [] rest (q ∷ front') rest' e = inr (inl (record { head = q; middle = front'; behind = front' ++ rest'; longer = refl; is = e }))
compared (p ∷ front) rest [] rest' e = inr (inr (record { head = p; middle = front; behind = front ++ rest; longer = refl; is = sym e }))
compared (p ∷ front) rest (q ∷ front') rest' e =
    let same : p ≡ q = cc in
    elim (compared front rest front' rest' cc) [
      | inl is ↦ inl is
      | inr (inl l) ↦ inr (inl (lengthen p q front rest front' same l))
      | inr (inr l) ↦ inr (inr (lengthen q p front' rest' front (sym same) l))
    ]

no_longer : (front rest front' : List Piece) → IsUnfit front rest → Begins front' → Longer front rest front' → ⊥
no_longer front rest front' unfit begins l =
    let begun = subst (λ (qs : List Piece). Begins qs) (l.longer ∙ sym (append_assoc front (l.head ∷ []) l.middle)) begins in
    subst (IsUnfit front) l.is unfit (shorter (front ++ l.head ∷ []) l.middle begun)

-- pieces break at one offset
breaks_once : (bytes : List ℕ) (at : ℕ) (fault fault' : Fault) → Breaks bytes at fault → Breaks bytes at fault' → fault ≡ fault'
breaks_once bytes at fault fault' one other =
    one.offset ∙ ap (λ (rest : List Piece). fault_of rest (pieces_of bytes at).ending) same ∙ sym other.offset
  where
    same : one.rest ≡ other.rest
    same = elim (compared one.front one.rest other.front other.rest (sym one.parts ∙ other.parts)) [
      | inl is ↦ is
      | inr (inl l) ↦ absurd (no_longer one.front one.rest other.front one.unfit other.begins l)
      | inr (inr l) ↦ absurd (no_longer other.front other.rest one.front other.unfit one.begins l)
    ]

-- what parses does not break
whole_or_broken : (bytes : List ℕ) (at : ℕ) (s : Statement) (end : ℕ) (fault : Fault) → Parses bytes at s end → Breaks bytes at fault → ⊥
whole_or_broken bytes at s end fault parses breaks = by_rest breaks.rest breaks.parts breaks.unfit breaks.unclosed
  where
    by_rest : (rest : List Piece) → (pieces_of bytes at).pieces ≡ breaks.front ++ rest → IsUnfit breaks.front rest → (rest ≡ [] → IsClosed (pieces_of bytes at).ending → ⊥) → ⊥
    by_rest [] parts unfit unclosed = unclosed refl (subst IsClosed (sym parses.closed) tt)
    by_rest (p ∷ rest) parts unfit unclosed = unfit (record {
      more = rest;
      statement = s;
      written = subst (λ (ps : List Piece). IsWritten ps s) (parts ∙ sym (append_assoc breaks.front (p ∷ []) rest)) parses.written;
      within = parses.within;
    })

breaks_fault : (bytes : List ℕ) (at : ℕ) (fault : Fault) → Breaks bytes at fault → parsed bytes at ≡ Err fault
breaks_fault bytes at fault breaks = by_result (parsed bytes at) refl
  where
    by_result : (r : Result (Statement × ℕ) Fault) → parsed bytes at ≡ r → r ≡ Err fault
    by_result (Ok found) e = absurd (whole_or_broken bytes at found.0 found.1 fault (parsed_sound bytes at found.0 found.1 e) breaks)
    by_result (Err other) e = ap (λ (f : Fault). Err f) (breaks_once bytes at other fault (fault_breaks bytes at other e) breaks)

pub faults_break : (bytes : List ℕ) (at : ℕ) (fault : Fault) → (parsed bytes at ≡ Err fault → Breaks bytes at fault) × (Breaks bytes at fault → parsed bytes at ≡ Err fault)
faults_break bytes at fault = (fault_breaks bytes at fault, breaks_fault bytes at fault)

-- ---- offsets

some_marks : (s : Statement) (ps : List Piece) → Match ps (marks s) → 0 < length ps
some_marks s ps m = let last = last_is s ps m in omega (arith, ap length last.2, length-append last.0 (last.1 ∷ []))

pub statement_moves : TokensMove → (bytes : List ℕ) (at : ℕ) (s : Statement) (end : ℕ) → at ≤ length bytes → parsed bytes at ≡ Ok (s, end) → (at < end) × (end ≤ length bytes)
statement_moves law bytes at s end le e =
    let parses = parsed_sound bytes at s end e in
    let stand = stand_in law bytes at le in
    let offset = ap offset_of parses.closed in
    (omega (arith, offset, stand.beyond (some_marks s _ parses.written.matches)), omega (arith, offset, stand.within))

ending_offset : (ending : Ending) → offset_in (ending_fault ending) ≡ offset_of ending
ending_offset (Closed at) = refl
ending_offset (Cut at) = refl
ending_offset (Bad at) = refl

fault_offset : (len at : ℕ) (ps : Pieces) (front rest : List Piece) → StandIn len at ps → ps.pieces ≡ front ++ rest → (at ≤ offset_in (fault_of rest ps.ending)) × (offset_in (fault_of rest ps.ending) ≤ len)
fault_offset len at ps front [] stand parts = (omega (arith, ending_offset ps.ending, stand.after), omega (arith, ending_offset ps.ending, stand.within))
fault_offset len at ps front (p ∷ rest) stand parts = stands_behind len at front p rest (subst (AllByRecursion (StandsIn len at)) parts stand.all)

pub fault_moves : TokensMove → (bytes : List ℕ) (at : ℕ) (fault : Fault) → at ≤ length bytes → parsed bytes at ≡ Err fault → (at ≤ offset_in fault) × (offset_in fault ≤ length bytes)
fault_moves law bytes at fault le e =
    let breaks = fault_breaks bytes at fault e in
    let known = fault_offset (length bytes) at (pieces_of bytes at) breaks.front breaks.rest (stand_in law bytes at le) breaks.parts in
    subst (λ (f : Fault). (at ≤ offset_in f) × (offset_in f ≤ length bytes)) (sym breaks.offset) known
