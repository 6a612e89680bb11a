-- Where line feeds stand, and where none does.
use Rattle.std.proofs.Common.{◌≡◌, ℕ, ◌+◌, ◌<◌, Bool, true, false, ◌||◌, nat_lt, List, ◌∷◌, ◌++◌, length, take, drop, Some, None, refl, sym, ap, ◌∙◌, subst, arith, append_assoc}
use Rattle.std.specs.List.{position, position_or_len, before_first, after_first}
use Rattle.std.proofs.Math.Seq.{take-add, take-append_seam}
use Rattle.std.proofs.lemmas.Bool.{ltb-true}
use Rattle.std.proofs.lemmas.Grind.{common_steps}
use Rattle.std.proofs.lemmas.List.{drop-drop, take-append-drop}
use Rattle.std.proofs.lemmas.List.Folds.{list_any-append, list_any_none}
use Rattle.std.proofs.lemmas.List.Sums.{split_at_first, fails_before_first, passes_at_first}
use Rattle.std.proofs.lemmas.Option.{cond_some}
use Rattle.hy_lines.specs.Lines.{is_feed, has_feed}
use Rattle.hy_lines.specs.Hearing.{IsFirstLine}

or_left : (a b : Bool) → (a || b) ≡ false → a ≡ false
or_left true b h = h
or_left false b h = refl

or_both : (a b : Bool) → a ≡ false → b ≡ false → (a || b) ≡ false
or_both a b p q = rw p q

pub true_is_not_false : {A : Type 0} (b : Bool) → b ≡ true → b ≡ false → A
true_is_not_false b is isnt = absurd (cc (is, isnt))

-- the first bytes have no line feed where all have none
pub none_in_first : (first more : List ℕ) → has_feed (first ++ more) ≡ false → has_feed first ≡ false
none_in_first first more h = or_left (has_feed first) (has_feed more) (sym (list_any-append is_feed first more) ∙ h)

pub none_in_both : (first more : List ℕ) → has_feed first ≡ false → has_feed more ≡ false → has_feed (first ++ more) ≡ false
none_in_both first more p q = list_any-append is_feed first more ∙ or_both (has_feed first) (has_feed more) p q

-- where the search finds none, there is none
pub none_found : (bytes : List ℕ) → position is_feed bytes ≡ None → has_feed bytes ≡ false
none_found bytes h = list_any_none is_feed bytes (λ k d l. fails_before_first is_feed bytes k d (grind (arith, common_steps)))

-- where the search finds one, what stands before it is a line
found_so : (bytes : List ℕ) (n : ℕ) → position is_feed bytes ≡ Some n → (position_or_len is_feed bytes ≡ n) × (position_or_len is_feed bytes < length bytes)
found_so bytes n h =
    let at = cond_some (nat_lt (position_or_len is_feed bytes) (length bytes)) (position_or_len is_feed bytes) n h in
    (at.1, ltb-true (position_or_len is_feed bytes) (length bytes) at.0)

none_before : (bytes : List ℕ) → has_feed (before_first is_feed bytes) ≡ false
none_before bytes = list_any_none is_feed (before_first is_feed bytes) (λ k d l.
    let before = fails_before_first is_feed bytes k d (grind (arith, common_steps)) in
    grind (arith, common_steps))

feed_is_ten : (byte : ℕ) → is_feed byte ≡ true → byte ≡ 10
feed_is_ten byte h = grind (arith, common_steps)

pub first_found : (bytes : List ℕ) (n : ℕ) → position is_feed bytes ≡ Some n → IsFirstLine n bytes
first_found bytes n h =
    let at = found_so bytes n h in
    let feed = feed_is_ten _ (passes_at_first is_feed bytes 0 at.1) in
    let split : bytes ≡ before_first is_feed bytes ++ 10 ∷ after_first is_feed bytes =
    split_at_first is_feed bytes 0 at.1 ∙ ap (λ b. before_first is_feed bytes ++ b ∷ after_first is_feed bytes) feed in
    subst (λ m. IsFirstLine m bytes) at.0 (record { line = none_before bytes; feed = split })

-- the same behind bytes that were searched before
pub found_behind : (bytes : List ℕ) (searched n : ℕ) → has_feed (take searched bytes) ≡ false
    → position is_feed (drop searched bytes) ≡ Some n → IsFirstLine (searched + n) bytes
found_behind bytes searched n before h =
    let behind = first_found (drop searched bytes) n h in
    let front : take (searched + n) bytes ≡ take searched bytes ++ take n (drop searched bytes) = take-add searched n bytes in
    let rest : drop (n + 1) (drop searched bytes) ≡ drop (searched + n + 1) bytes = drop-drop (n + 1) searched bytes ∙ ap (λ m. drop m bytes) (omega arith) in
    record {
      line = ap has_feed front ∙ none_in_both (take searched bytes) (take n (drop searched bytes)) before behind.line;
      feed = sym (take-append-drop searched bytes) ∙ ap (λ xs. take searched bytes ++ xs) behind.feed
          ∙ sym (append_assoc (take searched bytes) (take n (drop searched bytes)) (10 ∷ drop (n + 1) (drop searched bytes)))
          ∙ ap (λ xs. xs ++ 10 ∷ drop (n + 1) (drop searched bytes)) (sym front) ∙ ap (λ xs. take (searched + n) bytes ++ 10 ∷ xs) rest;
    }

pub none_behind : (bytes : List ℕ) (searched : ℕ) → has_feed (take searched bytes) ≡ false
    → position is_feed (drop searched bytes) ≡ None → has_feed bytes ≡ false
none_behind bytes searched before h =
    ap has_feed (sym (take-append-drop searched bytes)) ∙ none_in_both (take searched bytes) (drop searched bytes) before (none_found (drop searched bytes) h)

-- the same of what is kept behind others
pub found_in : (bytes kept : List ℕ) (start searched n : ℕ) → drop start bytes ≡ kept → has_feed (take searched kept) ≡ false
    → Some n ≡ position is_feed (drop (start + searched) bytes) → IsFirstLine (searched + n) kept
found_in bytes kept start searched n same before h =
    found_behind kept searched n before (ap (λ xs. position is_feed (drop searched xs)) (sym same)
    ∙ ap (position is_feed) (drop-drop searched start bytes) ∙ sym h)

pub none_in : (bytes kept : List ℕ) (start searched : ℕ) → drop start bytes ≡ kept → has_feed (take searched kept) ≡ false
    → None ≡ position is_feed (drop (start + searched) bytes) → has_feed kept ≡ false
none_in bytes kept start searched same before h =
    none_behind kept searched before (ap (λ xs. position is_feed (drop searched xs)) (sym same)
    ∙ ap (position is_feed) (drop-drop searched start bytes) ∙ sym h)

-- what was kept is searched, where more is kept behind it
pub none_in_old : (old new piece : List ℕ) (count : ℕ) → new ≡ old ++ piece → count ≡ length old → has_feed old ≡ false → has_feed (take count new) ≡ false
none_in_old old new piece count same long none =
    ap (λ xs. has_feed (take count xs)) same ∙ ap (λ n. has_feed (take n (old ++ piece))) long ∙ ap has_feed (take-append_seam old piece) ∙ none
