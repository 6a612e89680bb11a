-- Lines that are given one after another are the lines of all bytes.
use Rattle.std.proofs.Common.{◌≡◌, ℕ, ◌<◌, Bool, true, false, ◌||◌, inl, inr, List, [], ◌∷◌, ◌++◌, length, take, Option, Result, Ok, Err, refl, sym, ap, ◌∙◌, subst, arith, append_assoc, length-append, append-nil}
use Rattle.std.specs.List.{flat_map, AllByRecursion}
use Rattle.std.proofs.KnownBytes.{Consumes-nil, Consumes-trans}
use Rattle.std.proofs.Math.Seq.{take-append_seam}
use Rattle.std.proofs.lemmas.List.Elements.{All-from_recursion}
use Rattle.std.proofs.lemmas.List.Splits.{slice_split_none, slice_split_at, length-slice_split}
use Rattle.std.proofs.lemmas.Grind.{flat_map-append}
use Rattle.hy_outside.specs.Telling.{GivesAll}
use Rattle.hy_lines.specs.Lines.{is_feed, has_feed, pieces_of, ended_pieces, filled_pieces, whole_lines_in, lines_in, with_feed, AreLines}
use Rattle.hy_lines.specs.Hearing.{Reading, Took, Told, Hears, HasGiven, opening, line_of}
use Rattle.hy_lines.specs.declared.Heard.{Heard}
use Rattle.hy_lines.specs.declared.Heard.TheVariants.{Line, End, TooLong}
use Rattle.hy_lines.specs.declared.NextError.{NextError}
use Rattle.hy_lines.specs.declared.NextError.TheVariants.{ReadFault, OutOfMemory}
use Rattle.hy_lines.proofs.Feeds.{true_is_not_false}
use Rattle.hy_lines.proofs.Pieces.{GivesAll-after}

or_left : (a b : Bool) → (a || b) ≡ false → a ≡ false
or_left true b h = h
or_left false b h = refl

or_right : (a b : Bool) → (a || b) ≡ false → b ≡ false
or_right true b h = true_is_not_false true refl h
or_right false b h = h

-- each byte is not a line feed, where none is among them
each_is_none : (bytes : List ℕ) → has_feed bytes ≡ false → AllByRecursion (λ byte. is_feed byte ≡ false) bytes
each_is_none [] h = tt
each_is_none (byte ∷ bytes) h = (or_left (is_feed byte) (has_feed bytes) h, each_is_none bytes (or_right (is_feed byte) (has_feed bytes) h))

pieces_cons : (bytes : List ℕ) → 0 < length (pieces_of bytes)
pieces_cons bytes = omega (arith, length-slice_split is_feed bytes)

ended_cons : (piece : List ℕ) (pieces : List (List ℕ)) → 0 < length pieces → ended_pieces (piece ∷ pieces) ≡ piece ∷ ended_pieces pieces
ended_cons piece [] h = absurd (omega arith)
ended_cons piece (next ∷ pieces) h = refl

filled_cons : (piece : List ℕ) (pieces : List (List ℕ)) → 0 < length pieces → filled_pieces (piece ∷ pieces) ≡ piece ∷ filled_pieces pieces
filled_cons piece [] h = absurd (omega arith)
filled_cons piece (next ∷ pieces) h = refl

-- a line that a line feed ends is a piece
pieces-line : (line left : List ℕ) → has_feed line ≡ false → pieces_of (line ++ 10 ∷ left) ≡ line ∷ pieces_of left
pieces-line line left h = slice_split_at is_feed line 10 left (All-from_recursion _ line (each_is_none line h)) refl

pub whole_lines-line : (line left : List ℕ) → has_feed line ≡ false → whole_lines_in (line ++ 10 ∷ left) ≡ line ∷ whole_lines_in left
whole_lines-line line left h = ap ended_pieces (pieces-line line left h) ∙ ended_cons line (pieces_of left) (pieces_cons left)

pub lines-line : (line left : List ℕ) → has_feed line ≡ false → lines_in (line ++ 10 ∷ left) ≡ line ∷ lines_in left
lines-line line left h = ap filled_pieces (pieces-line line left h) ∙ filled_cons line (pieces_of left) (pieces_cons left)

pieces-none : (bytes : List ℕ) → has_feed bytes ≡ false → pieces_of bytes ≡ bytes ∷ []
pieces-none bytes h = slice_split_none is_feed bytes (All-from_recursion _ bytes (each_is_none bytes h))

pub whole_lines-none : (bytes : List ℕ) → has_feed bytes ≡ false → whole_lines_in bytes ≡ []
whole_lines-none bytes h = ap ended_pieces (pieces-none bytes h)

filled_last : (bytes : List ℕ) → 0 < length bytes → filled_pieces (bytes ∷ []) ≡ bytes ∷ []
filled_last [] h = absurd (omega arith)
filled_last (byte ∷ bytes) h = refl

pub lines-last : (bytes : List ℕ) → has_feed bytes ≡ false → 0 < length bytes → lines_in bytes ≡ bytes ∷ []
lines-last bytes h some = ap filled_pieces (pieces-none bytes h) ∙ filled_last bytes some

-- the bytes of a line with its line feed, and then others
after_feed : (line left : List ℕ) → with_feed line ++ left ≡ line ++ 10 ∷ left
after_feed line left = append_assoc line (10 ∷ []) left

-- lines that are given are the first ones
lines-first : (lines : List (List ℕ)) (left : List ℕ) → AllByRecursion (λ line. has_feed line ≡ false) lines
    → (whole_lines_in (flat_map with_feed lines ++ left) ≡ lines ++ whole_lines_in left) × (lines_in (flat_map with_feed lines ++ left) ≡ lines ++ lines_in left)
lines-first [] left h = (refl, refl)
lines-first (line ∷ lines) left h =
    let rest : List ℕ = flat_map with_feed lines ++ left in
    let next = lines-first lines left h.1 in
    let bytes : flat_map with_feed (line ∷ lines) ++ left ≡ line ++ 10 ∷ rest = append_assoc (with_feed line) (flat_map with_feed lines) left ∙ after_feed line rest in (
      ap whole_lines_in bytes ∙ whole_lines-line line rest h.0 ∙ ap (λ ls. line ∷ ls) next.0,
      ap lines_in bytes ∙ lines-line line rest h.0 ∙ ap (λ ls. line ∷ ls) next.1,
    )

pub whole_lines-first : (bytes : List ℕ) (lines : List (List ℕ)) (left : List ℕ) → AreLines bytes lines left → whole_lines_in bytes ≡ lines ++ whole_lines_in left
whole_lines-first bytes lines left h = ap whole_lines_in h.whole ∙ (lines-first lines left h.each).0

pub all_lines-first : (bytes : List ℕ) (lines : List (List ℕ)) (left : List ℕ) → AreLines bytes lines left → lines_in bytes ≡ lines ++ lines_in left
all_lines-first bytes lines left h = ap lines_in h.whole ∙ (lines-first lines left h.each).1

-- more bytes come behind
AreLines-more : (bytes : List ℕ) (lines : List (List ℕ)) (left more : List ℕ) → AreLines bytes lines left → AreLines (bytes ++ more) lines (left ++ more)
AreLines-more bytes lines left more h =
    record { whole = ap (λ xs. xs ++ more) h.whole ∙ append_assoc (flat_map with_feed lines) left more; each = h.each }

each-last : (lines : List (List ℕ)) (line : List ℕ) → AllByRecursion (λ l. has_feed l ≡ false) lines → has_feed line ≡ false
    → AllByRecursion (λ l. has_feed l ≡ false) (lines ++ line ∷ [])
each-last [] line h last = (last, tt)
each-last (first ∷ lines) line h last = (h.0, each-last lines line h.1 last)

-- one more line is given
AreLines-next : (bytes : List ℕ) (lines : List (List ℕ)) (left line rest : List ℕ) → AreLines bytes lines left
    → has_feed line ≡ false → left ≡ line ++ 10 ∷ rest → AreLines bytes (lines ++ line ∷ []) rest
AreLines-next bytes lines left line rest h none split =
    let lasts : flat_map with_feed (lines ++ line ∷ []) ≡ flat_map with_feed lines ++ with_feed line =
    flat_map-append with_feed lines (line ∷ []) ∙ ap (λ xs. flat_map with_feed lines ++ xs) (append-nil (with_feed line)) in
    record {
      whole = h.whole ∙ ap (λ xs. flat_map with_feed lines ++ xs) (split ∙ sym (after_feed line rest))
          ∙ sym (append_assoc (flat_map with_feed lines) (with_feed line) rest) ∙ ap (λ xs. xs ++ rest) (sym lasts);
      each = each-last lines line h.each none;
    }

-- an answer gives the first line of the bytes, or none
told_lines : (bytes : List ℕ) (new : Reading) (result : Result Heard NextError) → Told bytes new result → lines_in bytes ≡ line_of result ++ lines_in new.kept
told_lines bytes new (Ok (Line line)) (none, inl whole) = ap lines_in whole ∙ lines-line line.items new.kept none
told_lines bytes new (Ok (Line line)) (none, inr (last, some, left, done)) =
    ap lines_in last ∙ lines-last line.items none some ∙ ap (λ xs. line.items ∷ lines_in xs) (sym left)
told_lines bytes new (Ok End) told = ap lines_in (told.0 ∙ sym told.1)
told_lines bytes new (Ok TooLong) told = ap lines_in (sym told.0)
told_lines bytes new (Err ReadFault) told = ap lines_in (sym told.0)
told_lines bytes new (Err OutOfMemory) told = ap lines_in (sym told)

kept_as_is : (all bytes : List ℕ) (lines : List (List ℕ)) (left : List ℕ) → left ≡ bytes → AreLines all lines bytes → AreLines all (lines ++ []) left
kept_as_is all bytes lines left same h =
    subst (λ ls. AreLines all ls left) (sym (append-nil lines)) (subst (λ xs. AreLines all lines xs) (sym same) h)

-- up to the end of the source it gives whole lines
told_whole : (all bytes : List ℕ) (lines : List (List ℕ)) (new : Reading) (result : Result Heard NextError) → Told bytes new result → new.done ≡ false
    → AreLines all lines bytes → AreLines all (lines ++ line_of result) new.kept
told_whole all bytes lines new (Ok (Line line)) (none, inl whole) going h = AreLines-next all lines bytes line.items new.kept h none whole
told_whole all bytes lines new (Ok (Line line)) (none, inr (last, some, left, done)) going h = true_is_not_false new.done done going
told_whole all bytes lines new (Ok End) told going h = true_is_not_false new.done told.2 going
told_whole all bytes lines new (Ok TooLong) told going h = kept_as_is all bytes lines new.kept told.0 h
told_whole all bytes lines new (Err ReadFault) told going h = kept_as_is all bytes lines new.kept told.0 h
told_whole all bytes lines new (Err OutOfMemory) told going h = kept_as_is all bytes lines new.kept told h

pub begins : (first : Option (List ℕ)) → HasGiven first first opening [] []
begins first =
    record { given = Consumes-nil first; count = refl; all = refl; whole = λ h. record { whole = refl; each = tt }; ended = λ h. true_is_not_false false h refl }

-- the lines of the bytes, where more were taken
lines-more : (first before after : Option (List ℕ)) (old new : Reading) (bytes more : List ℕ) (lines : List (List ℕ))
    → HasGiven first before old bytes lines → Took before after old new more → (going : Bool) → old.done ≡ going
    → lines_in (bytes ++ more) ≡ lines ++ lines_in (old.kept ++ more)
lines-more first before after old new bytes more lines so took true going =
    let none = (took.over going).0 in
    ap lines_in (ap (λ xs. bytes ++ xs) none ∙ append-nil bytes) ∙ so.all
    ∙ ap (λ xs. lines ++ lines_in xs) (sym (ap (λ xs. old.kept ++ xs) none ∙ append-nil old.kept))
lines-more first before after old new bytes more lines so took false going =
    all_lines-first (bytes ++ more) lines (old.kept ++ more) (AreLines-more bytes lines old.kept more (so.whole going))

-- up to the end of the source now, it had not given its end before
not_done_before : (before after : Option (List ℕ)) (old new : Reading) (more : List ℕ) → Took before after old new more → new.done ≡ false
    → (done : Bool) → old.done ≡ done → old.done ≡ false
not_done_before before after old new more took going true was = true_is_not_false new.done (took.over was).2 going
not_done_before before after old new more took going false was = was

all_given : (first before after : Option (List ℕ)) (old new : Reading) (bytes more : List ℕ) (lines : List (List ℕ))
    → HasGiven first before old bytes lines → Took before after old new more → new.done ≡ true → (done : Bool) → old.done ≡ done → GivesAll first after (bytes ++ more)
all_given first before after old new bytes more lines so took now true was =
    let over = took.over was in
    subst (λ (rest : Option (List ℕ)). GivesAll first rest (bytes ++ more)) (sym over.1)
    (subst (λ xs. GivesAll first before xs) (sym (ap (λ xs. bytes ++ xs) over.0 ∙ append-nil bytes)) (so.ended was))
all_given first before after old new bytes more lines so took now false was =
    GivesAll-after first before after bytes more so.given (took.ended was now)

pub goes_on : (first before after : Option (List ℕ)) (old new : Reading) (bytes : List ℕ) (lines : List (List ℕ)) (result : Result Heard NextError)
    → HasGiven first before old bytes lines → (heard : Hears before after old new result) → HasGiven first after new (bytes ++ heard.bytes) (lines ++ line_of result)
goes_on first before after old new bytes lines result so heard =
    let more : List ℕ = heard.bytes in
    record {
      given = Consumes-trans first before after bytes more so.given heard.took.given;
      count = omega (arith, heard.took.count, so.count, length-append bytes more);
      all = lines-more first before after old new bytes more lines so heard.took old.done refl
          ∙ ap (λ ls. lines ++ ls) (told_lines (old.kept ++ more) new result heard.told) ∙ sym (append_assoc lines (line_of result) (lines_in new.kept));
      whole = λ going. told_whole (bytes ++ more) (old.kept ++ more) lines new result heard.told going
          (AreLines-more bytes lines old.kept more (so.whole (not_done_before before after old new more heard.took going old.done refl)));
      ended = λ now. all_given first before after old new bytes more lines so heard.took now old.done refl;
    }

pub at_end : (first now : Option (List ℕ)) (reading : Reading) (bytes : List ℕ) (lines : List (List ℕ)) → HasGiven first now reading bytes lines
    → reading.kept ≡ [] → lines ≡ lines_in bytes
at_end first now reading bytes lines so none = sym (so.all ∙ ap (λ xs. lines ++ lines_in xs) none ∙ append-nil lines)

pub up_to_here : (first now : Option (List ℕ)) (reading : Reading) (bytes : List ℕ) (lines : List (List ℕ)) → HasGiven first now reading bytes lines
    → reading.done ≡ false → has_feed reading.kept ≡ false → lines ≡ whole_lines_in bytes
up_to_here first now reading bytes lines so going none =
    sym (whole_lines-first bytes lines reading.kept (so.whole going) ∙ ap (λ ls. lines ++ ls) (whole_lines-none reading.kept none) ∙ append-nil lines)

pub first_ones : (first now : Option (List ℕ)) (reading : Reading) (bytes : List ℕ) (lines : List (List ℕ)) → HasGiven first now reading bytes lines
    → lines ≡ take (length lines) (lines_in bytes)
first_ones first now reading bytes lines so = sym (ap (take (length lines)) so.all ∙ take-append_seam lines (lines_in reading.kept))
