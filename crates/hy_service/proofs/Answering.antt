-- What a sink takes of texts one after another, and what is known and told of lines that are heard one after another.
use Rattle.std.proofs.Common.{◌≡◌, ℕ, ◌+◌, ◌≤◌, Bool, true, false, if◌then◌else◌, List, [], ◌∷◌, ◌++◌, length, take, drop, Option, refl, sym, ap, ◌∙◌, subst, arith, append_assoc, append-nil, length-append}
use Rattle.std.proofs.KnownBytes.{Appends-trans}
use Rattle.std.proofs.Math.Seq.{take-append-add}
use Rattle.std.proofs.lemmas.List.{take-append-le, take-append-drop}
use Rattle.hy_outside.specs.Telling.{Takes, TakesSome}
use Rattle.hy_lines.specs.Lines.{ended_pieces, filled_pieces, lines_in, pieces_of, whole_lines_in}
use Rattle.hy_script.specs.declared.Options.{Options}
use Rattle.hy_serving.specs.Saying.{saying}
use Rattle.hy_service.specs.Laws.{LinesAreHeard}
use Rattle.hy_service.specs.Service.{Service, answer, answers, ends, has_end, heard, heard_all}

-- ---- what a sink takes

-- a text was taken, and then another
pub Takes-next : (before mid after : Option (List ℕ)) (first next whole : List ℕ) → Takes before mid first → Takes mid after next
    → whole ≡ first ++ next → Takes before after whole
Takes-next before mid after first next whole took more same =
    subst (Takes before after) (sym same) (Appends-trans before mid after first next took more)

-- a text was taken, and then the first bytes of another
pub TakesSome-next : (before mid after : Option (List ℕ)) (first next whole : List ℕ) → Takes before mid first → TakesSome mid after next
    → whole ≡ first ++ next → TakesSome before after whole
TakesSome-next before mid after first next whole took (count, within, some) same = (
  length first + count,
  omega (arith, ap length same, length-append first next),
  Takes-next before mid after first (take count next) (take (length first + count) whole) took some
      (ap (take (length first + count)) same ∙ take-append-add first next count),
)

-- the first bytes of a text are those of a longer one
pub TakesSome-longer : (before after : Option (List ℕ)) (text more whole : List ℕ) → TakesSome before after text → whole ≡ text ++ more
    → TakesSome before after whole
TakesSome-longer before after text more whole (count, within, some) same = (
  count,
  omega (arith, ap length same, length-append text more),
  subst (Takes before after) (sym (ap (take count) same ∙ take-append-le count text more within)) some,
)

-- ---- a line behind others

or_none : (b : Bool) → (if b then true else false) ≡ false → b ≡ false
or_none true h = h
or_none false h = refl

-- where no line of some is END, the last one isn't
pub last_goes_on : LinesAreHeard → (options : Options) (service : Service) (lines : List (List ℕ)) (line : List ℕ) → has_end options service lines ≡ false
    → has_end options service (lines ++ line ∷ []) ≡ false → ends (saying options (heard_all options service lines).desk line) ≡ false
last_goes_on law options service lines line none still =
    or_none (ends (saying options (heard_all options service lines).desk line)) (sym (law.end options service lines (line ∷ []) none) ∙ still)

if_false : {A : Type 0} (b : Bool) (x y : A) → b ≡ false → (if b then x else y) ≡ y
if_false true x y h = absurd (cc h)
if_false false x y h = refl

if_true : {A : Type 0} (b : Bool) (x y : A) → b ≡ true → (if b then x else y) ≡ x
if_true true x y h = refl
if_true false x y h = absurd (cc h)

-- the answers to lines and to one more
pub answers_next : LinesAreHeard → (options : Options) (service : Service) (lines : List (List ℕ)) (line : List ℕ) → has_end options service lines ≡ false
    → ends (saying options (heard_all options service lines).desk line) ≡ false
    → answers options service (lines ++ line ∷ []) ≡ answers options service lines ++ answer options (heard_all options service lines) line
answers_next law options service lines line none going =
    law.told options service lines (line ∷ []) none
    ∙ ap (λ xs. answers options service lines ++ xs) (
    if_false (ends (saying options (heard_all options service lines).desk line)) [] (answer options (heard_all options service lines) line ++ []) going
    ∙ append-nil (answer options (heard_all options service lines) line)
    )

-- ---- END

-- behind END nothing is heard
pub record IsHeardUpTo (options : Options) (service : Service) (lines all : List (List ℕ)) : Type 0 where
  pub end : has_end options service all ≡ true
  pub told : answers options service all ≡ answers options service lines
  pub service_is : heard_all options service all ≡ heard_all options service lines

pub heard_up_to : LinesAreHeard → (options : Options) (service : Service) (lines : List (List ℕ)) (line : List ℕ) (more : List (List ℕ))
    → has_end options service lines ≡ false → ends (saying options (heard_all options service lines).desk line) ≡ true
    → IsHeardUpTo options service lines ((lines ++ line ∷ []) ++ more)
heard_up_to law options service lines line more none over =
    let here : Service = heard_all options service lines in
    let all : (lines ++ line ∷ []) ++ more ≡ lines ++ line ∷ more = append_assoc lines (line ∷ []) more in
    record {
      end = ap (has_end options service) all ∙ law.end options service lines (line ∷ more) none
          ∙ if_true (ends (saying options here.desk line)) true (has_end options (heard options here line) more) over;
      told = ap (answers options service) all ∙ law.told options service lines (line ∷ more) none
          ∙ ap (λ xs. answers options service lines ++ xs)
          (if_true (ends (saying options here.desk line)) [] (answer options here line ++ answers options (heard options here line) more) over)
          ∙ append-nil (answers options service lines);
      service_is = ap (heard_all options service) all ∙ law.service options service lines (line ∷ more) none
          ∙ if_true (ends (saying options here.desk line)) here (heard_all options (heard options here line) more) over;
    }

-- ---- lines and whole lines

ended_first : (pieces : List (List ℕ)) → ended_pieces pieces ≡ take (length (ended_pieces pieces)) (filled_pieces pieces)
ended_first [] = refl
ended_first (last ∷ []) = refl
ended_first (piece ∷ next ∷ pieces) = ap (λ ls. piece ∷ ls) (ended_first (next ∷ pieces))

-- whole lines are the first ones
pub whole_lines_first : (bytes : List ℕ) → whole_lines_in bytes ≡ take (length (whole_lines_in bytes)) (lines_in bytes)
whole_lines_first bytes = ended_first (pieces_of bytes)

-- the answers to the first lines begin those to all
pub answers_longer : LinesAreHeard → (options : Options) (service : Service) (all : List (List ℕ)) (count : ℕ)
    → has_end options service (take count all) ≡ false
    → answers options service all ≡ answers options service (take count all) ++ answers options (heard_all options service (take count all)) (drop count all)
answers_longer law options service all count none =
    ap (answers options service) (sym (take-append-drop count all)) ∙ law.told options service (take count all) (drop count all) none
