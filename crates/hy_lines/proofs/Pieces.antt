-- Bytes that are taken of a source piece by piece, and kept.
use Rattle.std.proofs.Common.{◌≡◌, ℕ, ◌+◌, true, false, List, [], ◌++◌, length, Option, Some, None, Result, Err, refl, sym, ap, ◌∙◌, subst, arith, append_assoc, length-append, append-nil}
use Rattle.std.proofs.KnownBytes.{Consumes-nil, Consumes-trans, Consumes-kept}
use Rattle.std.specs.Io.KnownBytes.{IsAtEnd, Keeps}
use Rattle.hy_outside.specs.Telling.{Gives, GivesAll}
use Rattle.hy_lines.specs.Lines.{has_feed}
use Rattle.hy_lines.specs.Hearing.{Reading, Adds, Told, Hears}
use Rattle.hy_lines.specs.declared.Heard.{Heard}
use Rattle.hy_lines.specs.declared.NextError.{NextError}
use Rattle.hy_lines.specs.declared.NextError.TheVariants.{ReadFault, OutOfMemory}
use Rattle.hy_lines.proofs.Feeds.{none_in_first, true_is_not_false}

-- a source at its end gives no bytes, and these are all
pub GivesAll-at_end : (before after : Option (List ℕ)) (bytes : List ℕ) → Gives before after bytes → IsAtEnd before → bytes ≡ [] → GivesAll before after bytes
GivesAll-at_end None after bytes given end none = tt
GivesAll-at_end (Some all) None bytes given end none = absurd given
GivesAll-at_end (Some all) (Some left) bytes given end none =
    (none ∙ sym end, ap Some (sym (given ∙ ap (λ xs. xs ++ left) none) ∙ end))

-- after the first bytes, these are all the others
pub GivesAll-after : (before between after : Option (List ℕ)) (bytes next : List ℕ)
    → Gives before between bytes → GivesAll between after next → GivesAll before after (bytes ++ next)
GivesAll-after None between after bytes next given all = tt
GivesAll-after (Some first) None after bytes next given all = absurd given
GivesAll-after (Some first) (Some left) after bytes next given all = (sym (given ∙ ap (λ xs. bytes ++ xs) (sym all.0)), all.1)

-- no bytes were taken
pub Adds-none : (rest : Option (List ℕ)) (reading : Reading) → Adds rest rest reading reading
Adds-none rest reading = (
  [],
  record {
    given = Consumes-nil rest;
    count = omega arith;
    waits = λ h. refl;
    over = λ h. (refl, refl, h);
    ended = λ not_yet now. true_is_not_false reading.done now not_yet;
  },
  sym (append-nil reading.kept),
)

-- a read gave these bytes
pub Adds-piece : (before after : Option (List ℕ)) (old new : Reading) (bytes : List ℕ) → has_feed old.kept ≡ false → old.done ≡ false
    → Gives before after bytes → new.kept ≡ old.kept ++ bytes → new.taken ≡ old.taken + length bytes
    → (new.done ≡ true → (bytes ≡ []) × IsAtEnd before) → Adds before after old new
Adds-piece before after old new bytes none going given kept count end = (
  bytes,
  record {
    given = given;
    count = count;
    waits = λ h. true_is_not_false (has_feed old.kept) h none;
    over = λ h. true_is_not_false old.done h going;
    ended = λ not_yet now. GivesAll-at_end before after bytes given (end now).1 (end now).0;
  },
  kept,
)

-- a read that failed, or that there was no room for, gave none
pub Adds-nothing : (before after : Option (List ℕ)) (old new : Reading) → has_feed old.kept ≡ false → old.done ≡ false
    → Keeps before after → new.kept ≡ old.kept → new.taken ≡ old.taken → new.done ≡ old.done → Adds before after old new
Adds-nothing before after old new none going keeps kept taken done =
    Adds-piece before after old new [] none going (Consumes-kept before before after [] (Consumes-nil before) keeps)
    (kept ∙ sym (append-nil old.kept)) (omega (arith, taken)) (λ now. true_is_not_false old.done (sym done ∙ now) going)

-- where no line feed is kept now, none was before
pub none_kept_before : (before after : Option (List ℕ)) (old new : Reading) → Adds before after old new → has_feed new.kept ≡ false → has_feed old.kept ≡ false
none_kept_before before after old new adds none = none_in_first old.kept adds.0 (sym (ap has_feed adds.2) ∙ none)

-- after the first pieces, more were taken
pub Adds-more : (before between after : Option (List ℕ)) (old mid new : Reading) → has_feed mid.kept ≡ false → mid.done ≡ false
    → Adds before between old mid → Adds between after mid new → Adds before after old new
Adds-more before between after old mid new none going first next =
    let none_before = none_kept_before before between old mid first none in (
      first.0 ++ next.0,
      record {
        given = Consumes-trans before between after first.0 next.0 first.1.given next.1.given;
        count = omega (arith, first.1.count, next.1.count, length-append first.0 next.0);
        waits = λ h. true_is_not_false (has_feed old.kept) h none_before;
        over = λ h. true_is_not_false mid.done ((first.1.over h).2) going;
        ended = λ not_yet now. GivesAll-after before between after first.0 next.0 first.1.given (next.1.ended going now);
      },
      next.2 ∙ ap (λ xs. xs ++ next.0) first.2 ∙ append_assoc old.kept first.0 next.0,
    )

-- what an answer says of the bytes that are kept, it says of what was kept before with what was taken
pub hears : (before after : Option (List ℕ)) (old mid new : Reading) (result : Result Heard NextError) → Adds before after old mid
    → (new.taken ≡ mid.taken) × (new.done ≡ mid.done) → Told mid.kept new result → Hears before after old new result
hears before after old mid new result adds same told =
    record {
      bytes = adds.0;
      took = record {
        given = adds.1.given;
        count = same.0 ∙ adds.1.count;
        waits = adds.1.waits;
        over = λ h. let done = adds.1.over h in (done.0, done.1, same.1 ∙ done.2);
        ended = λ not_yet now. adds.1.ended not_yet (sym same.1 ∙ now);
      };
      told = subst (λ bytes. Told bytes new result) adds.2 told;
    }

-- after an error what was taken is kept
pub told_error : (reading : Reading) (error : NextError) → (error ≡ ReadFault → (has_feed reading.kept ≡ false) × (reading.done ≡ false))
    → Told reading.kept reading (Err error)
told_error reading ReadFault h = let why = h refl in (refl, why.0, why.1)
told_error reading OutOfMemory h = refl
