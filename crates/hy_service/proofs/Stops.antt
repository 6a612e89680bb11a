-- What serving comes to, by why no further line was heard.
use Rattle.std.proofs.Common.{◌≡◌, ◌⊎◌, ℕ, ◌+◌, ◌≤◌, ◌==◌, Bool, true, false, inl, inr, List, [], ◌∷◌, ◌++◌, length, take, drop, Option, Some, None, IsNone, IsSome, IfSome, refl, sym, ap, ◌∙◌, subst, arith, append_assoc, append-nil, Result, Ok, Err}
use Rattle.std.proofs.Math.Logic.{⊎_elim}
use Rattle.std.proofs.Math.Seq.{take-length}
use Rattle.std.proofs.lemmas.Bool.{eqb-true, eqb-false}
use Rattle.std.proofs.lemmas.Fmt.{decimal_digit}
use Rattle.std.specs.Prelude.{codes, IfOk}
use Rattle.std.specs.Result.{result_ok}
use Rattle.hy_limits.specs.declared.TheConstants.{MOST_BYTES}
use Rattle.hy_outside.specs.Telling.{Gives, GivesAll, Takes, TakesSome}
use Rattle.hy_lines.specs.Lines.{lines_in, whole_lines_in}
use Rattle.hy_render.specs.declared.Outcome.{Outcome}
use Rattle.hy_script.specs.declared.Options.{Options}
use Rattle.hy_script.specs.declared.codes.Code.TheVariants as code
use Rattle.hy_serving.specs.Answers.{refusal}
use Rattle.hy_serving.specs.declared.Cause.TheVariants.{Script}
use Rattle.hy_service.specs.Knowing.{Knows, ServerData}
use Rattle.hy_service.specs.Laws.{LinesAreHeard, OutcomesAreLawful}
use Rattle.hy_service.specs.Loops.{AreFirst, HasStopped}
use Rattle.hy_service.specs.Serves.{IsOutcomeOf, IsTold, told_whole, told_long, told_part, IsTooLong, IsWhole, Serves, Writes, long_text, whole_text}
use Rattle.hy_service.specs.Service.{IsSized, after, answers, closing, closing_of, heard_all, is_ended_by, opening, outcome_after, outcome_at, served}
use Rattle.hy_service.specs.declared.serving.Stop.{Stop}
use Rattle.hy_service.specs.declared.serving.Stop.TheVariants.{End, TooLong, ReadFault, WriteFault, DiskFault, OutOfMemory}
use Rattle.hy_service.proofs.Answering.{Takes-next, TakesSome-longer, TakesSome-next, answers_longer, whole_lines_first}

-- ---- what holds at each status

-- a status is one of two others
neither : {A : Type 0} (status m n : ℕ) → (status ≡ m → ⊥) → (status ≡ n → ⊥) → (status ≡ m) ⊎ (status ≡ n) → A
neither status m n not_one not_other is = absurd (⊎_elim not_one not_other is)

some_is : {A : Type 0} (x : A) → IsSome (Some x)
some_is x = refl

pub none_if : (outcome : Option Outcome) (P : Outcome → Type 0) → IsNone outcome → IfSome outcome P
none_if None P none = tt
none_if (Some given) P none = absurd (cc none)

-- what holds of one holds of the given one, which is that
pub given_is : (outcome : Option Outcome) (one : Outcome) (P : Outcome → Type 0) → P one → IfSome outcome (λ given. given ≡ one) → IfSome outcome P
given_is None one P holds is = tt
given_is (Some given) one P holds is = subst P (sym is) holds

-- a read failed
pub serves_fault : (options : Options) (old new before after : Option (List ℕ)) (bytes : List ℕ) (status : ℕ) (outcome : Option Outcome)
    → Gives old new bytes → length bytes ≤ MOST_BYTES + 1 → status ≡ 3 → IsNone outcome
    → Takes before after (served options (whole_lines_in bytes)) → Serves options old new before after status outcome
serves_fault options old new before after bytes status outcome gives most is none took = record {
  bytes = bytes;
  gives = gives;
  most = most;
  done = λ s. absurd (omega arith);
  too_long = λ s. absurd (omega arith);
  read_fault = λ s. took;
  write_fault = λ s. absurd (omega arith);
  no_memory = λ s. absurd (omega arith);
  disk_fault = λ s. absurd (omega arith);
  outcome_is = none_if outcome _ none;
  of_all = λ s. absurd (omega arith);
  of_whole = λ s. absurd (omega arith);
  outcome_there = neither status 0 2 (λ s. omega arith) (λ s. omega arith);
  no_outcome = λ s. none;
}

-- memory ran out, or the disk failed
pub serves_starved : (options : Options) (old new before after : Option (List ℕ)) (bytes : List ℕ) (status : ℕ) (outcome : Option Outcome)
    (lines : List (List ℕ))
    → Gives old new bytes → length bytes ≤ MOST_BYTES + 1 → (status ≡ 5) ⊎ (status ≡ 6) → IsNone outcome → (count : ℕ) → lines ≡ take count (lines_in bytes)
    → Takes before after (served options lines) → Serves options old new before after status outcome
serves_starved options old new before after bytes status outcome lines gives most is none count first took = record {
  bytes = bytes;
  gives = gives;
  most = most;
  done = λ s. absurd (⊎_elim (λ five. omega (arith, five, s)) (λ six. omega (arith, six, s)) is);
  too_long = λ s. absurd (⊎_elim (λ five. omega (arith, five, s)) (λ six. omega (arith, six, s)) is);
  read_fault = λ s. absurd (⊎_elim (λ five. omega (arith, five, s)) (λ six. omega (arith, six, s)) is);
  write_fault = λ s. absurd (⊎_elim (λ five. omega (arith, five, s)) (λ six. omega (arith, six, s)) is);
  no_memory = λ s. (count, subst (λ (ls : List (List ℕ)). Takes before after (served options ls)) first took);
  disk_fault = λ s. (count, subst (λ (ls : List (List ℕ)). Takes before after (served options ls)) first took);
  outcome_is = none_if outcome _ none;
  of_all = λ s. absurd (⊎_elim (λ five. omega (arith, five, s)) (λ six. omega (arith, six, s)) is);
  of_whole = λ s. absurd (⊎_elim (λ five. omega (arith, five, s)) (λ six. omega (arith, six, s)) is);
  outcome_there = neither status 0 2 (λ s. ⊎_elim (λ five. omega (arith, five, s)) (λ six. omega (arith, six, s)) is)
      (λ s. ⊎_elim (λ five. omega (arith, five, s)) (λ six. omega (arith, six, s)) is);
  no_outcome = λ s. none;
}

-- a write failed
pub serves_cut : (options : Options) (old new before after : Option (List ℕ)) (bytes : List ℕ) (status : ℕ) (outcome : Option Outcome) (text : List ℕ)
    → Gives old new bytes → length bytes ≤ MOST_BYTES + 1 → status ≡ 4
    → IfSome outcome (λ given. (count : ℕ) × IsOutcomeOf options (take count (lines_in bytes)) given)
    → IsTold options old new bytes text → TakesSome before after text → Serves options old new before after status outcome
serves_cut options old new before after bytes status outcome text gives most is comes told took = record {
  bytes = bytes;
  gives = gives;
  most = most;
  done = λ s. absurd (omega arith);
  too_long = λ s. absurd (omega arith);
  read_fault = λ s. absurd (omega arith);
  write_fault = λ s. (text, told, took);
  no_memory = λ s. absurd (omega arith);
  disk_fault = λ s. absurd (omega arith);
  outcome_is = comes;
  of_all = λ s. absurd (omega arith);
  of_whole = λ s. absurd (omega arith);
  outcome_there = neither status 0 2 (λ s. omega arith) (λ s. omega arith);
  no_outcome = λ s. absurd (⊎_elim (λ three. omega (arith, three)) (λ more. ⊎_elim (λ five. omega (arith, five)) (λ six. omega (arith, six)) more) s);
}

-- how the end was told: these bytes and what is told of the lines, or memory ran out
abbrev pub Ended : Options → List (List ℕ) → List ℕ → ℕ → Option (List ℕ) → Option (List ℕ) → ℕ → Option Outcome → Type 0
Ended options lines first done mid after status outcome = ((status ≡ 5) × (after ≡ mid) × IsNone outcome)
    ⊎ ((outcome ≡ Some (outcome_after options lines)) × Writes done status mid after (first ++ closing options lines))

module _ (lawful : OutcomesAreLawful) where
  -- what these lines come to, which are some of the first
  pub comes_to : (options : Options) (bytes : List ℕ) (lines : List (List ℕ)) (count : ℕ) → IsSized options → lines ≡ take count (lines_in bytes)
      → (first : ℕ) × IsOutcomeOf options (take first (lines_in bytes)) (outcome_after options lines)
  comes_to options bytes lines count sized first =
      (count, subst (λ (ls : List (List ℕ)). IsOutcomeOf options ls (outcome_after options lines)) first (lawful options lines sized))

  -- all was told
  serves_whole : (options : Options) (old new before after : Option (List ℕ)) (bytes : List ℕ) (status : ℕ) (outcome : Option Outcome) → IsSized options
      → Gives old new bytes → length bytes ≤ MOST_BYTES + 1 → status ≡ 0 → outcome ≡ Some (outcome_after options (lines_in bytes))
      → IsWhole options old new bytes → Takes before after (whole_text options bytes) → Serves options old new before after status outcome
  serves_whole options old new before after bytes status outcome sized gives most is comes all took =
      let of_all : IfSome outcome (λ given. IsOutcomeOf options (lines_in bytes) given) =
      subst (λ (o : Option Outcome). IfSome o (λ given. IsOutcomeOf options (lines_in bytes) given)) (sym comes) (lawful options (lines_in bytes) sized) in
      record {
        bytes = bytes;
        gives = gives;
        most = most;
        done = λ s. (all, took);
        too_long = λ s. absurd (omega arith);
        read_fault = λ s. absurd (omega arith);
        write_fault = λ s. absurd (omega arith);
        no_memory = λ s. absurd (omega arith);
        disk_fault = λ s. absurd (omega arith);
        outcome_is = subst (λ (o : Option Outcome). IfSome o (λ given. (count : ℕ) × IsOutcomeOf options (take count (lines_in bytes)) given)) (sym comes)
            (comes_to options bytes (lines_in bytes) (length (lines_in bytes)) sized (sym (take-length (lines_in bytes))));
        of_all = λ s. of_all;
        of_whole = λ s. absurd (omega arith);
        outcome_there = λ s. subst (λ (o : Option Outcome). IsSome o) (sym comes) (some_is (outcome_after options (lines_in bytes)));
        no_outcome = λ s. absurd (⊎_elim (λ three. omega (arith, three)) (λ more. ⊎_elim (λ five. omega (arith, five)) (λ six. omega (arith, six)) more) s);
      }

  -- there were too many bytes
  serves_long : (options : Options) (old new before after : Option (List ℕ)) (bytes : List ℕ) (status : ℕ) (outcome : Option Outcome) → IsSized options
      → Gives old new bytes → length bytes ≤ MOST_BYTES + 1 → status ≡ 2 → outcome ≡ Some (outcome_after options (whole_lines_in bytes))
      → IsTooLong options bytes → Takes before after (long_text options bytes) → Serves options old new before after status outcome
  serves_long options old new before after bytes status outcome sized gives most is comes too_many took =
      let of_whole : IfSome outcome (λ given. IsOutcomeOf options (whole_lines_in bytes) given) =
      subst (λ (o : Option Outcome). IfSome o (λ given. IsOutcomeOf options (whole_lines_in bytes) given)) (sym comes)
      (lawful options (whole_lines_in bytes) sized) in
      record {
        bytes = bytes;
        gives = gives;
        most = most;
        done = λ s. absurd (omega arith);
        too_long = λ s. (too_many, took);
        read_fault = λ s. absurd (omega arith);
        write_fault = λ s. absurd (omega arith);
        no_memory = λ s. absurd (omega arith);
        disk_fault = λ s. absurd (omega arith);
        outcome_is = subst (λ (o : Option Outcome). IfSome o (λ given. (count : ℕ) × IsOutcomeOf options (take count (lines_in bytes)) given)) (sym comes)
            (comes_to options bytes (whole_lines_in bytes) (length (whole_lines_in bytes)) sized (whole_lines_first bytes));
        of_all = λ s. absurd (omega arith);
        of_whole = λ s. of_whole;
        outcome_there = λ s. subst (λ (o : Option Outcome). IsSome o) (sym comes) (some_is (outcome_after options (whole_lines_in bytes)));
        no_outcome = λ s. absurd (⊎_elim (λ three. omega (arith, three)) (λ more. ⊎_elim (λ five. omega (arith, five)) (λ six. omega (arith, six)) more) s);
      }

  -- ---- the end

  -- all lines, up to END or the end of the source
  pub end_told : (options : Options) (old new before mid final : Option (List ℕ)) (bytes : List ℕ) (lines : List (List ℕ)) (status : ℕ)
      (outcome : Option Outcome)
      → IsSized options → Gives old new bytes → length bytes ≤ MOST_BYTES + 1 → IsWhole options old new bytes
      → served options (lines_in bytes) ≡ served options lines → after options (lines_in bytes) ≡ after options lines
      → Takes before mid (served options lines) → Ended options lines [] 0 mid final status outcome → Serves options old new before final status outcome
  end_told options old new before mid final bytes lines status outcome sized gives most all told same took (inl (five, still, none)) =
      serves_starved options old new before final bytes status outcome (lines_in bytes) gives most (inl five) none (length (lines_in bytes))
      (sym (take-length (lines_in bytes)))
      (subst (Takes before final) (sym told) (subst (λ (a : Option (List ℕ)). Takes before a (served options lines)) (sym still) took))
  end_told options old new before mid final bytes lines status outcome sized gives most all told same took (inr (comes, inl (zero, wrote))) =
      serves_whole options old new before final bytes status outcome sized gives most zero (comes ∙ ap (λ s. Some (outcome_at options s)) (sym same)) all
      (Takes-next before mid final (served options lines) (closing options lines) (whole_text options bytes) took wrote
      (ap (λ xs. xs ++ closing options (lines_in bytes)) told ∙ ap (λ s. served options lines ++ closing_of options s) same))
  end_told options old new before mid final bytes lines status outcome sized gives most all told same took (inr (comes, inr (four, wrote))) =
      serves_cut options old new before final bytes status outcome (whole_text options bytes) gives most four
      (subst (λ (o : Option Outcome). IfSome o (λ given. (count : ℕ) × IsOutcomeOf options (take count (lines_in bytes)) given))
      (sym (comes ∙ ap (λ s. Some (outcome_at options s)) (sym same)))
      (comes_to options bytes (lines_in bytes) (length (lines_in bytes)) sized (sym (take-length (lines_in bytes)))))
      (told_whole all)
      (TakesSome-next before mid final (served options lines) (closing options lines) (whole_text options bytes) took wrote
      (ap (λ xs. xs ++ closing options (lines_in bytes)) told ∙ ap (λ s. served options lines ++ closing_of options s) same))

  -- the whole lines of too many bytes
  pub limit_told : (options : Options) (old new before mid final : Option (List ℕ)) (bytes : List ℕ) (lines : List (List ℕ)) (status : ℕ)
      (outcome : Option Outcome)
      → IsSized options → Gives old new bytes → length bytes ≤ MOST_BYTES + 1 → IsTooLong options bytes → lines ≡ whole_lines_in bytes
      → Takes before mid (served options lines) → Ended options lines (refusal (Script code.TooLong)) 2 mid final status outcome
      → Serves options old new before final status outcome
  limit_told options old new before mid final bytes lines status outcome sized gives most long_so same took (inl (five, still, none)) =
      serves_starved options old new before final bytes status outcome lines gives most (inl five) none (length (whole_lines_in bytes))
      (same ∙ whole_lines_first bytes)
      (subst (λ (a : Option (List ℕ)). Takes before a (served options lines)) (sym still) took)
  limit_told options old new before mid final bytes lines status outcome sized gives most long_so same took (inr (comes, inl (two, wrote))) =
      serves_long options old new before final bytes status outcome sized gives most two (comes ∙ ap (λ ls. Some (outcome_after options ls)) same) long_so
      (Takes-next before mid final (served options lines) (refusal (Script code.TooLong) ++ closing options lines) (long_text options bytes) took wrote
      (ap (λ ls. served options ls ++ refusal (Script code.TooLong) ++ closing options ls) (sym same)
      ∙ append_assoc (served options lines) (refusal (Script code.TooLong)) (closing options lines)))
  limit_told options old new before mid final bytes lines status outcome sized gives most long_so same took (inr (comes, inr (four, wrote))) =
      serves_cut options old new before final bytes status outcome (long_text options bytes) gives most four
      (subst (λ (o : Option Outcome). IfSome o (λ given. (count : ℕ) × IsOutcomeOf options (take count (lines_in bytes)) given)) (sym comes)
      (comes_to options bytes lines (length (whole_lines_in bytes)) sized (same ∙ whole_lines_first bytes)))
      (told_long long_so)
      (TakesSome-next before mid final (served options lines) (refusal (Script code.TooLong) ++ closing options lines) (long_text options bytes) took wrote
      (ap (λ ls. served options ls ++ refusal (Script code.TooLong) ++ closing options ls) (sym same)
      ∙ append_assoc (served options lines) (refusal (Script code.TooLong)) (closing options lines)))

-- ---- a write that failed

-- a source gave all that it had, or not
all_or_not : (old new : Option (List ℕ)) (bytes : List ℕ) → Gives old new bytes → GivesAll old new bytes ⊎ (¬ GivesAll old new bytes)
all_or_not None new bytes gives = inl tt
all_or_not (Some first) None bytes gives = absurd gives
all_or_not (Some first) (Some []) bytes gives = inl (sym (append-nil bytes) ∙ sym gives, refl)
all_or_not (Some first) (Some (byte ∷ left)) bytes gives = inr (λ all. absurd (cc all.1))

same_or_not : (m n : ℕ) (same : Bool) → (m == n) ≡ same → (m ≡ n) ⊎ (¬ (m ≡ n))
same_or_not m n true is = inl (eqb-true m n is)
same_or_not m n false is = inr (eqb-false m n is)

-- what is to be told, when the answers to the first lines were told in part
pub record IsCut (options : Options) (old new before now : Option (List ℕ)) (bytes : List ℕ) : Type 0 where
  pub text : List ℕ
  pub told : IsTold options old new bytes text
  pub some : TakesSome before now text

module _ (law : LinesAreHeard) (options : Options) (old new before now : Option (List ℕ)) (bytes : List ℕ) (lines : List (List ℕ))
    (gives : Gives old new bytes) (are : AreFirst old new bytes lines) (some : TakesSome before now (served options lines))
    (going : is_ended_by options lines ≡ false) where
  -- the answers to these lines begin those to others of which they are the first
  longer : (all : List (List ℕ)) (count : ℕ) (more whole_one : List ℕ) → lines ≡ take count all → whole_one ≡ served options all ++ more
      → TakesSome before now whole_one
  longer all count more whole_one first is =
      let here : is_ended_by options (take count all) ≡ false = ap (is_ended_by options) (sym first) ∙ going in
      let rest : List ℕ = answers options (heard_all options (opening options) (take count all)) (drop count all) in
      TakesSome-longer before now (served options all) more whole_one
      (TakesSome-longer before now (served options lines) rest (served options all) some
      (answers_longer law options (opening options) all count here ∙ ap (λ ls. served options ls ++ rest) (sym first))) is

  cut_whole : IsWhole options old new bytes → IsCut options old new before now bytes
  cut_whole all = record {
    text = whole_text options bytes;
    told = told_whole all;
    some = longer (lines_in bytes) are.first.0 (closing options (lines_in bytes)) (whole_text options bytes) are.first.1 refl;
  }

  cut_lines : (count : ℕ) → lines ≡ take count (whole_lines_in bytes) → ¬ IsWhole options old new bytes
      → is_ended_by options (whole_lines_in bytes) ≡ false → (length bytes ≡ MOST_BYTES + 1) ⊎ (¬ (length bytes ≡ MOST_BYTES + 1))
      → IsCut options old new before now bytes
  cut_lines count first not_whole still (inl long_so) = record {
    text = long_text options bytes;
    told = told_long (long_so, still);
    some = longer (whole_lines_in bytes) count (refusal (Script code.TooLong) ++ closing options (whole_lines_in bytes)) (long_text options bytes) first
        (append_assoc (served options (whole_lines_in bytes)) (refusal (Script code.TooLong)) (closing options (whole_lines_in bytes)));
  }
  cut_lines count first not_whole still (inr short) = record {
    text = served options (whole_lines_in bytes);
    told = told_part not_whole (λ h. short h.0);
    some = longer (whole_lines_in bytes) count [] (served options (whole_lines_in bytes)) first (sym (append-nil (served options (whole_lines_in bytes))));
  }

  cut_at : (ended : Bool) → is_ended_by options (whole_lines_in bytes) ≡ ended → GivesAll old new bytes ⊎ (¬ GivesAll old new bytes)
      → GivesAll old new bytes ⊎ ((count : ℕ) × (lines ≡ take count (whole_lines_in bytes))) → IsCut options old new before now bytes
  cut_at true is given first = cut_whole (inl is)
  cut_at false is (inl all) first = cut_whole (inr all)
  cut_at false is (inr not_all_so) (inl all) = absurd (not_all_so all)
  cut_at false is (inr not_all_so) (inr (count, first)) =
      cut_lines count first (λ h. ⊎_elim (λ over. absurd (cc (is, over))) not_all_so h) is
      (same_or_not (length bytes) (MOST_BYTES + 1) (length bytes == MOST_BYTES + 1) refl)

  pub cut : IsCut options old new before now bytes
  cut = cut_at (is_ended_by options (whole_lines_in bytes)) refl (all_or_not old new bytes gives) are.whole

-- ---- what is served, by why no further line was heard

too_long_text : refusal (Script code.TooLong) ≡ codes "refused E01\n"
too_long_text = ap (λ (xs : List ℕ). codes "refused E" ++ (48 ∷ xs) ++ 10 ∷ []) (decimal_digit 1 (omega arith))

-- what holds of the value of an answer holds of it as an option
pub if_ok : {E : Type 0} (result : Result Outcome E) (P : Outcome → Type 0) → IfOk result P → IfSome (result_ok result) P
if_ok (Ok given) P holds = holds
if_ok (Err e) P holds = tt

-- how the end was told, where the sink is the one that it was, or another
ended_by : {W : Type 0} (written : W → Option (List ℕ)) (options : Options) (lines : List (List ℕ)) (first : List ℕ) (done : ℕ) (mid after : W) (status : ℕ)
    (outcome : Option Outcome) → ((status ≡ 5) × (after ≡ mid) × IsNone outcome)
    ⊎ ((outcome ≡ Some (outcome_after options lines)) × Writes done status (written mid) (written after) (first ++ closing options lines))
    → Ended options lines first done (written mid) (written after) status outcome
ended_by written options lines first done mid after status outcome (inl (five, still, none)) = inl (five, ap written still, none)
ended_by written options lines first done mid after status outcome (inr told) = inr told

module _ (law : LinesAreHeard) (lawful : OutcomesAreLawful) (options : Options) (sized : IsSized options) (known : Options) (same : known ≡ options)
    (old new before : Option (List ℕ)) (logged : List (List ℕ) → Type 0) (server : ServerData) where
  -- the same, of the options that serving was begun with
  stopped_with : (mid : Option (List ℕ)) (stop : Stop) → HasStopped known old new before mid logged server stop
      → HasStopped options old new before mid logged server stop
  stopped_with mid stop stopped = subst (λ (o : Options). HasStopped o old new before mid logged server stop) same stopped

  module _ {W : Type 0} (written : W → Option (List ℕ)) (mid after : W) (status : ℕ) (outcome : Option Outcome) where
    pub serve_end : HasStopped known old new before (written mid) logged server End
        → ((lines : List (List ℕ)) → Knows lines server → ((status ≡ 5) × (after ≡ mid) × IsNone outcome)
        ⊎ ((outcome ≡ Some (outcome_after server.options lines)) × Writes 0 status (written mid) (written after) ([] ++ closing server.options lines)))
        → Serves options old new before (written after) status outcome
    serve_end stop ends =
        let stopped = stopped_with (written mid) End stop in
        let is = stopped.stops in
        end_told lawful options old new before (written mid) (written after) stopped.bytes stopped.lines status outcome sized stopped.gives stopped.most
        is.0 is.1 is.2 is.3
        (subst (λ (o : Options). Ended o stopped.lines [] 0 (written mid) (written after) status outcome) stopped.options_are
        (ended_by written server.options stopped.lines [] 0 mid after status outcome (ends stopped.lines stopped.knows)))

    pub serve_limit : HasStopped known old new before (written mid) logged server TooLong
        → ((lines : List (List ℕ)) → Knows lines server → ((status ≡ 5) × (after ≡ mid) × IsNone outcome)
        ⊎ ((outcome ≡ Some (outcome_after server.options lines))
        × Writes 2 status (written mid) (written after) (codes "refused E01\n" ++ closing server.options lines)))
        → Serves options old new before (written after) status outcome
    serve_limit stop ends =
        let stopped = stopped_with (written mid) TooLong stop in
        let is = stopped.stops in
        limit_told lawful options old new before (written mid) (written after) stopped.bytes stopped.lines status outcome sized stopped.gives stopped.most
        is.0 is.1 is.2
        (subst (λ (o : Options). Ended o stopped.lines (refusal (Script code.TooLong)) 2 (written mid) (written after) status outcome) stopped.options_are
        (subst (λ (text : List ℕ). Ended server.options stopped.lines text 2 (written mid) (written after) status outcome) (sym too_long_text)
        (ended_by written server.options stopped.lines (codes "refused E01\n") 2 mid after status outcome (ends stopped.lines stopped.knows))))

  module _ (mid : Option (List ℕ)) (outcome : Option Outcome) where
    pub serve_fault : HasStopped known old new before mid logged server ReadFault → IsNone outcome → (status : ℕ) → status ≡ 3
        → Serves options old new before mid status outcome
    serve_fault stop none status three =
        let stopped = stopped_with mid ReadFault stop in
        serves_fault options old new before mid stopped.bytes status outcome stopped.gives stopped.most three none
        (subst (λ (ls : List (List ℕ)). Takes before mid (served options ls)) stopped.stops.0 stopped.stops.1)

    pub serve_want : HasStopped known old new before mid logged server OutOfMemory → IsNone outcome → (status : ℕ) → status ≡ 5
        → Serves options old new before mid status outcome
    serve_want stop none status five =
        let stopped = stopped_with mid OutOfMemory stop in
        serves_starved options old new before mid stopped.bytes status outcome stopped.lines stopped.gives stopped.most (inl five) none
        stopped.stops.0.0 stopped.stops.0.1 stopped.stops.1

    pub serve_lost : HasStopped known old new before mid logged server DiskFault → IsNone outcome → (status : ℕ) → status ≡ 6
        → Serves options old new before mid status outcome
    serve_lost stop none status six =
        let stopped = stopped_with mid DiskFault stop in
        serves_starved options old new before mid stopped.bytes status outcome stopped.lines stopped.gives stopped.most (inr six) none
        stopped.stops.0.0 stopped.stops.0.1 stopped.stops.1

    pub serve_cut : HasStopped known old new before mid logged server WriteFault → {E : Type 0} (result : Result Outcome E) → outcome ≡ result_ok result
        → ((lines : List (List ℕ)) → Knows lines server → IfOk result (λ given. given ≡ outcome_after server.options lines))
        → Serves options old new before mid 4 outcome
    serve_cut stop result is comes =
        let stopped = stopped_with mid WriteFault stop in
        let are = stopped.stops.0 in
        let going : is_ended_by options stopped.lines ≡ false =
        ap (λ (o : Options). is_ended_by o stopped.lines) (sym stopped.options_are) ∙ stopped.knows.no_end in
        let cut_so : IsCut options old new before mid stopped.bytes =
        cut law options old new before mid stopped.bytes stopped.lines stopped.gives are stopped.stops.1 going in
        let given : IfSome outcome (λ given. given ≡ outcome_after server.options stopped.lines) =
        subst (λ (o : Option Outcome). IfSome o (λ given. given ≡ outcome_after server.options stopped.lines)) (sym is)
        (if_ok result (λ given. given ≡ outcome_after server.options stopped.lines) (comes stopped.lines stopped.knows)) in
        serves_cut options old new before mid stopped.bytes 4 outcome cut_so.text stopped.gives stopped.most refl
        (given_is outcome (outcome_after options stopped.lines) (λ given. (count : ℕ) × IsOutcomeOf options (take count (lines_in stopped.bytes)) given)
        (comes_to lawful options stopped.bytes stopped.lines are.first.0 sized are.first.1)
        (subst (λ (o : Options). IfSome outcome (λ given. given ≡ outcome_after o stopped.lines)) stopped.options_are given))
        cut_so.told cut_so.some
