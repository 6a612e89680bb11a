-- What a call leaves that serves line by line, and what one leaves that does not.
use Rattle.std.proofs.Common.{◌≡◌, ◌⊎◌, ◌∙◌, ℕ, ◌+◌, ◌≤◌, Bool, true, false, List, [], Option, None, Some, IsNone, IfSome, is_some, inl, inr, refl, sym, subst, arith, append-nil, le_refl, le_trans}
use Rattle.std.proofs.Math.Logic.{⊎_elim}
use Rattle.std.proofs.lemmas.Bool.{cases_eq}
use Rattle.hy_limits.specs.declared.TheConstants.{MOST_BYTES}
use Rattle.hy_outside.specs.Telling.{Gives, GivesAtMost, Takes}
use Rattle.hy_render.specs.declared.Outcome.{Outcome}
use Rattle.hy_script.specs.declared.Options.{Options}
use Rattle.hy_script.specs.declared.Script.{Script}
use Rattle.hy_service.specs.Serves.{Serves}
use Rattle.hy_words.specs.declared.Command.{Command}
use Rattle.hy_words.specs.declared.Command.TheVariants.{Serve}
use Rattle.hy_redo.specs.Crashes.{AreLogsOf, IsAsItWas, IsBegun, IsBegunAtMost}
use Rattle.hy_service.specs.Logging.{LogsServing}
use Rattle.hy_top.specs.Program.{does_serve, keeps_log, made_by, reads_script, served_by, uses_disk}
use Rattle.hy_top.specs.Reports.{IsHalfMade}
use Rattle.hy_top.specs.Served.{IsServed, LeavesServed}
use Rattle.hy_top.proofs.Answering.{no_outcome}

-- a command that serves is known to
pub serves_so : (asked : Option Command) (log : Bool) (chunks rows : ℕ) → asked ≡ Some (Serve log chunks rows) → does_serve asked ≡ false → ⊥
serves_so asked log chunks rows is none =
    let other : true ≡ false = subst (λ (a : Option Command). does_serve a ≡ false) is none in
    cc other

-- ---- what is said of commands that read a script, make one, or serve

-- of the one that was asked for
pub reads_so : (asked : Option Command) (command : Command) (P : Command → Type 0) → asked ≡ Some command → P command
    → IfSome asked (λ other. reads_script other ≡ true → P other)
reads_so asked command P is p = subst (λ (a : Option Command). IfSome a (λ other. reads_script other ≡ true → P other)) (sym is) (λ reads. p)

-- of one that reads none
pub reads_none : (asked : Option Command) (command : Command) (P : Command → Type 0) → asked ≡ Some command → reads_script command ≡ false
    → IfSome asked (λ other. reads_script other ≡ true → P other)
reads_none asked command P is otherwise =
    subst (λ (a : Option Command). IfSome a (λ other. reads_script other ≡ true → P other)) (sym is) (λ reads. absurd (cc (reads, otherwise)))

-- of one that serves, which makes none
pub makes_none : (asked : Option Command) (log : Bool) (chunks rows : ℕ) (P : Command → Script → Type 0) → asked ≡ Some (Serve log chunks rows)
    → IfSome asked (λ command. IfSome (made_by command) (P command))
makes_none asked log chunks rows P is = subst (λ (a : Option Command). IfSome a (λ command. IfSome (made_by command) (P command))) (sym is) tt

-- it serves by its own numbers
pub served_so : (asked : Option Command) (log : Bool) (chunks rows : ℕ) (P : Command → Options → Type 0) → asked ≡ Some (Serve log chunks rows)
    → P (Serve log chunks rows) (record { chunks = chunks; rows = rows }) → IfSome asked (λ command. IfSome (served_by command) (P command))
served_so asked log chunks rows P is p = subst (λ (a : Option Command). IfSome a (λ command. IfSome (served_by command) (P command))) (sym is) p

-- it has to do with the disk where it keeps a log
pub uses_so : (asked : Option Command) (log : Bool) (chunks rows : ℕ) → asked ≡ Some (Serve log chunks rows) → uses_disk asked ≡ false → log ≡ false
uses_so asked log chunks rows is none = subst (λ (a : Option Command). uses_disk a ≡ false) is none

pub keeps_so : (asked : Option Command) (log : Bool) (chunks rows : ℕ) (P : Type 0) → asked ≡ Some (Serve log chunks rows) → (log ≡ false → P)
    → IfSome asked (λ command. keeps_log command ≡ false → P)
keeps_so asked log chunks rows P is p = subst (λ (a : Option Command). IfSome a (λ command. keeps_log command ≡ false → P)) (sym is) p

no_options : (served : Option Options) (P : Options → Type 0) → is_some served ≡ false → IfSome served P
no_options None P none = tt
no_options (Some options) P none = absurd (cc none)

-- and another one by none
pub served_otherwise : (asked : Option Command) (command : Command) (P : Command → Options → Type 0) → asked ≡ Some command → does_serve (Some command) ≡ false
    → IfSome asked (λ other. IfSome (served_by other) (P other))
served_otherwise asked command P is none =
    subst (λ (a : Option Command). IfSome a (λ other. IfSome (served_by other) (P other))) (sym is) (no_options (served_by command) (P command) none)

-- ---- what was served

no_bytes_given : (rest : Option (List ℕ)) → Gives rest rest []
no_bytes_given None = tt
no_bytes_given (Some bytes) = refl

no_bytes_taken : (written : Option (List ℕ)) → Takes written written []
no_bytes_taken None = tt
no_bytes_taken (Some bytes) = sym (append-nil bytes)

-- of what is served the source gave one byte more than the limit at most
pub gives_at_most : (options : Options) (rest left before after : Option (List ℕ)) (status : ℕ) (outcome : Option Outcome)
    → Serves options rest left before after status outcome → GivesAtMost rest left (MOST_BYTES + 1)
gives_at_most options rest left before after status outcome served = (served.bytes, served.most, served.gives)

-- none where nothing was read
pub gives_none : (rest : Option (List ℕ)) → GivesAtMost rest rest (MOST_BYTES + 1)
gives_none rest = ([], omega arith, no_bytes_given rest)

-- a status at which nothing is served
abbrev pub IsShort : ℕ → Type 0
IsShort status = (status ≡ 5) ⊎ (status ≡ 6)

short_apart : {A : Type 0} (status other : ℕ) → IsShort status → status ≡ other → (other ≡ 5 → ⊥) → (other ≡ 6 → ⊥) → A
short_apart status other short is not_five not_six =
    absurd (⊎_elim (λ five. not_five (sym is ∙ five)) (λ six. not_six (sym is ∙ six)) short)

-- memory ran out, or the disk failed, before anything was served
pub nothing_served : (options : Options) (rest written : Option (List ℕ)) (status : ℕ) (outcome : Option Outcome) → IsShort status → IsNone outcome
    → Serves options rest rest written written status outcome
nothing_served options rest written status outcome short none = record {
  bytes = [];
  gives = no_bytes_given rest;
  most = omega arith;
  done = λ is. short_apart status 0 short is (λ e. omega (arith, e)) (λ e. omega (arith, e));
  too_long = λ is. short_apart status 2 short is (λ e. omega (arith, e)) (λ e. omega (arith, e));
  read_fault = λ is. short_apart status 3 short is (λ e. omega (arith, e)) (λ e. omega (arith, e));
  write_fault = λ is. short_apart status 4 short is (λ e. omega (arith, e)) (λ e. omega (arith, e));
  no_memory = λ is. (0, no_bytes_taken written);
  disk_fault = λ is. (0, no_bytes_taken written);
  outcome_is = no_outcome _ outcome none;
  of_all = λ is. no_outcome _ outcome none;
  of_whole = λ is. no_outcome _ outcome none;
  outcome_there = λ is.
      ⊎_elim (λ zero. short_apart status 0 short zero (λ e. omega (arith, e)) (λ e. omega (arith, e)))
      (λ two. short_apart status 2 short two (λ e. omega (arith, e)) (λ e. omega (arith, e))) is;
  no_outcome = λ is. none;
}

nothing_served_by : (held : Option (List ℕ)) (keeps : Bool) (served : Option Options) (rest written : Option (List ℕ))
    → IfSome served (λ options. IsServed held keeps options rest rest written written 5 None)
nothing_served_by held keeps None rest written = tt
nothing_served_by held keeps (Some options) rest written =
    let none : IsNone {T = Outcome} None = search in
    inl (nothing_served options rest written 5 None (inl refl) none)

pub nothing_asked_served : (held : Option (List ℕ)) (asked : Option Command) (rest written : Option (List ℕ))
    → IfSome asked (λ command. IfSome (served_by command) (λ options. IsServed held (keeps_log command) options rest rest written written 5 None))
nothing_asked_served held None rest written = tt
nothing_asked_served held (Some command) rest written = nothing_served_by held (keeps_log command) (served_by command) rest written

-- a disk that is not there has not failed: that is told as want of memory
pub as_memory : (options : Options) (rest left before after : Option (List ℕ)) (outcome : Option Outcome)
    → Serves options rest left before after 6 outcome → Serves options rest left before after 5 outcome
as_memory options rest left before after outcome served = record {
  bytes = served.bytes;
  gives = served.gives;
  most = served.most;
  done = λ is. absurd (omega (arith, is));
  too_long = λ is. absurd (omega (arith, is));
  read_fault = λ is. absurd (omega (arith, is));
  write_fault = λ is. absurd (omega (arith, is));
  no_memory = λ is. served.disk_fault refl;
  disk_fault = λ is. served.disk_fault refl;
  outcome_is = served.outcome_is;
  of_all = λ is. absurd (omega (arith, is));
  of_whole = λ is. absurd (omega (arith, is));
  outcome_there = λ is. absurd (⊎_elim (λ zero. omega (arith, zero)) (λ two. omega (arith, two)) is);
  no_outcome = λ is. served.no_outcome (inr (inr refl));
}

-- so it is with a status where there is no disk
module _ (status shown : ℕ) (failed : status ≡ 6 → shown ≡ 5) (others : (status ≡ 6 → ⊥) → shown ≡ status) where
  pub unlogged : (options : Options) (rest left before after : Option (List ℕ)) (outcome : Option Outcome)
      → Serves options rest left before after status outcome → Serves options rest left before after shown outcome
  unlogged options rest left before after outcome served = elim (cases_eq status 6) [
    | inl six ↦
        subst (λ (s : ℕ). Serves options rest left before after s outcome) (sym (failed six))
        (as_memory options rest left before after outcome (subst (λ (s : ℕ). Serves options rest left before after s outcome) six served))
    | inr other ↦ subst (λ (s : ℕ). Serves options rest left before after s outcome) (sym (others other)) served
  ]

  -- another status than these two is shown as it is
  pub shown_is : (code : ℕ) → (code ≡ 5 → ⊥) → shown ≡ code → status ≡ code
  shown_is code not_five is = elim (cases_eq status 6) [
    | inl six ↦ absurd (not_five (sym is ∙ failed six))
    | inr other ↦ sym (others other) ∙ is
  ]

  pub shown_as : (code : ℕ) → (code ≡ 6 → ⊥) → (shown ≡ code → ⊥) → status ≡ code → ⊥
  shown_as code not_six apart is = apart (others (λ six. not_six (sym is ∙ six)) ∙ is)

-- ---- what a crash leaves

-- memory ran out before anything was asked of the disk
pub nothing_left : {D : Type 0} (held : D → Option (List ℕ)) (clock : D → ℕ) (image : D → List ℕ → Type 0) (image_since : D → ℕ → List ℕ → Type 0)
    (options : Options) (rest left : Option (List ℕ)) (status : ℕ) (outcome : Option Outcome) (before after : D) → IsNone outcome
    → IsAsItWas held clock image image_since before after
    → LeavesServed held clock image image_since options rest left status outcome before after
nothing_left held clock image image_since options rest left status outcome before after none stays = record {
  stays = λ seven. stays;
  kept = inr (none, inl stays);
  safe = record { later = stays.stays.later; moments = λ time bytes le at. inl (stays.stays.moments time bytes le at) };
}

as_it_was : {D : Type 0} (held : D → Option (List ℕ)) (clock : D → ℕ) (image : D → List ℕ → Type 0) (image_since : D → ℕ → List ℕ → Type 0) (disk : D)
    → IsAsItWas held clock image image_since disk disk
as_it_was held clock image image_since disk = record {
  reads = refl;
  stays = record { later = le_refl (clock disk); images = λ bytes left. left; moments = λ time bytes le left. left };
}

nothing_left_by : {D : Type 0} (held : D → Option (List ℕ)) (clock : D → ℕ) (image : D → List ℕ → Type 0) (image_since : D → ℕ → List ℕ → Type 0)
    (keeps : Bool) (served : Option Options) (rest left : Option (List ℕ)) (disk : D)
    → IfSome served (λ options. keeps ≡ true → LeavesServed held clock image image_since options rest left 5 None disk disk)
nothing_left_by held clock image image_since keeps None rest left disk = tt
nothing_left_by held clock image image_since keeps (Some options) rest left disk = λ on.
    let none : IsNone {T = Outcome} None = search in
    nothing_left held clock image image_since options rest left 5 None disk disk none (as_it_was held clock image image_since disk)

pub nothing_asked_left : {D : Type 0} (held : D → Option (List ℕ)) (clock : D → ℕ) (image : D → List ℕ → Type 0) (image_since : D → ℕ → List ℕ → Type 0)
    (asked : Option Command) (rest left : Option (List ℕ)) (disk : D)
    → IfSome asked (λ command. IfSome (served_by command) (λ options. keeps_log command ≡ true
    → LeavesServed held clock image image_since options rest left 5 None disk disk))
nothing_asked_left held clock image image_since None rest left disk = tt
nothing_asked_left held clock image image_since (Some command) rest left disk =
    nothing_left_by held clock image image_since (keeps_log command) (served_by command) rest left disk

half_made : {D : Type 0} (held : D → Option (List ℕ)) (clock : D → ℕ) (image : D → List ℕ → Type 0) (image_since : D → ℕ → List ℕ → Type 0)
    (before after : D) → IsBegun held clock image image_since before after → (time : ℕ) (bytes : List ℕ) → time ≤ clock before
    → image_since after time bytes → image_since before time bytes ⊎ IsHalfMade (held before) (image before) bytes
half_made held clock image image_since before after begun time bytes le left =
    ⊎_elim (λ earlier. inl earlier) (λ touched. inr (record { empty = begun.empty; touched = touched })) (begun.writes.moments time bytes le left)

-- the disk failed while the log was made, or before
pub making_failed : {D : Type 0} (held : D → Option (List ℕ)) (clock : D → ℕ) (image : D → List ℕ → Type 0) (image_since : D → ℕ → List ℕ → Type 0)
    (options : Options) (rest left : Option (List ℕ)) (status : ℕ) (outcome : Option Outcome) (before after : D) → (status ≡ 7 → ⊥) → IsNone outcome
    → IsBegunAtMost held clock image image_since before after
    → LeavesServed held clock image image_since options rest left status outcome before after
making_failed held clock image image_since options rest left status outcome before after other none (inl stays) =
    nothing_left held clock image image_since options rest left status outcome before after none stays
making_failed held clock image image_since options rest left status outcome before after other none (inr begun) = record {
  stays = λ seven. absurd (other seven);
  kept = inr (none, inr begun);
  safe = record {
    later = begun.writes.later;
    moments = λ time bytes le at.
        ⊎_elim (λ earlier. inl earlier) (λ half. inr (inl half)) (half_made held clock image image_since before after begun time bytes le at);
  };
}

-- a log was made, and lines were served with it
pub served_logged : {D : Type 0} (held : D → Option (List ℕ)) (clock : D → ℕ) (image : D → List ℕ → Type 0) (image_since : D → ℕ → List ℕ → Type 0)
    (options : Options) (rest left : Option (List ℕ)) (status : ℕ) (outcome : Option Outcome) (before made after : D) (gate : ℕ) → (status ≡ 7 → ⊥)
    → IsBegun held clock image image_since before made → AreLogsOf (image made) [] gate
    → LogsServing clock image image_since options rest left status outcome made after
    → LeavesServed held clock image image_since options rest left status outcome before after
served_logged held clock image image_since options rest left status outcome before made after gate other begun empty serves = record {
  stays = λ seven. absurd (other seven);
  kept = inl (record { made = made; making = begun; gate = gate; empty = empty; serves = serves });
  safe = record {
    later = le_trans begun.writes.later serves.logs.later;
    moments = λ time bytes le at.
        ⊎_elim (λ earlier. ⊎_elim (λ old. inl old) (λ half. inr (inl half)) (half_made held clock image image_since before made begun time bytes le earlier))
        (λ is. inr (inr (serves.bytes, serves.gives, is))) (serves.logs.moments time bytes (le_trans le begun.writes.later) at);
  };
}
