-- What a report answers, by the code of its status.
use Rattle.std.proofs.Common.{◌≡◌, ℕ, Bool, true, List, Option, None, Some, IfSome, ◌⊎◌, inl, inr, sym, subst, ◌∙◌}
use Rattle.std.proofs.Math.Logic.{⊎_elim}
use Rattle.hy_script.specs.declared.Options.{Options}
use Rattle.hy_script.specs.declared.Script.{Script}
use Rattle.hy_render.specs.declared.Outcome.{Outcome}
use Rattle.hy_words.specs.declared.Command.{Command}
use Rattle.hy_top.specs.Program.{keeps_log, made_by, reads_script, served_by}
use Rattle.hy_top.specs.Reports.{IsAnswered, Makes}
use Rattle.hy_top.specs.Served.{IsServed, LeavesServed}

-- a code that is the status answers what the report answers
pub answers_by_code : {D : Type 0} (held : D → Option (List ℕ)) (clock : D → ℕ) (image : D → List ℕ → Type 0) (image_since : D → ℕ → List ℕ → Type 0)
    (asked : Option Command) (rest : Option (List ℕ)) (status code : ℕ) (outcome : Option Outcome) (before after : Option (List ℕ)) (old new : D)
    → code ≡ status
    → IfSome asked (λ command. reads_script command ≡ true
    → (status ≡ 3) ⊎ IsAnswered held clock image image_since command rest status outcome before after old new)
    → IfSome asked (λ command. reads_script command ≡ true
    → (code ≡ 3) ⊎ ((given : Option Outcome) × IsAnswered held clock image image_since command rest code given before after old new))
answers_by_code held clock image image_since None rest status code outcome before after old new same h = tt
answers_by_code held clock image image_since (Some command) rest status code outcome before after old new same h = λ reads.
    ⊎_elim (λ fault. inl (same ∙ fault))
    (λ answer. inr (outcome, subst (λ (s : ℕ). IsAnswered held clock image image_since command rest s outcome before after old new) (sym same) answer))
    (h reads)

-- and what is made
made_so : {S : Type 0} (command : Command) (made : Option Script) (old new : S) (status code : ℕ) (outcome : Option Outcome) (before after : Option (List ℕ)) → code ≡ status
    → IfSome made (λ script. (new ≡ old) × Makes command script status outcome before after)
    → IfSome made (λ script. (new ≡ old) × ((given : Option Outcome) × Makes command script code given before after))
made_so command None old new status code outcome before after same h = tt
made_so command (Some script) old new status code outcome before after same h =
    (h.0, (outcome, subst (λ (s : ℕ). Makes command script s outcome before after) (sym same) h.1))

pub made_by_code : {S : Type 0} (asked : Option Command) (old new : S) (status code : ℕ) (outcome : Option Outcome) (before after : Option (List ℕ)) → code ≡ status
    → IfSome asked (λ command. IfSome (made_by command) (λ script. (new ≡ old) × Makes command script status outcome before after))
    → IfSome asked (λ command. IfSome (made_by command) (λ script. (new ≡ old) × ((given : Option Outcome) × Makes command script code given before after)))
made_by_code None old new status code outcome before after same h = tt
made_by_code (Some command) old new status code outcome before after same h =
    made_so command (made_by command) old new status code outcome before after same h

-- and what is served
served_so : {D : Type 0} (held : D → Option (List ℕ)) (clock : D → ℕ) (image : D → List ℕ → Type 0) (image_since : D → ℕ → List ℕ → Type 0)
    (keeps : Bool) (served : Option Options) (old new before after : Option (List ℕ)) (first last : D) (status code : ℕ) (outcome : Option Outcome)
    → code ≡ status → IfSome served (λ options. IsServed (held first) keeps options old new before after status outcome)
    → IfSome served (λ options. keeps ≡ true → LeavesServed held clock image image_since options old new status outcome first last)
    → IfSome served (λ options. (given : Option Outcome) × IsServed (held first) keeps options old new before after code given
    × (keeps ≡ true → LeavesServed held clock image image_since options old new code given first last))
served_so held clock image image_since keeps None old new before after first last status code outcome same h k = tt
served_so held clock image image_since keeps (Some options) old new before after first last status code outcome same h k = (
  outcome,
  subst (λ (s : ℕ). IsServed (held first) keeps options old new before after s outcome) (sym same) h,
  λ on. subst (λ (s : ℕ). LeavesServed held clock image image_since options old new s outcome first last) (sym same) (k on),
)

pub served_by_code : {D : Type 0} (held : D → Option (List ℕ)) (clock : D → ℕ) (image : D → List ℕ → Type 0) (image_since : D → ℕ → List ℕ → Type 0)
    (asked : Option Command) (old new before after : Option (List ℕ)) (first last : D) (status code : ℕ) (outcome : Option Outcome) → code ≡ status
    → IfSome asked (λ command. IfSome (served_by command) (λ options. IsServed (held first) (keeps_log command) options old new before after status outcome))
    → IfSome asked (λ command. IfSome (served_by command) (λ options. keeps_log command ≡ true
    → LeavesServed held clock image image_since options old new status outcome first last))
    → IfSome asked (λ command. IfSome (served_by command) (λ options. (given : Option Outcome)
    × IsServed (held first) (keeps_log command) options old new before after code given
    × (keeps_log command ≡ true → LeavesServed held clock image image_since options old new code given first last)))
served_by_code held clock image image_since None old new before after first last status code outcome same h k = tt
served_by_code held clock image image_since (Some command) old new before after first last status code outcome same h k =
    served_so held clock image image_since (keeps_log command) (served_by command) old new before after first last status code outcome same h k
