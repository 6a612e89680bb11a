-- Transactions that stand in an order, each over the tables of its start: over the tables before its own place it comes to
-- the same, so that the tables are those of the transactions alone, one after another.
use Rattle.std.proofs.Common.{◌≡◌, ℕ, zero, suc, ◌+◌, ◌-◌, ◌<◌, ◌≤◌, List, [], Option, Some, length, get_or, take, refl, ap, sym, ◌∙◌}
use Rattle.std.proofs.Common.{subst, arith, inl, inr}
use Rattle.std.specs.List.{All, AllByRecursion}
use Rattle.std.proofs.Math.Seq.{take-suc}
use Rattle.std.proofs.lemmas.Bool.{cases_lt}
use Rattle.hy_bound.specs.declared.Bound.{Bound}
use Rattle.hy_bound.specs.Fits.{FitsShape, FitsStatement}
use Rattle.hy_meaning.specs.Serial.{Alone, alone_of, serial}
use Rattle.hy_meaning.specs.Statement.{Database}
use Rattle.hy_machine.specs.declared.Setting.{Setting}
use Rattle.hy_machine.specs.Tables.{Tables, over}
use Rattle.hy_replay.specs.Ran.{Ran, ran}
use Rattle.hy_replay.specs.Laws.{AreTables, DifferUnseen, HaveWidths, RunsAgain, RunsKeepWidths, bags_of}
use Rattle.hy_replay.specs.BagLaws.{IsPosition, RunsAreAlone, alone_as}
use Rattle.hy_lawful.proofs.SerialAlone.{serial_more}

-- statements over the tables of their start, which come to this unseen by what lies between the start and their rank, and
-- are laid over the tables of their rank
pub record RanAt (setting : Setting) (tables : ℕ → Tables) (statements : List Bound) (given : Ran) (rank : ℕ) : Type 0 where
  pub took : List (Option ℕ)
  pub start : ℕ
  pub later : start ≤ rank
  pub came_to : ran setting (tables start) statements took ≡ Some given
  pub stand : All (FitsStatement setting.shapes) statements
  pub positions : AllByRecursion (IsPosition setting) took
  pub unseen : (at : ℕ) → start ≤ at → at < rank → DifferUnseen (tables at) (tables (suc at)) given.own given.records
  pub lays : tables (suc rank) ≡ over (tables rank) given.own

-- transactions that stand in an order, and the tables before and behind each of them
pub record History (setting : Setting) (tables : ℕ → Tables) (transactions : List (List Bound)) : Type 0 where
  pub shapes : All FitsShape setting.shapes
  pub are : (at : ℕ) → AreTables setting (tables at)
  pub wide : HaveWidths setting.shapes (tables 0)
  pub ran : (rank : ℕ) → rank < length transactions → (given : Ran) × RanAt setting tables (get_or transactions rank []) given rank

-- the tables up to a rank have the widths
abbrev WideTo : Setting → (ℕ → Tables) → ℕ → Type 0
WideTo setting tables rank = (at : ℕ) → at ≤ rank → HaveWidths setting.shapes (tables at)

-- so many entries behind their start statements come to the same
again_behind : RunsAgain → (setting : Setting) (tables : ℕ → Tables) (transactions : List (List Bound)) → History setting tables transactions
    → (statements : List Bound) (given : Ran) (rank : ℕ) (h : RanAt setting tables statements given rank) → WideTo setting tables rank
    → (many : ℕ) → h.start + many ≤ rank → ran setting (tables (h.start + many)) statements h.took ≡ Some given
again_behind again setting tables transactions history statements given rank h wide zero below =
    subst (λ (at : ℕ). ran setting (tables at) statements h.took ≡ Some given) (let e : h.start ≡ h.start + 0 = omega arith in e) h.came_to
again_behind again setting tables transactions history statements given rank h wide (suc many) below =
    subst (λ (at : ℕ). ran setting (tables at) statements h.took ≡ Some given)
    (let e : suc (h.start + many) ≡ h.start + suc many = omega arith in e)
    (again setting (tables (h.start + many)) (tables (suc (h.start + many))) statements h.took given history.shapes h.stand
    (history.are (h.start + many)) (history.are (suc (h.start + many))) (wide (h.start + many) (omega arith)) (wide (suc (h.start + many)) (omega arith))
    (again_behind again setting tables transactions history statements given rank h wide many (omega arith))
    (h.unseen (h.start + many) (omega arith) (omega arith)))

-- and so they do at their rank
again_at : RunsAgain → (setting : Setting) (tables : ℕ → Tables) (transactions : List (List Bound)) → History setting tables transactions
    → (statements : List Bound) (given : Ran) (rank : ℕ) (h : RanAt setting tables statements given rank) → WideTo setting tables rank
    → ran setting (tables rank) statements h.took ≡ Some given
again_at again setting tables transactions history statements given rank h wide =
    subst (λ (at : ℕ). ran setting (tables at) statements h.took ≡ Some given) (let e : h.start + (rank - h.start) ≡ rank = omega (arith, h.later) in e)
    (again_behind again setting tables transactions history statements given rank h wide (rank - h.start) (omega (arith, h.later)))

-- all tables have the widths
pub wide_to : RunsAgain → RunsKeepWidths → (setting : Setting) (tables : ℕ → Tables) (transactions : List (List Bound))
    → History setting tables transactions → (rank : ℕ) → rank ≤ length transactions → WideTo setting tables rank
wide_to again keeps setting tables transactions history zero below at least =
    subst (λ (at : ℕ). HaveWidths setting.shapes (tables at)) (let e : 0 ≡ at = omega (arith, least) in e) history.wide
wide_to again keeps setting tables transactions history (suc rank) below at least =
    let so_far : WideTo setting tables rank = wide_to again keeps setting tables transactions history rank (omega (arith, below)) in
    elim (cases_lt at (suc rank)) [
      | inl less ↦ so_far at (omega (arith, less))
      | inr last ↦ let one = history.ran rank (omega (arith, below)) in
          subst (λ (at : ℕ). HaveWidths setting.shapes (tables at)) (let e : suc rank ≡ at = omega (arith, least, last) in e)
          (subst (HaveWidths setting.shapes) (sym one.1.lays)
          (keeps setting (tables rank) (get_or transactions rank []) one.1.took one.0 one.1.stand (history.are rank) (so_far rank (omega arith))
          (again_at again setting tables transactions history (get_or transactions rank []) one.0 rank one.1 so_far)))
    ]

-- over the tables of their rank statements give what they give alone
pub alone_at_rank : RunsAgain → RunsKeepWidths → RunsAreAlone → (setting : Setting) (tables : ℕ → Tables) (transactions : List (List Bound))
    → History setting tables transactions → (statements : List Bound) (given : Ran) (rank : ℕ) → RanAt setting tables statements given rank
    → rank ≤ length transactions → alone_of setting.shapes statements (bags_of (tables rank)) ≡ alone_as (tables rank) given
alone_at_rank again keeps alone setting tables transactions history statements given rank h below =
    alone setting (tables rank) statements h.took given (history.are rank) h.positions
    (again_at again setting tables transactions history statements given rank h
    (wide_to again keeps setting tables transactions history rank below))

-- the tables before a rank have the rows that the transactions before it leave alone, one after another
pub serial_to : RunsAgain → RunsKeepWidths → RunsAreAlone → (setting : Setting) (tables : ℕ → Tables) (transactions : List (List Bound))
    → History setting tables transactions → (rank : ℕ) → rank ≤ length transactions
    → bags_of (tables rank) ≡ serial setting.shapes (take rank transactions) (bags_of (tables 0))
serial_to again keeps alone setting tables transactions history zero below = refl
serial_to again keeps alone setting tables transactions history (suc rank) below =
    let one = history.ran rank (omega (arith, below)) in
    let statements : List Bound = get_or transactions rank [] in
    let db : Database = bags_of (tables 0) in
    let given : alone_of setting.shapes statements (bags_of (tables rank)) ≡ alone_as (tables rank) one.0 =
    alone_at_rank again keeps alone setting tables transactions history statements one.0 rank one.1 (omega (arith, below)) in
    let so_far : bags_of (tables rank) ≡ serial setting.shapes (take rank transactions) db =
    serial_to again keeps alone setting tables transactions history rank (omega (arith, below)) in
    ap bags_of one.1.lays
    ∙ (sym (ap (λ (one : Alone). one.database) given)
    ∙ (ap (λ (before : Database). (alone_of setting.shapes statements before).database) so_far
    ∙ (sym (serial_more setting.shapes (take rank transactions) statements db)
    ∙ ap (λ (some : List (List Bound)). serial setting.shapes some db) (sym (take-suc transactions rank [] (omega (arith, below)))))))
