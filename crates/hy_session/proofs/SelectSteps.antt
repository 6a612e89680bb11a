-- What comes of a visit of a SELECT: it goes on, or it answers.
use Rattle.std.proofs.Common.{◌≡◌, ℕ, suc, ◌+◌, ◌*◌, ◌/◌, ◌<◌, ◌≤◌, Bool, cond, List, [], length, ap, sym, ◌∙◌, subst, arith, Some, None, add-one}
use Rattle.std.specs.Prelude.{slice_get}
use Rattle.std.proofs.lemmas.Bool.{lt-ltb, le-ltb}
use Rattle.hy_stamp.specs.declared.Viewer.{Viewer}
use Rattle.hy_bound.specs.declared.Bound.{Bound}
use Rattle.hy_bound.specs.declared.Record.{Record}
use Rattle.hy_bound.specs.declared.Reply.{Reply}
use Rattle.hy_plan.specs.Cells.{GatheredRows}
use Rattle.hy_plan.specs.declared.PlanPart.{PlanPart}
use Rattle.hy_plan.specs.Reads.{records_of}
use Rattle.hy_meaning.specs.Statement.{Table}
use Rattle.hy_gathered.specs.Answers.{spread_all}
use Rattle.hy_undo.specs.Places.{Place}
use Rattle.hy_value.specs.declared.change.Change.{Change}
use Rattle.hy_event.specs.declared.SessionData.{SessionData}
use Rattle.hy_event.specs.declared.Open.{Open}
use Rattle.hy_protocol.specs.declared.Phase.TheVariants.{Working}
use Rattle.hy_event.specs.Gathering.{ReadPlan, conditions_by, joined_columns, rows_gathered, with_rows}
use Rattle.hy_event.specs.Reading.{gathered_with, read_turn}
use Rattle.hy_event.specs.Sessions.{viewer_of}
use Rattle.hy_protocol.specs.Turns.{Turn, Answers, Visits, goes_on}
use Rattle.hy_event.specs.Turns.{answer_turn}
use Rattle.hy_session.specs.declared.reading.ReadStep.TheVariants.{More, Answer}
use Rattle.hy_visit.specs.Readers.{IsPlanOf}
use Rattle.hy_session.specs.Reading.{IsStep}

-- the rows that are taken of positions for a part, by what was gathered before
abbrev pub taken_by : Viewer → PlanPart → List PlanPart → List Table → List Place → Table
taken_by viewer part parts gathered places =
    rows_gathered viewer part (conditions_by part.pred part.lookup (joined_columns parts (spread_all parts gathered))) places

-- those that a visit takes
abbrev pub rows_taken : SessionData → Open → ReadPlan → PlanPart → List Place → Table
rows_taken session now plan part places = taken_by (viewer_of session now) part plan.parts now.gathered places

pub taken_same : (viewer who : Viewer) (part : PlanPart) (list parts : List PlanPart) (before gathered : List Table) (places : List Place) → viewer ≡ who
    → list ≡ parts → before ≡ gathered → taken_by viewer part list before places ≡ taken_by who part parts gathered places
taken_same viewer who part list parts before gathered places one two three =
    ap (λ (v : Viewer). taken_by v part list before places) one
    ∙ (ap (λ (those : List PlanPart). taken_by who part those before places) two
    ∙ ap (λ (tables : List Table). taken_by who part parts tables places) three)

abbrev turn_if : SessionData → Open → ℕ → Bound → List Table → Reply → Bool → Turn Change
turn_if session now visited statement gathered reply more =
    cond more (goes_on visited) (answer_turn session now statement gathered [] reply None)

goes_on_turn : (session : SessionData) (now : Open) (visited tables next : ℕ) (statement : Bound) (gathered : List Table) (reply : Reply)
    → next ≡ visited + 1 → next < session.chunks * tables → Visits [] (Working next 0) ≡ read_turn session now visited tables statement gathered reply
goes_on_turn session now visited tables next statement gathered reply one left =
    let same : next ≡ suc visited = one ∙ add-one visited in
    let below : suc visited < session.chunks * tables = omega (arith, same, left) in
    ap (λ (n : ℕ). Visits [] (Working n 0)) same
    ∙ sym (ap (turn_if session now visited statement gathered reply) (lt-ltb (suc visited) (session.chunks * tables) below))

answers_turn : (session : SessionData) (now : Open) (visited tables next : ℕ) (statement : Bound) (gathered : List Table) (reply : Reply)
    → next ≡ visited + 1 → session.chunks * tables ≤ next
    → answer_turn session now statement gathered [] reply None ≡ read_turn session now visited tables statement gathered reply
answers_turn session now visited tables next statement gathered reply one done =
    let same : next ≡ suc visited = one ∙ add-one visited in
    let above : session.chunks * tables ≤ suc visited = omega (arith, same, done) in
    sym (ap (turn_if session now visited statement gathered reply) (le-ltb (suc visited) (session.chunks * tables) above))

-- a test of a product, of other names for its numbers
pub less_by : (a b n x y m : ℕ) → a ≡ x → b ≡ y → n ≡ m → a < b * n → x < y * m
less_by a b n x y m one two three h =
    subst (λ (k : ℕ). k < y * m) one (subst (λ (k : ℕ). a < k * m) two (subst (λ (k : ℕ). a < b * k) three h))

pub most_by : (a b n x y m : ℕ) → a ≡ x → b ≡ y → n ≡ m → b * n ≤ a → y * m ≤ x
most_by a b n x y m one two three h =
    subst (λ (k : ℕ). y * m ≤ k) one (subst (λ (k : ℕ). k * m ≤ a) two (subst (λ (k : ℕ). b * k ≤ a) three h))

-- it goes on
pub more_step : (session : SessionData) (now : Open) (visited : ℕ) (statement : Bound) (places : List Place) (plan : ReadPlan) (part : PlanPart)
    (number next : ℕ) (piece : GatheredRows) → IsPlanOf session.shapes statement plan → slice_get plan.parts (visited / session.chunks) ≡ Some part
    → number ≡ visited / session.chunks → next ≡ visited + 1 → next < session.chunks * plan.tables → piece.rows ≡ rows_taken session now plan part places
    → IsStep session now visited statement places (More number piece next)
more_step session now visited statement places plan part number next piece planned found at one left rows =
    let gathered : List Table = gathered_with session now plan (visited / session.chunks) part places in
    record {
      plan = plan;
      part = part;
      planned = planned;
      found = found;
      keeps = ap (λ (n : ℕ). with_rows n (rows_taken session now plan part places) now.gathered) (sym at)
          ∙ ap (λ (taken : Table). with_rows number taken now.gathered) (sym rows);
      turn = goes_on_turn session now visited plan.tables next statement (spread_all plan.parts gathered) (plan.reply gathered) one left;
    }

-- or it answers
pub answer_step : (session : SessionData) (now : Open) (visited : ℕ) (statement : Bound) (places : List Place) (plan : ReadPlan) (part : PlanPart)
    (number next : ℕ) (piece : GatheredRows) (reply : Reply) (records : List Record) → IsPlanOf session.shapes statement plan
    → slice_get plan.parts (visited / session.chunks) ≡ Some part → number ≡ visited / session.chunks → next ≡ visited + 1
    → session.chunks * plan.tables ≤ next → piece.rows ≡ rows_taken session now plan part places
    → reply ≡ plan.reply (with_rows number piece.rows now.gathered)
    → records ≡ records_of session.shapes (length now.replies + 1) statement (spread_all plan.parts (with_rows number piece.rows now.gathered))
    → IsStep session now visited statement places (Answer reply records)
answer_step session now visited statement places plan part number next piece reply records planned found at one done rows told logged =
    let gathered : List Table = gathered_with session now plan (visited / session.chunks) part places in
    let same : with_rows number piece.rows now.gathered ≡ gathered =
    ap (λ (taken : Table). with_rows number taken now.gathered) rows
    ∙ ap (λ (n : ℕ). with_rows n (rows_taken session now plan part places) now.gathered) at in
    let read : ℕ → List Table → List Record = λ n tables. records_of session.shapes n statement (spread_all plan.parts tables) in
    let those : records ≡ read (suc (length now.replies)) gathered =
    logged ∙ (ap (λ (n : ℕ). read n (with_rows number piece.rows now.gathered)) (add-one (length now.replies)) ∙ ap (read (suc (length now.replies))) same) in
    let answers : Answers [] reply None records ≡ answer_turn session now statement (spread_all plan.parts gathered) [] (plan.reply gathered) None =
    ap (λ (r : Reply). Answers [] r None records) (told ∙ ap plan.reply same)
    ∙ ap (λ (rs : List Record). Answers [] (plan.reply gathered) None rs) those in
    record {
      plan = plan;
      part = part;
      planned = planned;
      found = found;
      keeps = tt;
      turn = answers ∙ answers_turn session now visited plan.tables next statement (spread_all plan.parts gathered) (plan.reply gathered) one done;
    }
