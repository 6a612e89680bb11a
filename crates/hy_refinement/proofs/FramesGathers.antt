-- What is gathered chunk by chunk for the parts of a plan.
use Rattle.std.proofs.Common.{◌≡◌, ℕ, zero, suc, ◌+◌, ◌-◌, ◌*◌, ◌<◌, ◌≤◌, List, [], ◌∷◌, ◌++◌, length, map, take, get_or, min, Some, Bool, cond}
use Rattle.std.proofs.Common.{refl, sym, ap, ◌∙◌, arith, subst, append_assoc, length-append}
use Rattle.std.specs.Prelude.{slice_get, filter}
use Rattle.std.proofs.lemmas.Bool.{ne_eqb}
use Rattle.std.proofs.lemmas.List.{append-nil}
use Rattle.std.proofs.lemmas.Option.{same_Some}
use Rattle.hy_meaning.specs.Statement.{Table}
use Rattle.hy_plan.specs.declared.PlanPart.{PlanPart}
use Rattle.hy_bound.specs.Changes.{present}
use Rattle.hy_bound.specs.Projection.{projected}
use Rattle.hy_plan.specs.Reads.{is_read_of}
use Rattle.hy_gathered.specs.Answers.{spread_all}
use Rattle.hy_event.specs.Gathering.{with_rows, joined_columns, conditions_by}
use Rattle.hy_machine.specs.declared.Setting.{Setting}
use Rattle.hy_machine.specs.Tables.{Tables}
use Rattle.hy_refinement.specs.Sessions.{rows_taken, tables_taken}

-- ---- lists of tables

with_first : (before : List Table) (new : Table) → with_rows (length before) new before ≡ before ++ new ∷ []
with_first [] new = refl
with_first (rows ∷ before) new = ap (λ (tables : List Table). rows ∷ tables) (with_first before new)

with_further : (before : List Table) (rows new : Table) → with_rows (length before) new (before ++ rows ∷ []) ≡ before ++ (rows ++ new) ∷ []
with_further [] rows new = refl
with_further (one ∷ before) rows new = ap (λ (tables : List Table). one ∷ tables) (with_further before rows new)

-- one more stands behind others
behind_length : (before : List Table) (rows : Table) (turn : ℕ) → length (before ++ rows ∷ []) + turn ≡ length before + suc turn
behind_length before rows turn = let e = length-append before (rows ∷ []) in omega (arith, e)

-- ---- the tables that have something

module _ (setting : Setting) (tables : Tables) (all : List PlanPart) where
  -- so much is taken, and no more
  none_left : (before : List Table) (others : List PlanPart) → tables_taken setting tables all 0 before others ≡ before
  none_left before [] = refl
  none_left before (part ∷ others) = refl

  taken_next : (left : ℕ) (before : List Table) (part : PlanPart) (others : List PlanPart) → 0 < left
      → tables_taken setting tables all left before (part ∷ others)
      ≡ tables_taken setting tables all (left - setting.chunks) (before ++ rows_taken setting tables all (min left setting.chunks) before part ∷ []) others
  taken_next left before part others some =
      ap (λ (b : Bool). cond b before (tables_taken setting tables all (left - setting.chunks)
      (before ++ rows_taken setting tables all (min left setting.chunks) before part ∷ []) others)) (ne_eqb left 0 (λ e. absurd (omega (arith, some, e))))

  -- the last table of which chunks are taken
  pub at_last : (left : ℕ) (before : List Table) (part : PlanPart) (others : List PlanPart) → 0 < left → left ≤ setting.chunks
      → tables_taken setting tables all left before (part ∷ others) ≡ before ++ rows_taken setting tables all left before part ∷ []
  at_last left before part others some most =
      taken_next left before part others some
      ∙ (ap (λ (n : ℕ). tables_taken setting tables all n (before ++ rows_taken setting tables all (min left setting.chunks) before part ∷ []) others)
      (let e : left - setting.chunks ≡ 0 = omega (arith, most) in e)
      ∙ (none_left (before ++ rows_taken setting tables all (min left setting.chunks) before part ∷ []) others
      ∙ ap (λ (n : ℕ). before ++ rows_taken setting tables all n before part ∷ []) (let e : min left setting.chunks ≡ left = omega (arith, most) in e)))

  -- a table of which all chunks are taken
  passed : (left more : ℕ) (before : List Table) (part : PlanPart) (others : List PlanPart) → 0 < setting.chunks → left ≡ setting.chunks + more
      → tables_taken setting tables all left before (part ∷ others)
      ≡ tables_taken setting tables all more (before ++ rows_taken setting tables all setting.chunks before part ∷ []) others
  passed left more before part others some is =
      taken_next left before part others (omega (arith, some, is))
      ∙ (ap (λ (n : ℕ). tables_taken setting tables all n (before ++ rows_taken setting tables all (min left setting.chunks) before part ∷ []) others)
      (let e : left - setting.chunks ≡ more = omega (arith, is) in e)
      ∙ ap (λ (n : ℕ). tables_taken setting tables all more (before ++ rows_taken setting tables all n before part ∷ []) others)
      (let e : min left setting.chunks ≡ setting.chunks = omega (arith, is) in e))

  -- ---- one visit more

  -- these rows of a part are what one chunk more gives, whatever was taken of the tables before it
  abbrev AreNext : List Table → ℕ → List Table → ℕ → PlanPart → Table → Type 0
  AreNext before turn gathered chunk part new' =
      (earlier more : List Table) → length earlier ≡ length before + turn → gathered ≡ earlier ++ more
      → rows_taken setting tables all (suc chunk) earlier part ≡ rows_taken setting tables all chunk earlier part ++ new'

  first_visit : (before : List Table) (part : PlanPart) (others : List PlanPart) (chunk : ℕ) (new' : Table) → chunk < setting.chunks
      → AreNext before 0 (tables_taken setting tables all chunk before (part ∷ others)) chunk part new'
      → with_rows (length before) new' (tables_taken setting tables all chunk before (part ∷ others))
      ≡ tables_taken setting tables all (suc chunk) before (part ∷ others)
  first_visit before part others zero new' below next =
      with_first before new'
      ∙ (ap (λ (rows : Table). before ++ rows ∷ []) (sym (next before [] (omega arith) (sym (append-nil before)) ∙ ap (λ (rows : Table). rows ++ new') nothing))
      ∙ sym (at_last (suc zero) before part others (omega arith) (omega (arith, below))))
    where
      nothing : rows_taken setting tables all zero before part ≡ []
      nothing =
          ap (λ (n : ℕ). map (projected part.columns) (filter (is_read_of (conditions_by part.pred part.lookup (joined_columns all (spread_all all before))))
          (present (take n (get_or tables part.table []))))) (let e : zero * setting.rows ≡ zero = omega arith in e)
  first_visit before part others (suc chunk) new' below next =
      let last = at_last (suc chunk) before part others (omega arith) (omega (arith, below)) in
      ap (with_rows (length before) new') last
      ∙ (with_further before (rows_taken setting tables all (suc chunk) before part) new'
      ∙ (ap (λ (rows : Table). before ++ rows ∷ [])
      (sym (next before (rows_taken setting tables all (suc chunk) before part ∷ []) (omega arith) last))
      ∙ sym (at_last (suc (suc chunk)) before part others (omega arith) (omega (arith, below)))))

  pub one_more : (before : List Table) (others : List PlanPart) (turn chunk : ℕ) (part : PlanPart) (new' : Table) → chunk < setting.chunks
      → slice_get others turn ≡ Some part
      → AreNext before turn (tables_taken setting tables all (turn * setting.chunks + chunk) before others) chunk part new'
      → with_rows (length before + turn) new' (tables_taken setting tables all (turn * setting.chunks + chunk) before others)
      ≡ tables_taken setting tables all (suc (turn * setting.chunks + chunk)) before others
  one_more before [] turn chunk part new' below e next = absurd cc
  one_more before (first ∷ others) zero chunk part new' below e next =
      let same : first ≡ part = same_Some first part e in
      let count : zero * setting.chunks + chunk ≡ chunk = omega arith in
      let none : length before + zero ≡ length before = omega arith in
      subst (λ (n : ℕ). with_rows (length before + zero) new' (tables_taken setting tables all n before (first ∷ others))
      ≡ tables_taken setting tables all (suc n) before (first ∷ others)) (sym count)
      (subst (λ (n : ℕ). with_rows n new' (tables_taken setting tables all chunk before (first ∷ others))
      ≡ tables_taken setting tables all (suc chunk) before (first ∷ others)) (sym none)
      (first_visit before first others chunk new' below
      (subst (λ (one : PlanPart). AreNext before 0 (tables_taken setting tables all chunk before (first ∷ others)) chunk one new') (sym same)
      (subst (λ (n : ℕ). AreNext before 0 (tables_taken setting tables all n before (first ∷ others)) chunk part new') count next))))
  one_more before (first ∷ others) (suc turn) chunk part new' below e next =
      let left : ℕ = suc turn * setting.chunks + chunk in
      let rest : ℕ = turn * setting.chunks + chunk in
      let rows : Table = rows_taken setting tables all setting.chunks before first in
      let some : 0 < setting.chunks = omega (arith, below) in
      let is : left ≡ setting.chunks + rest = omega arith in
      let past = passed left rest before first others some is in
      ap (with_rows (length before + suc turn) new') past
      ∙ (ap (λ (n : ℕ). with_rows n new' (tables_taken setting tables all rest (before ++ rows ∷ []) others)) (sym (behind_length before rows turn))
      ∙ (one_more (before ++ rows ∷ []) others turn chunk part new' below e
      (λ earlier more long is'. next earlier more (long ∙ behind_length before rows turn) (past ∙ is'))
      ∙ sym (passed (suc left) (suc rest) before first others some (omega (arith, is)))))

  -- ---- when all is taken

  abbrev pub whole : List Table → List PlanPart → List Table
  whole before others = tables_taken setting tables all (length others * setting.chunks) before others

  whole_next : (before : List Table) (part : PlanPart) (others : List PlanPart) → 0 < setting.chunks
      → whole before (part ∷ others) ≡ whole (before ++ rows_taken setting tables all setting.chunks before part ∷ []) others
  whole_next before part others some =
      passed (length (part ∷ others) * setting.chunks) (length others * setting.chunks) before part others some
      (let e : suc (length others) * setting.chunks ≡ setting.chunks + length others * setting.chunks = omega arith in e)

  -- it stands behind what was taken before
  whole_behind : (before : List Table) (others : List PlanPart) → 0 < setting.chunks → (more : List Table) × (whole before others ≡ before ++ more)
  whole_behind before [] some = ([], sym (append-nil before))
  whole_behind before (part ∷ others) some =
      let rows : Table = rows_taken setting tables all setting.chunks before part in
      let later = whole_behind (before ++ rows ∷ []) others some in
      (rows ∷ later.0, whole_next before part others some ∙ (later.1 ∙ append_assoc before (rows ∷ []) later.0))

  pub whole_length : (before : List Table) (others : List PlanPart) → 0 < setting.chunks → length (whole before others) ≡ length before + length others
  whole_length before [] some = omega arith
  whole_length before (part ∷ others) some =
      let rows : Table = rows_taken setting tables all setting.chunks before part in
      let next = ap (λ (taken : List Table). length taken) (whole_next before part others some) in
      let later = whole_length (before ++ rows ∷ []) others some in
      let more = length-append before (rows ∷ []) in
      omega (arith, next, later, more)

  got_at : (before : List Table) (rows : Table) (more : List Table) → slice_get (before ++ rows ∷ more) (length before) ≡ Some rows
  got_at [] rows more = refl
  got_at (one ∷ before) rows more = got_at before rows more

  taken_at : (before : List Table) (more : List Table) → take (length before) (before ++ more) ≡ before
  taken_at [] more = refl
  taken_at (one ∷ before) more = ap (λ (xs : List Table). one ∷ xs) (taken_at before more)

  -- of each table all rows that its part takes after the tables before it
  pub whole_at : (before : List Table) (others : List PlanPart) (turn : ℕ) (part : PlanPart) → 0 < setting.chunks → slice_get others turn ≡ Some part
      → slice_get (whole before others) (length before + turn)
      ≡ Some (rows_taken setting tables all setting.chunks (take (length before + turn) (whole before others)) part)
  whole_at before [] turn part some e = absurd cc
  whole_at before (first ∷ others) zero part some e =
      let rows : Table = rows_taken setting tables all setting.chunks before first in
      let later = whole_behind (before ++ rows ∷ []) others some in
      let is : whole before (first ∷ others) ≡ before ++ rows ∷ later.0 =
      whole_next before first others some ∙ (later.1 ∙ append_assoc before (rows ∷ []) later.0) in
      let none : length before + zero ≡ length before = omega arith in
      subst (λ (n : ℕ). slice_get (whole before (first ∷ others)) n
      ≡ Some (rows_taken setting tables all setting.chunks (take n (whole before (first ∷ others))) part)) (sym none)
      (subst (λ (taken : List Table). slice_get taken (length before)
      ≡ Some (rows_taken setting tables all setting.chunks (take (length before) taken) part)) (sym is)
      (got_at before rows later.0
      ∙ (ap (λ (one : PlanPart). Some (rows_taken setting tables all setting.chunks before one)) (same_Some first part e)
      ∙ ap (λ (earlier : List Table). Some (rows_taken setting tables all setting.chunks earlier part)) (sym (taken_at before (rows ∷ later.0))))))
  whole_at before (first ∷ others) (suc turn) part some e =
      let rows : Table = rows_taken setting tables all setting.chunks before first in
      let is = whole_next before first others some in
      subst (λ (n : ℕ). slice_get (whole before (first ∷ others)) n
      ≡ Some (rows_taken setting tables all setting.chunks (take n (whole before (first ∷ others))) part)) (behind_length before rows turn)
      (subst (λ (taken : List Table). slice_get taken (length (before ++ rows ∷ []) + turn)
      ≡ Some (rows_taken setting tables all setting.chunks (take (length (before ++ rows ∷ []) + turn) taken) part)) (sym is)
      (whole_at (before ++ rows ∷ []) others turn part some e))
