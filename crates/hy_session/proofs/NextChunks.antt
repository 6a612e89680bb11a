-- The next chunk of a table in which one of positions in order lies.
use Rattle.std.proofs.Common.{◌≡◌, ℕ, suc, ◌+◌, ◌*◌, ◌/◌, ◌<◌, ◌≤◌, List, Bool, true, false, None, Some, arith, ⊎_elim, subst, sym, refl}
use Rattle.std.specs.Bool.{then_some}
use Rattle.std.specs.Prelude.{◌==◌, ◌&&◌, nat_lt, nat_le}
use Rattle.std.specs.List.{list_any}
use Rattle.std.proofs.Math.Nat.{le-div_iff_mul-le, div-mul-le_self, mul-le-mul_right, suc-mul}
use Rattle.std.proofs.lemmas.Bool.{and_parts, and_from, cases_lt, ltb-false, ltb-true, lt-ltb, leb-true, le-leb, eqb-true, eq-eqb}
use Rattle.hy_render.specs.declared.Place.{Place}
use Rattle.hy_event.specs.declared.SessionData.{SessionData}
use Rattle.hy_session.specs.Seeking.{IsNextChunk, Rises, first_from}
use Rattle.hy_event.specs.Sessions.{lies_in}
use Rattle.hy_session.proofs.OrderedPlaces.{none_passes, nothing_before, nothing_from, something_from}

lies_is : (session : SessionData) (table chunk : ℕ) (place : Place) → lies_in session table chunk place ≡ true
    → (place.table ≡ table) × ((chunk * session.rows ≤ place.pos) × (place.pos < chunk * session.rows + session.rows))
lies_is session table chunk place h =
    let parts = and_parts (place.table == table) (nat_le (chunk * session.rows) place.pos && nat_lt place.pos (chunk * session.rows + session.rows)) h in
    let within = and_parts (nat_le (chunk * session.rows) place.pos) (nat_lt place.pos (chunk * session.rows + session.rows)) parts.1 in
    (eqb-true place.table table parts.0, (leb-true (chunk * session.rows) place.pos within.0, ltb-true place.pos (chunk * session.rows + session.rows) within.1))

lies : (session : SessionData) (table chunk : ℕ) (place : Place) → place.table ≡ table → chunk * session.rows ≤ place.pos
    → place.pos < chunk * session.rows + session.rows → lies_in session table chunk place ≡ true
lies session table chunk place same low high =
    and_from (place.table == table) (nat_le (chunk * session.rows) place.pos && nat_lt place.pos (chunk * session.rows + session.rows))
    (eq-eqb place.table table same)
    (and_from (nat_le (chunk * session.rows) place.pos) (nat_lt place.pos (chunk * session.rows + session.rows))
    (le-leb (chunk * session.rows) place.pos low) (lt-ltb place.pos (chunk * session.rows + session.rows) high))

-- the rows of chunks before others come before theirs
rows_before : (rows chunk next : ℕ) → chunk < next → chunk * rows + rows ≤ next * rows
rows_before rows chunk next l = let e = mul-le-mul_right {m = suc chunk} {n = next} rows l in omega (arith, e, suc-mul chunk rows)

under_next : (rows pos : ℕ) → 0 < rows → pos < pos / rows * rows + rows
under_next rows pos some =
    ⊎_elim (λ l. l)
    (λ r. absurd (let up : suc (pos / rows) ≤ pos / rows = (le-div_iff_mul-le some).1 (omega (arith, suc-mul (pos / rows) rows, r)) in omega arith))
    (cases_lt pos (pos / rows * rows + rows))

rows_from : (rows from chunk : ℕ) → from ≤ chunk → from * rows ≤ chunk * rows
rows_from rows from chunk l = mul-le-mul_right rows l

-- where no position is left, none lies in a chunk from there on
pub none_next : (session : SessionData) (places : List Place) (table from : ℕ) → first_from table (from * session.rows) places ≡ None
    → IsNextChunk session places table from None
none_next session places table from none chunk after within =
    nothing_from table (from * session.rows) (lies_in session table chunk)
    (λ p k. let parts = lies_is session table chunk p k in let low = rows_from session.rows from chunk after in (parts.0, omega (arith, low, parts.1.0)))
    places none

-- nor where chunks have no rows
pub no_rows : (session : SessionData) (places : List Place) (table from : ℕ) → session.rows ≡ 0 → IsNextChunk session places table from None
no_rows session places table from none chunk after within =
    none_passes (lies_in session table chunk) (λ p k. let parts = lies_is session table chunk p k in omega (arith, none, parts.1.0, parts.1.1)) places

module _ (session : SessionData) (places : List Place) (table from pos : ℕ) (up : Rises places) (some : 0 < session.rows)
    (found : first_from table (from * session.rows) places ≡ Some pos) where
  none_between : (chunk : ℕ) → from ≤ chunk → chunk < pos / session.rows → list_any (lies_in session table chunk) places ≡ false
  none_between chunk after before =
      let low = rows_from session.rows from chunk after in
      let high = rows_before session.rows chunk (pos / session.rows) before in
      let under = div-mul-le_self pos session.rows in
      nothing_before table (from * session.rows) pos (lies_in session table chunk)
      (λ p k. let parts = lies_is session table chunk p k in (parts.0, (omega (arith, low, parts.1.0), omega (arith, high, under, parts.1.1))))
      places up found

  next_chunk : pos / session.rows < session.chunks → IsNextChunk session places table from (Some (pos / session.rows))
  next_chunk within =
      let under = div-mul-le_self pos session.rows in
      let over = under_next session.rows pos some in
      let there = something_from table (from * session.rows) pos (lies_in session table (pos / session.rows))
      (λ p same at. lies session table (pos / session.rows) p same (omega (arith, at, under)) (omega (arith, at, over))) places found in
      record {
        after = (le-div_iff_mul-le some).1 there.1;
        within = within;
        written = there.0;
        first = none_between;
      }

  chunk_past : session.chunks ≤ pos / session.rows → IsNextChunk session places table from None
  chunk_past past chunk after within = none_between chunk after (omega (arith, past, within))

  next_if : (b : Bool) → nat_lt (pos / session.rows) session.chunks ≡ b → IsNextChunk session places table from (then_some b (pos / session.rows))
  next_if true is = next_chunk (ltb-true (pos / session.rows) session.chunks is)
  next_if false is = chunk_past (ltb-false (pos / session.rows) session.chunks is)

  pub next_by : (chunk : ℕ) → chunk ≡ pos / session.rows → IsNextChunk session places table from (then_some (nat_lt chunk session.chunks) chunk)
  next_by chunk is =
      subst (λ (k : ℕ). IsNextChunk session places table from (then_some (nat_lt k session.chunks) k)) (sym is)
      (next_if (nat_lt (pos / session.rows) session.chunks) refl)
