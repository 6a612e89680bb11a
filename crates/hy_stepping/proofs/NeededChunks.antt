-- A chunk that a session needs is one of its tables' chunks.
use Rattle.std.proofs.Common.{◌≡◌, ◌⊎◌, ℕ, zero, suc, ◌+◌, ◌-◌, ◌*◌, ◌/◌, ◌%◌, ◌<◌, ◌≤◌, List, [], ◌∷◌, ◌++◌, length, map, Option, None, Some, Bool}
use Rattle.std.proofs.Common.{refl, sym, ap, ◌∙◌, subst, arith, ltb}
use Rattle.std.specs.Prelude.{slice_get, slice_index_or, filter}
use Rattle.std.specs.List.{All, AllByRecursion, list_any, range_with_len}
use Rattle.std.proofs.Math.Nat.{div-lt_iff_lt-mul, mod-lt, mul_comm}
use Rattle.std.proofs.lemmas.Bool.{cond_both, ltb-true, ltb-false}
use Rattle.std.proofs.lemmas.Option.{same_Some, get_or_from_slice_get, slice_get_within}
use Rattle.hy_bound.specs.declared.Bound.{Bound}
use Rattle.hy_bound.specs.declared.Bound.TheVariants.{Select, Group, Insert, Update, Delete, Savepoint, RollbackTo, Release}
use Rattle.hy_bound.specs.declared.Reply.{Reply}
use Rattle.hy_bound.specs.declared.Shape.{Shape}
use Rattle.hy_bound.specs.declared.Txn.{Txn}
use Rattle.hy_bound.specs.Fits.{FitsStatement}
use Rattle.hy_bound.specs.Records.{shape_of}
use Rattle.hy_render.specs.declared.Place.{Place}
use Rattle.hy_journal.specs.declared.CoreData.{CoreData}
use Rattle.hy_event.specs.declared.SessionData.{SessionData}
use Rattle.hy_event.specs.declared.Open.{Open}
use Rattle.hy_protocol.specs.declared.Phase.{Phase}
use Rattle.hy_protocol.specs.declared.Phase.TheVariants as phase
use Rattle.hy_event.specs.declared.Need.{Need}
use Rattle.hy_event.specs.declared.Need.TheVariants.{Core, Chunk, Done}
use Rattle.hy_event.specs.Sessions.{txn_at as txn_here, lies_in, chunks_in_table, chunks_from, written, place_noted, notes_since}
use Rattle.hy_event.specs.Needs.{checks_of as checks_here, insert_need, statement_need, chunk_or_core, written_need, working_need, phase_need}
use Rattle.hy_event.specs.Needs.{session_need}
use Rattle.hy_machine.specs.declared.Setting.{Setting}
use Rattle.hy_machine.specs.States.{State}
use Rattle.hy_machine.specs.Sessions.{session_at}
use Rattle.hy_machine.specs.Visits.{checks_of}
use Rattle.hy_machine.specs.Kept.{Kept, PhaseFits, visits_in}
use Rattle.hy_lawful.specs.Kept.{ReachedAreKept}
use Rattle.hy_refinement.specs.Sessions.{SessionShows}
use Rattle.hy_stepping.specs.Runnable.{IsRunnable}
use Rattle.hy_stepping.specs.Steps.{NeededChunksAreThere}
use Rattle.hy_stepping.proofs.OpenOnes.{kept_of, txn_fits, OpenOne, open_one}
use Rattle.hy_stepping.proofs.VisitsLeft.{visit_left}

-- a chunk that is needed is there
abbrev IsThere : Setting → Need → Type 0
IsThere setting Core = Unit {0}
IsThere setting (Chunk table chunk) = (table < length setting.shapes) × (chunk < setting.chunks)
IsThere setting Done = Unit {0}

-- ---- the chunks of statements that read, and of an INSERT

-- a visit of a SELECT is in one of its tables
select_there : (setting : Setting) (tables : List ℕ) (visited : ℕ) → 0 < setting.chunks → All (λ table. table < length setting.shapes) tables
    → visited < setting.chunks * length tables
    → (slice_index_or tables (visited / setting.chunks) 0 < length setting.shapes) × (visited % setting.chunks < setting.chunks)
select_there setting tables visited some there left = (
  there (visited / setting.chunks) 0
      ((div-lt_iff_lt-mul {k = setting.chunks} {x = visited} {y = length tables} some).1
      (subst (λ (n : ℕ). visited < n) (mul_comm setting.chunks (length tables)) left)),
  mod-lt visited some,
)

insert_there : (setting : Setting) (table visited checks : ℕ) → table < length setting.shapes → checks ≤ setting.chunks
    → visited < checks + setting.chunks → IsThere setting (insert_need visited table checks)
insert_there setting table visited checks there few left =
    cond_both (ltb visited checks) (Chunk table visited) (Chunk table (visited - checks)) (IsThere setting)
    (λ e. (there, let less = ltb-true visited checks e in omega (arith, less, few)))
    (λ e. (there, let most = ltb-false visited checks e in omega (arith, most, left)))

-- the checks are as many as the machine's, and at most the chunks
pub same_checks : (session : SessionData) (setting : Setting) (key : Option ℕ) → session.chunks ≡ setting.chunks → checks_here session key ≡ checks_of setting key
same_checks session setting None e = refl
same_checks session setting (Some key) e = e

few_checks : (setting : Setting) (key : Option ℕ) → checks_of setting key ≤ setting.chunks
few_checks setting None = omega arith
few_checks setting (Some key) = omega arith

-- ---- the chunks that were written

-- they are of so many tables with so many chunks
abbrev AllThere : ℕ → ℕ → List (ℕ × ℕ) → Type 0
AllThere tables chunks ones = AllByRecursion (λ (one : ℕ × ℕ). (one.0 < tables) × (one.1 < chunks)) ones

in_range : (tables chunks table first many : ℕ) (keep : ℕ → Bool) → table < tables → first + many ≤ chunks
    → AllThere tables chunks (map (λ chunk. (table, chunk)) (filter keep (range_with_len first many)))
in_range tables chunks table first zero keep below le = tt
in_range tables chunks table first (suc many) keep below le =
    let rest = in_range tables chunks table (first + 1) many keep below (omega (arith, le)) in
    cond_both (keep first) (first ∷ filter keep (range_with_len (first + 1) many)) (filter keep (range_with_len (first + 1) many))
    (λ (kept : List ℕ). AllThere tables chunks (map (λ chunk. (table, chunk)) kept))
    (λ e. ((below, omega (arith, le)), rest)) (λ e. rest)

all_joined : (tables chunks : ℕ) (ones others : List (ℕ × ℕ)) → AllThere tables chunks ones → AllThere tables chunks others
    → AllThere tables chunks (ones ++ others)
all_joined tables chunks [] others all more = more
all_joined tables chunks (one ∷ ones) others all more = (all.0, all_joined tables chunks ones others all.1 more)

from_tables : (session : SessionData) (places : List Place) (tables table : ℕ) (shapes : List Shape) → table + length shapes ≤ tables
    → AllThere tables session.chunks (chunks_from session places table shapes)
from_tables session places tables table [] le = tt
from_tables session places tables table (shape ∷ shapes) le =
    all_joined tables session.chunks (chunks_in_table session places table) (chunks_from session places (suc table) shapes)
    (in_range tables session.chunks table 0 session.chunks (λ chunk. list_any (lies_in session table chunk) places) (omega (arith, le)) (omega arith))
    (from_tables session places tables (suc table) shapes (omega (arith, le)))

one_there : (setting : Setting) (ones : List (ℕ × ℕ)) (visited : ℕ) → AllThere (length setting.shapes) setting.chunks ones
    → IsThere setting (chunk_or_core (slice_get ones visited))
one_there setting [] visited all = tt
one_there setting (one ∷ ones) zero all = all.0
one_there setting (one ∷ ones) (suc visited) all = one_there setting ones visited all.1

noted_there : (setting : Setting) (session : SessionData) (places : List Place) (visited : ℕ) → session.chunks ≡ setting.chunks
    → session.shapes ≡ setting.shapes → IsThere setting (chunk_or_core (slice_get (chunks_from session places 0 session.shapes) visited))
noted_there setting session places visited chunks shapes = one_there setting (chunks_from session places 0 session.shapes) visited
    (subst (λ (n : ℕ). AllThere (length setting.shapes) n (chunks_from session places 0 session.shapes)) chunks
    (subst (λ (all : List Shape). AllThere (length all) session.chunks (chunks_from session places 0 session.shapes)) shapes
    (from_tables session places (length session.shapes) 0 session.shapes (omega arith))))

written_there : (setting : Setting) (session : SessionData) (now : Open) (visited : ℕ) → session.chunks ≡ setting.chunks → session.shapes ≡ setting.shapes
    → IsThere setting (written_need session now visited)
written_there setting session now = noted_there setting session (written now)

-- ---- the chunks of a statement

statement_there : (setting : Setting) (session : SessionData) (now : Open) → session.chunks ≡ setting.chunks → session.shapes ≡ setting.shapes
    → 0 < setting.chunks → (visited : ℕ) (statement : Bound) → FitsStatement setting.shapes statement → visited < visits_in setting statement
    → IsThere setting (statement_need session now visited statement)
statement_there setting session now chunks shapes some visited (Select tables ons pred items) fits left =
    subst (λ (n : ℕ). IsThere setting (Chunk (slice_index_or tables (visited / n) 0) (visited % n))) (sym chunks)
    (select_there setting tables visited some fits.there left)
statement_there setting session now chunks shapes some visited (Group table pred key aggregate) fits left = (fits.0, left)
statement_there setting session now chunks shapes some visited (Insert table row) fits left =
    subst (λ (n : ℕ). IsThere setting (insert_need visited table n))
    (sym (same_checks session setting (shape_of session.shapes table).key chunks
    ∙ ap (λ (all : List Shape). checks_of setting (shape_of all table).key) shapes))
    (insert_there setting table visited (checks_of setting (shape_of setting.shapes table).key) fits.0
    (few_checks setting (shape_of setting.shapes table).key) left)
statement_there setting session now chunks shapes some visited (Update table sets pred) fits left = (fits.0, left)
statement_there setting session now chunks shapes some visited (Delete table pred) fits left = (fits.0, left)
statement_there setting session now chunks shapes some visited (Savepoint name) fits left = tt
statement_there setting session now chunks shapes some visited (RollbackTo name) fits left =
    noted_there setting session (map place_noted (notes_since now name)) visited chunks shapes
statement_there setting session now chunks shapes some visited (Release name) fits left = tt

-- ---- the chunks of an open transaction

open_there : (setting : Setting) (state : State) (core : CoreData) (number : ℕ) (session : SessionData) (now : Open) → IsRunnable setting
    → SessionShows setting state core number session → (one : OpenOne setting state core number session now)
    → IsThere setting (phase_need session one.txn now now.phase)
open_there setting state core number session now runnable shows one =
    by_phase now.phase (subst (λ (stands : Phase). PhaseFits setting (Some one.txn) one.current.begun stands) (sym one.shows.open_shows.phase) one.phase_fits)
  where
    chunks : session.chunks ≡ setting.chunks
    chunks = shows.session_is.chunks

    shapes : session.shapes ≡ setting.shapes
    shapes = shows.session_is.shapes

    by_statement : (visited : ℕ) (statement : Option Bound) → slice_get one.txn.statements (length now.replies) ≡ statement
        → ((present : Bound) → slice_get one.txn.statements (length one.current.begun.replies) ≡ Some present
        → (visited ≡ 0) ⊎ (visited < visits_in setting present))
        → IsThere setting (working_need session one.txn now visited statement)
    by_statement visited None at stands =
        cond_both one.txn.commits Core (written_need session now 0) (IsThere setting) (λ e. tt) (λ e. written_there setting session now 0 chunks shapes)
    by_statement visited (Some statement) at stands =
        let fits = txn_fits setting number (length (session_at state number).done) one.txn runnable one.txn_there in
        let fit = subst (λ (present : Bound). FitsStatement setting.shapes present)
        (get_or_from_slice_get one.txn.statements (length now.replies) statement statement at)
        (fits.fit (length now.replies) statement (slice_get_within one.txn.statements (length now.replies) statement at)) in
        statement_there setting session now chunks shapes runnable.some_chunk visited statement fit
        (visit_left setting statement visited runnable.some_chunk fit
        (stands statement (ap (λ (replies : List Reply). slice_get one.txn.statements (length replies)) (sym one.shows.open_shows.replies) ∙ at)))

    by_phase : (stands : Phase) → PhaseFits setting (Some one.txn) one.current.begun stands → IsThere setting (phase_need session one.txn now stands)
    by_phase (phase.Working visited count) fits = by_statement visited (slice_get one.txn.statements (length now.replies)) refl fits.visits
    by_phase (phase.Stamping visited) fits = written_there setting session now visited chunks shapes
    by_phase (phase.Undoing visited ends) fits = written_there setting session now visited chunks shapes

-- ---- all sessions

pub chunks_there : ReachedAreKept → NeededChunksAreThere
chunks_there law setting state parts sessions number session table chunk shown found need =
    subst (IsThere setting) need (by_txn (txn_here session) refl session.now refl)
  where
    kept : Kept setting state
    kept = kept_of law setting state parts sessions shown

    shows : SessionShows setting state shown.shows.core number session
    shows = shown.shows.sessions_show.each number session found

    by_txn : (txn : Option Txn) → txn_here session ≡ txn → (now : Option Open) → session.now ≡ now → IsThere setting (session_need session txn now)
    by_txn None at now is = tt
    by_txn (Some txn) at None is = tt
    by_txn (Some txn) at (Some now) is =
        let one = open_one setting state shown.shows.core number session now kept shows is in
        let same : one.txn ≡ txn = same_Some one.txn txn (sym one.txn_here ∙ at) in
        subst (λ (other : Txn). IsThere setting (phase_need session other now now.phase)) same
        (open_there setting state shown.shows.core number session now shown.runnable shows one)
