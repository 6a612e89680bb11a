-- What is shown is shown with a line more, where its session is ready for the line.
use Rattle.std.proofs.Common.{◌≡◌, ℕ, suc, ◌+◌, ◌*◌, ◌<◌, List, [], ◌∷◌, length, set, Option, None, Some, refl, sym, ap, ◌∙◌, subst, arith, inl, inr}
use Rattle.std.specs.Prelude.{slice_get}
use Rattle.std.proofs.lemmas.Bool.{cases_eq}
use Rattle.std.proofs.lemmas.List.{length-set, get_or-set_same, get_or-set_other}
use Rattle.std.proofs.lemmas.Option.{same_Some, slice_get_past, slice_get_within}
use Rattle.std.proofs.lemmas.Slice.Zip.{AllZip-long}
use Rattle.hy_bound.specs.declared.Bound.{Bound}
use Rattle.hy_bound.specs.declared.Bound.TheVariants.{Savepoint}
use Rattle.hy_bound.specs.declared.Reply.{Reply}
use Rattle.hy_bound.specs.declared.Txn.{Txn}
use Rattle.hy_bound.specs.Fits.{FitsRows}
use Rattle.hy_undo.specs.Chunks.{ChunkData}
use Rattle.hy_render.specs.declared.TxnOutcome.{TxnOutcome}
use Rattle.hy_journal.specs.declared.CoreData.{CoreData}
use Rattle.hy_event.specs.declared.SessionData.{SessionData}
use Rattle.hy_event.specs.declared.Open.{Open}
use Rattle.hy_event.specs.Events.{Part}
use Rattle.hy_protocol.specs.declared.Phase.{Phase}
use Rattle.hy_protocol.specs.declared.Phase.TheVariants.{Working, Stamping, Undoing}
use Rattle.hy_machine.specs.declared.Setting.{Setting}
use Rattle.hy_machine.specs.States.{State, Finished, Open as MachineOpen}
use Rattle.hy_machine.specs.Sessions.{session_at, program_of, txn_at, view}
use Rattle.hy_machine.specs.Writes.{written}
use Rattle.hy_machine.specs.Outcomes.{outcomes_from, txn_outcome_of, statements_in, placed_from}
use Rattle.hy_machine.specs.Kept.{Kept, PhaseFits}
use Rattle.hy_lawful.specs.Kept.{ReachedAreKept}
use Rattle.hy_event.specs.declared.lines.SessionLine.{SessionLine}
use Rattle.hy_event.specs.declared.lines.SessionLine.TheVariants.{Begin, Statement, Commit, Rollback}
use Rattle.hy_event.specs.Lines.{with_statement, grown, with_line}
use Rattle.hy_growing.specs.Growing.{with_programs, pushed, IsWaiting, IsReady, LinesAreReached}
use Rattle.hy_refinement.specs.Sessions.{GatheredBy, GatheredShows, OpenShows, NowShows, SessionIs, SessionShows, statement_at}
use Rattle.hy_refinement.specs.Gathered.{gathered_first}
use Rattle.hy_refinement.specs.Parts.{PartsAre, IsChunkPart}
use Rattle.hy_refinement.specs.Shows.{SessionsShow}
use Rattle.hy_stepping.specs.Runnable.{IsShown}
use Rattle.hy_stepping.specs.Pushed.{FitsLine, LinesAreShown}
use Rattle.hy_stepping.proofs.PushedScripts.{got_set, got_other, last_here, append_here, grown_before, pushed_fits}
use Rattle.hy_stepping.proofs.PushedSessions.{StandAlike, alike_set, core_still, place_still}

-- ---- ended transactions

-- what they came to is told by their own statements alone
outcomes_same : (setting : Setting) (programs : List (List Txn)) (number before : ℕ) (done : List Finished)
    → ((i : ℕ) → i < before + length done
    → slice_get (program_of setting number) i ≡ slice_get (program_of (with_programs setting programs) number) i)
    → outcomes_from setting number before done ≡ outcomes_from (with_programs setting programs) number before done
outcomes_same setting programs number before [] same = refl
outcomes_same setting programs number before (finished ∷ done) same =
    ap (λ (one : TxnOutcome). one ∷ outcomes_from setting number (suc before) done) here
    ∙ ap (λ (others : List TxnOutcome). txn_outcome_of (with_programs setting programs) number before finished ∷ others)
    (outcomes_same setting programs number (suc before) done (λ i below. same i (omega (arith, below))))
  where
    here : txn_outcome_of setting number before finished ≡ txn_outcome_of (with_programs setting programs) number before finished
    here =
        ap (λ (txn : Option Txn). let one : TxnOutcome = record {
          label = record { session = number; txn = suc before };
          start = finished.begun.prefix;
          replies = finished.begun.replies;
          ending = finished.ending;
          wrote = written finished.begun.own;
          placed = placed_from 0 (statements_in txn) finished.begun.took setting.first;
        } in one) (same before (omega arith))

-- ---- a waiting session

-- no visit of what comes next is done: the state is reached where a SAVEPOINT comes next, too, and that has but one
none_visited : LinesAreReached → ReachedAreKept → (setting : Setting) (state : State) (parts : List Part) (sessions : List SessionData) (number : ℕ)
    → IsShown setting state parts sessions → number < length setting.programs → (waits : IsWaiting setting state number) → waits.visited ≡ 0
none_visited reached kept_law setting state parts sessions number shown below waits =
    elim (work.visits (Savepoint []) present) [
      | inl none ↦ none
      | inr few ↦ omega (arith, few)
    ]
  where
    longer : Setting
    longer = pushed setting number (Statement (Savepoint []))

    next : Txn
    next = with_statement (Savepoint []) waits.txn

    kept : Kept longer state
    kept = kept_law longer state
        (AllZip-long (FitsRows (setting.chunks * setting.rows)) setting.shapes setting.first shown.runnable.fits.first_rows)
        (reached setting state number (Statement (Savepoint [])) shown.reached waits)

    txn_is : txn_at longer number (session_at state number) ≡ Some next
    txn_is =
        ap (λ (program : List Txn). slice_get program (length (session_at state number).done))
        (get_or-set_same setting.programs number (grown (Statement (Savepoint [])) (program_of setting number)) [] below)
        ∙ last_here (with_statement (Savepoint [])) (program_of setting number) (length (session_at state number).done) waits.txn waits.last waits.here

    work : PhaseFits longer (Some next) waits.begun (Working waits.visited waits.count)
    work =
        subst (λ (txn : Option Txn). PhaseFits longer txn waits.begun (Working waits.visited waits.count)) txn_is
        (kept.fits.opens number (record { begun = waits.begun; phase = Working waits.visited waits.count }) waits.open_now).phase

    present : slice_get next.statements (length waits.begun.replies) ≡ Some (Savepoint [])
    present = append_here waits.txn.statements (Savepoint []) (length waits.begun.replies) waits.answered

-- ---- a session

module _ (setting : Setting) (programs : List (List Txn)) (state : State) (core : CoreData) where
  abbrev longer : Setting
  longer = with_programs setting programs

  -- a session gathers in the longer script what it is to, wherever it shows an open transaction
  abbrev GathersStill : ℕ → Type 0
  GathersStill number = (now : Open) (current : MachineOpen) → (session_at state number).now ≡ Some current → OpenShows setting state core number now current
      → GatheredShows longer state number now current

  now_still : (number : ℕ) → GathersStill number → (here : Option Open) (there : Option MachineOpen) → (session_at state number).now ≡ there
      → NowShows setting state core number here there → NowShows longer state core number here there
  now_still number gathers None None is shows = tt
  now_still number gathers None (Some current) is shows = shows
  now_still number gathers (Some now) None is shows = shows
  now_still number gathers (Some now) (Some current) is shows = record {
    prefix_counts = shows.prefix_counts;
    low_counts = shows.low_counts;
    cover_holds = shows.cover_holds;
    open_shows = shows.open_shows;
    notes_show = λ unmarked. let notes = shows.notes_show unmarked in record { all = notes.all; saved = notes.saved };
    gathered_shows = gathers now current is shows;
  }

  -- with another script, a session that has the same ended transactions and open one
  session_still : (number : ℕ) (session later : SessionData) → SessionIs longer number later → later.done ≡ session.done → later.now ≡ session.now
      → ((i : ℕ) → i < length (session_at state number).done → slice_get (program_of setting number) i ≡ slice_get (program_of longer number) i)
      → GathersStill number → SessionShows setting state core number session → SessionShows longer state core number later
  session_still number session later is same_done same_now ended gathers shows = record {
    session_is = is;
    done_shows = same_done ∙ (shows.done_shows ∙ outcomes_same setting programs number 0 (session_at state number).done
        (λ i below. ended i (omega (arith, below))));
    now_shows = subst (λ (now : Option Open). NowShows longer state core number now (session_at state number).now) (sym same_now)
        (now_still number gathers session.now (session_at state number).now refl shows.now_shows);
  }

  -- a session whose script is as it was
  other_still : (number : ℕ) (session : SessionData) → program_of longer number ≡ program_of setting number → SessionShows setting state core number session
      → SessionShows longer state core number session
  other_still number session same shows =
      session_still number session session (record {
        number_is = shows.session_is.number_is;
        program = shows.session_is.program ∙ sym same;
        shapes = shows.session_is.shapes;
        chunks = shows.session_is.chunks;
        rows = shows.session_is.rows;
      }) refl refl (λ i below. ap (λ (program : List Txn). slice_get program i) (sym same))
      (λ now current is open_shows visited count e.
      subst (λ (program : List Txn). GatheredBy setting (view setting state current.begun) visited now.gathered
      (statement_at (slice_get program (length (session_at state number).done)) (length now.replies))) (sym same) (open_shows.gathered_shows visited count e))
      shows

  -- ---- a session that waits

  -- it has gathered nothing
  nothing_gathered : (number : ℕ) (now : Open) (current : MachineOpen) → (waits : IsWaiting setting state number)
      → current ≡ record { begun = waits.begun; phase = Working waits.visited waits.count } → OpenShows setting state core number now current
      → now.gathered ≡ []
  nothing_gathered number now current waits is shows =
      subst (GatheredBy setting (view setting state current.begun) waits.visited now.gathered) none_left
      (shows.gathered_shows waits.visited waits.count (shows.open_shows.phase ∙ ap (λ (one : MachineOpen). one.phase) is))
    where
      none_left : statement_at (txn_at setting number (session_at state number)) (length now.replies) ≡ None
      none_left =
          ap (λ (txn : Option Txn). statement_at txn (length now.replies)) waits.here
          ∙ slice_get_past waits.txn.statements (length now.replies)
          (let here = ap (λ (replies : List Reply). length replies) shows.open_shows.replies in
          let there = ap (λ (one : MachineOpen). length one.begun.replies) is in
          let all = waits.answered in omega (arith, here, there, all))

  abbrev visited_in : Phase → ℕ
  visited_in (Working visited count) = visited
  visited_in (Stamping visited) = visited
  visited_in (Undoing visited cause) = visited

  waiting_gathers : (number : ℕ) → (waits : IsWaiting setting state number) → waits.visited ≡ 0 → GathersStill number
  waiting_gathers number waits none now current is shows visited count e =
      subst (λ (n : ℕ). GatheredBy longer (view setting state current.begun) n now.gathered next) first
      (subst (λ gathered. GatheredBy longer (view setting state current.begun) 0 gathered next) (sym (nothing_gathered number now current waits same shows))
      (gathered_first longer (view setting state current.begun) next))
    where
      next : Option Bound
      next = statement_at (txn_at longer number (session_at state number)) (length now.replies)

      same : current ≡ record { begun = waits.begun; phase = Working waits.visited waits.count }
      same = same_Some current (record { begun = waits.begun; phase = Working waits.visited waits.count }) (sym is ∙ waits.open_now)

      first : 0 ≡ visited
      first = sym none ∙ (sym (ap (λ (one : MachineOpen). visited_in one.phase) same) ∙ (sym (ap visited_in shows.open_shows.phase) ∙ ap visited_in e))

  ready_gathers : (number : ℕ) (line : SessionLine) → ((waits : IsWaiting setting state number) → waits.visited ≡ 0) → IsReady setting state number line
      → GathersStill number
  ready_gathers number (Begin read_only) none ready =
      λ now current is shows. absurd (let f : None ≡ Some current = sym ready.closed ∙ is in cc)
  ready_gathers number (Statement statement) none ready = waiting_gathers number ready (none ready)
  ready_gathers number Commit none ready = waiting_gathers number ready (none ready)
  ready_gathers number Rollback none ready = waiting_gathers number ready (none ready)

-- ---- all sessions

module _ (setting : Setting) (state : State) (core : CoreData) (sessions : List SessionData) (number : ℕ) (session : SessionData) (line : SessionLine)
    (shows : SessionsShow setting state core sessions) (found : slice_get sessions number ≡ Some session) (ready : IsReady setting state number line)
    (none : (waits : IsWaiting setting state number) → waits.visited ≡ 0) where
  abbrev longer_programs : List (List Txn)
  longer_programs = set setting.programs number (grown line (program_of setting number))

  within : number < length setting.programs
  within = let below = slice_get_within sessions number session found in let count = shows.count in omega (arith, below, count)

  program_here : program_of (pushed setting number line) number ≡ grown line (program_of setting number)
  program_here = get_or-set_same setting.programs number (grown line (program_of setting number)) [] within

  one_shown : SessionShows (pushed setting number line) state core number (with_line session line)
  one_shown =
      let was = shows.each number session found in
      session_still setting longer_programs state core number session (with_line session line) (record {
        number_is = was.session_is.number_is;
        program = ap (grown line) was.session_is.program ∙ sym program_here;
        shapes = was.session_is.shapes;
        chunks = was.session_is.chunks;
        rows = was.session_is.rows;
      }) refl refl
      (λ i below. sym (ap (λ (program : List Txn). slice_get program i) program_here ∙ grown_before setting state number line i ready below))
      (ready_gathers setting longer_programs state core number line none ready) was

  sessions_shown : SessionsShow (pushed setting number line) state core (set sessions number (with_line session line))
  sessions_shown = record {
    count =
        length-set sessions number (with_line session line)
        ∙ (shows.count ∙ sym (length-set setting.programs number (grown line (program_of setting number))));
    each = λ other another here. elim (cases_eq other number) [
      | inl same ↦
          let is_it : with_line session line ≡ another =
          same_Some (with_line session line) another (sym (got_set sessions number session (with_line session line) found)
          ∙ (ap (slice_get (set sessions number (with_line session line))) (sym same) ∙ here)) in
          subst (λ (n : ℕ). SessionShows (pushed setting number line) state core n another) (sym same)
          (subst (λ (s : SessionData). SessionShows (pushed setting number line) state core number s) is_it one_shown)
      | inr apart ↦
          other_still setting longer_programs state core other another
          (get_or-set_other setting.programs number other (grown line (program_of setting number)) [] apart)
          (shows.each other another (sym (got_other sessions number other (with_line session line) apart) ∙ here))
    ];
  }

-- ---- the parts

part_back : (setting : Setting) (programs : List (List Txn)) (parts : List Part) (table chunk : ℕ) (part : ChunkData)
    → IsChunkPart (with_programs setting programs) parts table chunk part → IsChunkPart setting parts table chunk part
part_back setting programs parts table chunk part is = record { table_below = is.table_below; chunk_below = is.chunk_below; found = is.found }

parts_still : (setting : Setting) (programs : List (List Txn)) (parts : List Part) (core : CoreData) → PartsAre setting parts core
    → PartsAre (with_programs setting programs) parts core
parts_still setting programs parts core are = record {
  count = are.count;
  chunks = λ table chunk table_below chunk_below.
      let has = are.chunks table chunk table_below chunk_below in
      record {
        part = has.part;
        is_part = record { table_below = table_below; chunk_below = chunk_below; found = has.is_part.found };
        chunk_is = record {
          table_is = has.chunk_is.table_is;
          first = has.chunk_is.first;
          width = has.chunk_is.width;
          key = has.chunk_is.key;
          places = has.chunk_is.places;
        };
      };
  core_last = are.core_last;
}

-- ---- the law

pub lines_shown : LinesAreReached → ReachedAreKept → LinesAreShown
lines_shown reached kept_law setting state parts sessions number session line shown found ready fits = record {
  runnable = record {
    fits = pushed_fits setting (setting.chunks * setting.rows) number line below
        (subst (λ (program : List Txn). FitsLine setting.shapes program line) (all.each number session found).session_is.program fits) shown.runnable.fits;
    some_chunk = shown.runnable.some_chunk;
    few_chunks = shown.runnable.few_chunks;
    some_row = shown.runnable.some_row;
    numbered = shown.runnable.numbered;
  };
  reached = reached setting state number line shown.reached ready;
  shows = record {
    core = shown.shows.core;
    parts_are = parts_still setting programs parts shown.shows.core shown.shows.parts_are;
    core_shows = core_still state sessions (set sessions number (with_line session line)) alike shown.shows.core shown.shows.core_shows;
    sessions_show = sessions_shown setting state shown.shows.core sessions number session line all found ready
        (none_visited reached kept_law setting state parts sessions number shown below);
    places_show = λ table chunk index part place is at.
        place_still setting programs state shown.shows.core sessions (set sessions number (with_line session line)) alike table chunk
        (chunk * setting.rows + index) place
        (shown.shows.places_show table chunk index part place (part_back setting programs parts table chunk part is) at);
  };
}
  where
    programs : List (List Txn)
    programs = set setting.programs number (grown line (program_of setting number))

    all : SessionsShow setting state shown.shows.core sessions
    all = shown.shows.sessions_show

    below : number < length setting.programs
    below = let l = slice_get_within sessions number session found in let count = all.count in omega (arith, l, count)

    alike : StandAlike sessions (set sessions number (with_line session line))
    alike = alike_set sessions number session (grown line session.program) found
