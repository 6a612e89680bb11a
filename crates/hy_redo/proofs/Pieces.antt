-- A log that is read in pieces: what is done of its first bytes is done of all of them.
use Rattle.std.proofs.Common.{◌≡◌, ℕ, ◌-◌, ◌<◌, ◌≤◌, min, List, [], ◌∷◌, ◌++◌, length, take, drop, Option, None, Some, Result, Ok}
use Rattle.std.proofs.Common.{refl, sym, ap, subst, ◌∙◌, append_assoc, length-append, arith, inl, inr, ⊎_elim}
use Rattle.std.specs.Prelude.{IfOk, IfErr}
use Rattle.std.proofs.lemmas.List.{take-append-drop, drop-append-le, take_at, drop_at, append-nil, length-drop, length-take}
use Rattle.std.proofs.lemmas.Bool.{cases_lt}
use Rattle.hy_journal.specs.declared.Entry.{Entry}
use Rattle.hy_log_record.specs.Bytes.{record_of}
use Rattle.hy_disk.specs.Bytes.{IsOwn, HasLength, ReadsAt}
use Rattle.hy_redo.specs.declared.errors.RecoverError.{RecoverError}
use Rattle.hy_redo.specs.declared.errors.RecoverError.TheVariants.{Damaged}
use Rattle.hy_redo.specs.declared.recovery.Stop.{Stop}
use Rattle.hy_redo.specs.declared.recovery.Stop.TheVariants as stops
use Rattle.hy_redo.specs.Tables.{Held, after_changes}
use Rattle.hy_redo.specs.Logs.{header, Leads}
use Rattle.hy_redo.specs.Recovery.{HasNoHeader, IsBroken, RecoversFrom, DamagedIn}
use Rattle.hy_redo.specs.Tests.{IsNext, Redone, IsRedone, IsFrontOf, BeginsWith, StopsAt, stopped_at}
use Rattle.hy_redo.proofs.LogFronts.{front_of}
use Rattle.hy_redo.proofs.Redoing.{redone_none, redone_more, redone_closed, redone_broken}

-- ---- within the bytes that were read

-- what was done of these bytes from one gate on: of them the rest is left
pub record IsDone (bytes : List ℕ) (before : Held) (earlier : Option ℕ) (gate : ℕ) (now : Held) (time : Option ℕ) (rest : List ℕ) : Type 0 where
  pub redone : (first : Held) → IsRedone first bytes before earlier gate → Redone first bytes now time rest
  pub front : List ℕ
  pub parts : bytes ≡ front ++ rest

module _ (bytes : List ℕ) (before : Held) (earlier : Option ℕ) (gate : ℕ) where
  pub done_none : (rest : List ℕ) → rest ≡ drop gate bytes → IsDone bytes before earlier gate before earlier rest
  done_none rest is = record {
    redone = λ first h. subst (Redone first bytes before earlier) (sym is) h;
    front = take gate bytes;
    parts = sym (take-append-drop gate bytes) ∙ ap (λ (bs : List ℕ). take gate bytes ++ bs) (sym is);
  }

  pub done_more : (now : Held) (time : Option ℕ) (rest : List ℕ) (entry : Entry) (behind : List ℕ) (next : Held)
      → IsDone bytes before earlier gate now time rest → IsNext now time rest entry behind → next ≡ after_changes now entry.notes
      → IsDone bytes before earlier gate next (Some entry.time) behind
  done_more now time rest entry behind next d n is =
      let opened = n.opens.gate ∷ record_of entry in
      record {
        redone = λ first h. redone_more first bytes now time rest entry behind next (d.redone first h) n is;
        front = d.front ++ opened;
        parts = d.parts ∙ ap (λ (bs : List ℕ). d.front ++ bs) n.opens.is ∙ sym (append_assoc d.front opened behind);
      }

  module _ (now : Held) (time : Option ℕ) (rest : List ℕ) (d : IsDone bytes before earlier gate now time rest) where
    pub left_at : drop (length bytes - length rest) bytes ≡ rest
    left_at =
        let long : length d.front ≡ length bytes - length rest = omega (arith, ap length d.parts, length-append d.front rest) in
        ap (drop (length bytes - length rest)) d.parts ∙ drop_at d.front rest (length bytes - length rest) long

    pub left_redone : (first : Held) → IsRedone first bytes before earlier gate → IsRedone first bytes now time (length bytes - length rest)
    left_redone first h = subst (Redone first bytes now time) (sym left_at) (d.redone first h)

    pub left_stops : (stop : Stop) → StopsAt now time rest stop → StopsAt now time (drop (length bytes - length rest) bytes) stop
    left_stops stop h = subst (λ (bs : List ℕ). StopsAt now time bs stop) (sym left_at) h

-- ---- more bytes

module _ (first : Held) (bytes : List ℕ) (more : List ℕ) where
  redone_on : (now : Held) (time : Option ℕ) (rest : List ℕ) → Redone first bytes now time rest → Redone first (bytes ++ more) now time (rest ++ more)
  redone_on now time rest r =
      let f = front_of r.entries bytes r.offset rest r.leads in
      let is : bytes ++ more ≡ f.front ++ (rest ++ more) = ap (λ (bs : List ℕ). bs ++ more) f.whole ∙ append_assoc f.front rest more in
      record {
        entries = r.entries;
        offset = r.offset;
        leads = subst (λ (bs : List ℕ). Leads r.entries bs r.offset (rest ++ more)) (sym is) (f.leads (rest ++ more));
        stand = r.stand;
        tables = r.tables;
        last = r.last;
      }

pub more_redone : (first : Held) (bytes longer : List ℕ) (now : Held) (time : Option ℕ) (gate : ℕ) → gate ≤ length bytes → BeginsWith longer bytes
    → IsRedone first bytes now time gate → IsRedone first longer now time gate
more_redone first bytes longer now time gate within begins r =
    let more = begins.0 in
    subst (λ (bs : List ℕ). IsRedone first bs now time gate) (sym begins.1)
    (subst (Redone first (bytes ++ more) now time) (sym (drop-append-le gate bytes more within)) (redone_on first bytes more now time (drop gate bytes) r))

-- behind the header nothing is done
pub begun : (tables items : Held) (bytes rest : List ℕ) → items ≡ tables → bytes ≡ header ++ rest
    → Redone tables bytes items None (drop 8 bytes) × (8 ≤ length bytes)
begun tables items bytes rest same is = (
  subst (λ (ts : Held). Redone tables bytes ts None (drop 8 bytes)) (sym same)
      (redone_none tables bytes (drop 8 bytes) (is ∙ ap (λ (bs : List ℕ). header ++ bs) (sym (ap (drop 8) is ∙ drop_at header rest 8 refl)))),
  omega (arith, ap length is, length-append header rest),
)

-- ---- the bytes of a disk

none_behind : (bytes more : List ℕ) → length (bytes ++ more) ≤ length bytes → bytes ++ more ≡ bytes
none_behind bytes [] le = append-nil bytes
none_behind bytes (x ∷ more) le = absurd (omega (arith, le, length-append bytes (x ∷ more)))

-- where so many were read as the disk has, they are its own
pub all_own : (held : Option (List ℕ)) (len : ℕ) (bytes : List ℕ) → HasLength held len → IsFrontOf held bytes → len ≤ length bytes → IsOwn held bytes
all_own None len bytes count front le = tt
all_own (Some own) len bytes count front le =
    front.1 ∙ none_behind bytes front.0 (omega (arith, count, le, ap length front.1))

-- before any was read
pub none_front : (held : Option (List ℕ)) → IsFrontOf held []
none_front None = ([], tt)
none_front (Some own) = (own, refl)

-- behind them the disk gives the next
pub next_front : (held : Option (List ℕ)) (bytes piece : List ℕ) → IsFrontOf held bytes → ReadsAt held (length bytes) piece → IsFrontOf held (bytes ++ piece)
next_front None bytes piece front reads = ([], tt)
next_front (Some own) bytes piece front reads =
    let more = front.0 in
    let count = length piece in
    let is : piece ≡ take count more =
    reads ∙ ap (λ (bs : List ℕ). take count (drop (length bytes) bs)) front.1 ∙ ap (take count) (drop_at bytes more (length bytes) refl) in (
      drop count more,
      front.1 ∙ ap (λ (bs : List ℕ). bytes ++ bs) (sym (take-append-drop count more))
          ∙ ap (λ (bs : List ℕ). bytes ++ (bs ++ drop count more)) (sym is) ∙ sym (append_assoc bytes piece (drop count more)),
    )

-- ---- what it comes to

headed : (bytes more behind : List ℕ) → 8 ≤ length bytes → bytes ++ more ≡ header ++ behind → bytes ≡ header ++ drop 8 bytes
headed bytes more behind long is =
    let parts : bytes ≡ take 8 bytes ++ drop 8 bytes = sym (take-append-drop 8 bytes) in
    let whole : take 8 bytes ++ (drop 8 bytes ++ more) ≡ header ++ behind =
    sym (append_assoc (take 8 bytes) (drop 8 bytes) more) ∙ ap (λ (bs : List ℕ). bs ++ more) (sym parts) ∙ is in
    let eight : length (take 8 bytes) ≡ 8 = omega (arith, long, length-take 8 bytes) in
    let front : take 8 bytes ≡ header =
    sym (take_at (take 8 bytes) (drop 8 bytes ++ more) 8 eight) ∙ ap (take 8) whole ∙ take_at header behind 8 refl in
    parts ∙ ap (λ (bs : List ℕ). bs ++ drop 8 bytes) front

pub no_header : (first : Held) (held : Option (List ℕ)) (len : ℕ) (bytes : List ℕ) → HasLength held len → IsFrontOf held bytes → min len 4096 ≤ length bytes
    → HasNoHeader bytes → DamagedIn first held (Damaged 0)
no_header first None len bytes count front long none = (bytes, tt, inl (none, refl))
no_header first (Some own) len bytes count front long none =
    (own, refl, inl (⊎_elim short enough (cases_lt (length bytes) 8), refl))
  where
    short : length bytes < 8 → HasNoHeader own
    short less behind is = none behind (sym (all_own (Some own) len bytes count front (omega (arith, less, long))) ∙ is)

    enough : 8 ≤ length bytes → HasNoHeader own
    enough le behind is = none (drop 8 bytes) (headed bytes front.0 behind le (sym front.1 ∙ is))

module _ (first : Held) (held : Option (List ℕ)) (bytes : List ℕ) (now : Held) (time : Option ℕ) (gate : ℕ) (within : gate ≤ length bytes)
    (front : IsFrontOf held bytes) (redone : IsRedone first bytes now time gate) where
  all_redone : Redone first (bytes ++ front.0) now time (drop gate bytes ++ front.0)
  all_redone = redone_on first bytes front.0 now time (drop gate bytes) redone

  broken_in : (more : List ℕ) → IsOwn held (bytes ++ more) → Redone first (bytes ++ more) now time (drop gate bytes ++ more)
      → IsBroken now time (drop gate bytes ++ more) → DamagedIn first held (Damaged gate)
  broken_in more own r broken = (
    bytes ++ more,
    own,
    inr (redone_broken first (bytes ++ more) now time (drop gate bytes ++ more) gate r broken
        (omega (arith, within, length-append bytes more, length-append (drop gate bytes) more, length-drop gate bytes))),
  )

  pub stop_found : (stop : Stop) → StopsAt now time (drop gate bytes) stop → IfOk (stopped_at stop now gate) (λ found. RecoversFrom first held (Ok found))
  stop_found stops.Closed closed = (
    bytes ++ front.0,
    front.1,
    redone_closed first (bytes ++ front.0) now time (drop gate bytes ++ front.0) all_redone
        (closed.0 ++ front.0, ap (λ (bs : List ℕ). bs ++ front.0) closed.1),
  )
  stop_found stops.Short h = tt
  stop_found stops.Broken h = tt
  stop_found stops.OutOfMemory h = tt

  pub stop_damaged : (stop : Stop) → StopsAt now time (drop gate bytes) stop → (stop ≡ stops.Short → IsOwn held bytes)
      → IfErr (stopped_at stop now gate) (DamagedIn first held)
  stop_damaged stops.Closed h own = tt
  stop_damaged stops.Short h own =
      (bytes, own refl, inr (redone_broken first bytes now time (drop gate bytes) gate redone h (omega (arith, within, length-drop gate bytes))))
  stop_damaged stops.Broken h own = broken_in front.0 front.1 all_redone (h front.0)
  stop_damaged stops.OutOfMemory h own = tt

-- what the bytes so far have was done up to the gate at this offset, of a disk that has so many
pub record IsReadTo (held : Option (List ℕ)) (len : ℕ) (first : Held) (bytes : List ℕ) (now : Held) (time : Option ℕ) (gate : ℕ) : Type 0 where
  pub count : HasLength held len
  pub front : IsFrontOf held bytes
  pub short : length bytes ≤ len
  pub redone : IsRedone first bytes now time gate
  pub within : gate ≤ length bytes

module _ (first : Held) (len : ℕ) (bytes read : List ℕ) (same : read ≡ bytes) where
  -- after some more of the entries that they have
  pub advanced : (held : Option (List ℕ)) (before now : Held) (earlier time : Option ℕ) (start gate : ℕ) → IsReadTo held len first bytes before earlier start
      → ((any : Held) → IsRedone any read before earlier start → IsRedone any read now time gate) → gate ≤ length read
      → IsReadTo held len first bytes now time gate
  advanced held before now earlier time start gate r redone within = record {
    count = r.count;
    front = r.front;
    short = r.short;
    redone = subst (λ (bs : List ℕ). IsRedone first bs now time gate) same
        (redone first (subst (λ (bs : List ℕ). IsRedone first bs before earlier start) (sym same) r.redone));
    within = omega (arith, within, ap length same);
  }

  module _ (held now_held : Option (List ℕ)) (unmoved : now_held ≡ held) (now : Held) (time : Option ℕ) (gate : ℕ)
      (r : IsReadTo now_held len first bytes now time gate) (stop : Stop) (there : StopsAt now time (drop gate read) stop)
      (result : Result Held RecoverError) (is : result ≡ stopped_at stop now gate) where
    at_bytes : StopsAt now time (drop gate bytes) stop
    at_bytes = subst (λ (bs : List ℕ). StopsAt now time (drop gate bs) stop) same there

    pub comes_to_tables : IfOk result (λ found. RecoversFrom first held (Ok found))
    comes_to_tables =
        subst (λ (h : Option (List ℕ)). IfOk result (λ found. RecoversFrom first h (Ok found))) unmoved
        (subst (λ (x : Result Held RecoverError). IfOk x (λ found. RecoversFrom first now_held (Ok found))) (sym is)
        (stop_found first now_held bytes now time gate r.within r.front r.redone stop at_bytes))

    pub comes_to_damage : (stop ≡ stops.Short → len ≤ length bytes) → IfErr result (DamagedIn first held)
    comes_to_damage ended =
        subst (λ (h : Option (List ℕ)). IfErr result (DamagedIn first h)) unmoved
        (subst (λ (x : Result Held RecoverError). IfErr x (DamagedIn first now_held)) (sym is)
        (stop_damaged first now_held bytes now time gate r.within r.front r.redone stop at_bytes
        (λ short. all_own now_held len bytes r.count r.front (ended short))))

-- with more bytes read
pub read_further : (first : Held) (len : ℕ) (bytes longer : List ℕ) (held next : Option (List ℕ)) (now : Held) (time : Option ℕ) (gate : ℕ)
    → IsReadTo held len first bytes now time gate → next ≡ held → IsFrontOf held longer → BeginsWith longer bytes → length longer ≤ len
    → IsReadTo next len first longer now time gate
read_further first len bytes longer held next now time gate r same front begins short = record {
  count = subst (λ (h : Option (List ℕ)). HasLength h len) (sym same) r.count;
  front = subst (λ (h : Option (List ℕ)). IsFrontOf h longer) (sym same) front;
  short = short;
  redone = more_redone first bytes longer now time gate r.within begins r.redone;
  within = omega (arith, r.within, ap length begins.1, length-append bytes begins.0);
}
