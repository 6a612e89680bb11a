-- What an append leaves at each of its calls.
use Rattle.std.proofs.Common.{◌≡◌, ℕ, zero, suc, ◌+◌, ◌<◌, ◌≤◌, List, [], ◌∷◌, ◌++◌, length, drop, Option, None, Some}
use Rattle.std.proofs.Common.{Result, Err, refl, sym, ap, subst, ◌∙◌, append_assoc, length-append, arith, inl, inr, ⊎_elim}
use Rattle.std.specs.Prelude.{option_map}
use Rattle.std.specs.List.{flat_map, AllByRecursion}
use Rattle.std.proofs.lemmas.List.{append-nil, drop_all}
use Rattle.std.proofs.lemmas.Grind.{flat_map-append}
use Rattle.std.proofs.lemmas.Option.{same_Some}
use Rattle.hy_journal.specs.declared.Entry.{Entry}
use Rattle.hy_log_record.specs.Bytes.{record_of, HasBytes}
use Rattle.hy_disk.specs.Bytes.{overwritten, Touched, ReachesTo}
use Rattle.hy_disk.specs.Calls.{TouchedOf, Writes, IsDurable}
use Rattle.hy_disk.specs.declared.DiskError.{DiskError}
use Rattle.hy_disk.specs.declared.DiskError.TheVariants as disks
use Rattle.hy_redo.specs.declared.errors.AppendError.{AppendError}
use Rattle.hy_redo.specs.declared.errors.AppendError.TheVariants as appending
use Rattle.hy_redo.specs.Errors.{as_append}
use Rattle.hy_redo.specs.Logs.{header, gated, closing, log_of, OpenWith, Leads, IsLogOf, IsWholeLog, IsBatchOf}
use Rattle.hy_redo.specs.Crashes.{next_gate, AreLogsOf, AreClosedAt, IsBeforeOrAfter, Appends}
use Rattle.hy_redo.proofs.LogFronts.{front_of, leads_all}
use Rattle.hy_redo.proofs.TouchedBytes.{touched_behind, touched_at, written_behind, written_at}

pub closing_is : (more : List Entry) → 0 < length more → flat_map gated more ++ 0 ∷ [] ≡ 1 ∷ closing more
closing_is [] some = absurd (omega (arith, some))
closing_is (entry ∷ others) some = refl

closing_long : (more : List Entry) → 0 < length (closing more)
closing_long [] = omega arith
closing_long (entry ∷ others) = omega (arith, length-append (record_of entry ++ flat_map gated others) (0 ∷ []))

-- the log of the entries, with the records of more behind its closed gate
pub record IsStaged (entries more : List Entry) (gate : ℕ) (bytes : List ℕ) : Type 0 where
  pub front : List ℕ
  pub behind : List ℕ
  pub whole : bytes ≡ front ++ 0 ∷ (closing more ++ behind)
  pub long : length front ≡ gate
  pub leads : (other : List ℕ) → Leads entries (front ++ other) gate other

-- entries behind gates of which the first is this byte
opens_all : (entry : Entry) (others : List Entry) (byte : ℕ) (rest : List ℕ) → 0 < byte → AllByRecursion HasBytes (entry ∷ others)
    → OpenWith (entry ∷ others) (byte ∷ (record_of entry ++ (flat_map gated others ++ rest))) rest
opens_all entry [] byte rest nonzero has = (rest, record { gate = byte; nonzero = nonzero; has = has.0; is = refl }, refl)
opens_all entry (next ∷ others) byte rest nonzero has =
    let behind : List ℕ = 1 ∷ (record_of next ++ (flat_map gated others ++ rest)) in
    let is : flat_map gated (next ∷ others) ++ rest ≡ behind = ap (λ (bs : List ℕ). 1 ∷ bs) (append_assoc (record_of next) (flat_map gated others) rest) in (
      behind,
      record { gate = byte; nonzero = nonzero; has = has.0; is = ap (λ (bs : List ℕ). byte ∷ (record_of entry ++ bs)) is },
      opens_all next others 1 rest (omega arith) has.1,
    )

module _ (entries more : List Entry) (gate : ℕ) where
  -- a touch behind the closed gate leaves the log
  pub log_behind : (count : ℕ) (old new : List ℕ) → IsLogOf entries gate old → Touched (gate + 1) count old new → IsLogOf entries gate new
  log_behind count old new log touched =
      let f = front_of entries old gate (0 ∷ log.follows) log.leads in
      let is = touched_behind f.front gate f.long 0 log.follows count new (subst (λ (bs : List ℕ). Touched (gate + 1) count bs new) f.whole touched) in
      record {
        follows = drop (gate + 1) new;
        leads = subst (λ (bs : List ℕ). Leads entries bs gate (0 ∷ drop (gate + 1) new)) (sym is)
            (f.leads (0 ∷ drop (gate + 1) new));
      }

  -- the records that are written there
  pub staged_from_log : (old : List ℕ) → IsLogOf entries gate old → IsStaged entries more gate (overwritten old (gate + 1) (closing more))
  staged_from_log old log =
      let f = front_of entries old gate (0 ∷ log.follows) log.leads in
      let text = closing more in
      record {
        front = f.front;
        behind = drop (gate + 1 + length text) (f.front ++ 0 ∷ log.follows);
        whole = ap (λ (bs : List ℕ). overwritten bs (gate + 1) text) f.whole ∙ written_behind f.front gate f.long 0 log.follows text;
        long = f.long;
        leads = f.leads;
      }

  closed_again : (front text rest bytes : List ℕ) (byte : ℕ) → length front ≡ gate → ((other : List ℕ) → Leads entries (front ++ other) gate other)
      → bytes ≡ front ++ zero ∷ (text ++ rest) → IsLogOf entries gate bytes
  closed_again front text rest bytes byte long leads is =
      record { follows = text ++ rest; leads = subst (λ (bs : List ℕ). Leads entries bs gate (0 ∷ (text ++ rest))) (sym is) (leads (0 ∷ (text ++ rest))) }

-- behind an open gate the entries count
opened_by : (entries : List Entry) (entry : Entry) (others : List Entry) (gate : ℕ) (front rest bytes : List ℕ) (byte : ℕ) → 0 < byte
    → AllByRecursion HasBytes (entry ∷ others) → ((other : List ℕ) → Leads entries (front ++ other) gate other)
    → bytes ≡ front ++ byte ∷ (closing (entry ∷ others) ++ rest)
    → IsLogOf (entries ++ entry ∷ others) (next_gate gate (entry ∷ others)) bytes
opened_by entries entry others gate front rest bytes byte nonzero has leads is =
    let first = record_of entry in
    let later = flat_map gated others in
    let next = next_gate gate (entry ∷ others) in
    let tail : List ℕ = byte ∷ (first ++ (later ++ 0 ∷ rest)) in
    let whole : bytes ≡ front ++ tail =
    is ∙ ap (λ (bs : List ℕ). front ++ byte ∷ bs) (append_assoc (first ++ later) (0 ∷ []) rest ∙ append_assoc first later (0 ∷ rest)) in
    let counted : next + length (0 ∷ rest) ≡ length (front ++ tail) =
    omega (arith, (leads tail).counted, length-append first (later ++ 0 ∷ rest), length-append later (0 ∷ rest), length-append first later) in
    record {
      follows = rest;
      leads = subst (λ (bs : List ℕ). Leads (entries ++ entry ∷ others) bs next (0 ∷ rest)) (sym whole)
          (leads_all entries (entry ∷ others) (front ++ tail) gate next tail (0 ∷ rest) (leads tail) (opens_all entry others byte (0 ∷ rest) nonzero has)
          counted);
    }

opened : (entries more : List Entry) (gate : ℕ) (front rest bytes : List ℕ) (byte : ℕ) → 0 < byte → 0 < length more → AllByRecursion HasBytes more
    → ((other : List ℕ) → Leads entries (front ++ other) gate other) → bytes ≡ front ++ byte ∷ (closing more ++ rest)
    → IsLogOf (entries ++ more) (next_gate gate more) bytes
opened entries [] gate front rest bytes byte nonzero some has leads is = absurd (omega (arith, some))
opened entries (entry ∷ others) gate front rest bytes byte nonzero some has leads is =
    opened_by entries entry others gate front rest bytes byte nonzero has leads is

module _ (entries more : List Entry) (gate : ℕ) where
  either : (front rest bytes : List ℕ) (byte : ℕ) → 0 < length more → AllByRecursion HasBytes more → length front ≡ gate
      → ((other : List ℕ) → Leads entries (front ++ other) gate other) → bytes ≡ front ++ byte ∷ (closing more ++ rest)
      → IsBeforeOrAfter entries more gate bytes
  either front rest bytes zero some has long leads is = inl (closed_again entries more gate front (closing more) rest bytes 0 long leads is)
  either front rest bytes (suc byte) some has long leads is =
      inr (opened entries more gate front rest bytes (suc byte) (omega arith) some has leads is)

  -- a touch of the gate leaves the log without the new entries, or with them
  pub gate_touched : (old new : List ℕ) → 0 < length more → AllByRecursion HasBytes more → IsStaged entries more gate old → Touched gate 1 old new
      → IsBeforeOrAfter entries more gate new
  gate_touched old new some has s touched =
      let at = touched_at s.front gate s.long 0 (closing more) s.behind new (closing_long more)
      (subst (λ (bs : List ℕ). Touched gate 1 bs new) s.whole touched) in
      either s.front at.1 new at.0 some has s.long s.leads at.2

  pub gate_opened : (old : List ℕ) → 0 < length more → AllByRecursion HasBytes more → IsStaged entries more gate old
      → IsLogOf (entries ++ more) (next_gate gate more) (overwritten old gate (1 ∷ []))
  gate_opened old some has s =
      let is : overwritten old gate (1 ∷ []) ≡ s.front ++ 1 ∷ (closing more ++ s.behind) =
      ap (λ (bs : List ℕ). overwritten bs gate (1 ∷ [])) s.whole ∙ written_at s.front gate s.long 0 1 (closing more ++ s.behind) in
      opened entries more gate s.front s.behind (overwritten old gate (1 ∷ [])) 1 (omega arith) some has s.leads is

  pub staged_long : (bytes : List ℕ) → IsStaged entries more gate bytes → gate ≤ length bytes
  staged_long bytes s = omega (arith, ap length s.whole, s.long, length-append s.front (0 ∷ (closing more ++ s.behind)))

  pub log_long : (bytes : List ℕ) → IsLogOf entries gate bytes → gate + 1 ≤ length bytes
  log_long bytes log =
      let f = front_of entries bytes gate (0 ∷ log.follows) log.leads in
      omega (arith, ap length f.whole, f.long, length-append f.front (0 ∷ log.follows))

-- ---- told bytes

pub told_before : (f : List ℕ → List ℕ) (held : Option (List ℕ)) (bytes : List ℕ) → option_map f held ≡ Some bytes
    → (old : List ℕ) × (held ≡ Some old) × (f old ≡ bytes)
told_before f None bytes e = absurd cc
told_before f (Some old) bytes e = (old, refl, same_Some (f old) bytes e)

pub reaches : (held : Option (List ℕ)) (offset : ℕ) → ((bytes : List ℕ) → held ≡ Some bytes → offset ≤ length bytes) → ReachesTo held offset
reaches None offset h = tt
reaches (Some bytes) offset h = h bytes refl

-- ---- the calls of an append

module _ {D : Type 0} (held : D → Option (List ℕ)) (clock : D → ℕ) (image : D → List ℕ → Type 0) (image_since : D → ℕ → List ℕ → Type 0)
    (held_is_image : (disk : D) (bytes : List ℕ) → held disk ≡ Some bytes → image disk bytes)
    (now_alone : (disk : D) (bytes : List ℕ) → image_since disk (clock disk) bytes → image disk bytes)
    (more : List Entry) (gate : ℕ) (before : D) where
  pub reaches_behind : AreClosedAt (image before) gate → ReachesTo (held before) (gate + 1)
  reaches_behind closed = reaches (held before) (gate + 1) (λ bytes is. let log =
      closed bytes (held_is_image before bytes is) in log_long log.0 more gate bytes log.1)

  pub reaches_gate : (between : D) → AreClosedAt (image before) gate
      → held between ≡ option_map (λ bytes. overwritten bytes (gate + 1) (closing more)) (held before) → ReachesTo (held between) gate
  reaches_gate between closed written = reaches (held between) gate (λ bytes is.
      let old = told_before (λ bytes. overwritten bytes (gate + 1) (closing more)) (held before) bytes (sym written ∙ is) in
      let log = closed old.0 (held_is_image before old.0 old.1) in
      staged_long log.0 more gate bytes (subst (IsStaged log.0 more gate) old.2 (staged_from_log log.0 more gate old.0 log.1)))

  module _ (entries : List Entry) (logs : AreLogsOf (image before) entries gate) where
    pub nothing_yet : Appends clock image_since entries more gate before before
    nothing_yet = record {
      later = omega arith;
      each = λ bytes since. inl (logs bytes (now_alone before bytes since));
      moments = λ time bytes le since. inl since;
    }

    -- after a write behind the closed gate
    pub still_logs : (count : ℕ) (between : D) → Writes clock image image_since (gate + 1) count before between → AreLogsOf (image between) entries gate
    still_logs count between w bytes now = let old = w.images bytes now in log_behind entries more gate count old.0 bytes (logs old.0 old.1) old.2

    pub staging : (count : ℕ) (between : D) → Writes clock image image_since (gate + 1) count before between
        → Appends clock image_since entries more gate before between
    staging count between w =
        let touched : (bytes : List ℕ) → TouchedOf (gate + 1) count (image before) bytes → IsBeforeOrAfter entries more gate bytes =
        λ bytes old. inl (log_behind entries more gate count old.0 bytes (logs old.0 old.1) old.2) in
        record {
          later = w.later;
          each = λ bytes since. ⊎_elim (λ past. inl (logs bytes (now_alone before bytes past))) (touched bytes)
              (w.moments (clock before) bytes (omega arith) since);
          moments = λ time bytes le since. ⊎_elim (λ past. inl past) (λ old. inr (touched bytes old)) (w.moments time bytes le since);
        }

    pub is_staged : (between : D) → held between ≡ option_map (λ bytes. overwritten bytes (gate + 1) (closing more)) (held before)
        → IsDurable (held between) (image between)
        → (bytes : List ℕ) → image between bytes → IsStaged entries more gate bytes
    is_staged between written durable bytes now =
        let old = told_before (λ bytes. overwritten bytes (gate + 1) (closing more)) (held before) bytes (sym written ∙ durable bytes now) in
        subst (IsStaged entries more gate) old.2 (staged_from_log entries more gate old.0 (logs old.0 (held_is_image before old.0 old.1)))

    -- after a write of the gate
    pub opening : (count : ℕ) (between after : D) → 0 < length more → AllByRecursion HasBytes more → Writes clock image image_since (gate + 1) count before between
        → ((bytes : List ℕ) → image between bytes → IsStaged entries more gate bytes)
        → Writes clock image image_since gate 1 between after → Appends clock image_since entries more gate before after
    opening count between after some has w staged v =
        let first = staging count between w in
        let touched : (bytes : List ℕ) → TouchedOf gate 1 (image between) bytes → IsBeforeOrAfter entries more gate bytes =
        λ bytes old. gate_touched entries more gate old.0 bytes some has (staged old.0 old.1) old.2 in
        record {
          later = omega (arith, w.later, v.later);
          each = λ bytes since. ⊎_elim (first.each bytes) (touched bytes) (v.moments (clock before) bytes w.later since);
          moments = λ time bytes le since. ⊎_elim (first.moments time bytes le) (λ old. inr (touched bytes old))
              (v.moments time bytes (omega (arith, le, w.later)) since);
        }

    pub with_more : (between after : D) → 0 < length more → AllByRecursion HasBytes more → ((bytes : List ℕ) → image between bytes → IsStaged entries more gate bytes)
        → held after ≡ option_map (λ bytes. overwritten bytes gate (1 ∷ [])) (held between) → IsDurable (held after) (image after)
        → AreLogsOf (image after) (entries ++ more) (next_gate gate more)
    with_more between after some has staged written durable bytes now =
        let old = told_before (λ bytes. overwritten bytes gate (1 ∷ [])) (held between) bytes (sym written ∙ durable bytes now) in
        subst (IsLogOf (entries ++ more) (next_gate gate more)) old.2
        (gate_opened entries more gate old.0 some has (staged old.0 (held_is_image between old.0 old.1)))

-- what is said of bytes and a gate holds of the batch and the log that are seen as these
pub seen_moments : {D : Type 0} (clock : D → ℕ) (images : List ℕ → Type 0) (image_since : D → ℕ → List ℕ → Type 0) (before after : D) {bytes batch : List ℕ}
    {gate log : ℕ} → bytes ≡ batch → gate ≡ log
    → ((entries more : List Entry) → IsBatchOf more bytes → AreLogsOf images entries gate → Appends clock image_since entries more gate before after)
    → (entries more : List Entry) → IsBatchOf more batch → AreLogsOf images entries log → Appends clock image_since entries more log before after
seen_moments clock images image_since before after {bytes} {batch} {gate} {log} same_bytes same_gate moments entries more is_batch =
    subst (λ (n : ℕ). AreLogsOf images entries n → Appends clock image_since entries more n before after) same_gate
    (moments entries more (subst (λ (bs : List ℕ). IsBatchOf more bs) (sym same_bytes) is_batch))

-- an append that tells of want of memory passes on that of the disk
pub memory_only : {T : Type 0} (result : Result T AppendError) (e : DiskError) (out : AppendError) → result ≡ Err out → out ≡ as_append e
    → result ≡ Err appending.OutOfMemory → e ≡ disks.OutOfMemory
memory_only result disks.Failed out is from h = cc
memory_only result disks.OutOfMemory out is from h = refl

-- ---- the bytes of a log that was never touched

-- the log of more entries, in parts
log_more : (entries more : List Entry) → 0 < length more → log_of (entries ++ more) ≡ (header ++ flat_map gated entries) ++ 1 ∷ closing more
log_more entries [] some = absurd (omega (arith, some))
log_more entries (entry ∷ others) some =
    let more = entry ∷ others in
    let old = flat_map gated entries in
    let new = flat_map gated more in
    ap (λ (bs : List ℕ). header ++ (bs ++ 0 ∷ [])) (flat_map-append gated entries more)
    ∙ (ap (λ (bs : List ℕ). header ++ bs) (append_assoc old new (0 ∷ [])) ∙ sym (append_assoc header old (new ++ 0 ∷ [])))

closing_counted : (more : List Entry) → 0 < length more → length (closing more) ≡ length (flat_map gated more)
closing_counted [] some = absurd (omega (arith, some))
closing_counted (entry ∷ others) some = omega (arith, length-append (record_of entry ++ flat_map gated others) (0 ∷ []))

module _ (entries more : List Entry) (gate : ℕ) (some : 0 < length more) where
  pub whole_next : (held between after : Option (List ℕ)) → IsWholeLog held entries gate
      → between ≡ option_map (λ bytes. overwritten bytes (gate + 1) (closing more)) held
      → after ≡ option_map (λ bytes. overwritten bytes gate (1 ∷ [])) between → IsWholeLog after (entries ++ more) (next_gate gate more)
  whole_next held between after whole written opened_gate =
      let front = header ++ flat_map gated entries in
      let text = closing more in
      let parts : log_of entries ≡ front ++ 0 ∷ [] = sym (append_assoc header (flat_map gated entries) (0 ∷ [])) in
      let long : length front ≡ gate = omega (arith, whole.last, ap length parts, length-append front (0 ∷ [])) in
      let end : drop (gate + 1 + length text) (front ++ 0 ∷ []) ≡ [] =
      drop_all (gate + 1 + length text) (front ++ 0 ∷ []) (omega (arith, long, length-append front (0 ∷ []))) in
      let staged : overwritten (log_of entries) (gate + 1) text ≡ front ++ 0 ∷ text =
      ap (λ (bs : List ℕ). overwritten bs (gate + 1) text) parts ∙ written_behind front gate long 0 [] text
      ∙ ap (λ (bs : List ℕ). front ++ 0 ∷ (text ++ bs)) end ∙ ap (λ (bs : List ℕ). front ++ 0 ∷ bs) (append-nil text) in
      let gone : overwritten (overwritten (log_of entries) (gate + 1) text) gate (1 ∷ []) ≡ front ++ 1 ∷ text =
      ap (λ (bs : List ℕ). overwritten bs gate (1 ∷ [])) staged ∙ written_at front gate long 0 1 text in
      let next : log_of (entries ++ more) ≡ front ++ 1 ∷ text = log_more entries more some in
      let first : between ≡ Some (overwritten (log_of entries) (gate + 1) text) =
      written ∙ ap (option_map (λ (bytes : List ℕ). overwritten bytes (gate + 1) text)) whole.told in
      let second : after ≡ Some (overwritten (overwritten (log_of entries) (gate + 1) text) gate (1 ∷ [])) =
      opened_gate ∙ ap (option_map (λ (bytes : List ℕ). overwritten bytes gate (1 ∷ []))) first in
      record {
        told = second ∙ ap (λ (bs : List ℕ). Some bs) (gone ∙ sym next);
        last = omega (arith, long, ap length next, length-append front (1 ∷ text), closing_counted more some);
      }

-- ---- no entries

pub none_more : (more : List Entry) → length more ≡ 0 → more ≡ []
none_more [] none = refl
none_more (entry ∷ others) none = absurd (omega (arith, none))

pub logs_with_none : (images : List ℕ → Type 0) (entries more : List Entry) (gate : ℕ) → more ≡ [] → AreLogsOf images entries gate
    → AreLogsOf images (entries ++ more) (next_gate gate more)
logs_with_none images entries more gate none logs =
    let same : gate ≡ gate + 0 = omega arith in
    subst (λ (ms : List Entry). AreLogsOf images (entries ++ ms) (next_gate gate ms)) (sym none)
    (subst (λ (n : ℕ). AreLogsOf images (entries ++ []) n) same (subst (λ (es : List Entry). AreLogsOf images es gate) (sym (append-nil entries)) logs))

pub whole_with_none : (held : Option (List ℕ)) (entries more : List Entry) (gate : ℕ) → more ≡ [] → IsWholeLog held entries gate
    → IsWholeLog held (entries ++ more) (next_gate gate more)
whole_with_none held entries more gate none whole =
    let same : gate ≡ gate + 0 = omega arith in
    subst (λ (ms : List Entry). IsWholeLog held (entries ++ ms) (next_gate gate ms)) (sym none)
    (subst (λ (n : ℕ). IsWholeLog held (entries ++ []) n) same (subst (λ (es : List Entry). IsWholeLog held es gate) (sym (append-nil entries)) whole))
