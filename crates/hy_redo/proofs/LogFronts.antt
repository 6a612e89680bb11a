-- What stands before the rest of a log does not depend on the rest.
use Rattle.std.proofs.Common.{◌≡◌, ℕ, ◌+◌, List, [], ◌∷◌, ◌++◌, length, refl, sym, ap, subst, ◌∙◌, append_assoc, length-append, arith}
use Rattle.hy_journal.specs.declared.Entry.{Entry}
use Rattle.hy_log_record.specs.Bytes.{record_of}
use Rattle.hy_redo.specs.Logs.{header, OpensWith, OpenWith, Leads}

records_front : (entries : List Entry) (bytes rest : List ℕ) → OpenWith entries bytes rest
    → (front : List ℕ) × (bytes ≡ front ++ rest) × ((other : List ℕ) → OpenWith entries (front ++ other) other)
records_front [] bytes rest e = ([], e, λ other. refl)
records_front (entry ∷ entries) bytes rest h =
    let first : OpensWith entry bytes h.0 = h.1 in
    let later = records_front entries h.0 rest h.2 in
    let record_bytes = record_of entry in
    let whole : bytes ≡ first.gate ∷ ((record_bytes ++ later.0) ++ rest) =
    first.is ∙ ap (λ (bs : List ℕ). first.gate ∷ (record_bytes ++ bs)) later.1
    ∙ ap (λ (bs : List ℕ). first.gate ∷ bs) (sym (append_assoc record_bytes later.0 rest)) in (
      first.gate ∷ (record_bytes ++ later.0),
      whole,
      λ other. (
        later.0 ++ other,
        record {
          gate = first.gate;
          nonzero = first.nonzero;
          has = first.has;
          is =
              ap (λ (bs : List ℕ). first.gate ∷ bs) (append_assoc record_bytes later.0 other);
        },
        later.2 other,
      ),
    )

-- the bytes before the rest, which lead to whatever stands behind them
pub record Front (entries : List Entry) (bytes : List ℕ) (offset : ℕ) (rest : List ℕ) : Type 0 where
  pub front : List ℕ
  pub whole : bytes ≡ front ++ rest
  pub long : length front ≡ offset
  pub leads : (other : List ℕ) → Leads entries (front ++ other) offset other

pub front_of : (entries : List Entry) (bytes : List ℕ) (offset : ℕ) (rest : List ℕ) → Leads entries bytes offset rest → Front entries bytes offset rest
front_of entries bytes offset rest h =
    let r = records_front entries h.behind rest h.records in
    let front = header ++ r.0 in
    let whole : bytes ≡ front ++ rest = h.headed ∙ ap (λ (bs : List ℕ). header ++ bs) r.1 ∙ sym (append_assoc header r.0 rest) in
    let long : length front ≡ offset = omega (arith, h.counted, ap length whole, length-append front rest) in
    record {
      front = front;
      whole = whole;
      long = long;
      leads = λ other. record {
        behind = r.0 ++ other;
        headed = append_assoc header r.0 other;
        records = r.2 other;
        counted =
            omega (arith, long, length-append front other);
      };
    }

records_all : (entries more : List Entry) (bytes rest behind : List ℕ) → OpenWith entries bytes rest → OpenWith more rest behind
    → OpenWith (entries ++ more) bytes behind
records_all [] more bytes rest behind e opens = subst (λ (bs : List ℕ). OpenWith more bs behind) (sym e) opens
records_all (first ∷ entries) more bytes rest behind h opens = (h.0, h.1, records_all entries more h.0 rest behind h.2 opens)

-- more entries
pub leads_all : (entries more : List Entry) (bytes : List ℕ) (offset next : ℕ) (rest behind : List ℕ) → Leads entries bytes offset rest
    → OpenWith more rest behind → next + length behind ≡ length bytes → Leads (entries ++ more) bytes next behind
leads_all entries more bytes offset next rest behind h opens counted = record {
  behind = h.behind;
  headed = h.headed;
  records = records_all entries more h.behind rest behind h.records opens;
  counted = counted;
}

-- one more entry
pub leads_push : (entries : List Entry) (entry : Entry) (bytes : List ℕ) (offset : ℕ) (rest behind : List ℕ) → Leads entries bytes offset rest
    → OpensWith entry rest behind
    → Leads (entries ++ entry ∷ []) bytes (offset + 1 + length (record_of entry)) behind
leads_push entries entry bytes offset rest behind h opens =
    leads_all entries (entry ∷ []) bytes offset (offset + 1 + length (record_of entry)) rest behind h (behind, opens, refl)
    (omega (arith, h.counted, ap length opens.is, length-append (record_of entry) behind))
