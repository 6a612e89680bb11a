-- What reading a log from its front finds.
use Rattle.std.proofs.Common.{◌≡◌, ℕ, zero, suc, ◌+◌, ◌^◌, ◌<◌, ◌≤◌, List, [], ◌∷◌, ◌++◌, length, Option}
use Rattle.std.proofs.Common.{None, Some, refl, sym, ap, subst, ◌∙◌, append_assoc, length-append, arith}
use Rattle.hy_journal.specs.declared.Entry.{Entry}
use Rattle.hy_log_record.specs.Bytes.{be64, body_of, record_of}
use Rattle.hy_log_record.specs.Bodies.{IsBody}
use Rattle.hy_log_record.specs.Laws.{LengthsTell}
use Rattle.hy_redo.specs.Tables.{Held, after_entry, after_changes, applied, Stands, AllStand, last_time}
use Rattle.hy_redo.specs.Logs.{header, OpensWith, Leads}
use Rattle.hy_redo.specs.Recovery.{RecoversTo, IsBroken, IsBrokenAt}
use Rattle.hy_log_record.specs.declared.BodyError.{BodyError}
use Rattle.hy_log_record.specs.declared.BodyError.TheVariants as bodies
use Rattle.hy_redo.specs.Tests.{IsStanding, IsNext, IsClosed, StopsAt, as_stop, Redone}
use Rattle.hy_redo.proofs.LogFronts.{leads_push}

-- ---- the next entry

pub broken_end : (tables : Held) (last : Option ℕ) → IsBroken tables last []
broken_end tables last = record {
  not_closed = λ follows e. absurd cc;
  not_open = λ entry rest opens stands. let e = opens.is in absurd cc;
}

tails : (x y : ℕ) (xs ys : List ℕ) → x ∷ xs ≡ y ∷ ys → (x ≡ y) × (xs ≡ ys)
tails x y xs ys e = (cc, cc)

module _ (tables : Held) (last : Option ℕ) (gate : ℕ) (behind : List ℕ) (nonzero : gate ≡ 0 → ⊥) where
  not_shut : (follows : List ℕ) → gate ∷ behind ≡ 0 ∷ follows → ⊥
  not_shut follows e = nonzero (tails gate 0 behind follows e).0

  -- what follows an open gate is the record of an entry
  record_behind : (entry : Entry) (rest : List ℕ) → OpensWith entry (gate ∷ behind) rest → behind ≡ be64 (length (body_of entry)) ++ (body_of entry ++ rest)
  record_behind entry rest opens =
      (tails gate opens.gate behind (record_of entry ++ rest) opens.is).1 ∙ append_assoc (be64 (length (body_of entry))) (body_of entry) rest

  pub broken_short : ((body rest : List ℕ) → length body < 2 ^ 64 → behind ≡ be64 (length body) ++ (body ++ rest) → ⊥) → IsBroken tables last (gate ∷ behind)
  broken_short none = record {
    not_closed = not_shut;
    not_open = λ entry rest opens stands. none (body_of entry) rest opens.has.length (record_behind entry rest opens);
  }

  module _ (tells : LengthsTell) (body rest : List ℕ) (parts : behind ≡ be64 (length body) ++ (body ++ rest)) (short : length body < 2 ^ 64) where
    pub broken_body : ((entry : Entry) → IsBody tables entry body → Stands tables last entry → ⊥) → IsBroken tables last (gate ∷ behind)
    broken_body none = record {
      not_closed = not_shut;
      not_open = λ entry left opens stands.
          let same = tells (body_of entry) body left rest opens.has.length short (sym (record_behind entry left opens) ∙ parts) in
          none entry (record { is = sym same.0; has = opens.has; of = stands.of }) stands;
    }

    pub next_found : (entry : Entry) → IsStanding tables last entry body → IsNext tables last (gate ∷ behind) entry rest
    next_found entry s =
        let open_gate : 0 < gate = positive gate nonzero in
        let is : behind ≡ record_of entry ++ rest =
        parts ∙ ap (λ (bs : List ℕ). be64 (length bs) ++ (bs ++ rest)) s.body.is ∙ sym (append_assoc (be64 (length (body_of entry))) (body_of entry) rest) in
        record {
          opens = record { gate = gate; nonzero = open_gate; has = s.body.has; is = ap (λ (bs : List ℕ). gate ∷ bs) is };
          stands = s.stands;
          net = s.net;
        }
      where
        positive : (n : ℕ) → (n ≡ 0 → ⊥) → 0 < n
        positive zero h = absurd (h refl)
        positive (suc n) h = omega arith

-- a record of no entry that stands is so whatever follows it
pub broken_whatever : (tables : Held) (last : Option ℕ) (gate : ℕ) (behind : List ℕ) (nonzero : gate ≡ 0 → ⊥) (tells : LengthsTell) (body rest : List ℕ)
    → behind ≡ be64 (length body) ++ (body ++ rest) → length body < 2 ^ 64 → ((entry : Entry) → IsBody tables entry body → Stands tables last entry → ⊥)
    → (more : List ℕ) → IsBroken tables last (gate ∷ (behind ++ more))
broken_whatever tables last gate behind nonzero tells body rest parts short none more =
    let size = be64 (length body) in
    let longer : behind ++ more ≡ size ++ (body ++ (rest ++ more)) =
    ap (λ (bs : List ℕ). bs ++ more) parts ∙ append_assoc size (body ++ rest) more ∙ ap (λ (bs : List ℕ). size ++ bs) (append_assoc body rest more) in
    broken_body tables last gate (behind ++ more) nonzero tells body (rest ++ more) longer short none

-- ---- all of them

stand_push : (tables : Held) (last : Option ℕ) (entries : List Entry) (entry : Entry) → AllStand tables last entries
    → Stands (applied tables entries) (last_time last entries) entry
    → AllStand tables last (entries ++ entry ∷ [])
stand_push tables last [] entry all s = (s, tt)
stand_push tables last (first ∷ entries) entry all s = (all.0, stand_push (after_entry tables first) (Some first.time) entries entry all.1 s)

pub applied_all : (tables : Held) (entries more : List Entry) → applied tables (entries ++ more) ≡ applied (applied tables entries) more
applied_all tables [] more = refl
applied_all tables (first ∷ entries) more = applied_all (after_entry tables first) entries more

last_push : (last : Option ℕ) (entries : List Entry) (entry : Entry) → last_time last (entries ++ entry ∷ []) ≡ Some entry.time
last_push last [] entry = refl
last_push last (first ∷ entries) entry = last_push (Some first.time) entries entry

pub stand_front : (tables : Held) (last : Option ℕ) (entries more : List Entry) → AllStand tables last (entries ++ more) → AllStand tables last entries
stand_front tables last [] more all = tt
stand_front tables last (first ∷ entries) more all = (all.0, stand_front (after_entry tables first) (Some first.time) entries more all.1)

module _ (first : Held) (bytes : List ℕ) where
  pub redone_none : (rest : List ℕ) → bytes ≡ header ++ rest → Redone first bytes first None rest
  redone_none rest is = record {
    entries = [];
    offset = 8;
    leads = record { behind = rest; headed = is; records = refl; counted = omega (arith, ap length is) };
    stand = tt;
    tables = refl;
    last = refl;
  }

  pub redone_more : (tables : Held) (last : Option ℕ) (rest : List ℕ) (entry : Entry) (behind : List ℕ) (next : Held)
      → Redone first bytes tables last rest → IsNext tables last rest entry behind
      → next ≡ after_changes tables entry.notes → Redone first bytes next (Some entry.time) behind
  redone_more tables last rest entry behind next so_far n is =
      let stands : Stands (applied first so_far.entries) (last_time None so_far.entries) entry =
      subst (λ (t : Option ℕ). Stands (applied first so_far.entries) t entry) so_far.last
      (subst (λ (ts : Held). Stands ts last entry) so_far.tables n.stands) in
      record {
        entries = so_far.entries ++ entry ∷ [];
        offset = so_far.offset + 1 + length (record_of entry);
        leads = leads_push so_far.entries entry bytes so_far.offset rest behind so_far.leads n.opens;
        stand = stand_push first None so_far.entries entry so_far.stand stands;
        tables = is ∙ ap (after_changes tables) (sym n.net) ∙ ap (λ (ts : Held). after_entry ts entry) so_far.tables
            ∙ sym (applied_all first so_far.entries (entry ∷ []));
        last = sym (last_push None so_far.entries entry);
      }

  pub redone_closed : (tables : Held) (last : Option ℕ) (rest : List ℕ) → Redone first bytes tables last rest → IsClosed rest → RecoversTo first bytes tables
  redone_closed tables last rest so_far closed = record {
    entries = so_far.entries;
    gate = so_far.offset;
    log = record { follows = closed.0; leads = subst (λ (r : List ℕ). Leads so_far.entries bytes so_far.offset r) closed.1 so_far.leads };
    stand = so_far.stand;
    are = so_far.tables;
  }

  pub redone_broken : (tables : Held) (last : Option ℕ) (rest : List ℕ) (offset : ℕ) → Redone first bytes tables last rest
      → IsBroken tables last rest → offset + length rest ≡ length bytes → IsBrokenAt first bytes offset
  redone_broken tables last rest offset so_far broken at =
      let same : so_far.offset ≡ offset = omega (arith, so_far.leads.counted) in
      record {
        entries = so_far.entries;
        rest = rest;
        leads = subst (λ (p : ℕ). Leads so_far.entries bytes p rest) same so_far.leads;
        stand = so_far.stand;
        broken = subst (λ (t : Option ℕ). IsBroken (applied first so_far.entries) t rest) so_far.last
            (subst (λ (ts : Held). IsBroken ts last rest) so_far.tables broken);
      }

  pub left_of : (tables : Held) (last : Option ℕ) (rest : List ℕ) → Redone first bytes tables last rest → length rest ≤ length bytes
  left_of tables last rest so_far = omega (arith, so_far.leads.counted)

-- each entry takes some of the bytes
pub next_shorter : (tables : Held) (last : Option ℕ) (bytes : List ℕ) (entry : Entry) (rest : List ℕ) → IsNext tables last bytes entry rest
    → length rest < length bytes
next_shorter tables last bytes entry rest n = omega (arith, ap length n.opens.is, length-append (record_of entry) rest)

-- what the body of a record is refused for is what stops there
pub stops_body : (tables : Held) (last : Option ℕ) (bytes : List ℕ) (e : BodyError)
    → (e ≡ bodies.Malformed → (more : List ℕ) → IsBroken tables last (bytes ++ more)) → StopsAt tables last bytes (as_stop e)
stops_body tables last bytes bodies.Malformed h = h refl
stops_body tables last bytes bodies.OutOfMemory h = tt
