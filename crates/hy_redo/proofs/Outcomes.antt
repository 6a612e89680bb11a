-- Bytes recover to one thing.
use Rattle.std.proofs.Common.{◌≡◌, ℕ, List, [], ◌∷◌, ◌++◌, length, Option, None, Some, Ok, Err, refl, sym, ap, subst, ◌∙◌, arith, inl, inr}
use Rattle.std.specs.Prelude.{◌⊎◌}
use Rattle.std.proofs.lemmas.List.{append_cancel_left}
use Rattle.hy_journal.specs.declared.Entry.{Entry}
use Rattle.hy_log_record.specs.Bytes.{record_of, net_of}
use Rattle.hy_log_record.specs.Laws.{RecordsAreOne}
use Rattle.hy_redo.specs.Tables.{Held, after_entry, after_changes, applied, Stands, AllStand, last_time}
use Rattle.hy_redo.specs.Logs.{header, OpensWith, OpenWith, Leads}
use Rattle.hy_redo.specs.Recovery.{RecoversTo, IsBroken, IsDamagedAt}
use Rattle.hy_redo.specs.Laws.{RecoveryIsOne, LogsRecover, CrashesRecover}
use Rattle.hy_redo.specs.Tests.{IsClosed}
use Rattle.hy_redo.proofs.Redoing.{applied_all, stand_front}

-- where reading entries ends: at a closed gate, or at a broken one
abbrev Ends : Held → Option ℕ → List ℕ → Type 0
Ends tables last rest = IsClosed rest ⊎ IsBroken tables last rest

-- where it ends no entry stands next
ends_there : (tables : Held) (last : Option ℕ) (rest : List ℕ) (entry : Entry) (behind : List ℕ) → Ends tables last rest
    → OpensWith entry rest behind → Stands tables last entry → ⊥
ends_there tables last rest entry behind (inl closed) opens stands =
    let gates : 0 ∷ closed.0 ≡ opens.gate ∷ (record_of entry ++ behind) = sym closed.1 ∙ opens.is in
    let zero_gate : opens.gate ≡ 0 = cc in
    omega (arith, zero_gate, opens.nonzero)
ends_there tables last rest entry behind (inr broken) opens stands = broken.not_open entry behind opens stands

-- two readings of the same bytes
pub record Same (tables : Held) (one other : List Entry) (x y : List ℕ) : Type 0 where
  pub rest : x ≡ y
  pub left : applied tables one ≡ applied tables other

module _ (records_are_one : RecordsAreOne) where
  one_reading : (one other : List Entry) (tables : Held) (last : Option ℕ) (bytes x y : List ℕ) → OpenWith one bytes x → OpenWith other bytes y
      → AllStand tables last one → AllStand tables last other
      → Ends (applied tables one) (last_time last one) x → Ends (applied tables other) (last_time last other) y → Same tables one other x y
  one_reading [] [] tables last bytes x y left right stand also ends stops = record { rest = sym left ∙ right; left = refl }
  one_reading [] (f ∷ fs) tables last bytes x y left right stand also ends stops =
      absurd (ends_there tables last x f right.0 ends (subst (λ (bs : List ℕ). OpensWith f bs right.0) left right.1) also.0)
  one_reading (e ∷ es) [] tables last bytes x y left right stand also ends stops =
      absurd (ends_there tables last y e left.0 stops (subst (λ (bs : List ℕ). OpensWith e bs left.0) right left.1) stand.0)
  one_reading (e ∷ es) (f ∷ fs) tables last bytes x y left right stand also ends stops =
      let o : OpensWith e bytes left.0 = left.1 in
      let p : OpensWith f bytes right.0 = right.1 in
      let both : o.gate ∷ (record_of e ++ left.0) ≡ p.gate ∷ (record_of f ++ right.0) = sym o.is ∙ p.is in
      let same = records_are_one tables e f left.0 right.0 o.has stand.0.of p.has also.0.of cc in
      let nets : net_of e ≡ net_of f = ap (λ (n : Entry). n.notes) same.0 in
      let times : e.time ≡ f.time = ap (λ (n : Entry). n.time) same.0 in
      let after : after_entry tables e ≡ after_entry tables f = ap (after_changes tables) nets in
      let pair : Held × ℕ = (after_entry tables e, e.time) in
      let pairs : pair ≡ (after_entry tables f, f.time) = cc in
      let moved : AllStand (after_entry tables e) (Some e.time) fs × Ends (applied (after_entry tables e) fs) (last_time (Some e.time) fs) y =
      subst (λ (t : Held × ℕ). AllStand t.0 (Some t.1) fs × Ends (applied t.0 fs) (last_time (Some t.1) fs) y) (sym pairs) (also.1, stops) in
      let rest = one_reading es fs (after_entry tables e) (Some e.time) left.0 x y left.2
      (subst (λ (bs : List ℕ). OpenWith fs bs y) (sym same.1) right.2) stand.1 moved.0 ends moved.1 in
      record { rest = rest.rest; left = rest.left ∙ ap (λ (ts : Held). applied ts fs) after }

  module _ (tables : Held) (bytes : List ℕ) where
    led : (one other : List Entry) (offset next : ℕ) (x y : List ℕ) → Leads one bytes offset x → Leads other bytes next y → AllStand tables None one
        → AllStand tables None other
        → Ends (applied tables one) (last_time None one) x → Ends (applied tables other) (last_time None other) y → Same tables one other x y
    led one other offset next x y left right stand also ends stops =
        let same : left.behind ≡ right.behind = append_cancel_left header left.behind right.behind (sym left.headed ∙ right.headed) in
        one_reading one other tables None left.behind x y left.records
        (subst (λ (bs : List ℕ). OpenWith other bs y) (sym same) right.records) stand also ends stops

    both_found : (found other : Held) → RecoversTo tables bytes found → RecoversTo tables bytes other → found ≡ other
    both_found found other r s =
        r.are ∙ (led r.entries s.entries r.gate s.gate (0 ∷ r.log.follows) (0 ∷ s.log.follows) r.log.leads s.log.leads r.stand s.stand
        (inl (r.log.follows, refl)) (inl (s.log.follows, refl))).left ∙ sym s.are

    found_or_broken : (found : Held) (offset : ℕ) → RecoversTo tables bytes found → IsDamagedAt tables bytes offset → ⊥
    found_or_broken found offset r (inl none) = none.0 r.log.leads.behind r.log.leads.headed
    found_or_broken found offset r (inr b) =
        let same = led r.entries b.entries r.gate offset (0 ∷ r.log.follows) b.rest r.log.leads b.leads r.stand b.stand (inl (r.log.follows, refl))
        (inr b.broken) in
        b.broken.not_closed r.log.follows (sym same.rest)

    both_damaged : (offset next : ℕ) → IsDamagedAt tables bytes offset → IsDamagedAt tables bytes next → offset ≡ next
    both_damaged offset next (inl none) (inl also) = none.1 ∙ sym also.1
    both_damaged offset next (inl none) (inr c) = absurd (none.0 c.leads.behind c.leads.headed)
    both_damaged offset next (inr b) (inl none) = absurd (none.0 b.leads.behind b.leads.headed)
    both_damaged offset next (inr b) (inr c) =
        let same = led b.entries c.entries offset next b.rest c.rest b.leads c.leads b.stand c.stand (inr b.broken) (inr c.broken) in
        omega (arith, b.leads.counted, c.leads.counted, ap length same.rest)

  pub one_outcome : RecoveryIsOne
  one_outcome tables bytes (Ok found) (Ok other) r s = ap (λ (f : Held). Ok f) (both_found tables bytes found other r s)
  one_outcome tables bytes (Ok found) (Err offset) r d = absurd (found_or_broken tables bytes found offset r d)
  one_outcome tables bytes (Err offset) (Ok found) d r = absurd (found_or_broken tables bytes found offset r d)
  one_outcome tables bytes (Err offset) (Err next) d c = ap (λ (p : ℕ). Err p) (both_damaged tables bytes offset next d c)

pub logs_recover : LogsRecover
logs_recover tables entries gate bytes stand log = record { entries = entries; gate = gate; log = log; stand = stand; are = refl }

pub crashes_recover : CrashesRecover
crashes_recover tables entries more gate bytes stand (inl log) =
    inl (logs_recover tables entries gate bytes (stand_front tables None entries more stand) log)
crashes_recover tables entries more gate bytes stand (inr log) =
    inr (subst (RecoversTo tables bytes) (applied_all tables entries more) (logs_recover tables (entries ++ more) _ bytes stand log))
