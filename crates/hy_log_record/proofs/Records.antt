-- Bytes behind their length: what was split off is what was put there.
use Rattle.std.proofs.Common.{◌≡◌, ℕ, ◌^◌, ◌<◌, false, cond, ltb, List, ◌++◌, length, take, drop}
use Rattle.std.proofs.Common.{Option, Some, None, refl, sym, ap, subst, ◌∙◌, append_assoc, arith}
use Rattle.std.specs.Prelude.{IfSome, IfNone, MatchOption}
use Rattle.std.proofs.lemmas.Bool.{ltb-false, le-ltb}
use Rattle.std.proofs.lemmas.List.{take_at, drop_at, take-append-drop, length-append, length-take}
use Rattle.hy_log_record.specs.Bytes.{be64, body_of}
use Rattle.hy_log_record.specs.Bodies.{IsBody}
use Rattle.hy_log_record.specs.Laws.{LengthsTell, RecordsAreOne}
use Rattle.hy_log_record.specs.Reading.{u64_at, record_at}
use Rattle.hy_log_record.proofs.Fields.{IsBytes, bind_some, short_some, some_is, u64_takes, u64_again}
use Rattle.hy_log_record.proofs.Entries.{one_entry}

pub record_takes : (bytes : List ℕ) (x : List ℕ × List ℕ) → IsBytes bytes → record_at bytes ≡ Some x
    → (bytes ≡ be64 (length x.0) ++ (x.0 ++ x.1)) × (length x.0 < 2 ^ 64)
unfolding record_at
record_takes bytes x fits e =
    let a = bind_some (u64_at bytes) (λ n. cond (ltb (length n.1) n.0) None (Some (take n.0 n.1, drop n.0 n.1))) x e in
    let n = a.0 in
    let g = short_some (ltb (length n.1) n.0) (take n.0 n.1, drop n.0 n.1) x a.2 in
    let t = u64_takes bytes n fits a.1 in
    let len : length (take n.0 n.1) ≡ n.0 = omega (arith, length-take n.0 n.1, ltb-false _ _ g.0) in
    let first : bytes ≡ be64 n.0 ++ (take n.0 n.1 ++ drop n.0 n.1) = t.0.parts ∙ ap (λ (bs : List ℕ). be64 n.0 ++ bs) (sym (take-append-drop n.0 n.1)) in
    let whole : bytes ≡ be64 (length (take n.0 n.1)) ++ (take n.0 n.1 ++ drop n.0 n.1) =
    subst (λ (k : ℕ). bytes ≡ be64 k ++ (take n.0 n.1 ++ drop n.0 n.1)) (sym len) first in
    subst (λ (y : List ℕ × List ℕ). (bytes ≡ be64 (length y.0) ++ (y.0 ++ y.1)) × (length y.0 < 2 ^ 64)) g.1
    (whole, subst (λ (k : ℕ). k < 2 ^ 64) (sym len) t.1)

pub record_again : (body rest : List ℕ) → length body < 2 ^ 64 → record_at (be64 (length body) ++ (body ++ rest)) ≡ Some (body, rest)
unfolding record_at
record_again body rest lt =
    let long : ltb (length (body ++ rest)) (length body) ≡ false = le-ltb _ _ (omega (arith, length-append body rest)) in
    rw (u64_again (length body) (body ++ rest) lt, long, take_at body rest (length body) refl, drop_at body rest (length body) refl) refl

pub lengths_tell : LengthsTell
lengths_tell body other rest follows short also e =
    let same : Some (body, rest) ≡ Some (other, follows) = sym (record_again body rest short) ∙ ap record_at e ∙ record_again other follows also in
    let pairs = some_is (body, rest) (other, follows) same in
    (ap (λ (p : List ℕ × List ℕ). p.0) pairs, ap (λ (p : List ℕ × List ℕ). p.1) pairs)

pub one_record : RecordsAreOne
one_record tables entry other rest follows has of other_has other_of e =
    let grouped : be64 (length (body_of entry)) ++ (body_of entry ++ rest) ≡ be64 (length (body_of other)) ++ (body_of other ++ follows) =
    sym (append_assoc (be64 (length (body_of entry))) (body_of entry) rest) ∙ e ∙ append_assoc (be64 (length (body_of other))) (body_of other) follows in
    let parts = lengths_tell (body_of entry) (body_of other) rest follows has.length other_has.length grouped in
    let left : IsBody tables entry (body_of entry) = record { is = refl; has = has; of = of } in
    let right : IsBody tables other (body_of entry) = record { is = parts.0; has = other_has; of = other_of } in
    (one_entry tables entry other (body_of entry) left right, parts.1)

pub no_record : (bytes : List ℕ) → record_at bytes ≡ None → (body rest : List ℕ) → length body < 2 ^ 64 → bytes ≡ be64 (length body) ++ (body ++ rest) → ⊥
no_record bytes none body rest lt e =
    let again : record_at bytes ≡ Some (body, rest) = ap record_at e ∙ record_again body rest lt in
    cc

-- ---- what splitting answers

module _ {X : Type 0} (body_in rest_in : X → List ℕ) (bytes : List ℕ) where
  pub parts_of : (o : Option X) → IsBytes bytes → MatchOption o (record_at bytes ≡ None) (λ x. record_at bytes ≡ Some (body_in x, rest_in x))
      → IfSome o (λ x. (bytes ≡ be64 (length (body_in x)) ++ (body_in x ++ rest_in x)) × (length (body_in x) < 2 ^ 64))
  parts_of (Some x) fits h = record_takes bytes (body_in x, rest_in x) fits h
  parts_of None fits h = tt

  pub none_of : (o : Option X) → MatchOption o (record_at bytes ≡ None) (λ x. record_at bytes ≡ Some (body_in x, rest_in x))
      → IfNone o ((body rest : List ℕ) → length body < 2 ^ 64 → bytes ≡ be64 (length body) ++ (body ++ rest) → ⊥)
  none_of (Some x) h = tt
  none_of None h = no_record bytes h
