-- An entry that is read is the one that was written, and what was written is read again.
use Rattle.std.proofs.Common.{◌≡◌, ℕ, ◌^◌, ◌<◌, Bool, true, false, cond, eqb, List, [], ◌∷◌, ◌++◌}
use Rattle.std.proofs.Common.{length, Option, Some, None, refl, sym, ap, subst, ◌∙◌, Result, Ok, Err}
use Rattle.std.specs.Prelude.{filter, IfOk, IsErrOf}
use Rattle.std.specs.List.{flat_map, AllByRecursion}
use Rattle.std.proofs.lemmas.Bool.{eqb-true}
use Rattle.std.proofs.lemmas.List.{append-nil, nil_from_length}
use Rattle.hy_value.specs.declared.change.Change.{Change}
use Rattle.hy_notes.specs.Notes.{is_change}
use Rattle.hy_journal.specs.declared.Entry.{Entry}
use Rattle.hy_log_record.specs.declared.HeldTable.{HeldTable}
use Rattle.hy_log_record.specs.declared.BodyError.{BodyError}
use Rattle.hy_log_record.specs.declared.BodyError.TheVariants.{Malformed, OutOfMemory}
use Rattle.hy_log_record.specs.Bytes.{be32, be64, change_bytes, changes_bytes, net_of, body_of, HasChangeBytes, HasBytes}
use Rattle.hy_log_record.specs.Bodies.{IsChangeOf, IsEntryOf, IsBody}
use Rattle.hy_log_record.specs.Laws.{netted, BodiesAreOne}
use Rattle.hy_log_record.specs.Reading.{◌>>=◌, Gives, u32_at, u64_at, changes_at, entry_from, entry_at}
use Rattle.hy_log_record.proofs.Fields.{IsBytes, bind_some, kept_some, some_is, Takes-then, u32_takes, u32_again, u64_takes, u64_again}
use Rattle.hy_log_record.proofs.Rows.{IsNetOf, changes_take, changes_again}

-- ---- net changes

filter_if : (b : Bool) (c : Change) (cs : List Change) → is_change c ≡ b → filter is_change (c ∷ cs) ≡ cond b (c ∷ filter is_change cs) (filter is_change cs)
filter_if b c cs e = ap (λ t. cond t (c ∷ filter is_change cs) (filter is_change cs)) e

net_kept : (tables : List HeldTable) (cs : List Change) → AllByRecursion (IsNetOf tables) cs → filter is_change cs ≡ cs
net_kept tables [] h = refl
net_kept tables (c ∷ cs) h = filter_if true c cs h.0.net ∙ ap (λ (ds : List Change). c ∷ ds) (net_kept tables cs h.1)

of_net : (tables : List HeldTable) (cs : List Change) → AllByRecursion (IsNetOf tables) cs → AllByRecursion (IsChangeOf tables) cs
of_net tables [] h = tt
of_net tables (c ∷ cs) h = (h.0.of, of_net tables cs h.1)

net_and_of_if : (tables : List HeldTable) (b : Bool) (c : Change) (cs : List Change) → is_change c ≡ b
    → AllByRecursion (IsChangeOf tables) (cond b (c ∷ filter is_change cs) (filter is_change cs))
    → (AllByRecursion (IsChangeOf tables) (filter is_change cs) → AllByRecursion (IsNetOf tables) (filter is_change cs))
    → AllByRecursion (IsNetOf tables) (cond b (c ∷ filter is_change cs) (filter is_change cs))
net_and_of_if tables true c cs e h rest = (record { of = h.0; net = e }, rest h.1)
net_and_of_if tables false c cs e h rest = rest h

-- what a filter kept is net
net_and_of : (tables : List HeldTable) (cs : List Change) → AllByRecursion (IsChangeOf tables) (filter is_change cs)
    → AllByRecursion (IsNetOf tables) (filter is_change cs)
net_and_of tables [] h = tt
net_and_of tables (c ∷ cs) h =
    let e = filter_if (is_change c) c cs refl in
    subst (AllByRecursion (IsNetOf tables)) (sym e) (net_and_of_if tables (is_change c) c cs refl (subst (AllByRecursion (IsChangeOf tables)) e h)
    (net_and_of tables cs))

-- ---- entries

abbrev ended : Entry → List ℕ → Option Entry
ended entry rest = cond (eqb (length rest) 0) (Some entry) None

pub entry_takes : (tables : List HeldTable) (bytes : List ℕ) (entry : Entry) → IsBytes bytes → length bytes < 2 ^ 64
    → entry_at tables bytes ≡ Some entry → IsBody tables entry bytes × (entry ≡ netted entry)
unfolding entry_at body_of
entry_takes tables bytes entry fits short e =
    let a = bind_some (u32_at bytes) (λ s. u32_at s.1 >>= λ t. u64_at t.1 >>= λ b. u64_at b.1 >>= λ c. u32_at c.1 >>= λ n.
    changes_at tables n.0 n.1 >>= λ cs. ended (entry_from s.0 t.0 b.0 c.0 cs.0) cs.1) entry e in
    let b = bind_some (u32_at a.0.1) (λ t. u64_at t.1 >>= λ b. u64_at b.1 >>= λ c. u32_at c.1 >>= λ n. changes_at tables n.0 n.1 >>= λ cs. ended
    (entry_from a.0.0 t.0 b.0 c.0 cs.0) cs.1) entry a.2 in
    let c = bind_some (u64_at b.0.1) (λ s. u64_at s.1 >>= λ c. u32_at c.1 >>= λ n. changes_at tables n.0 n.1 >>= λ cs. ended
    (entry_from a.0.0 b.0.0 s.0 c.0 cs.0) cs.1) entry b.2 in
    let d = bind_some (u64_at c.0.1) (λ t. u32_at t.1 >>= λ n. changes_at tables n.0 n.1 >>= λ cs. ended
    (entry_from a.0.0 b.0.0 c.0.0 t.0 cs.0) cs.1) entry c.2 in
    let f = bind_some (u32_at d.0.1) (λ n. changes_at tables n.0 n.1 >>= λ cs. ended (entry_from a.0.0 b.0.0 c.0.0 d.0.0 cs.0) cs.1) entry d.2 in
    let g = bind_some (changes_at tables f.0.0 f.0.1) (λ cs. ended (entry_from a.0.0 b.0.0 c.0.0 d.0.0 cs.0) cs.1) entry f.2 in
    let cs = g.0.0 in
    let made : Entry = entry_from a.0.0 b.0.0 c.0.0 d.0.0 cs in
    let k = kept_some (eqb (length g.0.1) 0) made entry g.2 in
    let t0 = u32_takes bytes a.0 fits a.1 in
    let t1 = u32_takes a.0.1 b.0 t0.0.rest_fits b.1 in
    let t2 = u64_takes b.0.1 c.0 t1.0.rest_fits c.1 in
    let t3 = u64_takes c.0.1 d.0 t2.0.rest_fits d.1 in
    let t4 = u32_takes d.0.1 f.0 t3.0.rest_fits f.1 in
    let t5 = changes_take tables f.0.0 f.0.1 g.0 t4.0.rest_fits g.1 in
    let e45 = Takes-then d.0.1 (be32 f.0.0) f.0.1 (flat_map change_bytes cs) g.0.1 t4.0 t5.takes in
    let e35 = Takes-then c.0.1 (be64 d.0.0) d.0.1 (be32 f.0.0 ++ flat_map change_bytes cs) g.0.1 t3.0 e45 in
    let e25 = Takes-then b.0.1 (be64 c.0.0) c.0.1 (be64 d.0.0 ++ (be32 f.0.0 ++ flat_map change_bytes cs)) g.0.1 t2.0 e35 in
    let e15 = Takes-then a.0.1 (be32 b.0.0) b.0.1 (be64 c.0.0 ++ (be64 d.0.0 ++ (be32 f.0.0 ++ flat_map change_bytes cs))) g.0.1 t1.0 e25 in
    let e05 = Takes-then bytes (be32 a.0.0) a.0.1 (be32 b.0.0 ++ (be64 c.0.0 ++ (be64 d.0.0 ++ (be32 f.0.0 ++ flat_map change_bytes cs)))) g.0.1 t0.0 e15 in
    let net : filter is_change cs ≡ cs = net_kept tables cs t5.of.0 in
    let nothing : g.0.1 ≡ [] = nil_from_length g.0.1 (eqb-true _ _ k.0) in
    let counted : be32 f.0.0 ++ flat_map change_bytes cs ≡ changes_bytes (filter is_change cs) =
    ap (λ (n : ℕ). be32 n ++ flat_map change_bytes cs) (sym t5.of.1) ∙ ap changes_bytes (sym net) in
    let front = λ (tail : List ℕ). be32 a.0.0 ++ (be32 b.0.0 ++ (be64 c.0.0 ++ (be64 d.0.0 ++ tail))) in
    let whole : bytes ≡ body_of made =
    e05.parts ∙ ap (λ (r : List ℕ). front (be32 f.0.0 ++ flat_map change_bytes cs) ++ r) nothing
    ∙ append-nil (front (be32 f.0.0 ++ flat_map change_bytes cs)) ∙ ap front counted in
    let all : AllByRecursion HasChangeBytes (filter is_change cs) = subst (AllByRecursion HasChangeBytes) (sym net) t5.has in
    let of : AllByRecursion (IsChangeOf tables) (filter is_change cs) = subst (AllByRecursion (IsChangeOf tables)) (sym net) (of_net tables cs t5.of.0) in
    let few : length (filter is_change cs) < 2 ^ 32 = subst (λ (n : ℕ). n < 2 ^ 32) (sym (ap length net ∙ t5.of.1)) t4.1 in
    let bounded : length (body_of made) < 2 ^ 64 = subst (λ (bs : List ℕ). length bs < 2 ^ 64) whole short in
    let body : IsBody tables made bytes = record {
      is = whole;
      has = record { session = t0.1; txn = t1.1; start = t2.1; time = t3.1; count = few; changes = all; length = bounded };
      of = of;
    } in
    subst (λ (y : Entry). IsBody tables y bytes × (y ≡ netted y)) k.1 (body, ap (entry_from a.0.0 b.0.0 c.0.0 d.0.0) (sym net))

pub entry_again : (tables : List HeldTable) (entry : Entry) → HasBytes entry → IsEntryOf tables entry → entry_at tables (body_of entry) ≡ Some (netted entry)
unfolding entry_at body_of
entry_again tables entry has of =
    let cs = net_of entry in
    let t4 = changes_bytes cs in
    let t3 = be64 entry.time ++ t4 in
    let t2 = be64 entry.start ++ t3 in
    let t1 = be32 entry.label.txn ++ t2 in
    let last : changes_at tables (length cs) (flat_map change_bytes cs) ≡ Some (cs, []) =
    ap (changes_at tables (length cs)) (sym (append-nil (flat_map change_bytes cs)))
    ∙ changes_again tables cs [] has.changes (net_and_of tables entry.notes of) in
    rw (
      u32_again entry.label.session t1 has.session,
      u32_again entry.label.txn t2 has.txn,
      u64_again entry.start t3 has.start,
      u64_again entry.time t4 has.time,
      u32_again (length cs) (flat_map change_bytes cs) has.count,
      last,
    ) refl

pub body_again : (tables : List HeldTable) (entry : Entry) (bytes : List ℕ) → IsBody tables entry bytes → entry_at tables bytes ≡ Some (netted entry)
body_again tables entry bytes body = ap (entry_at tables) body.is ∙ entry_again tables entry body.has body.of

pub one_entry : BodiesAreOne
one_entry tables entry other bytes body also = some_is (netted entry) (netted other)
    (sym (body_again tables entry bytes body) ∙ body_again tables other bytes also)

-- ---- what decoding answers

module _ (tables : List HeldTable) (bytes : List ℕ) where
  pub is_found : (r : Result Entry BodyError) → IsBytes bytes → length bytes < 2 ^ 64 → Gives (λ x. x) r (entry_at tables bytes)
      → IfOk r (λ entry. IsBody tables entry bytes)
  is_found (Ok entry) fits short given = (entry_takes tables bytes entry fits short given).0
  is_found (Err e) fits short given = tt

  pub is_net : (r : Result Entry BodyError) → IsBytes bytes → length bytes < 2 ^ 64 → Gives (λ x. x) r (entry_at tables bytes)
      → IfOk r (λ entry. entry ≡ netted entry)
  is_net (Ok entry) fits short given = (entry_takes tables bytes entry fits short given).1
  is_net (Err e) fits short given = tt

  pub is_none : (r : Result Entry BodyError) → Gives (λ x. x) r (entry_at tables bytes) → IsErrOf r Malformed → (entry : Entry)
      → IsBody tables entry bytes → ⊥
  is_none (Ok found) given h entry body = cc
  is_none (Err Malformed) given h entry body = let again = body_again tables entry bytes body in cc
  is_none (Err OutOfMemory) given h entry body = cc
