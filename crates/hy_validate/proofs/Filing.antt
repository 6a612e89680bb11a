-- Records in groups when one more comes.
use Rattle.std.proofs.Common.{◌≡◌, ◌⊎◌, ℕ, ◌+◌, ◌<◌, ◌≤◌, List, [], ◌∷◌, ◌++◌, length, get_or, set, sym, ap, ◌∙◌, inl, inr, arith, subst, length-append}
use Rattle.std.specs.Prelude.{All, Contains}
use Rattle.std.specs.List.Sorted.{IsStrictlyIncreasing}
use Rattle.std.proofs.lemmas.Bool.{cases_lt}
use Rattle.std.proofs.lemmas.List.{get_or_append_left, get_or_default}
use Rattle.std.proofs.lemmas.List.Quantifiers.{any-set, Any-push, all_pairs_push}
use Rattle.std.proofs.lemmas.List.Elements.{All-push, All-set, Contains-append_left, Contains-push}
use Rattle.std.proofs.Math.Seq.{get_or-append_seam}
use Rattle.hy_bound.specs.declared.Record.{Record}
use Rattle.hy_bound.specs.Condition.{Condition}
use Rattle.hy_validate.specs.declared.groups.Group.{Group}
use Rattle.hy_validate.specs.FirstConditions.{first_condition_of}
use Rattle.hy_validate.specs.declared.keys.Key.{Key}
use Rattle.hy_validate.specs.declared.keys.KeyedRecords.{KeyedRecords}
use Rattle.hy_validate.specs.Groups.{IsOf, IsFiled, IsGrouped, IsIn, IsTakenIn}
use Rattle.hy_validate.specs.Keys.{keyed, IsKeyOf, AreOfKeys, IsMasked, HasNumber}
use Rattle.hy_validate.specs.Filed.{AreFiled}
use Rattle.hy_validate.proofs.Replaced.{all_and_last, pairs_with, any_and_last, any_with}

-- numbers ascend when a higher one comes behind them
ascends_further : (numbers : List ℕ) (n : ℕ) → All (λ k. k < n) numbers → IsStrictlyIncreasing numbers → IsStrictlyIncreasing (numbers ++ n ∷ [])
ascends_further numbers n below up k within = by (cases_lt (k + 1) (length numbers))
  where
    there : k < length numbers → get_or (numbers ++ n ∷ []) k 0 ≡ get_or numbers k 0
    there l = get_or_append_left numbers (n ∷ []) 0 k l

    by : (k + 1 < length numbers) ⊎ (length numbers ≤ k + 1) → get_or (numbers ++ n ∷ []) k 0 < get_or (numbers ++ n ∷ []) (k + 1) 0
    by (inl l) =
        let a = there (omega arith) in
        let b = get_or_append_left numbers (n ∷ []) 0 (k + 1) l in
        let c = up k l in
        omega arith
    by (inr l) =
        let len = length-append numbers (n ∷ []) in
        let at : k + 1 ≡ length numbers = omega arith in
        let a = there (omega arith) in
        let b : get_or (numbers ++ n ∷ []) (k + 1) 0 ≡ n = ap (λ i. get_or (numbers ++ n ∷ []) i 0) at ∙ get_or-append_seam numbers n [] 0 in
        let c : get_or numbers k 0 < n = below k 0 (omega arith) in
        omega arith

-- what is filed among the first records is so among more
filed_further : (records : List Record) (n : ℕ) (group : Group) → IsFiled records n group → IsFiled records (n + 1) group
filed_further records n group filed =
    record { below = λ k d l. (let b = filed.below k d l in omega arith); own = filed.own; ascends = filed.ascends }

-- what belongs to a group belongs to one of the same table and first condition
of_same : (table : ℕ) (first : Condition) (group other : Group) → IsOf table first group → IsOf group.table group.first.now other → IsOf table first other
of_same table first group other a b = (b.0 ∙ a.0, b.1 ∙ a.1)

of_record : (records : List Record) (n : ℕ) (logged d : Record) (group : Group) → n < length records → get_or records n logged ≡ logged
    → IsOf logged.table (first_condition_of logged.pred) group → IsOf (get_or records n d).table (first_condition_of (get_or records n d).pred) group
of_record records n logged d group within is h =
    let at : logged ≡ get_or records n d = sym (get_or_default records n d logged within ∙ is) in
    subst (λ (r : Record). IsOf r.table (first_condition_of r.pred) group) at h

-- a group with one more of its own records
filed_with : (records : List Record) (n : ℕ) (logged : Record) (group other : Group) → n < length records → get_or records n logged ≡ logged
    → IsOf logged.table (first_condition_of logged.pred) group → IsFiled records n group → IsOf group.table group.first.now other
    → other.numbers.items ≡ group.numbers.items ++ n ∷ [] → IsFiled records (n + 1) other
filed_with records n logged group other within is h filed same numbers =
    let own : ℕ → Type 0 = λ k. (d : Record) → IsOf (get_or records k d).table (first_condition_of (get_or records k d).pred) other in
    record {
      below = subst (λ ns. All (λ k. k < n + 1) ns) (sym numbers)
          (all_and_last (λ k. k < n + 1) group.numbers.items n (λ k d l. (let b = filed.below k d l in omega arith)) (omega arith));
      own = subst (λ ns. All own ns) (sym numbers)
          (all_and_last own group.numbers.items n (λ k d l e. of_same _ _ group other (filed.own k d l e) same)
          (λ d. of_same _ _ group other (of_record records n logged d group within is h) same));
      ascends = subst IsStrictlyIncreasing (sym numbers) (ascends_further group.numbers.items n filed.below filed.ascends);
    }

-- a group of one record
filed_alone : (records : List Record) (n : ℕ) (logged : Record) (group : Group) → n < length records → get_or records n logged ≡ logged
    → IsOf logged.table (first_condition_of logged.pred) group → group.numbers.items ≡ n ∷ [] → IsFiled records (n + 1) group
filed_alone records n logged group within is h numbers =
    let own : ℕ → Type 0 = λ k. (d : Record) → IsOf (get_or records k d).table (first_condition_of (get_or records k d).pred) group in
    record {
      below = subst (λ ns. All (λ k. k < n + 1) ns) (sym numbers) (all_and_last (λ k. k < n + 1) [] n (λ k d l. absurd (omega arith)) (omega arith));
      own = subst (λ ns. All own ns) (sym numbers)
          (all_and_last own [] n (λ k d l. absurd (omega arith)) (λ d. of_record records n logged d group within is h));
      ascends = subst IsStrictlyIncreasing (sym numbers) (λ k l. absurd (omega arith));
    }

abbrev Apart : Group → Group → Type 0
Apart group other = IsOf group.table group.first.now other → ⊥

-- a group that gets one more record
pub one_in_its_group : (records : List Record) (n : ℕ) (logged : Record) (groups : List Group) (at : ℕ) (group other : Group)
    → n < length records → get_or records n logged ≡ logged → at < length groups → get_or groups at group ≡ group
    → IsOf logged.table (first_condition_of logged.pred) group → IsOf group.table group.first.now other
    → other.numbers.items ≡ group.numbers.items ++ n ∷ [] → IsGrouped records n groups → IsTakenIn records n groups (set groups at other)
one_in_its_group records n logged groups at group other within is in' there h same numbers grouped =
    record {
      grouped = record {
        filed = All-set (IsFiled records (n + 1)) groups at other
            (filed_with records n logged group other within is h (subst (IsFiled records n) there (grouped.filed at group in')) same numbers)
            (λ k d l. filed_further records n (get_or groups k d) (grouped.filed k d l));
        apart = pairs_with Apart groups at group other in' there
            (λ z a b. a (sym same.0 ∙ b.0, sym same.1 ∙ b.1)) (λ z a b. a (b.0 ∙ same.0, b.1 ∙ same.1)) grouped.apart;
      };
      kept = λ k. any_with (λ g. Contains g.numbers.items k) groups at group other in' there
          (λ c. subst (λ ns. Contains ns k) (sym numbers) (Contains-append_left group.numbers.items (n ∷ []) k c));
      taken = any-set (λ g. Contains g.numbers.items n) groups at other in'
          (subst (λ ns. Contains ns n) (sym numbers) (Contains-push group.numbers.items n));
    }

-- a group that is new
pub one_in_a_new_group : (records : List Record) (n : ℕ) (logged : Record) (groups : List Group) (group : Group)
    → n < length records → get_or records n logged ≡ logged → All (λ g. IsOf logged.table (first_condition_of logged.pred) g → ⊥) groups
    → IsOf logged.table (first_condition_of logged.pred) group → group.numbers.items ≡ n ∷ []
    → IsGrouped records n groups → IsTakenIn records n groups (groups ++ group ∷ [])
one_in_a_new_group records n logged groups group within is none h numbers grouped =
    record {
      grouped = record {
        filed = all_and_last (IsFiled records (n + 1)) groups group (λ k d l. filed_further records n (get_or groups k d) (grouped.filed k d l))
            (filed_alone records n logged group within is h numbers);
        apart = all_pairs_push Apart groups group grouped.apart (λ k d l a. none k d l (sym a.0 ∙ h.0, sym a.1 ∙ h.1));
      };
      kept = λ k. any_and_last (λ g. Contains g.numbers.items k) groups group;
      taken = Any-push (λ g. Contains g.numbers.items n) groups group (subst (λ ns. Contains ns n) (sym numbers) (Contains-push [] n));
    }

-- groups beside which one more record comes
pub grouped_further : (records : List Record) (n : ℕ) (groups : List Group) → IsGrouped records n groups → IsGrouped records (n + 1) groups
grouped_further records n groups grouped =
    record { filed = λ k d l. filed_further records n (get_or groups k d) (grouped.filed k d l); apart = grouped.apart }

-- one more record is in a group
pub filed_in_group : (records : List Record) (n : ℕ) (keyed : KeyedRecords) (old new : List Group)
    → AreFiled records n keyed old → IsTakenIn records n old new → AreFiled records (n + 1) keyed new
filed_in_group records n keyed old new filed taken =
    record { keyed_are = filed.keyed_are; grouped = taken.grouped; complete = λ k l. by k l (cases_lt k n) }
  where
    by : (k : ℕ) → k < n + 1 → (k < n) ⊎ (n ≤ k) → HasNumber keyed.places.items k ⊎ IsIn new k
    by k l (inl below) = elim (filed.complete k below) [ inl has ↦ inl has | inr there ↦ inr (taken.kept k there) ]
    by k l (inr up) = let e : n ≡ k = omega arith in inr (subst (IsIn new) e taken.taken)

-- one more record is under its key
pub filed_by_key : (records : List Record) (n : ℕ) (logged : Record) (old new : KeyedRecords) (groups : List Group) (key : Key)
    → n < length records → get_or records n logged ≡ logged → IsKeyOf logged key → IsMasked new
    → new.places.items ≡ old.places.items ++ keyed key n ∷ [] → AreFiled records n old groups → AreFiled records (n + 1) new groups
filed_by_key records n logged old new groups key within is of masked added filed =
    record {
      keyed_are = record {
        of_keys = subst (AreOfKeys records) (sym added)
            (All-push (λ place. (d : Record) → IsKeyOf (get_or records place.number d) place.key) old.places.items (keyed key n) filed.keyed_are.of_keys own);
        masked = masked;
      };
      grouped = grouped_further records n groups filed.grouped;
      complete = λ k l. by k l (cases_lt k n);
    }
  where
    own : (d : Record) → IsKeyOf (get_or records n d) key
    own d = subst (λ (r : Record). IsKeyOf r key) (sym (get_or_default records n d logged within ∙ is)) of

    by : (k : ℕ) → k < n + 1 → (k < n) ⊎ (n ≤ k) → HasNumber new.places.items k ⊎ IsIn groups k
    by k l (inl below) = elim (filed.complete k below) [
      | inl has ↦ inl (subst (λ ps. HasNumber ps k) (sym added) (any_and_last (λ p. p.number ≡ k) old.places.items (keyed key n) has))
      | inr there ↦ inr there
    ]
    by k l (inr up) =
        let e : n ≡ k = omega arith in
        inl (subst (λ ps. HasNumber ps k) (sym added) (Any-push (λ p. p.number ≡ k) old.places.items (keyed key n) e))
