-- The fates of records, each with its reason.
use Rattle.std.proofs.Common.{◌≡◌, ◌⊎◌, ℕ, ◌<◌, ◌≤◌, Bool, true, false, Option, ap, ◌∙◌, cond, inl, inr, arith}
use Rattle.std.specs.Prelude.{◌==◌, nat_le}
use Rattle.std.proofs.lemmas.Bool.{cases_Bool, leb-true, leb-false, eqb-true, eqb-false}
use Rattle.hy_prune.specs.declared.Cover.{Cover}
use Rattle.hy_prune.specs.declared.Fate.{Fate}
use Rattle.hy_prune.specs.declared.Fate.TheVariants.{Keep, Merge, Drop}
use Rattle.hy_prune.specs.Fates.{group, is_same_group, fate_of}

-- it stays, being late or the newest of its group
pub record Kept (cover : Cover) (kept : Option ℕ) (time : ℕ) : Type 0 where
  pub is : fate_of cover kept time ≡ Keep
  pub why : (cover.next ≤ time) ⊎ ((0 < group cover time) × (is_same_group cover kept time ≡ false))

-- it is of the group of a newer one
pub record Merged (cover : Cover) (kept : Option ℕ) (time : ℕ) : Type 0 where
  pub is : fate_of cover kept time ≡ Merge
  pub old : time < cover.next
  pub covered : 0 < group cover time
  pub same : is_same_group cover kept time ≡ true

-- it is older than every start
pub record Dropped (cover : Cover) (kept : Option ℕ) (time : ℕ) : Type 0 where
  pub is : fate_of cover kept time ≡ Drop
  pub old : time < cover.next
  pub free : group cover time ≡ 0

abbrev fate_by : Bool → Bool → Bool → Fate
fate_by late free same = cond late Keep (cond free Drop (cond same Merge Keep))

pub fate_cases : (cover : Cover) (kept : Option ℕ) (time : ℕ) → Kept cover kept time ⊎ (Merged cover kept time ⊎ Dropped cover kept time)
fate_cases cover kept time =
    elim (cases_Bool (nat_le cover.next time)) [
      | inl late ↦ inl (record {
        is = ap (λ (b : Bool). fate_by b (group cover time == 0) (is_same_group cover kept time)) late;
        why = inl (leb-true cover.next time late);
      })
      | inr early ↦
          let old : time < cover.next = leb-false cover.next time early in
          let first = ap (λ (b : Bool). fate_by b (group cover time == 0) (is_same_group cover kept time)) early in
          elim (cases_Bool (group cover time == 0)) [
            | inl free ↦ inr (inr (record {
              is = first ∙ ap (λ (b : Bool). fate_by false b (is_same_group cover kept time)) free;
              old = old;
              free = eqb-true (group cover time) 0 free;
            }))
            | inr covered ↦
                let some = eqb-false (group cover time) 0 covered in
                let second = first ∙ ap (λ (b : Bool). fate_by false b (is_same_group cover kept time)) covered in
                elim (cases_Bool (is_same_group cover kept time)) [
                  | inl same ↦ inr (inl (record {
                    is = second ∙ ap (λ (b : Bool). fate_by false false b) same;
                    old = old;
                    covered = omega (arith, some);
                    same = same;
                  }))
                  | inr other ↦ inl (record {
                    is = second ∙ ap (λ (b : Bool). fate_by false false b) other;
                    why = inr (omega (arith, some), other);
                  })
                ]
          ]
    ]
