-- What a seat knows stays so while another seat steps.
use Rattle.std.proofs.Common.{◌≡◌, ◌≢◌, ◌⊎◌, ℕ, ◌+◌, ◌*◌, arith, sym, ap, ◌∙◌, subst, ⊎_elim, Option, None, List, get_or, set, get_or-set_other}
use mathlib.Core.Option.{some, some-injective}
use lib.ListN.{get_elem?}
use Rattle.atomic_table.proofs.Lists.{at_set, set_else}
use Rattle.hy_threads.specs.Knowledge.{Keeper, Visitor, Knowledge, Spent, First, Seated}
use Rattle.hy_threads.specs.Rule.{IsSo}
use Rattle.hy_threads.proofs.Lists.{put, put_else, words_apart}

module _ {S D : Type 0} where
  abbrev visitor_or : Visitor S D → Knowledge S D → Visitor S D
  visitor_or d (Seated o) = o
  visitor_or d Spent = d
  visitor_or d (First r) = d

  abbrev kind : Knowledge S D → ℕ
  kind Spent = 0
  kind (First r) = 1
  kind (Seated o) = 2

  pub seated_inj : (o p : Visitor S D) → Seated o ≡ Seated p → o ≡ p
  seated_inj o p e = ap (visitor_or o) e

  pub first_not_seated : (r : Keeper S) (o : Visitor S D) → First r ≡ Seated o → ⊥
  first_not_seated r o e = let h : ◌≡◌ {A = ℕ} 1 2 = ap kind e in absurd (omega (arith, h))

  pub same_at : (vs : List (Knowledge S D)) (i j : ℕ) (v w : Knowledge S D) → i ≡ j → get_elem? vs i ≡ some v → get_elem? vs j ≡ some w → v ≡ w
  same_at vs i j v w e a b = some-injective v w (sym a ∙ (ap (get_elem? vs) e ∙ b))

  -- what holds of each seat holds of each once the seat id was changed, if it holds of that one
  pub each_stays : (K : ℕ → Knowledge S D → Type 0) (vs : List (Knowledge S D)) (id : ℕ) (w : Knowledge S D)
      → K id w → ((j : ℕ) (v : Knowledge S D) → j ≢ id → get_elem? vs j ≡ some v → K j v)
      → (j : ℕ) (v : Knowledge S D) → get_elem? (set vs id w) j ≡ some v → K j v
  each_stays K vs id w mine rest j v e = ⊎_elim (λ (t : (j ≡ id) × (w ≡ v)). subst (λ (x : ℕ × Knowledge S D). K x.0 x.1) (λ i. (sym t.0 i, t.1 i)) mine)
      (λ (t : (j ≢ id) × (get_elem? vs j ≡ some v)). rest j v t.0 t.1) (at_set vs id j w v e)

  -- a take or a give changes the part k and the session of `me` alone, and another seat stays as it is
  pub others : (words : List ℕ) (k x me : ℕ) (parts parts' : List D) (sessions sessions' : List S) (kept : List (Option S)) (owner : ℕ → ℕ)
      (id j : ℕ) (v : Knowledge S D)
      → owner me ≡ id → j ≢ id → (get_or words (8 * k) 0 ≡ 0) ⊎ (get_or words (8 * k) 0 ≡ 1 + me)
      → ((i : ℕ) → i ≢ k → get_elem? parts' i ≡ get_elem? parts i) → ((i : ℕ) → i ≢ me → get_elem? sessions' i ≡ get_elem? sessions i)
      → IsSo words parts sessions kept owner j v → IsSo (set words (8 * k) x) parts' sessions' kept owner j v
  others words k x me parts parts' sessions sessions' kept owner id j Spent mine other old ps ss f = tt
  others words k x me parts parts' sessions sessions' kept owner id j (First r) mine other old ps ss f = f
  others words k x me parts parts' sessions sessions' kept owner id j (Seated o) mine other old ps ss f =
      let apart : o.number ≢ me = λ e. other (sym f.0 ∙ (ap owner e ∙ mine)) in (
        f.0,
        ss o.number apart ∙ f.1,
        f.2,
        λ i p e. let g = f.3 i p e in
            let away : i ≢ k = λ (same : i ≡ k). let w : get_or words (8 * k) 0 ≡ 1 + o.number = ap (λ (z : ℕ). get_or words (8 * z) 0) (sym same) ∙ g.1 in
            ⊎_elim (λ (z : get_or words (8 * k) 0 ≡ 0). absurd (omega arith)) (λ (z : get_or words (8 * k) 0 ≡ 1 + me). absurd (apart (omega arith))) old in
            (ps i away ∙ g.0, get_or-set_other words (8 * k) (8 * i) x 0 (words_apart i k away) ∙ g.1),
      )

  -- the first seat makes the seat of the session n, and another seat stays as it is
  pub stays_at_split : (words : List ℕ) (parts : List D) (sessions : List S) (kept : List (Option S)) (owner : ℕ → ℕ) (id n new j : ℕ) (v : Knowledge S D)
      → ((m : ℕ) → get_elem? kept m ≡ some None → m ≢ n) → id ≡ 0 → j ≢ id
      → IsSo words parts sessions kept owner j v → IsSo words parts sessions (set kept n None) (put owner n new) j v
  stays_at_split words parts sessions kept owner id n new j Spent apart zeroth other f = tt
  stays_at_split words parts sessions kept owner id n new j (First r) apart zeroth other f = absurd (other (f.0 ∙ sym zeroth))
  stays_at_split words parts sessions kept owner id n new j (Seated o) apart zeroth other f = let away = apart o.number f.2 in
      (put_else owner n new o.number away ∙ f.0, f.1, set_else kept n o.number None away ∙ f.2, f.3)

  -- the seat `gone`, of the session n, is joined to the first, and another seat stays as it is
  pub stays_at_join : (words : List ℕ) (parts : List D) (sessions : List S) (kept : List (Option S)) (owner : ℕ → ℕ)
      (id gone n : ℕ) (x : Option S) (j : ℕ) (v : Knowledge S D)
      → owner n ≡ gone → id ≡ 0 → j ≢ id → j ≢ gone → IsSo words parts sessions kept owner j v → IsSo words parts sessions (set kept n x) owner j v
  stays_at_join words parts sessions kept owner id gone n x j Spent mine zeroth other far f = tt
  stays_at_join words parts sessions kept owner id gone n x j (First r) mine zeroth other far f = absurd (other (f.0 ∙ sym zeroth))
  stays_at_join words parts sessions kept owner id gone n x j (Seated o) mine zeroth other far f =
      let away : o.number ≢ n = λ e. far (sym f.0 ∙ (ap owner e ∙ mine)) in
      (f.0, f.1, set_else kept n o.number x away ∙ f.2, f.3)
