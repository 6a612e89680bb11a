-- The bits of the positions that may take a new row, when one position changes.
use Rattle.std.proofs.Common.{◌≡◌, ℕ, zero, suc, ◌+◌, ◌-◌, ◌<◌, ◌≤◌, Bool, true, false, cond, List, ◌∷◌, length, get_or, replicate, refl, sym, ap, ◌∙◌, subst, arith, inl, inr}
use Rattle.std.specs.Prelude.{◌&&◌, ◌||◌, not, nat_lt, filter}
use Rattle.std.specs.List.{range_with_len}
use Rattle.std.proofs.Math.ListN.{set}
use Rattle.std.proofs.lemmas.Bool.{cases_Bool, cases_eq, and_parts}
use Rattle.std.proofs.lemmas.List.{length-replicate, get_or-replicate}
use Rattle.hy_value.specs.declared.Kind.{Kind}
use Rattle.hy_chain.specs.Chains.{newest}
use Rattle.hy_undo.specs.Stock.{Stock}
use Rattle.hy_undo.specs.Images.{Image}
use Rattle.hy_undo.specs.Places.{Place, is_free, is_older}
use Rattle.hy_chunk.specs.Parts.{is_set_at, places_set}
use Rattle.hy_chunk.specs.Sound.{Sound}
use Rattle.hy_chunk.specs.Steps.{NoneFree}
use Rattle.hy_chunk.specs.Vacant.{ShowsVacant}
use Rattle.hy_chunk.proofs.Places.{Alike, Fields, all, at, nth_is, put, put_there, within_rows}

-- the flags of one position are others, and so is its bit
shows_changed : (place : ℕ) (used live vacant uses lives vacants : List Bool) → ShowsVacant used live vacant
    → Alike false place used uses → Alike false place live lives → Alike false place vacant vacants
    → get_or vacants place false ≡ not (get_or uses place false && get_or lives place false) → ShowsVacant uses lives vacants
shows_changed place used live vacant uses lives vacants was u l v here = record {
  many = v.size ∙ (was.many ∙ sym l.size);
  each = λ k less. elim (cases_eq k place) [
    | inl same ↦ subst (λ (j : ℕ). get_or vacants j false ≡ not (get_or uses j false && get_or lives j false)) (sym same) here
    | inr other ↦
        v.others k other
        ∙ (was.each k (let size = l.size in omega (arith, less, size))
        ∙ (λ i. not (sym (u.others k other) i && sym (l.others k other) i)))
  ];
}

pub shows_put : (place : ℕ) (used live vacant uses lives vacants : List Bool) (u l : Bool) → place < length live → length used ≡ length live
    → ShowsVacant used live vacant → uses ≡ set used place u → lives ≡ set live place l → vacants ≡ set vacant place (not (u && l))
    → ShowsVacant uses lives vacants
shows_put place used live vacant uses lives vacants u l within size was e g h =
    let many = was.many in
    let here_used = put_there false place used uses u (omega (arith, within, size)) e in
    let here_live = put_there false place live lives l within g in
    shows_changed place used live vacant uses lives vacants was (put false place used uses u e) (put false place live lives l g)
    (put false place vacant vacants (not (u && l)) h)
    (put_there false place vacant vacants (not (u && l)) (omega (arith, within, many)) h ∙ (λ i. not (sym here_used i && sym here_live i)))

-- the bit is that of a position of the fields
pub in_vacant : (place : ℕ) (used live vacant : List Bool) → ShowsVacant used live vacant → place < length live → place < length vacant
in_vacant place used live vacant shows within = let many = shows.many in omega (arith, within, many)

-- at first all bits are set
pub shows_blank : (n : ℕ) (used live vacant : List Bool) → used ≡ replicate n false → live ≡ replicate n false → vacant ≡ replicate n true → ShowsVacant used live vacant
shows_blank n used live vacant u l v = record {
  many = ap length v ∙ (length-replicate n true ∙ sym (ap length l ∙ length-replicate n false));
  each = λ k less.
      let within : k < n = omega (arith, less, ap length l, length-replicate n false) in
      ap (λ (bits : List Bool). get_or bits k false) v
      ∙ (get_or-replicate n k true false within
      ∙ sym ((λ i. not (get_or (u i) k false && get_or live k false)) ∙ ap (λ (b : Bool). not (b && get_or live k false)) (get_or-replicate n k false false within)));
}

not_false : (b : Bool) → not b ≡ false → b ≡ true
not_false true e = refl
not_false false e = absurd (cc)

taken : (watermark : ℕ) (place : Place) → place.used ≡ true → place.version.live ≡ true → is_free watermark place ≡ false
taken watermark place used live =
    λ i. not (used i) || (not (live i) && (is_older watermark (newest place.chain) && nat_lt place.death watermark))

-- where no bit is set no position may take a row
pub none_free : (f : Fields) (kinds : List Kind) (spare : Stock) (seen : List Place) (vacant : List Bool) (from next : ℕ) → all f ≡ seen
    → Sound kinds f.rows f.live f.used f.deaths f.chains spare → ShowsVacant f.used f.live vacant → next ≤ length seen
    → ((place : ℕ) → from ≤ place → place < next → get_or vacant place false ≡ false) → NoneFree seen from next
none_free f kinds spare seen vacant from next view s shows within passed = λ watermark place reached before.
    let l : place < length seen = omega (arith, before, within) in
    let in_live : place < length f.live = let e = within_rows f seen place view l in let lives = s.lives in omega (arith, e, lives) in
    let both = and_parts (get_or f.used place false) (get_or f.live place false)
    (not_false _ (sym (shows.each place in_live) ∙ passed place reached before)) in
    ap (is_free watermark) (nth_is f seen place view l) ∙ taken watermark (at f place) both.0 both.1

-- a position that is used or has no row has a row where its bit is clear, and nowhere else
row_there : (used live : Bool) → (used ≡ false → live ≡ false) → not (not (used && live)) ≡ live
row_there true true h = refl
row_there true false h = refl
row_there false live h = sym (h refl)

-- tests that say the same keep the same of a range
kept_alike : (p q : ℕ → Bool) (a n : ℕ) → ((i : ℕ) → a ≤ i → i < a + n → p i ≡ q i) → filter p (range_with_len a n) ≡ filter q (range_with_len a n)
kept_alike p q a zero same = refl
kept_alike p q a (suc n) same =
    ap (λ (b : Bool). cond b (a ∷ filter p (range_with_len (a + 1) n)) (filter p (range_with_len (a + 1) n))) (same a (omega arith) (omega arith))
    ∙ ap (λ (xs : List ℕ). cond (q a) (a ∷ xs) xs) (kept_alike p q (a + 1) n (λ i more less. same i (omega (arith, more)) (omega (arith, less))))

-- the positions of a part whose bit is set in a mask, and that are not shown as vacant, are those with a row in place
pub plain_places : (f : Fields) (kinds : List Kind) (spare : Stock) (seen : List Place) (bits vacant mask : List Bool) (first end : ℕ) → all f ≡ seen
    → Sound kinds f.rows f.live f.used f.deaths f.chains spare → ShowsVacant f.used f.live vacant → bits ≡ vacant → end ≤ length seen
    → filter (λ place. get_or mask place false && not (get_or bits place false)) (range_with_len first (end - first)) ≡ places_set mask first end seen
plain_places f kinds spare seen bits vacant mask first end view s shows is within =
    kept_alike (λ place. get_or mask place false && not (get_or bits place false)) (is_set_at mask seen) first (end - first) (λ place reached before.
    let l : place < length seen = omega (arith, reached, before, within) in
    let inside : place < length f.rows = within_rows f seen place view l in
    let in_live : place < length f.live = let lives = s.lives in omega (arith, inside, lives) in
    let unused : get_or f.used place false ≡ false → get_or f.live place false ≡ false = (s.each place inside).unused.row in
    ap (λ (b : Bool). get_or mask place false && b)
    (ap (λ (bs : List Bool). not (get_or bs place false)) is
    ∙ (ap not (shows.each place in_live)
    ∙ (row_there (get_or f.used place false) (get_or f.live place false) unused
    ∙ ap (λ (p : Place). p.version.live) (sym (nth_is f seen place view l))))))
