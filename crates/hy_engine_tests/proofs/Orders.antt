-- The stamps of one position, before and after a visit.
use Rattle.std.proofs.Common.{◌≡◌, ◌⊎◌, ℕ, zero, suc, ◌+◌, ◌<◌, ◌≤◌, ◌==◌, false, List, [], ◌∷◌, length, drop, get_or, None, Some, inl, inr, refl}
use Rattle.std.proofs.Common.{sym, ap, subst, arith, Contains}
use Rattle.std.specs.Prelude.{nat_lt}
use Rattle.std.proofs.lemmas.Bool.{ltb-true, cases_Bool, or_from, cond-false, cond_both}
use Rattle.hy_stamp.specs.declared.Label.{Label}
use Rattle.hy_stamp.specs.declared.Stamp.{Stamp}
use Rattle.hy_stamp.specs.declared.Viewer.{Viewer}
use Rattle.hy_chain.specs.Chains.{Undo, Under, Falls, rival, rival_by, stops}
use Rattle.hy_chain.specs.Pruning.{stamps_of}
use Rattle.hy_undo.specs.Images.{Image}
use Rattle.hy_undo.specs.Chunks.{own_first}
use Rattle.hy_engine_tests.specs.Ready.{AreBelow, DoFall, AreInOrder}

-- ---- below a number

pub below_more : (n m : ℕ) (xs : List Stamp) → n ≤ m → AreBelow n xs → AreBelow m xs
below_more n m [] le all = tt
below_more n m (x ∷ xs) le all = (omega (arith, le, all.0), below_more n m xs le all.1)

pub in_order_later : (n m : ℕ) (xs : List Stamp) → n ≤ m → AreInOrder n xs → AreInOrder m xs
in_order_later n m [] le all = tt
in_order_later n m (x ∷ xs) le all = (below_more n m xs le all.0, all.1)

-- ---- chains whose stamps are in order

under_of : (mark : ℕ) (chain : List (Undo Image)) → AreBelow mark (stamps_of chain) → Under mark chain
under_of mark [] all = tt
under_of mark (undo ∷ chain) all = (all.0, under_of mark chain all.1)

falls_of : (chain : List (Undo Image)) → DoFall (stamps_of chain) → Falls chain
falls_of [] all = tt
falls_of (undo ∷ chain) all = (under_of undo.stamp.mark chain all.0, falls_of chain all.1)

pub chain_falls : (next : ℕ) (chain : List (Undo Image)) → AreInOrder next (stamps_of chain) → Falls chain
chain_falls next [] all = tt
chain_falls next (undo ∷ chain) all = falls_of (undo ∷ chain) all.1

of_under : (mark : ℕ) (chain : List (Undo Image)) → Under mark chain → AreBelow mark (stamps_of chain)
of_under mark [] all = tt
of_under mark (undo ∷ chain) all = (all.0, of_under mark chain all.1)

pub of_falls : (chain : List (Undo Image)) → Falls chain → DoFall (stamps_of chain)
of_falls [] all = tt
of_falls (undo ∷ chain) all = (of_under undo.stamp.mark chain all.0, of_falls chain all.1)

-- ---- a commit, an undo, a write

pub committed : (next : ℕ) (old new : Stamp) (older : List Stamp) → new.mark ≡ next → AreInOrder next (old ∷ older) → AreInOrder (next + 1) (new ∷ older)
committed next old new older is all =
    (below_more next (next + 1) older (omega arith) all.0, (subst (λ (n : ℕ). AreBelow n older) (sym is) all.0, all.1.1))

pub taken_back : (next : ℕ) (xs : List Stamp) → AreInOrder next xs → AreInOrder next (drop 1 xs)
taken_back next [] all = tt
taken_back next (x ∷ []) all = tt
taken_back next (x ∷ y ∷ more) all = (all.0.1, all.1.1)

pub single : (next : ℕ) (x : Stamp) → AreInOrder next (x ∷ [])
single next x = (tt, (tt, tt))

-- a newest record that is neither another's nor the writer's own is from before its start
older_mark : (viewer : Viewer) (x : Stamp) → rival_by viewer (Some x) ≡ None → (x.mark == viewer.id) ≡ false → x.mark < viewer.start
older_mark viewer x free other = elim (cases_Bool (nat_lt x.mark viewer.start)) [
  | inl less ↦ ltb-true x.mark viewer.start less
  | inr more ↦
      let past : stops viewer x.mark ≡ false = or_from (x.mark == viewer.id) (nat_lt x.mark viewer.start) other more in
      let found : rival_by viewer (Some x) ≡ Some x.owner = cond-false (stops viewer x.mark) None (Some x.owner) past in
      absurd (cc)
]

pub written : (next : ℕ) (viewer : Viewer) (label : Label) (chain : List (Undo Image)) → viewer.start ≤ next → next ≤ viewer.id
    → rival viewer chain ≡ None → AreInOrder next (stamps_of chain) → AreInOrder next (own_first label viewer.id (stamps_of chain))
written next viewer label [] start id free all = single next (record { owner = label; mark = viewer.id })
written next viewer label (undo ∷ chain) start id free all =
    let x : Stamp = undo.stamp in
    let older : List Stamp = stamps_of chain in
    let new : Stamp = record { owner = label; mark = viewer.id } in
    cond_both (x.mark == viewer.id) (x ∷ older) (new ∷ x ∷ older) (AreInOrder next) (λ own. all) (λ other.
    let before : x.mark < viewer.start = older_mark viewer x free other in
    let below_next : AreBelow next (x ∷ older) = (omega (arith, before, start), all.0) in
    (below_next, (below_more next viewer.id (x ∷ older) id below_next, all.1)))

-- ---- pruning

behind : (x y : Stamp) (xs : List Stamp) → Contains xs y → Contains (x ∷ xs) y
behind x y xs c = (suc c.0, omega (arith, c.1), c.2)

first_of : (x : Stamp) (xs : List Stamp) → Contains (x ∷ xs) x
first_of x xs = (zero, omega arith, refl)

here_or : (x y : Stamp) (xs : List Stamp) → Contains (x ∷ xs) y → (x ≡ y) ⊎ Contains xs y
here_or x y xs c = at c.0 c.1 c.2
  where
    at : (k : ℕ) → k < suc (length xs) → get_or (x ∷ xs) k y ≡ y → (x ≡ y) ⊎ Contains xs y
    at zero l e = inl e
    at (suc k) l e = inr (k, omega arith, e)

below_from : (mark : ℕ) (xs : List Stamp) → ((x : Stamp) → Contains xs x → x.mark < mark) → AreBelow mark xs
below_from mark [] each = tt
below_from mark (x ∷ xs) each = (each x (first_of x xs), below_from mark xs (λ y c. each y (behind x y xs c)))

below_at : (mark : ℕ) (xs : List Stamp) (y : Stamp) → AreBelow mark xs → Contains xs y → y.mark < mark
below_at mark [] y all c = absurd (omega (arith, c.1))
below_at mark (x ∷ xs) y all c = elim (here_or x y xs c) [
  | inl here ↦ subst (λ (s : Stamp). s.mark < mark) here all.0
  | inr there ↦ below_at mark xs y all.1 there
]

at_most : (x : Stamp) (xs : List Stamp) (y : Stamp) → AreBelow x.mark xs → Contains (x ∷ xs) y → y.mark ≤ x.mark
at_most x xs y all c = elim (here_or x y xs c) [
  | inl here ↦ subst (λ (s : Stamp). s.mark ≤ x.mark) here (omega arith)
  | inr there ↦ let l : y.mark < x.mark = below_at x.mark xs y all there in omega (arith, l)
]

-- fewer stamps that fall still are in order still
pub fewer : (next : ℕ) (xs ys : List Stamp) → AreInOrder next xs → DoFall ys → ((y : Stamp) → Contains ys y → Contains xs y) → AreInOrder next ys
fewer next xs [] all falls were = tt
fewer next [] (y ∷ ys) all falls were = let c = were y (first_of y ys) in absurd (omega (arith, c.1))
fewer next (x ∷ xs) (y ∷ ys) all falls were = (
  below_from next ys (λ z c. elim (here_or x z xs (were z (behind y z ys c))) [
    | inl here ↦
        let less : z.mark < y.mark = below_at y.mark ys z falls.0 c in
        let most : y.mark ≤ x.mark = at_most x xs y all.1.0 (were y (first_of y ys)) in
        let same : ◌≡◌ {A = ℕ} x.mark z.mark = ap (λ (s : Stamp). s.mark) here in
        absurd (omega (arith, less, most, same))
    | inr there ↦ below_at next xs z all.0 there
  ]),
  falls,
)
