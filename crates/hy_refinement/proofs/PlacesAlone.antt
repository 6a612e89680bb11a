-- A position whose only record is an own one: all others see the same there; and what it is that a position is free.
use Rattle.std.proofs.Common.{◌≡◌, ℕ, List, [], ◌∷◌, None, Some, Bool, true, false, not, refl, sym, ap, ◌∙◌, subst, cond}
use Rattle.std.specs.Prelude.{is_some, ◌||◌, ◌&&◌, nat_lt}
use Rattle.std.specs.List.{list_any}
use Rattle.std.proofs.lemmas.Bool.{ne_eqb, le-ltb}
use Rattle.hy_stamp.specs.declared.Stamp.{Stamp}
use Rattle.hy_stamp.specs.declared.Viewer.{Viewer}
use Rattle.hy_chain.specs.Chains.{Undo, seen}
use Rattle.hy_chain.specs.Pruning.{stamps_of}
use Rattle.hy_undo.specs.declared.version.Version.{Version}
use Rattle.hy_undo.specs.Images.{Image, before}
use Rattle.hy_undo.specs.Places.{IsOther}
use Rattle.hy_machine.specs.declared.Setting.{Setting}
use Rattle.hy_machine.specs.States.{State, Begun}
use Rattle.hy_machine.specs.Positions.{item_at}
use Rattle.hy_machine.specs.Tables.{Cell}
use Rattle.hy_machine.specs.Sessions.{snapshot}
use Rattle.hy_machine.specs.Holding.{is_held, has_pair, is_free}
use Rattle.std.specs.Prelude.{drop}

-- ---- one record

-- another viewer goes past the only record
past_it : (version : Version) (undo : Undo Image) (viewer : Viewer) → IsOther undo.stamp.mark viewer
    → seen before viewer version (undo ∷ []) ≡ before undo.image version
past_it version undo viewer is =
    ap (λ (b : Bool). cond (b || nat_lt undo.stamp.mark viewer.start) version (before undo.image version)) (ne_eqb undo.stamp.mark viewer.id is.other)
    ∙ ap (λ (b : Bool). cond b version (before undo.image version)) (le-ltb undo.stamp.mark viewer.start is.start)

-- so all others see the same
pub alike : (version : Version) (chain : List (Undo Image)) (stamp : Stamp) → stamps_of chain ≡ stamp ∷ [] → (one other : Viewer)
    → IsOther stamp.mark one → IsOther stamp.mark other
    → seen before one version chain ≡ seen before other version chain
alike version [] stamp e one other is are = absurd cc
alike version (undo ∷ []) stamp e one other is are =
    let same : stamp ≡ undo.stamp = cc in
    past_it version undo one (subst (λ (s : Stamp). IsOther s.mark one) same is)
    ∙ sym (past_it version undo other (subst (λ (s : Stamp). IsOther s.mark other) same are))
alike version (undo ∷ more ∷ chain) stamp e one other is are = absurd cc

-- ---- a free position

-- nobody holds it, no row was there at the low prefix, and no entry wrote it since
pub record IsFreeThere (setting : Setting) (state : State) (begun : Begun) (table pos : ℕ) : Type 0 where
  pub nobody : is_held setting state table pos ≡ false
  pub empty : item_at (snapshot setting state begun.low) table pos ≡ None
  pub quiet : list_any (has_pair table pos) (drop begun.low state.order) ≡ false

none_there : (cell : Cell) → is_some cell ≡ false → cell ≡ None
none_there None e = refl
none_there (Some row) e = absurd cc

all_three : (held row wrote : Bool) → (not held && not row && not wrote) ≡ true → (held ≡ false) × ((row ≡ false) × (wrote ≡ false))
all_three true row wrote e = absurd cc
all_three false true wrote e = absurd cc
all_three false false true e = absurd cc
all_three false false false e = (refl, (refl, refl))

pub free_there : (setting : Setting) (state : State) (begun : Begun) (table pos : ℕ) → is_free setting state begun table pos ≡ true
    → IsFreeThere setting state begun table pos
free_there setting state begun table pos e =
    let parts = all_three (is_held setting state table pos) (is_some (item_at (snapshot setting state begun.low) table pos))
    (list_any (has_pair table pos) (drop begun.low state.order)) e in
    record {
      nobody = parts.0;
      empty = none_there (item_at (snapshot setting state begun.low) table pos) parts.1.0;
      quiet = parts.1.1;
    }
