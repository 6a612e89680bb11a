-- Another version over what is in place: what is noted puts back what was there.
use Rattle.std.proofs.Common.{◌≡◌, ℕ, Bool, true, false, List, [], ◌∷◌, length, Option, None, Some, refl, sym, ap, ◌∙◌, cond, inl, inr, arith}
use Rattle.std.specs.Prelude.{zero, suc, ◌==◌}
use Rattle.hy_value.specs.declared.Value.{Value}
use Rattle.hy_value.specs.declared.Kind.{Kind}
use Rattle.hy_stamp.specs.declared.Stamp.{Stamp}
use Rattle.hy_stamp.specs.declared.Viewer.{Viewer}
use Rattle.hy_chain.specs.Chains.{Undo, newest, without_own}
use Rattle.hy_undo.specs.declared.version.Version.{Version}
use Rattle.hy_undo.specs.Images.{Image, before, put_back}
use Rattle.hy_undo.specs.Places.{Place}
use Rattle.hy_chunk.specs.Sound.{FitsRow, FitsImage, FitsChain, FitsPlace}
use Rattle.std.proofs.Common.{replicate}
use Rattle.std.specs.Ordering.{is_eq}
use Rattle.std.specs.declared.cmp.Ordering.{Ordering}
use Rattle.std.specs.declared.cmp.Ordering.TheVariants.{Less, Equal, Greater}
use Rattle.std.proofs.lemmas.Bool.{cases_Bool, eqb-true}
use Rattle.hy_value.specs.Order.{value_cmp}
use Rattle.hy_value.specs.TotalOrder.{values_tie}
use Rattle.hy_stamp.specs.declared.Label.{Label}
use Rattle.hy_column.specs.Cells.{FitsKind}
use Rattle.hy_undo.specs.Images.{old_or, older_or}
use Rattle.hy_undo.specs.Places.{cell_of}
use Rattle.hy_undo.specs.Chunks.{Written, is_own}
use Rattle.hy_undo.specs.Steps.{PlacesStep, IsBlankUnused}
use Rattle.hy_chunk.specs.Sound.{FitsNoted}
use Rattle.hy_chunk.specs.Noting.{change_noted, changes_noted, own_stamp, own_or_blank}
use Rattle.hy_chunk.proofs.Over.{image_length}
use Rattle.hy_chunk.proofs.Fitting.{fits_blank}

equal_from : (o : Ordering) → is_eq o ≡ true → o ≡ Equal
equal_from Less e = cc
equal_from Equal e = refl
equal_from Greater e = cc

noted_old : (old new : Value) (noted : Option Value) → old_or new (older_or (Some old) noted) ≡ old_or old noted
noted_old old new None = refl
noted_old old new (Some older) = refl

change_by : (old new : Value) (noted : Option Value) (b : Bool) → is_eq (value_cmp old new) ≡ b
    → old_or new (cond b noted (older_or (Some old) noted)) ≡ old_or old noted
change_by old new noted true e = ap (λ (v : Value). old_or v noted) (sym (values_tie old new (equal_from (value_cmp old new) e)))
change_by old new noted false e = noted_old old new noted

pub put_back_changes : (olds news : List Value) (noted : List (Option Value)) → length news ≡ length olds → length noted ≡ length olds
    → put_back news (changes_noted olds news noted) ≡ put_back olds noted
put_back_changes [] [] noted e f = refl
put_back_changes [] (new ∷ news) noted e f = absurd (omega arith)
put_back_changes (old ∷ olds) [] noted e f = absurd (omega arith)
put_back_changes (old ∷ olds) (new ∷ news) [] e f = absurd (omega arith)
put_back_changes (old ∷ olds) (new ∷ news) (x ∷ noted) e f =
    λ i. change_by old new x (is_eq (value_cmp old new)) refl i ∷ put_back_changes olds news noted (omega arith) (omega arith) i

put_back_none : (row : List Value) (width : ℕ) → put_back row (replicate width None) ≡ row
put_back_none [] width = refl
put_back_none (v ∷ row) zero = refl
put_back_none (v ∷ row) (suc width) = λ i. v ∷ put_back_none row width i

fits_change : (kind : Kind) (old new : Value) (noted : Option Value) → FitsKind kind old → FitsNoted kind noted → FitsNoted kind (change_noted old new noted)
fits_change kind old new noted o n =
    elim (is_eq (value_cmp old new)) as (λ (b : Bool). FitsNoted kind (cond b noted (older_or (Some old) noted))) [
      | true ↦ n
      | false ↦ either noted n
    ]
  where
    either : (x : Option Value) → FitsNoted kind x → FitsNoted kind (older_or (Some old) x)
    either None m = o
    either (Some older) m = m

pub fits_changes : (kinds : List Kind) (olds news : List Value) (noted : List (Option Value)) → FitsRow kinds olds → FitsImage kinds noted
    → FitsImage kinds (changes_noted olds news noted)
fits_changes kinds [] news noted o n = n
fits_changes kinds (old ∷ olds) [] noted o n = n
fits_changes [] (old ∷ olds) (new ∷ news) noted o n = absurd o
fits_changes (kind ∷ kinds) (old ∷ olds) (new ∷ news) [] o n = absurd n
fits_changes (kind ∷ kinds) (old ∷ olds) (new ∷ news) (x ∷ noted) o n = (fits_change kind old new x o.0 n.0, fits_changes kinds olds news noted o.1 n.1)

-- the image that a write leaves
abbrev pub image_over : Version → Version → Image → Image
image_over old new image = record { values = changes_noted old.row new.row image.values; live = image.live }

-- the position that a write leaves
abbrev pub over_place : ℕ → Viewer → Label → Version → Place → Place
over_place width viewer label version place = record place {
  version = version;
  chain = record {
    stamp = own_stamp label viewer.id (newest place.chain);
    image = image_over place.version version (own_or_blank width viewer.id place.chain);
  } ∷ without_own viewer.id place.chain;
}

module _ (laws : PlacesStep) (viewer : Viewer) (label : Label) (version old : Version) (used : Bool) (death width : ℕ)
    (size : length version.row ≡ length old.row) (wide : length old.row ≡ width) where
  abbrev was : List (Undo Image) → Place
  was chain = record { version = old; used = used; death = death; chain = chain }

  abbrev blank : Image
  blank = record { values = replicate width None; live = true }

  abbrev by : Bool → Undo Image → List (Undo Image) → Place
  by b undo rest = record {
    version = version;
    used = used;
    death = death;
    chain = record {
      stamp = cond b undo.stamp (record { owner = label; mark = viewer.id });
      image = image_over old version (cond b undo.image blank);
    } ∷ cond b rest (undo ∷ rest);
  }

  restores : old.live ≡ true → before (image_over old version blank) version ≡ old
  restores live = λ i. record {
    row = (put_back_changes old.row version.row (replicate width None) size
        (let e : length (replicate width None) ≡ width = Rattle.std.proofs.lemmas.List.length-replicate width None in e ∙ sym wide)
        ∙ put_back_none old.row width) i;
    live = sym live i;
  }

  by_own : (b : Bool) (undo : Undo Image) (rest : List (Undo Image)) → (undo.stamp.mark == viewer.id) ≡ b → (b ≡ false → old.live ≡ true)
      → length undo.image.values ≡ width → Written viewer label (cell_of version) (was (undo ∷ rest)) (by b undo rest)
  by_own true undo rest e live w =
      laws.rewrites viewer label undo rest (image_over old version undo.image) version (was (undo ∷ rest)) refl (eqb-true undo.stamp.mark viewer.id e)
      (ap (λ (row : List Value). record { row = row; live = undo.image.live }) (put_back_changes old.row version.row undo.image.values size (w ∙ sym wide)))
  by_own false undo rest e live w =
      laws.writes viewer label (image_over old version blank) version (was (undo ∷ rest)) e (restores (live refl))

  pub overwritten : (kinds : List Kind) (chain : List (Undo Image)) → length kinds ≡ width → (is_own viewer.id (newest chain) ≡ false → old.live ≡ true)
      → FitsChain kinds chain → Written viewer label (cell_of version) (was chain) (over_place width viewer label version (was chain))
  overwritten kinds [] e live fits = laws.writes viewer label (image_over old version blank) version (was []) refl (restores (live refl))
  overwritten kinds (undo ∷ rest) e live fits = by_own (undo.stamp.mark == viewer.id) undo rest refl live (image_length kinds undo.image.values fits.0 ∙ e)

not_true : (b : Bool) → b ≡ true → b ≡ false → ⊥
not_true true t f = cc
not_true false t f = cc

pub own_fits : (kinds : List Kind) (id : ℕ) (chain : List (Undo Image)) → FitsChain kinds chain → FitsImage kinds (own_or_blank (length kinds) id chain).values
own_fits kinds id [] f = fits_blank kinds
own_fits kinds id (undo ∷ rest) f =
    elim (undo.stamp.mark == id) as (λ (b : Bool). FitsImage kinds
    (cond b undo.image (record { values = replicate (length kinds) None; live = true })).values) [
      | true ↦ f.0
      | false ↦ fits_blank kinds
    ]

-- the chain that a write leaves
pub chain_fits : (kinds : List Kind) (id : ℕ) (stamp : Stamp) (old new : Version) (chain : List (Undo Image)) → FitsRow kinds old.row → FitsChain kinds chain
    → FitsChain kinds (record { stamp = stamp; image = image_over old new (own_or_blank (length kinds) id chain) } ∷ without_own id chain)
chain_fits kinds id stamp old new [] r f = (fits_changes kinds old.row new.row (replicate (length kinds) None) r (fits_blank kinds), (λ dead. refl), tt)
chain_fits kinds id stamp old new (undo ∷ rest) r f =
    elim (undo.stamp.mark == id) as (λ (b : Bool). FitsChain kinds
    (record { stamp = stamp; image = image_over old new (cond b undo.image (record { values = replicate (length kinds) None; live = true })) }
    ∷ cond b rest (undo ∷ rest))) [
      | true ↦ (fits_changes kinds old.row new.row undo.image.values r f.0, f.1, f.2)
      | false ↦ (fits_changes kinds old.row new.row (replicate (length kinds) None) r (fits_blank kinds), (λ dead. absurd (not_true true refl dead)), f)
    ]

-- a position with a row, or with a record of the writer, is used
not_unused : (id : ℕ) (place : Place) → (is_own id (newest place.chain) ≡ false → place.version.live ≡ true) → IsBlankUnused place → place.used ≡ false → ⊥
not_unused id place live unused free =
    not_true place.version.live (live (ap (λ (chain : List (Undo Image)). is_own id (newest chain)) (unused.chain free))) (unused.row free)

pub used_there : (id : ℕ) (place : Place) → (is_own id (newest place.chain) ≡ false → place.version.live ≡ true) → IsBlankUnused place → place.used ≡ true
used_there id place live unused = elim (cases_Bool place.used) [
  | inl is_used ↦ is_used
  | inr is_unused ↦ absurd (not_unused id place live unused is_unused)
]

pub over_fits : (kinds : List Kind) (viewer : Viewer) (label : Label) (version : Version) (place : Place) → FitsRow kinds version.row
    → (is_own viewer.id (newest place.chain) ≡ false → place.version.live ≡ true) → FitsPlace kinds place
    → FitsPlace kinds (over_place (length kinds) viewer label version place)
over_fits kinds viewer label version place r live f = record {
  row = r;
  images = chain_fits kinds viewer.id (own_stamp label viewer.id (newest place.chain)) place.version version place.chain f.row f.images;
  unused = record {
    row = λ free. absurd (not_unused viewer.id place live f.unused free);
    chain = λ free. absurd (not_unused viewer.id place live f.unused free);
  };
}
