-- What is done at a position leaves one that fits.
use Rattle.std.proofs.Common.{◌≡◌, ℕ, Bool, true, false, List, [], ◌∷◌, ◌++◌, length, Option, None, Some, refl, ap, cond, replicate}
use Rattle.std.specs.Prelude.{◌==◌, ◌&&◌, ◌||◌, not}
use Rattle.hy_value.specs.declared.Value.{Value}
use Rattle.hy_value.specs.declared.Kind.{Kind}
use Rattle.hy_prune.specs.declared.Cover.{Cover}
use Rattle.hy_prune.specs.declared.Fate.{Fate}
use Rattle.hy_prune.specs.declared.Fate.TheVariants.{Keep, Merge, Drop}
use Rattle.hy_prune.specs.Fates.{fate_of}
use Rattle.hy_chain.specs.Chains.{Undo, marked, stamped}
use Rattle.hy_chain.specs.Pruning.{alone, joined, by_fate, pruned_behind, pruned}
use Rattle.hy_column.specs.Cells.{FitsKind}
use Rattle.hy_undo.specs.declared.version.Version.{Version}
use Rattle.hy_undo.specs.Images.{Image, old_or, put_back, older_or, with_older, before, both}
use Rattle.hy_undo.specs.Places.{Place}
use Rattle.hy_undo.specs.Steps.{undone_by}
use Rattle.hy_chunk.specs.Sound.{FitsRow, FitsNoted, FitsImage, FitsChain, FitsPlace}

fits_older : (kind : Kind) (newer older : Option Value) → FitsNoted kind newer → FitsNoted kind older → FitsNoted kind (older_or newer older)
fits_older kind newer None n o = n
fits_older kind newer (Some old) n o = o

pub fits_merged : (kinds : List Kind) (newer older : List (Option Value)) → FitsImage kinds newer → FitsImage kinds older
    → FitsImage kinds (with_older newer older)
fits_merged [] [] [] n o = tt
fits_merged [] [] (y ∷ older) n o = o
fits_merged [] (x ∷ newer) older n o = absurd n
fits_merged (kind ∷ kinds) [] older n o = absurd n
fits_merged (kind ∷ kinds) (x ∷ newer) [] n o = absurd o
fits_merged (kind ∷ kinds) (x ∷ newer) (y ∷ older) n o = (fits_older kind x y n.0 o.0, fits_merged kinds newer older n.1 o.1)

fits_old : (kind : Kind) (value : Value) (noted : Option Value) → FitsKind kind value → FitsNoted kind noted → FitsKind kind (old_or value noted)
fits_old kind value None v n = v
fits_old kind value (Some old) v n = n

pub fits_put_back : (kinds : List Kind) (row : List Value) (image : List (Option Value)) → FitsRow kinds row → FitsImage kinds image
    → FitsRow kinds (put_back row image)
fits_put_back [] [] image r i = tt
fits_put_back [] (value ∷ row) image r i = absurd r
fits_put_back (kind ∷ kinds) [] image r i = absurd r
fits_put_back (kind ∷ kinds) (value ∷ row) [] r i = absurd i
fits_put_back (kind ∷ kinds) (value ∷ row) (noted ∷ image) r i = (fits_old kind value noted r.0 i.0, fits_put_back kinds row image r.1 i.1)

pub fits_blank : (kinds : List Kind) → FitsImage kinds (replicate (length kinds) None)
fits_blank [] = tt
fits_blank (kind ∷ kinds) = (tt, fits_blank kinds)

fate_keeps : (kinds : List Kind) (fate : Fate) (kept merged dropped : List (Undo Image)) → FitsChain kinds kept → FitsChain kinds merged
    → FitsChain kinds dropped
    → FitsChain kinds (by_fate fate kept merged dropped)
fate_keeps kinds Keep kept merged dropped k m d = k
fate_keeps kinds Merge kept merged dropped k m d = m
fate_keeps kinds Drop kept merged dropped k m d = d

not_empty : (x : Undo Image) (xs : List (Undo Image)) → x ∷ xs ≡ [] → ⊥
not_empty x xs e = cc

pub pruned_fits : (kinds : List Kind) (cover : Cover) (kept : Option (Undo Image)) (chain : List (Undo Image)) → FitsChain kinds (alone kept ++ chain)
    → FitsChain kinds (pruned_behind both cover kept chain)
pruned_fits kinds cover None [] f = f
pruned_fits kinds cover (Some top) [] f = f
pruned_fits kinds cover None (undo ∷ chain) f =
    fate_keeps kinds (fate_of cover None undo.stamp.mark) (pruned_behind both cover (Some undo) chain) (pruned_behind both cover (Some undo) chain)
    (pruned_behind both cover None chain)
    (pruned_fits kinds cover (Some undo) chain f) (pruned_fits kinds cover (Some undo) chain f) (pruned_fits kinds cover None chain f.2)
pruned_fits kinds cover (Some top) (undo ∷ chain) f =
    let merged : Undo Image = joined both top undo in
    fate_keeps kinds (fate_of cover (Some top.stamp.mark) undo.stamp.mark) (top ∷ pruned_behind both cover (Some undo) chain)
    (pruned_behind both cover (Some merged) chain) (pruned_behind both cover (Some top) chain)
    (f.0, λ dead. absurd (not_empty undo chain (f.1 dead)), pruned_fits kinds cover (Some undo) chain f.2)
    (pruned_fits kinds cover (Some merged) chain (fits_merged kinds top.image.values undo.image.values f.0 f.2.0, f.2.1, f.2.2))
    (pruned_fits kinds cover (Some top) chain (f.0, λ dead. absurd (not_empty undo chain (f.1 dead)), f.2.2))

pub stamped_fits : (kinds : List Kind) (id time : ℕ) (chain : List (Undo Image)) → FitsChain kinds chain → FitsChain kinds (stamped id time chain)
stamped_fits kinds id time [] f = tt
stamped_fits kinds id time (undo ∷ chain) f =
    elim (undo.stamp.mark == id) as (λ (b : Bool). FitsChain kinds (cond b (marked time undo) undo ∷ chain)) [
      | true ↦ f
      | false ↦ f
    ]

stamped_none : (id time : ℕ) (chain : List (Undo Image)) → chain ≡ [] → stamped id time chain ≡ []
stamped_none id time chain e = ap (stamped id time) e

pruned_none : (cover : Cover) (chain : List (Undo Image)) → chain ≡ [] → pruned both cover chain ≡ []
pruned_none cover chain e = ap (pruned both cover) e

-- another chain
pub fits_pruned : (kinds : List Kind) (cover : Cover) (place : Place) → FitsPlace kinds place
    → FitsPlace kinds (record place { chain = pruned both cover place.chain })
fits_pruned kinds cover place f = record {
  row = f.row;
  images = pruned_fits kinds cover None place.chain f.images;
  unused = record { row = f.unused.row; chain = λ free. pruned_none cover place.chain (f.unused.chain free) };
}

pub fits_stamped : (kinds : List Kind) (id time death : ℕ) (place : Place) → FitsPlace kinds place
    → FitsPlace kinds (record place { death = death; chain = stamped id time place.chain })
fits_stamped kinds id time death place f = record {
  row = f.row;
  images = stamped_fits kinds id time place.chain f.images;
  unused = record { row = f.unused.row; chain = λ free. stamped_none id time place.chain (f.unused.chain free) };
}

-- unused after an undo
freed_live : (used live : Bool) (death : ℕ) → (used ≡ false → ⊥) → (used && (live || not (death == 0))) ≡ false → live ≡ false
freed_live false live death some e = absurd (some refl)
freed_live true true death some e = absurd (cc)
freed_live true false death some e = refl

undone_fits : (kinds : List Kind) (version : Version) (used : Bool) (death : ℕ) (undo : Undo Image) (older : List (Undo Image))
    → FitsPlace kinds (record { version = version; used = used; death = death; chain = undo ∷ older })
    → FitsPlace kinds (record { version = before undo.image version; used = used && (undo.image.live || not (death == 0)); death = death; chain = older })
undone_fits kinds version used death undo older f =
    let some : used ≡ false → ⊥ = λ free. not_empty undo older (f.unused.chain free) in
    record {
      row = fits_put_back kinds version.row undo.image.values f.row f.images.0;
      images = f.images.2;
      unused = record {
        row = freed_live used undo.image.live death some;
        chain = λ free. f.images.1 (freed_live used undo.image.live death some free);
      };
    }

pub fits_undone : (kinds : List Kind) (id : ℕ) (version : Version) (used : Bool) (death : ℕ) (chain : List (Undo Image))
    → FitsPlace kinds (record { version = version; used = used; death = death; chain = chain })
    → FitsPlace kinds (undone_by id (record { version = version; used = used; death = death; chain = chain }) chain)
fits_undone kinds id version used death [] f = f
fits_undone kinds id version used death (undo ∷ older) f =
    elim (undo.stamp.mark == id) as (λ (b : Bool). FitsPlace kinds (cond b
    (record { version = before undo.image version; used = used && (undo.image.live || not (death == 0)); death = death; chain = older })
    (record { version = version; used = used; death = death; chain = undo ∷ older }))) [
      | true ↦ undone_fits kinds version used death undo older f
      | false ↦ f
    ]
