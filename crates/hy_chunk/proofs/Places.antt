-- Positions whose fields change at one place.
use Rattle.std.proofs.Common.{◌≡◌, ◌≢◌, ℕ, ◌+◌, ◌<◌, Bool, false, List, [], ◌∷◌, map, length, get_or, replicate, refl, sym, ap, ◌∙◌, subst, arith, inl, inr}
use Rattle.std.proofs.Math.ListN.{set}
use Rattle.std.proofs.lemmas.Bool.{cases_eq}
use Rattle.std.proofs.lemmas.List.{length-set, length-replicate, get_or-replicate, get_or-set_same, get_or-set_other, ext_get_or}
use Rattle.std.proofs.lemmas.List.FromFn.{length-map-range_with_len, get_or-map-range_with_len}
use Rattle.hy_value.specs.declared.Value.{Value}
use Rattle.hy_value.specs.declared.Kind.{Kind}
use Rattle.hy_chain.specs.Chains.{Undo}
use Rattle.hy_undo.specs.Stock.{Stock}
use Rattle.hy_undo.specs.Images.{Image}
use Rattle.hy_undo.specs.Places.{Place}
use Rattle.hy_value.specs.declared.Kind.TheVariants.{Int, Str}
use Rattle.hy_column.specs.Cells.{first_value}
use Rattle.hy_chunk.specs.declared.positions.Positions.TheInside.{Inside}
use Rattle.hy_chunk.specs.Fields.{place_at, places_of, blank_with, blank_place, nth}
use Rattle.hy_chunk.specs.Sound.{FitsRow, FitsPlace, AreReady, Sound}

pub record Fields : Type 0 where
  pub rows : List (List Value)
  pub live : List Bool
  pub used : List Bool
  pub deaths : List ℕ
  pub chains : List (List (Undo Image))

-- those of the positions of a chunk
abbrev pub fields : Inside → Fields
fields positions = record {
  rows = positions.columns.rows;
  live = positions.live.items;
  used = positions.used.items;
  deaths = positions.deaths.items;
  chains = positions.chains.chains;
}

abbrev pub at : Fields → ℕ → Place
at f place = place_at f.rows f.live f.used f.deaths f.chains place

abbrev pub all : Fields → List Place
all f = places_of f.rows f.live f.used f.deaths f.chains

pub length_all : (f : Fields) → length (all f) ≡ length f.rows
length_all f = length-map-range_with_len (at f) 0 (length f.rows)

pub at_all : (f : Fields) (place : ℕ) (d : Place) → place < length f.rows → get_or (all f) place d ≡ at f place
at_all f place d l = get_or-map-range_with_len (at f) 0 (length f.rows) place place d l (let e : ◌≡◌ {A = ℕ} (0 + place) place = omega arith in e)

-- two lists are alike but at one place
pub record Alike {A : Type 0} (d : A) (place : ℕ) (xs ys : List A) : Type 0 where
  pub size : length ys ≡ length xs
  pub others : (k : ℕ) → k ≢ place → get_or ys k d ≡ get_or xs k d

pub kept : {A : Type 0} (d : A) (place : ℕ) (xs : List A) → Alike d place xs xs
kept d place xs = record { size = refl; others = λ k ne. refl }

pub put : {A : Type 0} (d : A) (place : ℕ) (xs ys : List A) (y : A) → ys ≡ set xs place y → Alike d place xs ys
put {A} d place xs ys y e = record {
  size = ap length e ∙ length-set xs place y;
  others = λ k ne. ap (λ (zs : List A). get_or zs k d) e ∙ get_or-set_other xs place k y d ne;
}

-- what is there now
pub put_there : {A : Type 0} (d : A) (place : ℕ) (xs ys : List A) (y : A) → place < length xs → ys ≡ set xs place y → get_or ys place d ≡ y
put_there {A} d place xs ys y l e = ap (λ (zs : List A). get_or zs place d) e ∙ get_or-set_same xs place y d l

pub record Changed (place : ℕ) (old new : Fields) : Type 0 where
  pub rows : Alike [] place old.rows new.rows
  pub live : Alike false place old.live new.live
  pub used : Alike false place old.used new.used
  pub deaths : Alike {A = ℕ} 0 place old.deaths new.deaths
  pub chains : Alike [] place old.chains new.chains

others_same : (place : ℕ) (old new : Fields) → Changed place old new → (k : ℕ) → k ≢ place → at new k ≡ at old k
others_same place old new c k ne = λ i. record {
  version = record { row = c.rows.others k ne i; live = c.live.others k ne i };
  used = c.used.others k ne i;
  death = c.deaths.others k ne i;
  chain = c.chains.others k ne i;
}

set_all : (place : ℕ) (old new : Fields) → Changed place old new → place < length old.rows → all new ≡ set (all old) place (at new place)
set_all place old new c l =
    let d : Place = blank_with [] in
    let size : length new.rows ≡ length old.rows = c.rows.size in
    ext_get_or d (all new) (set (all old) place (at new place))
    (length_all new ∙ (size ∙ sym (length-set (all old) place (at new place) ∙ length_all old)))
    (λ k m.
    let inside : k < length old.rows = omega (arith, m, length_all new, size) in
    let within : place < length (all old) = omega (arith, l, length_all old) in
    at_all new k d (omega (arith, inside, size)) ∙ elim (cases_eq k place) [
      | inl same ↦ ap (at new) same ∙ (sym (get_or-set_same (all old) place (at new place) d within)
          ∙ ap (λ (j : ℕ). get_or (set (all old) place (at new place)) j d) (sym same))
      | inr other ↦ others_same place old new c k other ∙ (sym (at_all old k d inside) ∙ sym (get_or-set_other (all old) place k (at new place) d other))
    ])

-- a place that contracts see is a place of the fields
pub within_rows : (f : Fields) (seen : List Place) (place : ℕ) → all f ≡ seen → place < length seen → place < length f.rows
within_rows f seen place view l = omega (arith, l, ap length view, length_all f)

pub nth_is : (f : Fields) (seen : List Place) (place : ℕ) → all f ≡ seen → place < length seen → nth seen place ≡ at f place
nth_is f seen place view l = ap (λ (ps : List Place). nth ps place) (sym view) ∙ at_all f place (blank_with []) (within_rows f seen place view l)

-- one place has another position now
pub changed_to : (place : ℕ) (old new : Fields) (seen : List Place) (does : Place → Place) → all old ≡ seen → Changed place old new → place < length seen
    → at new place ≡ does (at old place) → all new ≡ set seen place (does (nth seen place))
changed_to place old new seen does view c l is =
    set_all place old new c (within_rows old seen place view l)
    ∙ (ap (λ (ps : List Place). set ps place (at new place)) view ∙ ap (set seen place) (is ∙ ap does (sym (nth_is old seen place view l))))

-- one place has another position now, whichever it is
pub changed_there : (place : ℕ) (old new : Fields) (seen : List Place) → all old ≡ seen → Changed place old new → place < length seen
    → (all new ≡ set seen place (nth (all new) place)) × (nth (all new) place ≡ at new place)
changed_there place old new seen view c l =
    let inside = within_rows old seen place view l in
    let here : nth (all new) place ≡ at new place = at_all new place (blank_with []) (omega (arith, inside, c.rows.size)) in
    (set_all place old new c inside ∙ (ap (λ (ps : List Place). set ps place (at new place)) view ∙ ap (set seen place) (sym here)), here)

pub sound_changed : (place : ℕ) (old new : Fields) (kinds now : List Kind) (spare left : Stock) → now ≡ kinds
    → Sound kinds old.rows old.live old.used old.deaths old.chains spare → Changed place old new → FitsPlace kinds (at new place) → AreReady kinds left
    → Sound now new.rows new.live new.used new.deaths new.chains left
sound_changed place old new kinds now spare left e s c fits ready =
    let sound : Sound kinds new.rows new.live new.used new.deaths new.chains left = record {
      lives = c.live.size ∙ (s.lives ∙ sym c.rows.size);
      uses = c.used.size ∙ (s.uses ∙ sym c.rows.size);
      dead = c.deaths.size ∙ (s.dead ∙ sym c.rows.size);
      chained = c.chains.size ∙ (s.chained ∙ sym c.rows.size);
      each = λ k l. elim (cases_eq k place) [
        | inl same ↦ subst (λ (j : ℕ). FitsPlace kinds (at new j)) (sym same) fits
        | inr other ↦ subst (FitsPlace kinds) (sym (others_same place old new c k other)) (s.each k (omega (arith, l, c.rows.size)))
      ];
      ready = ready;
    } in
    subst (λ (ks : List Kind). Sound ks new.rows new.live new.used new.deaths new.chains left) (sym e) sound

-- the fields of positions that contracts see, at a place
module _ (f : Fields) (kinds : List Kind) (spare : Stock) (seen : List Place) (view : all f ≡ seen)
    (s : Sound kinds f.rows f.live f.used f.deaths f.chains spare) (place : ℕ) (l : place < length seen) where
  pub in_rows : place < length f.rows
  in_rows = within_rows f seen place view l

  pub in_live : place < length f.live
  in_live = let e = in_rows in omega (arith, e, s.lives)

  pub in_used : place < length f.used
  in_used = let e = in_rows in omega (arith, e, s.uses)

  pub in_deaths : place < length f.deaths
  in_deaths = let e = in_rows in omega (arith, e, s.dead)

  pub in_chains : place < length f.chains
  in_chains = let e = in_rows in omega (arith, e, s.chained)

  pub fits_there : FitsPlace kinds (at f place)
  fits_there = s.each place in_rows

-- unused positions
pub blank_at : (f : Fields) (n : ℕ) (kinds : List Kind) → f.rows ≡ replicate n (map first_value kinds) → f.live ≡ replicate n false → f.used ≡ replicate n false
    → ◌≡◌ {A = List ℕ} f.deaths (replicate n 0) → f.chains ≡ replicate n [] → (k : ℕ) → k < n → at f k ≡ blank_place kinds
blank_at f n kinds rows live used deaths chains k l = λ i. record {
  version = record {
    row = (ap (λ (xs : List (List Value)). get_or xs k []) rows ∙ get_or-replicate n k (map first_value kinds) [] l) i;
    live = (ap (λ (xs : List Bool). get_or xs k false) live ∙ get_or-replicate n k false false l) i;
  };
  used = (ap (λ (xs : List Bool). get_or xs k false) used ∙ get_or-replicate n k false false l) i;
  death = (ap (λ (xs : List ℕ). get_or xs k 0) deaths ∙ get_or-replicate {A = ℕ} n k 0 0 l) i;
  chain = (ap (λ (xs : List (List (Undo Image))). get_or xs k []) chains ∙ get_or-replicate n k [] [] l) i;
}

pub fits_first : (kinds : List Kind) → FitsRow kinds (map first_value kinds)
fits_first [] = tt
fits_first (Int ∷ kinds) = (tt, fits_first kinds)
fits_first (Str ∷ kinds) = (tt, fits_first kinds)

module _ (f : Fields) (n : ℕ) (kinds : List Kind) (rows : f.rows ≡ replicate n (map first_value kinds)) (live : f.live ≡ replicate n false)
    (used : f.used ≡ replicate n false)
    (deaths : ◌≡◌ {A = List ℕ} f.deaths (replicate n 0)) (chains : f.chains ≡ replicate n []) where
  many : length f.rows ≡ n
  many = ap length rows ∙ length-replicate n (map first_value kinds)

  pub all_blank : all f ≡ replicate n (blank_place kinds)
  all_blank =
      ext_get_or (blank_with []) (all f) (replicate n (blank_place kinds)) (length_all f ∙ (many ∙ sym (length-replicate n (blank_place kinds))))
      (λ k l.
      let e = many in
      let inside : k < n = omega (arith, l, length_all f, e) in
      at_all f k (blank_with []) (omega (arith, inside, e))
      ∙ (blank_at f n kinds rows live used deaths chains k inside ∙ sym (get_or-replicate n k (blank_place kinds) (blank_with []) inside)))

  pub sound_blank : (now : List Kind) (spare : Stock) → now ≡ kinds → AreReady kinds spare → Sound now f.rows f.live f.used f.deaths f.chains spare
  sound_blank now spare e ready =
      let sound : Sound kinds f.rows f.live f.used f.deaths f.chains spare = record {
        lives = ap length live ∙ (length-replicate n false ∙ sym many);
        uses = ap length used ∙ (length-replicate n false ∙ sym many);
        dead = ap length deaths ∙ (length-replicate {A = ℕ} n 0 ∙ sym many);
        chained = ap length chains ∙ (length-replicate {A = List (Undo Image)} n [] ∙ sym many);
        each = λ k l. subst (FitsPlace kinds) (sym (blank_at f n kinds rows live used deaths chains k (let e = many in omega (arith, l, e))))
            (record { row = fits_first kinds; images = tt; unused = record { row = λ free. refl; chain = λ free. refl } });
        ready = ready;
      } in
      subst (λ (ks : List Kind). Sound ks f.rows f.live f.used f.deaths f.chains spare) (sym e) sound
