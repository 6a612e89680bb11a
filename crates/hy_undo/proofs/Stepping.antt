-- What is done at one position is what a visit does there.
use Rattle.std.proofs.Common.{◌≡◌, ℕ, ◌<◌, ◌≤◌, Bool, true, false, List, [], ◌∷◌, map, refl, sym, ap, ◌∙◌, subst, arith, None, Some}
use Rattle.std.specs.Prelude.{◌==◌, ◌&&◌, ◌||◌, not, nat_lt, if◌then◌else◌}
use Rattle.std.proofs.lemmas.Bool.{eqb-true, eq-eqb, lt-ltb, ltb-true, and_parts}
use Rattle.hy_stamp.specs.declared.Label.{Label}
use Rattle.hy_stamp.specs.declared.Stamp.{Stamp}
use Rattle.hy_stamp.specs.declared.Viewer.{Viewer}
use Rattle.hy_prune.specs.declared.Cover.{Cover}
use Rattle.hy_chain.specs.Chains.{Undo, Falls, newest, marked, seen}
use Rattle.hy_chain.specs.Pruning.{KeepsViews}
use Rattle.hy_undo.specs.declared.version.Version.{Version}
use Rattle.hy_undo.specs.Images.{Image, before, both}
use Rattle.hy_undo.specs.Places.{Place, cell_of, sees, is_free, Pushed, Popped, Marked}
use Rattle.hy_undo.specs.Chunks.{is_own, own_first, Pruned, Written, Placed, StampedPlace, Undone, AtOwn}
use Rattle.hy_undo.specs.Steps.{pruned_place, stamped_place, undone_place, written_place, rewritten_place, placed_place, IsBlankUnused, PlacesStep}
use Rattle.hy_undo.proofs.Others.{others_keep, goes, past, at_end, left_true, or_true}

prunes : KeepsViews before both → (cover : Cover) (place : Place) → Falls place.chain → Pruned cover place (pruned_place cover place)
prunes keeps cover place falls = record {
  stamps = refl;
  views = λ viewer safe. ap cell_of (keeps cover place.chain viewer place.version falls safe).0;
  version = refl;
  used = refl;
  death = refl;
}

first_is : {A : Type 0} (x y : A) (xs ys : List A) → x ∷ xs ≡ y ∷ ys → x ≡ y
first_is x y xs ys e = cc

rest_is : {A : Type 0} (x y : A) (xs ys : List A) → x ∷ xs ≡ y ∷ ys → xs ≡ ys
rest_is x y xs ys e = cc

commits_by : (id time : ℕ) (v : Version) (u : Bool) (d : ℕ) (c : List (Undo Image))
    → AtOwn id (StampedPlace id time) (record { version = v; used = u; death = d; chain = c }) (stamped_place id time (record { version = v; used = u; death = d; chain = c }))
commits_by id time v u d [] = record { own = λ own. absurd (cc); others = λ other. refl }
commits_by id time v u d (undo ∷ rest) =
    let old : Place = record { version = v; used = u; death = d; chain = undo ∷ rest } in
    let new : Place = stamped_place id time old in
    record {
      own = λ own.
          let same : undo.stamp.mark ≡ id = eqb-true undo.stamp.mark id own in
          let head : (if undo.stamp.mark == id then marked time undo else undo) ≡ marked time undo = ap (λ (b : Bool). if b then marked time undo else undo) own in
          let m : Marked old new undo rest time = record { was = refl; chain = ap (λ (x : Undo Image). x ∷ rest) head; version = refl } in
          record {
            early = λ other is le ne. (others_keep old new other).3 undo rest time m
                (record { other = λ q. is.other (sym same ∙ q); start = subst (λ (n : ℕ). other.start ≤ n) (sym same) is.start }) le ne;
            late = λ other less. (others_keep old new other).4 undo rest time m less;
            stamps = λ stamp others e.
                let first : undo.stamp ≡ stamp = first_is undo.stamp stamp (map (λ (x : Undo Image). x.stamp) rest) others e in
                let behind : map (λ (x : Undo Image). x.stamp) rest ≡ others = rest_is undo.stamp stamp (map (λ (x : Undo Image). x.stamp) rest) others e in
                ap (λ (x : Undo Image). x.stamp ∷ map (λ (y : Undo Image). y.stamp) rest) head
                ∙ (ap (λ (s : Stamp). record { owner = s.owner; mark = time } ∷ map (λ (y : Undo Image). y.stamp) rest) first
                ∙ ap (λ (xs : List Stamp). record { owner = stamp.owner; mark = time } ∷ xs) behind);
            used = refl;
            death = ap (λ (b : Bool). if b then (if v.live then d else time) else d) own;
          };
      others = λ other.
          ap (λ (b : Bool). record { version = v; used = u; death = (if b then (if v.live then d else time) else d); chain = (if b then marked time undo else undo) ∷ rest }) other;
    }

undoes_by : (id : ℕ) (v : Version) (u : Bool) (d : ℕ) (c : List (Undo Image))
    → AtOwn id (Undone id) (record { version = v; used = u; death = d; chain = c }) (undone_place id (record { version = v; used = u; death = d; chain = c }))
undoes_by id v u d [] = record { own = λ own. absurd (cc); others = λ other. refl }
undoes_by id v u d (undo ∷ rest) =
    let old : Place = record { version = v; used = u; death = d; chain = undo ∷ rest } in
    let popped : Place = record { version = before undo.image v; used = u && (undo.image.live || not (d == 0)); death = d; chain = rest } in
    record {
      own = λ own.
          let same : undo.stamp.mark ≡ id = eqb-true undo.stamp.mark id own in
          let p : Popped old popped undo = record { chain = refl; version = refl } in
          let done : Undone id old popped = record {
            others = λ other is. (others_keep old popped other).2 undo p
                (record { other = λ q. is.other (sym same ∙ q); start = subst (λ (n : ℕ). other.start ≤ n) (sym same) is.start });
            stamps = refl;
            used = λ other others e. ap (λ (x : Undo Image). u && (x.image.live || not (d == 0))) (first_is undo other rest others e);
            death = refl;
          } in
          subst (Undone id old) (sym (ap (λ (b : Bool). if b then popped else old) own)) done;
      others = λ other. ap (λ (b : Bool). if b then popped else old) other;
    }

own_in_front : (label : Label) (id : ℕ) (chain : List (Undo Image)) → is_own id (newest chain) ≡ false
    → record { owner = label; mark = id } ∷ map (λ (x : Undo Image). x.stamp) chain ≡ own_first label id (map (λ (x : Undo Image). x.stamp) chain)
own_in_front label id [] other = refl
own_in_front label id (undo ∷ rest) other =
    sym (ap (λ (b : Bool). if b then undo.stamp ∷ map (λ (x : Undo Image). x.stamp) rest
    else record { owner = label; mark = id } ∷ undo.stamp ∷ map (λ (x : Undo Image). x.stamp) rest) other)

not_live : (live rest : Bool) → (not live && rest) ≡ true → live ≡ false
not_live true rest h = absurd (cc)
not_live false rest h = refl

writes : (viewer : Viewer) (label : Label) (image : Image) (version : Version) (place : Place) → is_own viewer.id (newest place.chain) ≡ false → before image version ≡ place.version
    → Written viewer label (cell_of version) place (written_place label viewer.id image version place)
writes viewer label image version place other was =
    let new : Place = written_place label viewer.id image version place in
    let p : Pushed place new label viewer.id image = record { chain = refl; version = was } in
    record {
      own = (others_keep place new viewer).1 label viewer.id image p refl;
      others = λ seer is. (others_keep place new seer).0 label viewer.id image p is;
      stamps = own_in_front label viewer.id place.chain other;
      used = refl;
      death = refl;
    }

rewrites : (viewer : Viewer) (label : Label) (undo : Undo Image) (rest : List (Undo Image)) (image : Image) (version : Version) (place : Place) → place.chain ≡ undo ∷ rest
    → undo.stamp.mark ≡ viewer.id → before image version ≡ before undo.image place.version
    → Written viewer label (cell_of version) place (rewritten_place undo.stamp image version rest place)
rewrites viewer label undo rest image version place is mine was =
    let top : Undo Image = record { stamp = undo.stamp; image = image } in
    record {
      own = ap cell_of (at_end viewer version top rest (left_true (undo.stamp.mark == viewer.id) (nat_lt undo.stamp.mark viewer.start) (eq-eqb undo.stamp.mark viewer.id mine)));
      others = λ other o.
          let on = goes other undo.stamp.mark (λ e. o.other (sym mine ∙ e)) (subst (λ (n : ℕ). other.start ≤ n) (sym mine) o.start) in
          ap cell_of (past other version top rest on
          ∙ (ap (λ (v : Version). seen before other v rest) was
          ∙ (sym (past other place.version undo rest on) ∙ ap (λ (c : List (Undo Image)). seen before other place.version c) (sym is))));
      stamps = sym (ap (λ (c : List (Undo Image)). own_first label viewer.id (map (λ (x : Undo Image). x.stamp) c)) is
          ∙ ap (λ (b : Bool). if b then undo.stamp ∷ map (λ (x : Undo Image). x.stamp) rest
          else record { owner = label; mark = viewer.id } ∷ undo.stamp ∷ map (λ (x : Undo Image). x.stamp) rest) (eq-eqb undo.stamp.mark viewer.id mine));
      used = refl;
      death = refl;
    }

-- nobody from the watermark on sees a row at a free position
free_by : (watermark : ℕ) (v : Version) (u : Bool) (d : ℕ) (c : List (Undo Image)) → is_free watermark (record { version = v; used = u; death = d; chain = c }) ≡ true
    → IsBlankUnused (record { version = v; used = u; death = d; chain = c }) → (other : Viewer) → watermark ≤ other.start → sees other (record { version = v; used = u; death = d; chain = c }) ≡ None
free_by watermark v false d c free blank other le =
    ap (λ (chain : List (Undo Image)). cell_of (seen before other v chain)) (blank.chain refl) ∙ ap (λ (b : Bool). if b then Some v.row else None) (blank.row refl)
free_by watermark v true d [] free blank other le =
    ap (λ (b : Bool). if b then Some v.row else None) (not_live v.live _ free)
free_by watermark v true d (undo ∷ rest) free blank other le =
    let older = and_parts (nat_lt undo.stamp.mark watermark) (nat_lt d watermark) (and_parts (not v.live) (nat_lt undo.stamp.mark watermark && nat_lt d watermark) free).1 in
    let less : undo.stamp.mark < watermark = ltb-true undo.stamp.mark watermark older.0 in
    ap cell_of (at_end other v undo rest (or_true (undo.stamp.mark == other.id) (nat_lt undo.stamp.mark other.start) (lt-ltb undo.stamp.mark other.start (omega arith))))
    ∙ ap (λ (b : Bool). if b then Some v.row else None) (not_live v.live _ free)

places : (viewer : Viewer) (label : Label) (watermark : ℕ) (image : Image) (version : Version) (place : Place) → is_free watermark place ≡ true → IsBlankUnused place
    → version.live ≡ true → image.live ≡ false → Placed viewer label watermark version.row place (placed_place label viewer.id image version place)
places viewer label watermark image version place free blank live gone =
    let top : Undo Image = record { stamp = record { owner = label; mark = viewer.id }; image = image } in
    record {
      own = ap cell_of (at_end viewer version top [] (left_true (viewer.id == viewer.id) (nat_lt viewer.id viewer.start) (eq-eqb viewer.id viewer.id refl)))
          ∙ ap (λ (b : Bool). if b then Some version.row else None) live;
      others = λ other o le.
          ap cell_of (past other version top [] (goes other viewer.id o.other o.start))
          ∙ (ap (λ (b : Bool). if b then Some (before image version).row else None) gone
          ∙ sym (free_by watermark place.version place.used place.death place.chain free blank other le));
      stamps = refl;
      used = refl;
      death = refl;
    }

pub places_step : KeepsViews before both → PlacesStep
places_step keeps = record {
  prunes = prunes keeps;
  commits = λ id time place. commits_by id time place.version place.used place.death place.chain;
  undoes = λ id place. undoes_by id place.version place.used place.death place.chain;
  writes = writes;
  rewrites = rewrites;
  places = places;
}
