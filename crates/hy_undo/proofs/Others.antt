-- What others see.
use Rattle.std.proofs.Common.{◌≡◌, ◌≢◌, ℕ, ◌<◌, ◌≤◌, Bool, true, false, List, ◌∷◌, refl, sym, ap, ◌∙◌, cond}
use Rattle.std.specs.Prelude.{◌==◌, ◌||◌, nat_lt}
use Rattle.std.proofs.lemmas.Bool.{le-ltb, lt-ltb, ne_eqb, eq-eqb}
use Rattle.hy_stamp.specs.declared.Label.{Label}
use Rattle.hy_stamp.specs.declared.Viewer.{Viewer}
use Rattle.hy_chain.specs.Chains.{Undo, stops, seen, marked}
use Rattle.hy_undo.specs.declared.version.Version.{Version}
use Rattle.hy_undo.specs.Images.{Image, before}
use Rattle.hy_undo.specs.Places.{cell_of, sees, in_place, IsOther, Pushed, Popped, Marked, OthersKeep}

both_false : (x y : Bool) → x ≡ false → y ≡ false → (x || y) ≡ false
both_false true y h k = h
both_false false y h k = k

pub or_true : (x y : Bool) → y ≡ true → (x || y) ≡ true
or_true true y h = refl
or_true false y h = h

pub left_true : (x y : Bool) → x ≡ true → (x || y) ≡ true
left_true true y h = refl
left_true false y h = absurd (cc)

-- a viewer goes past a record that is neither its own nor older than its start
pub goes : (viewer : Viewer) (mark : ℕ) → mark ≢ viewer.id → viewer.start ≤ mark → stops viewer mark ≡ false
goes viewer mark other le = both_false (mark == viewer.id) (nat_lt mark viewer.start) (ne_eqb mark viewer.id other) (le-ltb mark viewer.start le)

pub past : (viewer : Viewer) (version : Version) (undo : Undo Image) (rest : List (Undo Image)) → stops viewer undo.stamp.mark ≡ false
    → seen before viewer version (undo ∷ rest) ≡ seen before viewer (before undo.image version) rest
past viewer version undo rest e = ap (λ (b : Bool). cond b version (seen before viewer (before undo.image version) rest)) e

pub at_end : (viewer : Viewer) (version : Version) (undo : Undo Image) (rest : List (Undo Image)) → stops viewer undo.stamp.mark ≡ true
    → seen before viewer version (undo ∷ rest) ≡ version
at_end viewer version undo rest e = ap (λ (b : Bool). cond b version (seen before viewer (before undo.image version) rest)) e

pub others_keep : OthersKeep
others_keep old new viewer = (pushed, own, popped, early, late)
  where
    through : Version → List (Undo Image) → Version
    through version chain = seen before viewer version chain

    pushed : (label : Label) (id : ℕ) (image : Image) → Pushed old new label id image → IsOther id viewer → sees viewer new ≡ sees viewer old
    pushed label id image p o =
        let undo : Undo Image = record { stamp = record { owner = label; mark = id }; image = image } in
        ap cell_of (ap (λ (chain : List (Undo Image)). seen before viewer new.version chain) p.chain
        ∙ (past viewer new.version undo old.chain (goes viewer id o.other o.start)
        ∙ ap (λ (version : Version). seen before viewer version old.chain) p.version))

    own : (label : Label) (id : ℕ) (image : Image) → Pushed old new label id image → viewer.id ≡ id → sees viewer new ≡ in_place new
    own label id image p e =
        let undo : Undo Image = record { stamp = record { owner = label; mark = id }; image = image } in
        ap cell_of (ap (λ (chain : List (Undo Image)). seen before viewer new.version chain) p.chain
        ∙ at_end viewer new.version undo old.chain (left_true (id == viewer.id) (nat_lt id viewer.start) (eq-eqb id viewer.id (sym e))))

    popped : (undo : Undo Image) → Popped old new undo → IsOther undo.stamp.mark viewer → sees viewer new ≡ sees viewer old
    popped undo p o =
        ap cell_of (ap (λ (version : Version). seen before viewer version new.chain) p.version
        ∙ (sym (past viewer old.version undo new.chain (goes viewer undo.stamp.mark o.other o.start))
        ∙ ap (λ (chain : List (Undo Image)). seen before viewer old.version chain) (sym p.chain)))

    early : (undo : Undo Image) (rest : List (Undo Image)) (time : ℕ) → Marked old new undo rest time → IsOther undo.stamp.mark viewer → viewer.start ≤ time → time ≢ viewer.id → sees viewer new ≡ sees viewer old
    early undo rest time m o le ne =
        ap cell_of (ap (λ (chain : List (Undo Image)). seen before viewer new.version chain) m.chain
        ∙ (past viewer new.version (marked time undo) rest (goes viewer time ne le)
        ∙ (ap (λ (version : Version). seen before viewer (before undo.image version) rest) m.version
        ∙ (sym (past viewer old.version undo rest (goes viewer undo.stamp.mark o.other o.start))
        ∙ ap (λ (chain : List (Undo Image)). seen before viewer old.version chain) (sym m.was)))))

    late : (undo : Undo Image) (rest : List (Undo Image)) (time : ℕ) → Marked old new undo rest time → time < viewer.start → sees viewer new ≡ in_place old
    late undo rest time m less =
        ap cell_of (ap (λ (chain : List (Undo Image)). seen before viewer new.version chain) m.chain
        ∙ (at_end viewer new.version (marked time undo) rest (or_true (time == viewer.id) (nat_lt time viewer.start) (lt-ltb time viewer.start less)) ∙ m.version))
