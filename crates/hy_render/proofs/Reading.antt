-- What it means that things can be read off the front of a text, and how lists of such things are read.
use Rattle.std.proofs.Common.{◌≡◌, ℕ, List, [], ◌∷◌, ◌++◌, get_or, refl, sym, ◌∙◌, subst}
use Rattle.std.proofs.lemmas.List.{append_assoc}
use Rattle.std.proofs.lemmas.List.Elements.{All-head, All-tail}
use Rattle.std.specs.List.{All, flat_map}

-- things that are good, printed in front of texts that may follow, are the same where the whole is, and so is what follows
abbrev pub Reads : {A : Type 0} → (A → Type 0) → (List ℕ → Type 0) → (A → List ℕ) → Type 0
Reads {A} Good Follows print = (a b : A) (x y : List ℕ) → Good a → Good b → Follows x → Follows y → print a ++ x ≡ print b ++ y → (a ≡ b) × (x ≡ y)

-- any text
abbrev pub AnyText : List ℕ → Type 0
AnyText x = Unit {0}

-- the byte at a place of a text
abbrev pub byte : ℕ → List ℕ → ℕ
byte place text = get_or text place 0

-- the first byte is such a one
abbrev pub Begins : (ℕ → Type 0) → List ℕ → Type 0
Begins P [] = ⊥
Begins P (b ∷ text) = P b

-- a text that goes on begins as before
pub begins_longer : (P : ℕ → Type 0) (text x : List ℕ) → Begins P text → Begins P (text ++ x)
begins_longer P [] x h = absurd h
begins_longer P (b ∷ text) x h = h

-- what is so less closely
pub begins_weaker : (P Q : ℕ → Type 0) → ((b : ℕ) → P b → Q b) → (text : List ℕ) → Begins P text → Begins Q text
begins_weaker P Q weaker [] h = h
begins_weaker P Q weaker (b ∷ text) h = weaker b h

-- the first byte of texts that are the same
pub first_byte : (P Q : ℕ → Type 0) (x y : List ℕ) → Begins P x → Begins Q y → x ≡ y → (b : ℕ) × P b × Q b
first_byte P Q [] y h i e = absurd h
first_byte P Q (b ∷ x) y h i e = (b, h, subst (Begins Q) (sym e) i)

-- behind the first byte
pub behind_first : (b c : ℕ) (x y : List ℕ) → b ∷ x ≡ c ∷ y → x ≡ y
behind_first b c x y e = cc

-- a front of some bytes ends where another byte comes
pub fronts : (P : ℕ → Type 0) (v w x y : List ℕ) → All P v → All P w → Begins (λ b. P b → ⊥) x → Begins (λ b. P b → ⊥) y
    → v ++ x ≡ w ++ y → (v ≡ w) × (x ≡ y)
fronts P [] [] x y _ _ _ _ e = (refl, e)
fronts P [] (c ∷ w) x y _ l h _ e = absurd (subst (Begins (λ b. P b → ⊥)) e h (All-head P c w l))
fronts P (b ∷ v) [] x y k _ _ h e = absurd (subst (Begins (λ b. P b → ⊥)) (sym e) h (All-head P b v k))
fronts P (b ∷ v) (c ∷ w) x y k l h i e =
    let first : b ≡ c = cc in
    let rest = fronts P v w x y (All-tail P b v k) (All-tail P c w l) h i (behind_first b c (v ++ x) (w ++ y) e) in
    ((λ j. first j ∷ rest.0 j), rest.1)

-- what follows a thing in a list: the next thing, or what ends the list
pub goes_on : {A : Type 0} (Follows : List ℕ → Type 0) (print : A → List ℕ) → ((a : A) (x : List ℕ) → Follows (print a ++ x))
    → (things : List A) (x : List ℕ) → Follows x → Follows (flat_map print things ++ x)
goes_on Follows print begins [] x h = h
goes_on Follows print begins (a ∷ rest) x h = subst Follows (sym (append_assoc (print a) (flat_map print rest) x)) (begins a (flat_map print rest ++ x))

-- a list is read where each thing of it is, and what ends the list begins no such thing
pub reads_list : {A : Type 0} (Good : A → Type 0) (Follows End : List ℕ → Type 0) (print : A → List ℕ) → Reads Good Follows print
    → ((a : A) (x : List ℕ) → Follows (print a ++ x)) → ((x : List ℕ) → End x → Follows x)
    → ((x : List ℕ) → End x → (a : A) (z : List ℕ) → x ≡ print a ++ z → ⊥)
    → Reads (All Good) End (flat_map print)
reads_list Good Follows End print reads begins ends apart [] [] x y _ _ _ _ e = (refl, e)
reads_list Good Follows End print reads begins ends apart [] (b ∷ bs) x y _ _ h _ e =
    absurd (apart x h b (flat_map print bs ++ y) (e ∙ append_assoc (print b) (flat_map print bs) y))
reads_list Good Follows End print reads begins ends apart (a ∷ others) [] x y _ _ _ h e =
    absurd (apart y h a (flat_map print others ++ x) (sym e ∙ append_assoc (print a) (flat_map print others) x))
reads_list Good Follows End print reads begins ends apart (a ∷ others) (b ∷ bs) x y k l h i e =
    let first = reads a b (flat_map print others ++ x) (flat_map print bs ++ y) (All-head Good a others k) (All-head Good b bs l)
    (goes_on Follows print begins others x (ends x h)) (goes_on Follows print begins bs y (ends y i)) (simp append_assoc at e) in
    let rest = reads_list Good Follows End print reads begins ends apart others bs x y (All-tail Good a others k) (All-tail Good b bs l) h i first.1 in
    ((λ j. first.0 j ∷ rest.0 j), rest.1)
