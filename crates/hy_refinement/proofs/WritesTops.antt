-- The stamps of a position that was written by a transaction with no rival there.
use Rattle.std.proofs.Common.{◌≡◌, ◌⊎◌, ℕ, ◌<◌, List, [], ◌∷◌, None, Some, Bool, Contains}
use Rattle.std.proofs.Common.{sym, ap, ◌∙◌, subst, inl, inr, cond}
use Rattle.std.proofs.lemmas.Bool.{cases_eq, cases_lt, eq-eqb, ne_eqb}
use Rattle.hy_stamp.specs.declared.Label.{Label}
use Rattle.hy_stamp.specs.declared.Stamp.{Stamp}
use Rattle.hy_stamp.specs.declared.Viewer.{Viewer}
use Rattle.hy_chain.specs.Chains.{Undo, Falls, Under, newest, rival}
use Rattle.hy_chain.specs.Pruning.{stamps_of}
use Rattle.hy_undo.specs.Images.{Image}
use Rattle.hy_undo.specs.Chunks.{own_first}
use Rattle.hy_refinement.proofs.RivalTops.{rival_late}
use Rattle.hy_refinement.proofs.Stamps.{behind, first_of, empty_or, first_newest}

-- ---- whom a stamp stops

-- a newest stamp that names no rival is the viewer's own, or older than its start
pub stops_by_own_or_age : (viewer : Viewer) (chain : List (Undo Image)) (stamp : Stamp) → newest chain ≡ Some stamp → rival viewer chain ≡ None
    → (stamp.mark ≡ viewer.id) ⊎ (stamp.mark < viewer.start)
stops_by_own_or_age viewer chain stamp e none = elim (cases_eq stamp.mark viewer.id) [
  | inl own ↦ inl own
  | inr apart ↦ elim (cases_lt stamp.mark viewer.start) [
    | inl less ↦ inr less
    | inr late ↦ absurd (let f : None ≡ Some stamp.owner = sym none ∙ rival_late viewer chain stamp e apart late in cc)
  ]
]

-- ---- the own stamp on top

-- the own stamp was on top, or it was put there over a stamp that is older than a start, if there was one
pub data OwnOnTop (label : Label) (id start : ℕ) (olds news : List Stamp) : Type 0 where
  was_there : (top : Stamp) (rest : List Stamp) → top.mark ≡ id → olds ≡ top ∷ rest → news ≡ top ∷ rest → OwnOnTop label id start olds news
  pushed : ((top : Stamp) (rest : List Stamp) → olds ≡ top ∷ rest → top.mark < start) → news ≡ record { owner = label; mark = id } ∷ olds
      → OwnOnTop label id start olds news

pub own_on_top : (viewer : Viewer) (label : Label) (chain : List (Undo Image)) (news : List Stamp) → rival viewer chain ≡ None
    → news ≡ own_first label viewer.id (stamps_of chain)
    → OwnOnTop label viewer.id viewer.start (stamps_of chain) news
own_on_top viewer label chain news none e = elim (empty_or (stamps_of chain)) [
  | inl nil ↦ pushed (λ top rest f. absurd (let g : [] ≡ top ∷ rest = sym nil ∙ f in cc))
      (e ∙ (ap (own_first label viewer.id) nil ∙ ap (λ (xs : List Stamp). record { owner = label; mark = viewer.id } ∷ xs) (sym nil)))
  | inr some ↦
      let top : Stamp = some.0 in
      let rest : List Stamp = some.1.0 in
      let mine : Stamp = record { owner = label; mark = viewer.id } in
      let is : stamps_of chain ≡ top ∷ rest = some.1.1 in
      let there = e ∙ ap (own_first label viewer.id) is in
      elim (cases_eq top.mark viewer.id) [
        | inl own ↦ was_there top rest own is (there ∙ ap (λ (b : Bool). cond b (top ∷ rest) (mine ∷ top ∷ rest)) (eq-eqb top.mark viewer.id own))
        | inr apart ↦ pushed (λ other others f. elim (stops_by_own_or_age viewer chain other (first_newest chain other others f) none) [
          | inr less ↦ less
          | inl own ↦ absurd (apart (let same : top ∷ rest ≡ other ∷ others = sym is ∙ f in let one : top ≡ other = cc in
              ap (λ (s : Stamp). s.mark) one ∙ own))
        ])
            (there ∙ (ap (λ (b : Bool). cond b (top ∷ rest) (mine ∷ top ∷ rest)) (ne_eqb top.mark viewer.id apart)
            ∙ ap (λ (xs : List Stamp). mine ∷ xs) (sym is)))
      ]
]

-- ---- marks that fall

under_alike : (time : ℕ) (olds news : List (Undo Image)) → stamps_of news ≡ stamps_of olds → Under time olds → Under time news
under_alike time [] [] e u = tt
under_alike time [] (new ∷ news) e u = absurd cc
under_alike time (old ∷ olds) [] e u = absurd cc
under_alike time (old ∷ olds) (new ∷ news) e u =
    let same : old.stamp ≡ new.stamp = cc in
    let rest : stamps_of news ≡ stamps_of olds = cc in
    (subst (λ (s : Stamp). s.mark < time) same u.0, under_alike time olds news rest u.1)

-- whether they fall only the stamps say
pub falls_alike : (olds news : List (Undo Image)) → stamps_of news ≡ stamps_of olds → Falls olds → Falls news
falls_alike [] [] e f = tt
falls_alike [] (new ∷ news) e f = absurd cc
falls_alike (old ∷ olds) [] e f = absurd cc
falls_alike (old ∷ olds) (new ∷ news) e f =
    let same : old.stamp ≡ new.stamp = cc in
    let rest : stamps_of news ≡ stamps_of olds = cc in
    (subst (λ (s : Stamp). Under s.mark news) same (under_alike old.stamp.mark olds news rest f.0), falls_alike olds news rest f.1)

under_all : (time : ℕ) (chain : List (Undo Image)) → ((stamp : Stamp) → Contains (stamps_of chain) stamp → stamp.mark < time) → Under time chain
under_all time [] low = tt
under_all time (undo ∷ chain) low = (
  low undo.stamp (first_of undo.stamp (stamps_of chain)),
  under_all time chain (λ stamp c. low stamp (behind undo.stamp stamp (stamps_of chain) c)),
)

-- with a stamp above all of them they still do
pub falls_pushed : (olds news : List (Undo Image)) (stamp : Stamp) → stamps_of news ≡ stamp ∷ stamps_of olds → Falls olds
    → ((other : Stamp) → Contains (stamps_of olds) other → other.mark < stamp.mark) → Falls news
falls_pushed olds [] stamp e f low = absurd cc
falls_pushed olds (new ∷ news) stamp e f low =
    let same : stamp ≡ new.stamp = cc in
    let rest : stamps_of news ≡ stamps_of olds = cc in
    (subst (λ (s : Stamp). Under s.mark news) same (under_alike stamp.mark olds news rest (under_all stamp.mark olds low)), falls_alike olds news rest f)
