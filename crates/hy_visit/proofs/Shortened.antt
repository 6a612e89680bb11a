-- A write by one whose identifier is from the cover's next time on leaves as many records below that time.
use Rattle.std.proofs.Common.{◌≡◌, ℕ, ◌≤◌, Bool, true, false, List, [], ◌∷◌, length, refl, sym, ap, ◌∙◌, subst, cond, arith, None, Some, eqb}
use Rattle.std.specs.Prelude.{Option, Result, Ok, Err, count_by, nat_lt}
use Rattle.std.proofs.lemmas.Bool.{le-ltb}
use Rattle.std.proofs.lemmas.List.Sums.{sum_by-cons}
use Rattle.hy_stamp.specs.declared.Label.{Label}
use Rattle.hy_stamp.specs.declared.Stamp.{Stamp}
use Rattle.hy_stamp.specs.declared.Viewer.{Viewer}
use Rattle.hy_prune.specs.declared.Cover.{Cover}
use Rattle.hy_chain.specs.Pruning.{count_old}
use Rattle.hy_undo.specs.declared.refusal.Refusal.{Refusal}
use Rattle.hy_undo.specs.Places.{Place, Cell, stamps}
use Rattle.hy_undo.specs.Chunks.{ChunkData, own_first}
use Rattle.hy_undo.specs.Sweeps.{AllWritten}
use Rattle.hy_event.specs.Writing.{Becomes}
use Rattle.hy_visit.specs.Pruning.{AllShort}
use Rattle.hy_visit.proofs.Stamps.{count_of}

abbrev pub count_in : ℕ → List Stamp → ℕ
count_in next all = count_by (λ stamp. nat_lt stamp.mark next) all

pub late_first : (next id : ℕ) (label : Label) (all : List Stamp) → next ≤ id → count_in next (record { owner = label; mark = id } ∷ all) ≡ count_in next all
late_first next id label all late =
    let new : Stamp = record { owner = label; mark = id } in
    let first = sum_by-cons (λ (stamp : Stamp). cond (nat_lt stamp.mark next) 1 0) new all in
    let above : nat_lt id next ≡ false = le-ltb id next late in
    let none : ◌≡◌ {A = ℕ} (cond (nat_lt id next) 1 0) 0 = ap (λ (b : Bool). cond b 1 0) above in
    omega (arith, first, none)

own_or_late : (next id : ℕ) (label : Label) (stamp : Stamp) (all : List Stamp) → next ≤ id → (own : Bool)
    → count_in next (cond own (stamp ∷ all) (record { owner = label; mark = id } ∷ stamp ∷ all)) ≡ count_in next (stamp ∷ all)
own_or_late next id label stamp all late true = refl
own_or_late next id label stamp all late false = late_first next id label (stamp ∷ all) late

as_few : (next id : ℕ) (label : Label) (all : List Stamp) → next ≤ id → count_in next (own_first label id all) ≡ count_in next all
as_few next id label [] late = late_first next id label [] late
as_few next id label (stamp ∷ all) late = own_or_late next id label stamp all late (eqb stamp.mark id)

short_as : (cover : Cover) (old new : Place) → count_in cover.next (stamps new) ≡ count_in cover.next (stamps old)
    → count_old cover old.chain ≤ length cover.starts → count_old cover new.chain ≤ length cover.starts
short_as cover old new same short =
    subst (λ (n : ℕ). n ≤ length cover.starts) (sym (count_of cover.next new.chain ∙ same ∙ sym (count_of cover.next old.chain))) short

pub short_written : (cover : Cover) (viewer : Viewer) (label : Label) → cover.next ≤ viewer.id → (cells : List (Option Cell)) (olds news : List Place)
    → AllShort cover olds → AllWritten viewer label cells olds news → AllShort cover news
short_written cover viewer label late [] [] [] short written = tt
short_written cover viewer label late [] [] (new ∷ news) short written = absurd written
short_written cover viewer label late [] (old ∷ olds) news short written = absurd written
short_written cover viewer label late (None ∷ cells) [] news short written = absurd written
short_written cover viewer label late (Some cell ∷ cells) [] news short written = absurd written
short_written cover viewer label late (None ∷ cells) (old ∷ olds) [] short written = absurd written
short_written cover viewer label late (Some cell ∷ cells) (old ∷ olds) [] short written = absurd written
short_written cover viewer label late (None ∷ cells) (old ∷ olds) (new ∷ news) short written = (
  subst (λ (p : Place). count_old cover p.chain ≤ length cover.starts) (sym written.0) short.0,
  short_written cover viewer label late cells olds
      news short.1 written.1,
)
short_written cover viewer label late (Some cell ∷ cells) (old ∷ olds) (new ∷ news) short written = (
  short_as cover old new (ap (count_in cover.next) written.0.stamps ∙ as_few cover.next viewer.id label (stamps old) late) short.0,
  short_written cover viewer label late cells olds news short.1 written.1,
)

pub short_becomes : (cover : Cover) (viewer : Viewer) (label : Label) → cover.next ≤ viewer.id
    → (cells : Result (List (Option Cell)) Refusal) (old new : ChunkData)
    → AllShort cover old.places → Becomes viewer label cells old new → AllShort cover new.places
short_becomes cover viewer label late (Err refusal) old new short becomes = subst (λ (chunk : ChunkData). AllShort cover chunk.places) (sym becomes) short
short_becomes cover viewer label late (Ok cells) old new short becomes = short_written cover viewer label late cells old.places new.places short becomes.places
