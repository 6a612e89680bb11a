-- Names of tables and transactions are read off the front of a text.
use Rattle.std.proofs.Common.{◌≡◌, ◌≢◌, ℕ, ◌<◌, List, [], ◌∷◌, ◌++◌, length, refl, get_or, inl, inr}
use Rattle.std.proofs.lemmas.List.{append_assoc}
use Rattle.std.specs.Fmt.{decimal}
use Rattle.hy_render.specs.declared.Names.{Names}
use Rattle.hy_render.specs.declared.Place.{Place}
use Rattle.hy_render.specs.Named.{AreTelling, IsNamedLabel, IsNamedPlace}
use Rattle.hy_render.specs.Report.{table_name, label_name, place_name}
use Rattle.hy_render.proofs.Reading.{Reads, Begins, fronts, behind_first}
use Rattle.hy_render.proofs.Numbers.{EndsValue, reads_number}
use Rattle.hy_render.proofs.Values.{EndsWord}

-- what follows a name is no byte of it
ends_name : (x : List ℕ) → EndsWord x → Begins (λ b. (b ≢ 32) × (b ≢ 10) → ⊥) x
ends_name [] h = h
ends_name (b ∷ x) h = λ is. elim h [ inl ten ↦ is.1 ten | inr space ↦ is.0 space ]

module _ (names : Names) (tell : AreTelling names) where
  -- a table is read off its name
  pub reads_table : Reads (λ table. table < length names.tables) EndsWord (table_name names)
  reads_table s t x y k l h i e =
      let read = fronts (λ b. (b ≢ 32) × (b ≢ 10)) _ _ x y (tell.tables s [] k) (tell.tables t [] l) (ends_name x h) (ends_name y i) e in
      (tell.tables_differ s t k l read.0, read.1)

  -- a transaction is read off its name
  pub reads_label : Reads (IsNamedLabel names) EndsValue (label_name names)
  reads_label a b x y k l h i e =
      let whole : get_or names.sessions a.session [] ++ 46 ∷ (decimal a.txn ++ x)
      ≡ get_or names.sessions b.session [] ++ 46 ∷ (decimal b.txn ++ y) = simp append_assoc at e in
      let name = fronts (λ b. b ≢ 46) _ _ _ _ (tell.sessions a.session [] k.named) (tell.sessions b.session [] l.named) (λ other. other refl) (λ other. other refl) whole in
      let session = tell.sessions_differ a.session b.session k.named l.named name.0 in
      let txn = reads_number a.txn b.txn x y k.printed l.printed h i (behind_first 46 46 _ _ name.1) in
      (λ j. record { session = session j; txn = txn.0 j }, txn.1)

  -- a table and a position are read
  pub reads_place : Reads {A = Place} (λ place. IsNamedPlace names place.table place.pos) EndsValue (λ place. place_name names place.table place.pos)
  reads_place p q x y k l h i e =
      let whole : table_name names p.table ++ 32 ∷ (decimal p.pos ++ x)
      ≡ table_name names q.table ++ 32 ∷ (decimal q.pos ++ y) = simp append_assoc at e in
      let table = reads_table p.table q.table _ _ k.named l.named (inr refl) (inr refl) whole in
      let pos = reads_number p.pos q.pos x y k.printed l.printed h i (behind_first 32 32 _ _ table.1) in
      (λ j. record { table = table.0 j; pos = pos.0 j }, pos.1)
