-- How the refusals of a seat add up.
use Rattle.std.proofs.Common.{◌≡◌, ℕ, suc, sym, ap, List}
use Rattle.std.proofs.lemmas.List.{append-nil}
use Rattle.hy_threads.specs.Knowledge.{Visitor, Knowledge, Seated, visitor, refused}
use Rattle.hy_threads.proofs.Lists.{replicate_more}

-- a seat that was refused nothing more
pub refused_none : {S D : Type 0} (o : Visitor S D) (k : ℕ) → ◌≡◌ {A = Knowledge S D} (Seated o) (Seated (refused o k 0))
refused_none o k = λ i. Seated (visitor o.number o.session o.held (sym (append-nil o.refusals) i))

-- one refusal more
pub refused_more : {S D : Type 0} (o : Visitor S D) (k n : ℕ) → ◌≡◌ {A = Knowledge S D} (Seated (refused (refused o k n) k 1)) (Seated (refused o k (suc n)))
refused_more {S} {D} o k n = ap (λ (l : List ℕ). let v : Knowledge S D = Seated (visitor o.number o.session o.held l) in v) (replicate_more n k o.refusals)
