-- The text of an outcome tells it.
use Rattle.std.proofs.Common.{◌≡◌, ℕ, List, [], ◌∷◌, ◌++◌, length, refl, arith, inl}
use Rattle.std.proofs.lemmas.List.{append_assoc, append_cancel_left}
use Rattle.std.specs.Prelude.{codes}
use Rattle.std.specs.Fmt.{decimal}
use Rattle.std.specs.List.{flat_map}
use Rattle.hy_value.specs.declared.Value.{Value}
use Rattle.hy_render.specs.declared.Names.{Names}
use Rattle.hy_render.specs.declared.Outcome.{Outcome}
use Rattle.hy_render.specs.Report.{line, txn_text, order_lines, table_lines}
use Rattle.hy_render.specs.Telling.{TextTells}
use Rattle.hy_render.proofs.Reading.{behind_first}
use Rattle.hy_render.proofs.Numbers.{reads_digits}
use Rattle.hy_render.proofs.Txns.{reads_txns}
use Rattle.hy_render.proofs.Changes.{EndsOrder, reads_order, reads_tables}

-- outcomes of the same parts are the same
same_outcome : (one other : Outcome) → one.txns ≡ other.txns → one.order ≡ other.order → one.tables ≡ other.tables → one ≡ other
same_outcome one other p q r = λ i. record { txns = p i; order = q i; tables = r i }

-- behind the order come tables or the end
ends_order : (names : Names) (table : ℕ) (tables : List (List (List Value))) (x : List ℕ) → EndsOrder (table_lines names table tables ++ (line (codes "end") ++ x))
ends_order names table [] x = omega arith
ends_order names table (rows ∷ tables) x = omega arith

-- the text behind the transactions
behind_txns : Names → Outcome → List ℕ
behind_txns names outcome =
    codes "order " ++ (decimal (length outcome.order) ++ 10 ∷ (order_lines names 0 outcome.order ++ (table_lines names 0 outcome.tables ++ line (codes "end"))))

-- outcomes with one text are the same: what is read of it is the same, from the front
pub text_tells : TextTells
unfolding behind_txns
text_tells names one other tell named named_other e =
    let whole : flat_map (txn_text names) one.txns ++ behind_txns names one
    ≡ flat_map (txn_text names) other.txns ++ behind_txns names other = simp append_assoc at e in
    let txns = reads_txns names tell one.txns other.txns _ _ named.txns named_other.txns refl refl whole in
    let count = reads_digits (length one.order) (length other.order) _ _ (inl refl) (inl refl) (append_cancel_left (codes "order ") _ _ txns.1) in
    let order = reads_order names tell 0 one.order other.order _ _ named.order named_other.order
    (ends_order names 0 one.tables []) (ends_order names 0 other.tables []) (behind_first 10 10 _ _ count.1) in
    let tables = reads_tables names 0 one.tables other.tables _ _ named.tables named_other.tables (omega arith) (omega arith) order.1 in
    same_outcome one other txns.0 order.0 tables.0
