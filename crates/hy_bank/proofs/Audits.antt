-- An audit tells the sum of the balances.
use Rattle.std.proofs.Common.{◌≡◌, ℕ, true, List, [], ◌∷◌, refl, ap, ◌∙◌, ℤ, pos}
use Rattle.std.specs.Prelude.{filter}
use Rattle.std.proofs.lemmas.List.{append-nil}
use Rattle.hy_value.specs.declared.Value.{Value}
use Rattle.hy_bound.specs.declared.Shape.{Shape}
use Rattle.hy_bound.specs.declared.Reply.TheVariants as reply
use Rattle.hy_bound.specs.Condition.{True}
use Rattle.hy_bind.specs.Shapes.{catalog_shapes}
use Rattle.hy_meaning.specs.Totals.{sum_of}
use Rattle.hy_meaning.specs.Statement.{Table, Database, product, selected}
use Rattle.hy_meaning.specs.Serial.{alone_of}
use Rattle.hy_gen.specs.Transactions.{audit}
use Rattle.hy_gen.specs.Made.{made}
use Rattle.hy_bank.specs.Bank.{AuditsAgree, left_by, all_money}
use Rattle.hy_bank.proofs.Money.{HoldsMoney, left_with}

-- the product of one table is the table
product_of_one : (rows : Table) → product (rows ∷ []) ≡ rows
product_of_one [] = refl
product_of_one (row ∷ rows) = ap (λ (r : List Value). r ∷ product (rows ∷ [])) (append-nil row) ∙ ap (λ (rs : Table). row ∷ rs) (product_of_one rows)

-- where each row passes all are left
all_pass : (rows : Table) → filter (λ row. true) rows ≡ rows
all_pass [] = refl
all_pass (row ∷ rows) = ap (λ (rs : Table). row ∷ rs) (all_pass rows)

all_selected : (rows : Table) → selected [] True (rows ∷ []) ≡ rows
all_selected rows = all_pass (product (rows ∷ [])) ∙ product_of_one rows

total_told : (shapes : List Shape) (total : ℤ) (db : Database) → HoldsMoney total db → (alone_of shapes audit.statements db).replies ≡ reply.Value total ∷ []
total_told shapes total db h =
    ap (λ (d : Database). (alone_of shapes audit.statements d).replies) h.alone
    ∙ ap (λ (rows : Table). reply.Value (sum_of 1 rows) ∷ []) (all_selected h.rows)
    ∙ ap (λ (sum : ℤ). reply.Value sum ∷ []) h.money.sum

pub audits_tell : (seed sessions txns : ℕ) → AuditsAgree (made seed sessions txns)
audits_tell seed sessions txns orders runs =
    total_told (catalog_shapes (made seed sessions txns).catalog) (pos all_money) (left_by (made seed sessions txns) orders)
    (left_with seed sessions txns orders runs)
