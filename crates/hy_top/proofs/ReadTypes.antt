-- The values of a script that was bound and not refused are of the types of its tables' columns.
use Rattle.std.specs.List.{All, AllZip}
use Rattle.std.proofs.Common.{ℕ, List, [], ◌∷◌, map}
use Rattle.std.proofs.lemmas.List.Elements.{All-map, All-weaker}
use Rattle.hy_value.specs.declared.Kind.{Kind}
use Rattle.hy_value.specs.declared.Value.{Value}
use Rattle.hy_schema.specs.declared.Column.{Column}
use Rattle.hy_schema.specs.declared.TableDef.{TableDef}
use Rattle.hy_bound.specs.declared.Txn.{Txn}
use Rattle.hy_bind.specs.Shapes.{catalog_shapes}
use Rattle.hy_chunk.specs.Sound.{FitsRow}
use Rattle.hy_stepping.specs.Typed.{IsTypedIn, IsTypedTxn}
use Rattle.hy_script.specs.declared.NamedTxns.{NamedTxns}
use Rattle.hy_script.specs.declared.Script.{Script}
use Rattle.hy_script.specs.Binding.{WasGiven, WereGiven, WasBound, WereBound, IsBound}
use Rattle.hy_setting.specs.Kinds.{catalog_kinds}
use Rattle.hy_setting.specs.Typing.{WhatIsBoundIsTyped}
use Rattle.hy_top.specs.Typing.{IsTypedScript}

-- the first rows of each table
rows_given : WhatIsBoundIsTyped → (script : List ℕ) (catalog : List TableDef) (rows : List (List (List Value))) → AllZip (WereGiven script) catalog rows
    → AllZip (λ (types : List Kind) (rows : List (List Value)). All (FitsRow types) rows) (catalog_kinds catalog) rows
rows_given law script [] [] h = tt
rows_given law script [] (first ∷ rows) h = absurd h
rows_given law script (def ∷ catalog) [] h = absurd h
rows_given law script (def ∷ catalog) (first ∷ rows) h = (
  All-weaker (WasGiven script def) (FitsRow (map (λ (column : Column). column.kind) def.columns)) (law.rows script def) first h.0,
  rows_given law script catalog rows h.1,
)

txns_bound : WhatIsBoundIsTyped → (script : List ℕ) (catalog : List TableDef) (txns : List Txn) → WereBound script catalog txns
    → All (IsTypedTxn (catalog_kinds catalog) (catalog_shapes catalog)) txns
txns_bound law script catalog txns were =
    All-weaker (λ (txn : Txn). All (WasBound script catalog) txn.statements) (IsTypedTxn (catalog_kinds catalog) (catalog_shapes catalog))
    (λ txn. All-weaker (WasBound script catalog) (IsTypedIn (catalog_kinds catalog) (catalog_shapes catalog)) (law.statements script catalog) txn.statements)
    txns were

pub bound_typed : WhatIsBoundIsTyped → (bytes : List ℕ) (script : Script) → IsBound bytes script → IsTypedScript script
bound_typed law bytes script is = record {
  tables = law.tables script.catalog;
  rows = rows_given law bytes script.catalog script.rows is.rows;
  statements =
      All-map (λ (txns : List Txn). All (IsTypedTxn (catalog_kinds script.catalog) (catalog_shapes script.catalog)) txns)
      (λ (session : NamedTxns). session.txns) script.sessions
      (All-weaker (λ (session : NamedTxns). WereBound bytes script.catalog session.txns)
      (λ (session : NamedTxns). All (IsTypedTxn (catalog_kinds script.catalog) (catalog_shapes script.catalog)) session.txns)
      (λ session. txns_bound law bytes script.catalog session.txns) script.sessions is.statements);
}
