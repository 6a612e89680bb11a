-- The entries of a catalog, each a table under its name.
use Rattle.std.proofs.Common.{◌≡◌, ℕ, List, [], ◌∷◌, ◌++◌, ◌+◌, length, None, Vec, Global, map, sym, subst, ap, ◌∙◌, arith, length-append}
use Rattle.std.specs.List.{position}
use Rattle.std.specs.Map.{keys_of}
use Rattle.std.specs.Str.{bytes_eq}
use Rattle.std.proofs.lemmas.List.{map-append}
use Rattle.indexmap.specs.IndexMap.{insert_entry}
use Rattle.indexmap.proofs.MapLemmas.{insert_entry-absent, Missing-position}
use Rattle.hy_schema.specs.declared.TableDef.{TableDef}
use Rattle.hy_schema.specs.Names.{number_of, table_names, table_number}
use Rattle.hy_schema.specs.Indexes.{position_map}

abbrev Key : Type 0
Key = Vec ℕ Global

abbrev names_of : List (Key × TableDef) → List (List ℕ)
names_of entries = map (λ (entry : Key × TableDef). entry.0.items) entries

abbrev defs_of : List (Key × TableDef) → List TableDef
defs_of entries = map (λ (entry : Key × TableDef). entry.1) entries

-- the index of the key of a name is the table's number
pub index_is_number : (entries : List (Key × TableDef)) (name : List ℕ) → names_of entries ≡ table_names (defs_of entries)
    → position (λ (key : Key). bytes_eq name key.items) (keys_of entries) ≡ table_number (defs_of entries) name
index_is_number entries name named =
    position_map (λ (key : Key). bytes_eq name key.items) (λ (entry : Key × TableDef). entry.0) entries
    ∙ sym (position_map (bytes_eq name) (λ (entry : Key × TableDef). entry.0.items) entries)
    ∙ ap (λ (names : List (List ℕ)). number_of names name) named

-- a table whose name is new comes last
pub comes_last : (entries : List (Key × TableDef)) (key : Key) (def : TableDef) → names_of entries ≡ table_names (defs_of entries) → table_number (defs_of entries) key.items ≡ None
    → insert_entry (λ (a b : Key). bytes_eq a.items b.items) entries key def ≡ entries ++ (key, def) ∷ []
comes_last entries key def named free =
    insert_entry-absent (λ (a b : Key). bytes_eq a.items b.items) key def entries (Missing-position (λ (other : Key). bytes_eq key.items other.items) entries (index_is_number entries key.items named ∙ free)).absent

-- and the names stay those of the tables
pub named_last : (entries : List (Key × TableDef)) (key : Key) (def : TableDef) → names_of entries ≡ table_names (defs_of entries) → key.items ≡ def.name
    → names_of (entries ++ (key, def) ∷ []) ≡ table_names (defs_of (entries ++ (key, def) ∷ []))
named_last entries key def named same =
    map-append (λ (entry : Key × TableDef). entry.0.items) entries ((key, def) ∷ [])
    ∙ ap (λ (names : List (List ℕ)). names ++ key.items ∷ []) named
    ∙ ap (λ (name : List ℕ). table_names (defs_of entries) ++ name ∷ []) same
    ∙ sym (map-append (λ (table : TableDef). table.name) (defs_of entries) (def ∷ []))
    ∙ ap table_names (sym (map-append (λ (entry : Key × TableDef). entry.1) entries ((key, def) ∷ [])))

-- a catalog after a table came: its entries end with it
pub record Ends (entries after : List (Key × TableDef)) (def : TableDef) : Type 0 where
  pub named : names_of after ≡ table_names (defs_of after)
  pub tables : defs_of after ≡ defs_of entries ++ def ∷ []
  pub longer : length after ≡ length entries + 1

pub ends : (entries after : List (Key × TableDef)) (key : Key) (def : TableDef) → names_of entries ≡ table_names (defs_of entries) → key.items ≡ def.name
    → table_number (defs_of entries) def.name ≡ None → after ≡ insert_entry (λ (a b : Key). bytes_eq a.items b.items) entries key def → Ends entries after def
ends entries after key def named same free is =
    let last : after ≡ entries ++ (key, def) ∷ [] = is ∙ comes_last entries key def named (ap (table_number (defs_of entries)) same ∙ free) in
    subst (λ es. Ends entries es def) (sym last) (record {
      named = named_last entries key def named same;
      tables = map-append (λ (entry : Key × TableDef). entry.1) entries ((key, def) ∷ []);
      longer = omega (arith, length-append entries ((key, def) ∷ []));
    })
