-- Names of columns that are put one after another, each where a test is true of its number.
use Rattle.std.proofs.Common.{◌≡◌, ℕ, suc, ◌+◌, ◌<◌, ◌≤◌, ◌||◌, List, [], ◌∷◌, ◌++◌, Bool, length, get_or, drop, ap, sym, subst, ◌∙◌, append_assoc, append-nil, arith}
use Rattle.std.proofs.lemmas.List.{drop_more, drop_all}
use Rattle.hy_schema.specs.declared.Column.{Column}
use Rattle.hy_explain.specs.Words.{names_from, told_name}

module _ (test : ℕ → Bool) (columns : List Column) where
  -- what stands there and the names of what is left, from this column on
  abbrev pub Leaves : List ℕ → Bool → ℕ → List ℕ → Type 0
  Leaves there came number whole = there ++ names_from test came number (drop number columns) ≡ whole

  -- one column more
  pub one_more : (number : ℕ) (column d : Column) (came told now : Bool) (name before next whole : List ℕ) → number < length columns
      → column ≡ get_or columns number d → told ≡ test number → now ≡ (came || told) → name ≡ column.name → next ≡ before ++ told_name told came name
      → Leaves before came number whole → Leaves next now (number + 1) whole
  one_more number column d came told now name before next whole below at tells joined named put left =
      let rest : List Column = drop (number + 1) columns in
      let split : drop number columns ≡ column ∷ rest = drop_more columns number d below ∙ ap (λ (c : Column). c ∷ rest) (sym at) in
      let behind : suc number ≡ number + 1 = omega arith in
      let here : next ≡ before ++ told_name (test number) came column.name =
      put ∙ (ap (λ (b : Bool). before ++ told_name b came name) tells ∙ ap (λ (n : List ℕ). before ++ told_name (test number) came n) named) in
      let later : now ≡ (came || test number) = joined ∙ ap (λ (b : Bool). came || b) tells in
      ap (λ (b : Bool). next ++ names_from test b (number + 1) rest) later
      ∙ (ap (λ (n : ℕ). next ++ names_from test (came || test number) n rest) (sym behind)
      ∙ (ap (λ (x : List ℕ). x ++ names_from test (came || test number) (suc number) rest) here
      ∙ (append_assoc before (told_name (test number) came column.name) (names_from test (came || test number) (suc number) rest)
      ∙ (ap (λ (those : List Column). before ++ names_from test came number those) (sym split) ∙ left))))

  -- none is left
  pub none_more : (number : ℕ) (came : Bool) (there whole : List ℕ) → length columns ≤ number → Leaves there came number whole → there ≡ whole
  none_more number came there whole past left =
      sym (append-nil there) ∙ (ap (λ (those : List Column). there ++ names_from test came number those) (sym (drop_all number columns past)) ∙ left)
