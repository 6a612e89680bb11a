-- Lists with commas between, written and read item by item.
use Rattle.std.specs.List.{flat_map, AllByRecursion}
use Rattle.std.proofs.Common.{◌≡◌, ℕ, suc, List, [], ◌∷◌, ◌++◌, drop, refl, sym, ap, ◌∙◌, append_assoc}
use Rattle.hy_token.specs.declared.Sign.TheVariants as sign
use Rattle.hy_token.specs.declared.Token.TheVariants as token
use Rattle.hy_parse.specs.Grammar.{Mark, separated}
use Rattle.hy_parse.specs.Grammar as grammar
use Rattle.hy_dump.specs.Dump.{comma_before}
use Rattle.hy_dump.proofs.Tokens.{Gap, none, space, gap_text, Stop, comma, closing, stop_byte, Stands, stands, comma_first}
use Rattle.hy_dump.proofs.Writing.{Written, written_both, any_written}

-- items with commas between, the first of them having this number
abbrev pub listed : {X : Type 0} → (ℕ → X → List ℕ) → ℕ → List X → List ℕ
listed item number [] = []
listed item number (x ∷ xs) = comma_before number ++ item number x ++ listed item (suc number) xs

-- a tree that is so is written from an offset on, and this is what is left
pub record TreeRead (D : Type 0) (write : D → List Mark) (Is : D → Type 0) (bytes : List ℕ) (at : ℕ) (rest : List ℕ) : Type 0 where
  pub tree : D
  pub end : ℕ
  pub written : Written bytes at (write tree) end
  pub behind : drop end bytes ≡ rest
  pub is : Is tree

-- trees are those of items, the first of which has this number
abbrev pub AreFrom : {X D : Type 0} → (ℕ → X → D → Type 0) → ℕ → List X → List D → Type 0
AreFrom Is number [] [] = Unit {0}
AreFrom Is number [] (tree ∷ trees) = ⊥
AreFrom Is number (x ∷ xs) [] = ⊥
AreFrom Is number (x ∷ xs) (tree ∷ trees) = Is number x tree × AreFrom Is (suc number) xs trees

-- a list behind its first item
abbrev pub behind_first : {D : Type 0} → (D → List Mark) → List D → List Mark
behind_first write trees = flat_map (λ tree. grammar.sign sign.Comma ∷ write tree) trees

module _ (X D : Type 0) (write : D → List Mark) (item : ℕ → X → List ℕ) (bytes : List ℕ) (P : X → Type 0) (Is : ℕ → X → D → Type 0) where
  -- each item is read, behind a gap and before a byte that ends it
  abbrev pub EachRead : Type 0
  EachRead = (number : ℕ) (x : X) (at : ℕ) (gap : Gap) (stop : Stop) (rest : List ℕ) → P x
      → drop at bytes ≡ gap_text gap ++ (item number x ++ stop_byte stop ∷ rest) → TreeRead D write (Is number x) bytes at (stop_byte stop ∷ rest)

  -- what follows an item ends it
  record Goes (text : List ℕ) : Type 0 where
    stop : Stop
    rest : List ℕ
    is : text ≡ stop_byte stop ∷ rest

  goes : (xs : List X) (number : ℕ) (rest : List ℕ) → Goes (listed item (suc number) xs ++ 41 ∷ rest)
  goes [] number rest = record { stop = closing; rest = rest; is = refl }
  goes (x ∷ xs) number rest = record { stop = comma; rest = _; is = refl }

  rest_reads : EachRead → (xs : List X) (number at : ℕ) (rest : List ℕ) → AllByRecursion P xs
      → drop at bytes ≡ listed item (suc number) xs ++ 41 ∷ rest
      → TreeRead (List D) (behind_first write) (AreFrom Is (suc number) xs) bytes at (41 ∷ rest)
  rest_reads each [] number at rest all here = record { tree = []; end = at; written = refl; behind = here; is = tt }
  rest_reads each (x ∷ xs) number at rest all here =
      let text : List ℕ = item (suc number) x in
      let more : List ℕ = listed item (suc (suc number)) xs in
      let next : Goes (more ++ 41 ∷ rest) = goes xs (suc number) rest in
      let split : 44 ∷ 32 ∷ ((text ++ more) ++ 41 ∷ rest) ≡ 44 ∷ 32 ∷ (text ++ (more ++ 41 ∷ rest)) =
      ap (λ (back : List ℕ). 44 ∷ 32 ∷ back) (append_assoc text more (41 ∷ rest)) in
      let mark : Stands bytes at (token.Sign sign.Comma) (44 ∷ []) (32 ∷ (text ++ (more ++ 41 ∷ rest))) =
      stands (token.Sign sign.Comma) bytes at none (44 ∷ []) (32 ∷ (text ++ (more ++ 41 ∷ rest))) (here ∙ split)
      (comma_first (32 ∷ (text ++ (more ++ 41 ∷ rest)))) in
      let one = each (suc number) x mark.span.end space next.stop next.rest all.0 (mark.behind ∙ ap (λ (back : List ℕ). 32 ∷ (text ++ back)) next.is) in
      let others = rest_reads each xs (suc number) one.end rest all.1 (one.behind ∙ sym next.is) in
      record {
        tree = one.tree ∷ others.tree;
        end = others.end;
        written =
            written_both bytes at mark.span.end others.end (grammar.sign sign.Comma ∷ []) (write one.tree ++ behind_first write others.tree)
            (any_written bytes at (token.Sign sign.Comma) (44 ∷ []) (32 ∷ (text ++ (more ++ 41 ∷ rest))) mark tt)
            (written_both bytes mark.span.end one.end others.end (write one.tree) (behind_first write others.tree) one.written others.written);
        behind = others.behind;
        is = (one.is, others.is);
      }

  -- a list with an item is read up to the parenthesis behind it
  pub list_reads : EachRead → (x : X) (xs : List X) (at : ℕ) (rest : List ℕ) → AllByRecursion P (x ∷ xs)
      → drop at bytes ≡ listed item 0 (x ∷ xs) ++ 41 ∷ rest → TreeRead (List D) (separated write) (AreFrom Is 0 (x ∷ xs)) bytes at (41 ∷ rest)
  list_reads each x xs at rest all here =
      let text : List ℕ = item 0 x in
      let more : List ℕ = listed item 1 xs in
      let next : Goes (more ++ 41 ∷ rest) = goes xs 0 rest in
      let one = each 0 x at none next.stop next.rest all.0 (here ∙ (append_assoc text more (41 ∷ rest) ∙ ap (λ (back : List ℕ). text ++ back) next.is)) in
      let others = rest_reads each xs 0 one.end rest all.1 (one.behind ∙ sym next.is) in
      record {
        tree = one.tree ∷ others.tree;
        end = others.end;
        written = written_both bytes at one.end others.end (write one.tree) (behind_first write others.tree) one.written others.written;
        behind = others.behind;
        is = (one.is, others.is);
      }
