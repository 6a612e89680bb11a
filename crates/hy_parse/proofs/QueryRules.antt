-- The rules of SELECT: what is read by each is what is written by it.
use Rattle.std.proofs.Common.{◌≡◌, ◌≤◌, Bool, true, false, List, [], ◌∷◌, ◌++◌, Option, Some, None, ◌⊎◌, inl, inr, refl, sym, ap, ◌∙◌, append_assoc}
use Rattle.std.specs.Prelude.{◌||◌, not}
use Rattle.std.specs.List.{flat_map, AllByRecursion}
use Rattle.std.proofs.lemmas.List.{append-nil}
use Rattle.hy_token.specs.declared.Keyword.TheVariants as keyword
use Rattle.hy_token.specs.declared.Sign.TheVariants.{LeftParen, RightParen, Comma, Semicolon, Star, Equal}
use Rattle.hy_token.specs.declared.Span.{Span}
use Rattle.hy_token.specs.declared.Token.{Token}
use Rattle.hy_token.specs.declared.Token.TheVariants as token
use Rattle.hy_ast.specs.declared.ColumnRef.{ColumnRef}
use Rattle.hy_ast.specs.declared.Join.{Join as JoinedTable}
use Rattle.hy_ast.specs.declared.Total.{Total}
use Rattle.hy_ast.specs.declared.Total.TheVariants as totals
use Rattle.hy_ast.specs.declared.Listed.{Listed}
use Rattle.hy_ast.specs.declared.Listed.TheVariants as listing
use Rattle.hy_ast.specs.Trees.{Test, Selection, Rows, Count, Groups}
use Rattle.hy_parse.specs.Grammar.{Mark, Any, name, column, condition, separated, HasItem, count, sum, listed, total, join, from, selection, IsGroupedSelection, selection_levels}
use Rattle.hy_parse.specs.Reading.{Read, Done, Stuck, ◌>>=◌, same, sign, word, span_of, links_at, sum_at, from_at, joined_at, joins_at, rows_at, count_at, groups_at, second_at, columns_at, selection_at}
use Rattle.hy_parse.specs.Reading as reading
use Rattle.hy_parse.proofs.Readers.{Reads, Always, nothing, Covers, HeadStops, head_of, then_read, then_last, widen, recast, finish}
use Rattle.hy_parse.proofs.Choices.{same_is, then_one, then_fixed, choice_reads}
use Rattle.hy_parse.proofs.Chains.{any_joins, list_reads, items_reads}
use Rattle.hy_parse.proofs.OperandRules.{by_parts, dot, name_reads, column_reads, column_head}
use Rattle.hy_parse.proofs.ConditionRules.{either_stops, head_append, head_is, ConditionFits, goes_where, condition_reads}
use Rattle.hy_limits.specs.declared.TheConstants.{MOST_LEVELS}

-- any token but the `;`
abbrev pub but_end : Token → Bool
but_end t = not (same (sign Semicolon) t)

not_false : (b : Bool) → not b ≡ false → b ≡ true
not_false true e = refl
not_false false e = absurd cc

-- what does not go on with the `;` is stopped by it
pub before_end : (goes_on : Token → Bool) → goes_on (sign Semicolon) ≡ false → Covers but_end goes_on
before_end goes_on stops t e = ap goes_on (sym (same_is (sign Semicolon) t (not_false _ e))) ∙ stops

pub always : {X : Type 0} (xs : List X) → AllByRecursion Always xs
always [] = tt
always (x ∷ xs) = (tt, always xs)

-- ---- parts

sum_reads : Reads sum_at sum (λ c. c) Always nothing
unfolding sum_at
sum_reads =
    recast sum (λ c. c) Always
    (then_fixed (word keyword.Sum ∷ sign LeftParen ∷ []) _ (then_read _ column_reads (λ c fits. then_fixed (sign RightParen ∷ []) _ (finish c)) (λ c u f g. refl)))
    (λ f fits. (f.0, tt, refl, refl)) (λ c fits. ((c, tt), (tt, tt), refl, refl))

pub from_reads : Reads from_at from (λ s. s) Always nothing
unfolding from_at
from_reads = then_fixed (word keyword.From ∷ []) _ name_reads

-- what follows JOIN
abbrev joined : JoinedTable → List Mark
joined j = name j.table ∷ Any (word keyword.On) ∷ column j.left ++ Any (sign Equal) ∷ column j.right

joined_reads : Reads joined_at joined (λ j. j) Always dot
unfolding joined_at
joined_reads =
    recast joined (λ j. j) Always
    (then_one _ name_reads (λ table fits. then_fixed (word keyword.On ∷ []) _ (then_read _ column_reads (λ left fits'. then_fixed (sign Equal ∷ []) _ (then_last column_reads (λ right. record { table = table; left = left; right = right }))) (λ left right f g. refl))))
    (λ f fits. (record { table = f.0; left = f.1.0; right = f.1.1 }, tt, refl, refl)) (λ j fits. ((j.table, (j.left, j.right)), (tt, (tt, tt)), refl, refl))

abbrev goes_join : Token → Bool
goes_join t = same (word keyword.Join) t || dot t

joins_reads : Reads joins_at (flat_map join) (λ joins. joins) (AllByRecursion Always) goes_join
joins_reads =
    list_reads (span_of (word keyword.Join)) (λ joins at join. joins ++ join ∷ []) (λ (u : Unit {0}). Any (word keyword.Join)) (λ joins u join. joins ++ join ∷ []) (same (word keyword.Join)) (any_joins (word keyword.Join) (λ (joins : List JoinedTable) (join : JoinedTable). joins ++ join ∷ []))
    joined_at joined (λ j. j) Always dot goes_join joined_reads (λ t e. (either_stops _ _ e).1) (λ t e. (either_stops _ _ e).0) (λ u. refl)
    (λ uj. uj.1) (λ j. (tt, j)) (λ joins uj. refl) (λ j. refl) join Always (λ uj. refl) (λ uj fits. tt) (λ j fits. tt) []

-- ---- what follows the items

abbrev Tail : Type 0
Tail = Span × (List JoinedTable × Option Test)

abbrev tail : Tail → List Mark
tail f = from f.0 ++ (flat_map join f.1.0 ++ condition f.1.1)

abbrev TailFits : Tail → Type 0
TailFits f = Unit {0} × (AllByRecursion Always f.1.0 × ConditionFits f.1.1)

pub whole_condition : Reads reading.condition_at condition (λ t. t) ConditionFits but_end
whole_condition = widen but_end (before_end goes_where refl) condition_reads

no_join : (t : Option Test) → HeadStops goes_join but_end (condition t)
no_join None = before_end goes_join refl
no_join (Some t) = refl

rows_reads : (items : Listed) → Reads (rows_at items) tail (λ f. Rows items f.0 f.1.0 f.1.1) TailFits but_end
unfolding rows_at
rows_reads items = then_one _ from_reads (λ table fits. then_read _ joins_reads (λ joins fits'. then_last whole_condition (λ t. Rows items table joins t)) (λ joins t f g. no_join t))

count_reads : Reads count_at (λ (f : Span × Option Test). count ++ (from f.0 ++ condition f.1)) (λ f. Count f.0 f.1) (λ f. Unit {0} × ConditionFits f.1) but_end
unfolding count_at
count_reads = then_fixed reading.count _ (then_one _ from_reads (λ table fits. then_last whole_condition (λ t. Count table t)))

abbrev Group : Type 0
Group = Span × (Option Test × ColumnRef)

abbrev group : Group → List Mark
group f = from f.0 ++ (condition f.1.0 ++ (Any (word keyword.Group) ∷ Any (word keyword.By) ∷ column f.1.1))

abbrev GroupFits : Group → Type 0
GroupFits f = Unit {0} × (ConditionFits f.1.0 × Unit {0})

groups_reads : (c : ColumnRef) (of : Total) → Reads (groups_at c of) group (λ f. Groups c of f.0 f.1.0 f.1.1) GroupFits but_end
unfolding groups_at
groups_reads c of =
    then_one _ from_reads (λ table fits. then_read _ condition_reads (λ t fits'. then_fixed (word keyword.Group ∷ word keyword.By ∷ []) _ (widen but_end (before_end dot refl) (then_last column_reads (λ key. Groups c of table t key)))) (λ t key f g. refl))

-- ---- items

abbrev goes_columns : Token → Bool
goes_columns t = same (sign Comma) t || dot t

abbrev Second : Type 0
Second = Group ⊎ ((ColumnRef × Group) ⊎ (List ColumnRef × Tail))

abbrev second : Second → List Mark
second (inl f) = count ++ group f
second (inr (inl f)) = sum f.0 ++ group f.1
second (inr (inr f)) = separated column f.0 ++ tail f.1

abbrev second_view : ColumnRef → Second → Selection
second_view c (inl f) = Groups c totals.Count f.0 f.1.0 f.1.1
second_view c (inr (inl f)) = Groups c (totals.Sum f.0) f.1.0 f.1.1.0 f.1.1.1
second_view c (inr (inr f)) = Rows (listing.Columns (c ∷ f.0)) f.1.0 f.1.1.0 f.1.1.1

abbrev SecondFits : Second → Type 0
SecondFits (inl f) = GroupFits f
SecondFits (inr (inl f)) = Unit {0} × GroupFits f.1
SecondFits (inr (inr f)) = (HasItem f.0 × AllByRecursion Always f.0) × TailFits f.1

columns_head : (cs : List ColumnRef) (ms : List Mark) → HasItem cs → head_of (separated column cs ++ ms) ≡ Some token.Name
columns_head [] ms some = absurd some
columns_head (c ∷ cs) ms some = head_append (separated column (c ∷ cs)) ms token.Name (head_append (column c) (flat_map (λ y. Any (sign Comma) ∷ column y) cs) token.Name (column_head c))

second_reads : (c : ColumnRef) → Reads (second_at c) second (second_view c) SecondFits but_end
unfolding second_at
second_reads c =
    recast second (second_view c) SecondFits
    (choice_reads (word keyword.Count) (then_fixed reading.count _ (groups_reads c totals.Count))
    (choice_reads (word keyword.Sum) (then_one _ sum_reads (λ s fits. groups_reads c (totals.Sum s)))
    (then_read _ (items_reads goes_columns (c ∷ []) column_reads (λ t e. (either_stops _ _ e).1) (λ t e. (either_stops _ _ e).0) refl) (λ cs fits. rows_reads (listing.Columns (c ∷ cs))) (λ cs f fits fits'. refl))
    (λ f fits. refl) (λ f fits. head_is (same (word keyword.Sum)) but_end _ token.Name (columns_head f.0 (tail f.1) fits.0.0) refl))
    (λ f fits. refl) (elim [ inl f ↦ λ fits. refl | inr f ↦ λ fits. head_is (same (word keyword.Count)) but_end _ token.Name (columns_head f.0 (tail f.1) fits.0.0) refl ]))
    (elim [ inl f ↦ λ fits. (inl f, fits, refl, refl) | inr (inl f) ↦ λ fits. (inr (inl f), fits, refl, refl) | inr (inr f) ↦ λ fits. (inr (inr f), fits, refl, refl) ])
    (elim [ inl f ↦ λ fits. (inl f, fits, refl, refl) | inr (inl f) ↦ λ fits. (inr (inl f), fits, refl, refl) | inr (inr f) ↦ λ fits. (inr (inr f), fits, refl, refl) ])

abbrev First : Type 0
First = ColumnRef × (Second ⊎ Tail)

abbrev first : First → List Mark
first (c, inl f) = column c ++ (Any (sign Comma) ∷ second f)
first (c, inr f) = column c ++ tail f

abbrev first_view : First → Selection
first_view (c, inl f) = second_view c f
first_view (c, inr f) = Rows (listing.Columns (c ∷ [])) f.0 f.1.0 f.1.1

abbrev FirstFits : First → Type 0
FirstFits (c, inl f) = SecondFits f
FirstFits (c, inr f) = TailFits f

columns_reads : Reads columns_at first first_view FirstFits but_end
unfolding columns_at
columns_reads =
    recast first first_view FirstFits
    (then_read _ column_reads (λ c fits. choice_reads (sign Comma) (then_fixed (sign Comma ∷ []) _ (second_reads c)) (rows_reads (listing.Columns (c ∷ []))) (λ f fits'. refl) (λ f fits'. refl)) (λ c. elim [ inl f ↦ λ fits fits'. refl | inr f ↦ λ fits fits'. refl ]))
    (by_parts _ (λ c. elim [ inl f ↦ λ fits. ((c, inl f), fits.1, refl, refl) | inr f ↦ λ fits. ((c, inr f), fits.1, refl, refl) ]))
    (by_parts _ (λ c. elim [ inl f ↦ λ fits. ((c, inl f), (tt, fits), refl, refl) | inr f ↦ λ fits. ((c, inr f), (tt, fits), refl, refl) ]))

-- ---- SELECT

pub record SelectionFits (s : Selection) : Type 0 where
  pub grouped : IsGroupedSelection s
  pub within : selection_levels s ≤ MOST_LEVELS

rows_written : (items : List Mark) (f : Tail) → items ++ tail f ≡ ((items ++ from f.0) ++ flat_map join f.1.0) ++ condition f.1.1
rows_written items f = simp append_assoc

columns_written : (c : ColumnRef) (cs : List ColumnRef) (f : Tail) → HasItem cs → column c ++ (Any (sign Comma) ∷ (separated column cs ++ tail f)) ≡ selection (Rows (listing.Columns (c ∷ cs)) f.0 f.1.0 f.1.1)
columns_written c [] f some = absurd some
columns_written c (d ∷ ds) f some = sym (append_assoc (column c) (Any (sign Comma) ∷ separated column (d ∷ ds)) (tail f)) ∙ rows_written (separated column (c ∷ d ∷ ds)) f

column_written : (c : ColumnRef) (f : Tail) → column c ++ tail f ≡ selection (Rows (listing.Columns (c ∷ [])) f.0 f.1.0 f.1.1)
column_written c f = ap (λ (ms : List Mark). ms ++ tail f) (sym (append-nil (column c))) ∙ rows_written (separated column (c ∷ [])) f

groups_written : (c : ColumnRef) (of : Total) (f : Group) → column c ++ (Any (sign Comma) ∷ (total of ++ group f)) ≡ selection (Groups c of f.0 f.1.0 f.1.1)
groups_written c of f =
    regroup (column c) (Any (sign Comma) ∷ total of) (from f.0) (condition f.1.0) (Any (word keyword.Group) ∷ Any (word keyword.By) ∷ column f.1.1)
  where
    regroup : (a b d e g : List Mark) → a ++ (b ++ (d ++ (e ++ g))) ≡ (((a ++ b) ++ d) ++ e) ++ g
    regroup a b d e g = simp append_assoc

-- a column that comes first begins with a name
first_head : (f : First) → head_of (first f) ≡ Some token.Name
first_head (c, inl f) = head_append (column c) (Any (sign Comma) ∷ second f) token.Name (column_head c)
first_head (c, inr f) = head_append (column c) (tail f) token.Name (column_head c)

no_first : (t : Token) → same t token.Name ≡ false → (f : First) → HeadStops (same t) but_end (first f)
no_first t differs f = head_is (same t) but_end (first f) token.Name (first_head f) differs

rows_became : (items : Listed) (f : Tail) (ms : List Mark) → TailFits f → IsGroupedSelection (Rows items f.0 f.1.0 f.1.1) → ms ≡ selection (Rows items f.0 f.1.0 f.1.1)
    → (s : Selection) × SelectionFits s × (Rows items f.0 f.1.0 f.1.1 ≡ s) × (ms ≡ selection s)
rows_became items f ms fits grouped is = (Rows items f.0 f.1.0 f.1.1, record { grouped = grouped; within = fits.1.1.within }, refl, is)

groups_became : (c : ColumnRef) (of : Total) (f : Group) (ms : List Mark) → GroupFits f → ms ≡ column c ++ (Any (sign Comma) ∷ (total of ++ group f))
    → (s : Selection) × SelectionFits s × (Groups c of f.0 f.1.0 f.1.1 ≡ s) × (ms ≡ selection s)
groups_became c of f ms fits is = (Groups c of f.0 f.1.0 f.1.1, record { grouped = fits.1.0.grouped; within = fits.1.0.within }, refl, is ∙ groups_written c of f)

first_became : (f : First) → FirstFits f → (s : Selection) × SelectionFits s × (first_view f ≡ s) × (first f ≡ selection s)
first_became (c, inl (inl f)) fits = groups_became c totals.Count f _ fits refl
first_became (c, inl (inr (inl f))) fits = groups_became c (totals.Sum f.0) f.1 _ fits.1 refl
first_became (c, inl (inr (inr f))) fits = rows_became (listing.Columns (c ∷ f.0)) f.1 _ fits.1 (tt, fits.1.1.1.grouped) (columns_written c f.0 f.1 fits.0.0)
first_became (c, inr f) fits = rows_became (listing.Columns (c ∷ [])) f _ fits (tt, fits.1.1.grouped) (column_written c f)

tail_fits : (s : Span) (joins : List JoinedTable) (t : Option Test) → ConditionFits t → TailFits (s, (joins, t))
tail_fits s joins t fits = (tt, (always joins, fits))

pub selection_reads : Reads selection_at selection (λ s. s) SelectionFits but_end
unfolding selection_at
selection_reads =
    recast selection (λ s. s) SelectionFits
    (choice_reads (sign Star) (then_fixed (sign Star ∷ []) _ (rows_reads listing.All))
    (choice_reads (word keyword.Sum) (then_one _ sum_reads (λ c fits. rows_reads (listing.Sum c)))
    (choice_reads (word keyword.Count) count_reads columns_reads (λ f fits. refl) (λ f fits. no_first (word keyword.Count) refl f))
    (λ f fits. refl) (elim [ inl f ↦ λ fits. refl | inr f ↦ λ fits. no_first (word keyword.Sum) refl f ]))
    (λ f fits. refl) (elim [ inl f ↦ λ fits. refl | inr (inl f) ↦ λ fits. refl | inr (inr f) ↦ λ fits. no_first (sign Star) refl f ]))
    (elim [
      | inl f ↦ λ fits. rows_became listing.All f _ fits (tt, fits.1.1.grouped) (rows_written (listed listing.All) f)
      | inr (inl f) ↦ λ fits. rows_became (listing.Sum f.0) f.1 _ fits.1 (tt, fits.1.1.1.grouped) (rows_written (sum f.0) f.1)
      | inr (inr (inl f)) ↦ λ fits. (Count f.0 f.1, record { grouped = fits.1.grouped; within = fits.1.within }, refl, refl)
      | inr (inr (inr f)) ↦ λ fits. first_became f fits
    ])
    (elim [
      | Rows listing.All table joins t ↦ λ fits. (inl (table, (joins, t)), tail_fits table joins t (record { grouped = fits.grouped.1; within = fits.within }), refl, rows_written (listed listing.All) (table, (joins, t)))
      | Rows (listing.Sum c) table joins t ↦ λ fits. (inr (inl (c, (table, (joins, t)))), (tt, tail_fits table joins t (record { grouped = fits.grouped.1; within = fits.within })), refl, rows_written (sum c) (table, (joins, t)))
      | Rows (listing.Columns []) table joins t ↦ λ fits. absurd fits.grouped.0
      | Rows (listing.Columns (c ∷ [])) table joins t ↦ λ fits. (inr (inr (inr (c, inr (table, (joins, t))))), tail_fits table joins t (record { grouped = fits.grouped.1; within = fits.within }), refl, column_written c (table, (joins, t)))
      | Rows (listing.Columns (c ∷ d ∷ ds)) table joins t ↦ λ fits. (inr (inr (inr (c, inl (inr (inr (d ∷ ds, (table, (joins, t)))))))), ((tt, always (d ∷ ds)), tail_fits table joins t (record { grouped = fits.grouped.1; within = fits.within })), refl, columns_written c (d ∷ ds) (table, (joins, t)) tt)
      | Count table t ↦ λ fits. (inr (inr (inl (table, t))), (tt, record { grouped = fits.grouped; within = fits.within }), refl, refl)
      | Groups c totals.Count table t key ↦ λ fits. (inr (inr (inr (c, inl (inl (table, (t, key)))))), (tt, (record { grouped = fits.grouped; within = fits.within }, tt)), refl, groups_written c totals.Count (table, (t, key)))
      | Groups c (totals.Sum s) table t key ↦ λ fits. (inr (inr (inr (c, inl (inr (inl (s, (table, (t, key)))))))), (tt, (tt, (record { grouped = fits.grouped; within = fits.within }, tt))), refl, groups_written c (totals.Sum s) (table, (t, key)))
    ])
