-- The values of a row are read as they were written.
use Rattle.std.specs.Prelude.{◌-◌, ◌*◌, ◌/◌, ◌%◌, ◌^◌, ◌==◌, is_none, is_some, nat_le, nat_lt, ℤ, pos, negsuc, Option}
use Rattle.std.specs.Fmt.{decimal}
use Rattle.std.specs.List.{flat_map, list_all, slice_range, AllByRecursion}
use Rattle.std.proofs.Common.{◌≡◌, ℕ, zero, suc, ◌+◌, ◌<◌, ◌≤◌, Bool, true, false, cond, List, [], ◌∷◌, ◌++◌, length, get_or, None, Some, refl, sym, ap, ◌∙◌, arith}
use Rattle.std.proofs.lemmas.Bool.{eqb-true}
use Rattle.std.proofs.lemmas.Fmt.{decimal_by_steps, decimal_is_IsNumeral}
use Rattle.std.proofs.lemmas.List.Elements.{recursion_from_All}
use Rattle.hy_token.specs.declared.Keyword.TheVariants as keyword
use Rattle.hy_token.specs.declared.Sign.TheVariants as sign
use Rattle.hy_token.specs.declared.Span.{Span}
use Rattle.hy_token.specs.declared.Token.TheVariants as token
use Rattle.hy_token.specs.Keyword.{word_spelling}
use Rattle.hy_value.specs.declared.Kind.{Kind}
use Rattle.hy_value.specs.declared.Kind.TheVariants as kinds
use Rattle.hy_value.specs.declared.Value.{Value}
use Rattle.hy_value.specs.declared.Value.TheVariants as values
use Rattle.hy_value.specs.Print.{doubled_quote, printed}
use Rattle.hy_value.specs.TextBytes.{IsText, text_of}
use Rattle.hy_ast.specs.declared.Literal.{Literal}
use Rattle.hy_ast.specs.declared.Literal.TheVariants as literals
use Rattle.hy_parse.specs.Grammar.{literal}
use Rattle.hy_parse.specs.Grammar as grammar
use Rattle.hy_bind.specs.Literals.{number_after, number_of, unquoted_rest, unquoted, integer_of, integer_value, literal_kind, literal_fault, literal_value}
use Rattle.hy_bind.specs.Refusals.{agree, fault_if}
use Rattle.hy_bind.specs.Statements.{is_null}
use Rattle.hy_bind.specs.declared.refusals.BindFault.TheVariants as fault
use Rattle.hy_dump.specs.Dump.{comma_before, values_text}
use Rattle.hy_dump.specs.Writable.{Has64Bits, IsOfKind}
use Rattle.hy_dump.proofs.Tokens.{none, stop_byte, IsFirst, stands, keyword_first, minus_first, digits_first, digit_other, text_first}
use Rattle.hy_dump.proofs.Writing.{written_both, at_written}
use Rattle.hy_dump.proofs.Lists.{listed, EachRead}

-- ---- what is printed says what it was

-- a digit more
number_more : (n : ℕ) (digits : List ℕ) (digit : ℕ) → number_after n (digits ++ digit ∷ []) ≡ 10 * number_after n digits + (digit - 48)
number_more n [] digit = refl
number_more n (first ∷ digits) digit = number_more (10 * n + (first - 48)) digits digit

pub number_printed : (n : ℕ) → n < 2 ^ 64 → number_of (decimal n) ≡ n
number_printed n small = decimal_by_steps (λ m digits. number_of digits ≡ m) one more n small
  where
    one : (m : ℕ) → m < 10 → number_of ((48 + m) ∷ []) ≡ m
    one m low = omega arith

    more : (m : ℕ) (digits : List ℕ) → 10 ≤ m → number_of digits ≡ m / 10 → number_of (digits ++ (48 + m % 10) ∷ []) ≡ m
    more m digits high before =
        let last : number_of (digits ++ (48 + m % 10) ∷ []) ≡ 10 * number_of digits + (48 + m % 10 - 48) = number_more 0 digits (48 + m % 10) in
        omega (arith, last, before)

-- a byte that is no quote
unquoted_kept : (b : ℕ) (bytes : List ℕ) → (b == 39) ≡ false → unquoted_rest (b ∷ bytes) ≡ b ∷ unquoted_rest bytes
unquoted_kept b [] other = rw other refl
unquoted_kept b (c ∷ bytes) other = rw other refl

text_printed : (text : List ℕ) → unquoted_rest (flat_map doubled_quote text ++ 39 ∷ []) ≡ text
text_printed [] = refl
text_printed (b ∷ text) = by_quote (b == 39) refl (text_printed text)
  where
    by_quote : (quote : Bool) → (b == 39) ≡ quote → unquoted_rest (flat_map doubled_quote text ++ 39 ∷ []) ≡ text
        → unquoted_rest ((cond quote (39 ∷ 39 ∷ []) (b ∷ []) ++ flat_map doubled_quote text) ++ 39 ∷ []) ≡ b ∷ text
    by_quote true is more =
        let same : b ≡ 39 = eqb-true b 39 is in
        ap (λ (rest : List ℕ). 39 ∷ rest) more ∙ ap (λ (first : ℕ). first ∷ text) (sym same)
    by_quote false is more = unquoted_kept b (flat_map doubled_quote text ++ 39 ∷ []) is ∙ ap (λ (rest : List ℕ). b ∷ rest) more

-- ---- literals

-- a literal of a tree says a value, and is not refused in a column that may have this one
pub record IsLiteral (bytes : List ℕ) (value : Value) (l : Literal) : Type 0 where
  pub is : literal_value bytes l ≡ value
  pub fine : literal_fault bytes l ≡ None
  pub agrees : (kind : Kind) → IsOfKind kind value → agree (literal_kind l) (Some kind) ≡ true
  pub null : is_null (Some l) ≡ true → value ≡ values.Null

-- a value that some column may have
abbrev pub IsAnyOf : Value → Type 0
IsAnyOf value = (kind : Kind) × IsOfKind kind value

int_agrees : (n : ℤ) (kind : Kind) → IsOfKind kind (values.Int n) → agree (Some kinds.Int) (Some kind) ≡ true
int_agrees n kinds.Int is = refl
int_agrees n kinds.Str is = absurd is

text_agrees : (text : List ℕ) (kind : Kind) → IsOfKind kind (values.Text text) → agree (Some kinds.Str) (Some kind) ≡ true
text_agrees text kinds.Int is = absurd is
text_agrees text kinds.Str is = refl

has_bits : (n : ℤ) (kind : Kind) → IsOfKind kind (values.Int n) → Has64Bits n
has_bits n kinds.Int is = is
has_bits n kinds.Str is = absurd is

is_text_of : (text : List ℕ) (kind : Kind) → IsOfKind kind (values.Text text) → IsText text
is_text_of text kinds.Int is = absurd is
is_text_of text kinds.Str is = is.0

positive : (n : ℕ) → n < 2 ^ 63 → integer_of false n ≡ Some (pos n)
positive zero small = refl
positive (suc n) small =
    let low : nat_le (suc n) 9223372036854775807 ≡ true = grind arith in
    rw low refl

negative : (n : ℕ) → n < 2 ^ 63 → integer_of true (suc n) ≡ Some (negsuc n)
negative n small =
    let low : nat_le (suc n) 9223372036854775808 ≡ true = grind arith in
    rw low refl

-- the digits that follow a minus sign begin with none
minus_before : (digits rest : List ℕ) → 0 < length digits → (45 == get_or digits 0 0) ≡ false → IsFirst (token.Sign sign.Minus) (45 ∷ []) (digits ++ rest)
minus_before [] rest some other = absurd (omega (arith, some))
minus_before (digit ∷ digits) rest some other = minus_first digit (digits ++ rest) other

-- a literal that is a number
number_literal : (bytes : List ℕ) (minus : Option Span) (digits : Span) (sign : Bool) (n : ℕ) (z : ℤ) → is_some minus ≡ sign
    → slice_range bytes digits.start digits.end ≡ decimal n → n < 2 ^ 64 → integer_of sign n ≡ Some z
    → IsLiteral bytes (values.Int z) (literals.Integer minus digits)
number_literal bytes minus digits sign n z has text small is =
    let said : integer_of (is_some minus) (number_of (slice_range bytes digits.start digits.end)) ≡ Some z =
    ap (λ (digits : List ℕ). integer_of (is_some minus) (number_of digits)) text
    ∙ (ap (integer_of (is_some minus)) (number_printed n small) ∙ (ap (λ (sign : Bool). integer_of sign n) has ∙ is)) in
    record {
      is = ap integer_value said;
      fine = ap (λ (found : Option ℤ). fault_if (is_none found) fault.TooBig) said;
      agrees = int_agrees z;
      null = λ no. absurd cc;
    }

test_passes : (bytes : List ℕ) → AllByRecursion (λ b. 32 ≤ b) bytes → list_all (λ b. nat_le 32 b) bytes ≡ true
test_passes [] all = refl
test_passes (b ∷ bytes) all = let high : nat_le 32 b ≡ true = grind (arith, all.0) in rw high (test_passes bytes all.1)

-- a text passes its test
pub text_stays : (text : List ℕ) → IsText text → text_of text ≡ text
text_stays text is =
    let short : nat_le (length text) 255 ≡ true = grind (arith, is.short) in
    let high : list_all (λ b. nat_le 32 b) text ≡ true = test_passes text (recursion_from_All (λ b. 32 ≤ b) text is.printable) in
    rw (short, high) refl

text_literal : (bytes text : List ℕ) (span : Span) → slice_range bytes span.start span.end ≡ (39 ∷ []) ++ flat_map doubled_quote text ++ 39 ∷ []
    → IsText text → IsLiteral bytes (values.Text text) (literals.Text span)
text_literal bytes text span written is =
    let said : unquoted (slice_range bytes span.start span.end) ≡ text = ap unquoted written ∙ text_printed text in
    let short : nat_lt 255 (length text) ≡ false = grind (arith, is.short) in
    record {
      is = ap (λ (text : List ℕ). values.Text (text_of text)) said ∙ ap values.Text (text_stays text is);
      fine = ap (λ (text : List ℕ). fault_if (nat_lt 255 (length text)) fault.Limit) said ∙ ap (λ (long : Bool). fault_if long fault.Limit) short;
      agrees = text_agrees text;
      null = λ no. absurd cc;
    }

-- ---- values

-- the text of the value of a number
abbrev pub value_item : ℕ → Value → List ℕ
value_item number value = printed value

pub value_reads : (bytes : List ℕ) → EachRead Value Literal literal value_item bytes IsAnyOf (λ number. IsLiteral bytes)
value_reads bytes number values.Null at gap stop rest may here =
    let last : List ℕ = stop_byte stop ∷ rest in
    let is = stands (token.Reserved keyword.Null) bytes at gap (word_spelling keyword.Null) last here (keyword_first keyword.Null rest stop) in
    record {
      tree = literals.Null is.span;
      end = is.span.end;
      written = at_written bytes at (token.Reserved keyword.Null) (word_spelling keyword.Null) last is tt;
      behind = is.behind;
      is = record { is = refl; fine = refl; agrees = λ kind of. refl; null = λ so. refl };
    }
value_reads bytes number (values.Int (pos n)) at gap stop rest may here =
    let last : List ℕ = stop_byte stop ∷ rest in
    let small : n < 2 ^ 63 = has_bits (pos n) may.0 may.1 in
    let numeral = decimal_is_IsNumeral n (omega arith) in
    let is = stands token.Integer bytes at gap (decimal n) last here (digits_first (decimal n) rest stop numeral.0.0 numeral.0.1) in
    record {
      tree = literals.Integer None is.span;
      end = is.span.end;
      written = at_written bytes at token.Integer (decimal n) last is tt;
      behind = is.behind;
      is = number_literal bytes None is.span false n (pos n) refl is.text (omega arith) (positive n small);
    }
value_reads bytes number (values.Int (negsuc n)) at gap stop rest may here =
    let last : List ℕ = stop_byte stop ∷ rest in
    let digits : List ℕ = decimal (suc n) in
    let small : n < 2 ^ 63 = has_bits (negsuc n) may.0 may.1 in
    let numeral = decimal_is_IsNumeral (suc n) (omega arith) in
    let minus = stands (token.Sign sign.Minus) bytes at gap (45 ∷ []) (digits ++ last) here
    (minus_before digits last numeral.0.0 (digit_other digits numeral.0.0 numeral.0.1)) in
    let is = stands token.Integer bytes minus.span.end none digits last minus.behind (digits_first digits rest stop numeral.0.0 numeral.0.1) in
    record {
      tree = literals.Integer (Some minus.span) is.span;
      end = is.span.end;
      written =
          written_both bytes at minus.span.end is.span.end (grammar.sign_at sign.Minus minus.span ∷ []) (grammar.At token.Integer is.span ∷ [])
          (at_written bytes at (token.Sign sign.Minus) (45 ∷ []) (digits ++ last) minus tt)
          (at_written bytes minus.span.end token.Integer digits last is tt);
      behind = is.behind;
      is = number_literal bytes (Some minus.span) is.span true (suc n) (negsuc n) refl is.text (omega arith) (negative n small);
    }
value_reads bytes number (values.Text text) at gap stop rest may here =
    let last : List ℕ = stop_byte stop ∷ rest in
    let quoted : List ℕ = (39 ∷ []) ++ flat_map doubled_quote text ++ 39 ∷ [] in
    let plain : IsText text = is_text_of text may.0 may.1 in
    let is = stands token.Text bytes at gap quoted last here (text_first text rest stop (recursion_from_All (λ b. 32 ≤ b) text plain.printable)) in
    record {
      tree = literals.Text is.span;
      end = is.span.end;
      written = at_written bytes at token.Text quoted last is tt;
      behind = is.behind;
      is = text_literal bytes text is.span is.text plain;
    }

-- values are items with commas between
pub values_listed : (number : ℕ) (row : List Value) → values_text number row ≡ listed value_item number row
values_listed number [] = refl
values_listed number (value ∷ row) = ap (λ (back : List ℕ). comma_before number ++ printed value ++ back) (values_listed (suc number) row)
