-- What the words of a script say. A script is its bytes.
use Rattle.std.specs.Prelude.{ℕ, suc, zero, ◌+◌, ◌-◌, ◌*◌, ℤ, pos, negsuc, Bool, is_some, is_none, List, [], ◌∷◌, Option, Some, None, length, nat_le, nat_lt, ◌==◌, drop, slice_range, if◌then◌else◌}
use Rattle.hy_token.specs.declared.Span.{Span}
use Rattle.hy_value.specs.TextBytes.{text_of}
use Rattle.hy_value.specs.declared.Kind.{Kind}
use Rattle.hy_value.specs.declared.Kind.TheVariants as kinds
use Rattle.hy_value.specs.declared.Value.{Value}
use Rattle.hy_value.specs.declared.Value.TheVariants as values
use Rattle.hy_ast.specs.declared.Literal.{Literal}
use Rattle.hy_ast.specs.declared.Literal.TheVariants.{Null, Integer, Text}
use Rattle.hy_bind.specs.declared.refusals.BindFault.{BindFault}
use Rattle.hy_bind.specs.declared.refusals.BindFault.TheVariants as fault
use Rattle.hy_bind.specs.Refusals.{fault_if}

-- what a script has in a span
abbrev pub text_of_span : List ℕ → Span → List ℕ
text_of_span script span = slice_range script span.start span.end

-- the number of these digits after others, whose number is n; 48 is the digit 0
abbrev pub number_after : ℕ → List ℕ → ℕ
number_after n [] = n
number_after n (digit ∷ digits) = number_after (10 * n + (digit - 48)) digits

-- the number that digits write, zeros in front or not
abbrev pub number_of : List ℕ → ℕ
number_of digits = number_after 0 digits

-- what follows the quote that opens a text, up to the one that closes it; 39 is the quote, and two of them
-- stand for one
abbrev pub unquoted_rest : List ℕ → List ℕ
unquoted_rest [] = []
unquoted_rest (b ∷ []) = if b == 39 then [] else b ∷ []
unquoted_rest (b ∷ c ∷ bs) =
    if b == 39 then (if c == 39 then 39 ∷ unquoted_rest bs else [])
    else b ∷ unquoted_rest (c ∷ bs)

-- what a text says, without its quotes
abbrev pub unquoted : List ℕ → List ℕ
unquoted text = unquoted_rest (drop 1 text)

-- a number with its sign
abbrev pub signed : Bool → ℕ → ℤ
signed minus zero = pos 0
signed minus (suc n) = if minus then negsuc n else pos (suc n)

-- whether a number with its sign lies within 64 bits
abbrev pub fits : Bool → ℕ → Bool
fits minus n = if minus then nat_le n 9223372036854775808 else nat_le n 9223372036854775807

-- a number with its sign, if it lies within 64 bits
abbrev pub integer_of : Bool → ℕ → Option ℤ
integer_of minus n = if fits minus n then Some (signed minus n) else None

-- a number that may lie within 64 bits with a sign: one up to 2^63
abbrev pub in_reach : ℕ → Option ℕ
in_reach n = if nat_le n 9223372036854775808 then Some n else None

-- the type of a literal; NULL is of both types
abbrev pub literal_kind : Literal → Option Kind
literal_kind (Null span) = None
literal_kind (Integer minus digits) = Some kinds.Int
literal_kind (Text span) = Some kinds.Str

-- why a literal is refused: its text has over 255 bytes, or its number is outside 64 bits
abbrev pub literal_fault : List ℕ → Literal → Option BindFault
literal_fault script (Null span) = None
literal_fault script (Integer minus digits) = fault_if (is_none (integer_of (is_some minus) (number_of (text_of_span script digits)))) fault.TooBig
literal_fault script (Text span) = fault_if (nat_lt 255 (length (unquoted (text_of_span script span)))) fault.Limit

-- the value of an integer; of one that is refused it doesn't matter
abbrev pub integer_value : Option ℤ → Value
integer_value None = values.Null
integer_value (Some n) = values.Int n

-- the value of a literal; of a text that is refused it doesn't matter
abbrev pub literal_value : List ℕ → Literal → Value
literal_value script (Null span) = values.Null
literal_value script (Integer minus digits) = integer_value (integer_of (is_some minus) (number_of (text_of_span script digits)))
literal_value script (Text span) = values.Text (text_of (unquoted (text_of_span script span)))
