-- The answers that a line's text alone gives, and lines with a session's name in front.
use Rattle.std.specs.Prelude.{ℕ, Bool, ◌==◌, nat_lt, List, [], ◌∷◌, ◌++◌, Some, None, codes, if◌then◌else◌}
use Rattle.std.specs.Fmt.{decimal}
use Rattle.hy_script.specs.Codes.{number}
use Rattle.hy_serving.specs.declared.Cause.{Cause}
use Rattle.hy_serving.specs.declared.Cause.TheVariants.{Script, IsOpen, NoneOpen}
use Rattle.hy_serving.specs.declared.Saying.{Saying}
use Rattle.hy_serving.specs.declared.Saying.TheVariants.{Defines, Refused}

-- the number that stands behind the E
abbrev pub cause_number : Cause → ℕ
cause_number (Script code) = number code
cause_number NoneOpen = 19
cause_number IsOpen = 20

-- a number of at least two digits; 48 is the digit 0
abbrev pub two_digits : ℕ → List ℕ
two_digits n = if nat_lt n 10 then 48 ∷ decimal n else decimal n

abbrev pub refusal : Cause → List ℕ
refusal cause = codes "refused E" ++ two_digits (cause_number cause) ++ 10 ∷ []

-- what stands in front of each line that a session is told
abbrev pub prefix : List ℕ → List ℕ
prefix name = name ++ codes ": "

-- the answer to a line that its text alone gives; the others have none, or one that the engine gives
abbrev pub own_answer : Saying → List ℕ
own_answer Defines = codes "ok\n"
own_answer (Refused None cause) = refusal cause
own_answer (Refused (Some name) cause) = prefix name ++ refusal cause
own_answer _ = []

-- this, where a line begins
abbrev pub front_of : List ℕ → Bool → List ℕ
front_of front begins = if begins then front else []

-- a text with this in front of each of its lines, the first one too where it begins there
abbrev pub fronted : List ℕ → Bool → List ℕ → List ℕ
fronted front begins [] = []
fronted front begins (byte ∷ rest) = front_of front begins ++ byte ∷ fronted front (byte == 10) rest
