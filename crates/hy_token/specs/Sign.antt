-- The signs.
use Rattle.std.specs.Prelude.{ℕ, Option, List, [], ◌∷◌, codes, find, nat_eq}
use Rattle.std.specs.List.{starts_with}
use Rattle.hy_token.specs.declared.Sign.{Sign}
use Rattle.hy_token.specs.declared.Sign.TheVariants.{LeftParen, RightParen, Comma, Semicolon, Dot, Star, Plus, Minus, Bang, Equal, NotEqual, Less, LessEqual, Greater, GreaterEqual}

-- how a sign is written
abbrev pub sign_spelling : Sign → List ℕ
sign_spelling LeftParen = codes "("
sign_spelling RightParen = codes ")"
sign_spelling Comma = codes ","
sign_spelling Semicolon = codes ";"
sign_spelling Dot = codes "."
sign_spelling Star = codes "*"
sign_spelling Plus = codes "+"
sign_spelling Minus = codes "-"
sign_spelling Bang = codes "!"
sign_spelling Equal = codes "="
sign_spelling NotEqual = codes "<>"
sign_spelling Less = codes "<"
sign_spelling LessEqual = codes "<="
sign_spelling Greater = codes ">"
sign_spelling GreaterEqual = codes ">="

-- every sign, those of two bytes before those of one
abbrev pub signs : List Sign
signs = NotEqual ∷ LessEqual ∷ GreaterEqual ∷ LeftParen ∷ RightParen ∷ Comma ∷ Semicolon ∷ Dot ∷ Star ∷ Plus ∷ Minus ∷ Bang ∷ Equal ∷ Less ∷ Greater ∷ []

-- the longest sign that stands first
unfoldable pub sign_of : List ℕ → Option Sign
sign_of bytes = find (λ sign. starts_with nat_eq bytes (sign_spelling sign)) signs
