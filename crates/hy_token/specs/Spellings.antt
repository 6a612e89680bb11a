-- Laws: each word and each sign is found by its spelling.
use Rattle.std.proofs.Common.{◌≡◌, Some, refl}
use Rattle.hy_token.specs.Keyword.{keyword_of, word_spelling}
use Rattle.hy_token.specs.Sign.{sign_of, sign_spelling}
use Rattle.hy_token.specs.declared.Keyword.{Keyword}
use Rattle.hy_token.specs.declared.Keyword.TheVariants as keyword
use Rattle.hy_token.specs.declared.Sign.{Sign}
use Rattle.hy_token.specs.declared.Sign.TheVariants as sign

pub word_found : (k : Keyword) → keyword_of (word_spelling k) ≡ Some k
unfolding keyword_of
word_found keyword.And = refl
word_found _ = refl

pub sign_found : (s : Sign) → sign_of (sign_spelling s) ≡ Some s
unfolding sign_of
sign_found sign.LeftParen = refl
sign_found _ = refl
