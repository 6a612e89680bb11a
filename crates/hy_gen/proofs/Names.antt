-- The names of sessions are texts.
use Rattle.std.proofs.Common.{◌≡◌, ap, ◌∙◌, ℕ, ◌+◌, ◌^◌, ◌%◌, ◌/◌, ◌<◌, ◌≤◌, true, ◌&&◌, List, [], ◌∷◌, arith, length, lit<}
use Rattle.std.specs.Prelude.{nat_le}
use Rattle.std.specs.List.{list_all}
use Rattle.std.specs.Fmt.{decimal}
use Rattle.std.proofs.lemmas.Fmt.{decimal_by_steps, length-decimal-le}
use Rattle.std.proofs.lemmas.Bool.{le-leb}
use Rattle.std.proofs.lemmas.List.Folds.{list_all-append}
use Rattle.hy_value.specs.TextBytes.{is_text}
use Rattle.hy_gen.specs.Made.{session_name}

-- no digit is a control character
abbrev pub Printable : ℕ → List ℕ → Type 0
Printable number text = list_all (λ b. nat_le 32 b) text ≡ true

digit : (n : ℕ) → nat_le 32 (48 + n) ≡ true
digit n = le-leb 32 (48 + n) (omega arith)

pub printable : (n : ℕ) → n < 2 ^ 64 → Printable n (decimal n)
printable = decimal_by_steps Printable
    (λ (n : ℕ) (small : n < 10). ap (λ b. b && true) (digit n))
    (λ (n : ℕ) (ds : List ℕ) (large : 10 ≤ n) (so_far : Printable (n / 10) ds).
    list_all-append (λ b. nat_le 32 b) ds ((48 + n % 10) ∷ []) ∙ ap (λ b. b && (nat_le 32 (48 + n % 10) && true)) so_far ∙ ap (λ b. b && true) (digit (n % 10)))

pub is_text-name : (number : ℕ) → number < 2 ^ 32 → is_text (session_name number) ≡ true
is_text-name number small =
    let short : length (decimal number) ≤ 10 = length-decimal-le 10 number (lit< tt) (omega arith) (omega arith) in
    let fits : nat_le (length (session_name number)) 255 ≡ true = le-leb _ _ (omega arith) in
    ap (λ b. b && list_all (λ b. nat_le 32 b) (session_name number)) fits ∙ printable number (omega arith)
