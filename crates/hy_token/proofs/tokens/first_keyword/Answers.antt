use Rattle.std.proofs.Common.{◌≡◌, ◌≤◌, length, take, ap, sym, ◌∙◌, arith}
use Rattle.std.proofs.lemmas.Grind.{common_steps}
use Rattle.std.proofs.lemmas.List.Sums.{prefix_len-le-length}
use Rattle.hy_token.specs.Keyword.{keyword_of}
use Rattle.hy_token.specs.Lengths.{continues_word, word_len}
use Rattle.hy_token.proofs.Letters.{len_is, of_letters}
use Rattle.hy_token.proofs.tokens.first_keyword.Goals as goal

-- the word ends within what is left of the script
pub slice_bounds-from_word-end : goal.slice_bounds-from_word-end
slice_bounds-from_word-end c =
    let bytes = c.args.bytes.now in
    let len : c.word_with_letters-len.result.0 ≡ word_len bytes = ap (λ word. word.0) c.word_with_letters-len.ensures ∙ len_is bytes in
    let within : word_len bytes ≤ length bytes = prefix_len-le-length continues_word bytes in
    grind (arith, common_steps, len, within)

pub returns-then-len-gt-MOST_LETTERS : goal.returns-then-len-gt-MOST_LETTERS
returns-then-len-gt-MOST_LETTERS c =
    let bytes = c.args.bytes.now in
    let len : c.word_with_letters-len.result.0 ≡ word_len bytes = ap (λ word. word.0) c.word_with_letters-len.ensures ∙ len_is bytes in
    record { len = len; keyword = c.from_word.ensures ∙ ap (λ n. keyword_of (take n bytes)) len }

pub returns-else-len-gt-MOST_LETTERS : goal.returns-else-len-gt-MOST_LETTERS
returns-else-len-gt-MOST_LETTERS c =
    let bytes = c.args.bytes.now in
    let word = c.word_with_letters-len.result in
    let is = sym c.word_with_letters-len.ensures in
    record {
      len = ap (λ word. word.0) c.word_with_letters-len.ensures ∙ len_is bytes;
      keyword = c.reserved.ensures ∙ of_letters bytes word.0 word.1 (omega (arith, c.if-len-gt-MOST_LETTERS.false)) is;
    }
