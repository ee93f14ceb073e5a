use Rattle.std.proofs.Common.{◌≡◌, length, sym, ◌∙◌, arith}
use Rattle.poly_text.proofs.WordLemmas.{no_words}
use Rattle.poly_text.proofs.words.split_word.Goals as goal

pub returns-then-is_empty-clause-words : goal.returns-then-is_empty-clause-words
returns-then-is_empty-clause-words c =
    let none : length c.skip_spaces-rest.result.now ≡ 0 = grind arith in
    sym c.skip_spaces-rest.ensures.words ∙ no_words c.skip_spaces-rest.result.now none
