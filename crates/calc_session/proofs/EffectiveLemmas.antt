-- Lemmas on the lines that count.
use Rattle.std.proofs.Common.{◌≡◌, ◌+◌, ℕ, Bool, true, false, cond, List, [], ◌∷◌, length, map, refl, ap, ◌∙◌}
use Rattle.std.proofs.lemmas.List.{nil_from_length}
use Rattle.poly_text.specs.Words.{words_of}
use Rattle.calc_session.specs.Lines.{cut_lines, without_return, lines, is_skipped, effective}
use Rattle.calc_session.proofs.LineLemmas.{cut_lines-nil}

pub effective_none : (number : ℕ) → effective number [] ≡ (number, [])
unfolding effective
effective_none number = refl

pub effective_later : (number : ℕ) (line : List ℕ) (later : List (List ℕ)) → is_skipped (words_of line) ≡ true
    → effective number (line ∷ later) ≡ effective (number + 1) later
unfolding effective
effective_later number line later e = ap (λ (b : Bool). cond b (effective (number + 1) later) (number, line ∷ later)) e

pub effective_here : (number : ℕ) (line : List ℕ) (later : List (List ℕ)) → is_skipped (words_of line) ≡ false
    → effective number (line ∷ later) ≡ (number, line ∷ later)
unfolding effective
effective_here number line later e = ap (λ (b : Bool). cond b (effective (number + 1) later) (number, line ∷ later)) e

pub no_lines : (bytes : List ℕ) → length bytes ≡ 0 → lines bytes ≡ []
no_lines bytes none = ap (map without_return) (ap cut_lines (nil_from_length bytes none) ∙ cut_lines-nil)
