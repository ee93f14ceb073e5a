-- The summary of a demo, field by field.
use Rattle.std.proofs.Common.{◌≡◌, ◌==◌, ℕ, List, [], ◌∷◌, ◌++◌, codes, count_by, length, sum, Option, Some, refl, sym, ap, subst, ◌∙◌, arith, append-nil, append_assoc}
use Rattle.std.specs.Fmt.{decimal}
use Rattle.calc_session.specs.Answers.{text}
use Rattle.calc_session.specs.Session.{answers}
use Rattle.calc_session.specs.Demo.{demo_input, summary}
use Rattle.sdmp_top.specs.Outside.{Appends, AppendsPart}
use Rattle.sdmp_top.specs.Written.{AppendsPieces, demo_text}

regrouped : (o a b c d e f g h i j k : List ℕ)
    → o ++ a ++ b ++ c ++ d ++ e ++ f ++ g ++ h ++ i ++ j ++ k ≡ o ++ (a ++ b ++ c ++ d ++ e ++ f ++ g ++ h ++ i ++ j ++ k)
regrouped o a b c d e f g h i j k = simp append_assoc

glued : (o a b c d e f g h i j k o₁ o₂ o₃ o₄ o₅ now : List ℕ)
    → o₁ ≡ o ++ a ++ b → o₂ ≡ o₁ ++ c ++ d → o₃ ≡ o₂ ++ e ++ f → o₄ ≡ o₃ ++ g ++ h → o₅ ≡ o₄ ++ i ++ j → now ≡ o₅ ++ k
    → now ≡ o ++ (a ++ b ++ c ++ d ++ e ++ f ++ g ++ h ++ i ++ j ++ k)
glued o a b c d e f g h i j k o₁ o₂ o₃ o₄ o₅ now e₁ e₂ e₃ e₄ e₅ e₆ =
    e₆ ∙ ap (λ l. l ++ k) (e₅ ∙ ap (λ l. l ++ i ++ j) (e₄ ∙ ap (λ l. l ++ g ++ h) (e₃ ∙ ap (λ l. l ++ e ++ f) (e₂ ∙ ap (λ l. l ++ c ++ d) e₁))))
    ∙ regrouped o a b c d e f g h i j k

-- the summary, where these are its numbers
abbrev numbers : ℕ → ℕ → ℕ → ℕ → ℕ → List ℕ
numbers seed input lines bytes total = codes "seed " ++ decimal seed ++ codes "\ninput " ++ decimal input ++ codes " bytes\nanswers "
    ++ decimal lines ++ codes " lines " ++ decimal bytes ++ codes " bytes\nsum " ++ decimal total ++ 10 ∷ []

summary_is : (seed input : ℕ) (text : List ℕ) → summary seed input text ≡ numbers seed input (count_by (λ byte. byte == 10) text) (length text) (sum text)
unfolding summary
summary_is seed input text = refl

pub summed : (seed input lines bytes total : ℕ) (text o o₁ o₂ o₃ o₄ o₅ now : List ℕ)
    → lines ≡ count_by (λ byte. byte == 10) text → bytes ≡ length text → total ≡ sum text
    → o₁ ≡ o ++ codes "seed " ++ decimal seed → o₂ ≡ o₁ ++ codes "\ninput " ++ decimal input → o₃ ≡ o₂ ++ codes " bytes\nanswers " ++ decimal lines
    → o₄ ≡ o₃ ++ codes " lines " ++ decimal bytes → o₅ ≡ o₄ ++ codes " bytes\nsum " ++ decimal total → now ≡ o₅ ++ 10 ∷ []
    → now ≡ o ++ summary seed input text
summed seed input lines bytes total text o o₁ o₂ o₃ o₄ o₅ now l b t e₁ e₂ e₃ e₄ e₅ e₆ =
    glued o (codes "seed ") (decimal seed) (codes "\ninput ") (decimal input) (codes " bytes\nanswers ") (decimal lines) (codes " lines ") (decimal bytes)
    (codes " bytes\nsum ") (decimal total) (10 ∷ []) o₁ o₂ o₃ o₄ o₅ now e₁ e₂ e₃ e₄ e₅ e₆
    ∙ ap (λ s. o ++ s) ((λ i. numbers seed input (l i) (b i) (t i)) ∙ sym (summary_is seed input text))

demo_is : (seed : ℕ) → summary seed (length (demo_input seed)) (text (answers (demo_input seed))) ≡ demo_text seed
unfolding summary demo_text
demo_is seed = refl

pub demo_summed : (seed input : ℕ) (answered now : List ℕ) → input ≡ length (demo_input seed) → answered ≡ text (answers (demo_input seed))
    → now ≡ summary seed input answered → now ≡ demo_text seed
demo_summed seed input answered now n a e = e ∙ (λ i. summary seed (n i) (a i)) ∙ demo_is seed

-- what a sink that held nothing has gathered
pub gathered_all : (old now bytes : List ℕ) → Some old ≡ Some [] → Some now ≡ Some (old ++ bytes) → now ≡ bytes
gathered_all old now bytes e h =
    let none : old ≡ [] = cc in
    let all : now ≡ old ++ bytes = cc in
    all ∙ ap (λ l. l ++ bytes) none

-- a flush that fails leaves the whole text
pub whole_part : (old mid now : Option (List ℕ)) (bytes told : List ℕ) → Appends old mid bytes → now ≡ mid → bytes ≡ told → AppendsPart old now (told ++ [])
whole_part old mid now bytes told a kept same = record {
  part = told;
  rest = [];
  whole = refl;
  appends = subst (λ (m : Option (List ℕ)). Appends old m told) (sym kept) (subst (λ (l : List ℕ). Appends old mid l) same a);
}

-- and so all of its one piece
pub whole_piece : (old mid now : Option (List ℕ)) (bytes told : List ℕ) → Appends old mid bytes → now ≡ mid → bytes ≡ told → AppendsPieces old now (told ∷ [])
whole_piece old mid now bytes told a kept same = record {
  k = 1;
  within = omega arith;
  appends = subst (λ (m : Option (List ℕ)). Appends old m (told ++ [])) (sym kept) (subst (λ (l : List ℕ). Appends old mid l) (same ∙ sym (append-nil told)) a);
}
