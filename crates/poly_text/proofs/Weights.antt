-- Coefficients of a term, and what is held against their bound.
use Rattle.std.proofs.Common.{◌≡◌, ◌<◌, ◌≤◌, ℕ, Bool, true, false, cond, eqb, ℤ, pos, sym, ◌∙◌, ap, arith}
use Rattle.std.specs.Prelude.{neg_ℤ}
use Rattle.sdmp_laws.specs.Limits.{greatest_norm}
use Rattle.sdmp_laws.specs.Ring.{red}
use Rattle.sdmp_laws.proofs.Ints.{red_neg, red_red}
use Rattle.text_laws.specs.Summands.{signed}
use Rattle.poly_text.specs.ReadsTerms.{weight}

-- a size above the bound passes it in either case
pub size_over : (p sum size : ℕ) → size ≤ sum → greatest_norm < size → greatest_norm < weight p sum size
size_over p sum size h g = by (eqb p 0)
  where
    by : (b : Bool) → greatest_norm < cond b sum size
    by true = omega (arith, h, g)
    by false = g

-- the reduced negative
pub negative_is : (p size : ℕ) (a b : ℤ) (n : Bool) → n ≡ true → a ≡ red p (pos size) → b ≡ red p (neg_ℤ a) → b ≡ red p (signed n size)
negative_is p size a b n t e f = f ∙ ap (λ z. red p (neg_ℤ z)) e ∙ red_neg p (red p (pos size)) (pos size) (red_red p (pos size)) ∙ ap (λ m. red p (signed m size)) (sym t)

pub positive_is : (p size : ℕ) (a : ℤ) (n : Bool) → n ≡ false → a ≡ red p (pos size) → a ≡ red p (signed n size)
positive_is p size a n t e = e ∙ ap (λ m. red p (signed m size)) (sym t)
