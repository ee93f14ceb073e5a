-- The decimal digits of short numbers.
use Rattle.std.proofs.Common.{◌≡◌, ◌<◌, ◌≤◌, ◌+◌, ◌/◌, ◌%◌, ℕ, [], ◌∷◌, ◌++◌, List, sym, ap, ◌∙◌, append_assoc, arith}
use Rattle.std.specs.Fmt.{decimal}
use Rattle.std.proofs.lemmas.Fmt.{decimal_digit, decimal_step}

-- a digit alone
pub one_digit : (old new : List ℕ) (n : ℕ) → n < 10 → new ≡ old ++ (48 + n) ∷ [] → new ≡ old ++ decimal n
one_digit old new n h e = e ∙ ap (λ l. old ++ l) (sym (decimal_digit n h))

-- a digit behind others
pub one_more : (old first new : List ℕ) (n : ℕ) → 10 ≤ n → n < 1000 → first ≡ old ++ decimal (n / 10) → new ≡ first ++ (48 + n % 10) ∷ [] → new ≡ old ++ decimal n
one_more old first new n low high e f =
    f ∙ ap (λ l. l ++ (48 + n % 10) ∷ []) e ∙ append_assoc old (decimal (n / 10)) ((48 + n % 10) ∷ [])
    ∙ ap (λ l. old ++ l) (sym (decimal_step n low (omega (arith, high))))

pub ruleset short_numbers = (one_digit, one_more)
