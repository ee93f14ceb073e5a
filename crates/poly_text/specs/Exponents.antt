-- Exponents added up at the variables, where u32::MAX stands for each number above it too.
use Rattle.std.specs.Prelude.{ℕ, ◌+◌, ◌-◌, ◌^◌, min, if◌then◌else◌, List, [], ◌∷◌}
use Rattle.text_laws.specs.Summands.{Written, same_name}

abbrev pub top : ℕ
top = 2 ^ 32 - 1

-- the exponent added at the first variable of that name
abbrev pub added : List (List ℕ) → List ℕ → ℕ → List ℕ → List ℕ
added [] name e xs = xs
added (n ∷ ns) name e [] = []
added (n ∷ ns) name e (x ∷ xs) = if same_name n name then min (x + e) top ∷ xs else x ∷ added ns name e xs

-- the written powers added
abbrev pub all_added : List (List ℕ) → List Written → List ℕ → List ℕ
all_added names [] xs = xs
all_added names (w ∷ ws) xs = all_added names ws (added names w.name (min w.exponent top) xs)
