-- What the printer's steps append.
use Rattle.std.specs.Prelude.{◌≡◌, ℕ, Bool, true, false, List, [], ◌∷◌, ◌++◌}
use Rattle.text_laws.specs.Canonical.{starred, behind_stars}

-- the sign of a term, by a test of the sign
abbrev pub sign_bytes : Bool → Bool → List ℕ
sign_bytes is_first true = 45 ∷ []
sign_bytes true false = []
sign_bytes false false = 43 ∷ []

-- joined by *, and behind a * where something stands before
abbrev pub joined : Bool → List (List ℕ) → List ℕ
joined true xs = behind_stars xs
joined false xs = starred xs

-- something, or nothing, was appended
pub record Extends (old new : List ℕ) : Type 0 where
  pub more : List ℕ
  pub is : new ≡ old ++ more
