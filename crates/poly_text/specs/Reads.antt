-- What the reader's steps give, against the trees that stand there.
use Rattle.std.specs.Prelude.{◌≡◌, ℕ, ◌∷◌, true, false, min, List, drop, Some, None, Result, Ok, Err}
use Rattle.text_laws.specs.Grammar.{Power, Factor, Product}
use Rattle.text_laws.specs.Summands.{is_known, exponent_of, unknown_in, factors_at, size_of, product_at}
use Rattle.poly_text.specs.Tokens.{cap}
use Rattle.poly_text.specs.Exponents.{top, added, all_added}
use Rattle.poly_text.specs.declared.factors.UnknownName.{UnknownName}
use Rattle.poly_text.specs.declared.term.ProductRead.{ProductRead}

-- the power before the rest was added, or its name is unknown
abbrev pub AddsPower : List (List ℕ) → List ℕ → ℕ → Power → List ℕ → List ℕ → List ℕ → Result ℕ UnknownName → Type 0
AddsPower names bytes at p rest old new (Ok next) =
    (is_known names (p.name.first ∷ p.name.more) ≡ true) × (drop next bytes ≡ rest) × (new ≡ added names (p.name.first ∷ p.name.more) (min (exponent_of p.raised) top) old)
AddsPower names bytes at p rest old new (Err u) = (is_known names (p.name.first ∷ p.name.more) ≡ false) × (u.at ≡ at)

-- the factors before the rest were added, or the place of the first unknown name
abbrev pub AddsFactors : List (List ℕ) → List ℕ → ℕ → List Factor → List ℕ → List ℕ → List ℕ → Result ℕ UnknownName → Type 0
AddsFactors names bytes start fs rest old new (Ok next) = (unknown_in names (factors_at start fs) ≡ None) × (drop next bytes ≡ rest) × (new ≡ all_added names (factors_at start fs) old)
AddsFactors names bytes start fs rest old new (Err u) = unknown_in names (factors_at start fs) ≡ Some u.at

-- the term before the rest was read, or the place of its first unknown name
abbrev pub ReadsProduct : List (List ℕ) → List ℕ → ℕ → Product → List ℕ → List ℕ → List ℕ → Result ProductRead UnknownName → Type 0
ReadsProduct names bytes at t rest old new (Ok r) =
    (unknown_in names (product_at false at t).powers ≡ None) × (r.size ≡ min (size_of (product_at false at t).number) cap)
    × (drop r.next bytes ≡ rest) × (new ≡ all_added names (product_at false at t).powers old)
ReadsProduct names bytes at t rest old new (Err u) = unknown_in names (product_at false at t).powers ≡ Some u.at
