-- What reading the terms of a text gives, against its tree.
use Rattle.std.specs.Prelude.{◌≡◌, ◌≤◌, ◌<◌, ◌+◌, ℕ, Bool, false, min, eqb, if◌then◌else◌, List, [], ◌∷◌, map, drop, MatchOption, Option, Some, None, Result, Ok, Err, ℤ}
use Rattle.sdmp_laws.specs.Limits.{greatest_norm}
use Rattle.sdmp_laws.specs.Poly.{Term}
use Rattle.sdmp_laws.specs.Ring.{red}
use Rattle.canonical_terms.specs.declared.term.TermOf.{TermOf}
use Rattle.text_laws.specs.Bytes.{class_of}
use Rattle.text_laws.specs.Grammar.{Tree}
use Rattle.text_laws.specs.Reading.{is_sign}
use Rattle.text_laws.specs.Summands.{Summand, unknown_in, written_degree, size_of, vector_of, signed, summands, written_terms, verdict}
use Rattle.text_laws.specs.declared.TextFault.{TextFault}
use Rattle.text_laws.specs.declared.TextFault.TheVariants.{DegreeBound, CoefficientBound, NoMemory}
use Rattle.poly_text.specs.Tokens.{cap}
use Rattle.poly_text.specs.declared.factors.UnknownName.{UnknownName}
use Rattle.poly_text.specs.declared.terms.TermRead.{TermRead}

-- what is held against the bound: over the integers the sum of the sizes, and else the size
abbrev pub weight : ℕ → ℕ → ℕ → ℕ
weight p sum size = if eqb p 0 then sum else size

-- a minus is next
abbrev pub minus_front : List ℕ → Bool
minus_front [] = false
minus_front (b ∷ bs) = if is_sign (class_of b) then eqb b 45 else false

-- the term s before the rest was read, where the sizes of the terms before it add up to total
pub record IsTermRead {M E : Type 0} (vector : M → List ℕ) (value : E → ℤ) (names : List (List ℕ)) (p lim : ℕ) (bytes : List ℕ) (s : Summand) (rest : List ℕ) (total : ℕ) (r : TermRead M E) : Type 0 where
  pub known : unknown_in names s.powers ≡ None
  pub mono : MatchOption r.mono (lim < written_degree s.powers) (λ m. (written_degree s.powers ≤ lim) × (vector m ≡ vector_of names s.powers))
  pub coef : MatchOption r.coef (greatest_norm < weight p (total + size_of s.number) (size_of s.number)) (λ a. (weight p (total + size_of s.number) (size_of s.number) ≤ greatest_norm) × (value a ≡ red p (signed s.negative (size_of s.number))))
  pub sum : r.sum ≡ min (total + size_of s.number) cap
  pub next : drop r.next bytes ≡ rest

abbrev pub ReadsTerm : {M E : Type 0} → (M → List ℕ) → (E → ℤ) → List (List ℕ) → ℕ → ℕ → List ℕ → Summand → List ℕ → ℕ → Result (TermRead M E) UnknownName → Type 0
ReadsTerm vector value names p lim bytes s rest total (Ok r) = IsTermRead vector value names p lim bytes s rest total r
ReadsTerm vector value names p lim bytes s rest total (Err u) = unknown_in names s.powers ≡ Some u.at

-- the terms, where no place has a fault, or the first fault: that of a degree comes before that of a coefficient
abbrev pub IsWithin : {X : Type 0} → Option ℕ → Option ℕ → X → Result X TextFault → Type 0
IsWithin degree_at coefficient_at v (Ok w) = (w ≡ v) × (degree_at ≡ None) × coefficient_at ≡ None
IsWithin degree_at coefficient_at v (Err (DegreeBound at)) = degree_at ≡ Some at
IsWithin degree_at coefficient_at v (Err (CoefficientBound at)) = (degree_at ≡ None) × coefficient_at ≡ Some at
IsWithin degree_at coefficient_at v (Err _) = ⊥

-- one term, or none
abbrev pub pushed : {M E : Type 0} → Option M → Option E → List (TermOf M E)
pushed (Some m) (Some a) = record { mono = m; coef = a } ∷ []
pushed _ _ = []

-- the terms with their coefficients reduced
abbrev pub reduced : ℕ → List Term → List Term
reduced p F = map (λ t. record { monomial = t.monomial; coefficient = red p t.coefficient }) F

-- the terms of the tree with their coefficients reduced, or their first fault; want of memory may come instead
abbrev pub ReadsTree : {X : Type 0} → (X → List Term) → List (List ℕ) → ℕ → ℕ → Tree → Result X TextFault → Type 0
ReadsTree terms names p lim t (Ok v) = (verdict names p lim (summands t) ≡ Ok (written_terms names (summands t))) × (terms v ≡ reduced p (written_terms names (summands t)))
ReadsTree terms names p lim t (Err NoMemory) = Unit {0}
ReadsTree terms names p lim t (Err f) = verdict names p lim (summands t) ≡ Err f
