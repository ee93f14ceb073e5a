-- The heads of a merge as plain data.
use Rattle.std.specs.Prelude.{◌≡◌, ℕ, ◌+◌, ◌≤◌, ℤ, unsigned_abs, Bool, true, false, cond, List, [], ◌∷◌, map, Option, Some, None}
use Rattle.std.specs.declared.cmp.Ordering.{Ordering}
use Rattle.std.specs.Ordering.{is_eq}
use Rattle.sdmp_laws.specs.Order.{Order, alike}
use Rattle.sdmp_laws.specs.Poly.{Term, coef}
use Rattle.sdmp_laws.specs.Division.{AllAtOrBelow}
use Rattle.sdmp_laws.specs.Limits.{greatest_norm}
use Rattle.whole_laws.specs.Notes.{has}
use Rattle.whole_laws.specs.Wholes.{head_terms}
use Rattle.canonical_terms.specs.View.{term_of}
use Rattle.ring_heads.specs.declared.head.HeadOf.{HeadOf}
use Rattle.ring_heads.specs.declared.head.HeadOf.TheVariants as head

module _ {M E : Type 0} where
  -- a head as plain data
  abbrev pub plain : (M → List ℕ) → (E → ℤ) → HeadOf M E → Option Term
  plain vector value head.Missing = None
  plain vector value (head.Term t) = Some (term_of vector value t)
  plain vector value head.Ended = None

  abbrev pub plain_heads : (M → List ℕ) → (E → ℤ) → List (HeadOf M E) → List (Option Term)
  plain_heads vector value hs = map (plain vector value) hs

  -- the terms of the heads that there are
  abbrev pub live : (M → List ℕ) → (E → ℤ) → List (HeadOf M E) → List Term
  live vector value hs = head_terms (map (plain vector value) hs)

  -- what is left of a head after the heads at x are summed
  abbrev pub missing_at : (M → M → Ordering) → M → HeadOf M E → HeadOf M E
  missing_at cmp x head.Missing = head.Missing
  missing_at cmp x (head.Term t) = cond (is_eq (cmp t.mono x)) head.Missing (head.Term t)
  missing_at cmp x head.Ended = head.Ended

  abbrev pub is_missing : HeadOf M E → Bool
  is_missing head.Missing = true
  is_missing (head.Term t) = false
  is_missing head.Ended = false

  abbrev pub HeadBelongs : (E → Type 0) → HeadOf M E → Type 0
  HeadBelongs belongs head.Missing = Unit {0}
  HeadBelongs belongs (head.Term t) = belongs t.coef
  HeadBelongs belongs head.Ended = Unit {0}

-- the sizes of the coefficients at x, added up
unfoldable pub size_at : List ℕ → List Term → ℕ
size_at x [] = 0
size_at x (t ∷ L) = cond (alike t.monomial x) (unsigned_abs t.coefficient) 0 + size_at x L

-- x is the greatest monomial of the heads
pub record IsTopOf (ord : Order) (heads : List (Option Term)) (x : List ℕ) : Type 0 where
  pub there : has x (head_terms heads) ≡ true
  pub greatest : AllAtOrBelow ord x (head_terms heads)

-- the sizes of the coefficients at the greatest monomial add up to at most the greatest norm
abbrev pub TopFits : Order → List (Option Term) → Type 0
TopFits ord heads = (x : List ℕ) → IsTopOf ord heads x → size_at x (head_terms heads) ≤ greatest_norm

-- t has the greatest monomial of the heads, and the sum of their coefficients there
pub record IsTopSum (ord : Order) (p : ℕ) (heads : List (Option Term)) (t : Term) : Type 0 where
  pub top : IsTopOf ord heads t.monomial
  pub sum : t.coefficient ≡ coef p (head_terms heads) t.monomial
