-- What a division on one thread holds between its turns.
use Rattle.std.specs.Prelude.{◌≡◌, ◌≢◌, ℕ, ◌+◌, ◌*◌, ◌≤◌, List, [], ◌∷◌, ◌++◌, drop, length, ℤ, ◌+ℤ◌, ◌*ℤ◌, neg_ℤ, IsPermutation, Option, MatchOption}
use Rattle.std.specs.List.{All}
use mathlib.Core.List.{IsPrefix}
use Rattle.sdmp_laws.specs.Order.{Order, degree, Divides, over, Below}
use Rattle.sdmp_laws.specs.Ring.{red, IsReduced, IsUnit, IsInverse}
use Rattle.sdmp_laws.specs.Poly.{Term, total, times, minus, norm, every, AllBelow, IsPoly, lm, lc}
use Rattle.sdmp_laws.specs.Division.{Division, InScope}
use Rattle.sdmp_laws.specs.LongDivision.{quotient_list}
use Rattle.sdmp_laws.specs.Limits.{PassesBound}
use Rattle.sdmp_laws.specs.Canonical.{IsCanonical, Polynomial}
use Rattle.std.specs.declared.cmp.Ordering.{Ordering}
use Rattle.std.specs.declared.cmp.Ordering.TheVariants.{Less, Equal, Greater}
use Rattle.canonical_terms.specs.declared.term.TermOf.{TermOf}
use Rattle.canonical_terms.specs.View.{sum_of}
use Rattle.divide_core.specs.declared.fit.Leading.{Leading}
use Rattle.row_merge.specs.Learned.{QuotientState, IsGreatest, HandOut}

-- of the unread terms of the dividend and of the products owed, those at the greatest monomial are taken out, and t is the difference of their sums
pub record TakesNext (ord : Order) (p : ℕ) (unread unread' owed owed' : List Term) (t : Term) : Type 0 where
  pub read : List Term
  pub read_split : unread ≡ read ++ unread'
  pub read_at : All (λ u. u.monomial ≡ t.monomial) read
  pub read_below : AllBelow ord t.monomial unread'
  pub handed : List Term
  pub handed_split : IsPermutation owed (handed ++ owed')
  pub handed_at : All (λ u. u.monomial ≡ t.monomial) handed
  pub handed_below : AllBelow ord t.monomial owed'
  pub some : read ++ handed ≢ []
  pub sum : t.coefficient ≡ red p (total unread t.monomial +ℤ neg_ℤ (total owed t.monomial))

-- the products owed at the greatest monomial are handed out, and t is the negative of their sum
pub record IsOwed (ord : Order) (old new : QuotientState) (t : Term) : Type 0 where
  pub product : Term
  pub out : HandOut ord old new product
  pub at : t.monomial ≡ product.monomial
  pub negative : t.coefficient ≡ red old.modulus (neg_ℤ product.coefficient)

-- how the greatest monomial of the unread terms compares with that of the products owed, where one of the two isn't empty
unfoldable pub IsCompared : Order → List Term → List Term → Ordering → Type 0
IsCompared ord unread owed Greater = (t : Term) × (rest : List Term) × (unread ≡ t ∷ rest) × AllBelow ord t.monomial owed
IsCompared ord unread owed Less = (m : List ℕ) × IsGreatest ord owed m × AllBelow ord m unread
IsCompared ord unread owed Equal = (t : Term) × (rest : List Term) × (unread ≡ t ∷ rest) × IsGreatest ord owed t.monomial

-- t1 is the quotient of the term t by the term with the monomial l and the coefficient b
pub record IsTermQuotient (p : ℕ) (l : List ℕ) (b : ℤ) (t t1 : Term) : Type 0 where
  pub divides : Divides l t.monomial
  pub at : t1.monomial ≡ over t.monomial l
  pub reduced : IsReduced p t1.coefficient
  pub product : red p (t1.coefficient *ℤ b) ≡ t.coefficient

-- the quotient terms found, the rest, the unread terms of the dividend and the products owed
pub record Dividing (d : Division) (lim : ℕ) (q r unread owed : List Term) : Type 0 where
  -- what was found is a beginning of the list of quotient terms that passes no bound
  pub begun : IsPrefix q (quotient_list d)
  pub within : PassesBound d q → ⊥
  -- f - q*g is the rest and the unread terms less the products owed
  pub whole : (m : List ℕ) → red d.p (total (minus d.f (times q d.g)) m) ≡ red d.p ((total r m +ℤ total unread m) +ℤ neg_ℤ (total owed m))
  -- no monomial of the rest is in scope, and all that is still to come stands below it
  pub rest : IsPoly d.ord d.p d.n r
  pub outside : All (λ s. InScope d.mode (lm d.g) s.monomial → ⊥) r
  pub under : All (λ s. All (λ t. Below d.ord t.monomial s.monomial) unread × All (λ t. Below d.ord t.monomial s.monomial) owed) r
  pub unread_is : IsPoly d.ord d.p d.n unread
  pub vectors : All (λ t. length t.monomial ≡ d.n) owed
  pub low : All (λ t. degree t.monomial ≤ lim) unread × All (λ t. degree t.monomial ≤ lim) owed × All (λ t. degree t.monomial ≤ lim) r
  pub weight : d.p ≡ 0 → norm r + (norm unread + norm owed) ≤ norm d.f + norm q * norm d.g

-- the terms are those of f, in order
pub record AreTerms {M E : Type 0} (vector : M → List ℕ) (value : E → ℤ) (Belongs : E → Type 0) (ord : Order) (n lim : ℕ) (f : Polynomial) (ts : List (TermOf M E)) : Type 0 where
  pub view : sum_of vector value ts ≡ f.list
  pub canonical : IsCanonical ord f.modulus n lim f.list
  pub belongs : All (λ t. Belongs t.coef) ts

-- the leading term of g, within the limit on degrees, and the inverse of its coefficient, where that is a unit
pub record IsLeading {M E : Type 0} (vector : M → List ℕ) (value : E → ℤ) (Belongs : E → Type 0) (lim : ℕ) (g : Polynomial) (lead : Leading M E) : Type 0 where
  pub monomial : vector lead.term.mono ≡ lm g.list
  pub coefficient : value lead.term.coef ≡ lc g.list
  pub low : degree (vector lead.term.mono) ≤ lim
  pub belongs : Belongs lead.term.coef
  pub unit : MatchOption lead.inverse (IsUnit g.modulus (value lead.term.coef) → ⊥) (λ v. Belongs v × IsInverse g.modulus (value lead.term.coef) (value v))
