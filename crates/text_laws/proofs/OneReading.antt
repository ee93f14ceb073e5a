-- Bytes have at most one reading.
use Rattle.std.proofs.Common.{◌≡◌, ◌⊎◌, ◌<◌, ◌≤◌, ℕ, List, Option, Some, None, Result, Ok, Err, refl, sym, ◌∙◌, ap, inl, inr, arith}
use Rattle.std.proofs.lemmas.Bool.{cases_lt}
use Rattle.sdmp_laws.specs.Poly.{Term}
use Rattle.text_laws.specs.Grammar.{Tree, Spells}
use Rattle.text_laws.specs.Summands.{Summand, verdict, refused, summands, unknown, above_degree, above_coefficient}
use Rattle.text_laws.specs.Denotes.{IsSyntaxFault, HasVerdict, IsDenoted}
use Rattle.text_laws.specs.declared.TextFault.{TextFault}
use Rattle.text_laws.specs.declared.TextFault.TheVariants.{Syntax, UnknownName, DegreeBound, CoefficientBound, NoMemory}
use Rattle.text_laws.proofs.OneTree.{one_tree}

-- there is one place of a syntax fault
pub one_place : (bs : List ℕ) (j k : ℕ) → IsSyntaxFault bs j → IsSyntaxFault bs k → j ≡ k
one_place bs j k a b = by (cases_lt j k) (cases_lt k j)
  where
    later : (x y : ℕ) → IsSyntaxFault bs x → IsSyntaxFault bs y → x < y → ⊥
    later x y a b h = elim a.there [ inl l ↦ l.1 (b.before x h) | inr l ↦ elim b.there [ inl m ↦ absurd (omega (arith, l.0, m.0)) | inr m ↦ absurd (omega (arith, l.0, m.0)) ] ]

    by : (j < k) ⊎ (k ≤ j) → (k < j) ⊎ (j ≤ k) → j ≡ k
    by (inl h) g = absurd (later j k a b h)
    by (inr h) (inl g) = absurd (later k j b a g)
    by (inr h) (inr g) = omega arith

abbrev Refuse : TextFault → Result (List Term) TextFault
Refuse f = Err f

err_is : (a b : TextFault) → Refuse a ≡ Refuse b → a ≡ b
err_is a b e = cc

-- a verdict is no syntax fault
refused_other : (f : ℕ → TextFault) (o : Option ℕ) (r : Result (List Term) TextFault) (at : ℕ) → ((k : ℕ) → f k ≡ Syntax at → ⊥) → (r ≡ Err (Syntax at) → ⊥) → refused f o r ≡ Err (Syntax at) → ⊥
refused_other f None r at h g e = g e
refused_other f (Some k) r at h g e = h k (err_is (f k) (Syntax at) e)

pub no_syntax : (names : List (List ℕ)) (p lim : ℕ) (ss : List Summand) (at : ℕ) → verdict names p lim ss ≡ Err (Syntax at) → ⊥
no_syntax names p lim ss at e =
    refused_other (λ k. UnknownName k) (unknown names ss) _ at (λ k f. cc) (λ e. refused_other (λ k. DegreeBound k) (above_degree lim ss) _ at (λ k f. cc) (λ e. refused_other (λ k. CoefficientBound k) (above_coefficient p ss) _ at (λ k f. cc) (λ e. cc) e) e) e

-- a syntax fault, or a verdict on a tree
split : (names : List (List ℕ)) (p lim : ℕ) (bytes : List ℕ) (r : Result (List Term) TextFault) → IsDenoted names p lim bytes r → ((at : ℕ) × (r ≡ Err (Syntax at)) × IsSyntaxFault bytes at) ⊎ HasVerdict names p lim bytes r
split names p lim bytes (Ok F) d = inr d
split names p lim bytes (Err (Syntax at)) d = inl (at, refl, d)
split names p lim bytes (Err (UnknownName at)) d = inr d
split names p lim bytes (Err (DegreeBound at)) d = inr d
split names p lim bytes (Err (CoefficientBound at)) d = inr d
split names p lim bytes (Err NoMemory) d = inr d

pub one_reading : (names : List (List ℕ)) (p lim : ℕ) (bytes : List ℕ) (r s : Result (List Term) TextFault) → IsDenoted names p lim bytes r → IsDenoted names p lim bytes s → r ≡ s
one_reading names p lim bytes r s d e = by (split names p lim bytes r d) (split names p lim bytes s e)
  where
    by : ((at : ℕ) × (r ≡ Err (Syntax at)) × IsSyntaxFault bytes at) ⊎ HasVerdict names p lim bytes r → ((at : ℕ) × (s ≡ Err (Syntax at)) × IsSyntaxFault bytes at) ⊎ HasVerdict names p lim bytes s → r ≡ s
    by (inl (j, f, a)) (inl (k, g, b)) = f ∙ ap (λ i. Err (Syntax i)) (one_place bytes j k a b) ∙ sym g
    by (inl (j, f, a)) (inr (t, x, v)) = absurd (a.no_text (t, x))
    by (inr (t, x, v)) (inl (j, f, a)) = absurd (a.no_text (t, x))
    by (inr (t, x, v)) (inr (u, y, w)) = sym v ∙ ap (λ i. verdict names p lim (summands i)) (one_tree bytes t u x y) ∙ w

-- a verdict on the tree of the bytes is what they denote
pub denotes_fault : (names : List (List ℕ)) (p lim : ℕ) (bytes : List ℕ) (t : Tree) (f : TextFault) → Spells t bytes → verdict names p lim (summands t) ≡ Err f → IsDenoted names p lim bytes (Err f)
denotes_fault names p lim bytes t (Syntax at) s e = absurd (no_syntax names p lim (summands t) at e)
denotes_fault names p lim bytes t (UnknownName at) s e = (t, s, e)
denotes_fault names p lim bytes t (DegreeBound at) s e = (t, s, e)
denotes_fault names p lim bytes t (CoefficientBound at) s e = (t, s, e)
denotes_fault names p lim bytes t NoMemory s e = (t, s, e)
