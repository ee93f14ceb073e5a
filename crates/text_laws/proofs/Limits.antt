-- What a text that has no fault keeps: its terms are vectors of the variables, of degrees within the limit, and over the integers of a norm within its bound.
use Rattle.std.proofs.Common.{◌≡◌, ◌≤◌, ◌+◌, ℕ, zero, suc, Bool, true, false, ltb, cond, List, [], ◌∷◌, length, Option, Some, None, Result, Ok, Err, refl, sym, ap, arith}
use Rattle.std.proofs.lemmas.Bool.{ltb-false}
use Rattle.std.specs.Prelude.{unsigned_abs}
use Rattle.sdmp_laws.specs.Order.{degree}
use Rattle.sdmp_laws.specs.Poly.{Term, Over, AllDegrees, norm}
use Rattle.sdmp_laws.specs.Limits.{greatest_norm}
use Rattle.text_laws.specs.Canonical.{AreNames}
use Rattle.text_laws.specs.Summands.{Written, Summand, same_name, unknown, written_degree, above_degree, size_of, sum_above, above_coefficient, exponent_at, vector_of, signed, written_terms, refused, verdict}
use Rattle.text_laws.specs.declared.TextFault.{TextFault}
use Rattle.text_laws.specs.declared.TextFault.TheVariants.{UnknownName, DegreeBound, CoefficientBound}
use Rattle.sdmp_laws.proofs.Parts.{norm_cons}
use Rattle.text_laws.proofs.Printed.{same_is, skip_vector}

-- ---- no fault
-- a text without a fault: what is refused nowhere
pub record IsFaultless (names : List (List ℕ)) (p lim : ℕ) (ss : List Summand) (F : List Term) : Type 0 where
  pub known : unknown names ss ≡ None
  pub degrees : above_degree lim ss ≡ None
  pub coefficients : above_coefficient p ss ≡ None
  pub terms : F ≡ written_terms names ss

abbrev gives : List Term → Result (List Term) TextFault
gives F = Ok F

pub ok_is : (F G : List Term) → gives F ≡ gives G → F ≡ G
ok_is F G e = cc

pub err_ok : (f : TextFault) (F : List Term) → Err f ≡ gives F → ⊥
err_ok f F e = cc

unrefused : (f : ℕ → TextFault) (o : Option ℕ) (r : Result (List Term) TextFault) (F : List Term) → refused f o r ≡ Ok F → (o ≡ None) × (r ≡ Ok F)
unrefused f None r F e = (refl, e)
unrefused f (Some k) r F e = absurd (err_ok (f k) F e)

pub faultless : (names : List (List ℕ)) (p lim : ℕ) (ss : List Summand) (F : List Term) → verdict names p lim ss ≡ Ok F → IsFaultless names p lim ss F
faultless names p lim ss F e =
    let u = unrefused (λ at. UnknownName at) (unknown names ss) _ F e in
    let d = unrefused (λ at. DegreeBound at) (above_degree lim ss) _ F u.1 in
    let c = unrefused (λ at. CoefficientBound at) (above_coefficient p ss) _ F d.1 in
    record { known = u.0; degrees = d.0; coefficients = c.0; terms = sym (ok_is (written_terms names ss) F c.1) }

some_none : (n : ℕ) → Some n ≡ None → ⊥
some_none n e = cc

not_above : (a b at : ℕ) (o : Option ℕ) → cond (ltb a b) (Some at) o ≡ None → (b ≤ a) × (o ≡ None)
not_above a b at o e = by (ltb a b) refl e
  where
    by : (t : Bool) → ltb a b ≡ t → cond t (Some at) o ≡ None → (b ≤ a) × (o ≡ None)
    by true h e = absurd (some_none at e)
    by false h e = (ltb-false a b h, e)

-- ---- vectors
pub vector_long : (ns : List (List ℕ)) (ws : List Written) → length (vector_of ns ws) ≡ length ns
vector_long [] ws = refl
vector_long (n ∷ ns) ws = ap suc (vector_long ns ws)

pub terms_over : (ns : List (List ℕ)) (ss : List Summand) → Over (length ns) (written_terms ns ss)
unfolding Over
terms_over ns [] = tt
terms_over ns (s ∷ ss) = (vector_long ns s.powers, terms_over ns ss)

-- ---- degrees
degree_none : (ns : List (List ℕ)) → degree (vector_of ns []) ≡ 0
unfolding degree
degree_none [] = refl
degree_none (n ∷ ns) = omega (arith, degree_none ns)

-- a name is that of one variable at the most, so an exponent counts once at the most
degree_more : (ns : List (List ℕ)) (w : Written) (ws : List Written) → AreNames ns → degree (vector_of ns (w ∷ ws)) ≤ w.exponent + degree (vector_of ns ws)
unfolding degree
degree_more [] w ws a = omega arith
degree_more (n ∷ ns) w ws a = by (same_name n w.name) (same_is n w.name) (degree_more ns w ws a.2)
  where
    by : (b : Bool) → (b ≡ true → n ≡ w.name) → degree (vector_of ns (w ∷ ws)) ≤ w.exponent + degree (vector_of ns ws)
        → (cond b w.exponent 0 + exponent_at n ws) + degree (vector_of ns (w ∷ ws)) ≤ w.exponent + (exponent_at n ws + degree (vector_of ns ws))
    by true s k = let e : degree (vector_of ns (w ∷ ws)) ≡ degree (vector_of ns ws) = ap degree (skip_vector n w ns ws (sym (s refl)) a.1) in omega (arith, e)
    by false s k = omega (arith, k)

pub degree_within : (ns : List (List ℕ)) (ws : List Written) → AreNames ns → degree (vector_of ns ws) ≤ written_degree ws
degree_within ns [] a = omega (arith, degree_none ns)
degree_within ns (w ∷ ws) a = omega (arith, degree_more ns w ws a, degree_within ns ws a)

pub degrees_within : (ns : List (List ℕ)) (lim : ℕ) (ss : List Summand) → AreNames ns → above_degree lim ss ≡ None → AllDegrees lim (written_terms ns ss)
unfolding AllDegrees
degrees_within ns lim [] a e = tt
degrees_within ns lim (s ∷ ss) a e =
    let k = not_above lim (written_degree s.powers) s.at (above_degree lim ss) e in
    (omega (arith, degree_within ns s.powers a, k.0), degrees_within ns lim ss a k.1)

-- ---- norms
pub size_is : (n : Bool) (s : ℕ) → unsigned_abs (signed n s) ≡ s
size_is false s = refl
size_is true zero = refl
size_is true (suc s) = refl

norm_nil : norm [] ≡ 0
unfolding norm
norm_nil = refl

norm_from : (ns : List (List ℕ)) (ss : List Summand) (sum : ℕ) → sum ≤ greatest_norm → sum_above sum ss ≡ None → sum + norm (written_terms ns ss) ≤ greatest_norm
norm_from ns [] sum h e = omega (arith, norm_nil, h)
norm_from ns (s ∷ ss) sum h e =
    let k = not_above greatest_norm (sum + size_of s.number) s.at (sum_above (sum + size_of s.number) ss) e in
    omega (arith, norm_from ns ss (sum + size_of s.number) k.0 k.1, norm_cons (record { monomial = vector_of ns s.powers; coefficient = signed s.negative (size_of s.number) }) (written_terms ns ss), size_is s.negative (size_of s.number))

pub norm_within : (ns : List (List ℕ)) (p : ℕ) (ss : List Summand) → above_coefficient p ss ≡ None → p ≡ 0 → norm (written_terms ns ss) ≤ greatest_norm
norm_within ns zero ss e z = omega (arith, norm_from ns ss 0 (omega arith) e)
norm_within ns (suc k) ss e z = absurd (omega (arith, z))
