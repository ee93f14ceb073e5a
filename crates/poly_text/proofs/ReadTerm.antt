-- What was read of a term, against its tree.
use Rattle.std.proofs.Common.{◌≡◌, ◌<◌, ◌≤◌, ◌+◌, ℕ, zero, suc, Bool, true, false, min, cond, eqb, List, ◌∷◌, length, take, replicate, Option, Some, None, Result, Ok, Err, ℤ, refl, sym, ◌∙◌, ap, subst, arith}
use Rattle.std.specs.Prelude.{MatchOption, MatchResult}
use Rattle.std.specs.Result.{result_ok}
use Rattle.std.proofs.lemmas.List.{take-replicate}
use Rattle.sdmp_laws.specs.Limits.{greatest_norm}
use Rattle.sdmp_laws.specs.Order.{degree, zeros}
use Rattle.sdmp_laws.specs.Ring.{red}
use Rattle.text_laws.specs.Canonical.{AreNames}
use Rattle.text_laws.specs.Grammar.{Factor, Head, Numeral, Symbol, Product}
use Rattle.text_laws.specs.Summands.{Written, Summand, unknown_in, product_at, written_degree, size_of, vector_of, signed}
use Rattle.poly_text.specs.Exponents.{top, all_added}
use Rattle.poly_text.specs.Reads.{ReadsProduct}
use Rattle.poly_text.specs.ReadsTerms.{weight, IsTermRead}
use Rattle.poly_text.specs.Tokens.{cap}
use Rattle.poly_text.specs.declared.factors.UnknownName.{UnknownName}
use Rattle.poly_text.specs.declared.term.ProductRead.{ProductRead}
use Rattle.poly_text.proofs.Vectors.{exponents_add_up, degree_is}

-- ---- the sign of a term matters to its coefficient alone
powers_same : (m : Bool) (at : ℕ) (t : Product) → (product_at false at t).powers ≡ (product_at m at t).powers
powers_same m at t = by t.head t.factors
  where
    by : (h : Head) (fs : List Factor) → (product_at false at (record { head = h; factors = fs })).powers ≡ (product_at m at (record { head = h; factors = fs })).powers
    by (Numeral w) fs = refl
    by (Symbol p) fs = refl

number_same : (m : Bool) (at : ℕ) (t : Product) → (product_at false at t).number ≡ (product_at m at t).number
number_same m at t = by t.head t.factors
  where
    by : (h : Head) (fs : List Factor) → (product_at false at (record { head = h; factors = fs })).number ≡ (product_at m at (record { head = h; factors = fs })).number
    by (Numeral w) fs = refl
    by (Symbol p) fs = refl

negative_is : (m : Bool) (at : ℕ) (t : Product) → m ≡ (product_at m at t).negative
negative_is m at t = by t.head t.factors
  where
    by : (h : Head) (fs : List Factor) → m ≡ (product_at m at (record { head = h; factors = fs })).negative
    by (Numeral w) fs = refl
    by (Symbol p) fs = refl

-- ---- no exponents at first
zeros_are : (n : ℕ) → replicate n 0 ≡ zeros n
unfolding zeros
zeros_are zero = refl
zeros_are (suc n) = ap (λ l. 0 ∷ l) (zeros_are n)

pub no_exponents : (n k : ℕ) → n ≤ k → take n (replicate k 0) ≡ zeros n
no_exponents n k h = take-replicate n k 0 h ∙ zeros_are n

-- ---- the monomial
pub packed : {M E : Type 0} (lim d : ℕ) (Q : M → Type 0) (R : E → Type 0) (r : Result M E) (o : Option M) → o ≡ result_ok r → MatchResult r (λ m. (d ≤ lim) × Q m) (λ e. (lim < d) × R e) → MatchOption o (lim < d) (λ m. (d ≤ lim) × Q m)
packed lim d Q R (Ok m) o e h = subst (λ o. MatchOption o (lim < d) (λ m. (d ≤ lim) × Q m)) (sym e) h
packed lim d Q R (Err f) o e h = subst (λ o. MatchOption o (lim < d) (λ m. (d ≤ lim) × Q m)) (sym e) h.0

over : (lim d w : ℕ) → lim < top → min d top ≡ min w top → lim < d → lim < w
over lim d w l e h = omega (arith, l, e, h)

within : (lim d w : ℕ) → lim < top → min d top ≡ min w top → d ≤ lim → w ≤ lim
within lim d w l e h = omega (arith, l, e, h)

mono_is : {M : Type 0} (vector : M → List ℕ) (names : List (List ℕ)) (ws : List Written) (lim : ℕ) (x : List ℕ) (o : Option M) → AreNames names → lim < top → unknown_in names ws ≡ None → x ≡ all_added names ws (zeros (length names))
    → MatchOption o (lim < degree x) (λ m. (degree x ≤ lim) × (vector m ≡ x)) → MatchOption o (lim < written_degree ws) (λ m. (written_degree ws ≤ lim) × (vector m ≡ vector_of names ws))
mono_is vector names ws lim x None a l u e h = over lim (degree x) (written_degree ws) l (ap (λ v. min (degree v) top) e ∙ degree_is names ws u) h
mono_is vector names ws lim x (Some m) a l u e h =
    let d : written_degree ws ≤ lim = within lim (degree x) (written_degree ws) l (ap (λ v. min (degree v) top) e ∙ degree_is names ws u) h.0 in
    (d, h.1 ∙ e ∙ exponents_add_up names ws a (omega (arith, d, l)))

-- ---- the coefficient
heavy : (b : Bool) (sum size s z : ℕ) → s ≡ min sum cap → z ≡ min size cap → greatest_norm < cond b s z → greatest_norm < cond b sum size
heavy true sum size s z e f h = omega (arith, e, h)
heavy false sum size s z e f h = omega (arith, f, h)

light : (b : Bool) (total size s z : ℕ) → s ≡ min (total + size) cap → z ≡ min size cap → cond b s z ≤ greatest_norm → (cond b (total + size) size ≤ greatest_norm) × (z ≡ size)
light true total size s z e f h = (omega (arith, e, h), omega (arith, e, f, h))
light false total size s z e f h = (omega (arith, f, h), omega (arith, f, h))

coef_is : {E : Type 0} (value : E → ℤ) (p total size s z : ℕ) (n : Bool) (o : Option E) → s ≡ min (total + size) cap → z ≡ min size cap
    → MatchOption o (greatest_norm < weight p s z) (λ a. (weight p s z ≤ greatest_norm) × (value a ≡ red p (signed n z)))
    → MatchOption o (greatest_norm < weight p (total + size) size) (λ a. (weight p (total + size) size ≤ greatest_norm) × (value a ≡ red p (signed n size)))
coef_is value p total size s z n None e f h = heavy (eqb p 0) (total + size) size s z e f h
coef_is value p total size s z n (Some a) e f h =
    let k = light (eqb p 0) total size s z e f h.0 in
    (k.0, h.1 ∙ ap (λ m. red p (signed n m)) k.1)

-- ---- the whole
capped_sum : (total size s z n : ℕ) → s ≡ min total cap → z ≡ min size cap → n ≡ min (s + z) cap → n ≡ min (total + size) cap
capped_sum total size s z n e f g = omega (arith, e, f, g)

pub term_is : {M E : Type 0} (vector : M → List ℕ) (value : E → ℤ) (names : List (List ℕ)) (p lim : ℕ) (bytes : List ℕ) (at : ℕ) (n : Bool) (t : Product) (rest : List ℕ) (total sum sum' : ℕ) (old new : List ℕ) (r : ProductRead) (mono : Option M) (coef : Option E)
    → AreNames names → lim < top → old ≡ zeros (length names) → sum ≡ min total cap → ReadsProduct names bytes at t rest old new (Ok r) → sum' ≡ min (sum + r.size) cap
    → MatchOption mono (lim < degree new) (λ m. (degree new ≤ lim) × (vector m ≡ new)) → MatchOption coef (greatest_norm < weight p sum' r.size) (λ a. (weight p sum' r.size ≤ greatest_norm) × (value a ≡ red p (signed n r.size)))
    → IsTermRead vector value names p lim bytes (product_at n at t) rest total (record { mono = mono; coef = coef; sum = sum'; next = r.next })
term_is vector value names p lim bytes at n t rest total sum sum' old new r mono coef a l z s i g m c =
    let S : Summand = product_at n at t in
    let powers : (product_at false at t).powers ≡ S.powers = powers_same n at t in
    let known : unknown_in names S.powers ≡ None = ap (unknown_in names) (sym powers) ∙ i.0 in
    let size : r.size ≡ min (size_of S.number) cap = i.1 ∙ ap (λ o. min (size_of o) cap) (number_same n at t) in
    let vector_is : new ≡ all_added names S.powers (zeros (length names)) = i.3 ∙ (λ j. all_added names (powers j) (z j)) in
    let whole : sum' ≡ min (total + size_of S.number) cap = capped_sum total (size_of S.number) sum r.size sum' s size g in
    let Q : Bool → Type 0 = λ b. MatchOption coef (greatest_norm < weight p (total + size_of S.number) (size_of S.number))
    (λ a. (weight p (total + size_of S.number) (size_of S.number) ≤ greatest_norm) × (value a ≡ red p (signed b (size_of S.number)))) in
    record {
      known = known;
      mono = mono_is vector names S.powers lim new mono a l known vector_is m;
      coef = subst Q (negative_is n at t) (coef_is value p total (size_of S.number) sum' r.size n coef whole size c);
      sum = whole;
      next = i.2;
    }

pub unknown_is : (names : List (List ℕ)) (bytes : List ℕ) (at : ℕ) (n : Bool) (t : Product) (rest old new : List ℕ) (u : UnknownName) → ReadsProduct names bytes at t rest old new (Err u) → unknown_in names (product_at n at t).powers ≡ Some u.at
unknown_is names bytes at n t rest old new u i = ap (unknown_in names) (sym (powers_same n at t)) ∙ i
