-- What a merge of a division reads has degrees within the limit.
use Rattle.std.proofs.Common.{◌≡◌, ◌≢◌, ◌⊎◌, inl, inr, ℕ, ◌+◌, ◌<◌, ◌≤◌, pos, List, [], ◌∷◌, ◌++◌, true, false, Bool, true≢false, refl, sym, ap, ◌∙◌, subst, arith}
use mathlib.Core.List.{IsPrefix}
use Rattle.sdmp_laws.specs.Order.{◌⋅◌, degree, alike}
use Rattle.sdmp_laws.specs.Ring.{red}
use Rattle.sdmp_laws.specs.Poly.{Term, coef, times, lm, AllDegrees}
use Rattle.sdmp_laws.specs.Division.{Division, Turn, Turns}
use Rattle.sdmp_laws.specs.LongDivision.{quotient_list}
use Rattle.sdmp_laws.proofs.OrderLemmas.{alike_same, degree_times}
use Rattle.sdmp_laws.proofs.Ints.{red_zero}
use Rattle.sdmp_laws.proofs.Tests.{or_out}
use Rattle.sdmp_laws.proofs.ListLemmas.{AllDegrees-every, AllDegrees-up}
use Rattle.sdmp_laws.proofs.DegreeLemmas.{degree_laws}
use Rattle.sdmp_laws.proofs.LongLemmas.{quotient_list_is}
use Rattle.whole_laws.specs.Notes.{QuotientScript, after_lead, divisor_rows, script_list, has}
use Rattle.whole_laws.specs.Wholes.{head_terms}
use Rattle.whole_laws.proofs.NotesLemmas.{total_hasnt}
use Rattle.divide_wholes.specs.Wholes.{DivideState, DivideWhole, divide_script}
use Rattle.divide_wholes.proofs.Candidate.{quotient_poly}
use Rattle.dividing_rounds.proofs.WorkloadLemmas.{has-append_out, head_at, script_has}
use Rattle.divide_merge.specs.Names.{IsFit}

-- a monomial that stands in a list has a degree within the list's
pub degree_has : (D : ℕ) (A : List Term) (m : List ℕ) → AllDegrees D A → has m A ≡ true → degree m ≤ D
unfolding has AllDegrees
degree_has D [] m a h = absurd (true≢false (sym h))
degree_has D (t ∷ A) m a h = pick (λ k. degree_has D A m a.1 k) (or_out (alike t.monomial m) (has m A) h)
  where
    pick : (has m A ≡ true → degree m ≤ D) → (alike t.monomial m ≡ true) ⊎ (has m A ≡ true) → degree m ≤ D
    pick ih (inl e) = subst (λ (v : List ℕ). degree v ≤ D) (alike_same t.monomial m e) a.0
    pick ih (inr k) = ih k

-- where a coefficient isn't zero a term stands
stands : (p : ℕ) (A : List Term) (m : List ℕ) → (coef p A m ≢ pos 0) → has m A ≡ true
unfolding coef
stands p A m n = pick (has m A) refl
  where
    pick : (b : Bool) → has m A ≡ b → b ≡ true
    pick true e = refl
    pick false e = absurd (n (ap (red p) (total_hasnt m A e) ∙ red_zero p))

module _ (lim : ℕ) (d : Division) (fit : IsFit lim d) where
  -- the first quotient term times the leading monomial stands in the dividend
  first_low : (t : Term) (Q : List Term) → quotient_list d ≡ t ∷ Q → degree t.monomial + degree (lm d.g) ≤ lim
  unfolding Turns
  first_low t Q e =
      let turn : Turn d d.f t = (subst (λ (L : List Term). Turns d d.f L) e (quotient_list_is d fit.accepted).turns).0 in
      let low = degree_has lim d.f (t.monomial ⋅ lm d.g) fit.dividend.degrees (stands d.p d.f (t.monomial ⋅ lm d.g) turn.present) in
      let sum = degree_times t.monomial (lm d.g) in
      omega arith

  lower_degrees : (g : List Term) (D : ℕ) → AllDegrees D g → AllDegrees D (after_lead g)
  unfolding after_lead AllDegrees
  lower_degrees [] D h = tt
  lower_degrees (t ∷ g) D h = h.1

  rows_low : (W w : ℕ) → AllDegrees (degree (lm d.g)) (divisor_rows d.g W w)
  unfolding divisor_rows
  rows_low W w = AllDegrees-every (degree (lm d.g)) W w 1 (after_lead d.g) (lower_degrees d.g (degree (lm d.g)) ((degree_laws d.ord d.p d.n).0 d.g fit.divisor.poly))

  -- the products of the quotient with lower terms of the divisor
  pub products_low : (G : List Term) → AllDegrees (degree (lm d.g)) G → AllDegrees lim (times (quotient_list d) G)
  unfolding lm times AllDegrees
  products_low G h = pick (quotient_list d) refl
    where
      nothing_low : (G : List Term) → AllDegrees lim (times [] G)
      nothing_low G = tt

      pick : (Q : List Term) → quotient_list d ≡ Q → AllDegrees lim (times (quotient_list d) G)
      pick [] e = subst (λ (L : List Term). AllDegrees lim (times L G)) (sym e) (nothing_low G)
      pick (t ∷ Q) e =
          let q = (degree_laws d.ord d.p d.n).0 (quotient_list d) (quotient_poly d fit.accepted) in
          let lead = ap (λ (L : List Term). degree (lm L)) e ∙ first_lead t Q in
          let low = first_low t Q e in
          AllDegrees-up (degree (lm (quotient_list d)) + degree (lm d.g)) lim (times (quotient_list d) G) (omega arith) ((degree_laws d.ord d.p d.n).1 (degree (lm (quotient_list d))) (degree (lm d.g)) (quotient_list d) G q h)
        where
          first_lead : (t : Term) (Q : List Term) → degree (lm (t ∷ Q)) ≡ degree t.monomial
          first_lead t Q = refl

  pub script_low : (W w : ℕ) → AllDegrees lim (script_list (QuotientScript d W w))
  unfolding script_list
  script_low W w = (degree_laws d.ord d.p d.n).2 lim (times (quotient_list d) (divisor_rows d.g W w)) (products_low (divisor_rows d.g W w) (rows_low W w))

  -- a quotient term times the leading monomial
  pub quotient_low : (q : List Term) → IsPrefix q (quotient_list d) → AllDegrees lim q
  unfolding AllDegrees lm
  quotient_low q i = prefix_low q i.0 (subst (AllDegrees lim) (sym i.1) (pick (quotient_list d) refl))
    where
      prefix_low : (A B : List Term) → AllDegrees lim (A ++ B) → AllDegrees lim A
      prefix_low [] B h = tt
      prefix_low (t ∷ A) B h = (h.0, prefix_low A B h.1)

      pick : (Q : List Term) → quotient_list d ≡ Q → AllDegrees lim (quotient_list d)
      pick [] e = subst (AllDegrees lim) (sym e) nothing
        where
          nothing : AllDegrees lim []
          nothing = tt
      pick (t ∷ Q) e =
          let q = (degree_laws d.ord d.p d.n).0 (quotient_list d) (quotient_poly d fit.accepted) in
          let lead = ap (λ (L : List Term). degree (lm L)) e ∙ first_lead t Q in
          let low = first_low t Q e in
          AllDegrees-up (degree (lm (quotient_list d))) lim (quotient_list d) (omega arith) q
        where
          first_lead : (t : Term) (Q : List Term) → degree (lm (t ∷ Q)) ≡ degree t.monomial
          first_lead t Q = refl

suffix_low : (D : ℕ) (before A : List Term) → AllDegrees D (before ++ A) → AllDegrees D A
unfolding AllDegrees
suffix_low D [] A h = h
suffix_low D (t ∷ before) A h = suffix_low D before A h.1

-- so what was read is low
pub read_low : (lim : ℕ) (s : DivideState) (x : List ℕ) → IsFit lim s.division → DivideWhole s → has x (s.unread ++ head_terms s.heads) ≡ true → degree x ≤ lim
unfolding divide_script
read_low lim s x fit whole h = pick (has-append_out x s.unread (head_terms s.heads) h)
  where
    pick : (has x s.unread ≡ true) ⊎ (has x (head_terms s.heads) ≡ true) → degree x ≤ lim
    pick (inl u) = degree_has lim s.unread x (suffix_low lim whole.unread_suffix.0 s.unread (subst (AllDegrees lim) (sym whole.unread_suffix.1) fit.dividend.degrees)) u
    pick (inr u) =
        let k = head_at s.heads x u in
        let inside : k.worker < s.workers = let c = whole.heads_count in let b = k.here in omega arith in
        subst (λ (v : List ℕ). degree v ≤ lim) k.at
        (degree_has lim (script_list (QuotientScript s.division s.workers k.worker)) k.head.monomial (script_low lim s.division fit s.workers k.worker) (script_has s k.worker k.head whole inside k.is))
