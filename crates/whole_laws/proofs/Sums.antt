-- Sums over the workers.
use Rattle.std.proofs.Common.{◌≡◌, ℕ, zero, suc, ◌<◌, List, [], ◌++◌, pos, ◌+ℤ◌, refl, sym, ap, ap₂, ◌∙◌, arith}
use Rattle.std.proofs.lemmas.Int.{ints}
use Rattle.sdmp_laws.specs.Ring.{red}
use Rattle.sdmp_laws.specs.Poly.{Term, total, Same, sum_over}
use Rattle.sdmp_laws.proofs.Ints.{red_add, red_zero}
use Rattle.sdmp_laws.proofs.OrderLemmas.{Three, is_less, is_equal, is_greater, numbers}
use Rattle.sdmp_laws.proofs.PolyLemmas.{total_append, same_total, from_total, Same-refl}
use Rattle.sdmp_laws.proofs.TermsLemmas.{total_nil}

-- ---- a sum in which each part counts for nothing
pub nothing_over : (p : ℕ) (x : List ℕ) (F : ℕ → List Term) (k : ℕ) → ((w : ℕ) → w < k → red p (total (F w) x) ≡ pos 0) → red p (total (sum_over k F) x) ≡ pos 0
unfolding sum_over
nothing_over p x F zero h = ap (red p) (total_nil x) ∙ red_zero p
nothing_over p x F (suc k) h =
    ap (red p) (total_append (sum_over k F) (F k) x)
    ∙ red_add p (total (sum_over k F) x) (pos 0) (total (F k) x) (pos 0) (nothing_over p x F k (λ w l. h w (omega arith)) ∙ sym (red_zero p)) (h k (omega arith) ∙ sym (red_zero p))
    ∙ red_zero p

-- ---- sums over the workers that are the same one by one
pub sum_over_same : (p k : ℕ) (F G : ℕ → List Term) → ((w : ℕ) → Same p (F w) (G w)) → Same p (sum_over k F) (sum_over k G)
unfolding sum_over
sum_over_same p zero F G h = Same-refl p []
sum_over_same p (suc k) F G h =
    from_total p (sum_over k F ++ F k) (sum_over k G ++ G k) (λ m.
    ap (red p) (total_append (sum_over k F) (F k) m)
    ∙ red_add p (total (sum_over k F) m) (total (sum_over k G) m) (total (F k) m) (total (G k) m)
    (same_total p (sum_over k F) (sum_over k G) (sum_over_same p k F G h) m) (same_total p (F k) (G k) (h k) m)
    ∙ ap (red p) (sym (total_append (sum_over k G) (G k) m)))

-- ---- a sum over the workers, changed at one of them
sum_same : (x : List ℕ) (F F' : ℕ → List Term) (k : ℕ) → ((v : ℕ) → v < k → total (F v) x ≡ total (F' v) x) → total (sum_over k F) x ≡ total (sum_over k F') x
unfolding sum_over
sum_same x F F' zero h = refl
sum_same x F F' (suc k) h =
    total_append (sum_over k F) (F k) x ∙ ap₂ ◌+ℤ◌ (sum_same x F F' k (λ v l. h v (omega arith))) (h k (omega arith)) ∙ sym (total_append (sum_over k F') (F' k) x)

pub sum_changed : (x : List ℕ) (F F' : ℕ → List Term) (k w : ℕ) → w < k → ((v : ℕ) → (v ≡ w → ⊥) → total (F v) x ≡ total (F' v) x) → total (sum_over k F) x +ℤ total (F' w) x ≡ total (sum_over k F') x +ℤ total (F w) x
unfolding sum_over
sum_changed x F F' zero w l h = absurd (omega arith)
sum_changed x F F' (suc k) w l h = pick (λ l'. sum_changed x F F' k w l' h) (numbers w k)
  where
    pick : (w < k → total (sum_over k F) x +ℤ total (F' w) x ≡ total (sum_over k F') x +ℤ total (F w) x) → Three (w < k) (w ≡ k) (k < w) → total (sum_over k F ++ F k) x +ℤ total (F' w) x ≡ total (sum_over k F' ++ F' k) x +ℤ total (F w) x
    pick ih (is_less b) = omega (arith, ints, total_append (sum_over k F) (F k) x, total_append (sum_over k F') (F' k) x, ih b, h k (λ e. omega arith))
    pick ih (is_equal b) =
        omega (
          arith,
          ints,
          total_append (sum_over k F) (F k) x,
          total_append (sum_over k F') (F' k) x,
          sum_same x F F' k (λ v l'. h v (λ e. omega arith)),
          ap (λ (v : ℕ). total (F v) x) b,
          ap (λ (v : ℕ). total (F' v) x) b,
        )
    pick ih (is_greater b) = absurd (omega arith)
