use Rattle.std.proofs.Common.{◌≡◌, ◌∙◌, ◌<◌, ◌^◌, ℕ, length, vec_len, replicate, Option, None, Some, refl, ap, sym, subst}
use Rattle.sdmp_laws.specs.Canonical.{Polynomial, IsCanonical}
use Rattle.division_laws.specs.Outcome.{division_of}
use Rattle.dividing_rounds.specs.Runs.{run_start}
use Rattle.ring_heads.specs.declared.head.HeadOf.TheVariants as head
use Rattle.divide_merge.specs.Divisors.{IsDivisor}
use Rattle.divide_merge.specs.declared.mark.Mark.{Mark}
use Rattle.divide_merge.proofs.Beginning.{Begins, begins_with, run_with}
use denote.Param.{copied}
use Rattle.std.specs.contracts.prelude.OptionClone.TheImpl.{by_variants}
use Rattle.divide_merge.proofs.merge.DivideMerge.new.Given as given
use Rattle.divide_merge.proofs.merge.DivideMerge.new.Goals as goal

-- what is a copy of the empty mark is the empty mark
no_top : {M : Type 0} (P : Option M → Type 0) → ((z : M) → P (Some z) → ⊥) → (known : ℕ) (top : Option M) → known ≡ 0 → P top → ◌≡◌ {A = Mark M} (record { known = known; top = top }) (record { known = 0; top = None })
no_top P n known None e p = ap (λ (k : ℕ). record { known = k; top = None }) e
no_top P n known (Some z) e p = absurd (n z p)

long : (g : given.Over) (c : goal.After-new-3 g) → length c.args.readers.items ≡ vec_len c.args.readers
long g c = sym c.args.readers.ok.0

begun : (g : given.Over) (c : goal.After-new-3 g) (i j : ℕ) → Begins g.M.Monomial.vector g.R.CoeffRing.value g.R.CoeffRing.belongs g.M.Monomial.order g.M.Monomial.VARS g.M.Monomial.LIM (g.R.CoeffRing.characteristic c.ring-coefficients.result) i j (division_of c.args.mode g.M.Monomial.order g.M.Monomial.VARS c.args.f.now c.args.g.now) c.args.readers.items c.args.writer c.divisor_of-divisor.result c.in_ok-dividend.dividend
begun g c i j =
    let r = c.requires in
    let ring = c.ring-coefficients.ensures in
    let copied = c.dividend.view_is ∙ c.in_ok-dividend.ensures in record {
      some = subst (λ (n : ℕ). 0 < n) (sym (long g c)) r.some;
      few = subst (λ (n : ℕ). n < 2 ^ 32) (sym (long g c)) r.few;
      scripts = r.scripts;
      fit = record {
        dividend = subst (λ (y : Polynomial). IsCanonical g.M.Monomial.order y.modulus g.M.Monomial.VARS g.M.Monomial.LIM y.list) copied c.dividend.invariant.0;
        divisor = subst (λ (m : ℕ). IsCanonical g.M.Monomial.order m g.M.Monomial.VARS g.M.Monomial.LIM c.args.g.now.list) (sym r.moduli) c.divisor_of-divisor.ensures.canonical;
        accepted = r.accepted;
        few_dividend = r.few_dividend;
        few_divisor = r.few_divisor;
      };
      ordered = refl;
      variables = refl;
      modulus = r.moduli ∙ sym ring;
      reading = r.reading;
      nothing = r.nothing;
      publishing = r.publishing;
      row = r.row;
      unpublished = r.unpublished;
      divisor_is = subst (λ (m : ℕ). IsDivisor g.M.Monomial.vector g.R.CoeffRing.value (g.R.CoeffRing.belongs m) g.M.Monomial.LIM (division_of c.args.mode g.M.Monomial.order g.M.Monomial.VARS c.args.f.now c.args.g.now) c.divisor_of-divisor.result) (sym ring) c.divisor_of-divisor.ensures.kept;
      dividend_is = c.in_ok-dividend.ensures ∙ ap (λ (m : ℕ). record { modulus = m; list = c.args.f.now.list }) (r.moduli ∙ sym ring);
    }

no_heads : (g : given.Over) (c : goal.After-new-3 g) → c.in_ok-heads.heads ≡ replicate (length c.args.readers.items) head.Missing
no_heads g c = c.in_ok-heads.ensures ∙ ap (λ (n : ℕ). replicate n head.Missing) (c.len.ensures ∙ sym (long g c))

no_marks : (g : given.Over) (c : goal.After-new-3 g) → c.in_ok-marks.marks.items ≡ replicate (length c.args.readers.items) (record { known = 0; top = None })
no_marks g c = c.in_ok-marks.ensures.items_if_clones_equal (λ y h. no_top (by_variants (copied 1 g.row.M) g.M.Clone g.M.Clone-dict g.M.Clone-dict None) (λ z p. p) y.known y.top h.0 h.1) ∙ ap (λ (n : ℕ). replicate n (record { known = 0; top = None })) (c.len-2.ensures ∙ sym (long g c))

pub invariant_of-result : goal.invariant_of-result
invariant_of-result g c =
    begins_with g.M.Monomial.vector g.R.CoeffRing.value g.R.CoeffRing.belongs g.M.Monomial.order g.M.Monomial.VARS g.M.Monomial.LIM (g.R.CoeffRing.characteristic c.ring-coefficients.result) _ _ _ _ _ _ _ (begun g c _ _) _ _ _ _ (no_heads g c) (no_marks g c) c.new-2.ensures.items c.new-3.ensures.items

pub returns-clause-run : goal.returns-clause-run
returns-clause-run g c =
    run_with g.M.Monomial.vector g.R.CoeffRing.value g.R.CoeffRing.belongs g.M.Monomial.order g.M.Monomial.VARS g.M.Monomial.LIM (g.R.CoeffRing.characteristic c.ring-coefficients.result) 0 0 _ _ _ _ _ (begun g c 0 0) _ _ _ _ (no_heads g c) (no_marks g c) c.new-2.ensures.items c.new-3.ensures.items
    ∙ ap (run_start (division_of c.args.mode g.M.Monomial.order g.M.Monomial.VARS c.args.f.now c.args.g.now)) (long g c)
