-- What a merge of a division that has finished gives.
use Rattle.std.proofs.Common.{◌≡◌, ◌≢◌, ℕ, zero, suc, ◌*◌, ◌≤◌, ℤ, pos, negsuc, neg_ℤ, List, [], ◌∷◌, ◌++◌, Option, Some, None, unsigned_abs, refl, sym, ap, ◌∙◌, subst, arith}
use Rattle.std.proofs.Math.Nat.{mul-le-mul}
use Rattle.sdmp_laws.specs.Order.{Order}
use Rattle.sdmp_laws.specs.Poly.{Term, times, terms, minus, negated, term_neg, norm, lc, AllDegrees, IsPoly}
use Rattle.sdmp_laws.specs.Canonical.{IsCanonical}
use Rattle.sdmp_laws.specs.Division.{Division}
use Rattle.sdmp_laws.specs.DivisionLaws.{rest_list}
use Rattle.sdmp_laws.specs.LongDivision.{quotient_list}
use Rattle.sdmp_laws.specs.declared.Mode.{Mode}
use Rattle.sdmp_laws.specs.declared.Mode.TheVariants.{Exact, Remainder}
use Rattle.sdmp_laws.proofs.Parts.{norm_nil, norm_cons, norm_append, norm_times}
use Rattle.sdmp_laws.proofs.TermsLemmas.{nil_poly}
use Rattle.sdmp_laws.proofs.NormLemmas.{terms_norm}
use Rattle.sdmp_laws.proofs.DegreeLemmas.{degree_laws, degrees_append, degrees_negated}
use Rattle.sdmp_laws.proofs.DivisionLemmas.{lead_nonzero}
use Rattle.sdmp_laws.proofs.LongLemmas.{remainder_unique, abs_neg}
use Rattle.divide_wholes.specs.Wholes.{DivideState, DivideWhole, IsFinished, RemainderFits}
use Rattle.divide_wholes.proofs.Candidate.{quotient_poly, finished_is_right}
use Rattle.divide_core.proofs.DividingSteps.{not_passed}
use Rattle.dividing_rounds.specs.Stalls.{IsGreatestRead, GoesOn}
use Rattle.divide_merge.specs.Names.{IsFit}
use Rattle.std.specs.Option.{IfSome}
use Rattle.divide_merge.specs.Verdicts.{NoneStuck, Verdict, Finishes, IsVerdict, IsFinal}
use Rattle.divide_merge.specs.Merges.{IsEnding, free_places}
use Rattle.divide_merge.specs.Inside.{Held, answer_of, divide_state, divide_view, IsDivideMerge}
use Rattle.dividing_rounds.proofs.StallLemmas.{nobody_stuck}
use Rattle.divide_merge.proofs.Degrees.{quotient_low, products_low}

-- ---- norms and degrees of a difference
norm_negated : (A : List Term) → norm (negated A) ≡ norm A
unfolding negated term_neg
norm_negated [] = refl
norm_negated (t ∷ A) =
    let c = norm_cons t A in
    let n = norm_cons (record { monomial = t.monomial; coefficient = neg_ℤ t.coefficient }) (negated A) in
    let a = abs_neg t.coefficient in
    let i = norm_negated A in
    omega arith

-- ---- the divisor has a norm
pub norm_some : (g : List Term) → (lc g ≢ pos 0) → 1 ≤ norm g
unfolding lc
norm_some [] n = absurd (n refl)
norm_some (t ∷ g) n = let c = norm_cons t g in let a = abs_some t.coefficient n in omega arith
  where
    abs_some : (c : ℤ) → (c ≢ pos 0) → 1 ≤ unsigned_abs c
    abs_some (pos zero) k = absurd (k refl)
    abs_some (pos (suc i)) k = omega arith
    abs_some (negsuc i) k = omega arith

module _ (lim : ℕ) (s : DivideState) (fit : IsFit lim s.division) (whole : DivideWhole s) (read : IsGreatestRead s None) (heard : NoneStuck s None) where
  abbrev d : Division
  d = s.division

  finished : IsFinished s
  unfolding GoesOn
  finished = nobody_stuck s None fit.accepted whole read heard

  pub ending : IsEnding s.division s.q s.r
  ending = let f = finished_is_right s fit.accepted whole finished in record { all = f.0; exact = f.1; remainder = f.2 }

  pub quotient_canonical : IsCanonical s.division.ord s.division.p s.division.n lim s.q
  quotient_canonical = record {
    poly = subst (IsPoly d.ord d.p d.n) (sym ending.all) (quotient_poly d fit.accepted);
    degrees = quotient_low lim d fit s.q whole.quotient;
    norm_fits = λ z.
        let b = not_passed d s.q z whole.within in
        let g = norm_some d.g (lead_nonzero d fit.accepted) in
        let m = mul-le-mul (let e : norm s.q ≤ norm s.q = omega arith in e) g in
        omega arith;
  }

  -- ---- the remainder
  rest_canonical : IsPoly d.ord d.p d.n s.r → s.r ≡ rest_list d → IsCanonical d.ord d.p d.n lim s.r
  unfolding rest_list minus
  rest_canonical i e =
      let F : List Term = d.f ++ negated (times (quotient_list d) d.g) in
      let low = degrees_append lim d.f (negated (times (quotient_list d) d.g)) fit.dividend.degrees (degrees_negated lim (times (quotient_list d) d.g) (products_low lim d fit d.g ((degree_laws d.ord d.p d.n).0 d.g fit.divisor.poly))) in record {
        poly = i;
        degrees = subst (AllDegrees lim) (sym e) ((degree_laws d.ord d.p d.n).2 lim F low);
        norm_fits = λ z.
            let b = not_passed d s.q z whole.within in
            let t = terms_norm d.ord F in
            let a = norm_append d.f (negated (times (quotient_list d) d.g)) in
            let n = norm_negated (times (quotient_list d) d.g) in
            let m = norm_times (quotient_list d) d.g in
            let q = ap (λ (L : List Term). norm L * norm d.g) ending.all in
            let r = ap norm e ∙ ap (λ (i : ℕ). norm (terms d.ord i F)) z in
            omega arith;
      }

  nothing_canonical : s.r ≡ [] → IsCanonical d.ord d.p d.n lim s.r
  unfolding AllDegrees
  nothing_canonical e = subst (IsCanonical d.ord d.p d.n lim) (sym e) (record { poly = nil_poly d.ord d.p d.n; degrees = tt; norm_fits = λ z. let n = norm_nil in omega arith })

  pub remainder_canonical : IsCanonical s.division.ord s.division.p s.division.n lim s.r
  unfolding RemainderFits
  remainder_canonical = pick d.mode refl
    where
      pick : (m : Mode) → d.mode ≡ m → IsCanonical d.ord d.p d.n lim s.r
      pick Exact e = nothing_canonical (subst (λ (m : Mode). RemainderFits m d s.r) e whole.remainder)
      pick Remainder e = rest_canonical (ending.remainder e).remainder ((remainder_unique d fit.accepted e).1 s.q s.r (ending.remainder e)).1

pub ending_as : (d e : Division) (q q' r r' : List Term) → d ≡ e → q' ≡ q → r' ≡ r → IsEnding d q r → IsEnding e q' r'
ending_as d e q q' r r' i j k x =
    subst (λ (y : Division). IsEnding y q' r') i (subst (λ (y : List Term). IsEnding d y r') (sym j) (subst (IsEnding d q) (sym k) x))

module _ {X M E : Type 0} (vector : M → List ℕ) (value : E → ℤ) (belongs : ℕ → E → Type 0) (ord : Order) (n lim p quotient_room rest_room : ℕ) where
  module _ (h : Held X M E) (k : IsDivideMerge vector value belongs ord n lim p quotient_room rest_room h) (e : answer_of vector value h.over ≡ Some Finishes) where
    abbrev s : DivideState
    s = divide_state vector value h

    done : IsGreatestRead s None × NoneStuck s None
    unfolding IsVerdict
    done = (subst (λ (o : Option Verdict). IfSome o (λ x. IsFinal x × IsVerdict s (free_places (divide_view vector value h)) h.spare x)) e k.cause).1

    placed : (L : List Term) → IsCanonical s.division.ord s.division.p s.division.n lim L → IsCanonical ord p n lim L
    placed L c =
        subst (λ (o : Order). IsCanonical o p n lim L) k.made_for.ordered
        (subst (λ (m : ℕ). IsCanonical s.division.ord p m lim L) k.made_for.variables
        (subst (λ (i : ℕ). IsCanonical s.division.ord i s.division.n lim L) k.made_for.modulus c))

    pub gives : IsEnding s.division s.q s.r
    gives = ending lim s k.made_for.fit k.whole.whole done.0 done.1

    pub quotient_is : IsCanonical ord p n lim s.q
    quotient_is = placed s.q (quotient_canonical lim s k.made_for.fit k.whole.whole done.0 done.1)

    pub remainder_is : IsCanonical ord p n lim s.r
    remainder_is = placed s.r (remainder_canonical lim s k.made_for.fit k.whole.whole done.0 done.1)
