use Rattle.std.proofs.Common.{◌≡◌, ◌≢◌, ◌+◌, ◌-◌, ◌*◌, ◌<◌, ◌≤◌, ◌++◌, ◌∷◌, ℕ, pos, List, [], length, drop, true≢false, eqb, eqb-true, eq-eqb, IsTrue, All, refl, sym, ap, ◌∙◌, subst, arith}
use Rattle.std.specs.List.Sorted.{IsPermutation}
use Rattle.std.proofs.lemmas.Result.{err_from_is_err_and}
use Rattle.std.proofs.lemmas.List.Elements.{All-nil, All-push}
use Rattle.sdmp_laws.specs.Order.{degree}
use Rattle.sdmp_laws.specs.Ring.{red}
use Rattle.sdmp_laws.specs.Poly.{Term, norm, row, lm, lc, Decreasing}
use Rattle.sdmp_laws.specs.Canonical.{IsCanonical}
use Rattle.sdmp_laws.specs.LongDivision.{quotient_list}
use Rattle.sdmp_laws.specs.declared.Mode.TheVariants.{Exact, Remainder}
use Rattle.std.proofs.lemmas.List.{length_push}
use Rattle.sdmp_laws.proofs.Parts.{norm_nil, norm_cons, norm_append}
use Rattle.sdmp_laws.proofs.DivisionLemmas.{lead_nonzero, turns_poly}
use Rattle.sdmp_laws.proofs.LongLemmas.{prefix_begins}
use Rattle.row_merge.proofs.RowLists.{long_sum}
use Rattle.canonical_terms.specs.View.{term_of, sum_of}
use Rattle.row_merge.specs.Learned.{QuotientState}
use Rattle.row_merge.proofs.LearnedRows.{push_sum}
use Rattle.division_laws.specs.Outcome.{division_of, IsOutcome, HasQuotient, HasRemainder}
use mathlib.Core.List.{IsPrefix}
use Rattle.sdmp_laws.specs.Limits.{PassesBound}
use Rattle.divide_core.specs.Dividing.{TakesNext, IsTermQuotient}
use Rattle.divide_core.proofs.DividingSteps.{begins, fewer, turn_zero, turn_kept, turn_found, found_begun, none_fits, degree_here, size_here, not_passed}
use Rattle.divide_core.proofs.Loop.{all_rows, taken_smaller, found_smaller, found_measure, known_below, bound_answers, bound_kept}
use Rattle.divide_core.proofs.Ends.{quotient_canonical, quotient_norm, rest_canonical, exact_ends, remainder_ends, other, no_fit_outside, fit_degree, fit_size, fit_same, dividing_same}
use Rattle.sdmp_laws.proofs.ListLemmas.{each_degree}
use Rattle.divide_core.proofs.alone.divide_rows.Given as given
use Rattle.divide_core.proofs.alone.divide_rows.Goals as goal
use Rattle.divide_core.proofs.alone.divide_rows.Goals.{In-Some, In_default-find, In-Some-find, After-with_term, In_ok-norm, After-reserve, After-learn}

-- ---- what the goals share
-- a term is taken
record Taken (g : given.Over) (c : In-Some g) : Type 0 where
  next : TakesNext g.M.Monomial.order c.args.f.now.modulus (sum_of g.M.Monomial.vector g.R.CoeffRing.value (drop c.loop-term.read c.args.terms.now)) (sum_of g.M.Monomial.vector g.R.CoeffRing.value (drop c.take_next.new.read c.args.terms.now)) c.loop-term.rows.unread c.take_next.new.rows.unread (term_of g.M.Monomial.vector g.R.CoeffRing.value c.in-Some.term)
  learned : c.loop-term.rows.learned ≡ c.take_next.new.rows.learned
  rows : c.take_next.new.rows.rows ≡ c.loop-term.rows.rows
  divisor : c.take_next.new.rows.divisor ≡ c.args.g.now.list
  modulus : c.take_next.new.rows.modulus ≡ c.args.g.now.modulus

taken : (g : given.Over) (c : In-Some g) → Taken g c
taken g c = record {
  next = subst (λ (p : ℕ). TakesNext g.M.Monomial.order p (sum_of g.M.Monomial.vector g.R.CoeffRing.value (drop c.loop-term.read c.args.terms.now)) (sum_of g.M.Monomial.vector g.R.CoeffRing.value (drop c.take_next.new.read c.args.terms.now)) c.loop-term.rows.unread c.take_next.new.rows.unread (term_of g.M.Monomial.vector g.R.CoeffRing.value c.in-Some.term)) (c.ring-ring.ensures ∙ sym c.requires.moduli) c.in-Some.ensures.next;
  learned = sym (ap (λ (x : QuotientState). x.learned) c.take_next.ensures.rows);
  rows = ap (λ (x : QuotientState). x.rows) c.take_next.ensures.rows;
  divisor = ap (λ (x : QuotientState). x.divisor) c.take_next.ensures.rows ∙ c.loop-term.invariant.divisor;
  modulus = ap (λ (x : QuotientState). x.modulus) c.take_next.ensures.rows ∙ c.loop-term.invariant.modulus;
}

-- no term is learned, and the measure falls
passed : (g : given.Over) (c : In-Some g) → length (sum_of g.M.Monomial.vector g.R.CoeffRing.value (drop c.take_next.new.read c.args.terms.now)) + (length c.take_next.new.rows.unread + (length (quotient_list (division_of c.args.mode g.M.Monomial.order g.M.Monomial.VARS c.args.f.now c.args.g.now)) - length c.take_next.new.rows.learned) * length c.take_next.new.rows.rows) < length (sum_of g.M.Monomial.vector g.R.CoeffRing.value (drop c.loop-term.read c.args.terms.now)) + (length c.loop-term.rows.unread + (length (quotient_list (division_of c.args.mode g.M.Monomial.order g.M.Monomial.VARS c.args.f.now c.args.g.now)) - length c.loop-term.rows.learned) * length c.loop-term.rows.rows)
passed g c =
    let k = taken g c in
    taken_smaller (length (sum_of g.M.Monomial.vector g.R.CoeffRing.value (drop c.loop-term.read c.args.terms.now))) (length c.loop-term.rows.unread) (length (sum_of g.M.Monomial.vector g.R.CoeffRing.value (drop c.take_next.new.read c.args.terms.now))) (length c.take_next.new.rows.unread) (length (quotient_list (division_of c.args.mode g.M.Monomial.order g.M.Monomial.VARS c.args.f.now c.args.g.now))) (length c.loop-term.rows.learned) (length c.take_next.new.rows.learned) (length c.loop-term.rows.rows) (length c.take_next.new.rows.rows)
    (fewer g.M.Monomial.order c.args.f.now.modulus (sum_of g.M.Monomial.vector g.R.CoeffRing.value (drop c.loop-term.read c.args.terms.now)) c.loop-term.rows.unread (sum_of g.M.Monomial.vector g.R.CoeffRing.value (drop c.take_next.new.read c.args.terms.now)) c.take_next.new.rows.unread (term_of g.M.Monomial.vector g.R.CoeffRing.value c.in-Some.term) k.next) (sym (ap length k.learned)) (ap length k.rows)

-- no term fits
record Unfit (g : given.Over) (c : In_default-find g) : Type 0 where
  nonzero : g.R.CoeffRing.value c.in-Some.term.coef ≢ pos 0
  none : (x : Term) → IsTermQuotient c.args.f.now.modulus (lm c.args.g.now.list) (lc c.args.g.now.list) (term_of g.M.Monomial.vector g.R.CoeffRing.value c.in-Some.term) x → ⊥

unfit : (g : given.Over) (c : In_default-find g) → Unfit g c
unfit g c = record {
  nonzero = λ z. true≢false (sym (c.is_zero.ensures.1 z) ∙ c.if-is_zero.false);
  none = λ x f. c.in_default-find.ensures x (fit_same c.args.f.now.modulus (g.R.CoeffRing.characteristic c.ring-ring.result) (lm c.args.g.now.list) (g.M.Monomial.vector c.args.lead.term.mono) (lc c.args.g.now.list) (g.R.CoeffRing.value c.args.lead.term.coef) (term_of g.M.Monomial.vector g.R.CoeffRing.value c.in-Some.term) x (sym (c.ring-ring.ensures ∙ sym c.requires.moduli)) (sym c.requires.leading.monomial) (sym c.requires.leading.coefficient) f);
}

-- a term is found, which continues the list of quotient terms
record Found (g : given.Over) (c : In-Some-find g) : Type 0 where
  nonzero : g.R.CoeffRing.value c.in-Some.term.coef ≢ pos 0
  fit : IsTermQuotient c.args.f.now.modulus (lm c.args.g.now.list) (lc c.args.g.now.list) (term_of g.M.Monomial.vector g.R.CoeffRing.value c.in-Some.term) (term_of g.M.Monomial.vector g.R.CoeffRing.value c.in-Some-find.found)
  begun : TakesNext g.M.Monomial.order c.args.f.now.modulus (sum_of g.M.Monomial.vector g.R.CoeffRing.value (drop c.loop-term.read c.args.terms.now)) (sum_of g.M.Monomial.vector g.R.CoeffRing.value (drop c.take_next.new.read c.args.terms.now)) c.loop-term.rows.unread c.take_next.new.rows.unread (term_of g.M.Monomial.vector g.R.CoeffRing.value c.in-Some.term) → IsPrefix (c.loop-term.rows.learned ++ (term_of g.M.Monomial.vector g.R.CoeffRing.value c.in-Some-find.found) ∷ []) (quotient_list (division_of c.args.mode g.M.Monomial.order g.M.Monomial.VARS c.args.f.now c.args.g.now))

found : (g : given.Over) (c : In-Some-find g) → Found g c
found g c =
    let nonzero : g.R.CoeffRing.value c.in-Some.term.coef ≢ pos 0 = λ z. true≢false (sym (c.is_zero.ensures.1 z) ∙ c.if-is_zero.false) in
    let fit : IsTermQuotient c.args.f.now.modulus (lm c.args.g.now.list) (lc c.args.g.now.list) (term_of g.M.Monomial.vector g.R.CoeffRing.value c.in-Some.term) (term_of g.M.Monomial.vector g.R.CoeffRing.value c.in-Some-find.found) = fit_same (g.R.CoeffRing.characteristic c.ring-ring.result) c.args.f.now.modulus (g.M.Monomial.vector c.args.lead.term.mono) (lm c.args.g.now.list) (g.R.CoeffRing.value c.args.lead.term.coef) (lc c.args.g.now.list) (term_of g.M.Monomial.vector g.R.CoeffRing.value c.in-Some.term) (term_of g.M.Monomial.vector g.R.CoeffRing.value c.in-Some-find.found) (c.ring-ring.ensures ∙ sym c.requires.moduli) c.requires.leading.monomial c.requires.leading.coefficient c.in-Some-find.ensures.1 in
    record { nonzero = nonzero; fit = fit; begun = λ k. found_begun (division_of c.args.mode g.M.Monomial.order g.M.Monomial.VARS c.args.f.now c.args.g.now) g.M.Monomial.LIM c.loop-term.rows.learned (sum_of g.M.Monomial.vector g.R.CoeffRing.value c.loop-term.rest.items) (sum_of g.M.Monomial.vector g.R.CoeffRing.value (drop c.loop-term.read c.args.terms.now)) c.loop-term.rows.unread (sum_of g.M.Monomial.vector g.R.CoeffRing.value (drop c.take_next.new.read c.args.terms.now)) c.take_next.new.rows.unread (term_of g.M.Monomial.vector g.R.CoeffRing.value c.in-Some.term) (term_of g.M.Monomial.vector g.R.CoeffRing.value c.in-Some-find.found) c.requires.accepted c.loop-term.invariant.dividing k nonzero fit }

-- the bounds are asked
record Asked (g : given.Over) (c : After-with_term g) : Type 0 where
  from_test : IsTrue (eqb c.modulus.result 0) → c.args.f.now.modulus ≡ 0
  to_test : c.args.f.now.modulus ≡ 0 → IsTrue (eqb c.modulus.result 0)
  size : c.args.f.now.modulus ≡ 0 → c.loop-term.norm + c.size.result ≡ norm (c.loop-term.rows.learned ++ (term_of g.M.Monomial.vector g.R.CoeffRing.value c.in-Some-find.found) ∷ [])
  count : c.len.result + 1 ≡ length (c.loop-term.rows.learned ++ (term_of g.M.Monomial.vector g.R.CoeffRing.value c.in-Some-find.found) ∷ [])

asked : (g : given.Over) (c : After-with_term g) → Asked g c
asked g c = record {
  from_test = λ o. sym (c.ring-ring.ensures ∙ sym c.requires.moduli) ∙ sym c.modulus.ensures ∙ eqb-true c.modulus.result 0 o;
  to_test = λ z. eq-eqb c.modulus.result 0 (c.modulus.ensures ∙ (c.ring-ring.ensures ∙ sym c.requires.moduli) ∙ z);
  size = λ z. omega (arith, c.loop-term.invariant.norm_is (sym c.requires.moduli ∙ z), c.size.ensures, norm_append c.loop-term.rows.learned ((term_of g.M.Monomial.vector g.R.CoeffRing.value c.in-Some-find.found) ∷ []), norm_cons (term_of g.M.Monomial.vector g.R.CoeffRing.value c.in-Some-find.found) [], norm_nil);
  count = omega (arith, c.len.ensures, c.loop-term.quotient.ok, long_sum g.M.Monomial.vector g.R.CoeffRing.value c.loop-term.quotient.items, ap length c.loop-term.invariant.quotient, length_push c.loop-term.rows.learned (term_of g.M.Monomial.vector g.R.CoeffRing.value c.in-Some-find.found));
}

-- none is passed
record Kept (g : given.Over) (c : In_ok-norm g) : Type 0 where
  longer : c.args.f.now.modulus ≡ 0 → c.in_ok-norm.norm ≡ norm (c.loop-term.rows.learned ++ (term_of g.M.Monomial.vector g.R.CoeffRing.value c.in-Some-find.found) ∷ [])
  within : PassesBound (division_of c.args.mode g.M.Monomial.order g.M.Monomial.VARS c.args.f.now c.args.g.now) (c.loop-term.rows.learned ++ (term_of g.M.Monomial.vector g.R.CoeffRing.value c.in-Some-find.found) ∷ []) → ⊥

kept : (g : given.Over) (c : In_ok-norm g) → (c.args.f.now.modulus ≡ 0 → IsTrue (eqb c.modulus.result 0)) → (c.args.f.now.modulus ≡ 0 → c.loop-term.norm + c.size.result ≡ norm (c.loop-term.rows.learned ++ (term_of g.M.Monomial.vector g.R.CoeffRing.value c.in-Some-find.found) ∷ [])) → c.len.result + 1 ≡ length (c.loop-term.rows.learned ++ (term_of g.M.Monomial.vector g.R.CoeffRing.value c.in-Some-find.found) ∷ []) → Kept g c
kept g c to_test size count =
    let longer : c.args.f.now.modulus ≡ 0 → c.in_ok-norm.norm ≡ norm (c.loop-term.rows.learned ++ (term_of g.M.Monomial.vector g.R.CoeffRing.value c.in-Some-find.found) ∷ []) = λ z. (c.in_ok-norm.ensures.0 (to_test z)).0 ∙ size z in
    record {
      longer = longer;
      within = bound_kept (division_of c.args.mode g.M.Monomial.order g.M.Monomial.VARS c.args.f.now c.args.g.now) c.loop-term.rows.learned (term_of g.M.Monomial.vector g.R.CoeffRing.value c.in-Some-find.found) (eqb c.modulus.result 0) c.in_ok-norm.norm (c.len.result + 1) c.norm.result c.norm-2.result c.loop-term.invariant.dividing.within to_test c.norm.ensures.value c.norm-2.ensures.value longer count (λ o. (c.in_ok-norm.ensures.0 o).1) c.in_ok-norm.ensures.1;
    }

-- there is room for it
record Reserved (g : given.Over) (c : After-reserve g) : Type 0 where
  learned : c.loop-term.rows.learned ≡ c.reserve.new.self.learned
  divisor : c.reserve.new.self.divisor ≡ c.args.g.now.list
  modulus : c.reserve.new.self.modulus ≡ c.args.g.now.modulus
  rows : c.reserve.new.self.rows ≡ c.loop-term.rows.rows
  owed : c.reserve.new.self.unread ≡ c.take_next.new.rows.unread

reserved : (g : given.Over) (c : After-reserve g) → c.loop-term.rows.learned ≡ c.take_next.new.rows.learned → c.take_next.new.rows.rows ≡ c.loop-term.rows.rows → c.take_next.new.rows.divisor ≡ c.args.g.now.list → c.take_next.new.rows.modulus ≡ c.args.g.now.modulus → Reserved g c
reserved g c learned rows divisor modulus = record {
  learned = learned ∙ sym (ap (λ (x : QuotientState). x.learned) c.reserve.ensures.same);
  divisor = ap (λ (x : QuotientState). x.divisor) c.reserve.ensures.same ∙ divisor;
  modulus = ap (λ (x : QuotientState). x.modulus) c.reserve.ensures.same ∙ modulus;
  rows = ap (λ (x : QuotientState). x.rows) c.reserve.ensures.same ∙ rows;
  owed = ap (λ (x : QuotientState). x.unread) c.reserve.ensures.same;
}

-- it is learned
record Learned (g : given.Over) (c : After-learn g) : Type 0 where
  learned : c.learn.new.self.learned ≡ c.loop-term.rows.learned ++ (term_of g.M.Monomial.vector g.R.CoeffRing.value c.in-Some-find.found) ∷ []
  owed : IsPermutation (c.take_next.new.rows.unread ++ row (term_of g.M.Monomial.vector g.R.CoeffRing.value c.in-Some-find.found) c.loop-term.rows.rows) c.learn.new.self.unread

learned : (g : given.Over) (c : After-learn g) → c.loop-term.rows.learned ≡ c.reserve.new.self.learned → c.reserve.new.self.rows ≡ c.loop-term.rows.rows → c.reserve.new.self.unread ≡ c.take_next.new.rows.unread → Learned g c
learned g c still rows owed = record {
  learned = c.learn.ensures.learned ∙ ap (λ (A : List Term). A ++ (term_of g.M.Monomial.vector g.R.CoeffRing.value c.in-Some-find.found) ∷ []) (sym still);
  owed = subst (λ (A : List Term). IsPermutation (A ++ row (term_of g.M.Monomial.vector g.R.CoeffRing.value c.in-Some-find.found) c.loop-term.rows.rows) c.learn.new.self.unread) owed (subst (λ (A : List Term). IsPermutation (c.reserve.new.self.unread ++ row (term_of g.M.Monomial.vector g.R.CoeffRing.value c.in-Some-find.found) A) c.learn.new.self.unread) rows c.learn.ensures.unread);
}

-- ---- the goals
pub loop-term-init : goal.loop-term-init
loop-term-init g c =
    let canonical = c.requires.terms.canonical in
    let state = c.in_ok-rows.ensures in
    let none : c.in_ok-rows.rows.learned ≡ [] = ap (λ (x : QuotientState). x.learned) state in
    record {
      dividing = dividing_same (division_of c.args.mode g.M.Monomial.order g.M.Monomial.VARS c.args.f.now c.args.g.now) g.M.Monomial.LIM [] c.in_ok-rows.rows.learned [] (sum_of g.M.Monomial.vector g.R.CoeffRing.value c.new-rest.result.items) c.args.f.now.list (sum_of g.M.Monomial.vector g.R.CoeffRing.value c.args.terms.now) [] c.in_ok-rows.rows.unread (sym none) (sym (ap (sum_of g.M.Monomial.vector g.R.CoeffRing.value) c.new-rest.ensures.items)) (sym c.requires.terms.view) (sym (ap (λ (x : QuotientState). x.unread) state))
          (begins (division_of c.args.mode g.M.Monomial.order g.M.Monomial.VARS c.args.f.now c.args.g.now) g.M.Monomial.LIM c.requires.accepted canonical.norm_fits (each_degree g.M.Monomial.LIM c.args.f.now.list canonical.degrees));
      quotient = ap (sum_of g.M.Monomial.vector g.R.CoeffRing.value) c.new-quotient.ensures.items ∙ sym none;
      quotient_belongs = subst (λ ts. All (λ t. g.R.CoeffRing.belongs c.args.g.now.modulus t.coef) ts) (sym c.new-quotient.ensures.items) (All-nil _);
      rest_belongs = subst (λ ts. All (λ t. g.R.CoeffRing.belongs c.args.g.now.modulus t.coef) ts) (sym c.new-rest.ensures.items) (All-nil _);
      quotient_low = subst (λ (A : List Term). All (λ t. degree t.monomial ≤ g.M.Monomial.LIM) A) (sym none) (All-nil _);
      modulus = ap (λ (x : QuotientState). x.modulus) state;
      divisor = ap (λ (x : QuotientState). x.divisor) state;
      later = ap (λ (x : QuotientState). x.rows) state;
      read = omega arith;
      norm_is = λ z. sym (ap norm none ∙ norm_nil);
    }

pub loop-term-smaller-then-is_zero : goal.loop-term-smaller-then-is_zero
loop-term-smaller-then-is_zero g c = passed g (goal.at.loop-term-smaller-then-is_zero g c).In-Some

pub loop-term-preserved-then-is_zero : goal.loop-term-preserved-then-is_zero
loop-term-preserved-then-is_zero g c =
    let k = taken g (goal.at.loop-term-preserved-then-is_zero g c).In-Some in
    let inv = c.loop-term.invariant in
    record {
      dividing = dividing_same (division_of c.args.mode g.M.Monomial.order g.M.Monomial.VARS c.args.f.now c.args.g.now) g.M.Monomial.LIM c.loop-term.rows.learned c.take_next.new.rows.learned (sum_of g.M.Monomial.vector g.R.CoeffRing.value c.loop-term.rest.items) (sum_of g.M.Monomial.vector g.R.CoeffRing.value c.loop-term.rest.items) (sum_of g.M.Monomial.vector g.R.CoeffRing.value (drop c.take_next.new.read c.args.terms.now)) (sum_of g.M.Monomial.vector g.R.CoeffRing.value (drop c.take_next.new.read c.args.terms.now)) c.take_next.new.rows.unread c.take_next.new.rows.unread k.learned refl refl refl (turn_zero (division_of c.args.mode g.M.Monomial.order g.M.Monomial.VARS c.args.f.now c.args.g.now) g.M.Monomial.LIM c.loop-term.rows.learned (sum_of g.M.Monomial.vector g.R.CoeffRing.value c.loop-term.rest.items) (sum_of g.M.Monomial.vector g.R.CoeffRing.value (drop c.loop-term.read c.args.terms.now)) c.loop-term.rows.unread (sum_of g.M.Monomial.vector g.R.CoeffRing.value (drop c.take_next.new.read c.args.terms.now)) c.take_next.new.rows.unread (term_of g.M.Monomial.vector g.R.CoeffRing.value c.in-Some.term) inv.dividing k.next (c.is_zero.ensures.0 c.if-is_zero.true));
      quotient = inv.quotient ∙ k.learned;
      quotient_belongs = inv.quotient_belongs;
      rest_belongs = inv.rest_belongs;
      quotient_low = subst (λ (A : List Term). All (λ t. degree t.monomial ≤ g.M.Monomial.LIM) A) k.learned inv.quotient_low;
      modulus = k.modulus;
      divisor = k.divisor;
      later = k.rows ∙ inv.later;
      read = c.in-Some.ensures.read;
      norm_is = λ z. inv.norm_is z ∙ ap norm k.learned;
    }

pub find-requires-clause-nonzero : goal.find-requires-clause-nonzero
find-requires-clause-nonzero g c κs within = λ z. lead_nonzero (division_of c.args.mode g.M.Monomial.order g.M.Monomial.VARS c.args.f.now c.args.g.now) c.requires.accepted (sym c.requires.leading.coefficient ∙ z)

pub find-requires-clause-term_low : goal.find-requires-clause-term_low
find-requires-clause-term_low g c κs within =
    let k = taken g (goal.at.find-requires-clause-term_low g c).In-Some in
    degree_here (division_of c.args.mode g.M.Monomial.order g.M.Monomial.VARS c.args.f.now c.args.g.now) g.M.Monomial.LIM c.loop-term.rows.learned (sum_of g.M.Monomial.vector g.R.CoeffRing.value c.loop-term.rest.items) (sum_of g.M.Monomial.vector g.R.CoeffRing.value (drop c.loop-term.read c.args.terms.now)) c.loop-term.rows.unread (sum_of g.M.Monomial.vector g.R.CoeffRing.value (drop c.take_next.new.read c.args.terms.now)) c.take_next.new.rows.unread (term_of g.M.Monomial.vector g.R.CoeffRing.value c.in-Some.term) c.loop-term.invariant.dividing k.next

pub returns-then-is_exact : goal.returns-then-is_exact
unfolding IsOutcome
returns-then-is_exact g c =
    let k = taken g (goal.at.returns-then-is_exact g c).In-Some in
    let u = unfit g (goal.at.returns-then-is_exact g c).In_default-find in
    let m : c.args.mode ≡ Exact = c.is_exact.ensures.0 c.if-is_exact.true in
    let e = none_fits (division_of c.args.mode g.M.Monomial.order g.M.Monomial.VARS c.args.f.now c.args.g.now) g.M.Monomial.LIM c.loop-term.rows.learned (sum_of g.M.Monomial.vector g.R.CoeffRing.value c.loop-term.rest.items) (sum_of g.M.Monomial.vector g.R.CoeffRing.value (drop c.loop-term.read c.args.terms.now)) c.loop-term.rows.unread (sum_of g.M.Monomial.vector g.R.CoeffRing.value (drop c.take_next.new.read c.args.terms.now)) c.take_next.new.rows.unread (term_of g.M.Monomial.vector g.R.CoeffRing.value c.in-Some.term) c.requires.accepted c.loop-term.invariant.dividing k.next m u.nonzero u.none in
    (e.0, m, e.1)

pub loop-term-smaller-in_default-find : goal.loop-term-smaller-in_default-find
loop-term-smaller-in_default-find g c = passed g (goal.at.loop-term-smaller-in_default-find g c).In-Some

pub loop-term-preserved-in_default-find : goal.loop-term-preserved-in_default-find
loop-term-preserved-in_default-find g c =
    let k = taken g (goal.at.loop-term-preserved-in_default-find g c).In-Some in
    let u = unfit g (goal.at.loop-term-preserved-in_default-find g c).In_default-find in
    let rings = g.met.R.CoeffRing g.world.𝓛 g.world.𝓜 g.world.𝓡 ((λ s x. x), (λ x. x), (λ x. x), λ x. x) in
    let inv = c.loop-term.invariant in
    let m : c.args.mode ≡ Remainder = other c.args.mode (λ e. true≢false (sym (c.is_exact.ensures.1 e) ∙ c.if-is_exact.false)) in
    let reduced = subst (λ (p : ℕ). red p (g.R.CoeffRing.value c.in-Some.term.coef) ≡ g.R.CoeffRing.value c.in-Some.term.coef) (c.ring-ring.ensures ∙ sym c.requires.moduli) (rings.reduced c.ring-ring.result c.in-Some.term.coef c.in-Some.ensures.belongs) in
    let items = c.in_ok-push.ensures.items in
    record {
      dividing = dividing_same (division_of c.args.mode g.M.Monomial.order g.M.Monomial.VARS c.args.f.now c.args.g.now) g.M.Monomial.LIM c.loop-term.rows.learned c.take_next.new.rows.learned ((sum_of g.M.Monomial.vector g.R.CoeffRing.value c.loop-term.rest.items) ++ (term_of g.M.Monomial.vector g.R.CoeffRing.value c.in-Some.term) ∷ []) _ (sum_of g.M.Monomial.vector g.R.CoeffRing.value (drop c.take_next.new.read c.args.terms.now)) (sum_of g.M.Monomial.vector g.R.CoeffRing.value (drop c.take_next.new.read c.args.terms.now)) c.take_next.new.rows.unread c.take_next.new.rows.unread k.learned (sym (push_sum g.M.Monomial.vector g.R.CoeffRing.value c.loop-term.rest.items c.push.new.self.items c.in-Some.term items)) refl refl
          (turn_kept (division_of c.args.mode g.M.Monomial.order g.M.Monomial.VARS c.args.f.now c.args.g.now) g.M.Monomial.LIM c.loop-term.rows.learned (sum_of g.M.Monomial.vector g.R.CoeffRing.value c.loop-term.rest.items) (sum_of g.M.Monomial.vector g.R.CoeffRing.value (drop c.loop-term.read c.args.terms.now)) c.loop-term.rows.unread (sum_of g.M.Monomial.vector g.R.CoeffRing.value (drop c.take_next.new.read c.args.terms.now)) c.take_next.new.rows.unread (term_of g.M.Monomial.vector g.R.CoeffRing.value c.in-Some.term) inv.dividing k.next u.nonzero (no_fit_outside (division_of c.args.mode g.M.Monomial.order g.M.Monomial.VARS c.args.f.now c.args.g.now) (term_of g.M.Monomial.vector g.R.CoeffRing.value c.in-Some.term) c.requires.accepted m reduced u.none));
      quotient = inv.quotient ∙ k.learned;
      quotient_belongs = inv.quotient_belongs;
      rest_belongs = subst (λ ts. All (λ t. g.R.CoeffRing.belongs c.args.g.now.modulus t.coef) ts) (sym items) (All-push (λ t. g.R.CoeffRing.belongs c.args.g.now.modulus t.coef) c.loop-term.rest.items c.in-Some.term inv.rest_belongs (subst (λ (p : ℕ). g.R.CoeffRing.belongs p c.in-Some.term.coef) c.ring-ring.ensures c.in-Some.ensures.belongs));
      quotient_low = subst (λ (A : List Term). All (λ t. degree t.monomial ≤ g.M.Monomial.LIM) A) k.learned inv.quotient_low;
      modulus = k.modulus;
      divisor = k.divisor;
      later = k.rows ∙ inv.later;
      read = c.in-Some.ensures.read;
      norm_is = λ z. inv.norm_is z ∙ ap norm k.learned;
    }

pub with_term-requires : goal.with_term-requires
with_term-requires g c = λ o.
    let k = taken g (goal.at.with_term-requires g c).In-Some in
    let f = found g (goal.at.with_term-requires g c).In-Some-find in
    let inv = c.loop-term.invariant in
    let z : c.args.f.now.modulus ≡ 0 = sym (c.ring-ring.ensures ∙ sym c.requires.moduli) ∙ sym c.modulus.ensures ∙ eqb-true c.modulus.result 0 o in
    let zg : c.args.g.now.modulus ≡ 0 = sym c.requires.moduli ∙ z in
    let fit0 = fit_same c.args.f.now.modulus 0 (lm c.args.g.now.list) (lm c.args.g.now.list) (lc c.args.g.now.list) (lc c.args.g.now.list) (term_of g.M.Monomial.vector g.R.CoeffRing.value c.in-Some.term) (term_of g.M.Monomial.vector g.R.CoeffRing.value c.in-Some-find.found) z refl refl f.fit in
    let small = fit_size (lm c.args.g.now.list) (lc c.args.g.now.list) (term_of g.M.Monomial.vector g.R.CoeffRing.value c.in-Some.term) (term_of g.M.Monomial.vector g.R.CoeffRing.value c.in-Some-find.found) (lead_nonzero (division_of c.args.mode g.M.Monomial.order g.M.Monomial.VARS c.args.f.now c.args.g.now) c.requires.accepted) fit0 in
    omega (arith, inv.norm_is zg, quotient_norm (division_of c.args.mode g.M.Monomial.order g.M.Monomial.VARS c.args.f.now c.args.g.now) g.M.Monomial.LIM c.loop-term.rows.learned (sum_of g.M.Monomial.vector g.R.CoeffRing.value c.loop-term.rest.items) (sum_of g.M.Monomial.vector g.R.CoeffRing.value (drop c.loop-term.read c.args.terms.now)) c.loop-term.rows.unread c.requires.accepted inv.dividing z, (size_here (division_of c.args.mode g.M.Monomial.order g.M.Monomial.VARS c.args.f.now c.args.g.now) g.M.Monomial.LIM c.loop-term.rows.learned (sum_of g.M.Monomial.vector g.R.CoeffRing.value c.loop-term.rest.items) (sum_of g.M.Monomial.vector g.R.CoeffRing.value (drop c.loop-term.read c.args.terms.now)) c.loop-term.rows.unread (sum_of g.M.Monomial.vector g.R.CoeffRing.value (drop c.take_next.new.read c.args.terms.now)) c.take_next.new.rows.unread (term_of g.M.Monomial.vector g.R.CoeffRing.value c.in-Some.term) inv.dividing k.next z).0, small, c.size.ensures)

pub from_ordered-q-requires-clause-canonical : goal.from_ordered-q-requires-clause-canonical
from_ordered-q-requires-clause-canonical g c κs within =
    let inv = c.loop-term.invariant in
    subst (λ (p : ℕ). IsCanonical g.M.Monomial.order p g.M.Monomial.VARS g.M.Monomial.LIM (sum_of g.M.Monomial.vector g.R.CoeffRing.value c.loop-term.quotient.items)) (sym (c.ring-ring.ensures ∙ sym c.requires.moduli))
    (subst (λ (A : List Term). IsCanonical g.M.Monomial.order c.args.f.now.modulus g.M.Monomial.VARS g.M.Monomial.LIM A) (sym inv.quotient) (quotient_canonical (division_of c.args.mode g.M.Monomial.order g.M.Monomial.VARS c.args.f.now c.args.g.now) g.M.Monomial.LIM c.loop-term.rows.learned (sum_of g.M.Monomial.vector g.R.CoeffRing.value c.loop-term.rest.items) (sum_of g.M.Monomial.vector g.R.CoeffRing.value (drop c.loop-term.read c.args.terms.now)) c.loop-term.rows.unread c.requires.accepted inv.dividing inv.quotient_low))

pub from_ordered-r-requires-clause-canonical : goal.from_ordered-r-requires-clause-canonical
from_ordered-r-requires-clause-canonical g c κs within =
    subst (λ (p : ℕ). IsCanonical g.M.Monomial.order p g.M.Monomial.VARS g.M.Monomial.LIM (sum_of g.M.Monomial.vector g.R.CoeffRing.value c.loop-term.rest.items)) (sym (c.ring-ring.ensures ∙ sym c.requires.moduli)) (rest_canonical (division_of c.args.mode g.M.Monomial.order g.M.Monomial.VARS c.args.f.now c.args.g.now) g.M.Monomial.LIM c.loop-term.rows.learned (sum_of g.M.Monomial.vector g.R.CoeffRing.value c.loop-term.rest.items) (sum_of g.M.Monomial.vector g.R.CoeffRing.value (drop c.loop-term.read c.args.terms.now)) c.loop-term.rows.unread c.requires.accepted c.loop-term.invariant.dividing)

pub returns-in_err-norm : goal.returns-in_err-norm
returns-in_err-norm g c =
    let k = taken g (goal.at.returns-in_err-norm g c).In-Some in
    let f = found g (goal.at.returns-in_err-norm g c).In-Some-find in
    let a = asked g (goal.at.returns-in_err-norm g c).After-with_term in
    let p = err_from_is_err_and c.from_residual-in_err-norm.result c.from_residual-in_err-norm.ensures.1 in
    rw (p.1, p.2) (bound_answers (division_of c.args.mode g.M.Monomial.order g.M.Monomial.VARS c.args.f.now c.args.g.now) c.loop-term.rows.learned (term_of g.M.Monomial.vector g.R.CoeffRing.value c.in-Some-find.found) (eqb c.modulus.result 0) c.in_err-norm.field-0.0 c.requires.accepted (f.begun k.next) c.loop-term.invariant.dividing.within a.from_test a.to_test (c.loop-term.norm + c.size.result) a.size (c.len.result + 1) a.count c.norm.result c.norm-2.result c.norm.ensures.value c.norm-2.ensures.value c.in_err-norm.ensures)

pub learn-requires-clause-falls : goal.learn-requires-clause-falls
learn-requires-clause-falls g c κs within =
    let k = taken g (goal.at.learn-requires-clause-falls g c).In-Some in
    let f = found g (goal.at.learn-requires-clause-falls g c).In-Some-find in
    let r = reserved g (goal.at.learn-requires-clause-falls g c).After-reserve k.learned k.rows k.divisor k.modulus in
    subst (λ (A : List Term). Decreasing g.M.Monomial.order (A ++ (term_of g.M.Monomial.vector g.R.CoeffRing.value c.in-Some-find.found) ∷ [])) r.learned (turns_poly (division_of c.args.mode g.M.Monomial.order g.M.Monomial.VARS c.args.f.now c.args.g.now) c.args.f.now.list (c.loop-term.rows.learned ++ (term_of g.M.Monomial.vector g.R.CoeffRing.value c.in-Some-find.found) ∷ []) c.requires.accepted (prefix_begins (division_of c.args.mode g.M.Monomial.order g.M.Monomial.VARS c.args.f.now c.args.g.now) (c.loop-term.rows.learned ++ (term_of g.M.Monomial.vector g.R.CoeffRing.value c.in-Some-find.found) ∷ []) c.requires.accepted (f.begun k.next))).decreasing

pub learn-requires-clause-degree : goal.learn-requires-clause-degree
learn-requires-clause-degree g c κs within =
    let k = taken g (goal.at.learn-requires-clause-degree g c).In-Some in
    let f = found g (goal.at.learn-requires-clause-degree g c).In-Some-find in
    let r = reserved g (goal.at.learn-requires-clause-degree g c).After-reserve k.learned k.rows k.divisor k.modulus in
    let e = ap (λ (A : List Term). degree (lm A)) r.divisor in
    omega (arith, e, fit_degree c.args.f.now.modulus (lm c.args.g.now.list) (lc c.args.g.now.list) (term_of g.M.Monomial.vector g.R.CoeffRing.value c.in-Some.term) (term_of g.M.Monomial.vector g.R.CoeffRing.value c.in-Some-find.found) f.fit, degree_here (division_of c.args.mode g.M.Monomial.order g.M.Monomial.VARS c.args.f.now c.args.g.now) g.M.Monomial.LIM c.loop-term.rows.learned (sum_of g.M.Monomial.vector g.R.CoeffRing.value c.loop-term.rest.items) (sum_of g.M.Monomial.vector g.R.CoeffRing.value (drop c.loop-term.read c.args.terms.now)) c.loop-term.rows.unread (sum_of g.M.Monomial.vector g.R.CoeffRing.value (drop c.take_next.new.read c.args.terms.now)) c.take_next.new.rows.unread (term_of g.M.Monomial.vector g.R.CoeffRing.value c.in-Some.term) c.loop-term.invariant.dividing k.next)

pub learn-requires-clause-fits : goal.learn-requires-clause-fits
learn-requires-clause-fits g c κs within = λ o.
    let k = taken g (goal.at.learn-requires-clause-fits g c).In-Some in
    let a = asked g (goal.at.learn-requires-clause-fits g c).After-with_term in
    let b = kept g (goal.at.learn-requires-clause-fits g c).In_ok-norm a.to_test a.size a.count in
    let r = reserved g (goal.at.learn-requires-clause-fits g c).After-reserve k.learned k.rows k.divisor k.modulus in
    let z : c.args.f.now.modulus ≡ 0 = c.requires.moduli ∙ sym r.modulus ∙ o in
    let h = not_passed (division_of c.args.mode g.M.Monomial.order g.M.Monomial.VARS c.args.f.now c.args.g.now) (c.loop-term.rows.learned ++ (term_of g.M.Monomial.vector g.R.CoeffRing.value c.in-Some-find.found) ∷ []) z b.within in
    let e : norm (c.reserve.new.self.learned ++ (term_of g.M.Monomial.vector g.R.CoeffRing.value c.in-Some-find.found) ∷ []) * norm c.reserve.new.self.divisor ≡ norm (c.loop-term.rows.learned ++ (term_of g.M.Monomial.vector g.R.CoeffRing.value c.in-Some-find.found) ∷ []) * norm c.args.g.now.list = λ i. norm (sym r.learned i ++ (term_of g.M.Monomial.vector g.R.CoeffRing.value c.in-Some-find.found) ∷ []) * norm (r.divisor i) in
    omega (arith, h, e)

pub loop-term-smaller : goal.loop-term-smaller
loop-term-smaller g c =
    let k = taken g (goal.at.loop-term-smaller g c).In-Some in
    let f = found g (goal.at.loop-term-smaller g c).In-Some-find in
    let r = reserved g (goal.at.loop-term-smaller g c).After-reserve k.learned k.rows k.divisor k.modulus in
    let l = learned g (goal.at.loop-term-smaller g c).After-learn r.learned r.rows r.owed in
    let m = found_smaller (sum_of g.M.Monomial.vector g.R.CoeffRing.value (drop c.loop-term.read c.args.terms.now)) (sum_of g.M.Monomial.vector g.R.CoeffRing.value (drop c.take_next.new.read c.args.terms.now)) c.loop-term.rows.unread c.take_next.new.rows.unread c.learn.new.self.unread c.loop-term.rows.rows (length (quotient_list (division_of c.args.mode g.M.Monomial.order g.M.Monomial.VARS c.args.f.now c.args.g.now))) (length c.loop-term.rows.learned) (term_of g.M.Monomial.vector g.R.CoeffRing.value c.in-Some-find.found) (fewer g.M.Monomial.order c.args.f.now.modulus (sum_of g.M.Monomial.vector g.R.CoeffRing.value (drop c.loop-term.read c.args.terms.now)) c.loop-term.rows.unread (sum_of g.M.Monomial.vector g.R.CoeffRing.value (drop c.take_next.new.read c.args.terms.now)) c.take_next.new.rows.unread (term_of g.M.Monomial.vector g.R.CoeffRing.value c.in-Some.term) k.next) l.owed (known_below c.loop-term.rows.learned (quotient_list (division_of c.args.mode g.M.Monomial.order g.M.Monomial.VARS c.args.f.now c.args.g.now)) (term_of g.M.Monomial.vector g.R.CoeffRing.value c.in-Some-find.found) (f.begun k.next)) in
    found_measure (length (sum_of g.M.Monomial.vector g.R.CoeffRing.value (drop c.loop-term.read c.args.terms.now))) (length (sum_of g.M.Monomial.vector g.R.CoeffRing.value (drop c.take_next.new.read c.args.terms.now))) (length c.loop-term.rows.unread) (length c.learn.new.self.unread) (length (quotient_list (division_of c.args.mode g.M.Monomial.order g.M.Monomial.VARS c.args.f.now c.args.g.now))) (length c.loop-term.rows.learned) (length c.learn.new.self.learned) (length c.loop-term.rows.rows) (length c.learn.new.self.rows) m
    (ap length l.learned ∙ length_push c.loop-term.rows.learned (term_of g.M.Monomial.vector g.R.CoeffRing.value c.in-Some-find.found)) (ap length (ap (λ (x : QuotientState). x.rows) c.learn.ensures.same ∙ r.rows))

pub loop-term-preserved : goal.loop-term-preserved
loop-term-preserved g c =
    let k = taken g (goal.at.loop-term-preserved g c).In-Some in
    let f = found g (goal.at.loop-term-preserved g c).In-Some-find in
    let a = asked g (goal.at.loop-term-preserved g c).After-with_term in
    let b = kept g (goal.at.loop-term-preserved g c).In_ok-norm a.to_test a.size a.count in
    let r = reserved g (goal.at.loop-term-preserved g c).After-reserve k.learned k.rows k.divisor k.modulus in
    let l = learned g (goal.at.loop-term-preserved g c).After-learn r.learned r.rows r.owed in
    let inv = c.loop-term.invariant in
    let low : degree (g.M.Monomial.vector c.in-Some-find.found.mono) ≤ g.M.Monomial.LIM = omega (arith, fit_degree c.args.f.now.modulus (lm c.args.g.now.list) (lc c.args.g.now.list) (term_of g.M.Monomial.vector g.R.CoeffRing.value c.in-Some.term) (term_of g.M.Monomial.vector g.R.CoeffRing.value c.in-Some-find.found) f.fit, degree_here (division_of c.args.mode g.M.Monomial.order g.M.Monomial.VARS c.args.f.now c.args.g.now) g.M.Monomial.LIM c.loop-term.rows.learned (sum_of g.M.Monomial.vector g.R.CoeffRing.value c.loop-term.rest.items) (sum_of g.M.Monomial.vector g.R.CoeffRing.value (drop c.loop-term.read c.args.terms.now)) c.loop-term.rows.unread (sum_of g.M.Monomial.vector g.R.CoeffRing.value (drop c.take_next.new.read c.args.terms.now)) c.take_next.new.rows.unread (term_of g.M.Monomial.vector g.R.CoeffRing.value c.in-Some.term) inv.dividing k.next) in
    let spread = subst (λ (A : List Term). IsPermutation (c.take_next.new.rows.unread ++ row (term_of g.M.Monomial.vector g.R.CoeffRing.value c.in-Some-find.found) A) c.learn.new.self.unread) (inv.later ∙ all_rows c.args.g.now.list) l.owed in
    let items = c.in_ok-push-2.ensures.items in
    record {
      dividing = dividing_same (division_of c.args.mode g.M.Monomial.order g.M.Monomial.VARS c.args.f.now c.args.g.now) g.M.Monomial.LIM (c.loop-term.rows.learned ++ (term_of g.M.Monomial.vector g.R.CoeffRing.value c.in-Some-find.found) ∷ []) c.learn.new.self.learned (sum_of g.M.Monomial.vector g.R.CoeffRing.value c.loop-term.rest.items) (sum_of g.M.Monomial.vector g.R.CoeffRing.value c.loop-term.rest.items) (sum_of g.M.Monomial.vector g.R.CoeffRing.value (drop c.take_next.new.read c.args.terms.now)) (sum_of g.M.Monomial.vector g.R.CoeffRing.value (drop c.take_next.new.read c.args.terms.now)) c.learn.new.self.unread c.learn.new.self.unread (sym l.learned) refl refl refl (turn_found (division_of c.args.mode g.M.Monomial.order g.M.Monomial.VARS c.args.f.now c.args.g.now) g.M.Monomial.LIM c.loop-term.rows.learned (sum_of g.M.Monomial.vector g.R.CoeffRing.value c.loop-term.rest.items) (sum_of g.M.Monomial.vector g.R.CoeffRing.value (drop c.loop-term.read c.args.terms.now)) c.loop-term.rows.unread (sum_of g.M.Monomial.vector g.R.CoeffRing.value (drop c.take_next.new.read c.args.terms.now)) c.take_next.new.rows.unread (term_of g.M.Monomial.vector g.R.CoeffRing.value c.in-Some.term) (term_of g.M.Monomial.vector g.R.CoeffRing.value c.in-Some-find.found) c.requires.accepted inv.dividing k.next f.nonzero f.fit b.within c.learn.new.self.unread spread);
      quotient = push_sum g.M.Monomial.vector g.R.CoeffRing.value c.loop-term.quotient.items c.push-in-Some.new.self.items c.in-Some-find.found items ∙ ap (λ (A : List Term). A ++ (term_of g.M.Monomial.vector g.R.CoeffRing.value c.in-Some-find.found) ∷ []) inv.quotient ∙ sym l.learned;
      quotient_belongs = subst (λ ts. All (λ t. g.R.CoeffRing.belongs c.args.g.now.modulus t.coef) ts) (sym items) (All-push (λ t. g.R.CoeffRing.belongs c.args.g.now.modulus t.coef) c.loop-term.quotient.items c.in-Some-find.found inv.quotient_belongs (subst (λ (p : ℕ). g.R.CoeffRing.belongs p c.in-Some-find.found.coef) c.ring-ring.ensures c.in-Some-find.ensures.0));
      rest_belongs = inv.rest_belongs;
      quotient_low = subst (λ (A : List Term). All (λ t. degree t.monomial ≤ g.M.Monomial.LIM) A) (sym l.learned) (All-push (λ (x : Term). degree x.monomial ≤ g.M.Monomial.LIM) c.loop-term.rows.learned (term_of g.M.Monomial.vector g.R.CoeffRing.value c.in-Some-find.found) inv.quotient_low low);
      modulus = ap (λ (x : QuotientState). x.modulus) c.learn.ensures.same ∙ r.modulus;
      divisor = ap (λ (x : QuotientState). x.divisor) c.learn.ensures.same ∙ r.divisor;
      later = ap (λ (x : QuotientState). x.rows) c.learn.ensures.same ∙ r.rows ∙ inv.later;
      read = c.in-Some.ensures.read;
      norm_is = λ z. b.longer (c.requires.moduli ∙ z) ∙ ap norm (sym l.learned);
    }

pub returns-then-is_exact-2 : goal.returns-then-is_exact-2
returns-then-is_exact-2 g c =
    let inv = c.loop-term.invariant in
    let none = c.in_default.ensures.next in (
      c.from_ordered-q.ensures.modulus ∙ (c.ring-ring.ensures ∙ sym c.requires.moduli),
      subst (λ (A : List Term). IsOutcome (division_of c.args.mode g.M.Monomial.order g.M.Monomial.VARS c.args.f.now c.args.g.now) (HasQuotient A)) (sym (c.from_ordered-q.ensures.terms ∙ inv.quotient))
          (exact_ends (division_of c.args.mode g.M.Monomial.order g.M.Monomial.VARS c.args.f.now c.args.g.now) g.M.Monomial.LIM c.loop-term.rows.learned (sum_of g.M.Monomial.vector g.R.CoeffRing.value c.loop-term.rest.items) (sum_of g.M.Monomial.vector g.R.CoeffRing.value (drop c.loop-term.read c.args.terms.now)) c.loop-term.rows.unread c.requires.accepted (ap (sum_of g.M.Monomial.vector g.R.CoeffRing.value) none.0) none.1 inv.dividing (c.is_exact-2.ensures.0 c.if-is_exact-2.true)),
    )

pub returns : goal.returns
returns g c =
    let inv = c.loop-term.invariant in
    let none = c.in_default.ensures.next in
    let other_mode : c.args.mode ≢ Exact = λ e. true≢false (sym (c.is_exact-2.ensures.1 e) ∙ c.if-is_exact-2.false) in (
      c.from_ordered-q.ensures.modulus ∙ (c.ring-ring.ensures ∙ sym c.requires.moduli),
      c.from_ordered-r.ensures.modulus ∙ (c.ring-ring.ensures ∙ sym c.requires.moduli),
      subst (λ (A : List Term). IsOutcome (division_of c.args.mode g.M.Monomial.order g.M.Monomial.VARS c.args.f.now c.args.g.now) (HasRemainder A c.from_ordered-r.result.list)) (sym (c.from_ordered-q.ensures.terms ∙ inv.quotient))
          (subst (λ (A : List Term). IsOutcome (division_of c.args.mode g.M.Monomial.order g.M.Monomial.VARS c.args.f.now c.args.g.now) (HasRemainder c.loop-term.rows.learned A)) (sym c.from_ordered-r.ensures.terms)
          (remainder_ends (division_of c.args.mode g.M.Monomial.order g.M.Monomial.VARS c.args.f.now c.args.g.now) g.M.Monomial.LIM c.loop-term.rows.learned (sum_of g.M.Monomial.vector g.R.CoeffRing.value c.loop-term.rest.items) (sum_of g.M.Monomial.vector g.R.CoeffRing.value (drop c.loop-term.read c.args.terms.now)) c.loop-term.rows.unread c.requires.accepted (ap (sum_of g.M.Monomial.vector g.R.CoeffRing.value) none.0) none.1 inv.dividing other_mode)),
    )
