-- A new merge of a division is whole.
use Rattle.std.proofs.Common.{◌≡◌, ℕ, zero, suc, ◌<◌, List, [], ◌++◌, replicate, get_or, Option, None, ℤ, ◌+ℤ◌, neg_ℤ, refl, sym, ap, ap₂, ◌∙◌, subst, arith}
use Rattle.std.proofs.lemmas.Int.{ints}
use Rattle.sdmp_laws.specs.Order.{◌⋅◌}
use Rattle.sdmp_laws.specs.Ring.{red}
use Rattle.sdmp_laws.specs.Poly.{Term, total, Same, times, minus, sum_over, every}
use Rattle.sdmp_laws.specs.Division.{Division, NoneDivisible}
use Rattle.sdmp_laws.specs.LongDivision.{quotient_list}
use Rattle.whole_laws.specs.Notes.{Note, QuotientScript, script_list, divisor_rows, after_lead, lead_term, Carry, owed}
use Rattle.divide_wholes.specs.DivideLaws.{DivideStart}
use Rattle.sdmp_laws.specs.declared.Mode.{Mode}
use Rattle.sdmp_laws.specs.declared.Mode.TheVariants.{Exact, Remainder}
use Rattle.sdmp_laws.proofs.Ints.{red_add, red_neg}
use Rattle.sdmp_laws.proofs.PolyLemmas.{weigh, weigh_append, weigh_times, weigh_times_comm, from_weights, total_append, total_minus, same_total, from_total, Same-trans}
use Rattle.sdmp_laws.proofs.TermsLemmas.{total_nil, terms_same, nil_poly}
use Rattle.sdmp_laws.proofs.Parts.{weigh_first, all_counted}
use Rattle.whole_laws.specs.Wholes.{head_terms, IsHead, notes_of, head_of_worker}
use Rattle.divide_wholes.specs.Wholes.{divide_script, all_owed, IsPast, AllUnderFront, RemainderFits, divide_start}
use Rattle.whole_laws.proofs.StartLemmas.{get_or-replicate, no_heads, nothing_carried, all_of_it}
use Rattle.whole_laws.proofs.Sums.{sum_over_same}
use Rattle.std.proofs.lemmas.List.{length-replicate}
use Rattle.whole_laws.proofs.StepLemmas.{no_head}

-- the rows of the workers make up the lower terms of the divisor
weigh_rows : (F : List ℕ → ℤ) (A B : List Term) (W k : ℕ) → weigh F (sum_over k (λ w. times A (every W w 1 B))) ≡ weigh_first (λ u. weigh (λ v. F (u ⋅ v)) A) W k 1 B
unfolding sum_over weigh_first weigh
weigh_rows F A B W zero = refl
weigh_rows F A B W (suc k) =
    weigh_append F (sum_over k (λ w. times A (every W w 1 B))) (times A (every W k 1 B))
    ∙ ap₂ ◌+ℤ◌ (weigh_rows F A B W k) (weigh_times_comm F A (every W k 1 B) ∙ weigh_times F (every W k 1 B) A)

pub rows_sum : (p : ℕ) (A B : List Term) (W : ℕ) → 0 < W → Same p (sum_over W (λ w. times A (every W w 1 B))) (times A B)
rows_sum p A B W h =
    from_weights p (sum_over W (λ w. times A (every W w 1 B))) (times A B)
    (λ F. weigh_rows F A B W W ∙ all_counted (λ u. weigh (λ v. F (u ⋅ v)) A) W 1 B h ∙ sym (weigh_times F B A) ∙ weigh_times_comm F B A)

quotient_script_list : (d : Division) (W w : ℕ) → Same d.p (script_list (QuotientScript d W w)) (times (quotient_list d) (every W w 1 (after_lead d.g)))
unfolding script_list divisor_rows
quotient_script_list d W w = terms_same d.ord d.p (times (quotient_list d) (every W w 1 (after_lead d.g)))

quotient_owed : (d : Division) (W w : ℕ) (notes : List Note) → notes ≡ [] → Same d.p (owed (QuotientScript d W w) notes) (times (quotient_list d) (every W w 1 (after_lead d.g)))
quotient_owed d W w notes e = subst (λ (n : List Note). Same d.p (owed (QuotientScript d W w) n) (times (quotient_list d) (every W w 1 (after_lead d.g)))) (sym e) (subst (λ (L : List Term). Same d.p L (times (quotient_list d) (every W w 1 (after_lead d.g)))) (sym (all_of_it (QuotientScript d W w))) (quotient_script_list d W w))

nothing_times : (B : List Term) → times [] B ≡ []
unfolding times
nothing_times B = refl

start_sum : (d : Division) (H O : List Term) → H ≡ [] → Same d.p O (times (quotient_list d) (after_lead d.g)) → Same d.p (minus (times [] (lead_term d.g) ++ ([] ++ d.f)) (H ++ O)) (minus d.f (times (quotient_list d) (after_lead d.g)))
start_sum d H O e s =
    from_total d.p (minus (times [] (lead_term d.g) ++ ([] ++ d.f)) (H ++ O)) (minus d.f (times (quotient_list d) (after_lead d.g))) (λ m.
    ap (red d.p) (omega (arith, ints, total_minus (times [] (lead_term d.g) ++ ([] ++ d.f)) (H ++ O) m, total_append (times [] (lead_term d.g)) d.f m, ap (λ (L : List Term). total L m) (nothing_times (lead_term d.g)), total_nil m, total_append H O m, ap (λ (L : List Term). total L m) e))
    ∙ red_add d.p (total d.f m) (total d.f m) (neg_ℤ (total O m)) (neg_ℤ (total (times (quotient_list d) (after_lead d.g)) m)) refl
    (red_neg d.p (total O m) (total (times (quotient_list d) (after_lead d.g)) m) (same_total d.p O (times (quotient_list d) (after_lead d.g)) s m))
    ∙ ap (red d.p) (sym (total_minus d.f (times (quotient_list d) (after_lead d.g)) m)))

no_remainder : (mode : Mode) (d : Division) → RemainderFits mode d []
unfolding RemainderFits NoneDivisible
no_remainder Exact d = refl
no_remainder Remainder d = (nil_poly d.ord d.p d.n, tt)

no_front : (d : Division) (A : List Term) → AllUnderFront d None A
unfolding AllUnderFront
no_front d A = tt

pub divide_start_law : DivideStart
unfolding divide_start divide_script notes_of head_of_worker all_owed IsPast
divide_start_law d W h within = record {
  heads_count = length-replicate W None;
  taken_count = length-replicate W [];
  carried = λ w l. subst (λ (n : List Note). Carry (QuotientScript d W w) n) (sym (get_or-replicate [] W w)) (nothing_carried (QuotientScript d W w));
  heads_are = λ w l. subst (λ (o : Option Term). IsHead o (get_or (replicate W []) w [])) (sym (get_or-replicate None W w)) (no_head (get_or (replicate W []) w []));
  sum =
      start_sum d (head_terms (replicate W None)) (sum_over W (λ w. owed (QuotientScript d W w) (get_or (replicate W []) w []))) (no_heads W)
      (Same-trans d.p (sum_over W (λ w. owed (QuotientScript d W w) (get_or (replicate W []) w []))) (sum_over W (λ w. times (quotient_list d) (every W w 1 (after_lead d.g)))) (times (quotient_list d) (after_lead d.g))
      (sum_over_same d.p W (λ w. owed (QuotientScript d W w) (get_or (replicate W []) w [])) (λ w. times (quotient_list d) (every W w 1 (after_lead d.g))) (λ w. quotient_owed d W w (get_or (replicate W []) w []) (get_or-replicate [] W w)))
      (rows_sum d.p (quotient_list d) (after_lead d.g) W h));
  quotient = (quotient_list d, refl);
  within = within;
  unread_suffix = ([], refl);
  remainder = no_remainder d.mode d;
  past = (refl, refl);
  row_terms = refl;
  row_start = omega arith;
  under_front = λ later e. no_front d later;
}
