-- A merge of a division stays whole when it takes a note, and when it publishes a front.
use Rattle.std.proofs.Common.{◌≡◌, ℕ, zero, suc, ◌<◌, List, [], ◌∷◌, ◌++◌, length, set, get_or, Option, Some, None, ◌+ℤ◌, sym, ap, ◌∙◌, subst, arith, length-set}
use Rattle.std.proofs.lemmas.Int.{ints}
use Rattle.sdmp_laws.specs.Order.{Order, Below}
use Rattle.sdmp_laws.specs.Ring.{red}
use Rattle.sdmp_laws.specs.Poly.{Term, total, Same, times, minus, AllBelow, sum_over}
use Rattle.sdmp_laws.specs.LongDivision.{quotient_list}
use Rattle.whole_laws.specs.Notes.{Note, TermNote, MarkNote, EndNote, after_lead, lead_term, Carry, owed}
use Rattle.whole_laws.specs.Wholes.{head_terms, notes_of, head_of_worker}
use Rattle.divide_wholes.specs.Wholes.{DivideState, DivideWhole, divide_script, all_owed, IsPast, divide_take}
use Rattle.divide_wholes.specs.DivideLaws.{DivideFront, DivideTake}
use Rattle.sdmp_laws.proofs.OrderLemmas.{Three, is_less, is_equal, is_greater, numbers}
use Rattle.sdmp_laws.proofs.PolyLemmas.{total_append, total_minus, same_total, from_total}
use Rattle.divide_wholes.proofs.Candidate.{bound_is_front}
use Rattle.whole_laws.proofs.OwedLemmas.{owed_laws}
use Rattle.whole_laws.proofs.StepLemmas.{notes_same, notes_other, each_worker, Took, took_term, took_other, carried_after, sum_kept}
use Rattle.sdmp_laws.proofs.ListLemmas.{AllBelow-front, AllBelow-back}
use Rattle.divide_wholes.proofs.ProcessLemmas.{below_over}

past_front : (s : DivideState) (x : List ℕ) (last : Option (List ℕ)) → IsPast s last → IsPast (record s { front = Some x }) last
unfolding IsPast all_owed divide_script
past_front s x None p = p
past_front s x (Some m) p = p

pub divide_front : DivideFront
unfolding divide_script all_owed
divide_front s x y a whole b f = record {
  heads_count = whole.heads_count;
  taken_count = whole.taken_count;
  carried = whole.carried;
  heads_are = whole.heads_are;
  sum = whole.sum;
  quotient = whole.quotient;
  within = whole.within;
  unread_suffix = whole.unread_suffix;
  remainder = whole.remainder;
  past = past_front s y s.last whole.past;
  row_terms = whole.row_terms;
  row_start = whole.row_start;
  under_front = bound_is_front s x y a whole b f;
}

-- ---- taking a note
in_range : (s : DivideState) (w : ℕ) → DivideWhole s → w < s.workers → w < length s.taken
in_range s w whole h = omega (arith, h, whole.taken_count)

rest_below : (ord : Order) (m : List ℕ) (t : Term) (A : List Term) → AllBelow ord m (t ∷ A) → AllBelow ord m A
unfolding AllBelow
rest_below ord m t A h = h.1

pub first_is_below : (ord : Order) (m : List ℕ) (t : Term) (A : List Term) → AllBelow ord m (t ∷ A) → Below ord t.monomial m
unfolding AllBelow
first_is_below ord m t A h = h.0

-- a sum over the workers stands below m exactly where each part does
parts_below : (ord : Order) (m : List ℕ) (F : ℕ → List Term) (k : ℕ) → AllBelow ord m (sum_over k F) → (v : ℕ) → v < k → AllBelow ord m (F v)
unfolding sum_over
parts_below ord m F zero h v l = absurd (omega arith)
parts_below ord m F (suc k) h v l = pick (λ l'. parts_below ord m F k (AllBelow-front ord m (sum_over k F) (F k) h) v l') (numbers v k)
  where
    pick : (v < k → AllBelow ord m (F v)) → Three (v < k) (v ≡ k) (k < v) → AllBelow ord m (F v)
    pick ih (is_less b) = ih b
    pick ih (is_equal e) = subst (λ (y : ℕ). AllBelow ord m (F y)) (sym e) (AllBelow-back ord m (sum_over k F) (F k) h)
    pick ih (is_greater b) = absurd (omega arith)

owed_still_below : (s : DivideState) (w : ℕ) (n : List Note) (m : List ℕ) → DivideWhole s → w < s.workers → AllBelow s.division.ord m (owed (divide_script s w) n) →
    AllBelow s.division.ord m (sum_over s.workers (λ v. owed (divide_script s v) (get_or s.taken v []))) → AllBelow s.division.ord m (sum_over s.workers (λ v. owed (divide_script s v) (get_or (set s.taken w n) v [])))
owed_still_below s w n m whole h new old =
    below_over s.division.ord m (λ v. owed (divide_script s v) (get_or (set s.taken w n) v [])) s.workers (λ v l.
    each_worker (λ v. AllBelow s.division.ord m (owed (divide_script s v) (get_or (set s.taken w n) v []))) w v
    (subst (λ (y : List Note). AllBelow s.division.ord m (owed (divide_script s w) y)) (sym (notes_same s.taken w n (in_range s w whole h))) new)
    (λ k. subst (λ (y : List Note). AllBelow s.division.ord m (owed (divide_script s v) y)) (sym (notes_other s.taken w v n k)) (parts_below s.division.ord m (λ v. owed (divide_script s v) (get_or s.taken v [])) s.workers old v l)))

heads_still_below : (ord : Order) (m : List ℕ) (heads : List (Option Term)) (w : ℕ) (t : Term) → Below ord t.monomial m → AllBelow ord m (head_terms heads) → AllBelow ord m (head_terms (set heads w (Some t)))
unfolding head_terms AllBelow
heads_still_below ord m [] w t b h = h
heads_still_below ord m (None ∷ heads) zero t b h = (b, h)
heads_still_below ord m (Some u ∷ heads) zero t b h = (b, h.1)
heads_still_below ord m (None ∷ heads) (suc w) t b h = heads_still_below ord m heads w t b h
heads_still_below ord m (Some u ∷ heads) (suc w) t b h = (h.0, heads_still_below ord m heads w t b h.1)

-- the sum: what moves from the owed terms to the heads stays in it
sum_moved : (p : ℕ) (L Z H O H' O' : List Term) → ((x : List ℕ) → total H' x +ℤ total O' x ≡ total H x +ℤ total O x) → Same p (minus L (H ++ O)) Z → Same p (minus L (H' ++ O')) Z
sum_moved p L Z H O H' O' e s =
    from_total p (minus L (H' ++ O')) Z (λ x.
    ap (red p) (omega (arith, ints, total_minus L (H' ++ O') x, total_append H' O' x, e x, total_minus L (H ++ O) x, total_append H O x))
    ∙ same_total p (minus L (H ++ O)) Z s x)

-- the notes n of w and the heads keep below a monomial what stood there
record Taken (s : DivideState) (w : ℕ) (n : List Note) (heads : List (Option Term)) : Type 0 where
  took : Took (divide_script s) s.workers s.heads s.taken w n heads
  owed_below : (m : List ℕ) → AllBelow s.division.ord m (owed (divide_script s w) (get_or s.taken w [])) → AllBelow s.division.ord m (owed (divide_script s w) n)
  heads_below : (m : List ℕ) → AllBelow s.division.ord m (head_terms s.heads) → AllBelow s.division.ord m (owed (divide_script s w) (get_or s.taken w [])) → AllBelow s.division.ord m (head_terms heads)

past_taken : (s : DivideState) (w : ℕ) (n : List Note) (heads : List (Option Term)) (last : Option (List ℕ)) → DivideWhole s → w < s.workers → Taken s w n heads → IsPast s last → IsPast (record s { heads = heads; taken = set s.taken w n }) last
unfolding IsPast all_owed notes_of divide_script
past_taken s w n heads None whole h k p = p
past_taken s w n heads (Some m) whole h k p =
    let old = parts_below s.division.ord m (λ v. owed (divide_script s v) (get_or s.taken v [])) s.workers p.2 w h in
    (p.0, k.heads_below m p.1 old, owed_still_below s w n m whole h (k.owed_below m old) p.2, p.3, p.4)

taken_whole : (s : DivideState) (w : ℕ) (n : List Note) (heads : List (Option Term)) → DivideWhole s → w < s.workers → Taken s w n heads → DivideWhole (record s { heads = heads; taken = set s.taken w n })
unfolding all_owed notes_of head_of_worker divide_script
taken_whole s w n heads whole h k = record {
  heads_count = (k.took).count ∙ whole.heads_count;
  taken_count = length-set s.taken w n ∙ whole.taken_count;
  carried = carried_after (divide_script s) s.workers s.heads s.taken whole.heads_count whole.taken_count w n h (k.took).carried whole.carried;
  heads_are = (k.took).heads_are;
  sum = sum_moved s.division.p (times s.q (lead_term s.division.g) ++ (s.r ++ s.unread)) (minus s.division.f (times (quotient_list s.division) (after_lead s.division.g))) (head_terms s.heads) (sum_over s.workers (λ v. owed (divide_script s v) (get_or s.taken v []))) (head_terms heads) (sum_over s.workers (λ v. owed (divide_script s v) (get_or (set s.taken w n) v [])))
      (λ x. sum_kept (divide_script s) s.workers s.heads s.taken whole.heads_count whole.taken_count w n heads x h k.took) whole.sum;
  quotient = whole.quotient;
  within = whole.within;
  unread_suffix = whole.unread_suffix;
  remainder = whole.remainder;
  past = past_taken s w n heads s.last whole h k whole.past;
  row_terms = whole.row_terms;
  row_start = whole.row_start;
  under_front = whole.under_front;
}

term_taken : (s : DivideState) (w : ℕ) (t : Term) → DivideWhole s → w < s.workers → get_or s.heads w None ≡ None → Carry (divide_script s w) (get_or s.taken w [] ++ TermNote t ∷ []) → Taken s w (get_or s.taken w [] ++ TermNote t ∷ []) (set s.heads w (Some t))
unfolding notes_of head_of_worker
term_taken s w t whole h none c =
    let n = get_or s.taken w [] ++ TermNote t ∷ [] in
    let o = (owed_laws (divide_script s w) (get_or s.taken w [])).0 t c in
    record {
      took = took_term (divide_script s) s.workers s.heads s.taken whole.heads_count whole.taken_count w t h none whole.heads_are c;
      owed_below = λ m b. rest_below s.division.ord m t (owed (divide_script s w) n) (subst (λ (L : List Term). AllBelow s.division.ord m L) o b);
      heads_below = λ m b k. heads_still_below s.division.ord m s.heads w t (first_is_below s.division.ord m t (owed (divide_script s w) n) (subst (λ (L : List Term). AllBelow s.division.ord m L) o k)) b;
    }

other_taken : (s : DivideState) (w : ℕ) (n : List Note) → DivideWhole s → get_or s.heads w None ≡ None → Carry (divide_script s w) n → owed (divide_script s w) n ≡ owed (divide_script s w) (get_or s.taken w []) → Taken s w n s.heads
unfolding notes_of head_of_worker
other_taken s w n whole none c e = record {
  took = took_other (divide_script s) s.workers s.heads s.taken whole.heads_count whole.taken_count w n none whole.heads_are c e;
  owed_below = λ m b. subst (λ (L : List Term). AllBelow s.division.ord m L) (sym e) b;
  heads_below = λ m b k. b;
}

pub divide_take_law : DivideTake
unfolding divide_take notes_of head_of_worker
divide_take_law s w (TermNote t) whole h none c = taken_whole s w (get_or s.taken w [] ++ TermNote t ∷ []) (set s.heads w (Some t)) whole h (term_taken s w t whole h none c)
divide_take_law s w (MarkNote k top) whole h none c =
    taken_whole s w (get_or s.taken w [] ++ MarkNote k top ∷ []) s.heads whole h (other_taken s w (get_or s.taken w [] ++ MarkNote k top ∷ []) whole none c ((owed_laws (divide_script s w) (get_or s.taken w [])).1 k top))
divide_take_law s w EndNote whole h none c =
    taken_whole s w (get_or s.taken w [] ++ EndNote ∷ []) s.heads whole h (other_taken s w (get_or s.taken w [] ++ EndNote ∷ []) whole none c ((owed_laws (divide_script s w) (get_or s.taken w [])).2))
