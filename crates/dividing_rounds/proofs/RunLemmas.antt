-- A run of a division stays whole at each step.
use Rattle.std.proofs.Common.{◌≡◌, ℕ, ◌⊎◌, inl, inr, true, List, [], ◌∷◌, ◌++◌, length, Option, Some, None, ℤ, refl, sym, ap, ◌∙◌, subst, arith, append_assoc, true≢false}
use Rattle.sdmp_laws.specs.Order.{Order, ◌⋅◌, alike, Below, IsUnder}
use Rattle.sdmp_laws.specs.Poly.{Term, AllBelow, lm}
use Rattle.sdmp_laws.specs.Division.{Division, IsAccepted, AtOrAbove}
use Rattle.whole_laws.specs.Notes.{TermNote, MarkNote, EndNote, has}
use Rattle.whole_laws.specs.Wholes.{head_terms}
use Rattle.divide_wholes.specs.Wholes.{DivideState, DivideWhole, IsPast, AllUnderFront, divide_start, divide_take, processed, found, kept}
use Rattle.divide_wholes.specs.Row.{RowTerm, RowMayFollow}
use Rattle.divide_wholes.specs.MergeRow.{with_new_row}
use Rattle.dividing_rounds.specs.Found.{term_at, IsNext, IsQuotientAt}
use Rattle.dividing_rounds.specs.Runs.{DivideRun, RunWhole, IsKnownAt, workload, run_start, run_take, run_zero, run_rest, run_found, run_front, run_row, run_over, RunStart, RunTake, RunZero, RunRest, RunFound, RunFront, RunRow}
use Rattle.dividing_rounds.specs.Stalls.{IsLowered}
use Rattle.sdmp_laws.proofs.NextTerm.{at_then_below}
use Rattle.sdmp_laws.proofs.DivisionLemmas.{AllBelow-append}
use Rattle.sdmp_laws.proofs.LongLemmas.{over_times}
use Rattle.divide_wholes.proofs.Candidate.{candidate_bound, candidate_term}
use Rattle.divide_wholes.proofs.StartLemmas.{divide_start_law}
use Rattle.divide_wholes.proofs.TakeLemmas.{divide_take_law, divide_front}
use Rattle.divide_wholes.proofs.ProcessLemmas.{has_below, divide_zero, divide_kept, divide_found}
use Rattle.divide_wholes.proofs.MergeRowLemmas.{row_start, row_found, row_fronted, row_kept, row_change}
use Rattle.dividing_rounds.proofs.WorkloadLemmas.{bound_in_workload}
use Rattle.dividing_rounds.proofs.LogLemmas.{empty_log, log_push, log_lower, log_more, workload_more}

-- ---- the first and those that find nothing
pub run_start_law : RunStart
unfolding run_start divide_start
run_start_law d W l b = record {
  whole = divide_start_law d W l b;
  row = row_start d W;
  front_vector = tt;
  processed_log = [];
  bounds_log = [];
  processed_fall = empty_log d.ord (workload d []);
  bounds_fall = empty_log d.ord (workload d []);
  processed_length = refl;
  bounds_length = refl;
}

pub run_take_law : RunTake
unfolding run_take divide_take
run_take_law r w (TermNote t) h l n c = record {
  whole = divide_take_law r.state w (TermNote t) h.whole l n c;
  row = (row_kept r.state r.notes h.row).2 w (TermNote t);
  front_vector = h.front_vector;
  processed_log = h.processed_log;
  bounds_log = h.bounds_log;
  processed_fall = h.processed_fall;
  bounds_fall = h.bounds_fall;
  processed_length = h.processed_length;
  bounds_length = h.bounds_length;
}
run_take_law r w (MarkNote k top) h l n c = record {
  whole = divide_take_law r.state w (MarkNote k top) h.whole l n c;
  row = (row_kept r.state r.notes h.row).2 w (MarkNote k top);
  front_vector = h.front_vector;
  processed_log = h.processed_log;
  bounds_log = h.bounds_log;
  processed_fall = h.processed_fall;
  bounds_fall = h.bounds_fall;
  processed_length = h.processed_length;
  bounds_length = h.bounds_length;
}
run_take_law r w EndNote h l n c = record {
  whole = divide_take_law r.state w EndNote h.whole l n c;
  row = (row_kept r.state r.notes h.row).2 w EndNote;
  front_vector = h.front_vector;
  processed_log = h.processed_log;
  bounds_log = h.bounds_log;
  processed_fall = h.processed_fall;
  bounds_fall = h.bounds_fall;
  processed_length = h.processed_length;
  bounds_length = h.bounds_length;
}

pub run_row_law : RunRow
unfolding run_row run_over with_new_row
run_row_law r h =
    let c = row_change r.state r.notes h.whole h.row in (
      record {
        whole = c.0;
        row = c.1;
        front_vector = h.front_vector;
        processed_log = h.processed_log;
        bounds_log = h.bounds_log;
        processed_fall = h.processed_fall;
        bounds_fall = h.bounds_fall;
        processed_length = h.processed_length;
        bounds_length = h.bounds_length;
      },
      record {
        whole = h.whole;
        row = h.row;
        front_vector = h.front_vector;
        processed_log = h.processed_log;
        bounds_log = h.bounds_log;
        processed_fall = h.processed_fall;
        bounds_fall = h.bounds_fall;
        processed_length = h.processed_length;
        bounds_length = h.bounds_length;
      },
    )

either : {A B C : Type 0} → (A → C) → (B → C) → A ⊎ B → C
either f g (inl a) = f a
either f g (inr b) = g b

-- ---- what is processed is below what was processed before, and stands in the workload
under_past : (s : DivideState) (x : List ℕ) (last : Option (List ℕ)) → has x (s.unread ++ head_terms s.heads) ≡ true → IsPast s last → IsUnder s.division.ord last x
unfolding IsPast IsUnder
under_past s x None h p = tt
under_past s x (Some l) h p = has_below s.division.ord x l (s.unread ++ head_terms s.heads) h (AllBelow-append s.division.ord l s.unread (head_terms s.heads) p.0 p.1)

known_read : (s : DivideState) (x : List ℕ) → has x (s.unread ++ head_terms s.heads) ≡ true → IsKnownAt s x
unfolding IsKnownAt
known_read s x h = inl h

next_in_workload : (s : DivideState) (x : List ℕ) → IsAccepted s.division → DivideWhole s → IsNext s x → has x (workload s.division s.q) ≡ true
next_in_workload s x a whole n = bound_in_workload s x a whole (candidate_bound s x n.candidate) (known_read s x n.read)

pub run_zero_law : RunZero
unfolding run_zero processed
run_zero_law r x a h n z =
    let d = r.state.division in
    record {
      whole = divide_zero r.state x a h.whole n.candidate n.read z;
      row = (row_kept r.state r.notes h.row).0 x;
      front_vector = h.front_vector;
      processed_log = x ∷ h.processed_log;
      bounds_log = h.bounds_log;
      processed_fall = log_push d.ord r.state.last x x (workload d r.state.q) h.processed_log (under_past r.state x r.state.last n.read h.whole.past) (inl refl) (next_in_workload r.state x a h.whole n) h.processed_fall;
      bounds_fall = h.bounds_fall;
      processed_length = (let e = h.processed_length in omega (arith, e));
      bounds_length = h.bounds_length;
    }

pub run_rest_law : RunRest
unfolding run_rest kept processed
run_rest_law r x a h n z =
    let d = r.state.division in
    record {
      whole = divide_kept r.state x a h.whole n.candidate n.read z.mode z.indivisible z.there;
      row = (row_kept r.state r.notes h.row).1 x;
      front_vector = h.front_vector;
      processed_log = x ∷ h.processed_log;
      bounds_log = h.bounds_log;
      processed_fall = log_push d.ord r.state.last x x (workload d r.state.q) h.processed_log (under_past r.state x r.state.last n.read h.whole.past) (inl refl) (next_in_workload r.state x a h.whole n) h.processed_fall;
      bounds_fall = h.bounds_fall;
      processed_length = (let e = h.processed_length in omega (arith, e));
      bounds_length = h.bounds_length;
    }

-- ---- a quotient term
front_falls : (d : Division) (front : Option (List ℕ)) (t : Term) (A : List Term) → AllUnderFront d front (t ∷ A) → IsLowered d.ord (Some (t.monomial ⋅ lm d.g)) front
unfolding AllUnderFront IsLowered
front_falls d None t A h = tt
front_falls d (Some m) t A h = h.0

found_here : (r : DivideRun) (x : List ℕ) (u : ℤ) → IsAccepted r.state.division → RunWhole r → IsNext r.state x → IsQuotientAt r.state x (term_at r.state x u) →
    RowMayFollow r.state.division r.state.start r.notes (RowTerm (term_at r.state x u)) × RunWhole (run_found r x (term_at r.state x u))
unfolding run_found found processed
found_here r x u a h n f =
    let s = r.state in
    let d = s.division in
    let t : Term = term_at s x u in
    let i = candidate_term s x u a h.whole n.candidate f.fits.divides f.fits.reduced f.there f.fits.product in
    let row = row_found s x u r.notes a h.whole n.candidate f.fits.divides f.fits.reduced f.there f.fits.product f.within h.row in
    let more = workload_more d s.q (t ∷ []) in
    let lower = front_falls d s.front t i.0 (h.whole.under_front (t ∷ i.0) (sym (append_assoc s.q (t ∷ []) i.0) ∙ i.1)) in (
      row.0,
      record {
        whole = divide_found s x u a h.whole n.candidate n.read f.fits.divides f.fits.reduced f.there f.fits.product f.within;
        row = row.1;
        front_vector = ap length (over_times x (lm d.g) f.fits.divides) ∙ n.candidate.vector;
        processed_log = x ∷ h.processed_log;
        bounds_log = h.bounds_log;
        processed_fall = log_push d.ord s.last x x (workload d (s.q ++ t ∷ [])) h.processed_log (under_past s x s.last n.read h.whole.past) (inl refl) (more x (next_in_workload s x a h.whole n))
            (log_more d.ord s.last (workload d s.q) (workload d (s.q ++ t ∷ [])) h.processed_log more h.processed_fall);
        bounds_fall = log_lower d.ord s.front (t.monomial ⋅ lm d.g) (workload d (s.q ++ t ∷ [])) h.bounds_log lower
            (log_more d.ord s.front (workload d s.q) (workload d (s.q ++ t ∷ [])) h.bounds_log more h.bounds_fall);
        processed_length = (let e = h.processed_length in omega (arith, e));
        bounds_length = h.bounds_length;
      },
    )

pub run_found_law : RunFound
run_found_law r x t a h n f =
    subst (λ (v : Term). RowMayFollow r.state.division r.state.start r.notes (RowTerm v) × RunWhole (run_found r x v)) (sym f.is)
    (found_here r x t.coefficient a h n (subst (λ (v : Term). IsQuotientAt r.state x v) f.is f))

-- ---- a front
under_lower : (ord : Order) (front : Option (List ℕ)) (x y : List ℕ) → IsUnder ord front x → AtOrAbove ord y x → IsUnder ord front y
unfolding IsUnder
under_lower ord None x y u a = tt
under_lower ord (Some m) x y u a = at_then_below ord y x m a u

pub run_front_law : RunFront
unfolding run_front
run_front_law r x y a h f =
    let s = r.state in
    let d = s.division in
    let row = row_fronted s x y r.notes a h.whole f.bound f.fits (under_lower d.ord s.front x y f.lower f.no_higher) h.row in (
      row.0,
      record {
        whole = divide_front s x y a h.whole f.bound f.fits;
        row = row.1;
        front_vector = f.fits.vector;
        processed_log = h.processed_log;
        bounds_log = x ∷ h.bounds_log;
        processed_fall = h.processed_fall;
        bounds_fall = log_push d.ord s.front y x (workload d s.q) h.bounds_log f.lower f.no_higher (bound_in_workload s x a h.whole f.bound f.known) h.bounds_fall;
        processed_length = h.processed_length;
        bounds_length = (let e = h.bounds_length in omega (arith, e));
      },
    )
