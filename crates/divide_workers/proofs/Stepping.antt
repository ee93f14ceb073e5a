-- What always holds of a dividing worker stays at each step.
use Rattle.std.proofs.Common.{◌≡◌, ◌≢◌, ℕ, ◌+◌, ◌<◌, ◌≤◌, true, false, List, [], ◌∷◌, ◌++◌, length, Option, Some, None, refl, sym, ap, ◌∙◌, subst, arith, All, IsPermutation, length-append, append_assoc}
use Rattle.std.proofs.lemmas.List.{length_push}
use mathlib.Core.List.{IsPrefix}
use Rattle.sdmp_laws.specs.Order.{◌⋅◌}
use Rattle.sdmp_laws.specs.Poly.{Term, coef, row, AllBelow, lm}
use Rattle.sdmp_laws.specs.Division.{Division}
use Rattle.sdmp_laws.specs.LongDivision.{quotient_list}
use Rattle.sdmp_laws.specs.Limits.{PassesBound}
use Rattle.sdmp_laws.proofs.PlaceLemmas.{length_prefix}
use Rattle.whole_laws.specs.Notes.{TermNote, MarkNote, MayFollow}
use Rattle.divide_wholes.specs.Wholes.{latest_mark}
use Rattle.divide_wholes.specs.Row.{RowNote, RowTerm, RowFront, row_terms, front_after, known_after, RowMayFollow, RowCarryAfter, RowCarry}
use Rattle.divide_wholes.specs.Workers.{WorkerState, IsUnreadTop, worker_rows, worker_script, sum_at}
use Rattle.divide_wholes.proofs.RowLemmas.{row_terms-append, row_terms-front}
use Rattle.divide_wholes.proofs.MarkLemmas.{worker_learn, worker_hand, worker_send, worker_mark}
use Rattle.dividing_rounds.specs.Stalls.{IsLowered}
use Rattle.divide_workers.specs.Fronts.{PlainFront, IsAhead, IsPast, FrontFalls}
use Rattle.divide_workers.specs.Paying.{HasRows}
use Rattle.divide_merge.specs.Names.{RowIdentity}
use Rattle.divide_workers.specs.Views.{WorkerView}
use Rattle.divide_workers.specs.Working.{IsWorking}
use Rattle.divide_workers.proofs.Falling.{IsFrontVector, past_falls}
use Rattle.divide_workers.proofs.Paying.{learn_pays, fall_pays, hand_pays, send_pays, mark_pays, mark_rises}
use Rattle.divide_workers.proofs.Ahead.{ahead_back, same_begin, followed, known_length, ahead_of_term, ahead_of_front, past_is_beyond, front_at_term, front_at_front, falls_lowered, lowered_again}

shorter : {A : Type 0} (xs ys zs : List A) → IsPrefix (xs ++ ys) zs → IsPrefix xs zs
shorter xs ys zs p = (ys ++ p.0, sym (append_assoc xs ys p.0) ∙ p.1)

not_none : {A : Type 0} (x : A) → Some x ≡ None → ⊥
not_none x e = cc e

-- a front that fell with some news, of which it says all
pub record Hears (d : Division) (old : Option PlainFront) (news new : PlainFront) : Type 0 where
  pub old_vector : IsFrontVector d.n old
  pub new_vector : IsFrontVector d.n (Some new)
  pub falls : FrontFalls d.ord old (Some new)
  pub falls_news : FrontFalls d.ord (Some news) (Some new)
  pub says : (later : List Term) → IsAhead d old later → IsAhead d (Some news) later → IsAhead d (Some new) later

-- the strict front at a term
abbrev pub front_of_term : Division → Term → PlainFront
front_of_term d t = record { mono = t.monomial ⋅ lm d.g; is_strict = true }

-- ---- what the row tells
-- the terms that the row told are known
row_known : (lim : ℕ) (v : WorkerView) → IsWorking lim v → v.row.name.start + length (row_terms v.notes) ≤ length v.state.known → IsPrefix (known_after v.state.division v.row.name.start v.notes) (quotient_list v.state.division)
    → length (known_after v.state.division v.row.name.start v.notes) ≤ length v.state.known
row_known lim v w l p =
    let k = length_prefix v.state.known (quotient_list v.state.division) w.whole.knows in
    let e = known_length v.state.division v.row.name.start v.notes (omega (arith, l, k)) in omega (arith, e, l)

pub one_more_term : (notes : List RowNote) (t : Term) → length (row_terms (notes ++ RowTerm t ∷ [])) ≡ length (row_terms notes) + 1
unfolding row_terms
one_more_term notes t = ap (λ (L : List Term). length L) (row_terms-append notes (RowTerm t ∷ [])) ∙ length-append (row_terms notes) (t ∷ [])

-- it learns the next quotient term, which may be known
pub learns : (lim : ℕ) (v : WorkerView) (t : Term) (unread : List Term) (front : PlainFront) (spare : ℕ) → IsWorking lim v → IsPrefix (v.state.known ++ t ∷ []) (quotient_list v.state.division) → (PassesBound v.state.division (v.state.known ++ t ∷ []) → ⊥)
    → IsPermutation (v.state.unread ++ row t (worker_rows v.state)) unread → Hears v.state.division v.front (front_of_term v.state.division t) front
    → IsWorking lim (record v { state = record v.state { known = v.state.known ++ t ∷ []; unread = unread }; front = Some front; spare = spare })
unfolding worker_rows worker_script
learns lim v t unread front spare w i within h hears =
    let d = v.state.division in let l = length_push v.state.known t in record {
      whole = worker_learn v.state t unread w.whole i h;
      fit = w.fit;
      script = w.script;
      row_division = w.row_division;
      within = within;
      ahead = λ later e. hears.says later (ahead_back d v.front (t ∷ []) later (w.ahead (t ∷ later) (sym (append_assoc v.state.known (t ∷ []) later) ∙ e)))
          (ahead_of_term d v.state.known (v.state.known ++ t ∷ []) later t w.fit.accepted i e (omega (arith, l)));
      carried = w.carried;
      lowest = lowered_again d.ord v.front (Some front) (front_after d None v.notes) hears.falls w.lowest;
      fronted = λ n e. not_none front e;
      enough = λ r. let k = w.enough r in omega (arith, k, l);
      paid = learn_pays v.state v.front (Some front) t unread w.paid (λ x. past_falls d (worker_rows v.state) v.front (Some front) x hears.old_vector hears.new_vector hears.falls) h;
    }

-- the row tells a term that it knows
pub hears_term : (lim : ℕ) (v : WorkerView) (t : Term) (front : PlainFront) (count loads spare : ℕ) → IsWorking lim v → RowCarry v.state.division v.row.name.start (v.notes ++ RowTerm t ∷ [])
    → v.row.name.start + length (row_terms v.notes) < length v.state.known → Hears v.state.division v.front (front_of_term v.state.division t) front
    → IsWorking lim (record v { notes = v.notes ++ RowTerm t ∷ []; count = count; loads = loads; front = Some front; spare = spare })
unfolding worker_rows worker_script RowMayFollow
hears_term lim v t front count loads spare w c below hears =
    let d = v.state.division in
    let may = followed d v.row.name.start v.notes (RowTerm t) c in
    let k = one_more_term v.notes t in
    let q = length_prefix v.state.known (quotient_list d) w.whole.knows in
    let n = known_length d v.row.name.start v.notes (omega (arith, below, q)) in record {
      whole = w.whole;
      fit = w.fit;
      script = w.script;
      row_division = w.row_division;
      within = w.within;
      ahead = λ later e. hears.says later (w.ahead later e) (ahead_of_term d (known_after d v.row.name.start v.notes) v.state.known later t w.fit.accepted may.0 e (omega (arith, n, below)));
      carried = c;
      lowest = subst (IsLowered d.ord (Some front.mono)) (sym (front_at_term d v.notes t)) (falls_lowered d.ord (front_of_term d t) (Some front) hears.falls_news);
      fronted = λ m e. not_none front e;
      enough = λ r. omega (arith, k, below);
      paid = fall_pays v.state v.front (Some front) w.paid (λ x. past_falls d (worker_rows v.state) v.front (Some front) x hears.old_vector hears.new_vector hears.falls);
    }

-- the row tells the next term: what it is
pub next_term : (lim : ℕ) (v : WorkerView) (t : Term) → IsWorking lim v → RowCarry v.state.division v.row.name.start (v.notes ++ RowTerm t ∷ []) → v.row.name.start + length (row_terms v.notes) ≡ length v.state.known
    → IsPrefix (v.state.known ++ t ∷ []) (quotient_list v.state.division) × (PassesBound v.state.division (v.state.known ++ t ∷ []) → ⊥)
unfolding RowMayFollow
next_term lim v t w c e =
    let d = v.state.division in let Q = quotient_list d in
    let may = followed d v.row.name.start v.notes (RowTerm t) c in
    let q = length_prefix v.state.known Q w.whole.knows in
    let n = known_length d v.row.name.start v.notes (omega (arith, e, q)) in
    let same : known_after d v.row.name.start v.notes ≡ v.state.known = same_begin (known_after d v.row.name.start v.notes) v.state.known Q (shorter (known_after d v.row.name.start v.notes) (t ∷ []) Q may.0) w.whole.knows (n ∙ e) in
    subst (λ (A : List Term). IsPrefix (A ++ t ∷ []) Q × (PassesBound d (A ++ t ∷ []) → ⊥)) same may

-- the row tells a front
pub hears_front : (lim : ℕ) (v : WorkerView) (m : List ℕ) (front : PlainFront) (count loads spare : ℕ) → IsWorking lim v → HasRows v.state → RowCarry v.state.division v.row.name.start (v.notes ++ RowFront m ∷ [])
    → Hears v.state.division v.front (record { mono = m; is_strict = false }) front → IsPrefix (known_after v.state.division v.row.name.start v.notes) (quotient_list v.state.division)
    → IsWorking lim (record v { notes = v.notes ++ RowFront m ∷ []; count = count; loads = loads; front = Some front; spare = spare })
unfolding worker_rows worker_script RowMayFollow
hears_front lim v m front count loads spare w r c hears i =
    let d = v.state.division in
    let may = followed d v.row.name.start v.notes (RowFront m) c in
    let k : length (row_terms (v.notes ++ RowFront m ∷ [])) ≡ length (row_terms v.notes) = ap (λ (L : List Term). length L) (row_terms-front v.notes m) in
    let n = row_known lim v w (w.enough r) i in record {
      whole = w.whole;
      fit = w.fit;
      script = w.script;
      row_division = w.row_division;
      within = w.within;
      ahead = λ later e. hears.says later (w.ahead later e) (ahead_of_front d v.row.name.start v.notes v.state.known later m may i e n);
      carried = c;
      lowest = subst (IsLowered d.ord (Some front.mono)) (sym (front_at_front d v.notes m)) (falls_lowered d.ord (record { mono = m; is_strict = false }) (Some front) hears.falls_news);
      fronted = λ o e. not_none front e;
      enough = λ s. let a = w.enough s in omega (arith, k, a);
      paid = fall_pays v.state v.front (Some front) w.paid (λ x. past_falls d (worker_rows v.state) v.front (Some front) x hears.old_vector hears.new_vector hears.falls);
    }

-- it takes over a front that holds for the terms to come
pub takes_front : (lim : ℕ) (v : WorkerView) (news front : PlainFront) → IsWorking lim v → ((later : List Term) → v.state.known ++ later ≡ quotient_list v.state.division → IsAhead v.state.division (Some news) later) → Hears v.state.division v.front news front
    → IsWorking lim (record v { front = Some front })
unfolding worker_rows worker_script
takes_front lim v news front w holds hears = record {
  whole = w.whole;
  fit = w.fit;
  script = w.script;
  row_division = w.row_division;
  within = w.within;
  ahead = λ later e. hears.says later (w.ahead later e) (holds later e);
  carried = w.carried;
  lowest = lowered_again v.state.division.ord v.front (Some front) (front_after v.state.division None v.notes) hears.falls w.lowest;
  fronted = λ n e. not_none front e;
  enough = w.enough;
  paid = fall_pays v.state v.front (Some front) w.paid (λ x. past_falls v.state.division (worker_rows v.state) v.front (Some front) x hears.old_vector hears.new_vector hears.falls);
}

-- it goes on with another row, of which it knows no note
pub takes_row : (lim : ℕ) (v : WorkerView) (row : RowIdentity) (count loads : ℕ) (told : List RowNote) → IsWorking lim v → row.name.division ≡ v.state.division → (HasRows v.state → row.name.start ≤ length v.state.known)
    → IsWorking lim (record v { row = row; notes = []; count = count; loads = loads; told = told })
unfolding worker_rows worker_script RowCarryAfter front_after row_terms IsLowered
takes_row lim v row count loads told w division start = record {
  whole = w.whole;
  fit = w.fit;
  script = w.script;
  row_division = division;
  within = w.within;
  ahead = w.ahead;
  carried = tt;
  lowest = tt;
  fronted = w.fronted;
  enough = λ r. let s = start r in omega (arith, s);
  paid = w.paid;
}

-- nothing that it holds changes, but counts of its ends
pub ends_change : (lim : ℕ) (v : WorkerView) (head looks count loads : ℕ) (told : List RowNote) → IsWorking lim v → IsWorking lim (record v { head = head; full_looks = looks; count = count; loads = loads; told = told })
unfolding worker_rows worker_script
ends_change lim v head looks count loads told w = record {
  whole = w.whole;
  fit = w.fit;
  script = w.script;
  row_division = w.row_division;
  within = w.within;
  ahead = w.ahead;
  carried = w.carried;
  lowest = w.lowest;
  fronted = w.fronted;
  enough = w.enough;
  paid = w.paid;
}

-- ---- what it hands out and sends
-- the state alone changes, and in it no known term
record Stays (v : WorkerView) (s : WorkerState) : Type 0 where
  pub division : s.division ≡ v.state.division
  pub workers : s.workers ≡ v.state.workers
  pub worker : s.worker ≡ v.state.worker
  pub known : s.known ≡ v.state.known

hands : (lim : ℕ) (v : WorkerView) (x : List ℕ) (taken unread : List Term) (f : PlainFront) → v.front ≡ Some f → IsFrontVector v.state.division.n (Some f) → IsWorking lim v → v.state.kept ≡ [] → length x ≡ v.state.division.n
    → IsPermutation v.state.unread (taken ++ unread) → All (λ (t : Term). t.monomial ≡ x) taken → AllBelow v.state.division.ord x unread → taken ≢ [] → IsPast v.state.division (worker_rows v.state) v.front x
    → IsWorking lim (record v { state = record v.state { unread = unread; kept = sum_at (coef v.state.division.p v.state.unread x) x } })
unfolding worker_rows worker_script IsFrontVector
hands lim v x taken unread f is vector w none l h at below some past =
    let d = v.state.division in let later = w.whole.knows.0 in
    let a : IsAhead d (Some f) later = subst (λ (o : Option PlainFront). IsAhead d o later) is (w.ahead later w.whole.knows.1) in
    let p : IsPast d (worker_rows v.state) (Some f) x = subst (λ (o : Option PlainFront). IsPast d (worker_rows v.state) o x) is past in record {
      whole = worker_hand v.state x taken unread later f.mono w.fit.accepted w.whole none l h at below w.whole.knows.1 vector (past_is_beyond d (worker_rows v.state) later f x a p);
      fit = w.fit;
      script = w.script;
      row_division = w.row_division;
      within = w.within;
      ahead = w.ahead;
      carried = w.carried;
      lowest = w.lowest;
      fronted = w.fronted;
      enough = w.enough;
      paid = hand_pays v.state v.front x taken unread (coef d.p v.state.unread x) w.paid none h at some past;
    }

-- it hands out its products at x, which is past its front
pub hands_out : (lim : ℕ) (v : WorkerView) (x : List ℕ) (taken unread : List Term) → IsFrontVector v.state.division.n v.front → IsWorking lim v → v.state.kept ≡ [] → length x ≡ v.state.division.n
    → IsPermutation v.state.unread (taken ++ unread) → All (λ (t : Term). t.monomial ≡ x) taken → AllBelow v.state.division.ord x unread → taken ≢ [] → IsPast v.state.division (worker_rows v.state) v.front x
    → IsWorking lim (record v { state = record v.state { unread = unread; kept = sum_at (coef v.state.division.p v.state.unread x) x } })
unfolding IsPast
hands_out lim v x taken unread vector w none l h at below some past = pick v.front refl
  where
    pick : (o : Option PlainFront) → v.front ≡ o → IsWorking lim (record v { state = record v.state { unread = unread; kept = sum_at (coef v.state.division.p v.state.unread x) x } })
    pick None e = absurd (subst (λ (o : Option PlainFront). IsPast v.state.division (worker_rows v.state) o x) e past)
    pick (Some f) e = hands lim v x taken unread f e (subst (IsFrontVector v.state.division.n) e vector) w none l h at below some past

-- it sends the term that it keeps
pub sends_term : (lim : ℕ) (v : WorkerView) (t : Term) (head looks : ℕ) → IsWorking lim v → v.state.kept ≡ t ∷ []
    → IsWorking lim (record v { state = record v.state { kept = []; sent = v.state.sent ++ TermNote t ∷ [] }; head = head; full_looks = looks })
unfolding worker_rows worker_script
sends_term lim v t head looks w one = record {
  whole = (worker_send v.state t w.whole one).1;
  fit = w.fit;
  script = w.script;
  row_division = w.row_division;
  within = w.within;
  ahead = w.ahead;
  carried = w.carried;
  lowest = w.lowest;
  fronted = w.fronted;
  enough = w.enough;
  paid = send_pays v.state v.front t w.paid one;
}

pub may_send_term : (lim : ℕ) (v : WorkerView) (t : Term) → IsWorking lim v → v.state.kept ≡ t ∷ [] → MayFollow (worker_script v.state) v.state.sent (TermNote t)
may_send_term lim v t w one = (worker_send v.state t w.whole one).0

-- it sends a mark that tells something new
pub sends_mark : (lim : ℕ) (v : WorkerView) (top : Option (List ℕ)) (head looks : ℕ) → IsWorking lim v → v.state.kept ≡ [] → IsUnreadTop v.state.division.ord v.state.unread top → (latest_mark v.state.sent ≡ (length v.state.known, top) → ⊥)
    → IsWorking lim (record v { state = record v.state { sent = v.state.sent ++ MarkNote (length v.state.known) top ∷ [] }; head = head; full_looks = looks })
unfolding worker_rows worker_script
sends_mark lim v top head looks w none t n =
    let r = mark_rises v.state v.front top w.paid t n in record {
      whole = (worker_mark v.state top w.whole none t r).1;
      fit = w.fit;
      script = w.script;
      row_division = w.row_division;
      within = w.within;
      ahead = w.ahead;
      carried = w.carried;
      lowest = w.lowest;
      fronted = w.fronted;
      enough = w.enough;
      paid = mark_pays v.state v.front top w.paid t r;
    }

pub may_send_mark : (lim : ℕ) (v : WorkerView) (top : Option (List ℕ)) → IsWorking lim v → v.state.kept ≡ [] → IsUnreadTop v.state.division.ord v.state.unread top → (latest_mark v.state.sent ≡ (length v.state.known, top) → ⊥)
    → MayFollow (worker_script v.state) v.state.sent (MarkNote (length v.state.known) top)
may_send_mark lim v top w none t n = (worker_mark v.state top w.whole none t (mark_rises v.state v.front top w.paid t n)).0
