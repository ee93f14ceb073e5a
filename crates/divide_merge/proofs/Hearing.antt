-- What a merge of a division knows of its workers and of what it reads, as contracts see it.
use Rattle.std.proofs.Common.{◌≡◌, ◌↔◌, IsTrue, ℕ, zero, suc, ◌+◌, ◌<◌, ◌≤◌, ℤ, pos, ◌+ℤ◌, neg_ℤ, unsigned_abs, Bool, true, false, true≢false, cond, eqb, nat_eq, nat_lt, List, [], ◌∷◌, length, get_or, drop, map, All, Option, Some, None, is_some, refl, sym, ap, ◌∙◌, subst, arith}
use Rattle.std.proofs.lemmas.List.{length-map}
use Rattle.std.proofs.lemmas.Bool.Decides.{nat_tests}
use Rattle.std.proofs.Math.ListN.{get_or-map}
use Rattle.sdmp_laws.specs.Order.{Order, IsUnder}
use Rattle.sdmp_laws.specs.Ring.{red}
use Rattle.sdmp_laws.specs.Poly.{Term, total, coef, minus, AllBelow, IsPoly}
use Rattle.sdmp_laws.specs.Canonical.{Polynomial}
use Rattle.sdmp_laws.specs.Division.{Division}
use Rattle.sdmp_laws.specs.Limits.{greatest_norm}
use Rattle.sdmp_laws.proofs.Ints.{add_zero, red_zero}
use Rattle.sdmp_laws.proofs.OrderLemmas.{Three, is_less, is_equal, is_greater, numbers}
use Rattle.sdmp_laws.proofs.PolyLemmas.{total_minus}
use Rattle.sdmp_laws.proofs.TermsLemmas.{total_above, coef_head, head_facts, tail_poly}
use Rattle.sdmp_laws.proofs.NextTerm.{at_both}
use Rattle.whole_laws.specs.Notes.{divisor_rows}
use Rattle.whole_laws.specs.Wholes.{head_terms, head_of_worker}
use Rattle.divide_wholes.specs.Wholes.{DivideState, IsCandidate}
use Rattle.dividing_rounds.specs.Found.{read_coef}
use Rattle.dividing_rounds.specs.Stalls.{IsGreatestRead, IsAsked, IsCurrent, IsLow, GoesOn, mark_of}
use Rattle.dividing_rounds.proofs.StallLemmas.{nobody_stuck}
use Rattle.dividing_rounds.proofs.WorkloadLemmas.{has_nothing}
use Rattle.canonical_terms.specs.View.{term_of, sum_of}
use Rattle.canonical_terms.specs.declared.term.TermOf.{TermOf}
use Rattle.term_ring.specs.Names.{reader_name}
use Rattle.ring_heads.specs.Heads.{plain, plain_heads, live, is_missing, size_at, IsTopOf, IsTopSum, TopFits}
use Rattle.ring_heads.specs.declared.head.HeadOf.{HeadOf}
use Rattle.ring_heads.specs.declared.head.HeadOf.TheVariants as head
use Rattle.quotient_row.specs.Spelling.{note_of as row_note_of}
use Rattle.quotient_row.specs.Ends.{published, writer_places}
use Rattle.divide_core.proofs.TakenOut.{first_same}
use Rattle.divide_merge.specs.Names.{first_division}
use Rattle.divide_merge.specs.Merges.{DivideView, free_places}
use Rattle.divide_merge.specs.Inside.{Held, vector_of, NotEnded, divide_state, divide_view, IsLatest, IsDivideMerge}
use Rattle.divide_merge.specs.Reading.{BeginsAt, IsReadNext, IsGreater, IsGreatest, IsLowTop}
use Rattle.divide_merge.specs.Verdicts.{NoneStuck}
use Rattle.divide_merge.specs.declared.mark.Mark.{Mark}
use Rattle.divide_merge.specs.declared.mark.Next.{Next}
use Rattle.divide_merge.proofs.OneAnswer.{at_has}
use Rattle.divide_merge.proofs.Rows.{rows_some, rows_none}
use Rattle.divide_merge.proofs.NextRead.{nothing_read, read_unread, read_head, read_both, drop_at, drop_term, drop_all}
use Rattle.divide_merge.proofs.Overflow.{read_fits}
use Rattle.divide_merge.proofs.Coefficient.{sum_is, sum_fits}
use Rattle.divide_merge.proofs.Bounds.{SoFar, far_goes, low_is}

-- ---- heads
missing_plain : {M E : Type 0} (vector : M → List ℕ) (value : E → ℤ) (k : HeadOf M E) → NotEnded k → (b : Bool) → b ≡ is_missing k → IsTrue b ↔ plain vector value k ≡ None
missing_plain vector value head.Missing n b e = ((λ t. refl), (λ h. e))
missing_plain vector value (head.Term t) n b e = ((λ i. absurd (true≢false (sym i ∙ e))), (λ h. absurd (true≢false (ap (λ (o : Option Term). is_some o) h))))
missing_plain vector value head.Ended n b e = absurd n

-- whether two numbers are equal
test_is : (a b : ℕ) (r : Bool) → r ≡ nat_eq a b → IsTrue r ↔ a ≡ b
test_is a b r e = ((λ t. let f = sym t ∙ e in grind (arith, nat_tests)), (λ q. e ∙ grind (arith, nat_tests)))

one_top : (ord : Order) (hs : List (Option Term)) (x y : List ℕ) → IsTopOf ord hs x → IsTopOf ord hs y → x ≡ y
one_top ord hs x y a b = at_both ord x y (at_has ord x y (head_terms hs) a.there b.greatest) (at_has ord y x (head_terms hs) b.there a.greatest)

-- ---- the unread part
drop_poly : (ord : Order) (p n i : ℕ) (L : List Term) → IsPoly ord p n L → IsPoly ord p n (drop i L)
drop_poly ord p n zero [] h = h
drop_poly ord p n zero (t ∷ L) h = h
drop_poly ord p n (suc i) [] h = h
drop_poly ord p n (suc i) (t ∷ L) h = drop_poly ord p n i L (tail_poly ord p n t L h)

first_coef : (ord : Order) (p n : ℕ) (t : Term) (rest : List Term) → IsPoly ord p n (t ∷ rest) → coef p (t ∷ rest) t.monomial ≡ t.coefficient
unfolding coef
first_coef ord p n t rest h = let f = head_facts ord p n t rest h in coef_head ord p t rest f.1 f.2

begun_coef : (ord : Order) (p n : ℕ) (A : List Term) (m : List ℕ) (t : Term) (rest : List Term) → IsPoly ord p n A → BeginsAt m A → A ≡ t ∷ rest → coef p A m ≡ t.coefficient
begun_coef ord p n A m t rest h b e =
    ap (λ (L : List Term). coef p L m) e
    ∙ ap (λ (v : List ℕ). coef p (t ∷ rest) v) (sym b.3 ∙ ap (λ (u : Term). u.monomial) (first_same b.0 t b.1 rest (sym b.2 ∙ e)))
    ∙ first_coef ord p n t rest (subst (IsPoly ord p n) e h)

none_coef : (ord : Order) (p : ℕ) (A : List Term) (m : List ℕ) → AllBelow ord m A → coef p A m ≡ pos 0
unfolding coef
none_coef ord p A m h = ap (red p) (total_above ord m A h) ∙ red_zero p

without_heads : (ord : Order) (p : ℕ) (A B : List Term) (m : List ℕ) → AllBelow ord m B → coef p A m ≡ coef p (minus A B) m
unfolding coef
without_heads ord p A B m h = sym (ap (red p) (total_minus A B m ∙ ap (λ (b : ℤ). total A m +ℤ neg_ℤ b) (total_above ord m B h) ∙ add_zero (total A m)))

pub no_unread : {M : Type 0} (vector : M → List ℕ) (s : DivideState) (x : Next M) → IsReadNext vector s x → x.unread ≡ false → (z : ℤ) → z ≡ pos 0 → z ≡ coef s.division.p s.unread (vector x.mono)
no_unread vector s x read u z e = e ∙ sym (none_coef s.division.ord s.division.p s.unread (vector x.mono) (read.no_unread u))

pub no_heads : {M : Type 0} (vector : M → List ℕ) (s : DivideState) (x : Next M) → IsReadNext vector s x → x.headed ≡ false → coef s.division.p s.unread (vector x.mono) ≡ read_coef s (vector x.mono)
no_heads vector s x read e = without_heads s.division.ord s.division.p s.unread (head_terms s.heads) (vector x.mono) (read.no_head e)

no_begin : (m : List ℕ) (A : List Term) → BeginsAt m A → A ≡ [] → ⊥
no_begin m A b e = true≢false (ap (λ (L : List Term). elim L as (λ _. Bool) [ [] ↦ false | u ∷ B ↦ true ]) (sym b.2 ∙ e))

module _ {X M E : Type 0} {vector : M → List ℕ} {value : E → ℤ} {belongs : ℕ → E → Type 0} {ord : Order} {n lim p quotient_room rest_room : ℕ} {h : Held X M E} (k : IsDivideMerge vector value belongs ord n lim p quotient_room rest_room h) {v : DivideView} (view : divide_view vector value h ≡ v) where
  abbrev S : DivideState
  S = divide_state vector value h

  abbrev d : Division
  d = first_division (map reader_name h.readers)

  pub count : length h.readers ≡ v.run.state.workers
  count = ap (λ (u : DivideView). u.run.state.workers) view

  pub head_there : (w : ℕ) → w < v.run.state.workers → w < length h.heads
  head_there w l = let e = k.workers.heads_long in let c = count in omega arith

  pub mark_there : (w : ℕ) → w < v.run.state.workers → w < length h.marks
  mark_there w l = let e = k.workers.marks_long in let c = count in omega arith

  pub order_is : v.run.state.division.ord ≡ ord
  order_is = ap (λ (u : DivideView). u.run.state.division.ord) (sym view) ∙ k.made_for.ordered

  pub modulus_is : v.run.state.division.p ≡ p
  modulus_is = ap (λ (u : DivideView). u.run.state.division.p) (sym view) ∙ k.made_for.modulus

  -- ---- a worker
  pub missing_is : (w : ℕ) → w < v.run.state.workers → (b : Bool) → b ≡ is_missing (get_or h.heads w head.Missing) → IsTrue b ↔ head_of_worker v.run.state.heads w ≡ None
  unfolding head_of_worker
  missing_is w l b e =
      subst (λ (u : DivideView). IsTrue b ↔ get_or u.run.state.heads w None ≡ None) view
      (subst (λ (o : Option Term). IsTrue b ↔ o ≡ None) (sym (get_or-map (plain vector value) h.heads w head.Missing))
      (missing_plain vector value (get_or h.heads w head.Missing) (k.workers.not_ended w head.Missing (head_there w l)) b e))

  pub asked_no : (w : ℕ) → (head_of_worker v.run.state.heads w ≡ None → ⊥) → IsTrue false ↔ IsAsked v.run.state w
  asked_no w none = ((λ t. absurd (true≢false (sym t))), (λ a. absurd (none a.no_head)))

  rows_there : (w : ℕ) → w < length h.readers → (b : Bool) → b ≡ nat_lt (cond (eqb w 0) (length h.readers) w) h.divisor.terms → IsTrue b ↔ (divisor_rows d.g (length h.readers) w ≡ [] → ⊥)
  rows_there w l true e = (
    (λ t. rows_some d.g (length h.readers) w l (let f = sym e in let c = k.made_for.divisor_is.terms in grind (arith, nat_tests))),
    (λ i. refl),
  )
  rows_there w l false e = (
    (λ t. absurd (true≢false (sym t))),
    (λ i. absurd (i (rows_none d.g (length h.readers) w l (let f = sym e in let c = k.made_for.divisor_is.terms in grind (arith, nat_tests))))),
  )

  pub asked_is : (w : ℕ) → w < v.run.state.workers → head_of_worker v.run.state.heads w ≡ None → (b : Bool) → b ≡ nat_lt (cond (eqb w 0) (length h.readers) w) h.divisor.terms → IsTrue b ↔ IsAsked v.run.state w
  asked_is w l none b e =
      let r = subst (λ (u : DivideView). IsTrue b ↔ (divisor_rows u.run.state.division.g u.run.state.workers w ≡ [] → ⊥)) view (rows_there w (let c = count in omega arith) b e) in (
        (λ t. record { worker = l; no_head = none; rows = r.0 t }),
        (λ a. r.1 a.rows),
      )

  pub mark_is : (w : ℕ) → w < v.run.state.workers → (m dm : Mark M) → m ≡ get_or h.marks w dm → IsLatest vector m (mark_of v.run.state w)
  mark_is w l m dm e =
      subst (λ (u : DivideView). IsLatest vector m (mark_of u.run.state w)) view
      (subst (λ (i : Mark M). IsLatest vector i (mark_of S w)) (sym e) (k.workers.marks_are w dm (let c = count in omega arith)))

  pub current_is : (w : ℕ) → w < v.run.state.workers → (m dm : Mark M) → m ≡ get_or h.marks w dm → (b : Bool) → b ≡ nat_eq m.known (length h.found) → IsTrue b ↔ IsCurrent v.run.state w
  current_is w l m dm e b t =
      let q : length h.found ≡ length v.run.state.q = sym (length-map h.found (term_of vector value)) ∙ ap (λ (u : DivideView). length u.run.state.q) view in
      let z = mark_is w l m dm e in
      let r = test_is m.known (length h.found) b t in (
        (λ i. sym z.known ∙ r.0 i ∙ q),
        (λ c. r.1 (z.known ∙ c ∙ sym q)),
      )

  pub low_top : (m : Option (List ℕ)) (w : ℕ) → w < v.run.state.workers → (i dm : Mark M) → i ≡ get_or h.marks w dm → IsLowTop ord m (vector_of vector i.top) ↔ IsLow v.run.state m w
  low_top m w l i dm e =
      subst (λ (o : Order). IsLowTop o m (vector_of vector i.top) ↔ IsLow v.run.state m w) order_is
      (low_is v.run.state m w (vector_of vector i.top) (mark_is w l i dm e).top)

  pub front_is : (b : Bool) (m : List ℕ) → IsTrue b ↔ IsUnder ord (vector_of vector h.front) m → IsTrue b ↔ IsUnder ord v.run.state.front m
  front_is b m i = subst (λ (u : DivideView). IsTrue b ↔ IsUnder ord u.run.state.front m) view i

  pub under_is : (m : List ℕ) → IsUnder ord v.run.state.front m ↔ IsUnder v.run.state.division.ord v.run.state.front m
  under_is m = subst (λ (o : Order). IsUnder ord v.run.state.front m ↔ IsUnder o v.run.state.front m) (sym order_is) ((λ u. u), (λ u. u))

  pub due_goes : (i : ℕ) → i < v.run.state.workers → (b c : Option M) (m dm : Mark M) → m ≡ get_or h.marks i dm → SoFar v.run.state i (vector_of vector b) → IsAsked v.run.state i → IsCurrent v.run.state i
      → IsGreatest ord (vector_of vector b) (vector_of vector m.top) (vector_of vector c) → SoFar v.run.state (i + 1) (vector_of vector c)
  due_goes i l b c m dm e f a now g =
      far_goes v.run.state i (vector_of vector b) (vector_of vector c) f a now
      (subst (λ (o : Order). IsGreatest o (vector_of vector b) (mark_of v.run.state i).1 (vector_of vector c)) (sym order_is)
      (subst (λ (t : Option (List ℕ)). IsGreatest ord (vector_of vector b) t (vector_of vector c)) (mark_is i l m dm e).top g))

  -- ---- the row
  pub full_is : (b : Bool) → IsTrue b ↔ length (published h.writer) ≡ writer_places h.writer → IsTrue b ↔ free_places v ≡ 0
  full_is b i =
      let e = length-map (published h.writer) (row_note_of vector value) in
      let r = k.row_room in
      subst (λ (u : DivideView). IsTrue b ↔ free_places u ≡ 0) view ((λ t. let f = i.0 t in omega arith), (λ z. i.1 (omega arith)))

  -- ---- what is read next
  list_is : h.dividend.list ≡ d.f
  list_is = ap (λ (q : Polynomial). q.list) k.made_for.dividend_is

  unread_poly : IsPoly d.ord d.p d.n (drop h.seen h.dividend.list)
  unread_poly = drop_poly d.ord d.p d.n h.seen h.dividend.list (subst (IsPoly d.ord d.p d.n) (sym list_is) k.made_for.fit.dividend.poly)

  top_there : (x : List ℕ) → IsTopOf ord (plain_heads vector value h.heads) x → IsTopOf d.ord (plain_heads vector value h.heads) x
  top_there x t = subst (λ (o : Order). IsTopOf o (plain_heads vector value h.heads) x) (sym k.made_for.ordered) t

  pub nothing_next : (ts : List (TermOf M E)) → sum_of vector value ts ≡ h.dividend.list → length ts ≤ h.seen → live vector value h.heads ≡ [] → IsGreatestRead v.run.state None
  nothing_next ts e l none =
      subst (λ (u : DivideView). IsGreatestRead u.run.state None) view (nothing_read S (drop_all vector value ts h.dividend.list h.seen e l) none)

  pub unread_next : (ts : List (TermOf M E)) (t : TermOf M E) → sum_of vector value ts ≡ h.dividend.list → h.seen < length ts → t ≡ get_or ts h.seen t → live vector value h.heads ≡ []
      → IsReadNext vector v.run.state (record { mono = t.mono; unread = true; headed = false })
  unread_next ts t e l is none =
      subst (λ (u : DivideView). IsReadNext vector u.run.state (record { mono = t.mono; unread = true; headed = false })) view
      (read_unread vector value S unread_poly.decreasing t.mono (drop_at vector value ts h.dividend.list h.seen t e l is) none)

  pub head_next : (ts : List (TermOf M E)) (m : M) → sum_of vector value ts ≡ h.dividend.list → length ts ≤ h.seen → IsTopOf ord (plain_heads vector value h.heads) (vector m)
      → IsReadNext vector v.run.state (record { mono = m; unread = false; headed = true })
  head_next ts m e l top =
      subst (λ (u : DivideView). IsReadNext vector u.run.state (record { mono = m; unread = false; headed = true })) view
      (read_head vector value S unread_poly.decreasing m (drop_all vector value ts h.dividend.list h.seen e l) (top_there (vector m) top))

  pub greater_next : (ts : List (TermOf M E)) (t : TermOf M E) (m : M) (x : Next M) → sum_of vector value ts ≡ h.dividend.list → h.seen < length ts → t ≡ get_or ts h.seen t → IsTopOf ord (plain_heads vector value h.heads) (vector m) → IsGreater vector ord t.mono m x
      → IsReadNext vector v.run.state x
  greater_next ts t m x e l is top g =
      subst (λ (u : DivideView). IsReadNext vector u.run.state x) view
      (read_both vector value S unread_poly.decreasing t.mono m x (drop_at vector value ts h.dividend.list h.seen t e l is) (top_there (vector m) top)
      (subst (λ (o : Order). IsGreater vector o t.mono m x) (sym k.made_for.ordered) g))

  module _ (x : Next M) (read : IsReadNext vector v.run.state x) where
    here : IsReadNext vector S x
    here = subst (λ (u : DivideView). IsReadNext vector u.run.state x) (sym view) read

    -- ---- the unread term there
    pub unread_there : x.unread ≡ true → (ts : List (TermOf M E)) → sum_of vector value ts ≡ h.dividend.list → h.seen < length ts
    unread_there u ts e = pick (numbers h.seen (length ts))
      where
        pick : Three (h.seen < length ts) (h.seen ≡ length ts) (length ts < h.seen) → h.seen < length ts
        pick (is_less l) = l
        pick (is_equal l) = absurd (no_begin (vector x.mono) (drop h.seen h.dividend.list) (here.unread u) (drop_all vector value ts h.dividend.list h.seen e (omega arith)))
        pick (is_greater l) = absurd (no_begin (vector x.mono) (drop h.seen h.dividend.list) (here.unread u) (drop_all vector value ts h.dividend.list h.seen e (omega arith)))

    pub unread_belongs : (ts : List (TermOf M E)) (t : TermOf M E) → All (λ (u : TermOf M E). belongs h.dividend.modulus u.coef) ts → h.seen < length ts → t ≡ get_or ts h.seen t → belongs v.run.state.division.p t.coef
    unread_belongs ts t all l e =
        subst (λ (q : ℕ). belongs q t.coef) (ap (λ (q : Polynomial). q.modulus) k.made_for.dividend_is ∙ sym modulus_is) (subst (λ (u : TermOf M E). belongs h.dividend.modulus u.coef) (sym e) (all h.seen t l))

    pub unread_value : x.unread ≡ true → (ts : List (TermOf M E)) (t : TermOf M E) → sum_of vector value ts ≡ h.dividend.list → h.seen < length ts → t ≡ get_or ts h.seen t
        → value t.coef ≡ coef v.run.state.division.p v.run.state.unread (vector x.mono)
    unread_value u ts t e l is =
        let a = drop_term vector value ts h.dividend.list h.seen t e l is in
        subst (λ (i : DivideView). value t.coef ≡ coef i.run.state.division.p i.run.state.unread (vector x.mono)) view
        (sym (begun_coef d.ord d.p d.n (drop h.seen h.dividend.list) (vector x.mono) (term_of vector value t) a.0 unread_poly (here.unread u) a.1))

    -- ---- the heads there
    pub some_head : x.headed ≡ true → live vector value h.heads ≡ [] → ⊥
    some_head e none = has_nothing (vector x.mono) (head_terms (plain_heads vector value h.heads)) none (here.headed e).there

    top_here : x.headed ≡ true → IsTopOf ord (plain_heads vector value h.heads) (vector x.mono)
    top_here e = subst (λ (o : Order). IsTopOf o (plain_heads vector value h.heads) (vector x.mono)) k.made_for.ordered (here.headed e)

    sum_at_it : x.headed ≡ true → (t : Term) → IsTopSum ord p (plain_heads vector value h.heads) t → t.coefficient ≡ coef p (head_terms (plain_heads vector value h.heads)) (vector x.mono)
    sum_at_it e t s = s.sum ∙ ap (λ (m : List ℕ). coef p (head_terms (plain_heads vector value h.heads)) m) (one_top ord (plain_heads vector value h.heads) t.monomial (vector x.mono) s.top (top_here e))

    unread_here : (u : ℤ) → u ≡ coef v.run.state.division.p v.run.state.unread (vector x.mono) → u ≡ coef p (drop h.seen h.dividend.list) (vector x.mono)
    unread_here u e = e ∙ ap (λ (q : ℕ). coef q v.run.state.unread (vector x.mono)) modulus_is ∙ ap (λ (i : DivideView). coef p i.run.state.unread (vector x.mono)) (sym view)

    pub sum_coef : x.headed ≡ true → (u c : ℤ) (t : Term) → u ≡ coef v.run.state.division.p v.run.state.unread (vector x.mono) → IsTopSum ord p (plain_heads vector value h.heads) t → c ≡ red p (neg_ℤ t.coefficient)
        → red p (u +ℤ c) ≡ read_coef v.run.state (vector x.mono)
    sum_coef e u c t eu s ec =
        subst (λ (i : DivideView). red p (u +ℤ c) ≡ read_coef i.run.state (vector x.mono)) view
        (subst (λ (q : ℕ). red p (u +ℤ c) ≡ coef q (minus (drop h.seen h.dividend.list) (head_terms (plain_heads vector value h.heads))) (vector x.mono)) (sym k.made_for.modulus)
        (sum_is p (drop h.seen h.dividend.list) (head_terms (plain_heads vector value h.heads)) (vector x.mono) u t.coefficient c (unread_here u eu) (sum_at_it e t s) ec))

    module _ (heard : NoneStuck v.run.state (Some (vector x.mono))) where
      candidate : IsCandidate S (vector x.mono)
      unfolding GoesOn
      candidate = (nobody_stuck S (Some (vector x.mono)) k.made_for.fit.accepted k.whole.whole here.greatest (subst (λ (u : DivideView). NoneStuck u.run.state (Some (vector x.mono))) (sym view) heard)).candidate

      fits : p ≡ 0 → unsigned_abs (total (drop h.seen h.dividend.list) (vector x.mono)) + size_at (vector x.mono) (head_terms (plain_heads vector value h.heads)) ≤ greatest_norm
      fits z = read_fits S (vector x.mono) k.made_for.fit.accepted k.whole.whole candidate (k.made_for.modulus ∙ z)

      pub top_fits : x.headed ≡ true → p ≡ 0 → TopFits ord (plain_heads vector value h.heads)
      top_fits e z y top =
          subst (λ (m : List ℕ). size_at m (head_terms (plain_heads vector value h.heads)) ≤ greatest_norm) (one_top ord (plain_heads vector value h.heads) (vector x.mono) y (top_here e) top)
          (let f = fits z in omega arith)

      pub sum_room : x.headed ≡ true → (u c : ℤ) (t : Term) → u ≡ coef v.run.state.division.p v.run.state.unread (vector x.mono) → IsTopSum ord p (plain_heads vector value h.heads) t → c ≡ red p (neg_ℤ t.coefficient)
          → p ≡ 0 → unsigned_abs (u +ℤ c) ≤ greatest_norm
      sum_room e u c t eu s ec z =
          sum_fits p (drop h.seen h.dividend.list) (head_terms (plain_heads vector value h.heads)) (vector x.mono) u t.coefficient c z (unread_here u eu) (sum_at_it e t s) ec (fits z)
