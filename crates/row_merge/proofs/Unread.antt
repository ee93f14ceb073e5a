-- The products that rows have left to read.
use Rattle.std.proofs.Common.{◌≡◌, ◌≢◌, ℕ, Bool, true, false, cond, zero, suc, ◌+◌, ◌*◌, ◌≤◌, List, [], ◌∷◌, ◌++◌, length, drop, sum, pos, refl, sym, ap, ap₂, ◌∙◌, arith, length-append, length-drop}
use Rattle.std.proofs.lemmas.Int.{ints}
use Rattle.std.proofs.lemmas.List.Sums.{sum_by-cons}
use Rattle.sdmp_laws.specs.Order.{Order, Below, alike}
use Rattle.sdmp_laws.specs.Ring.{red, IsReduced}
use Rattle.sdmp_laws.specs.Poly.{Term, total, coef, Same, term_times, row, times, Over, AllBelow, IsPoly, terms}
use Rattle.sdmp_laws.proofs.Ints.{red_zero, red_add}
use Rattle.sdmp_laws.proofs.OrderLemmas.{Three, is_less, is_equal, is_greater, below_total, length_times}
use Rattle.sdmp_laws.proofs.TermsLemmas.{total_cons, total_one, total_above, AllBelow-up, below_cons, nothing_below, head_facts, coef_head, cons_poly, terms_poly, terms_same, terms_only, terms_equal}
use Rattle.row_merge.specs.Rows.{reads_of}
use Rattle.row_merge.specs.Learned.{unread}
use Rattle.sdmp_laws.proofs.LongLemmas.{Over-append}
use Rattle.sdmp_laws.proofs.ListLemmas.{length-row}

-- ---- one row
over_row : (n : ℕ) (s : Term) (B : List Term) (r : ℕ) → length s.monomial ≡ n → Over n B → Over n (row s (drop r B))
unfolding Over row term_times
over_row n s [] zero l o = tt
over_row n s [] (suc r) l o = tt
over_row n s (t ∷ B) zero l o = (length_times s.monomial t.monomial (l ∙ sym o.0) ∙ l, over_row n s B zero l o.1)
over_row n s (t ∷ B) (suc r) l o = over_row n s B r l o.1

-- ---- all rows
pub unread_begins : (A : List Term) (reads : List ℕ) (B : List Term) → length reads ≡ length A → ((k : ℕ) → reads_of reads k ≡ 0) → unread A reads B ≡ times A B
unfolding unread times
unread_begins [] reads B l z = refl
unread_begins (s ∷ A) [] B l z = absurd (omega arith)
unread_begins (s ∷ A) (r ∷ reads) B l z =
    ap₂ (λ (x y : List Term). x ++ y) (ap (λ k. row s (drop k B)) (z 0)) (unread_begins A reads B (omega arith) (λ k. z (suc k)))

pub unread_over : (n : ℕ) (A : List Term) (reads : List ℕ) (B : List Term) → Over n A → Over n B → Over n (unread A reads B)
unfolding unread Over
unread_over n [] reads B a b = tt
unread_over n (s ∷ A) [] B a b = tt
unread_over n (s ∷ A) (r ∷ reads) B a b = Over-append n (row s (drop r B)) (unread A reads B) (over_row n s B r a.0 b) (unread_over n A reads B a.1 b)

pub unread_length : (A : List Term) (reads : List ℕ) (B : List Term) → length reads ≡ length A → ((k : ℕ) → reads_of reads k ≤ length B) → sum reads + length (unread A reads B) ≡ length A * length B
unfolding unread
unread_length [] [] B l w = omega arith
unread_length [] (r ∷ reads) B l w = absurd (omega arith)
unread_length (s ∷ A) [] B l w = absurd (omega arith)
unread_length (s ∷ A) (r ∷ reads) B l w =
    omega (arith, sum_by-cons (λ (y : ℕ). y) r reads, length-append (row s (drop r B)) (unread A reads B), length-row s (drop r B), length-drop r B, w 0, unread_length A reads B (omega arith) (λ k. w (suc k)))

-- ---- the terms of what is left
terms_below : (ord : Order) (p n : ℕ) (x : List ℕ) (U : List Term) → length x ≡ n → Over n U → AllBelow ord x U → AllBelow ord x (terms ord p U)
unfolding coef
terms_below ord p n x U l o b = by (terms ord p U) (terms_poly ord p n U o) (terms_same ord p U)
  where
    nothing_at : (m : List ℕ) → Below ord x m → red p (total U m) ≡ pos 0
    nothing_at m h = ap (red p) (total_above ord m U (AllBelow-up ord x m U h b)) ∙ red_zero p

    by : (L : List Term) → IsPoly ord p n L → Same p L U → AllBelow ord x L
    by [] i s = nothing_below ord x
    by (t ∷ L) i s =
        let f = head_facts ord p n t L i in
        let c = sym (coef_head ord p t L f.1 f.2) ∙ s.at t.monomial in
        pick f c (below_total ord t.monomial x (f.0 ∙ sym l))
      where
        pick : (length t.monomial ≡ n) × AllBelow ord t.monomial L × IsReduced p t.coefficient × (t.coefficient ≢ pos 0) → t.coefficient ≡ red p (total U t.monomial) → Three (Below ord t.monomial x) (t.monomial ≡ x) (Below ord x t.monomial) → AllBelow ord x (t ∷ L)
        pick f c (is_less h) = below_cons ord x t L h f.1
        pick f c (is_equal e) = absurd (f.3 (c ∙ ap (λ (m : List ℕ). red p (total U m)) e ∙ ap (red p) (total_above ord x U b) ∙ red_zero p))
        pick f c (is_greater h) = absurd (f.3 (c ∙ nothing_at t.monomial h))

-- t is the sum of what stands above U: the terms begin with t, unless it is zero
pub terms_next : (ord : Order) (p n : ℕ) (t : Term) (F U : List Term) → Over n F → Over n U → length t.monomial ≡ n → IsReduced p t.coefficient → AllBelow ord t.monomial U → Same p F (t ∷ U) → (t.coefficient ≢ pos 0) → terms ord p F ≡ t ∷ terms ord p U
unfolding coef
terms_next ord p n t F U o u l r b s z =
    sym (terms_only ord p n (t ∷ terms ord p U) F o (record {
      canonical = cons_poly ord p n t (terms ord p U) l (terms_below ord p n t.monomial U l u b) r z (terms_poly ord p n U u);
      same = record { at = λ m. more m ∙ sym (s.at m) };
    }))
  where
    more : (m : List ℕ) → red p (total (t ∷ terms ord p U) m) ≡ red p (total (t ∷ U) m)
    more m =
        ap (red p) (total_cons t (terms ord p U) m)
        ∙ red_add p (total (t ∷ []) m) (total (t ∷ []) m) (total (terms ord p U) m) (total U m) refl ((terms_same ord p U).at m)
        ∙ ap (red p) (sym (total_cons t U m))

pub terms_skip : (ord : Order) (p n : ℕ) (t : Term) (F U : List Term) → Over n F → Over n U → Same p F (t ∷ U) → t.coefficient ≡ pos 0 → terms ord p F ≡ terms ord p U
unfolding coef
terms_skip ord p n t F U o u s z =
    terms_equal ord p n F U o u (record { at = λ m. s.at m ∙ ap (red p) (total_cons t U m ∙ omega (arith, ints, total_one t m ∙ none (alike t.monomial m))) })
  where
    none : (b : Bool) → cond b t.coefficient (pos 0) ≡ pos 0
    none true = z
    none false = refl
