-- What is read next: the greatest monomial, and where it stands.
use Rattle.std.proofs.Common.{◌≡◌, ◌⊎◌, inl, inr, ℕ, zero, suc, ◌<◌, ◌≤◌, ℤ, true, false, Bool, true≢false, List, [], ◌∷◌, ◌++◌, length, get_or, drop, None, refl, sym, ap, ◌∙◌, subst, arith}
use Rattle.std.specs.declared.cmp.Ordering.TheVariants.{Less}
use Rattle.sdmp_laws.specs.Order.{Order, Below, alike, compare}
use Rattle.sdmp_laws.specs.Poly.{Term, AllBelow, Decreasing}
use Rattle.sdmp_laws.specs.Division.{AllAtOrBelow, AtOrAbove}
use Rattle.sdmp_laws.proofs.OrderLemmas.{Three, is_less, is_equal, is_greater, below_total, alike_self}
use Rattle.sdmp_laws.proofs.CompareLemmas.{compare_less}
use Rattle.sdmp_laws.proofs.NextTerm.{below_at, AllAtOrBelow-above}
use Rattle.sdmp_laws.proofs.Tests.{or_in_left}
use Rattle.whole_laws.specs.Notes.{has}
use Rattle.whole_laws.specs.Wholes.{head_terms}
use Rattle.whole_laws.proofs.NotesLemmas.{has-append_left}
use Rattle.divide_wholes.specs.Wholes.{DivideState}
use Rattle.divide_wholes.specs.Workers.{IsUnreadTop}
use Rattle.dividing_rounds.specs.Stalls.{IsGreatestRead}
use Rattle.dividing_rounds.proofs.WorkloadLemmas.{has-append_right}
use Rattle.ring_heads.specs.Heads.{IsTopOf}
use Rattle.canonical_terms.specs.View.{term_of, sum_of}
use Rattle.canonical_terms.specs.declared.term.TermOf.{TermOf}
use Rattle.divide_merge.specs.Reading.{BeginsAt, IsReadNext, IsGreater}
use Rattle.divide_merge.specs.declared.mark.Next.{Next}

at_append : (ord : Order) (x : List ℕ) (A B : List Term) → AllAtOrBelow ord x A → AllAtOrBelow ord x B → AllAtOrBelow ord x (A ++ B)
unfolding AllAtOrBelow
at_append ord x [] B a b = b
at_append ord x (t ∷ A) B a b = (a.0, at_append ord x A B a.1 b)

-- a list that begins at x and decreases
begins_at : (ord : Order) (x : List ℕ) (A : List Term) → Decreasing ord A → BeginsAt x A → AllAtOrBelow ord x A
unfolding Decreasing AllAtOrBelow
begins_at ord x A d b =
    subst (AllAtOrBelow ord x) (sym b.2)
    (inl b.3, below_at ord x b.1 (subst (λ (v : List ℕ). AllBelow ord v b.1) b.3 (subst (Decreasing ord) b.2 d).0))

begins_has : (x : List ℕ) (A : List Term) → BeginsAt x A → has x A ≡ true
unfolding has
begins_has x A b = ap (has x) b.2 ∙ or_in_left (alike b.0.monomial x) (has x b.1) (subst (λ (v : List ℕ). alike b.0.monomial v ≡ true) b.3 (alike_self b.0.monomial))

-- a monomial and where it stands
pub read_next : {M : Type 0} (vector : M → List ℕ) (s : DivideState) (x : Next M) → Decreasing s.division.ord s.unread
    → (x.unread ≡ true → BeginsAt (vector x.mono) s.unread) → (x.unread ≡ false → AllBelow s.division.ord (vector x.mono) s.unread)
    → (x.headed ≡ true → IsTopOf s.division.ord s.heads (vector x.mono)) → (x.headed ≡ false → AllBelow s.division.ord (vector x.mono) (head_terms s.heads))
    → (x.unread ≡ true) ⊎ (x.headed ≡ true) → IsReadNext vector s x
unfolding IsUnreadTop
read_next vector s x d u nu h nh some = record {
  greatest = (there some, at_append s.division.ord (vector x.mono) s.unread (head_terms s.heads) (left x.unread refl) (right x.headed refl));
  unread = u;
  no_unread = nu;
  headed = h;
  no_head = nh;
}
  where
    there : (x.unread ≡ true) ⊎ (x.headed ≡ true) → has (vector x.mono) (s.unread ++ head_terms s.heads) ≡ true
    there (inl e) = has-append_left (vector x.mono) s.unread (head_terms s.heads) (begins_has (vector x.mono) s.unread (u e))
    there (inr e) = has-append_right (vector x.mono) s.unread (head_terms s.heads) (h e).there

    left : (b : Bool) → x.unread ≡ b → AllAtOrBelow s.division.ord (vector x.mono) s.unread
    left true e = begins_at s.division.ord (vector x.mono) s.unread d (u e)
    left false e = below_at s.division.ord (vector x.mono) s.unread (nu e)

    right : (b : Bool) → x.headed ≡ b → AllAtOrBelow s.division.ord (vector x.mono) (head_terms s.heads)
    right true e = (h e).greatest
    right false e = below_at s.division.ord (vector x.mono) (head_terms s.heads) (nh e)

-- nothing stands anywhere
pub nothing_read : (s : DivideState) → s.unread ≡ [] → head_terms s.heads ≡ [] → IsGreatestRead s None
unfolding IsUnreadTop
nothing_read s u h = ap (λ (A : List Term). A ++ head_terms s.heads) u ∙ h

none_below : (ord : Order) (x : List ℕ) (A : List Term) → A ≡ [] → AllBelow ord x A
unfolding AllBelow
none_below ord x A e = subst (AllBelow ord x) (sym e) tt

-- ---- the ways in which it is found
module _ {M E : Type 0} (vector : M → List ℕ) (value : E → ℤ) (s : DivideState) (d : Decreasing s.division.ord s.unread) where
  -- there is no head
  pub read_unread : (m : M) → BeginsAt (vector m) s.unread → head_terms s.heads ≡ [] → IsReadNext vector s (record { mono = m; unread = true; headed = false })
  read_unread m b h =
      read_next vector s (record { mono = m; unread = true; headed = false }) d (λ e. b) (λ e. absurd (true≢false e)) (λ e. absurd (true≢false (sym e))) (λ e. none_below s.division.ord (vector m) (head_terms s.heads) h) (inl refl)

  -- all is read
  pub read_head : (m : M) → s.unread ≡ [] → IsTopOf s.division.ord s.heads (vector m) → IsReadNext vector s (record { mono = m; unread = false; headed = true })
  read_head m u t =
      read_next vector s (record { mono = m; unread = false; headed = true }) d (λ e. absurd (true≢false (sym e))) (λ e. none_below s.division.ord (vector m) s.unread u) (λ e. t) (λ e. absurd (true≢false e)) (inr refl)

  -- both are there
  pub read_both : (u t : M) (x : Next M) → BeginsAt (vector u) s.unread → IsTopOf s.division.ord s.heads (vector t) → IsGreater vector s.division.ord u t x → IsReadNext vector s x
  read_both u t x b top g =
      read_next vector s x d
      (λ e. subst (λ (v : List ℕ). BeginsAt v s.unread) (sym (g.unread_at e)) b)
      (λ e. AllAtOrBelow-above s.division.ord (vector u) (vector x.mono) s.unread (begins_at s.division.ord (vector u) s.unread d b) (g.unread_below e))
      (λ e. subst (IsTopOf s.division.ord s.heads) (sym (g.head_at e)) top)
      (λ e. AllAtOrBelow-above s.division.ord (vector t) (vector x.mono) (head_terms s.heads) top.greatest (g.head_below e))
      g.some

-- the next term of the dividend is the first of the unread part
pub drop_term : {M E : Type 0} (vector : M → List ℕ) (value : E → ℤ) (ts : List (TermOf M E)) (L : List Term) (i : ℕ) (t : TermOf M E) → sum_of vector value ts ≡ L → i < length ts → t ≡ get_or ts i t → (rest : List Term) × (drop i L ≡ term_of vector value t ∷ rest)
drop_term vector value ts L i t e l is = subst (λ (A : List Term). (rest : List Term) × (drop i A ≡ term_of vector value t ∷ rest)) e (walk ts i l is)
  where
    walk : (ts : List (TermOf _ _)) (i : ℕ) → i < length ts → t ≡ get_or ts i t → (rest : List Term) × (drop i (sum_of vector value ts) ≡ term_of vector value t ∷ rest)
    walk [] i l is = absurd (omega arith)
    walk (u ∷ ts) zero l is = (sum_of vector value ts, ap (λ (w : TermOf _ _). term_of vector value w ∷ sum_of vector value ts) (sym is))
    walk (u ∷ ts) (suc i) l is = walk ts i (omega arith) is

pub drop_at : {M E : Type 0} (vector : M → List ℕ) (value : E → ℤ) (ts : List (TermOf M E)) (L : List Term) (i : ℕ) (t : TermOf M E) → sum_of vector value ts ≡ L → i < length ts → t ≡ get_or ts i t → BeginsAt (vector t.mono) (drop i L)
drop_at vector value ts L i t e l is = let d = drop_term vector value ts L i t e l is in (term_of vector value t, d.0, d.1, refl)

pub drop_all : {M E : Type 0} (vector : M → List ℕ) (value : E → ℤ) (ts : List (TermOf M E)) (L : List Term) (i : ℕ) → sum_of vector value ts ≡ L → length ts ≤ i → drop i L ≡ []
drop_all vector value ts L i e l = ap (drop i) (sym e) ∙ walk ts i l
  where
    walk : (ts : List (TermOf _ _)) (i : ℕ) → length ts ≤ i → drop i (sum_of vector value ts) ≡ []
    walk [] zero l = refl
    walk [] (suc i) l = refl
    walk (u ∷ ts) zero l = absurd (omega arith)
    walk (u ∷ ts) (suc i) l = walk ts i (omega arith)

-- ---- comparison
pub not_less : (ord : Order) (a b : List ℕ) → length a ≡ length b → (compare ord a b ≡ Less → ⊥) → AtOrAbove ord b a
not_less ord a b l n = pick (below_total ord a b l)
  where
    pick : Three (Below ord a b) (a ≡ b) (Below ord b a) → AtOrAbove ord b a
    pick (is_less h) = absurd (n (compare_less ord a b h))
    pick (is_equal q) = inl (sym q)
    pick (is_greater h) = inr h

module _ {M : Type 0} (vector : M → List ℕ) (ord : Order) (u t : M) where
  pub head_greater : Below ord (vector u) (vector t) → IsGreater vector ord u t (record { mono = t; unread = false; headed = true })
  head_greater b = record { unread_at = λ e. absurd (true≢false (sym e)); unread_below = λ e. b; head_at = λ e. refl; head_below = λ e. absurd (true≢false e); some = inr refl }

  pub both_equal : vector u ≡ vector t → IsGreater vector ord u t (record { mono = u; unread = true; headed = true })
  both_equal s = record { unread_at = λ e. refl; unread_below = λ e. absurd (true≢false e); head_at = λ e. s; head_below = λ e. absurd (true≢false e); some = inl refl }

  pub unread_greater : Below ord (vector t) (vector u) → IsGreater vector ord u t (record { mono = u; unread = true; headed = false })
  unread_greater b = record { unread_at = λ e. refl; unread_below = λ e. absurd (true≢false e); head_at = λ e. absurd (true≢false (sym e)); head_below = λ e. b; some = inl refl }
