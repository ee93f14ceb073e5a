-- What is left once the products at the greatest monomial are taken out, as their sum says.
use Rattle.std.proofs.Common.{◌≡◌, ◌≢◌, ℕ, ◌<◌, ◌≤◌, ◌⊎◌, inl, inr, Bool, true, false, cond, List, [], ◌∷◌, ◌++◌, length, drop, ℤ, pos, ◌+ℤ◌, All, refl, sym, ap, ◌∙◌, arith}
use Rattle.std.proofs.lemmas.Bool.{cases_lt}
use Rattle.std.proofs.lemmas.List.Elements.{All-head, All-tail}
use Rattle.std.proofs.Math.ListN.{get_or-eq_default}
use Rattle.sdmp_laws.specs.Order.{Order, alike}
use Rattle.sdmp_laws.specs.Ring.{red, IsReduced}
use Rattle.sdmp_laws.specs.Poly.{Term, row, total, coef, Same, terms}
use Rattle.sdmp_laws.proofs.Ints.{red_add, red_red, add_zero}
use Rattle.sdmp_laws.proofs.OrderLemmas.{alike_self}
use Rattle.sdmp_laws.proofs.PolyLemmas.{total_append}
use Rattle.sdmp_laws.proofs.TermsLemmas.{total_nil, total_cons, total_one, total_above}
use Rattle.chained_heap.specs.declared.node.Place.{Place}
use Rattle.row_merge.specs.Learned.{unread, AreRows, TakesOut}
use Rattle.row_merge.specs.Rows.{reads_of, IsFalling, IsSum}
use Rattle.row_merge.proofs.Places.{read_low}
use Rattle.sdmp_laws.proofs.Permutations.{total_permutation}
use Rattle.row_merge.proofs.Unread.{unread_over, terms_next, terms_skip}

-- no row has read more than all columns
pub within : {M : Type 0} (vector : M → List ℕ) (ord : Order) (x : _) (B A : List Term) (reads : List ℕ) (places : List (Place M)) → AreRows vector ord x B A reads places → (k : ℕ) → reads_of reads k ≤ length B
within vector ord x B A reads places a k = by (cases_lt k (length A))
  where
    by : (k < length A) ⊎ (length A ≤ k) → reads_of reads k ≤ length B
    by (inl h) = read_low vector ord x B A reads places a k h
    by (inr h) = let z : reads_of reads k ≡ 0 = get_or-eq_default reads 0 (omega (arith, h, a.reads_count)) in omega (arith, z)

-- ---- products at one monomial
total_at : (x m : List ℕ) (b : Bool) (T : List Term) → alike x m ≡ b → All (λ u. u.monomial ≡ x) T → total T m ≡ cond b (total T x) (pos 0)
total_at x m true [] e h = total_nil m ∙ sym (total_nil x)
total_at x m false [] e h = total_nil m
total_at x m true (u ∷ T) e h =
    let q = All-head (λ (v : Term). v.monomial ≡ x) u T h in
    let ih = total_at x m true T e (All-tail (λ (v : Term). v.monomial ≡ x) u T h) in
    let a : alike u.monomial m ≡ true = ap (λ v. alike v m) q ∙ e in
    let b : alike u.monomial x ≡ true = ap (λ v. alike v x) q ∙ alike_self x in
    total_cons u T m ∙ (λ i. (total_one u m ∙ ap (λ (c : Bool). cond c u.coefficient (pos 0)) (a ∙ sym b) ∙ sym (total_one u x)) i +ℤ ih i) ∙ sym (total_cons u T x)
total_at x m false (u ∷ T) e h =
    let q = All-head (λ (v : Term). v.monomial ≡ x) u T h in
    let ih = total_at x m false T e (All-tail (λ (v : Term). v.monomial ≡ x) u T h) in
    let a : alike u.monomial m ≡ false = ap (λ v. alike v m) q ∙ e in
    total_cons u T m ∙ (λ i. (total_one u m ∙ ap (λ (c : Bool). cond c u.coefficient (pos 0)) a) i +ℤ ih i)

-- what is taken out adds up to the term
out_same : (ord : Order) (p : ℕ) (F U : List Term) (t : Term) → TakesOut ord p F U t → Same p F (t ∷ U)
unfolding coef
out_same ord p F U t o = record {
  at = λ m.
      ap (red p) (sym (total_permutation m F (o.taken ++ U) o.split) ∙ total_append o.taken U m)
      ∙ red_add p (total o.taken m) (total (t ∷ []) m) (total U m) (total U m) (by m (alike t.monomial m) refl) refl
      ∙ ap (red p) (sym (total_cons t U m));
}
  where
    here : red p (total o.taken t.monomial) ≡ red p t.coefficient
    here =
        ap (red p) (sym (add_zero (total o.taken t.monomial)) ∙ ap (λ (z : ℤ). total o.taken t.monomial +ℤ z) (sym (total_above ord t.monomial U o.below)) ∙ sym (total_append o.taken U t.monomial) ∙ total_permutation t.monomial F (o.taken ++ U) o.split)
        ∙ sym (red_red p (total F t.monomial)) ∙ ap (red p) (sym o.sum)

    by : (m : List ℕ) (b : Bool) → alike t.monomial m ≡ b → red p (total o.taken m) ≡ red p (total (t ∷ []) m)
    by m true e = ap (red p) (total_at t.monomial m true o.taken e o.at) ∙ here ∙ ap (red p) (sym (total_one t m ∙ ap (λ (c : Bool). cond c t.coefficient (pos 0)) e))
    by m false e = ap (red p) (total_at t.monomial m false o.taken e o.at ∙ sym (total_one t m ∙ ap (λ (c : Bool). cond c t.coefficient (pos 0)) e))

pub sum_of_out : (ord : Order) (p n : ℕ) (A B : List Term) (old new : List ℕ) (t : Term) → length t.monomial ≡ n → IsReduced p t.coefficient → TakesOut ord p (unread A old B) (unread A new B) t → IsSum ord p n A B old new t
sum_of_out ord p n A B old new t l r o = record {
  vector = l;
  reduced = r;
  same = out_same ord p (unread A old B) (unread A new B) t o;
  below = o.below;
}

-- ---- the terms of what is left
pub next_of_sum : (ord : Order) (p n lim : ℕ) (A B : List Term) (old new : List ℕ) (t : Term) → IsFalling ord n lim A → IsFalling ord n lim B → IsSum ord p n A B old new t → (t.coefficient ≢ pos 0) → terms ord p (unread A old B) ≡ t ∷ terms ord p (unread A new B)
next_of_sum ord p n lim A B old new t a b s z =
    terms_next ord p n t (unread A old B) (unread A new B) (unread_over n A old B a.vectors b.vectors) (unread_over n A new B a.vectors b.vectors) s.vector s.reduced s.below s.same z

pub skip_of_sum : (ord : Order) (p n lim : ℕ) (A B : List Term) (old new : List ℕ) (t : Term) → IsFalling ord n lim A → IsFalling ord n lim B → IsSum ord p n A B old new t → t.coefficient ≡ pos 0 → terms ord p (unread A old B) ≡ terms ord p (unread A new B)
skip_of_sum ord p n lim A B old new t a b s z =
    terms_skip ord p n t (unread A old B) (unread A new B) (unread_over n A old B a.vectors b.vectors) (unread_over n A new B a.vectors b.vectors) s.same z

pub terms_nil : (ord : Order) (p : ℕ) → terms ord p [] ≡ []
unfolding terms
terms_nil ord p = refl
