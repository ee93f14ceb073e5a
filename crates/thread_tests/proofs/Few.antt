-- Few heads of small coefficients fit any sum.
use Rattle.std.proofs.Common.{◌≡◌, ℕ, zero, suc, ◌+◌, ◌*◌, ◌≤◌, ℤ, List, [], ◌∷◌, All, length, get_or, set, map, replicate, refl, sym, ap, ◌∙◌, subst, arith, length-set}
use Rattle.std.specs.Prelude.{unsigned_abs}
use Rattle.std.specs.declared.cmp.Ordering.{Ordering}
use Rattle.std.proofs.lemmas.List.{get_or-set_other}
use Rattle.std.proofs.lemmas.List.Elements.{All-set, All-tail}
use Rattle.sdmp_laws.specs.Order.{Order}
use Rattle.sdmp_laws.specs.Poly.{norm}
use Rattle.sdmp_laws.specs.Limits.{greatest_norm}
use Rattle.sdmp_laws.proofs.Parts.{norm_cons}
use Rattle.whole_laws.specs.Wholes.{head_terms}
use Rattle.canonical_terms.specs.View.{term_of}
use Rattle.canonical_terms.specs.declared.term.TermOf.{TermOf}
use Rattle.ring_heads.specs.declared.head.HeadOf.{HeadOf}
use Rattle.ring_heads.specs.declared.head.HeadOf.TheVariants as head
use Rattle.ring_heads.specs.Heads.{plain_heads, live, missing_at, HeadBelongs, TopFits}
use Rattle.ring_heads.proofs.HeadLemmas.{size_within}
use Rattle.global_heap.proofs.EmitSound.{all_cleared}

module _ {M : Type 0} where
  -- a coefficient of at most 9
  abbrev pub Small : HeadOf M ℤ → Type 0
  Small = HeadBelongs (λ (a : ℤ). unsigned_abs a ≤ 9)

  -- before any head
  pub none_yet : (n k : ℕ) → get_or (replicate {A = HeadOf M ℤ} n head.Missing) k head.Missing ≡ head.Missing
  none_yet zero k = refl
  none_yet (suc n) zero = refl
  none_yet (suc n) (suc k) = none_yet n k

  one_belongs : (h : HeadOf M ℤ) → Small h → HeadBelongs (λ (a : ℤ). unsigned_abs a ≤ greatest_norm) h
  one_belongs head.Missing b = tt
  one_belongs (head.Term t) b = let l : unsigned_abs t.coef ≤ 9 = b in omega arith
  one_belongs head.Ended b = tt

  pub all_belong : (hs : List (HeadOf M ℤ)) → All Small hs → All (HeadBelongs (λ (a : ℤ). unsigned_abs a ≤ greatest_norm)) hs
  all_belong hs small k d l = one_belongs (get_or hs k d) (small k d l)

  -- a term comes to a worker that had no head
  module _ (hs next : List (HeadOf M ℤ)) (w : ℕ) (t : TermOf M ℤ) (is : next ≡ set hs w (head.Term t)) where
    pub put_long : length next ≡ length hs
    put_long = ap (λ (l : List (HeadOf M ℤ)). length l) is ∙ length-set hs w (head.Term t)

    pub put_ahead : ((k : ℕ) → w ≤ k → get_or hs k head.Missing ≡ head.Missing) → (k : ℕ) → w + 1 ≤ k → get_or next k head.Missing ≡ head.Missing
    put_ahead ahead k above = subst (λ (l : List (HeadOf M ℤ)). get_or l k head.Missing ≡ head.Missing) (sym is) (get_or-set_other hs w k (head.Term t) head.Missing (λ e. absurd (omega (arith, e))) ∙ ahead k (omega arith))

    pub put_small : unsigned_abs t.coef ≤ 9 → All Small hs → All Small next
    put_small one small = subst (All Small) (sym is) (All-set Small hs w (head.Term t) one small)

  -- the heads at a monomial go
  pub taken_small : (cmp : M → M → Ordering) (x : M) (hs next : List (HeadOf M ℤ)) → next ≡ map (missing_at cmp x) hs → All Small hs → All Small next
  taken_small cmp x hs next is small = subst (All Small) (sym is) (all_cleared cmp (λ (a : ℤ). unsigned_abs a ≤ 9) x hs small)

  module _ (vector : M → List ℕ) where
    norms : (hs : List (HeadOf M ℤ)) → All Small hs → norm (live vector (λ (a : ℤ). a) hs) ≤ length hs * 9
    unfolding head_terms norm
    norms [] small = omega arith
    norms (head.Missing ∷ hs) small = let i = norms hs (All-tail Small head.Missing hs small) in omega arith
    norms (head.Term t ∷ hs) small =
        let i = norms hs (All-tail Small (head.Term t) hs small) in
        let one : unsigned_abs t.coef ≤ 9 = small 0 head.Missing (omega arith) in
        let n = norm_cons (term_of vector (λ (a : ℤ). a) t) (live vector (λ (a : ℤ). a) hs) in
        omega arith
    norms (head.Ended ∷ hs) small = let i = norms hs (All-tail Small head.Ended hs small) in omega arith

    -- nine of them fit at any monomial
    pub top_fits : (ord : Order) (hs : List (HeadOf M ℤ)) → length hs ≤ 9 → All Small hs → TopFits ord (plain_heads vector (λ (a : ℤ). a) hs)
    top_fits ord hs few small x top =
        let s = size_within x (live vector (λ (a : ℤ). a) hs) in
        let n = norms hs small in
        omega arith
