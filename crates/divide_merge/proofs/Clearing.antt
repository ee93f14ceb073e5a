-- The heads after those at a monomial were taken away.
use Rattle.std.proofs.Common.{◌≡◌, ℕ, ℤ, true, false, Bool, cond, List, [], ◌∷◌, length, map, All, Option, Some, None, refl, sym, ap, ◌∙◌, subst}
use Rattle.std.specs.declared.cmp.Ordering.{Ordering}
use Rattle.std.specs.Ordering.{is_eq}
use Rattle.std.specs.Prelude.{IfSome, IfNone}
use Rattle.std.proofs.lemmas.List.{length-map}
use Rattle.std.proofs.lemmas.List.Elements.{All-nil, All-cons, All-head, All-tail}
use Rattle.sdmp_laws.specs.Order.{Order, Below, alike}
use Rattle.sdmp_laws.specs.Poly.{Term, AllBelow}
use Rattle.sdmp_laws.proofs.OrderLemmas.{order_facts, alike_not}
use Rattle.sdmp_laws.proofs.NextTerm.{at_both}
use Rattle.whole_laws.specs.Wholes.{head_terms, clear_at}
use Rattle.ring_heads.specs.declared.head.HeadOf.{HeadOf}
use Rattle.ring_heads.specs.declared.head.HeadOf.TheVariants as head
use Rattle.canonical_terms.specs.View.{term_of}
use Rattle.canonical_terms.specs.declared.term.TermOf.{TermOf}
use Rattle.ring_heads.specs.Heads.{plain_heads, live, missing_at, HeadBelongs, IsTopOf, IsTopSum}
use Rattle.ring_heads.proofs.HeadLemmas.{cleared_plain}
use Rattle.divide_merge.specs.Inside.{NotEnded}
use Rattle.dividing_rounds.proofs.WorkloadLemmas.{has_nothing}
use Rattle.divide_merge.proofs.OneAnswer.{at_has}

-- where none stands at x
pub clear_none : (ord : Order) (x : List ℕ) (heads : List (Option Term)) → AllBelow ord x (head_terms heads) → clear_at x heads ≡ heads
unfolding clear_at head_terms AllBelow
clear_none ord x [] h = refl
clear_none ord x (None ∷ heads) h = ap (λ (L : List (Option Term)). None ∷ L) (clear_none ord x heads h)
clear_none ord x (Some t ∷ heads) h =
    ap (λ (b : Bool). cond b None (Some t) ∷ clear_at x heads) (alike_not t.monomial x (λ e. (order_facts ord).irreflexive x (subst (λ (v : List ℕ). Below ord v x) e h.0)))
    ∙ ap (λ (L : List (Option Term)). Some t ∷ L) (clear_none ord x heads h.1)

module _ {M E : Type 0} (cmp : M → M → Ordering) (x : M) (P : HeadOf M E → Type 0) (none : P head.Missing) where
  one_missing : (k : HeadOf M E) → P k → P (missing_at cmp x k)
  one_missing head.Missing h = h
  one_missing (head.Term t) h = pick (is_eq (cmp t.mono x))
    where
      pick : (b : Bool) → P (cond b head.Missing (head.Term t))
      pick true = none
      pick false = h
  one_missing head.Ended h = h

  -- what holds of each head, and of none, holds after it
  pub all_missing : (hs : List (HeadOf M E)) → All P hs → All P (map (missing_at cmp x) hs)
  all_missing [] h = All-nil P
  all_missing (k ∷ hs) h = All-cons P (missing_at cmp x k) (map (missing_at cmp x) hs) (one_missing k (All-head P k hs h)) (all_missing hs (All-tail P k hs h))

-- ---- once the heads at the top are taken
module _ {M E : Type 0} (vector : M → List ℕ) (value : E → ℤ) (Belongs : E → Type 0) where
  -- the heads are those before, less those at x
  pub record Clears (x : List ℕ) (hs now : List (HeadOf M E)) : Type 0 where
    pub heads : plain_heads vector value now ≡ clear_at x (plain_heads vector value hs)
    pub long : length now ≡ length hs
    pub belongs : All (HeadBelongs Belongs) now
    pub going : All NotEnded now

  module _ (cmp : M → M → Ordering) (law : (a b : M) → is_eq (cmp a b) ≡ alike (vector a) (vector b)) (ord : Order) (p : ℕ) (x : M) (hs now : List (HeadOf M E)) (top : IsTopOf ord (plain_heads vector value hs) (vector x)) (belong : All (HeadBelongs Belongs) hs) (going : All NotEnded hs) where
    cleared_at : (y : M) → vector y ≡ vector x → now ≡ map (missing_at cmp y) hs → Clears (vector x) hs now
    cleared_at y same e = record {
      heads = ap (plain_heads vector value) e ∙ cleared_plain vector value cmp y law hs ∙ ap (λ (v : List ℕ). clear_at v (plain_heads vector value hs)) same;
      long = ap (λ (ks : List (HeadOf M E)). length ks) e ∙ length-map hs (missing_at cmp y);
      belongs = subst (All (HeadBelongs Belongs)) (sym e) (all_missing cmp y (HeadBelongs Belongs) tt hs belong);
      going = subst (All NotEnded) (sym e) (all_missing cmp y NotEnded tt hs going);
    }

    -- taking the top takes those at x, which is the top
    pub top_cleared : (o : Option (TermOf M E)) → IfNone o (live vector value hs ≡ []) → IfSome o (λ t. IsTopSum ord p (plain_heads vector value hs) (term_of vector value t)) → IfSome o (λ t. now ≡ map (missing_at cmp t.mono) hs) → Clears (vector x) hs now
    top_cleared None none sum heads = absurd (has_nothing (vector x) (live vector value hs) none top.there)
    top_cleared (Some t) none sum heads =
        cleared_at t.mono
        (at_both ord (vector t.mono) (vector x) (at_has ord (vector t.mono) (vector x) (head_terms (plain_heads vector value hs)) sum.top.there top.greatest) (at_has ord (vector x) (vector t.mono) (head_terms (plain_heads vector value hs)) top.there sum.top.greatest))
        heads
