-- The greatest monomial of the heads that were looked at.
use Rattle.std.proofs.Common.{◌≡◌, ◌⊎◌, inl, inr, ℕ, zero, suc, ◌+◌, ◌<◌, ◌≤◌, Bool, true, false, List, [], ◌∷◌, length, get_or, map, Option, Some, None, refl, sym, ap, ◌∙◌, arith, true≢false, below_more}
use Rattle.std.proofs.lemmas.List.{length-map, get_or_default}
use Rattle.std.proofs.Math.ListN.{get_or-map}
use Rattle.std.proofs.lemmas.Cmp.{upto, tied_itself}
use Rattle.std.specs.declared.cmp.Ordering.{Ordering}
use Rattle.std.specs.Ordering.{is_eq, is_gt}
use Rattle.std.specs.Cmp.{IsTotalOrder}
use Rattle.std.specs.Option.{MatchOption}
use Rattle.chained_heap.specs.declared.node.Place.{Place}
use Rattle.chained_heap.specs.declared.node.Place.TheVariants.{Out, In, Taken}
use Rattle.chained_heap.specs.Shape.{place_at, is_at, IsTop, IsEmpty}
use Rattle.ring_heads.specs.declared.head.HeadOf.{HeadOf}
use Rattle.ring_heads.specs.declared.head.HeadOf.TheVariants as head
use Rattle.ring_heads.specs.Places.{place_of, IsHigher}

module _ {M : Type 0} where
  no_place : (m : M) → Out ≡ In m → ⊥
  no_place m e = true≢false (sym (ap (λ (p : Place M). elim p as (λ _. Bool) [ Out ↦ false | In x ↦ true | Taken ↦ false ]) e))

  same_place : (x m : M) → In x ≡ In m → x ≡ m
  same_place x m e = ap (λ (p : Place M). elim p as (λ _. M) [ Out ↦ x | In y ↦ y | Taken ↦ x ]) e

  within : (ps : List (Place M)) (r : ℕ) (m : M) → place_at ps r ≡ In m → r < length ps
  within [] r m e = absurd (no_place m e)
  within (p ∷ ps) zero m e = omega arith
  within (p ∷ ps) (suc r) m e = let i = within ps r m e in omega arith

module _ {M : Type 0} (cmp : M → M → Ordering) where
  -- no row before i is in the heap
  abbrev pub NoneBefore : List (Place M) → ℕ → Type 0
  NoneBefore ps i = (r : ℕ) → r < i → (m : M) → place_at ps r ≡ In m → ⊥

  -- x is the greatest monomial before i
  pub record IsTopBefore (ps : List (Place M)) (i : ℕ) (x : M) : Type 0 where
    pub row : ℕ
    pub here : is_at cmp x (place_at ps row) ≡ true
    pub above : (r : ℕ) → r < i → (m : M) → place_at ps r ≡ In m → is_gt (cmp m x) ≡ false

  abbrev pub TopBefore : List (Place M) → ℕ → Option M → Type 0
  TopBefore ps i None = NoneBefore ps i
  TopBefore ps i (Some x) = IsTopBefore ps i x

  pub top_begins : (ps : List (Place M)) → TopBefore ps 0 None
  top_begins ps r l m e = absurd (omega arith)

  pub none_on : (ps : List (Place M)) (i : ℕ) → place_at ps i ≡ Out → NoneBefore ps i → NoneBefore ps (i + 1)
  none_on ps i out n = below_more (λ r. (m : M) → place_at ps r ≡ In m → ⊥) i n (λ m e. no_place m (sym out ∙ e))

  pub top_pass : (ps : List (Place M)) (i : ℕ) (o : Option M) → place_at ps i ≡ Out → TopBefore ps i o → TopBefore ps (i + 1) o
  top_pass ps i None out t = none_on ps i out t
  top_pass ps i (Some x) out t = record { row = t.row; here = t.here; above = below_more (λ r. (m : M) → place_at ps r ≡ In m → is_gt (cmp m x) ≡ false) i t.above (λ m e. absurd (no_place m (sym out ∙ e))) }

  pub top_on : (total : IsTotalOrder cmp) (ps : List (Place M)) (i : ℕ) (o : Option M) (mono next : M) → place_at ps i ≡ In mono → IsHigher cmp o mono next → TopBefore ps i o → TopBefore ps (i + 1) (Some next)
  top_on total ps i None mono next e h t = record {
    row = i;
    here = ap (is_at cmp next) e ∙ ap (λ (y : M). is_eq (cmp mono y)) h ∙ ap is_eq (tied_itself total mono);
    above = below_more (λ r. (m : M) → place_at ps r ≡ In m → is_gt (cmp m next) ≡ false) i (λ r l m q. absurd (t r l m q))
        (λ m q. ap (λ (y : M). is_gt (cmp y next)) (same_place m mono (sym q ∙ e)) ∙ ap (λ (y : M). is_gt (cmp mono y)) h ∙ ap is_gt (tied_itself total mono));
  }
  top_on total ps i (Some x) mono next e h t = record {
    row = (pick h.2).0;
    here = (pick h.2).1;
    above = below_more (λ r. (m : M) → place_at ps r ≡ In m → is_gt (cmp m next) ≡ false) i (λ r l m q. upto total m x next (t.above r l m q) h.0)
        (λ m q. ap (λ (y : M). is_gt (cmp y next)) (same_place m mono (sym q ∙ e)) ∙ h.1);
  }
    where
      pick : (next ≡ x) ⊎ (next ≡ mono) → (row : ℕ) × (is_at cmp next (place_at ps row) ≡ true)
      pick (inl q) = (t.row, ap (λ (y : M). is_at cmp y (place_at ps t.row)) q ∙ t.here)
      pick (inr q) = (i, ap (is_at cmp next) e ∙ ap (λ (y : M). is_eq (cmp mono y)) q ∙ ap is_eq (tied_itself total mono))

  pub none_ends : (ps : List (Place M)) (i : ℕ) → length ps ≤ i → NoneBefore ps i → IsEmpty ps
  none_ends ps i l n r m e = n r (let w = within ps r m e in omega arith) m e

  pub top_ends : (ps : List (Place M)) (i : ℕ) (o : Option M) → length ps ≤ i → TopBefore ps i o → MatchOption o (IsEmpty ps) (λ x. IsTop cmp ps x)
  top_ends ps i None l t = none_ends ps i l t
  top_ends ps i (Some x) l t = record { row = t.row; here = t.here; above = λ r m e. t.above r (let w = within ps r m e in omega arith) m e }

module _ {M E : Type 0} where
  -- the place of the head i
  pub place_here : (hs : List (HeadOf M E)) (i : ℕ) (h : HeadOf M E) → i < length hs → h ≡ get_or hs i h → place_at (map place_of hs) i ≡ place_of h
  place_here hs i h l at = get_or-map place_of hs i head.Missing ∙ ap place_of (get_or_default hs i head.Missing h l ∙ sym at)

  pub place_term : (hs : List (HeadOf M E)) (i : ℕ) (h : HeadOf M E) (t : _) → i < length hs → h ≡ get_or hs i h → h ≡ head.Term t → place_at (map place_of hs) i ≡ In t.mono
  place_term hs i h t l at is = place_here hs i h l at ∙ ap place_of is

  -- a list of heads is no shorter than that of their places
  pub places_end : (hs : List (HeadOf M E)) (i : ℕ) → length hs ≤ i → length (map place_of hs) ≤ i
  places_end hs i l = let e = length-map hs place_of in omega arith

  pub no_term_place : (h : HeadOf M E) → ((t : _) → h ≡ head.Term t → ⊥) → place_of h ≡ Out
  no_term_place head.Missing n = refl
  no_term_place (head.Term t) n = absurd (n t refl)
  no_term_place head.Ended n = refl
