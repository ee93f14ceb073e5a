-- What the calls on the rows say, over plain data.
use Rattle.std.proofs.Common.{◌≡◌, ℕ, List, [], ◌∷◌, length, Option, Some, None, ℤ, MatchOption, sym}
use Rattle.std.specs.declared.cmp.Ordering.{Ordering}
use Rattle.std.proofs.lemmas.List.{length-map}
use Rattle.canonical_terms.specs.declared.term.TermOf.{TermOf}
use Rattle.canonical_terms.specs.View.{term_of, sum_of}
use Rattle.sdmp_laws.specs.Order.{Order}
use Rattle.sdmp_laws.specs.Poly.{Term, Over, Decreasing}
use Rattle.chained_heap.specs.declared.node.Place.{Place}
use Rattle.chained_heap.specs.Shape.{IsTop, IsEmpty}
use Rattle.row_merge.specs.Learned.{unread, AreRows, IsGreatest}
use Rattle.row_merge.proofs.Places.{AreOrdered, top_is_greatest, empty_has_none}

module _ {M : Type 0} (vector : M → List ℕ) (ord : Order) (n : ℕ) (cmp : M → M → Ordering) where
  pub top_says : AreOrdered vector ord n cmp → (L rows : List Term) (reads : List ℕ) (places : List (Place M)) → AreRows vector ord None L rows reads places → Decreasing ord rows → Over n rows → Decreasing ord L → Over n L
      → (o : Option M) → MatchOption o (IsEmpty places) (λ x. IsTop cmp places x) → MatchOption o (unread rows reads L ≡ []) (λ x. IsGreatest ord (unread rows reads L) (vector x))
  top_says ordered L rows reads places a d w dl wl None h = empty_has_none vector ord n cmp L rows reads places a d w dl wl h
  top_says ordered L rows reads places a d w dl wl (Some x) h = top_is_greatest vector ord n cmp ordered L rows reads places x a d w dl wl h

pub over_sum : {M E : Type 0} (vector : M → List ℕ) (value : E → ℤ) (n : ℕ) → ((m : M) → length (vector m) ≡ n) → (ts : List (TermOf M E)) → Over n (sum_of vector value ts)
unfolding Over
over_sum vector value n v [] = tt
over_sum vector value n v (t ∷ ts) = (v t.mono, over_sum vector value n v ts)

pub long_sum : {M E : Type 0} (vector : M → List ℕ) (value : E → ℤ) (ts : List (TermOf M E)) → length ts ≡ length (sum_of vector value ts)
long_sum vector value ts = sym (length-map ts (term_of vector value))
